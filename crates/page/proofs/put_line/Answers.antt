-- `page::put_line` meets its contract: five places, the cells that hold a value, spaces for those past them, the line feed.
-- Assumes nothing.
use mathlib.Core.Path.{◌≡◌, refl}
use Prim.Native.Nat.{◌+◌, ◌*◌, ◌-◌, ◌≤◌}
use native.Mathlib.Omega.{arith}
use lib.ListN.{length}
use Rattle.digits.specs.Digits.{right_aligned}
use Rattle.digits.proofs.Laws.{aligned_long}
use Rattle.page.specs.Page.{value_cells, line_long}
use Rattle.page.proofs.Laws.{line_first, first_fits, spaces_long, values_long, line_room, line_wrote}
use Rattle.page.proofs.put_line.Goals as goal
use Rattle.page.proofs.put_line.Goals.{After-min-held}

-- the values of a line stand in the table, and its cells have their room
known : (c : After-min-held) → let a = c.args in
    ((8 * a.line + c.min-held.result) * a.value_bytes ≤ length a.table.now)
    × (a.at + 5 + c.min-held.result * (2 * a.value_bytes + 1) + (8 - c.min-held.result) * (2 * a.value_bytes + 1) + 1 ≤ length a.out.now)
known c =
    let a = c.args in
    line_room a.positions a.value_bytes a.line c.min-held.result _ a.at (length a.out.now) a.table.now
    c.requires.0 c.requires.1 c.requires.2 c.min-held.ensures refl

-- five places and the cells are so long
five : (c : After-min-held) → length (right_aligned 5 (8 * c.args.line)) ≡ 5
five c =
    aligned_long 5 (8 * c.args.line) (first_fits c.args.positions c.args.line c.requires.0.positions_few c.requires.1)

cells : (c : After-min-held) → let a = c.args in
    length (value_cells c.min-held.result (8 * a.line) a.value_bytes a.table.now)
    ≡ c.min-held.result * (2 * a.value_bytes + 1)
cells c =
    let a = c.args in
    values_long c.min-held.result (8 * a.line) c.min-held.result a.value_bytes a.table.now (omega arith) (known c).0

pub returns : goal.returns
returns c =
    let a = c.args in
    let spaced = c.put_spaces-next.ensures in
    line_wrote a.positions a.value_bytes a.line _ _ a.table.now c.requires.0 c.requires.1 c.requires.2 c.put_in_five_places-next.ensures
    c.put_values-next.ensures (rw c.cell_length.ensures at spaced) c.put_byte.ensures c.min-held.ensures refl

pub overflow_mul-first : goal.overflow_mul-first
overflow_mul-first c =
    omega (arith, c.requires.0.positions_few, line_first c.args.positions c.args.line c.requires.1)

pub overflow_sub-positions : goal.overflow_sub-positions
overflow_sub-positions c =
    omega (arith, line_first c.args.positions c.args.line c.requires.1)

pub overflow_cast-first : goal.overflow_cast-first
overflow_cast-first c =
    omega (arith, c.requires.0.positions_few, line_first c.args.positions c.args.line c.requires.1)

pub put_in_five_places-next-requires : goal.put_in_five_places-next-requires
unfolding line_long
put_in_five_places-next-requires c =
    (first_fits c.args.positions c.args.line c.requires.0.positions_few c.requires.1, omega (arith, c.requires.2))

pub put_values-next-requires : goal.put_values-next-requires
put_values-next-requires c =
    let number = c.put_in_five_places-next in
    record { stand = (known (goal.at.put_values-next-requires c).After-min-held).0; room = omega (arith, (known (goal.at.put_values-next-requires c).After-min-held).1, number.ensures.next_is, number.auto.out, five (goal.at.put_values-next-requires c).After-min-held) }

pub put_spaces-next-requires : goal.put_spaces-next-requires
put_spaces-next-requires c =
    let values = c.put_values-next in
    let number = c.put_in_five_places-next in
    rw c.cell_length.ensures
    (omega (arith, (known (goal.at.put_spaces-next-requires c).After-min-held).1, five (goal.at.put_spaces-next-requires c).After-min-held, cells (goal.at.put_spaces-next-requires c).After-min-held, number.ensures.next_is, number.auto.out, values.ensures.next_is, values.auto.out))

pub put_byte-requires : goal.put_byte-requires
put_byte-requires c =
    let blank = c.put_spaces-next in
    let wide = c.cell_length in
    let values = c.put_values-next in
    let number = c.put_in_five_places-next in
    let spaced = rw wide.ensures at (spaces_long ((8 - c.min-held.result) * wide.result)) in
    let behind = rw wide.ensures at blank.ensures.next_is in
    omega
    (arith, (known (goal.at.put_byte-requires c).After-min-held).1, five (goal.at.put_byte-requires c).After-min-held, cells (goal.at.put_byte-requires c).After-min-held, number.ensures.next_is, number.auto.out, values.ensures.next_is, values.auto.out, blank.auto.out)
