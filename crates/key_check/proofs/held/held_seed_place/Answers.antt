-- `key_check::held::held_seed_place` meets its contract: each way out is a law of Places. Assumes nothing.
use mathlib.Core.Path.{sym, ap, ◌∙◌}
use mathlib.Core.Bool.{true, not}
use Prim.Native.Nat.{ℕ, ◌*◌, ◌≤◌, ◌<◌}
use mathlib.Core.Path.{◌≡◌}
use native.Mathlib.Omega.{arith}
use borrow.Author.Tests.{not-true, not-false}
use Rattle.xor.specs.Xor.{bytes_good}
use Rattle.xor.proofs.Laws.{good_by_entries}
use Rattle.keys.specs.Keys.{key_refusal}
use Rattle.keys.specs.Held.{holds}
use Rattle.keys.proofs.Holding.{nowhere}
use Rattle.key_header.proofs.Reading.{Says, accepted_says}
use Rattle.key_check.proofs.Places.{row_short, header_short, seed_short, no_key, no_row, no_column, holds_mark, seed_place}
use Rattle.key_check.proofs.held.held_seed_place.Goals as goal
use Rattle.key_check.proofs.held.held_seed_place.Goals.{In-Ok, After-mark-marked, After-stride}

-- what is known of an accepted key
accepted : (c : In-Ok) → Says (key_refusal c.args.key.now) c.args.key.now c.in-Ok.heading
accepted c = accepted_says _ c.in-Ok.heading _ c.in-Ok.ensures

good : (c : In-Ok) → bytes_good c.args.key.now ≡ true
good c = good_by_entries _ (λ i _. (c.type_inv.key i).fits)

below : {x r y : ℕ} → r ≡ y → x < r → x ≤ y
below e h = omega arith

-- where the grid row begins does not overflow
row_room : (c : After-stride) → c.args.grid_row * c.stride.result ≤ 132096
row_room c =
    rw c.stride.ensures
    (row_short _ _ 0 _ (accepted_says _ c.in-Ok.heading _ c.in-Ok.ensures) (below c.grid_rows.ensures c.if-grid_rows-row.false))

-- the mark decides
seen : (c : After-mark-marked) → holds c.args.key.now c.args.grid_row c.args.column ≡ c.mark-marked.result
seen c =
    let key = accepted_says _ c.in-Ok.heading _ c.in-Ok.ensures in
    let bytes = good_by_entries _ (λ i _. (c.type_inv.key i).fits) in
    holds_mark _ _ _ _ key _ c.grid_rows.ensures c.if-grid_rows-row.false _ c.columns-columns.ensures c.if-columns-place.false bytes _ c.stride.ensures _
    c.part_from-part.ensures _ c.mark-marked.ensures

pub returns-in_default : goal.returns-in_default
returns-in_default c = let none = no_key _ _ _ _ c.in_default.ensures in record { place = nowhere _ _ _ none; held = sym none }

pub returns-then-grid_rows-row : goal.returns-then-grid_rows-row
returns-then-grid_rows-row c =
    let none = no_row _ _ _ _ (accepted (goal.at.returns-then-grid_rows-row c).In-Ok) _ c.grid_rows.ensures c.if-grid_rows-row.true in
    record { place = nowhere _ _ _ none; held = sym none }

pub returns-then-columns-place : goal.returns-then-columns-place
returns-then-columns-place c =
    let none =
    no_column _ _ _ _ (accepted (goal.at.returns-then-columns-place c).In-Ok) _ c.grid_rows.ensures c.if-grid_rows-row.false _ c.columns-columns.ensures
    c.if-columns-place.true in
    record { place = nowhere _ _ _ none; held = sym none }

pub overflow_mul-from : goal.overflow_mul-from
overflow_mul-from c = omega (arith, row_room c)

pub overflow_add-from : goal.overflow_add-from
overflow_add-from c =
    let at = (goal.at.overflow_add-from c).In-Ok in
    omega (arith, row_room (goal.at.overflow_add-from c).After-stride, header_short _ 0 0 _ (accepted at) (good at))

pub returns-then-not-marked : goal.returns-then-not-marked
returns-then-not-marked c =
    let none = seen (goal.at.returns-then-not-marked c).After-mark-marked ∙ not-true _ (ap not c.if-not-marked.true) in
    record { place = nowhere _ _ _ none; held = sym none }

pub overflow_add-result : goal.overflow_add-result
overflow_add-result c =
    let at = (goal.at.overflow_add-result c).In-Ok in
    omega (
      arith,
      row_room (goal.at.overflow_add-result c).After-stride,
      header_short _ 0 0 _ (accepted at) (good at),
      seed_short _ 0 _ _ (accepted at) _ _ c.seed_from.ensures (below c.columns-columns.ensures c.if-columns-place.false),
    )

pub returns : goal.returns
returns c =
    let at = (goal.at.returns c).In-Ok in
    let unmarked = ap not c.if-not-marked.false in
    record {
      place =
          seed_place _ _ _ _ (accepted at) _ c.grid_rows.ensures c.if-grid_rows-row.false _ c.columns-columns.ensures c.if-columns-place.false (good at) _
          c.stride.ensures _ c.part_from-part.ensures _ c.mark-marked.ensures _ unmarked c.seed_from.ensures;
      held = sym (seen (goal.at.returns c).After-mark-marked ∙ not-false _ unmarked);
    }
