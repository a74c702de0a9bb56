use Rattle.std.proofs.Common.{List, ℕ, ◌+◌, ◌≤◌, length, subst, arith}
use lib.Seq.{take_all}
use Rattle.keys.specs.Keys.{held_seeds}
use Rattle.writer.specs.Written.{Wrote}
use Rattle.deal_grid_rows.proofs.RowBytes.{row_parts, held_none, held_room, held_turn, four_row}
use Rattle.deal_grid_rows.proofs.put_four.Goals as goal
use Rattle.deal_grid_rows.proofs.put_four.Goals.{After-put_byte-next}

-- behind the byte of marks there is room for the seeds
room : (b : After-put_byte-next) → let a = b.args in
    b.put_byte-next.result + length (held_seeds a.player.bit a.array.now a.seeds.now) ≤ length b.put_byte-next.new.out
room b =
    let long = row_parts 1 b.args.player.bit b.args.array.now b.args.seeds.now in
    omega (arith, b.requires.2, b.put_byte-next.ensures.next_is, b.put_byte-next.auto.out)

pub returns : goal.returns
returns c =
    let l = c.loop-column in
    let a = c.args in
    four_row a.at a.player.bit a.array.now a.seeds.now c.requires.0 c.requires.2 c.four_marks.ensures c.put_byte-next.ensures
    (subst (λ (k : List ℕ). Wrote c.put_byte-next.result (held_seeds a.player.bit k a.seeds.now) l.next c.put_byte-next.new.out l.out)
    (take_all l.column a.array.now (omega (arith, c.requires.0))) l.invariant)

pub put_byte-next-requires : goal.put_byte-next-requires
put_byte-next-requires c =
    omega (arith, c.requires.2, row_parts 1 c.args.player.bit c.args.array.now c.args.seeds.now)

pub loop-column-init : goal.loop-column-init
loop-column-init c =
    let a = c.args in
    held_none c.put_byte-next.result a.player.bit a.array.now a.seeds.now c.put_byte-next.new.out (room (goal.at.loop-column-init c).After-put_byte-next)

pub put_column-next-requires : goal.put_column-next-requires
put_column-next-requires c =
    let l = c.loop-column in
    let a = c.args in (
      omega (arith, c.requires.0),
      omega (arith, c.requires.0, c.requires.1),
      held_room c.put_byte-next.result a.player.bit a.array.now a.seeds.now c.put_byte-next.new.out (room (goal.at.put_column-next-requires c).After-put_byte-next) l.column (omega (arith, c.requires.0)) l.invariant,
    )

pub loop-column-preserved : goal.loop-column-preserved
loop-column-preserved c =
    let l = c.loop-column in
    let a = c.args in
    held_turn c.put_byte-next.result a.player.bit a.array.now a.seeds.now c.put_byte-next.new.out (room (goal.at.loop-column-preserved c).After-put_byte-next) l.column (omega (arith, c.requires.0)) l.invariant c.put_column-next.ensures
