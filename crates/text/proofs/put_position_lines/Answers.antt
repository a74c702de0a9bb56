-- One line more, and that there is room for it. Assumes nothing.
use mathlib.Core.Path.{refl, sym, subst}
use mathlib.Core.List.{List}
use Prim.Native.Nat.{ℕ, ◌+◌, ◌≤◌}
use native.Mathlib.Omega.{arith}
use lib.ListN.{length}
use Rattle.text.specs.Text.{position_line, position_lines}
use Rattle.writer.proofs.Laws.{wrote_nothing}
use Rattle.text.proofs.Laws.{lines_within, lines_turn}
use Rattle.writer.proofs.Cuts.{part_cut}
use Rattle.text.proofs.put_position_lines.Goals as goal

pub loop-position-init : goal.loop-position-init
unfolding position_lines
loop-position-init c = wrote_nothing _ _

pub put_position_line-next-requires : goal.put_position_line-next-requires
put_position_line-next-requires c =
    let a = c.args in
    let l = c.loop-position in
    subst (λ (v : List ℕ). l.next + length (position_line l.position v) ≤ length l.out)
    (sym (part_cut l.position a.value_bytes _ a.table.now refl))
    (omega (arith, l.invariant.next_is, c.requires.1, lines_within l.position a.positions a.value_bytes a.table.now (omega arith)))

pub loop-position-preserved : goal.loop-position-preserved
loop-position-preserved c =
    let a = c.args in
    let l = c.loop-position in
    lines_turn a.at l.position a.positions a.value_bytes _ a.table.now (omega arith) (part_cut l.position a.value_bytes _ a.table.now refl) c.requires.1
    l.invariant c.put_position_line-next.ensures
