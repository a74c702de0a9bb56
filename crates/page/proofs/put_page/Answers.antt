-- One line more, and that there is room for it. Assumes nothing.
use mathlib.Core.Path.{◌≡◌, subst}
use Prim.Native.Nat.{ℕ, ◌<◌}
use native.Mathlib.Omega.{arith}
use Rattle.writer.specs.Written.{Wrote}
use Rattle.writer.specs.InARow.{in_a_row}
use Rattle.writer.proofs.Laws.{wrote_nothing}
use Rattle.writer.proofs.Cuts.{part_within}
use Rattle.page.specs.Page.{page_line, page_lines, page, line_long, page_long}
use Rattle.page.proofs.Laws.{lines_turn, lines_long}
use Rattle.page.proofs.put_page.Goals as goal

pub returns : goal.returns
unfolding page
returns c =
    let a = c.args in
    let l = c.loop-line in
    let all : l.line ≡ page_lines a.positions = omega (arith, c.page_lines-line-end.ensures) in
    subst (λ (k : ℕ). Wrote 0 (in_a_row k 0 (λ j. page_line a.positions a.value_bytes a.table.now j)) l.next a.out.now l.out)
    all l.invariant

pub loop-line-preserved : goal.loop-line-preserved
loop-line-preserved c =
    let a = c.args in
    let l = c.loop-line in
    lines_turn a.positions a.value_bytes l.line a.table.now c.requires.0 (omega (arith, c.page_lines-line-end.ensures)) c.requires.1
    l.invariant c.put_line-next.ensures

pub loop-line-init : goal.loop-line-init
unfolding in_a_row
loop-line-init c = wrote_nothing _ _

pub put_line-next-requires : goal.put_line-next-requires
unfolding page_long
put_line-next-requires c =
    let a = c.args in
    let l = c.loop-line in
    let before : l.line < page_lines a.positions = omega (arith, c.page_lines-line-end.ensures) in
    let long = lines_long a.positions a.value_bytes l.line a.table.now c.requires.0 (omega arith) in
    let room = part_within l.line (page_lines a.positions) (line_long a.value_bytes) before in
    (c.requires.0, before, omega (arith, c.requires.1, l.invariant.next_is))
