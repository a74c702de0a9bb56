-- `deal_grid_rows::put_if` meets its contract. Assumes nothing.
use mathlib.Core.Path.{sym, subst}
use mathlib.Core.Bool.{Bool, cond}
use mathlib.Core.List.{[]}
use Rattle.writer.specs.Written.{Wrote}
use Rattle.writer.proofs.Laws.{wrote_nothing}
use Rattle.deal_grid_rows.proofs.put_if.Goals as goal

pub returns : goal.returns
returns c =
    let a = c.args in
    subst (λ (t : Bool). Wrote a.at (cond t a.seed.now []) a.at a.out.now a.out.now) (sym c.if-held.false) (wrote_nothing a.at a.out.now)
