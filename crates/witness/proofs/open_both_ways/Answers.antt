-- `witness::open_both_ways` meets its contract, by the contracts of Open one and Open all. What the contract says of both returns stands first.
-- Assumes nothing.
use mathlib.Core.Path.{refl}
use native.Mathlib.Omega.{arith}
use Rattle.std.proofs.lemmas.Result.{err_from_is_err_and}
use Rattle.xor.proofs.Laws.{good_by_entries}
use Rattle.refusal.proofs.Numbers.{number_some}
use Rattle.witness.proofs.Showing.{one_refused, both_opened}
use Rattle.witness.proofs.open_both_ways.Goals as goal

pub returns-in_err-open_one : goal.returns-in_err-open_one
returns-in_err-open_one c =
    let told = err_from_is_err_and c.from_residual.result c.from_residual.ensures.1 in
    rw (told.1, told.2) (one_refused _ _ _ _ _ c.in_err-open_one.ensures _ (omega arith) _ (number_some _))

pub returns : goal.returns
returns c =
    let good = good_by_entries c.args.key.now (λ i _. (c.type_inv.key i).fits) in
    both_opened _ _ _ _ _ c.in_ok-open_one.ensures _ (omega arith) _ _ _ good refl
    c.open_all.ensures
