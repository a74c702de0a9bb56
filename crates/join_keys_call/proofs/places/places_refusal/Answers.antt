use mathlib.Core.Path.{◌≡◌}
use Rattle.std.proofs.Common.{rules, Err}
use Rattle.refusal.proofs.Numbers.{number_some}
use Rattle.join_keys_call.proofs.InTurn.{none_passed, turn_refused, turn_passed, all_passed}
use Rattle.join_keys_call.proofs.places.places_refusal.Goals as goal

pub loop-place-init : goal.loop-place-init
loop-place-init c = none_passed _ _ _ _

pub returns-in_err-place_refusal : goal.returns-in_err-place_refusal
returns-in_err-place_refusal c =
    let is : c.from_residual.result ≡ Err c.in_err-place_refusal.field-0.0 = search rules in
    rw is (turn_refused _ _ _ c.loop-place.invariant c.loop-place-test.true c.key_length-long.ensures _ c.in_err-place_refusal.ensures (number_some _))

pub loop-place-preserved : goal.loop-place-preserved
loop-place-preserved c = turn_passed _ _ _ c.loop-place.invariant c.loop-place-test.true c.key_length-long.ensures c.in_ok-place_refusal.ensures

pub returns : goal.returns
returns c = all_passed _ _ _ c.loop-place.invariant c.loop-place-test.false
