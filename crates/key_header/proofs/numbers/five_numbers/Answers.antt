-- `key_header::numbers::five_numbers` meets its contract. Assumes nothing.
use mathlib.Core.Bool.{false}
use mathlib.Core.List.{List}
use mathlib.Core.Path.{ap, ◌∙◌}
use Prim.Native.Nat.{ℕ}
use native.Mathlib.Omega.{arith}
use lib.ListN.{length}
use Rattle.std.proofs.lemmas.List.{set-get_or}
use Rattle.key_header.proofs.Reading.{none_read, one_read, all_read, none_more}
use Rattle.key_header.proofs.numbers.five_numbers.Goals as goal

pub loop-value-init : goal.loop-value-init
loop-value-init c = none_read _

-- the value that was lent and not written is as it was
pub returns-in_default : goal.returns-in_default
returns-in_default c =
    let long = length c.args.bytes.now in
    ap (λ (values : List ℕ). record { whole = false; values = values; end = long }) (set-get_or c.loop-value.value-items c.loop-value.value-index 0)
    ∙ none_more _ _ _ _ c.loop-value.invariant (omega (arith, c.loop-value.invariant.long)) c.in_default.ensures

pub loop-value-preserved : goal.loop-value-preserved
loop-value-preserved c =
    one_read _ _ _ _ _ _ c.loop-value.invariant (omega (arith, c.loop-value.invariant.long)) c.in-Some.ensures

pub returns : goal.returns
returns c = all_read _ _ _ _ c.loop-value.invariant (omega (arith, c.loop-value.invariant.long))
