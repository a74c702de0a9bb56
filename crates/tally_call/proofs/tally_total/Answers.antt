-- `tally_call::tally_total` meets its contract. Assumes nothing.
use mathlib.Core.Path.{◌≡◌, refl, sym, ap, ◌∙◌}
use Prim.Native.Nat.{ℕ, ◌*◌}
use native.Mathlib.Omega.{arith}
use lib.ListN.{length, take}
use lib.Seq.{length-take-le}
use Rattle.std.proofs.Common.{rules, Err}
use Rattle.tally.specs.Tallies.{tally_long, entries, TotalSays}
use Rattle.tally.proofs.Numbers.{tally_lent}
use Rattle.call_answers.proofs.Answering.{put_first}
use Rattle.tally_call.proofs.Saying.{no_room, totalled}
use Rattle.tally_call.proofs.tally_total.Goals as goal
use Rattle.tally_call.proofs.tally_total.Goals.{Else-output-entry}

-- there is room for an entry
entry_long : (c : Else-output-entry) → let a = c.args in length (take a.tally.value_bytes a.output.now) ≡ a.tally.value_bytes
entry_long c = length-take-le _ _ (omega arith)

pub returns-in_err-refusal : goal.returns-in_err-refusal
unfolding TotalSays
returns-in_err-refusal c =
    let is : c.from_residual.result ≡ Err c.in_err-refusal.field-0.0 = search rules in
    rw is (put_first _ _ c.in_err-refusal.ensures _ _ _)

pub returns-then-output-entry : goal.returns-then-output-entry
returns-then-output-entry c = no_room _ _ _ c.in_ok-refusal.ensures _ (omega arith) (omega arith)

pub returns : goal.returns
unfolding entries
returns c =
    totalled _ _ _ c.in_ok-refusal.ensures _ _ _ _ _ (omega arith) c.joined.ensures c.joined.auto.out
    (entry_long (goal.at.returns c).Else-output-entry) refl refl (rw c.table_length.ensures refl)

pub slice_bounds-joined-end : goal.slice_bounds-joined-end
slice_bounds-joined-end c = sym (tally_lent _ _ _ c.table_length.ensures c.in_ok-refusal.ensures).1

pub joined-requires : goal.joined-requires
unfolding tally_long
joined-requires c =
    let entry = entry_long (goal.at.joined-requires c).Else-output-entry in
    (tally_lent _ _ _ c.table_length.ensures c.in_ok-refusal.ensures).1 ∙ c.table_length.ensures ∙ ap (λ (n : ℕ). c.args.tally.positions * n) (sym entry)
