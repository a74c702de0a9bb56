-- `tally_call::tally_look_up` meets its contract. Assumes nothing.
use mathlib.Core.Path.{◌≡◌, refl, ◌∙◌}
use Prim.Native.Nat.{◌+◌, ◌*◌, ◌≤◌}
use native.Mathlib.Nat.{mul-le-mul_right}
use native.Mathlib.Omega.{arith}
use lib.ListN.{length}
use Rattle.std.proofs.Common.{rules, Err}
use Rattle.writer.proofs.Laws.{written_front}
use Rattle.tally.specs.Tallies.{LookUpSays}
use Rattle.tally.proofs.Numbers.{tally_small}
use Rattle.call_answers.proofs.Answering.{put_first}
use Rattle.tally_call.proofs.Saying.{no_entry, looked_up, entry_part}
use Rattle.tally_call.proofs.tally_look_up.Goals as goal
use Rattle.tally_call.proofs.tally_look_up.Goals.{Else-tally-position}

-- where neither the tally's own numbers nor the position refuses, the entry stands in the table
inside : (c : Else-tally-position) → let a = c.args in let end = a.position * a.tally.value_bytes + a.tally.value_bytes in
    (end ≤ 1048576) × (end ≤ length a.table.now)
inside c =
    let t = c.args.tally in
    let fits = tally_small t _ c.in_ok-refusal.ensures in
    let room = mul-le-mul_right t.value_bytes c.if-tally-position.false in (omega (arith, fits.0), omega (arith, fits.1))

pub returns-in_err-refusal : goal.returns-in_err-refusal
unfolding LookUpSays
returns-in_err-refusal c =
    let is : c.from_residual.result ≡ Err c.in_err-refusal.field-0.0 = search rules in
    rw is (put_first _ _ c.in_err-refusal.ensures _ _ _)

pub returns-then-tally-position : goal.returns-then-tally-position
returns-then-tally-position c = no_entry _ _ _ c.in_ok-refusal.ensures _ _ (omega arith) (omega arith)

pub returns-then-output-entry : goal.returns-then-output-entry
returns-then-output-entry c = no_entry _ _ _ c.in_ok-refusal.ensures _ _ (omega arith) (omega arith)

pub slice_bounds-put-end : goal.slice_bounds-put-end
slice_bounds-put-end c = (inside (goal.at.slice_bounds-put-end c).Else-tally-position).1

pub returns : goal.returns
returns c =
    looked_up _ _ _ c.in_ok-refusal.ensures _ _ _ (omega arith) (c.put.ensures.now_is ∙ written_front _ c.args.output.now)
    (entry_part c.args.tally.value_bytes c.args.table.now _ _ refl)
