-- `join_shares_call::join_shares` meets its contract. Assumes nothing.
use mathlib.Core.Path.{◌≡◌, refl, sym, ap, ◌∙◌}
use Prim.Native.Nat.{ℕ, ◌*◌, ◌≤◌}
use lib.ListN.{length}
use lib.Seq.{length-take-le}
use borrow.Author.Rules.{rules}
use Rattle.writer.proofs.Laws.{in_front_part}
use Rattle.call_answers.specs.Answers.{joined_shares, JoinSays}
use Rattle.call_answers.proofs.Answering.{put_done, put_err}
use Rattle.call_answers.proofs.Sharing.{shares_fit}
use Rattle.join_shares_call.proofs.join_shares.Goals as goal
use Rattle.join_shares_call.proofs.join_shares.Goals.{In_ok-shares_refusal}

-- what is known where nothing refuses
fit : (c : In_ok-shares_refusal) → let a = c.args in
    (length a.shares.now ≡ a.players * a.value_bytes) × (a.value_bytes ≤ length a.output.now)
fit c =
    let a = c.args in
    shares_fit a.players a.value_bytes (length a.shares.now) (length a.output.now) (sym c.in_ok-shares_refusal.ensures)

pub returns-in_err-shares_refusal : goal.returns-in_err-shares_refusal
unfolding JoinSays
returns-in_err-shares_refusal c = search (rules, put_err)

pub slice_bounds-joined-end : goal.slice_bounds-joined-end
slice_bounds-joined-end c = (fit c).1

pub slice_bounds-joined-end-2 : goal.slice_bounds-joined-end-2
slice_bounds-joined-end-2 c =
    let a = c.args in sym (length-take-le a.value_bytes a.output.now (fit (goal.at.slice_bounds-joined-end-2 c).In_ok-shares_refusal).1)

pub joined-requires : goal.joined-requires
joined-requires c =
    let a = c.args in
    let fits = fit (goal.at.joined-requires c).In_ok-shares_refusal in
    fits.0 ∙ ap (λ (n : ℕ). a.players * n) (sym (length-take-le a.value_bytes a.output.now fits.1))

pub returns : goal.returns
unfolding JoinSays
returns c =
    let a = c.args in
    let w = a.value_bytes in
    let long = length-take-le w a.output.now (fit (goal.at.returns c).In_ok-shares_refusal).1 in
    put_done _ _ _ _ _ (sym c.in_ok-shares_refusal.ensures) refl
    (in_front_part _ c.joined.new.out a.output.now w (c.joined.auto.out ∙ long)
    (c.joined.ensures ∙ ap (λ (n : ℕ). joined_shares a.players n a.shares.now) long))
