-- What a call of Write page that is answered by 0 was lent and leaves. Assumes nothing.
use mathlib.Core.Path.{◌≡◌, sym, subst, ◌∙◌}
use mathlib.Core.Bool.{cond}
use mathlib.Core.List.{List}
use Prim.Native.Nat.{ℕ, ◌≤◌}
use native.Mathlib.Omega.{arith}
use lib.Dec.{eqb}
use lib.ListN.{length}
use Rattle.writer.specs.Written.{in_front}
use Rattle.page.specs.Page.{page, page_long, Pageable}
use Rattle.page.proofs.Laws.{page_is_so_long}
use Rattle.call_answers.specs.Answers.{Answer, says, page_refusal, PageSays}
use Rattle.call_answers.proofs.Putting.{put}
use Rattle.call_answers.proofs.Paging.{page_fits}

pub record WrittenPage (n w : ℕ) (ts : List ℕ) (r : Answer) (out out_now : List ℕ) : Type 0 where
  pub fits : Pageable n w ts
  pub told : r.value ≡ page_long n w
  pub long : length (page n w ts) ≡ r.value
  pub room : r.value ≤ length out
  pub now : out_now ≡ in_front (page n w ts) out

pub page_written : (n w : ℕ) (ts : List ℕ) (r : Answer) (out out_now : List ℕ) → PageSays n w ts r out out_now → r.refusal ≡ 0 →
    WrittenPage n w ts r out out_now
unfolding PageSays says
page_written n w ts r out out_now h none =
    let number = page_refusal n w (length ts) (length out) in
    let zero_it_is : number ≡ 0 = sym h.0.0 ∙ none in
    let fit = page_fits n w (length out) ts zero_it_is in
    let value : r.value ≡ page_long n w = subst (λ (m : ℕ). r.value ≡ cond (eqb m 0) (page_long n w) 0) zero_it_is h.0.1 in
    let long = page_is_so_long n w ts fit.0 in
    record {
      fits = fit.0;
      told = value;
      long = long ∙ sym value;
      room = omega (arith, fit.1);
      now = put number (page n w ts) r.refusal out out_now h.1 zero_it_is;
    }
