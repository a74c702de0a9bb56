-- The numbers of Write page: the chain of 2, 4, 7 and 9, and what is known where none fits. Assumes nothing.
use mathlib.Core.Path.{◌≡◌, refl}
use mathlib.Core.Bool.{not}
use mathlib.Core.List.{List}
use Prim.Native.Nat.{ℕ, ◌*◌, ◌≤◌, ◌<◌}
use native.Mathlib.Omega.{arith}
use borrow.Author.Tests.{eq-eqb, le-ltb, lt-ltb, eqb-true, ltb-false, not-false}
use lib.Dec.{eqb, ltb}
use lib.ListN.{length}
use Rattle.std.specs.Prelude.{Result}
use Rattle.writer.specs.Written.{in_front}
use Rattle.refusal.specs.Refusing.{refusal_number}
use Rattle.refusal.specs.declared.Refusal.{Refusal}
use Rattle.grid.specs.Grid.{positions_fit, value_fits}
use Rattle.grid.proofs.Refusing.{In, Out, in_range}
use Rattle.keys.proofs.Accepted.{passed}
use Rattle.page.specs.Page.{page, page_long, Pageable}
use Rattle.call_answers.specs.Answers.{answer_told, page_refusal, PageSays}
use Rattle.call_answers.proofs.Answering.{put_done, put_err, says_err, says_ok}

module _ (n w l o : ℕ) where
  pub page_4 : In 1 n 65536 → Out 1 w 16 → 4 ≡ page_refusal n w l o
  unfolding page_refusal
  page_4 positions bytes = simp (positions, bytes)

  pub page_9 : In 1 n 65536 → In 1 w 16 → l ≡ n * w → o < page_long n w → 9 ≡ page_refusal n w l o
  unfolding page_refusal
  page_9 positions bytes long room = simp (positions, bytes, eq-eqb l (n * w) long, lt-ltb o (page_long n w) room)

  pub page_0 : In 1 n 65536 → In 1 w 16 → l ≡ n * w → page_long n w ≤ o → 0 ≡ page_refusal n w l o
  unfolding page_refusal
  page_0 positions bytes long room = simp (positions, bytes, eq-eqb l (n * w) long, le-ltb o (page_long n w) room)

-- what is left where none fits
pub page_fits : (n w o : ℕ) (ts : List ℕ) → page_refusal n w (length ts) o ≡ 0 → Pageable n w ts × (page_long n w ≤ o)
unfolding page_refusal
page_fits n w o ts h =
    let positions = passed (not (positions_fit n)) 2 _ (λ t e. omega arith) h in
    let bytes = passed (not (value_fits w)) 4 _ (λ t e. omega arith) positions.1 in
    let long = passed (not (eqb (length ts) (n * w))) 7 _ (λ t e. omega arith) bytes.1 in
    let room = passed (ltb o (page_long n w)) 9 0 (λ t e. omega arith) long.1 in (
      record {
        positions_few = (in_range 1 n 65536 (not-false (positions_fit n) positions.0)).1;
        bytes_few = (in_range 1 w 16 (not-false (value_fits w) bytes.0)).1;
        whole = eqb-true (length ts) (n * w) (not-false (eqb (length ts) (n * w)) long.0);
      },
      ltb-false o (page_long n w) room.0,
    )

-- WHAT A CALL SAYS

module _ (n w : ℕ) (ts o : List ℕ) where
  pub page_refused : (r : Refusal) → refusal_number r ≡ page_refusal n w (length ts) (length o) → PageSays n w ts (answer_told (Result.Err r)) o o
  unfolding PageSays
  page_refused r e = (says_err r _ e _, put_err r _ e _ o)

  pub page_given : (written : ℕ) (z : List ℕ) → page_refusal n w (length ts) (length o) ≡ 0 → written ≡ page_long n w → z ≡ in_front (page n w ts) o →
      PageSays n w ts (answer_told (Result.Ok written)) o z
  unfolding PageSays
  page_given written z h long text = (says_ok _ _ written h long, put_done _ _ 0 o z h refl text)
