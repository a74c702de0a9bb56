-- The chain of a key's refusals: the header's own, 12, 13. What each test answers, and what the answer tells. Assumes nothing.
use mathlib.Core.Path.{◌≡◌, refl, sym, ◌∙◌}
use mathlib.Core.Bool.{Bool, true, false, not, cond}
use mathlib.Core.List.{List, []}
use Prim.Native.Nat.{ℕ, ◌<◌}
use native.Mathlib.Omega.{arith}
use borrow.Author.Tests.{eq-eqb, ne_eqb, eqb-true, not-true, not-false}
use lib.Dec.{eqb}
use lib.ListN.{length, drop}
use Rattle.grid.specs.Grid.{grid_rows}
use Rattle.grid.specs.Code.{board_of}
use Rattle.grid.proofs.Facts.{board_in}
use Rattle.keys.specs.Keys.{head_in, head_refusal, key_long, marks_good, key_refusal}
use Rattle.keys.proofs.Accepted.{first_fits, next_fits, head_fine}
use Rattle.key_header.specs.Answers.{KeyCheck, header_of, header_numbers, heading_in, heading_told, checked_by}
use Rattle.key_header.specs.declared.header.Heading.{Heading}
use Rattle.key_header.proofs.Reading.{Says, refused_by, refused_says, heading_same, accepted_says, accepted_by}
use Rattle.key_lengths.proofs.Lengths.{long_is}
use Rattle.key_check.specs.Checked.{head_numbers, checked_as, key_checked}

module _ (ks : List ℕ) where
  -- the header's own
  pub refused_header : (n : ℕ) → KeyCheck.Refused n ≡ checked_by (head_refusal (head_in ks)) ks → KeyCheck.Refused n ≡ checked_by (key_refusal ks) ks
  unfolding key_refusal
  refused_header n e =
      let says = refused_says ks n _ e in
      refused_by ks n _ (sym says.0 ∙ sym (first_fits _ _ says.1)) (λ z. says.1 (says.0 ∙ z))

  module _ (h : Heading) (read : KeyCheck.Accepted (heading_told h) ≡ checked_by (head_refusal (head_in ks)) ks) where
    says : Says (head_refusal (head_in ks)) ks h
    says = accepted_says ks h _ read

    chain : key_refusal ks ≡ cond (not (eqb (length ks) (key_long (board_of h.board)))) 12
        (cond (marks_good (grid_rows (board_of h.board)) (board_of h.board) (drop h.end ks)) 0 13)
    unfolding key_refusal
    chain =
        let own = head_fine (head_in ks) says.none in
        let few = (board_in (head_in ks).board own.1).players_most in
        let small : (head_in ks).player < 128 = omega (arith, own.2) in
        next_fits (head_refusal (head_in ks)) _ says.none ∙ rw (long_is (head_in ks).board (head_in ks).player small, says.board_is, says.rest_is)

    module _ (long : ℕ) (k : long ≡ key_long (board_of h.board)) where
      pub refused_length : (length ks ≡ long → ⊥) → KeyCheck.Refused 12 ≡ checked_by (key_refusal ks) ks
      refused_length z = refused_by ks 12 _ (sym (chain ∙ rw (← k, ne_eqb (length ks) long z))) (λ q. omega arith)

      module _ (same : length ks ≡ long) (part : List ℕ) (cut : part ≡ drop h.end ks)
          (marks : Bool) (seen : marks ≡ marks_good (grid_rows (board_of h.board)) (board_of h.board) part)
        where
          chain_marks : key_refusal ks ≡ cond marks 0 13
          chain_marks = chain ∙ rw (← k, eq-eqb (length ks) long same, ← cut, ← seen)

          pub refused_marks : not marks ≡ true → KeyCheck.Refused 13 ≡ checked_by (key_refusal ks) ks
          refused_marks z = refused_by ks 13 _ (sym (chain_marks ∙ rw (not-true marks z))) (λ q. omega arith)

          pub accepted_key : not marks ≡ false → KeyCheck.Accepted (heading_told h) ≡ checked_by (key_refusal ks) ks
          accepted_key z = accepted_by ks h _ (chain_marks ∙ rw (not-false marks z)) (heading_same ks h _ read)

-- WHAT THE ANSWER TELLS: the number, and where it is 0 the header's numbers
pub check_tells : (ks : List ℕ) (answer : KeyCheck) → answer ≡ checked_by (key_refusal ks) ks → checked_as answer ≡ key_checked ks
unfolding checked_as key_checked head_numbers checked_by heading_in header_of header_numbers
check_tells ks answer e = rw e (go (eqb (key_refusal ks) 0) refl)
  where
    go : (t : Bool) → eqb (key_refusal ks) 0 ≡ t →
        checked_as (cond t (KeyCheck.Accepted (heading_in ks)) (KeyCheck.Refused (key_refusal ks))) ≡ record { refusal = key_refusal ks; numbers = cond t (head_numbers (head_in ks)) [] }
    go true zero_is = let none : key_refusal ks ≡ 0 = eqb-true (key_refusal ks) 0 zero_is in rw none
    go false some = refl
