-- How an operation's answer is shown: what a refusal says, what an accepted call says, and the chain of numbers before either.
-- Assumes nothing.
use mathlib.Core.Path.{◌≡◌, refl, sym, ◌∙◌}
use mathlib.Core.List.{List}
use Prim.Native.Nat.{ℕ, zero, suc}
use borrow.Author.Tests.{ne_eqb}
use Rattle.std.specs.Prelude.{Result}
use Rattle.refusal.specs.Refusing.{refusal_number}
use Rattle.refusal.specs.declared.Refusal.{Refusal}
use Rattle.refusal.proofs.Numbers.{number_some}
use Rattle.keys.specs.Keys.{or_else}
use Rattle.keys.proofs.Accepted.{first_fits}
use Rattle.call_answers.specs.Answers.{PutSays, answer_told, says}
use Rattle.writer.specs.Written.{in_front}

-- WHAT A CALL SAYS

module _ (n : ℕ) (bs : List ℕ) (r : ℕ) (o z : List ℕ) where
  pub put_refused : (n ≡ 0 → ⊥) → r ≡ n → z ≡ o → PutSays n bs r o z
  unfolding PutSays
  put_refused = go n
    where
      go : (n : ℕ) → (n ≡ 0 → ⊥) → r ≡ n → z ≡ o → PutSays n bs r o z
      go zero h e f = absurd (h refl)
      go (suc n) h e f = (e, f)

  pub put_done : n ≡ 0 → r ≡ 0 → z ≡ in_front bs o → PutSays n bs r o z
  unfolding PutSays
  put_done h e f = rw h (e, f)

-- a refusal by the number that the chain comes to
pub put_number : (n m : ℕ) (bs o : List ℕ) → n ≡ m → (m ≡ 0 → ⊥) → PutSays n bs m o o
put_number n m bs o e h = put_refused n bs m o o (λ z. h (sym e ∙ z)) (sym e) refl

module _ (r : Refusal) (n : ℕ) (e : refusal_number r ≡ n) where
  due : n ≡ 0 → ⊥
  due z = number_some r (e ∙ z)

  -- of the code's refusals none has the number 0
  pub put_err : (bs o : List ℕ) → PutSays n bs (refusal_number r) o o
  put_err bs o = put_refused n bs (refusal_number r) o o due e refl

  -- the first of two numbers, as that of a key that Check key refuses
  pub put_first : (rest : ℕ) (bs o : List ℕ) → PutSays (or_else n rest) bs (refusal_number r) o o
  put_first rest bs o = put_number _ (refusal_number r) bs o (first_fits n rest due ∙ sym e) (number_some r)

  pub says_err : (v : ℕ) → says n v (answer_told (Result.Err r))
  unfolding says
  says_err v = rw (ne_eqb n 0 due) (e, refl)

pub says_ok : (n v given : ℕ) → n ≡ 0 → given ≡ v → says n v (answer_told (Result.Ok given))
unfolding says
says_ok n v given h e = rw h (refl, e)
