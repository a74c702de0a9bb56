-- What a C function leaves behind a pointer, from what the operation under it answers. Assumes nothing.
use mathlib.Core.Path.{◌≡◌, refl, sym, subst, subst⁻¹, ◌∙◌}
use mathlib.Core.Bool.{Bool, true, false, cond}
use mathlib.Core.List.{List, [], ◌∷◌}
use Prim.Native.Nat.{ℕ}
use borrow.Author.Tests.{ne_eqb}
use lib.Dec.{eqb}
use Rattle.xor.specs.Xor.{bytes_good}
use Rattle.keys.specs.Held.{held_seed_place, HeldAt, PlaceHolds}
use Rattle.keys.proofs.Holding.{place_holds}
use Rattle.keys.specs.Keys.{key_refusal}
use Rattle.key_header.specs.Answers.{Heading, KeyCheck, header_numbers, checked_by}
use Rattle.key_header.proofs.Reading.{refused_says}
use Rattle.key_check.specs.Checked.{checked_as, place_of}
use Rattle.key_check.proofs.Checks.{check_tells}
use Rattle.std.specs.Prelude.{Option, Result, ⊤}
use Rattle.std.specs.Option.{unwrap_or}
use Rattle.refusal.specs.Refusing.{refusal_number}
use Rattle.refusal.specs.declared.Refusal.{Refusal}
use Rattle.refusal.proofs.Numbers.{number_some}
use Rattle.grid.specs.declared.fault.Fault as found
use Rattle.dealing.specs.declared.DealRefusal.{DealRefusal}
use Rattle.call_answers.specs.Answers.{Answer, answer_told, says, told, deal_answer, DealTells}
use Rattle.call_answers.proofs.Telling.{plain_unplaced, faulty_placed}
use Rattle.nosingginger_c.specs.C.{Through, ValuePut, DealThrough, CheckSays, HeldSays}

pub value_kept : (n v o : ℕ) → (n ≡ 0 → ⊥) → ValuePut n v n o o
unfolding ValuePut
value_kept n v o h = (refl, rw (ne_eqb n 0 h))

pub value_written : (n v o : ℕ) → n ≡ 0 → ValuePut n v 0 o v
unfolding ValuePut
value_written n v o h = rw h (refl, refl)

-- an answer is its number and its value
both_fields : (a : Answer) (n v : ℕ) → a.refusal ≡ n → a.value ≡ v → a ≡ record { refusal = n; value = v }
both_fields a n v e f =
    subst (λ (m : ℕ). a ≡ record { refusal = m; value = v }) e (subst (λ (k : ℕ). a ≡ record { refusal = a.refusal; value = k }) f refl)

-- whatever is said of an answer is said through the pointer where its value was put
pub said_through : (A : Answer → Type 0) (n v : ℕ) (a : Answer) (r o z : ℕ) → A a → says n v a → ValuePut a.refusal a.value r o z → Through A r o z
unfolding says ValuePut Through
said_through A n v a r o z said s p =
    let number : a.refusal ≡ r = sym p.0 in
    let value : z ≡ cond (eqb r 0) a.value o = subst (λ (m : ℕ). z ≡ cond (eqb m 0) a.value o) number p.1 in
    let none : a.value ≡ cond (eqb r 0) v 0 = subst (λ (m : ℕ). a.value ≡ cond (eqb m 0) v 0) (sym s.0 ∙ number) s.1 in
    let both = go (eqb r 0) none value in
    (subst (λ (b : Answer). A b) (both_fields a r (cond (eqb r 0) z 0) number both.0) said, both.1)
  where
    go : (t : Bool) → a.value ≡ cond t v 0 → z ≡ cond t a.value o → (a.value ≡ cond t z 0) × (z ≡ cond t z o)
    go true e f = (sym f, refl)
    go false e f = (e, f)

-- the code's answer is a number and a value in each of its cases
answer_says : (a : Result ℕ Refusal) → says (answer_told a).refusal (answer_told a).value (answer_told a)
unfolding says
answer_says (Result.Ok v) = (refl, refl)
answer_says (Result.Err refusal) = (refl, rw (ne_eqb (refusal_number refusal) 0 (number_some refusal)) refl)

pub answer_through : (A : Answer → Type 0) (a : Result ℕ Refusal) (r o z : ℕ) → A (answer_told a) →
    ValuePut (answer_told a).refusal (answer_told a).value r o z → Through A r o z
answer_through A a r o z said put = said_through A _ _ (answer_told a) r o z said (answer_says a) put

-- what Deal answers, with the place of a fault behind the pointer
module _ (p n m w a : ℕ) (v cs ss ws o z f : List ℕ) where
  pub deal_done : (u : ⊤) → DealTells p n m w a v cs ss ws (told (deal_answer (Result.Ok u))) o z → DealThrough p n m w a v cs ss ws 0 o z f f
  unfolding DealThrough told
  deal_done u tells = (tells, refl)

  pub deal_plain : (d : DealRefusal) (r : Refusal) (k : ℕ) → d ≡ DealRefusal.Plain r → k ≡ refusal_number r →
      DealTells p n m w a v cs ss ws (told (deal_answer (Result.Err d))) o z → DealThrough p n m w a v cs ss ws k o z f f
  unfolding DealThrough told
  deal_plain d r k is e tells =
      let plain = subst (λ (x : DealRefusal). DealTells p n m w a v cs ss ws (told (deal_answer (Result.Err x))) o z) is tells in
      rw (e, plain_unplaced p n m w a v cs ss ws o z (refusal_number r) plain) (plain, refl)

  pub deal_placed : (d : DealRefusal) (g : found.Fault) (k : ℕ) → d ≡ DealRefusal.Fault g → k ≡ refusal_number g.refusal →
      DealTells p n m w a v cs ss ws (told (deal_answer (Result.Err d))) o z → DealThrough p n m w a v cs ss ws k o z f (g.grid_row ∷ g.column ∷ [])
  unfolding DealThrough told
  deal_placed d g k is e tells =
      let placed = subst (λ (x : DealRefusal). DealTells p n m w a v cs ss ws (told (deal_answer (Result.Err x))) o z) is tells in
      rw (e, faulty_placed p n m w a v cs ss ws o z (record { number = refusal_number g.refusal; grid_row = g.grid_row; column = g.column }) placed) (placed, refl)

pub check_refused : (ks o : List ℕ) (n : ℕ) → KeyCheck.Refused n ≡ checked_by (key_refusal ks) ks → CheckSays ks n o o
unfolding CheckSays checked_as
check_refused ks o n e =
    let says = refused_says ks n _ e in
    let none : (n ≡ 0 → ⊥) = λ z. says.1 (says.0 ∙ z) in
    rw (ne_eqb n 0 none) (check_tells ks _ e, refl)

pub check_accepted : (ks o z : List ℕ) (h : Heading) → KeyCheck.Accepted h ≡ checked_by (key_refusal ks) ks
    → z ≡ header_numbers h.header → CheckSays ks 0 o z
unfolding CheckSays checked_as
check_accepted ks o z h e f = rw f (check_tells ks _ e, refl)

-- the place that the operation tells, and what stands there
pub held_told : (ks : List ℕ) (g j r : ℕ) → bytes_good ks ≡ true → r ≡ held_seed_place ks g j → HeldSays ks g j r
unfolding PlaceHolds
held_told ks g j r good e =
    record { place_is = e; stands = subst⁻¹ (λ (place : ℕ). HeldAt ks g j place) e (place_holds ks g j good) }

-- which is 0 where there is none
pub told_place : (place : Option ℕ) → unwrap_or place 0 ≡ place_of place
told_place Option.None = refl
told_place (Option.Some p) = refl
