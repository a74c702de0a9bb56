-- What Deal tells: the answer is fixed by it, and it has a place exactly where its number is 18, 19 or 20. Assumes nothing.
use mathlib.Core.Path.{◌≡◌, refl, sym, ap, ◌∙◌, subst⁻¹}
use mathlib.Core.Bool.{Bool, true, false, cond}
use mathlib.Core.List.{List, [], ◌∷◌}
use mathlib.Core.Logic.{◌⊎◌, inl, inr, ⊎_elim}
use Prim.Native.Nat.{ℕ, ◌*◌, ◌≤◌, ◌<◌}
use native.Mathlib.Omega.{arith}
use borrow.Author.Tests.{eqb-true, eqb-false}
use lib.Dec.{ltb, eqb}
use lib.ListN.{length, get_or}
use Rattle.grid.specs.Grid.{Board, board, grid_rows, arrays_good}
use Rattle.std.specs.Prelude.{Result, ⊤}
use Rattle.refusal.specs.Refusing.{refusal_number}
use Rattle.refusal.specs.declared.Refusal.{Refusal}
use Rattle.refusal.proofs.Numbers.{number_apart, number_some}
use Rattle.grid.specs.Faults.{Fault, has_place, FirstFault, PlaceIsFirst}
use Rattle.grid.proofs.Faults.{place_is_first}
use Rattle.grid.specs.declared.fault.Fault as found
use Rattle.dealing.specs.Refused.{refused_number}
use Rattle.dealing.specs.declared.DealRefusal.{DealRefusal}
use Rattle.keys.specs.Keys.{Lent, lent, sizes_refusal, lent_fault, deal_refusal, deal_place, key_long, or_else}
use Rattle.keys.proofs.Accepted.{first_fits, next_fits}
use Rattle.keys.proofs.Lending.{sizes_most, fault_placed, small_unplaced, placed_large, accepted_lent}
use Rattle.call_answers.specs.Answers.{Told, told, ToldApart, AnswersToldApart, DealAnswer, deal_answer, DealSays, DealTells}
use Rattle.call_answers.proofs.Putting.{answer_is}

-- THE ANSWER IS FIXED

made : (n g c : ℕ) → Fault
made n g c = record { number = n; grid_row = g; column = c }

same_made : (n g c m h d : ℕ) → n ≡ m → g ≡ h → c ≡ d → made n g c ≡ made m h d
same_made n g c m h d e f k = rw (e, f, k)

same_fault : (f g : Fault) → told (DealAnswer.Fault f) ≡ told (DealAnswer.Fault g) → f ≡ g
unfolding told made
same_fault f g e =
    let place = ap (λ (t : Told). t.place) e in
    same_made _ _ _ _ _ _ (ap (λ (t : Told). t.number) e) (ap (λ (xs : List ℕ). get_or xs 0 0) place) (ap (λ (xs : List ℕ). get_or xs 1 0) place)

pub told_apart : ToldApart
unfolding ToldApart told
told_apart (DealAnswer.Number n) (DealAnswer.Number m) e = ap DealAnswer.Number (ap (λ (t : Told). t.number) e)
told_apart (DealAnswer.Number n) (DealAnswer.Fault g) e =
    let none : ◌≡◌ {A = ℕ} 0 2 = ap (λ (t : Told). length t.place) e in absurd (omega arith)
told_apart (DealAnswer.Fault f) (DealAnswer.Number m) e =
    let none : ◌≡◌ {A = ℕ} 2 0 = ap (λ (t : Told). length t.place) e in absurd (omega arith)
told_apart (DealAnswer.Fault f) (DealAnswer.Fault g) e = ap DealAnswer.Fault (same_fault f g e)

-- the code's answers: no refusal has the number 0, and no two have one
same_number : (n m : ℕ) → DealAnswer.Number n ≡ DealAnswer.Number m → n ≡ m
same_number n m e = cc

same_placed : (f g : Fault) → DealAnswer.Fault f ≡ DealAnswer.Fault g → f ≡ g
same_placed f g e = cc

not_placed : (n : ℕ) (f : Fault) → DealAnswer.Number n ≡ DealAnswer.Fault f → ⊥
not_placed n f e = cc

same_found : (r s : Refusal) (g c h d : ℕ) → r ≡ s → g ≡ h → c ≡ d
    → ◌≡◌ {A = found.Fault} (record { refusal = r; grid_row = g; column = c }) (record { refusal = s; grid_row = h; column = d })
same_found r s g c h d e f k = cc

answers_apart : (x y : Result ⊤ DealRefusal) → deal_answer x ≡ deal_answer y → x ≡ y
answers_apart (Result.Ok u) (Result.Ok v) e = refl
answers_apart (Result.Ok u) (Result.Err (DealRefusal.Plain r)) e = absurd (number_some r (sym (same_number _ _ e)))
answers_apart (Result.Err (DealRefusal.Plain r)) (Result.Ok u) e = absurd (number_some r (same_number _ _ e))
answers_apart (Result.Err (DealRefusal.Plain r)) (Result.Err (DealRefusal.Plain s)) e =
    ap (λ (q : Refusal). Result.Err (DealRefusal.Plain q)) (number_apart r s (same_number _ _ e))
answers_apart (Result.Ok u) (Result.Err (DealRefusal.Fault g)) e = absurd (not_placed _ _ e)
answers_apart (Result.Err (DealRefusal.Plain r)) (Result.Err (DealRefusal.Fault g)) e = absurd (not_placed _ _ e)
answers_apart (Result.Err (DealRefusal.Fault f)) (Result.Ok u) e = absurd (not_placed _ _ (sym e))
answers_apart (Result.Err (DealRefusal.Fault f)) (Result.Err (DealRefusal.Plain r)) e = absurd (not_placed _ _ (sym e))
answers_apart (Result.Err (DealRefusal.Fault f)) (Result.Err (DealRefusal.Fault g)) e =
    let same = same_placed _ _ e in
    ap (λ (h : found.Fault). Result.Err (DealRefusal.Fault h))
    (same_found _ _ _ _ _ _ (number_apart f.refusal g.refusal (ap (λ (h : Fault). h.number) same)) (ap (λ (h : Fault). h.grid_row) same) (ap (λ (h : Fault). h.column) same))

pub answers_told_apart : AnswersToldApart
unfolding AnswersToldApart ToldApart
answers_told_apart x y e = answers_apart x y (told_apart (deal_answer x) (deal_answer y) e)

-- A PLACE EXACTLY WITH 18 TO 20

-- of three numbers, the first that is not 0, or the last
picked : (C : Type 0) (s f e n : ℕ) → n ≡ or_else (or_else s f) e
    → (n ≡ s → (s ≡ 0 → ⊥) → C) → (n ≡ f → (f ≡ 0 → ⊥) → C) → (or_else s f ≡ 0 → n ≡ e → C) → C
picked C s f e n is by_s by_f by_e = go (eqb s 0) refl (eqb f 0) refl
  where
    go : (t : Bool) → eqb s 0 ≡ t → (u : Bool) → eqb f 0 ≡ u → C
    go false h u k =
        let some = eqb-false s 0 h in
        let first = first_fits s f some in
        by_s (is ∙ first_fits (or_else s f) e (λ z. some (sym first ∙ z)) ∙ first) some
    go true h false k =
        let some = eqb-false f 0 k in
        let next = next_fits s f (eqb-true s 0 h) in
        by_f (is ∙ first_fits (or_else s f) e (λ z. some (sym next ∙ z)) ∙ next) some
    go true h true k =
        let none = next_fits s f (eqb-true s 0 h) ∙ eqb-true f 0 k in by_e none (is ∙ next_fits (or_else s f) e none)

-- what comes behind Deal's other numbers has no place
place_kept : (d rest : ℕ) → rest < 18 → has_place (or_else d rest) ≡ has_place d
unfolding or_else
place_kept d rest h = go (eqb d 0) refl
  where
    go : (t : Bool) → eqb d 0 ≡ t → has_place (cond t rest d) ≡ has_place d
    go true e = rw (eqb-true d 0 e) (small_unplaced rest h)
    go false e = refl

-- 9, or nothing
nine_or_none : (t : Bool) (n : ℕ) → n ≡ cond t 9 0 → (n ≡ 9) ⊎ (n ≡ 0)
nine_or_none true n e = inl e
nine_or_none false n e = inr e

below_18 : (n : ℕ) → (n ≡ 9) ⊎ (n ≡ 0) → n < 18
below_18 n h = ⊎_elim (λ e. omega arith) (λ e. omega arith) h

module _ (p n m w a : ℕ) (v cs ss ws : List ℕ) (r : Told) (o z : List ℕ) (tells : DealTells p n m w a v cs ss ws r o z) where
  abbrev on : Board
  on = board p n m w

  abbrev l : Lent
  l = lent a v cs ss ws

  abbrev f : Fault
  f = lent_fault on l

  -- the number is one of 1 to 7, the fault's, or 9 or 0
  number_by : (C : Type 0) → (r.number ≤ 7 → (r.number ≡ 0 → ⊥) → C) → (r.number ≡ f.number → 18 ≤ r.number → C)
      → (deal_refusal on l ≡ 0 → (r.number ≡ 9) ⊎ (r.number ≡ 0) → C) → C
  unfolding DealTells DealSays deal_refusal
  number_by C by_sizes by_fault by_room =
      let short = ltb (length o) (p * key_long on) in
      picked C (sizes_refusal on l) f.number (cond short 9 0) r.number (answer_is _ _ r.number o z tells.1)
      (λ is some. by_sizes (omega (arith, sizes_most on l)) (λ none. some (sym is ∙ none)))
      (λ is some. by_fault is (omega (arith, placed_large f.number (fault_placed on l some))))
      (λ none is. by_room none (nine_or_none short r.number is))

  -- between 7 and 18 there is 9 alone
  pub never_given : (k : ℕ) → 7 < k → k < 18 → (k ≡ 9 → ⊥) → r.number ≡ k → ⊥
  never_given k above under other e =
      number_by ⊥ (λ few some. omega arith) (λ is large. omega arith)
      (λ none room. ⊎_elim (λ nine. other (sym e ∙ nine)) (λ zero. omega arith) room)

  -- and there, and with 0, the arrays are good
  pub none_missed : (k : ℕ) → 7 < k → k < 18 → (r.number ≡ 0) ⊎ (r.number ≡ k) → arrays_good (grid_rows on) 0 on a cs ≡ true
  none_missed k above under h =
      number_by (arrays_good (grid_rows on) 0 on a cs ≡ true) (λ few some. absurd (⊎_elim (λ e. some e) (λ e. omega arith) h))
      (λ is large. absurd (⊎_elim (λ e. omega arith) (λ e. omega arith) h)) (λ none room. (accepted_lent on l none).parities)

  -- a place is told exactly where the number has one
  place_is : r.place ≡ cond (has_place r.number) (f.grid_row ∷ f.column ∷ []) []
  unfolding DealTells DealSays deal_place
  place_is =
      let short = ltb (length o) (p * key_long on) in
      let number : r.number ≡ or_else (deal_refusal on l) (cond short 9 0) = answer_is _ _ r.number o z tells.1 in
      rw (number, place_kept (deal_refusal on l) (cond short 9 0) (below_18 (cond short 9 0) (nine_or_none short (cond short 9 0) refl))) tells.0

  place_long : length r.place ≡ cond (has_place r.number) 2 0
  place_long = ap (λ (xs : List ℕ). length xs) place_is ∙ go (has_place r.number)
    where
      go : (t : Bool) → length {A = ℕ} (cond t (f.grid_row ∷ f.column ∷ []) []) ≡ cond t 2 0
      go true = refl
      go false = refl

  pub no_place : has_place r.number ≡ false → r.place ≡ []
  no_place h = place_is ∙ rw h

  module _ (h : has_place r.number ≡ true) where
    place_there : r.place ≡ f.grid_row ∷ f.column ∷ []
    place_there = place_is ∙ rw h

    pub two_numbers : length r.place ≡ 2
    two_numbers = place_long ∙ rw h

    least : 18 ≤ r.number
    least = placed_large r.number h

    number_is : r.number ≡ f.number
    number_is =
        number_by (r.number ≡ f.number) (λ few some. absurd (omega (arith, least))) (λ is large. is)
        (λ none room. absurd (omega (arith, least, below_18 r.number room)))

    pub first_told : FirstFault on a cs (record { number = r.number; grid_row = get_or r.place 0 0; column = get_or r.place 1 0 })
    unfolding made PlaceIsFirst
    first_told =
        let grid_row = ap (λ (xs : List ℕ). get_or xs 0 0) place_there in
        let column = ap (λ (xs : List ℕ). get_or xs 1 0) place_there in
        subst⁻¹ (λ (g : Fault). FirstFault on a cs g) (same_made _ _ _ _ _ _ number_is grid_row column)
        (place_is_first on a cs (λ none. omega (arith, number_is, least)))

-- a number that is answered without a place has none, and that of a fault has one
long_none : (t : Bool) → ◌≡◌ {A = ℕ} 0 (cond t 2 0) → t ≡ false
long_none true e = absurd (omega arith)
long_none false e = refl

long_two : (t : Bool) → ◌≡◌ {A = ℕ} 2 (cond t 2 0) → t ≡ true
long_two true e = refl
long_two false e = absurd (omega arith)

module _ (p n m w a : ℕ) (v cs ss ws o z : List ℕ) where
  pub plain_unplaced : (k : ℕ) → DealTells p n m w a v cs ss ws (told (DealAnswer.Number k)) o z → has_place k ≡ false
  unfolding told
  plain_unplaced k tells = long_none (has_place k) (place_long p n m w a v cs ss ws _ o z tells)

  -- and its number alone is what Deal says
  pub says_number : (d : DealAnswer) (k : ℕ) → DealTells p n m w a v cs ss ws (told d) o z → k ≡ (told d).number → DealSays p n m w a v cs ss ws k o z
  unfolding DealTells
  says_number d k tells e = rw e tells.1

  pub says_refused : (d : DealRefusal) (k : ℕ) → DealTells p n m w a v cs ss ws (told (deal_answer (Result.Err d))) o z → k ≡ refused_number d →
      DealSays p n m w a v cs ss ws k o z
  unfolding told
  says_refused (DealRefusal.Plain r) k tells e = says_number (DealAnswer.Number (refusal_number r)) k tells e
  says_refused (DealRefusal.Fault f) k tells e = says_number (deal_answer (Result.Err (DealRefusal.Fault f))) k tells e

  pub says_dealt : (u : ⊤) → DealTells p n m w a v cs ss ws (told (deal_answer (Result.Ok u))) o z → DealSays p n m w a v cs ss ws 0 o z
  unfolding told
  says_dealt u tells = says_number (DealAnswer.Number 0) 0 tells refl

  pub faulty_placed : (g : Fault) → DealTells p n m w a v cs ss ws (told (DealAnswer.Fault g)) o z → has_place g.number ≡ true
  unfolding told
  faulty_placed g tells = long_two (has_place g.number) (place_long p n m w a v cs ss ws _ o z tells)
