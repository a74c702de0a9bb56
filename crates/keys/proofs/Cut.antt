-- A list that is cut: a number stands in three bytes and a header in fifteen, so that a cut behind those changes none of them. Assumes nothing.
use mathlib.Core.Path.{◌≡◌, refl, sym, ap, ◌∙◌, subst}
use mathlib.Core.Bool.{Bool, true, false, ◌&&◌, cond}
use mathlib.Core.List.{List, [], ◌∷◌}
use Prim.Native.Nat.{ℕ, zero, suc, ◌+◌, ◌*◌, ◌-◌, ◌≤◌}
use native.Mathlib.Omega.{arith}
use lib.Dec.{ltb}
use lib.ListN.{take}
use lib.Seq.{take-nil}
use Rattle.keys.specs.Keys.{Got, got, none_got, number_in, Numbers, numbers_in, Head, head_by_numbers, head_in}
use Rattle.keys.proofs.Numbers.{head_is}

-- the first list is the second, cut behind so many bytes or later
record CutAt (least : ℕ) (xs ys : List ℕ) : Type 0 where
  at : ℕ
  behind : least ≤ at
  is : xs ≡ take at ys

cut_nil : (k : ℕ) → CutAt k [] []
cut_nil k = record { at = k; behind = omega arith; is = sym (take-nil k) }

cut_same : (k m : ℕ) (bs : List ℕ) → k ≤ m → CutAt k (take m bs) bs
cut_same k m bs h = record { at = m; behind = h; is = refl }

-- the same number is read of both, or none, and what is left is cut too
record Alike (least : ℕ) (g h : Got) : Type 0 where
  good : g.good ≡ h.good
  value : g.value ≡ h.value
  rest : CutAt least g.rest h.rest

alike_none : (k : ℕ) → Alike k none_got none_got
alike_none k = record { good = refl; value = refl; rest = cut_nil k }

alike_got : (k v : ℕ) {xs ys : List ℕ} → CutAt k xs ys → Alike k (got v xs) (got v ys)
unfolding got
alike_got k v c = record { good = refl; value = refl; rest = c }

alike_by : {k : ℕ} {g h x y : Got} (t : Bool) → Alike k g h → Alike k x y → Alike k (cond t g x) (cond t h y)
alike_by true p q = p
alike_by false p q = q

front_alike : (k m : ℕ) (bs : List ℕ) → k ≤ m → Alike k (number_in (take (suc (suc (suc m))) bs)) (number_in bs)
unfolding number_in
front_alike k m [] h = alike_none k
front_alike k m (a ∷ []) h = alike_by (ltb a 128) (alike_got k a (cut_nil k)) (alike_none k)
front_alike k m (a ∷ b ∷ []) h =
    alike_by (ltb a 128) (alike_got k a (cut_same k (suc (suc m)) (b ∷ []) (omega arith)))
    (alike_by (ltb b 128 && ltb 0 b) (alike_got k (a - 128 + 128 * b) (cut_nil k)) (alike_none k))
front_alike k m (a ∷ b ∷ c ∷ bs) h =
    alike_by (ltb a 128) (alike_got k a (cut_same k (suc (suc m)) (b ∷ c ∷ bs) (omega arith)))
    (alike_by (ltb b 128)
    (alike_by (ltb 0 b) (alike_got k (a - 128 + 128 * b) (cut_same k (suc m) (c ∷ bs) (omega arith))) (alike_none k))
    (alike_by (ltb c 128 && ltb 0 c) (alike_got k (a - 128 + 128 * (b - 128) + 16384 * c) (cut_same k m bs h)) (alike_none k)))

number_alike : (k : ℕ) (xs ys : List ℕ) → CutAt (3 + k) xs ys → Alike k (number_in xs) (number_in ys)
number_alike k xs ys c =
    let front : suc (suc (suc (c.at - 3))) ≡ c.at = omega arith in
    subst (λ (l : List ℕ). Alike k (number_in l) (number_in ys)) (ap (λ (n : ℕ). take n ys) front ∙ sym c.is)
    (front_alike k (c.at - 3) ys (omega arith))

-- so many numbers are the same, where they stand before the cut
pub record SameNumbers (g h : Numbers) : Type 0 where
  pub good : g.good ≡ h.good
  pub values : g.values ≡ h.values

numbers_alike : (k : ℕ) (xs ys : List ℕ) → CutAt (3 * k) xs ys → SameNumbers (numbers_in k xs) (numbers_in k ys)
unfolding numbers_in
numbers_alike zero xs ys c = record { good = refl; values = refl }
numbers_alike (suc k) xs ys c =
    let first = number_alike (3 * k) xs ys (record { at = c.at; behind = omega (arith, c.behind); is = c.is }) in
    let more = numbers_alike k _ _ first.rest in
    record { good = rw (first.good, more.good); values = rw (first.value, more.values) }

pub numbers_cut : (k n : ℕ) (bs : List ℕ) → 3 * k ≤ n → SameNumbers (numbers_in k (take n bs)) (numbers_in k bs)
numbers_cut k n bs h = numbers_alike k (take n bs) bs (cut_same (3 * k) n bs h)

-- the header's numbers are the same
pub record SameHead (g h : Head) : Type 0 where
  pub good : g.good ≡ h.good
  pub board : g.board ≡ h.board
  pub player : g.player ≡ h.player

pub head_cut : (n : ℕ) (bs : List ℕ) → 15 ≤ n → SameHead (head_in (take n bs)) (head_in bs)
unfolding head_by_numbers
head_cut n bs h =
    let same = numbers_cut 5 n bs h in
    rw (head_is (take n bs), head_is bs) (record { good = same.good; board = rw same.values; player = rw same.values })
