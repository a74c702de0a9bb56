-- Counting by pigeonholes, over functions on numbers: places below n, some of them selected, that go to different holes below m are at most m;
-- and n places that go to different holes below n leave no hole empty. Assumes nothing.
use mathlib.Core.Path.{◌≡◌, refl, subst}
use mathlib.Core.Bool.{Bool, true, false, not, cond}
use mathlib.Core.Logic.{◌⊎◌, inl, inr, ⊎_elim}
use Prim.Native.Nat.{ℕ, zero, suc, ◌+◌, ◌-◌, ◌≤◌, ◌<◌}
use native.Mathlib.Omega.{arith}
use lib.Dec.{ltb, eqb}
use borrow.Author.Tests.{ltb-true, ltb-false, eqb-true, eqb-false}

-- COUNTING: how many places below n are selected
unfoldable pub count : (n : ℕ) → (selected : ℕ → Bool) → ℕ
count zero s = 0
count (suc n) s = cond (s n) 1 0 + count n s

-- all are selected
pub count_all : (n : ℕ) → count n (λ j. true) ≡ n
unfolding count
count_all zero = refl
count_all (suc n) = let r = count_all n in omega arith

-- the selected places and the others are all
pub count_both : (n : ℕ) (s : ℕ → Bool) → count n s + count n (λ j. not (s j)) ≡ n
unfolding count
count_both zero s = refl
count_both (suc n) s = go (s n) (count_both n s)
  where
    go : (t : Bool) → count n s + count n (λ j. not (s j)) ≡ n → (cond t 1 0 + count n s) + (cond (not t) 1 0 + count n (λ j. not (s j))) ≡ suc n
    go true ih = omega arith
    go false ih = omega arith

-- the first place counted apart
pub count_first : (n : ℕ) (s : ℕ → Bool) → count (suc n) s ≡ cond (s 0) 1 0 + count n (λ j. s (suc j))
unfolding count
count_first zero s = refl
count_first (suc n) s = let r = count_first n s in omega arith

-- a count depends on the places below n only
pub count_same : (n : ℕ) (s t : ℕ → Bool) → ((j : ℕ) → j < n → s j ≡ t j) → count n s ≡ count n t
unfolding count
count_same zero s t h = refl
count_same (suc n) s t h = rw (h n (omega arith), count_same n s t (λ j l. h j (omega arith)))

-- PIGEONHOLES

-- the holes without hole a, closed up
unfoldable pub squash : (a x : ℕ) → ℕ
squash a x = cond (ltb a x) (x - 1) x

-- a statement of `squash a x` is one for each side of a
squash_cases : (a x : ℕ) (P : ℕ → Type 0) → (a < x → P (x - 1)) → (x ≤ a → P x) → P (squash a x)
unfolding squash
squash_cases a x P above under = go (ltb a x) refl
  where
    go : (t : Bool) → ltb a x ≡ t → P (cond t (x - 1) x)
    go true e = above (ltb-true a x e)
    go false e = under (ltb-false a x e)

squash_low : (a x m : ℕ) → x < suc m → a < suc m → (x ≡ a → ⊥) → squash a x < m
squash_low a x m h k ne = squash_cases a x (λ y. y < m) (λ q. omega arith) (λ q. omega arith)

squash_apart : (a x y : ℕ) → (x ≡ a → ⊥) → (y ≡ a → ⊥) → squash a x ≡ squash a y → x ≡ y
squash_apart a x y p q =
    squash_cases a x (λ u. u ≡ squash a y → x ≡ y)
    (λ r. squash_cases a y (λ v. x - 1 ≡ v → x ≡ y) (λ s e. omega arith) (λ s e. omega arith))
    (λ r. squash_cases a y (λ v. x ≡ v → x ≡ y) (λ s e. omega arith) (λ s e. omega arith))

-- the selected places below n go below m, to different holes
pub record Apart (n m : ℕ) (f : ℕ → ℕ) (selected : ℕ → Bool) : Type 0 where
  pub low : (j : ℕ) → j < n → selected j ≡ true → f j < m
  pub apart : (j k : ℕ) → j < n → k < n → selected j ≡ true → selected k ≡ true → f j ≡ f k → j ≡ k

-- the last place is not selected
apart_fewer : (n m : ℕ) (f : ℕ → ℕ) (s : ℕ → Bool) → Apart (suc n) m f s → Apart n m f s
apart_fewer n m f s h =
    record {
      low = λ j p. h.low j (omega arith);
      apart = λ j k p q. h.apart j k (omega arith) (omega arith);
    }

-- the last place is selected: take its hole away
apart_squash : (n m : ℕ) (f : ℕ → ℕ) (s : ℕ → Bool) → s n ≡ true → Apart (suc n) (suc m) f s → Apart n m (λ j. squash (f n) (f j)) s
apart_squash n m f s last h =
    record {
      low = λ j p t. squash_low (f n) (f j) m (h.low j (omega arith) t) (h.low n (omega arith) last) (other j p t);
      apart = λ j k p q t u e. h.apart j k (omega arith) (omega arith) t u (squash_apart (f n) (f j) (f k) (other j p t) (other k q u) e);
    }
  where
    other : (j : ℕ) → j < n → s j ≡ true → f j ≡ f n → ⊥
    other j p t e =
        let same : j ≡ n = h.apart j n (omega arith) (omega arith) t last e in
        omega arith

pub pigeon : (n m : ℕ) (f : ℕ → ℕ) (s : ℕ → Bool) → Apart n m f s → count n s ≤ m
unfolding count
pigeon zero m f s h = omega arith
pigeon (suc n) m f s h =
    go (λ f' m'. pigeon n m' f' s) (s n) refl
  where
    go : ((f' : ℕ → ℕ) (m' : ℕ) → Apart n m' f' s → count n s ≤ m') → (t : Bool) → s n ≡ t → cond t 1 0 + count n s ≤ m
    go ih false e = let r = ih f m (apart_fewer n m f s h) in omega arith
    go ih true e = some_hole m h
      where
        some_hole : (m' : ℕ) → Apart (suc n) m' f s → 1 + count n s ≤ m'
        some_hole zero k = let r = k.low n (omega arith) e in omega arith
        some_hole (suc m') k = let r = ih (λ j. squash (f n) (f j)) m' (apart_squash n m' f s e k) in omega arith

-- a place with hole v, or none
pub found : (n v : ℕ) (f : ℕ → ℕ) → ((j : ℕ) × (j < n) × (f j ≡ v)) ⊎ ((j : ℕ) → j < n → f j ≡ v → ⊥)
found zero v f = inr (λ j p e. omega arith)
found (suc n) v f = go (found n v f) (eqb (f n) v) refl
  where
    go :
        ((j : ℕ) × (j < n) × (f j ≡ v)) ⊎ ((j : ℕ) → j < n → f j ≡ v → ⊥) → (t : Bool) → eqb (f n) v ≡ t →
        ((j : ℕ) × (j < suc n) × (f j ≡ v)) ⊎ ((j : ℕ) → j < suc n → f j ≡ v → ⊥)
    go r true e = inl (n, omega arith, eqb-true (f n) v e)
    go (inl r) false e = inl (r.0, (let h = r.1 in omega arith), r.2)
    go (inr r) false e = inr (λ j p q. last j p q (eqb j n) refl)
      where
        last : (j : ℕ) → j < suc n → f j ≡ v → (t : Bool) → eqb j n ≡ t → ⊥
        last j p q true u = eqb-false (f n) v e (subst (λ (k : ℕ). f k ≡ v) (eqb-true j n u) q)
        last j p q false u = let ne = eqb-false j n u in r j (omega arith) q

-- n places that go to different holes below n leave none empty
pub hits : (n : ℕ) (f : ℕ → ℕ) → Apart n n f (λ j. true) → (v : ℕ) → v < n → (j : ℕ) × (j < n) × (f j ≡ v)
hits zero f h v p = absurd (omega arith)
hits (suc n) f h v p = ⊎_elim (λ r. r) (λ none. absurd (full none)) (found (suc n) v f)
  where
    full : ((j : ℕ) → j < suc n → f j ≡ v → ⊥) → ⊥
    full none =
        let closed : Apart (suc n) n (λ j. squash v (f j)) (λ j. true) =
        record {
          low = λ j q t. squash_low v (f j) n (h.low j q t) p (none j q);
          apart = λ j k q r t u e. h.apart j k q r t u (squash_apart v (f j) (f k) (none j q) (none k r) e);
        } in
        let few = pigeon (suc n) n (λ j. squash v (f j)) (λ j. true) closed in
        let all = count_all (suc n) in
        omega arith
