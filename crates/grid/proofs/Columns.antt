-- One column of p marks: its bits and its parity. A column is fixed by its marks; by its parity and the marks of all players but one; and
-- there is just one column with given marks of the others and a given parity, the mended column. Assumes nothing.
use mathlib.Core.Path.{◌≡◌, refl, sym, ap, ◌∙◌}
use mathlib.Core.Bool.{Bool, true, false, not, cond, true≢false}
use Prim.Native.Nat.{ℕ, zero, suc, ◌+◌, ◌*◌, ◌-◌, ◌/◌, ◌%◌, ◌^◌, ◌≤◌, ◌<◌}
use native.Mathlib.Omega.{arith}
use native.Mathlib.Nat.{div-one, pow-succ', div-div-eq-div-mul}
use lib.Dec.{eqb}
use borrow.Author.Tests.{eqb-true, eqb-false, eq-eqb, ne_eqb}
use Rattle.grid.specs.Grid.{bit, ones, is_odd, same_parity, other_marks}
use Rattle.grid.specs.Moving.{turned, mended}
use Rattle.grid.proofs.Marks.{ones_beyond}

-- THE BITS OF A NUMBER, from the lowest up

-- mark 0 is the lowest bit, and the other marks are those of the half
pub bit_zero : (v : ℕ) → bit v 0 ≡ eqb (v % 2) 1
unfolding bit
bit_zero v = rw (div-one v)

pub bit_suc : (v i : ℕ) → bit v (suc i) ≡ bit (v / 2) i
unfolding bit
bit_suc v i = rw (pow-succ' 2 i, div-div-eq-div-mul v 2 (2 ^ i))

-- equal lowest bits as tests are equal lowest bits
low_bit : (a b : ℕ) → eqb (a % 2) 1 ≡ eqb (b % 2) 1 → a % 2 ≡ b % 2
low_bit a b h = go (eqb (b % 2) 1) refl
  where
    go : (t : Bool) → eqb (b % 2) 1 ≡ t → a % 2 ≡ b % 2
    go true e = let p = eqb-true (b % 2) 1 e in let q = eqb-true (a % 2) 1 (h ∙ e) in omega arith
    go false e = let p = eqb-false (b % 2) 1 e in let q = eqb-false (a % 2) 1 (h ∙ e) in omega arith

same_low : (a b : ℕ) → bit a 0 ≡ bit b 0 → a % 2 ≡ b % 2
same_low a b h = low_bit a b (sym (bit_zero a) ∙ h ∙ bit_zero b)

-- the marks fix a column
pub marks_fix : (k a b : ℕ) → a < 2 ^ k → b < 2 ^ k → ((i : ℕ) → i < k → bit a i ≡ bit b i) → a ≡ b
marks_fix zero a b p q h = omega arith
marks_fix (suc k) a b p q h =
    let low : a % 2 ≡ b % 2 = same_low a b (h 0 (omega arith)) in
    let high : a / 2 ≡ b / 2 =
    marks_fix k (a / 2) (b / 2) (omega arith) (omega arith) (λ i r. sym (bit_suc a i) ∙ h (suc i) (omega arith) ∙ bit_suc b i) in
    omega arith

-- the marks of all players but i, and the parity, fix a column
pub others_fix :
    (k i a b : ℕ) → a < 2 ^ k → b < 2 ^ k → ((j : ℕ) → j < k → (j ≡ i → ⊥) → bit a j ≡ bit b j) → ones k a % 2 ≡ ones k b % 2 → a ≡ b
unfolding ones
others_fix zero i a b p q h e = omega arith
others_fix (suc k) zero a b p q h e =
    let high : a / 2 ≡ b / 2 =
    marks_fix k (a / 2) (b / 2) (omega arith) (omega arith) (λ j r. sym (bit_suc a j) ∙ h (suc j) (omega arith) (λ z. omega arith) ∙ bit_suc b j) in
    let same : ones k (a / 2) ≡ ones k (b / 2) = ap (ones k) high in
    omega arith
others_fix (suc k) (suc i) a b p q h e =
    let low : a % 2 ≡ b % 2 = same_low a b (h 0 (omega arith) (λ z. omega arith)) in
    let high : a / 2 ≡ b / 2 =
    others_fix k i (a / 2) (b / 2) (omega arith) (omega arith)
    (λ j r ne. sym (bit_suc a j) ∙ h (suc j) (omega arith) (λ z. ne (omega arith)) ∙ bit_suc b j) (omega arith) in
    omega arith

-- PARITY

-- a test of parity is the count of ones modulo 2
odd_same : (a b : ℕ) → is_odd a ≡ is_odd b → ones 8 a % 2 ≡ ones 8 b % 2
unfolding is_odd
odd_same a b h = low_bit (ones 8 a) (ones 8 b) h

-- the bits above the lowest, and the parity, fix a column
half_and_ones : (k a b : ℕ) → a / 2 ≡ b / 2 → ones (suc k) a % 2 ≡ ones (suc k) b % 2 → a ≡ b
unfolding ones
half_and_ones k a b h e =
    let same : ones k (a / 2) ≡ ones k (b / 2) = ap (ones k) h in
    omega arith

pub half_fixes : (a b : ℕ) → a / 2 ≡ b / 2 → is_odd a ≡ is_odd b → a ≡ b
half_fixes a b h o = half_and_ones 7 a b h (odd_same a b o)

odd_counts : (p a b : ℕ) → p ≤ 8 → a < 2 ^ p → b < 2 ^ p → is_odd a ≡ is_odd b → ones p a % 2 ≡ ones p b % 2
odd_counts p a b h q r o =
    let e = odd_same a b o in
    let f = ones_beyond p 8 a h q in
    let g = ones_beyond p 8 b h r in
    omega arith

-- the marks of all players but i, and the parity, fix a column
pub others_and_parity_fix :
    (p i a b : ℕ) → p ≤ 8 → a < 2 ^ p → b < 2 ^ p → ((j : ℕ) → j < p → (j ≡ i → ⊥) → bit a j ≡ bit b j) → is_odd a ≡ is_odd b → a ≡ b
others_and_parity_fix p i a b h q r same o = others_fix p i a b q r same (odd_counts p a b h q r o)

-- MARKS TAKEN OUT AND TURNED ROUND, from the lowest bit up

-- what player i's mark decides, mark by mark
by_mark : (c i : ℕ) (P : Bool → Type 0) → (bit c i ≡ true → P true) → (bit c i ≡ false → P false) → P (bit c i)
by_mark c i P marked not_marked = go (bit c i) refl
  where
    go : (t : Bool) → bit c i ≡ t → P t
    go true e = marked e
    go false e = not_marked e

marked_low : (c : ℕ) → bit c 0 ≡ true → c % 2 ≡ 1
marked_low c h = eqb-true (c % 2) 1 (sym (bit_zero c) ∙ h)

unmarked_low : (c : ℕ) → bit c 0 ≡ false → c % 2 ≡ 0
unmarked_low c h = let ne = eqb-false (c % 2) 1 (sym (bit_zero c) ∙ h) in omega arith

-- a mark is part of its column
mark_within : (c i : ℕ) → bit c i ≡ true → 2 ^ i ≤ c
mark_within c zero h = let e = marked_low c h in omega arith
mark_within c (suc i) h = let r = mark_within (c / 2) i (sym (bit_suc c i) ∙ h) in omega arith

-- a column without player i's mark
others_zero : (c : ℕ) → other_marks c 0 ≡ 2 * (c / 2)
unfolding other_marks
others_zero c =
    by_mark c 0 (λ t. cond t (c - 2 ^ 0) c ≡ 2 * (c / 2)) (λ h. let e = marked_low c h in omega arith) (λ h. let e = unmarked_low c h in omega arith)

others_suc : (c i : ℕ) → other_marks c (suc i) ≡ c % 2 + 2 * other_marks (c / 2) i
unfolding other_marks
others_suc c i =
    rw (bit_suc c i)
    (by_mark (c / 2) i (λ t. cond t (c - 2 ^ suc i) c ≡ c % 2 + 2 * cond t (c / 2 - 2 ^ i) (c / 2))
    (λ h. let r = mark_within (c / 2) i h in omega arith) (λ h. omega arith))

-- a column with player i's mark the other way round
pub turned_zero : (c : ℕ) → turned c 0 ≡ 1 - c % 2 + 2 * (c / 2)
unfolding turned
turned_zero c =
    by_mark c 0 (λ t. cond t (c - 2 ^ 0) (c + 2 ^ 0) ≡ 1 - c % 2 + 2 * (c / 2)) (λ h. let e = marked_low c h in omega arith)
    (λ h. let e = unmarked_low c h in omega arith)

turned_suc : (c i : ℕ) → turned c (suc i) ≡ c % 2 + 2 * turned (c / 2) i
unfolding turned
turned_suc c i =
    rw (bit_suc c i)
    (by_mark (c / 2) i (λ t. cond t (c - 2 ^ suc i) (c + 2 ^ suc i) ≡ c % 2 + 2 * cond t (c / 2 - 2 ^ i) (c / 2 + 2 ^ i))
    (λ h. let r = mark_within (c / 2) i h in omega arith) (λ h. omega arith))

-- the halves of these
others_half : (c i : ℕ) → other_marks c (suc i) / 2 ≡ other_marks (c / 2) i
others_half c i = let e = others_suc c i in omega arith

turned_half : (c i : ℕ) → turned c (suc i) / 2 ≡ turned (c / 2) i
turned_half c i = let e = turned_suc c i in omega arith

-- NOBODY ELSE: a column has no other marks where no player but i marks it

pub unmarked_zero : (j : ℕ) → bit 0 j ≡ false
unmarked_zero zero = bit_zero 0
unmarked_zero (suc j) = bit_suc 0 j ∙ unmarked_zero j

pub none_marked : (c i j : ℕ) → other_marks c i ≡ 0 → (j ≡ i → ⊥) → bit c j ≡ false
none_marked c zero zero h ne = absurd (ne refl)
none_marked c zero (suc j) h ne =
    let e = others_zero c in
    let none : c / 2 ≡ 0 = omega arith in
    bit_suc c j ∙ rw none (unmarked_zero j)
none_marked c (suc i) zero h ne =
    let e = others_suc c i in
    let none : c % 2 ≡ 0 = omega arith in
    bit_zero c ∙ rw none
none_marked c (suc i) (suc j) h ne =
    let e = others_half c i in
    bit_suc c j ∙ none_marked (c / 2) i j (omega arith) (λ z. ne (ap suc z))

-- the column without marks has none of others
pub others_none : (i : ℕ) → other_marks 0 i ≡ 0
others_none zero = others_zero 0
others_none (suc i) = let e = others_suc 0 i in let r = others_none i in omega arith

-- a player with a number too high for a column does not mark it
others_above : (p c : ℕ) → c < 2 ^ p → other_marks c p ≡ c
unfolding other_marks
others_above p c h =
    by_mark c p (λ t. cond t (c - 2 ^ p) c ≡ c) (λ m. let r = mark_within c p m in omega arith) (λ m. refl)

-- a column that has other marks is marked by another player
pub some_marked : (p i c : ℕ) → c < 2 ^ p → (other_marks c i ≡ 0 → ⊥) → (k : ℕ) × (k < p) × (k ≡ i → ⊥) × (bit c k ≡ true)
some_marked zero i c h ne =
    let none : c ≡ 0 = omega arith in
    absurd (ne (rw none (others_none i)))
some_marked (suc p) zero c h ne =
    let e = others_zero c in
    let f = others_above p (c / 2) (omega arith) in
    let r = some_marked p p (c / 2) (omega arith) (λ z. ne (omega arith)) in
    let q = r.1 in
    (suc r.0, omega arith, λ z. omega arith, bit_suc c r.0 ∙ r.3)
some_marked (suc p) (suc i) c h ne = go (eqb (c % 2) 1) refl (λ q. some_marked p i (c / 2) (omega arith) q)
  where
    go :
        (t : Bool) → eqb (c % 2) 1 ≡ t →
        ((other_marks (c / 2) i ≡ 0 → ⊥) → (k : ℕ) × (k < p) × (k ≡ i → ⊥) × (bit (c / 2) k ≡ true)) →
        (k : ℕ) × (k < suc p) × (k ≡ suc i → ⊥) × (bit c k ≡ true)
    go true e ih = (0, omega arith, λ z. omega arith, bit_zero c ∙ e)
    go false e ih =
        let even = eqb-false (c % 2) 1 e in
        let f = others_suc c i in
        let r = ih (λ z. ne (omega arith)) in
        let q = r.1 in
        (suc r.0, omega arith, λ z. r.2 (omega arith), bit_suc c r.0 ∙ r.3)

-- A MARK TURNED ROUND: the others' marks stay and the parity changes

turned_low : (p c i : ℕ) → i < p → c < 2 ^ p → turned c i < 2 ^ p
turned_low zero c i h q = omega arith
turned_low (suc p) c zero h q = let e = turned_zero c in omega arith
turned_low (suc p) c (suc i) h q =
    let e = turned_suc c i in
    let r = turned_low p (c / 2) i (omega arith) (omega arith) in
    omega arith

-- one more or one less is the other parity
flipped : (m n : ℕ) → m % 2 ≡ (1 + n) % 2 → eqb (m % 2) 1 ≡ not (eqb (n % 2) 1)
flipped m n e = go (eqb (n % 2) 1) refl
  where
    go : (t : Bool) → eqb (n % 2) 1 ≡ t → eqb (m % 2) 1 ≡ not t
    go true q = let r = eqb-true (n % 2) 1 q in ne_eqb (m % 2) 1 (λ z. omega arith)
    go false q = let r = eqb-false (n % 2) 1 q in eq-eqb (m % 2) 1 (omega arith)

turned_others : (c i j : ℕ) → (j ≡ i → ⊥) → bit (turned c i) j ≡ bit c j
turned_others c zero zero ne = absurd (ne refl)
turned_others c zero (suc j) ne =
    let e = turned_zero c in
    let half : turned c 0 / 2 ≡ c / 2 = omega arith in
    bit_suc (turned c 0) j ∙ rw half (sym (bit_suc c j))
turned_others c (suc i) zero ne =
    let e = turned_suc c i in
    let low : turned c (suc i) % 2 ≡ c % 2 = omega arith in
    bit_zero (turned c (suc i)) ∙ rw low (sym (bit_zero c))
turned_others c (suc i) (suc j) ne =
    bit_suc (turned c (suc i)) j ∙ rw (turned_half c i) (turned_others (c / 2) i j (λ z. ne (ap suc z)) ∙ sym (bit_suc c j))

turned_parity : (k c i : ℕ) → i < k → ones k (turned c i) % 2 ≡ (1 + ones k c) % 2
unfolding ones
turned_parity zero c i h = omega arith
turned_parity (suc k) c zero h =
    let e = turned_zero c in
    let half : turned c 0 / 2 ≡ c / 2 = omega arith in
    let same : ones k (turned c 0 / 2) ≡ ones k (c / 2) = ap (ones k) half in
    omega arith
turned_parity (suc k) c (suc i) h =
    let e = turned_suc c i in
    let low : turned c (suc i) % 2 ≡ c % 2 = omega arith in
    rw (low, turned_half c i) (step (c % 2) (ones k (turned (c / 2) i)) (ones k (c / 2)) (turned_parity k (c / 2) i (omega arith)))
  where
    step : (x m n : ℕ) → m % 2 ≡ (1 + n) % 2 → (x + m) % 2 ≡ (1 + (x + n)) % 2
    step x m n h = omega arith

pub turned_odd : (c i : ℕ) → i < 8 → is_odd (turned c i) ≡ not (is_odd c)
unfolding is_odd
turned_odd c i h = flipped (ones 8 (turned c i)) (ones 8 c) (turned_parity 8 c i h)

turned_alone : (c i : ℕ) → other_marks (turned c i) i ≡ other_marks c i
turned_alone c zero = let e = turned_zero c in let f = others_zero (turned c 0) in let g = others_zero c in omega arith
turned_alone c (suc i) =
    let e = turned_suc c i in
    let f = others_suc (turned c (suc i)) i in
    let g = others_suc c i in
    let low : turned c (suc i) % 2 ≡ c % 2 = omega arith in
    let same : other_marks (turned c (suc i) / 2) i ≡ other_marks (c / 2) i = rw (turned_half c i) (turned_alone (c / 2) i) in
    omega arith

-- the test of parities is that they are the same
pub parity_is : (s o : Bool) → same_parity s o ≡ true → s ≡ o
unfolding same_parity
parity_is true o h = sym h
parity_is false true h = h
parity_is false false h = refl

pub parity_fits : (s o : Bool) → s ≡ o → same_parity s o ≡ true
unfolding same_parity
parity_fits true o h = sym h
parity_fits false true h = h
parity_fits false false h = refl

-- THE MENDED COLUMN

-- what mending does: nothing, or player i's mark turned round
mended_cases :
    (o : Bool) (c i : ℕ) (P : ℕ → Type 0) → (is_odd c ≡ o → P c) → ((is_odd c ≡ o → ⊥) → P (turned c i)) → P (mended o c i)
unfolding mended
mended_cases o c i P stays turns = go (same_parity (is_odd c) o) refl
  where
    go : (t : Bool) → same_parity (is_odd c) o ≡ t → P (cond t c (turned c i))
    go true e = stays (parity_is (is_odd c) o e)
    go false e = turns (λ same. true≢false (sym (parity_fits (is_odd c) o same) ∙ e))

pub mended_low : (p : ℕ) (o : Bool) (c i : ℕ) → i < p → c < 2 ^ p → mended o c i < 2 ^ p
mended_low p o c i h q = mended_cases o c i (λ v. v < 2 ^ p) (λ e. q) (λ e. turned_low p c i h q)

pub mended_others : (o : Bool) (c i j : ℕ) → (j ≡ i → ⊥) → bit (mended o c i) j ≡ bit c j
mended_others o c i j ne = mended_cases o c i (λ v. bit v j ≡ bit c j) (λ e. refl) (λ e. turned_others c i j ne)

pub mended_alone : (o : Bool) (c i : ℕ) → other_marks (mended o c i) i ≡ other_marks c i
mended_alone o c i = mended_cases o c i (λ v. other_marks v i ≡ other_marks c i) (λ e. refl) (λ e. turned_alone c i)

pub mended_parity : (o : Bool) (c i : ℕ) → i < 8 → is_odd (mended o c i) ≡ o
mended_parity o c i h = mended_cases o c i (λ v. is_odd v ≡ o) (λ e. e) (λ e. turned_odd c i h ∙ other_than (is_odd c) o e)
  where
    other_than : (t u : Bool) → (t ≡ u → ⊥) → not t ≡ u
    other_than true true ne = absurd (ne refl)
    other_than true false ne = refl
    other_than false true ne = refl
    other_than false false ne = absurd (ne refl)

-- A COLUMN WITHOUT ONE PLAYER'S BIT: the other players close up

unfoldable pub without : (column player : ℕ) → ℕ
without c zero = c / 2
without c (suc i) = c % 2 + 2 * without (c / 2) i

pub without_low : (k c i : ℕ) → i ≤ k → c < 2 ^ suc k → without c i < 2 ^ k
unfolding without
without_low k c zero h q = omega arith
without_low zero c (suc i) h q = omega arith
without_low (suc k) c (suc i) h q = let r = without_low k (c / 2) i (omega arith) (omega arith) in omega arith

-- it and the bit make the column
without_fixes : (i a b : ℕ) → bit a i ≡ bit b i → without a i ≡ without b i → a ≡ b
unfolding without
without_fixes zero a b h e = let r = same_low a b h in omega arith
without_fixes (suc i) a b h e =
    let low : a % 2 ≡ b % 2 = omega arith in
    let high : a / 2 ≡ b / 2 = without_fixes i (a / 2) (b / 2) (sym (bit_suc a i) ∙ h ∙ bit_suc b i) (omega arith) in
    omega arith

-- the ones of a column are its bit and the ones without it
ones_without : (k i a : ℕ) → i ≤ k → ones (suc k) a ≡ cond (bit a i) 1 0 + ones k (without a i)
unfolding ones without
ones_without k zero a h =
    by_mark a 0 (λ t. a % 2 + ones k (a / 2) ≡ cond t 1 0 + ones k (a / 2)) (λ m. let e = marked_low a m in omega arith)
    (λ m. let e = unmarked_low a m in omega arith)
ones_without zero (suc i) a h = let none : ⊥ = omega arith in absurd none
ones_without (suc k) (suc i) a h =
    let low : (a % 2 + 2 * without (a / 2) i) % 2 ≡ a % 2 = omega arith in
    let high : (a % 2 + 2 * without (a / 2) i) / 2 ≡ without (a / 2) i = omega arith in
    let r = ones_without k i (a / 2) (omega arith) in
    rw (low, high, bit_suc a i) (omega arith)

-- one player's bit, the parity, and the other bits but the lowest of them fix a column
pub bit_and_half_fix : (i a b : ℕ) → i < 8 → bit a i ≡ bit b i → is_odd a ≡ is_odd b → without a i / 2 ≡ without b i / 2 → a ≡ b
bit_and_half_fix i a b h same o e =
    let m = ones_without 7 i a (omega arith) in
    let n = ones_without 7 i b (omega arith) in
    let marks : ◌≡◌ {A = ℕ} (cond (bit a i) 1 0) (cond (bit b i) 1 0) = ap (λ (t : Bool). cond t 1 0) same in
    let both = odd_same a b o in
    without_fixes i a b same (half_and_ones 6 (without a i) (without b i) e (omega arith))
