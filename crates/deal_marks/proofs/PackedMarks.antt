-- The laws of packed marks: digit by digit, by four and by eight, and packed bytes one behind another. Assumes nothing.
use mathlib.Core.Path.{◌≡◌, refl, sym, ap, ◌∙◌}
use mathlib.Core.Bool.{Bool, true, false, cond}
use mathlib.Core.List.{List, [], ◌∷◌, ◌++◌}
use Prim.Native.Nat.{ℕ, zero, suc, ◌+◌, ◌*◌, ◌-◌, ◌/◌, ◌%◌, ◌^◌, ◌≤◌, ◌<◌}
use native.Mathlib.Omega.{arith}
use native.Mathlib.Nat.{lt_of_lt_of_le}
use lib.Pow.{pow_mono}
use native.Mathlib.Numerals.{add-one}
use lib.ListN.{length, get_or, drop, drop_of_length-le, get_or-eq_default}
use lib.Dec.{leb, eqb}
use lib.Seq.{drop-cons, drop-drop}
use borrow.Author.Tests.{leb-true, leb-false}
use Rattle.grid.specs.Grid.{bit}
use Rattle.keys.specs.Keys.{packed_from, packed}
use Rattle.keys.proofs.Marks.{bit_nothing}
use Rattle.writer.specs.Written.{Wrote}
use Rattle.writer.proofs.Laws.{wrote_more}
use Rattle.deal_marks.specs.Marks.{mark_digit}

-- MARKS PACKED

-- a mark one bit further up counts twice
packed_double : (n k i : ℕ) (cs : List ℕ) → packed_from n (suc k) i cs ≡ 2 * packed_from n k i cs
unfolding packed_from
packed_double zero k i cs = refl
packed_double (suc n) k i [] = refl
packed_double (suc n) k i (c ∷ cs) =
    twice (bit c i) (2 ^ suc k) (2 ^ k) (packed_from n (suc k) i cs) (packed_from n (suc (suc k)) i cs) (omega arith) (packed_double n (suc k) i cs)
  where
    twice : (t : Bool) (high low few more : ℕ) → high ≡ 2 * low → more ≡ 2 * few → cond t high 0 + more ≡ 2 * (cond t low 0 + few)
    twice true high low few more h m = omega arith
    twice false high low few more h m = omega arith

-- n marks make a number of n bits
pub packed_lt : (n i : ℕ) (cs : List ℕ) → packed_from n 0 i cs < 2 ^ n
unfolding packed_from
packed_lt zero i cs = omega arith
packed_lt (suc n) i [] = omega (arith, packed_lt n i [])
packed_lt (suc n) i (c ∷ cs) = below (bit c i) (packed_from n 0 i cs) (packed_from n 1 i cs) (2 ^ n) (2 ^ suc n) (packed_double n 0 i cs) (packed_lt n i cs) (omega arith)
  where
    below : (t : Bool) (few more most twice : ℕ) → more ≡ 2 * few → few < most → twice ≡ 2 * most → cond t 1 0 + more < twice
    below true few more most twice m h d = omega arith
    below false few more most twice m h d = omega arith

pub packed_small : (n i : ℕ) (cs : List ℕ) {byte : ℕ} → byte ≡ packed_from n 0 i cs → byte < 2 ^ n
packed_small n i cs is = rw is (packed_lt n i cs)

-- fewer than eight marks make less than 128
pub packed_room : (place i : ℕ) (cs : List ℕ) → 0 < place → packed_from (8 - place) 0 i cs < 128
packed_room place i cs h = lt_of_lt_of_le (packed_lt (8 - place) i cs) (pow_mono {i = 8 - place} {j = 7} (omega arith))

-- the marks from a place on are the mark there, and twice the marks behind it
pub packed_next : (n i from : ℕ) (cs : List ℕ) →
    packed_from n 0 i (drop (suc from) cs) * 2 + mark_digit (get_or cs from 0) i ≡ packed_from (suc n) 0 i (drop from cs)
unfolding packed_from mark_digit
packed_next n i from cs = go (leb (length cs) from) refl
  where
    none : (m : ℕ) → packed_from m 0 i [] ≡ 0
    none zero = refl
    none (suc m) = refl

    digit : (t : Bool) (few more : ℕ) → more ≡ 2 * few → few * 2 + cond t 1 0 ≡ cond t 1 0 + more
    digit true few more e = omega arith
    digit false few more e = omega arith

    go : (t : Bool) → leb (length cs) from ≡ t →
        packed_from n 0 i (drop (suc from) cs) * 2 + cond (bit (get_or cs from 0) i) 1 0 ≡ packed_from (suc n) 0 i (drop from cs)
    go true e =
        let past = leb-true (length cs) from e in
        rw (drop_of_length-le cs past, drop_of_length-le cs {i = suc from} (omega arith), get_or-eq_default cs 0 past, bit_nothing i, none n)
    go false e =
        rw (drop-cons cs from 0 (leb-false (length cs) from e))
        (digit (bit (get_or cs from 0) i) (packed_from n 0 i (drop (suc from) cs)) (packed_from n 1 i (drop (suc from) cs)) (packed_double n 0 i (drop (suc from) cs)))

-- the digit that the code reads
pub digit_is : (v i : ℕ) → v / 2 ^ i % 2 ≡ mark_digit v i
unfolding mark_digit bit
digit_is v i = digit (v / 2 ^ i % 2) (omega arith)
  where
    digit : (x : ℕ) → x < 2 → x ≡ cond (eqb x 1) 1 0
    digit zero h = refl
    digit (suc zero) h = refl
    digit (suc (suc x)) h = omega arith

-- MARKS BY FOUR AND EIGHT

packed_none : (n k i : ℕ) → packed_from n k i [] ≡ 0
unfolding packed_from
packed_none zero k i = refl
packed_none (suc n) k i = refl

packed_add : (m n k i : ℕ) (cs : List ℕ) → packed_from (m + n) k i cs ≡ packed_from m k i cs + packed_from n (m + k) i (drop m cs)
unfolding packed_from
packed_add zero n k i cs =
    let all : zero + n ≡ n = omega arith in
    let here : zero + k ≡ k = omega arith in
    rw (all, here) (omega arith)
packed_add (suc m) n k i [] =
    let more : suc m + n ≡ suc (m + n) = omega arith in
    rw (more, packed_none n (suc m + k) i)
packed_add (suc m) n k i (c ∷ cs) =
    let more : suc m + n ≡ suc (m + n) = omega arith in
    let place : suc m + k ≡ m + suc k = omega arith in
    rw (more, place, packed_add m n (suc k) i cs) (omega arith)

up_two : (n i : ℕ) (cs : List ℕ) → packed_from n 2 i cs ≡ 4 * packed_from n 0 i cs
up_two n i cs = omega (arith, packed_double n 1 i cs, packed_double n 0 i cs)

up_four : (n i : ℕ) (cs : List ℕ) → packed_from n 4 i cs ≡ 16 * packed_from n 0 i cs
up_four n i cs = omega (arith, packed_double n 3 i cs, packed_double n 2 i cs, up_two n i cs)

module _ (i from : ℕ) (cs : List ℕ) where
  pub eight_packed : {low high : ℕ} → low ≡ packed_from 4 0 i (drop from cs) → high ≡ packed_from 4 0 i (drop (from + 4) cs) → low + 16 * high ≡ packed_from 8 0 i (drop from cs)
  eight_packed p q = omega (arith, p, q ∙ ap (λ (l : List ℕ). packed_from 4 0 i l) (sym (drop-drop 4 from cs)), packed_add 4 4 0 i (drop from cs), up_four 4 i (drop 4 (drop from cs)))

  -- four are left, and no more
  pub last_four : {byte : ℕ} → byte ≡ packed_from 4 0 i (drop from cs) → from + 4 ≡ length cs → byte ≡ packed_from 8 0 i (drop from cs)
  last_four p e =
      let none : packed_from 4 4 i (drop 4 (drop from cs)) ≡ 0 = rw (drop-drop 4 from cs, drop_of_length-le cs {i = from + 4} (omega arith)) (packed_none 4 4 i) in
      omega (arith, p, packed_add 4 4 0 i (drop from cs), none)

-- PACKED BYTES, one more
pub packed_snoc : (k i : ℕ) (cs : List ℕ) → packed (suc k) i cs ≡ packed k i cs ++ (packed_from 8 0 i (drop (8 * k) cs) ∷ [])
unfolding packed
packed_snoc zero i cs = refl
packed_snoc (suc k) i cs =
    let places : 8 + 8 * k ≡ 8 * suc k = omega arith in
    ap (λ (l : List ℕ). packed_from 8 0 i cs ∷ l)
    (packed_snoc k i (drop 8 cs)
    ∙ ap (λ (l : List ℕ). packed k i (drop 8 cs) ++ (packed_from 8 0 i l ∷ [])) (drop-drop (8 * k) 8 cs ∙ ap (λ (m : ℕ). drop m cs) places))

pub packed_long : (k i : ℕ) (cs : List ℕ) → length (packed k i cs) ≡ k
unfolding packed
packed_long zero i cs = refl
packed_long (suc k) i cs = ap suc (packed_long k i (drop 8 cs))

-- writing one more
pub marks_turn : (at count byte player mark : ℕ) {next after : ℕ} (array : List ℕ) {old between now : List ℕ} → byte < count → at + count ≤ length old →
    mark ≡ packed_from 8 0 player (drop (8 * byte) array) → Wrote at (packed byte player array) next old between → Wrote next (mark ∷ []) after between now →
    Wrote at (packed (byte + 1) player array) after old now
marks_turn at count byte player mark array within room is p q =
    let grown : packed (byte + 1) player array ≡ packed byte player array ++ (mark ∷ []) = rw (add-one, is) (packed_snoc byte player array) in
    let long = packed_long (byte + 1) player array in
    wrote_more (packed byte player array) (mark ∷ []) (packed (byte + 1) player array) grown (omega arith) p q
