-- The laws of XOR, once for all widths and lengths: of two numbers bit by bit, then of two byte strings place by place, and how the
-- latter goes with take, drop and ++. A `Word n` is a string of exactly n bytes. Assumes nothing.
use mathlib.Core.Path.{◌≡◌, refl, sym, ap, ◌∙◌}
use mathlib.Core.Bool.{Bool, true, false, ◌&&◌, false≢true}
use mathlib.Core.List.{List, [], ◌∷◌, ◌++◌}
use Prim.Native.Nat.{ℕ, zero, suc, ◌+◌, ◌*◌, ◌-◌, ◌/◌, ◌%◌, ◌^◌, ◌<◌, ◌≤◌}
use native.Mathlib.Omega.{arith}
use native.Mathlib.Nat.{not-suc-le-zero}
use lib.Bits.{bit_xor, differ, xor_step}
use lib.Dec.{ltb}
use lib.ListN.{length, get_or, take, drop, replicate, length-append, length-replicate, length-drop}
use lib.Seq.{length-take-le}
use borrow.Author.Tests.{ltb-true, lt-ltb}
use Rattle.xor.specs.Xor.{xor_from, xors, zeros, bytes_good}

-- CONJUNCTIONS of tests, taken apart and put together

pub and_left : (a b : Bool) → (a && b) ≡ true → a ≡ true
and_left true b h = refl
and_left false b h = h

pub and_right : (a b : Bool) → (a && b) ≡ true → b ≡ true
and_right true b h = h
and_right false b h = absurd (false≢true h)

pub and_both : (a b : Bool) → a ≡ true → b ≡ true → (a && b) ≡ true
and_both true b p q = q
and_both false b p q = p

-- TWO NUMBERS, their lowest k bits

pub xor_from_lt : (k a b : ℕ) → xor_from k a b < 2 ^ k
unfolding xor_from
xor_from_lt zero a b = omega arith
xor_from_lt (suc k) a b = omega (arith, xor_from_lt k (a / 2) (b / 2))

pub xor_from_comm : (k a b : ℕ) → xor_from k a b ≡ xor_from k b a
unfolding xor_from
xor_from_comm zero a b = refl
xor_from_comm (suc k) a b = omega (arith, xor_from_comm k (a / 2) (b / 2))

-- half of a number whose lowest bit is split off
half : (r x : ℕ) → r < 2 → (r + 2 * x) / 2 ≡ x
half r x h = omega arith

pub xor_from_assoc : (k a b c : ℕ) → xor_from k (xor_from k a b) c ≡ xor_from k a (xor_from k b c)
unfolding xor_from
xor_from_assoc zero a b c = refl
xor_from_assoc (suc k) a b c =
    let left = half ((a + b) % 2) (xor_from k (a / 2) (b / 2)) (omega arith) in
    let right = half ((b + c) % 2) (xor_from k (b / 2) (c / 2)) (omega arith) in
    rw (left, right) (omega (arith, xor_from_assoc k (a / 2) (b / 2) (c / 2)))

pub xor_from_self : (k a : ℕ) → xor_from k a a ≡ 0
unfolding xor_from
xor_from_self zero a = refl
xor_from_self (suc k) a = omega (arith, xor_from_self k (a / 2))

pub xor_from_zero : (k a : ℕ) → a < 2 ^ k → xor_from k a 0 ≡ a
unfolding xor_from
xor_from_zero zero a h = omega arith
xor_from_zero (suc k) a h = omega (arith, xor_from_zero k (a / 2) (omega arith))

-- THE MACHINE'S `^` at every width: on numbers of k bits it is xor-from k

differ_bits : (x y : ℕ) → x < 2 → y < 2 → differ x y ≡ (x + y) % 2
differ_bits zero zero p q = refl
differ_bits zero (suc zero) p q = refl
differ_bits zero (suc (suc y)) p q = omega arith
differ_bits (suc zero) zero p q = refl
differ_bits (suc zero) (suc zero) p q = refl
differ_bits (suc zero) (suc (suc y)) p q = omega arith
differ_bits (suc (suc x)) y p q = omega arith

differ_mod : (a b : ℕ) → differ (a % 2) (b % 2) ≡ (a + b) % 2
differ_mod a b = differ_bits (a % 2) (b % 2) (omega arith) (omega arith) ∙ omega arith

pub xor_is : (k a b : ℕ) → a < 2 ^ k → b < 2 ^ k → bit_xor a b ≡ xor_from k a b
unfolding xor_from
xor_is zero a b ha hb =
    let a_zero : a ≡ 0 = omega arith in
    let b_zero : b ≡ 0 = omega arith in
    rw (a_zero, b_zero)
xor_is (suc k) a b ha hb =
    let ih = xor_is k (a / 2) (b / 2) (omega arith) (omega arith) in
    rw xor_step (rw (ih, differ_mod) (omega arith))

-- TWO BYTE STRINGS

-- a string of exactly n bytes
pub record Word (n : ℕ) (xs : List ℕ) : Type 0 where
  pub long : length xs ≡ n
  pub good : bytes_good xs ≡ true

pub xors_comm : (xs ys : List ℕ) → xors xs ys ≡ xors ys xs
unfolding xors
xors_comm [] [] = refl
xors_comm [] (y ∷ ys) = refl
xors_comm (x ∷ xs) [] = refl
xors_comm (x ∷ xs) (y ∷ ys) = rw (xor_from_comm 8 x y, xors_comm xs ys)

pub xors_assoc : (xs ys zs : List ℕ) → xors (xors xs ys) zs ≡ xors xs (xors ys zs)
unfolding xors
xors_assoc [] ys zs = refl
xors_assoc (x ∷ xs) [] zs = refl
xors_assoc (x ∷ xs) (y ∷ ys) [] = refl
xors_assoc (x ∷ xs) (y ∷ ys) (z ∷ zs) = rw (xor_from_assoc 8 x y z, xors_assoc xs ys zs)

pub xors_left_comm : (xs ys zs : List ℕ) → xors xs (xors ys zs) ≡ xors ys (xors xs zs)
xors_left_comm xs ys zs = sym (xors_assoc xs ys zs) ∙ rw (xors_comm xs ys) (xors_assoc ys xs zs)

pub length-xors : (xs ys : List ℕ) → length xs ≡ length ys → length (xors xs ys) ≡ length xs
unfolding xors
length-xors [] ys h = refl
length-xors (x ∷ xs) [] h = sym h
length-xors (x ∷ xs) (y ∷ ys) h = ap suc (length-xors xs ys (omega arith))

pub get_or-xors : (xs ys : List ℕ) (i : ℕ) → length xs ≡ length ys → i < length xs → get_or (xors xs ys) i 0 ≡ xor_from 8 (get_or xs i 0) (get_or ys i 0)
unfolding xors
get_or-xors [] ys i h p = absurd (not-suc-le-zero p)
get_or-xors (x ∷ xs) [] i h p = let none : ⊥ = omega arith in absurd none
get_or-xors (x ∷ xs) (y ∷ ys) zero h p = refl
get_or-xors (x ∷ xs) (y ∷ ys) (suc i) h p = get_or-xors xs ys i (omega arith) (omega arith)

pub take-xors : (k : ℕ) (xs ys : List ℕ) → take k (xors xs ys) ≡ xors (take k xs) (take k ys)
unfolding xors
take-xors zero xs ys = refl
take-xors (suc k) [] ys = refl
take-xors (suc k) (x ∷ xs) [] = refl
take-xors (suc k) (x ∷ xs) (y ∷ ys) = ap (λ (l : List ℕ). xor_from 8 x y ∷ l) (take-xors k xs ys)

-- nothing is XORed with an empty string
pub xors_none : (xs : List ℕ) → xors xs [] ≡ []
unfolding xors
xors_none [] = refl
xors_none (x ∷ xs) = refl

pub drop-xors : (k : ℕ) (xs ys : List ℕ) → drop k (xors xs ys) ≡ xors (drop k xs) (drop k ys)
unfolding xors
drop-xors zero xs ys = refl
drop-xors (suc k) [] ys = refl
drop-xors (suc k) (x ∷ xs) [] = sym (xors_none (drop k xs))
drop-xors (suc k) (x ∷ xs) (y ∷ ys) = drop-xors k xs ys

pub append_xors : (xs us ys vs : List ℕ) → length xs ≡ length us → xors (xs ++ ys) (us ++ vs) ≡ xors xs us ++ xors ys vs
unfolding xors
append_xors [] [] ys vs h = refl
append_xors [] (u ∷ us) ys vs h = let none : ⊥ = omega arith in absurd none
append_xors (x ∷ xs) [] ys vs h = let none : ⊥ = omega arith in absurd none
append_xors (x ∷ xs) (u ∷ us) ys vs h = ap (λ (l : List ℕ). xor_from 8 x u ∷ l) (append_xors xs us ys vs (omega arith))

pub xors_self : (xs : List ℕ) → xors xs xs ≡ zeros (length xs)
unfolding xors zeros
xors_self [] = refl
xors_self (x ∷ xs) = ap (λ (n : ℕ). n ∷ xors xs xs) (xor_from_self 8 x) ∙ ap (λ (l : List ℕ). 0 ∷ l) (xors_self xs)

-- BYTES: what is good stays so under ++, take and drop, and in parts

pub good_cons : (x : ℕ) (xs : List ℕ) → x < 256 → bytes_good xs ≡ true → bytes_good (x ∷ xs) ≡ true
unfolding bytes_good
good_cons x xs h g = and_both (ltb x 256) (bytes_good xs) (lt-ltb x 256 h) g

pub good_head : (x : ℕ) (xs : List ℕ) → bytes_good (x ∷ xs) ≡ true → x < 256
unfolding bytes_good
good_head x xs g = ltb-true x 256 (and_left (ltb x 256) (bytes_good xs) g)

pub good_tail : (x : ℕ) (xs : List ℕ) → bytes_good (x ∷ xs) ≡ true → bytes_good xs ≡ true
unfolding bytes_good
good_tail x xs g = and_right (ltb x 256) (bytes_good xs) g

pub good_append : (xs ys : List ℕ) → bytes_good xs ≡ true → bytes_good ys ≡ true → bytes_good (xs ++ ys) ≡ true
good_append [] ys g h = h
good_append (x ∷ xs) ys g h = good_cons x (xs ++ ys) (good_head x xs g) (good_append xs ys (good_tail x xs g) h)

pub good_left : (xs ys : List ℕ) → bytes_good (xs ++ ys) ≡ true → bytes_good xs ≡ true
unfolding bytes_good
good_left [] ys g = refl
good_left (x ∷ xs) ys g = good_cons x xs (good_head x (xs ++ ys) g) (good_left xs ys (good_tail x (xs ++ ys) g))

pub good_right : (xs ys : List ℕ) → bytes_good (xs ++ ys) ≡ true → bytes_good ys ≡ true
good_right [] ys g = g
good_right (x ∷ xs) ys g = good_right xs ys (good_tail x (xs ++ ys) g)

pub good_take : (k : ℕ) (xs : List ℕ) → bytes_good xs ≡ true → bytes_good (take k xs) ≡ true
unfolding bytes_good
good_take zero xs g = refl
good_take (suc k) [] g = refl
good_take (suc k) (x ∷ xs) g = good_cons x (take k xs) (good_head x xs g) (good_take k xs (good_tail x xs g))

pub good_drop : (k : ℕ) (xs : List ℕ) → bytes_good xs ≡ true → bytes_good (drop k xs) ≡ true
good_drop zero xs g = g
good_drop (suc k) [] g = g
good_drop (suc k) (x ∷ xs) g = good_drop k xs (good_tail x xs g)

pub good_at : (xs : List ℕ) (i : ℕ) → bytes_good xs ≡ true → get_or xs i 0 < 256
good_at [] i g = omega arith
good_at (x ∷ xs) zero g = good_head x xs g
good_at (x ∷ xs) (suc i) g = good_at xs i (good_tail x xs g)

-- and back: a list whose entries are all bytes is good
pub good_by_entries : (xs : List ℕ) → ((i : ℕ) → i < length xs → get_or xs i 0 < 256) → bytes_good xs ≡ true
unfolding bytes_good
good_by_entries [] h = refl
good_by_entries (x ∷ xs) h = good_cons x xs (h 0 (omega arith)) (good_by_entries xs (λ i p. h (suc i) (omega arith)))

pub good_zeros : (n : ℕ) → bytes_good (zeros n) ≡ true
unfolding bytes_good zeros
good_zeros zero = refl
good_zeros (suc n) = good_cons 0 (replicate n 0) (omega arith) (good_zeros n)

-- an XOR is of bytes, whatever goes in
pub good_xors : (xs ys : List ℕ) → bytes_good (xors xs ys) ≡ true
unfolding xors bytes_good
good_xors [] ys = refl
good_xors (x ∷ xs) [] = refl
good_xors (x ∷ xs) (y ∷ ys) = good_cons (xor_from 8 x y) (xors xs ys) (xor_from_lt 8 x y) (good_xors xs ys)

-- WORDS: strings of one length, closed under XOR, in which each is its own inverse and the zeros are neutral

pub word_xors : {n : ℕ} (xs ys : List ℕ) → Word n xs → Word n ys → Word n (xors xs ys)
word_xors xs ys p q =
    record { long = length-xors xs ys (p.long ∙ sym q.long) ∙ p.long; good = good_xors xs ys }

pub word_zeros : (n : ℕ) → Word n (zeros n)
unfolding zeros
word_zeros n = record { long = length-replicate n 0; good = good_zeros n }

pub word_append : {m n : ℕ} (xs ys : List ℕ) → Word m xs → Word n ys → Word (m + n) (xs ++ ys)
word_append xs ys p q =
    record { long = length-append xs ys ∙ omega arith; good = good_append xs ys p.good q.good }

pub word_take : {n : ℕ} (k : ℕ) (xs : List ℕ) → k ≤ n → Word n xs → Word k (take k xs)
word_take k xs h p = record { long = length-take-le k xs (omega arith); good = good_take k xs p.good }

pub word_drop : {n : ℕ} (k : ℕ) (xs : List ℕ) → Word n xs → Word (n - k) (drop k xs)
word_drop k xs p = record { long = length-drop k xs ∙ omega arith; good = good_drop k xs p.good }

pub xors_zeros_right : (n : ℕ) (xs : List ℕ) → Word n xs → xors xs (zeros n) ≡ xs
unfolding xors zeros
xors_zeros_right zero [] p = refl
xors_zeros_right zero (x ∷ xs) p = let none : ⊥ = omega arith in absurd none
xors_zeros_right (suc n) [] p = refl
xors_zeros_right (suc n) (x ∷ xs) p =
    let tail : Word n xs = record { long = omega arith; good = good_tail x xs p.good } in
    rw (xor_from_zero 8 x (good_head x xs p.good), xors_zeros_right n xs tail)

pub xors_zeros_left : (n : ℕ) (xs : List ℕ) → Word n xs → xors (zeros n) xs ≡ xs
xors_zeros_left n xs p = xors_comm (zeros n) xs ∙ xors_zeros_right n xs p

pub xors_cancel : (n : ℕ) (xs ys : List ℕ) → Word n xs → Word n ys → xors xs (xors xs ys) ≡ ys
xors_cancel n xs ys p q =
    sym (xors_assoc xs xs ys) ∙ rw (xors_self xs, p.long) (xors_zeros_left n ys q)
