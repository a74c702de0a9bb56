-- The laws of digits: a number's, the last one apart, and in places; bytes in hexadecimal, one more. Assumes nothing.
use mathlib.Core.Path.{◌≡◌, refl, sym, ap, ◌∙◌}
use mathlib.Core.Bool.{Bool, true, false, cond}
use mathlib.Core.List.{List, [], ◌∷◌, ◌++◌, append_assoc}
use Prim.Native.Nat.{ℕ, zero, suc, ◌+◌, ◌*◌, ◌-◌, ◌/◌, ◌%◌, ◌≤◌, ◌<◌}
use native.Mathlib.Omega.{arith}
use native.Mathlib.Numerals.{add-one}
use lib.Dec.{ltb, eqb, eqb→eq}
use lib.ListN.{length, get_or, take, replicate, length-append, length-replicate, replicate-append-replicate}
use lib.Seq.{length-take-le}
use borrow.Author.Tests.{lt-ltb, le-ltb, ltb-true, ltb-false, eq-eqb, ne_eqb}
use Rattle.xor.proofs.Table.{at}
use Rattle.writer.specs.Written.{Wrote}
use Rattle.writer.proofs.Laws.{wrote_then, wrote_more}
use Rattle.digits.specs.Digits.{digits, decimal, spaces, right_aligned, hex_digit, hex}

-- NUMBERS

-- ten to the power of one more than k
unfoldable pub power : (k : ℕ) → ℕ
power zero = 10
power (suc k) = 10 * power k

-- where the digits suffice, one more allowed makes no difference
digits_enough : (k v : ℕ) → v < power k → digits (suc (suc k)) v ≡ digits (suc k) v
unfolding digits power
digits_enough zero v h = rw (lt-ltb v 10 h)
digits_enough (suc k) v h =
    ap (λ (l : List ℕ). cond (ltb v 10) ((48 + v) ∷ []) (l ++ ((48 + v % 10) ∷ []))) (digits_enough k (v / 10) (omega arith))

-- a number of one digit, and of more: the last digit stands behind those of a tenth
pub decimal_one : (v : ℕ) → v < 10 → decimal v ≡ (48 + v) ∷ []
unfolding digits decimal
decimal_one v h = rw (lt-ltb v 10 h)

nine_digits : power 8 ≡ 1000000000
unfolding power
nine_digits = refl

pub ten_digits : power 9 ≡ 10000000000
unfolding power
ten_digits = refl

pub decimal_more : (v : ℕ) → 10 ≤ v → v < 4294967296 → decimal v ≡ decimal (v / 10) ++ ((48 + v % 10) ∷ [])
unfolding digits decimal
decimal_more v h most =
    rw (le-ltb v 10 h) (ap (λ (l : List ℕ). l ++ ((48 + v % 10) ∷ [])) (sym (digits_enough 8 (v / 10) (omega (arith, nine_digits)))))

pub length_more : (v : ℕ) → 10 ≤ v → v < 4294967296 → length (decimal v) ≡ length (decimal (v / 10)) + 1
length_more v h most = ap length (decimal_more v h most) ∙ length-append (decimal (v / 10)) ((48 + v % 10) ∷ [])

digits_few : (k v : ℕ) → length (digits k v) ≤ k
unfolding digits
digits_few zero v = omega arith
digits_few (suc k) v = either (ltb v 10) (digits_few k (v / 10))
  where
    either : (t : Bool) → length (digits k (v / 10)) ≤ k → length (cond t ((48 + v) ∷ []) (digits k (v / 10) ++ ((48 + v % 10) ∷ []))) ≤ suc k
    either true h = omega arith
    either false h = omega (arith, length-append (digits k (v / 10)) ((48 + v % 10) ∷ []))

pub decimal_few : (v : ℕ) → length (decimal v) ≤ 10
unfolding decimal
decimal_few v = digits_few 10 v

-- a number below a power of ten has no more digits than that many
digits_below : (j k v : ℕ) → v < power j → length (digits k v) ≤ suc j
unfolding digits power
digits_below j zero v h = omega arith
digits_below zero (suc k) v h = rw (lt-ltb v 10 h) (omega arith)
digits_below (suc j) (suc k) v h = either (ltb v 10) (digits_below j k (v / 10) (omega arith))
  where
    either : (t : Bool) → length (digits k (v / 10)) ≤ suc j → length (cond t ((48 + v) ∷ []) (digits k (v / 10) ++ ((48 + v % 10) ∷ []))) ≤ suc (suc j)
    either true h = omega arith
    either false h = omega (arith, length-append (digits k (v / 10)) ((48 + v % 10) ∷ []))

five_digits : power 4 ≡ 100000
unfolding power
five_digits = refl

pub decimal_five : (v : ℕ) → v < 100000 → length (decimal v) ≤ 5
unfolding decimal
decimal_five v h = digits_below 4 10 v (omega (arith, five_digits))

-- IN PLACES

pub decimal_some : (v : ℕ) → 1 ≤ length (decimal v)
unfolding digits decimal
decimal_some v = either (ltb v 10)
  where
    either : (t : Bool) → 1 ≤ length (cond t ((48 + v) ∷ []) (digits 9 (v / 10) ++ ((48 + v % 10) ∷ [])))
    either true = omega arith
    either false = omega (arith, length-append (digits 9 (v / 10)) ((48 + v % 10) ∷ []))

-- what stands in a place of a number, by what the number is from there up: its last digit, or a space where nothing is left
abbrev pub in_place : ℕ → ℕ
in_place v = cond (eqb v 0) 32 (48 + v % 10)

-- so many places, with zero as spaces alone
unfoldable pub places : (k v : ℕ) → List ℕ
places zero v = []
places (suc k) v = places k (v / 10) ++ (in_place v ∷ [])

places_none : (k v : ℕ) → v ≡ 0 → places k v ≡ spaces k
unfolding places spaces
places_none zero v e = refl
places_none (suc k) v e =
    let blank : in_place v ≡ 32 = rw (eq-eqb v 0 e) refl in
    let one_more : k + 1 ≡ suc k = omega arith in
    rw (places_none k (v / 10) (omega arith), blank, replicate-append-replicate {A = ℕ} k 1 32, one_more)

places_some : (k v : ℕ) → 1 ≤ v → places (suc k) v ≡ places k (v / 10) ++ ((48 + v % 10) ∷ [])
unfolding places
places_some k v h = rw (ne_eqb v 0 (λ e. omega arith))

-- right-aligned: the last digit, and before it places
aligned_few : (k v : ℕ) → v < 10 → right_aligned (suc k) v ≡ places k (v / 10) ++ ((48 + v % 10) ∷ [])
unfolding right_aligned
aligned_few k v h =
    let alone : length (decimal v) ≡ 1 = ap length (decimal_one v h) in
    let before : suc k - length (decimal v) ≡ k = omega arith in
    let last : v % 10 ≡ v = omega arith in
    rw (before, decimal_one v h, last, places_none k (v / 10) (omega arith))

aligned_more : (k v : ℕ) → 10 ≤ v → v < 4294967296 → right_aligned (suc k) (v / 10) ≡ places k (v / 10 / 10) ++ ((48 + v / 10 % 10) ∷ []) →
    right_aligned (suc (suc k)) v ≡ places (suc k) (v / 10) ++ ((48 + v % 10) ∷ [])
unfolding right_aligned
aligned_more k v h most tenth =
    let shorter : suc (suc k) - length (decimal v) ≡ suc k - length (decimal (v / 10)) = omega (arith, length_more v h most) in
    let last = (48 + v % 10) ∷ [] in
    rw (shorter, decimal_more v h most)
    (sym (append_assoc (spaces (suc k - length (decimal (v / 10)))) (decimal (v / 10)) last)
    ∙ ap (λ (l : List ℕ). l ++ last) (tenth ∙ sym (places_some k (v / 10) (omega arith))))

-- a number has one digit or more
by_digits : {P : Type 0} (v : ℕ) → (v < 10 → P) → (10 ≤ v → P) → P
by_digits {P} v few more = go (ltb v 10) refl
  where
    go : (t : Bool) → ltb v 10 ≡ t → P
    go true e = few (ltb-true v 10 e)
    go false e = more (ltb-false v 10 e)

pub aligned_last : (k v : ℕ) → v < 4294967296 → length (decimal v) ≤ suc k → right_aligned (suc k) v ≡ places k (v / 10) ++ ((48 + v % 10) ∷ [])
aligned_last zero v most fits =
    by_digits v (λ h. aligned_few zero v h)
    (λ h. let none : ⊥ = omega (arith, length_more v h most, decimal_some (v / 10)) in absurd none)
aligned_last (suc k) v most fits =
    by_digits v (λ h. aligned_few (suc k) v h)
    (λ h. aligned_more k v h most (aligned_last k (v / 10) (omega arith) (omega (arith, length_more v h most))))

-- five places, written out as the code divides
pub five_places : (v : ℕ) → v < 4294967296 → length (decimal v) ≤ 5 →
    right_aligned 5 v ≡ in_place (v / 10000) ∷ in_place (v / 1000) ∷ in_place (v / 100) ∷ in_place (v / 10) ∷ (48 + v % 10) ∷ []
unfolding places
five_places v most fits =
    let a : v / 10 / 10 ≡ v / 100 = omega arith in
    let b : v / 100 / 10 ≡ v / 1000 = omega arith in
    let c : v / 1000 / 10 ≡ v / 10000 = omega arith in
    rw (aligned_last 4 v most fits, a, b, c)

-- five bytes written one behind another
pub wrote_five : (v : ℕ) {at a b c d next : ℕ} (first second third fourth fifth : ℕ) {old one two three four now : List ℕ} →
    v < 4294967296 → length (decimal v) ≤ 5 → at + 5 ≤ length old → first ≡ in_place (v / 10000) → second ≡ in_place (v / 1000) →
    third ≡ in_place (v / 100) → fourth ≡ in_place (v / 10) → fifth ≡ 48 + v % 10 → Wrote at (first ∷ []) a old one → Wrote a (second ∷ []) b one two →
    Wrote b (third ∷ []) c two three → Wrote c (fourth ∷ []) d three four → Wrote d (fifth ∷ []) next four now → Wrote at (right_aligned 5 v) next old now
wrote_five v first second third fourth fifth most fits room e f g h i p q r s t =
    let text : right_aligned 5 v ≡ first ∷ second ∷ third ∷ fourth ∷ fifth ∷ [] = rw (e, f, g, h, i) (five_places v most fits) in
    rw text
    (wrote_then (first ∷ second ∷ third ∷ fourth ∷ []) (fifth ∷ []) (omega arith)
    (wrote_then (first ∷ second ∷ third ∷ []) (fourth ∷ []) (omega arith)
    (wrote_then (first ∷ second ∷ []) (third ∷ []) (omega arith)
    (wrote_then (first ∷ []) (second ∷ []) (omega arith) p q) r) s) t)

pub aligned_long : (k v : ℕ) → length (decimal v) ≤ k → length (right_aligned k v) ≡ k
unfolding right_aligned spaces
aligned_long k v fits =
    length-append (replicate (k - length (decimal v)) 32) (decimal v) ∙ omega (arith, length-replicate {A = ℕ} (k - length (decimal v)) 32)

-- HEXADECIMAL

-- the digits stand in a table
abbrev pub hex_table : List ℕ
hex_table = 48 ∷ 49 ∷ 50 ∷ 51 ∷ 52 ∷ 53 ∷ 54 ∷ 55 ∷ 56 ∷ 57 ∷ 65 ∷ 66 ∷ 67 ∷ 68 ∷ 69 ∷ 70 ∷ []

-- an entry is right that is its place's digit
abbrev pub right : ℕ → ℕ → Bool
right v digit = eqb digit (hex_digit v)

pub table_right : (v digit : ℕ) → v < 16 → digit ≡ get_or hex_table v 0 → digit ≡ hex_digit v
unfolding hex_digit
table_right v digit inside e = e ∙ eqb→eq _ _ (at right hex_table tt v inside)

-- the two digits of a byte
unfoldable pub pair : ℕ → List ℕ
pair x = hex_digit (x / 16) ∷ hex_digit (x % 16) ∷ []

hex_snoc : (i : ℕ) (bs : List ℕ) → i < length bs → hex (take (suc i) bs) ≡ hex (take i bs) ++ pair (get_or bs i 0)
unfolding hex pair
hex_snoc i [] h = let none : ⊥ = omega arith in absurd none
hex_snoc zero (x ∷ bs) h = refl
hex_snoc (suc i) (x ∷ bs) h = ap (λ (l : List ℕ). hex_digit (x / 16) ∷ hex_digit (x % 16) ∷ l) (hex_snoc i bs (omega arith))

pub hex_long : (bs : List ℕ) → length (hex bs) ≡ 2 * length bs
unfolding hex
hex_long [] = refl
hex_long (x ∷ bs) = omega (arith, hex_long bs)

pub hex_front : (i : ℕ) (bs : List ℕ) → i ≤ length bs → length (hex (take i bs)) ≡ 2 * i
hex_front i bs h = hex_long (take i bs) ∙ ap (λ (n : ℕ). 2 * n) (length-take-le i bs h)

-- writing the digits of one byte more
pub hex_turn : (at i high low : ℕ) {next half after : ℕ} (bs : List ℕ) {old between more now : List ℕ} → i < length bs → at + length (hex bs) ≤ length old →
    Wrote at (hex (take i bs)) next old between → Wrote next (high ∷ []) half between more → Wrote half (low ∷ []) after more now →
    high ≡ hex_digit (get_or bs i 0 / 16) → low ≡ hex_digit (get_or bs i 0 % 16) → Wrote at (hex (take (i + 1) bs)) after old now
unfolding pair
hex_turn at i high low bs within room p q r h l =
    let before = hex (take i bs) in
    let grown : hex (take (i + 1) bs) ≡ before ++ (high ∷ low ∷ []) = rw (add-one, h, l) (hex_snoc i bs within) in
    let long = hex_front i bs (omega arith) in
    let whole = hex_long bs in
    let longer = hex_front (i + 1) bs (omega arith) in
    let both : before ++ (high ∷ []) ++ (low ∷ []) ≡ before ++ (high ∷ low ∷ []) = append_assoc before (high ∷ []) (low ∷ []) in
    wrote_more (before ++ (high ∷ [])) (low ∷ []) (hex (take (i + 1) bs)) (grown ∙ sym both) (omega arith)
    (wrote_then before (high ∷ []) (omega arith) p q) r
