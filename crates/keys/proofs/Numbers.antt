-- Numbers in groups of seven bits, and headers: what is written is read back, and what is read is the only writing of its numbers.
-- Assumes nothing.
use mathlib.Core.Path.{◌≡◌, refl, sym, ap, ◌∙◌, subst}
use mathlib.Core.Bool.{Bool, true, false, ◌&&◌, cond, false≢true}
use mathlib.Core.List.{List, [], ◌∷◌, ◌++◌, append_assoc, append-nil}
use Prim.Native.Nat.{ℕ, zero, suc, ◌+◌, ◌*◌, ◌-◌, ◌/◌, ◌%◌, ◌≤◌, ◌<◌}
use native.Mathlib.Omega.{arith}
use lib.Dec.{ltb}
use lib.ListN.{length, get_or, take, drop, length-append, take-append-drop}
use lib.Seq.{take-suc}
use borrow.Author.Tests.{ltb-true, ltb-false, lt-ltb, le-ltb}
use Rattle.xor.specs.Xor.{bytes_good}
use Rattle.xor.proofs.Laws.{and_left, and_right, good_head, good_tail, good_cons, good_append, good_right}
use Rattle.grid.specs.Grid.{Board, board}
use Rattle.keys.specs.Keys.{groups, number_bytes, numbers_written, header, Got, got, none_got, number_in, numbers_in, head_by_numbers, head_of, head_in}

-- the numbers that have at most three groups are those below this
abbrev pub number_bound : ℕ
number_bound = 2097152

-- ONE NUMBER WRITTEN

pub one_group : (v : ℕ) → v < 128 → number_bytes v ≡ v ∷ []
unfolding number_bytes groups
one_group v h = rw (lt-ltb v 128 h)

pub two_groups : (v : ℕ) → 128 ≤ v → v < 16384 → number_bytes v ≡ (v % 128 + 128) ∷ v / 128 ∷ []
unfolding number_bytes groups
two_groups v h k =
    let last : v / 128 < 128 = omega arith in
    rw (le-ltb v 128 h, lt-ltb (v / 128) 128 last)

pub three_groups : (v : ℕ) → 16384 ≤ v → v < number_bound → number_bytes v ≡ (v % 128 + 128) ∷ (v / 128 % 128 + 128) ∷ v / 128 / 128 ∷ []
unfolding number_bytes groups
three_groups v h k =
    let first : 128 ≤ v = omega arith in
    let second : 128 ≤ v / 128 = omega arith in
    let last : v / 128 / 128 < 128 = omega arith in
    rw (le-ltb v 128 first, le-ltb (v / 128) 128 second, lt-ltb (v / 128 / 128) 128 last)

-- ONE NUMBER READ

pub reads_one : (a : ℕ) (xs : List ℕ) → a < 128 → number_in (a ∷ xs) ≡ got a xs
unfolding number_in
reads_one a [] h = rw (lt-ltb a 128 h)
reads_one a (b ∷ []) h = rw (lt-ltb a 128 h)
reads_one a (b ∷ c ∷ xs) h = rw (lt-ltb a 128 h)

pub reads_two : (a b : ℕ) (xs : List ℕ) → 128 ≤ a → b < 128 → 0 < b → number_in (a ∷ b ∷ xs) ≡ got (a - 128 + 128 * b) xs
unfolding number_in
reads_two a b [] h k z = rw (le-ltb a 128 h, lt-ltb b 128 k, lt-ltb 0 b z)
reads_two a b (c ∷ xs) h k z = rw (le-ltb a 128 h, lt-ltb b 128 k, lt-ltb 0 b z)

pub reads_three : (a b c : ℕ) (xs : List ℕ) → 128 ≤ a → 128 ≤ b → c < 128 → 0 < c →
    number_in (a ∷ b ∷ c ∷ xs) ≡ got (a - 128 + 128 * (b - 128) + 16384 * c) xs
unfolding number_in
reads_three a b c xs h k m z = rw (le-ltb a 128 h, le-ltb b 128 k, lt-ltb c 128 m, lt-ltb 0 c z)

-- the strings that begin with a number, by its groups
pub data Begins : List ℕ → Type 0 where
  one : {a : ℕ} {xs : List ℕ} → a < 128 → Begins (a ∷ xs)
  two : {a b : ℕ} {xs : List ℕ} → 128 ≤ a → b < 128 → 0 < b → Begins (a ∷ b ∷ xs)
  three : {a b c : ℕ} {xs : List ℕ} → 128 ≤ a → 128 ≤ b → c < 128 → 0 < c → Begins (a ∷ b ∷ c ∷ xs)

-- a choice that is good, by its test
good_choice : {P : Type 0} (t : Bool) (x y : Got) → (cond t x y).good ≡ true → (t ≡ true → x.good ≡ true → P) → (t ≡ false → y.good ≡ true → P) → P
good_choice true x y h yes_case no_case = yes_case refl h
good_choice false x y h yes_case no_case = no_case refl h

-- where there is a number, the string begins with one, two or three groups, the last of them not zero unless it is the first
pub begins : (ks : List ℕ) → (number_in ks).good ≡ true → Begins ks
unfolding number_in
begins [] h = absurd (false≢true h)
begins (a ∷ []) h =
    good_choice (ltb a 128) (got a []) none_got h
    (λ e g. one (ltb-true a 128 e))
    (λ e g. absurd (false≢true g))
begins (a ∷ b ∷ []) h =
    let two_of = got (a - 128 + 128 * b) [] in
    good_choice (ltb a 128) (got a (b ∷ [])) (cond (ltb b 128 && ltb 0 b) two_of none_got) h
    (λ e g. one (ltb-true a 128 e))
    (λ e g. good_choice (ltb b 128 && ltb 0 b) two_of none_got g
    (λ k z. two (ltb-false a 128 e) (ltb-true b 128 (and_left (ltb b 128) (ltb 0 b) k)) (ltb-true 0 b (and_right (ltb b 128) (ltb 0 b) k)))
    (λ k z. absurd (false≢true z)))
begins (a ∷ b ∷ c ∷ xs) h =
    let two_of = got (a - 128 + 128 * b) (c ∷ xs) in
    let three_of = got (a - 128 + 128 * (b - 128) + 16384 * c) xs in
    let at_two = cond (ltb 0 b) two_of none_got in
    let at_three = cond (ltb c 128 && ltb 0 c) three_of none_got in
    good_choice (ltb a 128) (got a (b ∷ c ∷ xs)) (cond (ltb b 128) at_two at_three) h
    (λ e g. one (ltb-true a 128 e))
    (λ e g. good_choice (ltb b 128) at_two at_three g
    (λ k g2. good_choice (ltb 0 b) two_of none_got g2
    (λ z g3. two (ltb-false a 128 e) (ltb-true b 128 k) (ltb-true 0 b z))
    (λ z g3. absurd (false≢true g3)))
    (λ k g2. good_choice (ltb c 128 && ltb 0 c) three_of none_got g2
    (λ z g3. three (ltb-false a 128 e) (ltb-false b 128 k) (ltb-true c 128 (and_left (ltb c 128) (ltb 0 c) z)) (ltb-true 0 c (and_right (ltb c 128) (ltb 0 c) z)))
    (λ z g3. absurd (false≢true g3))))

-- A NUMBER READ is the only writing of its value, and stands in front of what is left

written_two : (a b : ℕ) → 128 ≤ a → a < 256 → b < 128 → 0 < b → number_bytes (a - 128 + 128 * b) ≡ a ∷ b ∷ []
written_two a b h k m z =
    let v = a - 128 + 128 * b in
    let first : v % 128 + 128 ≡ a = omega arith in
    let last : v / 128 ≡ b = omega arith in
    two_groups v (omega arith) (omega arith) ∙ rw (first, last)

low_group : (x y : ℕ) → x < 128 → (x + 128 * y) % 128 ≡ x
low_group x y h = omega arith

high_groups : (x y : ℕ) → x < 128 → (x + 128 * y) / 128 ≡ y
high_groups x y h = omega arith

written_three : (a b c : ℕ) → 128 ≤ a → a < 256 → 128 ≤ b → b < 256 → c < 128 → 0 < c →
    number_bytes (a - 128 + 128 * (b - 128) + 16384 * c) ≡ a ∷ b ∷ c ∷ []
written_three a b c h k m n o z =
    let high = b - 128 + 128 * c in
    let v : a - 128 + 128 * (b - 128) + 16384 * c ≡ a - 128 + 128 * high = omega arith in
    let first : a - 128 + 128 ≡ a = omega arith in
    let second : b - 128 + 128 ≡ b = omega arith in
    rw (v, three_groups (a - 128 + 128 * high) (omega arith) (omega arith))
    (rw (low_group (a - 128) high (omega arith), high_groups (a - 128) high (omega arith))
    (rw (low_group (b - 128) c (omega arith), high_groups (b - 128) c (omega arith), first, second)))

pub number_reads : (ks : List ℕ) → bytes_good ks ≡ true → (number_in ks).good ≡ true → ks ≡ number_bytes (number_in ks).value ++ (number_in ks).rest
unfolding got
number_reads ks g h = go ks g (begins ks h)
  where
    go : (ks : List ℕ) → bytes_good ks ≡ true → Begins ks → ks ≡ number_bytes (number_in ks).value ++ (number_in ks).rest
    go ks g (one {a = a} {xs = xs} h) = rw (reads_one a xs h, one_group a h)
    go ks g (two {a = a} {b = b} {xs = xs} h k z) = rw (reads_two a b xs h k z, written_two a b h (good_head a (b ∷ xs) g) k z)
    go ks g (three {a = a} {b = b} {c = c} {xs = xs} h k m z) =
        let tail = good_tail a (b ∷ c ∷ xs) g in
        rw (reads_three a b c xs h k m z, written_three a b c h (good_head a (b ∷ c ∷ xs) g) k (good_head b (c ∷ xs) tail) m z)

-- A NUMBER WRITTEN is read back, whatever stands behind it

pub number_read_back : (v : ℕ) (xs : List ℕ) → v < number_bound → number_in (number_bytes v ++ xs) ≡ got v xs
number_read_back v xs h = by_one (ltb v 128) refl
  where
    by_two : (t : Bool) → ltb v 16384 ≡ t → 128 ≤ v → number_in (number_bytes v ++ xs) ≡ got v xs
    by_two true e k =
        let value : v % 128 + 128 - 128 + 128 * (v / 128) ≡ v = omega arith in
        rw (two_groups v k (ltb-true v 16384 e), reads_two (v % 128 + 128) (v / 128) xs (omega arith) (omega (arith, ltb-true v 16384 e)) (omega arith), value)
    by_two false e k =
        let large = ltb-false v 16384 e in
        let value : v % 128 + 128 - 128 + 128 * (v / 128 % 128 + 128 - 128) + 16384 * (v / 128 / 128) ≡ v = omega arith in
        rw (
          three_groups v large h,
          reads_three (v % 128 + 128) (v / 128 % 128 + 128) (v / 128 / 128) xs (omega arith) (omega arith) (omega arith) (omega arith),
          value,
        )

    by_one : (t : Bool) → ltb v 128 ≡ t → number_in (number_bytes v ++ xs) ≡ got v xs
    by_one true e = rw (one_group v (ltb-true v 128 e), reads_one v xs (ltb-true v 128 e))
    by_one false e = by_two (ltb v 16384) refl (ltb-false v 128 e)

-- HEADERS

-- what stands behind a number that is read
rest_good : (ks : List ℕ) → bytes_good ks ≡ true → (number_in ks).good ≡ true → bytes_good (number_in ks).rest ≡ true
rest_good ks g h =
    good_right (number_bytes (number_in ks).value) (number_in ks).rest
    (subst (λ (l : List ℕ). bytes_good l ≡ true) (number_reads ks g h) g)

-- five strings read one after another
five_parts : (ks a b c d e r s t u v : List ℕ) → ks ≡ a ++ r → r ≡ b ++ s → s ≡ c ++ t → t ≡ d ++ u → u ≡ e ++ v → ks ≡ a ++ b ++ c ++ d ++ e ++ v
five_parts ks a b c d e r s t u v h i j k l = rw (h, i, j, k, l) (simp append_assoc)

-- all five numbers are there
all_read : (p i n m w : Bool) → ((p && i) && (n && (m && w))) ≡ true → (p ≡ true) × (i ≡ true) × (n ≡ true) × (m ≡ true) × (w ≡ true)
all_read true true n m w h =
    let later = and_right n (m && w) h in (refl, refl, and_left n (m && w) h, and_left m w later, and_right m w later)
all_read true false n m w h = absurd (false≢true h)
all_read false i n m w h = absurd (false≢true h)

-- a header read is the only writing of its numbers, and stands in front of the rest of the key
pub header_again : (ks : List ℕ) → bytes_good ks ≡ true → (head_in ks).good ≡ true →
    ks ≡ header (head_in ks).board (head_in ks).player ++ (head_in ks).rest
unfolding header head_in head_of board
header_again ks g h =
    let p = number_in ks in
    let i = number_in p.rest in
    let n = number_in i.rest in
    let m = number_in n.rest in
    let w = number_in m.rest in
    let good = all_read p.good i.good n.good m.good w.good h in
    let g1 = rest_good ks g good.0 in
    let g2 = rest_good p.rest g1 good.1 in
    let g3 = rest_good i.rest g2 good.2 in
    let g4 = rest_good n.rest g3 good.3 in
    five_parts ks (number_bytes p.value) (number_bytes i.value) (number_bytes n.value) (number_bytes m.value) (number_bytes w.value)
    p.rest i.rest n.rest m.rest w.rest
    (number_reads ks g good.0) (number_reads p.rest g1 good.1) (number_reads i.rest g2 good.2) (number_reads n.rest g3 good.3)
    (number_reads m.rest g4 good.4)

-- numbers that a header can hold
pub record Writable (b : Board) (i : ℕ) : Type 0 where
  pub players : b.p < number_bound
  pub player : i < number_bound
  pub positions : b.n < number_bound
  pub width : b.wide < number_bound
  pub bytes : b.w < number_bound

-- a header written is read back, whatever stands behind it
pub header_read_back : (b : Board) (i : ℕ) (body : List ℕ) → Writable b i →
    head_in (header b i ++ body) ≡ record { good = true; board = b; player = i; rest = body }
unfolding header head_in head_of board got
header_read_back b i body h =
    let behind_width = number_bytes b.w ++ body in
    let behind_positions = number_bytes b.wide ++ behind_width in
    let behind_player = number_bytes b.n ++ behind_positions in
    let behind_players = number_bytes i ++ behind_player in
    let regrouped : header b i ++ body ≡ number_bytes b.p ++ behind_players = simp append_assoc in
    rw (regrouped, number_read_back b.p behind_players h.players, number_read_back i behind_player h.player)
    (rw (number_read_back b.n behind_positions h.positions, number_read_back b.wide behind_width h.width, number_read_back b.w body h.bytes))

groups_good : (k v : ℕ) → bytes_good (groups k v) ≡ true
unfolding groups bytes_good
groups_good zero v = refl
groups_good (suc k) v = go (ltb v 128) refl (groups_good k (v / 128))
  where
    go : (t : Bool) → ltb v 128 ≡ t → bytes_good (groups k (v / 128)) ≡ true → bytes_good (cond t (v ∷ []) ((v % 128 + 128) ∷ groups k (v / 128))) ≡ true
    go true e ih = good_cons v [] (omega (arith, ltb-true v 128 e)) refl
    go false e ih = good_cons (v % 128 + 128) (groups k (v / 128)) (omega arith) ih

-- a header is bytes
pub header_good : (b : Board) (i : ℕ) → bytes_good (header b i) ≡ true
unfolding header number_bytes
header_good b i = search (good_append, groups_good) depth 10

-- the length does not go by the player
pub header_long : (b : Board) (i : ℕ) → i < 128 → length (header b i) ≡ length (header b 0)
unfolding header
header_long b i h = rw (one_group i h, one_group 0 (omega arith)) (simp length-append)

-- NUMBERS ONE BEHIND ANOTHER

pub written_append : (vs ws : List ℕ) → numbers_written (vs ++ ws) ≡ numbers_written vs ++ numbers_written ws
unfolding numbers_written
written_append [] ws = refl
written_append (v ∷ vs) ws =
    ap (λ (bs : List ℕ). number_bytes v ++ bs) (written_append vs ws) ∙ sym (append_assoc (number_bytes v) (numbers_written vs) (numbers_written ws))

-- the numbers before a place and the one that stands there
pub written_next : (vs : List ℕ) (i : ℕ) → i < length vs → numbers_written (take (i + 1) vs) ≡ numbers_written (take i vs) ++ number_bytes (get_or vs i 0)
unfolding numbers_written
written_next vs i h =
    let one : i + 1 ≡ suc i = omega arith in
    rw (one, take-suc vs i 0 h, written_append (take i vs) (get_or vs i 0 ∷ []), append-nil)

-- no more than all
pub written_most : (vs : List ℕ) (i : ℕ) → length (numbers_written (take i vs)) ≤ length (numbers_written vs)
written_most vs i =
    let whole : numbers_written vs ≡ numbers_written (take i vs) ++ numbers_written (drop i vs) = ap numbers_written (sym (take-append-drop i vs)) ∙ written_append (take i vs) (drop i vs) in
    omega (arith, ap length whole, length-append (numbers_written (take i vs)) (numbers_written (drop i vs)))

-- THE HEADER BY ITS NUMBERS: five read one behind another, p, player, N, μ, w
pub five_good : (p i n m w : Bool) → ((p && i) && (n && (m && w))) ≡ (p && (i && (n && (m && (w && true)))))
five_good true true true true true = refl
five_good true true true true false = refl
five_good true true true false w = refl
five_good true true false m w = refl
five_good true false n m w = refl
five_good false i n m w = refl

pub head_is : (bs : List ℕ) → head_in bs ≡ head_by_numbers (numbers_in 5 bs)
unfolding head_in head_of numbers_in head_by_numbers
head_is bs =
    let p = number_in bs in
    let i = number_in p.rest in
    let n = number_in i.rest in
    let m = number_in n.rest in
    let w = number_in m.rest in
    rw (five_good p.good i.good n.good m.good w.good)

pub header_is : (b : Board) (i : ℕ) → numbers_written (b.p ∷ i ∷ b.n ∷ b.wide ∷ b.w ∷ []) ≡ header b i
unfolding header numbers_written
header_is b i = simp (append-nil, append_assoc)
