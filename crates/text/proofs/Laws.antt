-- The laws of lines: how long they are, and one behind another. Assumes nothing.
use mathlib.Core.Path.{◌≡◌, refl, sym, ap, ◌∙◌, subst}
use mathlib.Core.List.{List, [], ◌∷◌, ◌++◌, append_assoc, append-nil}
use Prim.Native.Nat.{ℕ, zero, suc, ◌+◌, ◌*◌, ◌-◌, ◌≤◌, ◌<◌}
use native.Mathlib.Omega.{arith}
use native.Mathlib.Nat.{zero-add, zero-mul, suc-mul}
use native.Mathlib.Numerals.{add-one}
use lib.ListN.{length, take, drop, length-append, length-take}
use lib.Seq.{drop-drop}
use Rattle.writer.specs.Written.{Wrote}
use Rattle.writer.proofs.Laws.{wrote_then, wrote_more}
use Rattle.digits.specs.Digits.{decimal, hex}
use Rattle.digits.proofs.Laws.{decimal_few, decimal_five, hex_long}
use Rattle.text.specs.Text.{named, refused_line, board_line, position_line, position_lines, table_text, text_refused, text_players, text_squares, text_width, line_feed}

-- four parts, one behind another
pub four_length : (first second third fourth : List ℕ) →
    length (first ++ second ++ third ++ fourth) ≡ length first + length second + length third + length fourth
four_length first second third fourth = simp length-append

pub wrote_four : {at a b c d : ℕ} (first second third fourth : List ℕ) {old one two three now : List ℕ} →
    at + length (first ++ second ++ third ++ fourth) ≤ length old → Wrote at first a old one → Wrote a second b one two → Wrote b third c two three →
    Wrote c fourth d three now → Wrote at (first ++ second ++ third ++ fourth) d old now
wrote_four first second third fourth room p q r s =
    let long = four_length first second third fourth in
    let two = length-append first second in
    let three = length-append (first ++ second) third in
    wrote_then (first ++ second ++ third) fourth (omega arith)
    (wrote_then (first ++ second) third (omega arith) (wrote_then first second (omega arith) p q) r) s

-- how long the lines are
pub named_length : (word : List ℕ) (v : ℕ) → length (named word v) ≡ length word + length (decimal v)
unfolding named
named_length word v = length-append word (decimal v)

pub refused_length : (n : ℕ) → length (refused_line n) ≡ length (named text_refused n) + 1
unfolding refused_line
refused_length n = length-append (named text_refused n) line_feed

pub board_length : (p n w : ℕ) → length (board_line p n w) ≡ length (named text_players p) + length (named text_squares n) + length (named text_width w) + 1
unfolding board_line
board_length p n w = four_length (named text_players p) (named text_squares n) (named text_width w) line_feed

-- a position's line is as long as its number, two digits for each byte, the space and the line feed
pub line_length : (a : ℕ) (v : List ℕ) → length (position_line a v) ≡ length (decimal a) + 2 * length v + 2
unfolding position_line
line_length a v = four_length (decimal a) (32 ∷ []) (hex v) line_feed ∙ omega (arith, hex_long v)

-- the lines of one position more
lines_snoc : (k a w : ℕ) (ts : List ℕ) → position_lines (suc k) a w ts ≡ position_lines k a w ts ++ position_line (k + a) (take w (drop (k * w) ts))
unfolding position_lines
lines_snoc zero a w ts = rw (zero-add a, zero-mul w) (append-nil (position_line a (take w ts)))
lines_snoc (suc k) a w ts =
    let number : k + suc a ≡ suc k + a = omega arith in
    let place : w + k * w ≡ suc k * w = omega (arith, suc-mul k w) in
    rw (lines_snoc k (suc a) w (drop w ts), drop-drop (k * w) w ts, place, number)
    (sym (append_assoc (position_line a (take w ts)) (position_lines k (suc a) w (drop w ts)) (position_line (suc k + a) (take w (drop (suc k * w) ts)))))

pub lines_next : (k w : ℕ) (ts : List ℕ) → position_lines (k + 1) 0 w ts ≡ position_lines k 0 w ts ++ position_line k (take w (drop (k * w) ts))
lines_next k w ts =
    let same : k + 0 ≡ k = omega arith in
    rw add-one (lines_snoc k 0 w ts ∙ ap (λ (n : ℕ). position_lines k 0 w ts ++ position_line n (take w (drop (k * w) ts))) same)

pub lines_next_length : (k w : ℕ) (ts : List ℕ) →
    length (position_lines (k + 1) 0 w ts) ≡ length (position_lines k 0 w ts) + length (position_line k (take w (drop (k * w) ts)))
lines_next_length k w ts =
    ap length (lines_next k w ts) ∙ length-append (position_lines k 0 w ts) (position_line k (take w (drop (k * w) ts)))

-- fewer lines are no longer
lines_grow : (more k n w : ℕ) (ts : List ℕ) → n ≡ more + k → length (position_lines k 0 w ts) ≤ length (position_lines n 0 w ts)
lines_grow zero k n w ts e =
    let same : n ≡ k = omega arith in
    subst (λ (m : ℕ). length (position_lines k 0 w ts) ≤ length (position_lines m 0 w ts)) (sym same) (omega arith)
lines_grow (suc more) k n w ts e =
    let last : n ≡ more + k + 1 = omega arith in
    let before = lines_grow more k (more + k) w ts refl in
    subst (λ (m : ℕ). length (position_lines k 0 w ts) ≤ length (position_lines m 0 w ts)) (sym last) (omega (arith, lines_next_length (more + k) w ts))

pub lines_within : (k n w : ℕ) (ts : List ℕ) → k < n →
    length (position_lines k 0 w ts) + length (position_line k (take w (drop (k * w) ts))) ≤ length (position_lines n 0 w ts)
lines_within k n w ts h = omega (arith, lines_next_length k w ts, lines_grow (n - (k + 1)) (k + 1) n w ts (omega arith))

-- writing one line more
pub lines_turn : (at k n w : ℕ) {next after : ℕ} (value ts : List ℕ) {old between now : List ℕ} → k < n → value ≡ take w (drop (k * w) ts) →
    at + length (position_lines n 0 w ts) ≤ length old → Wrote at (position_lines k 0 w ts) next old between → Wrote next (position_line k value) after between now →
    Wrote at (position_lines (k + 1) 0 w ts) after old now
lines_turn at k n w value ts within is room p q =
    let grown : position_lines (k + 1) 0 w ts ≡ position_lines k 0 w ts ++ position_line k value = rw is (lines_next k w ts) in
    wrote_more (position_lines k 0 w ts) (position_line k value) (position_lines (k + 1) 0 w ts) grown
    (omega (arith, lines_next_length k w ts, lines_within k n w ts within)) p q

-- a whole text is its first line, and the others from position 0 on
pub table_text_is : (p n w : ℕ) (ts : List ℕ) → table_text p n w ts ≡ board_line p n w ++ position_lines n 0 w ts
unfolding table_text
table_text_is p n w ts = refl

pub table_text_length : (p n w : ℕ) (ts : List ℕ) → length (table_text p n w ts) ≡ length (board_line p n w) + length (position_lines n 0 w ts)
table_text_length p n w ts = ap length (table_text_is p n w ts) ∙ length-append (board_line p n w) (position_lines n 0 w ts)

-- HOW LONG THEY CAN BE

pub refused_most : (n : ℕ) → length (refused_line n) ≤ 19
refused_most n = omega (arith, refused_length n, named_length text_refused n, decimal_few n)

board_most : (p n w : ℕ) → length (board_line p n w) ≤ 55
board_most p n w =
    omega (
      arith,
      board_length p n w,
      named_length text_players p,
      named_length text_squares n,
      named_length text_width w,
      decimal_few p,
      decimal_few n,
      decimal_few w,
    )

-- a position's number has five digits at most, and each byte of its value two
lines_most : (k a w : ℕ) (ts : List ℕ) → k + a ≤ 100000 → length (position_lines k a w ts) ≤ 7 * k + 2 * (k * w)
unfolding position_lines
lines_most zero a w ts h = omega arith
lines_most (suc k) a w ts h =
    omega (
      arith,
      length-append (position_line a (take w ts)) (position_lines k (suc a) w (drop w ts)),
      line_length a (take w ts),
      decimal_five a (omega arith),
      length-take w ts,
      lines_most k (suc a) w (drop w ts) (omega arith),
      suc-mul k w,
    )

pub table_most : (p n w : ℕ) (ts : List ℕ) → n ≤ 65536 → length (table_text p n w ts) ≤ 55 + 7 * n + 2 * (n * w)
table_most p n w ts h = omega (arith, table_text_length p n w ts, board_most p n w, lines_most n 0 w ts (omega arith))
