-- Whole keys: what Check key accepts, by facts; good parts make an accepted key that is read back as these parts; an accepted key's parts
-- are good and write that key. Assumes nothing.
use mathlib.Core.Path.{◌≡◌, refl, sym, ap, ◌∙◌, subst}
use mathlib.Core.Bool.{Bool, true, false, not, cond, false≢true}
use mathlib.Core.List.{List, [], ◌++◌, append_assoc, append-nil}
use Prim.Native.Nat.{ℕ, suc, ◌+◌, ◌*◌, ◌-◌, ◌≤◌, ◌<◌, min}
use native.Mathlib.Decide.{dec_le}
use native.Mathlib.Omega.{arith}
use lib.Dec.{leb, eqb}
use lib.ListN.{length, drop, length-append, length-drop}
use lib.Seq.{drop_at, take-add, take_all}
use borrow.Author.Tests.{eqb-true, eqb-false, eq-eqb, ne_eqb, le-leb, leb-false, lt-leb, not-true, not-false}
use Rattle.xor.specs.Xor.{bytes_good}
use Rattle.xor.proofs.Laws.{Word, word_append, good_right, good_drop}
use Rattle.grid.specs.Grid.{Board, columns, grid_rows, row_long, board_refusal, each_long}
use Rattle.grid.proofs.Facts.{BoardIn, board_in, board_accepted}
use Rattle.keys.specs.Keys.{header, Head, head_in, or_else, numbers_refusal, head_refusal, AcceptedBody, stride, marks_good, key_refusal, key_long, glued, words_from, Parts, parts_of, parts_in, grid_rows_written, key_written}
use Rattle.keys.proofs.Lists.{length_words, glue_words, each_words, length-glued, good_glued, words_glue}
use Rattle.keys.proofs.Numbers.{header_again, header_read_back, header_good, header_long}
use Rattle.keys.proofs.Parts.{RowsGood, marks_back, seeds_back, marks_good_back, rows_word, rows_read_good, rows_again}

-- REFUSALS are chains of tests

-- where nothing is refused, a test with a number did not hold, and the rest of the chain refuses nothing
pub passed : (test : Bool) (number rest : ℕ) → (test ≡ true → number ≡ 0 → ⊥) → cond test number rest ≡ 0 → (test ≡ false) × (rest ≡ 0)
passed true n r no_way h = absurd (no_way refl h)
passed false n r no_way h = (refl, h)

pub pass : (test : Bool) (number rest : ℕ) → test ≡ false → rest ≡ 0 → cond test number rest ≡ 0
pass true n r e h = absurd (false≢true (sym e))
pass false n r e h = h

-- the last test of a chain
pub last_passed : (test : Bool) (number : ℕ) → 0 < number → cond test 0 number ≡ 0 → test ≡ true
last_passed true n pos h = refl
last_passed false n pos h = let none : ⊥ = omega arith in absurd none

-- a refusal that is passed on is a number
pub refusing : (r : ℕ) → not (eqb r 0) ≡ true → r ≡ 0 → ⊥
refusing r h e = eqb-false r 0 (not-true (eqb r 0) h) e

-- "the first number that fits is given"
pub first_fits : (a b : ℕ) → (a ≡ 0 → ⊥) → or_else a b ≡ a
unfolding or_else
first_fits a b h = rw (ne_eqb a 0 h)

pub next_fits : (a b : ℕ) → a ≡ 0 → or_else a b ≡ b
unfolding or_else
next_fits a b h = rw (eq-eqb a 0 h)

-- a number, or else the next: where neither fits
pub neither : (a b : ℕ) → or_else a b ≡ 0 → (a ≡ 0) × (b ≡ 0)
unfolding or_else
neither a b h = go (eqb a 0) refl
  where
    go : (t : Bool) → eqb a 0 ≡ t → (a ≡ 0) × (b ≡ 0)
    go true e = let none = eqb-true a 0 e in (none, sym (next_fits a b none) ∙ h)
    go false e = let a_is : a ≡ 0 = sym (first_fits a b (eqb-false a 0 e)) ∙ h in absurd (eqb-false a 0 e a_is)

-- A HEADER'S OWN NUMBERS

module _ (b : Board) (i : ℕ) where
  pub numbers_none : board_refusal b ≡ 0 → i < b.p → 0 ≡ numbers_refusal b i
  unfolding numbers_refusal
  numbers_none e h = rw (e, lt-leb b.p i h)

  -- the first that fits, as a sum by which `omega` weighs the number answered
  due : (r : ℕ) → r ≡ board_refusal b → Dec (1 ≤ r) → Dec (b.p ≤ i) → r + 11 * (min 1 (suc i - b.p) - min 1 r) ≡ numbers_refusal b i
  unfolding numbers_refusal
  due r e (yes some) d = let same : r + 11 * (min 1 (suc i - b.p) - min 1 r) ≡ r = omega arith in rw (same, ← e, ne_eqb r 0 (λ z. omega arith))
  due r e (no none) (yes beyond) =
      let zero_is : r ≡ 0 = omega arith in
      let same : r + 11 * (min 1 (suc i - b.p) - min 1 r) ≡ 11 = omega arith in
      rw (same, ← e, zero_is, le-leb b.p i beyond)
  due r e (no none) (no own) =
      let accepted : board_refusal b ≡ 0 = sym e ∙ omega arith in
      let same : r + 11 * (min 1 (suc i - b.p) - min 1 r) ≡ 0 = omega arith in
      same ∙ numbers_none accepted (omega arith)

  pub numbers_due : (n r : ℕ) → r ≡ board_refusal b → n ≡ r + 11 * (min 1 (suc i - b.p) - min 1 r) → n ≡ numbers_refusal b i
  numbers_due n r e is = is ∙ due r e (dec_le 1 r) (dec_le b.p i)

  pub numbers_fine : numbers_refusal b i ≡ 0 → (board_refusal b ≡ 0) × (i < b.p)
  unfolding numbers_refusal
  numbers_fine h =
      let first = passed (not (eqb (board_refusal b) 0)) (board_refusal b) _ (refusing (board_refusal b)) h in
      let own = passed (leb b.p i) 11 0 (λ t n. omega arith) first.1 in
      (eqb-true (board_refusal b) 0 (not-false (eqb (board_refusal b) 0) first.0), leb-false b.p i own.0)

pub head_fine : (h : Head) → head_refusal h ≡ 0 → (h.good ≡ true) × (board_refusal h.board ≡ 0) × (h.player < h.board.p)
unfolding head_refusal
head_fine h e =
    let read = passed (not h.good) 10 _ (λ t n. omega arith) e in
    let own = numbers_fine h.board h.player read.1 in (not-false h.good read.0, own.0, own.1)

-- WHAT CHECK KEY ACCEPTS

pub record KeyIn (ks : List ℕ) : Type 0 where
  pub header_good : (head_in ks).good ≡ true
  pub board : BoardIn (head_in ks).board
  pub player : (head_in ks).player < (head_in ks).board.p
  pub long : length ks ≡
      length (header (head_in ks).board (head_in ks).player) + grid_rows (head_in ks).board * stride (head_in ks).board
      + columns (head_in ks).board * row_long (head_in ks).board
  pub marks : marks_good (grid_rows (head_in ks).board) (head_in ks).board (head_in ks).rest ≡ true

pub key_in : (ks : List ℕ) → key_refusal ks ≡ 0 → KeyIn ks
unfolding key_refusal
key_in ks r =
    let b = (head_in ks).board in
    let i = (head_in ks).player in
    let asked = length (header b i) + grid_rows b * stride b + columns b * row_long b in
    let both = neither (head_refusal (head_in ks)) _ r in
    let head = head_fine (head_in ks) both.0 in
    let long_passed = passed (not (eqb (length ks) asked)) 12 _ (λ t n. omega arith) both.1 in
    record {
      header_good = head.0;
      board = board_in b head.1;
      player = head.2;
      long = eqb-true (length ks) asked (not-false (eqb (length ks) asked) long_passed.0);
      marks = last_passed (marks_good (grid_rows b) b (head_in ks).rest) 13 (omega arith) long_passed.1;
    }

holds : (test : Bool) → test ≡ true → not test ≡ false
holds true e = refl
holds false e = absurd (false≢true e)

pub key_accepted : (ks : List ℕ) → KeyIn ks → key_refusal ks ≡ 0
unfolding key_refusal head_refusal
key_accepted ks k =
    let b = (head_in ks).board in
    let i = (head_in ks).player in
    let asked = length (header b i) + grid_rows b * stride b + columns b * row_long b in
    let head : head_refusal (head_in ks) ≡ 0 = rw k.header_good (sym (numbers_none b i (board_accepted b k.board) k.player)) in
    next_fits (head_refusal (head_in ks)) _ head
    ∙ pass (not (eqb (length ks) asked)) 12 _ (holds (eqb (length ks) asked) (eq-eqb (length ks) asked k.long)) (rw k.marks)

-- AN ACCEPTED KEY

-- parts as a board's keys have them
pub record PartsGood (b : Board) (q : Parts) : Type 0 where
  pub rows : RowsGood (grid_rows b) b q.marks q.seeds
  pub words_long : length q.words ≡ columns b
  pub words_good : each_long (row_long b) q.words ≡ true

-- the bytes behind the header
pub record BodyIn (b : Board) (bs : List ℕ) : Type 0 where
  pub long : length bs ≡ grid_rows b * stride b + columns b * row_long b
  pub good : bytes_good bs ≡ true
  pub marks : marks_good (grid_rows b) b bs ≡ true

pub body_in : (ks : List ℕ) → bytes_good ks ≡ true → KeyIn ks → BodyIn (head_in ks).board (head_in ks).rest
body_in ks g k =
    let b = (head_in ks).board in
    let i = (head_in ks).player in
    let rest = (head_in ks).rest in
    let whole = header_again ks g k.header_good in
    let lengths : length ks ≡ length (header b i) + length rest = ap length whole ∙ length-append (header b i) rest in
    record {
      long = omega (arith, lengths, k.long);
      good = good_right (header b i) rest (subst (λ (l : List ℕ). bytes_good l ≡ true) whole g);
      marks = k.marks;
    }

-- the same by what the code keeps to
pub accepted_body : (ks : List ℕ) → bytes_good ks ≡ true → (b : Board) → key_refusal ks ≡ 0 → (head_in ks).board ≡ b → AcceptedBody b (head_in ks).rest
accepted_body ks g b r e =
    let k = key_in ks r in
    let body = body_in ks g k in
    rw (← e) (record { board = board_accepted (head_in ks).board k.board; long = body.long; marks = body.marks })

pub body_good : (b : Board) (bs : List ℕ) → AcceptedBody b bs → bytes_good bs ≡ true → BodyIn b bs
body_good b bs a g = record { long = a.long; good = g; marks = a.marks }

-- its parts are good
pub body_parts : (b : Board) (bs : List ℕ) → BoardIn b → BodyIn b bs → PartsGood b (parts_of b bs)
unfolding parts_of
body_parts b bs f k =
    record {
      rows = rows_read_good (grid_rows b) b bs f (omega (arith, k.long)) k.good k.marks;
      words_long = length_words (columns b) (row_long b) (drop (grid_rows b * stride b) bs);
      words_good = each_words (columns b) (row_long b) (drop (grid_rows b * stride b) bs) (rw length-drop (omega (arith, k.long)))
          (good_drop (grid_rows b * stride b) bs k.good);
    }

-- and write it again
pub body_again : (b : Board) (bs : List ℕ) → BoardIn b → BodyIn b bs →
    grid_rows_written (grid_rows b) b (parts_of b bs).marks (parts_of b bs).seeds ++ glued (parts_of b bs).words ≡ bs
unfolding parts_of
body_again b bs f k =
    let rows = grid_rows b * stride b in
    let words = columns b * row_long b in
    rw (rows_again (grid_rows b) b bs f (omega (arith, k.long)) k.good k.marks, glue_words (columns b) (row_long b) (drop rows bs))
    (sym (take-add rows words bs) ∙ take_all (rows + words) bs (omega (arith, k.long)))

pub key_again : (ks : List ℕ) → key_refusal ks ≡ 0 → bytes_good ks ≡ true → ks ≡ key_written (head_in ks).board (head_in ks).player (parts_in ks)
unfolding key_written parts_in
key_again ks r g =
    let k = key_in ks r in
    let b = (head_in ks).board in
    let i = (head_in ks).player in
    let rest = (head_in ks).rest in
    let q = parts_of b rest in
    header_again ks g k.header_good
    ∙ ap (λ (l : List ℕ). header b i ++ l) (sym (body_again b rest k.board (body_in ks g k)))
    ∙ sym (append_assoc (header b i) (grid_rows_written (grid_rows b) b q.marks q.seeds) (glued q.words))

-- GOOD PARTS WRITTEN

module _ (b : Board) (i : ℕ) (f : BoardIn b) (h : i < b.p) (q : Parts) (good : PartsGood b q) where
  abbrev rows_of : List ℕ
  rows_of = grid_rows_written (grid_rows b) b q.marks q.seeds

  abbrev body : List ℕ
  body = rows_of ++ glued q.words

  rows_bytes : Word (grid_rows b * stride b) rows_of
  rows_bytes = rows_word (grid_rows b) b q.marks q.seeds f good.rows

  words_bytes : Word (columns b * row_long b) (glued q.words)
  words_bytes =
      record {
        long = length-glued (row_long b) q.words good.words_good ∙ ap (λ (n : ℕ). n * row_long b) good.words_long;
        good = good_glued (row_long b) q.words good.words_good;
      }

  pub written_body : BodyIn b body
  written_body =
      let both = word_append rows_of (glued q.words) rows_bytes words_bytes in
      record { long = both.long; good = both.good; marks = marks_good_back (grid_rows b) b q.marks q.seeds (glued q.words) f good.rows }

  pub written_parts : parts_of b body ≡ q
  unfolding parts_of
  written_parts =
      let words_back : words_from (columns b) (row_long b) (glued q.words) ≡ q.words =
      (rw append-nil at (words_glue (columns b) (row_long b) q.words [] good.words_long good.words_good)) in
      rw (
        marks_back (grid_rows b) b q.marks q.seeds (glued q.words) f good.rows,
        seeds_back (grid_rows b) b q.marks q.seeds (glued q.words) f good.rows,
        drop_at rows_of (glued q.words) (grid_rows b * stride b) rows_bytes.long,
        words_back,
      )

  pub written_head : head_in (key_written b i q) ≡ record { good = true; board = b; player = i; rest = body }
  unfolding key_written
  written_head =
      rw (append_assoc (header b i) rows_of (glued q.words))
      (header_read_back b i body
      (record {
        players = omega (arith, f.players_most);
        player = omega (arith, f.players_most);
        positions = omega (arith, f.positions_most);
        width = omega (arith, f.wide_most);
        bytes = omega (arith, f.value_most);
      }))

  written_word : Word (length (header b i) + (grid_rows b * stride b + columns b * row_long b)) (key_written b i q)
  unfolding key_written
  written_word =
      rw (append_assoc (header b i) rows_of (glued q.words))
      (word_append (header b i) body (record { long = refl; good = header_good b i }) (record { long = written_body.long; good = written_body.good }))

  -- accepted
  pub written_key : KeyIn (key_written b i q)
  written_key =
      record {
        header_good = rw written_head;
        board = rw written_head f;
        player = rw written_head h;
        long = rw written_head (written_word.long ∙ omega arith);
        marks = rw written_head written_body.marks;
      }

  -- of the length that Key length gives
  pub written_long : length (key_written b i q) ≡ key_long b
  unfolding key_long stride
  written_long = omega (arith, written_word.long, header_long b i (omega (arith, f.players_most)))

  pub written_good : bytes_good (key_written b i q) ≡ true
  written_good = written_word.good

  -- and read as the parts that were written
  pub written_reads : parts_in (key_written b i q) ≡ q
  unfolding parts_in
  written_reads = rw written_head written_parts
