-- What stands at a place of a key, by the bytes there: the laws that the reader of numbers cites. A byte past the end counts as 0.
-- Assumes nothing.
use mathlib.Core.Path.{◌≡◌, refl, sym, ap, ◌∙◌}
use mathlib.Core.Bool.{Bool, true, false, ◌&&◌, cond}
use mathlib.Core.List.{List, [], ◌∷◌, ◌++◌, append_assoc, append-nil}
use Prim.Native.Nat.{ℕ, zero, suc, ◌+◌, ◌*◌, ◌-◌, ◌≤◌, ◌<◌}
use native.Mathlib.Nat.{sub-zero}
use native.Mathlib.Omega.{arith}
use Rattle.std.proofs.Common.{Result, Ok, Err}
use Rattle.std.specs.Result.{result_or}
use borrow.Author.Rules.{rules}
use borrow.Author.Tests.{lt-ltb, le-ltb, ltb-true, ltb-false, ne_eqb, eqb-true, eqb-false}
use lib.Dec.{ltb, eqb}
use lib.ListN.{length, get_or, set, take, drop, replicate, length-set, length-drop, length-append, take-append-drop, drop_of_length-le, get_or-eq_default}
use lib.Seq.{drop-cons, drop-drop, drop-length, get_or-drop, take_at, drop_at, take_all, length-take-le, set_split, append_snoc}
use Rattle.xor.specs.Xor.{bytes_good}
use Rattle.refusal.specs.Refusing.{refusal_number}
use Rattle.refusal.specs.declared.Refusal.{Refusal}
use Rattle.refusal.proofs.Numbers.{number_some}
use Rattle.grid.specs.Grid.{Board, board}
use Rattle.grid.specs.Code.{board_of}
use Rattle.keys.specs.Keys.{Got, got, none_got, number_in, Numbers, numbers_in, head_by_numbers, head_in, header, numbers_refusal, head_refusal}
use Rattle.keys.proofs.Numbers.{head_is, header_again}
use Rattle.key_header.specs.Answers.{Heading as Told}
use Rattle.key_header.specs.Answers.{Number, Five, KeyCheck, number_of, number_at, read_as, five_at, header_of, header_numbers, heading_in, checked_by}
use Rattle.key_header.specs.Answers.{five_of, header_board, header_told, heading_told}
use Rattle.key_header.specs.declared.numbers.Reader.{Reader}
use Rattle.key_header.specs.declared.numbers.Five.{Five as Read5}
use Rattle.key_header.specs.declared.header.Header.{Header}
use Rattle.key_header.specs.declared.header.Heading.{Heading}

-- a number by its first three bytes, where those past the end count as 0
unfoldable grouped : (a b c : ℕ) → List ℕ → Got
grouped a b c bs =
    cond (ltb a 128) (got a (drop 1 bs))
    (cond (ltb b 128) (cond (ltb 0 b) (got (a - 128 + 128 * b) (drop 2 bs)) none_got)
    (cond (ltb c 128 && ltb 0 c) (got (a - 128 + 128 * (b - 128) + 16384 * c) (drop 3 bs)) none_got))

number_in_is : (a : ℕ) (bs : List ℕ) → number_in (a ∷ bs) ≡ grouped a (get_or bs 0 0) (get_or bs 1 0) (a ∷ bs)
unfolding number_in grouped
number_in_is a [] = refl
number_in_is a (b ∷ []) = go (ltb b 128) refl
  where
    go : (t : Bool) → ltb b 128 ≡ t
        → cond (ltb a 128) (got a (b ∷ [])) (cond (t && ltb 0 b) (got (a - 128 + 128 * b) []) none_got)
        ≡ cond (ltb a 128) (got a (b ∷ [])) (cond t (cond (ltb 0 b) (got (a - 128 + 128 * b) []) none_got) none_got)
    go true e = refl
    go false e = refl
number_in_is a (b ∷ c ∷ bs) = refl

-- a byte that is not 0 does not stand past the end
present : (ks : List ℕ) (i : ℕ) → (get_or ks i 0 ≡ 0 → ⊥) → i < length ks
present ks i h = go (ltb i (length ks)) refl
  where
    go : (t : Bool) → ltb i (length ks) ≡ t → i < length ks
    go true e = ltb-true i (length ks) e
    go false e = absurd (h (get_or-eq_default ks 0 (ltb-false i (length ks) e)))

-- the place behind the first k bytes of what is left
place : (ks : List ℕ) (at k : ℕ) → at + k ≤ length ks → length ks - length (drop k (drop at ks)) ≡ at + k
place ks at k h = rw (drop-drop, length-drop) (omega arith)

pub broken_past : (ks : List ℕ) (at : ℕ) → length ks ≤ at → Number.Broken ≡ number_at ks at
unfolding number_at number_of number_in
broken_past ks at h = rw (drop_of_length-le ks h)

module _ (ks : List ℕ) (at a : ℕ) (inside : at < length ks) (first : a ≡ get_or ks at 0) where
  there : number_in (drop at ks) ≡ grouped a (get_or ks (at + 1) 0) (get_or ks (at + 2) 0) (drop at ks)
  there =
      let one : suc at + 0 ≡ at + 1 = omega arith in
      let two : suc at + 1 ≡ at + 2 = omega arith in
      cc (drop-cons ks at 0 inside, number_in_is a (drop (suc at) ks), get_or-drop (suc at) ks 0 0, get_or-drop (suc at) ks 1 0)

  pub one_group : a < 128 → Number.Whole a (record { at = at + 1 }) ≡ number_at ks at
  unfolding number_at number_of grouped got
  one_group h = rw (there, lt-ltb a 128 h, place ks at 1 (omega arith))

  module _ (b : ℕ) (long : 128 ≤ a) (second : b ≡ get_or ks (at + 1) 0) where
    pub zero_second : b ≡ 0 → Number.Broken ≡ number_at ks at
    unfolding number_at number_of grouped got
    zero_second h = rw (there, le-ltb a 128 long, ← second, h)

    pub two_groups : (b ≡ 0 → ⊥) → b < 128 → Number.Whole (a - 128 + 128 * b) (record { at = at + 2 }) ≡ number_at ks at
    unfolding number_at number_of grouped got
    two_groups h small =
        let i : at + 1 < length ks = present ks (at + 1) (λ e. h (second ∙ e)) in
        rw (there, le-ltb a 128 long, ← second, lt-ltb b 128 small, lt-ltb 0 b (omega arith), place ks at 2 (omega arith))

    module _ (c : ℕ) (longer : 128 ≤ b) (third : c ≡ get_or ks (at + 2) 0) where
      pub zero_third : c ≡ 0 → Number.Broken ≡ number_at ks at
      unfolding number_at number_of grouped got
      zero_third h = rw (there, le-ltb a 128 long, ← second, le-ltb b 128 longer, ← third, h)

      pub three_groups : (c ≡ 0 → ⊥) → c < 128
          → Number.Whole (a - 128 + 128 * (b - 128) + 16384 * c) (record { at = at + 3 }) ≡ number_at ks at
      unfolding number_at number_of grouped got
      three_groups h small =
          let i : at + 2 < length ks = present ks (at + 2) (λ e. h (third ∙ e)) in
          rw (there, le-ltb a 128 long, ← second, le-ltb b 128 longer, ← third, lt-ltb c 128 small, lt-ltb 0 c (omega arith), place ks at 3 (omega arith))

      pub four_groups : 128 ≤ c → Number.Broken ≡ number_at ks at
      unfolding number_at number_of grouped got
      four_groups h = rw (there, le-ltb a 128 long, ← second, le-ltb b 128 longer, ← third, le-ltb c 128 h)

-- ys is the end of xs
Ends : (xs ys : List ℕ) → Type 0
Ends xs ys = drop (length xs - length ys) xs ≡ ys

ends_drop : (xs : List ℕ) (k : ℕ) → Ends xs (drop k xs)
unfolding Ends
ends_drop xs k = go (ltb k (length xs)) refl
  where
    go : (t : Bool) → ltb k (length xs) ≡ t → drop (length xs - length (drop k xs)) xs ≡ drop k xs
    go true e =
        let h : k < length xs = ltb-true k (length xs) e in
        let n : length xs - length (drop k xs) ≡ k = omega (arith, length-drop k xs) in rw n
    go false e =
        let h : length xs ≤ k = ltb-false k (length xs) e in
        rw (drop_of_length-le xs h, sub-zero, drop-length)

ends_shorter : (xs ys : List ℕ) → Ends xs ys → length ys ≤ length xs
unfolding Ends
ends_shorter xs ys e = omega (arith, ap length e, length-drop (length xs - length ys) xs)

ends_trans : (xs ys zs : List ℕ) → Ends xs ys → Ends ys zs → Ends xs zs
unfolding Ends
ends_trans xs ys zs e f =
    let a : length ys ≤ length xs = ends_shorter xs ys e in
    let b : length zs ≤ length ys = ends_shorter ys zs f in
    let n : length xs - length zs ≡ (length xs - length ys) + (length ys - length zs) = omega arith in
    rw (n, ← drop-drop (length ys - length zs) (length xs - length ys) xs, e) f

ends_none : (xs : List ℕ) → Ends xs []
unfolding Ends
ends_none xs = rw (sub-zero, drop-length)

ends_chosen : (s t u v : Bool) (x y z : ℕ) (bs : List ℕ)
    → Ends bs
    (cond s (got x (drop 1 bs))
    (cond t (cond u (got y (drop 2 bs)) none_got) (cond v (got z (drop 3 bs)) none_got))).rest
unfolding got
ends_chosen true t u v x y z bs = ends_drop bs 1
ends_chosen false true true v x y z bs = ends_drop bs 2
ends_chosen false true false v x y z bs = ends_none bs
ends_chosen false false u true x y z bs = ends_drop bs 3
ends_chosen false false u false x y z bs = ends_none bs

-- what is left behind a number is the end of what it was read from
ends_number : (bs : List ℕ) → Ends bs (number_in bs).rest
unfolding number_in grouped
ends_number [] = ends_none []
ends_number (a ∷ bs) =
    rw number_in_is
    (ends_chosen (ltb a 128) (ltb (get_or bs 0 0) 128) (ltb 0 (get_or bs 0 0)) (ltb (get_or bs 1 0) 128 && ltb 0 (get_or bs 1 0)) _ _ _ (a ∷ bs))

-- what the reader's answer says of the number that stands there
whole_good : (l v : ℕ) (next : Reader) (g : Got) → Number.Whole v next ≡ number_of l g → (g.good ≡ true) × (g.value ≡ v) × (next.at ≡ l - length g.rest)
unfolding number_of
whole_good l v next g e = go g.good refl
  where
    go : (t : Bool) → g.good ≡ t → (g.good ≡ true) × (g.value ≡ v) × (next.at ≡ l - length g.rest)
    go true h = (h, cc, cc)
    go false h = let z : ◌≡◌ {A = ℕ} 0 1 = cc in absurd (omega arith)

got_by : (t : Bool) (x v : ℕ) (xs ys : List ℕ) → t ≡ true → x ≡ v → xs ≡ ys → record { good = t; value = x; rest = xs } ≡ got v ys
unfolding got
got_by t x v xs ys d e f = cc

pub read_whole : (ks : List ℕ) (at v : ℕ) (next : Reader) → Number.Whole v next ≡ number_at ks at → number_in (drop at ks) ≡ got v (drop next.at ks)
unfolding number_at Ends
read_whole ks at v next e =
    let g = number_in (drop at ks) in
    let w = whole_good (length ks) v next g e in
    let ends : drop (length ks - length g.rest) ks ≡ g.rest = ends_trans ks (drop at ks) g.rest (ends_drop ks at) (ends_number (drop at ks)) in
    got_by g.good g.value v g.rest (drop next.at ks) w.0 w.1 (rw w.2 (sym ends))

pub read_broken : (ks : List ℕ) (at : ℕ) → Number.Broken ≡ number_at ks at → (number_in (drop at ks)).good ≡ false
unfolding number_at number_of
read_broken ks at e = go (number_in (drop at ks)).good refl
  where
    go : (t : Bool) → (number_in (drop at ks)).good ≡ t → (number_in (drop at ks)).good ≡ false
    go true h = let z : ◌≡◌ {A = ℕ} 0 1 = cc in absurd (omega arith)
    go false h = h

-- so the answer, case by case, is document 03's reading of what stands there
none_chosen : (s t u v : Bool) (x y z : ℕ) (bs : List ℕ)
    → (cond s (got x (drop 1 bs)) (cond t (cond u (got y (drop 2 bs)) none_got) (cond v (got z (drop 3 bs)) none_got))).good ≡ false
    → none_got ≡ cond s (got x (drop 1 bs)) (cond t (cond u (got y (drop 2 bs)) none_got) (cond v (got z (drop 3 bs)) none_got))
unfolding got
none_chosen true t u v x y z bs e = let z : ◌≡◌ {A = ℕ} 0 1 = cc in absurd (omega arith)
none_chosen false true true v x y z bs e = let z : ◌≡◌ {A = ℕ} 0 1 = cc in absurd (omega arith)
none_chosen false true false v x y z bs e = refl
none_chosen false false u true x y z bs e = let z : ◌≡◌ {A = ℕ} 0 1 = cc in absurd (omega arith)
none_chosen false false u false x y z bs e = refl

none_there : (bs : List ℕ) → (number_in bs).good ≡ false → none_got ≡ number_in bs
unfolding number_in grouped
none_there [] e = refl
none_there (a ∷ bs) e =
    rw number_in_is
    (none_chosen (ltb a 128) (ltb (get_or bs 0 0) 128) (ltb 0 (get_or bs 0 0)) (ltb (get_or bs 1 0) 128 && ltb 0 (get_or bs 1 0)) _ _ _ (a ∷ bs)
    (rw number_in_is at e))

pub number_read : (ks : List ℕ) (at : ℕ) → read_as ks (number_at ks at) ≡ number_in (drop at ks)
unfolding read_as
number_read ks at = go (number_at ks at) refl
  where
    go : (r : Number) → r ≡ number_at ks at → read_as ks (number_at ks at) ≡ number_in (drop at ks)
    go (Number.Whole v next) e = rw (← e) (sym (read_whole ks at v next e))
    go Number.Broken e = rw (← e) (none_there (drop at ks) (read_broken ks at e))

-- a reader never stands past the end
read_inside : (ks : List ℕ) (at v : ℕ) (next : Reader) → Number.Whole v next ≡ number_at ks at → next.at ≤ length ks
unfolding number_at
read_inside ks at v next e = omega (arith, (whole_good (length ks) v next (number_in (drop at ks)) e).2)

-- SO MANY NUMBERS, each read where the one before ended

-- numbers in front of others
unfoldable pub behind : List ℕ → Numbers → Numbers
behind vs m = record { good = m.good; values = vs ++ m.values; rest = m.rest }

-- the numbers that begin with one
abbrev from_one : (k : ℕ) → Got → Numbers
from_one k g =
    let more = numbers_in k g.rest in
    record { good = g.good && more.good; values = g.value ∷ more.values; rest = more.rest }

from_first : (k : ℕ) (xs : List ℕ) (g : Got) → number_in xs ≡ g → numbers_in (suc k) xs ≡ from_one k g
unfolding numbers_in
from_first k xs g e = ap (λ (x : Got). from_one k x) e

numbers_whole : (k v : ℕ) (xs ys vs : List ℕ) → number_in xs ≡ got v ys → behind vs (numbers_in (suc k) xs) ≡ behind (vs ++ v ∷ []) (numbers_in k ys)
unfolding behind got
numbers_whole k v xs ys vs e =
    ap (behind vs) (from_first k xs (got v ys) e) ∙ rw (append_assoc vs (v ∷ []) (numbers_in k ys).values)

numbers_none : (k : ℕ) → ((numbers_in k []).values ≡ replicate k 0) × ((numbers_in k []).rest ≡ [])
unfolding numbers_in number_in
numbers_none zero = (refl, refl)
numbers_none (suc k) = let more = numbers_none k in (ap (λ (vs : List ℕ). 0 ∷ vs) more.0, more.1)

numbers_broken : (k : ℕ) (xs : List ℕ) → none_got ≡ number_in xs → numbers_in (suc k) xs ≡ record { good = false; values = replicate (suc k) 0; rest = [] }
numbers_broken k xs e =
    let none = numbers_none k in
    from_first k xs none_got (sym e) ∙ rw (none.0, none.1)

-- of five numbers so many are read, and the others are 0
pub record Read (ks values : List ℕ) (read at : ℕ) : Type 0 where
  pub few : read ≤ 5
  pub long : length values ≡ 5
  pub inside : at ≤ length ks
  pub clear : drop read values ≡ replicate (5 - read) 0
  pub rest : numbers_in 5 ks ≡ behind (take read values) (numbers_in (5 - read) (drop at ks))

pub none_read : (ks : List ℕ) → Read ks (replicate 5 0) 0 0
unfolding behind
none_read ks = record { few = omega arith; long = refl; inside = omega arith; clear = refl; rest = refl }

-- one more value in its place
set_front : (values : List ℕ) (read v : ℕ) → read < length values →
    (take (read + 1) (set values read v) ≡ take read values ++ v ∷ []) × (drop (read + 1) (set values read v) ≡ drop (read + 1) values)
set_front values read v within =
    let front = take read values ++ v ∷ [] in
    let one : read + 1 ≡ suc read = omega arith in
    let whole : set values read v ≡ front ++ drop (suc read) values = set_split values read v within ∙ sym (append_snoc (take read values) v (drop (suc read) values)) in
    let long : length front ≡ suc read = length-append (take read values) (v ∷ []) ∙ omega (arith, length-take-le read values (omega arith)) in
    rw (one, whole) (take_at front (drop (suc read) values) (suc read) long, drop_at front (drop (suc read) values) (suc read) long)

one_less : (k : ℕ) → drop 1 (replicate {A = ℕ} (suc k) 0) ≡ replicate k 0
one_less k = refl

pub one_read : (ks values : List ℕ) (read at v : ℕ) (next : Reader) → Read ks values read at → read < 5 → Number.Whole v next ≡ number_at ks at →
    Read ks (set values read v) (read + 1) next.at
one_read ks values read at v next before more e =
    let front = set_front values read v (omega (arith, before.long)) in
    let left : 5 - read ≡ suc (5 - (read + 1)) = omega arith in
    let cleared : drop (read + 1) values ≡ replicate (5 - (read + 1)) 0 =
    sym (drop-drop 1 read values) ∙ ap (λ (vs : List ℕ). drop 1 vs) before.clear ∙ rw left (one_less (5 - (read + 1))) in
    record {
      few = omega arith;
      long = simp length-set before.long;
      inside = read_inside ks at v next e;
      clear = front.1 ∙ cleared;
      rest =
          before.rest ∙ rw (left, front.0)
          (numbers_whole (5 - (read + 1)) v (drop at ks) (drop next.at ks) (take read values) (read_whole ks at v next e));
    }

-- the answers: all five, or one that is none
five_by : (ks values rest : List ℕ) (whole : Bool) (end : ℕ) → numbers_in 5 ks ≡ record { good = whole; values = values; rest = rest } → end ≡ length ks - length rest →
    record { whole = whole; values = values; end = end } ≡ five_at ks
unfolding five_at
five_by ks values rest whole end is e = rw (is, e)

no_more : (vs xs : List ℕ) → behind vs (numbers_in 0 xs) ≡ record { good = true; values = vs; rest = xs }
unfolding behind numbers_in
no_more vs xs = rw (append-nil vs)

pub all_read : (ks values : List ℕ) (read at : ℕ) → Read ks values read at → 5 ≤ read → record { whole = true; values = values; end = at } ≡ five_at ks
all_read ks values read at done all =
    let whole : take read values ≡ values = take_all read values (omega (arith, done.long)) in
    let none : 5 - read ≡ 0 = omega arith in
    five_by ks values (drop at ks) true at (done.rest ∙ rw (none, whole) (no_more values (drop at ks))) (rw (length-drop at ks) (omega (arith, done.inside)))

pub none_more : (ks values : List ℕ) (read at : ℕ) → Read ks values read at → read < 5 → Number.Broken ≡ number_at ks at →
    record { whole = false; values = values; end = length ks } ≡ five_at ks
unfolding behind
none_more ks values read at done more e =
    let left : 5 - read ≡ suc (5 - (read + 1)) = omega arith in
    let none = numbers_broken (5 - (read + 1)) (drop at ks) (none_there (drop at ks) (read_broken ks at e)) in
    let zeros : drop read values ≡ replicate (suc (5 - (read + 1))) 0 = done.clear ∙ ap (λ (k : ℕ). replicate k 0) left in
    let whole : take read values ++ replicate (suc (5 - (read + 1))) 0 ≡ values = ap (λ (vs : List ℕ). take read values ++ vs) (sym zeros) ∙ take-append-drop read values in
    let rest : numbers_in 5 ks ≡ behind (take read values) (numbers_in (suc (5 - (read + 1))) (drop at ks)) = done.rest ∙ ap (λ (k : ℕ). behind (take read values) (numbers_in k (drop at ks))) left in
    five_by ks values [] false (length ks) (rest ∙ ap (behind (take read values)) none ∙ rw whole) (sym (sub-zero (length ks)))

-- THE HEADER by its five numbers

-- what is left behind a header is the end of the key
ends_numbers : (k : ℕ) (bs : List ℕ) → Ends bs (numbers_in k bs).rest
unfolding numbers_in
ends_numbers zero bs = ends_drop bs 0
ends_numbers (suc k) bs = ends_trans bs (number_in bs).rest (numbers_in k (number_in bs).rest).rest (ends_number bs) (ends_numbers k (number_in bs).rest)

pub heading_rest : (ks : List ℕ) → drop (heading_in ks).end ks ≡ (head_in ks).rest
unfolding heading_in head_by_numbers Ends
heading_rest ks = rw (head_is ks) (ends_numbers 5 ks)

-- a heading by its board in document 03's words
abbrev told : Board → (player end : ℕ) → Told
told b i e = record { header = record { board = record { players = b.p; positions = b.n; width = b.wide; value_bytes = b.w }; player = i }; end = e }

-- by what the code read
module _ (ks : List ℕ) (f : Five) (read : f ≡ five_at ks) where
  -- the place behind them is inside, and what is left stands there
  pub five_inside : f.end ≤ length ks
  unfolding five_at
  five_inside = rw read (omega arith)

  pub five_rest : drop f.end ks ≡ (numbers_in 5 ks).rest
  unfolding five_at Ends
  five_rest = rw read (ends_numbers 5 ks)

  abbrev read_board : Board
  read_board = board (get_or f.values 0 0) (get_or f.values 2 0) (get_or f.values 3 0) (get_or f.values 4 0)

  head_good : (head_in ks).good ≡ f.whole
  unfolding five_at head_by_numbers
  head_good = rw (head_is ks, read)

  pub head_broken : f.whole ≡ false → head_refusal (head_in ks) ≡ 10
  unfolding head_refusal
  head_broken whole = let bad : (head_in ks).good ≡ false = head_good ∙ whole in rw bad

  -- the numbers behind 10 are those of the board that was read
  pub head_numbers : f.whole ≡ true → (b : Board) → b ≡ read_board → numbers_refusal b (get_or f.values 1 0) ≡ head_refusal (head_in ks)
  unfolding head_refusal five_at head_by_numbers board
  head_numbers whole b e =
      let good : (head_in ks).good ≡ true = head_good ∙ whole in
      rw (e, good) (rw (head_is ks, read))

  pub heading_read : (h : Heading) → board_of h.board ≡ read_board → h.player ≡ get_or f.values 1 0 → h.end ≡ f.end → heading_told h ≡ heading_in ks
  unfolding five_at head_by_numbers heading_in header_of board
  heading_read h b i e = ap (λ (x : Board). told x h.player h.end) b ∙ rw (i, e) (rw (head_is ks, read))

-- all five numbers, or the refusal that stands for a broken one, whichever it is
module _ (ks : List ℕ) (r : Result Read5 Read5) (read : five_of r ≡ five_at ks) where
  pub one_broken : (broken refusal : Refusal) → Err refusal ≡ result_or r (Err broken) → (refusal ≡ broken) × ((five_at ks).whole ≡ false)
  one_broken broken = go r read
    where
      go : (s : Result Read5 Read5) → five_of s ≡ five_at ks → (refusal : Refusal) → Err refusal ≡ result_or s (Err broken)
          → (refusal ≡ broken) × ((five_at ks).whole ≡ false)
      go (Ok f) e refusal is = absurd (search rules)
      go (Err f) e refusal is = (search rules, ap (λ (five : Five). five.whole) (sym e))

  pub all_five : (broken : Refusal) (f : Read5) → Ok f ≡ result_or r (Err broken) → five_of (Ok f) ≡ five_at ks
  all_five broken = go r read
    where
      go : (s : Result Read5 Read5) → five_of s ≡ five_at ks → (f : Read5) → Ok f ≡ result_or s (Err broken) → five_of (Ok f) ≡ five_at ks
      go (Ok g) e f is = let same : f ≡ g = search rules in rw same e
      go (Err g) e f is = absurd (search rules)

-- WHAT A CHECK ANSWERS

pub refused_by : (ks : List ℕ) (n r : ℕ) → n ≡ r → (n ≡ 0 → ⊥) → KeyCheck.Refused n ≡ checked_by r ks
unfolding checked_by
refused_by ks n r e h = rw (← e, ne_eqb n 0 h)

pub accepted_by : (ks : List ℕ) (h : Heading) (r : ℕ) → r ≡ 0 → heading_told h ≡ heading_in ks → KeyCheck.Accepted (heading_told h) ≡ checked_by r ks
unfolding checked_by
accepted_by ks h r e f = rw (e, f)

-- by the code's refusal
pub refused_as : (ks : List ℕ) (refusal : Refusal) (r : ℕ) → refusal_number refusal ≡ r → KeyCheck.Refused (refusal_number refusal) ≡ checked_by r ks
refused_as ks refusal r e = refused_by ks (refusal_number refusal) r e (number_some refusal)

-- of a refused one and of an accepted one
pub refused_says : (ks : List ℕ) (n r : ℕ) → KeyCheck.Refused n ≡ checked_by r ks → (r ≡ n) × (r ≡ 0 → ⊥)
unfolding checked_by
refused_says ks n r e = go (eqb r 0) refl
  where
    go : (t : Bool) → eqb r 0 ≡ t → (r ≡ n) × (r ≡ 0 → ⊥)
    go true h = let z : ◌≡◌ {A = ℕ} 0 1 = cc in absurd (omega arith)
    go false h = (cc, eqb-false r 0 h)

-- an accepted heading: nothing refused, and board, player and what stands behind are the header's
pub record Says (refusal : ℕ) (ks : List ℕ) (h : Heading) : Type 0 where
  pub none : refusal ≡ 0
  pub board_is : (head_in ks).board ≡ board_of h.board
  pub player_is : (head_in ks).player ≡ h.player
  pub rest_is : (head_in ks).rest ≡ drop h.end ks
  pub end_is : h.end ≡ length ks - length (head_in ks).rest

pub heading_same : (ks : List ℕ) (h : Heading) (r : ℕ) → KeyCheck.Accepted (heading_told h) ≡ checked_by r ks → heading_told h ≡ heading_in ks
unfolding checked_by
heading_same ks h r e = go (eqb r 0) refl
  where
    go : (t : Bool) → eqb r 0 ≡ t → heading_told h ≡ heading_in ks
    go true zero_is = cc
    go false some = let z : ◌≡◌ {A = ℕ} 0 1 = cc in absurd (omega arith)

pub accepted_says : (ks : List ℕ) (h : Heading) (r : ℕ) → KeyCheck.Accepted (heading_told h) ≡ checked_by r ks → Says r ks h
unfolding checked_by heading_in header_of board
accepted_says ks h r e =
    let same = heading_same ks h r e in
    let end = ap (λ (x : Told). x.end) same in
    record {
      none = go (eqb r 0) refl;
      board_is = sym (ap (λ (x : Told). board x.header.board.players x.header.board.positions x.header.board.width x.header.board.value_bytes) same);
      player_is = sym (ap (λ (x : Told). x.header.player) same);
      rest_is = sym (heading_rest ks) ∙ ap (λ (k : ℕ). drop k ks) (sym end);
      end_is = end;
    }
  where
    go : (t : Bool) → eqb r 0 ≡ t → r ≡ 0
    go true zero_is = eqb-true r 0 zero_is
    go false some = let z : ◌≡◌ {A = ℕ} 0 1 = cc in absurd (omega arith)

-- the numbers of a heading are those of the header that is made of it
pub heading_numbers : (h : Heading) (made : Header) → header_board made ≡ board_of h.board → made.player ≡ h.player →
    header_numbers (header_told made) ≡ header_numbers (heading_told h).header
unfolding header_numbers board
heading_numbers h made e i =
    rw (ap (λ (b : Board). b.p) e, i, ap (λ (b : Board). b.n) e, ap (λ (b : Board). b.wide) e, ap (λ (b : Board). b.w) e) refl

-- a header ends behind its bytes
pub header_ends : (ks : List ℕ) (h : Heading) (r : ℕ) → Says r ks h → bytes_good ks ≡ true → (head_in ks).good ≡ true → h.end ≡ length (header (head_in ks).board (head_in ks).player)
header_ends ks h r says good read =
    let front = header (head_in ks).board (head_in ks).player in
    let whole : length ks ≡ length front + length (head_in ks).rest = ap length (header_again ks good read) ∙ length-append front (head_in ks).rest in
    says.end_is ∙ omega arith
