-- The laws of the dealing program: its five numbers are read one behind another, its lent parts are cut one behind another, its last numbers
-- are Deal's with an output of the most bytes, and 65,537 bytes of its input are enough. Assumes nothing.
use mathlib.Core.Path.{◌≡◌, refl, sym, ap, ◌∙◌, subst}
use mathlib.Core.Bool.{Bool, true, false, ◌&&◌, ◌||◌, not, cond, false≢true}
use mathlib.Core.List.{List}
use Prim.Native.Nat.{ℕ, ◌+◌, ◌*◌, ◌-◌, ◌≤◌, ◌<◌}
use native.Mathlib.Omega.{arith}
use lib.Dec.{ltb, leb, eqb}
use lib.ListN.{length, get_or, take, drop, length-drop}
use lib.Seq.{length-take-le, take_all, drop-drop}
use borrow.Author.Tests.{lt-ltb, le-ltb, le-leb, lt-leb, ltb-true, ltb-false, leb-false, eqb-true, eq-eqb, ne_eqb, not-false}
use Rattle.grid.specs.Grid.{Board, board, board_refusal, arrays_long, seeds_long, words_long}
use Rattle.keys.specs.Keys.{number_in, numbers_in, Lent, lent, key_long, sizes_refusal, lent_fault, deal_refusal, or_else}
use Rattle.key_header.specs.Answers.{Five, five_at}
use Rattle.key_header.proofs.Reading.{five_rest}
use Rattle.keys.proofs.Accepted.{passed, refusing, first_fits, next_fits, neither}
use Rattle.keys.proofs.Cut.{numbers_cut}
use Rattle.call_answers.specs.Answers.{PutSays, DealSays, told, deal_answer, DealTells}
use Rattle.std.specs.Prelude.{Result, ⊤}
use Rattle.dealing.specs.Refused.{number_told}
use Rattle.dealing.specs.declared.DealRefusal.{DealRefusal}
use Rattle.call_answers.proofs.Telling.{says_number}
use Rattle.call_answers.proofs.Putting.{room_there, answer_is, put, untouched}
use Rattle.text.specs.Text.{refused_line}
use Rattle.text.proofs.Laws.{refused_most}
use Rattle.program_output.specs.Output.{Writes, Enough, Fits}
use Rattle.program_output.proofs.Writing.{writes_as, writes_within, either_fits, read_none, read_some, read_either}
use Rattle.program_deal.specs.Dealing.{Input, input_in, asked_bytes, lent_in, asked_refusal, lent_refusal, dealing_refusal, keys_of, dealing_output}
use Rattle.program_deal.specs.Dealing.{DealingWhole, DealsRead, dealt_output, Deals}
use Rattle.program_deal.proofs.Lengths.{keys_count}

-- what is cut from a place to the end
all_behind : (from : ℕ) (xs : List ℕ) → take (length xs - from) (drop from xs) ≡ drop from xs
all_behind from xs = take_all (length xs - from) (drop from xs) (omega (arith, length-drop from xs))

-- THE FIVE NUMBERS

module _ (bs : List ℕ) (five : Five) (read : five ≡ five_at bs) where
  pub broken_input : five.whole ≡ false → dealing_output bs ≡ refused_line 10
  unfolding dealing_output dealing_refusal input_in five_at
  broken_input none =
      let bad : (numbers_in 5 bs).good ≡ false = sym (ap (λ (f : Five). f.whole) read) ∙ none in rw bad

  module _ (whole : five.whole ≡ true) where
    abbrev point : ℕ
    point = get_or five.values 4 0

    -- what stands behind them, as the code cuts it out
    abbrev rest : List ℕ
    rest = take (length bs - five.end) (drop five.end bs)

    module _ (b : Board) (is : b ≡ board (get_or five.values 0 0) (get_or five.values 1 0) (get_or five.values 2 0) (get_or five.values 3 0)) where
      abbrev asked : ℕ
      asked = asked_refusal b point (length bs) (length rest)

      read_so : input_in bs ≡ record { good = true; board = b; point = point; rest = rest }
      unfolding input_in five_at
      read_so =
          let good : (numbers_in 5 bs).good ≡ true = sym (ap (λ (f : Five). f.whole) read) ∙ whole in
          let values : (numbers_in 5 bs).values ≡ five.values = sym (ap (λ (f : Five). f.values) read) in
          rw (good, values, all_behind five.end bs, five_rest bs five read, is)

      chain : dealing_refusal bs ≡ or_else asked (lent_refusal b (lent_in b point rest))
      unfolding dealing_refusal
      chain = rw read_so

      pub asked_input : asked ≡ 0 → dealing_output bs ≡ dealt_output b (lent_in b point rest)
      unfolding dealing_output dealt_output
      asked_input none = rw (chain, next_fits asked (lent_refusal b (lent_in b point rest)) none, read_so)

      pub refused_input : (n : ℕ) → n ≡ asked → (n ≡ 0 → ⊥) → dealing_output bs ≡ refused_line n
      unfolding dealing_output
      refused_input n e some =
          let number : dealing_refusal bs ≡ n = chain ∙ first_fits asked (lent_refusal b (lent_in b point rest)) (λ z. some (e ∙ z)) ∙ sym e in
          rw (number, ne_eqb n 0 some)

-- 1 TO 5, 6, 7

either : (s t : Bool) → (s || t) ≡ false → (s ≡ false) × (t ≡ false)
either true t h = absurd (false≢true (sym h))
either false t h = (refl, h)

module _ (b : Board) (a whole rest : ℕ) where
  pub asked_board : (n : ℕ) → n ≡ board_refusal b → (n ≡ 0 → ⊥) → n ≡ asked_refusal b a whole rest
  unfolding asked_refusal
  asked_board n e some = rw (← e, ne_eqb n 0 some)

  module _ (accepted : board_refusal b ≡ 0) where
    pub asked_point : b.n ≤ a → 6 ≡ asked_refusal b a whole rest
    unfolding asked_refusal
    asked_point h = rw (accepted, le-leb b.n a h) refl

    module _ (point : a < b.n) where
      pub asked_most : 65536 < whole → 7 ≡ asked_refusal b a whole rest
      unfolding asked_refusal
      asked_most h = rw (accepted, lt-leb b.n a point, lt-ltb 65536 whole h)

      module _ (few : whole ≤ 65536) (long : ℕ) (is : long ≡ asked_bytes b) where
        pub asked_length : (rest ≡ long → ⊥) → 7 ≡ asked_refusal b a whole rest
        unfolding asked_refusal
        asked_length h = rw (accepted, lt-leb b.n a point, le-ltb 65536 whole few, ← is, ne_eqb rest long h)

        pub asked_none : rest ≡ long → 0 ≡ asked_refusal b a whole rest
        unfolding asked_refusal
        asked_none h = rw (accepted, lt-leb b.n a point, le-ltb 65536 whole few, ← is, eq-eqb rest long h)

  pub asked_fine : asked_refusal b a whole rest ≡ 0 → (board_refusal b ≡ 0) × (a < b.n) × (rest ≡ asked_bytes b)
  unfolding asked_refusal
  asked_fine z =
      let first = passed (not (eqb (board_refusal b) 0)) (board_refusal b) _ (refusing (board_refusal b)) z in
      let second = passed (leb b.n a) 6 _ (λ t n. omega arith) first.1 in
      let third = passed (ltb 65536 whole || not (eqb rest (asked_bytes b))) 7 0 (λ t n. omega arith) second.1 in (
        eqb-true (board_refusal b) 0 (not-false (eqb (board_refusal b) 0) first.0),
        leb-false b.n a second.0,
        eqb-true rest (asked_bytes b) (not-false (eqb rest (asked_bytes b)) (either (ltb 65536 whole) (not (eqb rest (asked_bytes b))) third.0).1),
      )

-- THE LENT PARTS

-- four parts, one behind another, are as long as they are asked
module _ (v c s w : ℕ) (xs : List ℕ) (long : length xs ≡ v + c + s + w) where
  first_part : length (take v xs) ≡ v
  first_part = length-take-le v xs (omega arith)

  second_part : length (take c (drop v xs)) ≡ c
  second_part = length-take-le c (drop v xs) (rw (length-drop v xs) (omega arith))

  third_part : length (take s (drop (v + c) xs)) ≡ s
  third_part = length-take-le s (drop (v + c) xs) (rw (length-drop (v + c) xs) (omega arith))

  fourth_part : length (drop (v + c + s) xs) ≡ w
  fourth_part = length-drop (v + c + s) xs ∙ omega arith

-- the parts as the code cuts them
pub cut : (b : Board) (a arrays_end seeds_end : ℕ) (xs : List ℕ) {v behind cs behind_them ss ws : List ℕ} → arrays_end ≡ arrays_long b →
    seeds_end ≡ seeds_long b → v ≡ take b.w xs → behind ≡ drop b.w xs → cs ≡ take arrays_end behind → behind_them ≡ drop arrays_end behind →
    ss ≡ take seeds_end behind_them → ws ≡ drop seeds_end behind_them → lent a v cs ss ws ≡ lent_in b a xs
unfolding lent_in
cut b a n m xs e f value behind arrays behind_them seeds words =
    rw (value, arrays, seeds, words, behind_them, behind, e, f, drop-drop (arrays_long b) b.w xs, drop-drop (seeds_long b) (b.w + arrays_long b) xs)

-- what Deal tells is the number of its answer
told_number : (d : Result ⊤ DealRefusal) → number_told d ≡ (told (deal_answer d)).number
unfolding told
told_number (Result.Ok u) = refl
told_number (Result.Err (DealRefusal.Plain r)) = refl
told_number (Result.Err (DealRefusal.Fault f)) = refl

pub deal_cut : (b : Board) (a : ℕ) (xs v cs ss ws : List ℕ) (d : Result ⊤ DealRefusal) (r : ℕ) (o z : List ℕ) → lent a v cs ss ws ≡ lent_in b a xs →
    DealTells b.p b.n b.wide b.w a v cs ss ws (told (deal_answer d)) o z → r ≡ number_told d → Deals b (lent_in b a xs) r o z
unfolding Deals
deal_cut b a xs v cs ss ws d r o z same tells e =
    subst (λ (l : Lent). Deals b l r o z) same (says_number _ _ _ _ _ _ _ _ _ o z (deal_answer d) r tells (e ∙ told_number d))

-- they stand inside
pub parts_within : (b : Board) (xs : List ℕ) → length xs ≡ asked_bytes b → b.w + arrays_long b + seeds_long b ≤ length xs
unfolding asked_bytes
parts_within b xs long = omega arith

module _ (b : Board) (a : ℕ) (xs : List ℕ) (accepted : board_refusal b ≡ 0) (point : a < b.n) (long : length xs ≡ asked_bytes b) where
  abbrev fault : ℕ
  fault = (lent_fault b (lent_in b a xs)).number

  lengths : length xs ≡ b.w + arrays_long b + seeds_long b + words_long b
  unfolding asked_bytes
  lengths = long

  -- Deal asks only 18 to 20 of them
  sizes_asked : sizes_refusal b (lent_in b a xs) ≡ 0
  unfolding sizes_refusal lent_in
  sizes_asked =
      let cells = arrays_long b in
      let seeds = seeds_long b in
      let words = words_long b in
      let one = eq-eqb (length (take b.w xs)) b.w (first_part b.w cells seeds words xs lengths) in
      let two = eq-eqb (length (take cells (drop b.w xs))) cells (second_part b.w cells seeds words xs lengths) in
      let three = eq-eqb (length (take seeds (drop (b.w + cells) xs))) seeds (third_part b.w cells seeds words xs lengths) in
      let four = eq-eqb (length (drop (b.w + cells + seeds) xs)) words (fourth_part b.w cells seeds words xs lengths) in
      rw (accepted, lt-leb b.n a point, one, two, three, four)

  deal_asks : deal_refusal b (lent_in b a xs) ≡ fault
  unfolding deal_refusal
  deal_asks = next_fits (sizes_refusal b (lent_in b a xs)) fault sizes_asked

  -- the keys are as long as they are asked, where the arrays are in order
  keys_fit : fault ≡ 0 → length (keys_of b (lent_in b a xs)) ≡ b.p * key_long b
  unfolding keys_of
  keys_fit fine = keys_count b (lent_in b a xs) (deal_asks ∙ fine)

  -- 18 to 20, 9: with an output of the most bytes, Deal's numbers are the program's
  program_asks : (room : ℕ) → room ≡ 65536 →
      or_else (deal_refusal b (lent_in b a xs)) (cond (ltb room (b.p * key_long b)) 9 0) ≡ lent_refusal b (lent_in b a xs)
  unfolding lent_refusal
  program_asks room is = rw (deal_asks, is)

  -- where neither refuses, the keys are as many as asked, and not above the most
  pub dealt_keys : lent_refusal b (lent_in b a xs) ≡ 0 → (length (keys_of b (lent_in b a xs)) ≡ b.p * key_long b) × (b.p * key_long b ≤ 65536)
  unfolding lent_refusal
  dealt_keys z =
      let both = neither fault _ z in
      (keys_fit both.0, room_there 65536 (b.p * key_long b) both.1)

  -- what Deal leaves in such an output
  module _ (r : ℕ) (o z : List ℕ) (room : length o ≡ 65536) (says : Deals b (lent_in b a xs) r o z) where
    as_put : PutSays (lent_refusal b (lent_in b a xs)) (keys_of b (lent_in b a xs)) r o z
    unfolding Deals DealSays keys_of board
    as_put = subst (λ (n : ℕ). PutSays n (keys_of b (lent_in b a xs)) r o z) (program_asks (length o) room) says

    number : r ≡ lent_refusal b (lent_in b a xs)
    number = answer_is _ (keys_of b (lent_in b a xs)) r o z as_put

    pub dealt_written : (keys : ℕ) → keys ≡ b.p * key_long b → r ≡ 0 → Writes (dealt_output b (lent_in b a xs)) keys o z
    unfolding dealt_output Writes
    dealt_written keys is none =
        let accepted : lent_refusal b (lent_in b a xs) ≡ 0 = sym number ∙ none in
        rw accepted (is ∙ sym (dealt_keys accepted).0, put _ (keys_of b (lent_in b a xs)) r o z as_put accepted)

    pub dealt_refused : (r ≡ 0 → ⊥) → (dealt_output b (lent_in b a xs) ≡ refused_line r) × (z ≡ o)
    unfolding dealt_output
    dealt_refused some = (rw (← number, ne_eqb r 0 some), untouched _ (keys_of b (lent_in b a xs)) r o z as_put some)

-- WHAT MAKES THE BUFFERS RIGHT

-- of an input above the most the board and the point decide: 1 to 5, 6, or else 7
long_asked : Board → (point : ℕ) → ℕ
long_asked b a = cond (not (eqb (board_refusal b) 0)) (board_refusal b) (cond (leb b.n a) 6 7)

long_asks : (b : Board) (a whole rest : ℕ) → 65536 < whole → asked_refusal b a whole rest ≡ long_asked b a
unfolding asked_refusal long_asked
long_asks b a whole rest h = rw (lt-ltb 65536 whole h)

some_asked : (b : Board) (a : ℕ) → long_asked b a ≡ 0 → ⊥
unfolding long_asked
some_asked b a z = last (leb b.n a) (passed (not (eqb (board_refusal b) 0)) (board_refusal b) _ (refusing (board_refusal b)) z).1
  where
    last : (t : Bool) → ◌≡◌ {A = ℕ} (cond t 6 7) 0 → ⊥
    last true z = omega arith
    last false z = omega arith

-- and 10 comes first
long_number : Input → ℕ
long_number i = cond (not i.good) 10 (long_asked i.board i.point)

some_number : (i : Input) → long_number i ≡ 0 → ⊥
unfolding long_number
some_number i z = some_asked i.board i.point (passed (not i.good) 10 _ (λ t n. omega arith) z).1

module _ (bs : List ℕ) (above : 65536 < length bs) where
  long_refused : dealing_refusal bs ≡ long_number (input_in bs)
  unfolding dealing_refusal long_number
  long_refused =
      let i = input_in bs in
      let b = i.board in
      rw (long_asks b i.point (length bs) (length i.rest) above)
      (ap (λ (n : ℕ). cond (not i.good) 10 n)
      (first_fits (long_asked b i.point) (lent_refusal b (lent_in b i.point i.rest)) (some_asked b i.point)))

  long_output : dealing_output bs ≡ refused_line (long_number (input_in bs))
  unfolding dealing_output
  long_output = rw (long_refused, ne_eqb (long_number (input_in bs)) 0 (some_number (input_in bs)))

-- the numbers of an input are those of its first bytes
cut_number : (n : ℕ) (bs : List ℕ) → 15 ≤ n → long_number (input_in (take n bs)) ≡ long_number (input_in bs)
unfolding long_number input_in
cut_number n bs h = let same = numbers_cut 5 n bs h in rw (same.good, same.values)

pub dealing_enough : {n : ℕ} → 65536 < n → Enough n dealing_output
unfolding Enough
dealing_enough {n} h bs = go (ltb n (length bs)) refl
  where
    go : (t : Bool) → ltb n (length bs) ≡ t → dealing_output (take n bs) ≡ dealing_output bs
    go true e =
        let longer : n < length bs = ltb-true n (length bs) e in
        long_output (take n bs) (rw (length-take-le n bs (omega arith)) h)
        ∙ ap (λ (k : ℕ). refused_line k) (cut_number n bs (omega arith)) ∙ sym (long_output bs (omega arith))
    go false e = ap dealing_output (take_all n bs (ltb-false n (length bs) e))

pub dealing_fits : {n : ℕ} → 65536 ≤ n → Fits n dealing_output
unfolding Fits dealing_output dealing_refusal
dealing_fits {n} h bs =
    let i = input_in bs in
    let whole = length bs in
    let rest = length i.rest in
    either_fits (eqb (dealing_refusal bs) 0) (keys_of i.board (lent_in i.board i.point i.rest)) (refused_line (dealing_refusal bs)) n
    (λ e.
    let ten = passed (not i.good) 10 _ (λ t n. omega arith) (eqb-true (dealing_refusal bs) 0 e) in
    let both = neither (asked_refusal i.board i.point whole rest) _ ten.1 in
    let fine = asked_fine i.board i.point whole rest both.0 in
    let keys = dealt_keys i.board i.point i.rest fine.0 fine.1 fine.2 both.1 in
    omega (arith, keys.0, keys.1))
    (λ e. omega (arith, refused_most (dealing_refusal bs)))

pub dealing_whole : DealingWhole
unfolding DealingWhole
dealing_whole = (dealing_enough (omega arith), dealing_fits (omega arith))

-- A BUFFER that an input was read into

module _ (xs : List ℕ) (n r : ℕ) (o z : List ℕ) where
  pub deals_read : 65536 < length xs → n ≤ length xs → Writes (dealing_output (take n xs)) r o z → DealsRead xs n r o z
  unfolding DealsRead Enough
  deals_read above within says =
      read_some xs n within
      (λ bs read. writes_as (dealing_output bs) (dealing_output (take n xs)) r o z (sym (ap dealing_output read ∙ dealing_enough above bs)) says)

  pub deals_none : length xs < n → r ≡ 0 → z ≡ o → DealsRead xs n r o z
  unfolding DealsRead
  deals_none above none out = read_none xs n above (none, out)

  -- no more is written than there is room for
  pub deals_read_within : DealsRead xs n r o z → r ≤ length z
  unfolding DealsRead
  deals_read_within says = read_either xs n says (λ w. writes_within (dealing_output (take n xs)) r o z w) (λ w. omega (arith, w.0))
