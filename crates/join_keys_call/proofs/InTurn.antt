-- The numbers of Join keys: a header's own, a key at its place, each key in turn, and the whole chain. What each test answers, and what is
-- left where none fits. Assumes nothing.
use mathlib.Core.Path.{◌≡◌, refl, sym, ap, ◌∙◌, subst}
use mathlib.Core.Bool.{Bool, true, false, ◌&&◌, not, cond}
use mathlib.Core.List.{List, ◌++◌}
use Prim.Native.Nat.{ℕ, zero, suc, ◌+◌, ◌*◌, ◌-◌, ◌≤◌, ◌<◌}
use native.Mathlib.Nat.{mul-le-mul_right}
use native.Mathlib.Omega.{arith}
use borrow.Author.Tests.{eq-eqb, ne_eqb, le-ltb, lt-ltb, eqb-true, ltb-false, not-false}
use lib.Dec.{eqb, ltb}
use lib.ListN.{length, take, drop, length-drop}
use lib.Seq.{drop-drop, length-take-le}
use Rattle.xor.proofs.Laws.{and_left, and_right}
use Rattle.writer.proofs.Laws.{in_front_part}
use Rattle.grid.specs.Grid.{Board, board, grid_rows}
use Rattle.grid.specs.Code.{board_of}
use Rattle.grid.specs.declared.board.Board as code
use Rattle.grid.proofs.Facts.{board_in}
use Rattle.keys.specs.Keys.{head_in, or_else, head_refusal, key_long, marks_good, AcceptedAs}
use Rattle.keys.proofs.Accepted.{passed, last_passed, first_fits, next_fits, neither, head_fine, key_accepted}
use Rattle.key_header.specs.Answers.{KeyCheck, checked_by, heading_told}
use Rattle.key_header.specs.declared.header.Heading.{Heading}
use Rattle.key_header.proofs.Reading.{refused_says, accepted_says}
use Rattle.key_lengths.proofs.Lengths.{long_is}
use Rattle.call_answers.proofs.Answering.{put_number, put_done}
use Rattle.join_keys_call.specs.JoinKeys.{same_board, place_refusal, places_refusal, keys_refusal, joined_table, JoinKeysSays}

-- THE SAME BOARD

board_by : {p n m w p' n' m' w' : ℕ} → p ≡ p' → n ≡ n' → m ≡ m' → w ≡ w'
    → ◌≡◌ {A = Board} (record { p = p; n = n; wide = m; w = w }) (record { p = p'; n = n'; wide = m'; w = w' })
board_by p n m w = cc

pub boards_same : (b c : Board) → same_board b c ≡ true → b ≡ c
unfolding same_board
boards_same b c h =
    let p = eqb b.p c.p in
    let n = eqb b.n c.n in
    let m = eqb b.wide c.wide in
    let w = eqb b.w c.w in
    let left = and_left (p && n) (m && w) h in
    let right = and_right (p && n) (m && w) h in
    board_by (eqb-true b.p c.p (and_left p n left)) (eqb-true b.n c.n (and_right p n left)) (eqb-true b.wide c.wide (and_left m w right))
    (eqb-true b.w c.w (and_right m w right))

-- ONE KEY AT ITS PLACE

module _ (b : Board) (i : ℕ) (ks : List ℕ) where
  pub place_header : (n : ℕ) → KeyCheck.Refused n ≡ checked_by (head_refusal (head_in ks)) ks → n ≡ place_refusal b i ks
  unfolding place_refusal
  place_header n e = let says = refused_says ks n _ e in sym (first_fits _ _ says.1 ∙ says.0)

  module _ (h : Heading) (read : KeyCheck.Accepted (heading_told h) ≡ checked_by (head_refusal (head_in ks)) ks) (same : Bool)
      (test : same ≡ (same_board (board_of h.board) b && eqb h.player i))
    where
      chain : place_refusal b i ks ≡ cond (not same) 15 (cond (marks_good (grid_rows b) b (drop h.end ks)) 0 13)
      unfolding place_refusal
      chain =
          let says = accepted_says ks h _ read in
          next_fits (head_refusal (head_in ks)) _ says.none ∙ rw (says.board_is, says.player_is, says.rest_is, ← test)

      pub place_other : same ≡ false → 15 ≡ place_refusal b i ks
      place_other z = sym (chain ∙ rw z)

      module _ (own : same ≡ true) (part : List ℕ) (cut : part ≡ drop h.end ks) (marks : Bool) (seen : marks ≡ marks_good (grid_rows b) b part) where
        chain_marks : place_refusal b i ks ≡ cond marks 0 13
        chain_marks = chain ∙ rw (own, ← cut, ← seen)

        pub place_marks : marks ≡ false → 13 ≡ place_refusal b i ks
        place_marks z = sym (chain_marks ∙ rw z)

        pub place_none : marks ≡ true → 0 ≡ place_refusal b i ks
        place_none z = sym (chain_marks ∙ rw z)

-- EACH KEY IN TURN

pub places_step : (k i : ℕ) (b : Board) (bs : List ℕ)
    → places_refusal (suc k) i b bs ≡ or_else (place_refusal b i (take (key_long b) bs)) (places_refusal k (suc i) b (drop (key_long b) bs))
unfolding places_refusal
places_step k i b bs = refl

-- the keys before `place` are passed
abbrev pub Passed : (p : ℕ) → Board → (bs : List ℕ) → (place long : ℕ) → Type 0
Passed p b bs place long = places_refusal (p - place) place b (drop (place * long) bs) ≡ places_refusal p 0 b bs

pub none_passed : (p : ℕ) (b : Board) (bs : List ℕ) (long : ℕ) → Passed p b bs 0 long
none_passed p b bs long =
    let all : p - 0 ≡ p = omega arith in
    let first : 0 * long ≡ 0 = omega arith in
    rw (all, first)

module _ {p place : ℕ} (b : Board) (bs : List ℕ) (long : ℕ) (before : Passed p b bs place long) (more : place < p) (k : long ≡ key_long b) where
  abbrev key_there : List ℕ
  key_there = take (place * long + long - place * long) (drop (place * long) bs)

  turn : places_refusal p 0 b bs ≡ or_else (place_refusal b place key_there) (places_refusal (p - suc place) (suc place) b (drop (suc place * long) bs))
  turn =
      let at = place * long in
      let wide : at + long - at ≡ long = omega arith in
      let left : p - place ≡ suc (p - suc place) = omega arith in
      let next : at + long ≡ suc place * long = omega arith in
      sym before ∙ rw (left, places_step (p - suc place) place b (drop at bs), wide, ← k, drop-drop long at bs, next)

  pub turn_refused : (r : ℕ) → r ≡ place_refusal b place key_there → (r ≡ 0 → ⊥) → r ≡ places_refusal p 0 b bs
  turn_refused r e z = e ∙ sym (first_fits _ _ (λ q. z (e ∙ q))) ∙ sym turn

  pub turn_passed : 0 ≡ place_refusal b place key_there → Passed p b bs (place + 1) long
  turn_passed e =
      let next : place + 1 ≡ suc place = omega arith in
      rw next (sym (next_fits (place_refusal b place key_there) _ (sym e)) ∙ sym turn)

-- the next key stands among the keys
pub key_inside : {p place long : ℕ} (b : Board) (bs : List ℕ) → place < p → long ≡ key_long b → length bs ≡ p * key_long b → place * long + long ≤ length bs
key_inside {p} {place} {long} b bs more k whole =
    let last : suc place * long ≤ p * long = mul-le-mul_right long more in
    let all : length bs ≡ p * long = whole ∙ ap (λ (n : ℕ). p * n) (sym k) in
    omega (arith, last, all)

pub all_passed : {p place : ℕ} (b : Board) (bs : List ℕ) (long : ℕ) → Passed p b bs place long → p ≤ place → 0 ≡ places_refusal p 0 b bs
unfolding places_refusal
all_passed {p} {place} b bs long before h = let none : p - place ≡ 0 = omega arith in rw none at before

-- where none is refused, each key at its place is an accepted key of the first one's board and of its place's player
pub place_accepted : (b : Board) (i : ℕ) (ks : List ℕ) → place_refusal b i ks ≡ 0 → length ks ≡ key_long b
    → AcceptedAs b i ks
unfolding place_refusal
place_accepted b i ks none long =
    let h = head_in ks in
    let both = neither (head_refusal h) _ none in
    let own = head_fine h both.0 in
    let here = passed (not (same_board h.board b && eqb h.player i)) 15 _ (λ t n. omega arith) both.1 in
    let both_are = not-false (same_board h.board b && eqb h.player i) here.0 in
    let same : h.board ≡ b = boards_same h.board b (and_left (same_board h.board b) (eqb h.player i) both_are) in
    let marks = last_passed (marks_good (grid_rows b) b h.rest) 13 (omega arith) here.1 in
    let board = board_in h.board own.1 in
    let small : h.player < 128 = omega (arith, own.2, board.players_most) in
    record {
      none = key_accepted ks
          (record {
            header_good = own.0;
            board = board;
            player = own.2;
            long = long ∙ ap key_long (sym same) ∙ sym (long_is h.board h.player small);
            marks = subst (λ (c : Board). marks_good (grid_rows c) c h.rest ≡ true) (sym same) marks;
          });
      board_is = same;
      player_is = eqb-true h.player i (and_right (same_board h.board b) (eqb h.player i) both_are);
    }

pub places_each : (k i : ℕ) (b : Board) (bs : List ℕ) → places_refusal k i b bs ≡ 0 → (m : ℕ) → m < k
    → place_refusal b (i + m) (take (key_long b) (drop (m * key_long b) bs)) ≡ 0
places_each zero i b bs none m h = let no : ⊥ = omega arith in absurd no
places_each (suc k) i b bs none zero h =
    let here : i + zero ≡ i = omega arith in
    let first : zero * key_long b ≡ 0 = omega arith in
    rw (here, first) (neither _ _ (sym (places_step k i b bs) ∙ none)).0
places_each (suc k) i b bs none (suc m) h =
    let next : i + suc m ≡ suc i + m = omega arith in
    let further : suc m * key_long b ≡ key_long b + m * key_long b = omega arith in
    rw (next, further, ← (drop-drop (m * key_long b) (key_long b) bs))
    (places_each k (suc i) b (drop (key_long b) bs) (neither _ _ (sym (places_step k i b bs) ∙ none)).1 m (omega arith))

-- each key, by its place
pub key_at : (b : Board) (bs : List ℕ) (p i long : ℕ) → length bs ≡ p * key_long b → places_refusal p 0 b bs ≡ 0 → long ≡ key_long b
    → i < p → AcceptedAs b i (take long (drop (i * long) bs))
key_at b bs p i long whole none k h =
    let room : suc i * key_long b ≤ p * key_long b = mul-le-mul_right (key_long b) h in
    let here : 0 + i ≡ i = omega arith in
    rw k
    (place_accepted b i (take (key_long b) (drop (i * key_long b) bs)) (rw here at (places_each p 0 b bs none i h))
    (length-take-le (key_long b) (drop (i * key_long b) bs) (rw length-drop (omega (arith, whole, room)))))

-- THE WHOLE CHAIN

pub keys_header : (bs : List ℕ) (room n : ℕ) → KeyCheck.Refused n ≡ checked_by (head_refusal (head_in bs)) bs → (keys_refusal bs room ≡ n) × (n ≡ 0 → ⊥)
unfolding keys_refusal
keys_header bs room n e = let says = refused_says bs n _ e in (first_fits _ _ says.1 ∙ says.0, λ z. says.1 (says.0 ∙ z))

module _ (bs : List ℕ) (c : code.Board) (own : head_refusal (head_in bs) ≡ 0) (board_is : (head_in bs).board ≡ board_of c) (room : ℕ) where
  whole : keys_refusal bs room
      ≡ cond (not (eqb (length bs) (c.players * key_long (board_of c)))) 12
      (or_else (places_refusal c.players 0 (board_of c) bs) (cond (ltb room (c.positions * c.value_bytes)) 9 0))
  unfolding keys_refusal board
  whole = next_fits (head_refusal (head_in bs)) _ own ∙ rw board_is

  -- what is left where none fits
  pub keys_fit : keys_refusal bs room ≡ 0
      → (length bs ≡ c.players * key_long (board_of c)) × (places_refusal c.players 0 (board_of c) bs ≡ 0) × (c.positions * c.value_bytes ≤ room)
  keys_fit none =
      let asked = c.players * key_long (board_of c) in
      let long = passed (not (eqb (length bs) asked)) 12 _ (λ t n. omega arith) (sym whole ∙ none) in
      let each = neither (places_refusal c.players 0 (board_of c) bs) _ long.1 in
      let last = passed (ltb room (c.positions * c.value_bytes)) 9 0 (λ t n. omega arith) each.1 in
      (eqb-true (length bs) asked (not-false (eqb (length bs) asked) long.0), each.0, ltb-false room (c.positions * c.value_bytes) last.0)

  module _ (long : ℕ) (k : long ≡ key_long (board_of c)) where
    pub keys_length : (length bs ≡ c.players * long → ⊥) → 12 ≡ keys_refusal bs room
    keys_length z = sym (whole ∙ rw (← k, ne_eqb (length bs) (c.players * long) z))

    module _ (asked : length bs ≡ c.players * long) where
      behind : keys_refusal bs room ≡ or_else (places_refusal c.players 0 (board_of c) bs) (cond (ltb room (c.positions * c.value_bytes)) 9 0)
      behind = whole ∙ rw (← k, eq-eqb (length bs) (c.players * long) asked)

      pub keys_places : (n : ℕ) → n ≡ places_refusal c.players 0 (board_of c) bs → (n ≡ 0 → ⊥) → n ≡ keys_refusal bs room
      keys_places n e z = sym (behind ∙ rw (← e) (first_fits n _ z))

      module _ (passed_all : places_refusal c.players 0 (board_of c) bs ≡ 0) where
        last : keys_refusal bs room ≡ cond (ltb room (c.positions * c.value_bytes)) 9 0
        last = behind ∙ next_fits _ _ passed_all

        pub keys_room : room < c.positions * c.value_bytes → 9 ≡ keys_refusal bs room
        keys_room z = sym (last ∙ rw (lt-ltb room (c.positions * c.value_bytes) z))

        pub keys_none : c.positions * c.value_bytes ≤ room → 0 ≡ keys_refusal bs room
        keys_none z = sym (last ∙ rw (le-ltb room (c.positions * c.value_bytes) z))

-- WHAT JOIN KEYS SAYS

module _ (bs o : List ℕ) where
  pub join_header_refused : (n : ℕ) → KeyCheck.Refused n ≡ checked_by (head_refusal (head_in bs)) bs → JoinKeysSays bs n o o
  unfolding JoinKeysSays
  join_header_refused n e = let number = keys_header bs (length o) n e in put_number _ n _ o number.0 number.1

  pub join_refused : (r : ℕ) → r ≡ keys_refusal bs (length o) → (r ≡ 0 → ⊥) → JoinKeysSays bs r o o
  unfolding JoinKeysSays
  join_refused r e h = put_number _ r _ o (sym e) h

  pub join_done : (c : code.Board) (last : List ℕ) (k : ℕ) → (head_in bs).board ≡ board_of c → keys_refusal bs (length o) ≡ 0 → length last ≡ k
      → last ≡ joined_table c.players (board_of c) bs → JoinKeysSays bs 0 o (last ++ drop k o)
  unfolding JoinKeysSays board
  join_done c last k board_is none long e =
      put_done _ _ 0 o (last ++ drop k o) none refl (in_front_part (joined_table (head_in bs).board.p (head_in bs).board bs) last o k long (e ∙ rw board_is))
