-- The laws of whole keys: how long their parts are, that a key is its front and the last word, and keys written one behind another. Assumes nothing.
use mathlib.Core.Path.{◌≡◌, refl, sym, ap, ◌∙◌, subst}
use mathlib.Core.Bool.{Bool, true, false, ◌&&◌, not, cond, false≢true}
use mathlib.Core.List.{List, [], ◌∷◌, ◌++◌, append_assoc, append-nil}
use Prim.Native.Nat.{ℕ, zero, suc, ◌+◌, ◌*◌, ◌-◌, ◌/◌, ◌^◌, ◌≤◌, ◌<◌}
use native.Mathlib.Omega.{arith}
use native.Mathlib.Nat.{add-zero, mul-le-mul, mul-le-mul_right, div-eq_of_lt}
use lib.Dec.{ltb, eqb}
use lib.ListN.{length, take, drop, length-append, length-drop}
use lib.Pow.{pow_mono}
use lib.Seq.{length-take-le, take_all}
use borrow.Author.Tests.{ltb-true, ltb-false}
use Rattle.xor.proofs.Laws.{and_left, and_right}
use Rattle.grid.specs.Grid.{Board, columns, grid_rows, row_long, bit, is_odd, same_parity, member, array_good, arrays_good, last_word, all_words}
use Rattle.grid.specs.Arrays.{count_marked, HalfIsMarked}
use Rattle.grid.proofs.Facts.{BoardIn, board_in, board_accepted, columns_half, columns_pos}
use Rattle.grid.proofs.Arrays.{half_is_marked}
use Rattle.keys.specs.Keys.{Lent, header, packed, held_seeds, mark_bytes, body_from, glued, key_long, words_from, dealing, key, keys_from, stride}
use Rattle.keys.proofs.Lists.{glue_words}
use Rattle.keys.proofs.Numbers.{header_long}
use Rattle.writer.specs.Written.{Wrote, written, in_front}
use Rattle.writer.proofs.Laws.{wrote_then, wrote_more, wrote_length, part_kept, part_written, written_front}
use Rattle.deal_marks.proofs.PackedMarks.{packed_long}
use Rattle.deal_last_word.specs.LastWord.{dealt_word}
use Rattle.seed_rows.specs.Rows.{rule}
use Rattle.deal_last_word.proofs.LastWord.{dealt_word_long}
use Rattle.deal_keys.specs.Dealt.{key_front, dealt_keys}
use Rattle.keys.proofs.Lending.{AcceptedLent}

-- LENGTHS

-- as many seeds as marks
held_long : (i : ℕ) (cs ss : List ℕ) → 32 * length cs ≤ length ss → length (held_seeds i cs ss) ≡ 32 * count_marked i cs
unfolding held_seeds count_marked
held_long i [] ss h = refl
held_long i (c ∷ cs) ss h =
    length-append (cond (bit c i) (take 32 ss) []) (held_seeds i cs (drop 32 ss))
    ∙ one (bit c i) (take 32 ss) (length (held_seeds i cs (drop 32 ss))) (count_marked i cs) (length-take-le 32 ss (omega arith)) (held_long i cs (drop 32 ss) (rw length-drop (omega arith)))
  where
    one : (t : Bool) (seed : List ℕ) (rest marks : ℕ) → length seed ≡ 32 → rest ≡ 32 * marks → length (cond t seed []) + rest ≡ 32 * (cond t 1 0 + marks)
    one true seed rest marks l r = omega arith
    one false seed rest marks l r = omega arith

-- a player who is not there marks no column
unmarked : (c i : ℕ) → c < 2 ^ i → bit c i ≡ false
unfolding bit
unmarked c i h = let none : c / 2 ^ i ≡ 0 = div-eq_of_lt h in rw none

nobody_marks : (b : Board) (o : Bool) (i : ℕ) (cs : List ℕ) → b.p ≤ i → array_good b o cs ≡ true → count_marked i cs ≡ 0
unfolding array_good count_marked
nobody_marks b o i [] h good = refl
nobody_marks b o i (c ∷ cs) h good =
    let low = ltb c (2 ^ b.p) in
    let fits = same_parity (is_odd c) o in
    let own = not (member c cs) in
    let others = array_good b o cs in
    let below : c < 2 ^ b.p = ltb-true c (2 ^ b.p) (and_left low fits (and_left (low && fits) (own && others) good)) in
    one (bit c i) (count_marked i cs) (unmarked c i (omega (arith, pow_mono h)))
    (nobody_marks b o i cs h (and_right own others (and_right (low && fits) (own && others) good)))
  where
    one : (t : Bool) (n : ℕ) → t ≡ false → n ≡ 0 → cond t 1 0 + n ≡ 0
    one true n e h = absurd (false≢true (sym e))
    one false n e h = omega arith

-- where every array has m marks of a player, every grid row has one length
abbrev HasMarks : Board → (player m : ℕ) → Type 0
HasMarks b i m = (o : Bool) (array : List ℕ) → length array ≡ columns b → array_good b o array ≡ true → count_marked i array ≡ m

body_marked : (k g m : ℕ) (b : Board) (i a : ℕ) (cs ss : List ℕ) → HasMarks b i m →
    arrays_good k g b a cs ≡ true → k * columns b ≤ length cs → 32 * (k * columns b) ≤ length ss → length (body_from k b i cs ss) ≡ k * (mark_bytes b + 32 * m)
unfolding body_from arrays_good
body_marked zero g m b i a cs ss each good enough seeds = omega arith
body_marked (suc k) g m b i a cs ss each good enough seeds =
    let J = columns b in
    let array = take J cs in
    let first : suc k * J ≡ J + k * J = omega arith in
    let this = array_good b (eqb g (a / b.wide)) array in
    let others = arrays_good k (suc g) b a (drop J cs) in
    let array_long : length array ≡ J = length-take-le J cs (omega arith) in
    let counted = each (eqb g (a / b.wide)) array array_long (and_left this others good) in
    let held = held_long i array ss (omega arith) in
    let rest = body_marked k (suc g) m b i a (drop J cs) (drop (32 * J) ss) each (and_right this others good)
    (rw length-drop (omega arith)) (rw length-drop (omega arith)) in
    let marks = packed_long (mark_bytes b) i array in
    length-append (packed (mark_bytes b) i array ++ held_seeds i array ss) (body_from k b i (drop J cs) (drop (32 * J) ss))
    ∙ rw (length-append (packed (mark_bytes b) i array) (held_seeds i array ss), marks, held, counted, rest) (one_more k (mark_bytes b) (32 * m))
  where
    one_more : (k x y : ℕ) → x + y + k * (x + y) ≡ suc k * (x + y)
    one_more k x y = omega arith

-- a player marks half of the columns
body_long : (b : Board) (i a : ℕ) (cs ss : List ℕ) → BoardIn b → i < b.p → arrays_good (grid_rows b) 0 b a cs ≡ true → grid_rows b * columns b ≤ length cs →
    32 * (grid_rows b * columns b) ≤ length ss → length (body_from (grid_rows b) b i cs ss) ≡ grid_rows b * stride b
unfolding stride HalfIsMarked
body_long b i a cs ss f h good enough seeds =
    let bytes : 32 * (columns b / 2) ≡ 16 * columns b = omega (arith, columns_half b f) in
    let half : HasMarks b i (columns b / 2) =
    (λ o array long fits. half_is_marked b o array (record { board = board_accepted b f; long = long; good = fits }) i h) in
    body_marked (grid_rows b) 0 (columns b / 2) b i a cs ss half good enough seeds ∙ ap (λ (n : ℕ). grid_rows b * (mark_bytes b + n)) bytes

-- strings one behind another, and one more
glued_snoc : (ws : List (List ℕ)) (w : List ℕ) → glued (ws ++ (w ∷ [])) ≡ glued ws ++ w
unfolding glued
glued_snoc [] w = append-nil w
glued_snoc (v ∷ ws) w = ap (λ (r : List ℕ). v ++ r) (glued_snoc ws w) ∙ sym (append_assoc v (glued ws) w)

-- all rows but one, and one
one_more_row : (count long : ℕ) → 0 < count → (count - 1) * long + long ≡ count * long
one_more_row zero long h = let none : ⊥ = omega arith in absurd none
one_more_row (suc k) long h = let before : suc k - 1 ≡ k = omega arith in rw before (omega arith)

-- THE FRONT OF A KEY

pub front_parts : (b : Board) (i : ℕ) (cs ss ws : List ℕ) →
    length (key_front b i cs ss ws) ≡ length (header b i) + length (body_from (grid_rows b) b i cs ss) + length ws
unfolding key_front
front_parts b i cs ss ws = simp length-append

-- written part by part
pub front_wrote : {at one two three : ℕ} (b : Board) (i : ℕ) (cs ss ws : List ℕ) {old headed bodied now : List ℕ} →
    at + length (key_front b i cs ss ws) ≤ length old → Wrote at (header b i) one old headed → Wrote one (body_from (grid_rows b) b i cs ss) two headed bodied →
    Wrote two ws three bodied now → Wrote at (key_front b i cs ss ws) three old now
unfolding key_front
front_wrote b i cs ss ws room p q r =
    let head = header b i in
    let body = body_from (grid_rows b) b i cs ss in
    let long = front_parts b i cs ss ws in
    wrote_then (head ++ body) ws (omega (arith, length-append head body)) (wrote_then head body (omega arith) p q) r

-- THE KEYS OF AN ACCEPTED DEALING

-- player 0's key is written: its front, and the last word behind it
pub record Begun (b : Board) (l : Lent) (last start : ℕ) (old fronted begun : List ℕ) : Type 0 where
  pub room : b.p * key_long b ≤ length old
  pub front : Wrote 0 (key_front b 0 l.arrays l.seeds l.words) last old fronted
  pub word : Wrote last (dealt_word b (rule b) l.point l.value l.seeds l.words) start fronted begun

module _ (b : Board) (l : Lent) (facts : AcceptedLent b l) where
  abbrev front : ℕ → List ℕ
  front i = key_front b i l.arrays l.seeds l.words

  abbrev word : List ℕ
  word = dealt_word b (rule b) l.point l.value l.seeds l.words

  abbrev one_key : ℕ → List ℕ
  one_key i = key b (rule b) l i

  abbrev some_keys : (k i : ℕ) → List ℕ
  some_keys k i = keys_from k i b (rule b) l

  pub word_long : length word ≡ row_long b
  word_long =
      let sizes = facts.sizes in
      dealt_word_long b (board_in b sizes.accepted) l.point l.value l.seeds l.words sizes.point sizes.value (omega (arith, sizes.words))

  -- a key is its front and the last word
  pub key_is : (i : ℕ) → one_key i ≡ front i ++ word
  unfolding key key_front dealt_word dealing last_word all_words
  key_is i =
      let rows = header b i ++ body_from (grid_rows b) b i l.arrays l.seeds in
      let lent_words = words_from (columns b - 1) (row_long b) l.words in
      let all = take_all ((columns b - 1) * row_long b) l.words (omega (arith, facts.sizes.words)) in
      let whole : glued lent_words ≡ l.words = glue_words (columns b - 1) (row_long b) l.words ∙ all in
      ap (λ (r : List ℕ). rows ++ r) (glued_snoc lent_words word ∙ ap (λ (r : List ℕ). r ++ word) whole) ∙ sym (append_assoc rows l.words word)

  -- a front and the last word, by the length of a grid row
  front_is : (i n : ℕ) → i < 8 → length (body_from (grid_rows b) b i l.arrays l.seeds) ≡ grid_rows b * n →
      length (front i) + row_long b ≡ length (header b 0) + grid_rows b * n + columns b * row_long b
  unfolding key_front
  front_is i n h rows_long =
      let head = header b i in
      let rows = body_from (grid_rows b) b i l.arrays l.seeds in
      rw (length-append (head ++ rows) l.words, length-append head rows, header_long b i (omega arith), rows_long, facts.sizes.words)
      (omega (arith, one_more_row (columns b) (row_long b) (columns_pos b)))

  pub front_long : (i : ℕ) → i < b.p → length (front i) + row_long b ≡ key_long b
  unfolding key_long stride
  front_long i h =
      let f = board_in b facts.sizes.accepted in
      front_is i (stride b) (omega (arith, f.players_most))
      (body_long b i l.point l.arrays l.seeds f h facts.parities (omega (arith, facts.sizes.arrays)) (omega (arith, facts.sizes.seeds)))

  -- a key for nobody has no seeds: no front is longer than a player's
  front_most : (i : ℕ) → i < 8 → length (front i) + row_long b ≤ key_long b
  unfolding key_long
  front_most i h = split (ltb i b.p) refl
    where
      split : (t : Bool) → ltb i b.p ≡ t → length (front i) + row_long b ≤ key_long b
      split true e = omega (arith, front_long i (ltb-true i b.p e))
      split false e =
          let none : HasMarks b i 0 = (λ o array long fits. nobody_marks b o i array (ltb-false i b.p e) fits) in
          let bare = body_marked (grid_rows b) 0 0 b i l.point l.arrays l.seeds none
          facts.parities (omega (arith, facts.sizes.arrays)) (omega (arith, facts.sizes.seeds)) in
          let same : grid_rows b ≤ grid_rows b = omega arith in
          let fewer : mark_bytes b + 32 * 0 ≤ mark_bytes b + 16 * columns b = omega arith in
          omega (arith, front_is i (mark_bytes b + 32 * 0) h bare, mul-le-mul same fewer)

  pub key_long_is : (i : ℕ) → i < b.p → length (one_key i) ≡ key_long b
  key_long_is i h = ap length (key_is i) ∙ length-append (front i) word ∙ omega (arith, word_long, front_long i h)

  pub keys_long : (k i : ℕ) → i + k ≤ b.p → length (some_keys k i) ≡ k * key_long b
  unfolding keys_from
  keys_long zero i h = omega arith
  keys_long (suc k) i h =
      length-append (one_key i) (some_keys k (suc i)) ∙ omega (arith, key_long_is i (omega arith), keys_long k (suc i) (omega arith))

  keys_snoc : (k i : ℕ) → some_keys (suc k) i ≡ some_keys k i ++ one_key (i + k)
  unfolding keys_from
  keys_snoc zero i = rw (add-zero i) (append-nil (one_key i))
  keys_snoc (suc k) i =
      let next : suc i + k ≡ i + suc k = omega arith in
      ap (λ (r : List ℕ). one_key i ++ r) (keys_snoc k (suc i))
      ∙ rw next (sym (append_assoc (one_key i) (some_keys k (suc i)) (one_key (i + suc k))))

  -- WRITING THEM

  least : 2 ≤ b.p
  least = (board_in b facts.sizes.accepted).players_least

  -- there is room for the first key
  one_key_room : (n : ℕ) → b.p * key_long b ≤ n → key_long b ≤ n
  one_key_room n room = let one : 1 ≤ b.p = omega (arith, least) in omega (arith, mul-le-mul_right (key_long b) one)

  pub front_room : (n : ℕ) → b.p * key_long b ≤ n → 0 + length (front 0) ≤ n
  front_room n room = omega (arith, front_long 0 (omega (arith, least)), one_key_room n room)

  pub word_room : (n last : ℕ) → b.p * key_long b ≤ n → last ≡ 0 + length (front 0) → last + row_long b ≤ n
  word_room n last room is = omega (arith, front_long 0 (omega (arith, least)), one_key_room n room)

  module _ (last start : ℕ) (old fronted begun : List ℕ) (z : Begun b l last start old fronted begun) where
    fronted_long : length fronted ≡ length old
    fronted_long = wrote_length (front 0) (front_room (length old) z.room) z.front

    last_in : last + row_long b ≤ length fronted
    last_in = omega (arith, word_room (length old) last z.room z.front.next_is, fronted_long)

    begun_long : length begun ≡ length old
    begun_long = wrote_length word (omega (arith, last_in, word_long)) z.word ∙ fronted_long

    start_is : (last + row_long b ≡ start) × (start ≡ key_long b)
    start_is =
        let here = front_long 0 (omega (arith, least)) in
        (omega (arith, z.word.next_is, word_long), omega (arith, z.front.next_is, z.word.next_is, word_long))

    module _ (player next : ℕ) (keys : List ℕ) (from : 1 ≤ player) (so_far : Wrote start (some_keys (player - 1) 1) next begun keys) where
      -- behind the keys of the players before this one
      next_is_at : player ≤ b.p → next ≡ player * key_long b
      next_is_at h =
          omega (arith, so_far.next_is, start_is.1, keys_long (player - 1) 1 (omega arith), one_more_row player (key_long b) from)

      -- this player's key has its room
      key_room : player < b.p → player * key_long b + key_long b ≤ length old
      key_room h = omega (arith, mul-le-mul_right (key_long b) h, z.room)

      keys_kept : player ≤ b.p → length keys ≡ length old
      keys_kept h =
          let here = next_is_at h in
          wrote_length (some_keys (player - 1) 1) (omega (arith, so_far.next_is, begun_long, mul-le-mul_right (key_long b) h, z.room)) so_far ∙ begun_long

      pub next_front_room : (i : ℕ) → player < b.p → i < 8 → next + length (front i) ≤ length keys
      next_front_room i h one =
          omega (arith, next_is_at (omega arith), key_room h, front_most i one, keys_kept (omega arith))

      -- there is room behind its front for the last word, which stands before it
      pub again_room : (i : ℕ) → player < b.p → i < 8 → (end row : ℕ) (now : List ℕ) → row ≡ row_long b → Wrote next (front i) end keys now →
          (last + row ≤ end) × (end + row ≤ length now)
      again_room i h one end row now is p =
          let here = next_is_at (omega arith) in
          let kept = wrote_length (front i) (next_front_room i h one) p in (
            omega (arith, start_is.0, start_is.1, here, mul-le-mul_right (key_long b) from, p.next_is),
            omega (arith, p.next_is, front_most i one, here, key_room h, kept, keys_kept (omega arith)),
          )

      -- and with both its key is written, where the front is this player's
      pub turn : player < b.p → (row : ℕ) → row ≡ row_long b → {i end after : ℕ} {between now : List ℕ} → Wrote next (front i) end keys between →
          Wrote end (take row (drop last between)) after between now → i ≡ player → Wrote start (some_keys (player + 1 - 1) 1) after begun now
      turn h row is {i} {end} {after} {between} {now} made q own =
          let p : Wrote next (front player) end keys between = subst (λ (k : ℕ). Wrote next (front k) end keys between) own made in
          let before = some_keys (player - 1) 1 in
          let count : player + 1 - 1 ≡ suc (player - 1) = omega arith in
          let this : 1 + (player - 1) ≡ player = omega arith in
          let grown : some_keys (player + 1 - 1) 1 ≡ before ++ front player ++ word =
          ap (λ (k : ℕ). some_keys k 1) count ∙ keys_snoc (player - 1) 1 ∙ ap (λ (k : ℕ). before ++ one_key k) this ∙ ap (λ (k : List ℕ). before ++ k) (key_is player)
          ∙ sym (append_assoc before (front player) word) in
          let long : length (before ++ front player) ≡ length before + length (front player) = length-append before (front player) in
          let all_long = keys_long (player + 1 - 1) 1 (omega arith) in
          let players : player + 1 - 1 ≡ player = omega arith in
          let all : length (some_keys (player + 1 - 1) 1) ≡ player * key_long b = all_long ∙ ap (λ (k : ℕ). k * key_long b) players in
          let room : length before + length (front player) + row_long b ≡ player * key_long b =
          omega (arith, all, ap length grown ∙ length-append (before ++ front player) word, long, word_long) in
          let fits : start + (length before + length (front player)) ≤ length begun = omega (arith, start_is.1, key_room h, begun_long) in
          let fronts = wrote_then before (front player) (omega arith) so_far p in
          let tail : take row (drop last between) ≡ word =
          ap (λ (x : List ℕ). take row (drop last x)) fronts.now_is
          ∙ part_kept last row start (before ++ front player) begun (omega (arith, start_is.0)) (omega arith)
          ∙ ap (λ (x : List ℕ). take row (drop last x)) z.word.now_is
          ∙ ap (λ (k : ℕ). take k (drop last (written last word fronted))) (is ∙ sym word_long)
          ∙ part_written last word fronted (omega (arith, last_in)) in
          wrote_more (before ++ front player) word (some_keys (player + 1 - 1) 1) grown (omega (arith, all, start_is.1, key_room h, begun_long)) fronts
          (subst (λ (x : List ℕ). Wrote end x after between now) tail q)

    -- in the end all keys are written
    pub all_written : (player next : ℕ) (keys : List ℕ) → player ≡ b.p → Wrote start (some_keys (player - 1) 1) next begun keys → keys ≡ in_front (dealt_keys b l) old
    unfolding dealt_keys keys_from
    all_written player next keys done so_far =
        let rest = some_keys (player - 1) 1 in
        let count : b.p ≡ suc (player - 1) = omega (arith, least) in
        let whole : some_keys b.p 0 ≡ front 0 ++ word ++ rest = ap (λ (k : ℕ). some_keys k 0) count ∙ ap (λ (k : List ℕ). k ++ rest) (key_is 0) in
        let long = keys_long b.p 0 (omega arith) in
        let first = wrote_then (front 0) word (omega (arith, z.front.next_is, last_in, fronted_long, word_long)) z.front z.word in
        let all = wrote_more (front 0 ++ word) rest (some_keys b.p 0) whole (omega (arith, long, z.room)) first so_far in
        all.now_is ∙ written_front (some_keys b.p 0) old
