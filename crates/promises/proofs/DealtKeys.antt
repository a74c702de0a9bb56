-- The keys of a deal, from Deal's contract alone: what Deal leaves where it answers 0 is the keys of an accepted dealing under expansion;
-- each is cut out again by its place, and Join keys accepts them all and joins their tables. Assumes nothing.
use mathlib.Core.Path.{◌≡◌, refl, sym, ap, ◌∙◌, subst, subst⁻¹}
use mathlib.Core.Bool.{true, ◌&&◌, not, cond}
use mathlib.Core.List.{List, ◌++◌, append_assoc}
use Prim.Native.Nat.{ℕ, zero, suc, ◌+◌, ◌*◌, ◌-◌, ◌≤◌, ◌<◌}
use native.Mathlib.Nat.{mul-le-mul_right}
use native.Mathlib.Omega.{arith}
use lib.Dec.{ltb, eqb}
use lib.ListN.{length, take, drop}
use lib.Seq.{take_at, drop_at}
use borrow.Author.Tests.{eq-eqb}
use Rattle.xor.specs.Xor.{bytes_good}
use Rattle.xor.proofs.Laws.{and_both}
use Rattle.grid.specs.Grid.{Board, grid_rows, all_words}
use Rattle.grid.specs.Joining.{over}
use Rattle.grid.proofs.Facts.{BoardIn, board_accepted}
use Rattle.keys.specs.Keys.{Lent, Head, key, keys_from, key_long, deal_refusal, head_in, header, body_from, glued, dealing, marks_good, table, or_else, head_refusal}
use Rattle.keys.specs.Promise.{lent_good, point_table, KeysLong, KeysApart, FullTablesJoin}
use Rattle.keys.proofs.Accepted.{pass, numbers_none}
use Rattle.keys.proofs.Dealing.{LentIn, lent_in}
use Rattle.keys.proofs.Numbers.{header_read_back}
use Rattle.keys.proofs.Promise.{dealt_board, dealt_player, dealt_key, dealt_word, keys_long, keys_apart, full_tables_join}
use Rattle.writer.specs.Written.{in_front}
use Rattle.seed_rows.specs.Rows.{rule}
use Rattle.join_keys_call.specs.JoinKeys.{same_board, place_refusal, places_refusal, keys_refusal, joined_table, JoinKeysSays}
use Rattle.call_answers.proofs.Putting.{nothing_refuses, room_enough, answer_is, put, part_front}
use Rattle.call_answers.proofs.OwnTable.{expansion}

-- an accepted dealing of bytes
pub lent_accepted : (b : Board) (l : Lent) → deal_refusal b l ≡ 0 → bytes_good l.value ≡ true → bytes_good l.seeds ≡ true → bytes_good l.words ≡ true → lent_good b l ≡ true
unfolding lent_good
lent_accepted b l accepted value seeds words =
    and_both (eqb (deal_refusal b l) 0) ((bytes_good l.value && bytes_good l.seeds) && bytes_good l.words) (eq-eqb (deal_refusal b l) 0 accepted)
    (and_both (bytes_good l.value && bytes_good l.seeds) (bytes_good l.words) (and_both (bytes_good l.value) (bytes_good l.seeds) value seeds) words)

-- a header that nothing refuses
head_fine : (h : Head) → h.good ≡ true → BoardIn h.board → h.player < h.board.p → head_refusal h ≡ 0
unfolding head_refusal
head_fine h good board player =
    pass (not h.good) 10 _ (ap not good) (sym (numbers_none h.board h.player (board_accepted h.board board) player))

same_itself : (b : Board) → same_board b b ≡ true
unfolding same_board
same_itself b = rw (eq-eqb b.p b.p refl, eq-eqb b.n b.n refl, eq-eqb b.wide b.wide refl, eq-eqb b.w b.w refl)

module _ (b : Board) (l : Lent) (good : lent_good b l ≡ true) where
  abbrev dealt_of : (player : ℕ) → List ℕ
  dealt_of i = key b (λ seed. rule b seed) l i

  abbrev keys : List ℕ
  keys = keys_from b.p 0 b (λ seed. rule b seed) l

  facts : LentIn b l
  facts = lent_in b l good

  -- THE KEYS CUT APART

  pub keys_length : length keys ≡ b.p * key_long b
  unfolding KeysLong
  keys_length = (keys_long b (λ seed. rule b seed) l good (expansion b)).0

  key_length : (i : ℕ) → i < b.p → length (dealt_of i) ≡ key_long b
  key_length i h = (dealt_word b (λ seed. rule b seed) l i good (expansion b) h).long

  pub key_cut : (i : ℕ) (out : List ℕ) → i < b.p → take (key_long b) (drop (i * key_long b) (in_front keys out)) ≡ dealt_of i
  unfolding KeysApart
  key_cut i out h =
      let fits : suc i * key_long b ≤ b.p * key_long b = mul-le-mul_right (key_long b) h in
      part_front (i * key_long b) (key_long b) keys out (omega (arith, keys_length)) ∙ keys_apart b (λ seed. rule b seed) l i good (expansion b) h

  -- JOIN KEYS ACCEPTS THEM

  first_head : (more : List ℕ) → (rest : List ℕ) × (head_in (dealt_of 0 ++ more) ≡ record { good = true; board = b; player = 0; rest = rest })
  unfolding key
  first_head more =
      let rows = body_from (grid_rows b) b 0 l.arrays l.seeds in
      let words = glued (all_words b (dealing b (λ seed. rule b seed) l)) in
      let fine = facts.board in (
        (rows ++ words) ++ more,
        rw (append_assoc (header b 0) rows words, append_assoc (header b 0) (rows ++ words) more)
            (header_read_back b 0 ((rows ++ words) ++ more)
            (record {
              players = omega (arith, fine.players_most);
              player = omega arith;
              positions = omega (arith, fine.positions_most);
              width = omega (arith, fine.wide_most);
              bytes = omega (arith, fine.value_most);
            })),
      )

  keys_head : (rest : List ℕ) × (head_in keys ≡ record { good = true; board = b; player = 0; rest = rest })
  unfolding keys_from
  keys_head =
      let players : b.p ≡ suc (b.p - 1) = omega (arith, facts.board.players_least) in
      let more = keys_from (b.p - 1) 1 b (λ seed. rule b seed) l in
      let first = first_head more in
      (first.0, ap (λ (k : ℕ). head_in (keys_from k 0 b (λ seed. rule b seed) l)) players ∙ first.1)

  pub keys_board : (head_in keys).board ≡ b
  keys_board = ap (λ (h : Head). h.board) keys_head.1

  keys_head_fine : head_refusal (head_in keys) ≡ 0
  keys_head_fine =
      subst⁻¹ (λ (h : Head). head_refusal h ≡ 0) keys_head.1
      (head_fine (record { good = true; board = b; player = 0; rest = keys_head.0 }) refl facts.board (omega (arith, facts.board.players_least)))

  place_fine : (i : ℕ) → i < b.p → place_refusal b i (dealt_of i) ≡ 0
  unfolding place_refusal
  place_fine i h =
      let k = dealt_key b (λ seed. rule b seed) l i good (expansion b) h in
      let named = dealt_board b (λ seed. rule b seed) l i good (expansion b) h in
      let placed = dealt_player b (λ seed. rule b seed) l i good (expansion b) h in
      let marks : marks_good (grid_rows b) b (head_in (dealt_of i)).rest ≡ true = subst (λ (c : Board). marks_good (grid_rows c) c (head_in (dealt_of i)).rest ≡ true) named k.marks in
      nothing_refuses (head_refusal (head_in (dealt_of i))) _ (head_fine (head_in (dealt_of i)) k.header_good k.board k.player)
      (rw (named, placed, same_itself b, eq-eqb i i refl, marks))

  places_fine : (k i : ℕ) → i + k ≤ b.p → places_refusal k i b (keys_from k i b (λ seed. rule b seed) l) ≡ 0
  unfolding places_refusal keys_from
  places_fine zero i h = refl
  places_fine (suc k) i h =
      let more = keys_from k (suc i) b (λ seed. rule b seed) l in
      let long = key_length i (omega arith) in
      rw (take_at (dealt_of i) more (key_long b) long, drop_at (dealt_of i) more (key_long b) long)
      (nothing_refuses (place_refusal b i (dealt_of i)) (places_refusal k (suc i) b more) (place_fine i (omega arith)) (places_fine k (suc i) (omega arith)))

  keys_fine : (room : ℕ) → b.n * b.w ≤ room → keys_refusal keys room ≡ 0
  unfolding keys_refusal
  keys_fine room fits =
      subst⁻¹
      (λ (c : Board). or_else (head_refusal (head_in keys))
      (cond (not (eqb (length keys) (c.p * key_long c))) 12 (or_else (places_refusal c.p 0 c keys) (cond (ltb room (c.n * c.w)) 9 0))) ≡ 0)
      keys_board
      (nothing_refuses (head_refusal (head_in keys)) _ keys_head_fine
      (pass (not (eqb (length keys) (b.p * key_long b))) 12 _ (ap not (eq-eqb (length keys) (b.p * key_long b) keys_length))
      (nothing_refuses (places_refusal b.p 0 b keys) _ (places_fine b.p 0 (omega arith)) (room_enough room (b.n * b.w) fits))))

  -- AND JOINS THEIR TABLES

  joined_over : (k i : ℕ) → i + k ≤ b.p →
      joined_table k b (keys_from k i b (λ seed. rule b seed) l) ≡ over k i (b.n * b.w) (λ j. table (λ seed. rule b seed) (dealt_of j))
  unfolding joined_table keys_from over
  joined_over zero i h = refl
  joined_over (suc k) i h =
      let more = keys_from k (suc i) b (λ seed. rule b seed) l in
      let long = key_length i (omega arith) in
      rw (take_at (dealt_of i) more (key_long b) long, drop_at (dealt_of i) more (key_long b) long, joined_over k (suc i) (omega arith))

  pub tables_over : over b.p 0 (b.n * b.w) (λ i. table (λ seed. rule b seed) (dealt_of i)) ≡ point_table b l.point l.value
  unfolding FullTablesJoin
  tables_over = full_tables_join b (λ seed. rule b seed) l good (expansion b)

  pub keys_joined : (r : ℕ) (out out_now : List ℕ) → b.n * b.w ≤ length out → JoinKeysSays keys r out out_now →
      (r ≡ 0) × (out_now ≡ in_front (point_table b l.point l.value) out)
  unfolding JoinKeysSays
  keys_joined r out out_now room h =
      let c = (head_in keys).board in
      let fine = keys_fine (length out) room in
      let written = joined_table c.p c keys in
      let whole : written ≡ point_table b l.point l.value =
      ap (λ (d : Board). joined_table d.p d keys) keys_board ∙ joined_over b.p 0 (omega arith) ∙ tables_over in
      (answer_is _ written r out out_now h ∙ fine, put _ written r out out_now h fine ∙ ap (λ (t : List ℕ). in_front t out) whole)
