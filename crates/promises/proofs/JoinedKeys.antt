-- Join keys on any slice that it answers by 0, from its contract alone: the slice is p accepted keys of one board, each of K bytes, and what
-- is written is the XOR of the tables that Open all leaves of each. Assumes nothing.
use mathlib.Core.Path.{◌≡◌, refl, sym, ap, ◌∙◌}
use mathlib.Core.Bool.{true, not, cond}
use mathlib.Core.List.{List}
use Prim.Native.Nat.{ℕ, zero, suc, ◌+◌, ◌*◌, ◌≤◌, ◌<◌}
use native.Mathlib.Nat.{mul-le-mul_right}
use native.Mathlib.Omega.{arith}
use lib.Dec.{ltb, eqb}
use lib.ListN.{length, take, drop, length-drop}
use lib.Seq.{drop-drop, length-take-le}
use borrow.Author.Tests.{eqb-true, not-false}
use Rattle.xor.specs.Xor.{bytes_good}
use Rattle.xor.proofs.Laws.{Word, good_take, good_drop}
use Rattle.grid.specs.Grid.{Board}
use Rattle.grid.specs.Joining.{over}
use Rattle.grid.proofs.Sums.{over_same, over_word}
use Rattle.keys.specs.Keys.{key_long, head_in, table, head_refusal, AcceptedAs}
use Rattle.keys.proofs.Accepted.{passed, neither}
use Rattle.call_answers.specs.Answers.{OpenAllSays}
use Rattle.writer.specs.Written.{in_front}
use Rattle.seed_rows.specs.Rows.{rule}
use Rattle.join_keys_call.specs.JoinKeys.{places_refusal, keys_refusal, joined_table, JoinKeysSays}
use Rattle.promises.specs.Calls.{key_part}
use Rattle.join_keys_call.proofs.InTurn.{place_accepted, places_each}
use Rattle.call_answers.proofs.Putting.{room_there, answer_is, put, take_front}
use Rattle.promises.proofs.OpenedKey.{named_table_word, opened_table}

-- what is left of the chain where nothing is refused
slice_fine : (bs : List ℕ) (room : ℕ) → keys_refusal bs room ≡ 0 →
    (length bs ≡ (head_in bs).board.p * key_long (head_in bs).board) × (places_refusal (head_in bs).board.p 0 (head_in bs).board bs ≡ 0)
    × ((head_in bs).board.n * (head_in bs).board.w ≤ room)
unfolding keys_refusal
slice_fine bs room h =
    let b = (head_in bs).board in
    let last : ℕ = cond (ltb room (b.n * b.w)) 9 0 in
    let first = neither (head_refusal (head_in bs)) _ h in
    let whole = passed (not (eqb (length bs) (b.p * key_long b))) 12 _ (λ t n. omega arith) first.1 in
    let each = neither (places_refusal b.p 0 b bs) last whole.1 in
    (eqb-true (length bs) (b.p * key_long b) (not-false (eqb (length bs) (b.p * key_long b)) whole.0), each.0, room_there room (b.n * b.w) each.1)

-- what Join keys answered by 0
pub record Joined (bs out out_now : List ℕ) (b : Board) : Type 0 where
  pub whole : length bs ≡ b.p * key_long b
  pub places : places_refusal b.p 0 b bs ≡ 0
  pub room : b.n * b.w ≤ length out
  pub now : out_now ≡ in_front (joined_table b.p b bs) out

pub joined_says : (bs out out_now : List ℕ) → JoinKeysSays bs 0 out out_now → Joined bs out out_now (head_in bs).board
unfolding JoinKeysSays
joined_says bs out out_now says =
    let b = (head_in bs).board in
    let written = joined_table b.p b bs in
    let none : keys_refusal bs (length out) ≡ 0 = sym (answer_is _ written 0 out out_now says) in
    let fine = slice_fine bs (length out) none in
    record { whole = fine.0; places = fine.1; room = fine.2; now = put _ written 0 out out_now says none }

module _ (bs out out_now : List ℕ) (b : Board) (good : bytes_good bs ≡ true) (t : Joined bs out out_now b) where
  abbrev part : (i : ℕ) → List ℕ
  part i = key_part (key_long b) i bs

  -- its parts are accepted keys of one board, each its place's player's
  pub part_fine : (i : ℕ) → i < b.p → AcceptedAs b i (part i)
  unfolding key_part
  part_fine i h =
      let fits : suc i * key_long b ≤ b.p * key_long b = mul-le-mul_right (key_long b) h in
      let here : 0 + i ≡ i = omega arith in
      rw here at
      (place_accepted b (0 + i) (part i) (places_each b.p 0 b bs t.places i h)
      (length-take-le (key_long b) (drop (i * key_long b) bs) (rw length-drop (omega (arith, t.whole)))))

  part_good : (i : ℕ) → bytes_good (part i) ≡ true
  unfolding key_part
  part_good i = good_take (key_long b) (drop (i * key_long b) bs) (good_drop (i * key_long b) bs good)

  part_word : (i : ℕ) → i < b.p → Word (b.n * b.w) (table (λ seed. rule b seed) (part i))
  part_word i h = named_table_word (part i) b (part_fine i h).board_is (part_good i) (part_fine i h).none

  tables_from : (k i : ℕ) → joined_table k b (drop (i * key_long b) bs) ≡ over k i (b.n * b.w) (λ j. table (λ seed. rule b seed) (part j))
  unfolding joined_table over key_part
  tables_from zero i = refl
  tables_from (suc k) i =
      let next : i * key_long b + key_long b ≡ suc i * key_long b = omega arith in
      rw (drop-drop (key_long b) (i * key_long b) bs, next, tables_from k (suc i))

  tables_of_parts : joined_table b.p b bs ≡ over b.p 0 (b.n * b.w) (λ j. table (λ seed. rule b seed) (part j))
  tables_of_parts = let none : 0 * key_long b ≡ 0 = omega arith in rw none at (tables_from b.p 0)

  pub joined_word : Word (b.n * b.w) (joined_table b.p b bs)
  joined_word =
      rw tables_of_parts
      (over_word b.p 0 (b.n * b.w) (λ j. table (λ seed. rule b seed) (part j)) (λ i _ inside. let below : i < b.p = omega arith in part_word i below))

  -- and their joined table is the XOR of what Open all leaves of each
  pub joined_as_opened : (tables tables_now : ℕ → List ℕ) → ((i : ℕ) → i < b.p → OpenAllSays (part i) 0 (tables i) (tables_now i)) →
      take (b.n * b.w) out_now ≡ over b.p 0 (b.n * b.w) (λ i. take (b.n * b.w) (tables_now i))
  joined_as_opened tables tables_now says =
      ap (λ (xs : List ℕ). take (b.n * b.w) xs) t.now ∙ take_front (b.n * b.w) (joined_table b.p b bs) out joined_word.long
      ∙ tables_of_parts
      ∙ over_same b.p 0 (b.n * b.w) (λ j. table (λ seed. rule b seed) (part j)) (λ i. take (b.n * b.w) (tables_now i))
      (λ i _ inside.
      let below : i < b.p = omega arith in
      sym (opened_table (part i) b (part_fine i below).board_is (part_good i) (tables i) (tables_now i) (says i below)))
