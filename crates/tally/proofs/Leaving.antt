-- What the calls of a tally leave that were answered by 0, from their contracts alone. Assumes nothing.
use mathlib.Core.Path.{◌≡◌, sym, ap, ◌∙◌}
use mathlib.Core.Bool.{true, cond}
use mathlib.Core.List.{List}
use Prim.Native.Nat.{ℕ, suc, ◌*◌, ◌≤◌, ◌<◌}
use native.Mathlib.Nat.{mul-le-mul_right}
use native.Mathlib.Omega.{arith}
use lib.Dec.{leb, ltb}
use lib.ListN.{length, take, drop, length-drop}
use lib.Seq.{length-take-le}
use Rattle.xor.specs.Xor.{xors, zeros, bytes_good}
use Rattle.xor.proofs.Laws.{Word, length-xors, word_zeros}
use Rattle.writer.specs.Written.{in_front}
use Rattle.keys.specs.Keys.{or_else, key_refusal, head_in, table}
use Rattle.keys.proofs.Accepted.{neither, last_passed}
use Rattle.page.specs.Page.{entry_at}
use Rattle.call_answers.specs.Answers.{key_rule}
use Rattle.call_answers.proofs.OwnTable.{own_table_word}
use Rattle.call_answers.proofs.Putting.{answer_is, put, take_front, room_there, square_there}
use Rattle.call_answers.proofs.Sharing.{length-joined}
use Rattle.tally.specs.Tallies.{tally_long, entries, tally_refusal, MakeSays, takes, add_refusal, AddSays, LookUpSays, total, TotalSays}
use Rattle.tally.specs.declared.Tally.{Tally}
use Rattle.tally.proofs.Numbers.{tally_fits, taken}

module _ (t : Tally) (bs now : List ℕ) where
  -- MAKE
  pub record Made : Type 0 where
    pub fits : tally_refusal t (length bs) ≡ 0
    pub room : tally_long t ≤ length bs
    pub left : now ≡ in_front (zeros (tally_long t)) bs
    pub clear : entries t now ≡ zeros (tally_long t)

  pub made : MakeSays t 0 bs now → Made
  unfolding MakeSays entries
  made h =
      let none = sym (answer_is _ (zeros (tally_long t)) 0 bs now h) in
      let left = put _ (zeros (tally_long t)) 0 bs now h none in
      record {
        fits = none;
        room = (tally_fits t (length bs) none).2;
        left = left;
        clear = ap (take (tally_long t)) left ∙ take_front (tally_long t) (zeros (tally_long t)) bs (word_zeros (tally_long t)).long;
      }

  -- ADD
  module _ (key : List ℕ) where
    abbrev own_table : List ℕ
    own_table = table (λ seed. key_rule key seed) key

    pub record Added : Type 0 where
      pub room : tally_long t ≤ length bs
      pub word : Word (tally_long t) own_table
      pub long : length (xors (entries t bs) own_table) ≡ tally_long t
      pub left : now ≡ in_front (xors (entries t bs) own_table) bs
      pub more : entries t now ≡ xors (entries t bs) own_table

    pub was_added : bytes_good key ≡ true → AddSays t key 0 bs now → Added
    unfolding AddSays add_refusal entries tally_long
    was_added good h =
        let new = xors (entries t bs) own_table in
        let none = sym (answer_is _ new 0 bs now h) in
        let own = neither (tally_refusal t (length bs)) _ none in
        let accepted = neither (key_refusal key) _ own.1 in
        let same = taken t (head_in key).board (head_in key).player (last_passed (takes t (head_in key).board (head_in key).player) 23 (omega arith) accepted.1) in
        let room = (tally_fits t (length bs) own.0).2 in
        let sized = own_table_word key good accepted.0 in
        let as_long : (head_in key).board.n * (head_in key).board.w ≡ tally_long t = rw (same.2, same.3) in
        let word : Word (tally_long t) own_table = record { long = sized.long ∙ as_long; good = sized.good } in
        let front : length (entries t bs) ≡ tally_long t = length-take-le (tally_long t) bs room in
        let long = length-xors (entries t bs) own_table (front ∙ sym word.long) ∙ front in
        let left = put _ new 0 bs now h none in
        record {
          room = room;
          word = word;
          long = long;
          left = left;
          more = ap (take (tally_long t)) left ∙ take_front (tally_long t) new bs long;
        }

module _ (t : Tally) (bs out out_now : List ℕ) where
  -- LOOK UP
  pub record LookedUp (a : ℕ) : Type 0 where
    pub inside : a < t.positions
    pub table_room : tally_long t ≤ length bs
    pub room : t.value_bytes ≤ length out
    pub long : length (entry_at t.value_bytes bs a) ≡ t.value_bytes
    pub left : out_now ≡ in_front (entry_at t.value_bytes bs a) out

  pub looked_up : (a : ℕ) → LookUpSays t bs a 0 out out_now → LookedUp a
  unfolding LookUpSays entry_at tally_long
  looked_up a h =
      let w = t.value_bytes in
      let new = entry_at w bs a in
      let last : ℕ = cond (ltb (length out) w) 9 0 in
      let none : or_else (tally_refusal t (length bs)) (cond (leb t.positions a) 14 last) ≡ 0 = sym (answer_is _ new 0 out out_now h) in
      let own = neither (tally_refusal t (length bs)) (cond (leb t.positions a) 14 last) none in
      let place = square_there t.positions a last own.1 in
      let table_room = (tally_fits t (length bs) own.0).2 in
      let end : suc a * w ≤ t.positions * w = mul-le-mul_right w place.0 in
      record {
        inside = place.0;
        table_room = table_room;
        room = room_there (length out) w place.1;
        long = length-take-le w (drop (a * w) bs) (rw length-drop (omega arith));
        left = put _ new 0 out out_now h none;
      }

  -- TOTAL
  pub record Totalled : Type 0 where
    pub table_room : tally_long t ≤ length bs
    pub room : t.value_bytes ≤ length out
    pub long : length (total t bs) ≡ t.value_bytes
    pub left : out_now ≡ in_front (total t bs) out

  pub totalled : TotalSays t bs 0 out out_now → Totalled
  unfolding TotalSays total entries tally_long
  totalled h =
      let w = t.value_bytes in
      let last : ℕ = cond (ltb (length out) w) 9 0 in
      let none : or_else (tally_refusal t (length bs)) last ≡ 0 = sym (answer_is _ (total t bs) 0 out out_now h) in
      let own = neither (tally_refusal t (length bs)) last none in
      let table_room = (tally_fits t (length bs) own.0).2 in
      record {
        table_room = table_room;
        room = room_there (length out) w own.1;
        long = length-joined t.positions w (entries t bs) (omega (arith, length-take-le (tally_long t) bs table_room));
        left = put _ (total t bs) 0 out out_now h none;
      }
