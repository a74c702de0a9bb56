-- Opening an accepted key by the calls, from their contracts alone: where Open all and Open one answer 0, and what they leave then, which
-- is the key's own table under expansion and that table's entry. Assumes nothing.
use mathlib.Core.Path.{◌≡◌, sym, ap, ◌∙◌, subst}
use mathlib.Core.Bool.{true, cond}
use mathlib.Core.List.{List}
use Prim.Native.Nat.{ℕ, suc, ◌+◌, ◌*◌, ◌≤◌, ◌<◌}
use native.Mathlib.Nat.{mul-le-mul_right}
use native.Mathlib.Omega.{arith}
use lib.Dec.{ltb, leb}
use lib.ListN.{length, take, drop, length-drop}
use lib.Seq.{length-take-le}
use Rattle.xor.specs.Xor.{bytes_good}
use Rattle.xor.proofs.Laws.{Word}
use Rattle.grid.specs.Grid.{Board}
use Rattle.keys.specs.Keys.{key_refusal, head_in, table, opened, or_else}
use Rattle.keys.specs.Promise.{entry, OpensAlone}
use Rattle.keys.proofs.Promise.{opens_alone}
use Rattle.call_answers.specs.Answers.{key_rule, OpenOneSays, OpenAllSays}
use Rattle.writer.specs.Written.{in_front}
use Rattle.seed_rows.specs.Rows.{rule}
use Rattle.keys.proofs.Accepted.{neither}
use Rattle.call_answers.proofs.OwnTable.{own_rule, own_table_word}
use Rattle.call_answers.proofs.Putting.{nothing_refuses, room_there, room_enough, square_there, square_in, answer_is, put, take_front}

-- OPENING AN ACCEPTED KEY

module _ (key : List ℕ) where
  abbrev squares : ℕ
  squares = (head_in key).board.n

  abbrev width : ℕ
  width = (head_in key).board.w

  abbrev own_table : List ℕ
  own_table = table (λ seed. key_rule key seed) key

  -- Open all of an accepted key answers 0 where there is room
  pub all_answered : (r : ℕ) (out out_now : List ℕ) → key_refusal key ≡ 0 → squares * width ≤ length out → OpenAllSays key r out out_now → r ≡ 0
  unfolding OpenAllSays
  all_answered r out out_now accepted room h =
      answer_is _ own_table r out out_now h
      ∙ nothing_refuses (key_refusal key) (cond (ltb (length out) (squares * width)) 9 0) accepted (room_enough (length out) (squares * width) room)

  -- and so does Open one at a square
  pub one_answered : (a r : ℕ) (out out_now : List ℕ) → key_refusal key ≡ 0 → a < squares → width ≤ length out → OpenOneSays key a r out out_now → r ≡ 0
  unfolding OpenOneSays
  one_answered a r out out_now accepted inside room h =
      let last : ℕ = cond (ltb (length out) width) 9 0 in
      answer_is _ (opened (λ seed. key_rule key seed) key a) r out out_now h
      ∙ nothing_refuses (key_refusal key) (cond (leb squares a) 14 last) accepted
      (square_in squares a last inside (room_enough (length out) width room))

  -- what Open all answered by 0
  pub record AllOpened (out out_now : List ℕ) : Type 0 where
    pub accepted : key_refusal key ≡ 0
    pub room : squares * width ≤ length out
    pub now : out_now ≡ in_front own_table out

  pub all_opened : (out out_now : List ℕ) → OpenAllSays key 0 out out_now → AllOpened out out_now
  unfolding OpenAllSays
  all_opened out out_now h =
      let last : ℕ = cond (ltb (length out) (squares * width)) 9 0 in
      let none : or_else (key_refusal key) last ≡ 0 = sym (answer_is _ own_table 0 out out_now h) in
      let both = neither (key_refusal key) last none in
      record {
        accepted = both.0;
        room = room_there (length out) (squares * width) both.1;
        now = put _ own_table 0 out out_now h none;
      }

  -- what Open one answered by 0
  pub record OneOpened (a : ℕ) (out out_now : List ℕ) : Type 0 where
    pub accepted : key_refusal key ≡ 0
    pub inside : a < squares
    pub room : width ≤ length out
    pub now : out_now ≡ in_front (opened (λ seed. key_rule key seed) key a) out

  pub one_opened : (a : ℕ) (out out_now : List ℕ) → OpenOneSays key a 0 out out_now → OneOpened a out out_now
  unfolding OpenOneSays
  one_opened a out out_now h =
      let last : ℕ = cond (ltb (length out) width) 9 0 in
      let written = opened (λ seed. key_rule key seed) key a in
      let none : or_else (key_refusal key) (cond (leb squares a) 14 last) ≡ 0 = sym (answer_is _ written 0 out out_now h) in
      let both = neither (key_refusal key) (cond (leb squares a) 14 last) none in
      let later = square_there squares a last both.1 in
      record {
        accepted = both.0;
        inside = later.0;
        room = room_there (length out) width later.1;
        now = put _ written 0 out out_now h none;
      }

  module _ (good : bytes_good key ≡ true) (accepted : key_refusal key ≡ 0) where
    pub own_table_long : length own_table ≡ squares * width
    own_table_long = (own_table_word key good accepted).long

    pub own_entry : (a : ℕ) → a < squares → opened (λ seed. key_rule key seed) key a ≡ entry (head_in key).board own_table a
    unfolding OpensAlone
    own_entry a inside = sym (opens_alone (λ seed. key_rule key seed) key a accepted good (own_rule key) inside)

    -- a square's bytes in the table
    pub entry_fits : (a : ℕ) → a < squares → a * width + width ≤ squares * width
    entry_fits a inside = let fits : suc a * width ≤ squares * width = mul-le-mul_right width inside in omega arith

    pub own_entry_long : (a : ℕ) → a < squares → length (opened (λ seed. key_rule key seed) key a) ≡ width
    unfolding entry
    own_entry_long a inside =
        ap length (own_entry a inside)
        ∙ length-take-le width (drop (a * width) own_table) (rw length-drop (omega (arith, own_table_long, entry_fits a inside)))

-- of a key whose board is known, Open all leaves the table under that board's rule
module _ (key : List ℕ) (b : Board) (named : (head_in key).board ≡ b) (good : bytes_good key ≡ true) where
  named_table : table (λ seed. key_rule key seed) key ≡ table (λ seed. rule b seed) key
  unfolding key_rule
  named_table = ap (λ (c : Board). table (λ seed. rule c seed) key) named

  pub named_table_word : key_refusal key ≡ 0 → Word (b.n * b.w) (table (λ seed. rule b seed) key)
  named_table_word accepted =
      let own = subst (λ (xs : List ℕ). Word (squares key * width key) xs) named_table (own_table_word key good accepted) in
      subst (λ (c : Board). Word (c.n * c.w) (table (λ seed. rule b seed) key)) named own

  pub opened_table : (out out_now : List ℕ) → OpenAllSays key 0 out out_now → take (b.n * b.w) out_now ≡ table (λ seed. rule b seed) key
  opened_table out out_now says =
      let called = all_opened key out out_now says in
      ap (λ (xs : List ℕ). take (b.n * b.w) xs) (called.now ∙ ap (λ (xs : List ℕ). in_front xs out) named_table)
      ∙ take_front (b.n * b.w) (table (λ seed. rule b seed) key) out (named_table_word called.accepted).long
