-- Open one and Open all: the chain of their numbers behind Check key's, and what is written. Assumes nothing.
use mathlib.Core.Path.{◌≡◌, sym, ap, ◌∙◌}
use mathlib.Core.Bool.{cond}
use mathlib.Core.List.{List}
use Prim.Native.Nat.{ℕ, ◌+◌, ◌*◌, ◌-◌}
use lib.Dec.{leb, ltb}
use lib.ListN.{length}
use Rattle.writer.specs.Written.{in_front}
use Rattle.seed_rows.specs.Rows.{rule}
use Rattle.grid.specs.Grid.{board}
use Rattle.grid.specs.Code.{board_of}
use Rattle.keys.specs.Keys.{key_refusal, head_in, or_else}
use Rattle.keys.proofs.Accepted.{next_fits}
use Rattle.key_check.specs.declared.body.Body.{Body}
use Rattle.open_key.specs.Opened.{square_of, table_of}
use Rattle.open_key.proofs.Headed.{Read, board_is, square_by_rule, table_by_rule}
use Rattle.call_answers.specs.Answers.{key_rule, OpenOneSays, OpenAllSays}
use Rattle.call_answers.proofs.Answering.{put_number, put_done}
use Rattle.call_answers.proofs.Weighing.{short, beyond, room_number, place_number}

module _ (ks : List ℕ) (none : 0 ≡ key_refusal ks) (player : ℕ) (body : Body) (read : Read ks player body) (o : List ℕ) where
  module _ (a : ℕ) where
    -- the number due behind Check key's, as a sum: 14 for a position that is none, 9 for a short room and a position that is one
    abbrev one_due : ℕ
    one_due =
        let none = beyond body.board.positions a in
        14 * none + (9 * short (length o) body.board.value_bytes - 9 * none)

    one_number : or_else (key_refusal ks) (cond (leb (head_in ks).board.n a) 14 (cond (ltb (length o) (head_in ks).board.w) 9 0)) ≡ one_due
    unfolding board
    one_number =
        let n = body.board.positions in
        let w = body.board.value_bytes in
        next_fits (key_refusal ks) _ (sym none) ∙ rw (← board_is ks player body read) (place_number 14 n a (length o) w)

    pub one_refused : (r : ℕ) → r ≡ one_due → (r ≡ 0 → ⊥) → OpenOneSays ks a r o o
    unfolding OpenOneSays
    one_refused r due some = put_number _ r _ o (one_number ∙ sym due) some

    -- the square whose share was written is the one asked for
    pub one_opened : (r : ℕ) (z : List ℕ) (square : ℕ) →
        z ≡ in_front (square_of (board_of body.board) (rule (board_of body.board)) body.bytes.now square) o → square ≡ a → r ≡ 0 → r ≡ one_due →
        OpenOneSays ks a r o z
    unfolding OpenOneSays key_rule
    one_opened r z square e same done due =
        put_done _ _ r o z (one_number ∙ sym due ∙ done) done
        (e ∙ ap (λ (new : List ℕ). in_front new o) (square_by_rule ks player body read square ∙ rw same))

  -- the number due behind Check key's: 9 for a short room
  abbrev all_due : ℕ
  all_due = 9 * short (length o) (body.board.positions * body.board.value_bytes)

  all_number : or_else (key_refusal ks) (cond (ltb (length o) ((head_in ks).board.n * (head_in ks).board.w)) 9 0) ≡ all_due
  unfolding board
  all_number =
      let table_long = body.board.positions * body.board.value_bytes in
      next_fits (key_refusal ks) _ (sym none) ∙ rw (← board_is ks player body read) (room_number (length o) table_long)

  pub all_refused : (r : ℕ) → r ≡ all_due → (r ≡ 0 → ⊥) → OpenAllSays ks r o o
  unfolding OpenAllSays
  all_refused r due some = put_number _ r _ o (all_number ∙ sym due) some

  pub all_opened : (r : ℕ) (z : List ℕ) →
      z ≡ in_front (table_of (board_of body.board) (rule (board_of body.board)) body.bytes.now) o → r ≡ 0 → r ≡ all_due → OpenAllSays ks r o z
  unfolding OpenAllSays key_rule
  all_opened r z e done due =
      put_done _ _ r o z (all_number ∙ sym due ∙ done) done (e ∙ ap (λ (new : List ℕ). in_front new o) (table_by_rule ks player body read))
