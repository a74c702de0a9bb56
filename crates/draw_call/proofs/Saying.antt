-- What Draw card says: its own numbers behind Check key's, and what is written. Assumes nothing.
use mathlib.Core.Path.{◌≡◌, sym, ◌∙◌}
use mathlib.Core.List.{List}
use Prim.Native.Nat.{ℕ}
use lib.ListN.{length}
use Rattle.writer.specs.Written.{in_front}
use Rattle.seed_rows.specs.Rows.{rule}
use Rattle.grid.specs.Code.{board_of}
use Rattle.keys.specs.Keys.{key_refusal}
use Rattle.keys.proofs.Accepted.{next_fits}
use Rattle.key_check.specs.declared.body.Body.{Body}
use Rattle.open_key.specs.Opened.{table_of}
use Rattle.open_key.proofs.Headed.{Read, board_is, table_by_rule}
use Rattle.cards.specs.Cards.{picked}
use Rattle.call_answers.specs.Answers.{draw_refusal, key_rule, DrawSays}
use Rattle.call_answers.proofs.Answering.{put_number, put_done}

module _ (ks : List ℕ) (none : 0 ≡ key_refusal ks) (player : ℕ) (body : Body) (read : Read ks player body) (deck : List ℕ) (l : ℕ) (o : List ℕ) where
  -- the number due behind Check key's
  abbrev due : ℕ
  due = draw_refusal (board_of body.board) l (length deck) (length o)

  pub draw_refused : (r : ℕ) → r ≡ due → (r ≡ 0 → ⊥) → DrawSays ks deck l r o o
  unfolding DrawSays
  draw_refused r is some = put_number _ r _ o (next_fits (key_refusal ks) _ (sym none) ∙ rw (← board_is ks player body read) (sym is)) some

  pub card_drawn : (r : ℕ) (z : List ℕ) (long : ℕ) →
      z ≡ in_front (picked long (table_of (board_of body.board) (rule (board_of body.board)) body.bytes.now) deck) o → long ≡ l → r ≡ 0 → r ≡ due →
      DrawSays ks deck l r o z
  unfolding DrawSays key_rule
  card_drawn r z long e same done is =
      put_done _ _ r o z (next_fits (key_refusal ks) _ (sym none) ∙ rw (← board_is ks player body read) (sym is) ∙ done) done
      (e ∙ rw (same, table_by_rule ks player body read))
