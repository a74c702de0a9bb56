-- Drawing a card with an accepted key by the call, from its contract alone: where Draw card answers 0, and what it leaves then, which is what
-- the key's own table under expansion picks. Assumes nothing.
use mathlib.Core.Path.{◌≡◌, sym, ◌∙◌}
use mathlib.Core.Bool.{true}
use mathlib.Core.List.{List}
use Prim.Native.Nat.{ℕ, ◌*◌, ◌≤◌}
use native.Mathlib.Omega.{arith}
use lib.ListN.{length}
use Rattle.xor.specs.Xor.{bytes_good}
use Rattle.xor.proofs.Laws.{Word}
use Rattle.writer.specs.Written.{in_front}
use Rattle.keys.specs.Keys.{key_refusal, head_in, table, or_else}
use Rattle.keys.proofs.Accepted.{neither}
use Rattle.cards.specs.Cards.{picked}
use Rattle.cards.proofs.Decks.{picked_word}
use Rattle.call_answers.specs.Answers.{key_rule, share_fits, draw_refusal, DrawSays}
use Rattle.call_answers.proofs.Drawing.{draw_0, draw_fits}
use Rattle.call_answers.proofs.Putting.{nothing_refuses, answer_is, put}
use Rattle.call_answers.proofs.OwnTable.{own_table_word}

module _ (key deck : List ℕ) (l : ℕ) where
  abbrev cards : ℕ
  cards = (head_in key).board.n

  abbrev own_table : List ℕ
  own_table = table (λ seed. key_rule key seed) key

  -- what Draw card answered by 0
  pub record CardDrawn (out out_now : List ℕ) : Type 0 where
    pub accepted : key_refusal key ≡ 0
    pub one : (head_in key).board.w ≡ 1
    pub deck_long : length deck ≡ cards * l
    pub room : l ≤ length out
    pub now : out_now ≡ in_front (picked l own_table deck) out

  pub card_drawn : (out out_now : List ℕ) → DrawSays key deck l 0 out out_now → CardDrawn out out_now
  unfolding DrawSays
  card_drawn out out_now h =
      let last = draw_refusal (head_in key).board l (length deck) (length out) in
      let none : or_else (key_refusal key) last ≡ 0 = sym (answer_is _ (picked l own_table deck) 0 out out_now h) in
      let both = neither (key_refusal key) last none in
      let fits = draw_fits (head_in key).board l (length deck) (length out) both.1 in
      record {
        accepted = both.0;
        one = fits.0;
        deck_long = fits.2;
        room = fits.3;
        now = put _ (picked l own_table deck) 0 out out_now h none;
      }

  -- of an accepted key with values of one byte it answers 0 where the deck is its board's and there is room
  pub card_answered : (r : ℕ) (out out_now : List ℕ) → key_refusal key ≡ 0 → (head_in key).board.w ≡ 1 → share_fits l ≡ true → length deck ≡ cards * l →
      l ≤ length out → DrawSays key deck l r out out_now → r ≡ 0
  unfolding DrawSays
  card_answered r out out_now accepted one fits size room h =
      answer_is _ (picked l own_table deck) r out out_now h
      ∙ nothing_refuses (key_refusal key) (draw_refusal (head_in key).board l (length deck) (length out)) accepted
      (sym (draw_0 (head_in key).board l (length deck) (length out) one fits size room))

  pub own_picked : bytes_good key ≡ true → key_refusal key ≡ 0 → (head_in key).board.w ≡ 1 → length deck ≡ cards * l → Word l (picked l own_table deck)
  own_picked good accepted one size =
      let bytes : cards * (head_in key).board.w ≡ cards = rw one (omega arith) in
      let long : length own_table ≡ cards = (own_table_word key good accepted).long ∙ bytes in
      picked_word l own_table deck (rw long (omega arith))
