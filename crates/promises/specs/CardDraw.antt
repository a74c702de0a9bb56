-- A CARD THAT NO PHONE LEARNS: document 02, (iii), whose sentences are quoted. What the phones learn of the wanted card
-- is what hiding says of point keys (Demand3.antt, Calls.antt): a draw is a deal. proofs/CardDraw.antt has the term.
-- Assumes nothing.
use Rattle.std.specs.Prelude.{◌≡◌, true, List, ℕ, ◌*◌, ◌≤◌, ◌<◌, length, get_or, take}
use Rattle.xor.specs.Xor.{bytes_good}
use Rattle.writer.specs.Written.{in_front}
use Rattle.grid.specs.Grid.{Board}
use Rattle.grid.specs.Joining.{over}
use Rattle.keys.specs.Keys.{Lent, key, key_refusal, head_in, table}
use Rattle.keys.specs.Promise.{RuleGood, lent_good}
use Rattle.cards.specs.Cards.{card, at_share, picked}
use Rattle.call_answers.specs.Answers.{Answer, share_fits, DrawSays, OpenAllSays, JoinSays}
use Rattle.promises.specs.Calls.{Dealt, key_part}

-- "the wanted card", where the value of one byte is odd; "an even value gives zeros"
unfoldable pub wanted_card : (l : ℕ) → (value deck : List ℕ) → (point : ℕ) → List ℕ
wanted_card l v deck a = at_share l (get_or v 0 0) (card l deck a)

-- "the p answers XOR to the wanted card. This must hold for every deck and every accepted dealing with w 1", and it
-- does under every rule
unfoldable pub DrawsJoin : Type 0
DrawsJoin =
    (b : Board) (f : List ℕ → List ℕ) (d : Lent) (l : ℕ) (deck : List ℕ) → lent_good b d ≡ true → RuleGood b f →
    b.w ≡ 1 → length deck ≡ b.n * l → bytes_good deck ≡ true →
    over b.p 0 l (λ i. picked l (table f (key b f d i)) deck) ≡ wanted_card l d.value deck d.point

-- WHAT A DEAL'S KEYS DRAW from a deck
pub record DrawsGood (p point : ℕ) (value : List ℕ) (long : Answer) (keys_now : List ℕ) (l : ℕ) (deck : List ℕ)
    : Type 0 where
  -- Draw card of each key, where 9 doesn't refuse, is answered by 0
  pub draws : (i r : ℕ) (out out_now : List ℕ) → i < p → l ≤ length out →
      DrawSays (key_part long.value i keys_now) deck l r out out_now → r ≡ 0
  -- the p answers that these calls leave XOR to the wanted card
  pub joins : (out out_now : ℕ → List ℕ) →
      ((i : ℕ) → i < p → DrawSays (key_part long.value i keys_now) deck l 0 (out i) (out_now i)) →
      over p 0 l (λ i. take l (out_now i)) ≡ wanted_card l value deck point
  -- and one after another given to Join shares, where 9 doesn't refuse, they are answered by 0 and that card
  pub joined : (outs outs_now : ℕ → List ℕ) (shares : List ℕ) →
      ((i : ℕ) → i < p → DrawSays (key_part long.value i keys_now) deck l 0 (outs i) (outs_now i)) →
      length shares ≡ p * l → ((i : ℕ) → i < p → key_part l i shares ≡ take l (outs_now i)) →
      (r : ℕ) (out out_now : List ℕ) → l ≤ length out → JoinSays p l shares r out out_now →
      (r ≡ 0) × (out_now ≡ in_front (wanted_card l value deck point) out)

-- OF THE CALLS: for every deal with w 1 that is answered by 0, and every deck of its board
unfoldable pub DealsGiveTheCard : Type 0
DealsGiveTheCard =
    (p n m point : ℕ) (value : List ℕ) (long : Answer) (keys_now : List ℕ) (l : ℕ) (deck : List ℕ) →
    Dealt p n m 1 point value long keys_now → share_fits l ≡ true → length deck ≡ n * l → bytes_good deck ≡ true →
    DrawsGood p point value long keys_now l deck

-- any accepted key with w 1, dealt or not, and any deck of its board: Draw card is answered by 0 where 9 doesn't refuse
unfoldable pub AcceptedDraws : Type 0
AcceptedDraws =
    (key deck : List ℕ) (l r : ℕ) (out out_now : List ℕ) → key_refusal key ≡ 0 → (head_in key).board.w ≡ 1 →
    share_fits l ≡ true → length deck ≡ (head_in key).board.n * l → l ≤ length out →
    DrawSays key deck l r out out_now → r ≡ 0

-- and what it leaves is what the table picks that Open all leaves
unfoldable pub DrawsAgree : Type 0
DrawsAgree =
    (key deck : List ℕ) (l : ℕ) (one one_now all all_now : List ℕ) → bytes_good key ≡ true →
    DrawSays key deck l 0 one one_now → OpenAllSays key 0 all all_now →
    take l one_now ≡ picked l (take (head_in key).board.n all_now) deck

pub record CardDraw : Type 0 where
  pub draws_join : DrawsJoin
  pub deals_give_the_card : DealsGiveTheCard
  pub accepted_draws : AcceptedDraws
  pub draws_agree : DrawsAgree
