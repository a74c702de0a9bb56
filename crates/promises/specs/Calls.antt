-- What the calls promise together, from their contracts alone, with expansion as the rule. The contracts are those of Answers.antt and
-- JoinKeys.antt; here they are read from the outside: a call was lent some bytes, answered a number `r`, and left `out_now` where `out`
-- was. A reader who knows the contracts' names need not know what stands between a deal and its table. Quotations are document 01's.
-- Each statement is a type; proofs/Calls.antt has a term of it under its name in small letters. Assumes nothing.
use Rattle.std.specs.Prelude.{◌≡◌, true, cond, List, [], ◌∷◌, ℕ, ◌*◌, ◌≤◌, ◌<◌, eqb, length, take, drop}
use Rattle.xor.specs.Xor.{zeros, bytes_good}
use Rattle.grid.specs.Grid.{Board, board, Dealing, dealing_good, held}
use Rattle.grid.specs.Joining.{over}
use Rattle.keys.specs.Keys.{lent, dealing, key_refusal, head_in, key_long, AcceptedAs}
use Rattle.key_check.specs.Checked.{checked_as, key_checked}
use Rattle.key_header.specs.Answers.{KeyCheck}
use Rattle.keys.specs.Promise.{entry, point_table, held_in}
use Rattle.call_answers.specs.Answers.{Answer, DealSays, LongSays, OpenOneSays, OpenAllSays, DrawSays, JoinSays}
use Rattle.call_answers.specs.Answers.{ExpandSays, PageSays}
use Rattle.seed_rows.specs.Rows.{rule}
use Rattle.writer.specs.Written.{in_front}
use Rattle.join_keys_call.specs.JoinKeys.{JoinKeysSays}

-- A DEAL THAT WAS ANSWERED BY 0: Deal was lent bytes and left `keys_now` in its output; Key length was asked for the same board
pub record Dealt (p n m w point : ℕ) (value : List ℕ) (long : Answer) (keys_now : List ℕ) : Type 0 where
  pub arrays : List ℕ
  pub seeds : List ℕ
  pub words : List ℕ
  pub keys : List ℕ
  pub value_bytes : bytes_good value ≡ true
  pub seeds_bytes : bytes_good seeds ≡ true
  pub words_bytes : bytes_good words ≡ true
  pub long_says : LongSays p n m w long
  pub deal_says : DealSays p n m w point value arrays seeds words 0 keys keys_now

-- "Deal's p × K bytes, cut after every K": the i-th part; so too the i-th share among shares of w bytes
unfoldable pub key_part : (K i : ℕ) → (keys : List ℕ) → List ℕ
key_part K i keys = take K (drop (i * K) keys)

-- bytes that Check key accepts: whatever it answers as its contract says, that is 0 and the header numbers p, i, N, μ and w
pub record AcceptedByCheck (p i n m w : ℕ) (key : List ℕ) : Type 0 where
  pub bytes : bytes_good key ≡ true
  pub checked : (answer : KeyCheck) → checked_as answer ≡ key_checked key →
      checked_as answer ≡ record { refusal = 0; numbers = p ∷ i ∷ n ∷ m ∷ w ∷ [] }
  pub accepted : AcceptedAs (board p n m w) i key

-- WHAT ITS KEYS ARE GOOD FOR
pub record KeysGood (p n m w point : ℕ) (value : List ℕ) (long : Answer) (keys_now : List ℕ) : Type 0 where
  -- Key length answers 0 too
  pub length_given : long.refusal ≡ 0
  -- each part is accepted by Check key, and is the key of its place
  pub accepted : (i : ℕ) → i < p → AcceptedByCheck p i n m w (key_part long.value i keys_now)
  -- "each key given to Open all", "where 9 doesn't refuse", is answered by 0
  pub opens : (i r : ℕ) (out out_now : List ℕ) → i < p → n * w ≤ length out → OpenAllSays (key_part long.value i keys_now) r out out_now → r ≡ 0
  -- and the p tables that these calls leave XOR to the table with the value on the point and zeros on every other square
  pub joins : (out out_now : ℕ → List ℕ) → ((i : ℕ) → i < p → OpenAllSays (key_part long.value i keys_now) 0 (out i) (out_now i)) →
      over p 0 (n * w) (λ i. take (n * w) (out_now i)) ≡ point_table (board p n m w) point value
  -- Join keys of all p keys in one slice, where 9 doesn't refuse, answers 0 and writes that table
  pub joined : (r : ℕ) (out out_now : List ℕ) → n * w ≤ length out → JoinKeysSays (take (p * long.value) keys_now) r out out_now →
      (r ≡ 0) × (out_now ≡ in_front (point_table (board p n m w) point value) out)
  -- a square alone: the p shares that Open one leaves at it, one after another given to Join shares, give the value on the point and zeros elsewhere
  pub square : (a : ℕ) (ones ones_now : ℕ → List ℕ) (shares : List ℕ) → ((i : ℕ) → i < p → OpenOneSays (key_part long.value i keys_now) a 0 (ones i) (ones_now i)) →
      length shares ≡ p * w → ((i : ℕ) → i < p → key_part w i shares ≡ take w (ones_now i)) →
      (r : ℕ) (out out_now : List ℕ) → w ≤ length out → JoinSays p w shares r out out_now →
      (r ≡ 0) × (out_now ≡ in_front (cond (eqb a point) value (zeros w)) out)

-- THE THIRD DEMAND, OF THE CALLS: every deal that is answered by 0 gives keys that open and join as promised
unfoldable pub DealsOpen : Type 0
DealsOpen =
    (p n m w point : ℕ) (value : List ℕ) (long : Answer) (keys_now : List ℕ) →
    Dealt p n m w point value long keys_now → KeysGood p n m w point value long keys_now

-- the dealing of a deal: the lent bytes, with the rows that expansion makes of the seeds
unfoldable pub dealing_of : (p n m w point : ℕ) → (value arrays seeds words : List ℕ) → Dealing
dealing_of p n m w a v cs ss ws =
    dealing (board p n m w) (λ seed. rule (board p n m w) seed) (lent a v cs ss ws)

-- a freely drawn dealing of the board that gives each player what the player's part of Deal's bytes is read as
pub record DrawnAndHeld (p n m w : ℕ) (d : Dealing) (long : Answer) (keys_now : List ℕ) : Type 0 where
  pub drawn : dealing_good (board p n m w) d ≡ true
  pub held_as_read : (i : ℕ) → i < p →
      held (board p n m w) d i ≡ held_in (λ seed. rule (board p n m w) seed) (key_part long.value i keys_now)

-- HIDING, OF THE CALLS: what it says of freely drawn dealings and of what they give a player, it says of every deal that is answered by 0
unfoldable pub DealsDrawn : Type 0
DealsDrawn =
    (p n m w point : ℕ) (value : List ℕ) (long : Answer) (keys_now : List ℕ) (dealt : Dealt p n m w point value long keys_now) →
    DrawnAndHeld p n m w (dealing_of p n m w point value dealt.arrays dealt.seeds dealt.words) long keys_now

-- "any accepted key given to Open all and Open one, where 9 doesn't refuse", is answered by 0 at every square
unfoldable pub AcceptedOpens : Type 0
AcceptedOpens =
    (key : List ℕ) (a r s : ℕ) (one one_now all all_now : List ℕ) → key_refusal key ≡ 0 → a < (head_in key).board.n →
    (head_in key).board.w ≤ length one → (head_in key).board.n * (head_in key).board.w ≤ length all →
    OpenOneSays key a r one one_now → OpenAllSays key s all all_now → (r ≡ 0) × (s ≡ 0)

-- and both give the same bytes: the w bytes that Open one leaves are that entry of what Open all leaves
unfoldable pub OpensAgree : Type 0
OpensAgree =
    (key : List ℕ) (a : ℕ) (one one_now all all_now : List ℕ) → bytes_good key ≡ true →
    OpenOneSays key a 0 one one_now → OpenAllSays key 0 all all_now →
    take (head_in key).board.w one_now ≡ entry (head_in key).board all_now a

-- JOIN KEYS IS OPEN ALL AND XOR: any slice that it answers by 0 is p accepted keys of one board, each its place's player's, and what it
-- writes is the XOR of the tables that Open all leaves of each
pub record JoinedAsOpened (keys out_now : List ℕ) (b : Board) : Type 0 where
  pub accepted : (i : ℕ) → i < b.p → AcceptedAs b i (key_part (key_long b) i keys)
  pub joins : (tables tables_now : ℕ → List ℕ) → ((i : ℕ) → i < b.p → OpenAllSays (key_part (key_long b) i keys) 0 (tables i) (tables_now i)) →
      take (b.n * b.w) out_now ≡ over b.p 0 (b.n * b.w) (λ i. take (b.n * b.w) (tables_now i))

unfoldable pub JoinsAgree : Type 0
JoinsAgree =
    (keys out out_now : List ℕ) → bytes_good keys ≡ true → JoinKeysSays keys 0 out out_now → JoinedAsOpened keys out_now (head_in keys).board

-- what a call that did not answer 0 left
unfoldable pub Untouched : (r : ℕ) → (out out_now : List ℕ) → Type 0
Untouched r out out_now = (r ≡ 0 → ⊥) → out_now ≡ out

-- "A refusal returns its number and leaves all lent bytes unchanged"
pub record RefusedLeaves : Type 0 where
  pub deal : (p n m w point : ℕ) (value arrays seeds words : List ℕ) (r : ℕ) (out out_now : List ℕ) →
      DealSays p n m w point value arrays seeds words r out out_now → Untouched r out out_now
  pub open_one : (key : List ℕ) (a r : ℕ) (out out_now : List ℕ) → OpenOneSays key a r out out_now → Untouched r out out_now
  pub open_all : (key : List ℕ) (r : ℕ) (out out_now : List ℕ) → OpenAllSays key r out out_now → Untouched r out out_now
  pub draw_card : (key deck : List ℕ) (l r : ℕ) (out out_now : List ℕ) → DrawSays key deck l r out out_now →
      Untouched r out out_now
  pub join_shares : (p w : ℕ) (shares : List ℕ) (r : ℕ) (out out_now : List ℕ) → JoinSays p w shares r out out_now → Untouched r out out_now
  pub join_keys : (keys : List ℕ) (r : ℕ) (out out_now : List ℕ) → JoinKeysSays keys r out out_now → Untouched r out out_now
  pub expand : (seed : List ℕ) (s r : ℕ) (out out_now : List ℕ) → ExpandSays seed s r out out_now →
      Untouched r out out_now
  pub write_page : (n w : ℕ) (table : List ℕ) (r : Answer) (out out_now : List ℕ) →
      PageSays n w table r out out_now → Untouched r.refusal out out_now

-- what a call that answered 0 left past the bytes that it names
unfoldable pub PastKept : (named : ℕ) → (out out_now : List ℕ) → Type 0
PastKept k out out_now = (length out_now ≡ length out) × (drop k out_now ≡ drop k out)

-- "Output past the bytes named keeps its bytes": p × K, w, N × w, L, w and N × w bytes, and as many as Write page tells
pub record AnsweredKeeps : Type 0 where
  pub deal : (p n m w point : ℕ) (value : List ℕ) (long : Answer) (keys_now : List ℕ) (dealt : Dealt p n m w point value long keys_now) →
      PastKept (p * long.value) dealt.keys keys_now
  pub open_one : (key : List ℕ) (a : ℕ) (out out_now : List ℕ) → bytes_good key ≡ true → OpenOneSays key a 0 out out_now →
      PastKept (head_in key).board.w out out_now
  pub open_all : (key : List ℕ) (out out_now : List ℕ) → bytes_good key ≡ true → OpenAllSays key 0 out out_now →
      PastKept ((head_in key).board.n * (head_in key).board.w) out out_now
  pub draw_card : (key deck : List ℕ) (l : ℕ) (out out_now : List ℕ) → bytes_good key ≡ true →
      DrawSays key deck l 0 out out_now → PastKept l out out_now
  pub join_shares : (p w : ℕ) (shares : List ℕ) (out out_now : List ℕ) → JoinSays p w shares 0 out out_now → PastKept w out out_now
  pub join_keys : (keys : List ℕ) (out out_now : List ℕ) → bytes_good keys ≡ true → JoinKeysSays keys 0 out out_now →
      PastKept ((head_in keys).board.n * (head_in keys).board.w) out out_now
  pub write_page : (n w : ℕ) (table : List ℕ) (r : Answer) (out out_now : List ℕ) →
      PageSays n w table r out out_now → r.refusal ≡ 0 → PastKept r.value out out_now
