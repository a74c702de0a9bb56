-- What a deal that was answered by 0 left, and what the other calls leave of its keys: the tables of Open all and their XOR, what Join keys
-- writes, and the shares of Open one joined by Join shares. From the contracts alone. Assumes nothing.
use mathlib.Core.Path.{◌≡◌, refl, sym, ap, ◌∙◌, subst, subst⁻¹}
use mathlib.Core.Bool.{true, cond}
use mathlib.Core.List.{List}
use Prim.Native.Nat.{ℕ, zero, suc, ◌+◌, ◌*◌, ◌≤◌, ◌<◌}
use native.Mathlib.Omega.{arith}
use lib.Dec.{ltb, eqb}
use lib.ListN.{length, take, drop}
use lib.Seq.{drop-drop}
use borrow.Author.Tests.{eq-eqb}
use Rattle.xor.specs.Xor.{zeros}
use Rattle.grid.specs.Grid.{Board, board, board_refusal, Dealing, share}
use Rattle.grid.specs.Joining.{over}
use Rattle.grid.proofs.Facts.{board_accepted}
use Rattle.grid.proofs.Refusing.{within}
use Rattle.grid.proofs.Sums.{over_same}
use Rattle.grid.proofs.Joining.{joined_is}
use Rattle.keys.specs.Keys.{Lent, dealing, opened, key, keys_from, key_long, deal_refusal, table, or_else, lent}
use Rattle.keys.specs.Promise.{lent_good, point_table, DealtAccepted, KeysOpen, TablesJoin}
use Rattle.keys.proofs.Dealing.{lent_in}
use Rattle.keys.proofs.Promise.{dealt_accepted, dealt_board, dealt_word, keys_open, tables_join}
use Rattle.call_answers.specs.Answers.{Answer, says, key_rule, DealSays, LongSays, OpenOneSays, OpenAllSays, joined_shares, JoinSays}
use Rattle.writer.specs.Written.{in_front}
use Rattle.seed_rows.specs.Rows.{rule}
use Rattle.join_keys_call.specs.JoinKeys.{JoinKeysSays}
use Rattle.promises.specs.Calls.{Dealt, key_part, PastKept}
use Rattle.keys.proofs.Accepted.{neither}
use Rattle.call_answers.proofs.Sharing.{shares_0}
use Rattle.call_answers.proofs.Putting.{room_there, answer_is, put, take_front, drop_front, length_front}
use Rattle.call_answers.proofs.OwnTable.{expansion}
use Rattle.promises.proofs.OpenedKey.{opened_table, all_answered, one_opened, own_entry_long}
use Rattle.promises.proofs.DealtKeys.{lent_accepted, keys_length, key_cut, tables_over, keys_joined}

-- what is put in front leaves the rest
pub past : (k : ℕ) (new out out_now : List ℕ) → length new ≡ k → k ≤ length out → out_now ≡ in_front new out → PastKept k out out_now
unfolding PastKept
past k new out out_now long room now =
    (ap length now ∙ length_front k new out long room, ap (λ (xs : List ℕ). drop k xs) now ∙ drop_front k new out long)

-- WHAT A DEAL LEFT

-- Deal answered 0 on this board and these lent bytes, and Key length gave K
pub record Left (b : Board) (l : Lent) (long : Answer) (out keys_now : List ℕ) : Type 0 where
  pub accepted : lent_good b l ≡ true
  pub given : long.refusal ≡ 0
  pub long_is : long.value ≡ key_long b
  pub room : b.p * key_long b ≤ length out
  pub now : keys_now ≡ in_front (keys_from b.p 0 b (λ seed. rule b seed) l) out

pub left : (p n m w point : ℕ) (value : List ℕ) (long : Answer) (keys_now : List ℕ) (d : Dealt p n m w point value long keys_now) →
    Left (board p n m w) (lent point value d.arrays d.seeds d.words) long d.keys keys_now
unfolding DealSays LongSays says board
left p n m w point value long keys_now d =
    let b = board p n m w in
    let l = lent point value d.arrays d.seeds d.words in
    let keys = keys_from p 0 b (λ seed. rule b seed) l in
    let last : ℕ = cond (ltb (length d.keys) (p * key_long b)) 9 0 in
    let none : or_else (deal_refusal b l) last ≡ 0 = sym (answer_is _ keys 0 d.keys keys_now d.deal_says) in
    let both = neither (deal_refusal b l) last none in
    let good = lent_accepted b l both.0 d.value_bytes d.seeds_bytes d.words_bytes in
    let fine : board_refusal b ≡ 0 = board_accepted b (lent_in b l good).board in
    record {
      accepted = good;
      given = d.long_says.0 ∙ fine;
      long_is = d.long_says.1 ∙ rw (eq-eqb (board_refusal b) 0 fine);
      room = room_there (length d.keys) (p * key_long b) both.1;
      now = put _ keys 0 d.keys keys_now d.deal_says none;
    }

module _ (b : Board) (l : Lent) (long : Answer) (out keys_now : List ℕ) (d : Left b l long out keys_now) where
  abbrev dealt_to : (player : ℕ) → List ℕ
  dealt_to i = key b (λ seed. rule b seed) l i

  -- the i-th part is player i's key
  pub part_is : (i : ℕ) → i < b.p → key_part long.value i keys_now ≡ dealt_to i
  unfolding key_part
  part_is i h =
      ap (λ (k : ℕ). take k (drop (i * k) keys_now)) d.long_is
      ∙ ap (λ (ks : List ℕ). take (key_long b) (drop (i * key_long b) ks)) d.now ∙ key_cut b l d.accepted i out h

  -- the table that Open all leaves of it
  part_table : (i : ℕ) (o o_now : List ℕ) → i < b.p → OpenAllSays (key_part long.value i keys_now) 0 o o_now →
      take (b.n * b.w) o_now ≡ table (λ seed. rule b seed) (dealt_to i)
  part_table i o o_now h says =
      let f : List ℕ → List ℕ = (λ seed. rule b seed) in
      opened_table (dealt_to i) b (dealt_board b f l i d.accepted (expansion b) h) (dealt_word b f l i d.accepted (expansion b) h).good o o_now
      (subst (λ (ks : List ℕ). OpenAllSays ks 0 o o_now) (part_is i h) says)

  pub part_opens : (i r : ℕ) (o o_now : List ℕ) → i < b.p → b.n * b.w ≤ length o → OpenAllSays (key_part long.value i keys_now) r o o_now → r ≡ 0
  unfolding DealtAccepted
  part_opens i r o o_now h room says =
      let fine = dealt_accepted b (λ seed. rule b seed) l i d.accepted (expansion b) h in
      all_answered (dealt_to i) r o o_now fine.0
      (subst⁻¹ (λ (c : Board). c.n * c.w ≤ length o) (dealt_board b (λ seed. rule b seed) l i d.accepted (expansion b) h) room)
      (subst (λ (ks : List ℕ). OpenAllSays ks r o o_now) (part_is i h) says)

  pub parts_join : (o o_now : ℕ → List ℕ) → ((i : ℕ) → i < b.p → OpenAllSays (key_part long.value i keys_now) 0 (o i) (o_now i)) →
      over b.p 0 (b.n * b.w) (λ i. take (b.n * b.w) (o_now i)) ≡ point_table b l.point l.value
  parts_join o o_now h =
      over_same b.p 0 (b.n * b.w) (λ i. take (b.n * b.w) (o_now i)) (λ i. table (λ seed. rule b seed) (dealt_to i))
      (λ i p q. let inside : i < b.p = omega arith in part_table i (o i) (o_now i) inside (h i inside))
      ∙ tables_over b l d.accepted

  keys_whole : take (b.p * long.value) keys_now ≡ keys_from b.p 0 b (λ seed. rule b seed) l
  keys_whole =
      ap (λ (k : ℕ). take (b.p * k) keys_now) d.long_is ∙ ap (λ (ks : List ℕ). take (b.p * key_long b) ks) d.now
      ∙ take_front (b.p * key_long b) (keys_from b.p 0 b (λ seed. rule b seed) l) out (keys_length b l d.accepted)

  pub parts_joined : (r : ℕ) (o o_now : List ℕ) → b.n * b.w ≤ length o → JoinKeysSays (take (b.p * long.value) keys_now) r o o_now →
      (r ≡ 0) × (o_now ≡ in_front (point_table b l.point l.value) o)
  parts_joined r o o_now room says =
      keys_joined b l d.accepted r o o_now room (subst (λ (ks : List ℕ). JoinKeysSays ks r o o_now) keys_whole says)

  pub keys_past : PastKept (b.p * long.value) out keys_now
  keys_past =
      subst⁻¹ (λ (k : ℕ). PastKept (b.p * k) out keys_now) d.long_is
      (past (b.p * key_long b) (keys_from b.p 0 b (λ seed. rule b seed) l) out keys_now (keys_length b l d.accepted) d.room d.now)

-- SHARES AT A SQUARE

-- shares one after another, each given
pub shares_over : (k i w : ℕ) (given : ℕ → List ℕ) (bs : List ℕ) → ((j : ℕ) → j < k → take w (drop (j * w) bs) ≡ given (i + j)) →
    joined_shares k w bs ≡ over k i w given
unfolding joined_shares over
shares_over zero i w given bs h = refl
shares_over (suc k) i w given bs h =
    let none : 0 * w ≡ 0 = omega arith in
    let here : i + 0 ≡ i = omega arith in
    let first : take w bs ≡ given i = (rw (none, here) at (h 0 (omega arith))) in
    rw (
      first,
      shares_over k (suc i) w given (drop w bs)
          (λ j p.
          let next : w + j * w ≡ suc j * w = omega arith in
          let later : suc i + j ≡ i + suc j = omega arith in
          rw (drop-drop (j * w) w bs, next, later) (h (suc j) (omega arith))),
    )

module _ (b : Board) (l : Lent) (long : Answer) (out keys_now : List ℕ) (d : Left b l long out keys_now) where
  abbrev drawn : Dealing
  drawn = dealing b (λ seed. rule b seed) l

  part_share : (i a : ℕ) (o o_now : List ℕ) → i < b.p → OpenOneSays (key_part long.value i keys_now) a 0 o o_now →
      (a < b.n) × (take b.w o_now ≡ share b drawn i a)
  unfolding KeysOpen key_rule
  part_share i a o o_now h says =
      let f : List ℕ → List ℕ = (λ seed. rule b seed) in
      let k = key b f l i in
      let named = dealt_board b f l i d.accepted (expansion b) h in
      let good = (dealt_word b f l i d.accepted (expansion b) h).good in
      let called = one_opened k a o o_now (subst (λ (ks : List ℕ). OpenOneSays ks a 0 o o_now) (part_is b l long out keys_now d i h) says) in
      let inside : a < b.n = subst (λ (c : Board). a < c.n) named called.inside in
      let own : opened (λ seed. key_rule k seed) k a ≡ opened f k a = ap (λ (c : Board). opened (λ seed. rule c seed) k a) named in
      let sized = subst (λ (c : Board). length (opened (λ seed. key_rule k seed) k a) ≡ c.w) named (own_entry_long k good called.accepted a called.inside) in (
        inside,
        ap (λ (xs : List ℕ). take b.w xs) called.now ∙ take_front b.w _ o sized ∙ own ∙ (keys_open b f l i a d.accepted (expansion b) h inside).2,
      )

  pub square_joined : (a : ℕ) (ones ones_now : ℕ → List ℕ) (shares : List ℕ) → ((i : ℕ) → i < b.p → OpenOneSays (key_part long.value i keys_now) a 0 (ones i) (ones_now i)) →
      length shares ≡ b.p * b.w → ((i : ℕ) → i < b.p → key_part b.w i shares ≡ take b.w (ones_now i)) →
      (r : ℕ) (o o_now : List ℕ) → b.w ≤ length o → JoinSays b.p b.w shares r o o_now →
      (r ≡ 0) × (o_now ≡ in_front (cond (eqb a l.point) l.value (zeros b.w)) o)
  unfolding JoinSays key_part TablesJoin
  square_joined a ones ones_now shares opened_at whole cut r o o_now room says =
      let fine = (lent_in b l d.accepted).board in
      let inside = (part_share 0 a (ones 0) (ones_now 0) (omega (arith, fine.players_least)) (opened_at 0 (omega (arith, fine.players_least)))).0 in
      let players = within 2 b.p 6 fine.players_least fine.players_most in
      let bytes = within 1 b.w 256 fine.value_least (omega (arith, fine.value_most)) in
      let none = sym (shares_0 b.p b.w (length shares) (length o) players bytes whole room) in
      let written = joined_shares b.p b.w shares in
      let piece = shares_over b.p 0 b.w (λ i. share b drawn i a) shares (λ i p.
      let here : i ≡ 0 + i = omega arith in
      cut i p ∙ (part_share i a (ones i) (ones_now i) p (opened_at i p)).1 ∙ ap (λ (j : ℕ). share b drawn j a) here)
      ∙ sym (joined_is b.p 0 b drawn a) ∙ tables_join b (λ seed. rule b seed) l a d.accepted (expansion b) inside in
      (answer_is _ written r o o_now says ∙ none, put _ written r o o_now says none ∙ ap (λ (xs : List ℕ). in_front xs o) piece)
