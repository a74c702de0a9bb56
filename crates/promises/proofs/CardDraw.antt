-- A CARD THAT NO PHONE LEARNS of specs/CardDraw.antt, kept: full tables join, and what they pick joins with them. Assumes nothing.
use mathlib.Core.Path.{◌≡◌, refl, sym, ap, ◌∙◌, subst, subst⁻¹}
use mathlib.Core.Bool.{true}
use mathlib.Core.List.{List, [], ◌∷◌, ◌++◌, append_assoc}
use Prim.Native.Nat.{ℕ, suc, ◌+◌, ◌*◌, ◌-◌, ◌≤◌, ◌<◌}
use native.Mathlib.Nat.{mul-le-mul_right}
use native.Mathlib.Omega.{arith}
use lib.ListN.{length, get_or, take}
use Rattle.xor.specs.Xor.{zeros, bytes_good}
use Rattle.xor.proofs.Laws.{Word}
use Rattle.writer.specs.Written.{in_front}
use Rattle.seed_rows.specs.Rows.{rule}
use Rattle.grid.specs.Grid.{Board, board}
use Rattle.grid.specs.Joining.{over}
use Rattle.grid.proofs.Refusing.{within}
use Rattle.grid.proofs.Sums.{over_same}
use Rattle.keys.specs.Keys.{Lent, lent, key, head_in, table}
use Rattle.keys.specs.Promise.{RuleGood, lent_good, point_table, DealtAccepted, TableLong, FullTablesJoin}
use Rattle.keys.proofs.Dealing.{lent_in}
use Rattle.keys.proofs.Promise.{dealt_accepted, dealt_board, table_long, full_tables_join}
use Rattle.cards.specs.Cards.{picked}
use Rattle.cards.proofs.Sums.{picked_over, picked_point}
use Rattle.call_answers.specs.Answers.{Answer, key_rule, share_fits, DrawSays, joined_shares, JoinSays}
use Rattle.call_answers.proofs.Sharing.{shares_0}
use Rattle.call_answers.proofs.Putting.{answer_is, put, take_front}
use Rattle.promises.specs.Calls.{key_part}
use Rattle.promises.specs.CardDraw.{wanted_card, DrawsJoin, DealsGiveTheCard, AcceptedDraws, DrawsAgree, CardDraw}
use Rattle.call_answers.proofs.OwnTable.{expansion}
use Rattle.promises.proofs.OpenedKey.{all_opened, own_table_long}
use Rattle.promises.proofs.DrawnCards.{card_drawn, card_answered, own_picked}
use Rattle.promises.proofs.DealtCalls.{Left, left, part_is, shares_over}

-- UNDER EVERY RULE

-- a dealt key's table, by its board
dealt_table_word : (b : Board) (f : List ℕ → List ℕ) (d : Lent) (i : ℕ) → lent_good b d ≡ true → RuleGood b f → i < b.p →
    Word (b.n * b.w) (table f (key b f d i))
unfolding DealtAccepted TableLong
dealt_table_word b f d i good rule inside =
    let fine = dealt_accepted b f d i good rule inside in
    let named = dealt_board b f d i good rule inside in
    let word = table_long f (key b f d i) fine.0 fine.2 (rw named rule) in
    record { long = rw named at word.0; good = word.1 }

-- a value of one byte
one_of : (v : List ℕ) → length v ≡ 1 → v ≡ get_or v 0 0 ∷ []
one_of [] h = let none : ⊥ = omega arith in absurd none
one_of (x ∷ []) h = refl
one_of (x ∷ y ∷ v) h = let none : ⊥ = omega arith in absurd none

-- the point's table picks the wanted card
point_picks : (b : Board) (a l : ℕ) (v deck : List ℕ) → b.w ≡ 1 → a < b.n → length v ≡ 1 → length deck ≡ b.n * l → bytes_good deck ≡ true →
    picked l (point_table b a v) deck ≡ wanted_card l v deck a
unfolding point_table wanted_card
point_picks b a l v deck one inside long size good =
    let front : a * 1 ≡ a = omega arith in
    let back : (b.n - suc a) * 1 ≡ b.n - suc a = omega arith in
    let x = get_or v 0 0 in
    let rest = b.n - suc a in
    let table_is : zeros a ++ v ++ zeros rest ≡ zeros a ++ (x ∷ zeros rest) =
    append_assoc (zeros a) v (zeros rest) ∙ ap (λ (xs : List ℕ). zeros a ++ (xs ++ zeros rest)) (one_of v long) in
    let room : suc a * l ≤ length deck = omega (arith, mul-le-mul_right l inside) in
    rw (one, front, back, table_is) (picked_point l a x rest deck room good)

draws_join : DrawsJoin
unfolding DrawsJoin FullTablesJoin
draws_join b f d l deck good rule one size bytes =
    let t = lent_in b d good in
    let all : b.n * b.w ≡ b.n = rw one (omega arith) in
    let room : b.n * b.w * l ≤ length deck = rw all (omega arith) in
    picked_over l b.p 0 (b.n * b.w) (λ i. table f (key b f d i)) deck (λ i p q. dealt_table_word b f d i good rule (omega arith)) room bytes
    ∙ ap (λ (ts : List ℕ). picked l ts deck) (full_tables_join b f d good rule)
    ∙ point_picks b d.point l d.value deck one t.point (t.value.long ∙ one) size bytes

-- OF THE CALLS

module _ (b : Board) (d : Lent) (long : Answer) (out keys_now : List ℕ) (t : Left b d long out keys_now) (l : ℕ) (deck : List ℕ)
    (one : b.w ≡ 1) (fits : share_fits l ≡ true) (size : length deck ≡ b.n * l) (bytes : bytes_good deck ≡ true)
  where
    abbrev dealt_to : (player : ℕ) → List ℕ
    dealt_to i = key b (λ seed. rule b seed) d i

    named : (i : ℕ) → i < b.p → (head_in (dealt_to i)).board ≡ b
    named i h = dealt_board b (λ seed. rule b seed) d i t.accepted (expansion b) h

    part_answered : (i r : ℕ) (o o_now : List ℕ) → i < b.p → l ≤ length o → DrawSays (key_part long.value i keys_now) deck l r o o_now → r ≡ 0
    unfolding DealtAccepted
    part_answered i r o o_now h room says =
        let fine = dealt_accepted b (λ seed. rule b seed) d i t.accepted (expansion b) h in
        card_answered (dealt_to i) deck l r o o_now fine.0 (subst⁻¹ (λ (c : Board). c.w ≡ 1) (named i h) one) fits
        (subst⁻¹ (λ (c : Board). length deck ≡ c.n * l) (named i h) size) room
        (subst (λ (ks : List ℕ). DrawSays ks deck l r o o_now) (part_is b d long out keys_now t i h) says)

    -- what the call leaves of a dealt key
    part_drawn : (i : ℕ) (o o_now : List ℕ) → i < b.p → DrawSays (key_part long.value i keys_now) deck l 0 o o_now →
        take l o_now ≡ picked l (table (λ seed. rule b seed) (dealt_to i)) deck
    unfolding DealtAccepted key_rule
    part_drawn i o o_now h says =
        let k = dealt_to i in
        let fine = dealt_accepted b (λ seed. rule b seed) d i t.accepted (expansion b) h in
        let called = card_drawn k deck l o o_now (subst (λ (ks : List ℕ). DrawSays ks deck l 0 o o_now) (part_is b d long out keys_now t i h) says) in
        let own = own_picked k deck l fine.2 called.accepted called.one called.deck_long in
        ap (λ (xs : List ℕ). take l xs) called.now ∙ take_front l _ o own.long
        ∙ ap (λ (c : Board). picked l (table (λ seed. rule c seed) k) deck) (named i h)

    parts_join : (o o_now : ℕ → List ℕ) → ((i : ℕ) → i < b.p → DrawSays (key_part long.value i keys_now) deck l 0 (o i) (o_now i)) →
        over b.p 0 l (λ i. take l (o_now i)) ≡ wanted_card l d.value deck d.point
    unfolding DrawsJoin
    parts_join o o_now h =
        over_same b.p 0 l (λ i. take l (o_now i)) (λ i. picked l (table (λ seed. rule b seed) (dealt_to i)) deck)
        (λ i p q. let inside : i < b.p = omega arith in part_drawn i (o i) (o_now i) inside (h i inside))
        ∙ draws_join b (λ seed. rule b seed) d l deck t.accepted (expansion b) one size bytes

    parts_joined : (outs outs_now : ℕ → List ℕ) (shares : List ℕ) →
        ((i : ℕ) → i < b.p → DrawSays (key_part long.value i keys_now) deck l 0 (outs i) (outs_now i)) → length shares ≡ b.p * l →
        ((i : ℕ) → i < b.p → key_part l i shares ≡ take l (outs_now i)) → (r : ℕ) (o o_now : List ℕ) → l ≤ length o → JoinSays b.p l shares r o o_now →
        (r ≡ 0) × (o_now ≡ in_front (wanted_card l d.value deck d.point) o)
    unfolding JoinSays key_part
    parts_joined outs outs_now shares drew whole cut r o o_now room says =
        let fine = (lent_in b d t.accepted).board in
        let players = within 2 b.p 6 fine.players_least fine.players_most in
        let none = sym (shares_0 b.p l (length shares) (length o) players fits whole room) in
        let written = joined_shares b.p l shares in
        let joins = shares_over b.p 0 l (λ i. take l (outs_now i)) shares (λ i p.
        let here : i ≡ 0 + i = omega arith in
        cut i p ∙ ap (λ (j : ℕ). take l (outs_now j)) here)
        ∙ parts_join outs outs_now drew in
        (answer_is _ written r o o_now says ∙ none, put _ written r o o_now says none ∙ ap (λ (xs : List ℕ). in_front xs o) joins)

deals_give_the_card : DealsGiveTheCard
unfolding DealsGiveTheCard board
deals_give_the_card p n m point value long keys_now l deck dealt fits size bytes =
    let b = board p n m 1 in
    let d = lent point value dealt.arrays dealt.seeds dealt.words in
    let t = left p n m 1 point value long keys_now dealt in
    record {
      draws = part_answered b d long dealt.keys keys_now t l deck refl fits size bytes;
      joins = parts_join b d long dealt.keys keys_now t l deck refl fits size bytes;
      joined = parts_joined b d long dealt.keys keys_now t l deck refl fits size bytes;
    }

accepted_draws : AcceptedDraws
unfolding AcceptedDraws
accepted_draws key deck l r out out_now accepted one fits size room says = card_answered key deck l r out out_now accepted one fits size room says

draws_agree : DrawsAgree
unfolding DrawsAgree
draws_agree key deck l one one_now all all_now good says_one SaysAll =
    let called = card_drawn key deck l one one_now says_one in
    let opened = all_opened key all all_now SaysAll in
    let own = own_picked key deck l good called.accepted called.one called.deck_long in
    let cards = (head_in key).board.n in
    let bytes : cards * (head_in key).board.w ≡ cards = rw called.one (omega arith) in
    let table_long : length (table (λ seed. key_rule key seed) key) ≡ cards = own_table_long key good called.accepted ∙ bytes in
    let table_now : take cards all_now ≡ table (λ seed. key_rule key seed) key =
    ap (λ (xs : List ℕ). take cards xs) opened.now ∙ take_front cards _ all table_long in
    ap (λ (xs : List ℕ). take l xs) called.now ∙ take_front l _ one own.long ∙ ap (λ (ts : List ℕ). picked l ts deck) (sym table_now)

pub card_draw : CardDraw
card_draw = record { draws_join = draws_join; deals_give_the_card = deals_give_the_card; accepted_draws = accepted_draws; draws_agree = draws_agree }
