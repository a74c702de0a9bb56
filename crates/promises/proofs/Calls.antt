-- The promises of specs/Calls.antt, each under its statement's name in small letters, from the contracts alone: what a call leaves with the
-- answer 0 is a definition's bytes, and of those the promises of the crate keys hold under expansion. Assumes nothing.
use mathlib.Core.Path.{◌≡◌, sym, ap, ◌∙◌}
use mathlib.Core.List.{List, [], ◌∷◌}
use Prim.Native.Nat.{ℕ, ◌*◌}
use native.Mathlib.Omega.{arith}
use lib.ListN.{length, take, drop}
use Rattle.xor.specs.Xor.{bytes_good}
use Rattle.grid.specs.Grid.{board}
use Rattle.keys.specs.Keys.{key, key_refusal, head_in, opened, table, lent}
use Rattle.keys.specs.Promise.{entry, DealtAccepted, AcceptedIsDrawn, held_in, HeldIsRead}
use Rattle.key_check.specs.Checked.{head_numbers, checked_as, key_checked}
use Rattle.key_header.specs.Answers.{KeyCheck}
use Rattle.keys.proofs.Promise.{dealt_accepted, dealt_board, dealt_player, accepted_is_drawn, held_is_read}
use Rattle.call_answers.specs.Answers.{key_rule, DealSays, OpenOneSays, OpenAllSays, DrawSays}
use Rattle.call_answers.specs.Answers.{joined_shares, JoinSays, ExpandSays, PageSays}
use Rattle.seed_rows.specs.Rows.{rule}
use Rattle.join_keys_call.specs.JoinKeys.{joined_table, JoinKeysSays}
use Rattle.promises.specs.Calls.{key_part, DealsOpen, dealing_of, DealsDrawn, AcceptedOpens, OpensAgree, JoinsAgree}
use Rattle.promises.specs.Calls.{Untouched, RefusedLeaves, AnsweredKeeps}
use Rattle.call_answers.proofs.Sharing.{shares_fit, length-joined}
use Rattle.call_answers.proofs.Putting.{answer_is, put, untouched, take_front, part_front}
use Rattle.call_answers.proofs.OwnTable.{expansion}
use Rattle.promises.proofs.OpenedKey.{all_answered, one_answered, all_opened, one_opened, own_table_long, own_entry, own_entry_long, entry_fits}
use Rattle.cards.specs.Cards.{picked}
use Rattle.promises.proofs.DrawnCards.{card_drawn, own_picked}
use Rattle.page.specs.Page.{page}
use Rattle.promises.proofs.WrittenPages.{page_written}
use Rattle.promises.proofs.JoinedKeys.{joined_says, part_fine, joined_word, joined_as_opened}
use Rattle.promises.proofs.DealtCalls.{past, left, part_is, part_opens, parts_join, parts_joined, keys_past, square_joined}

-- what Check key answers of an accepted key
checked_of : (p i n m w : ℕ) (key : List ℕ) → key_refusal key ≡ 0 → (head_in key).board ≡ board p n m w → (head_in key).player ≡ i →
    (answer : KeyCheck) → checked_as answer ≡ key_checked key → checked_as answer ≡ record { refusal = 0; numbers = p ∷ i ∷ n ∷ m ∷ w ∷ [] }
unfolding key_checked head_numbers board
checked_of p i n m w key accepted board_is player_is answer says = says ∙ rw (accepted, board_is, player_is)

-- THE THIRD DEMAND, OF THE CALLS

pub deals_open : DealsOpen
unfolding DealsOpen DealtAccepted board
deals_open p n m w point value long keys_now d =
    let b = board p n m w in
    let l = lent point value d.arrays d.seeds d.words in
    let t = left p n m w point value long keys_now d in
    let f : List ℕ → List ℕ = (λ seed. rule b seed) in
    record {
      length_given = t.given;
      accepted = λ i h.
          let part = part_is b l long d.keys keys_now t i h in
          let fine = dealt_accepted b f l i t.accepted (expansion b) h in
          let accepted = ap key_refusal part ∙ fine.0 in
          let board_is = ap (λ (ks : List ℕ). (head_in ks).board) part ∙ dealt_board b f l i t.accepted (expansion b) h in
          let player_is = ap (λ (ks : List ℕ). (head_in ks).player) part ∙ dealt_player b f l i t.accepted (expansion b) h in
          record {
            bytes = ap bytes_good part ∙ fine.2;
            checked = checked_of p i n m w (key_part long.value i keys_now) accepted board_is player_is;
            accepted = record { none = accepted; board_is = board_is; player_is = player_is };
          };
      opens = part_opens b l long d.keys keys_now t;
      joins = parts_join b l long d.keys keys_now t;
      joined = parts_joined b l long d.keys keys_now t;
      square = square_joined b l long d.keys keys_now t;
    }

pub deals_drawn : DealsDrawn
unfolding DealsDrawn dealing_of AcceptedIsDrawn HeldIsRead board
deals_drawn p n m w point value long keys_now d =
    let b = board p n m w in
    let l = lent point value d.arrays d.seeds d.words in
    let t = left p n m w point value long keys_now d in
    let f : List ℕ → List ℕ = (λ seed. rule b seed) in
    record {
      drawn = accepted_is_drawn b f l t.accepted (expansion b);
      held_as_read = λ i h.
          held_is_read b f l i t.accepted (expansion b) h ∙ ap (held_in f) (sym (part_is b l long d.keys keys_now t i h));
    }

pub accepted_opens : AcceptedOpens
unfolding AcceptedOpens
accepted_opens key a r s one one_now all all_now accepted inside room_one room_all says_one SaysAll =
    (one_answered key a r one one_now accepted inside room_one says_one, all_answered key s all all_now accepted room_all SaysAll)

pub opens_agree : OpensAgree
unfolding OpensAgree entry
opens_agree key a one one_now all all_now good says_one SaysAll =
    let b = (head_in key).board in
    let one_called = one_opened key a one one_now says_one in
    let all_called = all_opened key all all_now SaysAll in
    let accepted = one_called.accepted in
    let inside = one_called.inside in
    let long = own_table_long key good accepted in
    let fits = entry_fits key good accepted a inside in
    let table_now : take b.w (drop (a * b.w) all_now) ≡ _ =
    ap (λ (xs : List ℕ). take b.w (drop (a * b.w) xs)) all_called.now ∙ part_front (a * b.w) b.w (table (λ seed. key_rule key seed) key) all (omega arith) in
    ap (λ (xs : List ℕ). take b.w xs) one_called.now ∙ take_front b.w _ one (own_entry_long key good accepted a inside)
    ∙ own_entry key good accepted a inside ∙ sym table_now

pub joins_agree : JoinsAgree
unfolding JoinsAgree
joins_agree keys out out_now good says =
    let b = (head_in keys).board in
    let t = joined_says keys out out_now says in
    record { accepted = part_fine keys out out_now b good t; joins = joined_as_opened keys out out_now b good t }

-- REFUSALS

pub refused_leaves : RefusedLeaves
unfolding Untouched DealSays OpenOneSays OpenAllSays DrawSays JoinSays JoinKeysSays ExpandSays PageSays
refused_leaves =
    record {
      deal = λ p n m w point value arrays seeds words r out out_now h. untouched _ _ r out out_now h;
      open_one = λ key a r out out_now h. untouched _ _ r out out_now h;
      open_all = λ key r out out_now h. untouched _ _ r out out_now h;
      draw_card = λ key deck l r out out_now h. untouched _ _ r out out_now h;
      join_shares = λ p w shares r out out_now h. untouched _ _ r out out_now h;
      join_keys = λ keys r out out_now h. untouched _ _ r out out_now h;
      expand = λ seed s r out out_now h. untouched _ _ r out out_now h;
      write_page = λ n w ts r out out_now h. untouched _ _ r.refusal out out_now h.1;
    }

-- BYTES PAST THOSE NAMED

pub answered_keeps : AnsweredKeeps
unfolding JoinSays board
answered_keeps =
    record {
      deal = λ p n m w point value long keys_now d.
          keys_past (board p n m w) (lent point value d.arrays d.seeds d.words) long d.keys keys_now (left p n m w point value long keys_now d);
      open_one = λ key a out out_now good h.
          let called = one_opened key a out out_now h in
          past (head_in key).board.w (opened (λ seed. key_rule key seed) key a) out out_now (own_entry_long key good called.accepted a called.inside) called.room called.now;
      open_all = λ key out out_now good h.
          let called = all_opened key out out_now h in
          past ((head_in key).board.n * (head_in key).board.w) (table (λ seed. key_rule key seed) key) out out_now (own_table_long key good called.accepted) called.room called.now;
      draw_card = λ key deck l out out_now good h.
          let called = card_drawn key deck l out out_now h in
          past l (picked l (table (λ seed. key_rule key seed) key) deck) out out_now
          (own_picked key deck l good called.accepted called.one called.deck_long).long called.room called.now;
      join_shares = λ p w shares out out_now h.
          let written = joined_shares p w shares in
          let none = sym (answer_is _ written 0 out out_now h) in
          let fine = shares_fit p w (length shares) (length out) none in
          past w written out out_now (length-joined p w shares (omega (arith, fine.0))) fine.1 (put _ written 0 out out_now h none);
      join_keys = λ keys out out_now good h.
          let b = (head_in keys).board in
          let t = joined_says keys out out_now h in
          past (b.n * b.w) (joined_table b.p b keys) out out_now (joined_word keys out out_now b good t).long t.room t.now;
      write_page = λ n w ts r out out_now h none.
          let called = page_written n w ts r out out_now h none in
          past r.value (page n w ts) out out_now called.long called.room called.now;
    }
