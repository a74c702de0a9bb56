-- What the witnesses' calls leave, over plain variables: one turn of the loop that joins tables, and what each answer of the two witnesses
-- means, from the calls' contracts and the promises about them. Assumes nothing.
use mathlib.Core.Path.{◌≡◌, refl, sym, ap, ◌∙◌, subst}
use mathlib.Core.Bool.{Bool, true, false, cond}
use mathlib.Core.List.{List, ◌++◌, append-nil}
use Prim.Native.Nat.{ℕ, suc, ◌+◌, ◌*◌, ◌-◌, ◌≤◌, ◌<◌}
use native.Mathlib.Nat.{mul-le-mul_left, mul-le-mul_right}
use native.Mathlib.Numerals.{add-one}
use native.Mathlib.Omega.{arith}
use lib.Dec.{ltb, eqb}
use lib.ListN.{length, take, drop, replicate, length-append, take-append-drop, drop_of_length-le}
use lib.Seq.{take_all, length-take-le}
use borrow.Author.Tests.{lt-ltb, ltb-false, eqb-true}
use Rattle.std.specs.Prelude.{Result, ⊤, IsOk}
use Rattle.refusal.specs.Refusing.{refusal_number, answer_number}
use Rattle.refusal.specs.declared.Refusal.{Refusal}
use Rattle.refusal.proofs.Numbers.{number_some}
use Rattle.xor.specs.Xor.{xors, zeros, bytes_good}
use Rattle.xor.proofs.Laws.{good_take, good_drop}
use Rattle.grid.specs.Grid.{Board, board}
use Rattle.grid.specs.Joining.{over}
use Rattle.grid.proofs.Facts.{board_in}
use Rattle.grid.proofs.Sums.{over_last, over_same}
use Rattle.keys.specs.Keys.{Lent, header, key, key_refusal, head_in, table, deal_refusal, key_long, keys_from, or_else, lent}
use Rattle.keys.specs.Promise.{point_table}
use Rattle.keys.proofs.Accepted.{passed, first_fits, next_fits, neither}
use Rattle.keys.proofs.Dealing.{lent_in}
use Rattle.keys.proofs.Lending.{accepted_lent}
use Rattle.keys.proofs.Numbers.{one_group}
use Rattle.call_answers.specs.Answers.{Answer, answer_told, says, PutSays, key_rule, DealSays, LongSays, OpenOneSays, OpenAllSays}
use Rattle.seed_rows.specs.Rows.{rule}
use Rattle.writer.proofs.Laws.{in_front_part}
use Rattle.promises.specs.Calls.{Dealt, key_part, KeysGood, DealsOpen, OpensAgree, PastKept}
use Rattle.witness.specs.Witness.{piece_refusal, ShowsThePiece, BothWays, keys_lent, table_of, OpensEach, tables_joined, last_table}
use Rattle.call_answers.proofs.Answering.{put_number, put_refused, put_done}
use Rattle.call_answers.proofs.Putting.{answer_is, untouched}
use Rattle.promises.proofs.OpenedKey.{all_answered, all_opened, one_opened, own_table_long}
use Rattle.promises.proofs.DealtKeys.{tables_over}
use Rattle.promises.proofs.DealtCalls.{Left, left, part_is, keys_past}
use Rattle.promises.proofs.Calls.{deals_open, opens_agree}

-- NUMBERS

-- two numbers of 32 bits have a product of 64
pub product_fits : (a b : ℕ) → a < 4294967296 → b < 4294967296 → a * b < 18446744073709551616
product_fits a b h k =
    let most : a ≤ 4294967295 = omega arith in omega (arith, mul-le-mul_right b most)

-- what is asked behind a number counts where that is 0
same_behind : (first next later : ℕ) → (first ≡ 0 → next ≡ later) → or_else first next ≡ or_else first later
unfolding or_else
same_behind first next later same = go (eqb first 0) refl
  where
    go : (t : Bool) → eqb first 0 ≡ t → cond t next first ≡ cond t later first
    go true e = same (eqb-true first 0 e)
    go false e = refl

-- BOTH WAYS

-- Open one was asked for a square, which is the one that is meant
module _ (key : List ℕ) (asked : ℕ) (one one_now : List ℕ) (r : ℕ) (says : OpenOneSays key asked r one one_now) (a : ℕ) (same : asked ≡ a) where
  abbrev room_of : (all : List ℕ) → ℕ
  room_of all = cond (ltb (length all) ((head_in key).board.n * (head_in key).board.w)) 9 0

  says_one : OpenOneSays key a r one one_now
  says_one = subst (λ (k : ℕ). OpenOneSays key k r one one_now) same says

  pub one_refused : (all : List ℕ) → (r ≡ 0 → ⊥) → BothWays key a one all r one_now all
  one_refused all refused =
      record {
        agree = λ z. absurd (refused z);
        first = r;
        opened_one = says_one;
        opened_all = put_number _ r _ all (first_fits r (room_of all) refused) refused;
      }

  pub both_opened : (s : ℕ) (all all_now : List ℕ) → bytes_good key ≡ true → r ≡ 0 → OpenAllSays key s all all_now → BothWays key a one all s one_now all_now
  unfolding OpenAllSays OpensAgree
  both_opened s all all_now good z SaysAll =
      let first : OpenOneSays key a 0 one one_now = subst (λ (k : ℕ). OpenOneSays key a k one one_now) z says_one in
      let accepted = (one_opened key a one one_now first).accepted in
      let behind = next_fits (key_refusal key) (room_of all) accepted ∙ sym (next_fits r (room_of all) z) in
      record {
        agree = λ y. opens_agree key a one one_now all all_now good first (subst (λ (k : ℕ). OpenAllSays key k all all_now) y SaysAll);
        first = r;
        opened_one = says_one;
        opened_all = subst (λ (k : ℕ). PutSays k (table (λ seed. key_rule key seed) key) s all all_now) behind SaysAll;
      }

-- JOINING TABLES

-- before the first key
pub none_joined : (K n size : ℕ) (keys out : List ℕ) → out ≡ replicate n 0 → n ≡ size → out ≡ tables_joined 0 K size keys
unfolding tables_joined over zeros
none_joined K n size keys out e same = e ∙ ap (λ (k : ℕ). replicate k 0) same

module _ (K players size player : ℕ) (keys : List ℕ) (good : bytes_good keys ≡ true) (each : OpensEach keys K players size) (more : player < players) where
  -- the table that Open all leaves of the next key, where it just fits
  next_table : (r : ℕ) (out out_now : List ℕ) → length out ≡ size → OpenAllSays (key_part K player keys) r out out_now →
      (out_now ≡ table_of K keys player) × (length out_now ≡ size)
  unfolding key_part
  next_table r out out_now long says =
      let key = key_part K player keys in
      let accepted = (each.1 player more).0 in
      let sized = (each.1 player more).1 in
      let z = all_answered key r out out_now accepted (omega (arith, sized)) says in
      let called = all_opened key out out_now (subst (λ (k : ℕ). OpenAllSays key k out out_now) z says) in
      let written = table_of K keys player in
      let whole : length written ≡ size = own_table_long key (good_take K (drop (player * K) keys) (good_drop (player * K) keys good)) accepted ∙ sized in
      let now : out_now ≡ written = called.now ∙ rw (drop_of_length-le out {i = length written} (omega arith)) (append-nil written) in
      (now, ap length now ∙ whole)

  -- one turn: Open all answers, and what it leaves is joined
  module _ (out out_now : List ℕ) (long : length out ≡ size) where
    pub turn_opens : (r : Result ⊤ Refusal) →
        OpenAllSays (take (player * K + K - player * K) (drop (player * K) keys)) (answer_number r) out out_now → IsOk r
    unfolding key_part
    turn_opens (Result.Ok u) says = refl
    turn_opens (Result.Err refusal) says =
        let cut : player * K + K - player * K ≡ K = omega arith in
        let given = subst (λ (k : ℕ). OpenAllSays (take k (drop (player * K) keys)) (refusal_number refusal) out out_now) cut says in
        let sized = (each.1 player more).1 in
        absurd (number_some refusal (all_answered (key_part K player keys) _ out out_now (each.1 player more).0 (omega (arith, sized)) given))

    pub turn : (r : ℕ) (tables joined joined_now : List ℕ) →
        OpenAllSays (take (player * K + K - player * K) (drop (player * K) keys)) r out out_now →
        joined ≡ tables_joined player K size keys → joined_now ≡ xors joined (take size out_now) →
        (joined_now ≡ tables_joined (player + 1) K size keys) × (out_now ≡ last_table (player + 1) K keys tables)
    unfolding tables_joined last_table key_part
    turn r tables joined joined_now says so_far now =
        let cut : player * K + K - player * K ≡ K = omega arith in
        let next = next_table r out out_now long (subst (λ (k : ℕ). OpenAllSays (take k (drop (player * K) keys)) r out out_now) cut says) in
        let whole : take size out_now ≡ table_of K keys player = take_all size out_now (omega (arith, next.1)) ∙ next.0 in (
          now ∙ rw (whole, so_far, add-one player) (sym (over_last player 0 size player (λ i. table_of K keys i) (omega arith))),
          rw (add-one player) next.0,
        )

-- ROOM FOR THE KEYS

-- the keys of an accepted dealing have a byte at least
keys_some : (b : Board) (l : Lent) → deal_refusal b l ≡ 0 → 0 < b.p * key_long b
unfolding key_long header
keys_some b l none =
    let players = (board_in b (accepted_lent b l none).sizes.accepted).players_least in
    let one : 0 < key_long b = rw (one_group 0 (omega arith)) (simp length-append (omega arith)) in
    omega (arith, players, mul-le-mul_left b.p one)

-- so Deal lent none of them answers 9
none_lent : (named : ℕ) (short : Bool) → 0 < named → ◌≡◌ {A = ℕ} (cond (ltb 0 named) 9 0) (cond short 9 9)
none_lent named true some = rw (lt-ltb 0 named some)
none_lent named false some = rw (lt-ltb 0 named some)

-- and Deal's 9 is the 9 of all three outputs
room_in_turn : (keys named : ℕ) (table joined : Bool) → 0 < named →
    ◌≡◌ {A = ℕ} (cond (ltb (cond table 0 (cond joined 0 keys)) named) 9 0) (cond (ltb keys named) 9 (cond table 9 (cond joined 9 0)))
room_in_turn keys named true joined some = none_lent named (ltb keys named) some
room_in_turn keys named false true some = none_lent named (ltb keys named) some
room_in_turn keys named false false some = refl

lent_most : (table joined : Bool) (keys : ℕ) → cond table 0 (cond joined 0 keys) ≤ keys
lent_most true joined keys = omega arith
lent_most false true keys = omega arith
lent_most false false keys = omega arith

pub lent_fits : (keys table joined size room : ℕ) → room ≡ keys_lent keys table joined size → room ≤ keys
unfolding keys_lent
lent_fits keys table joined size room e = rw e (lent_most (ltb table size) (ltb joined size) keys)

-- SHOWING THE PIECE

-- Deal as it was asked: lent bytes, a part of the keys, and what it left there
pub record Asked (p n m w point : ℕ) (value arrays seeds words keys tables joined : List ℕ) (r : ℕ) : Type 0 where
  pub value_bytes : bytes_good value ≡ true
  pub seeds_bytes : bytes_good seeds ≡ true
  pub words_bytes : bytes_good words ≡ true
  pub room : ℕ
  pub given : room ≡ keys_lent (length keys) (length tables) (length joined) (n * w)
  pub part : List ℕ
  pub says : DealSays p n m w point value arrays seeds words r (take room keys) part

module _ {p n m w point : ℕ} {value arrays seeds words keys tables joined : List ℕ} {r : ℕ}
    (asked : Asked p n m w point value arrays seeds words keys tables joined r)
  where
    abbrev on : Board
    on = board p n m w

    abbrev l : Lent
    l = lent point value arrays seeds words

    abbrev keys_now : List ℕ
    keys_now = asked.part ++ drop asked.room keys

    -- Deal's number is the number of the whole
    answer : r ≡ piece_refusal on l keys tables joined
    unfolding DealSays piece_refusal keys_lent board
    answer =
        let room = asked.room in
        let long = length-take-le room keys (lent_fits (length keys) (length tables) (length joined) (n * w) room asked.given) in
        answer_is _ (keys_from p 0 on (λ seed. rule on seed) l) r (take room keys) asked.part asked.says
        ∙ same_behind (deal_refusal on l) _ _ (λ none.
        ap (λ (k : ℕ). cond (ltb k (p * key_long on)) 9 0) (long ∙ asked.given)
        ∙ room_in_turn (length keys) (p * key_long on) (ltb (length tables) (n * w)) (ltb (length joined) (n * w)) (keys_some on l none))

    pub deal_refused : (r ≡ 0 → ⊥) → ShowsThePiece on l keys tables joined r keys_now tables joined
    unfolding DealSays
    deal_refused refused =
        let none = untouched _ _ r (take asked.room keys) asked.part asked.says refused in
        let same : keys_now ≡ keys = ap (λ (xs : List ℕ). xs ++ drop asked.room keys) none ∙ take-append-drop asked.room keys in
        record {
          piece = put_number _ r _ joined (sym answer) refused;
          dealt = put_refused _ _ r keys keys_now (λ z. refused (answer ∙ z)) answer same;
          last = put_number _ r _ tables (sym answer) refused;
        }

    module _ (z : r ≡ 0) where
      none : piece_refusal on l keys tables joined ≡ 0
      none = sym answer ∙ z

      pub rooms : (asked.room ≡ length keys) × (n * w ≤ length tables) × (n * w ≤ length joined)
      unfolding piece_refusal keys_lent board
      rooms =
          let rest = (neither (deal_refusal on l) _ none).1 in
          let of_keys = passed (ltb (length keys) (p * key_long on)) 9 _ (λ t e. omega arith) rest in
          let of_tables = passed (ltb (length tables) (n * w)) 9 _ (λ t e. omega arith) of_keys.1 in
          let of_joined = passed (ltb (length joined) (n * w)) 9 0 (λ t e. omega arith) of_tables.1 in
          let lent_all : keys_lent (length keys) (length tables) (length joined) (n * w) ≡ length keys = rw (of_tables.0, of_joined.0) in
          (asked.given ∙ lent_all, ltb-false (length tables) (n * w) of_tables.0, ltb-false (length joined) (n * w) of_joined.0)

      -- Deal was lent all of the keys
      called : DealSays p n m w point value arrays seeds words 0 keys keys_now
      called =
          let whole = take_all asked.room keys (omega (arith, rooms.0)) in
          let past : keys_now ≡ asked.part = rw (drop_of_length-le keys {i = asked.room} (omega (arith, rooms.0))) (append-nil asked.part) in
          rw past (rw (whole, z) at asked.says)

      -- and Key length refuses no board that Deal accepts
      pub length_there : (refusal : Refusal) → LongSays p n m w (answer_told (Result.Err refusal)) → ⊥
      unfolding piece_refusal LongSays says
      length_there refusal said =
          number_some refusal (said.0 ∙ (accepted_lent on l (neither (deal_refusal on l) _ none).0).sizes.accepted)

      module _ (long : Answer) (long_says : LongSays p n m w long) where
        deal : Dealt p n m w point value long keys_now
        deal =
            record {
              arrays = arrays;
              seeds = seeds;
              words = words;
              keys = keys;
              value_bytes = asked.value_bytes;
              seeds_bytes = asked.seeds_bytes;
              words_bytes = asked.words_bytes;
              long_says = long_says;
              deal_says = called;
            }

        promised : KeysGood p n m w point value long keys_now
        unfolding DealsOpen
        promised = deals_open p n m w point value long keys_now deal

        dealt_keys : Left on l long keys keys_now
        unfolding deal
        dealt_keys = left p n m w point value long keys_now deal

        keys_fit : p * long.value ≤ length keys_now
        unfolding PastKept board
        keys_fit =
            let whole = (keys_past on l long keys keys_now dealt_keys).0 in
            let given : p * long.value ≡ p * key_long on = ap (λ (k : ℕ). p * k) dealt_keys.long_is in omega (arith, whole, dealt_keys.room)

        -- so every key opens into a table that just fits
        pub each_opens : (table_long joined_long : ℕ) → table_long ≡ n * w → joined_long ≡ n * w →
            OpensEach keys_now long.value p table_long × (joined_long ≡ table_long)
        unfolding board
        each_opens table_long joined_long t j = (
          (
            keys_fit,
            λ i inside.
                let key = promised.accepted i inside in
                (key.accepted.none, ap (λ (b : Board). b.n * b.w) key.accepted.board_is ∙ sym t),
          ),
          j ∙ sym t,
        )

        -- a player's own table
        abbrev own : (i : ℕ) → List ℕ
        own i = table (λ seed. rule on seed) (key on (λ seed. rule on seed) l i)

        -- is what Open all writes of the key
        own_table : (i : ℕ) → i < p → table_of long.value keys_now i ≡ own i
        unfolding key_rule board
        own_table i inside =
            let k = key_part long.value i keys_now in
            ap (λ (b : Board). table (λ seed. rule b seed) k) (promised.accepted i inside).accepted.board_is
            ∙ ap (λ (ks : List ℕ). table (λ seed. rule on seed) ks) (part_is on l long keys keys_now dealt_keys i inside)

        joined_tables : tables_joined p long.value (n * w) keys_now ≡ point_table on point value
        unfolding tables_joined board
        joined_tables =
            over_same p 0 (n * w) (λ i. table_of long.value keys_now i) (λ i. own i) (λ i _ inside. own_table i (omega arith))
            ∙ tables_over on l dealt_keys.accepted

        last_of : (i : ℕ) (ts : List ℕ) → p ≡ suc i → last_table p long.value keys_now ts ≡ own i
        unfolding last_table
        last_of i ts e = ap (λ (k : ℕ). last_table k long.value keys_now ts) e ∙ own_table i (omega arith)

        -- so the piece is shown
        pub piece_shown : (table_long : ℕ) (back front : List ℕ) → table_long ≡ n * w → length back ≡ n * w → length front ≡ n * w →
            front ≡ tables_joined p long.value table_long keys_now → back ≡ last_table p long.value keys_now (take (n * w) tables) →
            ShowsThePiece on l keys tables joined 0 keys_now (back ++ drop (n * w) tables) (front ++ drop (n * w) joined)
        unfolding board
        piece_shown table_long back front sized back_long front_long joins leaves =
            let players = (lent_in on l dealt_keys.accepted).board.players_least in
            let piece = joins ∙ ap (λ (k : ℕ). tables_joined p long.value k keys_now) sized ∙ joined_tables in
            record {
              piece = put_done _ _ 0 joined _ none refl (in_front_part _ front joined (n * w) front_long piece);
              dealt = put_done _ _ 0 keys keys_now none refl dealt_keys.now;
              last = put_done _ _ 0 tables _ none refl
                  (in_front_part _ back tables (n * w) back_long (leaves ∙ last_of _ (take (n * w) tables) (omega (arith, players))));
            }
