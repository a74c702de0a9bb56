-- The promises of specs/Promise.antt, each under its statement's name in small letters. Assumes nothing.
use mathlib.Core.Path.{◌≡◌, refl, sym, ap, ◌∙◌, subst}
use mathlib.Core.Bool.{Bool, true, false, cond}
use mathlib.Core.List.{List, [], ◌∷◌, ◌++◌, append_assoc}
use Prim.Native.Nat.{ℕ, zero, suc, ◌+◌, ◌*◌, ◌-◌, ◌≤◌, ◌<◌}
use native.Mathlib.Omega.{arith}
use lib.Dec.{eqb}
use lib.ListN.{take, drop}
use borrow.Author.Tests.{eq-eqb, ne_eqb}
use Rattle.xor.specs.Xor.{zeros, bytes_good}
use Rattle.xor.proofs.Laws.{Word, word_xors, word_zeros}
use Rattle.grid.specs.Grid.{Board, columns, grid_rows, bit, Dealing, share, joined_from, Held, held, held_rows, marks_of, all_words}
use Rattle.grid.specs.Hiding.{SameForOthers, Named, JustOneDealing}
use Rattle.grid.specs.Joining.{over, SharesJoin}
use Rattle.grid.proofs.Facts.{dealing_accepted}
use Rattle.grid.proofs.Hiding.{just_one_dealing}
use Rattle.grid.proofs.Joining.{shares_join}
use Rattle.keys.specs.Keys.{Lent, dealing, key, keys_from, key_long, key_refusal, head_in, opened, rows_from, words_from}
use Rattle.keys.specs.Keys.{parts_of, parts_in, key_written, share_by_parts, table}
use Rattle.keys.specs.Promise.{RuleGood, lent_good, dealt_parts, entry, point_table, rows_of, held_in, Agree, FitsKeys}
use Rattle.keys.specs.Promise.{HeaderReads, ReadsParts, OnlyWriting, SameParts, DealtAccepted, KeysLong, KeysApart}
use Rattle.keys.specs.Promise.{TableLong, OpensAlone, KeysOpen, TablesJoin, FullTablesJoin}
use Rattle.keys.specs.Promise.{AcceptedIsDrawn, HeldIsRead, SameKeys, SameKeysForOthers, KeysTellNothing}
use Rattle.writer.specs.InARow.{in_a_row}
use Rattle.writer.proofs.InARow.{row_same, row_at, row_split}
use Rattle.keys.proofs.Lists.{row_word, row_xors, row_zeros}
use Rattle.keys.proofs.Numbers.{header_again}
use Rattle.keys.proofs.Accepted.{KeyIn, key_in, key_accepted, body_in, body_parts, PartsGood, key_again, written_head, written_key, written_long, written_good, written_reads}
use Rattle.keys.proofs.Opening.{share_word, table_row, table_word, table_at, opened_part_is}
use Rattle.keys.proofs.Dealing.{LentIn, lent_in, dealing_facts, key_is, dealt_good, dealt_share}

-- THE SECOND DEMAND

pub header_reads : HeaderReads
unfolding HeaderReads
header_reads ks g h = header_again ks g h

pub only_writing : OnlyWriting
unfolding OnlyWriting
only_writing ks r g = key_again ks r g

pub same_parts : SameParts
unfolding SameParts OnlyWriting
same_parts ks ls r s g h board player parts =
    only_writing ks r g ∙ rw (board, player, parts) (sym (only_writing ls s h))

-- a dealt key is the writing of good parts
module _ (b : Board) (f : List ℕ → List ℕ) (l : Lent) (i : ℕ) (lent : lent_good b l ≡ true) (rule : RuleGood b f) (h : i < b.p) where
  dealt : LentIn b l
  dealt = lent_in b l lent

  good : PartsGood b (dealt_parts b f l i)
  good = dealt_good b f l i rule dealt h

  is_written : key b f l i ≡ key_written b i (dealt_parts b f l i)
  is_written = key_is b f l i dealt h

  pub dealt_board : (head_in (key b f l i)).board ≡ b
  dealt_board = rw (is_written, written_head b i dealt.board h (dealt_parts b f l i) good)

  pub dealt_player : (head_in (key b f l i)).player ≡ i
  dealt_player = rw (is_written, written_head b i dealt.board h (dealt_parts b f l i) good)

  pub dealt_reads : parts_in (key b f l i) ≡ dealt_parts b f l i
  dealt_reads = rw is_written (written_reads b i dealt.board h (dealt_parts b f l i) good)

  pub dealt_key : KeyIn (key b f l i)
  dealt_key = rw is_written (written_key b i dealt.board h (dealt_parts b f l i) good)

  pub dealt_word : Word (key_long b) (key b f l i)
  dealt_word =
      rw is_written
      (record {
        long = written_long b i dealt.board h (dealt_parts b f l i) good;
        good = written_good b i dealt.board h (dealt_parts b f l i) good;
      })

pub reads_parts : ReadsParts
unfolding ReadsParts
reads_parts b f l i lent rule h =
    (dealt_reads b f l i lent rule h, dealt_board b f l i lent rule h, dealt_player b f l i lent rule h)

pub dealt_accepted : DealtAccepted
unfolding DealtAccepted
dealt_accepted b f l i lent rule h =
    let word = dealt_word b f l i lent rule h in
    (key_accepted (key b f l i) (dealt_key b f l i lent rule h), word.long, word.good)

-- what Deal writes is the keys in a row
pub keys_row : (k i : ℕ) (b : Board) (f : List ℕ → List ℕ) (l : Lent) → keys_from k i b f l ≡ in_a_row k i (key b f l)
unfolding keys_from in_a_row
keys_row zero i b f l = refl
keys_row (suc k) i b f l = ap (λ (ks : List ℕ). key b f l i ++ ks) (keys_row k (suc i) b f l)

pub keys_long : KeysLong
unfolding KeysLong
keys_long b f l lent rule =
    let word = row_word (key_long b) b.p 0 (key b f l) (λ i p q. dealt_word b f l i lent rule (omega arith)) in
    rw (keys_row b.p 0 b f l) ((word.long, word.good))

pub keys_apart : KeysApart
unfolding KeysApart
keys_apart b f l i lent rule h =
    let here : 0 + i ≡ i = omega arith in
    rw (keys_row b.p 0 b f l)
    (row_at (key_long b) b.p 0 i (key b f l) (λ j p q. (dealt_word b f l j lent rule (omega arith)).long) h
    ∙ ap (λ (n : ℕ). key b f l n) here)

-- THE THIRD DEMAND

pub table_long : TableLong
unfolding TableLong table parts_in
table_long f ks r g rule =
    let k = key_in ks r in
    let b = (head_in ks).board in
    let rest = (head_in ks).rest in
    let word = table_word b f (parts_of b rest) k.board rule (body_parts b rest k.board (body_in ks g k)) in
    (word.long, word.good)

-- a square of an accepted key opens as the share by its parts
pub opens_by_parts : (f : List ℕ → List ℕ) (ks : List ℕ) (a : ℕ) → key_refusal ks ≡ 0 → bytes_good ks ≡ true → a < (head_in ks).board.n →
    opened f ks a ≡ share_by_parts (head_in ks).board f (parts_in ks) a
unfolding opened parts_in
opens_by_parts f ks a r g h =
    let k = key_in ks r in
    opened_part_is (head_in ks).board f (head_in ks).rest a k.board (body_in ks g k) h

pub opens_alone : OpensAlone
unfolding OpensAlone entry table parts_in
opens_alone f ks a r g rule h =
    let k = key_in ks r in
    let b = (head_in ks).board in
    let rest = (head_in ks).rest in
    table_at b f (parts_of b rest) a k.board rule (body_parts b rest k.board (body_in ks g k)) h ∙ sym (opens_by_parts f ks a r g h)

-- dealt keys, their shares and tables
module _ (b : Board) (f : List ℕ → List ℕ) (l : Lent) (lent : lent_good b l ≡ true) (rule : RuleGood b f) where
  -- a dealt key's table is the dealing's shares in a row
  pub dealt_table : (i : ℕ) → i < b.p → table f (key b f l i) ≡ in_a_row b.n 0 (share b (dealing b f l) i)
  unfolding table
  dealt_table i h =
      rw (dealt_reads b f l i lent rule h, dealt_board b f l i lent rule h)
      (table_row b.n 0 b f (dealt_parts b f l i)
      ∙ row_same b.n 0 (share_by_parts b f (dealt_parts b f l i)) (share b (dealing b f l) i)
      (λ a p q. dealt_share b f l i a (lent_in b l lent) h (omega arith)))

  pub dealt_share_word : (i a : ℕ) → i < b.p → a < b.n → Word b.w (share b (dealing b f l) i a)
  dealt_share_word i a h p =
      let t = lent_in b l lent in
      subst (λ (xs : List ℕ). Word b.w xs) (dealt_share b f l i a t h p)
      (share_word b f (dealt_parts b f l i) a t.board rule (dealt_good b f l i rule t h) p)

  joined_word : (k i a : ℕ) → i + k ≤ b.p → a < b.n → Word b.w (joined_from k i b (dealing b f l) a)
  unfolding joined_from
  joined_word zero i a h p = word_zeros b.w
  joined_word (suc k) i a h p =
      word_xors (share b (dealing b f l) i a) (joined_from k (suc i) b (dealing b f l) a) (dealt_share_word i a (omega arith) p)
      (joined_word k (suc i) a (omega arith) p)

  -- the XOR of tables is the joined shares in a row
  joined_row : (k i : ℕ) → i + k ≤ b.p → over k i (b.n * b.w) (λ j. table f (key b f l j)) ≡ in_a_row b.n 0 (joined_from k i b (dealing b f l))
  unfolding over joined_from
  joined_row zero i h = sym (row_zeros b.w b.n 0)
  joined_row (suc k) i h =
      rw (dealt_table i (omega arith), joined_row k (suc i) (omega arith))
      (row_xors b.w b.n 0 (share b (dealing b f l) i) (joined_from k (suc i) b (dealing b f l))
      (λ a p q. ((dealt_share_word i a (omega arith) (omega arith)).long, (joined_word k (suc i) a (omega arith) (omega arith)).long)))

pub keys_open : KeysOpen
unfolding KeysOpen DealtAccepted
keys_open b f l i a lent rule h p =
    let accepted = dealt_accepted b f l i lent rule h in
    let board = dealt_board b f l i lent rule h in
    let opens = opens_by_parts f (key b f l i) a accepted.0 accepted.2 (rw board p) in
    (accepted.0, accepted.1, opens ∙ rw (board, dealt_reads b f l i lent rule h) (dealt_share b f l i a (lent_in b l lent) h p))

pub accepted_is_drawn : AcceptedIsDrawn
unfolding AcceptedIsDrawn
accepted_is_drawn b f l lent rule = dealing_accepted b (dealing b f l) (dealing_facts b f l rule (lent_in b l lent))

pub tables_join : TablesJoin
unfolding TablesJoin SharesJoin AcceptedIsDrawn dealing
tables_join b f l a lent rule h = shares_join b (dealing b f l) a (accepted_is_drawn b f l lent rule) h

-- a value at a point and zeros elsewhere, entry by entry
pub point_row : (b : Board) (point : ℕ) (value : List ℕ) → point < b.n →
    in_a_row b.n 0 (λ a. cond (eqb a point) value (zeros b.w)) ≡ point_table b point value
unfolding point_table in_a_row
point_row b point value h =
    let F : ℕ → List ℕ = (λ a. cond (eqb a point) value (zeros b.w)) in
    let behind = b.n - suc point in
    let squares : b.n ≡ point + suc behind = omega arith in
    let here : 0 + point ≡ point = omega arith in
    let none : ℕ → List ℕ = (λ a. zeros b.w) in
    let front = row_same point 0 F none (λ a p q. rw (ne_eqb a point (omega arith))) ∙ row_zeros b.w point 0 in
    let back = row_same behind (suc point) F none (λ a p q. rw (ne_eqb a point (omega arith))) ∙ row_zeros b.w behind (suc point) in
    ap (λ (m : ℕ). in_a_row m 0 F) squares ∙ row_split point (suc behind) 0 F
    ∙ rw (front, here, eq-eqb point point refl, back) (sym (append_assoc (zeros (point * b.w)) value (zeros (behind * b.w))))

pub full_tables_join : FullTablesJoin
unfolding FullTablesJoin TablesJoin
full_tables_join b f l lent rule =
    joined_row b f l lent rule b.p 0 (omega arith)
    ∙ row_same b.n 0 (joined_from b.p 0 b (dealing b f l)) (λ a. cond (eqb a l.point) l.value (zeros b.w))
    (λ a p q. tables_join b f l a lent rule (omega arith))
    ∙ point_row b l.point l.value (lent_in b l lent).point

-- HIDING, SAID OF KEYS

-- the rows made of seeds are the rows of these seeds
rows_are : (k : ℕ) (f : List ℕ → List ℕ) (ss : List ℕ) → rows_from k f ss ≡ rows_of f (words_from k 32 ss)
unfolding rows_from rows_of words_from
rows_are zero f ss = refl
rows_are (suc k) f ss = ap (λ (rs : List (List ℕ)). f (take 32 ss) ∷ rs) (rows_are k f (drop 32 ss))

-- and those that a player holds are the rows of the seeds that the player holds
held_of : (i : ℕ) (f : List ℕ → List ℕ) (cs : List ℕ) (ss : List (List ℕ)) → held_rows i cs (rows_of f ss) ≡ rows_of f (held_rows i cs ss)
unfolding held_rows rows_of
held_of i f [] ss = refl
held_of i f (c ∷ cs) [] = refl
held_of i f (c ∷ cs) (s ∷ ss) = go (bit c i) (held_of i f cs ss)
  where
    go : (t : Bool) → held_rows i cs (rows_of f ss) ≡ rows_of f (held_rows i cs ss) →
        cond t (f s ∷ held_rows i cs (rows_of f ss)) (held_rows i cs (rows_of f ss)) ≡ rows_of f (cond t (s ∷ held_rows i cs ss) (held_rows i cs ss))
    go true e = ap (λ (rs : List (List ℕ)). f s ∷ rs) e
    go false e = e

pub held_is_read : HeldIsRead
unfolding HeldIsRead held held_in dealing dealt_parts
held_is_read b f l i lent rule h =
    let cells = grid_rows b * columns b in
    rw (dealt_reads b f l i lent rule h)
    (ap (λ (rs : List (List ℕ)). record { marks = marks_of i l.arrays; rows = rs; words = all_words b (dealing b f l) })
    (ap (held_rows i l.arrays) (rows_are cells f l.seeds) ∙ held_of i f l.arrays (words_from cells 32 l.seeds)))

-- keys that agree are held alike, and keys that are held alike agree
agree_held : (f : List ℕ → List ℕ) (ks ls : List ℕ) → Agree f ks ls → held_in f ks ≡ held_in f ls
unfolding held_in
agree_held f ks ls a = λ t. record { marks = a.marks t; rows = a.rows t; words = a.words t }

held_agree : (f : List ℕ → List ℕ) (ks ls : List ℕ) → held_in f ks ≡ held_in f ls → Agree f ks ls
unfolding held_in
held_agree f ks ls e =
    record { marks = ap (λ (h : Held). h.marks) e; words = ap (λ (h : Held). h.words) e; rows = ap (λ (h : Held). h.rows) e }

pub same_keys : SameKeys
unfolding SameKeys HeldIsRead
same_keys b f l m i first second rule h =
    let one = held_is_read b f l i first rule h in
    let other = held_is_read b f m i second rule h in
    (λ a. one ∙ agree_held f (key b f l i) (key b f m i) a ∙ sym other, λ e. held_agree f (key b f l i) (key b f m i) (sym one ∙ e ∙ other))

pub same_keys_for_others : SameKeysForOthers
unfolding SameKeysForOthers SameKeys SameForOthers
same_keys_for_others b f l m i first second rule = (
  λ agree k h other. (same_keys b f l m k first second rule h).0 (agree k h other),
  λ same k h other. (same_keys b f l m k first second rule h).1 (same k h other),
)

-- a dealing that looks the same to everybody but one fits their keys, and the other way round
module _ (b : Board) (f : List ℕ → List ℕ) (l : Lent) (i point : ℕ) (value : List ℕ) (c : ℕ → List ℕ) (lent : lent_good b l ≡ true) (rule : RuleGood b f)
    (e : Dealing)
  where
    fits_keys : Named b i (dealing b f l) point value c e → FitsKeys b f l i point value c e
    unfolding SameForOthers HeldIsRead
    fits_keys n =
        record {
          good = n.good;
          point_is = n.point_is;
          value_is = n.value_is;
          rows_are = n.rows_are;
          others = λ k h other. sym (n.others k h other) ∙ held_is_read b f l k lent rule h;
        }

    named_so : FitsKeys b f l i point value c e → Named b i (dealing b f l) point value c e
    unfolding SameForOthers HeldIsRead
    named_so n =
        record {
          good = n.good;
          point_is = n.point_is;
          value_is = n.value_is;
          rows_are = n.rows_are;
          others = λ k h other. held_is_read b f l k lent rule h ∙ sym (n.others k h other);
        }

pub keys_tell_nothing : KeysTellNothing
unfolding KeysTellNothing JustOneDealing AcceptedIsDrawn
keys_tell_nothing b f l i point value c lent rule player inside long good chosen =
    let one = just_one_dealing b i point (dealing b f l) value c (accepted_is_drawn b f l lent rule) player inside long good chosen in (
      one.0,
      fits_keys b f l i point value c lent rule one.0 one.1,
      λ other fits. one.2 other (named_so b f l i point value c lent rule other fits),
    )
