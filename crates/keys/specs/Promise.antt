-- What is promised of keys and of their tables, for all players, positions, grid widths and value widths at once. Each statement is a type;
-- proofs/Promise.antt has a term of it under its name in small letters. Document 03's statements stand word for word but for `RuleGood`,
-- which is asked here of 32-byte seeds of bytes only, so that each statement says more; document 03's own are in Document03.antt.
-- Quotations are document 01's. Assumes nothing.
use Rattle.std.specs.Prelude.{◌≡◌, Bool, true, ◌&&◌, cond, List, [], ◌∷◌, ◌++◌, ◌↔◌, ℕ, suc, ◌*◌, ◌-◌, ◌/◌, ◌<◌, eqb, length, take, drop}
use Rattle.xor.specs.Xor.{zeros, bytes_good}
use Rattle.grid.specs.Grid.{Board, columns, grid_rows, row_long, Dealing, dealing_good, share, joined_from, Held, held, marks_of, held_rows, all_words, unheld}
use Rattle.grid.specs.Hiding.{SameForOthers, chosen_good_elsewhere}
use Rattle.grid.specs.Joining.{over}
use Rattle.keys.specs.Keys.{Lent, dealing, key, keys_from, key_long, deal_refusal, key_refusal, opened, table, head_in, header, Parts, parts_in, key_written, words_from}

-- "a row rule gives each 32-byte seed some μ × w bytes": nothing is asked of it on other lists
unfoldable pub RuleGood : Board → (List ℕ → List ℕ) → Type 0
RuleGood b f =
    (seed : List ℕ) → length seed ≡ 32 → bytes_good seed ≡ true → (length (f seed) ≡ row_long b) × (bytes_good (f seed) ≡ true)

-- "a dealing is accepted when none of Deal's numbers fits", and what is lent are bytes
unfoldable pub lent_good : Board → Lent → Bool
lent_good b l =
    eqb (deal_refusal b l) 0 && ((bytes_good l.value && bytes_good l.seeds) && bytes_good l.words)

-- THE SECOND DEMAND: a key is one writing of its header numbers and parts

-- the header read is the header that writes its numbers, and the rest of the key stands behind it
unfoldable pub HeaderReads : Type 0
HeaderReads =
    (ks : List ℕ) → bytes_good ks ≡ true → (head_in ks).good ≡ true →
    ks ≡ header (head_in ks).board (head_in ks).player ++ (head_in ks).rest

-- "the key it gives a player has the parts of a dealt key": its marks, the seeds of its marked columns, all words
unfoldable pub dealt_parts : Board → (List ℕ → List ℕ) → Lent → (player : ℕ) → Parts
dealt_parts b f l i =
    record {
      marks = marks_of i l.arrays;
      seeds = held_rows i l.arrays (words_from (grid_rows b * columns b) 32 l.seeds);
      words = all_words b (dealing b f l);
    }

-- a dealt key is read as the parts dealt
unfoldable pub ReadsParts : Type 0
ReadsParts =
    (b : Board) (f : List ℕ → List ℕ) (l : Lent) (i : ℕ) → lent_good b l ≡ true → RuleGood b f → i < b.p →
    (parts_in (key b f l i) ≡ dealt_parts b f l i) × ((head_in (key b f l i)).board ≡ b) × ((head_in (key b f l i)).player ≡ i)

-- an accepted key is the writing of its parts
unfoldable pub OnlyWriting : Type 0
OnlyWriting =
    (ks : List ℕ) → key_refusal ks ≡ 0 → bytes_good ks ≡ true → ks ≡ key_written (head_in ks).board (head_in ks).player (parts_in ks)

-- so two accepted keys with the same header numbers and parts are the same key
unfoldable pub SameParts : Type 0
SameParts =
    (ks ls : List ℕ) → key_refusal ks ≡ 0 → key_refusal ls ≡ 0 → bytes_good ks ≡ true → bytes_good ls ≡ true →
    (head_in ks).board ≡ (head_in ls).board → (head_in ks).player ≡ (head_in ls).player → parts_in ks ≡ parts_in ls → ks ≡ ls

-- a dealt key is accepted, and has the length that Key length gives
unfoldable pub DealtAccepted : Type 0
DealtAccepted =
    (b : Board) (f : List ℕ → List ℕ) (l : Lent) (i : ℕ) → lent_good b l ≡ true → RuleGood b f → i < b.p →
    (key_refusal (key b f l i) ≡ 0) × (length (key b f l i) ≡ key_long b) × (bytes_good (key b f l i) ≡ true)

-- "Deal's p × K bytes"
unfoldable pub KeysLong : Type 0
KeysLong =
    (b : Board) (f : List ℕ → List ℕ) (l : Lent) → lent_good b l ≡ true → RuleGood b f →
    (length (keys_from b.p 0 b f l) ≡ b.p * key_long b) × (bytes_good (keys_from b.p 0 b f l) ≡ true)

-- "cut after every K": the i-th K bytes of what Deal writes are player i's key
unfoldable pub KeysApart : Type 0
KeysApart =
    (b : Board) (f : List ℕ → List ℕ) (l : Lent) (i : ℕ) → lent_good b l ≡ true → RuleGood b f → i < b.p →
    take (key_long b) (drop (i * key_long b) (keys_from b.p 0 b f l)) ≡ key b f l i

-- THE THIRD DEMAND

-- "entry a of a table is the w bytes from a × w on"
unfoldable pub entry : Board → List ℕ → (a : ℕ) → List ℕ
entry b ts a = take b.w (drop (a * b.w) ts)

-- a full table of an accepted key has N × w bytes
unfoldable pub TableLong : Type 0
TableLong =
    (f : List ℕ → List ℕ) (ks : List ℕ) → key_refusal ks ≡ 0 → bytes_good ks ≡ true → RuleGood (head_in ks).board f →
    (length (table f ks) ≡ (head_in ks).board.n * (head_in ks).board.w) × (bytes_good (table f ks) ≡ true)

-- every accepted key, dealt or not, opens a square alone as that entry of its own full table
unfoldable pub OpensAlone : Type 0
OpensAlone =
    (f : List ℕ → List ℕ) (ks : List ℕ) (a : ℕ) → key_refusal ks ≡ 0 → bytes_good ks ≡ true → RuleGood (head_in ks).board f → a < (head_in ks).board.n →
    entry (head_in ks).board (table f ks) a ≡ opened f ks a

-- a dealt key opens as the dealing's share
unfoldable pub KeysOpen : Type 0
KeysOpen =
    (b : Board) (f : List ℕ → List ℕ) (l : Lent) (i a : ℕ) → lent_good b l ≡ true → RuleGood b f → i < b.p → a < b.n →
    (key_refusal (key b f l i) ≡ 0) × (length (key b f l i) ≡ key_long b) × (opened f (key b f l i) a ≡ share b (dealing b f l) i a)

-- all players' shares XOR to the value on the point's square and to zero elsewhere, under every rule
unfoldable pub TablesJoin : Type 0
TablesJoin =
    (b : Board) (f : List ℕ → List ℕ) (l : Lent) (a : ℕ) → lent_good b l ≡ true → RuleGood b f → a < b.n →
    joined_from b.p 0 b (dealing b f l) a ≡ cond (eqb a l.point) l.value (zeros b.w)

-- a table with a value at a point and zeros elsewhere
unfoldable pub point_table : Board → (point : ℕ) → (value : List ℕ) → List ℕ
point_table b a v = zeros (a * b.w) ++ v ++ zeros ((b.n - suc a) * b.w)

-- all players' full tables XOR to the table with the value at the point and zeros elsewhere, under every rule
unfoldable pub FullTablesJoin : Type 0
FullTablesJoin =
    (b : Board) (f : List ℕ → List ℕ) (l : Lent) → lent_good b l ≡ true → RuleGood b f →
    over b.p 0 (b.n * b.w) (λ i. table f (key b f l i)) ≡ point_table b l.point l.value

-- HIDING IS SAID OF KEYS: what is promised of freely drawn dealings (Hiding.antt of the crate grid) is promised of the dealings whose keys Deal writes

-- an accepted dealing is, under every rule, a freely drawn dealing of its board
unfoldable pub AcceptedIsDrawn : Type 0
AcceptedIsDrawn =
    (b : Board) (f : List ℕ → List ℕ) (l : Lent) → lent_good b l ≡ true → RuleGood b f → dealing_good b (dealing b f l) ≡ true

-- the rows that a rule makes of seeds
unfoldable pub rows_of : (rule : List ℕ → List ℕ) → (seeds : List (List ℕ)) → List (List ℕ)
rows_of f [] = []
rows_of f (seed ∷ seeds) = f seed ∷ rows_of f seeds

-- a key as what its player holds: its marks, its words, and the rule's rows for its seeds
unfoldable pub held_in : (rule : List ℕ → List ℕ) → (key : List ℕ) → Held
held_in f ks =
    record { marks = (parts_in ks).marks; rows = rows_of f (parts_in ks).seeds; words = (parts_in ks).words }

-- what an accepted dealing gives a player is what that player's dealt key is read as
unfoldable pub HeldIsRead : Type 0
HeldIsRead =
    (b : Board) (f : List ℕ → List ℕ) (l : Lent) (i : ℕ) → lent_good b l ≡ true → RuleGood b f → i < b.p →
    held b (dealing b f l) i ≡ held_in f (key b f l i)

-- two keys agree under a rule: in marks, in words and in rows; "rows" is what the rule makes of the held seeds, which may differ
pub record Agree (rule : List ℕ → List ℕ) (ks ls : List ℕ) : Type 0 where
  pub marks : (parts_in ks).marks ≡ (parts_in ls).marks
  pub words : (parts_in ks).words ≡ (parts_in ls).words
  pub rows : rows_of rule (parts_in ks).seeds ≡ rows_of rule (parts_in ls).seeds

-- so the keys that a player gets from two accepted dealings of one board agree exactly when the dealings give that player the same
unfoldable pub SameKeys : Type 0
SameKeys =
    (b : Board) (f : List ℕ → List ℕ) (l m : Lent) (i : ℕ) → lent_good b l ≡ true → lent_good b m ≡ true → RuleGood b f → i < b.p →
    Agree f (key b f l i) (key b f m i) ↔ (held b (dealing b f l) i ≡ held b (dealing b f m) i)

-- and "gives everybody else the same keys" is just that: with one player left out, the keys of everybody else agree
unfoldable pub SameKeysForOthers : Type 0
SameKeysForOthers =
    (b : Board) (f : List ℕ → List ℕ) (l m : Lent) (i : ℕ) → lent_good b l ≡ true → lent_good b m ≡ true → RuleGood b f →
    ((k : ℕ) → k < b.p → (k ≡ i → ⊥) → Agree f (key b f l k) (key b f m k)) ↔ SameForOthers b i (dealing b f l) (dealing b f m)

-- a freely drawn dealing of a named point, value and unheld rows that gives everybody but player i what that player's dealt key is read as
pub record FitsKeys (b : Board) (f : List ℕ → List ℕ) (l : Lent) (i point : ℕ) (value : List ℕ) (chosen : ℕ → List ℕ) (e : Dealing) : Type 0 where
  pub good : dealing_good b e ≡ true
  pub point_is : e.point ≡ point
  pub value_is : e.value ≡ value
  pub rows_are : (g : ℕ) → g < grid_rows b → (g ≡ point / b.wide → ⊥) → unheld b e i g ≡ chosen g
  pub others : (k : ℕ) → k < b.p → (k ≡ i → ⊥) → held b e k ≡ held_in f (key b f l k)

-- THE KEYS TELL NOTHING: of the keys that an accepted dealing gives all players but one, under every rule, whatever point, value and unheld rows
-- are named, just one freely drawn dealing has these and fits those keys
unfoldable pub KeysTellNothing : Type 0
KeysTellNothing =
    (b : Board) (f : List ℕ → List ℕ) (l : Lent) (i point : ℕ) (value : List ℕ) (c : ℕ → List ℕ) → lent_good b l ≡ true → RuleGood b f →
    i < b.p → point < b.n → length value ≡ b.w → bytes_good value ≡ true → chosen_good_elsewhere b point c →
    (e : Dealing) × FitsKeys b f l i point value c e × ((other : Dealing) → FitsKeys b f l i point value c other → other ≡ e)
