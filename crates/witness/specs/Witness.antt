-- What the witnesses promise: `ShowsThePiece` and `BothWays`. Each says the number and every lent byte afterwards,
-- of refused calls too. The numbers are those of the calls. Assumes nothing: these are definitions.
use Rattle.std.specs.Prelude.{◌≡◌, cond, List, ℕ, zero, suc, ◌*◌, ◌-◌, ◌≤◌, ◌<◌, ltb, length, take}
use Rattle.grid.specs.Grid.{Board}
use Rattle.grid.specs.Joining.{over}
use Rattle.keys.specs.Keys.{Lent, deal_refusal, key, keys_from, key_long, key_refusal, head_in, table, or_else}
use Rattle.keys.specs.Promise.{entry, point_table}
use Rattle.call_answers.specs.Answers.{key_rule, PutSays, OpenOneSays}
use Rattle.seed_rows.specs.Rows.{rule}
use Rattle.promises.specs.Calls.{key_part}

-- of a board, what Deal is lent for it, and three outputs as they were
module _ (b : Board) (l : Lent) (keys tables joined : List ℕ) where
  -- refused as Deal is, then by 9 where an output is short
  unfoldable pub piece_refusal : ℕ
  piece_refusal =
      or_else (deal_refusal b l)
      (cond (ltb (length keys) (b.p * key_long b)) 9
      (cond (ltb (length tables) (b.n * b.w)) 9 (cond (ltb (length joined) (b.n * b.w)) 9 0)))

  -- THE PIECE IS SHOWN, AND NOTHING ELSE. A refused call leaves all lent bytes unchanged; after an accepted one the
  -- outputs have in front
  pub record ShowsThePiece (r : ℕ) (keys_now tables_now joined_now : List ℕ) : Type 0 where
    -- the table with the value at the point and zeros on every other square
    pub piece : PutSays piece_refusal (point_table b l.point l.value) r joined joined_now
    -- the keys of all players, as Deal writes them
    pub dealt : PutSays piece_refusal (keys_from b.p 0 b (λ seed. rule b seed) l) r keys keys_now
    -- the last player's own table, as Open all writes it
    pub last : PutSays piece_refusal (table (λ seed. rule b seed) (key b (λ seed. rule b seed) l (b.p - 1)))
        r tables tables_now

-- BOTH WAYS AGREE, of a key, a square of it, and two outputs as they were
pub record BothWays (key : List ℕ) (a : ℕ) (one all : List ℕ) (r : ℕ) (one_now all_now : List ℕ) : Type 0 where
  -- where the call answers 0, the square's bytes are that entry of the table
  pub agree : r ≡ 0 → take (head_in key).board.w one_now ≡ entry (head_in key).board all_now a
  -- Open one's number, and what it leaves in the first
  pub first : ℕ
  pub opened_one : OpenOneSays key a first one one_now
  -- then 9 where the second is short; it has the whole table in front where the call answers 0, and is else unchanged
  pub opened_all : PutSays
      (or_else first (cond (ltb (length all) ((head_in key).board.n * (head_in key).board.w)) 9 0))
      (table (λ seed. key_rule key seed) key) r all all_now

-- INSIDE `deal_open_join`

-- how many bytes of the keys Deal is lent: all, or none where a table has no room
unfoldable pub keys_lent : (keys_room table_room joined_room size : ℕ) → ℕ
keys_lent k t j size = cond (ltb t size) 0 (cond (ltb j size) 0 k)

-- what Open all writes of the i-th of some keys
abbrev pub table_of : (K : ℕ) → (keys : List ℕ) → (i : ℕ) → List ℕ
table_of K ks i = table (λ seed. key_rule (key_part K i ks) seed) (key_part K i ks)

-- keys one after another, each accepted and with a table of this size
abbrev pub OpensEach : (keys : List ℕ) → (K players size : ℕ) → Type 0
OpensEach ks K p size =
    (p * K ≤ length ks)
    × ((i : ℕ) → i < p → (key_refusal (key_part K i ks) ≡ 0)
    × ((head_in (key_part K i ks)).board.n * (head_in (key_part K i ks)).board.w ≡ size))

-- the XOR of what Open all writes of each
unfoldable pub tables_joined : (players K size : ℕ) → (keys : List ℕ) → List ℕ
tables_joined p K size ks = over p 0 size (λ i. table_of K ks i)

-- what is left where each is opened in turn into one table, which it fills
unfoldable pub last_table : (players K : ℕ) → (keys tables : List ℕ) → List ℕ
last_table zero K ks ts = ts
last_table (suc i) K ks ts = table_of K ks i
