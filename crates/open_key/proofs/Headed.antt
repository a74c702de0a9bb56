-- A key that Check key accepts, and what is opened of what stands behind its header. Assumes nothing.
use mathlib.Core.Path.{◌≡◌, ap, ◌∙◌}
use mathlib.Core.List.{List}
use Prim.Native.Nat.{ℕ}
use Rattle.seed_rows.specs.Rows.{rule}
use Rattle.grid.specs.Grid.{Board}
use Rattle.grid.specs.Code.{board_of}
use Rattle.keys.specs.Keys.{head_in, opened, parts_in, table}
use Rattle.key_check.specs.declared.body.Body.{Body}
use Rattle.open_key.specs.Opened.{square_of, table_of}

-- what the check of a key tells: whose it is, and what stands behind its header
abbrev pub Read : List ℕ → (player : ℕ) → Body → Type 0
Read ks player body =
    (player ≡ (head_in ks).player) × (board_of body.board ≡ (head_in ks).board) × (body.bytes.now ≡ (head_in ks).rest)

module _ (ks : List ℕ) (player : ℕ) (body : Body) (read : Read ks player body) where
  -- the body's board is the key's
  pub board_is : board_of body.board ≡ (head_in ks).board
  board_is = read.1

  -- a square and the table, by every rule
  pub square_is : (f : List ℕ → List ℕ) (a : ℕ) → square_of (board_of body.board) f body.bytes.now a ≡ opened f ks a
  unfolding opened square_of
  square_is f a = rw (read.2, board_is)

  pub table_is : (f : List ℕ → List ℕ) → table_of (board_of body.board) f body.bytes.now ≡ table f ks
  unfolding table parts_in table_of
  table_is f = rw (read.2, board_is)

  -- and by the board's own
  pub square_by_rule : (a : ℕ) → square_of (board_of body.board) (rule (board_of body.board)) body.bytes.now a ≡ opened (rule (head_in ks).board) ks a
  square_by_rule a = square_is (rule (board_of body.board)) a ∙ ap (λ (b : Board). opened (rule b) ks a) board_is

  pub table_by_rule : table_of (board_of body.board) (rule (board_of body.board)) body.bytes.now ≡ table (rule (head_in ks).board) ks
  table_by_rule = table_is (rule (board_of body.board)) ∙ ap (λ (b : Board). table (rule b) ks) board_is
