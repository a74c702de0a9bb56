-- What dealing writes, in document 03's words: the front of a key, and all keys. Assumes nothing: these are definitions.
use Rattle.std.specs.Prelude.{List, ◌++◌, ℕ}
use Rattle.grid.specs.Grid.{Board, grid_rows}
use Rattle.grid.specs.Code.{board_of}
use Rattle.keys.specs.Keys.{Lent, header, body_from, keys_from}
use Rattle.seed_rows.specs.Rows.{rule}
use Rattle.dealing.specs.declared.Dealing as code

-- a key but for its last word: header, grid rows, and the lent words
unfoldable pub key_front : Board → (player : ℕ) → (arrays seeds words : List ℕ) → List ℕ
key_front b i cs ss ws = header b i ++ body_from (grid_rows b) b i cs ss ++ ws

-- the same of a dealing of the code
abbrev pub front_of : code.Dealing → (player : ℕ) → List ℕ
front_of d i = key_front (board_of d.board) i d.arrays.now d.seeds.now d.words.now

-- "Deal writes p keys one after another, player 0 first"
unfoldable pub dealt_keys : Board → Lent → List ℕ
dealt_keys b l = keys_from b.p 0 b (λ seed. rule b seed) l
