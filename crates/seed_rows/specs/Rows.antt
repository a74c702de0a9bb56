-- The rule that expansion is, and the rows of seeds that stand one after another, XORed. Assumes nothing: these are definitions.
use Rattle.std.specs.Prelude.{List, ℕ, zero, suc, take, drop}
use Rattle.xor.specs.Xor.{xors, zeros}
use Rattle.chacha20.specs.Expand.{expand}
use Rattle.chacha20.specs.From.{expand_from}
use Rattle.grid.specs.Grid.{Board, row_long}

-- "A row rule gives each 32-byte seed some μ × w bytes; expansion is one": "a row is the first μ × w bytes of the key stream"
abbrev pub rule : Board → List ℕ → List ℕ
rule b seed = expand (row_long b) seed

-- the XOR of n bytes from byte s on of the rows that the first `left` seeds, of 32 bytes each, expand to
unfoldable pub rows_joined : (left s n : ℕ) → (seeds : List ℕ) → List ℕ
rows_joined zero s n ss = zeros n
rows_joined (suc k) s n ss = xors (expand_from s n (take 32 ss)) (rows_joined k s n (drop 32 ss))
