-- The full table of an accepted key under expansion, which is a row rule. Assumes nothing.
use mathlib.Core.Path.{◌≡◌}
use mathlib.Core.Bool.{true}
use mathlib.Core.List.{List}
use Prim.Native.Nat.{ℕ, ◌*◌}
use Rattle.xor.specs.Xor.{bytes_good}
use Rattle.xor.proofs.Laws.{Word}
use Rattle.chacha20.proofs.Stream.{word_expand}
use Rattle.seed_rows.specs.Rows.{rule}
use Rattle.grid.specs.Grid.{Board, row_long}
use Rattle.keys.specs.Keys.{key_refusal, head_in, table}
use Rattle.keys.specs.Promise.{RuleGood, TableLong}
use Rattle.keys.proofs.Promise.{table_long}
use Rattle.call_answers.specs.Answers.{key_rule}

pub expansion : (b : Board) → RuleGood b (λ seed. rule b seed)
unfolding RuleGood
expansion b seed long good = let row = word_expand (row_long b) seed in (row.long, row.good)

module _ (key : List ℕ) where
  pub own_rule : RuleGood (head_in key).board (λ seed. key_rule key seed)
  unfolding key_rule
  own_rule = expansion (head_in key).board

  pub own_table_word : bytes_good key ≡ true → key_refusal key ≡ 0 →
      Word ((head_in key).board.n * (head_in key).board.w) (table (λ seed. key_rule key seed) key)
  unfolding TableLong
  own_table_word good accepted =
      let word = table_long (λ seed. key_rule key seed) key accepted good own_rule in
      record { long = word.0; good = word.1 }
