-- `join_keys_call::joined_tables` meets its contract. The loop goes down from the last key; its invariant: the tables of the keys from this
-- one on are joined. Assumes nothing.
use mathlib.Core.Path.{◌≡◌}
use Prim.Native.Nat.{◌*◌, ◌-◌}
use lib.ListN.{drop}
use Rattle.grid.specs.Code.{board_of}
use Rattle.join_keys_call.specs.JoinKeys.{joined_table}
use Rattle.join_keys_call.proofs.joined_tables.Given as goal

abbrev pub invariant-loop-player : goal.invariant-loop-player
invariant-loop-player l = l.out ≡ joined_table (l.board.players - l.player) (board_of l.board) (drop (l.player * l.long) l.keys)
