-- `deal_keys::deal_keys` meets its contract. The loop's invariant: behind player 0's key stand those of the players before this one. Assumes nothing.
use Prim.Native.Nat.{◌-◌}
use Rattle.grid.specs.Code.{board_of}
use Rattle.keys.specs.Keys.{keys_from}
use Rattle.writer.specs.Written.{Wrote}
use Rattle.seed_rows.specs.Rows.{rule}
use Rattle.dealing.specs.Code.{lent_of}
use Rattle.deal_keys.proofs.deal_keys.Given as goal

abbrev pub invariant-loop-player : goal.invariant-loop-player
invariant-loop-player l =
    let b = board_of l.dealing.board in
    Wrote l.initial.next (keys_from (l.player - 1) 1 b (rule b) (lent_of l.dealing)) l.next l.initial.keys l.keys
