-- `join_keys_call::places::places_refusal` meets its contract. The loop's invariant: the keys before this place are passed. Assumes nothing.
use Rattle.grid.specs.Code.{board_of}
use Rattle.join_keys_call.proofs.InTurn.{Passed}
use Rattle.join_keys_call.proofs.places.places_refusal.Given as goal

abbrev pub invariant-loop-place : goal.invariant-loop-place
invariant-loop-place l = Passed l.board.players (board_of l.board) l.keys l.place l.long
