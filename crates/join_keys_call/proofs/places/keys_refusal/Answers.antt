-- `join_keys_call::places::keys_refusal` meets its contract: each answer is a link of the chain. Assumes nothing.
use mathlib.Core.Path.{◌≡◌, sym}
use native.Mathlib.Omega.{arith}
use Rattle.std.proofs.Common.{rules, Err}
use Rattle.refusal.proofs.Numbers.{number_some}
use Rattle.grid.specs.Grid.{board}
use Rattle.grid.specs.Code.{board_of}
use Rattle.call_answers.proofs.Sizes.{keys_short}
use Rattle.join_keys_call.proofs.InTurn.{keys_length, keys_places, keys_room, keys_none}
use Rattle.join_keys_call.proofs.places.keys_refusal.Goals as goal

pub overflow_mul-board : goal.overflow_mul-board
unfolding board
overflow_mul-board c = omega (arith, keys_short (board_of c.args.board) c.args.board.accepted c.key_length.ensures)

pub returns-then-keys-board : goal.returns-then-keys-board
returns-then-keys-board c = keys_length _ c.args.board c.requires.0 c.requires.1 _ _ c.key_length.ensures c.if-keys-board.true

pub returns-in_err-places_refusal : goal.returns-in_err-places_refusal
returns-in_err-places_refusal c =
    let is : c.from_residual.result ≡ Err c.in_err-places_refusal.field-0.0 = search rules in
    rw is
    (keys_places _ c.args.board c.requires.0 c.requires.1 _ _ c.key_length.ensures c.if-keys-board.false _ c.in_err-places_refusal.ensures (number_some _))

pub returns-then-room-table_length : goal.returns-then-room-table_length
returns-then-room-table_length c =
    keys_room _ c.args.board c.requires.0 c.requires.1 _ _ c.key_length.ensures c.if-keys-board.false (sym c.in_ok-places_refusal.ensures)
    (omega (arith, c.table_length.ensures, c.if-room-table_length.true))

pub returns : goal.returns
returns c =
    keys_none _ c.args.board c.requires.0 c.requires.1 _ _ c.key_length.ensures c.if-keys-board.false (sym c.in_ok-places_refusal.ensures)
    (omega (arith, c.table_length.ensures, c.if-room-table_length.false))
