-- `key_lengths::key_length` meets its contract. Assumes nothing.
use mathlib.Core.Path.{ap}
use native.Mathlib.Omega.{arith}
use lib.ListN.{length}
use Rattle.grid.specs.Code.{board_of}
use Rattle.keys.specs.Keys.{key_long, stride}
use Rattle.key_header.proofs.Lengths.{header_short, header_for}
use Rattle.key_lengths.proofs.Lengths.{rows_in, words_in}
use Rattle.key_lengths.proofs.key_length.Goals as goal

pub overflow_add-result : goal.overflow_add-result
overflow_add-result c =
    let b = board_of c.args.board in
    omega (arith, header_short _ c.header_length.ensures, c.body_length.ensures, rows_in b c.args.board.accepted, words_in b c.args.board.accepted)

pub returns : goal.returns
unfolding key_long stride
returns c =
    let header = header_for _ _ _ c.of-anyone.ensures.board c.of-anyone.ensures.player in
    omega (arith, c.header_length.ensures, ap length header, c.body_length.ensures)
