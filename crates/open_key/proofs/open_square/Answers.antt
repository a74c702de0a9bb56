-- `open_key::open_square` meets its contract. Assumes nothing.
use native.Mathlib.Omega.{arith}
use Rattle.open_key.proofs.Bodies.{prefix_long}
use Rattle.open_key.proofs.open_square.Goals as goal

pub fill_square-requires : goal.fill_square-requires
fill_square-requires c =
    let long = prefix_long c.args.body.now.board.value_bytes c.args.out.now c.requires.1 in
    (c.requires.0, omega (arith, long))
