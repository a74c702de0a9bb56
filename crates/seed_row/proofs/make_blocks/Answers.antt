-- `seed_row::make_blocks` meets its contract. One block is made, or four. Assumes nothing.
use native.Mathlib.Omega.{arith}
use Rattle.seed_row.proofs.OneRow.{front_of_one, front_of_four}
use Rattle.seed_row.proofs.make_blocks.Goals as goal

pub returns-then-bytes-le-BLOCK_BYTES : goal.returns-then-bytes-le-BLOCK_BYTES
returns-then-bytes-le-BLOCK_BYTES c =
    let a = c.args in
    front_of_one a.bytes a.counter a.seed.now _ _ (omega arith) c.make_block.ensures

pub returns : goal.returns
returns c = let a = c.args in front_of_four a.bytes a.counter a.seed.now _ (omega arith) c.four_counters.ensures
