-- `seed_row::make_block` meets its contract. The nonce is twelve zeros. Assumes nothing.
use Rattle.xor.specs.Xor.{zeros}
use Rattle.seed_row.proofs.make_block.Goals as goal

pub returns : goal.returns
unfolding zeros
returns c = c.block.ensures
