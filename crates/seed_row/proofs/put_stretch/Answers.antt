-- `seed_row::put_stretch` meets its contract. Four whole blocks, or one, or blocks of which a part is written. Assumes nothing.
use mathlib.Core.Path.{refl, sym}
use native.Mathlib.Omega.{arith}
use lib.ListN.{length}
use Rattle.xor.specs.Xor.{zeros}
use Rattle.chacha20.proofs.Stream.{key_stream_short}
use Rattle.seed_row.proofs.OneRow.{front_of_four, stretch_made, whole, all_put}
use Rattle.seed_row.proofs.put_stretch.Goals as goal

pub returns-then-out-eq-FOUR_BLOCKS_BYTES : goal.returns-then-out-eq-FOUR_BLOCKS_BYTES
returns-then-out-eq-FOUR_BLOCKS_BYTES c =
    let a = c.args in
    let made = c.four_counters in
    let four = c.if-out-eq-FOUR_BLOCKS_BYTES.true in
    whole a.at (length a.out.now) _ a.seed.now _ refl (omega (arith, four, c.requires.1)) made.auto.out
    (front_of_four (length a.out.now) _ a.seed.now _ (omega (arith, four)) made.ensures) refl

pub returns-then-skip-eq0 : goal.returns-then-skip-eq0
unfolding zeros
returns-then-skip-eq0 c =
    let a = c.args in
    let put = c.make_block in
    whole a.at (length a.out.now) _ a.seed.now _ refl (omega arith) put.auto.out {m = 64}
    (rw put.ensures (sym (key_stream_short 64 _ a.seed.now (zeros 12) (omega arith)))) (omega arith)

pub returns : goal.returns
returns c =
    let a = c.args in
    all_put a.at a.seed.now a.out.now _ _ _ c.put.ensures
    (stretch_made a.at (length a.out.now) _ _ _ a.seed.now _ refl refl refl c.make_blocks.ensures)
