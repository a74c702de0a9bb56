use mathlib.Core.Path.{◌≡◌, refl}
use mathlib.Core.List.{[]}
use Prim.Native.Nat.{◌*◌, ◌/◌}
use native.Mathlib.Omega.{arith}
use lib.ListN.{length, get_or, take, drop}
use Rattle.xor.proofs.Laws.{good_by_entries}
use Rattle.xor.proofs.Chunks.{chunk_at}
use Rattle.seed_rows.proofs.Joined.{rows_start, rows_turn}
use Rattle.seed_rows.proofs.Fours.{row_of_four}
use Rattle.seed_rows.proofs.xor_four_blocks.Goals as goal

pub loop-block-init : goal.loop-block-init
loop-block-init c =
    let a = c.args in
    let out = a.out.now in
    rows_start a.at (length out) a.seeds.now out refl (good_by_entries out (λ i within. (c.type_inv.out i).fits))

pub loop-block-preserved : goal.loop-block-preserved
loop-block-preserved c =
    let l = c.loop-block in
    let a = c.args in
    let n = length a.out.now in
    let i = l.block-index in
    let made = c.four_seeds.new.out in
    let one : get_or c.as_chunks.result.0.now i [] ≡ take 64 (drop (64 * i) made) =
    rw c.as_chunks.ensures.front (chunk_at 64 (length made / 64) i made (omega arith)) in
    let row = row_of_four i a.at _ _ (length l.out) n a.seeds.now made _ (omega arith) refl refl (omega arith) l.auto.out c.four_seeds.ensures one in
    rows_turn i a.at n a.seeds.now a.out.now l.invariant row c.xor_into.ensures
