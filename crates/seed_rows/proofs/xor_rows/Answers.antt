use mathlib.Core.Path.{◌≡◌, refl}
use mathlib.Core.List.{[]}
use Prim.Native.Nat.{◌*◌, ◌/◌}
use native.Mathlib.Omega.{arith}
use lib.ListN.{length, get_or, take, drop}
use Rattle.xor.proofs.Laws.{good_by_entries}
use Rattle.xor.proofs.Chunks.{chunk_at}
use Rattle.seed_rows.proofs.Joined.{rows_start}
use Rattle.seed_rows.proofs.Fours.{four_more, rest_more}
use Rattle.seed_rows.proofs.xor_rows.Goals as goal

pub loop-four-init : goal.loop-four-init
loop-four-init c =
    let a = c.args in
    let out = a.out.now in
    rows_start a.start (length out) a.seeds.now out refl (good_by_entries out (λ i within. (c.type_inv.out i).fits))

pub loop-four-preserved : goal.loop-four-preserved
loop-four-preserved c =
    let l = c.loop-four in
    let a = c.args in
    let seeds = a.seeds.now in
    let j = l.four-index in
    let four : get_or c.as_chunks.result.0.now j [] ≡ take 128 (drop (128 * j) seeds) =
    rw c.as_chunks.ensures.front (chunk_at 128 (length seeds / 128) j seeds (omega arith)) in
    four_more seeds j a.start (length a.out.now) a.out.now (length l.out) l.auto.out l.invariant _ four c.xor_four.ensures

pub returns : goal.returns
returns c =
    let l = c.loop-four in
    let a = c.args in
    let cut = c.as_chunks.ensures in
    rest_more a.seeds.now l.four-index a.start (length a.out.now) a.out.now (length l.out) l.auto.out l.invariant _ (omega arith) cut.back c.xor_each-2.ensures
