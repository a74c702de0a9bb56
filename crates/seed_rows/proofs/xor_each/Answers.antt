use mathlib.Core.Path.{◌≡◌, refl, ap}
use mathlib.Core.List.{List, []}
use Prim.Native.Nat.{ℕ, ◌*◌, ◌/◌}
use native.Mathlib.Omega.{arith}
use lib.ListN.{length, get_or, take, drop}
use Rattle.xor.proofs.Laws.{good_by_entries}
use Rattle.xor.proofs.Chunks.{chunk_at}
use Rattle.chacha20.specs.From.{expand_from}
use Rattle.seed_rows.proofs.Joined.{rows_start, rows_turn}
use Rattle.seed_rows.proofs.xor_each.Goals as goal

pub loop-seed-init : goal.loop-seed-init
loop-seed-init c =
    let a = c.args in
    let out = a.out.now in
    rows_start a.start (length out) a.seeds.now out refl (good_by_entries out (λ i within. (c.type_inv.out i).fits))

pub loop-seed-preserved : goal.loop-seed-preserved
loop-seed-preserved c =
    let l = c.loop-seed in
    let a = c.args in
    let seeds = a.seeds.now in
    let k = l.seed-index in
    let seed : get_or c.as_chunks.result.0.now k [] ≡ take 32 (drop (32 * k) seeds) =
    rw c.as_chunks.ensures.front (chunk_at 32 (length seeds / 32) k seeds (omega arith)) in
    let n = length a.out.now in
    rows_turn k a.start n seeds a.out.now l.invariant (rw l.auto.out (ap (λ (s : List ℕ). expand_from a.start n s) seed)) c.xor_row.ensures
