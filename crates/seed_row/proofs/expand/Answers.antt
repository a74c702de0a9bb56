use mathlib.Core.Path.{◌≡◌, ◌∙◌}
use mathlib.Core.List.{List, []}
use Prim.Native.Nat.{ℕ, ◌/◌}
use native.Mathlib.Omega.{arith}
use lib.ListN.{length, get_or}
use lib.Seq.{take_all}
use Rattle.std.specs.Simd.{first_chunks}
use Rattle.xor.proofs.Chunks.{chunk_at}
use Rattle.chacha20.proofs.Stream.{word_from}
use Rattle.xor.proofs.Walks.{all_gone}
use Rattle.seed_row.proofs.Walks.{next_written}
use Rattle.seed_row.proofs.OneRow.{of_row}
use Rattle.seed_row.proofs.expand.Goals as goal

-- the one array of 32 bytes that a seed is
seed_is : (seed : List ℕ) → length seed ≡ 32 → (cut : List (List ℕ)) → cut ≡ first_chunks 32 (length seed / 32) seed → get_or cut 0 [] ≡ seed
seed_is seed long cut e = rw e (chunk_at 32 (length seed / 32) 0 seed (omega arith) ∙ take_all 32 seed (omega arith))

pub loop-done-preserved : goal.loop-done-preserved
loop-done-preserved c =
    let l = c.loop-done in
    let a = c.args in
    let put = c.put_stretch in
    let end = c.next_end-end.result in
    next_written (of_row a.seed.now) a.out.now l.out a.start l.done l.invariant end put.new.out (omega arith) (omega arith)
    put.auto.out (rw (seed_is a.seed.now c.requires.0 c.as_chunks.result.0.now c.as_chunks.ensures.front) at put.ensures)

pub returns : goal.returns
returns c =
    let l = c.loop-done in
    let a = c.args in
    all_gone _ a.out.now l.out l.done (word_from a.start (length a.out.now) a.seed.now).long l.invariant (omega arith)
