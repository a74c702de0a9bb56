use native.Mathlib.Omega.{arith}
use Rattle.xor.proofs.Walks.{all_gone}
use Rattle.seed_row.proofs.Walks.{xored_long, next_xored}
use Rattle.seed_rows.proofs.Joined.{of_rows}
use Rattle.seed_rows.proofs.xor_four.Goals as goal

pub loop-done-preserved : goal.loop-done-preserved
loop-done-preserved c =
    let l = c.loop-done in
    let a = c.args in
    let put = c.xor_four_blocks in
    next_xored (of_rows 4 a.seeds.now) a.out.now l.out a.start l.done l.invariant c.next_end-end.result put.new.out
    (omega arith) (omega arith) put.auto.out put.ensures

pub returns : goal.returns
returns c =
    let l = c.loop-done in
    let a = c.args in
    all_gone _ a.out.now l.out l.done (xored_long (of_rows 4 a.seeds.now) a.out.now l.out a.start l.done) l.invariant (omega arith)
