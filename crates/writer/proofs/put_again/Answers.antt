-- `writer::put_again` meets its contract: the part before the place is written at the front of what stands behind it. Assumes nothing.
use mathlib.Core.Path.{sym, ap}
use Prim.Native.Nat.{ℕ, ◌+◌}
use native.Mathlib.Omega.{arith}
use lib.ListN.{drop, length-drop}
use lib.Seq.{length-take-le}
use Rattle.writer.proofs.Cuts.{again_written}
use Rattle.writer.proofs.put_again.Goals as goal

pub returns : goal.returns
returns c =
    let a = c.args in
    let split = c.split_at_mut-before.ensures in
    let whole = length-take-le a.count (drop a.from a.out.now) (simp length-drop (omega arith)) in
    record {
      next_is = ap (λ (n : ℕ). a.at + n) (sym whole);
      now_is = again_written a.at a.from a.count a.out.now _ _ _ (omega arith) (omega arith) split.front split.back c.put.ensures.now_is;
    }
