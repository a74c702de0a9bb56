-- `page::put_spaces` meets its contract: the part of the output that is as long becomes spaces. Assumes nothing.
use mathlib.Core.Path.{ap, ◌∙◌}
use Prim.Native.Nat.{ℕ}
use native.Mathlib.Omega.{arith}
use lib.ListN.{replicate}
use Rattle.writer.proofs.Cuts.{part_whole}
use Rattle.writer.proofs.Laws.{part_became}
use Rattle.digits.specs.Digits.{spaces}
use Rattle.page.proofs.Laws.{spaces_long}
use Rattle.page.proofs.put_spaces.Goals as goal

pub returns : goal.returns
unfolding spaces
returns c =
    let a = c.args in
    let long = spaces_long a.count in
    record {
      next_is = omega (arith, long);
      now_is = part_became _ a.at _ (spaces a.count) a.out.now _ (omega arith) (omega (arith, long))
          (c.fill.ensures.after (λ y e. e) ∙ ap (λ (n : ℕ). replicate n 32) (part_whole a.at a.count a.out.now c.requires));
    }
