-- `seed_row::xor_stretch` meets its contract. The blocks are made, and what is wanted of them XORed in. Assumes nothing.
use mathlib.Core.Path.{refl, ap, ◌∙◌}
use mathlib.Core.List.{List}
use Prim.Native.Nat.{ℕ}
use lib.ListN.{length}
use Rattle.xor.specs.Xor.{xors}
use Rattle.seed_row.proofs.OneRow.{stretch_made}
use Rattle.seed_row.proofs.xor_stretch.Goals as goal

pub returns : goal.returns
returns c =
    let a = c.args in
    let out = a.out.now in
    c.xor_into.ensures
    ∙ ap (λ (l : List ℕ). xors out l) (stretch_made a.at (length out) _ _ _ a.seed.now _ refl refl refl
    c.make_blocks.ensures)
