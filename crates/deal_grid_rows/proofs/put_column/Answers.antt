-- `deal_grid_rows::put_column` meets its contract. Assumes nothing.
use mathlib.Core.Path.{◌≡◌, subst}
use mathlib.Core.Bool.{Bool, cond}
use mathlib.Core.List.{List, []}
use Prim.Native.Nat.{ℕ, ◌+◌, ◌*◌, ◌-◌}
use native.Mathlib.Omega.{arith}
use lib.ListN.{get_or, take, drop}
use Rattle.grid.specs.Grid.{bit}
use Rattle.writer.specs.Written.{Wrote}
use Rattle.writer.proofs.Cuts.{part_long, part_whole}
use Rattle.deal_grid_rows.specs.Rows.{column_seed}
use Rattle.deal_grid_rows.proofs.put_column.Goals as goal

-- what the code writes is the column's seed
seed_is : (player column : ℕ) {held : Bool} (array seeds : List ℕ) → held ≡ bit (get_or array column 0) player →
    cond held (take (32 * column + 32 - 32 * column) (drop (32 * column) seeds)) [] ≡ column_seed player column array seeds
unfolding column_seed
seed_is player column array seeds is = rw (part_long (32 * column) 32, is)

pub put_if-requires : goal.put_if-requires
put_if-requires c =
    let a = c.args in (
      part_whole (32 * a.column) 32 a.seeds.now (omega arith),
      rw (seed_is a.player.bit a.column a.array.now a.seeds.now c.marks.ensures) c.requires.2,
    )

pub returns : goal.returns
returns c =
    let a = c.args in
    let p = c.put_if in
    subst (λ (x : List ℕ). Wrote a.at x p.result a.out.now p.new.out)
    (seed_is a.player.bit a.column a.array.now a.seeds.now c.marks.ensures) p.ensures
