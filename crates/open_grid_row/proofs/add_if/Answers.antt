-- `open_grid_row::add_if` meets its contract. Assumes nothing.
use mathlib.Core.Path.{◌≡◌}
use mathlib.Core.Bool.{Bool, true, cond}
use mathlib.Core.List.{List}
use Prim.Native.Nat.{ℕ}
use Rattle.open_grid_row.proofs.add_if.Goals as goal

-- where the column is marked, the first way is taken
taken : (t : Bool) (with without new : List ℕ) → t ≡ true → new ≡ with → new ≡ cond t with without
taken t with without new h e = rw h e

pub returns-then-marked : goal.returns-then-marked
returns-then-marked c =
    taken _ _ c.args.out.now _ c.if-marked.true c.xor_into.ensures
