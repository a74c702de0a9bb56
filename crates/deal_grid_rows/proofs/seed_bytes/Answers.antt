-- `deal_grid_rows::seed_bytes` meets its contract: what is written over 32 zeros is all there is. Assumes nothing.
use mathlib.Core.Path.{◌≡◌, ◌∙◌}
use mathlib.Core.List.{List, append-nil}
use Prim.Native.Nat.{ℕ}
use native.Mathlib.Omega.{arith}
use lib.ListN.{length, drop_of_length-le}
use Rattle.writer.specs.Written.{written}
use Rattle.writer.proofs.Laws.{written_front}
use Rattle.deal_grid_rows.proofs.seed_bytes.Goals as goal

-- a string written over another of its length
over_all : (new old : List ℕ) → length new ≡ length old → written 0 new old ≡ new
over_all new old e = written_front new old ∙ rw (drop_of_length-le old {i = length new} (omega arith)) (append-nil new)

pub returns : goal.returns
returns c =
    c.put.ensures.now_is ∙ over_all c.args.seed.now _ c.requires
