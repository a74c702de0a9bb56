-- `page::put_cell` meets its contract: a space, then the digits. Assumes nothing.
use mathlib.Core.List.{[], ◌∷◌}
use native.Mathlib.Omega.{arith}
use Rattle.writer.proofs.Laws.{wrote_then}
use Rattle.digits.specs.Digits.{hex}
use Rattle.page.proofs.put_cell.Goals as goal

pub returns : goal.returns
returns c =
    wrote_then (32 ∷ []) (hex c.args.value.now) (omega (arith, c.requires))
    c.put_byte-next.ensures c.put_hex.ensures
