-- `page::page_lines` meets its contract. Assumes nothing.
use native.Mathlib.Omega.{arith}
use Rattle.page.specs.Page.{page_lines}
use Rattle.page.proofs.page_lines.Goals as goal

pub returns : goal.returns
unfolding page_lines
returns c = omega arith
