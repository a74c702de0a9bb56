-- `program_join::run` meets its contract: the buffer has one byte more than the most. Assumes nothing.
use mathlib.Core.Path.{refl, sym}
use native.Mathlib.Omega.{arith}
use lib.Seq.{length-take-le}
use Rattle.program_join.proofs.Joinings.{joins_read, joins_none}
use Rattle.program_join.proofs.run.Goals as goal

pub returns-then-read-count : goal.returns-then-read-count
returns-then-read-count c =
    let a = c.args in
    joins_none a.input.now a.count _ a.table.now _ a.output.now _ (omega arith) refl refl refl

pub slice_bounds-joining_program-end : goal.slice_bounds-joining_program-end
slice_bounds-joining_program-end c = sym (length-take-le _ _ (omega arith))

pub returns : goal.returns
returns c =
    let a = c.args in
    joins_read a.input.now a.count _ a.table.now _ a.output.now _ (omega arith) (omega arith) c.joining_program.ensures
