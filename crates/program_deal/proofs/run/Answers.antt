-- `program_deal::run` meets its contract: the buffer has one byte more than the most. Assumes nothing.
use mathlib.Core.Path.{refl, sym}
use native.Mathlib.Omega.{arith}
use lib.Seq.{length-take-le}
use Rattle.program_deal.proofs.Dealings.{deals_read, deals_none}
use Rattle.program_deal.proofs.run.Goals as goal

pub returns-then-read-count : goal.returns-then-read-count
returns-then-read-count c =
    let a = c.args in deals_none a.input.now a.count _ a.output.now _ (omega arith) refl refl

pub returns : goal.returns
returns c =
    let a = c.args in
    deals_read a.input.now a.count _ a.output.now _ (omega arith) (omega arith) c.dealing_program.ensures
