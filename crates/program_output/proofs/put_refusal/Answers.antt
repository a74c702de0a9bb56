-- `program_output::put_refusal` meets its contract. Assumes nothing.
use native.Mathlib.Omega.{arith}
use Rattle.text.specs.Text.{refused_line}
use Rattle.text.proofs.Laws.{refused_most}
use Rattle.program_output.proofs.Writing.{writes_wrote}
use Rattle.program_output.proofs.put_refusal.Goals as goal

pub put_refused_line-requires : goal.put_refused_line-requires
put_refused_line-requires c = omega (arith, refused_most c.args.refusal)

pub returns : goal.returns
returns c = writes_wrote (refused_line c.args.refusal) c.put_refused_line.ensures
