-- `program_join::join_input` meets its contract: an input longer than any by its first header, any other as Join keys. Assumes nothing.
use native.Mathlib.Omega.{arith}
use Rattle.program_join.proofs.Joinings.{refused_long, joined_here}
use Rattle.program_join.proofs.join_input.Goals as goal

pub returns-then-input-gt-MOST_BYTES : goal.returns-then-input-gt-MOST_BYTES
returns-then-input-gt-MOST_BYTES c = refused_long c.args.input.now _ c.args.table.now (omega arith) c.long_refusal.ensures

pub returns : goal.returns
returns c = joined_here c.args.input.now _ c.args.table.now _ (omega arith) c.requires c.join_keys.ensures
