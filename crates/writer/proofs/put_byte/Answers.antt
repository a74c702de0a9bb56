-- `writer::put_byte` meets its contract: one byte written is one store. Assumes nothing.
use mathlib.Core.Path.{refl}
use Rattle.writer.proofs.Laws.{put_one}
use Rattle.writer.proofs.put_byte.Goals as goal

pub returns : goal.returns
returns c = record { next_is = refl; now_is = put_one c.args.at c.args.byte c.args.out.now c.requires }
