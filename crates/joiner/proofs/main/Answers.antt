-- No more is written than the output has room for.
use Rattle.std.proofs.Common.{sym}
use Rattle.std.proofs.lemmas.List.{length-take-le}
use Rattle.program_join.proofs.Joinings.{joins_read_within}
use Rattle.joiner.proofs.main.Goals as goal

pub slice_bounds-write_all-end : goal.slice_bounds-write_all-end
slice_bounds-write_all-end c = sym (length-take-le _ _ (joins_read_within _ _ _ _ _ _ _ c.run-written.ensures))

pub slice_bounds-output-end : goal.slice_bounds-output-end
slice_bounds-output-end c = joins_read_within _ _ _ _ _ _ _ c.run-written.ensures
