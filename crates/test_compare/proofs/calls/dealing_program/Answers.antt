-- No more is written than the output has room for.
use Rattle.std.proofs.Common.{sym}
use Rattle.std.proofs.lemmas.List.{length-take-le}
use Rattle.program_output.proofs.Writing.{writes_within}
use Rattle.test_compare.proofs.calls.dealing_program.Goals as goal

pub slice_bounds-output-end : goal.slice_bounds-output-end
slice_bounds-output-end c = writes_within _ _ _ _ c.dealing_program-written.ensures

pub slice_bounds-eq-end : goal.slice_bounds-eq-end
slice_bounds-eq-end c = sym (length-take-le _ _ (writes_within _ _ _ _ c.dealing_program-written.ensures))
