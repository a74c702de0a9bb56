-- The head is read of the bytes that are cut for it.
use mathlib.Core.Path.{ap, ◌∙◌}
use Rattle.test_case_file.specs.File.{case_head}
use Rattle.test_case_file.proofs.Cases.following.Goals as goal

pub returns-clause-head : goal.returns-clause-head
returns-clause-head c = c.read-head.ensures ∙ ap case_head c.cut.ensures.0
