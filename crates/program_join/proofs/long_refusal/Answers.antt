-- `program_join::long_refusal` meets its contract. Assumes nothing.
use Rattle.program_join.proofs.Joinings.{long_own, long_length}
use Rattle.program_join.proofs.long_refusal.Goals as goal

pub returns-in-Err : goal.returns-in-Err
returns-in-Err c = long_own _ _ c.in-Err.ensures

pub returns-in-Ok : goal.returns-in-Ok
returns-in-Ok c = long_length _ c.in-Ok.field-0 c.in-Ok.ensures
