-- `nosingginger_c::key::nsg_check_key` meets its contract. Assumes nothing.
use mathlib.Core.Path.{◌∙◌}
use Rattle.key_header.proofs.Reading.{heading_numbers}
use Rattle.nosingginger_c.proofs.Pointers.{check_refused, check_accepted}
use Rattle.nosingginger_c.proofs.key.nsg_check_key.Goals as goal

pub returns-in-Ok : goal.returns-in-Ok
returns-in-Ok c =
    let own = heading_numbers c.in-Ok.read _ c.of.ensures.board c.of.ensures.player in
    check_accepted _ _ _ _ c.in-Ok.ensures (c.numbers.ensures ∙ own)

pub returns-in-Err : goal.returns-in-Err
returns-in-Err c = rw c.number.ensures (check_refused _ _ _ c.in-Err.ensures)
