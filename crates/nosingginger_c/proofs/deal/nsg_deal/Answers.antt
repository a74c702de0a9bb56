-- `nosingginger_c::deal::nsg_deal` meets its contract. Assumes nothing.
use native.Mathlib.Omega.{arith}
use Rattle.nosingginger_c.proofs.Pointers.{deal_done, deal_plain, deal_placed}
use Rattle.nosingginger_c.proofs.deal.nsg_deal.Goals as goal

pub returns-in-Ok : goal.returns-in-Ok
returns-in-Ok c = deal_done _ _ _ _ _ _ _ _ _ _ _ _ _ c.in-Ok.ensures

pub returns-in-Err-Plain : goal.returns-in-Err-Plain
returns-in-Err-Plain c =
    deal_plain _ _ _ _ _ _ _ _ _ _ _ _ _ _ _ c.in-Err-Plain.field-0-is c.number.ensures c.in-Err-Plain.ensures

pub returns-in-Err-Fault : goal.returns-in-Err-Fault
returns-in-Err-Fault c =
    deal_placed _ _ _ _ _ _ _ _ _ _ _ _ _ c.in-Err-Fault.found _ c.in-Err-Fault.field-0-is (omega arith) c.in-Err-Fault.ensures
