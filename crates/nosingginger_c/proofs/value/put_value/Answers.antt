-- `nosingginger_c::value::put_value` meets its contract. Assumes nothing.
use Rattle.nosingginger_c.proofs.Pointers.{value_kept, value_written}
use Rattle.nosingginger_c.proofs.value.put_value.Goals as goal

pub returns-then-refusal-ne0 : goal.returns-then-refusal-ne0
returns-then-refusal-ne0 c = value_kept _ _ _ c.if-refusal-ne0.true

pub returns : goal.returns
returns c = value_written _ _ _ c.if-refusal-ne0.false
