-- `program_join::joining_program` meets its contract. Assumes nothing.
use mathlib.Core.Path.{refl, sym}
use native.Mathlib.Omega.{arith}
use Rattle.xor.proofs.Laws.{good_by_entries}
use Rattle.refusal.proofs.Numbers.{number_some}
use Rattle.call_answers.proofs.Putting.{answer_is}
use Rattle.program_join.proofs.Joinings.{joins_refused, joins_accepted}
use Rattle.program_join.proofs.joining_program.Goals as goal

pub join_input-requires : goal.join_input-requires
join_input-requires c = omega arith

pub returns-in-Err : goal.returns-in-Err
returns-in-Err c =
    let a = c.args in
    joins_refused a.input.now _ a.table.now _ c.in-Err.ensures _ a.output.now _ (number_some c.in-Err.refusal) _ c.put_refusal.ensures (omega arith)

pub put_joined-requires-clause-input_value : goal.put_joined-requires-clause-input_value
put_joined-requires-clause-input_value c = sym (answer_is _ _ _ _ _ c.in-Ok.ensures)

pub put_joined-requires-clause-table_len : goal.put_joined-requires-clause-table_len
put_joined-requires-clause-table_len c = (omega (arith, c.join_input.auto.table), omega arith)

pub returns-in-Ok : goal.returns-in-Ok
returns-in-Ok c =
    let a = c.args in
    let good = good_by_entries a.input.now (λ i _. (c.type_inv.input i).fits) in
    joins_accepted a.input.now _ a.table.now _ c.in-Ok.ensures _ a.output.now _ good refl c.put_joined.ensures
