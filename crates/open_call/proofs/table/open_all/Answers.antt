-- `open_call::table::open_all` meets its contract. Assumes nothing.
use mathlib.Core.Path.{◌≡◌, refl}
use native.Mathlib.Omega.{arith}
use Rattle.std.proofs.Common.{rules, Err}
use Rattle.call_answers.specs.Answers.{OpenAllSays}
use Rattle.call_answers.proofs.Answering.{put_first}
use Rattle.open_call.proofs.Squares.{all_refused, all_opened}
use Rattle.open_call.proofs.table.open_all.Goals as goal

pub returns-in_err-body : goal.returns-in_err-body
unfolding OpenAllSays
returns-in_err-body c =
    let is : c.from_residual.result ≡ Err c.in_err-body.field-0.0 = search rules in
    rw is (put_first _ _ c.in_err-body.ensures.refusal _ _ _)

pub returns-then-output-table : goal.returns-then-output-table
returns-then-output-table c =
    let key = c.in_ok-body.ensures in
    all_refused _ key.refusal c.in_ok-body.field-0-0 c.in_ok-body.body key.read _ _ (omega arith) (omega arith)

pub returns : goal.returns
returns c =
    let key = c.in_ok-body.ensures in
    all_opened _ key.refusal c.in_ok-body.field-0-0 c.in_ok-body.body key.read _ _ _ c.open_table.ensures refl (omega arith)
