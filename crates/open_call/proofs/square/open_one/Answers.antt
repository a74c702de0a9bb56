-- `open_call::square::open_one` meets its contract. Assumes nothing.
use mathlib.Core.Path.{◌≡◌, refl}
use native.Mathlib.Omega.{arith}
use Rattle.std.proofs.Common.{rules, Err}
use Rattle.call_answers.specs.Answers.{OpenOneSays}
use Rattle.call_answers.proofs.Answering.{put_first}
use Rattle.open_call.proofs.Squares.{one_refused, one_opened}
use Rattle.open_call.proofs.square.open_one.Goals as goal

pub returns-in_err-body : goal.returns-in_err-body
unfolding OpenOneSays
returns-in_err-body c =
    let is : c.from_residual.result ≡ Err c.in_err-body.field-0.0 = search rules in
    rw is (put_first _ _ c.in_err-body.ensures.refusal _ _ _)

pub returns-then-body-position : goal.returns-then-body-position
returns-then-body-position c =
    let key = c.in_ok-body.ensures in
    one_refused _ key.refusal c.in_ok-body.field-0-0 c.in_ok-body.body key.read _ _ _ (omega arith) (omega arith)

pub returns-then-output-share : goal.returns-then-output-share
returns-then-output-share c =
    let key = c.in_ok-body.ensures in
    one_refused _ key.refusal c.in_ok-body.field-0-0 c.in_ok-body.body key.read _ _ _ (omega arith) (omega arith)

pub returns : goal.returns
returns c =
    let key = c.in_ok-body.ensures in
    one_opened _ key.refusal c.in_ok-body.field-0-0 c.in_ok-body.body key.read _ _ _ _ _ c.open_square.ensures refl refl (omega arith)
