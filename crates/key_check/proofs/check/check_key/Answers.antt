-- `key_check::check::check_key` meets its contract: each way out is a link of the chain of refusals. Assumes nothing.
use mathlib.Core.Path.{◌≡◌, ap}
use mathlib.Core.Bool.{not}
use native.Mathlib.Omega.{arith}
use borrow.Author.Rules.{rules}
use Rattle.std.proofs.Common.{Err}
use Rattle.key_check.proofs.Checks.{refused_header, refused_length, refused_marks, accepted_key}
use Rattle.key_check.proofs.check.check_key.Goals as goal

pub returns-in_err-heading : goal.returns-in_err-heading
returns-in_err-heading c =
    let is : c.from_residual.result ≡ Err c.in_err-heading.field-0.0 = search rules in
    rw is (refused_header _ _ c.in_err-heading.ensures)

pub returns-then-key-key_length : goal.returns-then-key-key_length
returns-then-key-key_length c =
    refused_length _ c.in_ok-heading.heading c.in_ok-heading.ensures _ c.key_length.ensures (omega (arith, c.if-key-key_length))

pub returns-then-not-marks_good : goal.returns-then-not-marks_good
returns-then-not-marks_good c =
    refused_marks _ c.in_ok-heading.heading c.in_ok-heading.ensures _ c.key_length.ensures (omega (arith, c.if-key-key_length)) _ c.part_from.ensures _
    c.marks_good.ensures (ap not c.if-not-marks_good.true)

pub returns : goal.returns
returns c =
    accepted_key _ c.in_ok-heading.heading c.in_ok-heading.ensures _ c.key_length.ensures (omega (arith, c.if-key-key_length)) _ c.part_from.ensures _
    c.marks_good.ensures (ap not c.if-not-marks_good.false)
