-- `join_keys_call::places::place_refusal` meets its contract: each answer is a link of the chain. Assumes nothing.
use mathlib.Core.Path.{◌≡◌}
use Rattle.std.proofs.Common.{rules, Err}
use Rattle.join_keys_call.proofs.InTurn.{place_header, place_other, place_marks, place_none}
use Rattle.join_keys_call.proofs.places.place_refusal.Goals as goal

pub returns-in_err-heading : goal.returns-in_err-heading
returns-in_err-heading c =
    let is : c.from_residual.result ≡ Err c.in_err-heading.field-0.0 = search rules in
    rw is (place_header _ _ _ _ c.in_err-heading.ensures)

pub returns-then-not-in_place : goal.returns-then-not-in_place
returns-then-not-in_place c = place_other _ _ _ c.in_ok-heading.heading c.in_ok-heading.ensures _ c.in_place.ensures c.if-not-in_place.true

pub returns-then-not-marks_good : goal.returns-then-not-marks_good
returns-then-not-marks_good c =
    place_marks _ _ _ c.in_ok-heading.heading c.in_ok-heading.ensures _ c.in_place.ensures c.if-not-in_place.false _ c.part_from.ensures _ c.marks_good.ensures
    c.if-not-marks_good.true

pub returns : goal.returns
returns c =
    place_none _ _ _ c.in_ok-heading.heading c.in_ok-heading.ensures _ c.in_place.ensures c.if-not-in_place.false _ c.part_from.ensures _ c.marks_good.ensures
    c.if-not-marks_good.false
