-- `Dealing::new` meets its contract: each answer is a link of the chain. Assumes nothing.
use mathlib.Core.Path.{◌≡◌, sym, ap, ◌∙◌}
use native.Mathlib.Omega.{arith}
use Rattle.refusal.proofs.Numbers.{number_some}
use Rattle.grid.specs.Grid.{board}
use Rattle.grid.specs.Code.{board_of}
use Rattle.keys.specs.Keys.{deal_refusal, lent}
use Rattle.dealing.specs.Refused.{refused_number, refused_place}
use Rattle.dealing.proofs.Lending.{by_point, by_lent, by_fault, fault_place, unplaced}
use Rattle.dealing.proofs.Dealing.new.Goals as goal
use Rattle.dealing.proofs.Dealing.new.Goals.{Then-board-point, Then-not-lent_fits, Else-not-lent_fits, In_default}

six : (c : Then-board-point) → let a = c.args in 6 ≡ deal_refusal (board_of a.board) (lent a.point a.value.now a.arrays.now a.seeds.now a.words.now)
unfolding board
six c = by_point _ _ c.args.board.accepted (omega (arith, c.if-board-point.true))

pub returns-then-board-point-clause-number : goal.returns-then-board-point-clause-number
returns-then-board-point-clause-number c = ap refused_number c.into.ensures ∙ six (goal.at.returns-then-board-point-clause-number c).Then-board-point

pub returns-then-board-point-clause-place : goal.returns-then-board-point-clause-place
returns-then-board-point-clause-place c =
    ap refused_place c.into.ensures ∙ unplaced _ _ 6 (six (goal.at.returns-then-board-point-clause-place c).Then-board-point) (omega arith)

seven : (c : Then-not-lent_fits) → let a = c.args in 7 ≡ deal_refusal (board_of a.board) (lent a.point a.value.now a.arrays.now a.seeds.now a.words.now)
unfolding board
seven c = by_lent _ _ c.args.board.accepted (omega (arith, c.if-board-point.false)) (sym c.lent_fits.ensures ∙ c.if-not-lent_fits.true)

pub returns-then-not-lent_fits-clause-number : goal.returns-then-not-lent_fits-clause-number
returns-then-not-lent_fits-clause-number c =
    ap refused_number c.into-then-not-lent_fits.ensures ∙ seven (goal.at.returns-then-not-lent_fits-clause-number c).Then-not-lent_fits

pub returns-then-not-lent_fits-clause-place : goal.returns-then-not-lent_fits-clause-place
returns-then-not-lent_fits-clause-place c =
    ap refused_place c.into-then-not-lent_fits.ensures
    ∙ unplaced _ _ 7 (seven (goal.at.returns-then-not-lent_fits-clause-place c).Then-not-lent_fits) (omega arith)

pub returns-in-Some-clause-number : goal.returns-in-Some-clause-number
unfolding board
returns-in-Some-clause-number c =
    by_fault _ _ c.args.board.accepted (omega (arith, c.if-board-point.false)) (sym c.lent_fits.ensures ∙ c.if-not-lent_fits.false) _ c.in-Some.ensures

pub returns-in-Some-clause-place : goal.returns-in-Some-clause-place
unfolding board
returns-in-Some-clause-place c =
    fault_place _ _ c.args.board.accepted (omega (arith, c.if-board-point.false)) (sym c.lent_fits.ensures ∙ c.if-not-lent_fits.false) _ c.in-Some.ensures
    (number_some c.in-Some.fault.refusal)

nothing : (c : In_default) → let a = c.args in 0 ≡ deal_refusal (board_of a.board) (lent a.point a.value.now a.arrays.now a.seeds.now a.words.now)
unfolding board
nothing c =
    by_fault _ _ c.args.board.accepted (omega (arith, c.if-board-point.false)) (sym c.lent_fits.ensures ∙ c.if-not-lent_fits.false) _ c.in_default.ensures

pub invariant_of-result : goal.invariant_of-result
invariant_of-result c = record { accepted = sym (nothing (goal.at.invariant_of-result c).In_default) }

pub returns-clause-place : goal.returns-clause-place
returns-clause-place c = unplaced _ _ 0 (nothing (goal.at.returns-clause-place c).In_default) (omega arith)
