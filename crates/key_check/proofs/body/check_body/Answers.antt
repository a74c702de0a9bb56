-- `key_check::body::check_body` meets its contract: what stands behind the header of an accepted key is that of its board. Assumes nothing.
use mathlib.Core.List.{List}
use mathlib.Core.Path.{◌≡◌, sym, ◌∙◌, subst}
use Prim.Native.Nat.{ℕ}
use borrow.Author.Rules.{rules}
use Rattle.std.proofs.Common.{Err}
use Rattle.xor.proofs.Laws.{good_by_entries, good_drop}
use Rattle.grid.specs.Code.{board_of}
use Rattle.keys.specs.Keys.{key_refusal, AcceptedBody}
use Rattle.keys.proofs.Accepted.{accepted_body}
use Rattle.key_header.proofs.Reading.{Says, refused_says, accepted_says}
use Rattle.key_check.proofs.body.check_body.Goals as goal
use Rattle.key_check.proofs.body.check_body.Goals.{In_ok-heading}

says : (c : In_ok-heading) → Says (key_refusal c.args.key.now) c.args.key.now c.in_ok-heading.heading
says c = accepted_says _ c.in_ok-heading.heading _ c.in_ok-heading.ensures

pub returns-in_err-heading-clause-refusal : goal.returns-in_err-heading-clause-refusal
returns-in_err-heading-clause-refusal c =
    let is : c.from_residual.result ≡ Err c.in_err-heading.field-0.0 = search rules in
    rw is (sym (refused_says _ _ _ c.in_err-heading.ensures).0)

pub invariant_of-body : goal.invariant_of-body
invariant_of-body c =
    let ks = c.args.key.now in
    let b = board_of c.in_ok-heading.heading.board in
    let read = says (goal.at.invariant_of-body c).In_ok-heading in
    let good = good_by_entries ks (λ i _. (c.type_inv.key i).fits) in
    record {
      accepted = subst (λ (bs : List ℕ). AcceptedBody b bs) (read.rest_is ∙ sym c.part_from.ensures) (accepted_body ks good b read.none read.board_is);
      good = rw c.part_from.ensures (good_drop _ ks good);
    }

pub returns-clause-refusal : goal.returns-clause-refusal
returns-clause-refusal c = sym (says (goal.at.returns-clause-refusal c).In_ok-heading).none

pub returns-clause-read : goal.returns-clause-read
returns-clause-read c =
    let read = says (goal.at.returns-clause-read c).In_ok-heading in
    (sym read.player_is, sym read.board_is, c.part_from.ensures ∙ sym read.rest_is)
