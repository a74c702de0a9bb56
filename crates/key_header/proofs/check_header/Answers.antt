-- `key_header::check_header` meets its contract: 10 where a number is none, else the header's own number or the header. Assumes nothing.
use mathlib.Core.Path.{◌≡◌, refl, sym, ◌∙◌}
use borrow.Author.Rules.{rules}
use Rattle.std.proofs.Common.{Err}
use Rattle.refusal.specs.declared.Refusal.{Refusal}
use Rattle.key_header.specs.declared.header.Heading.{Heading}
use Rattle.key_header.proofs.Reading.{one_broken, all_five, head_broken, head_numbers, heading_read, refused_as, accepted_by}
use Rattle.key_header.proofs.check_header.Goals as goal

pub returns-in_err-read : goal.returns-in_err-read
returns-in_err-read c =
    let is : c.from_residual.result ≡ Err c.in_err-read.field-0.0 = search rules in
    let broken = one_broken _ _ c.five_numbers.ensures _ _ c.in_err-read.ensures in
    rw (is, broken.0) (refused_as _ Refusal.Number _ (sym (head_broken _ _ refl broken.1)))

pub returns-in_err-board : goal.returns-in_err-board
returns-in_err-board c =
    let is : c.from_residual-in_err-board.result ≡ Err c.in_err-board.field-0.0 = search rules in
    let read = all_five _ _ c.five_numbers.ensures _ _ c.in_ok-read.ensures in
    rw is (refused_as _ _ _ (c.in_err-board.ensures.refusal ∙ head_numbers _ _ read refl _ refl))

pub returns : goal.returns
returns c =
    let read = all_five _ _ c.five_numbers.ensures _ _ c.in_ok-read.ensures in
    let heading : Heading = record { board = c.in_ok-board.board; player = _; end = c.in_ok-read.read.end } in
    accepted_by _ heading _ (sym (c.in_ok-board.ensures.refusal ∙ head_numbers _ _ read refl _ refl))
    (heading_read _ _ read heading c.in_ok-board.ensures.numbers refl refl)
