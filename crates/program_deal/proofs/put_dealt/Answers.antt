-- `program_deal::put_dealt` meets its contract: each number is that of the chain, and what Deal says of an output of the most bytes. Assumes nothing.
use mathlib.Core.Path.{◌≡◌, refl, sym, ap, ◌∙◌}
use Prim.Native.Nat.{ℕ, ◌*◌}
use native.Mathlib.Omega.{arith}
use borrow.Author.Rules.{rules}
use Rattle.std.proofs.Common.{Ok, Err}
use Rattle.refusal.specs.declared.Refusal.{Refusal}
use Rattle.refusal.specs.Refusing.{refusal_number}
use Rattle.refusal.proofs.Numbers.{number_some}
use Rattle.grid.specs.Grid.{Board, board}
use Rattle.grid.specs.Code.{board_of}
use Rattle.keys.specs.Keys.{key_long}
use Rattle.key_header.specs.Answers.{five_at, five_of}
use Rattle.key_header.proofs.Reading.{five_inside, one_broken, all_five}
use Rattle.call_answers.proofs.Sizes.{keys_most}
use Rattle.program_output.proofs.Writing.{writes_as}
use Rattle.program_deal.proofs.Dealings.{broken_input, refused_input, asked_input, asked_board, asked_fine, dealt_written, dealt_refused}
use Rattle.program_deal.proofs.put_dealt.Goals as goal
use Rattle.program_deal.proofs.put_dealt.Goals.{In_ok-read, In_ok-board, In_ok-asked_refusal}

-- the five numbers are there
read : (c : In_ok-read) → five_of (Ok c.in_ok-read.read) ≡ five_at c.args.input.now
read c = all_five _ _ c.five_numbers.ensures _ _ c.in_ok-read.ensures

pub returns-in_err-read : goal.returns-in_err-read
returns-in_err-read c =
    let is : c.from_residual.result ≡ Err c.in_err-read.field-0.0 = search rules in
    let broken = one_broken _ _ c.five_numbers.ensures _ _ c.in_err-read.ensures in
    rw (is, broken.0) (broken_input _ _ refl broken.1, refl)

pub returns-in_err-board : goal.returns-in_err-board
returns-in_err-board c =
    let r = c.in_err-board.field-0.0 in
    let is : c.from_residual-in_err-board.result ≡ Err r = search rules in
    let asked = asked_board _ _ _ _ (refusal_number r) c.in_err-board.ensures.refusal (number_some r) in
    rw is (refused_input _ _ (read (goal.at.returns-in_err-board c).In_ok-read) refl _ refl (refusal_number r) asked (number_some r), refl)

pub slice_bounds-rest-count : goal.slice_bounds-rest-count
slice_bounds-rest-count c = five_inside _ _ (read (goal.at.slice_bounds-rest-count c).In_ok-read)

pub slice_bounds-rest-start : goal.slice_bounds-rest-start
slice_bounds-rest-start c = five_inside _ _ (read (goal.at.slice_bounds-rest-start c).In_ok-read)

pub returns-in_err-asked_refusal : goal.returns-in_err-asked_refusal
returns-in_err-asked_refusal c =
    let r = c.in_err-asked_refusal.field-0.0 in
    let is : c.from_residual-in_err-asked_refusal.result ≡ Err r = search rules in
    rw is (
      refused_input _ _ (read (goal.at.returns-in_err-asked_refusal c).In_ok-read) refl _ c.in_ok-board.ensures.numbers (refusal_number r)
          c.in_err-asked_refusal.ensures (number_some r),
      refl,
    )

pub deal_parts-requires : goal.deal_parts-requires
deal_parts-requires c = (asked_fine _ _ _ _ (sym c.in_ok-asked_refusal.ensures)).2

pub returns-in_err-deal_parts : goal.returns-in_err-deal_parts
unfolding board
returns-in_err-deal_parts c =
    let b = c.in_ok-board.board in
    let r = c.in_err-deal_parts.field-0.0 in
    let is : c.from_residual-in_err-deal_parts.result ≡ Err r = search rules in
    let asked = sym c.in_ok-asked_refusal.ensures in
    let output = asked_input _ _ (read (goal.at.returns-in_err-deal_parts c).In_ok-read) refl _ c.in_ok-board.ensures.numbers asked in
    let fine = asked_fine _ _ _ _ asked in
    let refused = dealt_refused (board_of b) _ _ fine.0 fine.1 fine.2 (refusal_number r) c.args.output.now _ c.requires
    c.in_err-deal_parts.ensures (number_some r) in
    rw is (output ∙ refused.0, refused.1)

pub overflow_mul-result : goal.overflow_mul-result
unfolding board
overflow_mul-result c =
    let b = board_of c.in_ok-board.board in
    let e : c.in_ok-board.board.players * c.key_length.result ≡ b.p * key_long b = ap (λ (n : ℕ). c.in_ok-board.board.players * n) c.key_length.ensures in
    omega (arith, e, keys_most b c.in_ok-board.board.accepted)

pub returns : goal.returns
unfolding board
returns c =
    let b = c.in_ok-board.board in
    let asked = sym c.in_ok-asked_refusal.ensures in
    let output = asked_input _ _ (read (goal.at.returns c).In_ok-read) refl _ c.in_ok-board.ensures.numbers asked in
    let fine = asked_fine _ _ _ _ asked in
    writes_as _ _ _ _ _ output
    (dealt_written (board_of b) _ _ fine.0 fine.1 fine.2 0 c.args.output.now _ c.requires c.in_ok-deal_parts.ensures _
    (ap (λ (n : ℕ). b.players * n) c.key_length.ensures) refl)
