-- `draw_call::draw_card` meets its contract. Assumes nothing.
use mathlib.Core.Path.{◌≡◌, refl, sym, ap, ◌∙◌}
use Prim.Native.Nat.{ℕ, ◌*◌, ◌≤◌}
use native.Mathlib.Omega.{arith}
use lib.ListN.{length}
use lib.Seq.{length-take-le}
use Rattle.std.proofs.Common.{rules, Err}
use Rattle.refusal.proofs.Numbers.{number_some}
use Rattle.writer.proofs.Laws.{in_front_part}
use Rattle.grid.specs.Grid.{board}
use Rattle.grid.specs.Code.{board_of}
use Rattle.call_answers.specs.Answers.{DrawSays}
use Rattle.call_answers.proofs.Answering.{put_first}
use Rattle.call_answers.proofs.Drawing.{draw_fits}
use Rattle.draw_call.proofs.Saying.{draw_refused, card_drawn}
use Rattle.draw_call.proofs.draw_card.Goals as goal
use Rattle.draw_call.proofs.draw_card.Goals.{In_ok-draw_refusal}

pub returns-in_err-body : goal.returns-in_err-body
unfolding DrawSays
returns-in_err-body c =
    let is : c.from_residual.result ≡ Err c.in_err-body.field-0.0 = search rules in
    rw is (put_first _ _ c.in_err-body.ensures.refusal _ _ _)

pub returns-in_err-draw_refusal : goal.returns-in_err-draw_refusal
returns-in_err-draw_refusal c =
    let is : c.from_residual-in_err-draw_refusal.result ≡ Err c.in_err-draw_refusal.field-0.0 = search rules in
    let key = c.in_ok-body.ensures in
    rw is (draw_refused _ key.refusal c.in_ok-body.field-0-0 c.in_ok-body.body key.read _ _ _ _ c.in_err-draw_refusal.ensures (number_some _))

-- what is known where nothing refuses
fits : (c : In_ok-draw_refusal) → let board = c.in_ok-body.body.board in let a = c.args in
    (board.value_bytes ≡ 1) × (a.card_bytes ≤ 256) × (length a.deck.now ≡ board.positions * a.card_bytes) × (a.card_bytes ≤ length a.output.now)
unfolding board
fits c =
    let a = c.args in
    draw_fits (board_of c.in_ok-body.body.board) a.card_bytes (length a.deck.now) (length a.output.now) (sym c.in_ok-draw_refusal.ensures)

pub returns : goal.returns
returns c =
    let key = c.in_ok-body.ensures in
    let out = c.args.output.now in
    let long = length-take-le c.args.card_bytes out (fits (goal.at.returns c).In_ok-draw_refusal).3 in
    card_drawn _ key.refusal c.in_ok-body.field-0-0 c.in_ok-body.body key.read _ _ _ _ _ _
    (in_front_part _ _ out c.args.card_bytes (c.fill_drawn.auto.out ∙ long) c.fill_drawn.ensures) long refl c.in_ok-draw_refusal.ensures

pub slice_bounds-fill_drawn-end : goal.slice_bounds-fill_drawn-end
slice_bounds-fill_drawn-end c = (fits (goal.at.slice_bounds-fill_drawn-end c).In_ok-draw_refusal).3

pub slice_bounds-fill_drawn-end-2 : goal.slice_bounds-fill_drawn-end-2
slice_bounds-fill_drawn-end-2 c = sym (length-take-le _ _ (fits (goal.at.slice_bounds-fill_drawn-end-2 c).In_ok-draw_refusal).3)

pub fill_drawn-requires : goal.fill_drawn-requires
fill_drawn-requires c =
    let f = fits (goal.at.fill_drawn-requires c).In_ok-draw_refusal in
    let long = length-take-le c.args.card_bytes c.args.output.now f.3 in
    (f.0, f.2 ∙ ap (λ (n : ℕ). c.in_ok-body.body.board.positions * n) (sym long), omega (arith, long, f.1))
