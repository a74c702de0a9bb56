-- `draw_call::asked::draw_refusal` meets its contract: each answer is a link of the chain. Assumes nothing.
use Prim.Native.Nat.{◌*◌, ◌≤◌}
use native.Mathlib.Nat.{mul-le-mul}
use native.Mathlib.Omega.{arith}
use Rattle.grid.specs.Grid.{board}
use Rattle.grid.specs.Code.{board_of}
use Rattle.grid.proofs.Facts.{board_in}
use Rattle.grid.proofs.Refusing.{In, in_range, passed, failed}
use Rattle.call_answers.proofs.Drawing.{draw_21, draw_22_long, draw_22_deck, draw_9, draw_0}
use Rattle.draw_call.proofs.asked.draw_refusal.Goals as goal
use Rattle.draw_call.proofs.asked.draw_refusal.Goals.{Else-not-share_bytes_fit}

-- what each test has shown where it was passed
long_in : (c : Else-not-share_bytes_fit) → In 1 c.args.card_bytes 256
long_in c = passed c.share_bytes_fit.ensures c.if-not-share_bytes_fit.false

pub returns-then-board-ne1 : goal.returns-then-board-ne1
unfolding board
returns-then-board-ne1 c = draw_21 (board_of c.args.board) _ _ _ c.if-board-ne1.true

pub returns-then-not-share_bytes_fit : goal.returns-then-not-share_bytes_fit
unfolding board
returns-then-not-share_bytes_fit c =
    draw_22_long (board_of c.args.board) _ _ _ c.if-board-ne1.false
    (failed c.share_bytes_fit.ensures c.if-not-share_bytes_fit.true)

pub returns-then-deck-board : goal.returns-then-deck-board
unfolding board
returns-then-deck-board c =
    let a = c.args in
    let long = long_in (goal.at.returns-then-deck-board c).Else-not-share_bytes_fit in
    draw_22_deck (board_of a.board) a.card_bytes a.deck a.room c.if-board-ne1.false long (λ same. omega (arith, c.if-deck-board))

pub returns-then-room-card : goal.returns-then-room-card
unfolding board
returns-then-room-card c =
    let a = c.args in
    let long = long_in (goal.at.returns-then-room-card c).Else-not-share_bytes_fit in
    draw_9 (board_of a.board) a.card_bytes a.deck a.room c.if-board-ne1.false long (omega (arith, c.if-deck-board)) (omega (arith, c.if-room-card))

pub returns : goal.returns
unfolding board
returns c =
    let a = c.args in
    let long = long_in (goal.at.returns c).Else-not-share_bytes_fit in
    draw_0 (board_of a.board) a.card_bytes a.deck a.room c.if-board-ne1.false long (omega (arith, c.if-deck-board)) (omega (arith, c.if-room-card))

-- the largest deck
most : (c : Else-not-share_bytes_fit) → let a = c.args in a.board.positions * a.card_bytes ≤ 16777216
unfolding board
most c =
    mul-le-mul (board_in (board_of c.args.board) c.args.board.accepted).positions_most (in_range 1 c.args.card_bytes 256 (long_in c)).1

pub overflow_mul-board : goal.overflow_mul-board
overflow_mul-board c = omega (arith, most (goal.at.overflow_mul-board c).Else-not-share_bytes_fit)
