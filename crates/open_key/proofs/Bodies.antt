-- What an accepted body gives: its board and its bytes are in order, and a square's share is a stretch of its grid row's shares; and what
-- stands in a lent list when something was written in front. Assumes nothing.
use mathlib.Core.Path.{◌≡◌, sym, ◌∙◌}
use mathlib.Core.List.{List}
use Prim.Native.Nat.{ℕ, ◌+◌, ◌*◌, ◌/◌, ◌%◌, ◌≤◌}
use native.Mathlib.Omega.{arith}
use lib.ListN.{length, take}
use lib.Seq.{length-take-le}
use Rattle.xor.specs.Xor.{xors, zeros}
use Rattle.xor.proofs.Laws.{word_zeros}
use Rattle.chacha20.specs.Expand.{expand}
use Rattle.grid.specs.Grid.{Board, columns, row_long}
use Rattle.grid.specs.Code.{board_of}
use Rattle.grid.proofs.Facts.{BoardIn, board_in, cell_in, cell_fits}
use Rattle.keys.specs.Keys.{count_marks, grid_row_part}
use Rattle.keys.proofs.Accepted.{BodyIn, body_good}
use Rattle.key_check.specs.declared.body.Body.{Body}
use Rattle.open_grid_row.specs.Shares.{shares}
use Rattle.open_grid_row.proofs.Halves.{shares_fresh}
use Rattle.open_key.specs.Opened.{square_of}
use Rattle.open_key.proofs.Tables.{opened_shares}

-- what is known of a body by its type
pub board_known : (body : Body) → BoardIn (board_of body.board)
board_known body = board_in _ body.board.accepted

pub body_known : (body : Body) → BodyIn (board_of body.board) body.bytes.now
body_known body = body_good _ _ body.accepted body.good

-- a cell lies in its row
pub cell_within : (b : Board) → BoardIn b → (a : ℕ) → a % b.wide * b.w + b.w ≤ row_long b
cell_within b f a = omega (arith, cell_fits b (a % b.wide) (cell_in b f a))

-- OUTPUT: what is written in front of a lent list

pub prefix_long : (n : ℕ) (xs : List ℕ) → n ≤ length xs → n ≡ length (take n xs)
prefix_long n xs h = sym (length-take-le n xs h)

-- what is added to zeros is the square's share: its grid row, its place there and its length are the code's numbers
pub square_added : (b : Board) (bs old cleared now part : List ℕ) (a g from : ℕ) → cleared ≡ zeros (length old) →
    now ≡ xors cleared (shares b (expand (row_long b)) part g from (length cleared)) → part ≡ grid_row_part b bs g →
    count_marks (columns b) 0 part ≡ columns b / 2 →
    from + b.w ≤ row_long b → g ≡ a / b.wide → from ≡ a % b.wide * b.w → length old ≡ b.w → now ≡ square_of b (expand (row_long b)) bs a
unfolding square_of
square_added b bs old cleared now part a g from clear is p marks room row place long =
    let all : length cleared ≡ b.w = rw clear (word_zeros (length old)).long ∙ long in
    let fresh : xors cleared (shares b (expand (row_long b)) part g from (length cleared)) ≡ shares b (expand (row_long b)) part g from b.w =
    rw (all, clear, long) (shares_fresh b part g from b.w room marks) in
    let square = opened_shares b (expand (row_long b)) (grid_row_part b bs (a / b.wide)) a in
    is ∙ ◌∙◌ {b = shares b (expand (row_long b)) part g from b.w} fresh (rw (p, row, place) (sym square))
