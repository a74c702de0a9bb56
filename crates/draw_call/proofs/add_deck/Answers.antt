use mathlib.Core.Path.{◌≡◌, refl, sym, ◌∙◌}
use Prim.Native.Nat.{ℕ, ◌+◌, ◌*◌, ◌-◌, ◌≤◌, ◌<◌, min}
use native.Mathlib.Omega.{arith}
use lib.ListN.{length, take, drop}
use lib.Seq.{length-take-le}
use Rattle.xor.proofs.Laws.{good_by_entries}
use Rattle.writer.proofs.Cuts.{rest_is, rest_long}
use Rattle.seed_rows.specs.Rows.{rule}
use Rattle.grid.specs.Grid.{Board, board, grid_rows}
use Rattle.grid.specs.Code.{board_of}
use Rattle.open_key.specs.Opened.{entries_long}
use Rattle.open_key.proofs.Bodies.{board_known, body_known}
use Rattle.open_key.proofs.GridRows.{row_begins, expansion}
use Rattle.cards.proofs.Decks.{none_picked}
use Rattle.draw_call.proofs.Rows.{deck_picked, row_count, row_cards, row_turn}
use Rattle.draw_call.proofs.add_deck.Goals as goal
use Rattle.draw_call.proofs.add_deck.Goals.{After-min-count, In-loop-grid_row, Start}

abbrev its_board : Start → Board
its_board s = board_of s.args.body.now.board

one_byte : (s : Start) → (its_board s).w ≡ 1
unfolding board
one_byte s = s.requires.0

deck_long : (s : Start) → length s.args.deck.now ≡ (its_board s).n * length s.args.sum.now
unfolding board
deck_long s = s.requires.1

pub returns : goal.returns
unfolding board
returns c =
    let s = (goal.at.returns c).Start in
    let b = its_board s in
    let body = s.args.body.now in
    let l = c.loop-grid_row in
    deck_picked b (one_byte s) (rule b) body.bytes.now (board_known body) (expansion b) (body_known body) _ s.args.sum.now s.args.deck.now l.sum
    l.grid_row (deck_long s) (omega (arith, c.loop-grid_row-test.false, l.auto.grid_row-end, c.grid_rows-grid_row-end.ensures)) l.invariant

-- in a turn the grid row exists, and its cards stand in the deck
inside : (c : In-loop-grid_row) → c.loop-grid_row.grid_row < grid_rows (its_board (goal.at.In-loop-grid_row c).Start)
inside c = omega (arith, c.loop-grid_row-test.true, c.grid_rows-grid_row-end.ensures)

at_within : (c : In-loop-grid_row) → let board = c.args.body.now.board in c.loop-grid_row.grid_row * board.width ≤ board.positions
unfolding board
at_within c =
    let s = (goal.at.In-loop-grid_row c).Start in
    omega (arith, row_begins (its_board s) (board_known s.args.body.now) c.loop-grid_row.grid_row (inside c))

turn_count : (c : After-min-count) → c.min-count.result ≡ entries_long (its_board (goal.at.After-min-count c).Start) c.loop-grid_row.grid_row
unfolding board
turn_count c =
    let at = goal.at.After-min-count c in
    let s = at.Start in
    row_count (its_board s) (one_byte s) (board_known s.args.body.now) c.loop-grid_row.grid_row _ _ (inside at.In-loop-grid_row) refl c.min-count.ensures

turn_cards : (c : After-min-count) → let card = length c.args.sum.now in
    c.loop-grid_row.grid_row * c.args.body.now.board.width * card + c.min-count.result * card ≤ length c.args.deck.now
unfolding board
turn_cards c =
    let at = goal.at.After-min-count c in
    let s = at.Start in
    row_cards (its_board s) (one_byte s) (board_known s.args.body.now) c.loop-grid_row.grid_row _ _ (inside at.In-loop-grid_row) refl
    c.min-count.ensures (length s.args.sum.now) s.args.deck.now (deck_long s)

-- no more than the shares have room for
count_most : (c : After-min-count) → c.min-count.result ≤ length c.loop-grid_row.shares
unfolding board
count_most c = omega (arith, c.min-count.ensures, (board_known c.args.body.now).wide_most, c.loop-grid_row.auto.shares, c.requires.2)

pub loop-grid_row-preserved : goal.loop-grid_row-preserved
unfolding board
loop-grid_row-preserved c =
    let done = c.add_grid_row in
    let l = c.loop-grid_row in
    let turn = goal.at.loop-grid_row-preserved c in
    let s = turn.Start in
    let b = its_board s in
    let body = s.args.body.now in
    let card = length s.args.sum.now in
    let at = l.grid_row * body.board.width in
    let long = l.invariant.word.long in
    row_turn b (one_byte s) (rule b) body.bytes.now (board_known body) (expansion b) (body_known body) l.grid_row at c.min-count.result
    (inside turn.In-loop-grid_row) refl c.min-count.ensures card s.args.sum.now s.args.deck.now l.sum done.new.sum
    (take (length s.args.deck.now - at * card) (drop (at * card) s.args.deck.now)) (deck_long s) l.invariant done.auto.sum
    (rest_is (at * card) s.args.deck.now) (done.ensures ∙ rw long refl)

pub loop-grid_row-init : goal.loop-grid_row-init
loop-grid_row-init c =
    let none : (wide n : ℕ) → min (0 * wide) n ≡ 0 = λ wide n. omega arith in
    rw none (none_picked _ _ _ _ (record { long = refl; good = good_by_entries _ (λ i within. (c.type_inv.sum i).fits) }))

pub overflow_mul-at : goal.overflow_mul-at
unfolding board
overflow_mul-at c = omega (arith, at_within c, (board_known c.args.body.now).positions_most)

pub overflow_sub-positions : goal.overflow_sub-positions
overflow_sub-positions c = at_within c

pub slice_bounds-add_grid_row-end : goal.slice_bounds-add_grid_row-end
slice_bounds-add_grid_row-end c = count_most c

pub slice_bounds-add_grid_row-end-in-loop-grid_row : goal.slice_bounds-add_grid_row-end-in-loop-grid_row
slice_bounds-add_grid_row-end-in-loop-grid_row c =
    let most = count_most (goal.at.slice_bounds-add_grid_row-end-in-loop-grid_row c).After-min-count in
    sym (length-take-le c.min-count.result c.loop-grid_row.shares most)

pub overflow_mul-at-in-loop-grid_row : goal.overflow_mul-at-in-loop-grid_row
overflow_mul-at-in-loop-grid_row c = omega (arith, turn_cards (goal.at.overflow_mul-at-in-loop-grid_row c).After-min-count)

pub slice_bounds-add_grid_row-count : goal.slice_bounds-add_grid_row-count
slice_bounds-add_grid_row-count c = omega (arith, turn_cards (goal.at.slice_bounds-add_grid_row-count c).After-min-count)

pub slice_bounds-add_grid_row-start : goal.slice_bounds-add_grid_row-start
slice_bounds-add_grid_row-start c = omega (arith, turn_cards (goal.at.slice_bounds-add_grid_row-start c).After-min-count)

pub add_grid_row-requires : goal.add_grid_row-requires
add_grid_row-requires c =
    let l = c.loop-grid_row in
    let turn = goal.at.add_grid_row-requires c in
    let s = turn.Start in
    let card = length s.args.sum.now in
    let at = l.grid_row * s.args.body.now.board.width in
    let shares_long = length-take-le c.min-count.result l.shares (count_most turn.After-min-count) in
    let long = l.invariant.word.long in (
      inside turn.In-loop-grid_row,
      shares_long ∙ turn_count turn.After-min-count,
      rw (shares_long, long) (rest_long (at * card) (c.min-count.result * card) s.args.deck.now (turn_cards turn.After-min-count)),
    )
