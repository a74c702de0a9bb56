-- `draw_call::add_deck` meets its contract. The loop's invariant: what the grid rows that are done pick is in the sum, and with what is left
-- it makes the whole. Assumes nothing.
use Prim.Native.Nat.{◌*◌, min}
use Rattle.seed_rows.specs.Rows.{rule}
use Rattle.grid.specs.Code.{board_of}
use Rattle.open_key.specs.Opened.{table_of}
use Rattle.cards.proofs.Decks.{Remaining}
use Rattle.draw_call.proofs.add_deck.Given as goal

abbrev pub invariant-loop-grid_row : goal.invariant-loop-grid_row
invariant-loop-grid_row l =
    let b = board_of l.body.board in
    Remaining l.card l.initial.sum (table_of b (rule b) l.body.bytes.now) l.deck l.sum (min (l.grid_row * l.width) l.positions)
