-- `text::put_table` meets its contract: the line of the board, then those of the positions. Assumes nothing.
use native.Mathlib.Omega.{arith}
use Rattle.text.specs.Text.{board_line, position_lines, table_text}
use Rattle.writer.proofs.Laws.{wrote_then}
use Rattle.text.proofs.Laws.{table_text_length}
use Rattle.text.proofs.put_table.Goals as goal

pub put_board_line-next-requires : goal.put_board_line-next-requires
put_board_line-next-requires c =
    let a = c.args in
    omega (arith, c.requires.1, table_text_length a.players a.positions a.value_bytes a.table.now)

pub put_position_lines-requires : goal.put_position_lines-requires
put_position_lines-requires c =
    let a = c.args in
    let p = c.put_board_line-next in
    (c.requires.0, omega (arith, p.ensures.next_is, p.auto.out, c.requires.1, table_text_length a.players a.positions a.value_bytes a.table.now))

pub returns : goal.returns
unfolding table_text
returns c =
    let a = c.args in
    wrote_then (board_line a.players a.positions a.value_bytes) (position_lines a.positions 0 a.value_bytes a.table.now)
    (omega (arith, c.requires.1, table_text_length a.players a.positions a.value_bytes a.table.now)) c.put_board_line-next.ensures c.put_position_lines.ensures
