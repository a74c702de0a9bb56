-- `text::put_board_line` meets its contract: three words with their numbers, and the line feed. Assumes nothing.
use native.Mathlib.Omega.{arith}
use Rattle.text.specs.Text.{named, board_line, text_players, text_squares, text_width, line_feed}
use Rattle.text.proofs.Laws.{board_length, wrote_four}
use Rattle.text.proofs.put_board_line.Goals as goal

pub put_named-next-requires : goal.put_named-next-requires
put_named-next-requires c =
    let a = c.args in
    omega (arith, c.requires, board_length a.players a.positions a.value_bytes)

pub put_named-next-requires-2 : goal.put_named-next-requires-2
put_named-next-requires-2 c =
    let a = c.args in
    let p = c.put_named-next in
    omega (arith, c.requires, board_length a.players a.positions a.value_bytes, p.ensures.next_is, p.auto.out)

pub put_named-next-requires-3 : goal.put_named-next-requires-3
put_named-next-requires-3 c =
    let a = c.args in
    let p = c.put_named-next in
    let q = c.put_named-next-2 in
    omega (arith, c.requires, board_length a.players a.positions a.value_bytes, p.ensures.next_is, p.auto.out, q.ensures.next_is, q.auto.out)

pub put_byte-requires : goal.put_byte-requires
put_byte-requires c =
    let a = c.args in
    let p = c.put_named-next in
    let q = c.put_named-next-2 in
    let r = c.put_named-next-3 in
    omega (arith, c.requires, board_length a.players a.positions a.value_bytes, p.ensures.next_is, p.auto.out, q.ensures.next_is, q.auto.out, r.ensures.next_is, r.auto.out)

pub returns : goal.returns
unfolding board_line
returns c =
    let a = c.args in
    wrote_four (named text_players a.players) (named text_squares a.positions) (named text_width a.value_bytes) line_feed c.requires c.put_named-next.ensures c.put_named-next-2.ensures c.put_named-next-3.ensures c.put_byte.ensures
