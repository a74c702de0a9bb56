-- `text::put_refused_line` meets its contract: the word with its number, and the line feed. Assumes nothing.
use native.Mathlib.Omega.{arith}
use Rattle.text.specs.Text.{named, refused_line, text_refused, line_feed}
use Rattle.writer.proofs.Laws.{wrote_then}
use Rattle.text.proofs.Laws.{refused_length}
use Rattle.text.proofs.put_refused_line.Goals as goal

pub put_named-next-requires : goal.put_named-next-requires
put_named-next-requires c =
    let a = c.args in
    omega (arith, c.requires, refused_length a.refusal)

pub put_byte-requires : goal.put_byte-requires
put_byte-requires c =
    let a = c.args in
    let p = c.put_named-next in
    omega (arith, c.requires, refused_length a.refusal, p.ensures.next_is, p.auto.out)

pub returns : goal.returns
unfolding refused_line
returns c =
    let a = c.args in
    wrote_then (named text_refused a.refusal) line_feed (omega (arith, c.requires, refused_length a.refusal)) c.put_named-next.ensures c.put_byte.ensures
