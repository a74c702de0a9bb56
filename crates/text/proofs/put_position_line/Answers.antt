-- `text::put_position_line` meets its contract: the number, a space, the value, and the line feed. Assumes nothing.
use mathlib.Core.List.{[], ◌∷◌}
use native.Mathlib.Omega.{arith}
use Rattle.digits.specs.Digits.{decimal, hex}
use Rattle.digits.proofs.Laws.{hex_long}
use Rattle.text.specs.Text.{position_line, line_feed}
use Rattle.text.proofs.Laws.{line_length, wrote_four}
use Rattle.text.proofs.put_position_line.Goals as goal

pub put_decimal-next-requires : goal.put_decimal-next-requires
put_decimal-next-requires c =
    let a = c.args in
    omega (arith, c.requires, line_length a.position a.value.now)

pub put_byte-next-requires : goal.put_byte-next-requires
put_byte-next-requires c =
    let a = c.args in
    let p = c.put_decimal-next in
    omega (arith, c.requires, line_length a.position a.value.now, p.ensures.next_is, p.auto.out)

pub put_hex-next-requires : goal.put_hex-next-requires
put_hex-next-requires c =
    let a = c.args in
    let p = c.put_decimal-next in
    let q = c.put_byte-next in
    omega (arith, c.requires, line_length a.position a.value.now, hex_long a.value.now, p.ensures.next_is, p.auto.out, q.ensures.next_is, q.auto.out)

pub put_byte-requires : goal.put_byte-requires
put_byte-requires c =
    let a = c.args in
    let p = c.put_decimal-next in
    let q = c.put_byte-next in
    let r = c.put_hex-next in
    omega (arith, c.requires, line_length a.position a.value.now, hex_long a.value.now, p.ensures.next_is, p.auto.out, q.ensures.next_is, q.auto.out, r.ensures.next_is, r.auto.out)

pub returns : goal.returns
unfolding position_line
returns c =
    let a = c.args in
    wrote_four (decimal a.position) (32 ∷ []) (hex a.value.now) line_feed c.requires c.put_decimal-next.ensures c.put_byte-next.ensures c.put_hex-next.ensures c.put_byte.ensures
