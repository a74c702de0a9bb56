-- `text::put_named` meets its contract: the word, then its number. Assumes nothing.
use native.Mathlib.Omega.{arith}
use Rattle.digits.specs.Digits.{decimal}
use Rattle.text.specs.Text.{named}
use Rattle.writer.proofs.Laws.{wrote_then}
use Rattle.text.proofs.Laws.{named_length}
use Rattle.text.proofs.put_named.Goals as goal

pub put-next-requires : goal.put-next-requires
put-next-requires c =
    let a = c.args in
    omega (arith, c.requires, named_length a.word.now a.number)

pub put_decimal-requires : goal.put_decimal-requires
put_decimal-requires c =
    let a = c.args in
    let p = c.put-next in
    omega (arith, c.requires, named_length a.word.now a.number, p.ensures.next_is, p.auto.out)

pub returns : goal.returns
unfolding named
returns c =
    let a = c.args in
    wrote_then a.word.now (decimal a.number) (omega (arith, c.requires, named_length a.word.now a.number)) c.put-next.ensures c.put_decimal.ensures
