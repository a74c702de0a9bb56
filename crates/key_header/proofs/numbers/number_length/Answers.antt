-- `key_header::numbers::number_length` meets its contract, way by way. Assumes nothing.
use mathlib.Core.Path.{sym}
use Rattle.key_header.proofs.Lengths.{one_long, two_long, three_long}
use Rattle.key_header.proofs.numbers.number_length.Goals as goal

pub returns-then-number-lt128 : goal.returns-then-number-lt128
returns-then-number-lt128 c = sym (one_long _ c.if-number-lt128.true)

pub returns-then-number-lt16384 : goal.returns-then-number-lt16384
returns-then-number-lt16384 c = sym (two_long _ c.if-number-lt128.false c.if-number-lt16384.true)

pub returns : goal.returns
returns c = sym (three_long _ c.if-number-lt16384.false)
