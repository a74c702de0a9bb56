-- `digits::put_in_five_places` meets its contract: five bytes, each the digit or the space of its place. Assumes nothing.
use native.Mathlib.Omega.{arith}
use Rattle.digits.proofs.Laws.{wrote_five}
use Rattle.digits.proofs.put_in_five_places.Goals as goal

pub returns : goal.returns
returns c =
    wrote_five c.args.number _ _ _ _ _ (omega arith) c.requires.0 c.requires.1
    c.digit_or_space.ensures c.digit_or_space-2.ensures c.digit_or_space-3.ensures
    c.digit_or_space-4.ensures (omega arith)
    c.put_byte-next.ensures c.put_byte-next-2.ensures c.put_byte-next-3.ensures c.put_byte-next-4.ensures c.put_byte.ensures
