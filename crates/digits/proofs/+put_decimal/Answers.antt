use mathlib.Core.Path.{sym, ap, subst}
use mathlib.Core.List.{List, [], ◌∷◌}
use native.Mathlib.Omega.{arith}
use Prim.Native.Nat.{ℕ, ◌+◌, ◌/◌, ◌%◌}
use lib.ListN.{length}
use Rattle.writer.specs.Written.{Wrote}
use Rattle.digits.specs.Digits.{decimal}
use Rattle.writer.proofs.Laws.{wrote_more}
use Rattle.digits.proofs.Laws.{decimal_one, decimal_more, length_more}
use Rattle.digits.proofs.+put_decimal.Goals as goal

pub put_byte-requires : goal.put_byte-requires
put_byte-requires t c =
    let one = ap length (decimal_one c.args.number (omega arith)) in
    omega (arith, c.requires)

pub returns-then-number-lt10 : goal.returns-then-number-lt10
returns-then-number-lt10 t c =
    let a = c.args in
    subst (λ (l : List ℕ). Wrote a.at l c.put_byte.result a.out.now c.put_byte.new.out) (sym (decimal_one a.number (omega arith))) c.put_byte.ensures

pub put_decimal-next-requires : goal.put_decimal-next-requires
put_decimal-next-requires t c =
    let more = length_more c.args.number (omega arith) (omega arith) in
    (omega arith, omega arith)

pub put_byte-requires-2 : goal.put_byte-requires-2
put_byte-requires-2 t c =
    let more = length_more c.args.number (omega arith) (omega arith) in
    let p = c.put_decimal-next in
    omega (arith, p.ensures.next_is, p.auto.out, c.requires)

pub returns : goal.returns
returns t c =
    let v = c.args.number in
    wrote_more (decimal (v / 10)) ((48 + v % 10) ∷ []) (decimal v) (decimal_more v (omega arith) (omega arith)) c.requires c.put_decimal-next.ensures c.put_byte-2.ensures
