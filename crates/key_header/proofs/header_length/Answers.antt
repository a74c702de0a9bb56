-- `key_header::header_length` meets its contract. Assumes nothing.
use mathlib.Core.List.{List}
use mathlib.Core.Path.{refl, ap, ◌∙◌}
use Prim.Native.Nat.{ℕ}
use native.Mathlib.Omega.{arith}
use lib.ListN.{length}
use Rattle.keys.specs.Keys.{numbers_written}
use Rattle.key_header.proofs.Lengths.{number_short, numbers_five, header_by, next_length, all_numbers}
use Rattle.key_header.proofs.header_length.Goals as goal

pub loop-number-init : goal.loop-number-init
unfolding numbers_written
loop-number-init c = record { counted = refl; few = omega arith }

pub overflow_add-long : goal.overflow_add-long
overflow_add-long c =
    let five = numbers_five c.args.header _ c.numbers-number-items.ensures in
    omega (arith, number_short _ c.number_length-long.ensures, c.loop-number.invariant.few)

pub loop-number-preserved : goal.loop-number-preserved
loop-number-preserved c =
    let l = c.loop-number in
    let five = numbers_five c.args.header _ c.numbers-number-items.ensures in
    record {
      counted = next_length c.numbers-number-items.result l.number-index _ _ (omega arith) l.invariant.counted c.number_length-long.ensures;
      few = omega (arith, number_short _ c.number_length-long.ensures, l.invariant.few);
    }

pub returns : goal.returns
returns c =
    let numbers = c.numbers-number-items.ensures in
    let five = numbers_five c.args.header _ numbers in
    let all = all_numbers c.numbers-number-items.result c.loop-number.number-index five (omega (arith, five)) in
    c.loop-number.invariant.counted ∙ ap (λ (bs : List ℕ). length bs) (all ∙ header_by c.args.header _ numbers)
