-- `key_header::put_header` meets its contract. Assumes nothing.
use mathlib.Core.Path.{sym, ◌∙◌, subst}
use mathlib.Core.List.{List}
use Prim.Native.Nat.{ℕ, ◌+◌, ◌≤◌, ◌<◌}
use native.Mathlib.Omega.{arith}
use lib.ListN.{length, get_or}
use Rattle.writer.specs.Written.{Wrote}
use Rattle.writer.proofs.Laws.{wrote_nothing}
use Rattle.keys.specs.Keys.{numbers_written}
use Rattle.key_header.proofs.Lengths.{numbers_five, header_by, all_numbers, numbers_small, next_room, next_wrote}
use Rattle.key_header.proofs.put_header.Goals as goal
use Rattle.key_header.proofs.put_header.Goals.{After-numbers-number-items}

-- the numbers have their room, and each at most three groups
room : (c : After-numbers-number-items) → c.args.at + length (numbers_written c.numbers-number-items.result) ≤ length c.args.out.now
room c = subst (λ (bs : List ℕ). c.args.at + length bs ≤ length c.args.out.now) (sym (header_by c.args.header _ c.numbers-number-items.ensures)) c.requires.2

small : (c : After-numbers-number-items) (i : ℕ) → i < 5 → get_or c.numbers-number-items.result i 0 < 2097152
small c i h =
    subst (λ (vs : List ℕ). get_or vs i 0 < 2097152) (sym c.numbers-number-items.ensures)
    (numbers_small c.args.header c.requires.0 c.requires.1 i h)

pub loop-number-init : goal.loop-number-init
unfolding numbers_written
loop-number-init c = wrote_nothing _ _

pub put_number-next-requires : goal.put_number-next-requires
put_number-next-requires c =
    let l = c.loop-number in
    let five = numbers_five c.args.header _ c.numbers-number-items.ensures in
    let at = (goal.at.put_number-next-requires c).After-numbers-number-items in
    (small at _ (omega arith), omega (arith, next_room c.numbers-number-items.result l.number-index (omega arith) (room at) l.invariant, l.auto.out))

pub loop-number-preserved : goal.loop-number-preserved
loop-number-preserved c =
    let l = c.loop-number in
    let five = numbers_five c.args.header _ c.numbers-number-items.ensures in
    next_wrote c.numbers-number-items.result l.number-index (omega arith) (room (goal.at.loop-number-preserved c).After-numbers-number-items) l.invariant
    c.put_number-next.ensures

pub returns : goal.returns
returns c =
    let l = c.loop-number in
    let five = numbers_five c.args.header _ c.numbers-number-items.ensures in
    subst (λ (bs : List ℕ). Wrote c.args.at bs l.next c.args.out.now l.out)
    (all_numbers c.numbers-number-items.result l.number-index five (omega arith) ∙ header_by c.args.header _ c.numbers-number-items.ensures) l.invariant
