use mathlib.Core.Path.{◌≡◌, ◌∙◌}
use mathlib.Core.List.{List}
use Prim.Native.Nat.{ℕ, ◌+◌, ◌*◌, ◌-◌, ◌/◌, ◌%◌, ◌≤◌}
use native.Mathlib.Omega.{arith}
use lib.ListN.{length}
use borrow.Author.Rules.{rules}
use borrow.Rule.Slice.PartMut.{mid_len, same_len_mid}
use Rattle.xor.specs.Xor.{xors}
use Rattle.xor.proofs.Walks.{Gone, none_gone, all_gone, xored_long, next_xored}
use Rattle.cards.specs.Cards.{picked}
use Rattle.cards.proofs.Decks.{picked_word}
use Rattle.cards.proofs.add_two.Goals as goal
use Rattle.cards.proofs.add_two.Goals.{In-loop-done, Start}

-- what is picked is as long as a card
abbrev row : Start → List ℕ
row c = let a = c.args in picked (length a.sum.now) a.wanted.now a.cards.now

row_long : (c : Start) → length (row c) ≡ length c.args.sum.now
row_long c = let a = c.args in (picked_word (length a.sum.now) a.wanted.now a.cards.now (rw c.requires.1 c.requires.2)).long

pub returns : goal.returns
returns c =
    let put = c.add_stretch-2 in
    let l = c.loop-done in
    let old = c.args.sum.now in
    let so_far = l.invariant.2 in
    let same = so_far.same in
    let whole = length old / 16 * 16 in
    let here : l.done ≡ whole = omega (arith, c.loop-done-test, l.invariant.0) in
    let end = length l.sum in
    let long = row_long (goal.at.returns c).Start in
    let last = next_xored (row (goal.at.returns c).Start) old l.sum whole long (rw here at so_far) end put.new.sum (omega arith) (omega arith)
    put.auto.sum (put.ensures ∙ rw (mid_len whole end l.sum (omega arith))) in
    all_gone _ old _ end (xored_long (row (goal.at.returns c).Start) old long) last (omega (arith, last.same))

pub loop-done-preserved : goal.loop-done-preserved
loop-done-preserved c =
    let put = c.add_stretch in
    let l = c.loop-done in
    let old = c.args.sum.now in
    let end = l.done + 16 in
    let so_far = l.invariant.2 in
    let same = so_far.same in
    let test = c.loop-done-test in (
      omega (arith, test, l.invariant.1),
      omega (arith, l.invariant.1),
      next_xored (row (goal.at.loop-done-preserved c).Start) old l.sum l.done (row_long (goal.at.loop-done-preserved c).Start) so_far end put.new.sum (omega arith) (omega (arith, test, l.invariant.1))
          put.auto.sum (put.ensures ∙ rw (mid_len l.done end l.sum (omega (arith, test, l.invariant.1)))),
    )

pub loop-done-init : goal.loop-done-init
loop-done-init c = (omega arith, omega arith, none_gone _ _)

-- in a turn there are as many bytes as are gone over at once
room : (c : In-loop-done) → c.loop-done.done + 16 ≤ length c.loop-done.sum
room c =
    let l = c.loop-done in
    let so_far = l.invariant.2 in
    omega (arith, so_far.same, c.loop-done-test, l.invariant.1, l.invariant.0)

pub overflow_add-end : goal.overflow_add-end
overflow_add-end c = omega (arith, room c)

pub slice_bounds-add_stretch-end : goal.slice_bounds-add_stretch-end
slice_bounds-add_stretch-end c = room c

pub add_stretch-requires : goal.add_stretch-requires
add_stretch-requires c =
    let l = c.loop-done in
    let so_far = l.invariant.2 in
    (c.requires.0, c.requires.1, c.requires.2, omega (arith, mid_len l.done (l.done + 16) l.sum (room (goal.at.add_stretch-requires c).In-loop-done), room (goal.at.add_stretch-requires c).In-loop-done, so_far.same))

pub slice_bounds-add_stretch-count-2 : goal.slice_bounds-add_stretch-count-2
slice_bounds-add_stretch-count-2 c = let so_far = c.loop-done.invariant.2 in omega (arith, so_far.same)

pub slice_bounds-add_stretch-start-2 : goal.slice_bounds-add_stretch-start-2
slice_bounds-add_stretch-start-2 c = let so_far = c.loop-done.invariant.2 in omega (arith, so_far.same)

pub add_stretch-requires-2 : goal.add_stretch-requires-2
add_stretch-requires-2 c =
    let l = c.loop-done in
    let so_far = l.invariant.2 in
    let whole = length c.args.sum.now / 16 * 16 in
    (c.requires.0, c.requires.1, c.requires.2, omega (arith, mid_len whole (length l.sum) l.sum (omega arith), so_far.same))

pub shape_of-sum : goal.shape_of-sum
shape_of-sum c =
    let l = c.loop-done in
    let put = c.add_stretch-2 in
    let so_far = l.invariant.2 in
    let whole = length c.args.sum.now / 16 * 16 in
    same_len_mid whole (length l.sum - whole) l.sum put.new.sum put.auto.sum ∙ so_far.same
