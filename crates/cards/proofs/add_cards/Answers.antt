use mathlib.Core.Path.{◌≡◌, refl, sym, ◌∙◌}
use Prim.Native.Nat.{ℕ, ◌+◌, ◌*◌, ◌-◌, ◌≤◌}
use native.Mathlib.Nat.{mul-le-mul_right}
use native.Mathlib.Omega.{arith}
use lib.ListN.{length, take, drop}
use Rattle.xor.proofs.Laws.{good_by_entries}
use Rattle.writer.proofs.Cuts.{part_long, part_whole, rest_is, rest_long}
use Rattle.cards.proofs.Masks.{mask_at, masks_part}
use Rattle.cards.proofs.Decks.{Remaining, none_picked, next_picked, next_card, all_picked}
use Rattle.cards.proofs.add_cards.Goals as goal
use Rattle.cards.proofs.add_cards.Goals.{Else-at-wanted, In-loop-at, Start}

pub returns-then-at-wanted : goal.returns-then-at-wanted
returns-then-at-wanted c =
    let l = c.loop-at in
    let a = c.args in
    all_picked (length a.sum.now) a.sum.now a.wanted.now a.cards.now l.sum l.at c.requires.1 l.invariant (omega (arith, c.if-at-wanted))

-- cards up to a place lie in the deck
cards_in : (card shares deck end : ℕ) → shares * card ≤ deck → end ≤ shares → end * card ≤ deck
cards_in card shares deck end enough h = omega (arith, mul-le-mul_right card h, enough)

pub loop-at-preserved : goal.loop-at-preserved
loop-at-preserved c =
    let done = c.add_two in
    let l = c.loop-at in
    let a = c.args in
    let n = length a.sum.now in
    let so_far = l.invariant in
    let within = so_far.within in
    let long = so_far.word.long in
    next_picked n a.sum.now a.wanted.now a.cards.now l.sum l.at c.requires.1 so_far (l.at + 2) done.new.sum _ _ (omega arith)
    (omega (arith, c.loop-at-test)) done.auto.sum refl (rest_is (l.at * n) a.cards.now) (done.ensures ∙ rw long)

pub loop-at-init : goal.loop-at-init
loop-at-init c = none_picked _ _ _ _ (record { long = refl; good = good_by_entries _ (λ i within. (c.slice_known-1.given i).fits) })

pub overflow_sub-wanted : goal.overflow_sub-wanted
overflow_sub-wanted c = c.loop-at.invariant.within

-- there are two more
more : (c : In-loop-at) → c.loop-at.at + 2 ≤ length c.args.wanted.now
more c = let so_far = c.loop-at.invariant in omega (arith, so_far.within, c.loop-at-test)

start_in : (c : In-loop-at) → c.loop-at.at * length c.args.sum.now + 2 * length c.args.sum.now ≤ length c.args.cards.now
start_in c = omega (arith, cards_in (length c.args.sum.now) (length c.args.wanted.now) _ (c.loop-at.at + 2) c.requires.1 (more c))

pub overflow_add-end : goal.overflow_add-end
overflow_add-end c = omega (arith, more c)

pub slice_bounds-add_two-end : goal.slice_bounds-add_two-end
slice_bounds-add_two-end c = more c

pub overflow_mul-at : goal.overflow_mul-at
overflow_mul-at c = omega (arith, start_in (goal.at.overflow_mul-at c).In-loop-at)

pub slice_bounds-add_two-count-in-loop-at : goal.slice_bounds-add_two-count-in-loop-at
slice_bounds-add_two-count-in-loop-at c = omega (arith, start_in (goal.at.slice_bounds-add_two-count-in-loop-at c).In-loop-at)

pub slice_bounds-add_two-start-in-loop-at : goal.slice_bounds-add_two-start-in-loop-at
slice_bounds-add_two-start-in-loop-at c = omega (arith, start_in (goal.at.slice_bounds-add_two-start-in-loop-at c).In-loop-at)

pub add_two-requires : goal.add_two-requires
add_two-requires c =
    let l = c.loop-at in
    let a = c.args in
    let n = length a.sum.now in
    let long = l.invariant.word.long in (
      masks_part l.at (l.at + 2 - l.at) a.wanted.now c.requires.0,
      part_whole l.at 2 a.wanted.now (more (goal.at.add_two-requires c).In-loop-at),
      rw long (rest_long (l.at * n) (2 * n) a.cards.now (start_in (goal.at.add_two-requires c).In-loop-at)),
    )

pub loop-at-smaller : goal.loop-at-smaller
loop-at-smaller c = omega (arith, more (goal.at.loop-at-smaller c).In-loop-at)

-- THE LAST ONE
-- one card is left over
last : (c : Else-at-wanted) → c.loop-at.at + 1 ≡ length c.args.wanted.now
last c = let so_far = c.loop-at.invariant in omega (arith, so_far.within, c.loop-at-test, c.if-at-wanted)

card_in : (c : Else-at-wanted) → c.loop-at.at * length c.args.sum.now + length c.args.sum.now ≤ length c.args.cards.now
card_in c = omega (arith, cards_in (length c.args.sum.now) (length c.args.wanted.now) _ (c.loop-at.at + 1) c.requires.1 (omega (arith, last c)))

pub returns : goal.returns
returns c =
    let done = c.add_card in
    let l = c.loop-at in
    let a = c.args in
    let n = length a.sum.now in
    let so_far = l.invariant in
    let long = so_far.word.long in
    let new = done.new.sum in
    let card = take (l.at * n + n - l.at * n) (drop (l.at * n) a.cards.now) in
    let drew = next_card n a.sum.now a.wanted.now a.cards.now l.sum l.at c.requires.1 so_far _ new card (omega (arith, last (goal.at.returns c).Else-at-wanted))
    done.auto.sum refl (rw (part_long (l.at * n) n)) (done.ensures ∙ rw long) in
    all_picked n a.sum.now a.wanted.now a.cards.now new (l.at + 1) c.requires.1 drew (last (goal.at.returns c).Else-at-wanted)

pub overflow_mul-start : goal.overflow_mul-start
overflow_mul-start c = omega (arith, card_in c)

pub overflow_add-end-2 : goal.overflow_add-end-2
overflow_add-end-2 c = omega (arith, card_in c)

pub bounds-wanted-at : goal.bounds-wanted-at
bounds-wanted-at c = omega (arith, last (goal.at.bounds-wanted-at c).Else-at-wanted)

pub slice_bounds-add_card-end : goal.slice_bounds-add_card-end
slice_bounds-add_card-end c = omega (arith, card_in (goal.at.slice_bounds-add_card-end c).Else-at-wanted)

pub add_card-requires : goal.add_card-requires
add_card-requires c =
    let l = c.loop-at in
    let a = c.args in
    let n = length a.sum.now in
    (mask_at a.wanted.now l.at c.requires.0 (omega (arith, last (goal.at.add_card-requires c).Else-at-wanted)), l.invariant.word.long ∙ sym (part_whole (l.at * n) n a.cards.now (card_in (goal.at.add_card-requires c).Else-at-wanted)))

pub shape_of-sum-then-at-wanted : goal.shape_of-sum-then-at-wanted
shape_of-sum-then-at-wanted c = c.loop-at.invariant.word.long

pub shape_of-sum : goal.shape_of-sum
shape_of-sum c = c.add_card.auto.sum ∙ c.loop-at.invariant.word.long
