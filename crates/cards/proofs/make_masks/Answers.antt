use mathlib.Core.Path.{◌≡◌, refl, sym, ap, ◌∙◌}
use mathlib.Core.List.{List, ◌++◌}
use Prim.Native.Nat.{ℕ, ◌+◌, ◌<◌}
use native.Mathlib.Omega.{arith}
use lib.Bits.{and_mask}
use lib.ListN.{get_or, length, take, drop, set}
use Rattle.xor.proofs.Writing.{next_is_old, next_written, all_written}
use Rattle.cards.specs.Cards.{mask, masks}
use Rattle.cards.proofs.Masks.{mask_made, get_or-masks, length-masks}
use Rattle.cards.proofs.make_masks.Goals as goal

-- one turn: the next share becomes its mask
turn : (out old : List ℕ) (i byte : ℕ) → i < length old → out ≡ take i (masks old) ++ drop i old → byte ≡ mask (get_or out i 0) →
    set out i byte ≡ take (i + 1) (masks old) ++ drop (i + 1) old
turn out old i byte within so_far made =
    let in_new : i < length (masks old) = omega (arith, length-masks old) in
    let stood : get_or out i 0 ≡ get_or old i 0 = rw so_far (next_is_old (masks old) old i in_new within) in
    let new : byte ≡ get_or (masks old) i 0 = made ∙ ap mask stood ∙ sym (get_or-masks old i within) in
    rw new (rw so_far (next_written (masks old) old i in_new within))

pub loop-share-init : goal.loop-share-init
loop-share-init c = refl

pub loop-share-preserved : goal.loop-share-preserved
loop-share-preserved c =
    let l = c.loop-share in
    turn l.shares _ l.share-index _ c.loop-share-test.true l.invariant (mask_made (get_or l.shares l.share-index 0))

pub overflow_mul-share : goal.overflow_mul-share
overflow_mul-share c = let l = c.loop-share in omega (arith, and_mask (get_or l.shares l.share-index 0) 1)

pub returns : goal.returns
returns c =
    let l = c.loop-share in
    let old = c.args.shares.now in
    all_written l.shares (masks old) old l.share-index (length-masks old) c.loop-share-test.false l.invariant
