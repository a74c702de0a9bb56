-- `cards::add_cards` meets its contract. The loop's invariant: what the masks before `at` pick is in the sum, and with what is left it makes
-- the whole. Assumes nothing.
use mathlib.Core.Path.{◌≡◌, refl, sym, ◌∙◌}
use Prim.Native.Nat.{ℕ, ◌+◌, ◌*◌, ◌-◌, ◌≤◌}
use native.Mathlib.Nat.{mul-le-mul_right}
use native.Mathlib.Omega.{arith}
use lib.ListN.{length, take, drop}
use Rattle.xor.proofs.Laws.{good_by_entries}
use Rattle.writer.proofs.Cuts.{part_long, part_whole, rest_is, rest_long}
use Rattle.cards.proofs.Masks.{mask_at, masks_part}
use Rattle.cards.proofs.Decks.{Remaining, none_picked, next_picked, next_card, all_picked}
use Rattle.cards.proofs.add_cards.Given as goal

abbrev pub invariant-loop-at : goal.invariant-loop-at
invariant-loop-at l = Remaining l.card l.initial.sum l.wanted l.cards l.sum l.at

abbrev pub decreases-loop-at : goal.decreases-loop-at
decreases-loop-at l = length l.wanted - l.at
