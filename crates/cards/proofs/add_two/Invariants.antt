-- `cards::add_two` meets its contract. The loop's invariant: into the bytes before `done` those that are picked are XORed, the rest is as it was
-- lent. Assumes nothing.
use mathlib.Core.Path.{◌≡◌, ◌∙◌}
use mathlib.Core.List.{List}
use Prim.Native.Nat.{ℕ, ◌+◌, ◌*◌, ◌-◌, ◌/◌, ◌%◌, ◌≤◌}
use native.Mathlib.Omega.{arith}
use lib.ListN.{length}
use borrow.Author.Rules.{rules}
use borrow.Rule.Slice.PartMut.{mid_len, same_len_mid}
use Rattle.xor.specs.Xor.{xors}
use Rattle.xor.proofs.Walks.{Gone, none_gone, all_gone, xored_long, next_xored}
use Rattle.cards.specs.Cards.{picked}
use Rattle.cards.proofs.Decks.{picked_word}
use Rattle.cards.proofs.add_two.Given as goal

abbrev pub invariant-loop-done : goal.invariant-loop-done
invariant-loop-done l = (l.done ≤ l.whole) × (l.done % 16 ≡ 0) × Gone (xors l.initial.sum (picked l.card l.wanted l.cards)) l.initial.sum l.sum l.done

abbrev pub decreases-loop-done : goal.decreases-loop-done
decreases-loop-done l = l.whole - l.done
