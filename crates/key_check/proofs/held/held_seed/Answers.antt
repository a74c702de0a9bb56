-- `key_check::held::held_seed` meets its contract: the 32 bytes at the place are the seed. Assumes nothing.
use mathlib.Core.Bool.{false≢true}
use mathlib.Core.Path.{◌≡◌, sym, ◌∙◌}
use Prim.Native.Nat.{◌+◌, ◌≤◌}
use native.Mathlib.Nat.{add-sub_cancel_left}
use native.Mathlib.Omega.{arith}
use lib.ListN.{length}
use Rattle.xor.proofs.Laws.{good_by_entries}
use Rattle.keys.specs.Held.{held_seed, held_seed_place}
use Rattle.keys.proofs.Holding.{place_zero, place_inside, seed_there}
use Rattle.key_check.proofs.held.held_seed.Goals as goal
use Rattle.key_check.proofs.held.held_seed.Goals.{In-Some}

-- no seed stands at 0
behind : (c : In-Some) → held_seed_place c.args.key.now c.args.grid_row c.args.column ≡ 0 → ⊥
behind c zero = false≢true (sym (place_zero _ _ _ zero) ∙ sym c.in-Some.ensures.held)

room : (c : In-Some) → c.in-Some.from + 32 ≤ length c.args.key.now
room c = let e = c.in-Some.ensures.place in rw e (place_inside _ _ _ (behind c))

pub returns-in_default : goal.returns-in_default
unfolding held_seed
returns-in_default c = rw (sym c.in_default.ensures.held)

pub overflow_add-result : goal.overflow_add-result
overflow_add-result c = let inside = room c in omega arith

pub slice_bounds-result-end-2 : goal.slice_bounds-result-end-2
slice_bounds-result-end-2 c = room c

pub returns : goal.returns
returns c =
    let ks = c.args.key.now in
    let e = c.in-Some.ensures.place in
    let good = good_by_entries ks (λ i _. (c.type_inv.key i).fits) in
    rw (add-sub_cancel_left, e) (seed_there _ _ _ good (behind (goal.at.returns c).In-Some))
