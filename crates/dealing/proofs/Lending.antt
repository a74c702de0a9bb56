-- A dealing's numbers on a board that is one: what each test answers, and what is left where none fits. Assumes nothing.
use mathlib.Core.Path.{◌≡◌, sym, ap, ◌∙◌}
use mathlib.Core.Bool.{true, false}
use mathlib.Core.List.{[], ◌∷◌}
use Prim.Native.Nat.{ℕ, ◌≤◌, ◌<◌}
use native.Mathlib.Omega.{arith}
use borrow.Author.Tests.{le-leb, lt-leb}
use lib.ListN.{length}
use Rattle.grid.specs.Grid.{Board, board_refusal}
use Rattle.grid.specs.Faults.{Fault}
use Rattle.keys.specs.Keys.{Lent, sizes_refusal, lent_fault, deal_refusal, deal_place, lent_fits}
use Rattle.keys.proofs.Accepted.{first_fits, next_fits}
use Rattle.keys.proofs.Lending.{fault_placed, small_unplaced}

module _ (b : Board) (l : Lent) (fine : board_refusal b ≡ 0) where
  -- a size's number is Deal's
  by_sizes : (n : ℕ) → sizes_refusal b l ≡ n → 0 < n → n ≡ deal_refusal b l
  unfolding deal_refusal
  by_sizes n e some = sym (first_fits (sizes_refusal b l) _ (λ z. omega arith) ∙ e)

  -- 6
  point_refused : b.n ≤ l.point → sizes_refusal b l ≡ 6
  unfolding sizes_refusal
  point_refused h = rw (fine, le-leb b.n l.point h)

  pub by_point : b.n ≤ l.point → 6 ≡ deal_refusal b l
  by_point h = by_sizes 6 (point_refused h) (omega arith)

  module _ (inside : l.point < b.n) where
    -- 7
    lent_refused : lent_fits b (length l.value) (length l.arrays) (length l.seeds) (length l.words) ≡ false → sizes_refusal b l ≡ 7
    unfolding sizes_refusal
    lent_refused other = rw (fine, lt-leb b.n l.point inside, other)

    pub by_lent : lent_fits b (length l.value) (length l.arrays) (length l.seeds) (length l.words) ≡ false → 7 ≡ deal_refusal b l
    by_lent other = by_sizes 7 (lent_refused other) (omega arith)

    module _ (fit : lent_fits b (length l.value) (length l.arrays) (length l.seeds) (length l.words) ≡ true) where
      none : sizes_refusal b l ≡ 0
      unfolding sizes_refusal
      none = rw (fine, lt-leb b.n l.point inside, fit)

      -- 18 TO 20: the number is the fault's, and the place too
      module _ (f : Fault) (found : f ≡ lent_fault b l) where
        pub by_fault : f.number ≡ deal_refusal b l
        unfolding deal_refusal
        by_fault = ap (λ (g : Fault). g.number) found ∙ sym (next_fits (sizes_refusal b l) _ none)

        pub fault_place : (f.number ≡ 0 → ⊥) → f.grid_row ∷ f.column ∷ [] ≡ deal_place b l
        unfolding deal_place
        fault_place some = rw (← by_fault, found, fault_placed b l (λ z. some (rw found z)))

-- a number below these has no place
pub unplaced : (b : Board) (l : Lent) (n : ℕ) → n ≡ deal_refusal b l → n < 18 → [] ≡ deal_place b l
unfolding deal_place
unplaced b l n e h = rw (← e, small_unplaced n h)
