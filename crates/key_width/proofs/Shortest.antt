-- The search for the width that makes the shortest key. What one turn of it gives, for any numbers; and what the whole
-- search gives: a width that the board accepts, with no longer key than any other that it accepts and a shorter one than
-- any smaller; and no other width is so. Assumes nothing.
use mathlib.Core.Path.{◌≡◌, refl, subst⁻¹}
use mathlib.Core.Bool.{Bool, true, false, ◌||◌, cond, true≢false}
use mathlib.Core.Logic.{◌⊎◌, inl, inr, ⊎_elim}
use Prim.Native.Nat.{ℕ, zero, suc, ◌+◌, ◌-◌, ◌/◌, ◌≤◌, ◌<◌}
use native.Mathlib.Omega.{arith}
use lib.Dec.{ltb, leb, eqb}
use borrow.Author.Tests.{leb-true, leb-false, le-leb, lt-leb, ltb-true, ltb-false, eqb-true, eqb-false}
use Rattle.xor.proofs.Laws.{and_left, and_right}
use Rattle.grid.specs.Grid.{board, board_refusal, grid_rows}
use Rattle.grid.proofs.Facts.{board_in, board_accepted}
use Rattle.grid.proofs.Refusing.{in_range}
use Rattle.key_lengths.proofs.Lengths.{key_most}
use Rattle.key_width.specs.Width.{long_at, better, shortest, width, InRange, ShortestWidth, WidthIsShortest}

-- of two numbers one is at most the other
least_or_most : (m n : ℕ) → (m ≤ n) ⊎ (n < m)
least_or_most m n = go (leb m n) refl
  where
    go : (t : Bool) → leb m n ≡ t → (m ≤ n) ⊎ (n < m)
    go true e = inl (leb-true m n e)
    go false e = inr (leb-false m n e)

module _ (p n w : ℕ) where
  -- K and ν at a width
  abbrev pub Long : ℕ → ℕ
  Long m = long_at p n w m

  abbrev pub Rows : ℕ → ℕ
  Rows m = grid_rows (board p n m w)

  -- WHICH WIDTHS ARE ACCEPTED

  -- those of 1 to 256 with at most 256 grid rows
  pub record Accepted (m : ℕ) : Type 0 where
    pub least : 1 ≤ m
    pub most : m ≤ 256
    pub rows : Rows m ≤ 256

  accepted_is : (m : ℕ) → InRange p n w → Accepted m → board_refusal (board p n m w) ≡ 0
  unfolding board
  accepted_is m range good =
      let players = in_range 2 p 6 range.players in
      let positions = in_range 1 n 65536 range.positions in
      let value = in_range 1 w 16 range.value in
      board_accepted (board p n m w)
      (record {
        players_least = players.0;
        players_most = players.1;
        positions_least = positions.0;
        positions_most = positions.1;
        wide_least = good.least;
        wide_most = good.most;
        value_least = value.0;
        value_most = value.1;
        rows_most = good.rows;
      })

  pub width_accepted : (m : ℕ) → InRange p n w → 1 ≤ m → m ≤ 256 → (n + m - 1) / m ≤ 256 → board_refusal (board p n m w) ≡ 0
  unfolding board grid_rows
  width_accepted m range least most rows = accepted_is m range (record { least = least; most = most; rows = rows })

  -- and no other
  accepted_in : (m : ℕ) → board_refusal (board p n m w) ≡ 0 → Accepted m
  unfolding board
  accepted_in m h =
      let facts = board_in (board p n m w) h in
      record { least = facts.wide_least; most = facts.wide_most; rows = facts.rows_most }

  -- 256 always is
  widest : n ≤ 65536 → Accepted 256
  unfolding board grid_rows
  widest few = record { least = omega arith; most = omega arith; rows = omega arith }

  -- WHAT THE TEST OF A WIDTH TELLS

  is_better : (best m : ℕ) → better p n w best m ≡ true → (Rows m ≤ 256) × ((best ≡ 0) ⊎ (Long m < Long best))
  unfolding better
  is_better best m e =
      let fits = leb (Rows m) 256 in
      let shorter = eqb best 0 || ltb (Long m) (Long best) in
      (leb-true (Rows m) 256 (and_left fits shorter e), go (eqb best 0) refl (and_right fits shorter e))
    where
      go : (first : Bool) → eqb best 0 ≡ first → (first || ltb (Long m) (Long best)) ≡ true → (best ≡ 0) ⊎ (Long m < Long best)
      go true is e = inl (eqb-true best 0 is)
      go false is e = inr (ltb-true (Long m) (Long best) e)

  not_better : (best m : ℕ) → better p n w best m ≡ false → Rows m ≤ 256 → (0 < best) × (Long best ≤ Long m)
  unfolding better
  not_better best m e rows = go (eqb best 0) refl (rw (le-leb (Rows m) 256 rows) at e)
    where
      go : (first : Bool) → eqb best 0 ≡ first → (first || ltb (Long m) (Long best)) ≡ false → (0 < best) × (Long best ≤ Long m)
      go true is e = absurd (true≢false e)
      go false is e = let some = eqb-false best 0 is in (omega arith, ltb-false (Long m) (Long best) e)

  -- ONE TURN, which tries the width m + 1

  turned : (m : ℕ) (t : Bool) → better p n w (shortest p n w m) (suc m) ≡ t → cond t (suc m) (shortest p n w m) ≡ shortest p n w (suc m)
  unfolding shortest
  turned m t e = rw e

  -- the same as the code has it: the best of the widths below m, and its key's length, or more than any key has where there
  -- is none
  pub record SoFar (m best least : ℕ) : Type 0 where
    pub is : best ≡ shortest p n w (m - 1)
    pub none : best ≡ 0 → (k : ℕ) → Accepted k → Long k < least
    pub long : 0 < best → least ≡ Long best

  pub begun : InRange p n w → {m more : ℕ} → m ≡ 1 → 263183 < more → SoFar m 0 more
  unfolding shortest
  begun range {m} first h =
      record {
        is = let none : m - 1 ≡ 0 = omega arith in rw none refl;
        none = λ e k good. omega (arith, key_most (board p n k w) (accepted_is k range good));
        long = λ some. let no : ⊥ = omega arith in absurd no;
      }

  module _ {m best least rows : ℕ} (so_far : SoFar m best least) (some : 1 ≤ m) (most : m ≤ 256) (rows_are : rows ≡ (n + m - 1) / m) where
    next : (t : Bool) → better p n w best m ≡ t → cond t m best ≡ shortest p n w (m + 1 - 1)
    next t e =
        let down : m ≡ suc (m - 1) = omega arith in
        let up : m + 1 - 1 ≡ suc (m - 1) = omega arith in
        rw (up, ← turned (m - 1) t (rw (← so_far.is, ← down) e), ← so_far.is, ← down)

    few_rows : rows ≤ 256 → Rows m ≤ 256
    unfolding grid_rows board
    few_rows few = omega arith

    stays : better p n w best m ≡ false → SoFar (m + 1) best least
    stays e = record { is = next false e; none = so_far.none; long = so_far.long }

    pub turn_taken : {long : ℕ} → rows ≤ 256 → long ≡ Long m → long < least → SoFar (m + 1) m long
    turn_taken few is shorter =
        record {
          is = next true (go (better p n w best m) refl);
          none = λ e. let no : ⊥ = omega arith in absurd no;
          long = λ more. is;
        }
      where
        go : (t : Bool) → better p n w best m ≡ t → t ≡ true
        go true e = refl
        go false e =
            let not = not_better best m e (few_rows few) in
            let no : ⊥ = omega (arith, not.1, so_far.long not.0) in absurd no

    pub turn_longer : {long : ℕ} → rows ≤ 256 → long ≡ Long m → least ≤ long → SoFar (m + 1) best least
    turn_longer few is longer = stays (go (better p n w best m) refl)
      where
        first : best ≡ 0 → ⊥
        first e = omega (arith, so_far.none e m (record { least = some; most = most; rows = few_rows few }))

        go : (t : Bool) → better p n w best m ≡ t → t ≡ false
        go false e = refl
        go true e =
            absurd (⊎_elim first (λ less. ⊎_elim (λ none. first (omega arith)) (λ found. omega (arith, so_far.long found)) (least_or_most best 0))
            (is_better best m e).1)

    pub turn_higher : 256 < rows → SoFar (m + 1) best least
    unfolding better grid_rows board
    turn_higher many = stays (rw (lt-leb ((n + m - 1) / m) 256 (omega arith)))

  -- behind 256 all are tried
  pub all_tried : {m best least : ℕ} → SoFar m best least → 256 < m → m ≤ 257 → best ≡ width p n w
  unfolding width
  all_tried {m} so_far past most = let last : m - 1 ≡ 256 = omega arith in rw last at so_far.is

  -- WHAT THE SEARCH GIVES

  -- the best of the widths 1 to m
  record BestTo (m best : ℕ) : Type 0 where
    fits : 0 < best → (best ≤ m) × (Rows best ≤ 256)
    none_shorter : (k : ℕ) → k ≤ m → Accepted k → (0 < best) × (Long best ≤ Long k)
    smaller_longer : (k : ℕ) → k < best → Accepted k → Long best < Long k

  -- a width of 1 to m + 1 is the last of them or one of those before
  last_or_before : (m : ℕ) (P : ℕ → Type 0) → P (suc m) → ((k : ℕ) → k ≤ m → P k) → (k : ℕ) → k ≤ suc m → P k
  last_or_before m P last before k h =
      ⊎_elim (λ less. before k less) (λ more. let here : k ≡ suc m = omega arith in subst⁻¹ P here last) (least_or_most k m)

  -- a better one is the best
  best_taken : (m best : ℕ) → BestTo m best → (Rows (suc m) ≤ 256) × ((best ≡ 0) ⊎ (Long (suc m) < Long best)) → BestTo (suc m) (suc m)
  best_taken m best b is =
      record {
        fits = λ some. (omega arith, is.0);
        none_shorter =
            last_or_before m (λ k. Accepted k → (0 < suc m) × (Long (suc m) ≤ Long k)) (λ good. (omega arith, omega arith))
            (λ k h good. (omega arith, omega (arith, longer k h good)));
        smaller_longer = λ k h good. longer k (omega arith) good;
      }
    where
      longer : (k : ℕ) → k ≤ m → Accepted k → Long (suc m) < Long k
      longer k h good =
          let before = b.none_shorter k h good in
          ⊎_elim (λ none. let no : ⊥ = omega (arith, before.0) in absurd no) (λ shorter. omega (arith, before.1)) is.1

  -- behind another the best stays
  best_stays : (m best : ℕ) → BestTo m best → (Rows (suc m) ≤ 256 → (0 < best) × (Long best ≤ Long (suc m))) → BestTo (suc m) best
  best_stays m best b not =
      record {
        fits = λ some. let before = b.fits some in (omega (arith, before.0), before.1);
        none_shorter =
            last_or_before m (λ k. Accepted k → (0 < best) × (Long best ≤ Long k)) (λ good. not good.rows) b.none_shorter;
        smaller_longer = b.smaller_longer;
      }

  best_to : (m : ℕ) → BestTo m (shortest p n w m)
  unfolding shortest
  best_to zero =
      record {
        fits = λ some. let none : ⊥ = omega arith in absurd none;
        none_shorter = λ k h good. let none : ⊥ = omega (arith, good.least) in absurd none;
        smaller_longer = λ k h good. let none : ⊥ = omega arith in absurd none;
      }
  best_to (suc m) = go (better p n w (shortest p n w m) (suc m)) refl (best_to m)
    where
      go : (t : Bool) → better p n w (shortest p n w m) (suc m) ≡ t → BestTo m (shortest p n w m) → BestTo (suc m) (cond t (suc m) (shortest p n w m))
      go true e b = best_taken m (shortest p n w m) b (is_better (shortest p n w m) (suc m) e)
      go false e b = best_stays m (shortest p n w m) b (not_better (shortest p n w m) (suc m) e)

  shortest_width : InRange p n w → ShortestWidth p n w (width p n w)
  unfolding width
  shortest_width range =
      let b = best_to 256 in
      let some = (b.none_shorter 256 (omega arith) (widest (in_range 1 n 65536 range.positions).1)).0 in
      record {
        accepted =
            accepted_is (width p n w) range (record { least = some; most = (b.fits some).0; rows = (b.fits some).1 });
        none_shorter = λ k h. let good = accepted_in k h in (b.none_shorter k good.most good).1;
        smaller_longer = λ k below h. b.smaller_longer k below (accepted_in k h);
      }

  -- of two such widths neither is the smaller one
  only_width : (m k : ℕ) → ShortestWidth p n w m → ShortestWidth p n w k → m ≡ k
  only_width m k first second =
      ⊎_elim
      (λ below. ⊎_elim (λ above. omega arith) (λ less. absurd (not_smaller m k first second less)) (least_or_most k m))
      (λ less. absurd (not_smaller k m second first less)) (least_or_most m k)
    where
      not_smaller : (m k : ℕ) → ShortestWidth p n w m → ShortestWidth p n w k → m < k → ⊥
      not_smaller m k first second less =
          omega (arith, first.none_shorter k second.accepted, second.smaller_longer m less first.accepted)

pub width_is_shortest : WidthIsShortest
unfolding WidthIsShortest
width_is_shortest p n w range =
    (shortest_width p n w range, λ m other. only_width p n w m (width p n w) other (shortest_width p n w range))
