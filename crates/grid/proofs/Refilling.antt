-- Rows seen by everybody but player i. The one row of the special grid row that the others do not hold is fixed by the last word; and for any
-- row there is a choice of it that makes the last word come out: the row that is needed. Assumes nothing.
use mathlib.Core.Path.{◌≡◌, refl, sym, ap, ◌∙◌}
use mathlib.Core.Bool.{Bool, true, false, cond, true≢false}
use mathlib.Core.List.{List, []}
use Prim.Native.Nat.{ℕ, zero, suc, ◌+◌, ◌*◌, ◌/◌, ◌≤◌, ◌<◌}
use native.Mathlib.Omega.{arith}
use lib.Dec.{eqb}
use lib.ListN.{get_or}
use lib.Seq.{ext_get_or}
use borrow.Author.Tests.{eqb-true, eqb-false, eq-eqb, ne_eqb}
use Rattle.xor.specs.Xor.{xors, zeros}
use Rattle.xor.proofs.Laws.{Word, xors_comm, xors_left_comm, xors_cancel, xors_zeros_left, word_xors, word_zeros}
use Rattle.grid.specs.Grid.{Board, columns, grid_rows, row_long, bit, column, row_of, other_marks}
use Rattle.grid.specs.Joining.{over, completing}
use Rattle.grid.specs.Arrays.{unheld_column}
use Rattle.grid.specs.Moving.{refilled, chosen_but, row_needed, moved_rows}
use Rattle.grid.proofs.Arrays.{Unheld, one_unheld}
use Rattle.grid.proofs.Columns.{none_marked, some_marked}
use Rattle.grid.proofs.Facts.{BoardIn, ArraysIn, RowsIn, WordsIn}
use Rattle.grid.proofs.Holding.{SameHeld}
use Rattle.grid.proofs.LastWord.{words_sum, rows_sum, completing_is, completing_word}
use Rattle.grid.proofs.Mending.{length-listed, listed_at, place_in, place_row, each_place}
use Rattle.grid.proofs.Sums.{over_same, over_word}

-- ONE ROW DIFFERS

-- an XOR with one string the same: the other is the same
pub xors_fixed : (n : ℕ) (xs ys zs : List ℕ) → Word n xs → Word n ys → Word n zs → xors xs ys ≡ xors xs zs → ys ≡ zs
xors_fixed n xs ys zs x y z e = sym (xors_cancel n xs ys x y) ∙ ap (xors xs) e ∙ xors_cancel n xs zs x z

-- two sums that differ in one string differ by it
over_one : (k i n : ℕ) (f h : ℕ → List ℕ) (u : ℕ) → i ≤ u → u < i + k → ((m : ℕ) → i ≤ m → m < i + k → Word n (f m))
    → ((m : ℕ) → i ≤ m → m < i + k → Word n (h m)) → ((m : ℕ) → i ≤ m → m < i + k → (m ≡ u → ⊥) → f m ≡ h m)
    → xors (f u) (over k i n f) ≡ xors (h u) (over k i n h)
unfolding over
over_one zero i n f h u p q x y same = let none : ⊥ = omega arith in absurd none
over_one (suc k) i n f h u p q x y same =
    go (eqb i u) refl
    (λ r. over_one k (suc i) n f h u r (omega arith) (λ m s t. x m (omega arith) (omega arith)) (λ m s t. y m (omega arith) (omega arith))
    (λ m s t. same m (omega arith) (omega arith)))
  where
    later_f : Word n (over k (suc i) n f)
    later_f = over_word k (suc i) n f (λ m s t. x m (omega arith) (omega arith))

    later_h : Word n (over k (suc i) n h)
    later_h = over_word k (suc i) n h (λ m s t. y m (omega arith) (omega arith))

    go : (t : Bool) → eqb i u ≡ t → (suc i ≤ u → xors (f u) (over k (suc i) n f) ≡ xors (h u) (over k (suc i) n h))
        → xors (f u) (xors (f i) (over k (suc i) n f)) ≡ xors (h u) (xors (h i) (over k (suc i) n h))
    go true e ih =
        let at : i ≡ u = eqb-true i u e in
        rw (← at)
        (xors_cancel n (f i) (over k (suc i) n f) (x i (omega arith) (omega arith)) later_f
        ∙ over_same k (suc i) n f h (λ m s t. same m (omega arith) (omega arith) (λ z. omega arith))
        ∙ sym (xors_cancel n (h i) (over k (suc i) n h) (y i (omega arith) (omega arith)) later_h))
    go false e ih =
        let apart = eqb-false i u e in
        xors_left_comm (f u) (f i) (over k (suc i) n f)
        ∙ rw (ih (omega arith), same i (omega arith) (omega arith) apart) (xors_left_comm (h i) (h u) (over k (suc i) n h))

module _ (b : Board) (special : ℕ) (inside : special < grid_rows b) (rs ss ws : List (List ℕ)) (made : List ℕ) (r : RowsIn b rs) (s : RowsIn b ss)
    (l : WordsIn b ws) (m : Word (row_long b) made) (u : ℕ) (place : u < columns b)
    (same : (j : ℕ) → j < columns b → (j ≡ u → ⊥) → row_of b rs special j ≡ row_of b ss special j) where
  -- the words that complete them differ by the rows that differ
  pub one_row_differs : xors (row_of b rs special u) (completing b rs ws special made) ≡ xors (row_of b ss special u) (completing b ss ws special made)
  one_row_differs =
      let before = xors made (words_sum b ws) in
      ap (xors (row_of b rs special u)) (completing_is b special rs ws made inside r l m)
      ∙ xors_left_comm (row_of b rs special u) before (rows_sum b rs special)
      ∙ ap (xors before)
      (over_one (columns b) 0 (row_long b) (row_of b rs special) (row_of b ss special) u (omega arith) (omega arith)
      (λ j p q. r.each special j inside (omega arith)) (λ j p q. s.each special j inside (omega arith)) (λ j p q. same j (omega arith)))
      ∙ xors_left_comm before (row_of b ss special u) (rows_sum b ss special)
      ∙ ap (xors (row_of b ss special u)) (sym (completing_is b special ss ws made inside s l m))

  -- so the row is fixed by the last word
  pub last_row_fixed : completing b rs ws special made ≡ completing b ss ws special made → row_of b rs special u ≡ row_of b ss special u
  last_row_fixed e =
      let last = completing b rs ws special made in
      xors_fixed (row_long b) last (row_of b rs special u) (row_of b ss special u) (completing_word b special rs ws made inside r l m)
      (r.each special u inside place) (s.each special u inside place)
      (xors_comm last (row_of b rs special u) ∙ one_row_differs ∙ rw (← e) (xors_comm (row_of b ss special u) last))

-- FREELY DRAWN: arrays odd in the special grid row only, rows, lent words, and the row that the words make there, whatever it is

pub record Drawn (b : Board) (special : ℕ) (made : List ℕ) (cs : List ℕ) (rs ws : List (List ℕ)) : Type 0 where
  pub board : BoardIn b
  pub inside : special < grid_rows b
  pub made_word : Word (row_long b) made
  pub arrays : ArraysIn b special cs
  pub rows : RowsIn b rs
  pub words : WordsIn b ws

-- THE ROWS ARE FIXED by those that the others hold, the chosen ones and the last word

-- a row with other marks is held by somebody else
held_same : (b : Board) (i special : ℕ) (cs : List ℕ) → ArraysIn b special cs → (rs ss : List (List ℕ))
    → ((k : ℕ) → k < b.p → (k ≡ i → ⊥) → SameHeld k (grid_rows b * columns b) cs rs ss)
    → (g j : ℕ) → g < grid_rows b → j < columns b → (other_marks (column b cs g j) i ≡ 0 → ⊥) → row_of b rs g j ≡ row_of b ss g j
unfolding SameHeld column row_of
held_same b i special cs a rs ss h g j l q ne =
    let other = some_marked b.p i (column b cs g j) (a.below g j l q) ne in
    h other.0 other.1 other.2 (g * columns b + j) (place_in b g j l q) other.3

pub rows_fixed : {b : Board} {special : ℕ} {made cs : List ℕ} {rs ws : List (List ℕ)} (i : ℕ) → i < b.p → Drawn b special made cs rs ws → (ss : List (List ℕ)) → RowsIn b ss
    → ((k : ℕ) → k < b.p → (k ≡ i → ⊥) → SameHeld k (grid_rows b * columns b) cs rs ss)
    → completing b rs ws special made ≡ completing b ss ws special made
    → ((g : ℕ) → g < grid_rows b → (g ≡ special → ⊥) → row_of b rs g (unheld_column b i cs g) ≡ row_of b ss g (unheld_column b i cs g)) → rs ≡ ss
unfolding row_of
rows_fixed {b} {special} {made} {cs} {rs} {ws} i player x ss s h last chosen =
    ext_get_or [] rs ss (x.rows.long ∙ sym s.long) (λ n l. each_place b (λ n. get_or rs n [] ≡ get_or ss n []) same n (rw x.rows.long at l))
  where
    one : (g : ℕ) → g < grid_rows b → Unheld b i cs g (unheld_column b i cs g)
    one g l = one_unheld b x.board i player special cs x.arrays g l

    -- the last word fixes the one of the special grid row
    left : row_of b rs special (unheld_column b i cs special) ≡ row_of b ss special (unheld_column b i cs special)
    left =
        let u = one special x.inside in
        last_row_fixed b special x.inside rs ss ws made x.rows s x.words x.made_word (unheld_column b i cs special) u.within
        (λ j q ne. held_same b i special cs x.arrays rs ss h special j x.inside q (λ z. ne (u.only j q z))) last

    unheld_same : (g : ℕ) → g < grid_rows b → (t : Bool) → eqb g special ≡ t → row_of b rs g (unheld_column b i cs g) ≡ row_of b ss g (unheld_column b i cs g)
    unheld_same g l true e = rw (eqb-true g special e) left
    unheld_same g l false e = chosen g l (eqb-false g special e)

    by_place : (g j : ℕ) → g < grid_rows b → j < columns b → (t : Bool) → eqb (other_marks (column b cs g j) i) 0 ≡ t → row_of b rs g j ≡ row_of b ss g j
    by_place g j l q true e =
        rw ((one g l).only j q (eqb-true (other_marks (column b cs g j) i) 0 e)) (unheld_same g l (eqb g special) refl)
    by_place g j l q false e = held_same b i special cs x.arrays rs ss h g j l q (eqb-false (other_marks (column b cs g j) i) 0 e)

    same : (g j : ℕ) → g < grid_rows b → j < columns b → get_or rs (g * columns b + j) [] ≡ get_or ss (g * columns b + j) []
    same g j l q = by_place g j l q (eqb (other_marks (column b cs g j) i) 0) refl

-- THE ROWS REFILLED

pub refilled_at : (b : Board) (i : ℕ) (cs : List ℕ) (rs : List (List ℕ)) (fill : ℕ → List ℕ) (g j : ℕ) → g < grid_rows b → j < columns b
    → row_of b (refilled b i cs rs fill) g j ≡ cond (eqb (other_marks (column b cs g j) i) 0) (fill g) (row_of b rs g j)
unfolding row_of column refilled
refilled_at b i cs rs fill g j l q =
    listed_at (grid_rows b * columns b) (λ m. cond (eqb (other_marks (get_or cs m 0) i) 0) (fill (m / columns b)) (get_or rs m [])) (g * columns b + j) []
    (place_in b g j l q)
    ∙ rw (place_row b g j q)

-- the new rows where nobody else holds them, the old ones where somebody does
pub refilled_alone : (b : Board) (i : ℕ) (cs : List ℕ) (rs : List (List ℕ)) (fill : ℕ → List ℕ) (g j : ℕ) → g < grid_rows b → j < columns b
    → other_marks (column b cs g j) i ≡ 0 → row_of b (refilled b i cs rs fill) g j ≡ fill g
refilled_alone b i cs rs fill g j l q e = refilled_at b i cs rs fill g j l q ∙ rw e

refilled_kept : (b : Board) (i : ℕ) (cs : List ℕ) (rs : List (List ℕ)) (fill : ℕ → List ℕ) (g j : ℕ) → g < grid_rows b → j < columns b
    → (other_marks (column b cs g j) i ≡ 0 → ⊥) → row_of b (refilled b i cs rs fill) g j ≡ row_of b rs g j
refilled_kept b i cs rs fill g j l q ne =
    refilled_at b i cs rs fill g j l q ∙ rw (ne_eqb (other_marks (column b cs g j) i) 0 ne)

-- nobody else sees a difference
pub refilled_held : (b : Board) (i : ℕ) (cs : List ℕ) (rs : List (List ℕ)) (fill : ℕ → List ℕ) (k : ℕ) → (k ≡ i → ⊥)
    → SameHeld k (grid_rows b * columns b) cs rs (refilled b i cs rs fill)
unfolding SameHeld row_of column
refilled_held b i cs rs fill k ne =
    each_place b (λ m. bit (get_or cs m 0) k ≡ true → get_or rs m [] ≡ get_or (refilled b i cs rs fill) m []) kept
  where
    kept : (g j : ℕ) → g < grid_rows b → j < columns b → bit (get_or cs (g * columns b + j) 0) k ≡ true
        → get_or rs (g * columns b + j) [] ≡ get_or (refilled b i cs rs fill) (g * columns b + j) []
    kept g j l q e =
        sym (refilled_kept b i cs rs fill g j l q (λ z. true≢false (sym e ∙ none_marked (column b cs g j) i k z ne)))

pub refilled_in : (b : Board) (i : ℕ) (cs : List ℕ) (rs : List (List ℕ)) (fill : ℕ → List ℕ) → RowsIn b rs
    → ((g : ℕ) → g < grid_rows b → Word (row_long b) (fill g)) → RowsIn b (refilled b i cs rs fill)
unfolding refilled
refilled_in b i cs rs fill r w =
    record {
      long = length-listed (grid_rows b * columns b) 0 (λ m. cond (eqb (other_marks (get_or cs m 0) i) 0) (fill (m / columns b)) (get_or rs m []));
      each = λ g j l q. rw (refilled_at b i cs rs fill g j l q) (either (eqb (other_marks (column b cs g j) i) 0) (w g l) (r.each g j l q));
    }
  where
    either : (t : Bool) {x y : List ℕ} → Word (row_long b) x → Word (row_long b) y → Word (row_long b) (cond t x y)
    either true p q = p
    either false p q = q

-- THE CHOSEN ROWS AND THE ROW THAT IS NEEDED

chosen_special : (special : ℕ) (row : List ℕ) (c : ℕ → List ℕ) → chosen_but special row c special ≡ row
unfolding chosen_but
chosen_special s row c = rw (eq-eqb s s refl)

pub chosen_elsewhere : (special : ℕ) (row : List ℕ) (c : ℕ → List ℕ) (g : ℕ) → (g ≡ special → ⊥) → chosen_but special row c g ≡ c g
unfolding chosen_but
chosen_elsewhere s row c g ne = rw (ne_eqb g s ne)

-- what a change needs: a player to be left out, something freely drawn, another special grid row and row to be made, the last word that is to
-- stay, and good rows chosen elsewhere
pub record Change (b : Board) (i old : ℕ) (before cs : List ℕ) (rs ws : List (List ℕ)) (special : ℕ) (made last : List ℕ) (c : ℕ → List ℕ) : Type 0 where
  pub player : i < b.p
  pub drawn : Drawn b old before cs rs ws
  pub inside : special < grid_rows b
  pub made_word : Word (row_long b) made
  pub last_word : Word (row_long b) last
  pub chosen : (g : ℕ) → g < grid_rows b → (g ≡ special → ⊥) → Word (row_long b) (c g)

module _ {b : Board} {i old : ℕ} {before cs : List ℕ} {rs ws : List (List ℕ)} {special : ℕ} {made last : List ℕ} {c : ℕ → List ℕ}
    (x : Change b i old before cs rs ws special made last c) where
  -- the rows with one row left to choose in the special grid row
  with_row : List ℕ → List (List ℕ)
  with_row row = refilled b i cs rs (chosen_but special row c)

  with_row_in : (row : List ℕ) → Word (row_long b) row → RowsIn b (with_row row)
  unfolding with_row chosen_but
  with_row_in row y = refilled_in b i cs rs (chosen_but special row c) x.drawn.rows (λ g l. go g l (eqb g special) refl)
    where
      go : (g : ℕ) → g < grid_rows b → (t : Bool) → eqb g special ≡ t → Word (row_long b) (cond t row (c g))
      go g l true e = y
      go g l false e = x.chosen g l (eqb-false g special e)

  completed : List ℕ → List ℕ
  completed row = completing b (with_row row) ws special made

  completed_word : (row : List ℕ) → Word (row_long b) row → Word (row_long b) (completed row)
  unfolding completed
  completed_word row y = completing_word b special (with_row row) ws made x.inside (with_row_in row y) x.drawn.words x.made_word

  -- two choices of the row, with the words that complete them
  choices_differ : (row other : List ℕ) → Word (row_long b) row → Word (row_long b) other → xors row (completed row) ≡ xors other (completed other)
  unfolding with_row completed
  choices_differ row other y z =
      ap (λ (r : List ℕ). xors r (completed row)) (sym (at_u row))
      ∙ one_row_differs b special x.inside (with_row row) (with_row other) ws made (with_row_in row y) (with_row_in other z) x.drawn.words x.made_word u one.within
      (λ j q ne. kept row j q ne ∙ sym (kept other j q ne))
      ∙ ap (λ (r : List ℕ). xors r (completed other)) (at_u other)
    where
      u : ℕ
      u = unheld_column b i cs special

      one : Unheld b i cs special (unheld_column b i cs special)
      one = one_unheld b x.drawn.board i x.player old cs x.drawn.arrays special x.inside

      at_u : (r : List ℕ) → row_of b (refilled b i cs rs (chosen_but special r c)) special (unheld_column b i cs special) ≡ r
      at_u r =
          refilled_alone b i cs rs (chosen_but special r c) special (unheld_column b i cs special) x.inside one.within one.alone ∙ chosen_special special r c

      kept : (r : List ℕ) (j : ℕ) → j < columns b → (j ≡ unheld_column b i cs special → ⊥) → row_of b (refilled b i cs rs (chosen_but special r c)) special j ≡ row_of b rs special j
      kept r j q ne = refilled_kept b i cs rs (chosen_but special r c) special j x.inside q (λ e. ne (one.only j q e))

  -- the row that is needed, and that with it the last word stays
  needed_word : Word (row_long b) (row_needed b i special made last c cs rs ws)
  unfolding row_needed completed with_row
  needed_word = word_xors last (completed (zeros (row_long b))) x.last_word (completed_word (zeros (row_long b)) (word_zeros (row_long b)))

  pub moved_rows_in : RowsIn b (moved_rows b i special made last c cs rs ws)
  unfolding moved_rows with_row
  moved_rows_in = with_row_in (row_needed b i special made last c cs rs ws) needed_word

  pub needed_completes : completing b (moved_rows b i special made last c cs rs ws) ws special made ≡ last
  unfolding moved_rows row_needed completed with_row
  needed_completes =
      let blank = zeros (row_long b) in
      let row = row_needed b i special made last c cs rs ws in
      let rest = completed_word blank (word_zeros (row_long b)) in
      let sum : xors row (completed row) ≡ completed blank =
      choices_differ row blank needed_word (word_zeros (row_long b)) ∙ xors_zeros_left (row_long b) (completed blank) rest in
      sym (xors_cancel (row_long b) row (completed row) needed_word (completed_word row needed_word)) ∙ ap (xors row) sum
      ∙ xors_comm row (completed blank) ∙ ap (xors (completed blank)) (xors_comm last (completed blank))
      ∙ xors_cancel (row_long b) (completed blank) last rest x.last_word
