-- The dealing that hiding finds, as a function of the first one: the words stay, and so do all rows that somebody else holds; columns are
-- mended in the left-out player's mark only; each unheld row is the chosen one, but in the special grid row it is the row that is needed
-- for the last word to stay. Arrays and rows are given for any special grid row and any row that the words make there, the dealing for
-- the point's grid row and the piece. Each statement is a type whose proof is owed. Assumes nothing.
use Rattle.std.specs.Prelude.{◌≡◌, Bool, true, cond, List, [], ◌∷◌, ℕ, zero, suc, ◌+◌, ◌*◌, ◌-◌, ◌/◌, ◌^◌, ◌<◌, eqb, length, get_or}
use Rattle.xor.specs.Xor.{xors, bytes_good, zeros}
use Rattle.grid.specs.Grid.{Board, columns, grid_rows, row_long, bit, is_odd, same_parity, Dealing, piece, last_word, dealing_good, other_marks, unheld}
use Rattle.grid.specs.Hiding.{SameForOthers, Named, chosen_good_elsewhere}
use Rattle.grid.specs.Joining.{completing}

-- COLUMNS: a player's mark the other way round
unfoldable pub turned : (column player : ℕ) → ℕ
turned c i = cond (bit c i) (c - 2 ^ i) (c + 2 ^ i)

-- the column of a wanted parity that everybody else marks alike: nothing changes where the parity already fits
unfoldable pub mended : (odd : Bool) → (column player : ℕ) → ℕ
mended o c i = cond (same_parity (is_odd c) o) c (turned c i)

-- the list of f m, f (m + 1), ..
unfoldable pub listed : {A : Type 0} → (left m : ℕ) → (f : ℕ → A) → List A
listed zero m f = []
listed (suc k) m f = f m ∷ listed k (suc m) f

-- ARRAYS that are odd in the special grid row only; place m of the arrays and of the rows lies in grid row m / J
unfoldable pub mended_arrays : Board → (player special : ℕ) → (arrays : List ℕ) → List ℕ
mended_arrays b i special cs =
    listed (grid_rows b * columns b) 0 (λ m. mended (eqb (m / columns b) special) (get_or cs m 0) i)

-- ROWS, with another one at each place that nobody but the player holds
unfoldable pub refilled : Board → (player : ℕ) → (arrays : List ℕ) → (rows : List (List ℕ)) → (fill : ℕ → List ℕ) → List (List ℕ)
refilled b i cs rs fill =
    listed (grid_rows b * columns b) 0 (λ m. cond (eqb (other_marks (get_or cs m 0) i) 0) (fill (m / columns b)) (get_or rs m []))

-- the chosen rows, but for the special grid row
unfoldable pub chosen_but : (special : ℕ) → (row : List ℕ) → (chosen : ℕ → List ℕ) → (g : ℕ) → List ℕ
chosen_but special row c g = cond (eqb g special) row (c g)

-- the row that is needed in the special grid row: with it all words and all rows there make the given row, and the last word stays
unfoldable pub row_needed : Board → (player special : ℕ) → (made last : List ℕ) → (chosen : ℕ → List ℕ) → (arrays : List ℕ) → (rows words : List (List ℕ)) → List ℕ
row_needed b i special made last c cs rs ws =
    xors last (completing b (refilled b i cs rs (chosen_but special (zeros (row_long b)) c)) ws special made)

unfoldable pub moved_rows : Board → (player special : ℕ) → (made last : List ℕ) → (chosen : ℕ → List ℕ) → (arrays : List ℕ) → (rows words : List (List ℕ)) → List (List ℕ)
moved_rows b i special made last c cs rs ws =
    refilled b i cs rs (chosen_but special (row_needed b i special made last c cs rs ws) c)

-- THE DEALING of a named point, value and chosen rows that looks the same to all but player i
unfoldable pub moved : Board → (player : ℕ) → Dealing → (point : ℕ) → (value : List ℕ) → (chosen : ℕ → List ℕ) → Dealing
moved b i d point value c =
    record {
      point = point;
      value = value;
      arrays = mended_arrays b i (point / b.wide) d.arrays;
      rows =
          moved_rows b i (point / b.wide) (piece b point value) (last_word b d) c d.arrays d.rows d.words;
      words = d.words;
    }

-- HIDING'S FIRST HALF, that there is such a dealing: it has what is named and gives everybody else the same
unfoldable pub MovedIsNamed : Type 0
MovedIsNamed =
    (b : Board) (i point : ℕ) (d : Dealing) (value : List ℕ) (c : ℕ → List ℕ) → dealing_good b d ≡ true → i < b.p → point < b.n →
    length value ≡ b.w → bytes_good value ≡ true → chosen_good_elsewhere b point c → Named b i d point value c (moved b i d point value c)

-- TURNED ROUND: every good dealing that looks the same to all but one player is found so, from its own point, value and unheld rows
unfoldable pub MovingFinds : Type 0
MovingFinds =
    (b : Board) (i : ℕ) (d e : Dealing) (c : ℕ → List ℕ) → dealing_good b d ≡ true → dealing_good b e ≡ true → i < b.p →
    SameForOthers b i d e → ((g : ℕ) → g < grid_rows b → (g ≡ e.point / b.wide → ⊥) → unheld b e i g ≡ c g) →
    moved b i d e.point e.value c ≡ e
