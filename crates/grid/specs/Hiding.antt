-- What is promised of freely drawn dealings: whichever player is left out, whatever point, value and unheld rows are named, just one dealing
-- has these and gives everybody else the same. Document 03's statement stands word for word, then the stronger one, of which it is a
-- corollary. The dealing itself is `moved` of specs/Moving.antt. Each statement is a type whose proof is owed. Assumes nothing.
use Rattle.std.specs.Prelude.{◌≡◌, true, List, ℕ, ◌/◌, ◌<◌, length}
use Rattle.xor.specs.Xor.{bytes_good}
use Rattle.grid.specs.Grid.{Board, grid_rows, row_long, Dealing, dealing_good, held, unheld}

-- HIDING: with rows freely drawn, whichever player is left out, just one dealing has a named point, value and chosen rows and gives everybody else the same
unfoldable pub SameForOthers : Board → (player : ℕ) → (d e : Dealing) → Type 0
SameForOthers b i d e = (k : ℕ) → k < b.p → (k ≡ i → ⊥) → held b d k ≡ held b e k

pub record Named (b : Board) (i : ℕ) (d : Dealing) (point : ℕ) (value : List ℕ) (chosen : ℕ → List ℕ) (e : Dealing) : Type 0 where
  pub good : dealing_good b e ≡ true
  pub point_is : e.point ≡ point
  pub value_is : e.value ≡ value
  pub rows_are : (g : ℕ) → g < grid_rows b → (g ≡ point / b.wide → ⊥) → unheld b e i g ≡ chosen g
  pub others : SameForOthers b i d e

unfoldable pub chosen_good : Board → (ℕ → List ℕ) → Type 0
chosen_good b c = (g : ℕ) → (length (c g) ≡ row_long b) × (bytes_good (c g) ≡ true)

unfoldable pub TellsNothing : Type 0
TellsNothing =
    (b : Board) (i point : ℕ) (d : Dealing) (value : List ℕ) (c : ℕ → List ℕ) → dealing_good b d ≡ true → i < b.p → point < b.n →
    length value ≡ b.w → bytes_good value ≡ true → chosen_good b c →
    (e : Dealing) × Named b i d point value c e × ((other : Dealing) → Named b i d point value c other → other ≡ e)

-- THE STRONGER STATEMENT: "the chosen rows are any μ × w bytes, one at that place in each grid row but the named point's; with ν = 1 none is
-- chosen", so nothing is asked of what `chosen` gives at the named point's grid row or past the last one
unfoldable pub chosen_good_elsewhere : Board → (point : ℕ) → (ℕ → List ℕ) → Type 0
chosen_good_elsewhere b a c =
    (g : ℕ) → g < grid_rows b → (g ≡ a / b.wide → ⊥) → (length (c g) ≡ row_long b) × (bytes_good (c g) ≡ true)

unfoldable pub JustOneDealing : Type 0
JustOneDealing =
    (b : Board) (i point : ℕ) (d : Dealing) (value : List ℕ) (c : ℕ → List ℕ) → dealing_good b d ≡ true → i < b.p → point < b.n →
    length value ≡ b.w → bytes_good value ≡ true → chosen_good_elsewhere b point c →
    (e : Dealing) × Named b i d point value c e × ((other : Dealing) → Named b i d point value c other → other ≡ e)

-- ITS SECOND HALF, that there is no other dealing: point, value, what everybody else holds and the unheld rows elsewhere fix a dealing.
-- The first half, that there is one, is `MovedIsNamed` of specs/Moving.antt.
unfoldable pub NoOtherDealing : Type 0
NoOtherDealing =
    (b : Board) (i : ℕ) (d e : Dealing) → dealing_good b d ≡ true → dealing_good b e ≡ true → i < b.p →
    d.point ≡ e.point → d.value ≡ e.value → SameForOthers b i d e →
    ((g : ℕ) → g < grid_rows b → (g ≡ d.point / b.wide → ⊥) → unheld b d i g ≡ unheld b e i g) → d ≡ e
