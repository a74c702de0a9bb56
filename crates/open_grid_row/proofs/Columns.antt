-- One column after another: where a marked column's word stands in the part, what the words of the marked columns add, and where the held seeds
-- stand. Assumes nothing.
use mathlib.Core.Path.{◌≡◌, refl, sym, ◌∙◌}
use mathlib.Core.Bool.{Bool, true, false, cond}
use mathlib.Core.List.{List}
use Prim.Native.Nat.{ℕ, suc, ◌+◌, ◌*◌, ◌-◌, ◌/◌, ◌≤◌, ◌<◌}
use native.Mathlib.Nat.{mul-div_cancel, mul-le-mul}
use native.Mathlib.Numerals.{add-one}
use native.Mathlib.Omega.{arith}
use lib.ListN.{length, take, drop, length-drop}
use lib.Seq.{length-take-le}
use Rattle.xor.specs.Xor.{xors, bytes_good}
use Rattle.xor.proofs.Laws.{xors_assoc, xors_zeros_right}
use Rattle.grid.specs.Grid.{Board, columns, grid_rows, row_long}
use Rattle.grid.proofs.Facts.{BoardIn}
use Rattle.keys.specs.Keys.{mark_bytes, stride}
use Rattle.keys.specs.Held.{marked}
use Rattle.open_grid_row.specs.Shares.{stretch}
use Rattle.open_grid_row.specs.Words.{marked_words, grid_row_words}

-- a product of the code's numbers is that of the definition's
pub products : (a b c d : ℕ) → a ≡ c → b ≡ d → a * b ≡ c * d
products a b c d p q = rw (p, q)

-- a row has a byte at least
pub row_least : (b : Board) → BoardIn b → 0 < row_long b
unfolding row_long
row_least b f = mul-le-mul f.wide_least f.value_least

-- the bytes from a place to the end
pub rest_long : (a n : ℕ) (ps : List ℕ) → length ps ≡ a + n → length (take (length ps - a) (drop a ps)) ≡ n
rest_long a n ps h = length-take-le (length ps - a) (drop a ps) (rw length-drop (omega arith)) ∙ omega arith

module _ (b : Board) (ps : List ℕ) (g : ℕ) (long : length ps ≡ (grid_rows b - g) * stride b + columns b * row_long b) where
  -- the words of all columns stand behind the grid rows, and nothing behind these
  pub words_counted : 0 < row_long b → length (drop ((grid_rows b - g) * stride b) ps) / row_long b ≡ columns b
  words_counted some =
      let all : length (drop ((grid_rows b - g) * stride b) ps) ≡ columns b * row_long b = rw length-drop (omega (arith, long)) in
      rw all (mul-div_cancel (columns b) some)

  -- the grid row itself is there
  pub row_there : g < grid_rows b → stride b ≤ length ps
  row_there inside =
      let left : grid_rows b - g ≡ suc (grid_rows b - suc g) = omega arith in
      let whole = rw left at long in omega (arith, whole)

-- its held seeds lie in the grid row
pub seeds_fit : (b : Board) (marks J : ℕ) (ps : List ℕ) → marks ≡ mark_bytes b → J ≡ columns b → stride b ≤ length ps → marks + 32 * (J / 2) ≤ length ps
unfolding stride
seeds_fit b marks J ps m c h = omega (arith, h)

-- WORDS of the marked columns, one column after another

by_mark : (t : Bool) (out word new rest : List ℕ) → new ≡ cond t (xors out word) out → xors new rest ≡ xors out (cond t (xors word rest) rest)
by_mark true out word new rest e = rw e (xors_assoc out word rest)
by_mark false out word new rest e = rw e

-- a turn: the next column's word, where it is marked
pub words_turn : (ps ws : List ℕ) (l s n J j : ℕ) (t : Bool) (out word new all : List ℕ) → j < J → xors out (marked_words (J - j) j ps ws l s n) ≡ all →
    word ≡ stretch (j * l + s) n ws → t ≡ marked ps j → new ≡ cond t (xors out word) out → xors new (marked_words (J - (j + 1)) (j + 1) ps ws l s n) ≡ all
unfolding marked_words
words_turn ps ws l s n J j t out word new all within so_far word_here t_is e =
    let left : J - j ≡ suc (J - suc j) = omega arith in
    rw (add-one j) (by_mark t out word new (marked_words (J - suc j) (suc j) ps ws l s n) e ∙ rw (t_is, word_here) (rw left at so_far))

-- after the last column nothing is left to add
pub words_end : (ps ws : List ℕ) (l s n J j : ℕ) (out all : List ℕ) → J ≤ j → length out ≡ n → bytes_good out ≡ true →
    xors out (marked_words (J - j) j ps ws l s n) ≡ all → out ≡ all
unfolding marked_words
words_end ps ws l s n J j out all past long good h =
    let none : J - j ≡ 0 = omega arith in
    sym (xors_zeros_right n out (record { long = long; good = good })) ∙ rw none at h

-- the words by the board's numbers
pub words_added : (b : Board) (ps : List ℕ) (g s : ℕ) (out new words : List ℕ) (l : ℕ) → words ≡ drop ((grid_rows b - g) * stride b) ps →
    length (drop ((grid_rows b - g) * stride b) ps) / row_long b ≡ columns b → l ≡ row_long b →
    new ≡ xors out (marked_words (length words / l) 0 ps words l s (length out)) → new ≡ xors out (grid_row_words b ps g s (length out))
unfolding grid_row_words
words_added b ps g s out new words l e count r is = is ∙ rw (e, r, count) refl
