-- The columns seen so far in an array, as the bits of one number: document 02, (v), whose sentence is quoted, and how
-- that number is tied to the faults of (i). Assumes nothing: these are definitions.
use Rattle.std.specs.Prelude.{◌≡◌, Bool, List, ℕ}
use Rattle.grid.specs.Grid.{Board, bit}
use Rattle.grid.specs.Faults.{stood_earlier, column_fault}

-- "At each column bit b is set exactly when the column of value b stood earlier in this array", where `before` are the
-- columns that stand before the present one
abbrev pub ColumnsSeen : (before : List ℕ) → (seen : ℕ) → Type 0
ColumnsSeen before seen = (b : ℕ) → bit seen b ≡ stood_earlier before b

-- what is told of a column by the columns seen is what (i) says of it behind those columns
abbrev pub SeenTells : Board → (odd : Bool) → (seen column number : ℕ) → Type 0
SeenTells b o seen c n = (before : List ℕ) → ColumnsSeen before seen → n ≡ column_fault b o before c
