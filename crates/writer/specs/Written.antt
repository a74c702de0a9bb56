-- A lent output into which bytes are written one part behind another. Assumes nothing: these are definitions.
use Rattle.std.specs.Prelude.{◌≡◌, List, ◌++◌, ℕ, ◌+◌, length, take, drop}

-- `old` with the bytes `new` from place `at` on; before them and behind them it keeps its bytes
unfoldable pub written : (at : ℕ) → (new old : List ℕ) → List ℕ
written at new old = take at old ++ new ++ drop (at + length new) old

-- "output past the bytes named keeps its bytes"
abbrev pub in_front : (new old : List ℕ) → List ℕ
in_front new old = new ++ drop (length new) old

-- WHAT A WRITER SAYS: its answer is the place behind the bytes that it wrote, and the output holds these and its own
pub record Wrote (at : ℕ) (new : List ℕ) (next : ℕ) (old now : List ℕ) : Type 0 where
  pub next_is : next ≡ at + length new
  pub now_is : now ≡ written at new old
