-- EXPANSION FROM A STARTING BYTE: document 02, (ii), whose sentences are quoted. proofs/Expansion.antt has the term.
-- Assumes nothing.
use Rattle.std.specs.Prelude.{◌≡◌, List, ℕ, ◌+◌, ◌≤◌, length, take, drop}
use Rattle.chacha20.specs.Expand.{expand}
use Rattle.call_answers.specs.Answers.{ExpandSays}
use Rattle.call_answers.specs.AsWritten.{ExpandWritten}

-- "a start of 0 behaves as before": document 03's Expand says neither less nor more of the call
unfoldable pub StartOf0 : Type 0
StartOf0 =
    (seed : List ℕ) (r : ℕ) (out out_now : List ℕ) →
    (ExpandSays seed 0 r out out_now → ExpandWritten seed r out out_now) ×
    (ExpandWritten seed r out out_now → ExpandSays seed 0 r out out_now)

-- "take a starting byte and fill the output from there": where 0 is answered, the output holds the bytes that every
-- row of the seed has at these places, however long the row
unfoldable pub FillsFromStart : Type 0
FillsFromStart =
    (seed : List ℕ) (s long : ℕ) (out out_now : List ℕ) → ExpandSays seed s 0 out out_now → s + length out ≤ long →
    out_now ≡ take (length out) (drop s (expand long seed))

pub record Expansion : Type 0 where
  pub start_of_0 : StartOf0
  pub fills_from_start : FillsFromStart
