-- What stands behind the header of an accepted key, from a grid row on: how long it is, and how many columns are marked. Assumes nothing.
use mathlib.Core.Path.{◌≡◌, ap, ◌∙◌}
use mathlib.Core.List.{List}
use Prim.Native.Nat.{ℕ, ◌+◌, ◌*◌, ◌-◌, ◌/◌, ◌≤◌, ◌<◌}
use native.Mathlib.Omega.{arith}
use lib.ListN.{length, length-drop}
use Rattle.grid.specs.Grid.{Board, columns, grid_rows, row_long}
use Rattle.keys.specs.Keys.{AcceptedBody, count_marks, stride, grid_row_part}
use Rattle.keys.proofs.Opening.{tests_at}

behind : (g n s r : ℕ) → g ≤ n → n * s + r - g * s ≡ (n - g) * s + r
behind g n s r h =
    let all : g + (n - g) ≡ n = omega arith in
    let sum : g * s + (n - g) * s ≡ n * s = (let parts : g * s + (n - g) * s ≡ (g + (n - g)) * s = omega arith in parts ∙ ap (λ (m : ℕ). m * s) all) in
    omega arith

module _ (b : Board) (bs : List ℕ) (body : AcceptedBody b bs) (g : ℕ) (inside : g < grid_rows b) (part : List ℕ) (is : part ≡ grid_row_part b bs g) where
  pub part_length : length part ≡ (grid_rows b - g) * stride b + columns b * row_long b
  unfolding grid_row_part
  part_length =
      ap length is ∙ length-drop (g * stride b) bs ∙ ap (λ (n : ℕ). n - g * stride b) body.long
      ∙ behind g (grid_rows b) (stride b) (columns b * row_long b) (omega arith)

  -- half the columns are marked in it
  pub part_marks : count_marks (columns b) 0 part ≡ columns b / 2
  part_marks = rw is (tests_at (grid_rows b) g b bs inside body.marks)
