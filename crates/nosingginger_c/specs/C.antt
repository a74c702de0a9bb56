-- What the C functions answer and leave behind: the contracts of the operations, with what C is given through a pointer.
-- Assumes nothing: these are definitions.
use Rattle.std.specs.Prelude.{◌≡◌, cond, List, [], ℕ, eqb}
use Rattle.grid.specs.Faults.{has_place}
use Rattle.call_answers.specs.Answers.{Answer, DealTells}
use Rattle.keys.specs.Held.{held_seed_place, HeldAt}
use Rattle.key_check.specs.Checked.{key_checked}

-- a number returned and a value behind a pointer, as the operation's one answer; where it is refused the value keeps what stood there
unfoldable pub Through : (says : Answer → Type 0) → (r old new : ℕ) → Type 0
Through A r o z = A (record { refusal = r; value = cond (eqb r 0) z 0 }) × (z ≡ cond (eqb r 0) z o)

-- what is written through the pointer: the value of an accepted answer
unfoldable pub ValuePut : (refusal value : ℕ) → (r old new : ℕ) → Type 0
ValuePut n v r o z = (r ≡ n) × (z ≡ cond (eqb n 0) v o)

-- DEAL: the number returned, and the grid row and the column of its place, where it is 18, 19 or 20, or what stood
-- there before
unfoldable pub DealThrough : (p n m w point : ℕ) → (value arrays seeds words : List ℕ) → (r : ℕ)
    → (out out_now old new : List ℕ) → Type 0
DealThrough p n m w a v cs ss ws r o z f g =
    DealTells p n m w a v cs ss ws (record { number = r; place = cond (has_place r) g [] }) o z
    × (g ≡ cond (has_place r) g f)

-- CHECK KEY: the number returned, and the header's five numbers, or what stood there
unfoldable pub CheckSays : (key : List ℕ) → (r : ℕ) → (old new : List ℕ) → Type 0
CheckSays ks r o z =
    (record { refusal = r; numbers = cond (eqb r 0) z [] } ≡ key_checked ks) × (z ≡ cond (eqb r 0) z o)

-- HELD SEED: the place in the caller's key, or 0, and what stands there
pub record HeldSays (key : List ℕ) (g j r : ℕ) : Type 0 where
  pub place_is : r ≡ held_seed_place key g j
  pub stands : HeldAt key g j r
