-- What the check of a key tells: document 01's number and the header's numbers; and the place that is told for a held seed.
-- Assumes nothing: these are definitions.
use Rattle.std.specs.Prelude.{cond, List, [], ◌∷◌, ℕ, eqb, Option}
use Rattle.keys.specs.Keys.{Head, head_in, key_refusal}
use Rattle.key_header.specs.Answers.{KeyCheck, header_numbers}

-- What the check of a key says: document 01's number (0: accepted), and the header's five numbers in their order, where it is accepted
pub record Checked : Type 0 where
  pub refusal : ℕ
  pub numbers : List ℕ

-- each case of the answer
unfoldable pub checked_as : KeyCheck → Checked
checked_as (KeyCheck.Accepted h) = record { refusal = 0; numbers = header_numbers h.header }
checked_as (KeyCheck.Refused n) = record { refusal = n; numbers = [] }

-- "An accepted key gives its header numbers"; a refused one none
unfoldable pub head_numbers : Head → List ℕ
head_numbers h = h.board.p ∷ h.player ∷ h.board.n ∷ h.board.wide ∷ h.board.w ∷ []

unfoldable pub key_checked : (key : List ℕ) → Checked
key_checked ks =
    record { refusal = key_refusal ks; numbers = cond (eqb (key_refusal ks) 0) (head_numbers (head_in ks)) [] }

-- the place of a held seed, or 0 where there is none: no seed stands at 0, since a header does
abbrev pub place_of : Option ℕ → ℕ
place_of Option.None = 0
place_of (Option.Some place) = place
