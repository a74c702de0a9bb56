-- Document 03's own text: the refusals of Choose width, which has no value bytes there, and of Join shares, which ends
-- at a width of 16 there, and Expand, which has no start there. Assumes nothing: these are definitions and one
-- statement.
use Rattle.std.specs.Prelude.{◌≡◌, ◌&&◌, not, cond, List, ℕ, ◌*◌, ◌≤◌, ltb, leb, eqb, length}
use Rattle.chacha20.specs.Expand.{expand}
use Rattle.call_answers.specs.Answers.{PutSays, shares_refusal, width_refusal}

unfoldable pub shares_written : (p w long room : ℕ) → ℕ
shares_written p w l o =
    cond (not (leb 2 p && leb p 6)) 1
    (cond (not (leb 1 w && leb w 16)) 4 (cond (not (eqb l (p * w))) 7 (cond (ltb o w) 9 0)))

unfoldable pub width_written : (p n : ℕ) → ℕ
width_written p n = cond (not (leb 2 p && leb p 6)) 1 (cond (not (leb 1 n && leb n 65536)) 2 0)

-- Expand, whole: 7, 16, and the first bytes of the row
unfoldable pub ExpandWritten : (seed : List ℕ) → (r : ℕ) → (out out_now : List ℕ) → Type 0
ExpandWritten bs r o z =
    PutSays (cond (not (eqb (length bs) 32)) 7 (cond (ltb 4096 (length o)) 16 0)) (expand (length o) bs) r o z

-- THE REFUSALS ARE THESE, for every number, those of Join shares for every width to 16 and those of Choose width for
-- value bytes of 1 to 16
pub record SameCallRefusals : Type 0 where
  pub shares : (p w long room : ℕ) → w ≤ 16 → shares_written p w long room ≡ shares_refusal p w long room
  pub width : (p n w : ℕ) → 1 ≤ w → w ≤ 16 → width_written p n ≡ width_refusal p n w
