-- The rounds of the block function as the code takes them, one step after another: four half steps are a quarter round, and a turn of the
-- loop leaves one double round less. Assumes nothing.
use Rattle.std.proofs.Common.{◌≡◌, ℕ, suc, ◌+◌, ◌-◌, ◌<◌, ◌≤◌, List, arith}
use Rattle.chacha20.specs.Expand.{mixed, quarter, double_round, rounds}

pub four_half_steps : (a b c d : ℕ) (s s₁ s₂ s₃ s₄ : List ℕ) → s₁ ≡ mixed a b d 16 s → s₂ ≡ mixed c d b 12 s₁ → s₃ ≡ mixed a b d 8 s₂ → s₄ ≡ mixed c d b 7 s₃ →
    s₄ ≡ quarter a b c d s
unfolding quarter
four_half_steps a b c d s s₁ s₂ s₃ s₄ p₁ p₂ p₃ p₄ = rw (p₄, p₃, p₂, p₁)

-- a turn of the loop over double rounds
pub one_round_less : (done : ℕ) (s next s₀ : List ℕ) → done < 10 → rounds (10 - done) s ≡ rounds 10 s₀ → next ≡ double_round s → rounds (10 - (done + 1)) next ≡ rounds 10 s₀
unfolding rounds
one_round_less done s next s₀ h so_far is =
    let left : 10 - done ≡ suc (10 - (done + 1)) = omega arith in
    rw is (rw left at so_far)

-- after the last turn none is left
pub no_round_left : (done : ℕ) (s s₀ : List ℕ) → 10 ≤ done → rounds (10 - done) s ≡ rounds 10 s₀ → s ≡ rounds 10 s₀
unfolding rounds
no_round_left done s s₀ h so_far =
    let left : 10 - done ≡ 0 = omega arith in
    rw left at so_far
