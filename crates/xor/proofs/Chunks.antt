-- The chunks that a slice's `as_chunks` lends, one by one. Assumes nothing.
use Rattle.std.proofs.Common.{◌≡◌, ℕ, zero, suc, ◌+◌, ◌*◌, ◌<◌, List, [], ◌∷◌, get_or, take, drop, refl, ◌∙◌, ap, arith, not-suc-le-zero}
use Rattle.std.specs.Simd.{first_chunks}
use lib.Seq.{drop-drop}

pub chunk_at : (n k i : ℕ) (xs : List ℕ) → i < k → get_or (first_chunks n k xs) i [] ≡ take n (drop (n * i) xs)
chunk_at n zero i xs h = absurd (not-suc-le-zero h)
chunk_at n (suc k) zero xs h = let none : n * 0 ≡ 0 = omega arith in rw none
chunk_at n (suc k) (suc i) xs h =
    let next : n + n * i ≡ n * suc i = omega arith in
    chunk_at n k i (drop n xs) (omega arith) ∙ rw (drop-drop (n * i) n xs, next)
