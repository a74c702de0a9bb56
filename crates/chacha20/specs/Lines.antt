-- Four quarter rounds stepped together, line by line: what the code does for speed. proofs/Together.antt shows that a double round so stepped is
-- document 03's. Assumes nothing: these are definitions.
use Rattle.std.specs.Prelude.{ℕ, ◌<◌, List}
use Rattle.chacha20.specs.Expand.{at, mixed}
use Rattle.chacha20.specs.Rfc8439.{Places}

-- 2.1: the first line of four quarter rounds, or the third, at the places of four quadruples: a += b; d ^= a; d <<<= n
unfoldable pub odd_lines : (ps qs rs ss : List ℕ) → (n : ℕ) → List ℕ → List ℕ
odd_lines ps qs rs ss n xs =
    mixed (at ss 0) (at ss 1) (at ss 3) n (mixed (at rs 0) (at rs 1) (at rs 3) n
    (mixed (at qs 0) (at qs 1) (at qs 3) n (mixed (at ps 0) (at ps 1) (at ps 3) n xs)))

-- the second line of four, or the last: c += d; b ^= c; b <<<= n
unfoldable pub even_lines : (ps qs rs ss : List ℕ) → (n : ℕ) → List ℕ → List ℕ
even_lines ps qs rs ss n xs =
    mixed (at ss 2) (at ss 3) (at ss 1) n (mixed (at rs 2) (at rs 3) (at rs 1) n
    (mixed (at qs 2) (at qs 3) (at qs 1) n (mixed (at ps 2) (at ps 3) (at ps 1) n xs)))

-- four quadruples of places, and by how many bits a line rolls
abbrev pub Lines : (ps qs rs ss : List ℕ) → (n : ℕ) → Type 0
Lines ps qs rs ss n = (Places ps) × (Places qs) × (Places rs) × (Places ss) × (0 < n) × (n < 32)
