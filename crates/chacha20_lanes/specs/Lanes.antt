-- Four states of sixteen words side by side in sixty-four words: word w of lane l stands at 4·w + l. A lane is an ordinary state, so all
-- that is defined here is how a lane is taken out, and what the blocks of four lanes are. Assumes nothing: these are definitions.
use Rattle.std.specs.Prelude.{◌≡◌, List, [], ◌∷◌, ◌++◌, ℕ, zero, suc, ◌+◌, ◌<◌, length, get_or, take, drop}
use Rattle.chacha20.specs.Expand.{rounds, sums, low_bytes, block}

-- the words at i, 4 + i, 4 + (4 + i) and so on
unfoldable pub every_fourth : (left i : ℕ) → List ℕ → List ℕ
every_fourth zero i xs = []
every_fourth (suc k) i xs = get_or xs i 0 ∷ every_fourth k (4 + i) xs

-- a lane's state
unfoldable pub lane_of : (l : ℕ) → List ℕ → List ℕ
lane_of l xs = every_fourth 16 l xs

-- four states, given lane by lane
abbrev pub SideBySide : (states : List ℕ) → (state : ℕ → List ℕ) → Type 0
SideBySide xs f = (length xs ≡ 64) × ((l : ℕ) → l < 4 → lane_of l xs ≡ f l)

-- `new` is `old`, but that lane l has become `words`
pub record Put (l : ℕ) (words old new : List ℕ) : Type 0 where
  pub long : length new ≡ 64
  pub same : lane_of l new ≡ words
  pub below : (m : ℕ) → m < l → lane_of m new ≡ lane_of m old
  pub above : (m : ℕ) → l < m → m < 4 → lane_of m new ≡ lane_of m old

-- the bytes of the first `count` lanes, one after another
unfoldable pub lanes_bytes : (count : ℕ) → (states : List ℕ) → List ℕ
lanes_bytes zero xs = []
lanes_bytes (suc k) xs = lanes_bytes k xs ++ low_bytes (lane_of k xs)

-- the block function's last steps, of one state: ten double rounds, the state itself added, serialized
unfoldable pub block_of : (state : List ℕ) → List ℕ
block_of xs = low_bytes (sums (rounds 10 xs) xs)

-- the blocks of the first `count` lanes, one after another
unfoldable pub lanes_blocks : (count : ℕ) → (states : List ℕ) → List ℕ
lanes_blocks zero xs = []
lanes_blocks (suc k) xs = lanes_blocks k xs ++ block_of (lane_of k xs)

-- the blocks of one counter of seeds of 32 bytes that stand one after another
unfoldable pub blocks_at : (left c : ℕ) → (seeds : List ℕ) → List ℕ
blocks_at zero c ss = []
blocks_at (suc k) c ss = block (take 32 ss) c ++ blocks_at k c (drop 32 ss)
