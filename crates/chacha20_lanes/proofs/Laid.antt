-- The four lanes laid one after another: their bytes, their blocks, and what these are for counters of one seed and for four seeds. Assumes nothing.
use mathlib.Core.Path.{◌≡◌, refl, sym, ap, ◌∙◌}
use mathlib.Core.List.{List, ◌++◌, append_assoc, append-nil}
use Prim.Native.Nat.{ℕ, zero, suc, ◌+◌, ◌*◌, ◌-◌, ◌<◌, ◌≤◌}
use native.Mathlib.Omega.{arith}
use native.Mathlib.Nat.{add-zero}
use native.Mathlib.Numerals.{add-one}
use lib.ListN.{length, take, drop, length-append, length-drop, drop_of_length-le}
use lib.Seq.{drop-drop, length-take-le}
use borrow.Rule.Slice.PartMut.{put_mid}
use Rattle.xor.specs.Xor.{zeros}
use Rattle.chacha20.specs.Expand.{double_round, rounds, sums, low_bytes, seed_state, block, blocks}
use Rattle.chacha20.specs.Rfc8439.{initial_state}
use Rattle.xor.proofs.Walks.{part_written}
use Rattle.chacha20.proofs.Parts.{length-low_bytes}
use Rattle.chacha20.proofs.Rounds.{one_round_less, no_round_left}
use Rattle.chacha20.proofs.Stream.{seed_state_is}
use Rattle.chacha20_lanes.specs.Lanes.{every_fourth, lane_of, SideBySide, lanes_bytes, block_of, lanes_blocks, blocks_at}
use Rattle.chacha20_lanes.proofs.Places.{lane_of_sums}

-- ROUNDS of all lanes

-- each lane has some double rounds less to go
abbrev pub Going : (done : ℕ) → (old new : List ℕ) → Type 0
Going done old new = (length new ≡ 64) × ((m : ℕ) → m < 4 → rounds (10 - done) (lane_of m new) ≡ rounds 10 (lane_of m old))

pub one_going : (done : ℕ) (old new next : List ℕ) → done < 10 → Going done old new → SideBySide next (λ l. double_round (lane_of l new)) → Going (done + 1) old next
one_going done old new next h went stepped =
    (stepped.0, λ m m<. one_round_less done (lane_of m new) (lane_of m next) (lane_of m old) h (went.1 m m<) (stepped.1 m m<))

pub all_gone : (done : ℕ) (old new : List ℕ) → 10 ≤ done → Going done old new → SideBySide new (λ l. rounds 10 (lane_of l old))
all_gone done old new h went = (went.0, λ m m<. no_round_left done (lane_of m new) (lane_of m old) h (went.1 m m<))

-- BYTES of the lanes

length-lane_of : (l : ℕ) (xs : List ℕ) → length (lane_of l xs) ≡ 16
unfolding lane_of every_fourth
length-lane_of l xs = refl

length-lanes_bytes : (k : ℕ) (xs : List ℕ) → length (lanes_bytes k xs) ≡ 64 * k
unfolding lanes_bytes
length-lanes_bytes zero xs = refl
length-lanes_bytes (suc k) xs =
    length-append (lanes_bytes k xs) (low_bytes (lane_of k xs)) ∙ omega (arith, length-lanes_bytes k xs, length-low_bytes (lane_of k xs), length-lane_of k xs)

module _ (states old out : List ℕ) (l : ℕ) (so_far : out ≡ lanes_bytes l states ++ drop (64 * l) old) where
  -- a turn of the loop: the next lane's bytes are written
  pub next_lane : (part : List ℕ) → part ≡ low_bytes (lane_of l states) →
      put_mid (64 * l) (64 * l + 64 - 64 * l) out part ≡ lanes_bytes (l + 1) states ++ drop (64 * (l + 1)) old
  unfolding lanes_bytes
  next_lane part part_is =
      let next : 64 * (l + 1) ≡ 64 * l + 64 = omega arith in
      part_written (lanes_bytes l states) old out part (64 * l) (64 * l + 64) (length-lanes_bytes l states) (omega arith) so_far
      ∙ rw (part_is, next, add-one l)

  -- after the last turn all lanes are written
  pub all_lanes : l ≡ 4 → length old ≡ 256 → out ≡ lanes_bytes 4 states
  all_lanes h whole =
      so_far ∙ rw (drop_of_length-le old {i = 64 * l} (omega arith), h) (append-nil (lanes_bytes 4 states))

-- BLOCKS of the lanes

-- the bytes of the sums of what the rounds made and what they began with
sums_laid : (k : ℕ) (initial states : List ℕ) → k ≤ 4 → length initial ≡ 64 → SideBySide states (λ l. rounds 10 (lane_of l initial)) →
    lanes_bytes k (sums states initial) ≡ lanes_blocks k initial
unfolding lanes_bytes lanes_blocks block_of
sums_laid zero initial states h long went = refl
sums_laid (suc k) initial states h long went =
    rw (sums_laid k initial states (omega arith) long went, lane_of_sums k states initial went.0 long (omega arith), went.1 k (omega arith))

-- the steps from the rounds on: the sums, and their bytes
pub blocks_laid : (initial states summed out : List ℕ) → length initial ≡ 64 → SideBySide states (λ l. rounds 10 (lane_of l initial)) → summed ≡ sums states initial →
    out ≡ lanes_bytes 4 summed → out ≡ lanes_blocks 4 initial
blocks_laid initial states summed out long went sums_is is = is ∙ rw sums_is (sums_laid 4 initial states (omega arith) long went)

block_is : (seed : List ℕ) (c : ℕ) → block_of (seed_state seed c) ≡ block seed c
unfolding block_of block
block_is seed c = refl

-- COUNTERS of one seed

-- the state of a counter
pub counter_opened : (counter next l : ℕ) (seed words : List ℕ) → next ≡ counter + l → words ≡ initial_state seed next (zeros 12) → words ≡ seed_state seed (counter + l)
counter_opened counter next l seed words counts is = is ∙ rw counts (sym (seed_state_is seed (counter + l)))

-- one block more
blocks_snoc : (k c : ℕ) (seed : List ℕ) → blocks (suc k) c seed ≡ blocks k c seed ++ block seed (c + k)
unfolding blocks
blocks_snoc zero c seed = rw (add-zero c) (append-nil (block seed c))
blocks_snoc (suc k) c seed =
    let counter : suc c + k ≡ c + suc k = omega arith in
    ap (λ (l : List ℕ). block seed c ++ l) (blocks_snoc k (suc c) seed) ∙ rw counter (sym (append_assoc (block seed c) (blocks k (suc c) seed) (block seed (c + suc k))))

counters_laid : (k c : ℕ) (seed initial : List ℕ) → k ≤ 4 → SideBySide initial (λ l. seed_state seed (c + l)) → lanes_blocks k initial ≡ blocks k c seed
unfolding lanes_blocks blocks
counters_laid zero c seed initial h opened = refl
counters_laid (suc k) c seed initial h opened =
    rw (counters_laid k c seed initial (omega arith) opened, opened.1 k (omega arith), block_is seed (c + k)) (sym (blocks_snoc k c seed))

pub four_counters : (c : ℕ) (seed initial out : List ℕ) → SideBySide initial (λ l. seed_state seed (c + l)) → out ≡ lanes_blocks 4 initial → out ≡ blocks 4 c seed
four_counters c seed initial out opened is = is ∙ counters_laid 4 c seed initial (omega arith) opened

-- FOUR SEEDS

module _ (ss : List ℕ) (l : ℕ) where
  part : 32 * l + 32 - 32 * l ≡ 32
  part = omega arith

  -- a seed as the code cuts it out
  pub seed_long : length ss ≡ 128 → l < 4 → length (take (32 * l + 32 - 32 * l) (drop (32 * l) ss)) ≡ 32
  seed_long long h = rw part (length-take-le 32 (drop (32 * l) ss) (omega (arith, length-drop (32 * l) ss)))

  -- its state
  pub seed_opened : (c : ℕ) (words : List ℕ) → words ≡ initial_state (take (32 * l + 32 - 32 * l) (drop (32 * l) ss)) c (zeros 12) →
      words ≡ seed_state (take 32 (drop (32 * l) ss)) c
  seed_opened c words is = is ∙ rw part (sym (seed_state_is (take 32 (drop (32 * l) ss)) c))

blocks_at_snoc : (k c : ℕ) (ss : List ℕ) → blocks_at (suc k) c ss ≡ blocks_at k c ss ++ block (take 32 (drop (32 * k) ss)) c
unfolding blocks_at
blocks_at_snoc zero c ss = append-nil (block (take 32 ss) c)
blocks_at_snoc (suc k) c ss =
    let place : 32 + 32 * k ≡ 32 * suc k = omega arith in
    ap (λ (l : List ℕ). block (take 32 ss) c ++ l) (blocks_at_snoc k c (drop 32 ss))
    ∙ rw (drop-drop (32 * k) 32 ss, place) (sym (append_assoc (block (take 32 ss) c) (blocks_at k c (drop 32 ss)) (block (take 32 (drop (32 * suc k) ss)) c)))

seeds_laid : (k c : ℕ) (ss initial : List ℕ) → k ≤ 4 → SideBySide initial (λ l. seed_state (take 32 (drop (32 * l) ss)) c) →
    lanes_blocks k initial ≡ blocks_at k c ss
unfolding lanes_blocks blocks_at
seeds_laid zero c ss initial h opened = refl
seeds_laid (suc k) c ss initial h opened =
    rw (seeds_laid k c ss initial (omega arith) opened, opened.1 k (omega arith), block_is (take 32 (drop (32 * k) ss)) c) (sym (blocks_at_snoc k c ss))

pub four_seeds : (c : ℕ) (ss initial out : List ℕ) → SideBySide initial (λ l. seed_state (take 32 (drop (32 * l) ss)) c) → out ≡ lanes_blocks 4 initial →
    out ≡ blocks_at 4 c ss
four_seeds c ss initial out opened is = is ∙ seeds_laid 4 c ss initial (omega arith) opened
