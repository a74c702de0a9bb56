-- Rows from seeds: ChaCha20's key stream, nonce zero, counter from 0. Document 03's definitions, word for word; the comment at each
-- says which sentence of RFC 8439 (by section) or of document 01 it writes down. Assumes nothing: these are definitions.
use Rattle.std.specs.Prelude.{ℕ, zero, suc, ◌+◌, ◌-◌, ◌*◌, ◌/◌, ◌%◌, ◌^◌, List, [], ◌∷◌, ◌++◌, take, slice_index, slice_set}
use Rattle.xor.specs.Xor.{xor_from}

-- 2.1: the modulus of "integer addition modulo 2^32"
abbrev pub full : ℕ
full = 4294967296

-- 2.1: "'+' denotes integer addition modulo 2^32"
unfoldable pub add : (a b : ℕ) → ℕ
add a b = (a + b) % full

-- 2.1: "'^' denotes a bitwise Exclusive OR (XOR)", of words
unfoldable pub xor_word : (a b : ℕ) → ℕ
xor_word a b = xor_from 32 a b

-- 2.1: "'<<< n' denotes an n-bit left roll (towards the high bits)"
unfoldable pub rolled : (v n : ℕ) → ℕ
rolled v n = v * 2 ^ n % full + v / 2 ^ (32 - n)

-- 2.2: the state's word with an index
unfoldable pub at : List ℕ → (i : ℕ) → ℕ
at xs i = slice_index xs i

-- 2.1, one of the four lines, a += b; d ^= a; d <<<= n: a half step
unfoldable pub mixed : (a b d n : ℕ) → List ℕ → List ℕ
mixed a b d n xs =
    let s = add (at xs a) (at xs b) in slice_set (slice_set xs a s) d (rolled (xor_word (at xs d) s) n)

-- 2.1, 2.2: QUARTERROUND(a, b, c, d), its four lines one after another
unfoldable pub quarter : (a b c d : ℕ) → List ℕ → List ℕ
quarter a b c d xs = mixed c d b 7 (mixed a b d 8 (mixed c d b 12 (mixed a b d 16 xs)))

-- 2.3: a column round and then a diagonal round, in the RFC's order, the first innermost
unfoldable pub double_round : List ℕ → List ℕ
double_round xs =
    quarter 3 4 9 14 (quarter 2 7 8 13 (quarter 1 6 11 12 (quarter 0 5 10 15
    (quarter 3 7 11 15 (quarter 2 6 10 14 (quarter 1 5 9 13 (quarter 0 4 8 12 xs)))))))

-- 2.3: rounds, "alternating between column rounds and diagonal rounds"; ten double rounds are the 20 rounds
unfoldable pub rounds : (left : ℕ) → List ℕ → List ℕ
rounds zero xs = xs
rounds (suc k) xs = rounds k (double_round xs)

-- 2.3: four bytes "taken as a little-endian integer"
unfoldable pub word_at : List ℕ → (i : ℕ) → ℕ
word_at bs i = at bs i + 256 * at bs (suc i) + 65536 * at bs (2 + i) + 16777216 * at bs (3 + i)

-- 2.3: "by reading the bytes in little-endian order, in 4-byte chunks"
unfoldable pub key_words : (left i : ℕ) → List ℕ → List ℕ
key_words zero i bs = []
key_words (suc k) i bs = word_at bs i ∷ key_words k (4 + i) bs

-- 2.3: constants, key, block counter, and here a nonce of zeros
unfoldable pub seed_state : (seed : List ℕ) → (counter : ℕ) → List ℕ
seed_state bs c = (1634760805 ∷ 857760878 ∷ 2036477234 ∷ 1797285236 ∷ []) ++ key_words 8 0 bs ++ (c ∷ 0 ∷ 0 ∷ 0 ∷ [])

-- 2.3: "we add the original input words to the output words"
unfoldable pub sums : List ℕ → List ℕ → List ℕ
sums [] ys = []
sums (x ∷ xs) [] = []
sums (x ∷ xs) (y ∷ ys) = add x y ∷ sums xs ys

-- 2.3: "sequencing the words one-by-one in little-endian order"
unfoldable pub low_bytes : List ℕ → List ℕ
low_bytes [] = []
low_bytes (x ∷ xs) = (x % 256) ∷ (x / 256 % 256) ∷ (x / 65536 % 256) ∷ (x / 16777216) ∷ low_bytes xs

-- 2.3: the block function, at the nonce twelve zeros (document 01)
unfoldable pub block : (seed : List ℕ) → (counter : ℕ) → List ℕ
block bs c = low_bytes (sums (rounds 10 (seed_state bs c)) (seed_state bs c))

-- 2.4: the blocks of successive counters, one after another
unfoldable pub blocks : (left c : ℕ) → (seed : List ℕ) → List ℕ
blocks zero c bs = []
blocks (suc k) c bs = block bs c ++ blocks k (suc c) bs

-- document 01: "A row is the first μ × w bytes of the key stream", "the block counter starts at 0"
unfoldable pub expand : (n : ℕ) → (seed : List ℕ) → List ℕ
expand n bs = take n (blocks ((n + 63) / 64) 0 bs)
