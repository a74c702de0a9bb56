-- RFC 8439's ChaCha20 by key, block counter and nonce, over document 03's rounds: quarter rounds by places, the initial state, the
-- block function and the key stream. Document 03's `block` and `expand` are its instances with the nonce twelve zeros and the counter
-- from 0: `RowsByRfc8439`, a statement whose term is in proofs/Stream.antt. Assumes nothing: these are definitions and one statement.
use Rattle.std.specs.Prelude.{◌≡◌, ℕ, zero, suc, ◌+◌, ◌/◌, ◌<◌, List, [], ◌∷◌, ◌++◌, take, slice_index}
use Rattle.xor.specs.Xor.{zeros}
use Rattle.chacha20.specs.Expand.{at, quarter, rounds, key_words, sums, low_bytes, block, blocks, expand}

-- 2.2: four "indices .. of the ChaCha state"
abbrev pub Places : (places : List ℕ) → Type 0
Places ps = (slice_index ps 0 < 16) × (slice_index ps 1 < 16) × (slice_index ps 2 < 16) × (slice_index ps 3 < 16)

-- 2.2, QUARTERROUND(x, y, z, w): a quarter round at the four places of a quadruple
unfoldable pub quarter_at : (places : List ℕ) → List ℕ → List ℕ
quarter_at ps xs = quarter (at ps 0) (at ps 1) (at ps 2) (at ps 3) xs

-- 2.3: "The first four words (0-3) are constants": the sixteen bytes "expand 32-byte k", by document 01
unfoldable pub constant : List ℕ
constant =
    101 ∷ 120 ∷ 112 ∷ 97 ∷ 110 ∷ 100 ∷ 32 ∷ 51 ∷ 50 ∷ 45 ∷ 98 ∷ 121 ∷ 116 ∷ 101 ∷ 32 ∷ 107 ∷ []

-- 2.3: the constant, eight words of the key, the block counter, three words of the nonce, all read as little-endian
unfoldable pub initial_state : (key : List ℕ) → (counter : ℕ) → (nonce : List ℕ) → List ℕ
initial_state key c nonce = key_words 4 0 constant ++ key_words 8 0 key ++ (c ∷ key_words 3 0 nonce)

-- 2.3.1, chacha20_block: ten double rounds, then the initial state added, then serialized
unfoldable pub chacha20_block : (key : List ℕ) → (counter : ℕ) → (nonce : List ℕ) → List ℕ
chacha20_block key c nonce =
    low_bytes (sums (rounds 10 (initial_state key c nonce)) (initial_state key c nonce))

-- 2.4: the blocks of successive counters, one after another
unfoldable pub stream_blocks : (left c : ℕ) → (key nonce : List ℕ) → List ℕ
stream_blocks zero c key nonce = []
stream_blocks (suc k) c key nonce = chacha20_block key c nonce ++ stream_blocks k (suc c) key nonce

-- 2.4: n bytes of the key stream that begins with block c
unfoldable pub key_stream : (n c : ℕ) → (key nonce : List ℕ) → List ℕ
key_stream n c key nonce = take n (stream_blocks ((n + 63) / 64) c key nonce)

-- ROWS BY RFC 8439: document 03's block, blocks and expansion are the RFC's; "the nonce twelve zero bytes, the block counter starts at 0"
pub record RowsByRfc8439 : Type 0 where
  pub block_is : (seed : List ℕ) (c : ℕ) → block seed c ≡ chacha20_block seed c (zeros 12)
  pub blocks_are : (k c : ℕ) (seed : List ℕ) → blocks k c seed ≡ stream_blocks k c seed (zeros 12)
  pub expand_is : (n : ℕ) (seed : List ℕ) → expand n seed ≡ key_stream n 0 seed (zeros 12)
