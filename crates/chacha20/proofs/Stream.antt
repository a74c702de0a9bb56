-- The key stream: a block has 64 bytes, blocks stand one after another, a shorter stream begins a longer one, and bytes from a starting
-- byte on come from the blocks that hold them. Document 03's `block`, `blocks` and `expand` are the stream whose nonce is twelve zeros
-- and whose counter starts at 0. Assumes nothing.
use Rattle.std.proofs.Common.{◌≡◌, ℕ, zero, suc, ◌+◌, ◌-◌, ◌*◌, ◌/◌, ◌%◌, ◌<◌, ◌≤◌, true, List, [], ◌∷◌, ◌++◌, length, take, drop, sym, refl, ap, ◌∙◌, subst, append_assoc, append-nil, add-zero, zero-add, arith, length-set, take-take, drop-drop, drop_at}
use lib.Seq.{take-append-add, take-append-le}
use Rattle.xor.specs.Xor.{zeros, bytes_good}
use Rattle.xor.proofs.Laws.{Word, word_append, word_take, word_drop, good_cons}
use Rattle.chacha20.specs.Expand.{full, add, mixed, quarter, double_round, rounds, key_words, word_at, at, seed_state, sums, low_bytes, block, blocks, expand}
use Rattle.chacha20.specs.From.{expand_from}
use Rattle.chacha20.specs.Rfc8439.{constant, initial_state, chacha20_block, stream_blocks, key_stream, RowsByRfc8439}
use Rattle.chacha20.proofs.Parts.{length-sums, length-low_bytes, front_end}

-- DOCUMENT 03'S definitions are the instance

pub seed_state_is : (seed : List ℕ) (c : ℕ) → seed_state seed c ≡ initial_state seed c (zeros 12)
unfolding seed_state initial_state constant key_words word_at at zeros
seed_state_is seed c = refl

pub block_is : (seed : List ℕ) (c : ℕ) → block seed c ≡ chacha20_block seed c (zeros 12)
unfolding block chacha20_block
block_is seed c = rw (seed_state_is seed c)

pub blocks_is : (k c : ℕ) (seed : List ℕ) → blocks k c seed ≡ stream_blocks k c seed (zeros 12)
unfolding blocks stream_blocks
blocks_is zero c seed = refl
blocks_is (suc k) c seed = rw (block_is seed c, blocks_is k (suc c) seed)

pub expand_is : (n : ℕ) (seed : List ℕ) → expand n seed ≡ key_stream n 0 seed (zeros 12)
unfolding expand key_stream
expand_is n seed = rw (blocks_is ((n + 63) / 64) 0 seed)

pub rows_by_rfc8439 : RowsByRfc8439
rows_by_rfc8439 = record { block_is = block_is; blocks_are = blocks_is; expand_is = expand_is }

-- LENGTHS: no step changes the sixteen words

length-mixed : (a b d n : ℕ) (xs : List ℕ) → length (mixed a b d n xs) ≡ length xs
unfolding mixed
length-mixed a b d n xs = simp length-set

pub length-quarter : (a b c d : ℕ) (xs : List ℕ) → length (quarter a b c d xs) ≡ length xs
unfolding quarter
length-quarter a b c d xs = simp length-mixed

length-rounds : (k : ℕ) (xs : List ℕ) → length (rounds k xs) ≡ length xs
unfolding rounds double_round
length-rounds zero xs = refl
length-rounds (suc k) xs = length-rounds k (double_round xs) ∙ simp length-quarter

length-initial_state : (key nonce : List ℕ) (c : ℕ) → length (initial_state key c nonce) ≡ 16
unfolding initial_state key_words
length-initial_state key nonce c = refl

-- BYTES: a sum is a word, and a word has four bytes

word_good : (v : ℕ) (bs : List ℕ) → v < full → bytes_good bs ≡ true → bytes_good (v % 256 ∷ v / 256 % 256 ∷ v / 65536 % 256 ∷ v / 16777216 ∷ bs) ≡ true
word_good v bs h good =
    let fourth = good_cons (v / 16777216) bs (omega arith) good in
    let third = good_cons (v / 65536 % 256) (v / 16777216 ∷ bs) (omega arith) fourth in
    let second = good_cons (v / 256 % 256) (v / 65536 % 256 ∷ v / 16777216 ∷ bs) (omega arith) third in
    good_cons (v % 256) (v / 256 % 256 ∷ v / 65536 % 256 ∷ v / 16777216 ∷ bs) (omega arith) second

sums_good : (xs ys : List ℕ) → bytes_good (low_bytes (sums xs ys)) ≡ true
unfolding sums low_bytes bytes_good add
sums_good [] ys = refl
sums_good (x ∷ xs) [] = refl
sums_good (x ∷ xs) (y ∷ ys) = word_good ((x + y) % full) (low_bytes (sums xs ys)) (omega arith) (sums_good xs ys)

pub word_block : (key nonce : List ℕ) (c : ℕ) → Word 64 (chacha20_block key c nonce)
unfolding chacha20_block
word_block key nonce c =
    let start = initial_state key c nonce in
    let same = length-rounds 10 start in
    let words : length (sums (rounds 10 start) start) ≡ 16 = length-sums (rounds 10 start) start same ∙ same ∙ length-initial_state key nonce c in
    record {
      long = length-low_bytes (sums (rounds 10 start) start) ∙ ap (λ (n : ℕ). 4 * n) words;
      good = sums_good (rounds 10 start) start;
    }

word_stream : (k c : ℕ) (key nonce : List ℕ) → Word (64 * k) (stream_blocks k c key nonce)
unfolding stream_blocks bytes_good
word_stream zero c key nonce = record { long = refl; good = refl }
word_stream (suc k) c key nonce =
    subst (λ (n : ℕ). Word n (chacha20_block key c nonce ++ stream_blocks k (suc c) key nonce)) (omega arith)
    (word_append (chacha20_block key c nonce) (stream_blocks k (suc c) key nonce) (word_block key nonce c) (word_stream k (suc c) key nonce))

-- n bytes of the key stream are n bytes: every row that `expand` makes is one
pub word_key_stream : (n c : ℕ) (key nonce : List ℕ) → Word n (key_stream n c key nonce)
unfolding key_stream
word_key_stream n c key nonce =
    word_take n (stream_blocks ((n + 63) / 64) c key nonce) (omega arith) (word_stream ((n + 63) / 64) c key nonce)

pub word_expand : (n : ℕ) (seed : List ℕ) → Word n (expand n seed)
word_expand n seed = rw (expand_is n seed) (word_key_stream n 0 seed (zeros 12))

-- PARTS of the key stream

-- some blocks and then some more
stream_add : (m k c : ℕ) (key nonce : List ℕ) → stream_blocks (m + k) c key nonce ≡ stream_blocks m c key nonce ++ stream_blocks k (c + m) key nonce
unfolding stream_blocks
stream_add zero k c key nonce =
    let none : zero + k ≡ k = omega arith in
    rw (none, add-zero c)
stream_add (suc m) k c key nonce =
    let one_more : suc m + k ≡ suc (m + k) = omega arith in
    let counter : suc c + m ≡ c + suc m = omega arith in
    rw (one_more, append_assoc, ← counter) (ap (λ (l : List ℕ). chacha20_block key c nonce ++ l) (stream_add m k (suc c) key nonce))

-- n bytes are the first n of any blocks that are enough
pub key_stream_of : (n k c : ℕ) (key nonce : List ℕ) → n ≤ 64 * k → take n (stream_blocks k c key nonce) ≡ key_stream n c key nonce
unfolding key_stream
key_stream_of n k c key nonce h =
    let needed = (n + 63) / 64 in
    let enough : needed + (k - needed) ≡ k = omega arith in
    let long : n ≤ length (stream_blocks needed c key nonce) = omega (arith, (word_stream needed c key nonce).long) in
    subst (λ (m : ℕ). take n (stream_blocks m c key nonce) ≡ take n (stream_blocks needed c key nonce)) enough
    (rw (stream_add needed (k - needed) c key nonce) (take-append-le n (stream_blocks needed c key nonce) (stream_blocks (k - needed) (c + needed) key nonce) long))

-- at most a block of the key stream
pub key_stream_short : (n c : ℕ) (key nonce : List ℕ) → n ≤ 64 → key_stream n c key nonce ≡ take n (chacha20_block key c nonce)
unfolding stream_blocks
key_stream_short n c key nonce h =
    sym (key_stream_of n 1 c key nonce (omega arith)) ∙ ap (λ (l : List ℕ). take n l) (append-nil (chacha20_block key c nonce))

-- a shorter stream begins a longer one
pub take-key_stream : (m n c : ℕ) (key nonce : List ℕ) → m ≤ n → take m (key_stream n c key nonce) ≡ key_stream m c key nonce
unfolding key_stream
take-key_stream m n c key nonce h =
    take-take m n (stream_blocks ((n + 63) / 64) c key nonce) h ∙ key_stream_of m ((n + 63) / 64) c key nonce (omega arith)

-- some whole blocks, and then the rest of the stream
key_stream_add : (k n c : ℕ) (key nonce : List ℕ) → key_stream (64 * k + n) c key nonce ≡ stream_blocks k c key nonce ++ key_stream n (c + k) key nonce
unfolding key_stream
key_stream_add k n c key nonce =
    let more = (n + 63) / 64 in
    let front = stream_blocks k c key nonce in
    let long : length front ≡ 64 * k = (word_stream k c key nonce).long in
    sym (key_stream_of (64 * k + n) (k + more) c key nonce (omega arith))
    ∙ rw (stream_add k more c key nonce, ← long) (take-append-add front (stream_blocks more (c + k) key nonce) n)

-- what follows whole blocks is the stream from a later counter on
pub drop-key_stream : (k n c : ℕ) (key nonce : List ℕ) → drop (64 * k) (key_stream (64 * k + n) c key nonce) ≡ key_stream n (c + k) key nonce
drop-key_stream k n c key nonce =
    rw (key_stream_add k n c key nonce) (drop_at (stream_blocks k c key nonce) (key_stream n (c + k) key nonce) (64 * k) (word_stream k c key nonce).long)

-- BYTES FROM s TO e of the key stream: those of the blocks from s / 64 on, without the first s % 64
pub part_of_key_stream : (s e c : ℕ) (key nonce : List ℕ) → s ≤ e → drop s (key_stream e c key nonce) ≡ drop (s % 64) (key_stream (e - 64 * (s / 64)) (c + s / 64) key nonce)
part_of_key_stream s e c key nonce h =
    let first = s / 64 in
    let start : 64 * first + s % 64 ≡ s = omega arith in
    let all : 64 * first + (e - 64 * first) ≡ e = omega arith in
    let later = drop-key_stream first (e - 64 * first) c key nonce in
    let same : drop (64 * first) (key_stream e c key nonce) ≡ key_stream (e - 64 * first) (c + first) key nonce = subst (λ (n : ℕ). drop (64 * first) (key_stream n c key nonce) ≡ key_stream (e - 64 * first) (c + first) key nonce) all later in
    subst (λ (n : ℕ). drop n (key_stream e c key nonce) ≡ drop (s % 64) (key_stream (e - 64 * first) (c + first) key nonce)) start
    (sym (drop-drop (s % 64) (64 * first) (key_stream e c key nonce)) ∙ ap (λ (l : List ℕ). drop (s % 64) l) same)

-- a shorter row begins a longer one
pub take-expand : (m n : ℕ) (seed : List ℕ) → m ≤ n → take m (expand n seed) ≡ expand m seed
take-expand m n seed h = rw (expand_is n seed, expand_is m seed) (take-key_stream m n 0 seed (zeros 12) h)

-- BYTES FROM A STARTING BYTE ON, of a row

-- they are the same bytes of every row that is long enough
pub from_within : (s n l : ℕ) (seed : List ℕ) → s + n ≤ l → expand_from s n seed ≡ take n (drop s (expand l seed))
unfolding expand_from
from_within s n l seed h = ap (λ (xs : List ℕ). drop s xs) (sym (take-expand (s + n) l seed h)) ∙ front_end s n (expand l seed)

-- from byte 0 on they are the row
pub from_zero : (n : ℕ) (seed : List ℕ) → expand_from 0 n seed ≡ expand n seed
unfolding expand_from
from_zero n seed = ap (λ (k : ℕ). expand k seed) (zero-add n)

-- a part of them begins at a later byte
pub part_of_from : (s n d m : ℕ) (seed : List ℕ) → d + m ≤ n → take m (drop d (expand_from s n seed)) ≡ expand_from (s + d) m seed
unfolding expand_from
part_of_from s n d m seed h =
    ap (λ (xs : List ℕ). take m xs) (drop-drop d s (expand (s + n) seed)) ∙ sym (from_within (s + d) m (s + n) seed (omega arith))

pub word_from : (s n : ℕ) (seed : List ℕ) → Word n (expand_from s n seed)
unfolding expand_from
word_from s n seed =
    let left : s + n - s ≡ n = omega arith in
    subst (λ (k : ℕ). Word k (drop s (expand (s + n) seed))) left (word_drop s (expand (s + n) seed) (word_expand (s + n) seed))

-- they lie in the blocks from s / 64 on, behind the first s % 64 bytes
pub from_blocks : (s n : ℕ) (seed : List ℕ) → expand_from s n seed ≡ drop (s % 64) (key_stream (s % 64 + n) (s / 64) seed (zeros 12))
unfolding expand_from
from_blocks s n seed =
    let first : 0 + s / 64 ≡ s / 64 = omega arith in
    let long : s + n - 64 * (s / 64) ≡ s % 64 + n = omega arith in
    rw (expand_is (s + n) seed)
    (part_of_key_stream s (s + n) 0 seed (zeros 12) (omega arith) ∙ rw (first, long))
