-- Parts of four rows that one block of each has, out of the blocks of four seeds, and the seeds taken by fours. Assumes nothing.
use mathlib.Core.Path.{◌≡◌, refl, sym, ap, ◌∙◌}
use mathlib.Core.List.{List, ◌++◌}
use Prim.Native.Nat.{ℕ, zero, suc, ◌+◌, ◌*◌, ◌-◌, ◌/◌, ◌%◌, ◌<◌, ◌≤◌}
use native.Mathlib.Omega.{arith}
use native.Mathlib.Nat.{not-suc-le-zero}
use lib.ListN.{length, take, drop, length-drop}
use lib.Seq.{take_at, drop_at, drop-drop}
use Rattle.xor.specs.Xor.{xors, zeros}
use Rattle.xor.proofs.Laws.{xors_assoc}
use Rattle.chacha20.specs.Expand.{block}
use Rattle.chacha20.specs.From.{expand_from}
use Rattle.chacha20.specs.Rfc8439.{key_stream}
use Rattle.chacha20.proofs.Stream.{block_is, word_block, key_stream_short}
use Rattle.chacha20_lanes.specs.Lanes.{blocks_at}
use Rattle.seed_row.proofs.OneRow.{stretch_made}
use Rattle.seed_rows.specs.Rows.{rows_joined}
use Rattle.seed_rows.proofs.Joined.{rows_add, rows_of_front}

block_long : (seed : List ℕ) (c : ℕ) → length (block seed c) ≡ 64
block_long seed c = rw (block_is seed c) (word_block seed (zeros 12) c).long

-- the block of one of the seeds
block_at : (k c i : ℕ) (ss : List ℕ) → i < k → take 64 (drop (64 * i) (blocks_at k c ss)) ≡ block (take 32 (drop (32 * i) ss)) c
unfolding blocks_at
block_at zero c i ss h = absurd (not-suc-le-zero h)
block_at (suc k) c zero ss h = take_at (block (take 32 ss) c) (blocks_at k c (drop 32 ss)) 64 (block_long (take 32 ss) c)
block_at (suc k) c (suc i) ss h =
    let first = block (take 32 ss) c in
    let rest = blocks_at k c (drop 32 ss) in
    let here : 64 * suc i ≡ 64 + 64 * i = omega arith in
    let seed : 32 + 32 * i ≡ 32 * suc i = omega arith in
    let behind : drop (64 * suc i) (first ++ rest) ≡ drop (64 * i) rest = rw here
    (sym (drop-drop (64 * i) 64 (first ++ rest)) ∙ ap (λ (l : List ℕ). drop (64 * i) l) (drop_at first rest 64 (block_long (take 32 ss) c))) in
    rw behind (block_at k c i (drop 32 ss) (omega arith) ∙ rw (drop-drop (32 * i) 32 ss, seed))

-- what the code takes out of one of the four blocks is a part of a row
pub row_of_four : (i at c skip had n : ℕ) (ss made one : List ℕ) → i < 4 → c ≡ at / 64 → skip ≡ at % 64 → skip + n ≤ 64 → had ≡ n → made ≡ blocks_at 4 c ss →
    one ≡ take 64 (drop (64 * i) made) → take (skip + had - skip) (drop skip one) ≡ expand_from at n (take 32 (drop (32 * i) ss))
row_of_four i at c skip had n ss made one h c_is skip_is room e is one_is =
    let seed = take 32 (drop (32 * i) ss) in
    let front : take (skip + n) one ≡ key_stream (skip + n) c seed (zeros 12) =
    rw (one_is, is, block_at 4 c i ss h, block_is seed c) (sym (key_stream_short (skip + n) c seed (zeros 12) room)) in
    rw e (stretch_made at n c skip (skip + n) seed one c_is skip_is refl front)

module _ (ss : List ℕ) (fours s n : ℕ) (old : List ℕ) {out new : List ℕ} (had : ℕ) (e : had ≡ n) (so_far : out ≡ xors old (rows_joined (4 * fours) s n ss)) where
  -- a turn of the loop: four seeds more
  pub four_more : (four : List ℕ) → four ≡ take 128 (drop (128 * fours) ss) → new ≡ xors out (rows_joined 4 s had four) →
      new ≡ xors old (rows_joined (4 * (fours + 1)) s n ss)
  four_more four four_is is =
      let place : 128 * fours ≡ 32 * (4 * fours) = omega arith in
      let next : 4 * (fours + 1) ≡ 4 * fours + 4 = omega arith in
      is
      ∙ rw (so_far, e, four_is, place, next, rows_of_front 4 s n 128 (drop (32 * (4 * fours)) ss) (omega arith), rows_add (4 * fours) 4 s n ss)
      (xors_assoc old (rows_joined (4 * fours) s n ss) (rows_joined 4 s n (drop (32 * (4 * fours)) ss)))

  -- the seeds behind those taken by fours
  pub rest_more : (rest : List ℕ) → fours ≡ length ss / 128 → rest ≡ drop (length ss / 128 * 128) ss →
      new ≡ xors out (rows_joined (length rest / 32) s had rest) → new ≡ xors old (rows_joined (length ss / 32) s n ss)
  rest_more rest fours_is rest_is is =
      let place : length ss / 128 * 128 ≡ 32 * (4 * fours) = omega arith in
      let left = length-drop (32 * (4 * fours)) ss in
      let all : 4 * fours + length (drop (32 * (4 * fours)) ss) / 32 ≡ length ss / 32 = omega arith in
      is
      ∙ rw (so_far, e, rest_is, place, ← all, rows_add (4 * fours) (length (drop (32 * (4 * fours)) ss) / 32) s n ss)
      (xors_assoc old (rows_joined (4 * fours) s n ss) (rows_joined (length (drop (32 * (4 * fours)) ss) / 32) s n (drop (32 * (4 * fours)) ss)))
