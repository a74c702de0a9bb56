-- A stretch of one row, out of the blocks that hold it. Assumes nothing.
use mathlib.Core.Path.{◌≡◌, sym, ap, ◌∙◌}
use mathlib.Core.List.{List, ◌++◌}
use mathlib.Core.Logic.{◌⊎◌, ⊎_elim}
use Prim.Native.Nat.{ℕ, ◌+◌, ◌-◌, ◌/◌, ◌%◌, ◌≤◌, ◌<◌}
use native.Mathlib.Omega.{arith}
use native.Mathlib.Nat.{zero-add}
use lib.ListN.{length, take, drop}
use lib.Seq.{take-append-le, take_all}
use Rattle.xor.specs.Xor.{zeros}
use Rattle.writer.specs.Written.{Wrote}
use Rattle.writer.proofs.Laws.{written_front, in_front_whole}
use Rattle.chacha20.specs.Expand.{blocks}
use Rattle.chacha20.specs.From.{expand_from}
use Rattle.chacha20.specs.Rfc8439.{chacha20_block, key_stream}
use Rattle.chacha20.proofs.Parts.{front_end}
use Rattle.chacha20.proofs.Stream.{blocks_is, word_block, word_from, key_stream_of, from_blocks, part_of_from, key_stream_short}
use Rattle.seed_row.proofs.Walks.{Stretched}

-- ROOM for one block or for four: one has room, and where more is wanted four have
pub room_for_one : (n : ℕ) → (n ≡ 64) ⊎ (n ≡ 256) → 64 ≤ n
room_for_one n = ⊎_elim (λ e. omega arith) (λ e. omega arith)

pub room_for_four : (n bytes : ℕ) → (n ≡ 64) ⊎ (n ≡ 256) → bytes ≤ n → 64 < bytes → n ≡ 256
room_for_four n bytes room fits more = ⊎_elim (λ e. let none : ⊥ = omega arith in absurd none) (λ e. e) room

-- the front of four blocks
pub front_of_four : (n c : ℕ) (seed made : List ℕ) → n ≤ 256 → made ≡ blocks 4 c seed → take n made ≡ key_stream n c seed (zeros 12)
front_of_four n c seed made h is = rw (is, blocks_is 4 c seed) (key_stream_of n 4 c seed (zeros 12) h)

-- the front of one block, with something behind it
pub front_of_one : (n c : ℕ) (seed made rest : List ℕ) → n ≤ 64 → made ≡ chacha20_block seed c (zeros 12) → take n (made ++ rest) ≡ key_stream n c seed (zeros 12)
front_of_one n c seed made rest h is =
    let nonce = zeros 12 in
    rw is (take-append-le n (chacha20_block seed c nonce) rest (omega (arith, (word_block seed nonce c).long)) ∙ sym (key_stream_short n c seed nonce h))

-- what is wanted lies behind the first bytes of the blocks that are made
pub stretch_made : (at n c skip end : ℕ) (seed made : List ℕ) → c ≡ at / 64 → skip ≡ at % 64 → end ≡ skip + n →
    take end made ≡ key_stream end c seed (zeros 12) →
    take (end - skip) (drop skip made) ≡ expand_from at n seed
stretch_made at n c skip end seed made c_is skip_is end_is front =
    let long : skip + n - skip ≡ n = omega arith in
    rw (end_is, long)
    (sym (front_end skip n made) ∙ ap (λ (xs : List ℕ). drop skip xs) (rw end_is at front) ∙ rw (skip_is, c_is) (sym (from_blocks at n seed)))

-- whole blocks are the stretch that begins with the first of them
pub whole : (at n c : ℕ) (seed out : List ℕ) → c ≡ at / 64 → at % 64 ≡ 0 → length out ≡ n → {m : ℕ} → take m out ≡ key_stream m c seed (zeros 12) → m ≡ n →
    out ≡ expand_from at n seed
whole at n c seed out c_is first long front all =
    sym (from_blocks at n seed ∙ rw (first, zero-add n, ← c_is) (sym (rw all at front) ∙ take_all n out (omega (arith, long))))

-- a stretch that is written over the whole output
pub all_put : (at : ℕ) (seed old part now : List ℕ) (r : ℕ) → Wrote 0 part r old now → part ≡ expand_from at (length old) seed →
    now ≡ expand_from at (length old) seed
all_put at seed old part now r wrote part_is =
    let long : length part ≡ length old = rw part_is (word_from at (length old) seed).long in
    wrote.now_is ∙ written_front part old ∙ in_front_whole part old long ∙ part_is

-- stretches of a row
pub of_row : (seed : List ℕ) → Stretched (λ s n. expand_from s n seed)
of_row seed = record { long = λ s n. (word_from s n seed).long; part = λ s n d m h. part_of_from s n d m seed h }
