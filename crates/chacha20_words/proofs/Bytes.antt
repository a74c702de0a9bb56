-- The bytes of a word, read and written, and a state's words that are serialized one by one. Assumes nothing.
use Rattle.std.proofs.Common.{◌≡◌, ℕ, ◌+◌, ◌-◌, ◌*◌, ◌/◌, ◌%◌, ◌^◌, ◌<◌, List, [], ◌∷◌, ◌++◌, length, get_or, take, drop, refl, ap, ◌∙◌, add_comm, add-one, arith, length-take-le, take-suc}
use lib.ListN.{set}
use Rattle.std.specs.Int.{w32, to_le_bytes}
use borrow.Rule.Slice.PartMut.{put_mid}
use Rattle.chacha20.specs.Expand.{at, word_at, low_bytes}
use Rattle.xor.proofs.Walks.{part_written}
use Rattle.chacha20.proofs.Parts.{length-low_bytes}

-- four bytes that stand one after another, read with the lowest first, are the word of their place
pub word_of_four : (bs : List ℕ) (i : ℕ) →
    get_or bs i 0 + get_or bs (i + 1) 0 * 256 + get_or bs (i + 2) 0 * 65536 + get_or bs (i + 3) 0 * 16777216 ≡ word_at bs i
unfolding word_at at
word_of_four bs i = rw (add-one i, add_comm i 2, add_comm i 3) (omega arith)

-- a word's bytes, the lowest first
pub bytes_of_word : (v : ℕ) → v < 2 ^ 32 → to_le_bytes w32 v ≡ low_bytes (v ∷ [])
unfolding low_bytes
bytes_of_word v h = let highest : v / 16777216 % 256 ≡ v / 16777216 = omega arith in rw highest

-- four places hold the four bytes that are written one by one
four_of : (a b c d : ℕ) (bs : List ℕ) → length bs ≡ 4 →
    set (set (set (set (a ∷ b ∷ c ∷ d ∷ []) 0 (get_or bs 0 0)) 1 (get_or bs 1 0)) 2 (get_or bs 2 0)) 3 (get_or bs 3 0) ≡ bs
four_of a b c d [] k = let none : ⊥ = omega arith in absurd none
four_of a b c d (e ∷ []) k = let none : ⊥ = omega arith in absurd none
four_of a b c d (e ∷ f ∷ []) k = let none : ⊥ = omega arith in absurd none
four_of a b c d (e ∷ f ∷ g ∷ []) k = let none : ⊥ = omega arith in absurd none
four_of a b c d (e ∷ f ∷ g ∷ h ∷ []) k = refl
four_of a b c d (e ∷ f ∷ g ∷ h ∷ i ∷ is) k = let none : ⊥ = omega arith in absurd none

pub four_written : (xs bs : List ℕ) → length xs ≡ 4 → length bs ≡ 4 →
    set (set (set (set xs 0 (get_or bs 0 0)) 1 (get_or bs 1 0)) 2 (get_or bs 2 0)) 3 (get_or bs 3 0) ≡ bs
four_written [] bs h k = let none : ⊥ = omega arith in absurd none
four_written (a ∷ []) bs h k = let none : ⊥ = omega arith in absurd none
four_written (a ∷ b ∷ []) bs h k = let none : ⊥ = omega arith in absurd none
four_written (a ∷ b ∷ c ∷ []) bs h k = let none : ⊥ = omega arith in absurd none
four_written (a ∷ b ∷ c ∷ d ∷ []) bs h k = four_of a b c d bs k
four_written (a ∷ b ∷ c ∷ d ∷ e ∷ es) bs h k = let none : ⊥ = omega arith in absurd none

low_bytes_append : (xs ys : List ℕ) → low_bytes (xs ++ ys) ≡ low_bytes xs ++ low_bytes ys
unfolding low_bytes
low_bytes_append [] ys = refl
low_bytes_append (x ∷ xs) ys = rw (low_bytes_append xs ys)

-- a turn of the loop that serializes a state: the next word's bytes are written
module _ (words old out part : List ℕ) (i : ℕ) (long : length words ≡ 16) where
  pub next_word : i < 16 → out ≡ low_bytes (take i words) ++ drop (4 * i) old → part ≡ low_bytes (get_or words i 0 ∷ []) →
      put_mid (4 * i) (4 * i + 4 - 4 * i) out part ≡ low_bytes (take (i + 1) words) ++ drop (4 * (i + 1)) old
  next_word h so_far part_is =
      let front : length (low_bytes (take i words)) ≡ 4 * i = length-low_bytes (take i words) ∙ ap (λ (n : ℕ). 4 * n) (length-take-le i words (omega arith)) in
      let next : 4 * (i + 1) ≡ 4 * i + 4 = omega arith in
      part_written (low_bytes (take i words)) old out part (4 * i) (4 * i + 4) front (omega arith) so_far
      ∙ rw (part_is, next, add-one i, take-suc words i 0 (omega arith), low_bytes_append (take i words) (get_or words i 0 ∷ []))
