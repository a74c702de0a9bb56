-- Stretches of something, in an output that is gone over part by part: each part is written, or has its XOR with the stretch that belongs
-- there. Assumes nothing.
use mathlib.Core.Path.{◌≡◌, sym, ◌∙◌}
use mathlib.Core.List.{List}
use Prim.Native.Nat.{ℕ, ◌+◌, ◌-◌, ◌≤◌}
use native.Mathlib.Omega.{arith}
use lib.ListN.{length, take, drop}
use borrow.Rule.Slice.PartMut.{mid_of, put_mid, mid_len}
use Rattle.xor.specs.Xor.{xors}
use Rattle.xor.proofs.Walks as walks
use Rattle.xor.proofs.Walks.{Gone, next_gone}

-- STRETCHES of something: n bytes from byte s on, and a part of them is the stretch that begins there
pub record Stretched (F : (s n : ℕ) → List ℕ) : Type 0 where
  pub long : (s n : ℕ) → length (F s n) ≡ n
  pub part : (s n d m : ℕ) → d + m ≤ n → take m (drop d (F s n)) ≡ F (s + d) m

module _ {F : (s n : ℕ) → List ℕ} (f : Stretched F) (old out : List ℕ) (start done : ℕ) where
  abbrev all : List ℕ
  all = F start (length old)

  -- the bytes of a turn
  turn : (end had : ℕ) → done ≤ end → end ≤ length old → had ≡ end - done → F (start + done) had ≡ take (end - done) (drop done all)
  turn end had on room e = rw e (sym (f.part start (length old) done (end - done) (omega arith)))

  pub xored_long : length (xors old all) ≡ length old
  xored_long = walks.xored_long all old (f.long start (length old))

  -- a turn of a loop that writes them
  pub next_written : Gone all old out done → (end : ℕ) (part : List ℕ) → done ≤ end → end ≤ length out → length part ≡ length (mid_of done (end - done) out) →
      part ≡ F (start + done) (length (mid_of done (end - done) out)) → Gone all old (put_mid done (end - done) out part) end
  next_written w end part on room part_long is =
      let same = w.same in
      next_gone all old out done (f.long start (length old)) w end part on room part_long (is ∙ turn end _ on (omega arith) (mid_len done end out room))

  -- and of one that XORs them in
  pub next_xored : Gone (xors old all) old out done → (end : ℕ) (part : List ℕ) → done ≤ end → end ≤ length out →
      length part ≡ length (mid_of done (end - done) out) →
      part ≡ xors (mid_of done (end - done) out) (F (start + done) (length (mid_of done (end - done) out))) →
      Gone (xors old all) old (put_mid done (end - done) out part) end
  next_xored w end part on room part_long is =
      let same = w.same in
      let bytes = turn end _ on (omega arith) (mid_len done end out room) in
      walks.next_xored all old out done (f.long start (length old)) w end part on room part_long (is ∙ rw bytes)
