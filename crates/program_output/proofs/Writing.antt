-- What a program's function says of the bytes that it writes, and what is said of a buffer that an input was read into. Assumes nothing.
use mathlib.Core.Path.{◌≡◌, refl, sym, ap, ◌∙◌, subst}
use mathlib.Core.Bool.{Bool, true, false, cond}
use mathlib.Core.List.{List}
use Prim.Native.Nat.{ℕ, ◌≤◌, ◌<◌}
use native.Mathlib.Omega.{arith}
use native.Mathlib.Nat.{zero-add}
use lib.Dec.{ltb}
use lib.ListN.{length, take, drop, length-append, length-take}
use lib.Seq.{take_all}
use borrow.Author.Tests.{ltb-true, ltb-false}
use Rattle.writer.specs.Written.{Wrote}
use Rattle.writer.proofs.Laws.{written_front}
use Rattle.text.specs.Text.{refused_line}
use Rattle.program_output.specs.Output.{Writes, ReadOf, OfRead}

-- WHAT IS WRITTEN

pub writes_wrote : {r : ℕ} (bs : List ℕ) {o z : List ℕ} → Wrote 0 bs r o z → Writes bs r o z
unfolding Writes
writes_wrote {r} bs {o} {z} p = (p.next_is ∙ zero-add (length bs), p.now_is ∙ written_front bs o)

-- the same bytes by another name
pub writes_as : (bs cs : List ℕ) (r : ℕ) (o z : List ℕ) → bs ≡ cs → Writes cs r o z → Writes bs r o z
writes_as bs cs r o z e w = subst (λ (l : List ℕ). Writes l r o z) (sym e) w

-- a line that refuses by a number is the one asked for, where the numbers are equal
pub writes_line : (n m r : ℕ) (o z bs : List ℕ) → Writes (refused_line n) r o z → n ≡ m → bs ≡ refused_line m → Writes bs r o z
writes_line n m r o z bs w same e = writes_as bs (refused_line n) r o z (e ∙ ap (λ (k : ℕ). refused_line k) (sym same)) w

-- no more is written than there is room for
pub writes_within : (bs : List ℕ) (r : ℕ) (o z : List ℕ) → Writes bs r o z → r ≤ length z
unfolding Writes
writes_within bs r o z w = omega (arith, w.0, ap length w.1, length-append bs (drop (length bs) o))

-- one output or another
pub either_fits : (t : Bool) (bs cs : List ℕ) (n : ℕ) → (t ≡ true → length bs ≤ n) → (t ≡ false → length cs ≤ n) → length (cond t bs cs) ≤ n
either_fits true bs cs n h k = h refl
either_fits false bs cs n h k = k refl

-- WHAT IS READ

-- what is read is an input itself
itself : (xs : List ℕ) (n : ℕ) → n ≤ length xs → ReadOf xs n (take n xs)
itself xs n within =
    record { within = within; front = sym (take_all (length xs) (take n xs) (omega (arith, length-take n xs))) }

module _ (xs : List ℕ) (n : ℕ) {Says : List ℕ → Type 0} {Nothing : Type 0} where
  pub read_none : length xs < n → Nothing → OfRead xs n Says Nothing
  read_none above nothing = record { input = λ bs read. absurd (omega (arith, read.within)); none = λ h. nothing }

  pub read_some : n ≤ length xs → ((bs : List ℕ) → take n xs ≡ take (length xs) bs → Says bs) → OfRead xs n Says Nothing
  read_some within says = record { input = λ bs read. says bs read.front; none = λ above. absurd (omega arith) }

  -- what is said, is said of what is read, or of nothing
  pub read_either : {P : Type 0} → OfRead xs n Says Nothing → (Says (take n xs) → P) → (Nothing → P) → P
  read_either {P} of says nothing = go (ltb (length xs) n) refl
    where
      go : (t : Bool) → ltb (length xs) n ≡ t → P
      go true e = nothing (of.none (ltb-true (length xs) n e))
      go false e = says (of.input (take n xs) (itself xs n (ltb-false (length xs) n e)))
