-- A list that is written from the front: the first places are new, the rest is as it was. One turn of a loop that writes one place, and
-- what stands at the next place; and the same of a loop that XORs a row in. Assumes nothing.
use mathlib.Core.Path.{◌≡◌, sym, ◌∙◌}
use mathlib.Core.List.{List, ◌++◌, append-nil}
use Prim.Native.Nat.{ℕ, suc, ◌+◌, ◌≤◌, ◌<◌, ◌^◌}
use native.Mathlib.Omega.{arith}
use native.Mathlib.Numerals.{add-one}
use lib.Bits.{bit_xor}
use lib.ListN.{length, get_or, take, drop, set, drop_of_length-le}
use lib.Seq.{length-take-le, drop-cons, take-suc, take_all, set_at, get_or_at, append_snoc}
use Rattle.xor.specs.Xor.{xors}
use Rattle.xor.proofs.Laws.{xor_is, get_or-xors, length-xors}

module _ (new old : List ℕ) (i : ℕ) (in_new : i < length new) (in_old : i < length old) where
  -- the next place still has what stood there
  pub next_is_old : get_or (take i new ++ drop i old) i 0 ≡ get_or old i 0
  next_is_old = rw (drop-cons old i 0 in_old) (get_or_at (take i new) (get_or old i 0) (drop (suc i) old) 0 i (length-take-le i new (omega arith)))

  -- the next place is written
  pub next_written : set (take i new ++ drop i old) i (get_or new i 0) ≡ take (i + 1) new ++ drop (i + 1) old
  next_written =
      rw (add-one, drop-cons old i 0 in_old, take-suc new i 0 in_new, set_at (take i new) (get_or old i 0) (drop (suc i) old) (get_or new i 0) i (length-take-le i new (omega arith)))
      (sym (append_snoc (take i new) (get_or new i 0) (drop (suc i) old)))

-- after the last turn nothing of the old is left
pub all_written : (out new old : List ℕ) (i : ℕ) → length new ≡ length old → length old ≤ i → out ≡ take i new ++ drop i old → out ≡ new
all_written out new old i same past so_far =
    so_far ∙ rw (take_all i new (omega arith), drop_of_length-le old past) (append-nil new)

-- XORING A ROW IN: the next place gets the XOR of what stood there and the row's byte
pub next_byte : (out old row : List ℕ) (i byte : ℕ) → length old ≡ length row → i < length old → out ≡ take i (xors old row) ++ drop i old →
    get_or out i 0 < 2 ^ 8 → byte < 2 ^ 8 → byte ≡ get_or row i 0 →
    set out i (bit_xor (get_or out i 0) byte) ≡ take (i + 1) (xors old row) ++ drop (i + 1) old
next_byte out old row i byte same within so_far stood_byte row_byte is =
    let in_new : i < length (xors old row) = omega (arith, length-xors old row same) in
    let stood : get_or out i 0 ≡ get_or old i 0 = rw so_far (next_is_old (xors old row) old i in_new within) in
    let new : bit_xor (get_or out i 0) byte ≡ get_or (xors old row) i 0 =
    xor_is 8 (get_or out i 0) byte stood_byte row_byte ∙ rw (stood, is) (sym (get_or-xors old row i same within)) in
    rw new (rw so_far (next_written (xors old row) old i in_new within))
