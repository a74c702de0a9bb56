-- An output that is gone over from the front, part by part: what is done is as it is to become, the rest as it was. What it is to become is
-- some bytes, or the XOR of some with those that stood there. Assumes nothing.
use mathlib.Core.Path.{◌≡◌, refl, sym, ◌∙◌}
use mathlib.Core.List.{List, ◌++◌, append-nil, append_assoc}
use Prim.Native.Nat.{ℕ, ◌+◌, ◌-◌, ◌≤◌}
use native.Mathlib.Omega.{arith}
use lib.ListN.{length, take, drop, drop_of_length-le}
use lib.Seq.{take_at, take_all, take-add, drop_at, drop-drop, length-take-le}
use borrow.Rule.Slice.PartMut.{mid_of, put_mid, same_len_mid}
use Rattle.xor.specs.Xor.{xors}
use Rattle.xor.proofs.Laws.{take-xors, drop-xors, length-xors}

-- what stands before a part that is written, and what comes after it, is as it was
pub part_written : (new old out part : List ℕ) (from to : ℕ) → length new ≡ from → from ≤ to → out ≡ new ++ drop from old →
    put_mid from (to - from) out part ≡ new ++ part ++ drop to old
part_written new old out part from to long h so_far =
    let whole : from + (to - from) ≡ to = omega arith in
    rw so_far
    (rw (take_at new (drop from old) from long, drop_at new (drop from old) from long, drop-drop (to - from) from old, whole)
    (sym (append_assoc new part (drop to old))))

-- the bytes before `done` are those of `new`
pub record Gone (new old out : List ℕ) (done : ℕ) : Type 0 where
  pub within : done ≤ length old
  pub same : length out ≡ length old
  pub so_far : out ≡ take done new ++ drop done old

pub none_gone : (new old : List ℕ) → Gone new old old 0
none_gone new old = record { within = omega arith; same = refl; so_far = refl }

module _ (new old out : List ℕ) (done : ℕ) (long : length new ≡ length old) (w : Gone new old out done) where
  done_long : length (take done new) ≡ done
  done_long = let within = w.within in length-take-le done new (omega (arith, long))

  -- the next bytes are still as they were
  next_old : drop done out ≡ drop done old
  next_old = rw w.so_far (drop_at (take done new) (drop done old) done done_long)

  -- a turn of the loop: the next part becomes as it is to be
  pub next_gone : (end : ℕ) (part : List ℕ) → done ≤ end → end ≤ length out → length part ≡ length (mid_of done (end - done) out) →
      part ≡ take (end - done) (drop done new) → Gone new old (put_mid done (end - done) out part) end
  next_gone end part on room part_long part_is =
      let m = end - done in
      let same = w.same in
      let all : done + m ≡ end = omega arith in
      record {
        within = omega arith;
        same = same_len_mid done m out part part_long ∙ same;
        so_far = part_written (take done new) old out part done end done_long (omega arith) w.so_far ∙ rw part_is (rw (sym (take-add done m new), all));
      }

  -- where the output ends, all of it is
  pub all_gone : length out ≤ done → out ≡ new
  all_gone h =
      let same = w.same in
      w.so_far ∙ rw (take_all done new (omega (arith, long)), drop_of_length-le old {i = done} (omega arith)) (append-nil new)

-- A ROW XORED IN
pub xored_long : (row old : List ℕ) → length row ≡ length old → length (xors old row) ≡ length old
xored_long row old long = length-xors old row (sym long)

-- a turn of the loop
module _ (row old out : List ℕ) (done : ℕ) (long : length row ≡ length old) where
  pub next_xored : Gone (xors old row) old out done → (end : ℕ) (part : List ℕ) → done ≤ end → end ≤ length out →
      length part ≡ length (mid_of done (end - done) out) →
      part ≡ xors (mid_of done (end - done) out) (take (end - done) (drop done row)) →
      Gone (xors old row) old (put_mid done (end - done) out part) end
  next_xored w end part on room part_long is =
      let all_long = xored_long row old long in
      next_gone (xors old row) old out done all_long w end part on room part_long
      (is ∙ rw (next_old (xors old row) old out done all_long w) (sym (rw (drop-xors done old row)
      (take-xors (end - done) (drop done old) (drop done row)))))
