-- The laws of writing one part behind another. Assumes nothing.
use mathlib.Core.Path.{◌≡◌, refl, sym, ap, ◌∙◌, subst}
use mathlib.Core.List.{List, [], ◌∷◌, ◌++◌, append_assoc, append-nil}
use Prim.Native.Nat.{ℕ, suc, ◌+◌, ◌<◌, ◌≤◌}
use native.Mathlib.Omega.{arith}
use native.Mathlib.Nat.{add-zero, zero-add, add_assoc}
use native.Mathlib.Numerals.{add-one}
use lib.ListN.{length, get_or, take, drop, set, replicate, length-append, length-drop, length-replicate, get_or-replicate, take-append-drop, get_or-append}
use lib.Seq.{length-take-le, take-length, take_at, drop_at, drop-drop, drop-length, paste, paste-suc, take-append-le, take-take, take-add, get_or-take, set_split, append_snoc}
use borrow.Rule.Slice.PartMut.{put_mid}
use Rattle.writer.specs.Written.{written, in_front, Wrote}

-- writing nothing changes nothing
pub written_nothing : (at : ℕ) (old : List ℕ) → written at [] old ≡ old
unfolding written
written_nothing at old = rw (add-zero at, append-nil (take at old)) (take-append-drop at old)

-- writing from the front
pub written_front : (new old : List ℕ) → written 0 new old ≡ new ++ drop (length new) old
unfolding written
written_front new old = rw (zero-add (length new))

pub length-written : (at : ℕ) (new old : List ℕ) → at + length new ≤ length old → length (written at new old) ≡ length old
unfolding written
length-written at new old h =
    simp (length-append, length-drop, length-take-le at old (omega arith)) (omega arith)

-- what stands before the place, and what is written, from the front
before_written : (at : ℕ) (new old : List ℕ) → at ≤ length old → length (take at old ++ new) ≡ at + length new
before_written at new old h = simp (length-append, length-take-le at old h)

pub take-written : (at k : ℕ) (new old : List ℕ) → k ≤ at → at ≤ length old → take k (written at new old) ≡ take k old
unfolding written
take-written at k new old h within =
    let long : length (take at old) ≡ at = length-take-le at old within in
    rw append_assoc (take-append-le k (take at old) (new ++ drop (at + length new) old) (omega arith) ∙ take-take k at old h)

-- a part of a string is the end of its front
pub front_end : (from count : ℕ) (xs : List ℕ) → from ≤ length xs → drop from (take (from + count) xs) ≡ take count (drop from xs)
front_end from count xs h =
    rw (take-add from count xs) (drop_at (take from xs) (take count (drop from xs)) from (length-take-le from xs h))

-- what stands before the place is as it was
pub part_kept : (from count at : ℕ) (new old : List ℕ) → from + count ≤ at → at + length new ≤ length old →
    take count (drop from (written at new old)) ≡ take count (drop from old)
part_kept from count at new old h room =
    let long = length-written at new old room in
    sym (front_end from count (written at new old) (omega arith)) ∙ ap (drop from) (take-written at (from + count) new old h (omega arith)) ∙ front_end from count old (omega arith)

-- what is written stands there
pub part_written : (at : ℕ) (new old : List ℕ) → at ≤ length old → take (length new) (drop at (written at new old)) ≡ new
unfolding written
part_written at new old h =
    let rest = drop (at + length new) old in
    rw (append_assoc (take at old) new rest, drop_at (take at old) (new ++ rest) at (length-take-le at old h)) (take_at new rest (length new) refl)

-- WRITING ONE PART BEHIND ANOTHER is writing both
pub written_then : (at : ℕ) (first second old : List ℕ) → at + length first + length second ≤ length old →
    written (at + length first) second (written at first old) ≡ written at (first ++ second) old
unfolding written
written_then at first second old h =
    let long : length (take at old ++ first) ≡ at + length first = before_written at first old (omega arith) in
    let front = take_at (take at old ++ first) (drop (at + length first) old) (at + length first) long in
    let behind : drop (at + length first + length second) (take at old ++ first ++ drop (at + length first) old) ≡ drop (at + length first + length second) old =
    sym (drop-drop (length second) (at + length first) (take at old ++ first ++ drop (at + length first) old))
    ∙ rw (drop_at (take at old ++ first) (drop (at + length first) old) (at + length first) long) (drop-drop (length second) (at + length first) old) in
    rw (front, behind, length-append first second)
    (rw (← (add_assoc at (length first) (length second)), append_assoc (take at old) first second))

pub wrote_then : {at middle next : ℕ} (first second : List ℕ) {old between now : List ℕ} → at + length first + length second ≤ length old →
    Wrote at first middle old between → Wrote middle second next between now → Wrote at (first ++ second) next old now
wrote_then {at} {middle} {next} first second {old} {between} {now} h p q =
    record {
      next_is = omega (arith, p.next_is, q.next_is, length-append first second);
      now_is = q.now_is ∙ rw (p.next_is, p.now_is) (written_then at first second old h);
    }

-- the same, where the two parts are one string cut in two
pub wrote_more : {at middle next : ℕ} (first second both : List ℕ) {old between now : List ℕ} → both ≡ first ++ second → at + length both ≤ length old →
    Wrote at first middle old between → Wrote middle second next between now → Wrote at both next old now
wrote_more {at} {middle} {next} first second both {old} {between} {now} e h p q =
    let long : length both ≡ length first + length second = ap length e ∙ length-append first second in
    subst (λ (l : List ℕ). Wrote at l next old now) (sym e) (wrote_then first second (omega arith) p q)

pub wrote_nothing : (at : ℕ) (old : List ℕ) → Wrote at [] at old old
wrote_nothing at old = record { next_is = sym (add-zero at); now_is = sym (written_nothing at old) }

-- a writer keeps the output's length
pub wrote_length : {at next : ℕ} (new : List ℕ) {old now : List ℕ} → at + length new ≤ length old → Wrote at new next old now → length now ≡ length old
wrote_length {at} new {old} h p = ap length p.now_is ∙ length-written at new old h

-- WHAT THE LIBRARY'S METHODS LEAVE: a part of the output that became `new`

pub part_became : (place at n : ℕ) (new old part : List ℕ) → place ≡ at → n ≡ length new → part ≡ new → put_mid place n old part ≡ written at new old
unfolding written
part_became place at n new old part here long is =
    rw (here, long, is, drop-drop (length new) at old) (sym (append_assoc (take at old) new (drop (at + length new) old)))

-- THE LOOP OF A WRITER: after i turns the first i bytes of `new` stand at their place

-- one turn
pub put_turn : (at i : ℕ) (new old out : List ℕ) → at + length new ≤ length old → i < length new → out ≡ paste old at new i →
    set out (at + i) (get_or new i 0) ≡ paste old at new (i + 1)
put_turn at i new old out room within so_far = rw (so_far, add-one) (paste-suc old at new i 0 (omega arith) within)

-- after the last
pub put_done : (at i : ℕ) (new old out : List ℕ) → length new ≡ i → out ≡ paste old at new i → out ≡ written at new old
unfolding written
put_done at i new old out done so_far = so_far ∙ rw (← done, take-length new)

-- one turn, where one byte is written again and again
pub same_turn : (at n i byte : ℕ) (old out : List ℕ) → at + n ≤ length old → i < n → out ≡ paste old at (replicate n byte) i →
    set out (at + i) byte ≡ paste old at (replicate n byte) (i + 1)
same_turn at n i byte old out room within so_far =
    let long = length-replicate {A = ℕ} n byte in
    let next = put_turn at i (replicate n byte) old out (omega arith) (omega arith) so_far in
    rw (get_or-replicate {A = ℕ} n i byte 0 within) at next

-- the byte at a place before those that are written is as it was
pub before_is_old : (at i place : ℕ) (new old out : List ℕ) → at ≤ length old → place < at → out ≡ paste old at new i → get_or out place 0 ≡ get_or old place 0
before_is_old at i place new old out within before so_far =
    let long : length (take at old) ≡ at = length-take-le at old within in
    rw (so_far, append_assoc) (get_or-append (take at old) (take i new ++ drop (at + i) old) 0 place (omega arith) ∙ get_or-take at old place 0 before)

-- one byte written is one store
pub put_one : (at byte : ℕ) (old : List ℕ) → at < length old → set old at byte ≡ written at (byte ∷ []) old
unfolding written
put_one at byte old within = rw add-one (set_split old at byte within ∙ sym (append_snoc (take at old) byte (drop (suc at) old)))

-- IN FRONT: the bytes named fill the output
pub in_front_whole : (new old : List ℕ) → length new ≡ length old → in_front new old ≡ new
in_front_whole new old e = rw (e, drop-length old, append-nil)

-- or its first part
pub in_front_part : (new last old : List ℕ) (k : ℕ) → length last ≡ k → last ≡ new → last ++ drop k old ≡ in_front new old
in_front_part new last old k l e = rw (← e, l)
