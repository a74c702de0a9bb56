-- `key_header::numbers::put_number` meets its contract: one, two or three groups, by the number's size. Assumes nothing.
use mathlib.Core.Path.{◌≡◌, refl, sym, ap, subst}
use mathlib.Core.List.{List, [], ◌∷◌}
use Prim.Native.Nat.{ℕ, ◌+◌, ◌/◌, ◌%◌, ◌≤◌, ◌<◌}
use native.Mathlib.Omega.{arith}
use mathlib.Core.Bool.{Bool, true, false}
use lib.Dec.{ltb}
use lib.ListN.{length}
use borrow.Author.Tests.{ltb-true, ltb-false}
use Rattle.keys.specs.Keys.{number_bytes}
use Rattle.keys.proofs.Numbers.{one_group, two_groups, three_groups}
use Rattle.writer.specs.Written.{Wrote}
use Rattle.writer.proofs.Laws.{wrote_then}
use Rattle.key_header.proofs.numbers.put_number.Goals as goal

-- how many groups a number takes, by the tests of the code
long_one : (v : ℕ) → v < 128 → length (number_bytes v) ≡ 1
long_one v h = ap length (one_group v h)

long_two : (v : ℕ) → 128 ≤ v → v / 128 < 128 → length (number_bytes v) ≡ 2
long_two v h k = ap length (two_groups v h (omega arith))

long_three : (v : ℕ) → 128 ≤ v / 128 → v < 2097152 → length (number_bytes v) ≡ 3
long_three v h k = ap length (three_groups v (omega arith) k)

more_than_one : (v : ℕ) → 128 ≤ v → v < 2097152 → 2 ≤ length (number_bytes v)
more_than_one v h k = go (ltb (v / 128) 128) refl
  where
    go : (t : Bool) → ltb (v / 128) 128 ≡ t → 2 ≤ length (number_bytes v)
    go true e = omega (arith, long_two v h (ltb-true (v / 128) 128 e))
    go false e = omega (arith, long_three v (ltb-false (v / 128) 128 e) k)

-- two bytes, one behind the other, and three
pair : {at next last : ℕ} (v a b : ℕ) {old between now : List ℕ} → number_bytes v ≡ a ∷ b ∷ [] → at + length (number_bytes v) ≤ length old →
    Wrote at (a ∷ []) next old between → Wrote next (b ∷ []) last between now → Wrote at (number_bytes v) last old now
pair {at} {next} {last} v a b {old} {between} {now} e room p q =
    let long : length (number_bytes v) ≡ 2 = ap length e in
    subst (λ (l : List ℕ). Wrote at l last old now) (sym e) (wrote_then (a ∷ []) (b ∷ []) (omega arith) p q)

three : {at next third last : ℕ} (v a b d : ℕ) {old one two now : List ℕ} → number_bytes v ≡ a ∷ b ∷ d ∷ [] → at + length (number_bytes v) ≤ length old →
    Wrote at (a ∷ []) next old one → Wrote next (b ∷ []) third one two → Wrote third (d ∷ []) last two now → Wrote at (number_bytes v) last old now
three {at} {next} {third} {last} v a b d {old} {one} {two} {now} e room p q r =
    let long : length (number_bytes v) ≡ 3 = ap length e in
    subst (λ (l : List ℕ). Wrote at l last old now) (sym e)
    (wrote_then (a ∷ b ∷ []) (d ∷ []) (omega arith) (wrote_then (a ∷ []) (b ∷ []) (omega arith) p q) r)

pub put_byte-requires : goal.put_byte-requires
put_byte-requires c = omega (arith, long_one c.args.number (omega arith))

pub returns-then-number-lt128 : goal.returns-then-number-lt128
returns-then-number-lt128 c =
    let a = c.args in
    subst (λ (l : List ℕ). Wrote a.at l c.put_byte.result a.out.now c.put_byte.new.out) (sym (one_group a.number (omega arith)))
    c.put_byte.ensures

pub put_byte-next-requires : goal.put_byte-next-requires
put_byte-next-requires c = omega (arith, more_than_one c.args.number (omega arith) (omega arith))

pub put_byte-requires-then-rest-lt128 : goal.put_byte-requires-then-rest-lt128
put_byte-requires-then-rest-lt128 c =
    let p = c.put_byte-next in
    let long = long_two c.args.number (omega arith) (omega arith) in
    omega (arith, p.ensures.next_is, p.auto.out)

pub returns-then-rest-lt128 : goal.returns-then-rest-lt128
returns-then-rest-lt128 c =
    let a = c.args in
    pair a.number (a.number % 128 + 128) (a.number / 128) (two_groups a.number (omega arith) (omega arith)) c.requires.1 c.put_byte-next.ensures
    c.put_byte-then-rest-lt128.ensures

pub put_byte-next-requires-2 : goal.put_byte-next-requires-2
put_byte-next-requires-2 c =
    let p = c.put_byte-next in
    let long = long_three c.args.number (omega arith) (omega arith) in
    omega (arith, p.ensures.next_is, p.auto.out)

pub put_byte-requires-2 : goal.put_byte-requires-2
put_byte-requires-2 c =
    let p = c.put_byte-next in
    let q = c.put_byte-next-2 in
    let long = long_three c.args.number (omega arith) (omega arith) in
    omega (arith, p.ensures.next_is, p.auto.out, q.ensures.next_is, q.auto.out)

pub returns : goal.returns
returns c =
    let a = c.args in
    three a.number (a.number % 128 + 128) (a.number / 128 % 128 + 128) (a.number / 128 / 128) (three_groups a.number (omega arith) (omega arith)) c.requires.1
    c.put_byte-next.ensures c.put_byte-next-2.ensures c.put_byte-2.ensures
