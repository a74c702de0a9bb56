use Rattle.std.proofs.Common.{◌≡◌, ◌∙◌, ◌+◌, ◌<◌, ◌^◌, ℕ, length, get_or, set, refl, sym, ap, arith, rules}
use Rattle.xor.proofs.Laws.{length-xors}
use Rattle.xor.proofs.Writing.{next_byte, all_written}
use Rattle.cards.proofs.Bytes.{stretch_long, stretch_byte, two_bytes}
use Rattle.cards.proofs.add_stretch.Invariants.{row}
use Rattle.cards.proofs.add_stretch.Goals as goal
use Rattle.cards.proofs.add_stretch.Goals.{Start}

row_long : (c : Start) → let a = c.args in let n = length a.sum.now in
    length (row a.wanted.now a.cards.now a.card a.from n) ≡ n
row_long c =
    let a = c.args in
    stretch_long a.card a.from 0 (length a.sum.now) a.wanted.now a.cards.now c.requires.1 c.requires.2 c.requires.3

pub returns : goal.returns
returns c =
    let l = c.loop-i in
    let old = c.args.sum.now in
    all_written l.sum _ old l.i (length-xors old _ (sym (row_long (goal.at.returns c).Start))) c.loop-i-test.false l.invariant

pub loop-i-preserved : goal.loop-i-preserved
loop-i-preserved c =
    let l = c.loop-i in
    let a = c.args in
    let old = a.sum.now in
    let n = length old in
    let within = c.loop-i-test.true in
    let byte : get_or l.sum l.i 0 < 2 ^ 8 = omega arith in
    let value = two_bytes a.card a.from l.i n a.wanted.now a.cards.now c.requires.1 c.requires.2 _ (a.from + l.i) (a.card + a.from + l.i)
    c.requires.0 (omega arith) within byte (λ k. search rules) refl (omega arith) in
    ap (λ (b : ℕ). set l.sum l.i b) value
    ∙ next_byte l.sum old _ l.i _ (sym (row_long (goal.at.loop-i-preserved c).Start)) within l.invariant byte
    (stretch_byte a.card a.from l.i n a.wanted.now a.cards.now c.requires.1 c.requires.2) refl

pub bounds-wanted-0 : goal.bounds-wanted-0
bounds-wanted-0 c = omega (arith, c.requires.1)

pub bounds-wanted-1 : goal.bounds-wanted-1
bounds-wanted-1 c = omega (arith, c.requires.1)

pub loop-i-init : goal.loop-i-init
loop-i-init c = refl

pub bounds-cards-next : goal.bounds-cards-next
bounds-cards-next c = omega arith
