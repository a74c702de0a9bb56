use Rattle.std.proofs.Common.{◌≡◌, ℕ, ◌+◌, ◌%◌, ◌^◌, ◌<◌, List, ◌++◌, length, get_or, take, drop, set, refl, sym, ◌∙◌, arith}
use Rattle.xor.proofs.Writing.{next_is_old, next_written, all_written}
use Rattle.chacha20.specs.Expand.{add, sums}
use Rattle.chacha20.proofs.Parts.{length-sums, get_or-sums}
use Rattle.chacha20_words.proofs.add_into.Goals as goal

-- one turn: the next place gets the sum of what stood there and the input's word
turn : (out old input : List ℕ) (i sum : ℕ) → length old ≡ length input → i < length old → out ≡ take i (sums old input) ++ drop i old →
    sum ≡ (get_or out i 0 + get_or input i 0) % 2 ^ 32 → set out i sum ≡ take (i + 1) (sums old input) ++ drop (i + 1) old
unfolding add
turn out old input i sum same within so_far sum_is =
    let in_new : i < length (sums old input) = omega (arith, length-sums old input same) in
    let stood : get_or out i 0 ≡ get_or old i 0 = rw so_far (next_is_old (sums old input) old i in_new within) in
    let new : sum ≡ get_or (sums old input) i 0 = sum_is ∙ rw stood (sym (get_or-sums old input i same within)) in
    rw new (rw so_far (next_written (sums old input) old i in_new within))

pub loop-i-preserved : goal.loop-i-preserved
loop-i-preserved c =
    let l = c.loop-i in
    let a = c.args in
    turn l.out a.out.now a.input.now l.i _ c.requires (omega arith) l.invariant refl

pub returns : goal.returns
returns c =
    let l = c.loop-i in
    let a = c.args in
    all_written l.out _ a.out.now l.i (length-sums a.out.now a.input.now c.requires) (omega arith) l.invariant
