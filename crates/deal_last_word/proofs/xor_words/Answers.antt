use Rattle.std.proofs.Common.{◌<◌, length, sym, ◌∙◌, arith}
use Rattle.std.specs.Slice.Iter.{chunks_exact_rest}
use Rattle.deal_last_word.proofs.LastWord.{next_word, no_word}
use Rattle.deal_last_word.proofs.xor_words.Goals as goal

pub loop-word-preserved : goal.loop-word-preserved
loop-word-preserved c =
    let l = c.loop-word in
    let step = c.in-Some.ensures.steps in
    let next = next_word (length c.args.out.now) (chunks_exact_rest l.word-iterator) _ _ l.out c.requires step.1.0 (step.1.1 ∙ l.invariant.0) in
    (step.0 ∙ l.invariant.0, rw c.xor_into.ensures (sym next ∙ l.invariant.1))

pub returns : goal.returns
returns c =
    let l = c.loop-word in
    let left = chunks_exact_rest l.word-iterator in
    let short : length left < length c.args.out.now = omega (arith, c.in-None.ensures.steps.1.0, l.invariant.0) in
    sym (no_word (length c.args.out.now) left l.out short) ∙ l.invariant.1
