use Rattle.std.proofs.Common.{refl, arith}
use Rattle.chacha20.specs.Expand.{low_bytes}
use Rattle.chacha20_words.proofs.Bytes.{next_word}
use Rattle.chacha20_words.proofs.serialize.Goals as goal

pub loop-i-init : goal.loop-i-init
unfolding low_bytes
loop-i-init c = refl

pub loop-i-preserved : goal.loop-i-preserved
loop-i-preserved c =
    let l = c.loop-i in
    next_word c.args.state _ l.out _ l.i (omega arith) (omega arith) l.invariant c.put_word.ensures
