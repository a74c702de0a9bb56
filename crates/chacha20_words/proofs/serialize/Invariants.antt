-- `chacha20_words::serialize` meets its contract. The loop's invariant: the first i words are written, the rest is as it was. Assumes nothing.
use Rattle.std.proofs.Common.{◌≡◌, ◌*◌, ◌++◌, take, drop}
use Rattle.chacha20.specs.Expand.{low_bytes}
use Rattle.chacha20_words.proofs.serialize.Given as goal

abbrev pub invariant-loop-i : goal.invariant-loop-i
invariant-loop-i l = l.out ≡ low_bytes (take l.i l.word-items) ++ drop (4 * l.i) l.initial.out
