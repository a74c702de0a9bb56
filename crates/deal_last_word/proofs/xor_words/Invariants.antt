-- `deal_last_word::xor_words` meets its contract. The loop's invariant: the words that are left lead to the end. Assumes nothing.
use Rattle.std.proofs.Common.{◌≡◌, ◌/◌, length}
use Rattle.std.specs.Slice.Iter.{chunks_exact_rest, chunks_exact_size}
use Rattle.grid.specs.Grid.{xor_all}
use Rattle.keys.specs.Keys.{words_from}
use Rattle.deal_last_word.proofs.xor_words.Given as goal

abbrev pub invariant-loop-word : goal.invariant-loop-word
invariant-loop-word l =
    let n = length l.initial.out in
    let left = chunks_exact_rest l.word-iterator in
    (chunks_exact_size l.word-iterator ≡ n)
    × (xor_all (words_from (length left / n) n left) l.out ≡ xor_all (words_from (length l.words / n) n l.words) l.initial.out)
