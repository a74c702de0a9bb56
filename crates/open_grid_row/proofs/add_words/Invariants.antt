-- `open_grid_row::add_words` meets its contract. The loop's invariant: the words that are left begin at the next column's, and what is in `out`, with those of
-- them that are marked, is all of them XORed into what was. Assumes nothing.
use Rattle.std.proofs.Common.{◌≡◌, ◌*◌, ◌-◌, ◌/◌, ◌≤◌, length, drop, true}
use Rattle.std.specs.Iterator.Adapters.{enumerate_source, enumerate_count}
use Rattle.std.specs.Slice.Iter.{chunks_exact_rest, chunks_exact_size}
use Rattle.xor.specs.Xor.{xors, bytes_good}
use Rattle.open_grid_row.specs.Words.{marked_words}
use Rattle.open_grid_row.proofs.add_words.Given as goal

abbrev pub invariant-loop-column : goal.invariant-loop-column
invariant-loop-column l =
    let n = length l.initial.out in
    let all = length l.words / l.row_bytes in
    let j = enumerate_count l.column-iterator in
    let left = enumerate_source l.column-iterator in
    (chunks_exact_size left ≡ l.row_bytes)
    × (j * l.row_bytes ≤ length l.words)
    × (chunks_exact_rest left ≡ drop (j * l.row_bytes) l.words)
    × (bytes_good l.out ≡ true)
    × (xors l.out (marked_words (all - j) j l.part l.words l.row_bytes l.from n)
    ≡ xors l.initial.out (marked_words all 0 l.part l.words l.row_bytes l.from n))
