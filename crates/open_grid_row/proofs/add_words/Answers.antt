use mathlib.Core.Path.{◌≡◌, refl, ◌∙◌}
use mathlib.Core.List.{List}
use Prim.Native.Nat.{ℕ, ◌+◌, ◌*◌, ◌-◌, ◌/◌}
use native.Mathlib.Omega.{arith}
use lib.ListN.{length, take, drop}
use Rattle.std.specs.Iterator.Adapters.{enumerate_source, enumerate_count}
use Rattle.std.specs.Slice.Iter.{chunks_exact_rest}
use Rattle.xor.specs.Xor.{xors}
use Rattle.xor.proofs.Laws.{good_by_entries}
use Rattle.writer.proofs.Cuts.{part_long}
use Rattle.open_grid_row.specs.Shares.{stretch}
use Rattle.open_grid_row.specs.Words.{marked_words}
use Rattle.open_grid_row.proofs.Columns.{words_turn, words_end}
use Rattle.open_grid_row.proofs.Chunks.{none_left, word_ends, word_counts, next_words, word_stretch}
use Rattle.open_grid_row.proofs.add_words.Goals as goal

all_left : (J : ℕ) (out ps ws : List ℕ) (l s n : ℕ) → xors out (marked_words (J - 0) 0 ps ws l s n) ≡ xors out (marked_words J 0 ps ws l s n)
all_left J out ps ws l s n =
    let all : J - 0 ≡ J = omega arith in
    rw all

pub loop-column-init : goal.loop-column-init
loop-column-init c =
    let a = c.args in
    let out = a.out.now in
    let counted = c.enumerate-column-items.ensures in
    let cut = c.chunks_exact.ensures in
    let none : 0 * a.row_bytes ≡ 0 = omega arith in
    rw (c.into_iter-column-iterator.ensures.into_iter_gives, counted.source, counted.count, cut.size, cut.rest, none)
    (refl, omega arith, refl, good_by_entries out (λ i within. (c.type_inv.out i).fits), all_left _ out _ _ _ _ _)

pub loop-column-preserved : goal.loop-column-preserved
loop-column-preserved c =
    let s = c.in-Some.ensures.steps in
    let l = c.loop-column in
    let a = c.args in
    let ws = a.words.now in
    let r = a.row_bytes in
    let n = length a.out.now in
    let j = enumerate_count l.column-iterator in
    let word = c.in-Some.word.now in
    let behind = chunks_exact_rest (enumerate_source c.next.new.self) in
    let long = s.0.1.1 ∙ l.invariant.0 in
    let count = s.2 in
    let here = word_stretch ws r j c.requires.0 _ l.invariant.2 word behind s.0.1.0 long l.invariant.1 a.from n c.requires.1 in
    let cut : take (a.from + n - a.from) (drop a.from word) ≡ stretch (j * r + a.from) n ws = rw (part_long a.from n) here in (
      s.0.0 ∙ l.invariant.0,
      rw count (word_ends ws r j c.requires.0 _ l.invariant.2 word behind s.0.1.0 long l.invariant.1),
      rw count (next_words ws r j c.requires.0 _ l.invariant.2 word behind s.0.1.0 long l.invariant.1),
      good_by_entries _ (λ i within. (c.type_inv.out i).fits),
      rw count (words_turn a.part.now ws r a.from n (length ws / r) j _ l.out _ _ _
          (word_counts ws r j c.requires.0 _ l.invariant.2 word behind s.0.1.0 long l.invariant.1) l.invariant.4
          cut (rw s.1 at c.mark.ensures) c.add_if.ensures),
    )

pub returns : goal.returns
returns c =
    let s = c.in-None.ensures.steps in
    let a = c.args in
    let l = c.loop-column in
    let past = none_left a.words.now a.row_bytes (enumerate_count l.column-iterator) c.requires.0 _ l.invariant.2 (rw l.invariant.0 at s.0.1.0) in
    words_end a.part.now a.words.now a.row_bytes a.from (length a.out.now) (length a.words.now / a.row_bytes) (enumerate_count l.column-iterator) l.out _
    past l.auto.out l.invariant.3 l.invariant.4
