-- `deal_last_word::put_last_word` meets its contract: the last word is made in its place. Assumes nothing.
use mathlib.Core.Path.{◌≡◌, sym}
use mathlib.Core.List.{List, append_assoc}
use Prim.Native.Nat.{ℕ, ◌+◌, ◌-◌}
use native.Mathlib.Omega.{arith}
use lib.ListN.{length, take, drop}
use Rattle.grid.specs.Grid.{board}
use Rattle.grid.specs.Code.{board_of}
use Rattle.grid.proofs.Facts.{board_in}
use Rattle.writer.specs.Written.{Wrote, written}
use borrow.Rule.Slice.PartMut.{put_mid, Post-is}
use Rattle.deal_last_word.specs.LastWord.{dealt_word}
use Rattle.seed_rows.specs.Rows.{rule}
use Rattle.deal_last_word.proofs.LastWord.{dealt_word_long}
use Rattle.deal_last_word.proofs.put_last_word.Goals as goal

-- what is made in its place is written there
wrote_part : (at long : ℕ) (new made old : List ℕ) → length new ≡ long → made ≡ new → Wrote at new (at + long) old (put_mid at (at + long - at) old made)
unfolding written
wrote_part at long new made old is made-is =
    record {
      next_is = omega arith;
      now_is =
          rw (made-is, Post-is at (at + long) old (omega arith), ← is) (sym (append_assoc (take at old) new (drop (at + length new) old)));
    }

pub returns : goal.returns
unfolding board
returns c =
    let a = c.args in
    let b = board_of a.board in
    let long = dealt_word_long b (board_in b a.board.accepted) a.point a.value.now a.seeds.now a.words.now c.requires.0 c.requires.1 (omega (arith, c.requires.3)) in
    wrote_part a.at c.row_length.result (dealt_word b (rule b) a.point a.value.now a.seeds.now a.words.now) _ a.out.now
    (omega (arith, long, c.row_length.ensures)) c.last_word.ensures
