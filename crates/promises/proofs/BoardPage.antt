-- THE BOARD ON A PAGE of specs/BoardPage.antt, kept. What a reader finds is the crate page's; a call leaves the page in
-- front of its output. Assumes nothing.
use mathlib.Core.Path.{◌≡◌, sym, ap, ◌∙◌, subst}
use mathlib.Core.Bool.{Bool, true, false, cond}
use mathlib.Core.List.{List}
use Prim.Native.Nat.{ℕ, ◌*◌, ◌<◌}
use native.Mathlib.Nat.{zero-add}
use lib.Dec.{eqb}
use lib.ListN.{length, take, drop}
use Rattle.xor.specs.Xor.{zeros, bytes_good}
use Rattle.xor.proofs.Laws.{Word, word_zeros}
use Rattle.writer.proofs.InARow.{row_at}
use Rattle.grid.specs.Grid.{Board, board}
use Rattle.grid.proofs.Refusing.{within}
use Rattle.keys.specs.Keys.{lent}
use Rattle.keys.specs.Promise.{point_table}
use Rattle.keys.proofs.Lists.{row_word}
use Rattle.keys.proofs.Dealing.{lent_in}
use Rattle.keys.proofs.Promise.{point_row}
use Rattle.digits.specs.Digits.{hex}
use Rattle.page.specs.Page.{entry_at, page, Pageable}
use Rattle.page.specs.Found.{PageIsLong, CellsFound, CellsRead, PastBlank, NumbersFound, LinesNumbered, PageTells}
use Rattle.page.proofs.Found as found
use Rattle.call_answers.specs.Answers.{Answer, says, PageSays}
use Rattle.call_answers.proofs.Putting.{take_front}
use Rattle.call_answers.proofs.Paging.{page_0}
use Rattle.promises.specs.BoardPage.{ReadsBack, PagesRead, PagesTell, AcceptedPages, DealsOnAPage, BoardPage}
use Rattle.promises.specs.Calls.{DealsOpen}
use Rattle.promises.proofs.DealtCalls.{left}
use Rattle.promises.proofs.Calls.{deals_open}
use Rattle.promises.proofs.WrittenPages.{page_written}

-- what a call left, as far as it tells, is the page
page_left : (n w : ℕ) (ts : List ℕ) (r : Answer) (out out_now : List ℕ) → PageSays n w ts r out out_now → r.refusal ≡ 0 →
    take r.value out_now ≡ page n w ts
page_left n w ts r out out_now h none =
    let called = page_written n w ts r out out_now h none in
    ap (take r.value) called.now ∙ take_front r.value (page n w ts) out called.long

-- a page is read back
read_back : (n w : ℕ) (ts : List ℕ) → Pageable n w ts → bytes_good ts ≡ true → ReadsBack n w (λ a. entry_at w ts a) (page n w ts)
unfolding PageIsLong CellsFound CellsRead PastBlank NumbersFound LinesNumbered
read_back n w ts fits good =
    record {
      long = found.page_is_long n w ts fits;
      first = λ l h. found.numbers_found n w ts l fits h;
      numbered = λ l h. found.lines_numbered n w ts l fits h;
      digits = λ a h. found.cells_found n w ts a fits h;
      values = λ a h. found.cells_read n w ts a fits good h;
      blank = λ a past h. found.past_blank n w ts a fits past h;
    }

pages_read : PagesRead
unfolding PagesRead
pages_read n w ts r out out_now good h none =
    let called = page_written n w ts r out out_now h none in
    subst (λ (text : List ℕ). ReadsBack n w (λ a. entry_at w ts a) text) (sym (page_left n w ts r out out_now h none)) (read_back n w ts called.fits good)

pages_tell : PagesTell
unfolding PagesTell PageTells
pages_tell n w ts us r s out out_now other other_now good fine h k none zero same =
    found.page_tells n w ts us (page_written n w ts r out out_now h none).fits (page_written n w us s other other_now k zero).fits good fine
    (sym (page_left n w ts r out out_now h none) ∙ same ∙ page_left n w us s other other_now k zero)

accepted_pages : AcceptedPages
unfolding AcceptedPages PageSays says
accepted_pages n w ts r out out_now positions bytes whole room h = h.0.0 ∙ sym (page_0 n w (length ts) (length out) positions bytes whole room)

-- A TABLE WITH ONE VALUE, entry by entry
module _ (b : Board) (point : ℕ) (value : List ℕ) (inside : point < b.n) (word : Word b.w value) where
  on_square : ℕ → List ℕ
  on_square a = cond (eqb a point) value (zeros b.w)

  square_word : (a : ℕ) → Word b.w (on_square a)
  unfolding on_square
  square_word a = go (eqb a point)
    where
      go : (t : Bool) → Word b.w (cond t value (zeros b.w))
      go true = word
      go false = word_zeros b.w

  point_word : Word (b.n * b.w) (point_table b point value)
  unfolding on_square
  point_word = subst (λ (xs : List ℕ). Word (b.n * b.w) xs) (point_row b point value inside) (row_word b.w b.n 0 on_square (λ a p q. square_word a))

  point_entry : (a : ℕ) → a < b.n → entry_at b.w (point_table b point value) a ≡ on_square a
  unfolding on_square entry_at
  point_entry a h =
      ap (λ (xs : List ℕ). take b.w (drop (a * b.w) xs)) (sym (point_row b point value inside))
      ∙ row_at b.w b.n 0 a on_square (λ j p q. (square_word j).long) h ∙ ap on_square (zero-add a)

deals_on_a_page : DealsOnAPage
unfolding DealsOnAPage DealsOpen PagesRead AcceptedPages on_square board
deals_on_a_page p n m w point value long keys_now r a joined joined_now out out_now d room says fits says_page =
    let b = board p n m w in
    let l = lent point value d.arrays d.seeds d.words in
    let dealt = lent_in b l (left p n m w point value long keys_now d).accepted in
    let pt = point_table b point value in
    let word = point_word b point value dealt.point dealt.value in
    let table_is : take (n * w) joined_now ≡ pt =
    ap (take (n * w)) ((deals_open p n m w point value long keys_now d).joined r joined joined_now room says).1 ∙ take_front (n * w) pt joined word.long in
    let written : PageSays n w pt a out out_now = subst (λ (ts : List ℕ). PageSays n w ts a out out_now) table_is says_page in
    let size = dealt.board in
    let none =
    accepted_pages n w pt a out out_now (within 1 n 65536 size.positions_least size.positions_most)
    (within 1 w 16 size.value_least size.value_most) word.long fits written in
    let back = pages_read n w pt a out out_now word.good written none in
    let square = point_entry b point value dealt.point dealt.value in (
      none,
      record {
        long = back.long;
        first = back.first;
        numbered = back.numbered;
        digits = λ c h. back.digits c h ∙ ap hex (square c h);
        values = λ c h. back.values c h ∙ square c h;
        blank = back.blank;
      },
    )

pub board_page : BoardPage
board_page =
    record {
      lines_long = found.lines_long;
      page_is_long = found.page_is_long;
      cells_found = found.cells_found;
      cells_read = found.cells_read;
      past_blank = found.past_blank;
      cells_apart = found.cells_apart;
      lines_end = found.lines_end;
      numbers_found = found.numbers_found;
      lines_numbered = found.lines_numbered;
      page_tells = found.page_tells;
      pages_read = pages_read;
      pages_tell = pages_tell;
      accepted_pages = accepted_pages;
      deals_on_a_page = deals_on_a_page;
    }
