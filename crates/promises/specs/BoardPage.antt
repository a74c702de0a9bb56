-- THE BOARD ON A PAGE: document 02, (iv), whose sentences are quoted. What a page is, and what a reader finds on it, is
-- said in the crate page (Page.antt, Found.antt); here the same of what the calls leave. proofs/BoardPage.antt has the
-- term. Assumes nothing.
use Rattle.std.specs.Prelude.{◌≡◌, true, cond, List, ℕ, ◌*◌, ◌≤◌, ◌<◌, eqb, length, take, drop}
use Rattle.xor.specs.Xor.{zeros, bytes_good}
use Rattle.grid.specs.Grid.{positions_fit, value_fits}
use Rattle.digits.specs.Digits.{hex, spaces, right_aligned}
use Rattle.digits.specs.Reading.{number_read, hex_read}
use Rattle.page.specs.Page.{entry_at, page_lines, line_long, page_long}
use Rattle.page.specs.Found.{digits_at}
unfoldable pub use Rattle.page.specs.Found.{LinesLong, PageIsLong, CellsFound, CellsRead, PastBlank, CellsApart}
unfoldable pub use Rattle.page.specs.Found.{LinesEnd, NumbersFound, LinesNumbered, PageTells}
use Rattle.call_answers.specs.Answers.{Answer, PageSays}
use Rattle.join_keys_call.specs.JoinKeys.{JoinKeysSays}
use Rattle.promises.specs.Calls.{Dealt}

-- WHAT IS FOUND AND READ, by line and column alone, on a text of so many bytes: what each position of a board has
pub record ReadsBack (n w : ℕ) (ValueOn : ℕ → List ℕ) (text : List ℕ) : Type 0 where
  pub long : length text ≡ page_long n w
  -- the five places of a line are its first position's, and read as it
  pub first : (l : ℕ) → l < page_lines n → take 5 (drop (l * line_long w) text) ≡ right_aligned 5 (8 * l)
  pub numbered : (l : ℕ) → l < page_lines n → number_read (take 5 (drop (l * line_long w) text)) ≡ 8 * l
  -- the digits of a cell are its value's, and read as it; past N there are none
  pub digits : (a : ℕ) → a < n → digits_at w text a ≡ hex (ValueOn a)
  pub values : (a : ℕ) → a < n → hex_read (digits_at w text a) ≡ ValueOn a
  pub blank : (a : ℕ) → n ≤ a → a < 8 * page_lines n → digits_at w text a ≡ spaces (2 * w)

-- OF THE CALL: so many bytes as Write page tells are read back as the table that it was lent
unfoldable pub PagesRead : Type 0
PagesRead =
    (n w : ℕ) (ts : List ℕ) (r : Answer) (out out_now : List ℕ) → bytes_good ts ≡ true →
    PageSays n w ts r out out_now → r.refusal ≡ 0 → ReadsBack n w (λ a. entry_at w ts a) (take r.value out_now)

-- so what two calls leave of two tables of one size is the same only where the tables are
unfoldable pub PagesTell : Type 0
PagesTell =
    (n w : ℕ) (ts us : List ℕ) (r s : Answer) (out out_now other other_now : List ℕ) →
    bytes_good ts ≡ true → bytes_good us ≡ true → PageSays n w ts r out out_now → PageSays n w us s other other_now →
    r.refusal ≡ 0 → s.refusal ≡ 0 → take r.value out_now ≡ take s.value other_now → ts ≡ us

-- "Given N, w and N × w bytes", in their ranges, it answers 0 where 9 doesn't refuse
unfoldable pub AcceptedPages : Type 0
AcceptedPages =
    (n w : ℕ) (ts : List ℕ) (r : Answer) (out out_now : List ℕ) → positions_fit n ≡ true → value_fits w ≡ true →
    length ts ≡ n * w → page_long n w ≤ length out → PageSays n w ts r out out_now → r.refusal ≡ 0

-- "Clubs pin up the opened table": of every deal that is answered by 0, what Join keys writes of its keys, given to
-- Write page where 9 doesn't refuse, is answered by 0 and read back as the value on the point's square and zeros on
-- every other
unfoldable pub DealsOnAPage : Type 0
DealsOnAPage =
    (p n m w point : ℕ) (value : List ℕ) (long : Answer) (keys_now : List ℕ) (r : ℕ) (a : Answer)
    (joined joined_now out out_now : List ℕ) → Dealt p n m w point value long keys_now → n * w ≤ length joined →
    JoinKeysSays (take (p * long.value) keys_now) r joined joined_now → page_long n w ≤ length out →
    PageSays n w (take (n * w) joined_now) a out out_now →
    (a.refusal ≡ 0) × ReadsBack n w (λ b. cond (eqb b point) value (zeros w)) (take a.value out_now)

pub record BoardPage : Type 0 where
  pub lines_long : LinesLong
  pub page_is_long : PageIsLong
  pub cells_found : CellsFound
  pub cells_read : CellsRead
  pub past_blank : PastBlank
  pub cells_apart : CellsApart
  pub lines_end : LinesEnd
  pub numbers_found : NumbersFound
  pub lines_numbered : LinesNumbered
  pub page_tells : PageTells
  pub pages_read : PagesRead
  pub pages_tell : PagesTell
  pub accepted_pages : AcceptedPages
  pub deals_on_a_page : DealsOnAPage
