-- WHAT A READER FINDS ON A PAGE, "by its line and column alone": statements about the page's bytes, of every table that
-- nothing refuses. proofs/Found.antt has their terms. Quotations are document 02's, (iv). Assumes nothing.
use Rattle.std.specs.Prelude.{◌≡◌, true, List, [], ◌∷◌, ℕ, ◌+◌, ◌*◌, ◌-◌, ◌≤◌, ◌<◌, length, take, drop}
use Rattle.xor.specs.Xor.{bytes_good}
use Rattle.digits.specs.Digits.{hex, spaces, right_aligned}
use Rattle.digits.specs.Reading.{number_read, hex_read}
use Rattle.page.specs.Page.{entry_at, page, page_line, page_lines, line_long, page_long, digits_place, Pageable}

-- "Every line is 6 + 8 × (2 × w + 1) bytes", so a page has that many for each of its lines
unfoldable pub LinesLong : Type 0
LinesLong =
    (n w : ℕ) (ts : List ℕ) (l : ℕ) → Pageable n w ts → l < page_lines n → length (page_line n w ts l) ≡ line_long w

unfoldable pub PageIsLong : Type 0
PageIsLong = (n w : ℕ) (ts : List ℕ) → Pageable n w ts → length (page n w ts) ≡ page_long n w

-- what stands where the digits of cell a begin
unfoldable pub digits_at : (w : ℕ) → (text : List ℕ) → (a : ℕ) → List ℕ
digits_at w bs a = take (2 * w) (drop (digits_place w a) bs)

-- the digits of each entry are found, and read back they are the entry
unfoldable pub CellsFound : Type 0
CellsFound =
    (n w : ℕ) (ts : List ℕ) (a : ℕ) → Pageable n w ts → a < n → digits_at w (page n w ts) a ≡ hex (entry_at w ts a)

unfoldable pub CellsRead : Type 0
CellsRead =
    (n w : ℕ) (ts : List ℕ) (a : ℕ) → Pageable n w ts → bytes_good ts ≡ true → a < n →
    hex_read (digits_at w (page n w ts) a) ≡ entry_at w ts a

-- "spaces for cells past N"
unfoldable pub PastBlank : Type 0
PastBlank =
    (n w : ℕ) (ts : List ℕ) (a : ℕ) → Pageable n w ts → n ≤ a → a < 8 * page_lines n →
    digits_at w (page n w ts) a ≡ spaces (2 * w)

-- each cell begins with "one space", and each line ends with "one line feed"
unfoldable pub CellsApart : Type 0
CellsApart =
    (n w : ℕ) (ts : List ℕ) (a : ℕ) → Pageable n w ts → a < 8 * page_lines n →
    take 1 (drop (digits_place w a - 1) (page n w ts)) ≡ 32 ∷ []

unfoldable pub LinesEnd : Type 0
LinesEnd =
    (n w : ℕ) (ts : List ℕ) (l : ℕ) → Pageable n w ts → l < page_lines n →
    take 1 (drop (l * line_long w + (line_long w - 1)) (page n w ts)) ≡ 10 ∷ []

-- "the first position in five places, right-aligned with spaces", and read back they are that position
unfoldable pub NumbersFound : Type 0
NumbersFound =
    (n w : ℕ) (ts : List ℕ) (l : ℕ) → Pageable n w ts → l < page_lines n →
    take 5 (drop (l * line_long w) (page n w ts)) ≡ right_aligned 5 (8 * l)

unfoldable pub LinesNumbered : Type 0
LinesNumbered =
    (n w : ℕ) (ts : List ℕ) (l : ℕ) → Pageable n w ts → l < page_lines n →
    number_read (take 5 (drop (l * line_long w) (page n w ts))) ≡ 8 * l

-- so a page says the table: two tables of one size with the same page are equal
unfoldable pub PageTells : Type 0
PageTells =
    (n w : ℕ) (ts us : List ℕ) → Pageable n w ts → Pageable n w us → bytes_good ts ≡ true → bytes_good us ≡ true →
    page n w ts ≡ page n w us → ts ≡ us
