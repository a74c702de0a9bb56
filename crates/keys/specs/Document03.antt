-- Document 03's own text, word for word, of what Keys.antt and Promise.antt say otherwise: opening, which read the
-- words from the whole body, the refusals, which did not share their parts and had 8 for every fault of an array, and
-- `RuleGood`, which asked good rows of every list. `SameOpening` says that this opening is `opened` of Keys.antt at
-- every square; then come document 03's statements under its own names. Assumes nothing: these are definitions and
-- statements.
use Rattle.std.specs.Prelude.{◌≡◌, true, ◌&&◌, not, cond, List, ℕ, zero, suc, ◌+◌, ◌*◌, ◌-◌, ◌/◌, ◌%◌, ◌<◌, ltb, leb, eqb, length, get_or, take, drop}
use Rattle.xor.specs.Xor.{xors, zeros, bytes_good}
use Rattle.grid.specs.Grid
use Rattle.grid.specs.Grid.{Board, columns, grid_rows, row_long, arrays_good, bit, cell, share, joined_from}
use Rattle.grid.specs.Faults.{has_place}
use Rattle.keys.specs.Keys
use Rattle.keys.specs.Keys.{header, mark_bytes, marks_good, stride, grid_row_part, head_in, Lent, dealing, key, key_long, table, parts_in}
use Rattle.keys.specs.Promise.{lent_good, entry, dealt_parts}

-- OPENING from a key's bytes: the part that begins at a grid row, and the words behind all of them
unfoldable pub word_in : Board → (body : List ℕ) → (j : ℕ) → List ℕ
word_in b bs j = take (row_long b) (drop (grid_rows b * stride b + j * row_long b) bs)

unfoldable pub opened_from : (left j : ℕ) → (seen : ℕ) → Board → (rule : List ℕ → List ℕ) → (body part : List ℕ) → (c : ℕ) → List ℕ → List ℕ
opened_from zero j n b f bs ps c xs = xs
opened_from (suc k) j n b f bs ps c xs =
    let seed = take 32 (drop (mark_bytes b + 32 * n) ps) in
    let one = xors (cell b c (word_in b bs j)) (cell b c (f seed)) in
    cond (bit (get_or ps (j / 8) 0) (j % 8)) (opened_from k (suc j) (suc n) b f bs ps c (xors xs one)) (opened_from k (suc j) n b f bs ps c xs)

unfoldable pub opened : (rule : List ℕ → List ℕ) → (key : List ℕ) → (a : ℕ) → List ℕ
opened f ks a =
    let h = head_in ks in
    let b = h.board in
    opened_from (columns b) 0 0 b f h.rest (grid_row_part b h.rest (a / b.wide)) (a % b.wide) (zeros b.w)

-- THE OPENING OF KEYS.ANTT IS THIS ONE, for every list of numbers and every rule, at every square
unfoldable pub SameOpening : Type 0
SameOpening = (f : List ℕ → List ℕ) (ks : List ℕ) (a : ℕ) → a < (head_in ks).board.n → opened f ks a ≡ Keys.opened f ks a

-- THE REFUSALS of a board, a dealing and a key
unfoldable pub board_refusal : Board → ℕ
board_refusal b =
    cond (not (leb 2 b.p && leb b.p 6)) 1
    (cond (not (leb 1 b.n && leb b.n 65536)) 2
    (cond (not (leb 1 b.wide && leb b.wide 256)) 3
    (cond (not (leb 1 b.w && leb b.w 16)) 4 (cond (ltb 256 (grid_rows b)) 5 0))))

unfoldable pub deal_refusal : Board → Lent → ℕ
deal_refusal b l =
    let cells = grid_rows b * columns b in
    cond (not (eqb (board_refusal b) 0)) (board_refusal b)
    (cond (leb b.n l.point) 6
    (cond (not ((eqb (length l.value) b.w && eqb (length l.arrays) cells)
    && (eqb (length l.seeds) (32 * cells) && eqb (length l.words) ((columns b - 1) * row_long b)))) 7
    (cond (arrays_good (grid_rows b) 0 b l.point l.arrays) 0 8)))

unfoldable pub key_refusal : (key : List ℕ) → ℕ
key_refusal bs =
    let h = head_in bs in
    let b = h.board in
    cond (not h.good) 10
    (cond (not (eqb (board_refusal b) 0)) (board_refusal b)
    (cond (leb b.p h.player) 11
    (cond (not (eqb (length bs) (length (header b h.player) + grid_rows b * stride b + columns b * row_long b))) 12
    (cond (marks_good (grid_rows b) b h.rest) 0 13))))

-- a number with 8 again, where document 02, (i), gives 18, 19 or 20, which "all take the place of 8"
unfoldable pub eight_again : (number : ℕ) → ℕ
eight_again n = cond (has_place n) 8 n

-- THE REFUSALS ARE THESE, but that 18, 19 and 20 stand for 8: of every board, every dealing and every list of numbers
pub record SameRefusals : Type 0 where
  pub board : (b : Board) → board_refusal b ≡ Grid.board_refusal b
  pub deal : (b : Board) (l : Lent) → deal_refusal b l ≡ eight_again (Keys.deal_refusal b l)
  pub key : (bs : List ℕ) → key_refusal bs ≡ Keys.key_refusal bs

-- rules that give each seed a row's bytes
unfoldable pub RuleGood : Board → (List ℕ → List ℕ) → Type 0
RuleGood b f = (seed : List ℕ) → (length (f seed) ≡ row_long b) × (bytes_good (f seed) ≡ true)

-- THE THIRD DEMAND: all players' tables join to the value on the point's square and zero elsewhere, under every rule
unfoldable pub TablesJoin : Type 0
TablesJoin =
    (b : Board) (f : List ℕ → List ℕ) (l : Lent) (a : ℕ) → lent_good b l ≡ true → RuleGood b f → a < b.n →
    joined_from b.p 0 b (dealing b f l) a ≡ cond (eqb a l.point) l.value (zeros b.w)

-- dealt keys open as the dealing's shares
unfoldable pub KeysOpen : Type 0
KeysOpen =
    (b : Board) (f : List ℕ → List ℕ) (l : Lent) (i a : ℕ) → lent_good b l ≡ true → RuleGood b f → i < b.p → a < b.n →
    (key_refusal (key b f l i) ≡ 0) × (length (key b f l i) ≡ key_long b) × (opened f (key b f l i) a ≡ share b (dealing b f l) i a)

-- every accepted key opens a square alone as that entry of its own full table
unfoldable pub OpensAlone : Type 0
OpensAlone =
    (f : List ℕ → List ℕ) (ks : List ℕ) (a : ℕ) → key_refusal ks ≡ 0 → bytes_good ks ≡ true → RuleGood (head_in ks).board f → a < (head_in ks).board.n →
    entry (head_in ks).board (table f ks) a ≡ opened f ks a

-- THE SECOND DEMAND, where it speaks of a rule: a dealt key is read as the parts dealt
unfoldable pub ReadsParts : Type 0
ReadsParts =
    (b : Board) (f : List ℕ → List ℕ) (l : Lent) (i : ℕ) → lent_good b l ≡ true → RuleGood b f → i < b.p →
    (parts_in (key b f l i) ≡ dealt_parts b f l i) × ((head_in (key b f l i)).board ≡ b) × ((head_in (key b f l i)).player ≡ i)
