-- Keys as bytes (document 01, "Bytes of a key", Deal and Check key): numbers in groups, headers, what Deal writes, what
-- Check key refuses, a key's parts and its full table, and opening a square alone. These are document 03's definitions
-- word for word, but for opening and for Deal's 18, 19 and 20: document 01 opens from the header and the part that
-- begins at the square's grid row, so `opened` here reads nothing else, and document 02, (i), puts the three in the
-- place of 8. Document 03's own text of both stands in Document03.antt, whose `SameOpening` and `SameRefusals` tie
-- the two together. Quotations are document 01's, or 02's where it says so. Assumes nothing: these are definitions.
use Rattle.std.specs.Prelude.{◌≡◌, Bool, true, false, ◌&&◌, not, cond, List, [], ◌∷◌, ◌++◌, ℕ, zero, suc, ◌+◌, ◌*◌, ◌-◌, ◌/◌, ◌%◌, ◌^◌, ltb, leb, eqb, length, get_or, take, drop}
use Rattle.xor.specs.Xor.{xors, zeros}
use Rattle.grid.specs.Grid.{Board, board, columns, grid_rows, row_long, board_refusal, arrays_long, seeds_long}
use Rattle.grid.specs.Grid.{words_long, Dealing, all_words, bit, cell}
use Rattle.grid.specs.Faults.{Fault, has_place, arrays_fault}

-- NUMBERS AND HEADERS

-- "groups of seven bits, lowest group first, bit 7 set when another group follows"
unfoldable pub groups : (fuel v : ℕ) → List ℕ
groups zero v = []
groups (suc k) v = cond (ltb v 128) (v ∷ []) ((v % 128 + 128) ∷ groups k (v / 128))

-- "shortest form only, at most three groups"
unfoldable pub number_bytes : ℕ → List ℕ
number_bytes v = groups 3 v

-- numbers one behind another
unfoldable pub numbers_written : List ℕ → List ℕ
numbers_written [] = []
numbers_written (v ∷ vs) = number_bytes v ++ numbers_written vs

-- "the header is p, player, N, μ, w"
unfoldable pub header : Board → (player : ℕ) → List ℕ
header b i =
    number_bytes b.p ++ number_bytes i ++ number_bytes b.n ++ number_bytes b.wide ++ number_bytes b.w

-- "the header reader gives back a number and itself moved on", or that there is none
pub record Got : Type 0 where
  pub good : Bool
  pub value : ℕ
  pub rest : List ℕ

-- a number and what stands behind it
unfoldable pub got : (value : ℕ) → List ℕ → Got
got v bs = record { good = true; value = v; rest = bs }

-- no number: refusal 10
abbrev pub none_got : Got
none_got = record { good = false; value = 0; rest = [] }

-- none where "a header number [is] cut short, over three groups or not shortest"
unfoldable pub number_in : List ℕ → Got
number_in [] = none_got
number_in (a ∷ []) = cond (ltb a 128) (got a []) none_got
number_in (a ∷ b ∷ []) = cond (ltb a 128) (got a (b ∷ [])) (cond (ltb b 128 && ltb 0 b) (got (a - 128 + 128 * b) []) none_got)
number_in (a ∷ b ∷ c ∷ bs) =
    cond (ltb a 128) (got a (b ∷ c ∷ bs))
    (cond (ltb b 128) (cond (ltb 0 b) (got (a - 128 + 128 * b) (c ∷ bs)) none_got)
    (cond (ltb c 128 && ltb 0 c) (got (a - 128 + 128 * (b - 128) + 16384 * c) bs) none_got))

-- so many numbers, each read behind the one before: whether all are there, and the bytes behind them
pub record Numbers : Type 0 where
  pub good : Bool
  pub values : List ℕ
  pub rest : List ℕ

unfoldable pub numbers_in : (left : ℕ) → List ℕ → Numbers
numbers_in zero bs = record { good = true; values = []; rest = bs }
numbers_in (suc k) bs =
    let first = number_in bs in
    let more = numbers_in k first.rest in
    record { good = first.good && more.good; values = first.value ∷ more.values; rest = more.rest }

-- "all header numbers are read": the five, and the bytes behind them
pub record Head : Type 0 where
  pub good : Bool
  pub board : Board
  pub player : ℕ
  pub rest : List ℕ

-- the header of five answers: it is there when all five numbers are
unfoldable pub head_of : (p i n m w : Got) → Head
head_of p i n m w =
    record {
      good = (p.good && i.good) && (n.good && (m.good && w.good));
      board = board p.value n.value m.value w.value;
      player = i.value;
      rest = w.rest;
    }

-- the header of a key, each number read behind the one before
unfoldable pub head_in : List ℕ → Head
head_in bs =
    let p = number_in bs in
    let i = number_in p.rest in
    let n = number_in i.rest in
    let m = number_in n.rest in
    let w = number_in m.rest in head_of p i n m w

-- the same header by five numbers read one behind another
unfoldable pub head_by_numbers : Numbers → Head
head_by_numbers m =
    record {
      good = m.good;
      board = board (get_or m.values 0 0) (get_or m.values 2 0) (get_or m.values 3 0) (get_or m.values 4 0);
      player = get_or m.values 1 0;
      rest = m.rest;
    }

-- WHAT A HEADER IS REFUSED FOR

-- "the first number that fits is given": a number, or else the next
unfoldable pub or_else : (a b : ℕ) → ℕ
or_else a b = cond (eqb a 0) b a

-- a header's numbers behind 10: "1 to 5, 11"
unfoldable pub numbers_refusal : Board → (player : ℕ) → ℕ
numbers_refusal b i = cond (not (eqb (board_refusal b) 0)) (board_refusal b) (cond (leb b.p i) 11 0)

-- a header's own numbers: "10; 1 to 5; 11 player ≥ p"
unfoldable pub head_refusal : Head → ℕ
head_refusal h = cond (not h.good) 10 (numbers_refusal h.board h.player)

-- WHAT DEAL WRITES

-- "J/8 bytes rounded up of marks"
unfoldable pub mark_bytes : Board → ℕ
mark_bytes b = (columns b + 7) / 8

-- "column j is bit j mod 8 of byte j div 8": one byte, from its bit `place` on
unfoldable pub packed_from : (left place : ℕ) → (player : ℕ) → List ℕ → ℕ
packed_from zero k i cs = 0
packed_from (suc l) k i [] = 0
packed_from (suc l) k i (c ∷ cs) = cond (bit c i) (2 ^ k) 0 + packed_from l (suc k) i cs

-- the mark bytes of a grid row, "spare bits zero"
unfoldable pub packed : (left : ℕ) → (player : ℕ) → List ℕ → List ℕ
packed zero i cs = []
packed (suc l) i cs = packed_from 8 0 i cs ∷ packed l i (drop 8 cs)

-- "then the seeds of marked columns in column order"
unfoldable pub held_seeds : (player : ℕ) → (array seeds : List ℕ) → List ℕ
held_seeds i [] ss = []
held_seeds i (c ∷ cs) ss = cond (bit c i) (take 32 ss) [] ++ held_seeds i cs (drop 32 ss)

-- "then for each grid row": marks and held seeds
unfoldable pub body_from : (left : ℕ) → Board → (player : ℕ) → (arrays seeds : List ℕ) → List ℕ
body_from zero b i cs ss = []
body_from (suc k) b i cs ss =
    packed (mark_bytes b) i (take (columns b) cs) ++ held_seeds i (take (columns b) cs) ss
    ++ body_from k b i (drop (columns b) cs) (drop (32 * columns b) ss)

-- strings one after another: "then the J words"
unfoldable pub glued : List (List ℕ) → List ℕ
glued [] = []
glued (w ∷ ws) = w ++ glued ws

-- "length K = header + ν × (marks + 16 × J) + J × μ × w"
unfoldable pub key_long : Board → ℕ
key_long b =
    length (header b 0) + grid_rows b * (mark_bytes b + 16 * columns b) + columns b * row_long b

-- "a row rule gives each 32-byte seed some μ × w bytes"; the seeds stand grid row by grid row
unfoldable pub rows_from : (left : ℕ) → (rule : List ℕ → List ℕ) → (seeds : List ℕ) → List (List ℕ)
rows_from zero f ss = []
rows_from (suc k) f ss = f (take 32 ss) ∷ rows_from k f (drop 32 ss)

-- a string cut into parts of one length: "the lent words are those of columns 0 to J−2, in column order"
unfoldable pub words_from : (left : ℕ) → (long : ℕ) → List ℕ → List (List ℕ)
words_from zero l bs = []
words_from (suc k) l bs = take l bs ∷ words_from k l (drop l bs)

-- "a lent input (value, arrays, seeds, words)", and the point
pub record Lent : Type 0 where
  pub point : ℕ
  pub value : List ℕ
  pub arrays : List ℕ
  pub seeds : List ℕ
  pub words : List ℕ

-- what Deal is lent
abbrev pub lent : (point : ℕ) → (value arrays seeds words : List ℕ) → Lent
lent a v cs ss ws = record { point = a; value = v; arrays = cs; seeds = ss; words = ws }

-- "under a rule, a dealing's last word and all shares take their rows from it"
unfoldable pub dealing : Board → (rule : List ℕ → List ℕ) → Lent → Dealing
dealing b f l =
    record {
      point = l.point;
      value = l.value;
      arrays = l.arrays;
      rows = rows_from (grid_rows b * columns b) f l.seeds;
      words = words_from (columns b - 1) (row_long b) l.words;
    }

-- one player's key
unfoldable pub key : Board → (rule : List ℕ → List ℕ) → Lent → (player : ℕ) → List ℕ
key b f l i = header b i ++ body_from (grid_rows b) b i l.arrays l.seeds ++ glued (all_words b (dealing b f l))

-- "Deal writes p keys one after another, player 0 first"
unfoldable pub keys_from : (left i : ℕ) → Board → (rule : List ℕ → List ℕ) → Lent → List ℕ
keys_from zero i b f l = []
keys_from (suc k) i b f l = key b f l i ++ keys_from k (suc i) b f l

-- whether value, arrays, seeds and words have the lengths that the board asks
abbrev pub lent_fits : Board → (value arrays seeds words : ℕ) → Bool
lent_fits b v cs ss ws =
    (eqb v b.w && eqb cs (arrays_long b)) && (eqb ss (seeds_long b) && eqb ws (words_long b))

-- "1 to 5; 6 point ≥ N; 7 a lent input of another length"
unfoldable pub sizes_refusal : Board → Lent → ℕ
sizes_refusal b l =
    cond (not (eqb (board_refusal b) 0)) (board_refusal b)
    (cond (leb b.n l.point) 6
    (cond (not (lent_fits b (length l.value) (length l.arrays) (length l.seeds) (length l.words))) 7 0))

-- the first fault of the lent arrays, and where it stands: document 02, (i)
abbrev pub lent_fault : Board → Lent → Fault
lent_fault b l = arrays_fault b l.point l.arrays

-- then 18, 19, 20 of document 02, which "all take the place of 8"
unfoldable pub deal_refusal : Board → Lent → ℕ
deal_refusal b l = or_else (sizes_refusal b l) (lent_fault b l).number

-- document 02: "each comes with the grid row and column of the first fault"; no other number has a place
unfoldable pub deal_place : Board → Lent → List ℕ
deal_place b l = cond (has_place (deal_refusal b l)) ((lent_fault b l).grid_row ∷ (lent_fault b l).column ∷ []) []

-- WHAT CHECK KEY REFUSES

-- the ones among the marks of columns j and on
unfoldable pub count_marks : (left j : ℕ) → (marks : List ℕ) → ℕ
count_marks zero j ms = 0
count_marks (suc k) j ms = cond (bit (get_or ms (j / 8) 0) (j % 8)) 1 0 + count_marks k (suc j) ms

-- "spare bits zero"
unfoldable pub spare_from : (left j : ℕ) → (marks : List ℕ) → Bool
spare_from zero j ms = true
spare_from (suc k) j ms = not (bit (get_or ms (j / 8) 0) (j % 8)) && spare_from k (suc j) ms

-- the bytes of a grid row: marks, and J/2 seeds of 32 bytes
unfoldable pub stride : Board → ℕ
stride b = mark_bytes b + 16 * columns b

-- not "some mark row without exactly J/2 ones, or a spare bit set"
unfoldable pub marks_good : (left : ℕ) → Board → (body : List ℕ) → Bool
marks_good zero b bs = true
marks_good (suc k) b bs =
    (eqb (count_marks (columns b) 0 bs) (columns b / 2) && spare_from (8 * mark_bytes b - columns b) (columns b) bs)
    && marks_good k b (drop (stride b) bs)

-- "10; 1 to 5; 11 player ≥ p; 12 length not K; 13"
unfoldable pub key_refusal : (key : List ℕ) → ℕ
key_refusal bs =
    let h = head_in bs in
    let b = h.board in
    or_else (head_refusal h)
    (cond (not (eqb (length bs) (length (header b h.player) + grid_rows b * stride b + columns b * row_long b))) 12
    (cond (marks_good (grid_rows b) b h.rest) 0 13))

-- the bytes behind the header
abbrev pub body_long : Board → ℕ
body_long b = grid_rows b * stride b + columns b * row_long b

-- an accepted key of a board's player
pub record AcceptedAs (b : Board) (i : ℕ) (ks : List ℕ) : Type 0 where
  pub none : key_refusal ks ≡ 0
  pub board_is : (head_in ks).board ≡ b
  pub player_is : (head_in ks).player ≡ i

-- what stands behind the header of an accepted key of a board
pub record AcceptedBody (b : Board) (bs : List ℕ) : Type 0 where
  pub board : board_refusal b ≡ 0
  pub long : length bs ≡ body_long b
  pub marks : marks_good (grid_rows b) b bs ≡ true

-- OPENING A SQUARE ALONE

-- "the part of the key that begins at its grid row", of the bytes behind the header
unfoldable pub grid_row_part : Board → (body : List ℕ) → (g : ℕ) → List ℕ
grid_row_part b bs g = drop (g * stride b) bs

-- the word of column j, as it stands behind the part that begins at grid row g: past that grid row and all after it
unfoldable pub word_behind : Board → (part : List ℕ) → (g j : ℕ) → List ℕ
word_behind b ps g j = take (row_long b) (drop ((grid_rows b - g) * stride b + j * row_long b) ps)

-- "the XOR, over the columns that the player's mark has in that grid row, of word and row, at the position's cell"; `seen` counts marked columns
unfoldable pub opened_from : (left j seen : ℕ) → Board → (rule : List ℕ → List ℕ) → (part : List ℕ) → (g c : ℕ) → List ℕ → List ℕ
opened_from zero j n b f ps g c xs = xs
opened_from (suc k) j n b f ps g c xs =
    let seed = take 32 (drop (mark_bytes b + 32 * n) ps) in
    let one = xors (cell b c (word_behind b ps g j)) (cell b c (f seed)) in
    cond (bit (get_or ps (j / 8) 0) (j % 8)) (opened_from k (suc j) (suc n) b f ps g c (xors xs one)) (opened_from k (suc j) n b f ps g c xs)

-- square a from the header's numbers and the part that begins at its grid row, and nothing else
unfoldable pub opened_part : Board → (rule : List ℕ → List ℕ) → (part : List ℕ) → (a : ℕ) → List ℕ
opened_part b f ps a = opened_from (columns b) 0 0 b f ps (a / b.wide) (a % b.wide) (zeros b.w)

-- "a square opened alone is worked out from the key's bytes themselves: the header, and the part that begins at the square's grid row"
unfoldable pub opened : (rule : List ℕ → List ℕ) → (key : List ℕ) → (a : ℕ) → List ℕ
opened f ks a =
    let h = head_in ks in
    let b = h.board in opened_part b f (grid_row_part b h.rest (a / b.wide)) a

-- A KEY'S PARTS, read from the whole key, and the bytes that write them

-- "a key's parts are its header numbers, marks, held seeds and words"
pub record Parts : Type 0 where
  pub marks : List Bool
  pub seeds : List (List ℕ)
  pub words : List (List ℕ)

-- the marks of columns j and on in a part that begins at a grid row
unfoldable pub marks_in : (left j : ℕ) → (part : List ℕ) → List Bool
marks_in zero j ps = []
marks_in (suc k) j ps = bit (get_or ps (j / 8) 0) (j % 8) ∷ marks_in k (suc j) ps

-- the marks of all grid rows
unfoldable pub marks_of_grid_rows : (left : ℕ) → Board → (body : List ℕ) → List Bool
marks_of_grid_rows zero b bs = []
marks_of_grid_rows (suc k) b bs = marks_in (columns b) 0 bs ++ marks_of_grid_rows k b (drop (stride b) bs)

-- the held seeds of all grid rows
unfoldable pub seeds_of_grid_rows : (left : ℕ) → Board → (body : List ℕ) → List (List ℕ)
seeds_of_grid_rows zero b bs = []
seeds_of_grid_rows (suc k) b bs = words_from (columns b / 2) 32 (drop (mark_bytes b) bs) ++ seeds_of_grid_rows k b (drop (stride b) bs)

-- the parts in the bytes behind a header
unfoldable pub parts_of : Board → (body : List ℕ) → Parts
parts_of b bs =
    record {
      marks = marks_of_grid_rows (grid_rows b) b bs;
      seeds = seeds_of_grid_rows (grid_rows b) b bs;
      words = words_from (columns b) (row_long b) (drop (grid_rows b * stride b) bs);
    }

-- the parts in a key
unfoldable pub parts_in : (key : List ℕ) → Parts
parts_in ks = parts_of (head_in ks).board (head_in ks).rest

-- eight marks as a byte, from its bit `place` on
unfoldable pub byte_of : (left place : ℕ) → List Bool → ℕ
byte_of zero k ms = 0
byte_of (suc l) k [] = 0
byte_of (suc l) k (m ∷ ms) = cond m (2 ^ k) 0 + byte_of l (suc k) ms

-- a grid row's marks as bytes
unfoldable pub packed_marks : (left : ℕ) → List Bool → List ℕ
packed_marks zero ms = []
packed_marks (suc l) ms = byte_of 8 0 ms ∷ packed_marks l (drop 8 ms)

-- marks and held seeds of all grid rows as bytes
unfoldable pub grid_rows_written : (left : ℕ) → Board → List Bool → List (List ℕ) → List ℕ
grid_rows_written zero b ms ss = []
grid_rows_written (suc k) b ms ss =
    packed_marks (mark_bytes b) (take (columns b) ms) ++ glued (take (columns b / 2) ss)
    ++ grid_rows_written k b (drop (columns b) ms) (drop (columns b / 2) ss)

-- the bytes that write a player's parts
unfoldable pub key_written : Board → (player : ℕ) → Parts → List ℕ
key_written b i q = header b i ++ grid_rows_written (grid_rows b) b q.marks q.seeds ++ glued q.words

-- FULL TABLES by the parts

-- "the XOR, over the columns that the player's mark has in that grid row, of word and row, at the position's cell"
unfoldable pub parts_share : (left j : ℕ) → Board → (rule : List ℕ → List ℕ) → List Bool → (seeds words : List (List ℕ)) → (c : ℕ) → List ℕ → List ℕ
parts_share zero j b f ms ss ws c xs = xs
parts_share (suc k) j b f [] ss ws c xs = xs
parts_share (suc k) j b f (m ∷ ms) ss ws c xs =
    let one = xors (cell b c (get_or ws j [])) (cell b c (f (get_or ss 0 []))) in
    cond m (parts_share k (suc j) b f ms (drop 1 ss) ws c (xors xs one)) (parts_share k (suc j) b f ms ss ws c xs)

-- "its player's share at a by the key's parts"
unfoldable pub share_by_parts : Board → (rule : List ℕ → List ℕ) → Parts → (a : ℕ) → List ℕ
share_by_parts b f q a =
    parts_share (columns b) 0 b f (drop (a / b.wide * columns b) q.marks) (drop (a / b.wide * (columns b / 2)) q.seeds) q.words
    (a % b.wide) (zeros b.w)

-- entries a and on
unfoldable pub table_from : (left a : ℕ) → Board → (rule : List ℕ → List ℕ) → Parts → List ℕ
table_from zero a b f q = []
table_from (suc n) a b f q = share_by_parts b f q a ++ table_from n (suc a) b f q

-- "entry a of a key's full table is its player's share at a by the key's parts, for each a below N"
unfoldable pub table : (rule : List ℕ → List ℕ) → (key : List ℕ) → List ℕ
table f ks = table_from (head_in ks).board.n 0 (head_in ks).board f (parts_in ks)
