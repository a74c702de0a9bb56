-- The dealing program as a function from the input's bytes to the output's: document 01's "Two programs", whose sentences are quoted.
-- Assumes nothing: these are definitions.
use Rattle.std.specs.Prelude.{◌≡◌, Bool, ◌||◌, not, cond, List, ℕ, ◌+◌, ◌*◌, ltb, leb, eqb, length, get_or, take, drop, Result}
use Rattle.refusal.specs.Refusing.{refusal_number}
use Rattle.refusal.specs.declared.Refusal.{Refusal}
use Rattle.grid.specs.Grid.{Board, board, board_refusal, arrays_long, seeds_long, words_long}
use Rattle.keys.specs.Keys.{numbers_in, Lent, lent_fault, key_long, keys_from, or_else, lent}
use Rattle.call_answers.specs.Answers.{DealSays}
use Rattle.seed_rows.specs.Rows.{rule}
use Rattle.text.specs.Text.{refused_line}
use Rattle.program_output.specs.Output.{most_bytes, read_bytes, Writes, OfRead, Enough, Fits}

-- THE DEALING PROGRAM "reads p, N, μ, w, point in the groups above, then value, arrays, seeds, words"
pub record Input : Type 0 where
  pub good : Bool
  pub board : Board
  pub point : ℕ
  pub rest : List ℕ

unfoldable pub input_in : List ℕ → Input
input_in bs =
    let five = numbers_in 5 bs in
    record {
      good = five.good;
      board = board (get_or five.values 0 0) (get_or five.values 1 0) (get_or five.values 2 0) (get_or five.values 3 0);
      point = get_or five.values 4 0;
      rest = five.rest;
    }

-- how many bytes are asked for behind the five numbers: value, arrays, seeds, words
unfoldable pub asked_bytes : Board → ℕ
asked_bytes b = b.w + arrays_long b + seeds_long b + words_long b

-- the lent parts, one behind another
unfoldable pub lent_in : Board → (point : ℕ) → (rest : List ℕ) → Lent
lent_in b a bs =
    lent a (take b.w bs) (take (arrays_long b) (drop b.w bs)) (take (seeds_long b) (drop (b.w + arrays_long b) bs)) (drop (b.w + arrays_long b + seeds_long b) bs)

-- the numbers that the lengths and the five numbers decide: 1 to 5, 6, and "7 on the whole input"
unfoldable pub asked_refusal : Board → (point whole rest : ℕ) → ℕ
asked_refusal b a whole rest =
    cond (not (eqb (board_refusal b) 0)) (board_refusal b)
    (cond (leb b.n a) 6 (cond (ltb most_bytes whole || not (eqb rest (asked_bytes b))) 7 0))

-- those that the lent parts decide: 18 to 20, "the number alone", and 9
unfoldable pub lent_refusal : Board → Lent → ℕ
lent_refusal b l = or_else (lent_fault b l).number (cond (ltb most_bytes (b.p * key_long b)) 9 0)

-- "The dealing program checks 10 first, then as Deal": 10, 1 to 5, 6, 7, 18 to 20, 9
unfoldable pub dealing_refusal : (input : List ℕ) → ℕ
dealing_refusal bs =
    let i = input_in bs in
    cond (not i.good) 10
    (or_else (asked_refusal i.board i.point (length bs) (length i.rest)) (lent_refusal i.board (lent_in i.board i.point i.rest)))

-- "writes the keys"
unfoldable pub keys_of : Board → Lent → List ℕ
keys_of b l = keys_from b.p 0 b (λ seed. rule b seed) l

-- what it writes: the keys, or the line that refuses
unfoldable pub dealing_output : (input : List ℕ) → List ℕ
dealing_output bs =
    let i = input_in bs in
    cond (eqb (dealing_refusal bs) 0) (keys_of i.board (lent_in i.board i.point i.rest)) (refused_line (dealing_refusal bs))

-- WHAT MAKES ITS BUFFERS RIGHT: 65,537 bytes of an input are enough, and what it writes fits into 65,536
unfoldable pub DealingWhole : Type 0
DealingWhole = Enough read_bytes dealing_output × Fits most_bytes dealing_output

-- of a buffer that an input was read into: the output of that input is written; with a count above the buffer's length, nothing is
unfoldable pub DealsRead : (buffer : List ℕ) → (count r : ℕ) → (out out_now : List ℕ) → Type 0
DealsRead xs n r o z = OfRead xs n (λ bs. Writes (dealing_output bs) r o z) ((r ≡ 0) × (z ≡ o))

-- its parts: what it writes where the five numbers and the lengths are in order, and what Deal says of lent parts
unfoldable pub dealt_output : Board → Lent → List ℕ
dealt_output b l = cond (eqb (lent_refusal b l) 0) (keys_of b l) (refused_line (lent_refusal b l))

unfoldable pub Deals : Board → Lent → (r : ℕ) → (out out_now : List ℕ) → Type 0
Deals b l r o z = DealSays b.p b.n b.wide b.w l.point l.value l.arrays l.seeds l.words r o z

-- what is left of the output where the keys are written, which are so many bytes, and where the input is refused
abbrev pub PutDealt : (input : List ℕ) → Result ℕ Refusal → (out out_now : List ℕ) → Type 0
PutDealt bs (Result.Ok long) o z = Writes (dealing_output bs) long o z
PutDealt bs (Result.Err refusal) o z = (dealing_output bs ≡ refused_line (refusal_number refusal)) × (z ≡ o)
