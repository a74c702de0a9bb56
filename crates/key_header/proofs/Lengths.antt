-- How long numbers and headers are, and a header written number by number. Assumes nothing.
use mathlib.Core.Path.{◌≡◌, refl, sym, ap, ◌∙◌}
use mathlib.Core.Bool.{Bool, true, false, cond}
use mathlib.Core.List.{List, [], ◌∷◌}
use Prim.Native.Nat.{ℕ, zero, suc, ◌+◌, ◌/◌, ◌%◌, ◌≤◌, ◌<◌}
use native.Mathlib.Omega.{arith}
use borrow.Author.Tests.{le-ltb}
use lib.Dec.{ltb}
use lib.ListN.{length, get_or, take, length-append}
use lib.Seq.{take_all}
use Rattle.writer.specs.Written.{Wrote}
use Rattle.writer.proofs.Laws.{wrote_more}
use Rattle.grid.specs.Grid.{Board, board, board_refusal}
use Rattle.grid.proofs.Facts.{board_in}
use Rattle.keys.specs.Keys.{groups, number_bytes, numbers_written, header}
use Rattle.keys.proofs.Numbers.{one_group, two_groups, header_is, written_next, written_most}
use Rattle.key_header.specs.Answers.{header_numbers, header_board, header_told, header_written}
use Rattle.key_header.specs.declared.header.Header.{Header}

pub one_long : (v : ℕ) → v < 128 → length (number_bytes v) ≡ 1
one_long v h = rw (one_group v h)

pub two_long : (v : ℕ) → 128 ≤ v → v < 16384 → length (number_bytes v) ≡ 2
two_long v h k = rw (two_groups v h k)

-- a last group that is too large to end a number is written all the same, so every number has at most three bytes
pub three_long : (v : ℕ) → 16384 ≤ v → length (number_bytes v) ≡ 3
unfolding number_bytes groups
three_long v h =
    rw (le-ltb v 128 (omega arith), le-ltb (v / 128) 128 (omega arith)) (last (ltb (v / 128 / 128) 128))
  where
    last : (t : Bool) → suc (suc (length (cond t (v / 128 / 128 ∷ []) ((v / 128 / 128 % 128 + 128) ∷ [])))) ≡ 3
    last true = refl
    last false = refl

-- a number has at most three bytes
pub number_most : (v : ℕ) → length (number_bytes v) ≤ 3
unfolding number_bytes groups
number_most v = go (ltb v 128) (ltb (v / 128) 128) (ltb (v / 128 / 128) 128)
  where
    go : (s t u : Bool)
        → length (cond s (v ∷ [])
        ((v % 128 + 128) ∷ cond t (v / 128 ∷ []) ((v / 128 % 128 + 128) ∷ cond u (v / 128 / 128 ∷ []) ((v / 128 / 128 % 128 + 128) ∷ [])))) ≤ 3
    go true t u = omega arith
    go false true u = omega arith
    go false false true = omega arith
    go false false false = omega arith

pub number_short : {r : ℕ} (v : ℕ) → r ≡ length (number_bytes v) → r ≤ 3
number_short v e = omega (arith, number_most v)

-- the header's bytes, number by number
pub header_sum : (b : Board) (i : ℕ)
    → length (header b i)
    ≡ length (number_bytes b.p) + length (number_bytes i) + length (number_bytes b.n) + length (number_bytes b.wide) + length (number_bytes b.w)
unfolding header
header_sum b i = simp length-append

pub header_most : (b : Board) (i : ℕ) → length (header b i) ≤ 15
header_most b i =
    rw header_sum
    (omega (arith, number_most b.p, number_most i, number_most b.n, number_most b.wide, number_most b.w))

pub header_short : {r : ℕ} (h : Header) → r ≡ length (header_written h) → r ≤ 15
unfolding header_written
header_short h e = omega (arith, header_most (header_board h) h.player)

-- the header of a board and of a player
pub header_for : (h : Header) (b : Board) (i : ℕ) → header_board h ≡ b → h.player ≡ i → header_written h ≡ header b i
unfolding header_written
header_for h b i e f = rw (e, f)

-- A HEADER BY ITS NUMBERS, in their order

pub numbers_five : (h : Header) (values : List ℕ) → values ≡ header_numbers (header_told h) → length values ≡ 5
unfolding header_numbers
numbers_five h values e = rw e

pub header_by : (h : Header) (values : List ℕ) → values ≡ header_numbers (header_told h) → numbers_written values ≡ header_written h
unfolding header_numbers header_written board
header_by h values e = rw e (header_is (header_board h) h.player)

-- one number more
pub next_length : (vs : List ℕ) (i long r : ℕ) → i < length vs → long ≡ length (numbers_written (take i vs)) → r ≡ length (number_bytes (get_or vs i 0)) →
    long + r ≡ length (numbers_written (take (i + 1) vs))
next_length vs i long r h e f =
    rw (e, f) (sym (ap length (written_next vs i h) ∙ length-append (numbers_written (take i vs)) (number_bytes (get_or vs i 0))))

-- all of them
pub all_numbers : (vs : List ℕ) (i : ℕ) → length vs ≡ 5 → 5 ≤ i → numbers_written (take i vs) ≡ numbers_written vs
all_numbers vs i long h = ap numbers_written (take_all i vs (omega arith))

-- an accepted board's numbers have at most three groups
pub numbers_small : (h : Header) → board_refusal (header_board h) ≡ 0 → h.player < 128 → (i : ℕ) → i < 5 → get_or (header_numbers (header_told h)) i 0 < 2097152
unfolding header_numbers board
numbers_small h r p zero l = omega (arith, (board_in _ r).players_most)
numbers_small h r p (suc zero) l = omega arith
numbers_small h r p (suc (suc zero)) l = omega (arith, (board_in _ r).positions_most)
numbers_small h r p (suc (suc (suc zero))) l = omega (arith, (board_in _ r).wide_most)
numbers_small h r p (suc (suc (suc (suc zero)))) l = omega (arith, (board_in _ r).value_most)
numbers_small h r p (suc (suc (suc (suc (suc i))))) l = let none : ⊥ = omega arith in absurd none

-- WRITING THEM: where the next one stands, and what is written with it
module _ {at next : ℕ} (vs : List ℕ) (i : ℕ) {old between : List ℕ} (h : i < length vs) (room : at + length (numbers_written vs) ≤ length old)
    (before : Wrote at (numbers_written (take i vs)) next old between)
  where
    with_next : length (numbers_written (take (i + 1) vs)) ≡ length (numbers_written (take i vs)) + length (number_bytes (get_or vs i 0))
    with_next = ap length (written_next vs i h) ∙ length-append (numbers_written (take i vs)) (number_bytes (get_or vs i 0))

    pub next_room : next + length (number_bytes (get_or vs i 0)) ≤ length old
    next_room = omega (arith, before.next_is, with_next, written_most vs (i + 1))

    pub next_wrote : {last : ℕ} {now : List ℕ} → Wrote next (number_bytes (get_or vs i 0)) last between now → Wrote at (numbers_written (take (i + 1) vs)) last old now
    next_wrote says =
        wrote_more (numbers_written (take i vs)) (number_bytes (get_or vs i 0)) (numbers_written (take (i + 1) vs)) (written_next vs i h)
        (omega (arith, written_most vs (i + 1))) before says
