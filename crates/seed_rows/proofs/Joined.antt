-- The laws of `rows_joined`: its length, one seed more, seeds cut out of a longer string, and a part of the bytes. Assumes nothing.
use mathlib.Core.Path.{◌≡◌, refl, sym, ap, ◌∙◌}
use mathlib.Core.Bool.{true}
use mathlib.Core.List.{List}
use Prim.Native.Nat.{ℕ, zero, suc, ◌+◌, ◌*◌, ◌-◌, ◌≤◌}
use native.Mathlib.Omega.{arith}
use native.Mathlib.Numerals.{add-one}
use lib.ListN.{length, take, drop}
use lib.Seq.{drop-drop, take-take}
use Rattle.xor.specs.Xor.{xors, zeros, bytes_good}
use Rattle.xor.proofs.Laws.{Word, word_zeros, word_xors, xors_assoc, xors_comm, xors_zeros_left, xors_zeros_right, take-xors, drop-xors}
use Rattle.chacha20.specs.From.{expand_from}
use Rattle.chacha20.proofs.Parts.{front_end}
use Rattle.chacha20.proofs.Stream.{word_from, part_of_from}
use Rattle.grid.proofs.Cells.{drop-zeros, take-zeros}
use Rattle.seed_row.proofs.Walks.{Stretched}
use Rattle.seed_rows.specs.Rows.{rows_joined}

pub word_rows : (k s n : ℕ) (ss : List ℕ) → Word n (rows_joined k s n ss)
unfolding rows_joined
word_rows zero s n ss = word_zeros n
word_rows (suc k) s n ss = word_xors _ _ (word_from s n _) (word_rows k s n _)

-- one seed more
pub rows_snoc : (k s n : ℕ) (ss : List ℕ) → rows_joined (suc k) s n ss ≡ xors (rows_joined k s n ss) (expand_from s n (take 32 (drop (32 * k) ss)))
unfolding rows_joined
rows_snoc zero s n ss = xors_comm (expand_from s n (take 32 ss)) (zeros n)
rows_snoc (suc k) s n ss =
    let next : 32 + 32 * k ≡ 32 * suc k = omega arith in
    let row = expand_from s n (take 32 ss) in
    let rest = rows_joined k s n (drop 32 ss) in
    ap (λ (l : List ℕ). xors row l) (rows_snoc k s n (drop 32 ss)) ∙ sym (xors_assoc row rest (expand_from s n (take 32 (drop (32 * k) (drop 32 ss)))))
    ∙ ap (λ (l : List ℕ). xors (xors row rest) (expand_from s n (take 32 l))) (drop-drop (32 * k) 32 ss ∙ ap (λ (m : ℕ). drop m ss) next)

-- some seeds, and more behind them
pub rows_add : (k j s n : ℕ) (ss : List ℕ) → rows_joined (k + j) s n ss ≡ xors (rows_joined k s n ss) (rows_joined j s n (drop (32 * k) ss))
unfolding rows_joined
rows_add zero j s n ss =
    let none : zero + j ≡ j = omega arith in
    rw none (sym (xors_zeros_left n (rows_joined j s n ss) (word_rows j s n ss)))
rows_add (suc k) j s n ss =
    let more : suc k + j ≡ suc (k + j) = omega arith in
    let next : 32 + 32 * k ≡ 32 * suc k = omega arith in
    let row = expand_from s n (take 32 ss) in
    rw (more, rows_add k j s n (drop 32 ss), drop-drop (32 * k) 32 ss, next)
    (sym (xors_assoc row (rows_joined k s n (drop 32 ss)) (rows_joined j s n (drop (32 * suc k) ss))))

-- seeds cut out of a longer string: the first k of them are those that the string begins with
pub rows_of_front : (k s n m : ℕ) (ss : List ℕ) → 32 * k ≤ m → rows_joined k s n (take m ss) ≡ rows_joined k s n ss
unfolding rows_joined
rows_of_front zero s n m ss h = refl
rows_of_front (suc k) s n m ss h =
    let rest : 32 + (m - 32) ≡ m = omega arith in
    let first : take 32 (take m ss) ≡ take 32 ss = take-take 32 m ss (omega arith) in
    let behind : drop 32 (take m ss) ≡ take (m - 32) (drop 32 ss) = ap (λ (j : ℕ). drop 32 (take j ss)) (sym rest) ∙ front_end 32 (m - 32) ss in
    rw (first, behind, rows_of_front k s n (m - 32) (drop 32 ss) (omega arith))

-- a part of the bytes is that of every row
rows_part : (k s n d m : ℕ) (ss : List ℕ) → d + m ≤ n → take m (drop d (rows_joined k s n ss)) ≡ rows_joined k (s + d) m ss
unfolding rows_joined
rows_part zero s n d m ss h = ap (λ (l : List ℕ). take m l) (drop-zeros d n (n - d) (omega arith)) ∙ take-zeros m (n - d) (omega arith)
rows_part (suc k) s n d m ss h =
    let row = expand_from s n (take 32 ss) in
    let rest = rows_joined k s n (drop 32 ss) in
    rw (drop-xors d row rest, take-xors m (drop d row) (drop d rest), part_of_from s n d m (take 32 ss) h, rows_part k s n d m (drop 32 ss) h)

-- so these are stretches
pub of_rows : (k : ℕ) (ss : List ℕ) → Stretched (λ s n. rows_joined k s n ss)
of_rows k ss = record { long = λ s n. (word_rows k s n ss).long; part = λ s n d m h. rows_part k s n d m ss h }

-- where the loop begins, and a turn of it
pub rows_start : (s n : ℕ) (ss xs : List ℕ) → length xs ≡ n → bytes_good xs ≡ true → xs ≡ xors xs (rows_joined 0 s n ss)
unfolding rows_joined
rows_start s n ss xs long good = sym (xors_zeros_right n xs (record { long = long; good = good }))

pub rows_turn : (k s n : ℕ) (ss xs : List ℕ) {out new row : List ℕ} → out ≡ xors xs (rows_joined k s n ss) →
    row ≡ expand_from s n (take 32 (drop (32 * k) ss)) → new ≡ xors out row →
    new ≡ xors xs (rows_joined (k + 1) s n ss)
rows_turn k s n ss xs {out} {new} {row} so_far row_is is =
    is ∙ rw (so_far, row_is, add-one, rows_snoc k s n ss) (xors_assoc xs (rows_joined k s n ss) (expand_from s n (take 32 (drop (32 * k) ss))))
