-- Words in chunks: what the next one is, what is behind it, and when none is left. Assumes nothing.
use mathlib.Core.Path.{◌≡◌, sym, ap, ◌∙◌}
use mathlib.Core.List.{List, ◌++◌}
use Prim.Native.Nat.{ℕ, suc, ◌+◌, ◌*◌, ◌-◌, ◌/◌, ◌≤◌, ◌<◌}
use native.Mathlib.Nat.{le-div_iff_mul-le, div-lt_iff_lt-mul}
use native.Mathlib.Omega.{arith}
use lib.ListN.{length, take, drop, length-drop, length-append}
use lib.Seq.{drop-drop, take_at, drop_at}
use Rattle.open_grid_row.specs.Shares.{stretch}
use Rattle.open_grid_row.proofs.Stretches.{stretch_within}

module _ (ws : List ℕ) (l j : ℕ) (some : 0 < l) (rest : List ℕ) (is : rest ≡ drop (j * l) ws) where
  -- behind the last whole word
  pub none_left : length rest < l → length ws / l ≤ j
  none_left short =
      let long : length rest ≡ length ws - j * l = ap length is ∙ length-drop (j * l) ws in
      let past : length ws / l < suc j = (div-lt_iff_lt-mul {k = l} {x = length ws} {y = suc j} some).1 (omega arith) in
      omega arith

  module _ (word behind : List ℕ) (cut : rest ≡ word ++ behind) (long : length word ≡ l) (begun : j * l ≤ length ws) where
    pub word_ends : (j + 1) * l ≤ length ws
    word_ends =
        let all : length ws - j * l ≡ length word + length behind = sym (ap length is ∙ length-drop (j * l) ws) ∙ ap length cut ∙ length-append word behind in
        omega arith

    pub word_counts : j < length ws / l
    word_counts =
        let whole = (le-div_iff_mul-le {k = l} {x = suc j} {y = length ws} some).1 (omega (arith, word_ends)) in
        omega (arith, whole)

    pub next_words : behind ≡ drop ((j + 1) * l) ws
    next_words =
        let next : j * l + l ≡ (j + 1) * l = omega arith in
        sym (drop_at word behind l long) ∙ ap (drop l) (sym cut ∙ is) ∙ drop-drop l (j * l) ws ∙ ap (λ (n : ℕ). drop n ws) next

    pub word_stretch : (s n : ℕ) → s + n ≤ l → take n (drop s word) ≡ stretch (j * l + s) n ws
    unfolding stretch
    word_stretch s n within =
        let first : word ≡ take l (drop (j * l) ws) = sym (take_at word behind l long) ∙ ap (take l) (sym cut ∙ is) in
        let place : j * l + s ≡ j * l + s = omega arith in
        rw first (stretch_within s n l (drop (j * l) ws) within) ∙ ap (take n) (drop-drop s (j * l) ws)
