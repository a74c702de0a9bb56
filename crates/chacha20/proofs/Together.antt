-- Four quarter rounds line by line together are the four one after another: they touch different words. Shown on a state written out word by
-- word, on which both compute to the same. Assumes nothing.
use Rattle.std.proofs.Common.{◌≡◌, ℕ, zero, suc, ◌+◌, List, [], ◌∷◌, length, get_or, drop, sym, refl, subst, arith, drop_of_length-le, drop-cons}
use Rattle.chacha20.specs.Expand.{at, mixed, quarter, double_round}
use Rattle.chacha20.specs.Lines.{odd_lines, even_lines}
use Rattle.chacha20.proofs.Stream.{length-quarter}

-- k words from i on, written out
unfoldable pub listed : (k i : ℕ) → List ℕ → List ℕ
listed zero i xs = []
listed (suc k) i xs = get_or xs i 0 ∷ listed k (suc i) xs

listed_is : (k i : ℕ) (xs : List ℕ) → length xs ≡ i + k → drop i xs ≡ listed k i xs
unfolding listed
listed_is zero i xs h = drop_of_length-le xs {i = i} (omega arith)
listed_is (suc k) i xs h = rw (drop-cons xs i 0 (omega arith), listed_is k (suc i) xs (omega arith))

four_lines : (ps qs rs ss : List ℕ) → List ℕ → List ℕ
four_lines ps qs rs ss xs = even_lines ps qs rs ss 7 (odd_lines ps qs rs ss 8 (even_lines ps qs rs ss 12 (odd_lines ps qs rs ss 16 xs)))

columns_listed : (a b c d e f g h i j k l m n o p : ℕ) →
    four_lines (0 ∷ 4 ∷ 8 ∷ 12 ∷ []) (1 ∷ 5 ∷ 9 ∷ 13 ∷ []) (2 ∷ 6 ∷ 10 ∷ 14 ∷ []) (3 ∷ 7 ∷ 11 ∷ 15 ∷ [])
    (a ∷ b ∷ c ∷ d ∷ e ∷ f ∷ g ∷ h ∷ i ∷ j ∷ k ∷ l ∷ m ∷ n ∷ o ∷ p ∷ []) ≡
    quarter 3 7 11 15 (quarter 2 6 10 14 (quarter 1 5 9 13 (quarter 0 4 8 12
    (a ∷ b ∷ c ∷ d ∷ e ∷ f ∷ g ∷ h ∷ i ∷ j ∷ k ∷ l ∷ m ∷ n ∷ o ∷ p ∷ []))))
unfolding four_lines odd_lines even_lines quarter mixed at
columns_listed a b c d e f g h i j k l m n o p = refl

diagonals_listed : (a b c d e f g h i j k l m n o p : ℕ) →
    four_lines (0 ∷ 5 ∷ 10 ∷ 15 ∷ []) (1 ∷ 6 ∷ 11 ∷ 12 ∷ []) (2 ∷ 7 ∷ 8 ∷ 13 ∷ []) (3 ∷ 4 ∷ 9 ∷ 14 ∷ [])
    (a ∷ b ∷ c ∷ d ∷ e ∷ f ∷ g ∷ h ∷ i ∷ j ∷ k ∷ l ∷ m ∷ n ∷ o ∷ p ∷ []) ≡
    quarter 3 4 9 14 (quarter 2 7 8 13 (quarter 1 6 11 12 (quarter 0 5 10 15
    (a ∷ b ∷ c ∷ d ∷ e ∷ f ∷ g ∷ h ∷ i ∷ j ∷ k ∷ l ∷ m ∷ n ∷ o ∷ p ∷ []))))
unfolding four_lines odd_lines even_lines quarter mixed at
diagonals_listed a b c d e f g h i j k l m n o p = refl

-- a state made anew of its words
pub word_by_word : (xs : List ℕ) → length xs ≡ 16 → listed 16 0 xs ≡ xs
word_by_word xs h = sym (listed_is 16 0 xs h)

-- what holds of a state written out holds of every state
written_out : (f g : List ℕ → List ℕ) (xs : List ℕ) → length xs ≡ 16 → f (listed 16 0 xs) ≡ g (listed 16 0 xs) → f xs ≡ g xs
written_out f g xs h same = subst (λ (l : List ℕ). f l ≡ g l) (sym (listed_is 16 0 xs h)) same

columns : (xs : List ℕ) → length xs ≡ 16 →
    four_lines (0 ∷ 4 ∷ 8 ∷ 12 ∷ []) (1 ∷ 5 ∷ 9 ∷ 13 ∷ []) (2 ∷ 6 ∷ 10 ∷ 14 ∷ []) (3 ∷ 7 ∷ 11 ∷ 15 ∷ []) xs ≡
    quarter 3 7 11 15 (quarter 2 6 10 14 (quarter 1 5 9 13 (quarter 0 4 8 12 xs)))
unfolding listed
columns xs h =
    written_out (λ l. four_lines (0 ∷ 4 ∷ 8 ∷ 12 ∷ []) (1 ∷ 5 ∷ 9 ∷ 13 ∷ []) (2 ∷ 6 ∷ 10 ∷ 14 ∷ []) (3 ∷ 7 ∷ 11 ∷ 15 ∷ []) l)
    (λ l. quarter 3 7 11 15 (quarter 2 6 10 14 (quarter 1 5 9 13 (quarter 0 4 8 12 l)))) xs h
    (columns_listed _ _ _ _ _ _ _ _ _ _ _ _ _ _ _ _)

diagonals : (xs : List ℕ) → length xs ≡ 16 →
    four_lines (0 ∷ 5 ∷ 10 ∷ 15 ∷ []) (1 ∷ 6 ∷ 11 ∷ 12 ∷ []) (2 ∷ 7 ∷ 8 ∷ 13 ∷ []) (3 ∷ 4 ∷ 9 ∷ 14 ∷ []) xs ≡
    quarter 3 4 9 14 (quarter 2 7 8 13 (quarter 1 6 11 12 (quarter 0 5 10 15 xs)))
unfolding listed
diagonals xs h =
    written_out (λ l. four_lines (0 ∷ 5 ∷ 10 ∷ 15 ∷ []) (1 ∷ 6 ∷ 11 ∷ 12 ∷ []) (2 ∷ 7 ∷ 8 ∷ 13 ∷ []) (3 ∷ 4 ∷ 9 ∷ 14 ∷ []) l)
    (λ l. quarter 3 4 9 14 (quarter 2 7 8 13 (quarter 1 6 11 12 (quarter 0 5 10 15 l)))) xs h
    (diagonals_listed _ _ _ _ _ _ _ _ _ _ _ _ _ _ _ _)

-- FOUR HALF STEPS are a line of four quarter rounds

module _ (ps qs rs ss : List ℕ) (n : ℕ) (x x₁ x₂ x₃ x₄ : List ℕ) where
  pub odd_steps : x₁ ≡ mixed (at ps 0) (at ps 1) (at ps 3) n x → x₂ ≡ mixed (at qs 0) (at qs 1) (at qs 3) n x₁ →
      x₃ ≡ mixed (at rs 0) (at rs 1) (at rs 3) n x₂ → x₄ ≡ mixed (at ss 0) (at ss 1) (at ss 3) n x₃ → x₄ ≡ odd_lines ps qs rs ss n x
  unfolding odd_lines
  odd_steps p₁ p₂ p₃ p₄ = rw (p₄, p₃, p₂, p₁)

  pub even_steps : x₁ ≡ mixed (at ps 2) (at ps 3) (at ps 1) n x → x₂ ≡ mixed (at qs 2) (at qs 3) (at qs 1) n x₁ →
      x₃ ≡ mixed (at rs 2) (at rs 3) (at rs 1) n x₂ → x₄ ≡ mixed (at ss 2) (at ss 3) (at ss 1) n x₃ → x₄ ≡ even_lines ps qs rs ss n x
  unfolding even_lines
  even_steps p₁ p₂ p₃ p₄ = rw (p₄, p₃, p₂, p₁)

-- EIGHT LINES are a double round
pub eight_lines : (s s₁ s₂ s₃ s₄ s₅ s₆ s₇ s₈ : List ℕ) → length s ≡ 16 →
    s₁ ≡ odd_lines (0 ∷ 4 ∷ 8 ∷ 12 ∷ []) (1 ∷ 5 ∷ 9 ∷ 13 ∷ []) (2 ∷ 6 ∷ 10 ∷ 14 ∷ []) (3 ∷ 7 ∷ 11 ∷ 15 ∷ []) 16 s →
    s₂ ≡ even_lines (0 ∷ 4 ∷ 8 ∷ 12 ∷ []) (1 ∷ 5 ∷ 9 ∷ 13 ∷ []) (2 ∷ 6 ∷ 10 ∷ 14 ∷ []) (3 ∷ 7 ∷ 11 ∷ 15 ∷ []) 12 s₁ →
    s₃ ≡ odd_lines (0 ∷ 4 ∷ 8 ∷ 12 ∷ []) (1 ∷ 5 ∷ 9 ∷ 13 ∷ []) (2 ∷ 6 ∷ 10 ∷ 14 ∷ []) (3 ∷ 7 ∷ 11 ∷ 15 ∷ []) 8 s₂ →
    s₄ ≡ even_lines (0 ∷ 4 ∷ 8 ∷ 12 ∷ []) (1 ∷ 5 ∷ 9 ∷ 13 ∷ []) (2 ∷ 6 ∷ 10 ∷ 14 ∷ []) (3 ∷ 7 ∷ 11 ∷ 15 ∷ []) 7 s₃ →
    s₅ ≡ odd_lines (0 ∷ 5 ∷ 10 ∷ 15 ∷ []) (1 ∷ 6 ∷ 11 ∷ 12 ∷ []) (2 ∷ 7 ∷ 8 ∷ 13 ∷ []) (3 ∷ 4 ∷ 9 ∷ 14 ∷ []) 16 s₄ →
    s₆ ≡ even_lines (0 ∷ 5 ∷ 10 ∷ 15 ∷ []) (1 ∷ 6 ∷ 11 ∷ 12 ∷ []) (2 ∷ 7 ∷ 8 ∷ 13 ∷ []) (3 ∷ 4 ∷ 9 ∷ 14 ∷ []) 12 s₅ →
    s₇ ≡ odd_lines (0 ∷ 5 ∷ 10 ∷ 15 ∷ []) (1 ∷ 6 ∷ 11 ∷ 12 ∷ []) (2 ∷ 7 ∷ 8 ∷ 13 ∷ []) (3 ∷ 4 ∷ 9 ∷ 14 ∷ []) 8 s₆ →
    s₈ ≡ even_lines (0 ∷ 5 ∷ 10 ∷ 15 ∷ []) (1 ∷ 6 ∷ 11 ∷ 12 ∷ []) (2 ∷ 7 ∷ 8 ∷ 13 ∷ []) (3 ∷ 4 ∷ 9 ∷ 14 ∷ []) 7 s₇ →
    s₈ ≡ double_round s
unfolding four_lines double_round
eight_lines s s₁ s₂ s₃ s₄ s₅ s₆ s₇ s₈ h p₁ p₂ p₃ p₄ p₅ p₆ p₇ p₈ =
    let four : s₄ ≡ quarter 3 7 11 15 (quarter 2 6 10 14 (quarter 1 5 9 13 (quarter 0 4 8 12 s))) = rw (p₄, p₃, p₂, p₁) (columns s h) in
    let long : length s₄ ≡ 16 = rw four (simp length-quarter h) in
    let all : s₈ ≡ quarter 3 4 9 14 (quarter 2 7 8 13 (quarter 1 6 11 12 (quarter 0 5 10 15 s₄))) = rw (p₈, p₇, p₆, p₅) (diagonals s₄ long) in
    rw (all, four)
