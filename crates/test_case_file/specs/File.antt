-- The numbers of the file of cases, and what stands where in a case's head. Quotations are those of reference/FORMAT.md. Assumes nothing:
-- these are definitions.
use Rattle.std.specs.Prelude.{cond, List, [], ◌∷◌, ℕ, ◌+◌, ◌*◌, ◌==◌, get_or, drop, sum}
use Rattle.test_case_file.specs.declared.Head.{Head}

-- "All numbers are 32 bits, little-endian, unsigned."
abbrev pub number_in : List ℕ → ℕ
number_in bs = get_or bs 0 0 + 256 * get_or bs 1 0 + 65536 * get_or bs 2 0 + 16777216 * get_or bs 3 0

-- the number that stands at a place
abbrev pub number_at : List ℕ → (at : ℕ) → ℕ
number_at bs at = number_in (drop at bs)

-- four numbers from a place on
abbrev pub four_numbers_at : List ℕ → (at : ℕ) → List ℕ
four_numbers_at bs at = number_at bs at ∷ number_at bs (at + 4) ∷ number_at bs (at + 8) ∷ number_at bs (at + 12) ∷ []

-- five of them
abbrev pub five_numbers_at : List ℕ → (at : ℕ) → List ℕ
five_numbers_at bs at = number_at bs at ∷ four_numbers_at bs (at + 4)

-- A CASE'S HEAD: operation, refusal, fill and whether the inputs are kept, a byte each; then five numbers that go in, five that come out, four
-- lengths of inputs, that of the lent output, and that of the answer
abbrev pub case_head : List ℕ → Head
case_head bs = record {
  operation = get_or bs 0 0;
  refusal = get_or bs 1 0;
  fill = get_or bs 2 0;
  kept = get_or bs 3 0 == 1;
  numbers = five_numbers_at bs 4;
  results = five_numbers_at bs 24;
  inputs = four_numbers_at bs 44;
  lent = number_at bs 60;
  answer = number_at bs 64;
}

-- where a case's inputs begin: those of the case before, where they are kept, or what stands behind the head
abbrev pub inputs_from : Head → (before rest : List ℕ) → List ℕ
inputs_from h before rest = cond h.kept before (drop 68 rest)

-- what stands behind the head and the inputs, which follow it where they are not kept
abbrev pub behind_inputs : Head → (rest : List ℕ) → List ℕ
behind_inputs h rest = cond h.kept (drop 68 rest) (drop (sum h.inputs) (drop 68 rest))
