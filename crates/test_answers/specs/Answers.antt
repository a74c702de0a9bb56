-- When a call's answer is what its case says. Quotations are those of reference/FORMAT.md. Assumes nothing: these are definitions.
use Rattle.std.specs.Prelude.{◌≡◌, List, ◌++◌, ℕ, ◌-◌, length, replicate}
use Rattle.test_case_file.specs.declared.Head.{Head}
use Rattle.test_answers.specs.declared.Answered.{Answered}

-- "the refusal number, 0 when accepted", and "five numbers that come out"
abbrev pub SameNumbers : Head → Answered → Type 0
SameNumbers head got = (got.refusal ≡ head.refusal) × (got.numbers ≡ head.results)

-- "After the call the lent output is: the answer's bytes, then the fill up to its length."
abbrev pub Left : (answer : List ℕ) → (fill : ℕ) → (lent : List ℕ) → Type 0
Left answer fill lent = lent ≡ answer ++ replicate (length lent - length answer) fill
