-- A list is its front and what is behind that.
use Rattle.std.proofs.Common.{◌≡◌, ℕ, ◌+◌, ◌-◌, List, ◌++◌, length, take, drop, replicate, arith, sym, ◌∙◌, ap}
use Rattle.std.proofs.lemmas.List.{take-append-drop}
use Rattle.std.specs.Cmp.Lexicographic.{same_text}
use Rattle.test_answers.specs.Answers.{Left}
use Rattle.test_answers.proofs.left.Goals as goal

whole : (lent answer rest : List ℕ) (filler : ℕ) → take (length answer) lent ≡ answer → rest ≡ drop (length answer) lent
    → length rest + length answer ≡ length lent → rest ≡ replicate (length rest) filler → Left answer filler lent
whole lent answer rest filler front behind long full =
    let many : length rest ≡ length lent - length answer = omega arith in
    sym (take-append-drop (length answer) lent) ∙ ap (λ a. a ++ drop (length answer) lent) front
    ∙ ap (λ b. answer ++ b) (sym behind ∙ full ∙ ap (λ n. replicate n filler) many)

pub returns-in-Some : goal.returns-in-Some
returns-in-Some c told =
    let cut = c.in-Some.ensures.cases in
    whole _ _ _ _ (same_text _ _ (sym cut.0)) cut.1 cut.2 (c.filled.ensures told)
