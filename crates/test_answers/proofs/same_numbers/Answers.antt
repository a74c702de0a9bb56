-- What `==` finds equal is equal. Written out, so that a wrong comparison is refused for its goal, and not as a search ends.
use Rattle.std.proofs.Common.{sym, ◌∙◌}
use Rattle.std.proofs.lemmas.Bool.{and_parts, eqb-true}
use Rattle.std.specs.Cmp.Lexicographic.{same_text}
use Rattle.test_answers.proofs.same_numbers.Goals as goal

pub returns : goal.returns
returns c told =
    let both = and_parts _ _ (sym c.eq.ensures ∙ told) in
    (eqb-true _ _ both.0 ∙ c.from.ensures, same_text _ _ (sym both.1))
