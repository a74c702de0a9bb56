-- Each part is what its reader answers.
use Rattle.test_case_file.proofs.Head.read.Goals as goal

pub returns : goal.returns
returns c =
    rw (
      c.byte.ensures,
      c.byte-2.ensures,
      c.byte-3.ensures,
      c.byte-4.ensures,
      c.five_numbers_at.ensures,
      c.five_numbers_at-2.ensures,
      c.four_numbers_at.ensures,
      c.number_at.ensures,
      c.number_at-2.ensures,
    )
