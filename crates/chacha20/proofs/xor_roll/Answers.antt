-- `chacha20::xor_roll` meets its contract: the library's roll is, of less than a word's bits, two shifts and an or, and so the roll of an XOR.
-- Assumes nothing.
use Rattle.std.proofs.Common.{rules, arith, ◌≡◌, ◌%◌, ◌-◌, ◌∙◌}
use Rattle.chacha20.proofs.Words.{xor_rolled}
use Rattle.chacha20.proofs.xor_roll.Goals as goal

pub returns : goal.returns
returns c =
    let roll : c.args.roll % 32 ≡ c.args.roll = omega (arith, c.requires.1) in
    let rest : (32 - c.args.roll) % 32 ≡ 32 - c.args.roll = omega (arith, c.requires.0) in
    c.rotate_left.ensures ∙ rw (roll, rest) (xor_rolled c.args.word c.args.sum c.args.roll c.ranges.word.fits c.ranges.sum.fits (search rules))
