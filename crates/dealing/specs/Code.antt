-- What a dealing of the code is in document 03's words. Assumes nothing: these are definitions.
use Rattle.keys.specs.Keys.{Lent, lent}
use Rattle.dealing.specs.declared.Dealing as code

-- what Deal is lent
abbrev pub lent_of : code.Dealing → Lent
lent_of d = lent d.point d.value.now d.arrays.now d.seeds.now d.words.now
