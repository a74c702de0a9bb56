-- CHOOSE WIDTH of specs/ChooseWidth.antt, kept: the term is that of the crate key_width. Assumes nothing.
use Rattle.key_width.proofs.Shortest.{width_is_shortest}
use Rattle.promises.specs.ChooseWidth.{ChooseWidth}

pub choose_width : ChooseWidth
choose_width = record { width_is_shortest = width_is_shortest }
