-- CHOOSE WIDTH, beside its contract. proofs/ChooseWidth.antt has the term. Quotations are document 02's, (vi). Assumes
-- nothing.
unfoldable pub use Rattle.key_width.specs.Width.{WidthIsShortest}

pub record ChooseWidth : Type 0 where
  -- "the μ, among those with at most 256 grid rows, whose K is least, the smaller μ when two tie", and no board is
  -- refused at it
  pub width_is_shortest : WidthIsShortest
