-- OF THE CALLS THEMSELVES, with expansion as the rule, from their contracts alone. The statements are those of Calls.antt;
-- proofs/OfTheCalls.antt has the term. Quotations are document 01's. Assumes nothing.
unfoldable pub use Rattle.promises.specs.Calls.{DealsOpen, DealsDrawn, AcceptedOpens, OpensAgree, JoinsAgree}

pub record OfTheCalls : Type 0 where
  -- "Deal's p × K bytes, cut after every K, each key given to Open all"
  pub deals_open : DealsOpen
  -- the dealing that hiding speaks of is the one whose keys Deal wrote
  pub deals_drawn : DealsDrawn
  -- "and any accepted key given to Open all and Open one, where 9 doesn't refuse"
  pub accepted_opens : AcceptedOpens
  pub opens_agree : OpensAgree
  -- Join keys is Open all of each key, and XOR
  pub joins_agree : JoinsAgree
