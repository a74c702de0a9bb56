-- A tally's numbers: what is known where none of 1, 2, 4, 11 and 9 fits, and of the keys that are the tally's. Assumes nothing.
use mathlib.Core.Path.{◌≡◌, sym}
use mathlib.Core.Bool.{Bool, true, ◌&&◌}
use mathlib.Core.List.{List}
use Prim.Native.Nat.{ℕ, ◌*◌, ◌≤◌, ◌<◌}
use native.Mathlib.Omega.{arith}
use borrow.Author.Tests.{eqb-true, leb-false, ltb-false}
use lib.Dec.{leb, ltb, eqb}
use lib.ListN.{length, take}
use lib.Seq.{length-take-le}
use Rattle.xor.proofs.Laws.{and_left, and_right}
use Rattle.grid.specs.Grid.{Board}
use Rattle.grid.proofs.Refusing.{passed as passed_test}
use Rattle.keys.proofs.Accepted.{passed, neither}
use Rattle.call_answers.specs.Answers.{width_refusal}
use Rattle.call_answers.proofs.Numbers.{sizes_most}
use Rattle.tally.specs.Tallies.{tally_long, tally_refusal, takes}
use Rattle.tally.specs.declared.Tally.{Tally}

module _ (t : Tally) where
  abbrev sizes : ℕ
  sizes = width_refusal t.players t.positions t.value_bytes

  module _ (room : ℕ) where
    -- what is left where none fits
    pub tally_fits : tally_refusal t room ≡ 0 → (sizes ≡ 0) × (t.player < t.players) × (tally_long t ≤ room)
    unfolding tally_refusal
    tally_fits h =
        let numbers = neither sizes _ h in
        let own = passed (leb t.players t.player) 11 _ (λ s e. omega arith) numbers.1 in
        let long = passed (ltb room (tally_long t)) 9 0 (λ s e. omega arith) own.1 in
        (numbers.0, leb-false t.players t.player own.0, ltb-false room (tally_long t) long.0)

    -- so the table is short, and is lent
    pub tally_small : 0 ≡ tally_refusal t room → (t.positions * t.value_bytes ≤ 1048576) × (t.positions * t.value_bytes ≤ room)
    unfolding tally_long
    tally_small e =
        let fits = tally_fits (sym e) in ((sizes_most t.players t.positions t.value_bytes fits.0).2, fits.2)

  -- and so many bytes of what is lent are its table
  pub tally_lent : (lent : List ℕ) (long : ℕ) → long ≡ tally_long t → 0 ≡ tally_refusal t (length lent)
      → (long ≤ length lent) × (length (take long lent) ≡ long)
  tally_lent lent long is none =
      let fits : long ≤ length lent = omega (arith, (tally_fits (length lent) (sym none)).2) in (fits, length-take-le long lent fits)

-- WHICH KEYS ARE ITS OWN

module _ (t : Tally) (b : Board) (i : ℕ) where
  pub taken : takes t b i ≡ true → (b.p ≡ t.players) × (i ≡ t.player) × (b.n ≡ t.positions) × (b.w ≡ t.value_bytes)
  unfolding takes
  taken h =
      let p = eqb b.p t.players in
      let player = eqb i t.player in
      let n = eqb b.n t.positions in
      let w = eqb b.w t.value_bytes in
      let left = and_left (p && player) (n && w) h in
      let right = and_right (p && player) (n && w) h in (
        eqb-true b.p t.players (and_left p player left),
        eqb-true i t.player (and_right p player left),
        eqb-true b.n t.positions (and_left n w right),
        eqb-true b.w t.value_bytes (and_right n w right),
      )

  -- a test that the code makes by a call: the key's table has the tally's length
  pub taken_long : (fits : Bool) → fits ≡ takes t b i → fits ≡ true → tally_long t ≡ b.n * b.w
  unfolding tally_long
  taken_long fits e own = let same = taken (passed_test e own) in rw (same.2, same.3)
