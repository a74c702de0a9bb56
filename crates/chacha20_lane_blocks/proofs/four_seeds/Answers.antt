-- `chacha20_lane_blocks::four_seeds` meets its contract. Four states, one of each seed, and their blocks. Assumes nothing.
use Rattle.std.proofs.Common.{◌≡◌, ◌*◌, ◌/◌, List, ℕ, [], length, get_or, take, drop, ap, ◌∙◌, arith}
use Rattle.xor.proofs.Chunks.{chunk_at}
use Rattle.chacha20.specs.Expand.{seed_state}
use Rattle.chacha20_lanes.proofs.Laid.{four_seeds}
use Rattle.chacha20_lane_blocks.proofs.four_seeds.Goals as goal

pub returns : goal.returns
returns c =
    let a = c.args in
    let seeds = a.seeds.now in
    let cut = c.as_chunks in
    let opened = c.four_lanes-initial.ensures in
    four_seeds a.counter seeds _ _ (
      opened.0,
      λ l h.
          let seed : get_or cut.result.0.now l [] ≡ take 32 (drop (32 * l) seeds) =
          rw cut.ensures.front (chunk_at 32 (length seeds / 32) l seeds (omega arith)) in
          ◌∙◌ {b = seed_state (get_or cut.result.0.now l []) a.counter} (opened.1 l h) (ap (λ (s : List ℕ). seed_state s a.counter) seed),
    )
    c.blocks_beside.ensures
