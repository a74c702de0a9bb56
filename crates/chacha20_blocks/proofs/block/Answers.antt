-- `chacha20_blocks::block` meets its contract. The initial state, the rounds, the sums, their bytes. Assumes nothing.
use Rattle.std.proofs.Common.{◌≡◌, ℕ, List, ap, ◌∙◌}
use Rattle.chacha20.specs.Expand.{rounds, low_bytes}
use Rattle.chacha20.specs.Rfc8439.{initial_state, chacha20_block}
use Rattle.chacha20_blocks.proofs.block.Goals as goal

pub returns : goal.returns
unfolding chacha20_block
returns c =
    let a = c.args in
    let initial : c.initial_state-initial.result ≡ initial_state a.key.now a.counter a.nonce.now = c.initial_state-initial.ensures in
    let rounded = c.twenty_rounds-state.ensures ∙ ap (λ (words : List ℕ). rounds 10 words) initial in
    c.serialize.ensures ∙ ap (λ (words : List ℕ). low_bytes words) (c.add_into.ensures ∙ rw (rounded, initial))
