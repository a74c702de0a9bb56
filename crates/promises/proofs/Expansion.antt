-- EXPANSION FROM A STARTING BYTE of specs/Expansion.antt, kept. Assumes nothing.
use mathlib.Core.Path.{◌≡◌, sym, ◌∙◌}
use mathlib.Core.List.{List}
use Prim.Native.Nat.{ℕ}
use native.Mathlib.Omega.{arith}
use native.Mathlib.Nat.{zero-add}
use lib.ListN.{length}
use Rattle.writer.proofs.Laws.{in_front_whole}
use Rattle.chacha20.specs.From.{expand_from}
use Rattle.chacha20.proofs.Stream.{from_zero, from_within, word_from}
use Rattle.call_answers.specs.Answers.{expand_refusal, ExpandSays}
use Rattle.call_answers.specs.AsWritten.{ExpandWritten}
use Rattle.call_answers.proofs.Putting.{answer_is, put}
use Rattle.promises.specs.Expansion.{StartOf0, FillsFromStart, Expansion}

module _ (seed : List ℕ) (s r : ℕ) (out out_now : List ℕ) where
  as_before : ExpandSays seed s r out out_now → s ≡ 0 → ExpandWritten seed r out out_now
  unfolding ExpandSays expand_refusal ExpandWritten
  as_before says start = rw (start, zero-add (length out), from_zero (length out) seed) at says

  as_now : ExpandWritten seed r out out_now → s ≡ 0 → ExpandSays seed s r out out_now
  unfolding ExpandSays expand_refusal ExpandWritten
  as_now says start = rw (start, zero-add (length out), from_zero (length out) seed) says

start_of_0 : StartOf0
unfolding StartOf0
start_of_0 seed r out out_now = (λ says. as_before seed _ r out out_now says (omega arith), λ says. as_now seed _ r out out_now says (omega arith))

fills_from_start : FillsFromStart
unfolding FillsFromStart ExpandSays
fills_from_start seed s long out out_now says within =
    let bytes = expand_from s (length out) seed in
    let accepted = sym (answer_is (expand_refusal (length seed) s (length out)) bytes 0 out out_now says) in
    put _ bytes 0 out out_now says accepted ∙ in_front_whole bytes out (word_from s (length out) seed).long ∙ from_within s (length out) long seed within

pub expansion : Expansion
expansion = record { start_of_0 = start_of_0; fills_from_start = fills_from_start }
