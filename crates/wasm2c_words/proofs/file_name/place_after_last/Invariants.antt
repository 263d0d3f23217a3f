use Rattle.std.proofs.Common.{◌≡◌, ℕ, ◌<◌, ◌≤◌, length, get_or}
use Rattle.wasm2c_words.proofs.file_name.place_after_last.Given as goal

-- no such byte stands from the place on
abbrev pub invariant-loop-place : goal.invariant-loop-place
invariant-loop-place l = record {
  within : l.place ≤ length l.bytes;
  none_behind : (k : ℕ) → l.place ≤ k → k < length l.bytes → get_or l.bytes k 0 ≡ l.wanted → ⊥;
}

abbrev pub decreases-loop-place : goal.decreases-loop-place
decreases-loop-place l = l.place
