use Rattle.std.proofs.Common.{◌≡◌, ℕ, ◌-◌, ◌≤◌, false, length, slice_index_or}
use Rattle.c_trim.proofs.reach.none_reached.Given as goal

abbrev pub invariant-loop-flags : goal.invariant-loop-flags
invariant-loop-flags l = record {
  within : length l.flags.items ≤ length l.items;
  none : (j : ℕ) → slice_index_or l.flags.items j false ≡ false;
}

abbrev pub decreases-loop-flags : goal.decreases-loop-flags
decreases-loop-flags l = length l.items - length l.flags.items
