-- Hosts that reply again, of which one has a call more.
use Rattle.std.specs.Prelude.{◌≡◌, ℕ, List, [], ◌∷◌, ◌++◌, length, slice_get, Some}
use Rattle.c_hosts.specs.declared.journal.Asked.{Asked}
use Rattle.host_replay.specs.declared.replay.ReplayHost.{ReplayHost}
use Rattle.host_replay.specs.Replaying.{calls_of}

-- the same host, with these calls behind its own
pub record HasMore (before : ReplayHost) (more : List Asked) (after : ReplayHost) : Type 0 where
  pub name : after.name ≡ before.name
  pub functions : after.functions.items ≡ before.functions.items
  pub entries : after.entries.items ≡ before.entries.items ++ more
  pub used : after.used ≡ before.used

-- the host of the call's module has the call behind its own, and the others stand as they stood
pub record IsGiven (before : List ReplayHost) (a : Asked) (after : List ReplayHost) : Type 0 where
  pub so_many : length after ≡ length before
  pub each : (k : ℕ) (old new : ReplayHost) → slice_get before k ≡ Some old → slice_get after k ≡ Some new
      → HasMore old (calls_of k (a ∷ [])) new
