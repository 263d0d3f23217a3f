-- Hosts that reply again what a journal says of its modules.
use Rattle.std.specs.Prelude.{◌≡◌, ℕ, List, [], ◌∷◌, length, map, slice_get, Some}
use Rattle.c_hosts.specs.Asking.{function_of}
use Rattle.c_hosts.specs.declared.host.HostModule.{Ghosts as HostModule}
use Rattle.host_replay.specs.declared.replay.ReplayHost.{ReplayHost}
use Rattle.host_replay.specs.Replaying.{calls_of, Replays}
use Rattle.host_replay.specs.Texts.{Recorded}

-- such a host as a host module: its state is how many of its calls are used up
abbrev pub replaying : HostModule ReplayHost
replaying = record {
  name_of = λ h. h.name;
  functions_of = λ h. h.functions.items;
  state = λ h. h.used ∷ [];
  may = λ h. Replays h.entries.items;
}

-- it has the name, the functions and the calls of the module with this number, and none of these is used up
pub record IsReplayOf (j : Recorded) (k : ℕ) (r : ReplayHost) : Type 0 where
  pub module_is : slice_get j.hosts k ≡ Some (record { name = r.name; functions = map function_of r.functions.items })
  pub calls_are : r.entries.items ≡ calls_of k j.entries
  pub unused : r.used ≡ 0

-- one for each module of the journal, in order
pub record AreReplays (j : Recorded) (hosts : List ReplayHost) : Type 0 where
  pub so_many : length hosts ≡ length j.hosts
  pub each : (k : ℕ) (r : ReplayHost) → slice_get hosts k ≡ Some r → IsReplayOf j k r
