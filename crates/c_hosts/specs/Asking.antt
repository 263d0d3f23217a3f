-- Hosts that are asked: which functions they offer, and what their answers leave behind.
use Rattle.std.specs.Prelude.{◌≡◌, ◌↔◌, ℕ, List, [], ◌∷◌, map, set, slice_get, Option, Some, true}
use Rattle.w2c_base.specs.declared.value.Value.{Value}
use Rattle.w2c_base.specs.Lookup.{if_found}
use Rattle.w2c_base.specs.Run.{Host}
use Rattle.w2c_base.specs.Run as run
use Rattle.w2c_base.specs.Values.{equal_types, types_of}
use Rattle.c_thread.specs.declared.linked.HostCall.{HostCall}
use Rattle.c_hosts.specs.declared.host.HostFunction.{HostFunction}
use Rattle.c_hosts.specs.declared.host.HostModule.{Ghosts as HostModule}
use Rattle.c_meaning.specs.declared.reply.HostReply.{HostReply}
use Rattle.c_hosts.specs.declared.journal.Asked.{Asked}

-- what units see of hosts: their names and functions
abbrev pub function_of : HostFunction → run.HostFunction
function_of f = record { name = f.name; ty = f.ty }

abbrev pub host_of : {H : Type 0} → HostModule H → H → Host
host_of m h = record { name = m.name_of h; functions = map function_of (m.functions_of h) }

abbrev pub hosts_of : {H : Type 0} → HostModule H → List H → List Host
hosts_of m hosts = map (host_of m) hosts

-- the function that a call names, by number from 0
abbrev pub offered : {H : Type 0} → HostModule H → List H → HostCall → Option HostFunction
offered m hosts call = if_found (slice_get hosts call.host) (λ h. slice_get (m.functions_of h) call.function)

-- the hosts have the function, and it takes arguments of these types
abbrev pub IsOffered : {H : Type 0} → HostModule H → List H → HostCall → HostFunction → Type 0
IsOffered m hosts call f = (offered m hosts call ≡ Some f) × (equal_types f.ty.params (types_of call.args.items) ≡ true)

-- what never changes of a host
pub record Keeps {H : Type 0} (m : HostModule H) (before after : H) : Type 0 where
  pub name : m.name_of after ≡ m.name_of before
  pub functions : m.functions_of after ≡ m.functions_of before
  pub may : (state : List ℕ) (k : ℕ) (args : List Value) (reply : HostReply) (next : List ℕ)
      → m.may after state k args reply next ↔ m.may before state k args reply next

-- a host has answered so, as it may, and the other hosts stand as they stood
pub record Answers {H : Type 0} (m : HostModule H) (before : List H) (a : Asked) (after : List H) : Type 0 where
  pub old : H
  pub new : H
  pub old_is : slice_get before a.host ≡ Some old
  pub new_is : after ≡ set before a.host new
  pub may : m.may old (m.state old) a.function a.args a.reply (m.state new)
  pub keeps : Keeps m old new

-- hosts have answered these asks in turn
abbrev pub Answered : {H : Type 0} → HostModule H → List H → List Asked → List H → Type 0
Answered m before [] after = after ≡ before
Answered {H} m before (a ∷ asks) after = (middle : List H) × Answers m before a middle × Answered m middle asks after
