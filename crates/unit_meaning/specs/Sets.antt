-- That the units of a linked set do what its modules do, both ways (WebAssembly Core 1.0, 4.5.4 and
-- 4.5.5; C11, 5.1.2.3).
use Rattle.std.specs.Prelude.{◌≡◌, ◌≢◌, ℕ, ◌+◌, ◌*◌, ◌<◌, ◌≤◌, ◌⊎◌, List, All, map, None}
use Rattle.std.specs.List.{AllByRecursion}
use Rattle.w2c_base.specs.Run.{Reply, Host}
use Rattle.w2c_mangle.specs.declared.symbol.SymbolKind.TheVariants.{Func}
use Rattle.w2c_mangle.specs.Symbols.{export_symbol_of}
use Rattle.wasm_meaning.specs.LinkedSet.{LinkedSet, IsLinked}
use Rattle.wasm_meaning.specs.Execution as exec
use Rattle.wasm_meaning.specs.Run.{ListedCall, Fits, wasm_run}
use Rattle.wasm_meaning.specs.Run as wasm
use Rattle.c_meaning.specs.State.{Place, Undefined, Stuck}
use Rattle.c_meaning.specs.Linking.{Program, SymbolCall, link_refusal}
use Rattle.c_meaning.specs.Run.{CRun, c_run}
use Rattle.c_meaning.specs.Run as c
use Rattle.alike.specs.Alike.{Alike}
use Rattle.body_meaning.specs.Serves.{AreServed}
use Rattle.unit_definition.specs.Items.{items}
use Rattle.unit_definition.specs.Accepted.{IsAccepted}

-- the units of the modules in their order, and the hosts
abbrev pub program_of : LinkedSet → Program
program_of s = record { units = map items s.modules; hosts = s.hosts }

pub record IsAcceptedSet (s : LinkedSet) : Type 0 where
  pub linked : IsLinked s
  pub accepted : AllByRecursion IsAccepted s.modules
  -- hosts' names are bytes, too
  pub host_bytes : AllByRecursion (λ (h : Host). All (λ b. b < 256) h.name) s.hosts

-- ---- runs with one list of calls, by the exports' names and by their symbols

abbrev pub symbol_call : ListedCall → SymbolCall
symbol_call call = record { symbol = export_symbol_of call.module_name Func call.export_name; args = call.args }

abbrev pub c_run_of : Program → List ListedCall → ℕ → List Reply → CRun
c_run_of p calls m replies = c_run p (map symbol_call calls) m replies

-- the calls name exported functions and have arguments of their types
abbrev pub IsListing : LinkedSet → List ListedCall → Type 0
IsListing s calls = AllByRecursion (Fits s) calls

-- With n steps the module's run ends and with 400 n + 400 statements the units' run ends alike, or both
-- are out of steps with n.
abbrev pub Paired : LinkedSet → List ListedCall → List Reply → ℕ → Type 0
Paired s calls replies n =
    Alike s (wasm_run s calls n replies) (c_run_of (program_of s) calls (400 * n + 400) replies)
    ⊎ ((wasm_run s calls n replies).outcome ≡ wasm.Stopped exec.OutOfSteps)
    × ((c_run_of (program_of s) calls n replies).outcome ≡ c.OutOfSteps)

abbrev pub Pairing : LinkedSet → Type 0
Pairing s = (calls : List ListedCall) (replies : List Reply) (n : ℕ) → IsListing s calls → Paired s calls replies n

-- a run of the modules that ends in n steps has a run of the units that ends alike within 400 n + 400
-- statements
abbrev pub Forward : Program → LinkedSet → Type 0
Forward p s = (calls : List ListedCall) (replies : List Reply) (n : ℕ) → IsListing s calls
    → (wasm_run s calls n replies).outcome ≢ wasm.Stopped exec.OutOfSteps
    → (m : ℕ) × (m ≤ 400 * n + 400) × Alike s (wasm_run s calls n replies) (c_run_of p calls m replies)

-- a run of the units that ends in m statements has a run of the modules that ends alike within m steps
abbrev pub Backward : Program → LinkedSet → Type 0
Backward p s = (calls : List ListedCall) (replies : List Reply) (m : ℕ) → IsListing s calls
    → (c_run_of p calls m replies).outcome ≢ c.OutOfSteps
    → (n : ℕ) × (n ≤ m) × Alike s (wasm_run s calls n replies) (c_run_of p calls m replies)

-- no run of the units is undefined or stuck, and none of the modules is stuck
pub record NeverStops (p : Program) (s : LinkedSet) : Type 0 where
  pub never_undefined : (calls : List ListedCall) (replies : List Reply) (m kind : ℕ) (place : Place) → IsListing s calls
      → (c_run_of p calls m replies).outcome ≢ c.Stopped (Undefined kind place)
  pub never_stuck : (calls : List ListedCall) (replies : List Reply) (m : ℕ) → IsListing s calls
      → (c_run_of p calls m replies).outcome ≢ c.Stopped Stuck
  pub modules_never_stuck : (calls : List ListedCall) (replies : List Reply) (n : ℕ) → IsListing s calls
      → (wasm_run s calls n replies).outcome ≢ wasm.Stopped exec.Stuck

pub record DoTheSame (p : Program) (s : LinkedSet) : Type 0 where
  pub forward : Forward p s
  pub backward : Backward p s
  pub never_stops : NeverStops p s

-- ---- the theorem, and what it goes through

abbrev pub UnitsDoTheSame : Type 0
UnitsDoTheSame = (s : LinkedSet) → IsAcceptedSet s → DoTheSame (program_of s) s

abbrev pub UnitsArePaired : Type 0
UnitsArePaired = (s : LinkedSet) → IsAcceptedSet s → Pairing s

-- bodies find what they ask for
abbrev pub UnitsServe : Type 0
UnitsServe = (s : LinkedSet) → IsAcceptedSet s → AreServed (program_of s) s

-- the units link
abbrev pub UnitsLink : Type 0
UnitsLink = (s : LinkedSet) → IsAcceptedSet s → link_refusal (program_of s) ≡ None
