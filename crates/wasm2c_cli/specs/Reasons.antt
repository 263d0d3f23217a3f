-- Why a file is refused: it passes a limit of bytes, or the verdict on its bytes refuses it (WebAssembly Core 1.0, chapter 5
-- and 3.4.10).
use Rattle.std.specs.Prelude.{◌≡◌, ◌⊎◌, ℕ, List, ◌∷◌, Option, Some, None}
use Rattle.w2c_io.specs.Contents.{Name, Contents}
use Rattle.wasm_tree.specs.declared.tree.Module.{Module}
use Rattle.wasm_spelling.specs.declared.fault.ReadFault.TheVariants as fault
use Rattle.wasm_spelling.specs.declared.fault.Which.TheVariants.{ModuleBytes, SetBytes}
use Rattle.wasm_tree.specs.Limits.{most_module_bytes}
use Rattle.wasm_typing.specs.Verdict.{Accepted, Invalid as is_invalid}
use Rattle.wasm_valid.specs.FileVerdict.{FileVerdict, Unread, Read, IsVerdictOn}
use Rattle.w2c_files.specs.Reading.{StopsReading, Unreadable, TooLong, Past}
use Rattle.w2c_sim.specs.declared.refusal.Refusal.{Refusal}
use Rattle.w2c_sim.specs.declared.refusal.Refusal.TheVariants as refusals
use Rattle.wasm2c_cli.specs.Plan.{most_set_bytes}
use Rattle.wasm2c_cli.specs.declared.stop.Reason.{Reason}
use Rattle.wasm2c_cli.specs.declared.stop.Reason.TheVariants.{Malformed, Float, Limit, Invalid}

-- the reason of a verdict that refuses
abbrev pub reason_for : FileVerdict → Option Reason
reason_for (Unread (fault.Malformed place cause)) = Some (Malformed place cause)
reason_for (Unread (fault.Float place)) = Some (Float place)
reason_for (Unread (fault.Limit place which)) = Some (Limit place which)
reason_for (Read tree (is_invalid f)) = Some (Invalid f.place f.cause)
reason_for _ = None

-- the bytes spell a valid module
abbrev pub IsAccepted : List ℕ → Type 0
IsAccepted bytes = (tree : Module) × IsVerdictOn bytes (Read tree Accepted)

-- the verdict on the bytes refuses them for this reason
abbrev pub IsRefused : List ℕ → Reason → Type 0
IsRefused bytes reason = (verdict : FileVerdict) × IsVerdictOn bytes verdict × (reason_for verdict ≡ Some reason)

-- reading stops so, since a file has too many bytes for a module, or too many behind those of the files in front of it
abbrev pub PassesLimitBy : (Unreadable → Type 0) → Reason → Type 0
PassesLimitBy Stops reason =
    (Stops TooLong × (reason ≡ Limit most_module_bytes ModuleBytes))
    ⊎ ((place : ℕ) × Stops (Past place) × (reason ≡ Limit place SetBytes))

-- reading stops so at the file, by what the files hold
abbrev pub PassesLimit : Contents → List Name → Name → Reason → Type 0
PassesLimit contents names file reason = PassesLimitBy (StopsReading most_module_bytes most_set_bytes contents names file) reason

-- the first of the files that is refused: those in front of it are accepted
abbrev pub IsFirstRefused : List Name → List (List ℕ) → Name → Reason → Type 0
IsFirstRefused (name ∷ names) (bytes ∷ sources) file reason =
    ((file ≡ name) × IsRefused bytes reason) ⊎ (IsAccepted bytes × IsFirstRefused names sources file reason)
IsFirstRefused _ _ file reason = ⊥

-- the reason of a refusal, where it was not for want of memory
abbrev pub reason_of : Refusal → Option Reason
reason_of (refusals.Malformed place cause) = Some (Malformed place cause)
reason_of (refusals.Float place) = Some (Float place)
reason_of (refusals.Limit place which) = Some (Limit place which)
reason_of (refusals.Invalid place cause) = Some (Invalid place cause)
reason_of refusals.Memory = None
