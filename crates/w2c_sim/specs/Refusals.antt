-- Why a file is not translated: the verdict on its bytes (WebAssembly Core 1.0, chapter 5 and 3.4.10), or
-- memory was wanting.
use Rattle.std.specs.Prelude.{ℕ, List}
use Rattle.wasm_tree.specs.declared.tree.Module.{Module}
use Rattle.wasm_spelling.specs.declared.fault.ReadFault.{ReadFault}
use Rattle.wasm_spelling.specs.declared.fault.ReadFault.TheVariants as fault
use Rattle.wasm_typing.specs.declared.fault.ValidRefusal.{ValidRefusal}
use Rattle.wasm_typing.specs.declared.fault.ValidRefusal.TheVariants as rule
use Rattle.wasm_typing.specs.Verdict.{Invalid as is_invalid}
use Rattle.wasm_valid.specs.FileVerdict.{Unread, Read, IsVerdictOn}
use Rattle.w2c_sim.specs.declared.refusal.Refusal.{Refusal}
use Rattle.w2c_sim.specs.declared.refusal.Refusal.TheVariants.{Malformed, Float, Limit, Invalid, Memory}

-- the verdict on the bytes is this
abbrev pub IsRefused : List ℕ → Refusal → Type 0
IsRefused bytes (Malformed place cause) = IsVerdictOn bytes (Unread (fault.Malformed place cause))
IsRefused bytes (Float place) = IsVerdictOn bytes (Unread (fault.Float place))
IsRefused bytes (Limit place which) = IsVerdictOn bytes (Unread (fault.Limit place which))
IsRefused bytes (Invalid place cause) =
    (module_tree : Module) × IsVerdictOn bytes (Read module_tree (is_invalid (record { place = place; cause = cause })))
IsRefused bytes Memory = ⊥

-- a refusal is the verdict, unless memory was wanting
abbrev pub IsRefusal : List ℕ → Refusal → Type 0
IsRefusal bytes Memory = Unit {0}
IsRefusal bytes refusal = IsRefused bytes refusal

-- a reading fault, and a fault of the typing rules, as a refusal
abbrev pub refusal_of : ReadFault → Refusal
refusal_of (fault.Malformed place cause) = Malformed place cause
refusal_of (fault.Float place) = Float place
refusal_of (fault.Limit place which) = Limit place which
refusal_of fault.Memory = Memory

abbrev pub invalid_of : ValidRefusal → Refusal
invalid_of (rule.Invalid place cause) = Invalid place cause
invalid_of rule.Memory = Memory
