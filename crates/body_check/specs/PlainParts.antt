-- What the parts of the checker of one instruction answer: needs, a memory, the labels of a `br_table`.
use Rattle.std.specs.Prelude.{◌≡◌, ℕ, Bool, true, false, List, Option, None, Result, Ok, Err, slice_get, is_none}
use Rattle.std.specs.List.{list_any}
use Rattle.w2c_base.specs.declared.value.ValType.{ValType}
use Rattle.wasm_typing.specs.declared.fault.ValidCause.TheVariants as cause
use Rattle.wasm_typing.specs.Context.{Context, Labels}
use Rattle.wasm_typing.specs.BodyFault.{first_cause}
use Rattle.body_check.specs.declared.stop.Stop.{Stop}
use Rattle.body_check.specs.declared.stop.Stop.TheVariants.{Cause, Memory}
use Rattle.body_check.specs.declared.numeric.Needs.{Needs}
use Rattle.body_check.specs.Checker.{Operands, has_memory, all_labels}
use Rattle.body_check.specs.Needs.{where_met, unmet}

-- the needs are met, or are not for this cause
abbrev pub Meets : Result Unit Stop → Context → Needs → Type 0
Meets (Ok u) c needs = ((r : Option Operands) → where_met c needs r ≡ r) × (first_cause (unmet c needs) ≡ cause.TypeMismatch)
Meets (Err (Cause k)) c needs = ((r : Option Operands) → where_met c needs r ≡ None) × (k ≡ first_cause (unmet c needs))
Meets (Err Memory) c needs = ⊥

-- there is a memory, or none
abbrev pub HasMemoryOr : Result Unit Stop → Context → Type 0
HasMemoryOr (Ok u) c = has_memory c ≡ true
HasMemoryOr (Err (Cause k)) c = (has_memory c ≡ false) × (k ≡ cause.UnknownMemory)
HasMemoryOr (Err Memory) c = ⊥

abbrev pub any_missing : Labels → List ℕ → Bool
any_missing labels indexes = list_any (λ index. is_none (slice_get labels index)) indexes

-- whether all these labels carry this, where none is missing
abbrev pub Agrees : Result Bool Stop → Labels → List ℕ → Option ValType → Type 0
Agrees (Ok same) labels others carried = (all_labels labels others carried ≡ same) × (any_missing labels others ≡ false)
Agrees (Err (Cause k)) labels others carried =
    (all_labels labels others carried ≡ false) × (any_missing labels others ≡ true) × (k ≡ cause.UnknownLabel)
Agrees (Err Memory) labels others carried = ⊥
