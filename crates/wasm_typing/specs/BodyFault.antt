-- The first faulty token of a body: the first behind which no completion has a typing.
use Rattle.std.specs.Prelude.{◌≡◌, ℕ, suc, ◌≤◌, ◌^◌, Bool, false, not, if◌then◌else◌, List, [], ◌∷◌, ◌++◌, slice_get, nat_le, is_none}
use Rattle.std.specs.Prelude.{Option, Some, None}
use Rattle.std.specs.List.{list_any}
use Rattle.w2c_base.specs.declared.value.ValType.{ValType}
use Rattle.w2c_base.specs.Lookup.{if_found}
use Rattle.wasm_tree.specs.declared.entries.BodyEntry.{BodyEntry}
use Rattle.wasm_tree.specs.Instructions.{Code, end_code, then_code, Kind, Otherwise, no_else, else_code, MemorySize, MemoryGrow, MemoryCopy}
use Rattle.wasm_tree.specs.Instructions.{MemoryFill, Block, Loop, If, Br, BrIf, BrTable, Call, CallIndirect, LocalGet, LocalSet, LocalTee}
use Rattle.wasm_tree.specs.Instructions.{GlobalGet, GlobalSet, Load, Store}
use Rattle.wasm_tree.specs.Accesses.{load_width, store_width}
use Rattle.wasm_typing.specs.declared.fault.ValidCause.{ValidCause}
use Rattle.wasm_typing.specs.declared.fault.ValidCause.TheVariants as cause
use Rattle.wasm_typing.specs.declared.fault.Fault.{Fault}
use Rattle.wasm_typing.specs.Context.{Context, Labels}
use Rattle.wasm_typing.specs.Typing.{BodyHasType}
use Rattle.wasm_typing.specs.Completion.{completed}

-- a test and the cause that stands where it holds
abbrev pub CauseRow : Type 0
CauseRow = Bool × ValidCause

-- the first cause whose test holds, else a mismatch of types
abbrev pub first_cause : List CauseRow → ValidCause
first_cause [] = cause.TypeMismatch
first_cause (row ∷ rows) = if row.0 then row.1 else first_cause rows

abbrev pub no_local : Context → ℕ → CauseRow
no_local c index = (is_none (slice_get c.locals index), cause.UnknownLocal)

abbrev pub no_global : Context → ℕ → CauseRow
no_global c index = (is_none (slice_get c.globals index), cause.UnknownGlobal)

abbrev pub no_function : Context → ℕ → CauseRow
no_function c index = (is_none (slice_get c.funcs index), cause.UnknownFunction)

-- the function is there, and has no type
abbrev pub no_function_type : Context → ℕ → CauseRow
no_function_type c index = (is_none (if_found (slice_get c.funcs index) (λ ty. ty)), cause.UnknownType)

abbrev pub no_type : Context → ℕ → CauseRow
no_type c index = (is_none (slice_get c.types index), cause.UnknownType)

abbrev pub no_label : Labels → List ℕ → CauseRow
no_label labels indexes = (list_any (λ index. is_none (slice_get labels index)) indexes, cause.UnknownLabel)

abbrev pub no_table : Context → CauseRow
no_table c = (is_none (slice_get c.tables 0), cause.UnknownTable)

abbrev pub no_memory : Context → CauseRow
no_memory c = (is_none (slice_get c.memories 0), cause.UnknownMemory)

abbrev pub misaligned : ℕ → ℕ → CauseRow
misaligned align width = (not (nat_le (2 ^ align) width), cause.Alignment)

abbrev pub is_immutable : Option (ValType × Bool) → Bool
is_immutable None = false
is_immutable (Some g) = not g.1

abbrev pub immutable : Context → ℕ → CauseRow
immutable c index = (is_immutable (slice_get c.globals index), cause.ImmutableGlobal)

-- why an instruction's opcode is faulty, where it is. The causes stand in this order: unknown local, global, function,
-- type, label, table, memory; alignment; immutable global; type mismatch
abbrev pub cause_of : Context → Labels → Kind → ValidCause
cause_of c labels (LocalGet index) = first_cause (no_local c index ∷ [])
cause_of c labels (LocalSet index) = first_cause (no_local c index ∷ [])
cause_of c labels (LocalTee index) = first_cause (no_local c index ∷ [])
cause_of c labels (GlobalGet index) = first_cause (no_global c index ∷ [])
cause_of c labels (GlobalSet index) = first_cause (no_global c index ∷ immutable c index ∷ [])
cause_of c labels (Call index) = first_cause (no_function c index ∷ no_function_type c index ∷ [])
cause_of c labels (CallIndirect type_index) = first_cause (no_type c type_index ∷ no_table c ∷ [])
cause_of c labels (Br label) = first_cause (no_label labels (label ∷ []) ∷ [])
cause_of c labels (BrIf label) = first_cause (no_label labels (label ∷ []) ∷ [])
cause_of c labels (BrTable others label) = first_cause (no_label labels (others ++ label ∷ []) ∷ [])
cause_of c labels (Load op arg) = first_cause (no_memory c ∷ misaligned arg.align (load_width op) ∷ [])
cause_of c labels (Store op arg) = first_cause (no_memory c ∷ misaligned arg.align (store_width op) ∷ [])
cause_of c labels MemorySize = first_cause (no_memory c ∷ [])
cause_of c labels MemoryGrow = first_cause (no_memory c ∷ [])
cause_of c labels MemoryCopy = first_cause (no_memory c ∷ [])
cause_of c labels MemoryFill = first_cause (no_memory c ∷ [])
cause_of c labels kind = cause.TypeMismatch

-- a token that only its operands can make faulty
abbrev pub plain_token : ℕ → Fault
plain_token place = record { place = place; cause = cause.TypeMismatch }

-- the tokens in the order of their bytes, each as the fault that it is where it is the first faulty one
abbrev mutual
  pub tokens : Context → Labels → Code → List Fault
  tokens c labels end_code = []
  tokens c labels (then_code place kind code) = kind_tokens c labels place kind ++ tokens c labels code

  pub kind_tokens : Context → Labels → ℕ → Kind → List Fault
  kind_tokens c labels place (Block t code end_place) = plain_token place ∷ (tokens c (t ∷ labels) code ++ plain_token end_place ∷ [])
  kind_tokens c labels place (Loop t code end_place) = plain_token place ∷ (tokens c (None ∷ labels) code ++ plain_token end_place ∷ [])
  kind_tokens c labels place (If t code otherwise end_place) =
      plain_token place ∷ (tokens c (t ∷ labels) code ++ (else_tokens c (t ∷ labels) otherwise ++ plain_token end_place ∷ []))
  kind_tokens c labels place kind = record { place = place; cause = cause_of c labels kind } ∷ []

  pub else_tokens : Context → Labels → Otherwise → List Fault
  else_tokens c labels no_else = []
  else_tokens c labels (else_code place code) = plain_token place ∷ tokens c labels code

-- with the final `end`
abbrev pub body_tokens : Context → BodyEntry → List Fault
body_tokens c body = tokens c (c.result ∷ []) body.code ++ plain_token body.end_place ∷ []

-- the completions of up to k tokens have a typing, and that of k + 1 has none: the last of these is the first faulty one
pub record FirstBodyFault (c : Context) (body : BodyEntry) (fault : Fault) : Type 0 where
  pub k : ℕ
  pub token : slice_get (body_tokens c body) k ≡ Some fault
  pub before : (j : ℕ) → j ≤ k → BodyHasType c (completed j body.code)
  pub faulty : BodyHasType c (completed (suc k) body.code) → ⊥
