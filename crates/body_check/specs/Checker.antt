-- The checker on trees. It is a tool of the proof: what is promised stands in Typing, BodyFault and Verdict.
use Rattle.std.specs.Prelude.{ℕ, ◌+◌, ◌^◌, List, [], ◌∷◌, ◌++◌, reverse, Option, Some, None, Result, Ok, Err, Bool, true, false, ◌&&◌}
use Rattle.std.specs.Prelude.{slice_get, nat_le, is_some, if◌then◌else◌}
use Rattle.w2c_base.specs.declared.value.ValType.{ValType}
use Rattle.w2c_base.specs.declared.value.ValType.TheVariants.{I32}
use Rattle.w2c_base.specs.Values.{equal_type, equal_results}
use Rattle.wasm_tree.specs.Instructions.{Code, end_code, then_code, Kind, Otherwise, no_else, else_code, Unreachable, Return, Drop, Select}
use Rattle.wasm_tree.specs.Instructions.{MemorySize, MemoryGrow, MemoryCopy, MemoryFill, Block, Loop, If, Br, BrIf, BrTable, Call}
use Rattle.wasm_tree.specs.Instructions.{CallIndirect, LocalGet, LocalSet, LocalTee, GlobalGet, GlobalSet, Load, Store}
use Rattle.wasm_tree.specs.InstructionTable.{Typing, of_types, by_rule}
use Rattle.wasm_tree.specs.Accesses.{load_width, store_width}
use Rattle.wasm_typing.specs.declared.fault.Fault.{Fault}
use Rattle.wasm_typing.specs.Context.{Context, Labels}
use Rattle.wasm_typing.specs.Typing.{values, table_type}
use Rattle.wasm_typing.specs.Completion.{token_count, kind_token_count}
use Rattle.wasm_typing.specs.BodyFault.{cause_of, plain_token}
use Rattle.body_check.specs.declared.operand.Operand.{Operand}
use Rattle.body_check.specs.declared.operand.Operand.TheVariants.{Known, Unknown}

-- the operands of one block, the top first; below them stands nothing, or in dead code whatever is asked for
pub data Operands : Type 0 where
  nothing : Operands
  anything : Operands
  on : Operand → Operands → Operands

abbrev pub pop_type : ValType → Operands → Option Operands
pop_type t nothing = None
pop_type t anything = Some anything
pop_type t (on Unknown s) = Some s
pop_type t (on (Known u) s) = if equal_type u t then Some s else None

abbrev pub on_some : {A : Type 0} → Option A → (A → Option Operands) → Option Operands
on_some None f = None
on_some (Some x) f = f x

-- the first type on top
abbrev pub pop_types : List ValType → Operands → Option Operands
pop_types [] s = Some s
pop_types (t ∷ ts) s = on_some (pop_type t s) (pop_types ts)

abbrev pub push_types : List ValType → Operands → Operands
push_types [] s = s
push_types (t ∷ ts) s = on (Known t) (push_types ts s)

-- of type [operands] → [results]
abbrev pub turn : List ValType → List ValType → Operands → Option Operands
turn operands results s = on_some (pop_types (reverse operands) s) (λ rest. Some (push_types (reverse results) rest))

abbrev pub jump : List ValType → Operands → Option Operands
jump operands s = on_some (pop_types (reverse operands) s) (λ rest. Some anything)

abbrev pub pop_any : Operands → Option Operands
pop_any nothing = None
pop_any anything = Some anything
pop_any (on x s) = Some s

-- the type that two operands have in common
abbrev pub common : Operand → Operand → Option Operand
common Unknown y = Some y
common (Known t) Unknown = Some (Known t)
common (Known t) (Known u) = if equal_type t u then Some (Known t) else None

-- two operands of one type leave one
abbrev pub chosen : Operands → Option Operands
chosen nothing = None
chosen anything = Some (on Unknown anything)
chosen (on x nothing) = None
chosen (on x anything) = Some (on x anything)
chosen (on x (on y s)) = on_some (common x y) (λ z. Some (on z s))

abbrev pub when : Bool → Option Operands → Option Operands
when true r = r
when false r = None

abbrev pub is_label : Option (Option ValType) → Option ValType → Bool
is_label None t = false
is_label (Some u) t = equal_results u t

abbrev pub all_labels : Labels → List ℕ → Option ValType → Bool
all_labels labels [] t = true
all_labels labels (k ∷ ks) t = is_label (slice_get labels k) t && all_labels labels ks t

abbrev pub has_memory : Context → Bool
has_memory c = is_some (slice_get c.memories 0)

abbrev pub has_table : Context → Bool
has_table c = is_some (slice_get c.tables 0)

abbrev pub turn_tabled : Typing → Operands → Option Operands
turn_tabled (of_types operands results) s = turn operands results s
turn_tabled by_rule s = None

-- an instruction that holds no code
abbrev pub step : Context → Labels → Kind → Operands → Option Operands
step c labels Unreachable s = jump [] s
step c labels Return s = jump (values c.result) s
step c labels Drop s = pop_any s
step c labels Select s = on_some (pop_type I32 s) chosen
step c labels (Br label) s = on_some (slice_get labels label) (λ t. jump (values t) s)
step c labels (BrIf label) s = on_some (slice_get labels label) (λ t. turn (values t ++ I32 ∷ []) (values t) s)
step c labels (BrTable others label) s =
    on_some (slice_get labels label) (λ t. when (all_labels labels others t) (jump (values t ++ I32 ∷ []) s))
step c labels (Call index) s = on_some (slice_get c.funcs index) (λ o. on_some o (λ ty. turn ty.params (values ty.result) s))
step c labels (CallIndirect type_index) s =
    on_some (slice_get c.types type_index) (λ ty. when (has_table c) (turn (ty.params ++ I32 ∷ []) (values ty.result) s))
step c labels (LocalGet index) s = on_some (slice_get c.locals index) (λ t. turn [] (t ∷ []) s)
step c labels (LocalSet index) s = on_some (slice_get c.locals index) (λ t. turn (t ∷ []) [] s)
step c labels (LocalTee index) s = on_some (slice_get c.locals index) (λ t. turn (t ∷ []) (t ∷ []) s)
step c labels (GlobalGet index) s = on_some (slice_get c.globals index) (λ g. turn [] (g.0 ∷ []) s)
step c labels (GlobalSet index) s = on_some (slice_get c.globals index) (λ g. when g.1 (turn (g.0 ∷ []) [] s))
step c labels (Load op arg) s =
    when (has_memory c) (when (nat_le (2 ^ arg.align) (load_width op)) (turn_tabled (table_type (Load op arg)) s))
step c labels (Store op arg) s =
    when (has_memory c) (when (nat_le (2 ^ arg.align) (store_width op)) (turn_tabled (table_type (Store op arg)) s))
step c labels MemorySize s = when (has_memory c) (turn_tabled (table_type MemorySize) s)
step c labels MemoryGrow s = when (has_memory c) (turn_tabled (table_type MemoryGrow) s)
step c labels MemoryCopy s = when (has_memory c) (turn_tabled (table_type MemoryCopy) s)
step c labels MemoryFill s = when (has_memory c) (turn_tabled (table_type MemoryFill) s)
step c labels kind s = turn_tabled (table_type kind) s

-- a refusal: at which token of the list, from 0 on, and as which fault
pub record Refusal : Type 0 where
  pub token : ℕ
  pub fault : Fault

abbrev pub refusal : ℕ → Fault → Refusal
refusal token fault = record { token = token; fault = fault }

abbrev pub Ran : Type 0
Ran = Result Operands Refusal

abbrev pub or_refuse : Refusal → Option Operands → Ran
or_refuse f None = Err f
or_refuse f (Some s) = Ok s

abbrev pub and_then : Ran → (Operands → Ran) → Ran
and_then (Ok s) f = f s
and_then (Err e) f = Err e

-- the tokens are counted from n tokens earlier
abbrev pub later : ℕ → Ran → Ran
later n (Ok s) = Ok s
later n (Err f) = Err (refusal (f.token + n) f.fault)

-- exactly these operands are left at an end
abbrev pub empties : Operands → Option Operands
empties nothing = Some nothing
empties anything = Some nothing
empties (on x s) = None

abbrev pub closes : Option ValType → Operands → Option Operands
closes r s = on_some (pop_types (values r) s) empties

-- an end, or an `else`: token n, at a place
abbrev pub at_end : ℕ → ℕ → Option ValType → Ran → Ran
at_end n place r ran = and_then ran (λ s. or_refuse (refusal n (plain_token place)) (closes r s))

-- an `if` without `else` has no result
abbrev pub no_result : Option ValType → Option Operands
no_result None = Some nothing
no_result (Some t) = None

-- where the first branch of an `if` ends
abbrev pub first_end : Otherwise → ℕ → ℕ
first_end no_else end_place = end_place
first_end (else_code place code) end_place = place

-- the result of a block
abbrev pub give : Option ValType → Operands → Operands
give t s = push_types (reverse (values t)) s

abbrev mutual
  pub run : Context → Labels → Code → Operands → Ran
  run c labels end_code s = Ok s
  run c labels (then_code place kind code) s =
      and_then (run_kind c labels place kind s) (λ s'. later (kind_token_count kind) (run c labels code s'))

  pub run_kind : Context → Labels → ℕ → Kind → Operands → Ran
  run_kind c labels place (Block t code end_place) s =
      and_then (later 1 (at_end (token_count code) end_place t (run c (t ∷ labels) code nothing))) (λ _. Ok (give t s))
  run_kind c labels place (Loop t code end_place) s =
      and_then (later 1 (at_end (token_count code) end_place t (run c (None ∷ labels) code nothing))) (λ _. Ok (give t s))
  run_kind c labels place (If t code otherwise end_place) s =
      and_then (or_refuse (refusal 0 (plain_token place)) (pop_type I32 s))
      (λ s'. and_then (later 1 (at_end (token_count code) (first_end otherwise end_place) t (run c (t ∷ labels) code nothing)))
      (λ _. and_then (later (token_count code + 1) (run_else c (t ∷ labels) otherwise t end_place))
      (λ _. Ok (give t s'))))
  run_kind c labels place kind s =
      or_refuse (refusal 0 (record { place = place; cause = cause_of c labels kind })) (step c labels kind s)

  -- behind the first branch: its `end`, or `else`, the second branch and the `end`
  pub run_else : Context → Labels → Otherwise → Option ValType → ℕ → Ran
  run_else c labels no_else t end_place = or_refuse (refusal 0 (plain_token end_place)) (no_result t)
  run_else c labels (else_code place code) t end_place = later 1 (at_end (token_count code) end_place t (run c labels code nothing))

abbrev pub check : Context → Code → ℕ → Ran
check c code end_place = at_end (token_count code) end_place c.result (run c (c.result ∷ []) code nothing)
