-- The execution of instructions with a budget of steps (WebAssembly Core 1.0, 4.4; Core 2.0, 4.4.7 for copied and filled
-- bytes). `nop`, `drop`, `block`, `loop` and the ends of blocks cost nothing. `memory.copy` and `memory.fill` cost one step and
-- one more for each byte, unless they trap, every other instruction one step.
use Rattle.std.specs.Prelude.{ℕ, zero, suc, ◌+◌, ◌%◌, ◌^◌, ◌==◌, Bool, false, ◌&&◌, List, [], ◌∷◌, ◌++◌, if◌then◌else◌, take, drop, reverse}
use Rattle.std.specs.Prelude.{length, slice_get, slice_set, Option, Some, None, unwrap_or}
use Rattle.w2c_base.specs.declared.value.ValType.{ValType}
use Rattle.w2c_base.specs.declared.value.ValType.TheVariants as type
use Rattle.w2c_base.specs.declared.value.Value.{Value}
use Rattle.w2c_base.specs.declared.value.Value.TheVariants.{I32, I64}
use Rattle.w2c_base.specs.declared.signature.FuncType.{FuncType}
use Rattle.w2c_base.specs.declared.trap.TrapKind.{TrapKind}
use Rattle.w2c_base.specs.declared.trap.TrapKind.TheVariants as trap
use Rattle.w2c_base.specs.Values.{bits, value, number_of, type_of, types_of, equal_type, equal_types, equal_func_types, is_result, zeros}
use Rattle.w2c_base.specs.Values.{pattern_of}
use Rattle.w2c_base.specs.Lookup.{if_found}
use Rattle.w2c_base.specs.Run.{Reply, Gave, HostTrapped, Ask, Event, Trail, asked}
use Rattle.wasm_tree.specs.Instructions.{Code, end_code, then_code, Kind, Otherwise, no_else, else_code, Unreachable, Nop, Return, Drop}
use Rattle.wasm_tree.specs.Instructions.{Select, MemorySize, MemoryGrow, MemoryCopy, MemoryFill, Block, Loop, If, Br, BrIf, BrTable, Call}
use Rattle.wasm_tree.specs.Instructions.{CallIndirect, LocalGet, LocalSet, LocalTee, GlobalGet, GlobalSet, Load, Store, I32Const, I64Const}
use Rattle.wasm_tree.specs.Instructions.{Eqz, Compare, Unary, Binary, I32WrapI64, I64ExtendI32S, I64ExtendI32U, Extend}
use Rattle.wasm_tree.specs.declared.operators.LoadOp.{LoadOp}
use Rattle.wasm_tree.specs.declared.operators.StoreOp.{StoreOp}
use Rattle.wasm_tree.specs.Accesses.{load_access, store_access, extend_width, extend_type}
use Rattle.wasm_tree.specs.declared.entries.BodyEntry.{BodyEntry}
use Rattle.wasm_tree.specs.IndexSpaces.{declared_locals}
use Rattle.wasm_meaning.specs.Operators.{Answer, Gives, Traps, truth, extend_s, unary, binary, compare}
use Rattle.wasm_meaning.specs.Memories.{load_number, store_number, copy_bytes, fill_bytes}
use Rattle.wasm_meaning.specs.LinkedSet.{LinkedSet, FuncAddress, ModuleFunc, HostFunc, GlobalAddress, func_at, table_at, memory_at}
use Rattle.wasm_meaning.specs.LinkedSet.{global_at, type_at, func_type, global_type, body_of}
use Rattle.wasm_meaning.specs.Store as store

-- why an execution stops before its end
pub data Stop : Type 0 where
  Trapped : (kind : TrapKind) → Stop
  Asks OutOfSteps Stuck : Stop

-- what instructions come to: their end, a branch, a return, or a stop. The top of the operand stack
-- is its head; `left` is the budget that is left
pub data Result : Type 0 where
  Normal : (left : ℕ) → (stack : List Value) → (state : store.State) → Result
  Branch : (label left : ℕ) → (stack : List Value) → (state : store.State) → Result
  Returned : (left : ℕ) → (stack : List Value) → (state : store.State) → Result
  Stops : (why : Stop) → (state : store.State) → Result

-- what a call comes to
pub data Called : Type 0 where
  Back : (left : ℕ) → (value : Option Value) → (store : store.Store) → (trail : Trail) → Called
  CallStops : (why : Stop) → (store : store.Store) → (trail : Trail) → Called

-- how functions are called: with arguments, a budget, the store and the trail
abbrev pub Calls : Type 0
Calls = FuncAddress → List Value → ℕ → store.Store → Trail → Called

-- what an instruction without control does, once its step is paid
pub data Done : Type 0 where
  Leaves : (stack : List Value) → (state : store.State) → Done
  Faults : (kind : TrapKind) → Done
  NoRule : Done

-- the state with one part changed
abbrev pub in_store : store.State → store.Store → store.State
in_store state new = record state { store = new }

abbrev pub in_locals : store.State → List Value → store.State
in_locals state new = record state { locals = new }

-- numeric instructions (4.4.1)
abbrev pub one_operand : ValType → List Value → (ℕ → List Value → Done) → Done
one_operand type.I32 (I32 x ∷ stack) go = go x stack
one_operand type.I64 (I64 x ∷ stack) go = go x stack
one_operand _ _ go = NoRule

abbrev pub two_operands : ValType → List Value → (ℕ → ℕ → List Value → Done) → Done
two_operands type.I32 (I32 y ∷ I32 x ∷ stack) go = go x y stack
two_operands type.I64 (I64 y ∷ I64 x ∷ stack) go = go x y stack
two_operands _ _ go = NoRule

-- a value of this type, or a trap
abbrev pub answered : ValType → Answer → List Value → store.State → Done
answered t (Gives n) stack state = Leaves (value t n ∷ stack) state
answered t (Traps kind) stack state = Faults kind

-- what is done where two values have one type
abbrev pub of_one_type : Value → Value → Done → Done
of_one_type v w does = if equal_type (type_of v) (type_of w) then does else NoRule

-- parametric instructions (4.4.2)
abbrev pub selected : List Value → store.State → Done
selected (I32 zero ∷ second ∷ first ∷ stack) state = of_one_type first second (Leaves (second ∷ stack) state)
selected (I32 (suc c) ∷ second ∷ first ∷ stack) state = of_one_type first second (Leaves (first ∷ stack) state)
selected _ state = NoRule

-- variable instructions (4.4.3)
abbrev pub pushed : Option Value → List Value → store.State → Done
pushed None stack state = NoRule
pushed (Some v) stack state = Leaves (v ∷ stack) state

abbrev pub local_set : ℕ → Value → List Value → store.State → Done
local_set index v stack state = elim (slice_get state.locals index) [
  | None ↦ NoRule
  | Some old ↦ of_one_type old v (Leaves stack (in_locals state (slice_set state.locals index v)))
]

-- the global is mutable, and the value has its type
abbrev pub may_set : LinkedSet → GlobalAddress → Value → Bool
may_set s g v = elim (global_type s g) [ None ↦ false | Some t ↦ t.1 && equal_type t.0 (type_of v) ]

abbrev pub global_set : LinkedSet → Option GlobalAddress → Value → List Value → store.State → Done
global_set s None v stack state = NoRule
global_set s (Some g) v stack state = elim (store.global_in state.store g) [
  | None ↦ NoRule
  | Some old ↦ if may_set s g v then Leaves stack (in_store state (store.with_global state.store g v)) else NoRule
]

-- memory instructions (4.4.4), on the memory of the module that defines it
abbrev pub on_memory : Option ℕ → store.State → (ℕ → store.Memory → Done) → Done
on_memory None state go = NoRule
on_memory (Some owner) state go = elim (store.memory_in state.store owner) [ None ↦ NoRule | Some m ↦ go owner m ]

abbrev pub loaded : LoadOp → store.Memory → ℕ → List Value → store.State → Done
loaded op m address stack state = answered (load_access op).ty (load_number op m.bytes address) stack state

-- the bytes that a memory has then, or a trap
abbrev pub written : ℕ → store.Memory → Option (List ℕ) → List Value → store.State → Done
written owner m None stack state = Faults trap.MemoryOut
written owner m (Some bytes) stack state =
    Leaves stack (in_store state (store.with_memory state.store owner (record { bytes = bytes; max = m.max })))

abbrev pub stored : StoreOp → ℕ → store.Memory → ℕ → ℕ → List Value → store.State → Done
stored op owner m address n stack state = written owner m (store_number op m.bytes address n) stack state

abbrev pub grown : ℕ → store.Memory → ℕ → List Value → store.State → Done
grown owner m more stack state = elim (store.grown m more) [
  | None ↦ Leaves (I32 4294967295 ∷ stack) state
  | Some new ↦ Leaves (I32 (store.pages m) ∷ stack) (in_store state (store.with_memory state.store owner new))
]

-- an instruction of the module with number p
abbrev pub plain : LinkedSet → ℕ → Kind → List Value → store.State → Done
plain s p (I32Const z) stack state = Leaves (I32 (pattern_of 32 z) ∷ stack) state
plain s p (I64Const z) stack state = Leaves (I64 (pattern_of 64 z) ∷ stack) state
plain s p (Eqz t) stack state = one_operand t stack (λ x under. Leaves (I32 (truth (x == 0)) ∷ under) state)
plain s p (Compare t op) stack state = two_operands t stack (λ x y under. Leaves (I32 (truth (compare op (bits t) x y)) ∷ under) state)
plain s p (Unary t op) stack state = one_operand t stack (λ x under. Leaves (value t (unary op (bits t) x) ∷ under) state)
plain s p (Binary t op) stack state = two_operands t stack (λ x y under. answered t (binary op (bits t) x y) under state)
plain s p I32WrapI64 (I64 x ∷ stack) state = Leaves (I32 (x % 2 ^ 32) ∷ stack) state
plain s p I64ExtendI32S (I32 x ∷ stack) state = Leaves (I64 (extend_s 32 64 x) ∷ stack) state
plain s p I64ExtendI32U (I32 x ∷ stack) state = Leaves (I64 x ∷ stack) state
plain s p (Extend op) stack state = one_operand (extend_type op) stack (λ x under.
    Leaves (value (extend_type op) (extend_s (extend_width op) (bits (extend_type op)) x) ∷ under) state)
plain s p Select stack state = selected stack state
plain s p (LocalGet index) stack state = pushed (slice_get state.locals index) stack state
plain s p (LocalSet index) (v ∷ stack) state = local_set index v stack state
plain s p (LocalTee index) (v ∷ stack) state = local_set index v (v ∷ stack) state
plain s p (GlobalGet index) stack state = pushed (if_found (global_at s p index) (store.global_in state.store)) stack state
plain s p (GlobalSet index) (v ∷ stack) state = global_set s (global_at s p index) v stack state
plain s p (Load op arg) (I32 base ∷ stack) state = on_memory (memory_at s p 0) state (λ owner m.
    loaded op m (base + arg.offset) stack state)
plain s p (Store op arg) (v ∷ I32 base ∷ stack) state =
    if equal_type (store_access op).ty (type_of v)
    then on_memory (memory_at s p 0) state (λ owner m. stored op owner m (base + arg.offset) (number_of v) stack state)
    else NoRule
plain s p MemorySize stack state = on_memory (memory_at s p 0) state (λ owner m. Leaves (I32 (store.pages m) ∷ stack) state)
plain s p MemoryGrow (I32 more ∷ stack) state = on_memory (memory_at s p 0) state (λ owner m. grown owner m more stack state)
plain s p MemoryCopy (I32 count ∷ I32 from ∷ I32 to ∷ stack) state = on_memory (memory_at s p 0) state (λ owner m.
    written owner m (copy_bytes m.bytes to from count) stack state)
plain s p MemoryFill (I32 count ∷ I32 n ∷ I32 to ∷ stack) state = on_memory (memory_at s p 0) state (λ owner m.
    written owner m (fill_bytes m.bytes to n count) stack state)
plain s p _ stack state = NoRule

-- one step is paid, where the budget has one
abbrev pub spend : ℕ → store.State → (ℕ → Result) → Result
spend zero state go = Stops OutOfSteps state
spend (suc n) state go = go n

-- so many steps are paid
abbrev pub spend_all : (count budget : ℕ) → store.State → (ℕ → Result) → Result
spend_all zero n state go = go n
spend_all (suc count) n state go = spend n state (λ left. spend_all count left state go)

-- what is done is paid by so many steps more, before anything is written
abbrev pub did_all : (count budget : ℕ) → store.State → Done → Result
did_all count n before (Leaves stack state) = spend_all count n before (λ left. Normal left stack state)
did_all count n before (Faults kind) = Stops (Trapped kind) before
did_all count n before NoRule = Stops Stuck before

abbrev pub did : ℕ → store.State → Done → Result
did n before done = did_all 0 n before done

-- how many bytes `memory.copy` and `memory.fill` write: the uppermost operand
abbrev pub count_on : List Value → ℕ
count_on (I32 count ∷ stack) = count
count_on _ = 0

abbrev pub dropped : ℕ → List Value → store.State → Result
dropped n [] state = Stops Stuck state
dropped n (v ∷ stack) state = Normal n stack state

-- the instructions behind one that has ended
abbrev pub and_then : Result → (ℕ → List Value → store.State → Result) → Result
and_then (Normal n stack state) go = go n stack state
and_then result go = result

-- a value of the wanted type
abbrev pub of_type : {A : Type 0} → ValType → Value → A → Option A
of_type t v a = if equal_type t (type_of v) then Some a else None

-- the values of a label, off the top of the stack
abbrev pub top : Option ValType → List Value → Option (List Value)
top None stack = Some []
top (Some t) [] = None
top (Some t) (v ∷ stack) = of_type t v (v ∷ [])

abbrev pub onto : ℕ → Option (List Value) → List Value → store.State → Result
onto n None under state = Stops Stuck state
onto n (Some values) under state = Normal n (values ++ under) state

-- the end of a block (4.4.6), where `jump` is what a branch to it does. Its code ran on an operand stack of its own; `under` is
-- what lay below
abbrev pub ended : (ℕ → List Value → store.State → Result) → List Value → Result → Result
ended jump under (Normal n stack state) = Normal n (stack ++ under) state
ended jump under (Branch zero n stack state) = jump n stack state
ended jump under (Branch (suc label) n stack state) = Branch label n stack state
ended jump under result = result

-- a branch goes on behind the block, with the values of its label
abbrev pub leave : Option ValType → List Value → Result → Result
leave t under result = ended (λ n stack state. onto n (top t stack) under state) under result

-- the end of a loop's turn: a branch goes on with the next one
abbrev pub turn : (ℕ → store.State → Result) → List Value → Result → Result
turn again under result = ended (λ n stack state. again n state) under result

-- at most so many turns of a loop. Each turn but the first is paid by a branch, so a budget of n has
-- at most n + 1
abbrev pub turns : ℕ → (ℕ → store.State → Result) → List Value → ℕ → store.State → Result
turns zero body under n state = Stops OutOfSteps state
turns (suc k) body under n state = turn (turns k body under) under (body n state)

-- by a condition
abbrev pub choose : List Value → store.State → (List Value → Result) → (List Value → Result) → Result
choose (I32 zero ∷ stack) state first second = second stack
choose (I32 (suc c) ∷ stack) state first second = first stack
choose _ state first second = Stops Stuck state

-- by an index into labels
abbrev pub pick : List Value → store.State → List ℕ → ℕ → (ℕ → List Value → Result) → Result
pick (I32 i ∷ stack) state labels default go = go (unwrap_or (slice_get labels i) default) stack
pick _ state labels default go = Stops Stuck state

-- calls (4.4.5 and 4.4.7)
abbrev pub with_result : Option Value → List Value → List Value
with_result None stack = stack
with_result (Some v) stack = v ∷ stack

abbrev pub came_back : Called → List Value → store.State → Result
came_back (Back n value new trail) stack state = Normal n (with_result value stack) (record state { store = new; trail = trail })
came_back (CallStops why new trail) stack state = Stops why (record state { store = new; trail = trail })

-- the topmost values are the arguments, the last one on top
abbrev pub invoke : Calls → FuncAddress → List ValType → ℕ → List Value → store.State → Result
invoke calls f params n stack state =
    let args : List Value = reverse (take (length params) stack) in
    if equal_types params (types_of args)
    then came_back (calls f args n state.store state.trail) (drop (length params) stack) state else Stops Stuck state

abbrev pub call : LinkedSet → Calls → Option FuncAddress → ℕ → List Value → store.State → Result
call s calls None n stack state = Stops Stuck state
call s calls (Some f) n stack state = elim (func_type s f) [ None ↦ Stops Stuck state | Some ty ↦ invoke calls f ty.params n stack state ]

-- an element is called where its function has the wanted type
abbrev pub call_element : LinkedSet → Calls → Option (Option FuncAddress) → FuncType → ℕ → List Value → store.State → Result
call_element s calls None want n stack state = Stops (Trapped trap.TableOut) state
call_element s calls (Some None) want n stack state = Stops (Trapped trap.Empty) state
call_element s calls (Some (Some f)) want n stack state = elim (func_type s f) [
  | None ↦ Stops Stuck state
  | Some ty ↦ if equal_func_types ty want then invoke calls f ty.params n stack state else Stops (Trapped trap.Signature) state
]

abbrev pub call_indirect : LinkedSet → Calls → Option store.Table → Option FuncType → ℕ → List Value → store.State → Result
call_indirect s calls (Some t) (Some want) n (I32 i ∷ stack) state = call_element s calls (slice_get t.elements i) want n stack state
call_indirect s calls _ _ n _ state = Stops Stuck state

abbrev mutual
  -- code of the module with number p, with a budget of n
  pub exec : LinkedSet → Calls → ℕ → Code → ℕ → List Value → store.State → Result
  exec s calls p end_code n stack state = Normal n stack state
  exec s calls p (then_code place kind code) n stack state = and_then (exec_kind s calls p kind n stack state) (exec s calls p code)

  -- one instruction
  pub exec_kind : LinkedSet → Calls → ℕ → Kind → ℕ → List Value → store.State → Result
  exec_kind s calls p Nop n stack state = Normal n stack state
  exec_kind s calls p Drop n stack state = dropped n stack state
  exec_kind s calls p (Block t code end_place) n stack state = leave t stack (exec s calls p code n [] state)
  exec_kind s calls p (Loop t code end_place) n stack state = turns (suc n) (λ left. exec s calls p code left []) stack n state
  exec_kind s calls p (If t code otherwise end_place) n stack state = spend n state (λ left. choose stack state
      (λ under. leave t under (exec s calls p code left [] state))
      (λ under. leave t under (exec_else s calls p otherwise left state)))
  exec_kind s calls p Unreachable n stack state = spend n state (λ left. Stops (Trapped trap.Unreachable) state)
  exec_kind s calls p (Br label) n stack state = spend n state (λ left. Branch label left stack state)
  exec_kind s calls p (BrIf label) n stack state = spend n state (λ left. choose stack state
      (λ rest. Branch label left rest state)
      (λ rest. Normal left rest state))
  exec_kind s calls p (BrTable labels default) n stack state = spend n state (λ left.
      pick stack state labels default (λ label rest. Branch label left rest state))
  exec_kind s calls p Return n stack state = spend n state (λ left. Returned left stack state)
  exec_kind s calls p (Call index) n stack state = spend n state (λ left. call s calls (func_at s p index) left stack state)
  exec_kind s calls p (CallIndirect type_index) n stack state = spend n state (λ left.
      call_indirect s calls (if_found (table_at s p 0) (store.table_in state.store)) (type_at s p type_index) left stack state)
  exec_kind s calls p MemoryCopy n stack state = spend n state (λ left.
      did_all (count_on stack) left state (plain s p MemoryCopy stack state))
  exec_kind s calls p MemoryFill n stack state = spend n state (λ left.
      did_all (count_on stack) left state (plain s p MemoryFill stack state))
  exec_kind s calls p kind n stack state = spend n state (λ left. did left state (plain s p kind stack state))

  -- the second branch of an `if`
  pub exec_else : LinkedSet → Calls → ℕ → Otherwise → ℕ → store.State → Result
  exec_else s calls p no_else n state = Normal n [] state
  exec_else s calls p (else_code place code) n state = exec s calls p code n [] state

-- the end of a function's body: at its normal end nothing but the result is on the stack, and a
-- return or a branch out of the body takes it off the top
abbrev pub gives_all : Option ValType → List Value → Option (Option Value)
gives_all None [] = Some None
gives_all (Some t) (v ∷ []) = of_type t v (Some v)
gives_all _ _ = None

abbrev pub gives_top : Option ValType → List Value → Option (Option Value)
gives_top None stack = Some None
gives_top (Some t) [] = None
gives_top (Some t) (v ∷ stack) = of_type t v (Some v)

abbrev pub gave : Option (Option Value) → ℕ → store.State → Called
gave None n state = CallStops Stuck state.store state.trail
gave (Some result) n state = Back n result state.store state.trail

abbrev pub finish : Option ValType → Result → Called
finish t (Normal n stack state) = gave (gives_all t stack) n state
finish t (Branch zero n stack state) = gave (gives_top t stack) n state
finish t (Branch (suc label) n stack state) = CallStops Stuck state.store state.trail
finish t (Returned n stack state) = gave (gives_top t stack) n state
finish t (Stops why state) = CallStops why state.store state.trail

-- a function's body runs with its arguments and zeros as locals
abbrev pub enter : LinkedSet → Calls → ℕ → Option BodyEntry → Option FuncType → List Value → ℕ → store.Store → Trail → Called
enter s calls p (Some body) (Some ty) args n store trail =
    let locals : List Value = args ++ zeros (declared_locals body.runs) in
    finish ty.result (exec s calls p body.code n [] (record { locals = locals; store = store; trail = trail }))
enter s calls p _ _ args n store trail = CallStops Stuck store trail

-- the reply of a host that is asked, behind what happened before. Where none is left, or it is no
-- number of the function's type, the run stops at this ask
abbrev pub replied : Option FuncType → List Reply → List Event → Ask → ℕ → store.Store → Called
replied None replies before a n store = CallStops Stuck store (asked before a None replies)
replied (Some ty) [] before a n store = CallStops Asks store (asked before a None [])
replied (Some ty) (HostTrapped ∷ replies) before a n store =
    CallStops (Trapped trap.HostTrap) store (asked before a (Some HostTrapped) replies)
replied (Some ty) (Gave result ∷ replies) before a n store =
    if is_result ty.result result
    then Back n result store (asked before a (Some (Gave result)) replies)
    else CallStops Asks store (asked before a None replies)

-- calls while so many more of the modules' functions may become active. Hosts' are not counted
abbrev pub call_within : LinkedSet → ℕ → Calls
call_within s room (HostFunc h f) args n store trail =
    replied (func_type s (HostFunc h f)) trail.replies trail.events (record { host = h; function = f; args = args }) n store
call_within s zero (ModuleFunc p index) args n store trail = CallStops (Trapped trap.Exhaustion) store trail
call_within s (suc room) (ModuleFunc p index) args n store trail =
    enter s (call_within s room) p (body_of s p index) (func_type s (ModuleFunc p index)) args n store trail
