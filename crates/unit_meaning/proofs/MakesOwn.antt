-- Code changes only objects that are made, and a module's tasks make only its own: of a module of which
-- nothing is made, nothing is made by others.
use Rattle.unit_meaning.proofs.Common.{reverse, take, equal_types, types_of, ImportKind, ◌≡◌, ℕ, zero, suc, Bool, true, false, ◌≢◌, List}
use Rattle.unit_meaning.proofs.Common.{[], ◌∷◌, ◌++◌, length, drop, slice_get, slice_set, Some, None, Option, sym, refl, ap, ◌∙◌, ⊤}
use Rattle.unit_meaning.proofs.Common.{if_found, Ask, Event, Gave, Reply, Trail, bits, equal_func_types, is_result, zeros, FuncType}
use Rattle.unit_meaning.proofs.Common.{TrapKind, ValType, Value, I32, I64, declared_locals, Code, GlobalGet, I32Const, I64Const, Kind}
use Rattle.unit_meaning.proofs.Common.{end_code, then_code, BodyEntry, ElementEntry, Import, ImportMemory, ImportTable, SegmentEntry, Back}
use Rattle.unit_meaning.proofs.Common.{CallStops, Called, GlobalAddress, LinkedSet, ModuleFunc, as_memory, as_table, func_at, global_at}
use Rattle.unit_meaning.proofs.Common.{import_at, memory_at, table_at, type_at, and_then, do_tasks}
use Rattle.w2c_base.specs.declared.value.ValType.TheVariants as type
use Rattle.w2c_base.specs.declared.trap.TrapKind.TheVariants as trap
use Rattle.wasm_tree.specs.Instructions.{Otherwise, no_else, else_code, Unreachable, Nop, Return, Drop, Select, MemorySize, MemoryGrow}
use Rattle.wasm_tree.specs.Instructions.{MemoryCopy, MemoryFill, Block, Loop, If, Br, BrIf, BrTable, Call, CallIndirect, LocalGet, LocalSet}
use Rattle.wasm_tree.specs.Instructions.{LocalTee, GlobalSet, Load, Store, Eqz, Compare, Unary, Binary, I32WrapI64, I64ExtendI32S}
use Rattle.wasm_tree.specs.Instructions.{I64ExtendI32U, Extend}
use Rattle.wasm_tree.specs.Accesses.{extend_type}
use Rattle.wasm_meaning.specs.Operators.{Answer, Gives, Traps, binary}
use Rattle.wasm_meaning.specs.LinkedSet.{FuncAddress, HostFunc, func_type, body_of}
use Rattle.wasm_meaning.specs.Store as store
use Rattle.wasm_meaning.specs.Execution as exec
use Rattle.wasm_meaning.specs.Execution.{Result, Normal, Branch, Returned, Stops, Calls, Done, Leaves, NoRule}
use Rattle.wasm_meaning.specs.Run as wasm
use Rattle.unit_meaning.proofs.Untouched.{store_of, TasksMakeOwn}
use Rattle.c_meaning.proofs.StepsKeep.{either_way, where_there}
use Rattle.init_meaning.proofs.OwnObjects.{set_others}

abbrev state_of : Result → store.State
state_of (Normal left stack state) = state
state_of (Branch label left stack state) = state
state_of (Returned left stack state) = state
state_of (Stops why state) = state

module _ (v : ℕ) where
  -- nothing is made of the module with number v
  abbrev Kept : store.Store → Type 0
  Kept made = slice_get made v ≡ Some store.no_objects

  -- ---- changes of a store

  -- of another module
  changed_other : (made : store.Store) (owner : ℕ) (change : store.Objects → store.Objects) → v ≢ owner → Kept made
      → Kept (store.with_objects made owner change)
  changed_other made owner change differ kept =
      where_there Kept (slice_get made owner) kept (λ o is. set_others made owner v (change o) differ ∙ kept)

  -- of an object that has something
  changed : {A : Type 0} (part : store.Objects → Option A) (made : store.Store) (owner : ℕ) (old : A)
      (change : store.Objects → store.Objects) → part store.no_objects ≡ None → if_found (slice_get made owner) part ≡ Some old → Kept made
      → Kept (store.with_objects made owner change)
  changed part made owner old change none found kept = changed_other made owner change (λ same.
      let is : part store.no_objects ≡ Some old
      = sym (ap (λ (o : Option store.Objects). if_found o part) (ap (slice_get made) (sym same) ∙ kept)) ∙ found in cc) kept

  memory_changed : (made : store.Store) (owner : ℕ) (old new : store.Memory) → store.memory_in made owner ≡ Some old → Kept made
      → Kept (store.with_memory made owner new)
  memory_changed made owner old new = changed (λ (o : store.Objects). o.memory) made owner old _ refl

  table_changed : (made : store.Store) (owner : ℕ) (old new : store.Table) → store.table_in made owner ≡ Some old → Kept made
      → Kept (store.with_table made owner new)
  table_changed made owner old new = changed (λ (o : store.Objects). o.table) made owner old _ refl

  global_changed : (made : store.Store) (g : GlobalAddress) (old new : Value) → store.global_in made g ≡ Some old → Kept made
      → Kept (store.with_global made g new)
  global_changed made g old new = changed (λ (o : store.Objects). slice_get o.globals g.number) made g.owner old _ refl

  -- ---- instructions without control

  abbrev DoneKept : Done → Type 0
  DoneKept (Leaves stack state) = Kept state.store
  DoneKept _ = ⊤

  one_kept : (t : ValType) (stack : List Value) (go : ℕ → List Value → Done) → ((x : ℕ) (under : List Value) → DoneKept (go x under))
      → DoneKept (exec.one_operand t stack go)
  one_kept type.I32 (I32 x ∷ stack) go h = h x stack
  one_kept type.I64 (I64 x ∷ stack) go h = h x stack
  one_kept _ _ go h = tt

  two_kept : (t : ValType) (stack : List Value) (go : ℕ → ℕ → List Value → Done)
      → ((x y : ℕ) (under : List Value) → DoneKept (go x y under)) → DoneKept (exec.two_operands t stack go)
  two_kept type.I32 (I32 y ∷ I32 x ∷ stack) go h = h x y stack
  two_kept type.I64 (I64 y ∷ I64 x ∷ stack) go h = h x y stack
  two_kept _ _ go h = tt

  answered_kept : (t : ValType) (a : Answer) (stack : List Value) (state : store.State) → Kept state.store
      → DoneKept (exec.answered t a stack state)
  answered_kept t (Gives n) stack state kept = kept
  answered_kept t (Traps kind) stack state kept = tt

  selected_kept : (stack : List Value) (state : store.State) → Kept state.store → DoneKept (exec.selected stack state)
  selected_kept (I32 zero ∷ second ∷ first ∷ stack) state kept =
      either_way DoneKept _ {x = Leaves (second ∷ stack) state} {y = NoRule} kept tt
  selected_kept (I32 (suc c) ∷ second ∷ first ∷ stack) state kept =
      either_way DoneKept _ {x = Leaves (first ∷ stack) state} {y = NoRule} kept tt
  selected_kept _ state kept = tt

  pushed_kept : (o : Option Value) (stack : List Value) (state : store.State) → Kept state.store → DoneKept (exec.pushed o stack state)
  pushed_kept None stack state kept = tt
  pushed_kept (Some x) stack state kept = kept

  local_kept : (index : ℕ) (x : Value) (stack : List Value) (state : store.State) → Kept state.store
      → DoneKept (exec.local_set index x stack state)
  local_kept index x stack state kept = where_there DoneKept (slice_get state.locals index) tt (λ old is.
      either_way DoneKept _ {x = Leaves stack (exec.in_locals state (slice_set state.locals index x))} {y = NoRule} kept tt)

  global_kept : (s : LinkedSet) (g : Option GlobalAddress) (x : Value) (stack : List Value) (state : store.State) → Kept state.store
      → DoneKept (exec.global_set s g x stack state)
  global_kept s None x stack state kept = tt
  global_kept s (Some g) x stack state kept = where_there DoneKept (store.global_in state.store g) tt (λ old found.
      either_way DoneKept (exec.may_set s g x) (global_changed state.store g old x found kept) tt)

  on_memory_kept : (at : Option ℕ) (state : store.State) (go : ℕ → store.Memory → Done)
      → ((owner : ℕ) (m : store.Memory) → store.memory_in state.store owner ≡ Some m → DoneKept (go owner m))
      → DoneKept (exec.on_memory at state go)
  on_memory_kept None state go h = tt
  on_memory_kept (Some owner) state go h = where_there DoneKept (store.memory_in state.store owner) tt (h owner)

  written_kept : (owner : ℕ) (m : store.Memory) (bytes : Option (List ℕ)) (stack : List Value) (state : store.State)
      → Kept state.store → store.memory_in state.store owner ≡ Some m → DoneKept (exec.written owner m bytes stack state)
  written_kept owner m None stack state kept found = tt
  written_kept owner m (Some bytes) stack state kept found =
      memory_changed state.store owner m (record { bytes = bytes; max = m.max }) found kept

  plain_kept : (s : LinkedSet) (p : ℕ) (kind : Kind) (stack : List Value) (state : store.State) → Kept state.store
      → DoneKept (exec.plain s p kind stack state)
  plain_kept s p (I32Const z) stack state kept = kept
  plain_kept s p (I64Const z) stack state kept = kept
  plain_kept s p (Eqz t) stack state kept = one_kept t stack _ (λ x under. kept)
  plain_kept s p (Compare t op) stack state kept = two_kept t stack _ (λ x y under. kept)
  plain_kept s p (Unary t op) stack state kept = one_kept t stack _ (λ x under. kept)
  plain_kept s p (Binary t op) stack state kept =
      two_kept t stack _ (λ x y under. answered_kept t (binary op (bits t) x y) under state kept)
  plain_kept s p I32WrapI64 (I64 x ∷ stack) state kept = kept
  plain_kept s p I64ExtendI32S (I32 x ∷ stack) state kept = kept
  plain_kept s p I64ExtendI32U (I32 x ∷ stack) state kept = kept
  plain_kept s p (Extend op) stack state kept = one_kept (extend_type op) stack _ (λ x under. kept)
  plain_kept s p Select stack state kept = selected_kept stack state kept
  plain_kept s p (LocalGet index) stack state kept = pushed_kept (slice_get state.locals index) stack state kept
  plain_kept s p (LocalSet index) (x ∷ stack) state kept = local_kept index x stack state kept
  plain_kept s p (LocalTee index) (x ∷ stack) state kept = local_kept index x (x ∷ stack) state kept
  plain_kept s p (GlobalGet index) stack state kept =
      pushed_kept (if_found (global_at s p index) (store.global_in state.store)) stack state kept
  plain_kept s p (GlobalSet index) (x ∷ stack) state kept = global_kept s (global_at s p index) x stack state kept
  plain_kept s p (Load op arg) (I32 base ∷ stack) state kept =
      on_memory_kept (memory_at s p 0) state _ (λ owner m found. answered_kept _ _ stack state kept)
  plain_kept s p (Store op arg) (x ∷ I32 base ∷ stack) state kept = either_way DoneKept _ {y = NoRule}
      (on_memory_kept (memory_at s p 0) state _ (λ owner m found. written_kept owner m _ stack state kept found)) tt
  plain_kept s p MemorySize stack state kept = on_memory_kept (memory_at s p 0) state _ (λ owner m found. kept)
  plain_kept s p MemoryGrow (I32 more ∷ stack) state kept =
      on_memory_kept (memory_at s p 0) state _ (λ owner m found. where_there DoneKept (store.grown m more) kept
      (λ new is. memory_changed state.store owner m new found kept))
  plain_kept s p MemoryCopy (I32 count ∷ I32 from ∷ I32 to ∷ stack) state kept =
      on_memory_kept (memory_at s p 0) state _ (λ owner m found. written_kept owner m _ stack state kept found)
  plain_kept s p MemoryFill (I32 count ∷ I32 n ∷ I32 to ∷ stack) state kept =
      on_memory_kept (memory_at s p 0) state _ (λ owner m found. written_kept owner m _ stack state kept found)
  plain_kept s p _ stack state kept = tt

  -- ---- control

  abbrev ResultKept : Result → Type 0
  ResultKept r = Kept (state_of r).store

  spent : (n : ℕ) (state : store.State) (go : ℕ → Result) → Kept state.store → ((m : ℕ) → ResultKept (go m))
      → ResultKept (exec.spend n state go)
  spent zero state go kept h = kept
  spent (suc n) state go kept h = h n

  all_spent : (count n : ℕ) (state : store.State) (go : ℕ → Result) → Kept state.store → ((m : ℕ) → ResultKept (go m))
      → ResultKept (exec.spend_all count n state go)
  all_spent zero n state go kept h = h n
  all_spent (suc count) n state go kept h = spent n state _ kept (λ m. all_spent count m state go kept h)

  did_kept : (count n : ℕ) (state : store.State) (o : Done) → Kept state.store → DoneKept o → ResultKept (exec.did_all count n state o)
  did_kept count n state (Leaves stack after) kept h = all_spent count n state (λ left. Normal left stack after) kept (λ m. h)
  did_kept count n state _ kept h = kept

  dropped_kept : (n : ℕ) (stack : List Value) (state : store.State) → Kept state.store → ResultKept (exec.dropped n stack state)
  dropped_kept n [] state kept = kept
  dropped_kept n (x ∷ stack) state kept = kept

  and_then_kept : (r : Result) (go : ℕ → List Value → store.State → Result) → ResultKept r
      → ((n : ℕ) (stack : List Value) (state : store.State) → Kept state.store → ResultKept (go n stack state))
      → ResultKept (exec.and_then r go)
  and_then_kept (Normal n stack state) go kept h = h n stack state kept
  and_then_kept _ go kept h = kept

  onto_kept : (n : ℕ) (values : Option (List Value)) (under : List Value) (state : store.State) → Kept state.store
      → ResultKept (exec.onto n values under state)
  onto_kept n None under state kept = kept
  onto_kept n (Some values) under state kept = kept

  ended_kept : (jump : ℕ → List Value → store.State → Result) (under : List Value) (r : Result) → ResultKept r
      → ((n : ℕ) (stack : List Value) (state : store.State) → Kept state.store → ResultKept (jump n stack state))
      → ResultKept (exec.ended jump under r)
  ended_kept jump under (Branch zero n stack state) kept h = h n stack state kept
  ended_kept jump under _ kept h = kept

  leave_kept : (t : Option ValType) (under : List Value) (r : Result) → ResultKept r → ResultKept (exec.leave t under r)
  leave_kept t under r kept = ended_kept _ under r kept (λ n stack state kept. onto_kept n (exec.top t stack) under state kept)

  turns_kept : (k : ℕ) (body : ℕ → store.State → Result) → ((n : ℕ) (state : store.State) → Kept state.store → ResultKept (body n state))
      → (under : List Value) (n : ℕ) (state : store.State) → Kept state.store → ResultKept (exec.turns k body under n state)
  turns_kept zero body h under n state kept = kept
  turns_kept (suc k) body h under n state kept =
      ended_kept _ under (body n state) (h n state kept) (λ n stack state kept. turns_kept k body h under n state kept)

  choose_kept : (stack : List Value) (state : store.State) (first second : List Value → Result) → Kept state.store
      → ((rest : List Value) → ResultKept (first rest)) → ((rest : List Value) → ResultKept (second rest))
      → ResultKept (exec.choose stack state first second)
  choose_kept (I32 zero ∷ stack) state first second kept h k = k stack
  choose_kept (I32 (suc c) ∷ stack) state first second kept h k = h stack
  choose_kept _ state first second kept h k = kept

  pick_kept : (stack : List Value) (state : store.State) (labels : List ℕ) (default : ℕ) (go : ℕ → List Value → Result) → Kept state.store
      → ((label : ℕ) (rest : List Value) → ResultKept (go label rest)) → ResultKept (exec.pick stack state labels default go)
  pick_kept (I32 i ∷ stack) state labels default go kept h = h _ stack
  pick_kept _ state labels default go kept h = kept

  -- ---- calls

  abbrev CallKept : Called → Type 0
  CallKept o = Kept (store_of o)

  abbrev CallsKept : Calls → Type 0
  CallsKept calls = (f : FuncAddress) (args : List Value) (n : ℕ) (made : store.Store) (trail : Trail) → Kept made
      → CallKept (calls f args n made trail)

  came_back_kept : (o : Called) (stack : List Value) (state : store.State) → CallKept o → ResultKept (exec.came_back o stack state)
  came_back_kept (Back n x new trail) stack state kept = kept
  came_back_kept (CallStops why new trail) stack state kept = kept

  gave_kept : (result : Option (Option Value)) (n : ℕ) (state : store.State) → Kept state.store → CallKept (exec.gave result n state)
  gave_kept None n state kept = kept
  gave_kept (Some result) n state kept = kept

  finish_kept : (t : Option ValType) (r : Result) → ResultKept r → CallKept (exec.finish t r)
  finish_kept t (Normal n stack state) kept = gave_kept (exec.gives_all t stack) n state kept
  finish_kept t (Branch zero n stack state) kept = gave_kept (exec.gives_top t stack) n state kept
  finish_kept t (Returned n stack state) kept = gave_kept (exec.gives_top t stack) n state kept
  finish_kept t _ kept = kept

  module _ (s : LinkedSet) (calls : Calls) (h : CallsKept calls) where
    invoke_kept : (f : FuncAddress) (params : List ValType) (n : ℕ) (stack : List Value) (state : store.State) → Kept state.store
        → ResultKept (exec.invoke calls f params n stack state)
    invoke_kept f params n stack state kept =
        let args : List Value = reverse (take (length params) stack) in
        let back : Called = calls f args n state.store state.trail in
        either_way ResultKept (equal_types params (types_of args))
        (came_back_kept back (drop (length params) stack) state (h f args n state.store state.trail kept)) kept

    call_kept : (f : Option FuncAddress) (n : ℕ) (stack : List Value) (state : store.State) → Kept state.store
        → ResultKept (exec.call s calls f n stack state)
    call_kept None n stack state kept = kept
    call_kept (Some f) n stack state kept =
        where_there ResultKept (func_type s f) kept (λ ty is. invoke_kept f ty.params n stack state kept)

    element_kept : (e : Option (Option FuncAddress)) (want : FuncType) (n : ℕ) (stack : List Value) (state : store.State)
        → Kept state.store → ResultKept (exec.call_element s calls e want n stack state)
    element_kept (Some (Some f)) want n stack state kept = where_there ResultKept (func_type s f) kept (λ ty is.
        either_way ResultKept (equal_func_types ty want) (invoke_kept f ty.params n stack state kept) kept)
    element_kept _ want n stack state kept = kept

    indirect_kept : (t : Option store.Table) (want : Option FuncType) (n : ℕ) (stack : List Value) (state : store.State)
        → Kept state.store → ResultKept (exec.call_indirect s calls t want n stack state)
    indirect_kept (Some t) (Some want) n (I32 i ∷ stack) state kept = element_kept (slice_get t.elements i) want n stack state kept
    indirect_kept _ _ n _ state kept = kept

    mutual
      code_kept : (p : ℕ) (code : Code) (n : ℕ) (stack : List Value) (state : store.State) → Kept state.store
          → ResultKept (exec.exec s calls p code n stack state)
      code_kept p end_code n stack state kept = kept
      code_kept p (then_code place kind code) n stack state kept =
          and_then_kept (exec.exec_kind s calls p kind n stack state) (exec.exec s calls p code) (kind_kept p kind n stack state kept)
          (λ m stack state kept. code_kept p code m stack state kept)

      kind_kept : (p : ℕ) (kind : Kind) (n : ℕ) (stack : List Value) (state : store.State) → Kept state.store
          → ResultKept (exec.exec_kind s calls p kind n stack state)
      kind_kept p Nop n stack state kept = kept
      kind_kept p Drop n stack state kept = dropped_kept n stack state kept
      kind_kept p (Block t code end_place) n stack state kept =
          leave_kept t stack (exec.exec s calls p code n [] state) (code_kept p code n [] state kept)
      kind_kept p (Loop t code end_place) n stack state kept =
          turns_kept (suc n) (λ left. exec.exec s calls p code left []) (λ m state kept. code_kept p code m [] state kept) stack n state
          kept
      kind_kept p (If t code otherwise end_place) n stack state kept =
          spent n state _ kept (λ m. choose_kept stack state _ _ kept
          (λ under. leave_kept t under (exec.exec s calls p code m [] state) (code_kept p code m [] state kept))
          (λ under. leave_kept t under (exec.exec_else s calls p otherwise m state) (else_kept p otherwise m state kept)))
      kind_kept p Unreachable n stack state kept = spent n state _ kept (λ m. kept)
      kind_kept p (Br label) n stack state kept = spent n state _ kept (λ m. kept)
      kind_kept p (BrIf label) n stack state kept =
          spent n state _ kept (λ m. choose_kept stack state _ _ kept (λ rest. kept) (λ rest. kept))
      kind_kept p (BrTable labels default) n stack state kept =
          spent n state _ kept (λ m. pick_kept stack state labels default _ kept (λ label rest. kept))
      kind_kept p Return n stack state kept = spent n state _ kept (λ m. kept)
      kind_kept p (Call index) n stack state kept = spent n state _ kept (λ m. call_kept (func_at s p index) m stack state kept)
      kind_kept p (CallIndirect type_index) n stack state kept =
          spent n state _ kept (λ m. indirect_kept (if_found (table_at s p 0) (store.table_in state.store)) (type_at s p type_index) m stack
          state kept)
      kind_kept p MemoryCopy n stack state kept =
          spent n state _ kept (λ m. did_kept (exec.count_on stack) m state _ kept (plain_kept s p MemoryCopy stack state kept))
      kind_kept p MemoryFill n stack state kept =
          spent n state _ kept (λ m. did_kept (exec.count_on stack) m state _ kept (plain_kept s p MemoryFill stack state kept))
      kind_kept p kind n stack state kept =
          spent n state _ kept (λ m. did_kept 0 m state (exec.plain s p kind stack state) kept (plain_kept s p kind stack state kept))

      else_kept : (p : ℕ) (otherwise : Otherwise) (n : ℕ) (state : store.State) → Kept state.store
          → ResultKept (exec.exec_else s calls p otherwise n state)
      else_kept p no_else n state kept = kept
      else_kept p (else_code place code) n state kept = code_kept p code n [] state kept

    enter_kept : (p : ℕ) (body : Option BodyEntry) (ty : Option FuncType) (args : List Value) (n : ℕ) (made : store.Store) (trail : Trail)
        → Kept made → CallKept (exec.enter s calls p body ty args n made trail)
    enter_kept p (Some body) (Some ty) args n made trail kept =
        let state : store.State = record { locals = args ++ zeros (declared_locals body.runs); store = made; trail = trail } in
        finish_kept ty.result (exec.exec s calls p body.code n [] state) (code_kept p body.code n [] state kept)
    enter_kept p _ _ args n made trail kept = kept

  replied_kept : (ty : Option FuncType) (replies : List Reply) (before : List Event) (a : Ask) (n : ℕ) (made : store.Store)
      → Kept made → CallKept (exec.replied ty replies before a n made)
  replied_kept (Some ty) (Gave result ∷ replies) before a n made kept = either_way CallKept (is_result ty.result result) kept kept
  replied_kept _ _ before a n made kept = kept

  calls_kept : (s : LinkedSet) (room : ℕ) → CallsKept (exec.call_within s room)
  calls_kept s zero (HostFunc h f) args n made trail kept =
      replied_kept (func_type s (HostFunc h f)) trail.replies trail.events _ n made kept
  calls_kept s (suc room) (HostFunc h f) args n made trail kept =
      replied_kept (func_type s (HostFunc h f)) trail.replies trail.events _ n made kept
  calls_kept s zero (ModuleFunc p index) args n made trail kept = kept
  calls_kept s (suc room) (ModuleFunc p index) args n made trail kept = enter_kept s (exec.call_within s room) (calls_kept s room) p
      (body_of s p index) (func_type s (ModuleFunc p index)) args n made trail kept

  -- ---- tasks

  found_kept : {A : Type 0} (o : Option A) (made : store.Store) (trail : Trail) (go : A → Called) → Kept made
      → ((a : A) → o ≡ Some a → CallKept (go a)) → CallKept (wasm.with_found o made trail go)
  found_kept None made trail go kept h = kept
  found_kept (Some a) made trail go kept h = h a refl

  tested_kept : (passes : Bool) (kind : TrapKind) (n : ℕ) (made : store.Store) (trail : Trail) → Kept made
      → CallKept (wasm.tested passes kind n made trail)
  tested_kept passes kind n made trail kept = either_way CallKept passes kept kept

  table_kept : (s : LinkedSet) (p : ℕ) (e : ElementEntry) (made : store.Store) (trail : Trail) (go : ℕ → store.Table → ℕ → Called)
      → Kept made → ((owner : ℕ) (t : store.Table) (offset : ℕ) → store.table_in made owner ≡ Some t → CallKept (go owner t offset))
      → CallKept (wasm.with_table_at s p e made trail go)
  table_kept s p e made trail go kept h =
      found_kept (table_at s p e.table) made trail _ kept (λ owner there.
      found_kept (store.table_in made owner) made trail _ kept (λ t found.
      found_kept (if_found (wasm.constant_of s p made e.offset) wasm.as_offset) made trail _ kept (λ offset is. h owner t offset found)))

  memory_kept : (s : LinkedSet) (p : ℕ) (e : SegmentEntry) (made : store.Store) (trail : Trail) (go : ℕ → store.Memory → ℕ → Called)
      → Kept made → ((owner : ℕ) (m : store.Memory) (offset : ℕ) → store.memory_in made owner ≡ Some m → CallKept (go owner m offset))
      → CallKept (wasm.with_memory_at s p e made trail go)
  memory_kept s p e made trail go kept h =
      found_kept (memory_at s p e.memory) made trail _ kept (λ owner there.
      found_kept (store.memory_in made owner) made trail _ kept (λ m found.
      found_kept (if_found (wasm.constant_of s p made e.offset) wasm.as_offset) made trail _ kept (λ offset is. h owner m offset found)))

  taken_kept : (s : LinkedSet) (p : ℕ) (i : Import) (kind : ImportKind) (n : ℕ) (made : store.Store) (trail : Trail) → Kept made
      → CallKept (wasm.taken_import s p (record i { kind = kind }) n made trail)
  taken_kept s p i (ImportTable want) n made trail kept =
      found_kept (if_found (if_found (import_at s p i) as_table) (store.table_in made)) made trail _ kept
      (λ t is. tested_kept _ trap.ImportLimits n made trail kept)
  taken_kept s p i (ImportMemory want) n made trail kept =
      found_kept (if_found (if_found (import_at s p i) as_memory) (store.memory_in made)) made trail _ kept
      (λ t is. tested_kept _ trap.ImportLimits n made trail kept)
  taken_kept s p i _ n made trail kept = kept

  task_kept : (s : LinkedSet) (p : ℕ) (t : wasm.Task) (n : ℕ) (made : store.Store) (trail : Trail) → v ≢ p → Kept made
      → CallKept (wasm.do_task s p t n made trail)
  task_kept s p wasm.Begin n made trail differ kept = kept
  task_kept s p (wasm.Take i) n made trail differ kept = taken_kept s p i i.kind n made trail kept
  task_kept s p (wasm.MakeGlobal ty initial) n made trail differ kept =
      found_kept (wasm.first_value s p made ty initial) made trail _ kept (λ x is. changed_other made p _ differ kept)
  task_kept s p (wasm.TestElements e) n made trail differ kept =
      table_kept s p e made trail _ kept (λ owner t offset found. tested_kept _ trap.SegmentOut n made trail kept)
  task_kept s p (wasm.TestData e) n made trail differ kept =
      memory_kept s p e made trail _ kept (λ owner m offset found. tested_kept _ trap.SegmentOut n made trail kept)
  task_kept s p (wasm.WriteElement e number func) n made trail differ kept = table_kept s p e made trail _ kept (λ owner t offset found.
      found_kept (func_at s p func) made trail _ kept (λ f is. table_changed made owner t _ found kept))
  task_kept s p (wasm.WriteByte e number byte) n made trail differ kept =
      memory_kept s p e made trail _ kept (λ owner m offset found. memory_changed made owner m _ found kept)
  task_kept s p (wasm.CallStart func) n made trail differ kept =
      found_kept (func_at s p func) made trail _ kept (λ f is. calls_kept s 1024 f [] n made trail kept)
  task_kept s p (wasm.CallExport c) n made trail differ kept =
      found_kept (wasm.called_func s c) made trail _ kept (λ f is. calls_kept s 1024 f c.args n made trail kept)
  task_kept s p _ n made trail differ kept = changed_other made p _ differ kept

  paid_kept : (free : Bool) (n : ℕ) (made : store.Store) (trail : Trail) (go : ℕ → Called) → Kept made → ((m : ℕ) → CallKept (go m))
      → CallKept (wasm.paid free n made trail go)
  paid_kept true n made trail go kept h = h n
  paid_kept false zero made trail go kept h = kept
  paid_kept false (suc n) made trail go kept h = h n

  then_kept : (o : Called) (go : ℕ → store.Store → Trail → Called) → CallKept o
      → ((n : ℕ) (made : store.Store) (trail : Trail) → Kept made → CallKept (go n made trail)) → CallKept (and_then o go)
  then_kept (Back left x made trail) go kept h = h left made trail kept
  then_kept (CallStops why made trail) go kept h = kept

pub tasks_make_own : TasksMakeOwn
tasks_make_own s u v [] n made trail differ kept = kept
tasks_make_own s u v (t ∷ tasks) n made trail differ kept =
    then_kept v (wasm.paid (wasm.is_free t) n made trail (λ left. wasm.do_task s u t left made trail)) (do_tasks s u tasks)
    (paid_kept v (wasm.is_free t) n made trail _ kept (λ m. task_kept v s u t m made trail differ kept))
    (λ m made trail kept. tasks_make_own s u v tasks m made trail differ kept)
