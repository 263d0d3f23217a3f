-- A larger budget changes nothing but what is left of it, where the smaller one was enough.
use Rattle.wasm_meaning.proofs.Common.{◌≡◌, ℕ, zero, suc, ◌+◌, ◌≤◌, Bool, true, false, List, [], ◌∷◌, ◌++◌, reverse, length, take, drop}
use Rattle.wasm_meaning.proofs.Common.{if◌then◌else◌, slice_get, Some, None, Option, unwrap_or, sym, refl, ap, subst, arith, if_found, Ask}
use Rattle.wasm_meaning.proofs.Common.{Event, Gave, HostTrapped, Reply, Trail, asked, equal_func_types, equal_types, is_result, types_of}
use Rattle.wasm_meaning.proofs.Common.{zeros, FuncType, Signature, ValType, Value, Asks, Back, Branch, CallStops, Called, Calls, Done}
use Rattle.wasm_meaning.proofs.Common.{Leaves, Normal, OutOfSteps, Result, Returned, Stop, Stops, Stuck, Trapped, and_then, call}
use Rattle.wasm_meaning.proofs.Common.{call_element, call_indirect, call_within, came_back, choose, count_on, did, did_all, dropped, enter}
use Rattle.wasm_meaning.proofs.Common.{exec, exec_else, exec_kind, finish, gave, gives_all, gives_top, invoke, leave, onto, pick, plain}
use Rattle.wasm_meaning.proofs.Common.{replied, spend, spend_all, top, turn, turns, FuncAddress, HostFunc, LinkedSet, ModuleFunc, body_of}
use Rattle.wasm_meaning.proofs.Common.{func_at, func_type, table_at, type_at}
use Rattle.std.specs.Prelude.{⊤}
use Rattle.w2c_base.specs.declared.value.Value.TheVariants.{I32, I64}
use Rattle.w2c_base.specs.declared.trap.TrapKind.TheVariants as trap
use Rattle.wasm_tree.specs.Instructions.{Code, end_code, then_code, Kind, Otherwise, no_else, else_code, Unreachable, Nop, Return, Drop}
use Rattle.wasm_tree.specs.Instructions.{Block, Loop, If, Br, BrIf, BrTable, Call, CallIndirect, MemoryCopy, MemoryFill}
use Rattle.wasm_tree.specs.declared.entries.BodyEntry.{BodyEntry}
use Rattle.wasm_tree.specs.IndexSpaces.{declared_locals}
use Rattle.wasm_meaning.specs.Store as store

-- the second is the first with so much more left, where the first was not out of steps
abbrev pub Longer : ℕ → Result → Result → Type 0
Longer d (Normal n stack state) r = r ≡ Normal (n + d) stack state
Longer d (Branch label n stack state) r = r ≡ Branch label (n + d) stack state
Longer d (Returned n stack state) r = r ≡ Returned (n + d) stack state
Longer d (Stops OutOfSteps state) r = ⊤
Longer d (Stops (Trapped kind) state) r = r ≡ Stops (Trapped kind) state
Longer d (Stops Asks state) r = r ≡ Stops Asks state
Longer d (Stops Stuck state) r = r ≡ Stops Stuck state

-- the same of calls
abbrev pub LongerCall : ℕ → Called → Called → Type 0
LongerCall d (Back n value made trail) r = r ≡ Back (n + d) value made trail
LongerCall d (CallStops OutOfSteps made trail) r = ⊤
LongerCall d (CallStops (Trapped kind) made trail) r = r ≡ CallStops (Trapped kind) made trail
LongerCall d (CallStops Asks made trail) r = r ≡ CallStops Asks made trail
LongerCall d (CallStops Stuck made trail) r = r ≡ CallStops Stuck made trail

-- functions whose calls are so
abbrev pub LongerCalls : ℕ → Calls → Type 0
LongerCalls d calls = (f : FuncAddress) (args : List Value) (n : ℕ) (made : store.Store) (trail : Trail)
    → LongerCall d (calls f args n made trail) (calls f args (n + d) made trail)

-- a stop that is no want of steps is the same
stopped : (d : ℕ) (why : Stop) (state : store.State) → Longer d (Stops why state) (Stops why state)
stopped d OutOfSteps state = tt
stopped d _ state = refl

spent : (d n : ℕ) (state : store.State) (go : ℕ → Result) → ((m : ℕ) → Longer d (go m) (go (m + d)))
    → Longer d (spend n state go) (spend (n + d) state go)
spent d zero state go h = tt
spent d (suc n) state go h = let e : suc n + d ≡ suc (n + d) = omega arith in rw e (h n)

did_longer : (d n : ℕ) (state : store.State) (o : Done) → Longer d (did n state o) (did (n + d) state o)
did_longer d n state (Leaves stack after) = refl
did_longer d n state _ = refl

spent_all : (d count n : ℕ) (state : store.State) (go : ℕ → Result) → ((m : ℕ) → Longer d (go m) (go (m + d)))
    → Longer d (spend_all count n state go) (spend_all count (n + d) state go)
spent_all d zero n state go h = h n
spent_all d (suc count) n state go h =
    spent d n state (λ left. spend_all count left state go) (λ m. spent_all d count m state go h)

did_all_longer : (d count n : ℕ) (state : store.State) (o : Done) → Longer d (did_all count n state o) (did_all count (n + d) state o)
did_all_longer d count n state (Leaves stack after) = spent_all d count n state (λ left. Normal left stack after) (λ m. refl)
did_all_longer d count n state _ = refl

and_then_longer : (d : ℕ) (r s : Result) (go : ℕ → List Value → store.State → Result) → Longer d r s
    → ((n : ℕ) (stack : List Value) (state : store.State) → Longer d (go n stack state) (go (n + d) stack state))
    → Longer d (and_then r go) (and_then s go)
and_then_longer d (Normal n stack state) s go e h = subst (λ t. Longer d (go n stack state) (and_then t go)) (sym e) (h n stack state)
and_then_longer d (Stops (Trapped kind) state) s go e h = ap (λ t. and_then t go) e
and_then_longer d (Stops Asks state) s go e h = ap (λ t. and_then t go) e
and_then_longer d (Stops OutOfSteps state) s go e h = tt
and_then_longer d (Stops Stuck state) s go e h = ap (λ t. and_then t go) e
and_then_longer d _ s go e h = ap (λ t. and_then t go) e

onto_longer : (d n : ℕ) (values : Option (List Value)) (under : List Value) (state : store.State)
    → Longer d (onto n values under state) (onto (n + d) values under state)
onto_longer d n None under state = refl
onto_longer d n (Some values) under state = refl

leave_longer : (d : ℕ) (t : Option ValType) (under : List Value) (r s : Result) → Longer d r s
    → Longer d (leave t under r) (leave t under s)
leave_longer d t under (Branch zero n stack state) s e =
    subst (λ o. Longer d (onto n (top t stack) under state) (leave t under o)) (sym e) (onto_longer d n (top t stack) under state)
leave_longer d t under (Branch (suc label) n stack state) s e = ap (leave t under) e
leave_longer d t under (Stops (Trapped kind) state) s e = ap (leave t under) e
leave_longer d t under (Stops Asks state) s e = ap (leave t under) e
leave_longer d t under (Stops OutOfSteps state) s e = tt
leave_longer d t under (Stops Stuck state) s e = ap (leave t under) e
leave_longer d t under _ s e = ap (leave t under) e

turn_longer : (d : ℕ) (again other : ℕ → store.State → Result) (under : List Value) (r s : Result) → Longer d r s
    → ((n : ℕ) (state : store.State) → Longer d (again n state) (other (n + d) state))
    → Longer d (turn again under r) (turn other under s)
turn_longer d again other under (Branch zero n stack state) s e h =
    subst (λ o. Longer d (again n state) (turn other under o)) (sym e) (h n state)
turn_longer d again other under (Branch (suc label) n stack state) s e h = ap (turn other under) e
turn_longer d again other under (Stops (Trapped kind) state) s e h = ap (turn other under) e
turn_longer d again other under (Stops Asks state) s e h = ap (turn other under) e
turn_longer d again other under (Stops OutOfSteps state) s e h = tt
turn_longer d again other under (Stops Stuck state) s e h = ap (turn other under) e
turn_longer d again other under _ s e h = ap (turn other under) e

-- with at least as many turns
turns_longer : (d k j : ℕ) → k ≤ j → (body : ℕ → store.State → Result)
    → ((n : ℕ) (state : store.State) → Longer d (body n state) (body (n + d) state)) → (under : List Value) (n : ℕ) (state : store.State)
    → Longer d (turns k body under n state) (turns j body under (n + d) state)
turns_longer d zero j le body h under n state = tt
turns_longer d (suc k) zero le body h under n state = absurd (omega arith)
turns_longer d (suc k) (suc j) le body h under n state = turn_longer d (turns k body under) (turns j body under) under (body n state)
    (body (n + d) state) (h n state) (turns_longer d k j (omega arith) body h under)

choose_longer : (d : ℕ) (stack : List Value) (state : store.State) (first second first' second' : List Value → Result)
    → ((rest : List Value) → Longer d (first rest) (first' rest)) → ((rest : List Value) → Longer d (second rest) (second' rest))
    → Longer d (choose stack state first second) (choose stack state first' second')
choose_longer d [] state first second first' second' h k = refl
choose_longer d (I32 zero ∷ stack) state first second first' second' h k = k stack
choose_longer d (I32 (suc c) ∷ stack) state first second first' second' h k = h stack
choose_longer d (I64 c ∷ stack) state first second first' second' h k = refl

pick_longer : (d : ℕ) (stack : List Value) (state : store.State) (labels : List ℕ) (default : ℕ) (go go' : ℕ → List Value → Result)
    → ((label : ℕ) (rest : List Value) → Longer d (go label rest) (go' label rest))
    → Longer d (pick stack state labels default go) (pick stack state labels default go')
pick_longer d [] state labels default go go' h = refl
pick_longer d (I32 i ∷ stack) state labels default go go' h = h (unwrap_or (slice_get labels i) default) stack
pick_longer d (I64 i ∷ stack) state labels default go go' h = refl

dropped_longer : (d n : ℕ) (stack : List Value) (state : store.State) → Longer d (dropped n stack state) (dropped (n + d) stack state)
dropped_longer d n [] state = refl
dropped_longer d n (v ∷ stack) state = refl

came_back_longer : (d : ℕ) (c e : Called) (stack : List Value) (state : store.State) → LongerCall d c e
    → Longer d (came_back c stack state) (came_back e stack state)
came_back_longer d (Back n value made trail) e stack state h = ap (λ o. came_back o stack state) h
came_back_longer d (CallStops (Trapped kind) made trail) e stack state h = ap (λ o. came_back o stack state) h
came_back_longer d (CallStops OutOfSteps made trail) e stack state h = tt
came_back_longer d (CallStops _ made trail) e stack state h = ap (λ o. came_back o stack state) h

branch_longer : (d : ℕ) (b : Bool) (r s u v : Result) → Longer d r s → Longer d u v → Longer d (if b then r else u) (if b then s else v)
branch_longer d true r s u v h k = h
branch_longer d false r s u v h k = k

invoke_longer : (d : ℕ) (calls : Calls) → LongerCalls d calls
    → (f : FuncAddress) (params : List ValType) (n : ℕ) (stack : List Value) (state : store.State)
    → Longer d (invoke calls f params n stack state) (invoke calls f params (n + d) stack state)
invoke_longer d calls h f params n stack state =
    let args : List Value = reverse (take (length params) stack) in
    let under : List Value = drop (length params) stack in
    let one = calls f args n state.store state.trail in
    let other = calls f args (n + d) state.store state.trail in
    branch_longer d (equal_types params (types_of args))
    (came_back one under state) (came_back other under state)
    (Stops Stuck state) (Stops Stuck state)
    (came_back_longer d one other under state (h f args n state.store state.trail))
    (stopped d Stuck state)

call_longer : (d : ℕ) (s : LinkedSet) (calls : Calls) → LongerCalls d calls
    → (f : Option FuncAddress) (n : ℕ) (stack : List Value) (state : store.State)
    → Longer d (call s calls f n stack state) (call s calls f (n + d) stack state)
call_longer d s calls h None n stack state = refl
call_longer d s calls h (Some f) n stack state = go (func_type s f)
  where
    go : (ty : Option FuncType) → Longer d (elim ty [ None ↦ Stops Stuck state | Some ty ↦ invoke calls f ty.params n stack state ])
        (elim ty [ None ↦ Stops Stuck state | Some ty ↦ invoke calls f ty.params (n + d) stack state ])
    go None = refl
    go (Some ty) = invoke_longer d calls h f ty.params n stack state

call_element_longer : (d : ℕ) (s : LinkedSet) (calls : Calls) → LongerCalls d calls
    → (e : Option (Option FuncAddress)) (want : FuncType) (n : ℕ) (stack : List Value) (state : store.State)
    → Longer d (call_element s calls e want n stack state) (call_element s calls e want (n + d) stack state)
call_element_longer d s calls h None want n stack state = refl
call_element_longer d s calls h (Some None) want n stack state = refl
call_element_longer d s calls h (Some (Some f)) want n stack state = go (func_type s f)
  where
    go : (ty : Option FuncType) → Longer d (elim ty [
      | None ↦ Stops Stuck state
      | Some ty ↦ if equal_func_types ty want
          then invoke calls f ty.params n stack state else Stops (Trapped Signature) state
    ]) (elim ty [
      | None ↦ Stops Stuck state
      | Some ty ↦ if equal_func_types ty want then invoke calls f ty.params (n + d) stack state else Stops (Trapped Signature) state
    ])
    go None = refl
    go (Some ty) = branch_longer d (equal_func_types ty want) (invoke calls f ty.params n stack state)
        (invoke calls f ty.params (n + d) stack state) (Stops (Trapped Signature) state) (Stops (Trapped Signature) state)
        (invoke_longer d calls h f ty.params n stack state) refl

call_indirect_longer : (d : ℕ) (s : LinkedSet) (calls : Calls) → LongerCalls d calls
    → (t : Option store.Table) (want : Option FuncType) (n : ℕ) (stack : List Value) (state : store.State)
    → Longer d (call_indirect s calls t want n stack state) (call_indirect s calls t want (n + d) stack state)
call_indirect_longer d s calls h None want n stack state = refl
call_indirect_longer d s calls h (Some t) None n stack state = refl
call_indirect_longer d s calls h (Some t) (Some want) n [] state = refl
call_indirect_longer d s calls h (Some t) (Some want) n (I32 i ∷ stack) state =
    call_element_longer d s calls h (slice_get t.elements i) want n stack state
call_indirect_longer d s calls h (Some t) (Some want) n (I64 i ∷ stack) state = refl

counted_longer : (d count : ℕ) (o : Done) (n : ℕ) (state : store.State)
    → Longer d (spend n state (λ left. did_all count left state o)) (spend (n + d) state (λ left. did_all count left state o))
counted_longer d count o n state = spent d n state (λ left. did_all count left state o) (λ m. did_all_longer d count m state o)

mutual
  exec_longer : (d : ℕ) (s : LinkedSet) (calls : Calls) → LongerCalls d calls
      → (p : ℕ) (code : Code) (n : ℕ) (stack : List Value) (state : store.State)
      → Longer d (exec s calls p code n stack state) (exec s calls p code (n + d) stack state)
  exec_longer d s calls h p end_code n stack state = refl
  exec_longer d s calls h p (then_code place kind code) n stack state = and_then_longer d (exec_kind s calls p kind n stack state)
      (exec_kind s calls p kind (n + d) stack state) (exec s calls p code) (kind_longer d s calls h p kind n stack state)
      (λ m stack' state'. exec_longer d s calls h p code m stack' state')

  kind_longer : (d : ℕ) (s : LinkedSet) (calls : Calls) → LongerCalls d calls
      → (p : ℕ) (kind : Kind) (n : ℕ) (stack : List Value) (state : store.State)
      → Longer d (exec_kind s calls p kind n stack state) (exec_kind s calls p kind (n + d) stack state)
  kind_longer d s calls h p Nop n stack state = refl
  kind_longer d s calls h p Drop n stack state = dropped_longer d n stack state
  kind_longer d s calls h p (Block t code end_place) n stack state = leave_longer d t stack (exec s calls p code n [] state)
      (exec s calls p code (n + d) [] state) (exec_longer d s calls h p code n [] state)
  kind_longer d s calls h p (Loop t code end_place) n stack state = turns_longer d (suc n) (suc (n + d)) (omega arith)
      (λ left. exec s calls p code left []) (λ m state'. exec_longer d s calls h p code m [] state') stack n state
  kind_longer d s calls h p (If t code otherwise end_place) n stack state = spent d n state (λ left. choose stack state
      (λ under. leave t under (exec s calls p code left [] state))
      (λ under. leave t under (exec_else s calls p otherwise left state))) (λ m. choose_longer d stack state
      (λ under. leave t under (exec s calls p code m [] state))
      (λ under. leave t under (exec_else s calls p otherwise m state))
      (λ under. leave t under (exec s calls p code (m + d) [] state))
      (λ under. leave t under (exec_else s calls p otherwise (m + d) state))
      (λ under. leave_longer d t under (exec s calls p code m [] state) (exec s calls p code (m + d) [] state)
      (exec_longer d s calls h p code m [] state))
      (λ under. leave_longer d t under (exec_else s calls p otherwise m state) (exec_else s calls p otherwise (m + d) state)
      (else_longer d s calls h p otherwise m state)))
  kind_longer d s calls h p Unreachable n stack state = spent d n state (λ left. Stops (Trapped trap.Unreachable) state) (λ m. refl)
  kind_longer d s calls h p (Br label) n stack state = spent d n state (λ left. Branch label left stack state) (λ m. refl)
  kind_longer d s calls h p (BrIf label) n stack state = spent d n state
      (λ left. choose stack state (λ rest. Branch label left rest state) (λ rest. Normal left rest state)) (λ m.
      choose_longer d stack state
      (λ rest. Branch label m rest state) (λ rest. Normal m rest state)
      (λ rest. Branch label (m + d) rest state) (λ rest. Normal (m + d) rest state)
      (λ rest. refl) (λ rest. refl))
  kind_longer d s calls h p (BrTable labels default) n stack state =
      spent d n state (λ left. pick stack state labels default (λ label rest. Branch label left rest state)) (λ m.
      pick_longer d stack state labels default (λ label rest. Branch label m rest state) (λ label rest. Branch label (m + d) rest state)
      (λ label rest. refl))
  kind_longer d s calls h p Return n stack state = spent d n state (λ left. Returned left stack state) (λ m. refl)
  kind_longer d s calls h p (Call index) n stack state = spent d n state (λ left. call s calls (func_at s p index) left stack state)
      (λ m. call_longer d s calls h (func_at s p index) m stack state)
  kind_longer d s calls h p (CallIndirect type_index) n stack state = spent d n state
      (λ left. call_indirect s calls (if_found (table_at s p 0) (store.table_in state.store)) (type_at s p type_index) left stack state)
      (λ m. call_indirect_longer d s calls h (if_found (table_at s p 0) (store.table_in state.store))
      (type_at s p type_index) m stack state)
  kind_longer d s calls h p MemoryCopy n stack state = counted_longer d (count_on stack) (plain s p MemoryCopy stack state) n state
  kind_longer d s calls h p MemoryFill n stack state = counted_longer d (count_on stack) (plain s p MemoryFill stack state) n state
  kind_longer d s calls h p kind n stack state =
      spent d n state (λ left. did left state (plain s p kind stack state)) (λ m. did_longer d m state (plain s p kind stack state))

  else_longer : (d : ℕ) (s : LinkedSet) (calls : Calls) → LongerCalls d calls
      → (p : ℕ) (otherwise : Otherwise) (n : ℕ) (state : store.State)
      → Longer d (exec_else s calls p otherwise n state) (exec_else s calls p otherwise (n + d) state)
  else_longer d s calls h p no_else n state = refl
  else_longer d s calls h p (else_code place code) n state = exec_longer d s calls h p code n [] state

gave_longer : (d : ℕ) (result : Option (Option Value)) (n : ℕ) (state : store.State)
    → LongerCall d (gave result n state) (gave result (n + d) state)
gave_longer d None n state = refl
gave_longer d (Some result) n state = refl

finish_longer : (d : ℕ) (t : Option ValType) (r s : Result) → Longer d r s → LongerCall d (finish t r) (finish t s)
finish_longer d t (Normal n stack state) s e =
    subst (λ o. LongerCall d (gave (gives_all t stack) n state) (finish t o)) (sym e) (gave_longer d (gives_all t stack) n state)
finish_longer d t (Branch zero n stack state) s e =
    subst (λ o. LongerCall d (gave (gives_top t stack) n state) (finish t o)) (sym e) (gave_longer d (gives_top t stack) n state)
finish_longer d t (Branch (suc label) n stack state) s e = ap (finish t) e
finish_longer d t (Returned n stack state) s e =
    subst (λ o. LongerCall d (gave (gives_top t stack) n state) (finish t o)) (sym e) (gave_longer d (gives_top t stack) n state)
finish_longer d t (Stops (Trapped kind) state) s e = ap (finish t) e
finish_longer d t (Stops OutOfSteps state) s e = tt
finish_longer d t (Stops _ state) s e = ap (finish t) e

enter_longer : (d : ℕ) (s : LinkedSet) (calls : Calls) → LongerCalls d calls
    → (p : ℕ) (body : Option BodyEntry) (ty : Option FuncType) (args : List Value) (n : ℕ) (made : store.Store) (trail : Trail)
    → LongerCall d (enter s calls p body ty args n made trail) (enter s calls p body ty args (n + d) made trail)
enter_longer d s calls h p (Some body) (Some ty) args n made trail =
    let state : store.State = record { locals = args ++ zeros (declared_locals body.runs); store = made; trail = trail } in
    finish_longer d ty.result (exec s calls p body.code n [] state) (exec s calls p body.code (n + d) [] state)
    (exec_longer d s calls h p body.code n [] state)
enter_longer d s calls h p (Some body) None args n made trail = refl
enter_longer d s calls h p None ty args n made trail = refl

call_branch : (d : ℕ) (b : Bool) (r s u v : Called) → LongerCall d r s → LongerCall d u v
    → LongerCall d (if b then r else u) (if b then s else v)
call_branch d true r s u v h k = h
call_branch d false r s u v h k = k

replied_longer : (d : ℕ) (ty : Option FuncType) (replies : List Reply) (before : List Event) (a : Ask) (n : ℕ) (made : store.Store)
    → LongerCall d (replied ty replies before a n made) (replied ty replies before a (n + d) made)
replied_longer d None replies before a n made = refl
replied_longer d (Some ty) [] before a n made = refl
replied_longer d (Some ty) (HostTrapped ∷ replies) before a n made = refl
replied_longer d (Some ty) (Gave result ∷ replies) before a n made =
    let taken : Trail = asked before a (Some (Gave result)) replies in
    let refused : Trail = asked before a None replies in
    call_branch d (is_result ty.result result) (Back n result made taken) (Back (n + d) result made taken) (CallStops Asks made refused)
    (CallStops Asks made refused) refl refl

pub calls_longer : (d : ℕ) (s : LinkedSet) (room : ℕ) → LongerCalls d (call_within s room)
calls_longer d s zero (HostFunc h f) args n made trail =
    replied_longer d (func_type s (HostFunc h f)) trail.replies trail.events (record { host = h; function = f; args = args }) n made
calls_longer d s (suc room) (HostFunc h f) args n made trail =
    replied_longer d (func_type s (HostFunc h f)) trail.replies trail.events (record { host = h; function = f; args = args }) n made
calls_longer d s zero (ModuleFunc p index) args n made trail = refl
calls_longer d s (suc room) (ModuleFunc p index) args n made trail = enter_longer d s (call_within s room) (calls_longer d s room) p
    (body_of s p index) (func_type s (ModuleFunc p index)) args n made trail
