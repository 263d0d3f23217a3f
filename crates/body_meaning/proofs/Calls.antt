-- A call in code: its arguments, the function that it reaches, and what comes back (WebAssembly Core 1.0,
-- 4.4.5 `call`; C11, 6.5.2.2).
use Rattle.body_meaning.proofs.Common.{◌≡◌, ℕ, suc, ◌≤◌, Bool, true, List, [], ◌∷◌, ◌++◌, map, reverse, length, take, drop}
use Rattle.body_meaning.proofs.Common.{if◌then◌else◌, slice_get, Some, None, Option, sym, refl, ap, ◌∙◌, subst, append_assoc, arith}
use Rattle.body_meaning.proofs.Common.{drop-append_seam, take-append_seam, length-reverse, reverse-reverse, result_is_number, at_index}
use Rattle.body_meaning.proofs.Common.{if_found, named, with_named, IsNumber, equal_types, is_result, type_of, types_of, FuncType, ValType}
use Rattle.body_meaning.proofs.Common.{Value, I32, func_space, type_in, Call, Import, Context, Stack, values, join, Program, func_named}
use Rattle.body_meaning.proofs.Common.{primitive, Reaches, Progress, go_on, call, evaluate_args, func_name, named_here, func_imports}
use Rattle.body_meaning.proofs.Common.{import_symbol, is_usable, IsCallable, Stacked, VarsAgree, call_named, emit_kind, operands_from}
use Rattle.body_meaning.proofs.Common.{result_slot, CallFollows, Follows, Site, StandsAt, Target, at, call_spare, state_at, slot, callee}
use Rattle.body_meaning.proofs.Common.{CallsInCodeFollow, IsSite, aims_of, StandsFor, called, given, Reached, after, after_call}
use Rattle.body_meaning.proofs.Common.{types_equal_themselves, types_many, call_of, stays}
use Rattle.w2c_base.specs.declared.value.ValType.TheVariants as type
use Rattle.w2c_base.specs.declared.value.Value.TheVariants.{I64}
use Rattle.c_tree.specs.Tree as tree
use Rattle.wasm_meaning.specs.LinkedSet as link
use Rattle.wasm_meaning.specs.Store as store
use Rattle.wasm_meaning.specs.Execution as exec
use Rattle.c_meaning.specs.State as state
use Rattle.body_definition.proofs.Heights.{stands_top}
use Rattle.body_definition.specs.Stack.{stands}
use Rattle.body_meaning.proofs.Indexes.{own_of_context, import_of_context, func_callable}
use Rattle.body_meaning.proofs.Vars.{stacked_below, agree_below}
use Rattle.body_meaning.proofs.Slots.{SlotIsSet, slots_are_set}
use Rattle.body_meaning.proofs.Before.{arrives_by, stops_before, spends}
use Rattle.body_meaning.proofs.Operands.{reversed_front, arguments, arguments_are_numbers, types_append, reversed}
use Rattle.body_meaning.proofs.Own.{own_is, own_stands}
use Rattle.body_meaning.proofs.Gives.{slot_value, waiting, assign_slot, running}
use Rattle.body_meaning.proofs.Jumps.{way_by}

-- ---- operands and arguments

-- the statement's arguments are the values
pub args_evaluated : (p : Program) (m : state.Machine) (r : state.Running) (args under : List Value)
    → Stacked (reverse args ++ under) r.vars
    → evaluate_args p m r (operands_from (length (types_of under)) (types_of args)) ≡ state.Is (map state.Number args)
args_evaluated p m r [] under s = refl
args_evaluated p m r (v ∷ args) under s =
    let order : reverse (v ∷ args) ++ under ≡ reverse args ++ v ∷ under =
    rw (reversed_front v args) (append_assoc (reverse args) (v ∷ []) under) in
    let stacked : Stacked (reverse args ++ v ∷ under) r.vars = subst (λ xs. Stacked xs r.vars) order s in
    let here = stacked_below (reverse args) (v ∷ under) r.vars stacked in
    let others = args_evaluated p m r args (v ∷ under) stacked in
    rw (slot_value m r (type_of v) (length (types_of under)) here.0, others) refl

-- ---- what comes back

-- the waiting function goes on with the value on its operands
record Resumes (g : Site) (t : Option ValType) (whole locals : List Value) (value : Option Value) (machine : state.Machine)
    (frames : List state.Frame) (rest : List tree.Stmt) : Type 0 where
  vars : state.Vars
  there : given g.program g.pending machine value frames ≡ at g machine rest vars
  agree : VarsAgree g.slots g.has_element (exec.with_result value whole) locals vars
  types : types_of (exec.with_result value []) ≡ values t

resumes_with : (g : Site) → SlotIsSet g → (v : Value) {whole locals : List Value} (machine m : state.Machine) (rest : List tree.Stmt)
    {vars : state.Vars}
    → g.slots (type_of v) (length (types_of whole)) ≡ true → IsNumber v → VarsAgree g.slots g.has_element whole locals vars
    → Resumes g (Some (type_of v)) whole locals (Some v) machine
    (waiting g (result_slot (Some (type_of v)) (length (types_of whole))) rest vars) rest
resumes_with g set v {whole} {locals} machine m rest {vars} declared number agree = record {
  vars = with_named (slot (type_of v) (length (types_of whole))) (state.Number v) vars;
  there = ap (go_on g.program g.pending) (assign_slot machine r (type_of v) (length (types_of whole)) v g.below
      (agree.declared (type_of v) (length (types_of whole)) declared) refl);
  agree = set v whole locals vars declared number agree;
  types = refl;
}
  where
    r : state.Running
    r = (state_at g m rest vars).running

resumes : (g : Site) → SlotIsSet g → (t : Option ValType) (value : Option Value) {whole locals : List Value} (machine m : state.Machine)
    (rest : List tree.Stmt) {vars : state.Vars} → is_result t value ≡ true
    → ((u : ValType) → t ≡ Some u → g.slots u (length (types_of whole)) ≡ true) → VarsAgree g.slots g.has_element whole locals vars
    → Resumes g t whole locals value machine (waiting g (result_slot t (length (types_of whole))) rest vars) rest
resumes g set None None machine m rest {vars} typed declared agree = record { vars = vars; there = refl; agree = agree; types = refl }
resumes g set (Some type.I32) (Some (I32 n)) machine m rest typed declared agree =
    resumes_with g set (I32 n) machine m rest (declared type.I32 refl) (result_is_number (Some type.I32) (I32 n) typed) agree
resumes g set (Some type.I64) (Some (I64 n)) machine m rest typed declared agree =
    resumes_with g set (I64 n) machine m rest (declared type.I64 refl) (result_is_number (Some type.I64) (I64 n) typed) agree
resumes g set _ _ machine m rest typed declared agree = absurd cc

result_over : (value : Option Value) (xs ys : List Value) → exec.with_result value xs ++ ys ≡ exec.with_result value (xs ++ ys)
result_over None xs ys = refl
result_over (Some v) xs ys = refl

result_types : (value : Option Value) (xs : List Value) (t : Option ValType) → types_of (exec.with_result value []) ≡ values t
    → types_of (exec.with_result value xs) ≡ values t ++ types_of xs
result_types None xs t e = ap (λ front. front ++ types_of xs) e
result_types (Some v) xs t e = ap (λ front. front ++ types_of xs) e

-- What is followed from the begin of a call is followed from the statements before it, which a step pays: the value
-- is put on the operands under the arguments. Of calls by index and through a table alike.
pub call_done : (g : Site) → SlotIsSet g → (targets : List Target) (exit : Target) (base under : List Value) (rest : List tree.Stmt)
    {outs : Stack}
    (ty : FuncType) (now : store.State) (m : state.Machine) {vars : state.Vars} {from to : Progress} (left : ℕ) {k : ℕ} (o : exec.Called)
    → Reaches g.program k from to → 1 ≤ k → k ≤ 340
    → VarsAgree g.slots g.has_element (under ++ base) now.locals vars → types_of now.locals ≡ g.setting.context.locals
    → ((u : ValType) → ty.result ≡ Some u → g.slots u (length (types_of (under ++ base))) ≡ true)
    → outs ≡ values ty.result ++ types_of under → CallFollows g.program g.linked g.count (suc g.depth) g.pending
    (waiting g (result_slot ty.result (length (types_of (under ++ base)))) rest vars) ty to left o
    → Follows g 0 targets exit base rest outs from (suc left) (exec.came_back o under now)
call_done g set targets exit base
    under rest ty now m {vars} {from} {to} left {k} (exec.Back after value made trail) way least most agree locals declared outs_are c =
    let r = resumes g set ty.result value c.machine m rest c.typed declared agree in (
      result_types value under ty.result r.types ∙ sym outs_are,
      [],
      arrives_by {m = c.machine} {vars = r.vars} (record {
        together = c.together;
        variables = subst (λ xs. VarsAgree g.slots g.has_element xs now.locals r.vars) (sym (result_over value under base)) r.agree;
        local_types = locals;
      }) (join g.program k c.statements from to _ way (subst (λ x. Reaches g.program c.statements to x) r.there c.way))
          (record { least = omega (arith, least, c.paid.least); most = omega (arith, most, c.paid.most) }),
    )
call_done g set targets exit base under rest ty now m left (exec.CallStops why made trail) way least most agree locals declared outs_are c =
    stops_before g.linked g.pending call_spare
    0 (suc left) left why made trail way (record { least = omega (arith, least); fewer = omega arith; most = omega (arith, most) }) c

-- ---- the function that is called

-- what a call by this index reaches in both languages
pub record Callee (g : Site) (index : ℕ) (ty : FuncType) : Type 0 where
  pub name : state.Name
  pub callee_is : callee g.setting.named index ≡ Some name
  pub is_no_primitive : primitive name ≡ None
  pub function : link.FuncAddress
  pub function_is : link.func_at g.linked g.unit index ≡ Some function
  pub typed : link.func_type g.linked function ≡ Some ty
  pub callable : IsCallable g.linked g.count function
  pub address : state.FuncAddress
  pub address_is : func_named g.program g.unit name ≡ Some address
  pub stands : StandsFor g.program g.linked function address

pub callee_found : {g : Site} {room : ℕ} {calls : exec.Calls} (index : ℕ) {ty : FuncType} → IsSite g room calls
    → slice_get g.setting.context.funcs index ≡ Some (Some ty) → Callee g index ty
callee_found {g} index {ty} site typed = by_import (slice_get (func_imports m.tree) index) refl
  where
    m : link.NamedModule
    m = g.setting.named

    in_space : slice_get (map (type_in m.tree) (func_space m.tree)) index ≡ Some (Some ty)
    in_space = ap (λ c. slice_get c.funcs index) (sym site.context_is) ∙ typed

    by_import : (o : Option Import) → slice_get (func_imports m.tree) index ≡ o → Callee g index ty
    by_import None e =
        let here = own_of_context g.linked g.unit index site.module_is e in_space in
        let own = own_is g.unit site.served site.module_is here.0 in
        record {
          name = func_name index;
          callee_is = ap (λ (o : Option Import). elim o
              [ None ↦ Some (func_name index) | Some i ↦ if is_usable m i then Some (import_symbol i) else None ]) e;
          is_no_primitive = own.is_no_primitive;
          function = link.ModuleFunc g.unit index;
          function_is = here.1;
          typed = here.2;
          callable = func_callable g.linked g.count g.unit index site.module_is site.is_ready here.1;
          address = state.UnitFunc g.unit (func_name index);
          address_is = named_here g.program g.unit (func_name index) _ own.defined;
          stands = own_stands g.unit site.served site.module_is here.0;
        }
    by_import (Some x) e =
        let reached : Reached g.program g.linked g.unit m index x = (site.served.serve g.unit m site.module_is).imports index x e in
        record {
          name = import_symbol x;
          callee_is = ap (λ (o : Option Import). elim o
              [ None ↦ Some (func_name index) | Some i ↦ if is_usable m i then Some (import_symbol i) else None ]) e
              ∙ ap (λ (usable : Bool). if usable then Some (import_symbol x) else None) reached.is_usable;
          is_no_primitive = reached.is_no_primitive;
          function = reached.function;
          function_is = reached.function_is;
          typed = import_of_context g.unit index site.served.linked site.module_is e in_space reached.function_is;
          callable = func_callable g.linked g.count g.unit index site.module_is site.is_ready reached.function_is;
          address = reached.address;
          address_is = reached.address_is;
          stands = reached.stands;
        }

-- ---- the call

-- the statement begins the call
pub call_begins : (g : Site) (m : state.Machine) (vars : state.Vars) (rest : List tree.Stmt)
    (target : Option state.Name) (name : state.Name) (exprs : List tree.Arg) (args : List Value) {address : state.FuncAddress}
    → evaluate_args g.program m (state_at g m (tree.Call target (tree.Called name) exprs ∷ rest) vars).running exprs
    ≡ state.Is (map state.Number args) → primitive name ≡ None → func_named g.program g.unit name ≡ Some address
    → Reaches g.program 1 (at g m (tree.Call target (tree.Called name) exprs ∷ rest) vars)
    (called g.program g.pending address m args (waiting g target rest vars))
call_begins g m vars rest target name exprs args {address} evaluated no_primitive named =
    way_by g m (tree.Call target (tree.Called name) exprs ∷ rest) vars
    {does = call g.program address m (map state.Number args) (waiting g target rest vars)}
    (rw (evaluated, no_primitive, named) refl)

-- the module's call of a function with the arguments on its operands
pub invoked : (calls : exec.Calls) (f : link.FuncAddress) {params : List ValType} (left : ℕ) {stack : List Value} (args under : List Value)
    (now : store.State) → stack ≡ reverse args ++ under → types_of args ≡ params
    → exec.invoke calls f params left stack now ≡ exec.came_back (calls f args left now.store now.trail) under now
invoked calls f {params} left {stack} args under now is typed =
    let long : length params ≡ length (reverse args) = ap length (sym typed) ∙ (types_many args ∙ sym (length-reverse args)) in
    let top : take (length params) stack ≡ reverse args = ap (take (length params)) is
    ∙ (ap (λ n. take n (reverse args ++ under)) long ∙ take-append_seam (reverse args) under) in
    let low : drop (length params) stack ≡ under = ap (drop (length params)) is
    ∙ (ap (λ n. drop n (reverse args ++ under)) long ∙ drop-append_seam (reverse args) under) in
    let found : reverse (take (length params) stack) ≡ args = ap reverse top ∙ reverse-reverse args in
    let fits : equal_types params (types_of args) ≡ true = ap (equal_types params) typed ∙ types_equal_themselves params in
    rw (found, fits, low) refl

called_by : (s : link.LinkedSet) (calls : exec.Calls) {o : Option link.FuncAddress} {f : link.FuncAddress} {ty : FuncType} (left : ℕ)
    (stack : List Value) (now : store.State) → o ≡ Some f → link.func_type s f ≡ Some ty
    → exec.call s calls o left stack now ≡ exec.invoke calls f ty.params left stack now
called_by s calls {f} left stack now found typed =
    ap (λ (x : Option link.FuncAddress). exec.call s calls x left stack now) found ∙ ap (λ (t : Option FuncType). elim t
    [ None ↦ exec.Stops exec.Stuck now | Some t ↦ exec.invoke calls f t.params left stack now ]) typed

-- what lies under the arguments
pub types_under : {params : List ValType} {stack : List Value} (base args under : List Value)
    → stack ≡ reverse args ++ under → types_of args ≡ params → drop (length params) (types_of (stack ++ base)) ≡ types_of (under ++ base)
types_under {params} {stack} base args under is typed =
    let whole : types_of (stack ++ base) ≡ types_of (reverse args) ++ types_of (under ++ base) =
    ap (λ xs. types_of (xs ++ base)) is ∙ (ap types_of (append_assoc (reverse args) under base) ∙ types_append _ _) in
    let long : length params ≡ length (types_of (reverse args)) = ap length (sym typed)
    ∙ (types_many args ∙ (sym (length-reverse args) ∙ sym (types_many _))) in
    ap (drop (length params)) whole ∙ (rw long (drop-append_seam (types_of (reverse args)) (types_of (under ++ base))))

-- the result stands on what lies under the arguments
stands_behind : (c : Context) (types : Stack) (index : ℕ) {ty : FuncType} {low : Stack} {u : ValType} → at_index c.funcs index ≡ Some ty
    → drop (length ty.params) types ≡ low → ty.result ≡ Some u → stands u (length low) (after c types (Call index)) ≡ true
stands_behind c types index {ty} {low} {u} known is result =
    let h : ℕ = length low in
    let called : stands u h (after_call (at_index c.funcs index) types) ≡ stands u h (values ty.result ++ drop (length ty.params) types) =
    ap (λ (o : Option FuncType). stands u h (after_call o types)) known in
    let over : stands u h (values ty.result ++ drop (length ty.params) types) ≡ stands u h (values ty.result ++ low) =
    ap (λ (ds : Stack). stands u h (values ty.result ++ ds)) is in
    let top : stands u h (values ty.result ++ low) ≡ stands u h (u ∷ low) =
    ap (λ (t : Option ValType). stands u h (values t ++ low)) result in
    called ∙ (over ∙ (top ∙ stands_top u low))

-- A call with the arguments on the operands, from some statements before it, once the step is paid. The statement begins the
-- call of what this callee stands for.
pub args_follow : {g : Site} {room : ℕ} {calls : exec.Calls} → IsSite g room calls
    → (targets : List Target) (exit : Target) (base stack : List Value) (left : ℕ) (rest : List tree.Stmt) {outs : Stack} (more : Stack)
    {ty : FuncType} {now : store.State} {m : state.Machine} {vars : state.Vars} {f : link.FuncAddress} {a : state.FuncAddress}
    → link.func_type g.linked f ≡ Some ty → IsCallable g.linked g.count f → StandsFor g.program g.linked f a
    → types_of stack ≡ reverse ty.params ++ more → outs ≡ reverse (values ty.result) ++ more
    → ((u : ValType) → ty.result ≡ Some u → (types : Stack) → drop (length ty.params) (types_of (stack ++ base)) ≡ types
    → g.slots u (length types) ≡ true) → StandsAt g (stack ++ base) now m vars → (callee : tree.Callee)
    → ((args : List Value) (target : Option state.Name) (exprs : List tree.Arg)
    → evaluate_args g.program m (running g (tree.Call target callee exprs ∷ rest) vars) exprs ≡ state.Is (map state.Number args)
    → Reaches g.program 1 (at g m (tree.Call target callee exprs ∷ rest) vars)
    (called g.program g.pending a m args (waiting g target rest vars)))
    → {from : Progress} {k : ℕ} → Reaches g.program k from (at g m (call_of callee ty (types_of (stack ++ base)) ∷ rest) vars) → k ≤ 300
    → Follows g 0 targets exit base rest outs from (suc left) (exec.invoke calls f ty.params left stack now)
args_follow {g} {calls} site targets exit base stack left rest {outs} more {ty} {now} {m} {vars} {f} {a} typed callable stood_for fit
    outs_are slots stood callee begins {from} {k} way most =
    let p : Program = g.program in
    let split = arguments ty.params more stack fit in
    let args : List Value = split.args in
    let whole : List Value = split.under ++ base in
    let h : ℕ = length (types_of whole) in
    let low : drop (length ty.params) (types_of (stack ++ base)) ≡ types_of whole =
    types_under base args split.under split.is split.args_types in
    let stmt : tree.Stmt = tree.Call (result_slot ty.result h) callee (operands_from h ty.params) in
    let stmt_is : call_of callee ty (types_of (stack ++ base)) ≡ stmt =
    ap (λ (types : Stack). tree.Call (result_slot ty.result (length types)) callee (operands_from (length types) ty.params)) low in
    let order : stack ++ base ≡ reverse args ++ whole = ap (λ xs. xs ++ base) split.is ∙ append_assoc (reverse args) split.under base in
    let variables : VarsAgree g.slots g.has_element (reverse args ++ whole) now.locals vars =
    subst (λ xs. VarsAgree g.slots g.has_element xs now.locals vars) order stood.variables in
    let r : state.Running = running g (stmt ∷ rest) vars in
    let frames : List state.Frame = waiting g (result_slot ty.result h) rest vars in
    let evaluated : evaluate_args p m r (operands_from h ty.params) ≡ state.Is (map state.Number args) =
    ap (λ types. evaluate_args p m r (operands_from h types)) (sym split.args_types) ∙ args_evaluated p m r args whole variables.stacked in
    let to : Progress = called p g.pending a m args frames in
    let there : Reaches p k from (at g m (stmt ∷ rest) vars) = subst (λ s. Reaches p k from (at g m (s ∷ rest) vars)) stmt_is way in
    let followed = site.calls_follow f a ty args left (suc g.depth) now.store now.trail m g.pending frames typed callable stood_for
    split.args_types (arguments_are_numbers args whole variables.stack_numbers) stood.together site.room_is in
    let result = call_done g (slots_are_set site) targets exit base split.under rest ty now m left (calls f args left now.store now.trail)
    (join p k 1 from (at g m (stmt ∷ rest) vars) to there (begins args (result_slot ty.result h) (operands_from h ty.params) evaluated))
    (omega arith) (omega (arith, most)) (agree_below (reverse args) whole variables) stood.local_types
    (λ u e. slots u e (types_of whole) low) (outs_are ∙ ap (λ front. front ++ more) (reversed ty.result)
    ∙ ap (λ types. values ty.result ++ types) (sym split.under_types)) followed in
    subst (λ x. Follows g 0 targets exit base rest outs from (suc left) x)
    (sym (invoked calls f left args split.under now split.is split.args_types)) result

pub calls_in_code_follow : CallsInCodeFollow
calls_in_code_follow g room calls index site s stack here exit n =
    let ty : FuncType = here.typed.0 in
    let c = callee_found index site here.typed.1 in
    let types : Stack = types_of (stack ++ s.base) in
    let known : at_index g.setting.context.funcs index ≡ Some ty =
    ap (λ (o : Option (Option FuncType)). if_found o (λ entry. entry)) here.typed.1 in
    let emitted : emit_kind g.setting (aims_of s.targets) types s.label (Call index) ≡ call_of (tree.Called c.name) ty types ∷ [] =
    ap (λ (o : Option FuncType). elim o [ None ↦ [] | Some t ↦ call_named (callee g.setting.named index) t types ]) known
    ∙ ap (λ (name : Option state.Name). call_named name ty types) c.callee_is in
    rw emitted (spends g 0 s.targets exit s.base _ s.rest s.outs s.machine s.vars n s.now (λ left. exec.call g.linked calls (link.func_at
    g.linked g.unit index) left stack s.now) (λ left. subst (Follows g 0 s.targets exit s.base s.rest s.outs (at g s.machine (call_of
    (tree.Called c.name) ty types ∷ s.rest) s.vars) (suc left)) (sym (called_by g.linked calls left stack s.now c.function_is c.typed))
    (args_follow site s.targets exit s.base stack left s.rest here.typed.2.0 c.typed c.callable c.stands here.typed.2.1 here.typed.2.2
    (λ u e low is. here.slots u (length low) (stands_behind g.setting.context types index known is e)) here.stands (tree.Called c.name)
    (λ args target exprs evaluated. call_begins g s.machine s.vars s.rest target c.name exprs args evaluated c.is_no_primitive c.address_is)
    (stays g.program (at g s.machine (call_of (tree.Called c.name) ty types ∷ s.rest) s.vars)) (omega arith))))
