-- A call through the table: the element's traps in both languages, and then the call through the element.
use Rattle.body_meaning.proofs.Common.{◌≡◌, ℕ, zero, suc, Bool, true, false, List, [], ◌∷◌, ◌++◌, map, reverse, length, drop, is_some}
use Rattle.body_meaning.proofs.Common.{if◌then◌else◌, nat_eq, slice_get, Some, None, Option, sym, refl, ap, ◌∙◌, subst, arith}
use Rattle.body_meaning.proofs.Common.{reverse-append, same_Some, slice_get-map, AllByRecursion, all_at, if_found, named, with_named}
use Rattle.body_meaning.proofs.Common.{sig_number_of, equal_func_types, types_of, FuncType, ValType, Value, I32, CallIndirect, Context}
use Rattle.body_meaning.proofs.Common.{Stack, values, same_func_type, N64, bytes_equal, named-with_named, stays, Program, func_type}
use Rattle.body_meaning.proofs.Common.{Reaches, Progress, go_on, Element, FuncPointer, Is, Number, Pointer, Next, Step, Stops, assign, call}
use Rattle.body_meaning.proofs.Common.{evaluate_args, place_of, helper_right, CallComesTo, CallEnd, GivesBack, TrapsWith, call_ended}
use Rattle.body_meaning.proofs.Common.{helper_of, ComesWithin, c_func_type, ElementAgrees, ElementsAgree, HoldsFunction, IsCallable}
use Rattle.body_meaning.proofs.Common.{IsCallableIfAny, call_element, call_of, emit_kind, Follows, Site, StandsAt, Target, at, state_at}
use Rattle.body_meaning.proofs.Common.{element_name, table_arg, IndirectCallsFollow, IsSite, aims_of, called, call_helper, operand}
use Rattle.w2c_base.specs.declared.value.ValType.TheVariants as type
use Rattle.w2c_base.specs.declared.value.Value.TheVariants.{I64}
use Rattle.w2c_base.specs.declared.trap.TrapKind.TheVariants as trap
use Rattle.c_tree.specs.Tree as tree
use Rattle.c_tree.proofs.SameTypes.{same_c_func_type}
use Rattle.wasm_meaning.specs.LinkedSet as link
use Rattle.wasm_meaning.specs.Store as store
use Rattle.wasm_meaning.specs.Execution as exec
use Rattle.c_meaning.specs.State as state
use Rattle.c_helpers.specs.declared.operation.Helper.TheVariants as helper
use Rattle.body_definition.proofs.Heights.{stands_top}
use Rattle.c_prelude.specs.Operators.{number, IsSigned, element_found}
use Rattle.alike.specs.Objects.{table_object}
use Rattle.body_meaning.proofs.Seen.{TableFound, table_found}
use Rattle.body_meaning.proofs.Vars.{set_element, function_taken, stands_below}
use Rattle.body_meaning.proofs.Operands.{no_operand, first_type, other_types}
use Rattle.body_meaning.proofs.Calls.{args_follow}
use Rattle.body_meaning.proofs.Memories.{types_differ}
use Rattle.body_meaning.proofs.Types.{equal_func_types_tell, sig_number_some, NumbersTellTypes, numbers_decide}
use Rattle.alike.proofs.LookUps.{module_is}
use Rattle.body_meaning.proofs.Gives.{assign_variable, running, operand_is, waiting, helper_comes, traps}
use Rattle.body_meaning.proofs.Jumps.{way_by}

-- ---- elements

abbrev pub ElementAt : Program → link.LinkedSet → Option (Option link.FuncAddress) → Option (Option Element) → Type 0
ElementAt p s None None = Unit {0}
ElementAt p s (Some None) (Some None) = Unit {0}
ElementAt p s (Some (Some f)) (Some (Some e)) = ElementAgrees p s f e
ElementAt p s _ _ = ⊥

pub element_at : (p : Program) (s : link.LinkedSet) (elements : List (Option link.FuncAddress)) (others : List (Option Element)) (i : ℕ)
    → ElementsAgree p s elements others → ElementAt p s (slice_get elements i) (slice_get others i)
element_at p s [] [] i agree = tt
element_at p s (None ∷ elements) (None ∷ others) zero agree = tt
element_at p s (None ∷ elements) (None ∷ others) (suc i) agree = element_at p s elements others i agree
element_at p s (Some f ∷ elements) (Some e ∷ others) zero agree = agree.0
element_at p s (Some f ∷ elements) (Some e ∷ others) (suc i) agree = element_at p s elements others i agree.1
element_at p s _ _ i agree = absurd agree

-- an element has the number of a type, which is not 0
elements_signed : (p : Program) (s : link.LinkedSet) (elements : List (Option link.FuncAddress)) (other : state.Table)
    → ElementsAgree p s elements other.elements → IsSigned other
elements_signed p s elements other agree i e is zero_number =
    go (slice_get elements i) (subst (ElementAt p s (slice_get elements i)) is (element_at p s elements other.elements i agree))
  where
    go : (element : Option (Option link.FuncAddress)) → ElementAt p s element (Some (Some e)) → ⊥
    go (Some (Some f)) h = sig_number_some h.same.ty.params h.same.ty.result (sym h.same.signature ∙ zero_number)
    go _ h = absurd h

-- a function that an element names may be called
callable_at : (s : link.LinkedSet) (count : ℕ) (elements : List (Option link.FuncAddress)) (i : ℕ) {f : link.FuncAddress}
    → AllByRecursion (IsCallableIfAny s count) elements → slice_get elements i ≡ Some (Some f) → IsCallable s count f
callable_at s count elements i {f} all is = all_at (IsCallableIfAny s count) elements i (Some f) all is

-- ---- the call through the variable for an element

-- the statement begins the call of the function that the variable points to, where it has the written type
through_begins : (g : Site) (m : state.Machine) (vars : state.Vars) (rest : List tree.Stmt) (target : Option state.Name)
    {want : tree.FuncType} (exprs : List tree.Arg) (args : List Value) (a : state.FuncAddress)
    → evaluate_args g.program m (running g (tree.Call target (tree.Through want element_name) exprs ∷ rest) vars) exprs
    ≡ Is (map Number args) → named element_name vars ≡ Some (FuncPointer (Some a)) → func_type g.program a ≡ Some want
    → Reaches g.program 1 (at g m (tree.Call target (tree.Through want element_name) exprs ∷ rest) vars)
    (called g.program g.pending a m args (waiting g target rest vars))
through_begins g m vars rest target {want} exprs args a evaluated holds typed =
    let code : List tree.Stmt = tree.Call target (tree.Through want element_name) exprs ∷ rest in
    let place : state.Place = place_of (running g code vars) rest in
    let begins : Step = call g.program a m (map Number args) (waiting g target rest vars) in
    let by_type : Option tree.FuncType → Step = λ found. elim found
    [ None ↦ Stops m state.Stuck | Some t ↦ if same_func_type t want then begins else Stops m (state.Undefined 5 place) ] in
    way_by g m code vars {does = begins} (rw (evaluated, holds) (ap by_type typed
    ∙ ap (λ (b : Bool). if b then begins else Stops m (state.Undefined 5 place)) (same_c_func_type want)))

-- the element's variable is set to what the helper gives
element_assigned : (g : Site) (m : state.Machine) (rest : List tree.Stmt) (vars : state.Vars) (to : Option state.FuncAddress)
    → HoldsFunction (named element_name vars) → assign m (running g rest vars) element_name (FuncPointer to) g.below
    ≡ Next (state_at g m rest (with_named element_name (FuncPointer to) vars))
element_assigned g m rest vars to there =
    assign_variable m (running g rest vars) element_name _ g.below refl (function_taken (named element_name vars) to there)

-- the helper has looked the element up
element_follows : NumbersTellTypes → {g : Site} {room : ℕ} {calls : exec.Calls} → IsSite g room calls
    → (targets : List Target) (exit : Target) (base stack : List Value) (left : ℕ)
    (rest : List tree.Stmt) {outs : Stack} (more : Stack) (ty : FuncType) {now : store.State} {m : state.Machine} {vars : state.Vars}
    → types_of stack ≡ reverse ty.params ++ more → outs ≡ reverse (values ty.result) ++ more
    → ((u : ValType) → ty.result ≡ Some u → (types : Stack) → drop (length ty.params) (types_of (stack ++ base)) ≡ types
    → g.slots u (length types) ≡ true) → StandsAt g (stack ++ base) now m vars → g.has_element ≡ true
    → (element : Option (Option link.FuncAddress)) (other : Option (Option Element)) → ElementAt g.program g.linked element other
    → ((f : link.FuncAddress) → element ≡ Some (Some f) → IsCallable g.linked g.count f) → {from : Progress}
    → ComesWithin g.program 101 from (call_ended g.program g.pending (element_found m other (sig_number_of ty.params ty.result))
    (waiting g (Some element_name) (call_of (tree.Through (c_func_type ty) element_name) ty (types_of (stack ++ base)) ∷ rest) vars))
    → Follows g 0 targets exit base rest outs from (suc left) (exec.call_element g.linked calls element ty left stack now)
element_follows law site targets exit base stack left rest more ty {m} fit outs_are slots stood there None None agree callable came =
    traps stood trap.TableOut left came (omega arith)
element_follows law site targets exit base stack left rest more ty {m} fit outs_are slots stood there (Some None) (Some None) agree callable
    came = traps stood trap.Empty left came (omega arith)
element_follows law {g} {calls} site targets exit base stack
    left rest {outs} more ty {now} {m} {vars} fit outs_are slots stood there (Some (Some f)) (Some (Some e)) agree callable {from} came =
    subst (λ (o : Option FuncType). Follows g 0 targets exit base rest outs from (suc left) (elim o [
      | None ↦ exec.Stops exec.Stuck now
      | Some t ↦ if equal_func_types t ty then exec.invoke calls f t.params left stack now else exec.Stops (exec.Trapped trap.Signature) now
    ])) (sym agree.same.ty_is) (by_number (nat_eq e.signature (sig_number_of ty.params ty.result)) refl came)
  where
    own : FuncType
    own = agree.same.ty

    decided : equal_func_types own ty ≡ nat_eq e.signature (sig_number_of ty.params ty.result)
    decided = numbers_decide law own ty ∙ ap (λ n. nat_eq n (sig_number_of ty.params ty.result)) (sym agree.same.signature)

    second : tree.Stmt
    second = call_of (tree.Through (c_func_type ty) element_name) ty (types_of (stack ++ base))

    by_number : (b : Bool) → nat_eq e.signature (sig_number_of ty.params ty.result) ≡ b
        → ComesWithin g.program 101 from (call_ended g.program g.pending
        (if b then GivesBack m (Some (FuncPointer (Some e.func))) else TrapsWith m trap.Signature)
        (waiting g (Some element_name) (second ∷ rest) vars)) → Follows g 0 targets exit base rest outs from (suc left)
        (if equal_func_types own ty then exec.invoke calls f own.params left stack now else exec.Stops (exec.Trapped trap.Signature) now)
    by_number false is came =
        subst (λ b. Follows g 0 targets exit base rest outs from (suc left)
        (if b then exec.invoke calls f own.params left stack now else exec.Stops (exec.Trapped trap.Signature) now))
        (sym (decided ∙ is)) (traps stood trap.Signature left came (omega arith))
    by_number true is came =
        let same : own ≡ ty = equal_func_types_tell own ty (decided ∙ is) in
        let v : state.CValue = FuncPointer (Some e.func) in
        let new : state.Vars = with_named element_name v vars in
        let way : Reaches g.program came.statements from (at g m (second ∷ rest) new) =
        subst (λ (x : Step). Reaches g.program came.statements from (go_on g.program g.pending x))
        (element_assigned g m (second ∷ rest) vars (Some e.func) (stood.variables.element there)) came.way in
        let after : StandsAt g (stack ++ base) now m new = record {
          together = stood.together;
          variables = set_element (Some e.func) there stood.variables;
          local_types = stood.local_types;
        } in
        let typed : link.func_type g.linked f ≡ Some ty = agree.same.ty_is ∙ ap Some same in
        let typed_c : func_type g.program e.func ≡ Some (c_func_type ty) = agree.stands.c_ty_is
        ∙ ap (λ t. Some (c_func_type t)) (same_Some agree.stands.ty ty (sym agree.stands.ty_is ∙ typed)) in
        let holds = named-with_named element_name v vars (ap is_some (stood.variables.element there).1) in
        let result = args_follow site targets exit base stack left rest more typed (callable f refl) agree.stands fit outs_are slots after
        (tree.Through (c_func_type ty) element_name)
        (λ args target exprs evaluated. through_begins g m new rest target exprs args e.func evaluated holds typed_c)
        way (omega (arith, came.few)) in
        subst (λ b. Follows g 0 targets exit base rest outs from (suc left)
        (if b then exec.invoke calls f own.params left stack now else exec.Stops (exec.Trapped trap.Signature) now)) (sym (decided ∙ is))
        (subst (λ (t : FuncType). Follows g 0 targets exit base rest outs from (suc left) (exec.invoke calls f t.params left stack now))
        (sym same) result)
element_follows law site targets exit base stack left rest more ty fit outs_are slots stood there _ _ agree callable came = absurd agree

type_known : {g : Site} {room : ℕ} {calls : exec.Calls} (index : ℕ) {ty : FuncType} → IsSite g room calls
    → slice_get g.setting.context.types index ≡ Some ty → link.type_at g.linked g.unit index ≡ Some ty
type_known {g} index site is =
    rw (module_is g.linked g.unit g.setting.named site.module_is) (sym (slice_get-map (λ t. t.ty) g.setting.named.tree.types index)
    ∙ ap (λ (c : Context). slice_get c.types index) (sym site.context_is) ∙ is)

-- the index stands on top of the arguments
index_first : (ty : FuncType) (more : Stack) {old : Stack} → old ≡ reverse (ty.params ++ type.I32 ∷ []) ++ more
    → old ≡ type.I32 ∷ (reverse ty.params ++ more)
index_first ty more e = e ∙ ap (λ types. types ++ more) (reverse-append ty.params (type.I32 ∷ []))

pub indirect_calls_follow : NumbersTellTypes → IndirectCallsFollow
indirect_calls_follow law g room calls type_index site has s stack here exit zero =
    let code = emit_kind g.setting (aims_of s.targets) (types_of (stack ++ s.base)) s.label (CallIndirect type_index) in
    let from : Progress = at g s.machine (code ++ s.rest) s.vars in
    record { to = from; goes = tt; statements = 0; way = stays g.program from; least = omega arith }
indirect_calls_follow law g room calls type_index site has s [] here exit (suc left) =
    absurd (no_operand (index_first here.typed.0 here.typed.3.0 here.typed.3.1))
indirect_calls_follow law g room calls type_index site has s (I64 i ∷ stack) here exit (suc left) =
    absurd (types_differ (first_type (index_first here.typed.0 here.typed.3.0 here.typed.3.1)))
indirect_calls_follow law g room calls type_index site has s (I32 i ∷ stack) here exit (suc left) =
    let ty : FuncType = here.typed.0 in
    let more : Stack = here.typed.3.0 in
    let whole : List Value = stack ++ s.base in
    let types : Stack = types_of whole in
    let h : ℕ = length types in
    let fit : types_of stack ≡ reverse ty.params ++ more = other_types (index_first ty more here.typed.3.1) in
    let f : TableFound g s.now.store s.machine s.vars = table_found site here.typed.2 here.stands in
    let a : state.ObjectAddress = table_object f.owner in
    let signature : ℕ = sig_number_of ty.params ty.result in
    let number_arg : tree.Arg = tree.Value (tree.Number (N64 signature)) in
    let args : List tree.Arg = table_arg g.setting.named.tree ∷ tree.Value (operand type.I32 h) ∷ number_arg ∷ [] in
    let given : List state.CValue = Pointer (Some a) ∷ number type.I32 i ∷ number type.I64 signature ∷ [] in
    let first : tree.Stmt = call_helper (Some element_name) helper.Element args in
    let second : tree.Stmt = call_of (tree.Through (c_func_type ty) element_name) ty types in
    let code : List tree.Stmt = first ∷ second ∷ [] in
    let r : state.Running = running g (code ++ s.rest) s.vars in
    let evaluated : evaluate_args g.program s.machine r args ≡ Is given =
    rw (f.evaluated (code ++ s.rest), operand_is g.program s.machine r type.I32 h here.stands.variables.stacked.0) refl in
    let end : CallEnd = element_found s.machine (slice_get f.other.elements i) signature in
    let comes : CallComesTo 100 (helper_of helper.Element) given s.machine end =
    helper_right helper.Element s.machine a f.other f.other_is
    (elements_signed g.program g.linked f.table.elements f.other f.agrees.elements) i signature in
    let came = helper_comes g s.vars (Some element_name) helper.Element args (second ∷ s.rest)
    (has.helpers helper.Element (bytes_equal (helper_of helper.Element).name)) evaluated comes in
    let under = stands_below (I32 i ∷ []) whole here.stands in
    let slots : (u : ValType) → ty.result ≡ Some u → (low : Stack) → drop (length ty.params) types ≡ low
    → g.slots u (length low) ≡ true = λ u e low is. here.slots u (length low) (rw (here.typed.1, is, e) (stands_top u low)) in
    let followed = element_follows law site s.targets exit s.base stack left s.rest more ty fit here.typed.3.2 slots
    under (has.element refl) (slice_get f.table.elements i) (slice_get f.other.elements i) (element_at g.program g.linked f.table.elements
    f.other.elements i f.agrees.elements) (λ function is. callable_at g.linked g.count f.table.elements i f.callable is) came in
    let done : exec.exec_kind g.linked calls g.unit (CallIndirect type_index) (suc left) (I32 i ∷ stack) s.now ≡ exec.call_element g.linked
    calls (slice_get f.table.elements i) ty left stack s.now =
    rw (ap (λ o. if_found o (store.table_in s.now.store)) f.owner_is ∙ f.table_is, type_known type_index site here.typed.1) refl in
    let emitted : emit_kind g.setting (aims_of s.targets) (type.I32 ∷ types) s.label (CallIndirect type_index) ≡ code =
    ap (λ (o : Option FuncType). elim o [ None ↦ [] | Some ty ↦ call_element g.setting types ty ]) here.typed.1 in
    subst (λ code. Follows g 0 s.targets exit s.base s.rest s.outs (at g s.machine (code ++ s.rest) s.vars) (suc left)
    (exec.exec_kind g.linked calls g.unit (CallIndirect type_index) (suc left) (I32 i ∷ stack) s.now)) (sym emitted)
    (subst (λ x. Follows g 0 s.targets exit s.base s.rest s.outs (at g s.machine (code ++ s.rest) s.vars) (suc left) x) (sym done) followed)
