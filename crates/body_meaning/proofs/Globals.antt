-- The instructions on globals are followed by their statements.
use Rattle.body_meaning.proofs.Common.{◌≡◌, ℕ, Bool, true, false, ◌&&◌, List, [], ◌∷◌, ◌++◌, if◌then◌else◌, Some, None, Option, sym, ap}
use Rattle.body_meaning.proofs.Common.{◌∙◌, arith, equal_type_of_same, if_found, named, equal_type, type_of, ValType, Value, GlobalGet}
use Rattle.body_meaning.proofs.Common.{GlobalSet, Number, Site, slot, global_value, set_global, IsSite, KindFollows, operand}
use Rattle.body_meaning.proofs.Common.{set_slot, refl}
use Rattle.c_tree.specs.Tree as tree
use Rattle.wasm_meaning.specs.Store as store
use Rattle.wasm_meaning.specs.Execution as exec
use Rattle.body_meaning.proofs.Vars.{lowered, number_taken, height}
use Rattle.body_meaning.proofs.Gives.{one_step, running, slot_value, leaves_value, leaves_none, arg_reaches, plain_follows, Place}
use Rattle.alike.proofs.Store.{together_global}
use Rattle.body_meaning.proofs.Seen.{global_found, global_assigned}
use Rattle.body_meaning.proofs.Names.{slot_is_no_depth}
use Rattle.body_meaning.proofs.Operands.{no_operand, first_type, other_types}
use Rattle.body_meaning.proofs.Numeric.{value_place}

pub global_get_follows : {g : Site} {room : ℕ} {calls : exec.Calls} (index : ℕ) → IsSite g room calls
    → KindFollows g calls (GlobalGet index)
global_get_follows {g} index site s stack here exit n =
    let t : ValType = here.typed.0 in
    let h : ℕ = height (stack ++ s.base) in
    let f = global_found index site here.typed.2 here.stands in
    let place : Place g s stack t = value_place site here refl here.typed.3.2 stack here.typed.3.1 here.stands in
    let stmt : tree.Stmt = set_slot t h (global_value g.setting.named.tree index) in
    plain_follows g s exit n {code = stmt ∷ []} (ap (λ (found : Option (ValType × Bool)). elim found
    [ None ↦ [] | Some global ↦ set_slot global.0 h (global_value g.setting.named.tree index) ∷ [] ]) here.typed.2)
    (ap (λ o. exec.pushed (if_found o (store.global_in s.now.store)) stack s.now) f.known.address_is
    ∙ ap (λ o. exec.pushed o stack s.now) f.value_is) (λ left. leaves_value place here.stands f.value f.type_is f.is_number [] left
    (omega arith) (omega arith) (arg_reaches g s.machine s.rest s.vars _ _ (slot_is_no_depth t h)
    (number_taken t _ f.value (here.stands.variables.declared t h place.there) f.type_is) (f.evaluated (stmt ∷ s.rest))))

pub global_set_follows : {g : Site} {room : ℕ} {calls : exec.Calls} (index : ℕ) → IsSite g room calls
    → KindFollows g calls (GlobalSet index)
global_set_follows index site s [] here exit n = absurd (no_operand here.typed.2.1)
global_set_follows {g} index site s (v ∷ stack) here exit n =
    let t : ValType = here.typed.0 in
    let whole : List Value = stack ++ s.base in
    let h : ℕ = height whole in
    let is : type_of v ≡ t = first_type here.typed.2.1 in
    let f = global_found index site here.typed.1 here.stands in
    let a = f.known.address in
    let new : store.Store = store.with_global s.now.store a v in
    let holds : named (slot t h) s.vars ≡ Some (Number v) = ap (λ t. named (slot t h) s.vars) (sym is) ∙ here.stands.variables.stacked.0 in
    let may : exec.may_set g.linked a v ≡ true =
    ap (λ (o : Option (ValType × Bool)). elim o [ None ↦ false | Some t ↦ t.1 && equal_type t.0 (type_of v) ]) f.known.type_is
    ∙ equal_type_of_same t _ (sym is) in
    let together = together_global g.program g.linked g.count _ s.machine s.now.store s.now.trail a v f.value f.value_is f.few
    (is ∙ sym f.type_is) here.stands.variables.stack_numbers.0 here.stands.together in
    let stmt : tree.Stmt = set_global g.setting.named.tree index (operand t h) in
    plain_follows g s exit n {code = stmt ∷ []} (ap (λ (found : Option (ValType × Bool)). elim found
    [ None ↦ [] | Some global ↦ set_global g.setting.named.tree index (operand global.0 h) ∷ [] ]) here.typed.1)
    (ap (λ o. exec.global_set g.linked o v stack s.now) f.known.address_is ∙ ap (λ (o : Option Value). elim o [
      | None ↦ exec.NoRule
      | Some old ↦ if exec.may_set g.linked a v then exec.Leaves stack (exec.in_store s.now new) else exec.NoRule
    ]) f.value_is ∙ ap (λ b. if b then exec.Leaves stack (exec.in_store s.now new) else exec.NoRule) may) (λ left. leaves_none s stack
    (here.typed.2.2 ∙ sym (other_types here.typed.2.1)) (lowered (v ∷ []) whole here.stands together) left (omega arith) (omega arith)
    (one_step g.program g.pending _ _ (global_assigned site here.stands f (slot t h) v (f.type_is ∙ sym is) s.rest
    (λ rest. slot_value s.machine (running g rest s.vars) t h holds))))
