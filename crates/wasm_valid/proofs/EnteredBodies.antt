-- What is entered of bodies, one by one, is what the bodies of the module have.
use Rattle.wasm_valid.proofs.Common.{◌≡◌, ℕ, ◌⊎◌, List, [], ◌∷◌, ◌++◌, map, slice_get, Some, None, Ok, Err, Option, option_map, zip, sym}
use Rattle.wasm_valid.proofs.Common.{refl, ap, ◌∙◌, subst, inl, inr, append_assoc, append-nil, FuncType, declared_locals, func_space}
use Rattle.wasm_valid.proofs.Common.{global_space, memory_space, table_space, BodyEntry, Module, Operands, check, refusal, body_context}
use Rattle.wasm_valid.proofs.Common.{context_of, entered, EntersBodies, EntersBody, body_context_seen, typed_context_seen, module_faults}
use Rattle.wasm_valid.proofs.Common.{AreSpacesOf, type_seen, Bodies, FaultsOfBodies, Verdict, bodies_of, outcome_of, Fault}
use Rattle.wasm_tree.specs.declared.entries.FuncEntry.{FuncEntry}
use Rattle.body_check.specs.declared.context.Spaces.{Spaces}
use Rattle.wasm_valid.proofs.Entered.{entered-append, entered-first}
use Rattle.body_check.proofs.FirstFaults.{Tells, check_tells}

-- what is seen is the context
same_context : (s : Spaces) (m : Module) (body : BodyEntry) (ty : FuncType) → AreSpacesOf s m
    → typed_context_seen s body ty ≡ context_of m ty body
same_context s m body ty a =
    simp (a.funcs, a.tables, a.memories, a.globals)
    (ap (λ types. record {
      types = map (λ t. t.ty) types;
      funcs = map (λ index. option_map (λ t. t.ty) (slice_get types index)) (func_space m);
      tables = table_space m;
      memories = memory_space m;
      globals = global_space m;
      locals = ty.params ++ declared_locals body.runs;
      result = ty.result;
    }) a.types)

same_seen : (s : Spaces) (m : Module) (body : BodyEntry) (found : Option FuncType) → AreSpacesOf s m
    → option_map (typed_context_seen s body) found ≡ option_map (λ ty. context_of m ty body) found
same_seen s m body None a = refl
same_seen s m body (Some ty) a = ap Some (same_context s m body ty a)

pub same_body_context : (s : Spaces) (m : Module) (func : FuncEntry) (body : BodyEntry) → AreSpacesOf s m
    → body_context_seen s func body ≡ body_context m func body
same_body_context s m func body a =
    same_seen s m body (type_seen s func.type_index) a
    ∙ ap (λ types. option_map (λ ty. context_of m ty body) (option_map (λ t. t.ty) (slice_get types func.type_index))) a.types

-- a body that was checked: it has a typing, or its first fault is entered
module _ (s : Spaces) (ty : FuncType) (body : BodyEntry) where
  pub typed_entered : (left : Operands) (old : Option Fault) → check (typed_context_seen s body ty) body.code body.end_place ≡ Ok left
      → EntersBody (Some (typed_context_seen s body ty)) body old old
  typed_entered left old e =
      ([], inl (subst (Tells (typed_context_seen s body ty) body) e (check_tells (typed_context_seen s body ty) body), refl), refl)

  pub fault_entered : (token : ℕ) (fault : Fault) (old new : Option Fault)
      → check (typed_context_seen s body ty) body.code body.end_place ≡ Err (refusal token fault)
      → new ≡ entered old (fault ∷ []) → EntersBody (Some (typed_context_seen s body ty)) body old new
  fault_entered token fault old new e is = (
    fault ∷ [],
    inr (fault, subst (Tells (typed_context_seen s body ty) body) e (check_tells (typed_context_seen s body ty) body), refl),
    is,
  )

-- what was entered of bodies so far, and what the bodies that are left have, is what all have
abbrev pub Entering : Module → Bodies → Bodies → Option Fault → Option Fault → Type 0
Entering m all left old now = (faults : List Fault) × (now ≡ entered old faults)
    × ((others : List Fault) → FaultsOfBodies m left others → FaultsOfBodies m all (faults ++ others))

one_entered : (m : Module) (all left : Bodies) (func : FuncEntry) (body : BodyEntry) (old now new : Option Fault)
    → Entering m all ((func, body) ∷ left) old now → EntersBody (body_context m func body) body now new → Entering m all left old new
one_entered m all left func body old now new h e = (
  h.0 ++ e.0,
  e.2 ∙ ap (λ o. entered o e.0) h.1 ∙ sym (entered-append old h.0 e.0),
  λ others k. subst (FaultsOfBodies m all) (sym (append_assoc h.0 e.0 others)) (h.2 (e.0 ++ others) (e.0, others, e.1, k, refl)),
)

-- one more function and its body
pub one_pair_entered : (m : Module) (all : Bodies) (funcs more_funcs : List FuncEntry) (bodies more_bodies : List BodyEntry)
    (func : FuncEntry) (body : BodyEntry) (old now new : Option Fault)
    → funcs ≡ func ∷ more_funcs → bodies ≡ body ∷ more_bodies
    → Entering m all (zip funcs bodies) old now → EntersBody (body_context m func body) body now new
    → Entering m all (zip more_funcs more_bodies) old new
one_pair_entered m all funcs more_funcs bodies more_bodies func body old now new of_funcs of_bodies h =
    one_entered m all (zip more_funcs more_bodies) func body old now new
    (subst (λ fs. Entering m all (zip fs (body ∷ more_bodies)) old now) of_funcs
    (subst (λ bs. Entering m all (zip funcs bs) old now) of_bodies h))

-- none is left
zip_empty : (funcs : List FuncEntry) (bodies : List BodyEntry) → (funcs ≡ []) ⊎ (bodies ≡ []) → zip funcs bodies ≡ []
zip_empty [] bodies h = refl
zip_empty (f ∷ funcs) [] h = refl
zip_empty (f ∷ funcs) (b ∷ bodies) (inl e) = cc
zip_empty (f ∷ funcs) (b ∷ bodies) (inr e) = cc

all_entered : (m : Module) (all left : Bodies) (old new : Option Fault) → left ≡ [] → Entering m all left old new
    → EntersBodies m all old new
all_entered m all left old new none h =
    (h.0, subst (FaultsOfBodies m all) (append-nil h.0) (h.2 [] (subst (λ bs. FaultsOfBodies m bs []) (sym none) refl)), h.1)

pub all_pairs_entered : (m : Module) (all : Bodies) (funcs : List FuncEntry) (bodies : List BodyEntry) (old new : Option Fault)
    → (funcs ≡ []) ⊎ (bodies ≡ []) → Entering m all (zip funcs bodies) old new → EntersBodies m all old new
all_pairs_entered m all funcs bodies old new none h = all_entered m all (zip funcs bodies) old new (zip_empty funcs bodies none) h

-- what is found in the end says what the module is
pub verdict_found : (m : Module) (found : Option Fault) → EntersBodies m (bodies_of m) (entered None (module_faults m)) found
    → Verdict m (outcome_of found)
verdict_found m found h = (
  module_faults m ++ h.0,
  (h.0, h.1, refl),
  ap outcome_of (h.2 ∙ sym (entered-append None (module_faults m) h.0) ∙ entered-first (module_faults m ++ h.0)),
)
