-- The functions that a module defines: what their units have for them, and that those stand for them with
-- no frame between.
use Rattle.body_meaning.proofs.Common.{◌≡◌, ℕ, suc, ◌+◌, ◌-◌, ◌≤◌, List, [], ◌∷◌, ◌++◌, map, length, slice_get, Some, None, Option}
use Rattle.body_meaning.proofs.Common.{option_map, unwrap_or, sym, refl, ap, ◌∙◌, subst, inl, arith, same_Some, all_at, if_found, FuncType}
use Rattle.body_meaning.proofs.Common.{ValType, defined_behind_imports, declared_locals, imported_funcs, type_in, BodyEntry, FuncEntry}
use Rattle.body_meaning.proofs.Common.{Context, context_of, BodyHasType, bodies_of, func_type_of, stays, Program, c_params_of, c_type_of}
use Rattle.body_meaning.proofs.Common.{definition_at, func_type, primitive, func_name, c_func_type, IsDefined, body_of, defined_at}
use Rattle.body_meaning.proofs.Common.{element_local, func_of, locals_from, no_func, params_from, params_of, slots_of, stmts_of}
use Rattle.body_meaning.proofs.Common.{BodyHasLimits, StandsFor, called, given, AreServed}
use Rattle.w2c_base.specs.declared.value.ValType.TheVariants as type
use Rattle.w2c_base.proofs.Lists.{get_zipped}
use Rattle.c_tree.specs.Tree as tree
use Rattle.wasm_meaning.specs.LinkedSet as link
use Rattle.c_meaning.specs.State as state
use Rattle.c_symbols.proofs.FewParams.{few_params}
use Rattle.body_definition.proofs.Bounds.{within_of}
use Rattle.body_definition.proofs.TypedBodies.{typed_body}
use Rattle.body_meaning.proofs.Indexes.{own_type}
use Rattle.alike.proofs.LookUps.{module_is}

-- the body of a function
abbrev pub func_body : link.NamedModule → FuncType → BodyEntry → tree.Body
func_body m ty entry =
    let c : Context = context_of m.tree ty entry in
    record {
      locals = locals_from (length ty.params) (declared_locals entry.runs) ++
          (slots_of type.I32 c entry.code ++ (slots_of type.I64 c entry.code ++ element_local entry.code));
      stmts = stmts_of (record { named = m; context = c }) entry.code;
    }

-- a function of the module with this number: its type and code, and its definition in the unit
pub record IsOwn (p : Program) (s : link.LinkedSet) (u : ℕ) (m : link.NamedModule) (index : ℕ) : Type 0 where
  pub ty : FuncType
  pub entry : BodyEntry
  pub item : ℕ
  pub place : ℕ
  pub body_at : slice_get m.tree.bodies place ≡ Some entry
  pub typed : link.func_type s (link.ModuleFunc u index) ≡ Some ty
  pub code_is : link.body_of s u index ≡ Some entry
  pub defined : definition_at p u (func_name index) ≡ Some
      (record { item = item; func = func_of m index ty entry; body = func_body m ty entry })
  pub c_typed : func_type p (state.UnitFunc u (func_name index)) ≡ Some (func_type_of (func_of m index ty entry))
  pub is_no_primitive : primitive (func_name index) ≡ None
  pub valid : BodyHasType (context_of m.tree ty entry) entry.code
  pub within : BodyHasLimits entry
  pub few : length ty.params ≤ 60

-- a function that is there has an entry, a body and a type
body_found : (m : link.NamedModule) (index : ℕ) {body : tree.Body} → (body_of m.tree m.name index).body ≡ Some body
    → (d : FuncEntry × BodyEntry) × (ty : FuncType) × (defined_at m.tree index ≡ Some d) × (type_in m.tree d.0.type_index ≡ Some ty)
    × (body_of m.tree m.name index ≡ func_of m index ty d.1)
body_found m index {body} has = of_entry (defined_at m.tree index) refl has
  where
    of_type : (d : FuncEntry × BodyEntry) (o : Option FuncType) → defined_at m.tree index ≡ Some d → type_in m.tree d.0.type_index ≡ o
        → (unwrap_or (option_map (λ ty. func_of m index ty d.1) o) no_func).body ≡ Some body
        → (d : FuncEntry × BodyEntry) × (ty : FuncType) × (defined_at m.tree index ≡ Some d) × (type_in m.tree d.0.type_index ≡ Some ty)
        × (body_of m.tree m.name index ≡ func_of m index ty d.1)
    of_type d None at is has = absurd cc
    of_type d (Some ty) at is has = (d, ty, at, is, rw (at, is) refl)

    of_entry : (o : Option (FuncEntry × BodyEntry)) → defined_at m.tree index ≡ o
        → (unwrap_or (if_found o (λ d. option_map (λ ty. func_of m index ty d.1) (type_in m.tree d.0.type_index))) no_func).body ≡ Some body
        → (d : FuncEntry × BodyEntry) × (ty : FuncType) × (defined_at m.tree index ≡ Some d) × (type_in m.tree d.0.type_index ≡ Some ty)
        × (body_of m.tree m.name index ≡ func_of m index ty d.1)
    of_entry None at has = absurd cc
    of_entry (Some d) at has = of_type d (type_in m.tree d.0.type_index) at refl has

pub own_is : {p : Program} {s : link.LinkedSet} (u : ℕ) {m : link.NamedModule} {index : ℕ} → AreServed p s → slice_get s.modules u ≡ Some m
    → IsDefined m.tree index → IsOwn p s u m index
own_is {p} {s} u {m} {index} served is known =
    let defines = (served.serve u m is).bodies index known in
    let found = body_found m index defines.has_body in
    let d = found.0 in
    let j = index - imported_funcs m.tree in
    let place : imported_funcs m.tree + j ≡ index = omega (arith, known.behind) in
    let entries : slice_get (bodies_of m.tree) j ≡ Some d = sym (defined_behind_imports m.tree _ index j (sym place)) ∙ found.2 in
    let parts = get_zipped m.tree.funcs m.tree.bodies j d entries in
    let body_is : func_body m found.1 d.1 ≡ defines.body = same_Some (func_body m found.1 d.1) defines.body
    (ap (λ (f : tree.Func). f.body) (sym found.4) ∙ defines.has_body) in
    record {
      ty = found.1;
      entry = d.1;
      item = defines.item;
      place = j;
      body_at = parts.1;
      typed = ap (λ (k : ℕ). link.func_type s (link.ModuleFunc u k)) (sym place) ∙ (own_type s u j is parts.0 ∙ found.3);
      code_is = rw (module_is s u m is) (defined_behind_imports m.tree m.tree.bodies index j (sym place) ∙ parts.1);
      defined = subst (λ (f : tree.Func). definition_at p u f.name ≡ Some (record { item = defines.item; func = f; body = defines.body }))
          found.4 defines.defined
          ∙ ap (λ (b : tree.Body). Some (record { item = defines.item; func = func_of m index found.1 d.1; body = b })) (sym body_is);
      c_typed = subst (λ (f : tree.Func). func_type p (state.UnitFunc u f.name) ≡ Some (func_type_of f)) found.4 defines.typed;
      is_no_primitive = ap (λ (f : tree.Func). primitive f.name) (sym found.4) ∙ defines.is_no_primitive;
      valid = typed_body m.tree _ j d found.1 (served.valid u m is).bodies entries found.3;
      within = all_at BodyHasLimits m.tree.bodies j d.1 (within_of m.tree (served.within u m is)).bodies parts.1;
      few = few_params m.tree d.0.type_index found.1 (within_of m.tree (served.within u m is)).params found.3;
    }

-- ---- their C types

params_types : (k : ℕ) (types : List ValType) → map (λ p. p.0) (params_from k types) ≡ map c_type_of types
params_types k [] = refl
params_types k (t ∷ types) = ap (λ rest. c_type_of t ∷ rest) (params_types (suc k) types)

func_type_is : (m : link.NamedModule) (index : ℕ) (ty : FuncType) (entry : BodyEntry)
    → func_type_of (func_of m index ty entry) ≡ c_func_type ty
func_type_is m index ty entry = ap (λ params. record { params = params; result = (c_func_type ty).result }) (of_params ty.params)
  where
    of_params : (types : List ValType) → map (λ p. p.0) (params_of types) ≡ c_params_of types
    of_params [] = refl
    of_params (t ∷ types) = params_types 0 (t ∷ types)

-- a static function stands for the module's function, and nothing passes its calls on
pub own_stands : {p : Program} {s : link.LinkedSet} (u : ℕ) {m : link.NamedModule} {index : ℕ} → AreServed p s
    → slice_get s.modules u ≡ Some m → IsDefined m.tree index → StandsFor p s (link.ModuleFunc u index) (state.UnitFunc u (func_name index))
own_stands {p} u {m} {index} served is known =
    let own = own_is u served is known in
    record {
      alike = inl (record { index = index; name_is = refl; func_is = refl });
      ty = own.ty;
      ty_is = own.typed;
      c_ty_is = own.c_typed ∙ ap (λ t. Some t) (func_type_is m index own.ty own.entry);
      passes = λ pending machine args below fit. record {
        frames = [];
        there = 0;
        back = 0;
        few = omega arith;
        calls = stays p (called p pending (state.UnitFunc u (func_name index)) machine args below);
        gives = λ after value typed. stays p (given p pending after value below);
      };
    }
