-- Names of a unit that keeps the rules, in a program that links, stand for what the unit declares.
use Rattle.c_sound.proofs.Common.{◌≡◌, ℕ, zero, suc, ◌+◌, Bool, true, false, not, List, [], ◌∷◌, ◌++◌, map, take, is_some, if◌then◌else◌}
use Rattle.c_sound.proofs.Common.{slice_get, Some, None, Option, option_map, flat_map, filter_map, bytes_eq, sym, refl, ap, ◌∙◌, subst, inl}
use Rattle.c_sound.proofs.Common.{inr, and_parts, both_ways, false≢true, not-true, or_cases, bytes_eq-Decides, AllByRecursion, cons_option}
use Rattle.c_sound.proofs.Common.{list_all, option_or, append_none, numbered_at, by_test, if_found, named, numbered, KeepsRules}
use Rattle.c_sound.proofs.Common.{body_variables, is_own_name, is_runtime_name, is_symbol, same_func_type, array_of, func_type_of}
use Rattle.c_sound.proofs.Common.{function_of, is_among, local_variables, param_variables, variable_of, CType, Definition, LinkRefusal}
use Rattle.c_sound.proofs.Common.{NotDefined, Program, TypeDiffers, array_bytes, defined, external_func, external_functions, func_named}
use Rattle.c_sound.proofs.Common.{func_type, link_refusal, typed, CValue, FuncAddress, Machine, Name, UnitFunc, depth_name, ScopeOf}
use Rattle.c_sound.proofs.Common.{none_first}
use Rattle.c_tree.specs.Tree as tree
use Rattle.c_meaning.proofs.Links.{all_twice, all_unresolved, program_unresolved, refusal_stands}
use Rattle.c_meaning.specs.Primitives as prim
use Rattle.c_sound.proofs.Choices.{by_option, not_both}
use Rattle.c_tree.proofs.SameTypes.{func_types_same}
use Rattle.c_sound.proofs.Lists.{◌&◌, cons_not_none, flat_none, kept_at, named_from, named_front, take_keeps}
use Rattle.c_sound.proofs.Kept.{free_names}
use Rattle.c_sound.proofs.Defined.{defined_names, names_type, is_listed, names_typed, typed_names, static_defined}

-- ---- names of primitives

abbrev IsReserved : Name → Type 0
IsReserved name = (is_runtime_name name ≡ true) × (is_symbol name ≡ false)

reserved_in : (entries : List (Name × (List CValue → Machine → prim.Effect))) (name : Name) (does : List CValue → Machine → prim.Effect)
    → AllByRecursion (λ (e : Name × (List CValue → Machine → prim.Effect)). IsReserved e.0) entries → named name entries ≡ Some does
    → IsReserved name
reserved_in [] name does all e = absurd cc
reserved_in (x ∷ entries) name does all e = by_test (bytes_eq x.0 name)
    (λ is. subst IsReserved ((bytes_eq-Decides x.0 name).0 is) all.0)
    (λ is. reserved_in entries name does all.1 (rw is at e))

reserved : AllByRecursion (λ (e : Name × (List CValue → Machine → prim.Effect)). IsReserved e.0) prim.primitives
reserved =
    (refl, refl) & (refl, refl) & (refl, refl) & (refl, refl) & (refl, refl) & (refl, refl) & (refl, refl) & (refl, refl) & (refl, refl) &
    (refl, refl) & (refl, refl) & (refl, refl) & (refl, refl) & (refl, refl) & (refl, refl) & (refl, refl) & (refl, refl) & (refl, refl) &
    (refl, refl) & tt

-- ---- names of variables

own_none : (vars : List (Name × CType)) → list_all is_own_name (map (λ (v : Name × CType). v.0) vars) ≡ true
    → named depth_name vars ≡ None
own_none [] e = refl
own_none (v ∷ vars) e =
    let parts = and_parts (is_own_name v.0) (list_all is_own_name (map (λ (v : Name × CType). v.0) vars)) e in
    by_test (bytes_eq v.0 depth_name)
    (λ is.
    let own : is_own_name depth_name ≡ true =
    subst (λ (n : Name). is_own_name n ≡ true) ((bytes_eq-Decides v.0 depth_name).0 is) parts.0 in
    absurd (false≢true own))
    (λ is. rw is (own_none vars parts.1))

abbrev locals_in : Option tree.Body → List (Name × CType)
locals_in None = []
locals_in (Some b) = local_variables b

body_vars : (static : Bool) (result : CType) (name : Name) (params : List tree.Param) (o : Option tree.Body)
    → body_variables (record { is_static = static; result = result; name = name; params = params; body = o })
    ≡ param_variables (record { is_static = static; result = result; name = name; params = params; body = o }) ++ locals_in o
body_vars static result name params None = refl
body_vars static result name params (Some b) = refl

array_there : (name : Name) (n : ℕ) (items : List tree.Item) → is_among name (filter_map array_of (take n items)) ≡ true
    → is_some (slice_get (filter_map (array_bytes name) items) 0) ≡ true
array_there name zero items e = absurd (false≢true e)
array_there name (suc n) [] e = absurd (false≢true e)
array_there name (suc n) (tree.Var t x number ∷ items) e = array_there name n items e
array_there name (suc n) (tree.Function f ∷ items) e = array_there name n items e
array_there name (suc n) (tree.Array x count bytes ∷ items) e = by_test (bytes_eq x name)
    (λ is. ap (λ (b : Bool). is_some (slice_get (cons_option (if b then Some bytes else None) (filter_map
    (array_bytes name) items)) 0)) is)
    (λ is.
    let differ : bytes_eq name x ≡ true → ⊥ = λ same.
    both_ways (bytes_eq x name) is ((bytes_eq-Decides x name).1 (sym ((bytes_eq-Decides name x).0 same))) in
    ap (λ (b : Bool). is_some (slice_get (cons_option (if b then Some bytes else None) (filter_map (array_bytes name) items)) 0)) is
    ∙ elim (or_cases (bytes_eq name x) (is_among name (filter_map array_of (take n items))) e) [
      | inl same ↦ absurd (differ same)
      | inr behind ↦ array_there name n items behind
    ])

-- ---- declarations that link

abbrev external_of : tree.Item → Option tree.Func
external_of item = elim item [
  | tree.Array name count bytes ↦ None
  | tree.Var ty name number ↦ None
  | tree.Function f ↦ if f.is_static then None else Some f
]

module _ (p : Program) (links : link_refusal p ≡ None) where
  resolves : (u : ℕ) (g : tree.Func) → program_unresolved p u g ≡ []
      → (f : FuncAddress) × (external_func p g.name ≡ Some f) × (func_type p f ≡ Some (func_type_of g))
  resolves u g e = by_option (external_func p g.name)
      (λ none. absurd (cons_not_none (NotDefined u g.name) [] (sym (ap (λ o. refusals (if_found o (func_type p))) none) ∙ e)))
      (λ f there. by_option (func_type p f)
      (λ none. absurd (cons_not_none (NotDefined u g.name) []
      (sym (ap (λ o. refusals (if_found o (func_type p))) there ∙ ap refusals none) ∙ e)))
      (λ ty is. by_test (same_func_type ty (func_type_of g))
      (λ same. (f, there, is ∙ ap Some (func_types_same ty (func_type_of g) same)))
      (λ differ. absurd (cons_not_none (TypeDiffers u g.name) []
      (sym (ap (λ o. refusals (if_found o (func_type p))) there ∙ ap refusals is
      ∙ ap (λ (b : Bool). if b then [] else TypeDiffers u g.name ∷ []) differ) ∙ e)))))
    where
      refusals : Option tree.FuncType → List LinkRefusal
      refusals o = elim o [
        | None ↦ NotDefined u g.name ∷ []
        | Some ty ↦ if same_func_type ty (func_type_of g) then [] else TypeDiffers u g.name ∷ []
      ]

  linked : (u : ℕ) (items : List tree.Item) (i : ℕ) (g : tree.Func) → slice_get p.units u ≡ Some items
      → slice_get items i ≡ Some (tree.Function g) → g.is_static ≡ false
      → (f : FuncAddress) × (external_func p g.name ≡ Some f) × (func_type p f ≡ Some (func_type_of g))
  linked u items i g at_u at_i shown =
      let none : all_unresolved p ≡ [] =
      (append_none (all_twice p) (all_unresolved p) (none_first (all_twice p ++ all_unresolved p) (sym (refusal_stands p) ∙ links))).1 in
      let of_unit : flat_map (program_unresolved p u) (external_functions items) ≡ [] =
      flat_none (λ (u : ℕ × List tree.Item). flat_map (program_unresolved p u.0) (external_functions u.1)) (numbered p.units) none u
      (u, items)
      (numbered_at p.units u items at_u) in
      let listed = kept_at external_of items i (tree.Function g) g at_i (ap (λ (b : Bool). if b then None else Some g) shown) in
      resolves u g (flat_none (program_unresolved p u) (external_functions items) of_unit listed.0 g listed.1)

  module _ (u : ℕ) (items : List tree.Item) (at_u : slice_get p.units u ≡ Some items) (keeps : KeepsRules items) where
    -- a function of the unit is none of the runtime
    no_primitive : (k : ℕ) (g : tree.Func) → slice_get items k ≡ Some (tree.Function g) → prim.primitive g.name ≡ None
    no_primitive k g at = by_option (prim.primitive g.name)
        (λ none. none)
        (λ does there.
        let kinds = reserved_in prim.primitives g.name does reserved there in
        let named_so = (free_names items keeps k (tree.Function g) at).0 in
        by_test g.is_static
        (λ static.
        let own : is_own_name g.name ≡ true =
        sym (ap (λ (b : Bool). if b then is_own_name g.name else is_symbol g.name) static) ∙ named_so in
        let not_so = (and_parts (not (is_runtime_name g.name)) (not (is_symbol g.name)) own).0 in
        absurd (both_ways (is_runtime_name g.name) (not-true (is_runtime_name g.name) not_so) kinds.0))
        (λ shown.
        let symbol : is_symbol g.name ≡ true =
        sym (ap (λ (b : Bool). if b then is_own_name g.name else is_symbol g.name) shown) ∙ named_so in
        absurd (both_ways (is_symbol g.name) kinds.1 symbol)))

    -- the type of a name that the unit defines
    pub unit_type : (name : Name) (d : Definition) → typed items name ≡ Some d
        → func_type p (UnitFunc u name) ≡ Some (func_type_of d.func)
    unit_type name d is =
        ap (λ (o : Option (List tree.Item)). option_map (λ d. func_type_of d.func) (if_found o (λ items. typed items name))) at_u
        ∙ ap (option_map (λ d. func_type_of d.func)) is

    pub type_of_listed : (k : ℕ) (g : tree.Func) → slice_get items k ≡ Some (tree.Function g) → (d : Definition)
        → defined items g.name ≡ Some d → func_type p (UnitFunc u g.name) ≡ Some (func_type_of g)
    type_of_listed k g at d is =
        let names = defined_names items g.name d is in
        let listed = is_listed items d.item d.func d.body names.is.at names.is.body in
        let found = names_typed items g.name listed.0 d listed.1 names.name_is in
        unit_type g.name found.0 found.1
        ∙ ap Some (names_type items keeps g.name found.0 k g (typed_names items g.name found.0 found.1) at refl)

    declared_func : (k : ℕ) (g : tree.Func) → slice_get items k ≡ Some (tree.Function g)
        → (f : FuncAddress) × (func_named p u g.name ≡ Some f) × (func_type p f ≡ Some (func_type_of g))
    declared_func k g at = by_option (defined items g.name)
        (λ none. by_test g.is_static
        (λ static.
        let there = static_defined items keeps k g at static in
        absurd (not_both (defined items g.name) there.0 none there.1))
        (λ shown.
        let found = linked u items k g at_u at shown in
        (found.0, named_in (None) none ∙ found.1, found.2)))
        (λ d is. (UnitFunc u g.name, named_in (Some d) is, type_of_listed k g at d is))
      where
        named_in : (o : Option Definition) → defined items g.name ≡ o
            → func_named p u g.name ≡ option_or (option_map (λ d. UnitFunc u g.name) o) (external_func p g.name)
        named_in o e =
            ap (λ (x : Option (List tree.Item)). if_found x (λ items.
            option_or (option_map (λ d. UnitFunc u g.name) (defined items g.name)) (external_func p g.name))) at_u
            ∙ ap (λ (x : Option Definition). option_or (option_map (λ d. UnitFunc u g.name) x) (external_func p g.name)) e

    func_of_item : (name : Name) (ty : tree.FuncType) (item : tree.Item) → function_of item ≡ Some (name, ty)
        → (g : tree.Func) × (item ≡ tree.Function g) × (g.name ≡ name) × (func_type_of g ≡ ty)
    func_of_item name ty (tree.Function g) e =
        let same : (g.name, func_type_of g) ≡ (name, ty) = cc in
        (g, refl, ap (λ (x : Name × tree.FuncType). x.0) same, ap (λ (x : Name × tree.FuncType). x.1) same)
    func_of_item name ty _ e = absurd cc

    var_of_item : (name : Name) (ty : CType) (k : ℕ) (item : tree.Item) → slice_get items k ≡ Some item
        → variable_of item ≡ Some (name, ty)
        → is_own_name name ≡ true
    var_of_item name ty k (tree.Var t n number) at e =
        let same : (n, t) ≡ (name, ty) = cc in
        subst (λ (x : Name). is_own_name x ≡ true) (ap (λ (x : Name × CType). x.0) same)
        (free_names items keeps k (tree.Var t n number) at).0
    var_of_item name ty k _ at e = absurd cc

    -- the scope of a function of the unit
    pub scope_is : (k : ℕ) (f : tree.Func) (b : tree.Body) → slice_get items k ≡ Some (tree.Function f) → f.body ≡ Some b
        → ScopeOf p u (record { declared = take (k + 1) items; func = f; body = b })
    scope_is k f b at is = record {
      file_vars = λ name t e.
          ap (λ (o : Option (List tree.Item)). if_found o (λ items. named name (filter_map variable_of items))) at_u
          ∙ named_front variable_of (k + 1) items name t e;
      arrays_are = λ name e.
          ap (λ (o : Option (List tree.Item)).
          is_some (if_found o (λ items. slice_get (filter_map (array_bytes name) items) 0))) at_u
          ∙ array_there name (k + 1) items e;
      funcs = λ name ty e.
          let from = named_from function_of (take (k + 1) items) name ty e in
          let g = func_of_item name ty from.1 from.3 in
          let at_g : slice_get items from.0 ≡ Some (tree.Function g.0) =
          take_keeps (k + 1) items from.0 from.1 from.2 ∙ ap Some g.1 in
          let found = declared_func from.0 g.0 at_g in (
            subst (λ (n : Name). prim.primitive n ≡ None) g.2 (no_primitive from.0 g.0 at_g),
            (found.0, subst (λ (n : Name). func_named p u n ≡ Some found.0) g.2 found.1, found.2 ∙ ap Some g.3),
          );
      own = own_none (param_variables f ++ local_variables b)
          (subst (λ (vars : List (Name × CType)). list_all is_own_name (map (λ (v : Name × CType). v.0) vars) ≡ true)
          (body_vars f.is_static f.result f.name f.params f.body ∙ ap (λ o. param_variables f ++ locals_in o) is)
          (free_names items keeps k (tree.Function f) at).1);
      file = by_option (named depth_name (filter_map variable_of (take (k + 1) items)))
          (λ none. none)
          (λ t there.
          let from = named_from variable_of items depth_name t (named_front variable_of (k + 1) items depth_name t there) in
          absurd (false≢true (var_of_item depth_name t from.0 from.1 from.2 from.3)));
    }
