-- Linked units that keep the rules are a typed program.
use Rattle.c_sound.proofs.Common.{◌≡◌, ℕ, suc, ◌+◌, true, not, ◌&&◌, ◌||◌, ◌≢◌, List, [], ◌∷◌, map, length, take, is_some, nat_le}
use Rattle.c_sound.proofs.Common.{slice_get, Some, None, filter, Option, option_map, flat_map, sym, refl, ap, ◌∙◌, subst, and_parts}
use Rattle.c_sound.proofs.Common.{false≢true, not-true, AllByRecursion, list_all, all_append, all_at, all_from, by_test, if_found, numbered}
use Rattle.c_sound.proofs.Common.{KeepsRules, are_distinct, hides_none, if_any, is_result_type, is_value_type, is_void, local_names}
use Rattle.c_sound.proofs.Common.{locals_have_values, locals_suit, params_are_named, proper_params, proper_types, same_func_type}
use Rattle.c_sound.proofs.Common.{func_type_of, CType, Definition, Program, defined, definition_at, definitions, func_type, init_functions}
use Rattle.c_sound.proofs.Common.{is_external, is_init, is_init_symbol, link_refusal, typed, Name, UnitFunc, param_types, KeepRules}
use Rattle.c_sound.proofs.Common.{Callable, IsVoid, TypedProgram}
use Rattle.c_tree.specs.declared.tree.CType.TheVariants as type
use Rattle.c_tree.specs.Tree as tree
use Rattle.c_sound.proofs.Choices.{by_option}
use Rattle.c_tree.proofs.SameTypes.{func_types_same}
use Rattle.c_sound.proofs.Lists.{at_numbered}
use Rattle.c_sound.proofs.Kept.{item_kept, stmt_kept, sound_body}
use Rattle.c_sound.proofs.Defined.{IsDefinition, defined_names, names_defined, names_type, is_listed, listed_is, names_typed, typed_names}
use Rattle.c_sound.proofs.Scopes.{scope_is, unit_type}
use Rattle.c_sound.proofs.Starts.{StartsWell, starts}

-- ---- parameters

all_named : (params : List tree.Param) → list_all (λ (q : tree.Param). is_some q.1) params ≡ true
    → param_types params ≡ map (λ (q : tree.Param). q.0) params
all_named [] e = refl
all_named ((t, None) ∷ params) e = absurd (false≢true e)
all_named ((t, Some name) ∷ params) e = ap (λ (types : List CType). t ∷ types) (all_named params e)

types_of_params : (params : List tree.Param) → list_all (λ (q : tree.Param). is_value_type q.0) (proper_params params) ≡ true
    → list_all (λ (q : tree.Param). is_some q.1) (proper_params params) ≡ true
    → param_types params ≡ proper_types (map (λ (q : tree.Param). q.0) params)
types_of_params [] values are_named = refl
types_of_params ((type.Void, None) ∷ []) values are_named = refl
types_of_params ((type.Void, Some name) ∷ []) values are_named = absurd (false≢true values)
types_of_params ((type.Void, None) ∷ q ∷ params) values are_named = absurd (false≢true values)
types_of_params ((type.Void, Some name) ∷ q ∷ params) values are_named = absurd (false≢true values)
types_of_params ((type.Mem, o) ∷ params) values are_named = absurd (false≢true values)
types_of_params ((type.Tab, o) ∷ params) values are_named = absurd (false≢true values)
types_of_params ((t, o) ∷ params) values are_named = all_named ((t, o) ∷ params) are_named

not_empty : (stmts : List tree.Stmt) → nat_le 1 (length stmts) ≡ true → stmts ≢ []
not_empty stmts e empty = false≢true (sym (ap (λ (xs : List tree.Stmt). nat_le 1 (length xs)) empty) ∙ e)

module _ (p : Program) (keep : KeepRules p) (links : link_refusal p ≡ None) where
  unit_keeps : (u : ℕ) (items : List tree.Item) → slice_get p.units u ≡ Some items → KeepsRules items
  unit_keeps u items at = all_at KeepsRules p.units u items keep at

  -- ---- definitions

  callable_at : (u : ℕ) (items : List tree.Item) → slice_get p.units u ≡ Some items → (d : Definition) → IsDefinition items d
      → (ty : tree.FuncType) → func_type_of d.func ≡ ty → Callable p u d ty
  callable_at u items at_u d is ty same =
      let keeps = unit_keeps u items at_u in
      let kept = item_kept items keeps d.item (tree.Function d.func) is.at in
      let types = and_parts
      (is_result_type d.func.result && list_all (λ (q : tree.Param). is_value_type q.0) (proper_params d.func.params))
      (locals_have_values d.func.body) kept.proper in
      let values = (and_parts (is_result_type d.func.result)
      (list_all (λ (q : tree.Param). is_value_type q.0) (proper_params d.func.params)) types.0).1 in
      let own = and_parts (params_are_named d.func)
      (are_distinct (local_names (tree.Function d.func)) && hides_none items (local_names (tree.Function d.func))) kept.own in
      let are_named : list_all (λ (q : tree.Param). is_some q.1) (proper_params d.func.params) ≡ true =
      sym (ap (λ (o : Option tree.Body). not (is_some o)
      || list_all (λ (q : tree.Param). is_some q.1) (proper_params d.func.params)) is.body)
      ∙ own.0 in
      let suit : locals_suit (Some d.body) ≡ true = sym (ap locals_suit is.body) ∙ kept.first in
      let filled : nat_le 1 (length d.body.stmts) ≡ true =
      sym (ap (λ (o : Option tree.Body). if_any o (λ b. nat_le 1 (length b.stmts))) is.body) ∙ kept.filled in
      record {
        declared = take (d.item + 1) items;
        scope_is = scope_is p links u items at_u keeps d.item d.func d.body is.at is.body;
        sound = sound_body (record { declared = take (d.item + 1) items; func = d.func; body = d.body })
            (stmt_kept items keeps d.item d.func d.body is.at is.body);
        more = not_empty d.body.stmts filled;
        params = types_of_params d.func.params values are_named ∙ ap (λ (t : tree.FuncType). proper_types t.params) same;
        result = ap (λ (t : tree.FuncType). t.result) same;
        locals = suit;
      }

  callable_in : (u : ℕ) (items : List tree.Item) → slice_get p.units u ≡ Some items → (name : Name) (ty : tree.FuncType)
      → option_map (λ d. func_type_of d.func) (typed items name) ≡ Some ty
      → (d : Definition) × (definition_at p u name ≡ Some d) × Callable p u d ty
  callable_in u items at_u name ty e = by_option (typed items name)
      (λ none. absurd (let f = rw none at e in cc))
      (λ t there.
      let keeps = unit_keeps u items at_u in
      let type_is : func_type_of t.func ≡ ty = (let f = rw there at e in cc) in
      let names = typed_names items name t there in
      let listed = is_listed items t.item t.func t.body names.is.at names.is.body in
      let found = names_defined items name listed.0 t listed.1 names.name_is in
      let of_name = defined_names items name found.0 found.1 in (
        found.0,
        ap (λ (o : Option (List tree.Item)). if_found o (λ items. defined items name)) at_u ∙ found.1,
        callable_at u items at_u found.0 of_name.is ty
            (names_type items keeps name found.0 t.item t.func of_name names.is.at names.name_is ∙ type_is),
      ))

  callable : (u : ℕ) (name : Name) (ty : tree.FuncType) → func_type p (UnitFunc u name) ≡ Some ty
      → (d : Definition) × (definition_at p u name ≡ Some d) × Callable p u d ty
  callable u name ty e = by_option (slice_get p.units u)
      (λ none. absurd (let f = rw none at e in cc))
      (λ items at_u. callable_in u items at_u name ty
      (sym (ap (λ (o : Option (List tree.Item)). option_map (λ d. func_type_of d.func)
      (if_found o (λ items. typed items name))) at_u) ∙ e))

  -- ---- init functions

  abbrev void_type : tree.FuncType
  void_type = record { params = type.Void ∷ []; result = type.Void }

  is_void_init : (u : ℕ) (items : List tree.Item) → slice_get p.units u ≡ Some items → (j : ℕ) (d : Definition)
      → slice_get (definitions items) j ≡ Some d → is_init d ≡ true → IsVoid p (UnitFunc u d.func.name)
  is_void_init u items at_u j d at is =
      let keeps = unit_keeps u items at_u in
      let parts = and_parts (is_external d && is_init_symbol d.func.name) (same_func_type (func_type_of d.func) void_type) is in
      let found = names_typed items d.func.name j d at refl in
      let names = typed_names items d.func.name found.0 found.1 in (
        u,
        d.func.name,
        refl,
        unit_type p links u items at_u keeps d.func.name found.0 found.1
            ∙ ap Some (names_type items keeps d.func.name found.0 d.item d.func names (listed_is items j d at).at refl
            ∙ func_types_same (func_type_of d.func) void_type parts.1),
      )

  void_inits : (u : ℕ) (ds : List Definition) → ((j : ℕ) (d : Definition) → slice_get ds j ≡ Some d → is_init d ≡ true
      → IsVoid p (UnitFunc u d.func.name))
      → AllByRecursion (IsVoid p) (map (λ (d : Definition). UnitFunc u d.func.name) (filter is_init ds))
  void_inits u [] each = tt
  void_inits u (d ∷ ds) each =
      let others = void_inits u ds (λ j x at is. each (suc j) x at is) in
      by_test (is_init d)
      (λ is. rw is (each 0 d refl is, others))
      (λ is. rw is others)

  inits_of : (units : List (ℕ × List tree.Item))
      → ((j : ℕ) (entry : ℕ × List tree.Item) → slice_get units j ≡ Some entry → slice_get p.units entry.0 ≡ Some entry.1)
      → AllByRecursion (IsVoid p)
      (flat_map (λ (u : ℕ × List tree.Item). map (λ (d : Definition). UnitFunc u.0 d.func.name) (filter is_init (definitions u.1))) units)
  inits_of [] each = tt
  inits_of (u ∷ units) each =
      let others = inits_of units (λ j entry at. each (suc j) entry at) in
      all_append (IsVoid p) (map (λ (d : Definition). UnitFunc u.0 d.func.name) (filter is_init (definitions u.1)))
      (flat_map (λ (u : ℕ × List tree.Item). map (λ (d : Definition). UnitFunc u.0 d.func.name) (filter is_init (definitions u.1))) units)
      (void_inits u.0 (definitions u.1) (λ j d at is. is_void_init u.0 u.1 (each 0 u refl) j d at is)) others

  inits : AllByRecursion (IsVoid p) (init_functions p)
  inits = inits_of (numbered p.units) (λ j entry at.
      let unit = at_numbered p.units j entry at in
      subst (λ (e : ℕ × List tree.Item). slice_get p.units e.0 ≡ Some e.1) (sym unit.2) unit.1)

  -- ---- objects

  starts_well : (items : List tree.Item) → KeepsRules items → (k : ℕ) (item : tree.Item) → slice_get items k ≡ Some item → StartsWell item
  starts_well items keeps k (tree.Var t name number) at =
      let kept = item_kept items keeps k (tree.Var t name number) at in
      (not-true (is_void t) kept.proper, kept.first)
  starts_well items keeps k _ at = tt

  pub typed_program : TypedProgram p
  typed_program = record {
    callable = callable;
    inits = inits;
    start = starts p (λ u items at. all_from StartsWell items (starts_well items (unit_keeps u items at)));
  }
