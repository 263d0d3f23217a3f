-- The function that stands for a body breaks no rule in a unit that declares what the module's bodies need.
use Rattle.body_rules.proofs.Common.{I32, I64, take_with, body_labels_differ, stands_top, all_map, ◌≡◌, ℕ, suc, ◌+◌, ◌^◌, ◌<◌, ◌≤◌, Bool}
use Rattle.body_rules.proofs.Common.{true, false, List, [], ◌∷◌, ◌++◌, map, length, drop, is_some, if◌then◌else◌, nat_le, slice_get}
use Rattle.body_rules.proofs.Common.{Some, codes, sym, refl, ap, ◌∙◌, subst, append_assoc, arith, or_left, or_right, list_any-append, named}
use Rattle.body_rules.proofs.Common.{AllByRecursion, list_all, list_any, FuncType, ValType, global_space, Code, BodyEntry, Context, values}
use Rattle.body_rules.proofs.Common.{context_of, BodyHasType, broken_in_body, broken_in_item, broken_of, Place, are_distinct, defines, Name}
use Rattle.body_rules.proofs.Common.{body_is_not_empty, hides_none, is_declared_once, is_own_name, is_value_type, item_rules, local_names}
use Rattle.body_rules.proofs.Common.{number_suits, proper_params, primitives, Scope, local_variables, name_of, param_variables, variables}
use Rattle.body_rules.proofs.Common.{CType, N32, NamedModule, bytes_equal, c_type_of, depth_name, global_name, memory_name, table_name}
use Rattle.body_rules.proofs.Common.{helper_type, helper_of, c_func_type, global_imports, memory_imports, pointer_type, table_imports, slot}
use Rattle.body_rules.proofs.Common.{func_of, has_slot, most_operands, params_from, params_of, stmts_of, zero_local, entry_label, any_in}
use Rattle.body_rules.proofs.Common.{labels_in, element_name, label_name, local_name, pointer_name, calls_helper, global_value, set_global}
use Rattle.body_rules.proofs.Common.{Setting, stands, class, NoneOf, Variables, vars_in, funcs_in, named_in, past_none}
use Rattle.c_tree.specs.declared.tree.CType.TheVariants as type
use Rattle.c_tree.specs.declared.tree.COp.TheVariants as op
use Rattle.c_tree.specs.Tree as tree
use Rattle.c_tree.specs.Scope as scope
use Rattle.body_rules.proofs.Rules.{Passes, IsTyped, name_typed, star_typed, IsArg, value_arg, address_arg, set_passes, set_star_passes}
use Rattle.body_rules.proofs.RulesOfKinds.{Knows, no_object}
use Rattle.body_rules.proofs.RulesOfCode.{AfterIsOuts, result_type}
use Rattle.body_rules.proofs.RulesOfFunctions.{none_broken, body_keeps}
use Rattle.body_rules.proofs.RulesOfBodies.{body_passes, exit_is_there, body_ends_well}
use Rattle.body_rules.proofs.Classes.{not_there}
use Rattle.body_rules.specs.Declared.{FileKnows}
use Rattle.body_rules.proofs.OwnNames.{named_past, Avoid, own_variables, own_are, body_locals, each_local}
use Rattle.body_rules.proofs.OwnNames.{letter_avoids, local_named, slot_named, element_named, names, own_class, own_free, own_distinct}

-- ---- the types of variables, and their first values

pub all_true : {A : Type 0} (test : A → Bool) (xs : List A) → AllByRecursion (λ x. test x ≡ true) xs → list_all test xs ≡ true
all_true test [] all = refl
all_true test (x ∷ xs) all = rw (all.0, all_true test xs all.1) refl

value_type : (t : ValType) → is_value_type (c_type_of t) ≡ true
value_type I32 = refl
value_type I64 = refl

zero_suits : (t : ValType) (name : Name) → number_suits (zero_local t name).0 (zero_local t name).2 ≡ true
zero_suits I32 name = refl
zero_suits I64 name = refl

locals_values : (ty : FuncType) (body : BodyEntry) (c : Context)
    → list_all (λ (v : Name × CType). is_value_type v.1) (map (λ (l : tree.Local). (l.1, l.0)) (body_locals ty body c)) ≡ true
locals_values ty body c = all_true (λ (v : Name × CType). is_value_type v.1) (map (λ (l : tree.Local). (l.1, l.0)) (body_locals ty body c))
    (all_map (λ (v : Name × CType). is_value_type v.1 ≡ true) (λ (l : tree.Local). (l.1, l.0)) (body_locals ty body c)
    (each_local (λ (l : tree.Local). is_value_type l.0 ≡ true) ty body c (λ t k less. value_type t) (λ t h less. value_type t) refl))

locals_suit : (ty : FuncType) (body : BodyEntry) (c : Context)
    → list_all (λ (l : tree.Local). number_suits l.0 l.2) (body_locals ty body c) ≡ true
locals_suit ty body c = all_true (λ (l : tree.Local). number_suits l.0 l.2) (body_locals ty body c)
    (each_local (λ (l : tree.Local). number_suits l.0 l.2 ≡ true) ty body c (λ t k less. zero_suits t (local_name k))
    (λ t h less. zero_suits t (slot t h)) refl)

each_value : (k : ℕ) (types : List ValType) → list_all (λ (q : tree.Param). is_value_type q.0) (params_from k types) ≡ true
each_value k [] = refl
each_value k (t ∷ types) = rw (value_type t) (each_value (suc k) types)

params_values : (types : List ValType) → list_all (λ (q : tree.Param). is_value_type q.0) (proper_params (params_of types)) ≡ true
params_values [] = refl
params_values (I32 ∷ types) = each_value 1 types
params_values (I64 ∷ types) = each_value 1 types

each_named : (k : ℕ) (types : List ValType) → list_all (λ (q : tree.Param). is_some q.1) (params_from k types) ≡ true
each_named k [] = refl
each_named k (t ∷ types) = each_named (suc k) types

params_named : (types : List ValType) → list_all (λ (q : tree.Param). is_some q.1) (proper_params (params_of types)) ≡ true
params_named [] = refl
params_named (I32 ∷ types) = each_named 1 types
params_named (I64 ∷ types) = each_named 1 types

pub pointer_points : (t : ValType) → scope.pointed_by (pointer_type t) ≡ Some (c_type_of t)
pointer_points I32 = refl
pointer_points I64 = refl

-- ---- an item among others

-- no own name is a name of an item, since the classes differ
pub hidden_by_class : (unit : List tree.Item) (own : List Name) → AllByRecursion (λ n. class n ≡ 9) own → NoneOf 9 (map name_of unit)
    → hides_none unit own ≡ true
hidden_by_class unit [] all none_of = refl
hidden_by_class unit (n ∷ own) all none_of =
    rw (not_there n (map name_of unit) (subst (λ k. NoneOf k (map name_of unit)) (sym all.0) none_of))
    (hidden_by_class unit own all.1 none_of)

pub defines_itself : (f : tree.Func) (front back : List tree.Item) → is_some f.body ≡ true
    → list_any (defines f.name) (front ++ tree.Function f ∷ back) ≡ true
defines_itself f front back e = list_any-append (defines f.name) front (tree.Function f ∷ back)
    ∙ or_right (list_any (defines f.name) front) _
    (or_left (defines f.name (tree.Function f)) (list_any (defines f.name) back) (rw (bytes_equal f.name) e))

-- ---- the scope of a body

module _ (m : NamedModule) (index : ℕ) (ty : FuncType) (body : BodyEntry) (declared : List tree.Item) where
  abbrev c : Setting
  c = record { named = m; context = context_of m.tree ty body }

  abbrev f : tree.Func
  f = func_of m index ty body

  abbrev b : tree.Body
  b = record { locals = body_locals ty body c.context; stmts = stmts_of c body.code }

  abbrev s : Scope
  s = record { declared = declared; func = f; body = b }

  abbrev own : Variables
  own = own_variables c.context body.code

  vars_are : variables s ≡ own ++ (vars_in declared ++ (codes "w2c_depth", type.U32) ∷ [])
  vars_are =
      sym (append_assoc (param_variables f) (local_variables b) (vars_in declared ++ (codes "w2c_depth", type.U32) ∷ []))
      ∙ ap (λ vars. vars ++ (vars_in declared ++ (codes "w2c_depth", type.U32) ∷ [])) (own_are ty body c.context refl)

  in_own : (q : Name) (t : CType) → named q own ≡ Some t → named q (variables s) ≡ Some t
  in_own q t e = ap (named q) vars_are ∙ named_in q own _ t e

  in_file : (q : Name) (t : CType) → Avoid q own → named q (vars_in declared) ≡ Some t → named q (variables s) ≡ Some t
  in_file q t a e = ap (named q) vars_are ∙ (named_past q own _ a ∙ named_in q (vars_in declared) _ t e)

  module _ (knows : FileKnows m declared) where
    pub depth_known : named depth_name (variables s) ≡ Some type.U32
    depth_known = ap (named depth_name) vars_are ∙
        (named_past depth_name own _ (letter_avoids 119 _ c.context body.code refl refl refl refl)
        ∙ past_none depth_name (vars_in declared) _ (knows.no_runtime depth_name refl).1)

    global_value_typed : (k : ℕ) (g : ValType × Bool) → slice_get (global_space m.tree) k ≡ Some g
        → IsTyped s (global_value m.tree k) (scope.HasType (c_type_of g.0))
    global_value_typed k g e = by (is_some (slice_get (global_imports m.tree) k)) refl
      where
        by : (i : Bool) → is_some (slice_get (global_imports m.tree) k) ≡ i
            → IsTyped s (if i then tree.Star (pointer_name (global_name k)) else tree.Name (global_name k)) (scope.HasType (c_type_of g.0))
        by true i = star_typed s (pointer_name (global_name k)) (pointer_type g.0) (c_type_of g.0)
            (in_file (pointer_name (global_name k)) _ (letter_avoids 112 _ c.context body.code refl refl refl refl)
            (knows.imported_globals k g e i)) (pointer_points g.0)
        by false i = name_typed s (global_name k) (c_type_of g.0)
            (in_file (global_name k) _ (letter_avoids 103 _ c.context body.code refl refl refl refl) (knows.own_globals k g e i))
            (no_object g.0)

    global_set_passes : (k : ℕ) (g : ValType × Bool) (e : tree.Expr) → slice_get (global_space m.tree) k ≡ Some g
        → IsTyped s e (scope.HasType (c_type_of g.0)) → Passes s (set_global m.tree k e)
    global_set_passes k g e found typed = by (is_some (slice_get (global_imports m.tree) k)) refl
      where
        by : (i : Bool) → is_some (slice_get (global_imports m.tree) k) ≡ i
            → Passes s (if i then tree.SetStar (pointer_name (global_name k)) e else tree.Set (global_name k) (tree.Value e))
        by true i = set_star_passes s (pointer_name (global_name k)) e (pointer_type g.0) (c_type_of g.0)
            (in_file (pointer_name (global_name k)) _ (letter_avoids 112 _ c.context body.code refl refl refl refl)
            (knows.imported_globals k g found i)) (pointer_points g.0) typed
        by false i = set_passes s (global_name k) (tree.Value e) (c_type_of g.0)
            (in_file (global_name k) _ (letter_avoids 103 _ c.context body.code refl refl refl refl) (knows.own_globals k g found i))
            (no_object g.0) (value_arg s e _ typed)

    object_arg : (object : Name) (u t : CType) (imported : Bool) → scope.pointer_to u ≡ Some t → scope.is_object_type t ≡ false
        → Avoid object own → Avoid (pointer_name object) own → (imported ≡ false → named object (vars_in declared) ≡ Some u)
        → (imported ≡ true → named (pointer_name object) (vars_in declared) ≡ Some t)
        → IsArg s t (if imported then tree.Value (tree.Name (pointer_name object)) else tree.Address object)
    object_arg object u t true p value a d own_is imported_is =
        value_arg s _ t (name_typed s (pointer_name object) t (in_file (pointer_name object) t d (imported_is refl)) value)
    object_arg object u t false p value a d own_is imported_is =
        address_arg s object u t (ap is_some (in_file object u a (own_is refl))) (own_is refl) p

    pub scope_knows : length c.context.locals ≤ 2 ^ 64
        → ((test : Code → Bool) → test body.code ≡ true → list_any (λ (b : BodyEntry). test b.code) m.tree.bodies ≡ true)
        → Knows s c body.code (λ t h. has_slot t c.context body.code h)
    scope_knows few is_body = record {
      slots_are = λ t h e. in_own (slot t h) (c_type_of t) (slot_named c.context body.code t h e);
      locals_are = λ k t e. in_own (local_name k) (c_type_of t) (local_named c.context body.code k t e few);
      global_values = global_value_typed;
      global_sets = global_set_passes;
      memory = λ has. object_arg memory_name type.Mem type.PtrMem (is_some (slice_get (memory_imports m.tree) 0)) refl refl
          (letter_avoids 109 _ c.context body.code refl refl refl refl) (letter_avoids 112 _ c.context body.code refl refl refl refl)
          (knows.own_memory ty body has) knows.imported_memory;
      table = λ has. object_arg table_name type.Tab type.PtrTab (is_some (slice_get (table_imports m.tree) 0)) refl refl
          (letter_avoids 116 _ c.context body.code refl refl refl refl) (letter_avoids 112 _ c.context body.code refl refl refl refl)
          (knows.own_table ty body has) knows.imported_table;
      traps = past_none (codes "w2c_trap") (funcs_in declared) primitives (knows.no_runtime (codes "w2c_trap") refl).0;
      grows = past_none (codes "w2c_mem_grow") (funcs_in declared) primitives (knows.no_runtime (codes "w2c_mem_grow") refl).0;
      callees = λ k found name e g. named_in name (funcs_in declared) primitives (c_func_type found) (knows.callees k found name e g);
      helpers = λ which e. named_in (helper_of which).name (funcs_in declared) primitives (helper_type which)
          (knows.helpers which (is_body (any_in (calls_helper which)) e));
      element = λ e. in_own element_name type.FnPtr (element_named c.context body.code e);
      exit_there = exit_is_there c body.code (stmts_of c body.code) (λ name e. e);
      result_slot = λ t e. or_left (stands t 0 (values ty.result)) _ (subst (λ r. stands t 0 (values r) ≡ true) (sym e) (stands_top t []));
    }

  -- ---- the item

  own_of : param_variables f ++ local_variables b ≡ own
  own_of = own_are ty body c.context refl

  names_of : local_names (tree.Function f) ≡ names own
  names_of = ap names own_of

  module _ (front back : List tree.Item) (same : declared ≡ front ++ tree.Function f ∷ []) where
    abbrev unit : List tree.Item
    unit = front ++ tree.Function f ∷ back

    abbrev place : Place
    place = record { unit = unit; number = length front; item = tree.Function f }

    pub body_item_keeps : length c.context.locals ≤ 2 ^ 64 → most_operands c.context body.code ≤ 2 ^ 64
        → is_declared_once place ≡ true → NoneOf 9 (map name_of unit) → broken_of item_rules place ≡ []
    body_item_keeps few low once none_of =
        none_broken item_rules place
        (rw once (rw free (rw (result_type ty.result)
        (rw (params_values ty.params) (rw (locals_values ty body c.context)
        (rw (locals_suit ty body c.context) (rw (defines_itself f front back refl) (rw (params_named ty.params)
        (rw distinct (rw hidden (rw filled refl)))))))))))
      where
        some : (x : tree.Stmt) (stmts : List tree.Stmt) → nat_le 1 (length (x ∷ stmts)) ≡ true
        some x stmts = grind arith

        filled : body_is_not_empty place ≡ true
        filled = some (tree.If op.Lt (tree.Name depth_name) (tree.Number (N32 1024)) (label_name entry_label))
            (drop 1 (stmts_of c body.code))

        free : list_all is_own_name (local_names (tree.Function f)) ≡ true
        free = ap (list_all is_own_name) names_of ∙ all_true is_own_name (names own) (own_free c.context body.code few low)

        distinct : are_distinct (local_names (tree.Function f)) ≡ true
        distinct = ap are_distinct names_of ∙ own_distinct c.context body.code few low

        hidden : hides_none unit (local_names (tree.Function f)) ≡ true
        hidden = ap (hides_none unit) names_of ∙ hidden_by_class unit (names own) (own_class c.context body.code few low) none_of

    module _ (knows : FileKnows m declared) (after_is : AfterIsOuts) where
      pub body_keeps_rules : length c.context.locals ≤ 2 ^ 64 → most_operands c.context body.code ≤ 2 ^ 64
          → labels_in body.code + 2 < 2 ^ 32 → BodyHasType c.context body.code
          → ((test : Code → Bool) → test body.code ≡ true → list_any (λ (b : BodyEntry). test b.code) m.tree.bodies ≡ true)
          → is_declared_once place ≡ true → NoneOf 9 (map name_of unit) → broken_in_item unit (length front, tree.Function f) ≡ []
      body_keeps_rules few low labels typed is_body once none_of =
          ap (λ rules. map (λ rule. record { item = length front; statement = 0; rule = rule }) rules ++ broken_in_body unit (length front)
          (tree.Function f)) (body_item_keeps few low once none_of)
          ∙ body_keeps unit (length front) declared f b refl (take_with front (tree.Function f) back ∙ sym same)
          (body_passes s c body.code (scope_knows knows few is_body) after_is typed refl refl (depth_known knows))
          (body_labels_differ c body.code labels) (body_ends_well c body.code)
