-- A function that passes a call on keeps the rules where the function that it calls is declared with its type; and one that gives an
-- address.
use Rattle.unit_rules.proofs.Common.{return_none_passes, local_variables, param_variables, distinct_joined, AllByRecursion, range_with_len}
use Rattle.unit_rules.proofs.Common.{is_result_type, is_object_type, class_lettered, is_value_type, proper_params, accessor_type, vars_from}
use Rattle.unit_rules.proofs.Common.{return_passes, are_distinct, number_suits, proper_types, range_differ, named_params, with_params, true}
use Rattle.unit_rules.proofs.Common.{zero_number, is_own_name, address_arg, call_passes, null_passes, params_from, result_name, TakesResult}
use Rattle.unit_rules.proofs.Common.{vars_avoid, vars_named, vars_names, map-append, all_append, primitives, range_high, named_past, length}
use Rattle.unit_rules.proofs.Common.{name_typed, all_differ, param_name, pointer_to, slice_get, both_hold, is_symbol, labels_of, variables}
use Rattle.unit_rules.proofs.Common.{value_arg, ends_well, no_object, Variables, args_from, passes_on, all_range, one_moves, not-true, List}
use Rattle.unit_rules.proofs.Common.{list_all, is_among, all_true, named_in, lettered, funcs_in, external, is_some, test_at, is_void, false}
use Rattle.unit_rules.proofs.Common.{AreArgs, no_void, vars_in, call_if, Option, Passes, codes, subst, arith, named, Scope, CType, class, ℕ}
use Rattle.unit_rules.proofs.Common.{◌++◌, Some, None, refl, Name, ◌≡◌, suc, ◌+◌, ◌^◌, ◌<◌, ◌≤◌, not, ◌∷◌, map, sym, ◌∙◌, [], ap}
use Rattle.c_tree.specs.declared.tree.CType.TheVariants as type
use Rattle.c_tree.specs.Tree as tree
use Rattle.unit_rules.proofs.ItemRules.{IsFunction, own_of, names_of_vars}
use Rattle.std.proofs.Math.Nat.{zero-add}

-- the parameters as variables
abbrev param_vars : List CType → Variables
param_vars types = vars_from param_name (λ (t : CType). t) 0 types

from_are : (k : ℕ) (types : List CType) → param_variables (with_params (params_from k types))
    ≡ vars_from param_name (λ (t : CType). t) k types
from_are k [] = refl
from_are k (t ∷ types) = ap (λ vars. (param_name k, t) ∷ vars) (from_are (suc k) types)

params_are : (types : List CType) → param_variables (with_params (named_params types)) ≡ param_vars types
params_are [] = refl
params_are (t ∷ types) = from_are 0 (t ∷ types)

args_are : (s : Scope) (k : ℕ) (types : List CType) →
    ((i : ℕ) (t : CType) → slice_get types i ≡ Some t → (named (param_name (i + k)) (variables s) ≡ Some t) × (is_object_type t ≡ false))
    → AreArgs s types (args_from k types)
args_are s k [] f = tt
args_are s k (t ∷ types) f = (
  let h = f 0 t refl in
      value_arg s (tree.Name (param_name k)) t (name_typed s (param_name k) t
      (subst (λ n. named (param_name n) (variables s) ≡ Some t) (zero-add k) h.0) h.1),
  args_are s (suc k) types (λ i u e. let h = f (suc i) u e in
      (subst (λ n. named (param_name n) (variables s) ≡ Some u) (one_moves i k) h.0, h.1)),
)

proper_named : (types : List CType) → proper_params (named_params types) ≡ params_from 0 types
proper_named [] = refl
proper_named (t ∷ types) = by t
  where
    by : (t : CType) → proper_params ((t, Some (param_name 0)) ∷ params_from 1 types) ≡ (t, Some (param_name 0)) ∷ params_from 1 types
    by type.Void = refl
    by _ = refl

params_values : (k : ℕ) (types : List CType) → list_all is_value_type types ≡ true
    → list_all (λ (q : tree.Param). is_value_type q.0) (params_from k types) ≡ true
params_values k [] v = refl
params_values k (u ∷ types) v = let h = both_hold (is_value_type u) (list_all is_value_type types) v in rw h.0 (params_values
    (suc k) types h.1)

params_have_names : (k : ℕ) (types : List CType) → list_all (λ (q : tree.Param). is_some q.1) (params_from k types) ≡ true
params_have_names k [] = refl
params_have_names k (u ∷ types) = params_have_names (suc k) types

-- ---- of any result

-- the callee is known in every scope of the unit up to here
abbrev pub CalleeKnown : List tree.Item → Option Name → tree.FuncType → Type 0
CalleeKnown declared target ty = (name : Name) → target ≡ Some name → named name (funcs_in declared ++ primitives) ≡ Some ty

module _ (declared : List tree.Item) (ty : tree.FuncType) (symbol : Name) (target var : Option Name) (locals : List tree.Local)
    (last : tree.Stmt) where
  abbrev types : List CType
  types = proper_types ty.params

  abbrev body : tree.Body
  body = record { locals = locals; stmts = call_if target var types ∷ last ∷ [] }

  abbrev func : tree.Func
  func = external ty symbol locals body.stmts

  abbrev scope : Scope
  scope = record { declared = declared; func = func; body = body }

  abbrev local_names : List Name
  local_names = names_of_vars (local_variables body)

  -- what the variables besides the parameters and the last statement owe
  record EndsWell : Type 0 where
    result_is : is_result_type ty.result ≡ true
    locals_are : list_all (λ (v : Name × CType). is_value_type v.1) (local_variables body) ≡ true
    locals_suit : list_all (λ (l : tree.Local). number_suits l.0 l.2) locals ≡ true
    free : AllByRecursion (λ n. is_own_name n ≡ true) local_names
    distinct : are_distinct local_names ≡ true
    class_is : AllByRecursion (λ n. class n ≡ 9) local_names
    no_param : (k : ℕ) → is_among (param_name k) local_names ≡ false
    takes : TakesResult scope ty.result var
    passes : Passes scope last
    no_label : labels_of (last ∷ []) ≡ []
    ends : ends_well (last ∷ []) ≡ true

  module _ (few : length types ≤ 2 ^ 64) (values : list_all is_value_type types ≡ true) where
    params_all : (P : Name → Type 0) → ((k : ℕ) → k < 2 ^ 64 → P (param_name k))
        → AllByRecursion P (map param_name (range_with_len 0 (length types)))
    params_all P f = all_range P param_name 0 (length types) (2 ^ 64) (omega (arith, few)) (λ j low high. f j high)

    names_are : names_of_vars (own_of func body) ≡ map param_name (range_with_len 0 (length types)) ++ local_names
    names_are = ap (λ o. names_of_vars (o ++ local_variables body)) (params_are types)
        ∙ (map-append (λ (v : Name × CType). v.0) (param_vars types) (local_variables body) ∙ ap (λ o. o ++ local_names)
        (vars_names param_name (λ (t : CType). t) 0 types))

    own_all : (P : Name → Type 0) → ((k : ℕ) → k < 2 ^ 64 → P (param_name k)) → AllByRecursion P local_names
        → AllByRecursion P (names_of_vars (own_of func body))
    own_all P f own = subst (AllByRecursion P) (sym names_are)
        (all_append P (map param_name (range_with_len 0 (length types))) local_names (params_all P f) own)

    args : AreArgs scope types (args_from 0 types)
    args = args_are scope 0 types
        (λ i t e. (
          ap (λ o. named (param_name (i + 0)) (o ++ (local_variables body ++ (vars_in declared ++ (codes "w2c_depth", type.U32) ∷ []))))
              (params_are types)
              ∙ named_in (param_name (i + 0)) (param_vars types) _ t
              (vars_named param_name (lettered 97) (λ (t : CType). t) 0 i (i + 0) types t e refl (omega (arith, few))),
          not-true (is_object_type t) (both_hold (not (is_void t)) (not (is_object_type t)) (test_at is_value_type types i t values e)).1,
        ))

    passes_on_are : is_symbol symbol ≡ true → CalleeKnown declared target ty → EndsWell → IsFunction declared func body
    passes_on_are symbol_is known w = record {
      tested =
          let params = ap (list_all (λ (q : tree.Param). is_value_type q.0)) (proper_named types) ∙ params_values 0 types values in
          let names = ap (list_all (λ (q : tree.Param). is_some q.1)) (proper_named types) ∙ params_have_names 0 types in
          let own_free = all_true is_own_name _ (own_all (λ n. is_own_name n ≡ true) (λ k less. refl) w.free) in
          let own_distinct = ap are_distinct names_are ∙ distinct_joined (map param_name (range_with_len 0 (length types))) local_names
          (params_all (λ n. is_among n local_names ≡ false) (λ k less. w.no_param k))
          (all_differ param_name (lettered 97) (range_with_len 0 (length types)) (range_high 0 (length types) (2 ^ 64) (omega (arith, few)))
          (range_differ 0 (length types))) w.distinct in
          rw (w.result_is, params, names, w.locals_are, w.locals_suit, symbol_is, own_free, own_distinct) refl;
      own_class = own_all (λ n. class n ≡ 9) (λ k less. class_lettered 97 k less refl) w.class_is;
      passes = (call target known, (w.passes, tt));
      labels = ap are_distinct (no_labels target);
      ends = w.ends;
    }
      where
        call : (o : Option Name) → CalleeKnown declared o ty → Passes scope (call_if o var types)
        call None f = null_passes scope
        call (Some name) f = call_passes scope var name (args_from 0 types) ty (f name refl) args w.takes

        no_labels : (o : Option Name) → labels_of (call_if o var types ∷ last ∷ []) ≡ []
        no_labels None = w.no_label
        no_labels (Some name) = w.no_label

-- ---- by the result

-- a function is one of these, with its body
pub record IsExternal (declared : List tree.Item) (f : tree.Func) : Type 0 where
  pub body : tree.Body
  pub body_is : f.body ≡ Some body
  pub is : IsFunction declared f body

pub passes_on_is : (declared : List tree.Item) (params : List CType) (result : CType) (symbol : Name) (target : Option Name)
    → length (proper_types params) ≤ 2 ^ 64
    → list_all is_value_type (proper_types params) ≡ true → is_result_type result ≡ true → is_symbol symbol ≡ true
    → CalleeKnown declared target (record { params = params; result = result })
    → IsExternal declared (passes_on (record { params = params; result = result }) symbol target)
passes_on_is declared params type.Void symbol target few values r s known =
    let ty : tree.FuncType = record { params = params; result = type.Void } in
    record {
      body = _;
      body_is = refl;
      is = passes_on_are declared ty symbol target None [] tree.ReturnNone few values s known (record {
        result_is = refl;
        locals_are = refl;
        locals_suit = refl;
        free = tt;
        distinct = refl;
        class_is = tt;
        no_param = λ k. refl;
        takes = tt;
        passes = return_none_passes (scope declared ty symbol target None [] tree.ReturnNone) refl;
        no_label = refl;
        ends = refl;
      });
    }
passes_on_is declared params type.Mem symbol target few values r s known = absurd cc
passes_on_is declared params type.Tab symbol target few values r s known = absurd cc
passes_on_is declared params result symbol target few values r s known =
    let ty : tree.FuncType = record { params = params; result = result } in
    let locals : List tree.Local = (result, result_name, zero_number result) ∷ [] in
    let last : tree.Stmt = tree.Return (tree.Value (tree.Name result_name)) in
    let here : Scope = scope declared ty symbol target (Some result_name) locals last in
    let there : named result_name (variables here) ≡ Some result =
    ap (λ o. named result_name (o ++ ((result_name, result) ∷ (vars_in declared ++ (codes "w2c_depth", type.U32) ∷ []))))
    (params_are (proper_types params))
    ∙ named_past result_name (param_vars (proper_types params)) _
    (vars_avoid result_name param_name (λ (t : CType). t) 0 (proper_types params) (λ k. refl)) in
    record {
      body = _;
      body_is = refl;
      is = passes_on_are declared ty symbol target (Some result_name) locals last few values s known (record {
        result_is = refl;
        locals_are = refl;
        locals_suit = refl;
        free = (refl, tt);
        distinct = refl;
        class_is = (refl, tt);
        no_param = λ k. refl;
        takes = (there, refl, refl);
        passes = return_passes here (tree.Value (tree.Name result_name)) refl
            (value_arg here (tree.Name result_name) result (name_typed here result_name result there refl));
        no_label = refl;
        ends = refl;
      });
    }

-- ---- an accessor of an own object

pub address_is : (declared : List tree.Item) (pointer u : CType) (object symbol : Name) → is_symbol symbol ≡ true
    → named object (vars_in declared) ≡ Some u → pointer_to u ≡ Some pointer → is_void pointer ≡ false → is_object_type pointer ≡ false
    → IsExternal declared (external (accessor_type pointer) symbol [] (tree.Return (tree.Address object) ∷ []))
address_is declared pointer u object symbol s found p no_void no_object = record {
  body = body;
  body_is = refl;
  is = record {
    tested = rw (ap not no_object, s) refl;
    own_class = tt;
    passes = (
      return_passes here (tree.Address object) no_void
          (address_arg here object u pointer (ap is_some (named_in object (vars_in declared) ((codes "w2c_depth", type.U32) ∷ []) u found))
          found p),
      tt,
    );
    labels = refl;
    ends = refl;
  };
}
  where
    body : tree.Body
    body = record { locals = []; stmts = tree.Return (tree.Address object) ∷ [] }

    here : Scope
    here = record {
      declared = declared;
      func = external (accessor_type pointer) symbol [] (tree.Return (tree.Address object) ∷ []);
      body = record { locals = []; stmts = tree.Return (tree.Address object) ∷ [] };
    }
