-- The items of a unit that have no body keep the rules wherever they stand: objects, data, declarations and prototypes.
use Rattle.unit_rules.proofs.Common.{◌≡◌, ℕ, suc, true, false, not, List, [], ◌∷◌, map, length, Some, None, Option, sym, refl, ap, subst}
use Rattle.unit_rules.proofs.Common.{AllByRecursion, list_all, both_hold, all_map, FuncType, ValType, NamedModule, Module, func_name, Name}
use Rattle.unit_rules.proofs.Common.{global_name, memory_name, table_name, pointer_name, is_result_type, is_symbol, is_value_type, CType}
use Rattle.unit_rules.proofs.Common.{proper_params, proper_types, param_variables, c_params_of, c_result_of, c_type_of, c_func_type_if, I32}
use Rattle.unit_rules.proofs.Common.{import_symbol, symbol_type, params_of, result_type, value_types, no_void, data_name, bodies, data_of}
use Rattle.unit_rules.proofs.Common.{prototype, IsAccepted, declared_type, I64, all_images, firsts_all, declarations, objects, prototypes}
use Rattle.c_tree.specs.declared.tree.CType.TheVariants as type
use Rattle.c_tree.specs.Tree as tree
use Rattle.body_forms.specs.Variables.{params_from}
use Rattle.unit_definition.proofs.Sections.{of_import, symbol_is}
use Rattle.unit_rules.proofs.EachItem.{IsObject, each_data, each_declared, each_object, global_pointer, memory_pointer, own_global}
use Rattle.unit_rules.proofs.EachItem.{own_memory, own_table, table_pointer}
use Rattle.unit_rules.proofs.ItemRules.{KeepsBehind, array_keeps, declaration_keeps, declared_func, variable_keeps}
use Rattle.unit_rules.proofs.SymbolTypes.{symbol_has}
use Rattle.unit_rules.proofs.WholeUnit.{all_bodies, body_here}

-- ---- objects

object_keeps : (m : NamedModule) (ty : CType) (name : Name) → IsObject ty name → KeepsBehind m [] (tree.Var ty name None)
object_keeps m _ _ own_table = variable_keeps m type.Tab table_name refl refl
object_keeps m _ _ own_memory = variable_keeps m type.Mem memory_name refl refl
object_keeps m _ _ (own_global ty k less) = variable_keeps m (c_type_of ty) (global_name k) refl (no_void ty)
object_keeps m _ _ table_pointer = variable_keeps m type.PtrTab (pointer_name table_name) refl refl
object_keeps m _ _ memory_pointer = variable_keeps m type.PtrMem (pointer_name memory_name) refl refl
object_keeps m _ _ (global_pointer I32 k less) = variable_keeps m type.PtrU32 (pointer_name (global_name k)) refl refl
object_keeps m _ _ (global_pointer I64 k less) = variable_keeps m type.PtrU64 (pointer_name (global_name k)) refl refl

-- ---- types

pub record IsProper (ty : tree.FuncType) : Type 0 where
  pub result : is_result_type ty.result ≡ true
  pub params : list_all is_value_type (proper_types ty.params) ≡ true

pub func_proper : (o : Option FuncType) → IsProper (c_func_type_if o)
func_proper None = record { result = refl; params = refl }
func_proper (Some ty) = record { result = result_type ty.result; params = params_are ty.params }
  where
    params_are : (params : List ValType) → list_all is_value_type (proper_types (c_params_of params)) ≡ true
    params_are [] = refl
    params_are (I32 ∷ params) = value_types params
    params_are (I64 ∷ params) = value_types params

symbol_proper : (m : NamedModule) (name : Name) → IsProper (declared_type (symbol_type m name))
symbol_proper m = symbol_has m IsProper func_proper (λ pointer plain. record { result = ap not plain; params = refl })

-- ---- parameters without names

nameless : {A : Type 0} (ty : A → CType) (xs : List A) → param_variables (declared_func true type.Void [] (map (λ x. (ty x, None)) xs)) ≡ []
nameless ty [] = refl
nameless ty (x ∷ xs) = nameless ty xs

proper_of : (types : List CType) → list_all is_value_type (proper_types types) ≡ true
    → list_all (λ (q : tree.Param). is_value_type q.0) (proper_params (map (λ t. (t, None)) types)) ≡ true
proper_of [] h = refl
proper_of (type.Void ∷ []) h = refl
proper_of (t ∷ types) h = plain (t ∷ types) h
  where
    plain : (types : List CType) → list_all is_value_type types ≡ true
        → list_all (λ (q : tree.Param). is_value_type q.0) (map (λ t. (t, None)) types) ≡ true
    plain [] h = refl
    plain (t ∷ types) h = let k = both_hold (is_value_type t) (list_all is_value_type types) h in rw k.0 (plain types k.1)

each_value : (k : ℕ) (types : List ValType) → list_all (λ (q : tree.Param). is_value_type q.0)
    (map (λ (p : tree.Param). (p.0, None)) (params_from k types)) ≡ true
each_value k [] = refl
each_value k (I32 ∷ types) = each_value (suc k) types
each_value k (I64 ∷ types) = each_value (suc k) types

values : (types : List ValType) → list_all (λ (q : tree.Param). is_value_type q.0)
    (proper_params (map (λ (p : tree.Param). (p.0, None)) (params_of types))) ≡ true
values [] = refl
values (I32 ∷ types) = each_value 1 types
values (I64 ∷ types) = each_value 1 types

-- ---- the sections

module _ (m : NamedModule) (a : IsAccepted m) where
  abbrev t : Module
  t = m.tree

  pub objects_keep : AllByRecursion (KeepsBehind m []) (objects m)
  objects_keep = each_object m a (KeepsBehind m []) (object_keeps m)

  pub data_keep : AllByRecursion (KeepsBehind m []) (data_of t)
  data_keep = each_data m a (KeepsBehind m []) (λ j d at b bytes e.
      subst (λ bs. KeepsBehind m [] (tree.Array (data_name j) (length bs) bs)) (sym e) (array_keeps m (data_name j) b bytes refl))

  pub declared_keep : AllByRecursion (KeepsBehind m []) (declarations m)
  declared_keep = each_declared m a (KeepsBehind m []) (λ n. is_symbol n ≡ true)
      (firsts_all (λ n. is_symbol n ≡ true) [] (map import_symbol t.imports)
      (all_images (λ n. is_symbol n ≡ true) import_symbol t.imports (of_import (λ n. is_symbol n ≡ true) symbol_is)))
      (λ n is. let ty = declared_type (symbol_type m n) in
      declaration_keeps m false ty.result n (map (λ t. (t, None)) ty.params)
      (record {
        result_is = (symbol_proper m n).result;
        params_are = proper_of ty.params (symbol_proper m n).params;
        nameless = nameless (λ (t : CType). t) ty.params;
        free = is;
      }) (λ unit whole. refl))

  pub prototypes_keep : AllByRecursion (KeepsBehind m []) (prototypes m)
  prototypes_keep = all_map (KeepsBehind m []) prototype (bodies m) (all_bodies m a (λ f. KeepsBehind m [] (prototype f)) (λ k low high.
      let b = body_here m a k low high in
      subst (λ f. KeepsBehind m [] (prototype f)) (sym b.is)
      (declaration_keeps m true (c_result_of b.ty.result) (func_name k) (map (λ (p : tree.Param). (p.0, None)) (params_of b.ty.params))
      (record {
        result_is = result_type b.ty.result;
        params_are = values b.ty.params;
        nameless = nameless (λ (p : tree.Param). p.0) (params_of b.ty.params);
        free = refl;
      }) (λ unit whole. whole.defined k low high))))
