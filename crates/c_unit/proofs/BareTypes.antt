-- The declaration of a body's function is that of its index and type.
use Rattle.c_unit.proofs.Common.{◌≡◌, ℕ, suc, true, List, [], ◌∷◌, map, Some, None, Option, option_map, unwrap_or, sym, refl, ap, ◌∙◌}
use Rattle.c_unit.proofs.Common.{if_found, FuncType, ValType, type_in, BodyEntry, FuncEntry, Module, NamedModule, c_params_of, c_result_of}
use Rattle.c_unit.proofs.Common.{c_type_of, func_name, body_of, defined_at, func_of, params_of, no_name, prototype, bare_params}
use Rattle.c_unit.proofs.Common.{prototype_of}
use Rattle.c_tree.specs.Tree as tree
use Rattle.body_forms.specs.Variables.{params_from}
use Rattle.body_definition.specs.Body.{no_func}

bare_from : (k : ℕ) (types : List ValType) → map no_name (params_from k types) ≡ bare_params (map c_type_of types)
bare_from k [] = refl
bare_from k (t ∷ types) = ap (λ (params : List tree.Param). (c_type_of t, None) ∷ params) (bare_from (suc k) types)

bare : (types : List ValType) → map no_name (params_of types) ≡ bare_params (c_params_of types)
bare [] = refl
bare (t ∷ types) = bare_from 0 (t ∷ types)

pub prototype_is : (m : NamedModule) (index : ℕ) (ty : FuncType) (body : BodyEntry)
    → prototype (func_of m index ty body) ≡ prototype_of index ty
prototype_is m index ty body =
    ap (λ (params : List tree.Param). tree.Function
    (record { is_static = true; result = c_result_of ty.result; name = func_name index; params = params; body = None }))
    (bare ty.params)

pub of_its_type : (m : Module) (name : List ℕ) (index : ℕ) (ty : FuncType)
    → Some ty ≡ if_found (defined_at m index) (λ d. type_in m d.0.type_index)
    → prototype_of index ty ≡ prototype (body_of m name index)
of_its_type m name index ty = at (defined_at m index)
  where
    named : NamedModule
    named = record { name = name; tree = m }

    of_type : BodyEntry → Option FuncType → tree.Item
    of_type body found = prototype (unwrap_or (option_map (λ t. func_of named index t body) found) no_func)

    at : (d : Option (FuncEntry × BodyEntry)) → Some ty ≡ if_found d (λ e. type_in m e.0.type_index)
        → prototype_of index ty ≡ prototype (unwrap_or
        (if_found d (λ e. option_map (λ t. func_of named index t e.1) (type_in m e.0.type_index))) no_func)
    at None h = absurd cc
    at (Some e) h = sym (prototype_is named index ty e.1) ∙ ap (of_type e.1) h

pub of_no_type : (m : Module) (name : List ℕ) (index : ℕ) → None ≡ if_found (defined_at m index) (λ d. type_in m d.0.type_index)
    → prototype no_func ≡ prototype (body_of m name index)
of_no_type m name index = at (defined_at m index)
  where
    named : NamedModule
    named = record { name = name; tree = m }

    of_type : BodyEntry → Option FuncType → tree.Item
    of_type body found = prototype (unwrap_or (option_map (λ t. func_of named index t body) found) no_func)

    at : (d : Option (FuncEntry × BodyEntry)) → None ≡ if_found d (λ e. type_in m e.0.type_index)
        → prototype no_func ≡ prototype (unwrap_or
        (if_found d (λ e. option_map (λ t. func_of named index t e.1) (type_in m e.0.type_index))) no_func)
    at None h = refl
    at (Some e) h = ap (of_type e.1) h
