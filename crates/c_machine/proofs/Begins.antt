-- A function that begins.
use Rattle.c_machine.proofs.Common.{◌≡◌, ℕ, suc, Bool, true, false, ◌&&◌, List, [], ◌∷◌, map, length, slice_get, Some, None, Option}
use Rattle.c_machine.proofs.Common.{option_map, sym, refl, ap, ◌∙◌, subst, length-map, if_found, CType, Void, Definition, definition_of}
use Rattle.c_machine.proofs.Common.{of_type, CValue, Name, are_of_types, param_names, param_types, local_names, WithLocals, definition_in}
use Rattle.c_machine.proofs.Common.{names_at, names_of, result_at, result_of, stmts_at, stmts_of}
use Rattle.c_tree.specs.Tree as tree

-- what an item's definition says of the item
pub record Defines (items : List tree.Item) (i : ℕ) (d : Definition) : Type 0 where
  pub item : d.item ≡ i
  pub result : result_at items i ≡ d.func.result
  pub stmts : stmts_at items i ≡ d.body.stmts
  pub names : names_at items i ≡ local_names d.func d.body

function_is : (items : List tree.Item) (i : ℕ) (is_static : Bool) (result : CType) (name : Name) (params : List tree.Param)
    (o : Option tree.Body) (d : Definition)
    → slice_get items i ≡ Some (tree.Function (record { is_static = is_static; result = result; name = name; params = params; body = o }))
    → definition_of (i, tree.Function (record { is_static = is_static; result = result; name = name; params = params; body = o }))
    ≡ Some d → Defines items i d
function_is items i is_static result name params None d at e = absurd cc
function_is items i is_static result name params (Some body) d at e =
    let f : tree.Func = record { is_static = is_static; result = result; name = name; params = params; body = Some body } in
    let same : record { item = i; func = f; body = body } ≡ d = cc in
    subst (Defines items i) same (record {
      item = refl;
      result = ap (λ (o : Option tree.Item). elim o [ None ↦ Void | Some item ↦ result_of item ]) at;
      stmts = ap (λ (o : Option tree.Item). elim o [ None ↦ [] | Some item ↦ stmts_of item ]) at;
      names = ap (λ (o : Option tree.Item). elim o [ None ↦ [] | Some item ↦ names_of item ]) at;
    })

by_item : (items : List tree.Item) (i : ℕ) (item : tree.Item) (d : Definition) → slice_get items i ≡ Some item
    → definition_of (i, item) ≡ Some d → Defines items i d
by_item items i (tree.Function f) d at e = function_is items i f.is_static f.result f.name f.params f.body d at e
by_item items i _ d at e = absurd cc

pub defines : (items : List tree.Item) (i : ℕ) (d : Definition) → definition_in items i ≡ Some d → Defines items i d
defines items i d e = go (slice_get items i) refl e
  where
    go : (o : Option tree.Item) → slice_get items i ≡ o → if_found o (λ item. definition_of (i, item)) ≡ Some d → Defines items i d
    go None at e = absurd cc
    go (Some item) at e = by_item items i item d at e

-- arguments of the types of the parameters are as many
count_fits : (types : List CType) (values : List CValue) → are_of_types types values ≡ true → length types ≡ length values
count_fits [] [] fit = refl
count_fits (ty ∷ types) (v ∷ values) fit = go (count_fits types values) (of_type ty v) fit
  where
    go : (are_of_types types values ≡ true → length types ≡ length values) → (b : Bool) → (b && are_of_types types values) ≡ true
        → length (ty ∷ types) ≡ length (v ∷ values)
    go behind true fit = ap suc (behind fit)
    go behind false fit = absurd cc
count_fits _ _ fit = absurd cc

named_types : (params : List tree.Param) → length (param_types params) ≡ length (param_names params)
named_types [] = refl
named_types ((ty, None) ∷ params) = named_types params
named_types ((ty, Some name) ∷ params) = ap suc (named_types params)

pub fitting : {V : Type 0} (view : V → CValue) (params : List tree.Param) (values : List V)
    → are_of_types (param_types params) (map view values) ≡ true → length (param_names params) ≡ length values
fitting view params values fit =
    sym (named_types params) ∙ count_fits (param_types params) (map view values) fit ∙ length-map values view

-- what was put behind arguments that fit
pub behind_params : {V L : Type 0} (view : V → CValue) (items_of : L → List V) (params : List tree.Param) (values : List V)
    (locals these : List tree.Local) (result all : Option L)
    → locals ≡ these → result ≡ all → are_of_types (param_types params) (map view values) ≡ true
    → ((names : List Name) → length names ≡ length values → WithLocals view names values locals (option_map items_of result))
    → WithLocals view (param_names params) values these (option_map items_of all)
behind_params view items_of params values locals these result all are is fits with =
    rw (sym are, sym is) (with (param_names params) (fitting view params values fits))
