-- The names of functions by their indexes.
use Rattle.c_init.proofs.Common.{◌≡◌, ℕ, List, map, slice_get, Some, None, Option, option_map, sym, refl, ap, ◌∙◌, slice_get-map, Import}
use Rattle.c_init.proofs.Common.{Module, Name, func_name, func_imports, import_symbol, function_name}

pub named_import : (m : Module) (names : List Name) (index : ℕ) (name : Name) → names ≡ map import_symbol (func_imports m)
    → slice_get names index ≡ Some name → name ≡ function_name m index
named_import m names index name is found = at (slice_get (func_imports m) index)
    (sym (slice_get-map import_symbol (func_imports m) index) ∙ ap (λ (ns : List Name). slice_get ns index) (sym is) ∙ found)
  where
    at : (o : Option Import) → option_map import_symbol o ≡ Some name
        → name ≡ (elim o [ None ↦ func_name index | Some i ↦ import_symbol i ])
    at None h = cc
    at (Some i) h = cc

pub named_own : (m : Module) (names : List Name) (index : ℕ) → names ≡ map import_symbol (func_imports m)
    → slice_get names index ≡ None → func_name index ≡ function_name m index
named_own m names index is found = at (slice_get (func_imports m) index)
    (sym (slice_get-map import_symbol (func_imports m) index) ∙ ap (λ (ns : List Name). slice_get ns index) (sym is) ∙ found)
  where
    at : (o : Option Import) → option_map import_symbol o ≡ None
        → func_name index ≡ (elim o [ None ↦ func_name index | Some i ↦ import_symbol i ])
    at None h = refl
    at (Some i) h = cc
