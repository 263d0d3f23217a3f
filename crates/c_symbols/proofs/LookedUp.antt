-- Look-ups in what a body's translation reads of its module.
use Rattle.c_symbols.proofs.Common.{◌≡◌, ℕ, ◌<◌, ◌≤◌, true, false, List, [], ◌∷◌, map, length, is_some, slice_get, Some, None, Option}
use Rattle.c_symbols.proofs.Common.{option_map, sym, refl, ap, ◌∙◌, arith, length-map, slice_get-get_or, slice_get-map, slice_get_past}
use Rattle.c_symbols.proofs.Common.{at_index, if_found, imported_funcs, Import, TypeEntry, Name, NamedModule, func_name, func_imports}
use Rattle.c_symbols.proofs.Common.{callee}
use Rattle.c_symbols.specs.Reached.{usable_symbol}

-- what is made of each item of a list stands where the item does
pub reached_within : {A B : Type 0} (f : A → B) (made : List B) (xs : List A) (i : ℕ) → made ≡ map f xs → i < length made
    → true ≡ is_some (slice_get xs i)
reached_within f made [] i is less = absurd (omega (arith, less, ap length is))
reached_within f made (x ∷ xs) i is less =
    let within : i < length (x ∷ xs) = omega (arith, less, ap length is, length-map (x ∷ xs) f) in
    rw (slice_get-get_or (x ∷ xs) i x within) refl

pub reached_past : {A B : Type 0} (f : A → B) (made : List B) (xs : List A) (i : ℕ) → made ≡ map f xs → length made ≤ i
    → false ≡ is_some (slice_get xs i)
reached_past f made xs i is past =
    let beyond : length xs ≤ i = omega (arith, past, ap length is, length-map xs f) in
    rw (slice_get_past xs i beyond) refl

pub at_index_map : {A B : Type 0} (f : A → Option B) (xs : List A) (i : ℕ) → at_index (map f xs) i ≡ if_found (slice_get xs i) f
at_index_map {A} {B} f xs i = ap (λ found. if_found found (λ entry. entry)) (slice_get-map f xs i) ∙ by_case (slice_get xs i)
  where
    by_case : (o : Option A) → if_found (option_map f o) (λ entry. entry) ≡ if_found o f
    by_case None = refl
    by_case (Some x) = refl

-- an imported function is reached by what stands in the list of symbols, an own one by its name
pub callee_imported : (m : NamedModule) (names : List (Option Name)) (index : ℕ) (name : Option Name)
    → names ≡ map (usable_symbol m) (func_imports m.tree)
    → slice_get names index ≡ Some name → callee m index ≡ name
callee_imported m names index name is found = by_case (slice_get (func_imports m.tree) index)
    (sym (slice_get-map (usable_symbol m) (func_imports m.tree) index) ∙ ap (λ (ns : List (Option Name)). slice_get ns index) (sym is)
    ∙ found)
  where
    by_case : (o : Option Import) → option_map (usable_symbol m) o ≡ Some name
        → (elim o [ None ↦ Some (func_name index) | Some i ↦ usable_symbol m i ]) ≡ name
    by_case None h = cc
    by_case (Some i) h = cc

pub callee_own : (m : NamedModule) (names : List (Option Name)) (index : ℕ) → names ≡ map (usable_symbol m) (func_imports m.tree)
    → slice_get names index ≡ None → callee m index ≡ Some (func_name index)
callee_own m names index is found = by_case (slice_get (func_imports m.tree) index)
    (sym (slice_get-map (usable_symbol m) (func_imports m.tree) index) ∙ ap (λ (ns : List (Option Name)). slice_get ns index) (sym is)
    ∙ found)
  where
    by_case : (o : Option Import) → option_map (usable_symbol m) o ≡ None
        → (elim o [ None ↦ Some (func_name index) | Some i ↦ usable_symbol m i ]) ≡ Some (func_name index)
    by_case None h = refl
    by_case (Some i) h = cc

pub type_found : (entries : List TypeEntry) (i : ℕ) → slice_get (map (λ t. t.ty) entries) i ≡ option_map (λ t. t.ty) (slice_get entries i)
type_found entries i = slice_get-map (λ t. t.ty) entries i

pub as_many : (m : NamedModule) (names : List (Option Name)) → names ≡ map (usable_symbol m) (func_imports m.tree)
    → length names ≡ imported_funcs m.tree
as_many m names e = ap (λ (ns : List (Option Name)). length ns) e ∙ length-map (func_imports m.tree) (usable_symbol m)
