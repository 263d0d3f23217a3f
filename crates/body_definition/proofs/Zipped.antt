-- The function with an index, by what is found of it.
use Rattle.body_definition.proofs.Common.{◌≡◌, ℕ, zero, suc, List, [], ◌∷◌, map, slice_get, Some, None, Option, option_map, zip, unwrap_or}
use Rattle.body_definition.proofs.Common.{sym, refl, ap, ◌∙◌, slice_get-map, if_found, FuncType, at_defined, type_in, BodyEntry, FuncEntry}
use Rattle.body_definition.proofs.Common.{TypeEntry, Module, body_of, func_of, no_func, arith}
use Rattle.c_tree.specs.Tree as tree

none_left : {A B : Type 0} (xs : List A) (ys : List B) (i : ℕ) → slice_get xs i ≡ None → slice_get (zip xs ys) i ≡ None
none_left [] ys i e = refl
none_left (x ∷ xs) [] i e = refl
none_left (x ∷ xs) (y ∷ ys) zero e = cc
none_left (x ∷ xs) (y ∷ ys) (suc i) e = none_left xs ys i e

none_right : {A B : Type 0} (xs : List A) (ys : List B) (i : ℕ) → slice_get ys i ≡ None → slice_get (zip xs ys) i ≡ None
none_right [] ys i e = refl
none_right (x ∷ xs) [] i e = refl
none_right (x ∷ xs) (y ∷ ys) zero e = cc
none_right (x ∷ xs) (y ∷ ys) (suc i) e = none_right xs ys i e

pub zip_at : {A B : Type 0} (xs : List A) (ys : List B) (i : ℕ) (a : A) (b : B) → slice_get xs i ≡ Some a → slice_get ys i ≡ Some b
    → slice_get (zip xs ys) i ≡ Some (a, b)
zip_at [] ys i a b e f = cc
zip_at (x ∷ xs) [] i a b e f = cc
zip_at (x ∷ xs) (y ∷ ys) zero a b e f = cc
zip_at (x ∷ xs) (y ∷ ys) (suc i) a b e f = zip_at xs ys i a b e f

-- what stands at an index in two lists stands there in pairs
pub pair_at : {A B : Type 0} (m : Module) (xs : List A) (ys : List B) (index : ℕ) (a : A) (b : B)
    → at_defined m xs index ≡ Some a → at_defined m ys index ≡ Some b → at_defined m (zip xs ys) index ≡ Some (a, b)
pair_at {A} {B} m xs ys index a b = grind (arith, zip_at)

no_pair_left : {A B : Type 0} (m : Module) (xs : List A) (ys : List B) (index : ℕ) → at_defined m xs index ≡ None
    → at_defined m (zip xs ys) index ≡ None
no_pair_left m xs ys index = grind (arith, none_left)

no_pair_right : {A B : Type 0} (m : Module) (xs : List A) (ys : List B) (index : ℕ) → at_defined m ys index ≡ None
    → at_defined m (zip xs ys) index ≡ None
no_pair_right m xs ys index = grind (arith, none_right)

-- what is looked up for the function with an index, by its entry
abbrev entry_of : Module → List ℕ → ℕ → Option (FuncEntry × BodyEntry) → tree.Func
entry_of m name index d =
    unwrap_or
    (if_found d (λ e. option_map (λ ty. func_of (record { name = name; tree = m }) index ty e.1) (type_in m e.0.type_index)))
    no_func

by_entry : (m : Module) (name : List ℕ) (index : ℕ) (d : Option (FuncEntry × BodyEntry)) → at_defined m (zip m.funcs m.bodies) index ≡ d
    → entry_of m name index d ≡ body_of m name index
by_entry m name index d e = ap (entry_of m name index) (sym e)

pub no_function : (m : Module) (name : List ℕ) (index : ℕ) → None ≡ at_defined m m.funcs index → no_func ≡ body_of m name index
no_function m name index e = by_entry m name index None (no_pair_left m m.funcs m.bodies index (sym e))

pub no_body : (m : Module) (name : List ℕ) (index : ℕ) → None ≡ at_defined m m.bodies index → no_func ≡ body_of m name index
no_body m name index e = by_entry m name index None (no_pair_right m m.funcs m.bodies index (sym e))

abbrev typed_entry : Module → List ℕ → ℕ → BodyEntry → Option FuncType → tree.Func
typed_entry m name index body found = unwrap_or (option_map (λ ty. func_of (record { name = name; tree = m }) index ty body) found) no_func

pub by_its_type : (m : Module) (name : List ℕ) (index : ℕ) (func : FuncEntry) (body : BodyEntry) (found : Option FuncType)
    → Some func ≡ at_defined m m.funcs index → Some body ≡ at_defined m m.bodies index
    → found ≡ slice_get (map (λ (t : TypeEntry). t.ty) m.types) func.type_index
    → typed_entry m name index body found ≡ body_of m name index
by_its_type m name index func body found e f g =
    ap (typed_entry m name index body) (g ∙ slice_get-map (λ (t : TypeEntry). t.ty) m.types func.type_index)
    ∙ by_entry m name index (Some (func, body)) (pair_at m m.funcs m.bodies index func body (sym e) (sym f))

-- the type of the function that is defined with an index, by its entries
abbrev type_of_entry : Module → Option (FuncEntry × BodyEntry) → Option FuncType
type_of_entry m d = if_found d (λ e. type_in m e.0.type_index)

pub no_func_type : (m : Module) (index : ℕ) → None ≡ at_defined m m.funcs index
    → None ≡ type_of_entry m (at_defined m (zip m.funcs m.bodies) index)
no_func_type m index e = ap (type_of_entry m) (sym (no_pair_left m m.funcs m.bodies index (sym e)))

pub no_body_type : (m : Module) (index : ℕ) → None ≡ at_defined m m.bodies index
    → None ≡ type_of_entry m (at_defined m (zip m.funcs m.bodies) index)
no_body_type m index e = ap (type_of_entry m) (sym (no_pair_right m m.funcs m.bodies index (sym e)))

pub type_of_both : (m : Module) (index : ℕ) (func : FuncEntry) (body : BodyEntry) (found : Option FuncType)
    → Some func ≡ at_defined m m.funcs index → Some body ≡ at_defined m m.bodies index
    → found ≡ slice_get (map (λ (t : TypeEntry). t.ty) m.types) func.type_index
    → found ≡ type_of_entry m (at_defined m (zip m.funcs m.bodies) index)
type_of_both m index func body found e f g =
    g ∙ (slice_get-map (λ (t : TypeEntry). t.ty) m.types func.type_index
    ∙ ap (type_of_entry m) (sym (pair_at m m.funcs m.bodies index func body (sym e) (sym f))))
