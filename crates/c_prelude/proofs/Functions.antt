-- Each helper is a static function of its type; helpers have names of their own.
use Rattle.c_prelude.proofs.Common.{◌≡◌, ℕ, suc, Bool, true, false, List, [], ◌∷◌, if◌then◌else◌, slice_get, Some, Option, find, bytes_eq}
use Rattle.c_prelude.proofs.Common.{sym, refl, ap, ◌∙◌, subst, LoadOp, StoreOp, helper_of, Helper, NumOp}
use Rattle.wasm_tree.specs.declared.operators.LoadOp.TheVariants as load
use Rattle.wasm_tree.specs.declared.operators.StoreOp.TheVariants as store
use Rattle.c_tree.specs.Tree as tree
use Rattle.c_helpers.specs.declared.operation.NumOp.TheVariants as num
use Rattle.c_helpers.specs.declared.operation.Helper.TheVariants as helper
use Rattle.c_helpers.specs.declared.operation.TheConstants.{HELPERS}
use Rattle.c_prelude.specs.Functions.{helper_type, IsStaticFunction}

abbrev IsOne : Helper → Type 0
IsOne which = IsStaticFunction (helper_type which) (helper_of which)

number_static : (op : NumOp) → IsOne (helper.Num op)
number_static num.I32DivS = record { static = refl; typed = refl; named = refl; formed = refl; keeps_rules = refl }
number_static _ = record { static = refl; typed = refl; named = refl; formed = refl; keeps_rules = refl }

load_static : (op : LoadOp) → IsOne (helper.Load op)
load_static load.I32Load = record { static = refl; typed = refl; named = refl; formed = refl; keeps_rules = refl }
load_static _ = record { static = refl; typed = refl; named = refl; formed = refl; keeps_rules = refl }

store_static : (op : StoreOp) → IsOne (helper.Store op)
store_static store.I32Store = record { static = refl; typed = refl; named = refl; formed = refl; keeps_rules = refl }
store_static _ = record { static = refl; typed = refl; named = refl; formed = refl; keeps_rules = refl }

helper_static : (which : Helper) → IsOne which
helper_static (helper.Num op) = number_static op
helper_static (helper.Load op) = load_static op
helper_static (helper.Store op) = store_static op
helper_static _ = record { static = refl; typed = refl; named = refl; formed = refl; keeps_rules = refl }

-- the same of a function that is the helper
pub made_static : (which : Helper) (f : tree.Func) → f ≡ helper_of which → IsStaticFunction (helper_type which) f
made_static which f e = subst (IsStaticFunction (helper_type which)) (sym e) (helper_static which)

-- ---- names

-- the helper of a name
abbrev named : List ℕ → Option Helper
named name = find (λ which. bytes_eq (helper_of which).name name) HELPERS

abbrev Finds : Helper → Type 0
Finds which = named (helper_of which).name ≡ Some which

finds_number : (op : NumOp) → Finds (helper.Num op)
finds_number num.I32DivS = refl
finds_number _ = refl

finds_load : (op : LoadOp) → Finds (helper.Load op)
finds_load load.I32Load = refl
finds_load _ = refl

finds_store : (op : StoreOp) → Finds (helper.Store op)
finds_store store.I32Store = refl
finds_store _ = refl

finds : (which : Helper) → Finds which
finds (helper.Num op) = finds_number op
finds (helper.Load op) = finds_load op
finds (helper.Store op) = finds_store op
finds _ = refl

same : (a b : Helper) → Some a ≡ Some b → a ≡ b
same a b e = cc

pub names_differ : (a b : Helper) → (helper_of a).name ≡ (helper_of b).name → a ≡ b
names_differ a b e = same a b (sym (finds a) ∙ ap named e ∙ finds b)

-- what is found stands somewhere
found_at : {A : Type 0} (p : A → Bool) (xs : List A) (x : A) → find p xs ≡ Some x → (i : ℕ) × (slice_get xs i ≡ Some x)
found_at p [] x e = absurd cc
found_at p (y ∷ ys) x e = go (p y) (found_at p ys x) e
  where
    go : (b : Bool) → (find p ys ≡ Some x → (i : ℕ) × (slice_get ys i ≡ Some x)) → (if b then Some y else find p ys) ≡ Some x
        → (i : ℕ) × (slice_get (y ∷ ys) i ≡ Some x)
    go true behind e = (0, e)
    go false behind e = let r = behind e in (suc r.0, r.1)

pub listed : (which : Helper) → (i : ℕ) × (slice_get HELPERS i ≡ Some which)
listed which = found_at (λ other. bytes_eq (helper_of other).name (helper_of which).name) HELPERS which (finds which)
