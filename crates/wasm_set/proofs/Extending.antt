-- A set with more modules behind it: what resolves in the front resolves in the whole.
use Rattle.wasm_set.proofs.Common.{◌≡◌, ℕ, zero, suc, ◌≤◌, Bool, List, [], ◌∷◌, ◌++◌, length, take, slice_get, Some, None, Option}
use Rattle.wasm_set.proofs.Common.{option_map, refl, ap, ◌∙◌, arith, take-append-le, AllByRecursion, if_found, Host, FuncType, ValType}
use Rattle.wasm_set.proofs.Common.{at_defined, type_in, FuncEntry, GlobalEntry, Import, ImportKind, ImportFunc, ImportGlobal, Module}
use Rattle.wasm_set.proofs.Common.{FuncAddress, GlobalAddress, HostFunc, Instance, LinkedSet, ModuleFunc, NamedModule, Resolves, func_type}
use Rattle.wasm_set.proofs.Common.{global_type, import_at, instance_of, instances, instances_behind, meaning_of, module_at, type_at}
use Rattle.wasm_set.proofs.Stands.{of_kind}
use Rattle.wasm_set.proofs.Instances.{behind_is}

-- modules without hosts
abbrev pub alone : List NamedModule → LinkedSet
alone modules = record { modules = modules; hosts = [] }

-- ---- instances

behind_both : (hosts : List Host) (earlier : List Instance) (modules others : List NamedModule)
    → instances_behind hosts earlier (modules ++ others) ≡ instances_behind hosts (instances_behind hosts earlier modules) others
behind_both hosts earlier [] others = refl
behind_both hosts earlier (m ∷ modules) others = behind_both hosts (earlier ++ instance_of hosts earlier m ∷ []) modules others

pub front_instances : (modules others : List NamedModule) (p : ℕ) → p ≤ length modules
    → take p (instances (alone (modules ++ others))) ≡ take p (instances (alone modules))
front_instances modules others p less =
    let first = behind_is [] [] modules in
    let more = behind_is [] (instances (alone modules)) others in
    let count : length (instances (alone modules)) ≡ length modules = ap length first.1 ∙ first.2 in
    ap (take p) (behind_both [] [] modules others ∙ more.1)
    ∙ take-append-le p (instances (alone modules)) more.0 (omega (arith, less, count))

-- ---- modules and types

pub mapped_front : {A B : Type 0} (f : A → B) (xs ys : List A) (p : ℕ) (b : B) → option_map f (slice_get xs p) ≡ Some b
    → option_map f (slice_get (xs ++ ys) p) ≡ Some b
mapped_front f [] ys p b e = absurd (cc)
mapped_front f (x ∷ xs) ys zero b e = e
mapped_front f (x ∷ xs) ys (suc p) b e = mapped_front f xs ys p b e

-- what is found goes on to be found, where each step does
found_still : {A B : Type 0} (o o' : Option A) (g g' : A → Option B) (b : B) → ((a : A) → o ≡ Some a → o' ≡ Some a)
    → ((a : A) → g a ≡ Some b → g' a ≡ Some b) → if_found o g ≡ Some b → if_found o' g' ≡ Some b
found_still None o' g g' b h k e = absurd (cc)
found_still (Some a) o' g g' b h k e = ap (λ o. if_found o g') (h a refl) ∙ k a e

pub module_extends : (modules others : List NamedModule) (p : ℕ) (m : Module) → module_at (alone modules) p ≡ Some m
    → module_at (alone (modules ++ others)) p ≡ Some m
module_extends modules others p m e = mapped_front (λ (m : NamedModule). m.tree) modules others p m e

type_extends : (modules others : List NamedModule) (p t : ℕ) (ty : FuncType) → type_at (alone modules) p t ≡ Some ty
    → type_at (alone (modules ++ others)) p t ≡ Some ty
type_extends modules others p t ty e =
    found_still (module_at (alone modules) p) (module_at (alone (modules ++ others)) p) (λ m. type_in m t) (λ m. type_in m t) ty
    (λ m. module_extends modules others p m) (λ m e. e) e

func_extends : (modules others : List NamedModule) (f : FuncAddress) (ty : FuncType) → func_type (alone modules) f ≡ Some ty
    → func_type (alone (modules ++ others)) f ≡ Some ty
func_extends modules others (ModuleFunc p k) ty e =
    found_still (module_at (alone modules) p) (module_at (alone (modules ++ others)) p)
    (λ m. if_found (at_defined m m.funcs k) (λ f. type_at (alone modules) p f.type_index))
    (λ m. if_found (at_defined m m.funcs k) (λ f. type_at (alone (modules ++ others)) p f.type_index)) ty
    (λ m. module_extends modules others p m)
    (λ m. found_still (at_defined m m.funcs k) (at_defined m m.funcs k)
    (λ (f : FuncEntry). type_at (alone modules) p f.type_index) (λ (f : FuncEntry). type_at (alone (modules ++ others)) p f.type_index) ty
    (λ f e. e) (λ f. type_extends modules others p f.type_index ty)) e
func_extends modules others (HostFunc h f) ty e = e

global_extends : (modules others : List NamedModule) (g : GlobalAddress) (ty : ValType × Bool) → global_type (alone modules) g ≡ Some ty
    → global_type (alone (modules ++ others)) g ≡ Some ty
global_extends modules others g ty e =
    found_still (module_at (alone modules) g.owner) (module_at (alone (modules ++ others)) g.owner)
    (λ m. option_map (λ (e : GlobalEntry). (e.ty, e.mutable)) (slice_get m.globals g.number))
    (λ m. option_map (λ (e : GlobalEntry). (e.ty, e.mutable)) (slice_get m.globals g.number)) ty
    (λ m. module_extends modules others g.owner m) (λ m e. e) e

-- ---- imports

import_extends : (modules others : List NamedModule) (p : ℕ) → p ≤ length modules → (i : Import)
    → import_at (alone (modules ++ others)) p i ≡ import_at (alone modules) p i
import_extends modules others p less i = ap (λ (all : List Instance). meaning_of [] all i) (front_instances modules others p less)

resolves_extends : (modules others : List NamedModule) (p : ℕ) → p ≤ length modules → (i : Import) (k : ImportKind)
    → Resolves (alone modules) p (of_kind i k) → Resolves (alone (modules ++ others)) p (of_kind i k)
resolves_extends modules others p less i (ImportFunc t) r =
    let at = import_extends modules others p less i ∙ r.2 in
    (r.0, r.1, at, type_extends modules others p t r.1 r.3, func_extends modules others r.0 r.1 r.4)
resolves_extends modules others p less i (ImportGlobal ty mutable) r =
    (r.0, import_extends modules others p less i ∙ r.1, global_extends modules others r.0 (ty, mutable) r.2)
resolves_extends modules others p less i _ r = (r.0, import_extends modules others p less i ∙ r.1)

pub all_extend : (modules others : List NamedModule) (p : ℕ) → p ≤ length modules → (imports : List Import)
    → AllByRecursion (Resolves (alone modules) p) imports → AllByRecursion (Resolves (alone (modules ++ others)) p) imports
all_extend modules others p less [] all = tt
all_extend modules others p less (i ∷ imports) all =
    (resolves_extends modules others p less i i.kind all.0, all_extend modules others p less imports all.1)
