-- A call fits exactly where the module of its name offers a function that takes its arguments.
use Rattle.wasm_set.proofs.Common.{◌≡◌, ◌≤◌, true, List, [], ◌∷◌, map, length, Some, None, Option, option_map, sym, refl, ap, ◌∙◌, subst}
use Rattle.wasm_set.proofs.Common.{append-nil, arith, take_all, AllByRecursion, list_all, both_hold, if_found, IsNumber, equal_types}
use Rattle.wasm_set.proofs.Common.{is_number, types_of, FuncType, ValType, Value, type_in, Module, External, FuncAddress, Instance, IsFunc}
use Rattle.wasm_set.proofs.Common.{IsGlobal, IsLinked, IsMemory, IsTable, LinkedSet, NamedModule, as_func, exported, func_type, instances}
use Rattle.wasm_set.proofs.Common.{module_named, module_takes, offer_takes, takes, offered, named_of, set_of, Offer, Func, Global, Memory}
use Rattle.wasm_set.proofs.Common.{Table, SetModule}
use Rattle.w2c_base.proofs.Types.{types_equal_themselves, equal_types-eq}
use Rattle.w2c_base.proofs.Numbers.{found_is_number}
use Rattle.wasm_meaning.specs.Run.{ListedCall, Fits}
use Rattle.wasm_set.proofs.Pairs.{Together}
use Rattle.wasm_set.proofs.Stands.{Stands}
use Rattle.wasm_set.proofs.Instances.{IsInstanceOf, StandsIn, behind_is, first_stand, found_stands}

-- values that are numbers of their types
numbers : (values : List Value) → list_all is_number values ≡ true → AllByRecursion IsNumber values
numbers [] e = tt
numbers (v ∷ values) e =
    let h = both_hold (is_number v) (list_all is_number values) e in
    (found_is_number v h.0, numbers values h.1)

taken : (ty : Option FuncType) (args : List Value) → takes ty args ≡ true
    → (f : FuncType) × (ty ≡ Some f) × (f.params ≡ types_of args)
taken None args e = absurd (cc)
taken (Some f) args e = (f, refl, equal_types-eq f.params (types_of args) e)

-- the instances of a linked set go together with its modules
all_stand : (modules : List SetModule) → IsLinked (set_of modules)
    → Together (IsInstanceOf (set_of modules)) (instances (set_of modules)) (map named_of modules)
all_stand modules linked =
    let front : List NamedModule = map named_of modules in
    let s : LinkedSet = set_of modules in
    let h = first_stand s front [] (sym (append-nil front)) (λ i m at.
    let is = ap (option_map (λ (m : NamedModule). m.tree)) at in
    record { is = is; resolves = linked.imports_resolve i m.tree is }) in
    let b = behind_is [] [] front in
    let count : length (instances s) ≤ length front = omega (arith, ap length b.1, b.2) in
    subst (λ (all : List Instance). Together (IsInstanceOf s) all front)
    (sym h.1 ∙ take_all (length front) (instances s) count) h.2

-- ---- what stands under the names

abbrev called : LinkedSet → Option External → List Value → Type 0
called s x args = (f : FuncAddress) × (ty : FuncType) × (if_found x as_func ≡ Some f) × (func_type s f ≡ Some ty)
    × (ty.params ≡ types_of args)

called_from : (s : LinkedSet) (m : Module) (x : Option External) (o : Option Offer) (args : List Value) → Stands s m x o
    → offer_takes m o args ≡ true → called s x args
called_from s m (Some (IsFunc f)) (Some (Func u)) args stands e =
    let h = taken (type_in m u) args e in (f, h.0, refl, stands ∙ h.1, h.2)
called_from s m None (Some (Func u)) args stands e = absurd stands
called_from s m (Some (IsTable owner)) (Some (Func u)) args stands e = absurd stands
called_from s m (Some _) (Some (Func u)) args stands e = absurd stands
called_from s m x None args stands e = absurd (cc)
called_from s m x (Some Table) args stands e = absurd (cc)
called_from s m x (Some _) args stands e = absurd (cc)

called_takes : (s : LinkedSet) (m : Module) (x : Option External) (o : Option Offer) (args : List Value) → Stands s m x o
    → called s x args → offer_takes m o args ≡ true
called_takes s m (Some (IsFunc f)) (Some (Func u)) args stands h =
    let same : f ≡ h.0 = cc in
    ap (λ (ty : Option FuncType). takes ty args) (sym stands ∙ ap (func_type s) same ∙ h.3)
    ∙ ap (λ (types : List ValType). equal_types types (types_of args)) h.4 ∙ types_equal_themselves (types_of args)
called_takes s m (Some (IsTable owner)) (Some Table) args stands h = absurd (cc)
called_takes s m (Some (IsMemory owner)) (Some Memory) args stands h = absurd (cc)
called_takes s m (Some (IsGlobal g)) (Some (Global ty mutable)) args stands h = absurd (cc)
called_takes s m None None args stands h = absurd (cc)
called_takes s m x o args stands h = absurd (assumption)

-- ---- the call

-- what stands under its names
abbrev under : List SetModule → ListedCall → Option External
under modules c = exported (instances (set_of modules)) c.module_name c.export_name

pub taken_fits : (modules : List SetModule) → IsLinked (set_of modules) → (c : ListedCall)
    → module_takes (module_named modules c.module_name) c.export_name c.args ≡ true → list_all is_number c.args ≡ true
    → Fits (set_of modules) c
taken_fits modules linked c e small =
    let h = by (module_named modules c.module_name)
    (found_stands (set_of modules) (instances (set_of modules)) modules (all_stand modules linked) c.module_name c.export_name) e in
    (h.0, h.1, h.2, h.3, h.4, numbers c.args small)
  where
    by : (from : Option SetModule) → StandsIn (set_of modules) (under modules c) from c.export_name
        → module_takes from c.export_name c.args ≡ true → called (set_of modules) (under modules c) c.args
    by None stands e = absurd (cc)
    by (Some from) stands e = called_from (set_of modules) from.«module» (under modules c) (offered from.«module» c.export_name)
        c.args stands e

pub fits_is_taken : (modules : List SetModule) → IsLinked (set_of modules) → (c : ListedCall) → Fits (set_of modules) c
    → module_takes (module_named modules c.module_name) c.export_name c.args ≡ true
fits_is_taken modules linked c fits =
    by (module_named modules c.module_name)
    (found_stands (set_of modules) (instances (set_of modules)) modules (all_stand modules linked) c.module_name c.export_name)
  where
    by : (from : Option SetModule) → StandsIn (set_of modules) (under modules c) from c.export_name
        → module_takes from c.export_name c.args ≡ true
    by None none =
        let wrong : Some fits.0 ≡ None = sym fits.2 ∙ ap (λ (x : Option External). if_found x as_func) none in absurd (cc)
    by (Some from) stands = called_takes (set_of modules) from.«module» (under modules c) (offered from.«module» c.export_name)
        c.args stands (fits.0, fits.1, fits.2, fits.3, fits.4)
