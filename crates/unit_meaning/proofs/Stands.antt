-- Each function index of a module is reached by a name in its unit: a defined function by its own name, an
-- imported one by its symbol, which is that of a wrapper in an earlier unit, or of a host's function.
use Rattle.w2c_base.proofs.Places.{get_before}
use Rattle.w2c_base.proofs.Types.{types_many}
use Rattle.w2c_mangle.specs.declared.symbol.SymbolKind.TheVariants as symbol
use Rattle.wasm_meaning.specs.LinkedSet as link
use Rattle.c_tree.specs.Tree as tree
use Rattle.c_tree.specs.TypesInC.{c_func_type_of}
use Rattle.unit_definition.proofs.Found.{find_join}
use Rattle.unit_definition.proofs.Defined.{IsDefinition, IsExternal, export_external, body_with, body_defined, func_typed}
use Rattle.unit_definition.proofs.Defined.{func_is_no_primitive, export_is_no_primitive}
use Rattle.unit_definition.proofs.BodiesAt.{few_params}
use Rattle.unit_definition.proofs.AcceptedLimits.{accepted_limits}
use Rattle.unit_meaning.proofs.Common.{◌≡◌, ℕ, zero, suc, ◌+◌, ◌*◌, ◌^◌, ◌<◌, ◌≤◌, Bool, true, List, [], ◌∷◌, ◌++◌, map, length, take}
use Rattle.unit_meaning.proofs.Common.{if◌then◌else◌, slice_get, Some, None, Option, option_map, find, flat_map, bytes_eq, sym, refl, ap}
use Rattle.unit_meaning.proofs.Common.{◌∙◌, subst, inl, inr, append_assoc, arith, slice_get_within, option_or, at_index, if_found, named}
use Rattle.unit_meaning.proofs.Common.{Host, HostFunction, types_of, FuncType, ValType, Value, export_symbol_of, func_of_import, func_space}
use Rattle.unit_meaning.proofs.Common.{func_type_in, imported_funcs, is_func_import, type_in, Export, ExportKind, ExportFunc, ExportGlobal}
use Rattle.unit_meaning.proofs.Common.{ExportMemory, ExportTable, Import, ImportFunc, Module, Name, func_type_of, CType, External}
use Rattle.unit_meaning.proofs.Common.{IndexSpaces, Instance, IsFunc, LinkedSet, NamedModule, export_of, exported, func_at, import_at}
use Rattle.unit_meaning.proofs.Common.{instances, join, stays, Program, c_params_of, c_result_of, c_type_of, defined, definition_at}
use Rattle.unit_meaning.proofs.Common.{external_func, func_named, func_type, primitive, Pending, Frame, FuncAddress, HostFunc, Machine}
use Rattle.unit_meaning.proofs.Common.{UnitFunc, FunctionsAlike, func_name, global_name, memory_name, table_name, c_func_type}
use Rattle.unit_meaning.proofs.Common.{c_func_type_if, export_symbol, export_type, global_imports, import_symbol, is_usable, memory_imports}
use Rattle.unit_meaning.proofs.Common.{table_imports, filter_few, ResolvesAs, callable_later, IsCallable, IsDefined, body_of, func_of}
use Rattle.unit_meaning.proofs.Common.{params_of, HasLimits, callee, PassesOn, StandsFor, called, core, given, accessor, export_func}
use Rattle.unit_meaning.proofs.Common.{passes_on, IsAccepted, IsAcceptedSet, program_of}
use Rattle.body_forms.specs.Variables.{params_from}
use Rattle.unit_meaning.proofs.Instances.{IsPlaced, spaces_at, placed, earlier_is}
use Rattle.unit_meaning.proofs.Linked.{ExportedBy, accepted_at}
use Rattle.unit_meaning.proofs.External.{SymbolFound, unit_at, type_found, symbol_found, external_found, named_external}
use Rattle.unit_meaning.proofs.HostSymbols.{OfferedBy}
use Rattle.unit_meaning.proofs.Usable.{Origin, FromModule, FromHost, origin, origin_bytes, origin_differs, import_kind, import_symbol_is}
use Rattle.unit_meaning.proofs.Usable.{import_resolves, type_at_is, usable}
use Rattle.unit_meaning.proofs.Funcs.{ImportedFunc, IsImport, IsOwn, OwnFunc, imported_func, func_case, func_space_at, own_func}
use Rattle.unit_meaning.proofs.Listed.{WrapsOnce}
use Rattle.unit_meaning.proofs.Wrapper.{wraps, wrapper_type}
use Rattle.c_prelude.proofs.CallStatements.{named_here}
use Rattle.c_init.proofs.Small.{some_same}

-- the same as `StandsFor`, with so many statements at most
pub record StandsIn (p : Program) (s : LinkedSet) (most : ℕ) (f : link.FuncAddress) (a : FuncAddress) : Type 0 where
  pub alike : FunctionsAlike s f a
  pub ty : FuncType
  pub ty_is : link.func_type s f ≡ Some ty
  pub c_ty_is : func_type p a ≡ Some (c_func_type ty)
  pub passes : (pending : Pending) (m : Machine) (args : List Value) (below : List Frame) → types_of args ≡ ty.params
      → PassesOn p most ty a (core f) pending m args below

passes_more : (p : Program) (few most : ℕ) (ty : FuncType) (a b : FuncAddress) (pending : Pending) (m : Machine) (args : List Value)
    (below : List Frame) → few ≤ most → PassesOn p few ty a b pending m args below → PassesOn p most ty a b pending m args below
passes_more p few most ty a b pending m args below le h = record
    { frames = h.frames; there = h.there; back = h.back; few = omega (arith, h.few, le); calls = h.calls; gives = h.gives }

pub stands_in_more : (p : Program) (s : LinkedSet) (few most : ℕ) (f : link.FuncAddress) (a : FuncAddress) → few ≤ most
    → StandsIn p s few f a → StandsIn p s most f a
stands_in_more p s few most f a le h = record {
  alike = h.alike;
  ty = h.ty;
  ty_is = h.ty_is;
  c_ty_is = h.c_ty_is;
  passes = λ pending m args below fit. passes_more p few most h.ty a (core f) pending m args below le (h.passes pending m args below fit);
}

pub stands_for : (p : Program) (s : LinkedSet) (most : ℕ) (f : link.FuncAddress) (a : FuncAddress) → most ≤ 48 → StandsIn p s most f a
    → StandsFor p s f a
stands_for p s most f a le h = record {
  alike = h.alike;
  ty = h.ty;
  ty_is = h.ty_is;
  c_ty_is = h.c_ty_is;
  passes = λ pending m args below fit. passes_more p most 48 h.ty a (core f) pending m args below le (h.passes pending m args below fit);
}

-- a function stands for itself
passes_itself : (p : Program) (most : ℕ) (ty : FuncType) (a : FuncAddress) (pending : Pending) (m : Machine) (args : List Value)
    (below : List Frame) → PassesOn p most ty a a pending m args below
passes_itself p most ty a pending m args below = record {
  frames = [];
  there = 0;
  back = 0;
  few = omega arith;
  calls = stays p (called p pending a m args below);
  gives = λ after value typed. stays p (given p pending after value below);
}

-- a wrapper before a function that stands
passes_wrapped : (p : Program) (most : ℕ) (ty : FuncType) (outer inner inmost : FuncAddress) (pending : Pending) (m : Machine)
    (args : List Value) (below : List Frame) → (w : WrapsOnce p ty outer inner pending m args below)
    → PassesOn p most ty inner inmost pending m args (w.frames ++ below) → PassesOn p (most + 3) ty outer inmost pending m args below
passes_wrapped p most ty outer inner inmost pending m args below w h =
    let e : (h.frames ++ w.frames) ++ below ≡ h.frames ++ (w.frames ++ below) = append_assoc h.frames w.frames below in
    record {
      frames = h.frames ++ w.frames;
      there = 1 + h.there;
      back = h.back + w.back;
      few = omega (arith, h.few, w.few);
      calls = rw e (join p 1 h.there _ _ _ w.calls h.calls);
      gives = λ after value typed. rw e (join p h.back w.back _ _ _ (h.gives after value typed) (w.gives after value typed));
    }

-- ---- the function with an index

pub record FuncStands (s : LinkedSet) (u : ℕ) (m : NamedModule) (k : ℕ) (f : link.FuncAddress) : Type 0 where
  pub name : Name
  pub callee_is : callee m k ≡ Some name
  pub address : FuncAddress
  pub address_is : func_named (program_of s) u name ≡ Some address
  pub free : primitive name ≡ None
  pub stands : StandsIn (program_of s) s (3 * u) f address
  pub typed : func_type_in m.tree k ≡ Some stands.ty
  pub callable : IsCallable s (suc u) f

few_of_func : (m : Module) → HasLimits m → (k : ℕ) (ty : FuncType) → func_type_in m k ≡ Some ty → length ty.params ≤ 60
few_of_func m within k ty typed = go (slice_get (func_space m) k) typed
  where
    go : (o : Option ℕ) → if_found o (type_in m) ≡ Some ty → length ty.params ≤ 60
    go None typed = absurd (cc)
    go (Some t) typed = few_params m within t ty typed

-- ---- own functions

abbrev param_type : tree.Param → CType
param_type q = q.0

own_types_from : (k : ℕ) (types : List ValType) → map param_type (params_from k types) ≡ map c_type_of types
own_types_from k [] = refl
own_types_from k (t ∷ types) = ap (λ ts. c_type_of t ∷ ts) (own_types_from (suc k) types)

own_types : (types : List ValType) → map param_type (params_of types) ≡ c_params_of types
own_types [] = refl
own_types (t ∷ types) = own_types_from 0 (t ∷ types)

pub own_definition : (s : LinkedSet) (accepted : IsAcceptedSet s) (u : ℕ) (m : NamedModule) (is : slice_get s.modules u ≡ Some m) (k : ℕ)
    (there : IsDefined m.tree k)
    → (body : tree.Body) × ((body_of m.tree m.name k).body ≡ Some body) × ((body_of m.tree m.name k).name ≡ func_name k)
    × (func_type_of (body_of m.tree m.name k) ≡ c_func_type (own_func s accepted u m is k there).ty)
    × IsDefinition (definition_at (program_of s) u) (func_name k) (body_of m.tree m.name k) body
    × (func_type (program_of s) (UnitFunc u (func_name k)) ≡ Some (func_type_of (body_of m.tree m.name k)))
own_definition s accepted u m is k there =
    let a : IsAccepted m = accepted_at s accepted u m is in
    let own : OwnFunc s u m k = own_func s accepted u m is k there in
    let body_is : body_of m.tree m.name k ≡ func_of m k own.ty own.entry.1 =
    body_with m.tree m.name k own.entry own.ty own.entry_is own.typed in
    let few : imported_funcs m.tree + length m.tree.funcs ≤ 2 ^ 64 =
    omega (arith, filter_few is_func_import m.tree.imports, (accepted_limits a).imports, (accepted_limits a).funcs) in
    let has_body : (body_of m.tree m.name k).body ≡ (func_of m k own.ty own.entry.1).body = ap (λ (f : tree.Func). f.body) body_is in
    let name_is : (body_of m.tree m.name k).name ≡ func_name k = ap (λ (f : tree.Func). f.name) body_is in
    let definition = body_defined m k _ there few has_body name_is in (
      _,
      has_body,
      name_is,
      ap func_type_of body_is ∙ ap (λ (ts : List CType). record { params = ts; result = c_result_of own.ty.result })
          (own_types own.ty.params),
      (
        definition.0,
        ap (λ (unit : Option (List tree.Item)). if_found unit (λ items. defined items (func_name k))) (unit_at s u m is) ∙ definition.1,
      ),
      type_found s u m is (func_name k) (body_of m.tree m.name k) _ (func_typed m k (body_of m.tree m.name k) _ definition),
    )

own_stands : (s : LinkedSet) → IsAcceptedSet s → (u : ℕ) (m : NamedModule) → slice_get s.modules u ≡ Some m → (k : ℕ) (f : link.FuncAddress)
    → IsOwn u m k f → FuncStands s u m k f
own_stands s accepted u m is k f h =
    let own : OwnFunc s u m k = own_func s accepted u m is k h.defined in
    let d = own_definition s accepted u m is k h.defined in
    subst (FuncStands s u m k) (sym h.func_is) (record {
      name = func_name k;
      callee_is = ap (λ (o : Option Import). elim o
          [ None ↦ Some (func_name k) | Some i ↦ if is_usable m i then Some (import_symbol i) else None ]) h.no_import;
      address = UnitFunc u (func_name k);
      address_is = named_here (program_of s) u (func_name k) _ d.4.1;
      free = func_is_no_primitive k;
      stands = record {
        alike = inl (record { index = k; name_is = refl; func_is = refl });
        ty = own.ty;
        ty_is = own.in_set;
        c_ty_is = d.5 ∙ ap Some d.3;
        passes = λ pending machine args below fit. passes_itself (program_of s) (3 * u) own.ty
            (UnitFunc u (func_name k)) pending machine args below;
      };
      typed = own.in_module;
      callable =
          record { early = omega arith; tree = m.tree; tree_is = ap (option_map (λ (m : NamedModule). m.tree)) is; defined = h.defined };
    })

-- ---- wrappers

-- what an export of this kind would have
abbrev pub type_by : Module → Export → ExportKind → tree.FuncType
type_by m e kind = export_type m (record e { kind = kind })

abbrev pub symbol_by : NamedModule → Export → ExportKind → Name
symbol_by m e kind = export_symbol m (record e { kind = kind })

abbrev pub func_by : NamedModule → Export → ExportKind → tree.Func
func_by m e kind = elim kind [
  | ExportFunc ↦ passes_on (export_type m.tree e) (export_symbol m e) (callee m e.index)
  | ExportTable ↦ accessor m (export_type m.tree e) (export_symbol m e) (slice_get (table_imports m.tree) e.index) table_name
  | ExportMemory ↦ accessor m (export_type m.tree e) (export_symbol m e) (slice_get (memory_imports m.tree) e.index) memory_name
  | ExportGlobal ↦ accessor m (export_type m.tree e) (export_symbol m e) (slice_get (global_imports m.tree) e.index) (global_name e.index)
]

-- an export that stands for a function
export_of_func : (spaces : IndexSpaces) (e : Export) (f : link.FuncAddress) → (export_of spaces e).1 ≡ Some (IsFunc f)
    → (e.kind ≡ ExportFunc) × (at_index spaces.funcs e.index ≡ Some f)
export_of_func spaces e f stands = go e.kind refl stands
  where
    of_func : (o : Option link.FuncAddress) → option_map IsFunc o ≡ Some (IsFunc f) → o ≡ Some f
    of_func None e = absurd (cc)
    of_func (Some g) e = let same : g ≡ f = cc in ap Some same

    none : {A : Type 0} (g : A → External) → ((a : A) → g a ≡ IsFunc f → ⊥) → (o : Option A) → option_map g o ≡ Some (IsFunc f) → ⊥
    none g apart None e = cc
    none g apart (Some a) e = apart a (some_same e)

    go : (kind : ExportKind) → e.kind ≡ kind → (export_of spaces (record e { kind = kind })).1 ≡ Some (IsFunc f)
        → (e.kind ≡ ExportFunc) × (at_index spaces.funcs e.index ≡ Some f)
    go ExportFunc is stands = (is, of_func (at_index spaces.funcs e.index) stands)
    go ExportTable is stands = absurd (none link.IsTable (λ a e. cc) (at_index spaces.tables e.index) stands)
    go ExportMemory is stands = absurd (none link.IsMemory (λ a e. cc) (at_index spaces.memories e.index) stands)
    go ExportGlobal is stands = absurd (none link.IsGlobal (λ a e. cc) (at_index spaces.globals e.index) stands)

-- an exported function: its wrapper, and what that calls
pub record ExportedFunc (s : LinkedSet) (v : ℕ) (m : NamedModule) (e : Export) (f : link.FuncAddress) : Type 0 where
  pub symbol_is : export_symbol m e ≡ export_symbol_of m.name symbol.Func e.name
  pub callable : IsCallable s (suc v) f
  pub inner : FuncAddress
  pub inner_stands : StandsIn (program_of s) s (3 * v) f inner
  pub stands : StandsIn (program_of s) s (3 * v + 3) f (UnitFunc v (export_symbol m e))
  pub same_type : stands.ty ≡ inner_stands.ty
  pub wraps : (pending : Pending) (machine : Machine) (args : List Value) (below : List Frame) → types_of args ≡ inner_stands.ty.params
      → WrapsOnce (program_of s) inner_stands.ty (UnitFunc v (export_symbol m e)) inner pending machine args below

pub exported_func : (s : LinkedSet) → IsAcceptedSet s → (many : ℕ) (module_name name : List ℕ) (f : link.FuncAddress)
    (h : ExportedBy s many module_name name (IsFunc f)) → exported (instances s) module_name name ≡ Some (IsFunc f)
    → ((k : ℕ) → func_at s h.owner k ≡ Some f → FuncStands s h.owner h.exporter k f) → ExportedFunc s h.owner h.exporter h.one.one f
exported_func s accepted many module_name name f h found inner =
    let p : Program = program_of s in
    let v : ℕ = h.owner in
    let n : NamedModule = h.exporter in
    let e : Export = h.one.one in
    let kind = export_of_func (spaces_at s v n h.at) e f h.one.stands in
    let at : FuncStands s v n e.index f = inner e.index (func_space_at s v n h.at e.index ∙ kind.1) in
    let ty : FuncType = at.stands.ty in
    let sym_is : export_symbol n e ≡ export_symbol_of n.name symbol.Func e.name = ap (symbol_by n e) kind.0 in
    let type_is : export_type n.tree e ≡ c_func_type ty = ap (type_by n.tree e) kind.0 ∙ ap c_func_type_if at.typed in
    let func_is : export_func n e ≡ passes_on (c_func_type ty) (export_symbol n e) (Some at.name)
    = ap (func_by n e) kind.0 ∙ ap (λ (t : tree.FuncType). passes_on t (export_symbol n e) (callee n e.index)) type_is
    ∙ ap (passes_on (c_func_type ty) (export_symbol n e)) at.callee_is in
    let found_symbol : SymbolFound s v n e = symbol_found s accepted many module_name name (IsFunc f) h in
    let x : IsExternal (export_type n.tree e) (export_symbol n e) (export_func n e) = export_external n e in
    let definition : definition_at p v (export_symbol n e) ≡ Some
    (record { item = found_symbol.definition.0; func = passes_on (c_func_type ty) (export_symbol n e) (Some at.name); body = x.body })
    = found_symbol.definition.1 ∙ ap (λ (g : tree.Func). Some
    (record { item = found_symbol.definition.0; func = g; body = x.body })) func_is in
    let has_body : (passes_on (c_func_type ty) (export_symbol n e) (Some at.name)).body ≡ Some x.body =
    sym (ap (λ (g : tree.Func). g.body) func_is) ∙ x.has_body in
    let few = few_of_func n.tree (accepted_limits (accepted_at s accepted v n h.exporter_is)) e.index ty at.typed in
    let once : (pending : Pending) (machine : Machine) (args : List Value) (below : List Frame) → types_of args ≡ ty.params
    → WrapsOnce p ty (UnitFunc v (export_symbol n e)) at.address pending machine args below
    = λ pending machine args below fit. wraps p pending v found_symbol.definition.0
    (export_symbol n e) at.name at.address ty args machine below x.body fit has_body definition
    (omega (arith, few, types_many args, ap length fit)) at.free at.address_is in
    record {
      symbol_is = sym_is;
      callable = at.callable;
      inner = at.address;
      inner_stands = at.stands;
      stands = record {
        alike = inr (record {
          exporter = n;
          export_name = e.name;
          exporter_is = h.exporter_is;
          name_is = sym_is;
          func_is = ap (λ (a : Name). exported (instances s) a e.name) h.its_name
              ∙ ap (exported (instances s) module_name) h.one.name_is ∙ found;
        });
        ty = ty;
        ty_is = at.stands.ty_is;
        c_ty_is = found_symbol.typed ∙ ap (λ (f : tree.Func). Some (func_type_of f)) func_is
            ∙ ap Some (wrapper_type ty (export_symbol n e) (Some at.name));
        passes = λ pending machine args below fit.
            let w = once pending machine args below fit in
            passes_wrapped p (3 * v) ty (UnitFunc v (export_symbol n e)) at.address (core f) pending machine args below w
            (at.stands.passes pending machine args (w.frames ++ below) fit);
      };
      same_type = refl;
      wraps = once;
    }

-- ---- imports

-- the same export is found among more instances
pub exported_more : (earlier others : List Instance) (module_name name : List ℕ) (o : External) → exported earlier module_name name ≡ Some o
    → exported (earlier ++ others) module_name name ≡ Some o
exported_more earlier others module_name name o found =
    ap (λ (x : Option Instance). if_found x (λ i. if_found (named name i.exports) (λ e. e)))
    (find_join (λ (i : Instance). bytes_eq i.name module_name) earlier others)
    ∙ go (find (λ (i : Instance). bytes_eq i.name module_name) earlier) found
  where
    go : (x : Option Instance) → if_found x (λ i. if_found (named name i.exports) (λ e. e)) ≡ Some o
        → if_found (option_or x (find (λ (i : Instance). bytes_eq i.name module_name) others))
        (λ i. if_found (named name i.exports) (λ e. e)) ≡ Some o
    go None e = absurd (cc)
    go (Some i) e = e

exported_in_all : (s : LinkedSet) (u : ℕ) (m : NamedModule) → slice_get s.modules u ≡ Some m → (module_name name : List ℕ) (o : External)
    → exported (take u (instances s)) module_name name ≡ Some o → exported (instances s) module_name name ≡ Some o
exported_in_all s u m is module_name name o found =
    let h : IsPlaced s.hosts (instances s) u m = placed s u m is in
    ap (λ (all : List Instance). exported all module_name name) h.whole ∙ exported_more h.earlier _ module_name name o
    (ap (λ (l : List Instance). exported l module_name name) (sym (earlier_is s u m h)) ∙ found)

-- the type of an imported function
import_typed : (s : LinkedSet) → IsAcceptedSet s → (u : ℕ) (m : NamedModule) → slice_get s.modules u ≡ Some m → (k : ℕ) (i : Import)
    → ImportedFunc m.tree.imports k i → (f : link.FuncAddress) (ty : FuncType) → import_at s u i ≡ Some (IsFunc f)
    → link.func_type s f ≡ Some ty → func_type_in m.tree k ≡ Some ty
import_typed s accepted u m is k i h f ty stands typed =
    let r : ResolvesAs s u i (ImportFunc h.ty_index) = subst (ResolvesAs s u i) h.kind_is
    (import_resolves s accepted u m is h.place i h.is) in
    let funcs : IsFunc r.0 ≡ IsFunc f = some_same (sym r.2 ∙ stands) in
    let func : r.0 ≡ f = cc in
    let types : r.1 ≡ ty = some_same (sym r.4 ∙ ap (link.func_type s) func ∙ typed) in
    let within = slice_get_within (flat_map func_of_import m.tree.imports) k h.ty_index h.in_space in
    ap (λ (x : Option ℕ). if_found x (type_in m.tree)) (get_before (flat_map func_of_import m.tree.imports) _ k within ∙ h.in_space)
    ∙ sym (type_at_is s u m is h.ty_index) ∙ r.3 ∙ ap Some types

host_stands : (s : LinkedSet) (most : ℕ) (host_name name : Name) (f : link.FuncAddress) (h : OfferedBy s host_name name (IsFunc f))
    → StandsIn (program_of s) s most f (HostFunc h.host h.function)
host_stands s most host_name name f h = rw same (record {
  alike = refl;
  ty = h.its.ty;
  ty_is = ap (λ (x : Option Host). if_found x (λ host. option_map (λ f. f.ty) (slice_get host.functions h.function))) h.host_is
      ∙ ap (option_map (λ (f : HostFunction). f.ty)) h.function_is;
  c_ty_is = ap (λ (x : Option Host). option_map c_func_type_of
      (if_found x (λ host. option_map (λ f. f.ty) (slice_get host.functions h.function)))) h.host_is
      ∙ ap (λ (x : Option HostFunction). option_map c_func_type_of (option_map (λ f. f.ty) x)) h.function_is;
  passes = λ pending machine args below fit. passes_itself (program_of s) most h.its.ty
      (HostFunc h.host h.function) pending machine args below;
})
  where
    same : f ≡ link.HostFunc h.host h.function
    same = let e : IsFunc f ≡ IsFunc (link.HostFunc h.host h.function) = h.stands in cc

-- where an import's symbol leads
pub record ImportStands (s : LinkedSet) (u : ℕ) (i : Import) (f : link.FuncAddress) : Type 0 where
  pub address : FuncAddress
  pub address_is : func_named (program_of s) u (import_symbol i) ≡ Some address
  pub outside : external_func (program_of s) (import_symbol i) ≡ Some address
  pub stands : StandsIn (program_of s) s (3 * u) f address
  pub callable : IsCallable s (suc u) f

pub import_stands : (s : LinkedSet) (accepted : IsAcceptedSet s) (u : ℕ) (m : NamedModule) (is : slice_get s.modules u ≡ Some m)
    → ((v : ℕ) (n : NamedModule) → v < u → slice_get s.modules v ≡ Some n → (k : ℕ) (f : link.FuncAddress) → func_at s v k ≡ Some f
    → FuncStands s v n k f)
    → (i : Import) (f : link.FuncAddress) → import_kind i.kind ≡ symbol.Func → Origin s u i (IsFunc f) → ImportStands s u i f
import_stands s accepted u m is earlier i f kind from = go from
  where
    sym_is : import_symbol i ≡ export_symbol_of i.«module» symbol.Func i.field
    sym_is = import_symbol_is i ∙ ap (λ k. export_symbol_of i.«module» k i.field) kind

    outside : (from : Origin s u i (IsFunc f)) → func_named (program_of s) u (import_symbol i) ≡ external_func (program_of s)
        (export_symbol_of i.«module» symbol.Func i.field)
    outside from = ap (func_named (program_of s) u) (import_symbol_is i ∙ ap (λ k. export_symbol_of i.«module» k i.field) kind)
        ∙ named_external s accepted u m is i.«module» (origin_bytes s accepted u i (IsFunc f) from)
        (origin_differs s accepted u m is i (IsFunc f) from) symbol.Func i.field

    host_callable : (f : link.FuncAddress) → OfferedBy s i.«module» i.field (IsFunc f) → IsCallable s (suc u) f
    host_callable (link.ModuleFunc owner index) h = let e : IsFunc (link.ModuleFunc owner index)
        ≡ IsFunc (link.HostFunc h.host h.function) = h.stands in absurd (cc)
    host_callable (link.HostFunc host function) h = tt

    go : Origin s u i (IsFunc f) → ImportStands s u i f
    go (FromModule h found) =
        let x = exported_func s accepted u i.«module» i.field f h (exported_in_all s u m is i.«module» i.field (IsFunc f) found)
        (λ k at. earlier h.owner h.exporter h.early h.exporter_is k f at) in
        let same : export_symbol_of i.«module» symbol.Func i.field ≡ export_symbol h.exporter h.one.one
        = ap (λ n. export_symbol_of n symbol.Func i.field) (sym h.its_name)
        ∙ ap (export_symbol_of h.exporter.name symbol.Func) (sym h.one.name_is) ∙ sym x.symbol_is in
        record {
          address = UnitFunc h.owner (export_symbol h.exporter h.one.one);
          outside = ap (external_func (program_of s)) (import_symbol_is i ∙ ap (λ k. export_symbol_of i.«module» k i.field) kind ∙ same)
              ∙ external_found s h.owner h.exporter h.one.one (symbol_found s accepted u i.«module» i.field (IsFunc f) h);
          address_is = outside (FromModule h found) ∙ ap (external_func (program_of s)) same
              ∙ external_found s h.owner h.exporter h.one.one (symbol_found s accepted u i.«module» i.field (IsFunc f) h);
          stands = stands_in_more (program_of s) s (3 * h.owner + 3) (3 * u) f _ (omega (arith, h.early)) x.stands;
          callable = callable_later s (suc h.owner) (suc u) f (omega (arith, h.early)) x.callable;
        }
    go (FromHost h) = record {
      address = HostFunc h.host h.function;
      outside = ap (external_func (program_of s)) (import_symbol_is i ∙ ap (λ k. export_symbol_of i.«module» k i.field) kind) ∙ h.reached;
      address_is = outside (FromHost h) ∙ h.reached;
      stands = host_stands s (3 * u) i.«module» i.field f h;
      callable = host_callable f h;
    }

-- each function of a module, where those of earlier modules stand
stands_next : (s : LinkedSet) → IsAcceptedSet s → (u : ℕ) (m : NamedModule) → slice_get s.modules u ≡ Some m
    → ((v : ℕ) (n : NamedModule) → v < u → slice_get s.modules v ≡ Some n → (k : ℕ) (f : link.FuncAddress) → func_at s v k ≡ Some f
    → FuncStands s v n k f) → (k : ℕ) (f : link.FuncAddress) → func_at s u k ≡ Some f → FuncStands s u m k f
stands_next s accepted u m is earlier k f at = elim (func_case s u m is k f at) [
  | inl i ↦ imported i
  | inr own ↦ own_stands s accepted u m is k f own
]
  where
    imported : IsImport s u m k f → FuncStands s u m k f
    imported h =
        let i : Import = h.one in
        let place : ImportedFunc m.tree.imports k i = imported_func m.tree.imports k i h.is in
        let from : Origin s u i (IsFunc f) = origin s accepted u m is i (IsFunc f) h.stands in
        let kind : import_kind i.kind ≡ symbol.Func = ap import_kind place.kind_is in
        let x : ImportStands s u i f = import_stands s accepted u m is earlier i f kind from in
        let may : is_usable m i ≡ true = usable s accepted u m is place.place i place.is in
        record {
          name = import_symbol i;
          callee_is = ap (λ (o : Option Import). elim o
              [ None ↦ Some (func_name k) | Some i ↦ if is_usable m i then Some (import_symbol i) else None ]) h.is
              ∙ ap (λ (b : Bool). if b then Some (import_symbol i) else None) may;
          address = x.address;
          address_is = x.address_is;
          free = ap primitive (import_symbol_is i) ∙ export_is_no_primitive i.«module» (import_kind i.kind) i.field;
          stands = x.stands;
          callable = x.callable;
          typed = import_typed s accepted u m is k i place f x.stands.ty h.stands x.stands.ty_is;
        }

stands_below : (s : LinkedSet) → IsAcceptedSet s → (count : ℕ) (v : ℕ) (n : NamedModule) → v < count → slice_get s.modules v ≡ Some n
    → (k : ℕ) (f : link.FuncAddress) → func_at s v k ≡ Some f → FuncStands s v n k f
stands_below s accepted zero v n less is k f at = absurd (omega (arith, less))
stands_below s accepted (suc count) v n less is k f at = stands_next s accepted v n is
    (λ w o less'. stands_below s accepted count w o (omega (arith, less, less'))) k f at

pub func_stands : (s : LinkedSet) → IsAcceptedSet s → (u : ℕ) (m : NamedModule) → slice_get s.modules u ≡ Some m
    → (k : ℕ) (f : link.FuncAddress) → func_at s u k ≡ Some f → FuncStands s u m k f
func_stands s accepted u m is k f at = stands_below s accepted (suc u) u m (omega arith) is k f at
