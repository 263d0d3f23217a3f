-- The units of a linked set serve its modules' bodies, and a listed call begins a wrapper.
use Rattle.w2c_base.proofs.Places.{get_before}
use Rattle.wasm_meaning.specs.LinkedSet as link
use Rattle.unit_definition.proofs.Defined.{helper_defined, helper_typed, helper_is_no_primitive, func_is_no_primitive}
use Rattle.unit_definition.proofs.Defined.{export_is_no_primitive}
use Rattle.unit_meaning.proofs.Common.{◌≡◌, ℕ, suc, ◌*◌, ◌≤◌, List, map, length, slice_get, Some, Contains, Option, option_map, sym, refl}
use Rattle.unit_meaning.proofs.Common.{ap, ◌∙◌, subst, arith, slice_get_within, if_found, types_of, FuncType, export_symbol_of, Func}
use Rattle.unit_meaning.proofs.Common.{Import, ImportFunc, External, Instance, IsFunc, LinkedSet, NamedModule, as_func, exported, func_at}
use Rattle.unit_meaning.proofs.Common.{import_at, instances, meaning_of, definition_at, func_type, primitive, UnitFunc, helper_of}
use Rattle.unit_meaning.proofs.Common.{Helper, export_symbol, func_imports, get_mapped, ResolvesAs, callable_later, IsDefined, body_of}
use Rattle.unit_meaning.proofs.Common.{helpers_of, Defines, Reached, IsAcceptedSet, UnitsServe, program_of, symbol_call}
use Rattle.unit_meaning.proofs.Instances.{IsPlaced, placed, earlier_is}
use Rattle.unit_meaning.proofs.Linked.{ExportedBy, exported_by, accepted_at}
use Rattle.unit_meaning.proofs.External.{SymbolFound, defines, symbol_found}
use Rattle.unit_meaning.proofs.Usable.{origin, import_kind, import_symbol_is, import_resolves, usable}
use Rattle.unit_meaning.proofs.Funcs.{ImportedFunc, imported_func, func_space_at, as_func_is}
use Rattle.unit_meaning.proofs.Stands.{ExportedFunc, ImportStands, exported_func, import_stands, func_stands, own_definition, stands_for}
use Rattle.unit_meaning.proofs.Listed.{ListedCallsAreWrapped}
use Rattle.c_init.proofs.Small.{some_same}

pub few_modules : (s : LinkedSet) → IsAcceptedSet s → (u : ℕ) (m : NamedModule) → slice_get s.modules u ≡ Some m → 3 * u ≤ 48
few_modules s accepted u m is = omega (arith, slice_get_within s.modules u m is, accepted.linked.at_most_16)

body_found : (s : LinkedSet) (accepted : IsAcceptedSet s) (u : ℕ) (m : NamedModule) (is : slice_get s.modules u ≡ Some m) (k : ℕ)
    → IsDefined m.tree k → Defines (program_of s) u (body_of m.tree m.name k)
body_found s accepted u m is k there =
    let d = own_definition s accepted u m is k there in
    record {
      item = d.4.0;
      body = d.0;
      has_body = d.1;
      defined = ap (definition_at (program_of s) u) d.2 ∙ d.4.1;
      typed = ap (λ name. func_type (program_of s) (UnitFunc u name)) d.2 ∙ d.5;
      is_no_primitive = ap primitive d.2 ∙ func_is_no_primitive k;
    }

helper_found : (s : LinkedSet) (u : ℕ) (m : NamedModule) → slice_get s.modules u ≡ Some m → (which : Helper)
    → Contains (helpers_of m.tree) which → Defines (program_of s) u (helper_of which)
helper_found s u m is which there =
    let d = helper_defined m which there in
    defines s u m is (helper_of which) d.0 d.1 d.2 (helper_typed m which (helper_of which) d.0 d.2) (helper_is_no_primitive which)

-- what an import's index stands for
pub import_index : (s : LinkedSet) (u : ℕ) (m : NamedModule) → slice_get s.modules u ≡ Some m → (k : ℕ) (i : Import)
    → slice_get (func_imports m.tree) k ≡ Some i → (f : link.FuncAddress) → import_at s u i ≡ Some (IsFunc f) → func_at s u k ≡ Some f
import_index s u m is k i at f stands =
    let h : IsPlaced s.hosts (instances s) u m = placed s u m is in
    let g : Import → Option link.FuncAddress = λ i. if_found (meaning_of s.hosts h.earlier i) as_func in
    let here : meaning_of s.hosts h.earlier i ≡ Some (IsFunc f) =
    ap (λ (l : List Instance). meaning_of s.hosts l i) (sym (earlier_is s u m h)) ∙ stands in
    let front : slice_get (map g (func_imports m.tree)) k ≡ Some (Some f) = get_mapped g (func_imports m.tree) k i at
    ∙ ap (λ (o : Option External). Some (if_found o as_func)) here in
    func_space_at s u m h k ∙ ap (λ (o : Option (Option link.FuncAddress)). if_found o (λ e. e))
    (get_before (map g (func_imports m.tree)) _ k (slice_get_within (map g (func_imports m.tree)) k (Some f) front) ∙ front)

import_found : (s : LinkedSet) → IsAcceptedSet s → (u : ℕ) (m : NamedModule) → slice_get s.modules u ≡ Some m → (k : ℕ) (i : Import)
    → slice_get (func_imports m.tree) k ≡ Some i → Reached (program_of s) s u m k i
import_found s accepted u m is k i at =
    let place : ImportedFunc m.tree.imports k i = imported_func m.tree.imports k i at in
    let r : ResolvesAs s u i (ImportFunc place.ty_index) = subst (ResolvesAs s u i) place.kind_is
    (import_resolves s accepted u m is place.place i place.is) in
    let x : ImportStands s u i r.0 = import_stands s accepted u m is (λ v n less n_is k f at. func_stands s accepted v n n_is k f at) i r.0
    (ap import_kind place.kind_is) (origin s accepted u m is i (IsFunc r.0) r.2) in
    record {
      is_usable = usable s accepted u m is place.place i place.is;
      function = r.0;
      function_is = import_index s u m is k i at r.0 r.2;
      address = x.address;
      address_is = x.address_is;
      is_no_primitive = ap primitive (import_symbol_is i) ∙ export_is_no_primitive i.«module» (import_kind i.kind) i.field;
      stands = stands_for (program_of s) s (3 * u) r.0 x.address (few_modules s accepted u m is) x.stands;
    }

pub units_serve : UnitsServe
units_serve s accepted = record {
  linked = accepted.linked;
  hosts = refl;
  valid = λ u m is. (accepted_at s accepted u m is).valid;
  within = λ u m is. (accepted_at s accepted u m is).within;
  serve = λ u m is. record {
    bodies = λ k there. body_found s accepted u m is k there;
    helpers = λ which there. helper_found s u m is which there;
    imports = λ k i at. import_found s accepted u m is k i at;
  };
}

pub listed_calls_are_wrapped : ListedCallsAreWrapped
listed_calls_are_wrapped s accepted call fits =
    let f : link.FuncAddress = fits.0 in
    let found : exported (instances s) call.module_name call.export_name ≡ Some (IsFunc f) =
    as_func_is (exported (instances s) call.module_name call.export_name) f fits.2 in
    let h : ExportedBy s (length (instances s)) call.module_name call.export_name (IsFunc f) =
    exported_by s call.module_name call.export_name (IsFunc f) found in
    let x : ExportedFunc s h.owner h.exporter h.one.one f = exported_func s accepted (length (instances s)) call.module_name
    call.export_name f h found (λ k at. func_stands s accepted h.owner h.exporter h.exporter_is k f at) in
    let symbol : SymbolFound s h.owner h.exporter h.one.one =
    symbol_found s accepted (length (instances s)) call.module_name call.export_name (IsFunc f) h in
    let same : export_symbol h.exporter h.one.one ≡ (symbol_call call).symbol
    = x.symbol_is ∙ ap (λ n. export_symbol_of n Func h.one.one.name) h.its_name
    ∙ ap (export_symbol_of call.module_name Func) h.one.name_is in
    let types : fits.1 ≡ x.inner_stands.ty = some_same (sym fits.3 ∙ x.inner_stands.ty_is) in
    let fit : types_of call.args ≡ x.inner_stands.ty.params = sym fits.4 ∙ ap (λ (ty : FuncType). ty.params) types in
    record {
      function = f;
      function_is = fits.2;
      callable = callable_later s (suc h.owner) (length s.modules) f
          (omega (arith, slice_get_within s.modules h.owner h.exporter h.exporter_is)) x.callable;
      ty = x.inner_stands.ty;
      ty_is = x.inner_stands.ty_is;
      fit = fit;
      unit = h.owner;
      called_is = rw same at (ap (option_map (λ u. UnitFunc u (export_symbol h.exporter h.one.one))) symbol.first_unit);
      inner = x.inner;
      stands = stands_for (program_of s) s (3 * h.owner) f x.inner (few_modules s accepted h.owner h.exporter h.exporter_is) x.inner_stands;
      wraps = λ pending m below. rw same at (x.wraps pending m call.args below fit);
    }
