-- A listed call that fits the modules fits the units under its symbol.
use Rattle.w2c_sim.proofs.Common.{◌≡◌, Bool, true, false, ◌&&◌, List, [], ◌∷◌, is_some, Some, None, Option, option_map, sym, refl, ap, ◌∙◌}
use Rattle.w2c_sim.proofs.Common.{subst, AllByRecursion, list_all, list_any, position_from, IsFunc, LinkedSet, exported, instances, Program}
use Rattle.w2c_sim.proofs.Common.{c_func_type_of, c_params_of, c_result_of, called_func, defined_for_all, fits, func_type, IsAcceptedSet}
use Rattle.w2c_sim.proofs.Common.{program_of, symbol_call}
use Rattle.std.proofs.lemmas.Bool.{and_from}
use Rattle.w2c_base.specs.declared.value.ValType.{ValType}
use Rattle.w2c_base.specs.declared.value.ValType.TheVariants.{I32, I64}
use Rattle.w2c_base.specs.declared.value.Value.{Value}
use Rattle.w2c_base.specs.declared.signature.FuncType.{FuncType}
use Rattle.w2c_base.specs.Values.{IsNumber, is_number, types_of}
use Rattle.w2c_base.specs.Lookup.{if_found}
use Rattle.w2c_base.proofs.Numbers.{number_is_found}
use Rattle.w2c_mangle.specs.declared.symbol.SymbolKind.TheVariants.{Func}
use Rattle.w2c_mangle.specs.Symbols.{export_symbol_of}
use Rattle.wasm_meaning.specs.LinkedSet as link
use Rattle.wasm_meaning.specs.Run.{ListedCall, Fits}
use Rattle.c_tree.specs.declared.tree.CType.TheVariants.{Void, U32, U64}
use Rattle.c_tree.specs.Tree as tree
use Rattle.c_tree.specs.Scope.{Name}
use Rattle.c_tree.specs.Runtime.{same_type, same_types}
use Rattle.c_tree.proofs.SameTypes.{same_as_themselves}
use Rattle.c_meaning.specs.State.{UnitFunc}
use Rattle.c_symbols.specs.Symbols.{export_symbol}
use Rattle.unit_meaning.proofs.Linked.{ExportedBy, exported_by}
use Rattle.unit_meaning.proofs.External.{SymbolFound, symbol_found}
use Rattle.unit_meaning.proofs.Funcs.{as_func_is}
use Rattle.unit_meaning.proofs.Stands.{ExportedFunc, exported_func, func_stands}
use Rattle.c_init.proofs.Small.{some_same}

-- what a function's type says of a call
abbrev fits_type : List Value → Option tree.FuncType → Bool
fits_type args found = elim found [
  | None ↦ false
  | Some ty ↦ same_types ty.params (c_params_of (types_of args))
      && list_any (same_type ty.result) (Void ∷ U32 ∷ U64 ∷ [])
      && list_all is_number args
]

numbers_found : (args : List Value) → AllByRecursion IsNumber args → list_all is_number args ≡ true
numbers_found [] of_all = refl
numbers_found (v ∷ args) (one, of_all) =
    and_from (is_number v) (list_all is_number args) (number_is_found v one) (numbers_found args of_all)

result_passes : (result : Option ValType) → list_any (same_type (c_result_of result)) (Void ∷ U32 ∷ U64 ∷ []) ≡ true
result_passes None = refl
result_passes (Some I32) = refl
result_passes (Some I64) = refl

type_fits : (ty : FuncType) (args : List Value) → ty.params ≡ types_of args → AllByRecursion IsNumber args
    → fits_type args (Some (c_func_type_of ty)) ≡ true
type_fits ty args same numbers =
    let params : same_types (c_params_of ty.params) (c_params_of (types_of args)) ≡ true =
    subst (λ (ts : List ValType). same_types (c_params_of ty.params) (c_params_of ts) ≡ true) same
    (same_as_themselves (c_params_of ty.params)) in
    let result = result_passes ty.result in
    let found = numbers_found args numbers in
    λ i. params i && result i && found i

pub calls_fit : (s : LinkedSet) → IsAcceptedSet s → (call : ListedCall) → Fits s call → fits (program_of s) (symbol_call call) ≡ true
calls_fit s accepted call is =
    let p : Program = program_of s in
    let f : link.FuncAddress = is.0 in
    let found : exported (instances s) call.module_name call.export_name ≡ Some (IsFunc f) =
    as_func_is (exported (instances s) call.module_name call.export_name) f is.2 in
    let h : ExportedBy s _ call.module_name call.export_name (IsFunc f) =
    exported_by s call.module_name call.export_name (IsFunc f) found in
    let x : ExportedFunc s h.owner h.exporter h.one.one f = exported_func s accepted _ call.module_name call.export_name f h found
    (λ k at. func_stands s accepted h.owner h.exporter h.exporter_is k f at) in
    let symbol : SymbolFound s h.owner h.exporter h.one.one = symbol_found s accepted _ call.module_name call.export_name (IsFunc f) h in
    let same : export_symbol h.exporter h.one.one ≡ (symbol_call call).symbol = x.symbol_is
    ∙ ap (λ n. export_symbol_of n Func h.one.one.name) h.its_name ∙ ap (export_symbol_of call.module_name Func) h.one.name_is in
    let called : called_func p (symbol_call call) ≡ Some (UnitFunc h.owner (symbol_call call).symbol) =
    subst (λ (n : Name). option_map (λ u. UnitFunc u n) (position_from (λ unit. is_some (defined_for_all unit n)) 0 p.units)
    ≡ Some (UnitFunc h.owner n))
    same (ap (option_map (λ u. UnitFunc u (export_symbol h.exporter h.one.one))) symbol.first_unit) in
    let typed : func_type p (UnitFunc h.owner (symbol_call call).symbol) ≡ Some (c_func_type_of x.stands.ty) =
    subst (λ (n : Name). func_type p (UnitFunc h.owner n) ≡ Some (c_func_type_of x.stands.ty)) same x.stands.c_ty_is in
    let types : x.stands.ty.params ≡ types_of call.args =
    ap (λ (ty : FuncType). ty.params) (some_same (sym x.stands.ty_is ∙ is.3)) ∙ is.4 in
    ap (λ o. fits_type call.args (if_found o (func_type p))) called ∙ ap (fits_type call.args) typed
    ∙ type_fits x.stands.ty call.args types is.5
