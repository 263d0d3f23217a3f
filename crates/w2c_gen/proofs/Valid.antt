-- A generated module is valid, whatever its places are.
use Rattle.w2c_gen.proofs.Common.{◌≡◌, ℕ, zero, suc, ◌+◌, ◌-◌, ◌%◌, ◌<◌, ◌≤◌, Bool, true, false, List, [], ◌∷◌, map, replicate, is_none}
use Rattle.w2c_gen.proofs.Common.{if◌then◌else◌, ◌==◌, slice_get, Some, None, Option, option_map, zip, flat_map, sym, refl, ap, ◌∙◌, subst}
use Rattle.w2c_gen.proofs.Common.{arith, range_with_len, Call, end_code, then_code, BodyEntry, Module, SameApartFromPlaces, bare_body}
use Rattle.w2c_gen.proofs.Common.{bare_code, bare_data_count, bare_export, bare_func, bare_kind, bare_start, bare_type, Context, Labels}
use Rattle.w2c_gen.proofs.Common.{context_of, BodyHasType, HasType, KindHasType, body_of, code_with, generated, number_to_number}
use Rattle.w2c_gen.proofs.Common.{of_first_type, operator, run_export, run_name, number_at}
use Rattle.std.proofs.lemmas.Option.{slice_get-map}
use Rattle.w2c_base.specs.declared.value.ValType.TheVariants.{I32}
use Rattle.w2c_base.specs.declared.signature.FuncType.{FuncType}
use Rattle.w2c_base.proofs.Places.{get_replicated}
use Rattle.w2c_base.proofs.Nothing.{map_none}
use Rattle.wasm_tree.specs.IndexSpaces.{func_space, type_in}
use Rattle.wasm_tree.specs.declared.entries.TypeEntry.{TypeEntry}
use Rattle.wasm_tree.specs.declared.entries.FuncEntry.{FuncEntry}
use Rattle.wasm_tree.specs.declared.entries.Export.{Export}
use Rattle.wasm_tree.specs.declared.entries.ExportKind.TheVariants.{Func as ExportFunc}
use Rattle.wasm_tree.specs.declared.entries.Start.{Start}
use Rattle.wasm_tree.specs.declared.entries.DataCount.{DataCount}
use Rattle.w2c_gen.proofs.Lists.{one_of}
use Rattle.w2c_gen.proofs.TypedAgain.{typed_again}
use Rattle.wasm_typing.specs.declared.fault.ValidCause.TheVariants as cause
use Rattle.wasm_typing.specs.ModuleFaults.{fault_if, is_out, module_faults}
use Rattle.wasm_typing.specs.Verdict.{AreTyped, IsTyped, IsValid}

abbrev its_type : FuncType
its_type = number_to_number.ty

no_start : (s : Option Start) → bare_start s ≡ None → s ≡ None
no_start None e = refl
no_start (Some s) e = cc

no_data_count : (d : Option DataCount) → bare_data_count d ≡ None → d ≡ None
no_data_count None e = refl
no_data_count (Some d) e = cc

-- ---- functions of the first type

indexes : (n : ℕ) (fs : List FuncEntry) → map bare_func fs ≡ replicate n of_first_type → map (λ f. f.type_index) fs ≡ replicate n 0
indexes zero [] e = refl
indexes zero (f ∷ fs) e = cc
indexes (suc n) [] e = cc
indexes (suc n) (f ∷ fs) e =
    let first : bare_func f ≡ of_first_type = cc in
    let others : map bare_func fs ≡ replicate n of_first_type = cc in
    let index : f.type_index ≡ 0 = ap (λ (x : FuncEntry). x.type_index) first in
    let rest = indexes n fs others in
    cc

abbrev AreFirst : List FuncEntry → Type 0
AreFirst [] = Unit {0}
AreFirst (f ∷ fs) = (f.type_index ≡ 0) × AreFirst fs

are_first : (n : ℕ) (fs : List FuncEntry) → map (λ f. f.type_index) fs ≡ replicate n 0 → AreFirst fs
are_first n [] e = tt
are_first zero (f ∷ fs) e = cc
are_first (suc n) (f ∷ fs) e = (cc, are_first n fs cc)

no_type_faults : (m : Module) (fs : List FuncEntry) → type_in m 0 ≡ Some its_type → AreFirst fs
    → flat_map (λ f. fault_if (is_none (type_in m f.type_index)) f.place cause.UnknownType) fs ≡ []
no_type_faults m [] known h = refl
no_type_faults m (f ∷ fs) known (first, others) =
    let there : is_none (type_in m f.type_index) ≡ false = ap (λ i. is_none (type_in m i)) first ∙ ap is_none known in
    rw (there, no_type_faults m fs known others) refl

-- ---- bodies

operator_typed : (c : Context) (labels : Labels) (r : ℕ) → KindHasType c labels (bare_kind (operator r)) (I32 ∷ I32 ∷ []) (I32 ∷ [])
operator_typed c labels zero = ([], refl, refl)
operator_typed c labels (suc zero) = ([], refl, refl)
operator_typed c labels (suc (suc zero)) = ([], refl, refl)
operator_typed c labels (suc (suc (suc r))) = ([], refl, refl)

call_typed : (c : Context) (labels : Labels) (k : ℕ) (b : Bool) → slice_get c.funcs (k - 1) ≡ Some (Some its_type)
    → HasType c labels (bare_code (if b then end_code else then_code 0 (Call (k - 1)) end_code)) (I32 ∷ []) (I32 ∷ [])
call_typed c labels k true there = refl
call_typed c labels k false there = (I32 ∷ [], (its_type, there, ([], refl, refl)), refl)

body_typed : (m : Module) (x k : ℕ) (body : BodyEntry) → slice_get (map (type_in m) (func_space m)) (k - 1) ≡ Some (Some its_type)
    → bare_code body.code ≡ bare_code (code_with x k) → BodyHasType (context_of m its_type body) body.code
body_typed m x k body there same =
    let c = context_of m its_type body in
    let labels : Labels = Some I32 ∷ [] in
    let bare : HasType c labels (bare_code (code_with x k)) [] (I32 ∷ []) = (
      I32 ∷ [],
      (I32, refl, ([], refl, refl)),
      (
        I32 ∷ I32 ∷ [],
        (I32 ∷ [], refl, refl),
        (I32 ∷ [], operator_typed c labels (x % 4), call_typed c labels k (k % 1000 == 0) there),
      ),
    ) in
    typed_again c labels body.code [] (I32 ∷ []) (subst (λ code. HasType c labels code [] (I32 ∷ [])) (sym same) bare)

bodies_typed : (m : Module) (n a k : ℕ) (fs : List FuncEntry) (bodies : List BodyEntry) → a + k ≤ n → type_in m 0 ≡ Some its_type
    → ((index : ℕ) → index < n → slice_get (map (type_in m) (func_space m)) index ≡ Some (Some its_type))
    → AreFirst fs → map bare_body bodies ≡ map bare_body (map (body_of n) (range_with_len a k)) → AreTyped m (zip fs bodies)
bodies_typed m n a k [] [] le known all h e = tt
bodies_typed m n a k [] (b ∷ bodies) le known all h e = tt
bodies_typed m n a k (f ∷ fs) [] le known all h e = tt
bodies_typed m n a zero (f ∷ fs) (b ∷ bodies) le known all h e = cc
bodies_typed m n a (suc k) (f ∷ fs) (b ∷ bodies) le known all (first, others) e =
    let same : bare_body b ≡ bare_body (body_of n a) = cc in
    let rest : map bare_body bodies ≡ map bare_body (map (body_of n) (range_with_len (a + 1) k)) = cc in
    let its : type_in m f.type_index ≡ Some its_type = ap (type_in m) first ∙ known in
    let one = body_typed m (number_at n (suc a)) a b (all (a - 1) (omega arith)) (ap (λ (x : BodyEntry). x.code) same) in (
      subst (λ (ty : Option FuncType). IsTyped (option_map (λ t. context_of m t b) ty) b) (sym its) one,
      bodies_typed m n (a + 1) k fs bodies (omega arith) known all others rest,
    )

-- ---- the module

abbrev export_at : (n name_place index_place : ℕ) → Export
export_at n name_place index_place =
    record { name = run_name; kind = ExportFunc; index = n - 1; name_place = name_place; index_place = index_place }

-- a generated module with some places, some functions and some bodies
abbrev placed : (n place name_place index_place : ℕ) → List FuncEntry → List BodyEntry → Module
placed n place name_place index_place fs bodies = record {
  types = record { place = place; ty = its_type } ∷ [];
  imports = [];
  funcs = fs;
  tables = [];
  memories = [];
  globals = [];
  exports = export_at n name_place index_place ∷ [];
  start = None;
  elements = [];
  data_count = None;
  segments = [];
  bodies = bodies;
}

no_faults : (n p q r : ℕ) (fs : List FuncEntry) (bodies : List BodyEntry) → 1 ≤ n → map (λ f. f.type_index) fs ≡ replicate n 0
    → module_faults (placed n p q r fs bodies) ≡ []
unfolding module_faults
no_faults n p q r fs bodies some e =
    let m = placed n p q r fs bodies in
    let types = no_type_faults m fs refl (are_first n fs e) in
    let there : is_out (map (λ f. f.type_index) fs) (n - 1) ≡ false =
    ap (λ l. is_out l (n - 1)) e ∙ ap is_none (get_replicated n (n - 1) 0 (omega arith)) in
    rw (types, there) refl

placed_valid : (n p q r : ℕ) (fs : List FuncEntry) (bodies : List BodyEntry) → 1 ≤ n → map (λ f. f.type_index) fs ≡ replicate n 0
    → map bare_body bodies ≡ map bare_body (map (body_of n) (range_with_len 0 n)) → IsValid (placed n p q r fs bodies)
placed_valid n p q r fs bodies some e b =
    let m = placed n p q r fs bodies in
    let all : (index : ℕ) → index < n → slice_get (map (type_in m) (func_space m)) index ≡ Some (Some its_type) = λ index h.
    slice_get-map (type_in m) (func_space m) index ∙ ap (λ l. option_map (type_in m) (slice_get l index)) e
    ∙ ap (option_map (type_in m)) (get_replicated n index 0 h) in
    record {
      no_faults = no_faults n p q r fs bodies some e;
      bodies = bodies_typed m n 0 n fs bodies (omega arith) refl all (are_first n fs e) b;
    }

pub generated_valid : (n : ℕ) (u : Module) → 1 ≤ n → SameApartFromPlaces (generated n) u → IsValid u
generated_valid n u some e =
    let ty = one_of bare_type number_to_number u.types (sym (ap (λ (m : Module). m.types) e)) in
    let ex = one_of bare_export (run_export (n - 1)) u.exports (sym (ap (λ (m : Module). m.exports) e)) in
    let imports = map_none _ u.imports (sym (ap (λ (m : Module). m.imports) e)) in
    let tables = map_none _ u.tables (sym (ap (λ (m : Module). m.tables) e)) in
    let memories = map_none _ u.memories (sym (ap (λ (m : Module). m.memories) e)) in
    let globals = map_none _ u.globals (sym (ap (λ (m : Module). m.globals) e)) in
    let start = no_start u.start (sym (ap (λ (m : Module). m.start) e)) in
    let elements = map_none _ u.elements (sym (ap (λ (m : Module). m.elements) e)) in
    let data_count = no_data_count u.data_count (sym (ap (λ (m : Module). m.data_count) e)) in
    let segments = map_none _ u.segments (sym (ap (λ (m : Module). m.segments) e)) in
    let its : u.types ≡ record { place = ty.0.place; ty = its_type } ∷ [] =
    ty.1 ∙ ap (λ (t : TypeEntry). record { place = ty.0.place; ty = t.ty } ∷ []) ty.2 in
    let exported : u.exports ≡ export_at n ex.0.name_place ex.0.index_place ∷ [] =
    ex.1 ∙ ap (λ (t : Export). record t { name_place = ex.0.name_place; index_place = ex.0.index_place } ∷ []) ex.2 in
    let same : u ≡ placed n ty.0.place ex.0.name_place ex.0.index_place u.funcs u.bodies = λ i. record {
      types = its i;
      imports = imports i;
      funcs = u.funcs;
      tables = tables i;
      memories = memories i;
      globals = globals i;
      exports = exported i;
      start = start i;
      elements = elements i;
      data_count = data_count i;
      segments = segments i;
      bodies = u.bodies;
    } in
    let funcs : map bare_func u.funcs ≡ replicate n of_first_type = sym (ap (λ (m : Module). m.funcs) e) ∙ bare_replicate n in
    let bodies : map bare_body u.bodies ≡ map bare_body (map (body_of n) (range_with_len 0 n)) = sym (ap (λ (m : Module). m.bodies) e) in
    subst IsValid (sym same) (placed_valid n _ _ _ u.funcs u.bodies some (indexes n u.funcs funcs) bodies)
  where
    bare_replicate : (n : ℕ) → map bare_func (replicate n of_first_type) ≡ replicate n of_first_type
    bare_replicate zero = refl
    bare_replicate (suc n) = ap (λ l. of_first_type ∷ l) (bare_replicate n)
