-- What instantiation rests on, from a module's validity (WebAssembly Core 1.0, 3.4) and its limits.
use Rattle.std.proofs.Common.{◌==◌}
use Rattle.unit_definition.proofs.Common.{HasLimits, ◌≡◌, ℕ, zero, suc, ◌^◌, ◌<◌, ◌≤◌, Bool, true, false, not, ◌&&◌, ◌||◌, List, [], ◌∷◌}
use Rattle.unit_definition.proofs.Common.{◌++◌, map, length, is_none, slice_get, Some, None, filter, Option, flat_map, sym, refl, ap, ◌∙◌}
use Rattle.unit_definition.proofs.Common.{subst, arith, same_Some, AllByRecursion, FuncType, ValType, global_space, imported_global_space}
use Rattle.unit_definition.proofs.Common.{is_global_import, memory_of_import, memory_space, table_of_import, table_space, GlobalEntry}
use Rattle.unit_definition.proofs.Common.{Limits, LimitsEntry, SegmentEntry, Module, fault_if, filter_few}
use Rattle.wasm_typing.specs.Verdict.{IsValid}
use Rattle.c_init.specs.Init.{max_number}
use Rattle.w2c_base.specs.declared.value.ValType.TheVariants as type
use Rattle.w2c_base.proofs.Conjunctions.{right_fails}
use Rattle.wasm_typing.specs.declared.fault.ValidCause.TheVariants as cause
use Rattle.wasm_typing.specs.ModuleFaults.{Expression, constant_expected, expressions, has_other_type, is_got_unknown, is_no_constant}
use Rattle.wasm_typing.specs.ModuleFaults.{is_no_first, is_other_than_start, is_out, shape_of, start_faults, type_mismatch, unknown_global}
use Rattle.std.proofs.lemmas.Bool.Decides.{nat_tests}
use Rattle.wasm_tree.specs.IndexSpaces.{func_space, func_type_in}
use Rattle.wasm_tree.specs.declared.entries.ElementEntry.{ElementEntry}
use Rattle.wasm_tree.specs.declared.entries.FuncRef.{FuncRef}
use Rattle.wasm_tree.specs.declared.entries.Start.{Start}
use Rattle.wasm_tree.specs.Within.{IsMaximum}
use Rattle.w2c_base.proofs.Lists.{all_behind, all_front, all_unmapped, all_weaker}
use Rattle.c_init.specs.Fitting.{ShapeFits}
use Rattle.c_init.specs.Instantiable.{ElementIsValid, DataIsValid, StartIsValid, IsInstantiable}
use Rattle.c_init.proofs.Small.{no_left, no_right, no_fault, each_none, few, is_there}
use Rattle.c_init.proofs.NoFaults.{HasNoFault, rows_of}
use Rattle.c_init.proofs.Fits.{fits_of}

-- ---- no faults

all_three : {A : Type 0} (P Q R S : A → Type 0) (xs : List A) → ((x : A) → P x → Q x → R x → S x) → AllByRecursion P xs
    → AllByRecursion Q xs → AllByRecursion R xs → AllByRecursion S xs
all_three P Q R S [] f p q r = tt
all_three P Q R S (x ∷ xs) f p q r = (f x p.0 q.0 r.0, all_three P Q R S xs f p.1 q.1 r.1)

all_two : {A : Type 0} (P Q S : A → Type 0) (xs : List A) → ((x : A) → P x → Q x → S x) → AllByRecursion P xs → AllByRecursion Q xs
    → AllByRecursion S xs
all_two P Q S [] f p q = tt
all_two P Q S (x ∷ xs) f p q = (f x p.0 q.0, all_two P Q S xs f p.1 q.1)

-- ---- expressions

expressions_fit : (m : Module) → HasNoFault m → AllByRecursion (λ (e : Expression). ShapeFits e.ty (shape_of e.globals e.code))
    (expressions m)
expressions_fit m h =
    all_three (λ e. constant_expected e ≡ []) (λ e. unknown_global e ≡ []) (λ e. type_mismatch e ≡ [])
    (λ (e : Expression). ShapeFits e.ty (shape_of e.globals e.code)) (expressions m)
    (λ e a b d. fits_of e.ty (shape_of e.globals e.code)
    (no_fault (is_no_constant (shape_of e.globals e.code)) e.place cause.ConstantExpected a)
    (no_fault (is_got_unknown (shape_of e.globals e.code)) e.place cause.UnknownGlobal b)
    (no_fault (has_other_type e.ty (shape_of e.globals e.code)) e.place cause.TypeMismatch d))
    (each_none constant_expected (expressions m) h.constants) (each_none unknown_global (expressions m) h.globals)
    (each_none type_mismatch (expressions m) h.types)

-- ---- segments

is_zero : (n : ℕ) → not (n == 0) ≡ false → n ≡ 0
is_zero zero e = refl
is_zero (suc n) e = absurd (let apart : (suc n == 0) ≡ false = grind (arith, nat_tests) in let no : not (suc n == 0) ≡ true =
    ap not apart in cc)

or_first : (a b : Bool) → (a || b) ≡ false → a ≡ false
or_first false b e = refl
or_first true b e = e

within : {A : Type 0} (xs : List A) (k : ℕ) → is_none (slice_get xs k) ≡ false → k < length xs
within [] k e = absurd cc
within (x ∷ xs) zero e = omega arith
within (x ∷ xs) (suc k) e = let less : k < length xs = within xs k e in omega (arith, less)

all_four : {A : Type 0} (P Q R T S : A → Type 0) (xs : List A) → ((x : A) → P x → Q x → R x → T x → S x) → AllByRecursion P xs
    → AllByRecursion Q xs → AllByRecursion R xs → AllByRecursion T xs → AllByRecursion S xs
all_four P Q R T S [] f p q r t = tt
all_four P Q R T S (x ∷ xs) f p q r t = (f x p.0 q.0 r.0 t.0, all_four P Q R T S xs f p.1 q.1 r.1 t.1)

-- ---- sizes

length_behind : {A B : Type 0} (xs : List A) (f : B → A) (ys : List B) → length ys ≤ length (xs ++ map f ys)
length_behind [] f [] = omega arith
length_behind [] f (y ∷ ys) = let le : length ys ≤ length (map f ys) = length_behind [] f ys in omega (arith, le)
length_behind (x ∷ xs) f ys = let le : length ys ≤ length (xs ++ map f ys) = length_behind xs f ys in omega (arith, le)

max_low : (max : Option ℕ) → IsMaximum max → max_number max ≤ 4294967296
max_low None low = omega arith
max_low (Some max) low = omega (arith, low)

and_first : (a b : Bool) → not (a && b) ≡ false → a ≡ true
and_first true b e = refl
and_first false b e = absurd cc

empty : (types : List ValType) → (length types == 0) ≡ true → types ≡ []
empty [] e = refl
empty (t ∷ types) e = absurd (let apart : (suc (length types) == 0) ≡ false = grind (arith, nat_tests) in cc)

no_params : (m : Module) (index : ℕ) → is_other_than_start (func_type_in m index) ≡ false → (ty : FuncType) → func_type_in m index ≡ Some ty
    → ty.params ≡ []
no_params m index e ty is = empty ty.params (and_first (length ty.params == 0) (is_none ty.result) (sym (ap is_other_than_start is) ∙ e))

start_valid : (m : Module) (start : Option Start) → start_faults m start ≡ [] → (x : Start) → start ≡ Some x → StartIsValid m x.index
start_valid m None e x is = absurd cc
start_valid m (Some y) e x is =
    let there = no_fault (is_out (func_space m) y.index) y.place cause.UnknownFunction
    (no_left (fault_if (is_out (func_space m) y.index) y.place cause.UnknownFunction) _ e) in
    let typed = no_fault (is_other_than_start (func_type_in m y.index)) y.place cause.StartType
    (no_right (fault_if (is_out (func_space m) y.index) y.place cause.UnknownFunction) _ e) in
    subst (λ (x : Start). StartIsValid m x.index) (same_Some y x is)
    (record { there = within (func_space m) y.index there; no_params = no_params m y.index typed })

abbrev Expr : Expression → Type 0
Expr e = ShapeFits e.ty (shape_of e.globals e.code)

abbrev global_expr : Module → GlobalEntry → Expression
global_expr m g = record { code = g.code; ty = g.ty; globals = imported_global_space m; place = g.place }

abbrev element_expr : Module → ElementEntry → Expression
element_expr m e = record { code = e.offset; ty = type.I32; globals = global_space m; place = e.offset_place }

abbrev segment_expr : Module → SegmentEntry → Expression
segment_expr m s = record { code = s.offset; ty = type.I32; globals = global_space m; place = s.offset_place }

pub modules_are_instantiable : (m : Module) → IsValid m → HasLimits m → IsInstantiable m
modules_are_instantiable m valid w = record {
  elements = all_four (λ (e : ElementEntry). fault_if (is_no_first (table_space m) e.table) e.place cause.UnknownTable ≡ [])
      (λ (e : ElementEntry). ShapeFits type.I32 (shape_of (global_space m) e.offset))
      (λ (e : ElementEntry). length e.funcs < 2 ^ 32)
      (λ (e : ElementEntry). flat_map (λ (f : FuncRef). fault_if (is_out (func_space m) f.index) f.place cause.UnknownFunction)
      e.funcs ≡ [])
      (ElementIsValid m) m.elements
      (λ e a b d f. let first = no_fault (is_no_first (table_space m) e.table) e.place cause.UnknownTable a in record {
        table_is = is_zero e.table (or_first (not (e.table == 0)) (is_out (table_space m) 0) first);
        there = is_there (slice_get (table_space m) 0) (right_fails (not (e.table == 0)) (is_out (table_space m) 0) first);
        offset = b;
        few = d;
        funcs = all_weaker (λ (f : FuncRef). fault_if (is_out (func_space m) f.index) f.place cause.UnknownFunction ≡ [])
            (λ (f : FuncRef). f.index < length (func_space m)) e.funcs
            (λ f is. within (func_space m) f.index (no_fault (is_out (func_space m) f.index) f.place cause.UnknownFunction is))
            (each_none (λ (f : FuncRef). fault_if (is_out (func_space m) f.index) f.place cause.UnknownFunction) e.funcs f);
      })
      (each_none (λ (e : ElementEntry). fault_if (is_no_first (table_space m) e.table) e.place cause.UnknownTable) m.elements
      (no_left (flat_map (λ (e : ElementEntry). fault_if (is_no_first (table_space m) e.table) e.place cause.UnknownTable) m.elements) _
      h.segments))
      (all_unmapped Expr (element_expr m) m.elements (all_front Expr (map (element_expr m) m.elements) _ behind_globals))
      w.elements
      (each_none (λ (e : ElementEntry). flat_map (λ (f : FuncRef). fault_if (is_out (func_space m) f.index) f.place cause.UnknownFunction)
      e.funcs) m.elements h.elements);
  segments = all_four (λ (s : SegmentEntry). fault_if (is_no_first (memory_space m) s.memory) s.place cause.UnknownMemory ≡ [])
      (λ (s : SegmentEntry). ShapeFits type.I32 (shape_of (global_space m) s.offset))
      (λ (s : SegmentEntry). length s.bytes < 2 ^ 32) (λ (s : SegmentEntry). AllByRecursion (λ b. b < 256) s.bytes)
      (DataIsValid m) m.segments
      (λ s a b d f. let first = no_fault (is_no_first (memory_space m) s.memory) s.place cause.UnknownMemory a in record {
        memory_is = is_zero s.memory (or_first (not (s.memory == 0)) (is_out (memory_space m) 0) first);
        there = is_there (slice_get (memory_space m) 0) (right_fails (not (s.memory == 0)) (is_out (memory_space m) 0) first);
        offset = b;
        few = d;
        are_bytes = f;
      })
      (each_none (λ (s : SegmentEntry). fault_if (is_no_first (memory_space m) s.memory) s.place cause.UnknownMemory) m.segments
      (no_right (flat_map (λ (e : ElementEntry). fault_if (is_no_first (table_space m) e.table) e.place cause.UnknownTable) m.elements) _
      h.segments))
      (all_unmapped Expr (segment_expr m) m.segments (all_behind Expr (map (element_expr m) m.elements) _ behind_globals))
      w.bytes w.are_bytes;
  few_segments = w.segments;
  one_table = let a : length (table_space m) ≤ 1 = few cause.TooManyTables (table_space m) h.one_table in
      let b : length m.tables ≤ length (table_space m) = length_behind (flat_map table_of_import m.imports) (λ (t : LimitsEntry). t.limits)
      m.tables in omega (arith, a, b);
  one_memory = let a : length (memory_space m) ≤ 1 = few cause.TooManyMemories (memory_space m) h.one_memory in
      let b : length m.memories ≤ length (memory_space m) = length_behind (flat_map memory_of_import m.imports)
      (λ (t : LimitsEntry). t.limits) m.memories in omega (arith, a, b);
  one_table_in_all = few cause.TooManyTables (table_space m) h.one_table;
  one_memory_in_all = few cause.TooManyMemories (memory_space m) h.one_memory;
  table_limits = all_unmapped (λ (l : Limits). l.min ≤ 1000000) (λ (t : LimitsEntry). t.limits) m.tables
      (all_behind (λ (l : Limits). l.min ≤ 1000000) (flat_map table_of_import m.imports)
      (map (λ (t : LimitsEntry). t.limits) m.tables) w.tables);
  memory_limits = all_two (λ (t : LimitsEntry). t.limits.min ≤ 16384) (λ (t : LimitsEntry). IsMaximum t.limits.max)
      (λ (t : LimitsEntry). (t.limits.min ≤ 16384) × (max_number t.limits.max ≤ 4294967296)) m.memories
      (λ t a b. (a, max_low t.limits.max b))
      (all_unmapped (λ (l : Limits). l.min ≤ 16384) (λ (t : LimitsEntry). t.limits) m.memories
      (all_behind (λ (l : Limits). l.min ≤ 16384) (flat_map memory_of_import m.imports)
      (map (λ (t : LimitsEntry). t.limits) m.memories) w.memories))
      (all_unmapped (λ (l : Limits). IsMaximum l.max) (λ (t : LimitsEntry). t.limits) m.memories
      (all_behind (λ (l : Limits). IsMaximum l.max) (flat_map memory_of_import m.imports) (map (λ (t : LimitsEntry). t.limits) m.memories)
      (all_behind (λ (l : Limits). IsMaximum l.max) (table_space m) (memory_space m) w.maxima)));
  globals = all_unmapped Expr (global_expr m) m.globals (all_front Expr (map (global_expr m) m.globals) _ exprs);
  few_globals =
      let few : length (filter is_global_import m.imports) ≤ length m.imports = filter_few is_global_import m.imports in
      let a : length m.imports < 2 ^ 32 = w.imports in
      let b : length m.globals < 2 ^ 32 = w.globals in
      omega (arith, few, a, b);
  maxima = w.maxima;
  start = start_valid m m.start h.start;
}
  where
    h : HasNoFault m
    h = rows_of m valid.no_faults

    exprs : AllByRecursion Expr (expressions m)
    exprs = expressions_fit m h

    behind_globals : AllByRecursion Expr (map (element_expr m) m.elements ++ map (segment_expr m) m.segments)
    behind_globals = all_behind Expr (map (global_expr m) m.globals) _ exprs
