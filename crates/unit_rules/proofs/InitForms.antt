-- The statements of the init function keep the rules in a scope that knows what they name, and their numbers fit: those that take
-- imports and make what the module defines.
use Rattle.unit_rules.proofs.Common.{imported_global_space, slice_get_within, imported_globals, is_global_import, is_memory_import, is_some}
use Rattle.unit_rules.proofs.Common.{memory_of_import, is_table_import, table_of_import, shape_of_global, is_runtime_name, imported_global}
use Rattle.unit_rules.proofs.Common.{AllByRecursion, is_func_import, is_object_type, global_imports, memory_imports, pointer_points, length}
use Rattle.unit_rules.proofs.Common.{call_passes_as, slice_get_past, asks_something, if◌then◌else◌, function_name, accessor_type, slice_get}
use Rattle.unit_rules.proofs.Common.{import_symbol, table_imports, constant_expr, contains_kept, global_count, global_space, memory_space}
use Rattle.unit_rules.proofs.Common.{ImportGlobal, ImportMemory, SegmentEntry, pointer_name, proper_types, global_value, pointer_type, zero}
use Rattle.unit_rules.proofs.Common.{limits_label, tests_bounds, tests_limits, all_unmapped, table_space, NamedModule, GlobalEntry, is_none}
use Rattle.unit_rules.proofs.Common.{ImportTable, LimitsEntry, global_name, memory_name, depth_limit, bytes_equal, c_func_type, import_type}
use Rattle.unit_rules.proofs.Common.{call_passes, null_passes, make_global, make_memory, set_pointer, test_limits, all_behind, get_mapped}
use Rattle.unit_rules.proofs.Common.{all_append, func_space, ImportKind, ImportFunc, table_name, label_name, primitives, memory_arg, IsSome}
use Rattle.unit_rules.proofs.Common.{name_typed, set_passes, star_typed, wide_typed, make_table, max_number, place_expr, take_stmts, nat_lt}
use Rattle.unit_rules.proofs.Common.{takes_from, IsAccepted, get_behind, some_first, all_front, get_front, GlobalGet, then_code, IsMaximum}
use Rattle.unit_rules.proofs.Common.{labels_of, functions, variables, c_type_of, table_arg, is_usable, if_passes, n32_typed, n64_typed, ◌≡◌}
use Rattle.unit_rules.proofs.Common.{value_arg, no_object, byte_name, data_name, has_bytes, size_name, one_moves, ShapeFits, primitive, suc}
use Rattle.unit_rules.proofs.Common.{flat_map, bytes_eq, zero-add, or_right, list_any, all_from, at_index, FuncType, I32Const, I64Const, []}
use Rattle.unit_rules.proofs.Common.{end_code, shape_of, is_among, FitsStmt, op_typed, has_test, test_max, test_min, or_left, all_map, Bool}
use Rattle.unit_rules.proofs.Common.{ValType, type_in, is_void, HasType, IsTyped, filter, Option, all_at, Import, Limits, Module, arrays, ℕ}
use Rattle.unit_rules.proofs.Common.{callee, Passes, false, codes, subst, arith, named, Scope, CType, IsArg, true, ◌||◌, List, Some, None}
use Rattle.unit_rules.proofs.Common.{refl, Code, Name, ◌+◌, ◌^◌, ◌<◌, not, ◌∷◌, map, sym, ◌∙◌, n32, n64, I32, ap, at}
use Rattle.c_tree.specs.declared.tree.CType.TheVariants as type
use Rattle.c_tree.specs.declared.tree.COp.TheVariants as op
use Rattle.c_tree.specs.Tree as tree
use Rattle.unit_rules.proofs.EachItem.{all_unflat}
use Rattle.unit_rules.proofs.ExportTypes.{accessor_is, pointer_is}
use Rattle.unit_rules.proofs.InitNumbers.{AreLimits, constant_fits, maximum_fits, memories_limits, one_fits, tables_limits, wider}
use Rattle.unit_rules.proofs.KnownFuncs.{any_at}

-- what the init function's statements need of their scope
pub record InitKnows (m : NamedModule) (s : Scope) : Type 0 where
  pub own_globals : (k : ℕ) (g : ValType × Bool) → slice_get (global_space m.tree) k ≡ Some g
      → is_some (slice_get (global_imports m.tree) k) ≡ false → named (global_name k) (variables s) ≡ Some (c_type_of g.0)
  pub pointed : (k : ℕ) (g : ValType × Bool) → slice_get (global_space m.tree) k ≡ Some g
      → is_some (slice_get (global_imports m.tree) k) ≡ true → named (pointer_name (global_name k)) (variables s) ≡ Some (pointer_type g.0)
  pub memory : IsSome (slice_get (memory_space m.tree) 0) → IsArg s type.PtrMem (memory_arg m.tree)
  pub table : IsSome (slice_get (table_space m.tree) 0) → IsArg s type.PtrTab (table_arg m.tree)
  pub memory_pointer : is_some (slice_get (memory_imports m.tree) 0) ≡ true
      → named (pointer_name memory_name) (variables s) ≡ Some type.PtrMem
  pub table_pointer : is_some (slice_get (table_imports m.tree) 0) ≡ true → named (pointer_name table_name) (variables s) ≡ Some type.PtrTab
  pub made_memory : 0 < length m.tree.memories → IsArg s type.PtrMem (tree.Address memory_name)
  pub made_table : 0 < length m.tree.tables → IsArg s type.PtrTab (tree.Address table_name)
  pub accessors : (i : Import) → is_among (import_symbol i) (map import_symbol m.tree.imports) ≡ true → is_usable m i ≡ true
      → named (import_symbol i) (functions s) ≡ Some (import_type m.tree i)
  pub callees : (k : ℕ) (ty : FuncType) (name : Name) → at_index (map (type_in m.tree) (func_space m.tree)) k ≡ Some ty
      → callee m k ≡ Some name → named name (functions s) ≡ Some (c_func_type ty)
  pub elements : (k : ℕ) → is_none (slice_get (func_space m.tree) k) ≡ false → IsArg s type.FnPtr (tree.OfFunction (function_name m.tree k))
  pub runtime : (q : Name) → is_runtime_name q ≡ true → named q (functions s) ≡ named q primitives
  pub size : tests_limits m.tree || tests_bounds m.tree ≡ true → named size_name (variables s) ≡ Some type.U64
  pub byte : list_any has_bytes m.tree.segments ≡ true → named byte_name (variables s) ≡ Some type.U64
  pub arrays_are : (j : ℕ) (d : SegmentEntry) → slice_get m.tree.segments j ≡ Some d → (b : ℕ) (bytes : List ℕ) → d.bytes ≡ b ∷ bytes
      → is_among (data_name j) (arrays s) ≡ true
  pub returns : is_void s.func.result ≡ true

-- a statement that passes the rules in its scope, and whose numbers fit
abbrev pub IsGood : Scope → tree.Stmt → Type 0
IsGood s stmt = Passes s stmt × FitsStmt depth_limit stmt

-- an import of the module
record ImportIs (m : Module) (i : Import) : Type 0 where
  there : is_among (import_symbol i) (map import_symbol m.imports) ≡ true
  tested : has_test i ≡ true → tests_limits m ≡ true
  memory : is_memory_import i ≡ true → is_some (slice_get (memory_imports m) 0) ≡ true
  table : is_table_import i ≡ true → is_some (slice_get (table_imports m) 0) ≡ true
  tables : AllByRecursion AreLimits (table_of_import i)
  memories : AllByRecursion AreLimits (memory_of_import i)

-- a global of the module, with its number
pub record GlobalIs (m : Module) (g : ℕ × GlobalEntry) : Type 0 where
  pub fits : ShapeFits g.1.ty (shape_of (imported_global_space m) g.1.code)
  pub there : slice_get m.globals g.0 ≡ Some g.1

kept_first : {A : Type 0} (test : A → Bool) (xs : List A) (i : ℕ) (x : A) → slice_get xs i ≡ Some x → test x ≡ true
    → is_some (slice_get (filter test xs) 0) ≡ true
kept_first test xs i x at e = let c = contains_kept test xs i x at e in some_first (filter test xs) (omega (arith, c.1))

module _ (m : NamedModule) (a : IsAccepted m) (s : Scope) (k : InitKnows m s) where
  abbrev t : Module
  t = m.tree

  abbrev Good : tree.Stmt → Type 0
  Good stmt = IsGood s stmt

  -- ---- constants

  global_value_typed : (index : ℕ) (g : ValType × Bool) → slice_get (global_space t) index ≡ Some g
      → IsTyped s (global_value t index) (HasType (c_type_of g.0))
  global_value_typed index g e = by (is_some (slice_get (global_imports t) index)) refl
    where
      by : (i : Bool) → is_some (slice_get (global_imports t) index) ≡ i
          → IsTyped s (if i then tree.Star (pointer_name (global_name index)) else tree.Name (global_name index)) (HasType (c_type_of g.0))
      by true i =
          star_typed s (pointer_name (global_name index)) (pointer_type g.0) (c_type_of g.0) (k.pointed index g e i) (pointer_points g.0)
      by false i = name_typed s (global_name index) (c_type_of g.0) (k.own_globals index g e i) (no_object g.0)

  got_typed : (globals : List (ValType × Bool)) (ty : ValType) (index : ℕ) → ShapeFits ty (shape_of_global (slice_get globals index))
      → ((g : ValType × Bool) → slice_get globals index ≡ Some g → slice_get (global_space t) index ≡ Some g)
      → IsTyped s (global_value t index) (HasType (c_type_of ty))
  got_typed globals ty index fits there = by (slice_get globals index) refl fits
    where
      by : (o : Option (ValType × Bool)) → slice_get globals index ≡ o → ShapeFits ty (shape_of_global o)
          → IsTyped s (global_value t index) (HasType (c_type_of ty))
      by None e h = absurd h
      by (Some g) e h = subst (λ u. IsTyped s (global_value t index) (HasType (c_type_of u))) h.0 (global_value_typed index g (there g e))

  constant_typed : (globals : List (ValType × Bool)) (ty : ValType) (code : Code) → ShapeFits ty (shape_of globals code)
      → ((index : ℕ) (g : ValType × Bool) → slice_get globals index ≡ Some g → slice_get (global_space t) index ≡ Some g)
      → IsTyped s (constant_expr t code) (HasType (c_type_of ty))
  constant_typed globals ty (then_code place (I32Const z) end_code) fits there =
      subst (λ u. IsTyped s (constant_expr t (then_code place (I32Const z) end_code)) (HasType (c_type_of u))) fits (n32_typed s _)
  constant_typed globals ty (then_code place (I64Const z) end_code) fits there =
      subst (λ u. IsTyped s (constant_expr t (then_code place (I64Const z) end_code)) (HasType (c_type_of u))) fits (n64_typed s _)
  constant_typed globals ty (then_code place (GlobalGet index) end_code) fits there = got_typed globals ty index fits (there index)
  constant_typed globals ty _ fits there = absurd fits

  pub place_typed : (offset : Code) (number : tree.Expr) → ShapeFits I32 (shape_of (global_space t) offset)
      → IsTyped s number (HasType type.U64) → IsTyped s (place_expr t offset number) (HasType type.U64)
  place_typed offset number fits n =
      op_typed s op.Add (tree.To64 (constant_expr t offset)) number type.U64 refl refl
      (wide_typed s (constant_expr t offset) type.U32 refl (constant_typed (global_space t) I32 offset fits (λ index g e. e))) n

  -- ---- limits of imports

  measured : (object : Name) (p : CType) (len_of : List ℕ) → named (pointer_name object) (variables s) ≡ Some p → is_object_type p ≡ false
      → named len_of (functions s) ≡ Some (record { params = p ∷ []; result = type.U64 }) → proper_types (p ∷ []) ≡ p ∷ []
      → named size_name (variables s) ≡ Some type.U64
      → Good (primitive (Some size_name) len_of (tree.Value (tree.Name (pointer_name object)) ∷ []))
  measured object p len_of found o len proper size = (
    call_passes_as s (Some size_name) len_of (tree.Value (tree.Name (pointer_name object)) ∷ [])
        (record { params = p ∷ []; result = type.U64 }) (p ∷ []) len proper
        (value_arg s _ p (name_typed s (pointer_name object) p found o), tt) (size, refl, refl),
    (tt, (tt, tt)),
  )

  limits_good : (object : Name) (p : CType) (len_of max_of : List ℕ) (unit : ℕ) (l : Limits) → unit < 2 ^ 64 → AreLimits l
      → named (pointer_name object) (variables s) ≡ Some p → is_object_type p ≡ false
      → named len_of (functions s) ≡ Some (record { params = p ∷ []; result = type.U64 })
      → named max_of (functions s) ≡ Some (record { params = p ∷ []; result = type.U64 }) → proper_types (p ∷ []) ≡ p ∷ []
      → (asks_something l ≡ true → (named size_name (variables s) ≡ Some type.U64) ×
      (is_among (label_name limits_label) (labels_of s.body.stmts) ≡ true))
      → AllByRecursion Good (test_limits object len_of max_of unit l)
  limits_good object p len_of max_of unit l small fits found o len most proper asks =
      all_append Good (test_min object len_of unit l.min) (test_max object max_of l.max) (least l.min fits.0 (λ e. asks (or_left _ _ e)))
      (top l.max fits.1 (λ e. asks (or_right (nat_lt 0 l.min) _ e)))
    where
      least : (n : ℕ) → n < 2 ^ 32 → (nat_lt 0 n ≡ true → (named size_name (variables s) ≡ Some type.U64) ×
          (is_among (label_name limits_label) (labels_of s.body.stmts) ≡ true))
          → AllByRecursion Good (test_min object len_of unit n)
      least zero low h = tt
      least (suc n) low h =
          let known = h (grind arith) in (
            measured object p len_of found o len proper known.0,
            (
              (
                if_passes s op.Lt _ _ (label_name limits_label) type.U64 refl refl
                    (op_typed s op.Div _ _ type.U64 refl refl (name_typed s size_name type.U64 known.0 refl) (n64_typed s unit))
                    (n64_typed s (suc n)) known.1,
                ((tt, small), wider (suc n) low),
              ),
              tt,
            ),
          )

      top : (o : Option ℕ) → IsMaximum o → (is_some o ≡ true → (named size_name (variables s) ≡ Some type.U64) ×
          (is_among (label_name limits_label) (labels_of s.body.stmts) ≡ true))
          → AllByRecursion Good (test_max object max_of o)
      top None high h = tt
      top (Some n) high h =
          let known = h refl in (
            measured object p max_of found o most proper known.0,
            (
              (
                if_passes s op.Gt _ _ (label_name limits_label) type.U64 refl refl (name_typed s size_name type.U64 known.0 refl)
                    (n64_typed s n) known.1,
                (tt, maximum_fits m a (Some n) high),
              ),
              tt,
            ),
          )

  -- ---- imports

  pointer_good : (i : Import) (object : Name) (p : CType) → is_among (import_symbol i) (map import_symbol t.imports) ≡ true
      → import_type t i ≡ accessor_type p
      → named (pointer_name object) (variables s) ≡ Some p → is_object_type p ≡ false → is_void p ≡ false → Good (set_pointer m i object)
  pointer_good i object p there typed found o v = by (is_usable m i) refl
    where
      by : (b : Bool) → is_usable m i ≡ b → Good
          (if b then tree.Call (Some (pointer_name object)) (tree.Called (import_symbol i)) [] else tree.Null)
      by true u = (
        call_passes s (Some (pointer_name object)) (import_symbol i) [] (accessor_type p) (k.accessors i there u ∙ ap Some typed) tt
            (found, o, v),
        (tt, tt),
      )
      by false u = (null_passes s, tt)

  global_pointer_good : (i : Import) (number : ℕ) → is_among (import_symbol i) (map import_symbol t.imports) ≡ true
      → slice_get (global_imports t) number ≡ Some i → Good (set_pointer m i (global_name number))
  global_pointer_good i number there at =
      let found = imported_global t.imports number i at in
      let plain = pointer_is found.1 in
      pointer_good i (global_name number) (pointer_type found.1) there (accessor_is t i found.1 found.0 found.3)
      (k.pointed number (found.1, found.0) (get_front (imported_global_space t) _ number (found.1, found.0) found.2) (ap is_some at))
      plain.2 plain.1

  abbrev of_kind : Import → ImportKind → Import
  of_kind i kind = record i { kind = kind }

  -- the label of failed tests of limits
  abbrev LimitsLabel : Type 0
  LimitsLabel = tests_limits t ≡ true → is_among (label_name limits_label) (labels_of s.body.stmts) ≡ true

  abbrev takes : ℕ → List Import → List tree.Stmt
  takes number imports = takes_from m number (filter (λ i. not (is_func_import i)) imports)

  takes_good : (imports : List Import) (number : ℕ) → LimitsLabel → AllByRecursion (ImportIs t) imports
      → ((j : ℕ) (i : Import) → slice_get (filter is_global_import imports) j ≡ Some i → slice_get (global_imports t) (number + j) ≡ Some i)
      → AllByRecursion Good (takes number imports)
  takes_good [] number label are globals = tt
  takes_good (i ∷ imports) number label are globals = by i.kind are.0 globals (λ n h. takes_good imports n label are.1 h)
    where
      -- what a test needs
      needs : tests_limits t ≡ true → (named size_name (variables s) ≡ Some type.U64) ×
          (is_among (label_name limits_label) (labels_of s.body.stmts) ≡ true)
      needs e = (k.size (or_left _ _ e), label e)

      by : (kind : ImportKind) → ImportIs t (of_kind i kind)
          → ((j : ℕ) (x : Import) → slice_get (filter is_global_import (of_kind i kind ∷ imports)) j ≡ Some x
          → slice_get (global_imports t) (number + j) ≡ Some x)
          → ((n : ℕ) → ((j : ℕ) (x : Import) → slice_get (filter is_global_import imports) j ≡ Some x
          → slice_get (global_imports t) (n + j) ≡ Some x) → AllByRecursion Good (takes n imports))
          → AllByRecursion Good (takes number (of_kind i kind ∷ imports))
      by (ImportFunc x) is glob rest = rest number glob
      by (ImportTable l) is glob rest =
          let found = k.table_pointer (is.table refl) in
          all_append Good (take_stmts m number (of_kind i (ImportTable l))) _ (
            pointer_good (of_kind i (ImportTable l)) table_name type.PtrTab is.there refl found refl refl,
            limits_good table_name type.PtrTab (codes "w2c_tab_len") (codes "w2c_tab_max") 1 l one_fits is.tables.0 found refl
                (k.runtime (codes "w2c_tab_len") refl) (k.runtime (codes "w2c_tab_max") refl) refl (λ e. needs (is.tested e)),
          )
          (rest number glob)
      by (ImportMemory l) is glob rest =
          let found = k.memory_pointer (is.memory refl) in
          all_append Good (take_stmts m number (of_kind i (ImportMemory l))) _ (
            pointer_good (of_kind i (ImportMemory l)) memory_name type.PtrMem is.there refl found refl refl,
            limits_good memory_name type.PtrMem (codes "w2c_mem_len") (codes "w2c_mem_max") 65536 l (omega arith) is.memories.0 found refl
                (k.runtime (codes "w2c_mem_len") refl) (k.runtime (codes "w2c_mem_max") refl) refl (λ e. needs (is.tested e)),
          )
          (rest number glob)
      by (ImportGlobal ty mutable) is glob rest =
          let zero_on : number + 0 ≡ number = omega arith in (
            global_pointer_good (of_kind i (ImportGlobal ty mutable)) number is.there
                (ap (slice_get (global_imports t)) (sym zero_on) ∙ glob 0 (of_kind i (ImportGlobal ty mutable)) refl),
            rest (suc number) (λ j x e. ap (slice_get (global_imports t)) (one_moves number j) ∙ glob (suc j) x e),
          )

  imports_are : AllByRecursion (ImportIs t) t.imports
  imports_are = all_from (ImportIs t) t.imports (λ i x at. record {
    there = any_at (bytes_eq (import_symbol x)) (map import_symbol t.imports) i (import_symbol x)
        (get_mapped import_symbol t.imports i x at) (bytes_equal (import_symbol x));
    tested = any_at has_test t.imports i x at;
    memory = kept_first is_memory_import t.imports i x at;
    table = kept_first is_table_import t.imports i x at;
    tables = all_at (λ i. AllByRecursion AreLimits (table_of_import i)) t.imports i x
        (all_unflat AreLimits table_of_import t.imports (all_front AreLimits (flat_map table_of_import t.imports) _
        (tables_limits m a))) at;
    memories = all_at (λ i. AllByRecursion AreLimits (memory_of_import i)) t.imports i x
        (all_unflat AreLimits memory_of_import t.imports
        (all_front AreLimits (flat_map memory_of_import t.imports) _ (memories_limits m a))) at;
  })

  pub imports_good : LimitsLabel → AllByRecursion Good (takes 0 t.imports)
  imports_good label = takes_good t.imports 0 label imports_are (λ j i e. ap (slice_get (global_imports t)) (zero-add j) ∙ e)

  -- ---- what the module defines

  made_good : (object : Name) (p : CType) (new_of : List ℕ) (xs : List LimitsEntry) → (0 < length xs → IsArg s p (tree.Address object))
      → named new_of (functions s) ≡ Some (record { params = p ∷ type.U32 ∷ type.U64 ∷ []; result = type.Void })
      → proper_types (p ∷ type.U32 ∷ type.U64 ∷ []) ≡ p ∷ type.U32 ∷ type.U64 ∷ []
      → AllByRecursion AreLimits (map (λ (x : LimitsEntry). x.limits) xs)
      → AllByRecursion Good (map (λ x. primitive None new_of
      (tree.Address object ∷ tree.Value (n32 x.limits.min) ∷ tree.Value (n64 (max_number x.limits.max)) ∷ [])) xs)
  made_good object p new_of xs made known proper limits = all_map Good _ xs (all_from _ xs (λ i x at.
      let l = all_at (λ (x : LimitsEntry). AreLimits x.limits) xs i x (all_unmapped AreLimits (λ
      (x : LimitsEntry). x.limits) xs limits) at in
      let less = slice_get_within xs i x at in (
        call_passes_as s None new_of (tree.Address object ∷ tree.Value (n32 x.limits.min) ∷ tree.Value (n64 (max_number x.limits.max)) ∷ [])
            _ (p ∷ type.U32 ∷ type.U64 ∷ []) known proper (
              made (omega (arith, less)),
              (value_arg s _ type.U32 (n32_typed s x.limits.min), (value_arg s _ type.U64 (n64_typed s (max_number x.limits.max)), tt)),
            ) tt,
        (tt, (tt, (l.0, (maximum_fits m a x.limits.max l.1, tt)))),
      )))

  pub tables_good : AllByRecursion Good (map (λ x. make_table x.limits) t.tables)
  tables_good = made_good table_name type.PtrTab (codes "w2c_tab_new") t.tables k.made_table (k.runtime (codes "w2c_tab_new") refl) refl
      (all_behind AreLimits (flat_map table_of_import t.imports) _ (tables_limits m a))

  pub memories_good : AllByRecursion Good (map (λ x. make_memory x.limits) t.memories)
  memories_good = made_good memory_name type.PtrMem (codes "w2c_mem_new") t.memories k.made_memory (k.runtime (codes "w2c_mem_new")
      refl) refl
      (all_behind AreLimits (flat_map memory_of_import t.imports) _ (memories_limits m a))

  pub global_good : (g : ℕ × GlobalEntry) → GlobalIs t g → Good (make_global t g)
  global_good g is =
      let counted = global_count t.imports in
      let same : imported_globals t + g.0 ≡ length (imported_global_space t) + g.0 = omega (arith, counted) in
      let at = ap (slice_get (global_space t)) same ∙ (get_behind (imported_global_space t) _ g.0
      ∙ get_mapped (λ (g : GlobalEntry). (g.ty, g.mutable)) t.globals g.0 g.1 is.there) in (
        set_passes s (global_name (imported_globals t + g.0)) (tree.Value (constant_expr t g.1.code)) (c_type_of g.1.ty)
            (k.own_globals (imported_globals t + g.0) (g.1.ty, g.1.mutable) at
            (ap is_some (slice_get_past (global_imports t) (imported_globals t + g.0) (omega arith)))) (no_object g.1.ty)
            (value_arg s _ (c_type_of g.1.ty) (constant_typed (imported_global_space t) g.1.ty g.1.code is.fits
            (λ index x e. get_front (imported_global_space t) _ index x e))),
        constant_fits m a 99 g.1.code,
      )
