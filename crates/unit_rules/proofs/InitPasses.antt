-- The statements of the init function, and of its parts, keep the rules in their unit, and their numbers fit: what they name is declared
-- before them, or is a local variable where it is used.
use Rattle.unit_rules.proofs.Common.{◌≡◌, ℕ, zero, suc, ◌+◌, ◌<◌, ◌≤◌, Bool, true, false, not, ◌||◌, List, [], ◌∷◌, ◌++◌, map, length, Some}
use Rattle.unit_rules.proofs.Common.{is_some, is_none, if◌then◌else◌, slice_get, None, codes, filter, Option, flat_map, bytes_eq, refl, ap}
use Rattle.unit_rules.proofs.Common.{◌∙◌, subst, arith, slice_get_within, AllByRecursion, list_any, range_with_len, all_behind, all_front}
use Rattle.unit_rules.proofs.Common.{all_weaker, get_mapped, all_append, all_at, all_flat, all_from, all_map, named, numbered, func_space}
use Rattle.unit_rules.proofs.Common.{imported_global_space, is_func_import, NamedModule, ElementEntry, FuncRef, GlobalEntry, Import, Module}
use Rattle.unit_rules.proofs.Common.{LimitsEntry, shape_of, func_name, global_name, memory_name, table_name, label_name, pointer_name, Name}
use Rattle.unit_rules.proofs.Common.{labels_of, primitives, Scope, is_among, variables, CType, bytes_equal, function_name, func_imports}
use Rattle.unit_rules.proofs.Common.{import_symbol, is_usable, memory_imports, table_imports, past_none, named_in, IsArg, address_arg, Part}
use Rattle.unit_rules.proofs.Common.{call_passes_as, function_arg, name_typed, null_passes, return_none_passes, value_arg, Present, vars_in}
use Rattle.unit_rules.proofs.Common.{first_present, left_present, right_present, funcs_in, bounds_label, byte_name, has_bytes, init_stmts}
use Rattle.unit_rules.proofs.Common.{limits_label, local_if, make_global, make_memory, make_table, size_name, start_stmts, takes_from, Kind}
use Rattle.unit_rules.proofs.Common.{test_data, test_elements, tests_bounds, tests_limits, trap_if, write_data, write_element, IsAccepted}
use Rattle.unit_rules.proofs.Common.{write_elements, some_is, numbered_at, get_within, part_name, begun, call_part, calling_stmts, ended}
use Rattle.unit_rules.proofs.Common.{elements_in, part_func, parts_of, stmts_with, whole_stmts, ShapeFits, DataIsValid, ElementIsValid}
use Rattle.unit_rules.proofs.Common.{IsInstantiable, rows_of, used_by_elements, used_by_segments, parts_are, accepted_limits, in_vars, mems}
use Rattle.unit_rules.proofs.Common.{no_var, past_vars, own_global, imported_global_is, own_memory_is, own_table_is, imported_memory_is}
use Rattle.unit_rules.proofs.Common.{imported_table_is, exports, functions_of, objects, parts, tabs, tabs_class}
use Rattle.w2c_base.specs.declared.trap.TrapKind.TheVariants as trap
use Rattle.c_tree.specs.declared.tree.CType.TheVariants as type
use Rattle.c_tree.specs.Makers as makers
use Rattle.c_tree.specs.Scope as scope
use Rattle.c_tree.specs.Tree as tree
use Rattle.unit_definition.proofs.Instantiable.{modules_are_instantiable}
use Rattle.unit_rules.proofs.Clashes.{IsFound, all_found}
use Rattle.unit_rules.proofs.EachItem.{each_numbered}
use Rattle.unit_rules.proofs.ExportFacts.{func_typed}
use Rattle.unit_rules.proofs.InitForms.{GlobalIs, InitKnows, IsGood, global_good, imports_good, memories_good, tables_good}
use Rattle.unit_rules.proofs.InitSection.{own_scope}
use Rattle.unit_rules.proofs.InitSegments.{ElementIs, SegmentAt, SegmentIs, WriteIs, data_good, data_tests_good, element_good}
use Rattle.unit_rules.proofs.InitSegments.{element_tests_good, start_good, trap_good}
use Rattle.unit_rules.proofs.KnownFuncs.{any_at, kept_among}
use Rattle.unit_rules.proofs.NeedsDeclared.{array_known, callee_known, import_known, object_known, symbol_known}
use Rattle.unit_rules.proofs.RuntimeNames.{not_named}
use Rattle.unit_rules.proofs.WholeUnit.{IsDeclared, known, later}

-- ---- local variables

abbrev locals_of : Bool → Bool → List (Name × CType)
locals_of b c = map (λ (l : tree.Local). (l.1, l.0)) (local_if b size_name ++ local_if c byte_name)

size_named : (b c : Bool) (rest : List (Name × CType)) → b ≡ true → named size_name (locals_of b c ++ rest) ≡ Some type.U64
size_named true c rest e = refl
size_named false c rest e = absurd cc

byte_named : (b c : Bool) (rest : List (Name × CType)) → c ≡ true → named byte_name (locals_of b c ++ rest) ≡ Some type.U64
byte_named true true rest e = refl
byte_named false true rest e = refl
byte_named b false rest e = absurd cc

past_locals : (b c : Bool) (q : Name) (rest : List (Name × CType)) → bytes_eq size_name q ≡ false → bytes_eq byte_name q ≡ false
    → named q (locals_of b c ++ rest) ≡ named q rest
past_locals true true q rest e f = rw (e, f) refl
past_locals true false q rest e f = rw e refl
past_locals false true q rest e f = rw f refl
past_locals false false q rest e f = refl

first_var : (ty : CType) (name : Name) (xs : List LimitsEntry) → 0 < length xs
    → named name (vars_in (map (λ (x : LimitsEntry). tree.Var ty name None) xs)) ≡ Some ty
first_var ty name [] some = absurd (omega (arith, some))
first_var ty name (x ∷ xs) some = rw (bytes_equal name) refl

-- ---- the scope of a function that has the init function's variables, behind what a unit declares

module _ (m : NamedModule) (a : IsAccepted m) (declared : List tree.Item) (d : IsDeclared m declared) (static : Bool) (own_name : Name)
    (stmts : List tree.Stmt) where
  abbrev t : Module
  t = m.tree

  abbrev s : Scope
  s = own_scope declared static own_name t stmts

  in_scope : (q : Name) (ty : CType) → bytes_eq size_name q ≡ false → bytes_eq byte_name q ≡ false → named q (vars_in (objects m)) ≡ Some ty
      → named q (variables s) ≡ Some ty
  in_scope q ty e f found =
      past_locals (tests_limits t || tests_bounds t) (list_any has_bytes t.segments) q
      (vars_in declared ++ (codes "w2c_depth", type.U32) ∷ []) e f
      ∙ named_in q (vars_in declared) ((codes "w2c_depth", type.U32) ∷ []) ty (object_known m a declared d q ty found)

  object_arg : (object : Name) (u p : CType) → scope.pointer_to u ≡ Some p → bytes_eq size_name object ≡ false
      → bytes_eq byte_name object ≡ false → named object (vars_in (objects m)) ≡ Some u → IsArg s p (tree.Address object)
  object_arg object u p to e f found =
      address_arg s object u p (ap is_some (in_scope object u e f found)) (object_known m a declared d object u found) to

  either_arg : (object : Name) (u p : CType) (imported : Bool) → scope.pointer_to u ≡ Some p → scope.is_object_type p ≡ false
      → bytes_eq size_name object ≡ false → bytes_eq byte_name object ≡ false
      → (imported ≡ false → named object (vars_in (objects m)) ≡ Some u)
      → (imported ≡ true → named (pointer_name object) (vars_in (objects m)) ≡ Some p)
      → IsArg s p (if imported then tree.Value (tree.Name (pointer_name object)) else tree.Address object)
  either_arg object u p true to plain e f own imported = value_arg s _ p
      (name_typed s (pointer_name object) p (in_scope (pointer_name object) p refl refl (imported refl)) plain)
  either_arg object u p false to plain e f own imported = object_arg object u p to e f (own refl)

  -- a function of an element segment has a name, whether it may be called or not
  element_known : (index : ℕ) → is_none (slice_get (func_space t) index) ≡ false
      → is_some (named (function_name t index) (funcs_in declared)) ≡ true
  element_known index out = by (slice_get (func_imports t) index) refl
    where
      by : (o : Option Import) → slice_get (func_imports t) index ≡ o
          → is_some (named (elim o [ None ↦ func_name index | Some i ↦ import_symbol i ]) (funcs_in declared)) ≡ true
      by None e =
          let typed = func_typed t a.valid.no_faults index out in
          ap is_some (callee_known m a declared d index typed.0 (func_name index) typed.2
          (ap (λ (o : Option Import). elim o [
            | None ↦ Some (func_name index)
            | Some i ↦ if is_usable m i then Some (import_symbol i) else None
          ]) e))
      by (Some i) e = ap is_some
          (symbol_known m a declared d (import_symbol i) (kept_among import_symbol is_func_import t.imports index i e).0)

  pub knows : InitKnows m s
  knows = record {
    own_globals = λ k g e i. in_scope (global_name k) _ refl refl (own_global m a k g e i);
    pointed = λ k g e i. in_scope (pointer_name (global_name k)) _ refl refl (imported_global_is m a k g e i);
    memory = λ has. either_arg memory_name type.Mem type.PtrMem (is_some (slice_get (memory_imports t) 0)) refl refl refl refl
        (own_memory_is m a has) (imported_memory_is m a);
    table = λ has. either_arg table_name type.Tab type.PtrTab (is_some (slice_get (table_imports t) 0)) refl refl refl refl
        (own_table_is m a has) (imported_table_is m a);
    memory_pointer = λ i. in_scope (pointer_name memory_name) _ refl refl (imported_memory_is m a i);
    table_pointer = λ i. in_scope (pointer_name table_name) _ refl refl (imported_table_is m a i);
    made_memory = λ some. object_arg memory_name type.Mem type.PtrMem refl refl refl
        (past_vars memory_name (tabs m) _ (no_var memory_name 1 _ (tabs_class m a) (λ f. absurd (grind (arith, f))))
        ∙ in_vars memory_name (mems m) _ type.Mem (first_var type.Mem memory_name t.memories some));
    made_table = λ some. object_arg table_name type.Tab type.PtrTab refl refl refl
        (in_vars table_name (tabs m) _ type.Tab (first_var type.Tab table_name t.tables some));
    accessors = λ i there usable. named_in (import_symbol i) (funcs_in declared) primitives _ (import_known m a declared d i there usable);
    callees = λ k ty name e f. named_in name (funcs_in declared) primitives _ (callee_known m a declared d k ty name e f);
    elements = λ k out.
        let found = some_is (named (function_name t k) (funcs_in declared)) (element_known k out) in
        function_arg s (function_name t k) (ap is_some (named_in (function_name t k) (funcs_in declared) primitives found.0 found.1))
        (element_known k out);
    runtime = λ q r. past_none q (funcs_in declared) primitives (not_named q declared r d.no_runtime).0;
    size = λ e. size_named (tests_limits t || tests_bounds t) (list_any has_bytes t.segments) _ e;
    byte = λ e. byte_named (tests_limits t || tests_bounds t) (list_any has_bytes t.segments) _ e;
    arrays_are = array_known m a declared d;
    returns = refl;
  }

-- ---- what is known of entries

module _ (m : NamedModule) (a : IsAccepted m) where
  instantiable : IsInstantiable m.tree
  instantiable = modules_are_instantiable m.tree a.valid (accepted_limits a)

  globals_are : AllByRecursion (GlobalIs m.tree) (numbered m.tree.globals)
  globals_are = each_numbered (GlobalIs m.tree) m.tree.globals (λ j g at. record {
    fits = all_at (λ (e : GlobalEntry). ShapeFits e.ty (shape_of (imported_global_space m.tree) e.code)) m.tree.globals j g
        instantiable.globals at;
    there = at;
  })

  elements_are : AllByRecursion (ElementIs m.tree) m.tree.elements
  elements_are = all_from (ElementIs m.tree) m.tree.elements (λ i e at. record {
    valid = all_at (ElementIsValid m.tree) m.tree.elements i e instantiable.elements at;
    tested = used_by_elements m.tree m.tree.elements (omega (arith, slice_get_within m.tree.elements i e at));
  })

  writes_of : (e : ElementEntry) → ElementIsValid m.tree e → AllByRecursion (λ f. WriteIs m.tree (e, f)) (numbered e.funcs)
  writes_of e valid = each_numbered (λ f. WriteIs m.tree (e, f)) e.funcs (λ n f at.
      let less = slice_get_within e.funcs n f at in
      let few = valid.few in
      record {
        valid = valid;
        small = omega (arith, less, few);
        known = ap is_none (get_within (func_space m.tree) f.index
            (all_at (λ (f : FuncRef). f.index < length (func_space m.tree)) e.funcs n f valid.funcs at)).1;
      })

  segments_are : AllByRecursion (SegmentIs m.tree) m.tree.segments
  segments_are = all_from (SegmentIs m.tree) m.tree.segments (λ i d at. record {
    valid = all_at (DataIsValid m.tree) m.tree.segments i d instantiable.segments at;
    listed = any_at has_bytes m.tree.segments i d at;
    tested = used_by_segments m.tree m.tree.segments (omega (arith, slice_get_within m.tree.segments i d at));
  })

  segments_at : AllByRecursion (SegmentAt m.tree) (numbered m.tree.segments)
  segments_at = each_numbered (SegmentAt m.tree) m.tree.segments (λ j d at. record {
    is = all_at (SegmentIs m.tree) m.tree.segments j d segments_are at;
    at = at;
  })

  abbrev pub KindOf : Part → Type 0
  KindOf x = Kind m.tree (GlobalIs m.tree) (ElementIs m.tree) (SegmentIs m.tree) (WriteIs m.tree) x

  pub all_kinds : AllByRecursion KindOf (parts_of m.tree)
  all_kinds = parts_are m.tree (GlobalIs m.tree) (ElementIs m.tree) (SegmentIs m.tree)
      (WriteIs m.tree) globals_are elements_are segments_are
      (all_flat (WriteIs m.tree) elements_in m.tree.elements (all_weaker (ElementIsValid m.tree) _ m.tree.elements
      (λ e valid. all_map (WriteIs m.tree) (λ f. (e, f)) (numbered e.funcs) (writes_of e valid)) instantiable.elements))

-- ---- all statements of an init function without parts, and of one that calls parts

-- what stands behind some statements of a body is in it, too
abbrev in_front : List (List tree.Stmt) → List tree.Stmt → List tree.Stmt
in_front [] rest = rest
in_front (stmts ∷ fronts) rest = stmts ++ in_front fronts rest

pub behind_present : (body : List tree.Stmt) (fronts : List (List tree.Stmt)) (rest : List tree.Stmt)
    → Present body (in_front fronts rest) → Present body rest
behind_present body [] rest p = p
behind_present body (stmts ∷ fronts) rest p = behind_present body fronts rest (right_present body stmts (in_front fronts rest) p)

-- where a trap stands its label is there
pub trap_present : (stmts : List tree.Stmt) (b : Bool) (n : ℕ) (trap : tree.Stmt) → b ≡ true → Present stmts (trap_if b n trap)
    → is_among (label_name n) (labels_of stmts) ≡ true
trap_present stmts true n trap e p = first_present stmts (label_name n) (trap ∷ []) p
trap_present stmts false n trap e p = absurd cc

module _ (m : NamedModule) (a : IsAccepted m) (declared : List tree.Item) (d : IsDeclared m declared) (static : Bool)
    (own_name : Name) where
  abbrev t' : Module
  t' = m.tree

  abbrev Good : List tree.Stmt → tree.Stmt → Type 0
  Good stmts stmt = IsGood (own_scope declared static own_name t' stmts) stmt

  known_in : (stmts : List tree.Stmt) → InitKnows m (own_scope declared static own_name t' stmts)
  known_in stmts = knows m a declared d static own_name stmts

  abbrev own_takes : List tree.Stmt
  own_takes = takes_from m 0 (filter (λ i. not (is_func_import i)) t'.imports)

  abbrev limits_trap : List tree.Stmt
  limits_trap = trap_if (tests_limits t') limits_label (makers.trap trap.ImportLimits)

  abbrev bounds_trap : Bool → List tree.Stmt
  bounds_trap bounds = trap_if bounds bounds_label (makers.trap trap.SegmentOut)

  -- what stands behind the beginning, and the traps at the end
  begun_present : (stmts rest : List tree.Stmt) → Present stmts (begun m rest) → Present stmts rest
  begun_present stmts = behind_present stmts ((tree.Null ∷ []) ∷ own_takes ∷ map (λ x. make_table x.limits) t'.tables
      ∷ map (λ x. make_memory x.limits) t'.memories ∷ [])

  traps_present : (stmts : List tree.Stmt) (bounds : Bool) → Present stmts (ended m bounds)
      → Present stmts (limits_trap ++ bounds_trap bounds)
  traps_present stmts bounds =
      behind_present stmts (start_stmts m t'.start ∷ (tree.ReturnNone ∷ []) ∷ []) (limits_trap ++ bounds_trap bounds)

  -- the beginning, before others
  begun_good : (stmts rest : List tree.Stmt) (bounds : Bool) → Present stmts (ended m bounds) → AllByRecursion (Good stmts) rest
      → AllByRecursion (Good stmts) (begun m rest)
  begun_good stmts rest bounds p others =
      let s : Scope = own_scope declared static own_name t' stmts in
      let k : InitKnows m s = known_in stmts in (
        (null_passes s, tt),
        all_append (Good stmts) own_takes _ (imports_good m a s k (λ e. trap_present stmts (tests_limits t') limits_label
            (makers.trap trap.ImportLimits) e (left_present stmts limits_trap (bounds_trap bounds) (traps_present stmts bounds p))))
            (all_append (Good stmts) (map (λ x. make_table x.limits) t'.tables) _ (tables_good m a s k)
            (all_append (Good stmts) (map (λ x. make_memory x.limits) t'.memories) rest (memories_good m a s k) others)),
      )

  -- the end
  ended_good : (stmts : List tree.Stmt) (bounds : Bool) → AllByRecursion (Good stmts) (ended m bounds)
  ended_good stmts bounds =
      let s : Scope = own_scope declared static own_name t' stmts in
      let k : InitKnows m s = known_in stmts in
      all_append (Good stmts) (start_stmts m t'.start) _
      (start_good m a s k a.valid.no_faults t'.start (rows_of t' a.valid.no_faults).start) (
        (return_none_passes s refl, tt),
        all_append (Good stmts) (trap_if (tests_limits t') limits_label (makers.trap trap.ImportLimits)) _
            (trap_good m a s k (tests_limits t') limits_label trap.ImportLimits)
            (trap_good m a s k bounds bounds_label trap.SegmentOut),
      )

  -- without parts
  whole_good : AllByRecursion (Good (whole_stmts m)) (whole_stmts m)
  whole_good =
      let whole : List tree.Stmt = whole_stmts m in
      let s : Scope = own_scope declared static own_name t' whole in
      let k : InitKnows m s = known_in whole in
      let bytes : List tree.Stmt = flat_map (write_data t') (numbered t'.segments) in
      let end : List tree.Stmt = ended m (tests_bounds t') in
      let fronts : List (List tree.Stmt) = map (make_global t') (numbered t'.globals) ∷ flat_map (test_elements t') t'.elements
      ∷ flat_map (test_data t') t'.segments ∷ flat_map (write_elements t') t'.elements ∷ [] in
      let data_there : Present whole (bytes ++ end) =
      behind_present whole fronts (bytes ++ end) (begun_present whole (in_front fronts (bytes ++ end)) (λ name e. e)) in
      let end_there : Present whole end = right_present whole bytes end data_there in
      let label : tests_bounds t' ≡ true → is_among (label_name bounds_label) (labels_of whole) ≡ true =
      λ e. trap_present whole (tests_bounds t') bounds_label (makers.trap trap.SegmentOut) e
      (right_present whole limits_trap (bounds_trap (tests_bounds t')) (traps_present whole (tests_bounds t') end_there)) in
      begun_good whole _ (tests_bounds t') end_there
      (all_append (Good whole) (map (make_global t') (numbered t'.globals)) _
      (all_map (Good whole) (make_global t') (numbered t'.globals)
      (all_weaker (GlobalIs t') _ (numbered t'.globals) (global_good m a s k) (globals_are m a)))
      (all_append (Good whole) (flat_map (test_elements t') t'.elements) _
      (element_tests_good m a s k label t'.elements (elements_are m a))
      (all_append (Good whole) (flat_map (test_data t') t'.segments) _
      (data_tests_good m a s k label t'.segments (segments_are m a))
      (all_append (Good whole) (flat_map (write_elements t') t'.elements) _
      (all_flat (Good whole) (write_elements t') t'.elements (all_weaker (ElementIsValid t') _ t'.elements
      (λ e valid. all_map (Good whole) (λ (f : ℕ × FuncRef). write_element t' e.offset f.0 f.1.index) (numbered e.funcs)
      (all_weaker (λ f. WriteIs t' (e, f)) _ (numbered e.funcs) (λ f h. element_good m a s k (e, f) h) (writes_of m a e valid)))
      (instantiable m a).elements))
      (all_append (Good whole) bytes end
      (data_good m a s k (numbered t'.segments) (segments_at m a) (left_present whole bytes end data_there))
      (ended_good whole (tests_bounds t')))))))

  -- ---- with parts, which are declared

  abbrev pub PartsKnown : ℕ → Type 0
  PartsKnown parts = (k : ℕ) → k < parts → named (part_name k) (funcs_in declared) ≡ Some (record {
    params = type.Void ∷ [];
    result = type.Void;
  })

  calls_good : (stmts : List tree.Stmt) (parts k n : ℕ) → PartsKnown parts → k + n ≤ parts
      → AllByRecursion (Good stmts) (map call_part (range_with_len k n))
  calls_good stmts parts k zero there le = tt
  calls_good stmts parts k (suc n) there le = (
    (
      call_passes_as (own_scope declared static own_name t' stmts) None (part_name k) [] _ []
          (named_in (part_name k) (funcs_in declared) primitives _ (there k (omega (arith, le)))) refl tt tt,
      (tt, tt),
    ),
    calls_good stmts parts (k + 1) n there (omega (arith, le)),
  )

  calling_good : (parts : ℕ) → PartsKnown parts → AllByRecursion (Good (calling_stmts m parts)) (calling_stmts m parts)
  calling_good parts there =
      let stmts : List tree.Stmt = calling_stmts m parts in
      let calls : List tree.Stmt = map call_part (range_with_len 0 parts) in
      let end : List tree.Stmt = ended m false in
      begun_good stmts (calls ++ end) false (right_present stmts calls end (begun_present stmts (calls ++ end) (λ name e. e)))
      (all_append (Good stmts) calls end (calls_good stmts parts 0 parts there (omega arith)) (ended_good stmts false))

  stmts_good : (n : ℕ) → PartsKnown n → AllByRecursion (Good (stmts_with m n)) (stmts_with m n)
  stmts_good zero there = whole_good
  stmts_good (suc n) there = calling_good (suc n) there

  -- the parts are declared before the init function
  parts_known : (more : List tree.Item) → declared ≡ known m ++ (later m ++ more) → PartsKnown (length (parts_of t'))
  parts_known more e k less =
      let x = get_within (parts_of t') k less in
      let found = all_front (IsFound declared) (later m) more (all_behind (IsFound declared) (known m) (later m ++ more)
      (subst (AllByRecursion (IsFound declared)) e (all_found declared d.apart))) in
      all_at (IsFound declared) (parts m) k (tree.Function (part_func t' (k, x.0)))
      (all_behind (IsFound declared) (exports m) (parts m) (all_behind (IsFound declared) (functions_of m) _ found))
      (get_mapped (λ p. tree.Function (part_func t' p)) (numbered (parts_of t')) k (k, x.0) (numbered_at (parts_of t') k x.0 x.1))

  pub init_good : (more : List tree.Item) → declared ≡ known m ++ (later m ++ more) → AllByRecursion (Good (init_stmts m)) (init_stmts m)
  init_good more e = stmts_good (length (parts_of t')) (parts_known more e)
