-- The statements of the init function keep the rules in a scope that knows what they name, and their numbers fit: those of segments,
-- the start call, and the traps.
use Rattle.unit_rules.proofs.Common.{◌≡◌, ℕ, suc, ◌^◌, ◌<◌, Bool, true, false, not, ◌&&◌, List, [], ◌∷◌, map, length, is_none, IsSome, ◌==◌}
use Rattle.unit_rules.proofs.Common.{slice_get, Some, None, codes, Option, flat_map, refl, subst, arith, or_right, AllByRecursion, list_any}
use Rattle.unit_rules.proofs.Common.{all_weaker, all_append, all_flat, at_index, named, code_of, FuncType, TrapKind, ValType, func_space}
use Rattle.unit_rules.proofs.Common.{func_type_in, global_space, memory_space, type_in, Code, NamedModule, ElementEntry, SegmentEntry, Name}
use Rattle.unit_rules.proofs.Common.{Start, Module, is_other_than_start, module_faults, shape_of, start_faults, label_name, labels_of, N32}
use Rattle.unit_rules.proofs.Common.{proper_types, HasType, Scope, arrays, functions, is_among, variables, FitsArg, FitsExpr, c_params_of}
use Rattle.unit_rules.proofs.Common.{CType, callee, function_name, memory_arg, table_arg, c_func_type, IsArg, IsTyped, call_passes, Present}
use Rattle.unit_rules.proofs.Common.{call_passes_as, element_typed, if_passes, label_passes, n32_typed, n64_typed, name_typed, null_passes}
use Rattle.unit_rules.proofs.Common.{op_typed, set_passes, value_arg, first_present, left_present, right_present, bounds_label, byte_name}
use Rattle.unit_rules.proofs.Common.{call_start, data_name, has_bytes, loop_label, n64, place_expr, signature, size_name, start_stmts, I32}
use Rattle.unit_rules.proofs.Common.{test_bounds, test_data, test_elements, tests_bounds, tests_limits, trap_if, write_data, IsAccepted}
use Rattle.unit_rules.proofs.Common.{memory_fits, table_fits, ShapeFits, Element, write_one, DataIsValid, ElementIsValid, no_left, no_right}
use Rattle.unit_rules.proofs.Common.{no_fault}
use Rattle.wasm_typing.specs.declared.fault.ValidCause.TheVariants as cause
use Rattle.c_tree.specs.declared.tree.CType.TheVariants as type
use Rattle.c_tree.specs.declared.tree.COp.TheVariants as op
use Rattle.c_tree.specs.Tree as tree
use Rattle.c_tree.specs.Makers as makers
use Rattle.unit_rules.proofs.ExportFacts.{func_typed}
use Rattle.unit_rules.proofs.InitForms.{InitKnows, IsGood, place_typed}
use Rattle.unit_rules.proofs.InitNumbers.{code_fits, one_fits, place_fits, signature_fits, wider, zero_fits}

-- ---- lists

params_none : (params : List ValType) (b : Bool) → not (length params == 0 && b) ≡ false → proper_types (c_params_of params) ≡ []
params_none [] b e = refl
params_none (x ∷ params) b e = absurd (grind (arith, e))

-- an element segment, a function in one with its number, and a data segment with its number, of a valid module
pub record ElementIs (m : Module) (e : ElementEntry) : Type 0 where
  pub valid : ElementIsValid m e
  pub tested : tests_bounds m ≡ true

pub record WriteIs (m : Module) (x : Element) : Type 0 where
  pub valid : ElementIsValid m x.0
  pub small : x.1.0 < 2 ^ 32
  pub known : is_none (slice_get (func_space m) x.1.1.index) ≡ false

pub record SegmentIs (m : Module) (d : SegmentEntry) : Type 0 where
  pub valid : DataIsValid m d
  pub listed : has_bytes d ≡ true → list_any has_bytes m.segments ≡ true
  pub tested : tests_bounds m ≡ true

pub record SegmentAt (m : Module) (d : ℕ × SegmentEntry) : Type 0 where
  pub is : SegmentIs m d.1
  pub at : slice_get m.segments d.0 ≡ Some d.1

module _ (m : NamedModule) (a : IsAccepted m) (s : Scope) (k : InitKnows m s) where
  abbrev t : Module
  t = m.tree

  abbrev Good : tree.Stmt → Type 0
  Good stmt = IsGood s stmt

  -- the label of failed tests of bounds
  abbrev pub BoundsLabel : Type 0
  BoundsLabel = tests_bounds t ≡ true → is_among (label_name bounds_label) (labels_of s.body.stmts) ≡ true

  bounds_good : (len_of : List ℕ) (p : CType) (object : tree.Arg) (end_of_segment : tree.Expr) → BoundsLabel → tests_bounds t ≡ true
      → named len_of (functions s) ≡ Some (record { params = p ∷ []; result = type.U64 }) → proper_types (p ∷ []) ≡ p ∷ []
      → IsArg s p object → FitsArg 99 object → IsTyped s end_of_segment (HasType type.U64) → FitsExpr 100 end_of_segment
      → AllByRecursion Good (test_bounds len_of object end_of_segment)
  bounds_good len_of p object end_of_segment label tested len proper arg fits typed end_fits = (
    (
      call_passes_as s (Some size_name) len_of (object ∷ []) (record { params = p ∷ []; result = type.U64 }) (p ∷ []) len proper (arg, tt)
          (k.size (or_right (tests_limits t) _ tested), refl, refl),
      (tt, (fits, tt)),
    ),
    (
      (
        if_passes s op.Gt end_of_segment (tree.Name size_name) (label_name bounds_label) type.U64 refl refl typed
            (name_typed s size_name type.U64 (k.size (or_right (tests_limits t) _ tested)) refl) (label tested),
        (end_fits, tt),
      ),
      tt,
    ),
  )

  pub element_tests_good : BoundsLabel → (xs : List ElementEntry) → AllByRecursion (ElementIs t) xs
      → AllByRecursion Good (flat_map (test_elements t) xs)
  element_tests_good label xs all = all_flat Good (test_elements t) xs
      (all_weaker (ElementIs t) (λ e. AllByRecursion Good (test_elements t e)) xs
      (λ e h.
      bounds_good (codes "w2c_tab_len") type.PtrTab (table_arg t) (place_expr t e.offset (n64 (length e.funcs))) label h.tested
      (k.runtime (codes "w2c_tab_len") refl) refl (k.table h.valid.there) (table_fits 98 t)
      (place_typed m a s k e.offset (n64 (length e.funcs)) h.valid.offset (n64_typed s (length e.funcs)))
      (place_fits m a 97 e.offset (n64 (length e.funcs)) (wider (length e.funcs) h.valid.few))) all)

  pub data_tests_good : BoundsLabel → (xs : List SegmentEntry) → AllByRecursion (SegmentIs t) xs
      → AllByRecursion Good (flat_map (test_data t) xs)
  data_tests_good label xs all = all_flat Good (test_data t) xs
      (all_weaker (SegmentIs t) (λ d. AllByRecursion Good (test_data t d)) xs
      (λ d h.
      bounds_good (codes "w2c_mem_len") type.PtrMem (memory_arg t) (place_expr t d.offset (n64 (length d.bytes))) label h.tested
      (k.runtime (codes "w2c_mem_len") refl) refl (k.memory h.valid.there) (memory_fits 98 t)
      (place_typed m a s k d.offset (n64 (length d.bytes)) h.valid.offset (n64_typed s (length d.bytes)))
      (place_fits m a 97 d.offset (n64 (length d.bytes)) (wider (length d.bytes) h.valid.few))) all)

  pub element_good : (x : Element) → WriteIs t x → Good (write_one t x)
  element_good x h = (
    call_passes s None (codes "w2c_tab_set") (table_arg t ∷ tree.Value (place_expr t x.0.offset (n64 x.1.0)) ∷ tree.OfFunction
        (function_name t x.1.1.index) ∷ tree.Value (n64 (signature (func_type_in t x.1.1.index))) ∷ []) _
        (k.runtime (codes "w2c_tab_set") refl) (
          k.table h.valid.there,
          (
            value_arg s _ type.U64 (place_typed m a s k x.0.offset (n64 x.1.0) h.valid.offset (n64_typed s x.1.0)),
            (k.elements x.1.1.index h.known, (value_arg s _ type.U64 (n64_typed s (signature (func_type_in t x.1.1.index))), tt)),
          ),
        ) tt,
    (tt, (table_fits 99 t, (place_fits m a 97 x.0.offset (n64 x.1.0) (wider x.1.0 h.small), (tt, (signature_fits m a x.1.1.index, tt))))),
  )

  -- the loop over a segment's bytes
  loop_good : (n : ℕ) (offset : Code) (count : ℕ) → ShapeFits I32 (shape_of (global_space t) offset)
      → IsSome (slice_get (memory_space t) 0) → count < 2 ^ 32 → named byte_name (variables s) ≡ Some type.U64
      → is_among (data_name n) (arrays s) ≡ true → is_among (label_name (loop_label n)) (labels_of s.body.stmts) ≡ true
      → AllByRecursion Good (tree.Set byte_name (tree.Value (n64 0))
      ∷ tree.Label (label_name (loop_label n))
      ∷ tree.Call None (tree.Called (codes "w2c_put1"))
      (memory_arg t ∷ tree.Value (place_expr t offset (tree.Name byte_name)) ∷ tree.Value
      (tree.To32 (tree.At (data_name n) (tree.Name byte_name))) ∷ [])
      ∷ tree.Set byte_name (tree.Value (tree.Op op.Add (tree.Name byte_name) (n64 1)))
      ∷ tree.If op.Lt (tree.Name byte_name) (n64 count) (label_name (loop_label n))
      ∷ [])
  loop_good n offset count fits has few known there label =
      let byte : IsTyped s (tree.Name byte_name) (HasType type.U64) = name_typed s byte_name type.U64 known refl in (
        (set_passes s byte_name (tree.Value (n64 0)) type.U64 known refl (value_arg s _ type.U64 (n64_typed s 0)), zero_fits),
        (
          (label_passes s (label_name (loop_label n)) refl, tt),
          (
            (
              call_passes s None (codes "w2c_put1") (memory_arg t ∷ tree.Value (place_expr t offset (tree.Name byte_name)) ∷ tree.Value
                  (tree.To32 (tree.At (data_name n) (tree.Name byte_name))) ∷ []) _ (k.runtime (codes "w2c_put1") refl) (
                    k.memory has,
                    (
                      value_arg s _ type.U64 (place_typed m a s k offset (tree.Name byte_name) fits byte),
                      (value_arg s _ type.U32 (element_typed s (data_name n) (tree.Name byte_name) type.U64 there refl byte), tt),
                    ),
                  ) tt,
              (tt, (memory_fits 99 t, (place_fits m a 97 offset (tree.Name byte_name) tt, (tt, tt)))),
            ),
            (
              (
                set_passes s byte_name (tree.Value (tree.Op op.Add (tree.Name byte_name) (n64 1))) type.U64 known refl
                    (value_arg s _ type.U64 (op_typed s op.Add (tree.Name byte_name) (n64 1) type.U64 refl refl byte (n64_typed s 1))),
                (tt, one_fits),
              ),
              (
                (
                  if_passes s op.Lt (tree.Name byte_name) (n64 count) (label_name (loop_label n)) type.U64 refl refl byte
                      (n64_typed s count) label,
                  (tt, wider count few),
                ),
                tt,
              ),
            ),
          ),
        ),
      )

  one_good : (d : ℕ × SegmentEntry) → SegmentAt t d → Present s.body.stmts (write_data t d) → AllByRecursion Good (write_data t d)
  one_good d h present = by d.1.bytes h.is (k.arrays_are d.0 d.1 h.at) present
    where
      by : (bytes : List ℕ) → SegmentIs t (record d.1 { bytes = bytes })
          → ((b : ℕ) (rest : List ℕ) → bytes ≡ b ∷ rest → is_among (data_name d.0) (arrays s) ≡ true)
          → Present s.body.stmts (write_data t (d.0, record d.1 { bytes = bytes }))
          → AllByRecursion Good (write_data t (d.0, record d.1 { bytes = bytes }))
      by [] h there present = tt
      by (b ∷ bytes) h there present = loop_good d.0 d.1.offset (suc (length bytes)) h.valid.offset h.valid.there h.valid.few
          (k.byte (h.listed refl)) (there b bytes refl) (first_present s.body.stmts (label_name (loop_label d.0)) [] present)

  pub data_good : (xs : List (ℕ × SegmentEntry)) → AllByRecursion (SegmentAt t) xs → Present s.body.stmts (flat_map (write_data t) xs)
      → AllByRecursion Good (flat_map (write_data t) xs)
  data_good [] all present = tt
  data_good (d ∷ xs) all present =
      all_append Good (write_data t d) (flat_map (write_data t) xs)
      (one_good d all.0 (left_present s.body.stmts (write_data t d) (flat_map (write_data t) xs) present))
      (data_good xs all.1 (right_present s.body.stmts (write_data t d) (flat_map (write_data t) xs) present))

  -- the start call, and the end
  pub start_good : module_faults t ≡ [] → (o : Option Start) → start_faults t o ≡ [] → AllByRecursion Good (start_stmts m o)
  start_good none_of None e = tt
  start_good none_of (Some start) e =
      let out = no_fault (is_none (slice_get (func_space t) start.index)) start.place cause.UnknownFunction (no_left _ _ e) in
      let typed = func_typed t none_of start.index out in
      let fits = no_fault (is_other_than_start (func_type_in t start.index)) start.place cause.StartType (no_right _ _ e) in
      (by (callee m start.index) refl typed.0 typed.2 (subst (λ o. is_other_than_start o ≡ false) typed.1 fits), tt)
    where
      by : (o : Option Name) → callee m start.index ≡ o → (ty : FuncType) → at_index (map (type_in t) (func_space t)) start.index ≡ Some ty
          → is_other_than_start (Some ty) ≡ false → Good (call_start o)
      by None c ty at fits = (null_passes s, tt)
      by (Some name) c ty at fits = (
        call_passes_as s None name [] (c_func_type ty) [] (k.callees start.index ty name at c)
            (params_none ty.params (is_none ty.result) fits) tt tt,
        (tt, tt),
      )

  pub trap_good : (b : Bool) (n : ℕ) (kind : TrapKind) → AllByRecursion Good (trap_if b n (makers.trap kind))
  trap_good false n kind = tt
  trap_good true n kind = (
    (label_passes s (label_name n) refl, tt),
    (
      (
        call_passes s None (codes "w2c_trap") (tree.Value (tree.Number (N32 (code_of kind))) ∷ []) _ (k.runtime (codes "w2c_trap") refl)
            (value_arg s _ type.U32 (n32_typed s _), tt) tt,
        (tt, (code_fits kind, tt)),
      ),
      tt,
    ),
  )
