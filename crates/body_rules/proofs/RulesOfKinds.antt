-- The statements of instructions that hold no code and do not jump keep the rules on statements, in a scope that
-- knows what the body needs.
use Rattle.body_rules.proofs.Common.{KindHasType, Labels, binary_typing, compare_typing, eqz_typing, extend_typing, load_typing, ◌≡◌, ℕ, []}
use Rattle.body_rules.proofs.Common.{store_typing, unary_typing, suc, ◌+◌, Bool, true, false, ◌&&◌, List, ◌∷◌, ◌++◌, reverse, length, ◌==◌}
use Rattle.body_rules.proofs.Common.{slice_get, Some, None, codes, Option, sym, refl, ap, ◌∙◌, subst, append_assoc, arith, AllByRecursion}
use Rattle.body_rules.proofs.Common.{at_index, named, bits, equal_type, FuncType, ValType, extend_type, load_access, store_access, of_types}
use Rattle.body_rules.proofs.Common.{Code, Kind, BinaryOp, CompareOp, ExtendOp, LoadOp, StoreOp, UnaryOp, HasMemory, HasTable, Stack, Turns}
use Rattle.body_rules.proofs.Common.{TurnsAsTabled, table_type, is_void, proper_types, Name, Scope, functions, is_among, is_comparison, COp}
use Rattle.body_rules.proofs.Common.{is_number_type, is_object_type, variables, CType, N32, pattern_of, bytes_equal, c_type_of, helper_type}
use Rattle.body_rules.proofs.Common.{helper_of, number, Helper, NumOp, c_func_type, has_element, is_return, exit_label, any_in, label_name}
use Rattle.body_rules.proofs.Common.{element_name, local_name, slot, calls_helper, callee, global_value, memory_arg, set_global, table_arg}
use Rattle.body_rules.proofs.Common.{Setting, binary_way, by_way, bytes_stmt, call_helper, compare_way, extend_helper, helper_for, jump_if}
use Rattle.body_rules.proofs.Common.{operand, plain_stmts, set_slot, unary_helper, stands, Way, ByHelper, ByOperator, ByShift, or-true, I32}
use Rattle.body_rules.proofs.Common.{one-add, I64, labels_of, stands_top}
use Rattle.wasm_tree.specs.Instructions as wasm
use Rattle.wasm_tree.specs.declared.operators.UnaryOp.TheVariants as unary_op
use Rattle.wasm_tree.specs.declared.operators.BinaryOp.TheVariants as binary_op
use Rattle.wasm_tree.specs.declared.operators.CompareOp.TheVariants as comparison_op
use Rattle.wasm_tree.specs.declared.operators.LoadOp.TheVariants as load_op
use Rattle.wasm_tree.specs.declared.operators.StoreOp.TheVariants as store_op
use Rattle.wasm_tree.specs.declared.operators.ExtendOp.TheVariants as extension_op
use Rattle.c_tree.specs.declared.tree.CType.TheVariants as type
use Rattle.c_tree.specs.declared.tree.COp.TheVariants as op
use Rattle.c_tree.specs.Tree as tree
use Rattle.c_tree.specs.Scope as scope
use Rattle.c_helpers.specs.declared.operation.NumOp.TheVariants as num
use Rattle.c_helpers.specs.declared.operation.Helper.TheVariants as helper
use Rattle.body_rules.proofs.Rules.{Passes, IsTyped, name_typed, n32_typed, n64_typed, op_typed, compare_typed, flag_typed, narrow_typed}
use Rattle.body_rules.proofs.Rules.{wide_typed, IsArg, value_arg, AreArgs, TakesResult, call_passes_as, set_passes, if_passes, label_passes}

-- ---- what a body's scope knows

pub record Knows (s : Scope) (c : Setting) (whole : Code) (slots : ValType → ℕ → Bool) : Type 0 where
  pub slots_are : (t : ValType) (h : ℕ) → slots t h ≡ true → named (slot t h) (variables s) ≡ Some (c_type_of t)
  pub locals_are : (k : ℕ) (t : ValType) → slice_get c.context.locals k ≡ Some t → named (local_name k) (variables s) ≡ Some (c_type_of t)
  pub global_values : (k : ℕ) (g : ValType × Bool) → slice_get c.context.globals k ≡ Some g
      → IsTyped s (global_value c.named.tree k) (scope.HasType (c_type_of g.0))
  pub global_sets : (k : ℕ) (g : ValType × Bool) (e : tree.Expr) → slice_get c.context.globals k ≡ Some g
      → IsTyped s e (scope.HasType (c_type_of g.0)) → Passes s (set_global c.named.tree k e)
  pub memory : HasMemory c.context → IsArg s type.PtrMem (memory_arg c.named.tree)
  pub table : HasTable c.context → IsArg s type.PtrTab (table_arg c.named.tree)
  pub traps : named (codes "w2c_trap") (functions s) ≡ Some (record { params = type.U32 ∷ []; result = type.Void })
  pub grows : named (codes "w2c_mem_grow") (functions s) ≡ Some (record { params = type.PtrMem ∷ type.U32 ∷ []; result = type.U32 })
  pub callees : (k : ℕ) (ty : FuncType) (name : Name) → at_index c.context.funcs k ≡ Some ty → callee c.named k ≡ Some name
      → named name (functions s) ≡ Some (c_func_type ty)
  pub helpers : (which : Helper) → any_in (calls_helper which) whole ≡ true
      → named (helper_of which).name (functions s) ≡ Some (helper_type which)
  pub element : has_element whole ≡ true → named element_name (variables s) ≡ Some type.FnPtr
  pub exit_there : any_in is_return whole ≡ true → is_among (label_name exit_label) (labels_of s.body.stmts) ≡ true
  pub result_slot : (t : ValType) → c.context.result ≡ Some t → slots t 0 ≡ true

abbrev pub HasSlots : (ValType → ℕ → Bool) → Stack → Type 0
HasSlots slots types = (t : ValType) (h : ℕ) → stands t h types ≡ true → slots t h ≡ true

-- each test that an instruction here passes, one of the whole body passes
abbrev pub IsWithinCode : Kind → Code → Type 0
IsWithinCode kind whole = (test : Kind → Bool) → test kind ≡ true → any_in test whole ≡ true

-- an instruction whose own statements hold a label
abbrev pub sets_label : Kind → Bool
sets_label wasm.Select = true
sets_label _ = false

-- ---- types of values

pub is_number : (t : ValType) → is_number_type (c_type_of t) ≡ true
is_number I32 = refl
is_number I64 = refl

pub no_object : (t : ValType) → is_object_type (c_type_of t) ≡ false
no_object I32 = refl
no_object I64 = refl

pub no_void : (t : ValType) → is_void (c_type_of t) ≡ false
no_void I32 = refl
no_void I64 = refl

pub proper_head : (t : ValType) (types : List CType) → proper_types (c_type_of t ∷ types) ≡ c_type_of t ∷ types
proper_head I32 types = refl
proper_head I64 types = refl

-- ---- what stands on a stack

pub same_number : (n : ℕ) → n == n ≡ true
same_number n = grind arith

pub stands_under : (t u : ValType) (h : ℕ) (low : Stack) → stands t h low ≡ true → stands t h (u ∷ low) ≡ true
stands_under t u h low e = rw e (or-true (equal_type t u && (length low == h)))

two_more : (n : ℕ) → 2 + n ≡ suc (suc n)
two_more n = omega arith

-- a type that says what is taken and what is put, on the operands of a block over those outside
pub shaped : (P : Stack → Stack → Type 0) (operands results : List ValType) (own outs base : Stack) → Turns operands results own outs
    → ((low : Stack) → P (reverse operands ++ low) (reverse results ++ low)) → P (own ++ base) (outs ++ base)
shaped P operands results own outs base w f =
    subst (λ o. P (own ++ base) o) (sym (ap (λ o. o ++ base) w.2 ∙ append_assoc (reverse results) w.0 base))
    (subst (λ o. P o (reverse results ++ (w.0 ++ base))) (sym (ap (λ o. o ++ base) w.1 ∙ append_assoc (reverse operands) w.0 base))
    (f (w.0 ++ base)))

pub tabled : (kind : Kind) (operands results : List ValType) (own outs : Stack) → table_type kind ≡ of_types operands results
    → TurnsAsTabled (table_type kind) own outs → Turns operands results own outs
tabled kind operands results own outs e w = subst (λ ty. TurnsAsTabled ty own outs) e w

-- ---- the helpers' types

abbrev signature : CType → List CType → tree.FuncType
signature result params = record { params = params; result = result }

unary_type : (t : ValType) (o : UnaryOp) → helper_type (helper.Num (unary_helper t o)) ≡ signature (c_type_of t) (c_type_of t ∷ [])
unary_type I32 unary_op.Clz = refl
unary_type I32 _ = refl
unary_type I64 unary_op.Clz = refl
unary_type I64 _ = refl

extend_helper_type : (o : ExtendOp) → helper_type (helper.Num (extend_helper o))
    ≡ signature (c_type_of (extend_type o)) (c_type_of (extend_type o) ∷ [])
extend_helper_type extension_op.I32Extend8S = refl
extend_helper_type _ = refl

load_type : (o : LoadOp) → helper_type (helper.Load o) ≡ signature (c_type_of (load_access o).ty) (type.PtrMem ∷ type.U32 ∷ type.U32 ∷ [])
load_type load_op.I32Load = refl
load_type _ = refl

store_type : (o : StoreOp) → helper_type (helper.Store o) ≡ signature type.Void
    (type.PtrMem ∷ type.U32 ∷ type.U32 ∷ c_type_of (store_access o).ty ∷ [])
store_type store_op.I32Store = refl
store_type _ = refl

abbrev BinaryFits : ValType → Way → Type 0
BinaryFits t (ByOperator o) = is_comparison o ≡ false
BinaryFits t (ByShift o) = is_comparison o ≡ false
BinaryFits t (ByHelper which) = helper_type (helper.Num which) ≡ signature (c_type_of t) (c_type_of t ∷ c_type_of t ∷ [])

binary_fits : (t : ValType) (o : BinaryOp) → BinaryFits t (binary_way t o)
binary_fits I32 binary_op.Add = refl
binary_fits I32 _ = refl
binary_fits I64 binary_op.Add = refl
binary_fits I64 _ = refl

abbrev CompareFits : ValType → Way → Type 0
CompareFits t (ByOperator o) = is_comparison o ≡ true
CompareFits t (ByShift o) = ⊥
CompareFits t (ByHelper which) = helper_type (helper.Num which) ≡ signature type.U32 (c_type_of t ∷ c_type_of t ∷ [])

compare_fits : (t : ValType) (o : CompareOp) → CompareFits t (compare_way t o)
compare_fits I32 comparison_op.Eq = refl
compare_fits I32 _ = refl
compare_fits I64 comparison_op.Eq = refl
compare_fits I64 _ = refl

-- ---- the statements

module _ (s : Scope) (c : Setting) (whole : Code) (slots : ValType → ℕ → Bool) (k : Knows s c whole slots) where
  pub operand_typed : (t : ValType) (h : ℕ) → slots t h ≡ true → IsTyped s (operand t h) (scope.HasType (c_type_of t))
  operand_typed t h e = name_typed s (slot t h) (c_type_of t) (k.slots_are t h e) (no_object t)

  pub operand_arg : (t : ValType) (h : ℕ) → slots t h ≡ true → IsArg s (c_type_of t) (tree.Value (operand t h))
  operand_arg t h e = value_arg s (operand t h) (c_type_of t) (operand_typed t h e)

  pub number_typed : (t : ValType) (n : ℕ) → IsTyped s (number t n) (scope.HasType (c_type_of t))
  number_typed I32 n = n32_typed s n
  number_typed I64 n = n64_typed s n

  pub set_slot_passes : (t : ValType) (h : ℕ) (e : tree.Expr) → slots t h ≡ true → IsTyped s e (scope.HasType (c_type_of t))
      → Passes s (set_slot t h e)
  set_slot_passes t h e is typed = set_passes s (slot t h) (tree.Value e) (c_type_of t) (k.slots_are t h is) (no_object t)
      (value_arg s e (c_type_of t) typed)

  pub slot_takes : (t : ValType) (h : ℕ) → slots t h ≡ true → TakesResult s (c_type_of t) (Some (slot t h))
  slot_takes t h e = (k.slots_are t h e, no_object t, no_void t)

  pub jump_if_passes : (o : COp) (h l : ℕ) → is_comparison o ≡ true → slots I32 h ≡ true
      → is_among (label_name l) (labels_of s.body.stmts) ≡ true → Passes s (jump_if o h l)
  jump_if_passes o h l compares is there =
      if_passes s o (operand I32 h) (tree.Number (N32 0)) (label_name l) type.U32 compares refl (operand_typed I32 h is)
      (n32_typed s 0) there

  pub call_helper_passes : (target : Option Name) (which : Helper) (args : List tree.Arg) (ty : tree.FuncType) (types : List CType)
      → any_in (calls_helper which) whole ≡ true → helper_type which ≡ ty → proper_types ty.params ≡ types → AreArgs s types args
      → TakesResult s ty.result target → Passes s (call_helper target which args)
  call_helper_passes target which args ty types called typed proper are takes =
      call_passes_as s target (helper_of which).name args ty types (k.helpers which called ∙ ap (λ t. Some t) typed) proper are takes

  -- the instruction's helper is one of the body's
  pub helper_in : (kind : Kind) (which : Helper) → IsWithinCode kind whole → helper_for kind ≡ Some which
      → any_in (calls_helper which) whole ≡ true
  helper_in kind which here e = here (calls_helper which) (rw e (bytes_equal (helper_of which).name))

  sole : {stmt : tree.Stmt} → Passes s stmt → AllByRecursion (Passes s) (stmt ∷ [])
  sole passes = (passes, tt)

  abbrev pub Kept : Kind → ℕ → Stack → Stack → Type 0
  Kept kind l types outs = HasSlots slots types → HasSlots slots outs → AllByRecursion (Passes s) (plain_stmts c types l kind)

  top_of : (t : ValType) (low : Stack) → HasSlots slots (t ∷ low) → slots t (length low) ≡ true
  top_of t low h = h t (length low) (stands_top t low)

  second_of : (t u : ValType) (low : Stack) → HasSlots slots (u ∷ t ∷ low) → slots t (length low) ≡ true
  second_of t u low h = h t (length low) (stands_under t u (length low) (t ∷ low) (stands_top t low))

  above : (t u : ValType) (low : Stack) → HasSlots slots (u ∷ t ∷ low) → slots u (1 + length low) ≡ true
  above t u low h = subst (λ n. slots u n ≡ true) (sym (one-add (length low))) (top_of u (t ∷ low) h)

  binary_by : (w : Way) (t : ValType) (low : Stack) → BinaryFits t w
      → ((which : NumOp) → w ≡ ByHelper which → any_in (calls_helper (helper.Num which)) whole ≡ true)
      → HasSlots slots (t ∷ t ∷ low) → HasSlots slots (t ∷ low) → Passes s (by_way w t t (length low) (λ e. e))
  binary_by (ByOperator o) t low fits known below behind =
      set_slot_passes t (length low) _ (top_of t low behind)
      (op_typed s o (operand t (length low)) (operand t (1 + length low)) (c_type_of t) fits (is_number t)
      (operand_typed t (length low) (second_of t t low below)) (operand_typed t (1 + length low) (above t t low below)))
  binary_by (ByShift o) t low fits known below behind =
      set_slot_passes t (length low) _ (top_of t low behind)
      (op_typed s o (operand t (length low)) (tree.Op op.Rem (operand t (1 + length low)) (number t (bits t))) (c_type_of t) fits
      (is_number t) (operand_typed t (length low) (second_of t t low below))
      (op_typed s op.Rem (operand t (1 + length low)) (number t (bits t)) (c_type_of t) refl (is_number t)
      (operand_typed t (1 + length low) (above t t low below)) (number_typed t (bits t))))
  binary_by (ByHelper which) t low fits known below behind =
      call_helper_passes (Some (slot t (length low))) (helper.Num which)
      (tree.Value (operand t (length low)) ∷ tree.Value (operand t (1 + length low)) ∷ [])
      (signature (c_type_of t) (c_type_of t ∷ c_type_of t ∷ [])) (c_type_of t ∷ c_type_of t ∷ [])
      (known which refl) fits (proper_head t (c_type_of t ∷ []))
      (operand_arg t (length low) (second_of t t low below), (operand_arg t (1 + length low) (above t t low below), tt))
      (slot_takes t (length low) (top_of t low behind))

  compare_by : (w : Way) (t : ValType) (low : Stack) → CompareFits t w
      → ((which : NumOp) → w ≡ ByHelper which → any_in (calls_helper (helper.Num which)) whole ≡ true)
      → HasSlots slots (t ∷ t ∷ low) → HasSlots slots (I32 ∷ low) → Passes s (by_way w t I32 (length low) tree.To32)
  compare_by (ByOperator o) t low fits known below behind =
      set_slot_passes I32 (length low) _ (top_of I32 low behind)
      (flag_typed s _ (compare_typed s o (operand t (length low)) (operand t (1 + length low)) (c_type_of t) fits (is_number t)
      (operand_typed t (length low) (second_of t t low below)) (operand_typed t (1 + length low) (above t t low below))))
  compare_by (ByShift o) t low fits known below behind = absurd fits
  compare_by (ByHelper which) t low fits known below behind =
      call_helper_passes (Some (slot I32 (length low))) (helper.Num which)
      (tree.Value (operand t (length low)) ∷ tree.Value (operand t (1 + length low)) ∷ [])
      (signature type.U32 (c_type_of t ∷ c_type_of t ∷ [])) (c_type_of t ∷ c_type_of t ∷ [])
      (known which refl) fits (proper_head t (c_type_of t ∷ []))
      (operand_arg t (length low) (second_of t t low below), (operand_arg t (1 + length low) (above t t low below), tt))
      (slot_takes I32 (length low) (top_of I32 low behind))

  pub select_kept : (t : ValType) (l : ℕ) (low : Stack) → is_among (label_name l) (labels_of s.body.stmts) ≡ true
      → Kept wasm.Select l (I32 ∷ t ∷ t ∷ low) (t ∷ low)
  select_kept t l low there below behind = (
    jump_if_passes op.Ne (2 + length low) l refl (subst (λ n. slots I32 n ≡ true) (sym (two_more (length low)))
        (top_of I32 (t ∷ t ∷ low) below)) there,
    (
      set_slot_passes t (length low) _ (top_of t low behind)
          (operand_typed t (1 + length low) (above t t low (λ u h e. below u h (stands_under u I32 h (t ∷ t ∷ low) e)))),
      (label_passes s (label_name l) refl, tt),
    ),
  )

  local_get_kept : (x : ℕ) (t : ValType) (l : ℕ) (low : Stack) → slice_get c.context.locals x ≡ Some t
      → Kept (wasm.LocalGet x) l low (t ∷ low)
  local_get_kept x t l low e below behind = rw e (
    set_slot_passes t (length low) _ (top_of t low behind) (name_typed s (local_name x) (c_type_of t) (k.locals_are x t e) (no_object t)),
    tt,
  )

  local_set : (x : ℕ) (t : ValType) (h : ℕ) → slice_get c.context.locals x ≡ Some t → slots t h ≡ true
      → Passes s (tree.Set (local_name x) (tree.Value (operand t h)))
  local_set x t h e is = set_passes s (local_name x) (tree.Value (operand t h)) (c_type_of t) (k.locals_are x t e) (no_object t)
      (operand_arg t h is)

  local_set_kept : (x : ℕ) (t : ValType) (l : ℕ) (low : Stack) → slice_get c.context.locals x ≡ Some t
      → Kept (wasm.LocalSet x) l (t ∷ low) low
  local_set_kept x t l low e below behind = rw e (local_set x t (length low) e (top_of t low below), tt)

  local_tee_kept : (x : ℕ) (t : ValType) (l : ℕ) (low : Stack) → slice_get c.context.locals x ≡ Some t
      → Kept (wasm.LocalTee x) l (t ∷ low) (t ∷ low)
  local_tee_kept x t l low e below behind = rw e (local_set x t (length low) e (top_of t low below), tt)

  global_get_kept : (x : ℕ) (g : ValType × Bool) (l : ℕ) (low : Stack) → slice_get c.context.globals x ≡ Some g
      → Kept (wasm.GlobalGet x) l low (g.0 ∷ low)
  global_get_kept x g l low e below behind = rw (e, AllByRecursion) (
    set_slot_passes g.0 (length low) _ (top_of g.0 low behind) (k.global_values x g e),
    tt,
  )

  global_set_kept : (x : ℕ) (g : ValType × Bool) (l : ℕ) (low : Stack) → slice_get c.context.globals x ≡ Some g
      → Kept (wasm.GlobalSet x) l (g.0 ∷ low) low
  global_set_kept x g l low e below behind = rw (e, AllByRecursion)
      (k.global_sets x g (operand g.0 (length low)) e (operand_typed g.0 (length low) (top_of g.0 low below)), tt)

  third_of : (low : Stack) → HasSlots slots (I32 ∷ I32 ∷ I32 ∷ low) → slots I32 (length low) ≡ true
  third_of low h = h I32 (length low)
      (stands_under I32 I32 (length low) (I32 ∷ I32 ∷ low) (stands_under I32 I32 (length low) (I32 ∷ low) (stands_top I32 low)))

  bytes_passes : (which : Helper) (low : Stack) → any_in (calls_helper which) whole ≡ true
      → helper_type which ≡ signature type.Void (type.PtrMem ∷ type.U32 ∷ type.U32 ∷ type.U32 ∷ []) → HasMemory c.context
      → HasSlots slots (I32 ∷ I32 ∷ I32 ∷ low) → Passes s (bytes_stmt c.named.tree which (length low))
  bytes_passes which low called typed memory below =
      call_helper_passes None which
      (memory_arg c.named.tree ∷ tree.Value (operand I32 (length low)) ∷ tree.Value (operand I32 (1 + length low)) ∷ tree.Value
      (operand I32 (2 + length low)) ∷ [])
      (signature type.Void (type.PtrMem ∷ type.U32 ∷ type.U32 ∷ type.U32 ∷ [])) (type.PtrMem ∷ type.U32 ∷ type.U32 ∷ type.U32 ∷ [])
      called typed refl (
        k.memory memory,
        (
          operand_arg I32 (length low) (third_of low below),
          (
            operand_arg I32 (1 + length low) (subst (λ n. slots I32 n ≡ true) (sym (one-add (length low)))
                (second_of I32 I32 (I32 ∷ low) below)),
            (
              operand_arg I32 (2 + length low) (subst (λ n. slots I32 n ≡ true) (sym (two_more (length low)))
                  (top_of I32 (I32 ∷ I32 ∷ low) below)),
              tt,
            ),
          ),
        ),
      )
      tt

  plain_by : (kind : Kind) (l : ℕ) (operands results own outs base : Stack) → Turns operands results own outs
      → ((low : Stack) → Kept kind l (reverse operands ++ low) (reverse results ++ low)) → Kept kind l (own ++ base) (outs ++ base)
  plain_by kind l operands results own outs base w f = shaped (λ ts os. Kept kind l ts os) operands results own outs base w f

  -- an instruction without a label, by its type
  pub plain_kept : (kind : Kind) (labels : Labels) (l : ℕ) (own outs base : Stack) → sets_label kind ≡ false
      → KindHasType c.context labels kind own outs → IsWithinCode kind whole → Kept kind l (own ++ base) (outs ++ base)
  plain_kept (wasm.I32Const z) labels l own outs base none typed here =
      plain_by (wasm.I32Const z) l [] (I32 ∷ []) own outs base typed
      (λ low below behind. sole (set_slot_passes I32 (length low) _ (top_of I32 low behind) (number_typed I32 (pattern_of 32 z))))
  plain_kept (wasm.I64Const z) labels l own outs base none typed here =
      plain_by (wasm.I64Const z) l [] (I64 ∷ []) own outs base typed
      (λ low below behind. sole (set_slot_passes I64 (length low) _ (top_of I64 low behind) (number_typed I64 (pattern_of 64 z))))
  plain_kept (wasm.Eqz t) labels l own outs base none typed here =
      plain_by (wasm.Eqz t) l (t ∷ []) (I32 ∷ []) own outs base (tabled (wasm.Eqz t) (t ∷ []) (I32 ∷ []) own outs (eqz_typing t) typed)
      (λ low below behind. sole (set_slot_passes I32 (length low) _ (top_of I32 low behind)
      (flag_typed s _ (compare_typed s op.Eq (operand t (length low)) (number t 0) (c_type_of t) refl (is_number t)
      (operand_typed t (length low) (top_of t low below)) (number_typed t 0)))))
  plain_kept (wasm.Compare t o) labels l own outs base none typed here =
      plain_by (wasm.Compare t o) l (t ∷ t ∷ []) (I32 ∷ []) own outs base
      (tabled (wasm.Compare t o) (t ∷ t ∷ []) (I32 ∷ []) own outs (compare_typing t o) typed)
      (λ low below behind. sole (compare_by (compare_way t o) t low (compare_fits t o)
      (λ which e. helper_in (wasm.Compare t o) (helper.Num which) here (rw e refl)) below behind))
  plain_kept (wasm.Unary t o) labels l own outs base none typed here =
      plain_by (wasm.Unary t o) l (t ∷ []) (t ∷ []) own outs base
      (tabled (wasm.Unary t o) (t ∷ []) (t ∷ []) own outs (unary_typing t o) typed)
      (λ low below behind. sole (call_helper_passes (Some (slot t (length low))) (helper.Num (unary_helper t o))
      (tree.Value (operand t (length low)) ∷ []) (signature (c_type_of t) (c_type_of t ∷ [])) (c_type_of t ∷ [])
      (helper_in (wasm.Unary t o) (helper.Num (unary_helper t o)) here refl) (unary_type t o) (proper_head t [])
      (operand_arg t (length low) (top_of t low below), tt) (slot_takes t (length low) (top_of t low behind))))
  plain_kept (wasm.Binary t o) labels l own outs base none typed here =
      plain_by (wasm.Binary t o) l (t ∷ t ∷ []) (t ∷ []) own outs base
      (tabled (wasm.Binary t o) (t ∷ t ∷ []) (t ∷ []) own outs (binary_typing t o) typed)
      (λ low below behind. sole (binary_by (binary_way t o) t low (binary_fits t o)
      (λ which e. helper_in (wasm.Binary t o) (helper.Num which) here (rw e refl)) below behind))
  plain_kept wasm.I32WrapI64 labels l own outs base none typed here =
      plain_by wasm.I32WrapI64 l (I64 ∷ []) (I32 ∷ []) own outs base typed
      (λ low below behind. sole (set_slot_passes I32 (length low) _ (top_of I32 low behind)
      (narrow_typed s _ type.U64 refl (operand_typed I64 (length low) (top_of I64 low below)))))
  plain_kept wasm.I64ExtendI32U labels l own outs base none typed here =
      plain_by wasm.I64ExtendI32U l (I32 ∷ []) (I64 ∷ []) own outs base typed
      (λ low below behind. sole (set_slot_passes I64 (length low) _ (top_of I64 low behind)
      (wide_typed s _ type.U32 refl (operand_typed I32 (length low) (top_of I32 low below)))))
  plain_kept wasm.I64ExtendI32S labels l own outs base none typed here =
      plain_by wasm.I64ExtendI32S l (I32 ∷ []) (I64 ∷ []) own outs base typed
      (λ low below behind. sole (call_helper_passes (Some (slot I64 (length low))) (helper.Num num.I64ExtendI32S)
      (tree.Value (operand I32 (length low)) ∷ []) (signature type.U64 (type.U32 ∷ [])) (type.U32 ∷ [])
      (helper_in wasm.I64ExtendI32S (helper.Num num.I64ExtendI32S) here refl) refl refl
      (operand_arg I32 (length low) (top_of I32 low below), tt) (slot_takes I64 (length low) (top_of I64 low behind))))
  plain_kept (wasm.Extend o) labels l own outs base none typed here =
      let t : ValType = extend_type o in
      plain_by (wasm.Extend o) l (t ∷ []) (t ∷ []) own outs base
      (tabled (wasm.Extend o) (t ∷ []) (t ∷ []) own outs (extend_typing o) typed)
      (λ low below behind. sole (call_helper_passes (Some (slot t (length low))) (helper.Num (extend_helper o))
      (tree.Value (operand t (length low)) ∷ []) (signature (c_type_of t) (c_type_of t ∷ [])) (c_type_of t ∷ [])
      (helper_in (wasm.Extend o) (helper.Num (extend_helper o)) here refl) (extend_helper_type o) (proper_head t [])
      (operand_arg t (length low) (top_of t low below), tt) (slot_takes t (length low) (top_of t low behind))))
  plain_kept wasm.Select labels l own outs base none typed here = absurd cc
  plain_kept (wasm.LocalGet x) labels l own outs base none typed here =
      plain_by (wasm.LocalGet x) l [] (typed.0 ∷ []) own outs base typed.2 (λ low. local_get_kept x typed.0 l low typed.1)
  plain_kept (wasm.LocalSet x) labels l own outs base none typed here =
      plain_by (wasm.LocalSet x) l (typed.0 ∷ []) [] own outs base typed.2 (λ low. local_set_kept x typed.0 l low typed.1)
  plain_kept (wasm.LocalTee x) labels l own outs base none typed here =
      plain_by (wasm.LocalTee x) l (typed.0 ∷ []) (typed.0 ∷ []) own outs base typed.2 (λ low. local_tee_kept x typed.0 l low typed.1)
  plain_kept (wasm.GlobalGet x) labels l own outs base none typed here =
      plain_by (wasm.GlobalGet x) l [] (typed.0 ∷ []) own outs base typed.3 (λ low. global_get_kept x (typed.0, typed.1) l low typed.2)
  plain_kept (wasm.GlobalSet x) labels l own outs base none typed here =
      plain_by (wasm.GlobalSet x) l (typed.0 ∷ []) [] own outs base typed.2 (λ low. global_set_kept x (typed.0, true) l low typed.1)
  plain_kept (wasm.Load o arg) labels l own outs base none typed here =
      let t : ValType = (load_access o).ty in
      plain_by (wasm.Load o arg) l (I32 ∷ []) (t ∷ []) own outs base
      (tabled (wasm.Load o arg) (I32 ∷ []) (t ∷ []) own outs (load_typing o arg) typed.2)
      (λ low below behind. sole (call_helper_passes (Some (slot t (length low))) (helper.Load o)
      (memory_arg c.named.tree ∷ tree.Value (operand I32 (length low)) ∷ tree.Value (number I32 arg.offset) ∷ [])
      (signature (c_type_of t) (type.PtrMem ∷ type.U32 ∷ type.U32 ∷ [])) (type.PtrMem ∷ type.U32 ∷ type.U32 ∷ [])
      (helper_in (wasm.Load o arg) (helper.Load o) here refl) (load_type o) refl
      (k.memory typed.0, (operand_arg I32 (length low) (top_of I32 low below), (value_arg s _ type.U32 (n32_typed s arg.offset), tt)))
      (slot_takes t (length low) (top_of t low behind))))
  plain_kept (wasm.Store o arg) labels l own outs base none typed here =
      let t : ValType = (store_access o).ty in
      plain_by (wasm.Store o arg) l (I32 ∷ t ∷ []) [] own outs base
      (tabled (wasm.Store o arg) (I32 ∷ t ∷ []) [] own outs (store_typing o arg) typed.2)
      (λ low below behind. sole (call_helper_passes None (helper.Store o)
      (memory_arg c.named.tree ∷ tree.Value (operand I32 (length low)) ∷ tree.Value (number I32 arg.offset)
      ∷ tree.Value (operand t (1 + length low)) ∷ [])
      (signature type.Void (type.PtrMem ∷ type.U32 ∷ type.U32 ∷ c_type_of t ∷ [])) (type.PtrMem ∷ type.U32 ∷ type.U32 ∷ c_type_of t ∷ [])
      (helper_in (wasm.Store o arg) (helper.Store o) here refl) (store_type o) refl (
        k.memory typed.0,
        (
          operand_arg I32 (length low) (second_of I32 t low below),
          (value_arg s _ type.U32 (n32_typed s arg.offset), (operand_arg t (1 + length low) (above I32 t low below), tt)),
        ),
      ) tt))
  plain_kept wasm.MemorySize labels l own outs base none typed here =
      plain_by wasm.MemorySize l [] (I32 ∷ []) own outs base typed.1
      (λ low below behind. sole (call_helper_passes (Some (slot I32 (length low))) helper.Size (memory_arg c.named.tree ∷ [])
      (signature type.U32 (type.PtrMem ∷ [])) (type.PtrMem ∷ []) (helper_in wasm.MemorySize helper.Size here refl) refl refl
      (k.memory typed.0, tt) (slot_takes I32 (length low) (top_of I32 low behind))))
  plain_kept wasm.MemoryGrow labels l own outs base none typed here =
      plain_by wasm.MemoryGrow l (I32 ∷ []) (I32 ∷ []) own outs base typed.1
      (λ low below behind. sole (call_passes_as s (Some (slot I32 (length low))) (codes "w2c_mem_grow")
      (memory_arg c.named.tree ∷ tree.Value (operand I32 (length low)) ∷ [])
      (signature type.U32 (type.PtrMem ∷ type.U32 ∷ [])) (type.PtrMem ∷ type.U32 ∷ []) k.grows refl
      (k.memory typed.0, (operand_arg I32 (length low) (top_of I32 low below), tt))
      (slot_takes I32 (length low) (top_of I32 low behind))))
  plain_kept wasm.MemoryCopy labels l own outs base none typed here =
      plain_by wasm.MemoryCopy l (I32 ∷ I32 ∷ I32 ∷ []) [] own outs base typed.1 (λ low below behind.
      sole (bytes_passes helper.Copy low (helper_in wasm.MemoryCopy helper.Copy here refl) refl typed.0 below))
  plain_kept wasm.MemoryFill labels l own outs base none typed here =
      plain_by wasm.MemoryFill l (I32 ∷ I32 ∷ I32 ∷ []) [] own outs base typed.1 (λ low below behind.
      sole (bytes_passes helper.Fill low (helper_in wasm.MemoryFill helper.Fill here refl) refl typed.0 below))
  plain_kept _ labels l own outs base none typed here = λ below behind. tt
