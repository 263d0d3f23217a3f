-- The statements of code keep the rules on statements, in a scope that knows what the body needs and a body that
-- has the labels.
use Rattle.body_rules.proofs.Common.{I32, I64, labels_of, labels-append, stands_top, stands_occurs, ◌≡◌, ℕ, zero, suc, ◌+◌, ◌<◌, Bool, true}
use Rattle.body_rules.proofs.Common.{false, not, ◌&&◌, ◌||◌, List, [], ◌∷◌, ◌++◌, map, reverse, ap, length, drop, if◌then◌else◌, ◌==◌, Some}
use Rattle.body_rules.proofs.Common.{slice_get, None, codes, Option, bytes_eq, sym, refl, ◌∙◌, N64, subst, append_assoc, arith, or_left}
use Rattle.body_rules.proofs.Common.{or_right, length-reverse, reverse-append, list_any-append, named, same_Some, AllByRecursion, list_all}
use Rattle.body_rules.proofs.Common.{list_any, all_append, at_index, sig_number_of, FuncType, ValType, Code, Kind, Otherwise, else_code}
use Rattle.body_rules.proofs.Common.{end_code, no_else, then_code, Context, Labels, ElseHasType, HasTable, HasType, KindHasType, Stack, Aim}
use Rattle.body_rules.proofs.Common.{Turns, values, are_distinct_numbers, case_value, is_result_type, Name, is_value_type, number_suits}
use Rattle.body_rules.proofs.Common.{Scope, functions, is_among, bytes_equal, c_result_of, c_type_of, c_func_type, is_indirect, is_return}
use Rattle.body_rules.proofs.Common.{behind, branch_if, branch_table, call_element, call_named, emit, call_indirect_stmts, call_stmts, jump}
use Rattle.body_rules.proofs.Common.{case_label, cases_from, emit_else, emit_kind, exit_label, exit_of, if_aim, if_stmts, is_straight, ends}
use Rattle.body_rules.proofs.Common.{jump_over, label_if, moving_case, moving_cases, operands_from, result_slot, any_in, any_in_else, falls}
use Rattle.body_rules.proofs.Common.{any_inside, labels_in, targets, targets_else, targets_in, element_name, label_name, callee, table_arg}
use Rattle.body_rules.proofs.Common.{Setting, jump_if, operand, plain_stmts, set_slot, after, occurs, occurs_in, occurs_in_else, stands}
use Rattle.body_rules.proofs.Common.{under, zero-add, one_moves}
use Rattle.w2c_base.specs.declared.trap.TrapKind.TheVariants as trap
use Rattle.wasm_tree.specs.Instructions as wasm
use Rattle.c_tree.specs.declared.tree.CType.TheVariants as type
use Rattle.c_tree.specs.declared.tree.COp.TheVariants as op
use Rattle.c_tree.specs.Tree as tree
use Rattle.c_tree.specs.Makers as makers
use Rattle.body_definition.specs.Labels.{labels_of as label_count}
use Rattle.body_rules.proofs.RulesOfKinds.{plain_kept, Knows, HasSlots, IsWithinCode, same_number, stands_under, shaped, operand_typed}
use Rattle.body_rules.proofs.RulesOfKinds.{operand_arg, set_slot_passes, slot_takes, jump_if_passes, call_helper_passes, helper_in}
use Rattle.body_rules.proofs.RulesOfKinds.{select_kept}
use Rattle.c_tree.proofs.TypesInC.{proper_params}
use Rattle.c_helpers.specs.declared.operation.Helper.TheVariants as helper
use Rattle.body_rules.proofs.Rules.{Passes, AreArgs, TakesResult, call_passes_as, through_passes, switch_passes, goto_passes, label_passes}
use Rattle.body_rules.proofs.Rules.{null_passes, n32_typed, n64_typed, value_arg}

-- the stack behind an instruction that goes on is its type's (Heights)
abbrev pub AfterIsOuts : Type 0
AfterIsOuts = (c : Context) (labels : Labels) (kind : Kind) (own outs base : Stack) → KindHasType c labels kind own outs → ends kind ≡ false
    → after c (own ++ base) kind ≡ outs ++ base

-- ---- labels that stand in statements

abbrev pub Present : List tree.Stmt → List tree.Stmt → Type 0
Present body stmts = (name : Name) → is_among name (labels_of stmts) ≡ true → is_among name (labels_of body) ≡ true

pub left_present : (body xs ys : List tree.Stmt) → Present body (xs ++ ys) → Present body xs
left_present body xs ys p name e =
    p name (ap (is_among name) (labels-append xs ys) ∙ (list_any-append (bytes_eq name) (labels_of xs) (labels_of ys)
    ∙ or_left (is_among name (labels_of xs)) (is_among name (labels_of ys)) e))

pub right_present : (body xs ys : List tree.Stmt) → Present body (xs ++ ys) → Present body ys
right_present body xs ys p name e =
    p name (ap (is_among name) (labels-append xs ys) ∙ (list_any-append (bytes_eq name) (labels_of xs) (labels_of ys)
    ∙ or_right (is_among name (labels_of xs)) (is_among name (labels_of ys)) e))

pub first_present : (body : List tree.Stmt) (name : Name) (rest : List tree.Stmt) → Present body (tree.Label name ∷ rest)
    → is_among name (labels_of body) ≡ true
first_present body name rest p = p name (rw (bytes_equal name) refl)

pub named_present : (body : List tree.Stmt) (b : Bool) (l : ℕ) → b ≡ true → Present body (label_if b l)
    → is_among (label_name l) (labels_of body) ≡ true
named_present body true l e p = first_present body (label_name l) [] p
named_present body false l e p = absurd cc

-- ---- what a branch finds

pub record IsAim (s : Scope) (slots : ValType → ℕ → Bool) (is_named : Bool) (aim : Aim) : Type 0 where
  pub there : is_named ≡ true → is_among (label_name aim.label) (labels_of s.body.stmts) ≡ true
  pub slot_is : (t : ValType) → aim.value ≡ Some t → slots t aim.height ≡ true

abbrev pub AreAims : Scope → (ValType → ℕ → Bool) → List Aim → (ℕ → Bool) → Type 0
AreAims s slots aims is_named = (i : ℕ) (aim : Aim) → slice_get aims i ≡ Some aim → IsAim s slots (is_named i) aim

fewer_aims : (s : Scope) (slots : ValType → ℕ → Bool) (aims : List Aim) (most some : ℕ → Bool) → ((i : ℕ) → some i ≡ true → most i ≡ true)
    → AreAims s slots aims most → AreAims s slots aims some
fewer_aims s slots aims most some f are i aim e = record { there = λ is. (are i aim e).there (f i is); slot_is = (are i aim e).slot_is }

inner_aims : (s : Scope) (slots : ValType → ℕ → Bool) (aim : Aim) (aims : List Aim) (outer inner : ℕ → Bool)
    → IsAim s slots (inner 0) aim → ((i : ℕ) → inner (suc i) ≡ true → outer i ≡ true) → AreAims s slots aims outer
    → AreAims s slots (aim ∷ aims) inner
inner_aims s slots aim aims outer inner first f are zero other e = subst (IsAim s slots (inner 0)) (same_Some aim other e) first
inner_aims s slots aim aims outer inner first f are (suc i) other e =
    record { there = λ is. (are i other e).there (f i is); slot_is = (are i other e).slot_is }

-- ---- stacks

stands_below : (t : ValType) (h : ℕ) (upper low : Stack) → stands t h low ≡ true → stands t h (upper ++ low) ≡ true
stands_below t h [] low e = e
stands_below t h (u ∷ upper) low e = stands_under t u h (upper ++ low) (stands_below t h upper low e)

reverse_cons : (t : ValType) (types low : Stack) → reverse (t ∷ types) ++ low ≡ reverse types ++ (t ∷ low)
reverse_cons t types low = ap (λ o. o ++ low) (reverse-append (t ∷ []) types) ∙ append_assoc (reverse types) (t ∷ []) low

drop_all : (xs low : Stack) → drop (length xs) (xs ++ low) ≡ low
drop_all [] low = refl
drop_all (x ∷ xs) low = drop_all xs low

under_params : (params low : Stack) → under (length params) (reverse params ++ low) ≡ length low
under_params params low = ap (λ n. length (drop n (reverse params ++ low))) (sym (length-reverse params))
    ∙ ap length (drop_all (reverse params) low)

-- ---- types of calls

pub value_types : (params : List ValType) → list_all is_value_type (map c_type_of params) ≡ true
value_types [] = refl
value_types (I32 ∷ params) = value_types params
value_types (I64 ∷ params) = value_types params

pub result_type : (r : Option ValType) → is_result_type (c_result_of r) ≡ true
result_type None = refl
result_type (Some I32) = refl
result_type (Some I64) = refl

-- ---- the numbers of cases differ

case_numbers : (aims : List Aim) (types : Stack) (n l : ℕ) (labels : List ℕ)
    → list_all (λ (c : tree.Case). number_suits type.U32 c.0) (cases_from aims types n l labels) ≡ true
case_numbers aims types n l [] = refl
case_numbers aims types n l (i ∷ labels) = case_numbers aims types (suc n) (suc l) labels

lower_none : (aims : List Aim) (types : Stack) (m n l : ℕ) (labels : List ℕ) → m < n
    → list_any (λ k. k == m) (map case_value (cases_from aims types n l labels)) ≡ false
lower_none aims types m n l [] less = refl
lower_none aims types m n l (i ∷ labels) less = rw (differs n m less) (lower_none aims types m (suc n) (suc l) labels (omega arith))
  where
    differs : (n m : ℕ) → m < n → n == m ≡ false
    differs n m less = grind arith

cases_differ : (aims : List Aim) (types : Stack) (n l : ℕ) (labels : List ℕ)
    → are_distinct_numbers (map case_value (cases_from aims types n l labels)) ≡ true
cases_differ aims types n l [] = refl
cases_differ aims types n l (i ∷ labels) = rw (lower_none aims types n (suc n) (suc l) labels (omega arith))
    (cases_differ aims types (suc n) (suc l) labels)

-- ---- the statements

module _ (s : Scope) (c : Setting) (whole : Code) (slots : ValType → ℕ → Bool) (k : Knows s c whole slots) where
  abbrev pub All : List tree.Stmt → Type 0
  All stmts = AllByRecursion (Passes s) stmts

  abbrev pub Here : List tree.Stmt → Type 0
  Here stmts = Present s.body.stmts stmts

  -- they keep the rules where their labels are the body's
  abbrev pub Passing : List tree.Stmt → Type 0
  Passing stmts = Here stmts → All stmts

  abbrev pub There : ℕ → Type 0
  There l = is_among (label_name l) (labels_of s.body.stmts) ≡ true

  pub label_if_passes : (b : Bool) (l : ℕ) → All (label_if b l)
  label_if_passes true l = (label_passes s (label_name l) refl, tt)
  label_if_passes false l = tt

  -- ---- branches

  jump_by : (l height : ℕ) (v : Option ValType) (types : Stack) → There l
      → ((t : ValType) → v ≡ Some t → (slots t height ≡ true) × (slots t (under 1 types) ≡ true))
      → All (jump (record { label = l; height = height; value = v }) types)
  jump_by l height None types there has = (goto_passes s (label_name l) there, tt)
  jump_by l height (Some t) types there has = by (under 1 types == height)
    where
      by : (b : Bool) → All ((if b then [] else set_slot t height (operand t (under 1 types)) ∷ []) ++ tree.Goto (label_name l) ∷ [])
      by true = (goto_passes s (label_name l) there, tt)
      by false = (
        set_slot_passes s c whole slots k t height _ (has t refl).0 (operand_typed s c whole slots k t (under 1 types) (has t refl).1),
        (goto_passes s (label_name l) there, tt),
      )

  pub jump_passes : (aim : Aim) (types : Stack) → There aim.label
      → ((t : ValType) → aim.value ≡ Some t → (slots t aim.height ≡ true) × (slots t (under 1 types) ≡ true)) → All (jump aim types)
  jump_passes aim types there has = jump_by aim.label aim.height aim.value types there has

  -- a value of this type stands on top, if any
  abbrev TopIs : Option ValType → Stack → Type 0
  TopIs v types = (t : ValType) → v ≡ Some t → slots t (under 1 types) ≡ true

  top_is : (v : Option ValType) (low : Stack) → HasSlots slots (values v ++ low) → TopIs v (values v ++ low)
  top_is None low has t e = absurd cc
  top_is (Some u) low has t e = subst (λ t. slots t (length low) ≡ true) (same_Some u t e) (has u (length low) (stands_top u low))

  pub branch_if_passes : (types : Stack) (l : ℕ) (aim : Aim) → slots I32 (length types) ≡ true → There aim.label → All (jump aim types)
      → Passing (branch_if types l aim)
  branch_if_passes types l aim has there jumps = by (is_straight aim types)
    where
      by : (b : Bool) → Passing (if b then jump_if op.Ne (length types) aim.label ∷ [] else jump_if op.Eq (length types) l ∷
          (jump aim types ++ tree.Label (label_name l) ∷ []))
      by true h = (jump_if_passes s c whole slots k op.Ne (length types) aim.label refl has there, tt)
      by false h = (
        jump_if_passes s c whole slots k op.Eq (length types) l refl has
            (first_present s.body.stmts (label_name l) [] (right_present s.body.stmts (jump aim types) (tree.Label (label_name l) ∷ []) h)),
        all_append (Passes s) (jump aim types) (tree.Label (label_name l) ∷ []) jumps (label_passes s (label_name l) refl, tt),
      )

  -- the labels that a table names, the default last
  abbrev names_from : List Aim → Stack → ℕ → List ℕ → List Name
  names_from aims types l [] = []
  names_from aims types l (i ∷ ks) = case_label types l (slice_get aims i) ∷ names_from aims types (suc l) ks

  names_are : (aims : List Aim) (types : Stack) (n l : ℕ) (labels : List ℕ) (default : ℕ)
      → map (λ (e : tree.Case). e.1) (cases_from aims types n l labels) ++ case_label types (length labels + l)
      (slice_get aims default) ∷ []
      ≡ names_from aims types l (labels ++ default ∷ [])
  names_are aims types n l [] default = ap (λ m. case_label types m (slice_get aims default) ∷ []) (zero-add l)
  names_are aims types n l (i ∷ labels) default =
      ap (λ m. case_label types l (slice_get aims i) ∷
      (map (λ (e : tree.Case). e.1) (cases_from aims types (suc n) (suc l) labels) ++ case_label types m (slice_get aims default) ∷ []))
      (one_moves (length labels) l)
      ∙ ap (λ names. case_label types l (slice_get aims i) ∷ names) (names_are aims types (suc n) (suc l) labels default)

  aim_at : (aims : List Aim) (v : Option ValType) (i : ℕ) → slice_get (map (λ (a : Aim). a.value) aims) i ≡ Some v
      → (aim : Aim) × (slice_get aims i ≡ Some aim) × (aim.value ≡ v)
  aim_at [] v i e = absurd cc
  aim_at (a ∷ aims) v zero e = (a, refl, same_Some a.value v e)
  aim_at (a ∷ aims) v (suc i) e = aim_at aims v i e

  aim_jumps : (aim : Aim) (v : Option ValType) (is_named : Bool) (types : Stack) → IsAim s slots is_named aim → aim.value ≡ v
      → TopIs v types → is_named ≡ true → All (jump aim types)
  aim_jumps aim v is_named types is e top named_here = jump_passes aim types (is.there named_here)
      (λ t f. (is.slot_is t f, top t (sym e ∙ f)))

  moving_one : (types : Stack) (l : ℕ) (aim : Aim) → All (jump aim types) → All (moving_case types l aim)
  moving_one types l aim jumps = by (is_straight aim types)
    where
      by : (b : Bool) → All (if b then [] else tree.Label (label_name l) ∷ jump aim types)
      by true = tt
      by false = (label_passes s (label_name l) refl, jumps)

  name_one : (types : Stack) (l : ℕ) (aim : Aim) → There aim.label → Here (moving_case types l aim)
      → is_among (case_label types l (Some aim)) (labels_of s.body.stmts) ≡ true
  name_one types l aim there here = by (is_straight aim types) here
    where
      by : (b : Bool) → Here (if b then [] else tree.Label (label_name l) ∷ jump aim types)
          → is_among (if b then label_name aim.label else label_name l) (labels_of s.body.stmts) ≡ true
      by true h = there
      by false h = first_present s.body.stmts (label_name l) (jump aim types) h

  -- all these are labels of aims, which carry a value like this
  abbrev AreTyped : List Aim → Option ValType → List ℕ → Type 0
  AreTyped aims v ks = AllByRecursion (λ i. slice_get (map (λ (a : Aim). a.value) aims) i ≡ Some v) ks

  abbrev AreNamed : (ℕ → Bool) → List ℕ → Type 0
  AreNamed is_named ks = (i : ℕ) → list_any (λ label. label == i) ks ≡ true → is_named i ≡ true

  moving_passes : (aims : List Aim) (v : Option ValType) (is_named : ℕ → Bool) (types : Stack) (l : ℕ) (ks : List ℕ)
      → AreAims s slots aims is_named → AreTyped aims v ks → AreNamed is_named ks → TopIs v types → All (moving_cases aims types l ks)
  moving_passes aims v is_named types l [] are typed named_are top = tt
  moving_passes aims v is_named types l (i ∷ ks) are typed named_are top =
      let found = aim_at aims v i typed.0 in
      all_append (Passes s) (if_aim (slice_get aims i) (moving_case types l)) (moving_cases aims types (suc l) ks)
      (subst (λ o. All (if_aim o (moving_case types l))) (sym found.1)
      (moving_one types l found.0 (aim_jumps found.0 v (is_named i) types (are i found.0 found.1) found.2 top
      (named_are i (or_left _ _ (same_number i))))))
      (moving_passes aims v is_named types (suc l) ks are typed.1 (λ j e. named_are j (or_right (i == j) _ e)) top)

  names_there : (aims : List Aim) (v : Option ValType) (is_named : ℕ → Bool) (types : Stack) (l : ℕ) (ks : List ℕ)
      → AreAims s slots aims is_named → AreTyped aims v ks → AreNamed is_named ks → Here (moving_cases aims types l ks)
      → list_all (λ name. is_among name (labels_of s.body.stmts)) (names_from aims types l ks) ≡ true
  names_there aims v is_named types l [] are typed named_are here = refl
  names_there aims v is_named types l (i ∷ ks) are typed named_are here =
      let found = aim_at aims v i typed.0 in
      let first : is_among (case_label types l (slice_get aims i)) (labels_of s.body.stmts) ≡ true =
      subst (λ o. is_among (case_label types l o) (labels_of s.body.stmts) ≡ true) (sym found.1)
      (name_one types l found.0 ((are i found.0 found.1).there (named_are i (or_left _ _ (same_number i))))
      (subst (λ o. Here (if_aim o (moving_case types l))) found.1
      (left_present s.body.stmts (if_aim (slice_get aims i) (moving_case types l)) (moving_cases aims types (suc l) ks) here)))
      in
      rw first
      (names_there aims v is_named types (suc l) ks are typed.1 (λ j e. named_are j (or_right (i == j) _ e))
      (right_present s.body.stmts (if_aim (slice_get aims i) (moving_case types l)) (moving_cases aims types (suc l) ks) here))

  pub branch_table_passes : (aims : List Aim) (v : Option ValType) (is_named : ℕ → Bool) (types : Stack) (l : ℕ) (labels : List ℕ)
      (default : ℕ) → slots I32 (length types) ≡ true → AreAims s slots aims is_named → AreTyped aims v (labels ++ default ∷ [])
      → AreNamed is_named (labels ++ default ∷ []) → TopIs v types → Passing (branch_table aims types l labels default)
  branch_table_passes aims v is_named types l labels default has are typed named_are top here = (
    switch_passes s (operand I32 (length types)) (cases_from aims types 0 l labels)
        (case_label types (length labels + l) (slice_get aims default))
        (operand_typed s c whole slots k I32 (length types) has)
        (case_numbers aims types 0 l labels)
        (cases_differ aims types 0 l labels)
        (subst (λ names. list_all (λ name. is_among name (labels_of s.body.stmts)) names ≡ true)
        (sym (names_are aims types 0 l labels default))
        (names_there aims v is_named types l (labels ++ default ∷ []) are typed named_are here)),
    moving_passes aims v is_named types l (labels ++ default ∷ []) are typed named_are top,
  )

  -- ---- calls

  args_are : (params low : List ValType) → HasSlots slots (reverse params ++ low)
      → AreArgs s (map c_type_of params) (operands_from (length low) params)
  args_are [] low has = tt
  args_are (t ∷ params) low has =
      let all : HasSlots slots (reverse params ++ (t ∷ low)) = subst (HasSlots slots) (reverse_cons t params low) has in (
        operand_arg s c whole slots k t (length low)
            (all t (length low) (stands_below t (length low) (reverse params) (t ∷ low) (stands_top t low))),
        args_are params (t ∷ low) all,
      )

  call_args : (params low : List ValType) → HasSlots slots (reverse params ++ low)
      → AreArgs s (map c_type_of params) (operands_from (under (length params) (reverse params ++ low)) params)
  call_args params low has = subst (λ h. AreArgs s (map c_type_of params) (operands_from h params)) (sym (under_params params low))
      (args_are params low has)

  result_takes : (r : Option ValType) (h : ℕ) (low : Stack) → h ≡ length low → HasSlots slots (reverse (values r) ++ low)
      → TakesResult s (c_result_of r) (result_slot r h)
  result_takes None h low e has = tt
  result_takes (Some t) h low e has =
      slot_takes s c whole slots k t h (subst (λ n. slots t n ≡ true) (sym e) (has t (length low) (stands_top t low)))

  pub call_kept : (x : ℕ) (ty : FuncType) (low : Stack) → slice_get c.context.funcs x ≡ Some (Some ty)
      → HasSlots slots (reverse ty.params ++ low) → HasSlots slots (reverse (values ty.result) ++ low)
      → All (call_stmts c (reverse ty.params ++ low) x)
  call_kept x ty low e below after_it =
      let found : at_index c.context.funcs x ≡ Some ty = rw e refl in
      subst (λ o. All (elim o [
        | None ↦ []
        | Some found_ty ↦ call_named (callee c.named x) found_ty (reverse ty.params ++ low)
      ])) (sym found)
      (by (callee c.named x) (λ name f. k.callees x ty name found f))
    where
      by : (o : Option Name) → ((name : Name) → o ≡ Some name → named name (functions s) ≡ Some (c_func_type ty))
          → All (call_named o ty (reverse ty.params ++ low))
      by None f = (null_passes s, tt)
      by (Some name) f = (
        call_passes_as s (result_slot ty.result (under (length ty.params) (reverse ty.params ++ low))) name _ (c_func_type ty)
            (map c_type_of ty.params)
            (f name refl) (proper_params ty.params) (call_args ty.params low below)
            (result_takes ty.result _ low (under_params ty.params low) after_it),
        tt,
      )

  pub call_indirect_kept : (x : ℕ) (ty : FuncType) (low : Stack) → slice_get c.context.types x ≡ Some ty → HasTable c.context
      → IsWithinCode (wasm.CallIndirect x) whole
      → HasSlots slots (I32 ∷ (reverse ty.params ++ low)) → HasSlots slots (reverse (values ty.result) ++ low)
      → All (call_indirect_stmts c (reverse ty.params ++ low) x)
  call_indirect_kept x ty low e table here below after_it =
      let types : Stack = reverse ty.params ++ low in
      subst (λ o. All (elim o [ None ↦ [] | Some found_ty ↦ call_element c types found_ty ])) (sym e) (
        call_helper_passes s c whole slots k (Some element_name) helper.Element
            (table_arg c.named.tree ∷ tree.Value (operand I32 (length types)) ∷ tree.Value
            (tree.Number (N64 (sig_number_of ty.params ty.result))) ∷ [])
            (record { params = type.PtrTab ∷ type.U32 ∷ type.U64 ∷ []; result = type.FnPtr }) (type.PtrTab ∷ type.U32 ∷ type.U64 ∷ [])
            (helper_in s c whole slots k (wasm.CallIndirect x) helper.Element here refl) refl refl (
              k.table table,
              (
                operand_arg s c whole slots k I32 (length types) (below I32 (length types) (stands_top I32 types)),
                (value_arg s _ type.U64 (n64_typed s (sig_number_of ty.params ty.result)), tt),
              ),
            )
            (k.element (here is_indirect refl), refl, refl),
        (
          through_passes s (result_slot ty.result (under (length ty.params) types)) element_name _ (c_func_type ty)
              (k.element (here is_indirect refl)) (result_type ty.result)
              (subst (λ ts. list_all is_value_type ts ≡ true) (sym (proper_params ty.params)) (value_types ty.params))
              (subst (λ ts. AreArgs s ts (operands_from (under (length ty.params) types) ty.params)) (sym (proper_params ty.params))
              (call_args ty.params low (λ t h f. below t h (stands_under t I32 h types f))))
              (result_takes ty.result _ low (under_params ty.params low) after_it),
          tt,
        ),
      )

  -- ---- kinds, code

  -- the operands on top, of a type that does not say what is put
  taken : (P : Stack → Type 0) (operands : List ValType) (own base rest : Stack) → own ≡ reverse operands ++ rest
      → ((low : Stack) → P (reverse operands ++ low)) → P (own ++ base)
  taken P operands own base rest e f = subst P (sym (ap (λ o. o ++ base) e ∙ append_assoc (reverse operands) rest base)) (f (rest ++ base))

  -- under the uppermost i32 the value that a branch carries, if any
  value_and_i32 : (v : Option ValType) (low : Stack) → reverse (values v ++ I32 ∷ []) ++ low ≡ I32 ∷ (values v ++ low)
  value_and_i32 None low = refl
  value_and_i32 (Some t) low = refl

  params_and_i32 : (params low : List ValType) → reverse (params ++ I32 ∷ []) ++ low ≡ I32 ∷ (reverse params ++ low)
  params_and_i32 params low = ap (λ o. o ++ low) (reverse-append params (I32 ∷ []))

  below_top : (types : Stack) → HasSlots slots (I32 ∷ types) → HasSlots slots types
  below_top types has t h e = has t h (stands_under t I32 h types e)

  -- a value that a branch carries stands on top
  top_of : (v : Option ValType) (low : Stack) → HasSlots slots (reverse (values v) ++ low) → TopIs v (reverse (values v) ++ low)
  top_of None low has = top_is None low has
  top_of (Some t) low has = top_is (Some t) low has

  abbrev Inside : Kind → Type 0
  Inside kind = (test : Kind → Bool) → any_inside test kind ≡ true → any_in test whole ≡ true

  abbrev CodeInside : Code → Type 0
  CodeInside code = (test : Kind → Bool) → any_in test code ≡ true → any_in test whole ≡ true

  abbrev Occurring : Stack → Kind → Type 0
  Occurring types kind = (t : ValType) (h : ℕ) → occurs_in t h c.context types kind ≡ true → slots t h ≡ true

  abbrev Occur : Stack → Code → Type 0
  Occur types code = (t : ValType) (h : ℕ) → occurs t h c.context types code ≡ true → slots t h ≡ true

  abbrev labels_at : List Aim → Labels
  labels_at aims = map (λ (a : Aim). a.value) aims

  return_passes_on : (v : Option ValType) (own base rest : Stack) → own ≡ reverse (values v) ++ rest → v ≡ c.context.result
      → There exit_label → HasSlots slots (own ++ base) → All (jump (exit_of c.context.result) (own ++ base))
  return_passes_on v own base rest e same there = taken (λ types. HasSlots slots types → All (jump (exit_of c.context.result) types))
      (values v) own base rest e
      (λ low has. jump_passes (exit_of c.context.result) (reverse (values v) ++ low) there
      (λ t f. (k.result_slot t f, top_of v low has t (same ∙ f))))

  br_passes : (aims : List Aim) (label : ℕ) (is_named : ℕ → Bool) (v : Option ValType) (own base rest : Stack)
      → slice_get (labels_at aims) label ≡ Some v → own ≡ reverse (values v) ++ rest → AreAims s slots aims is_named → is_named label ≡ true
      → HasSlots slots (own ++ base) → All (if_aim (slice_get aims label) (λ aim. jump aim (own ++ base)))
  br_passes aims label is_named v own base rest found e are here has =
      let aim = aim_at aims v label found in
      subst (λ o. All (if_aim o (λ a. jump a (own ++ base)))) (sym aim.1)
      (taken (λ types. HasSlots slots types → All (jump aim.0 types)) (values v) own base rest e
      (λ low have. aim_jumps aim.0 v (is_named label) (reverse (values v) ++ low) (are label aim.0 aim.1) aim.2 (top_of v low have) here)
      has)

  br_if_passes : (aims : List Aim) (label l : ℕ) (is_named : ℕ → Bool) (v : Option ValType) (own base rest : Stack)
      → slice_get (labels_at aims) label ≡ Some v
      → own ≡ reverse (values v ++ I32 ∷ []) ++ rest → AreAims s slots aims is_named → is_named label ≡ true
      → HasSlots slots (own ++ base) → Passing (if_aim (slice_get aims label) (branch_if (drop 1 (own ++ base)) l))
  br_if_passes aims label l is_named v own base rest found e are here =
      let aim = aim_at aims v label found in
      taken (λ types. HasSlots slots types → Passing (if_aim (slice_get aims label) (branch_if (drop 1 types) l)))
      (values v ++ I32 ∷ []) own base rest e
      (λ low. subst (λ types. HasSlots slots types → Passing (if_aim (slice_get aims label) (branch_if (drop 1 types) l)))
      (sym (value_and_i32 v low))
      (λ have. subst (λ o. Passing (if_aim o (branch_if (values v ++ low) l))) (sym aim.1)
      (branch_if_passes (values v ++ low) l aim.0 (have I32 _ (stands_top I32 (values v ++ low))) ((are label aim.0 aim.1).there here)
      (aim_jumps aim.0 v (is_named label) (values v ++ low) (are label aim.0 aim.1) aim.2
      (top_is v low (below_top (values v ++ low) have)) here))))

  br_table_passes : (aims : List Aim) (labels : List ℕ) (default l : ℕ) (is_named : ℕ → Bool) (v : Option ValType) (own base rest : Stack)
      → AreTyped aims v (labels ++ default ∷ []) → AreNamed is_named (labels ++ default ∷ [])
      → own ≡ reverse (values v ++ I32 ∷ []) ++ rest → AreAims s slots aims is_named
      → HasSlots slots (own ++ base) → Passing (branch_table aims (drop 1 (own ++ base)) l labels default)
  br_table_passes aims labels default l is_named v own base rest typed named_are e are =
      taken (λ types. HasSlots slots types → Passing (branch_table aims (drop 1 types) l labels default))
      (values v ++ I32 ∷ []) own base rest e
      (λ low. subst (λ types. HasSlots slots types → Passing (branch_table aims (drop 1 types) l labels default))
      (sym (value_and_i32 v low))
      (λ have. branch_table_passes aims v is_named (values v ++ low) l labels default
      (have I32 _ (stands_top I32 (values v ++ low))) are typed named_are
      (top_is v low (below_top (values v ++ low) have))))

  trap_passes : All (makers.trap trap.Unreachable ∷ [])
  trap_passes = (
    call_passes_as s None (codes "w2c_trap") _ _ (type.U32 ∷ []) k.traps refl (value_arg s _ type.U32 (n32_typed s _), tt) tt,
    tt,
  )

  label_named : (labels : List ℕ) (default i : ℕ) → list_any (λ label. label == i) (labels ++ default ∷ []) ≡ true
      → list_any (λ label. label == i) labels || default == i ≡ true
  label_named labels default i e =
      ap (λ b. list_any (λ label. label == i) labels || b) (sym (or_false (default == i)))
      ∙ (sym (list_any-append (λ label. label == i) labels (default ∷ [])) ∙ e)
    where
      or_false : (b : Bool) → b || false ≡ b
      or_false true = refl
      or_false false = refl

  -- the statements of an `if`, over what its branches are
  if_kept : (otherwise : Otherwise) (height l : ℕ) (goes_on is_named : Bool) (first second : List tree.Stmt) → slots I32 height ≡ true
      → Passing first → Passing second → Passing (if_stmts otherwise height l goes_on is_named first second)
  if_kept no_else height l goes_on is_named first second has one two here = (
    jump_if_passes s c whole slots k op.Eq height (suc l) refl has
        (first_present s.body.stmts (label_name (suc l)) [] (right_present s.body.stmts first (tree.Label (label_name (suc l)) ∷ []) here)),
    all_append (Passes s) first (tree.Label (label_name (suc l)) ∷ [])
        (one (left_present s.body.stmts first (tree.Label (label_name (suc l)) ∷ []) here)) (label_passes s (label_name (suc l)) refl, tt),
  )
  if_kept (else_code place code) height l goes_on is_named first second has one two here =
      let b = s.body.stmts in
      let end = label_if (goes_on || is_named) (suc l) in
      let from_label = tree.Label (label_name l) ∷ (second ++ end) in
      let over = jump_over goes_on (suc l) in
      let after_first = right_present b first (over ++ from_label) here in
      let labelled = right_present b over from_label after_first in
      let after_label : Here (second ++ end) = right_present b (tree.Label (label_name l) ∷ []) (second ++ end) labelled in (
        jump_if_passes s c whole slots k op.Eq height l refl has (first_present b (label_name l) (second ++ end) labelled),
        all_append (Passes s) first (over ++ from_label) (one (left_present b first (over ++ from_label) here))
            (all_append (Passes s) over from_label (over_passes goes_on is_named l (right_present b second end after_label)) (
              label_passes s (label_name l) refl,
              all_append (Passes s) second end (two (left_present b second end after_label))
                  (label_if_passes (goes_on || is_named) (suc l)),
            )),
      )
    where
      over_passes : (goes_on is_named : Bool) (l : ℕ) → Here (label_if (goes_on || is_named) (suc l)) → All (jump_over goes_on (suc l))
      over_passes true is_named l h = (goto_passes s (label_name (suc l)) (first_present s.body.stmts (label_name (suc l)) [] h), tt)
      over_passes false is_named l h = tt

  if_end : (otherwise : Otherwise) (height l : ℕ) (goes_on is_named : Bool) (first second : List tree.Stmt)
      → Here (if_stmts otherwise height l goes_on is_named first second) → is_named ≡ true → There (suc l)
  if_end no_else height l goes_on is_named first second here e =
      first_present s.body.stmts (label_name (suc l)) [] (right_present s.body.stmts first (tree.Label (label_name (suc l)) ∷ []) here)
  if_end (else_code place code) height l goes_on is_named first second here e =
      let b = s.body.stmts in
      let end = label_if (goes_on || is_named) (suc l) in
      let from_label = tree.Label (label_name l) ∷ (second ++ end) in
      let over = jump_over goes_on (suc l) in
      let labelled = right_present b over from_label (right_present b first (over ++ from_label) here) in
      let after_label : Here (second ++ end) = right_present b (tree.Label (label_name l) ∷ []) (second ++ end) labelled in
      named_present b (goes_on || is_named) (suc l) (or_right goes_on is_named e) (right_present b second end after_label)

  continued : (e : Bool) (stmts : List tree.Stmt) → (e ≡ false → All stmts) → All (behind e stmts)
  continued true stmts f = tt
  continued false stmts f = f refl

  go_on : (body stmts : List tree.Stmt) (e : Bool) → e ≡ false → Present body (behind e stmts) → Present body stmts
  go_on body stmts true same p = absurd cc
  go_on body stmts false same p = p

  third : (a b e x : Bool) → e ≡ false → x ≡ true → a || (b || (not e && x)) ≡ true
  third a b true x same is = absurd cc
  third a b false x same is = or_right a (b || x) (or_right b x is)

  second : (a e x : Bool) → e ≡ false → x ≡ true → a || (not e && x) ≡ true
  second a true x same is = absurd cc
  second a false x same is = or_right a x is

  values_slot : (v : Option ValType) (low : Stack) → HasSlots slots (reverse (values v) ++ low) → (t : ValType) → v ≡ Some t
      → slots t (length low) ≡ true
  values_slot None low has t e = absurd cc
  values_slot (Some u) low has t e = subst (λ t. slots t (length low) ≡ true) (same_Some u t e) (has u (length low) (stands_top u low))

  -- the slot of a block's value, which is put on its operands
  block_slot : (v : Option ValType) (own outs base : Stack) → Turns [] (values v) own outs → HasSlots slots (outs ++ base)
      → (t : ValType) → v ≡ Some t → slots t (length (own ++ base)) ≡ true
  block_slot v own outs base w = shaped (λ types os. HasSlots slots os → (t : ValType) → v ≡ Some t → slots t (length types) ≡ true) []
      (values v) own outs base w
      (λ low. values_slot v low)

  module _ (after_is : AfterIsOuts) where
    mutual
      pub code_passes : (aims : List Aim) (l : ℕ) (own outs base : Stack) (code : Code) → HasType c.context (labels_at aims) code own outs
          → AreAims s slots aims (λ i. targets i code) → Occur (own ++ base) code → CodeInside code
          → Passing (emit c aims (own ++ base) l code)
      code_passes aims l own outs base end_code typed are occur inside here = tt
      code_passes aims l own outs base (then_code place kind code) typed are occur inside here =
          let types : Stack = own ++ base in
          let rest : List tree.Stmt = emit c aims (after c.context types kind) (label_count kind + l) code in
          let rest_occurs : ends kind ≡ false → Occur (typed.0 ++ base) code =
          λ e t h o. occur t h (third (stands t h types) (occurs_in t h c.context types kind) (ends kind)
          (occurs t h c.context (after c.context types kind) code) e
          (subst (λ ts. occurs t h c.context ts code ≡ true)
          (sym (after_is c.context (labels_at aims) kind own typed.0 base typed.1 e)) o)) in
          all_append (Passes s) (emit_kind c aims types l kind) (behind (ends kind) rest)
          (kind_passes aims l own typed.0 base kind typed.1
          (fewer_aims s slots aims (λ i. targets i (then_code place kind code)) (λ i. targets_in i kind)
          (λ i e. or_left (targets_in i kind) _ e) are)
          (λ t h e. occur t h (or_left (stands t h types) _ e))
          (λ e t h o. rest_occurs e t h (stands_occurs t h c.context (typed.0 ++ base) code o))
          (λ t h e. occur t h (or_right (stands t h types) _ (or_left (occurs_in t h c.context types kind) _ e)))
          (λ test e. inside test (or_left (test kind || any_inside test kind) _ (or_left (test kind) _ e)))
          (λ test e. inside test (or_left (test kind || any_inside test kind) _ (or_right (test kind) _ e)))
          (left_present s.body.stmts (emit_kind c aims types l kind) (behind (ends kind) rest) here))
          (continued (ends kind) rest (λ e.
          let same = after_is c.context (labels_at aims) kind own typed.0 base typed.1 e in
          subst (λ ts. Passing (emit c aims ts (label_count kind + l) code)) (sym same)
          (code_passes aims (label_count kind + l) typed.0 outs base code typed.2
          (fewer_aims s slots aims (λ i. targets i (then_code place kind code)) (λ i. targets i code)
          (λ i t. second (targets_in i kind) (ends kind) (targets i code) e t) are)
          (rest_occurs e)
          (λ test t. inside test (second (test kind || any_inside test kind) (ends kind) (any_in test code) e t)))
          (go_on s.body.stmts rest (ends kind) e (right_present s.body.stmts (emit_kind c aims types l kind)
          (behind (ends kind) rest) here))))

      pub kind_passes : (aims : List Aim) (l : ℕ) (own outs base : Stack) (kind : Kind)
          → KindHasType c.context (labels_at aims) kind own outs
          → AreAims s slots aims (λ i. targets_in i kind) → HasSlots slots (own ++ base)
          → (ends kind ≡ false → HasSlots slots (outs ++ base))
          → Occurring (own ++ base) kind → IsWithinCode kind whole → Inside kind → Passing (emit_kind c aims (own ++ base) l kind)
      kind_passes aims l own outs base (wasm.Block t code end_place) typed are below next occur within inside here =
          let inner : Aim = record { label = l; height = length (own ++ base); value = t } in
          let stmts : List tree.Stmt = emit c (inner ∷ aims) (own ++ base) (suc l) code in
          let ended : List tree.Stmt = label_if (targets 0 code) l in
          all_append (Passes s) stmts ended
          (code_passes (inner ∷ aims) (suc l) [] (values t) (own ++ base) code typed.0
          (inner_aims s slots inner aims (λ i. targets (suc i) code) (λ i. targets i code)
          (record {
            there = λ e. named_present s.body.stmts (targets 0 code) l e (right_present s.body.stmts stmts ended here);
            slot_is = block_slot t own outs base typed.1 (next refl);
          })
          (λ i e. e) are)
          occur inside (left_present s.body.stmts stmts ended here))
          (label_if_passes (targets 0 code) l)
      kind_passes aims l own outs base (wasm.Loop t code end_place) typed are below next occur within inside here =
          let inner : Aim = record { label = l; height = length (own ++ base); value = None } in
          let stmts : List tree.Stmt = emit c (inner ∷ aims) (own ++ base) (suc l) code in
          let begun : List tree.Stmt = label_if (targets 0 code) l in
          all_append (Passes s) begun stmts
          (label_if_passes (targets 0 code) l)
          (code_passes (inner ∷ aims) (suc l) [] (values t) (own ++ base) code typed.0
          (inner_aims s slots inner aims (λ i. targets (suc i) code) (λ i. targets i code)
          (record {
            there = λ e. named_present s.body.stmts (targets 0 code) l e (left_present s.body.stmts begun stmts here);
            slot_is = λ u e. absurd cc;
          })
          (λ i e. e) are)
          occur inside (right_present s.body.stmts begun stmts here))
      kind_passes aims l own outs base (wasm.If t code otherwise end_place) typed are below next occur within inside here =
          shaped (λ types os. HasSlots slots types → HasSlots slots os → Occurring types (wasm.If t code otherwise end_place)
          → Passing (emit_kind c aims types l (wasm.If t code otherwise end_place)))
          (I32 ∷ []) (values t) own outs base typed.2
          (λ low have behind_it occurs_there present.
          let inner : Aim = record { label = suc l; height = length low; value = t } in
          let first : List tree.Stmt = emit c (inner ∷ aims) low (suc (suc l)) code in
          let other : List tree.Stmt = emit_else c (inner ∷ aims) low (labels_in code + suc (suc l)) otherwise in
          let is_named : Bool = targets 0 code || targets_else 0 otherwise in
          let inner_is : (b : Bool) → (b ≡ true → is_named ≡ true) → IsAim s slots b inner = λ b f. record {
            there = λ e. if_end otherwise (length low) l (falls code) is_named first other present (f e);
            slot_is = values_slot t low behind_it;
          }
          in
          if_kept otherwise (length low) l (falls code) is_named first other (have I32 (length low) (stands_top I32 low))
          (code_passes (inner ∷ aims) (suc (suc l)) [] (values t) low code typed.0
          (inner_aims s slots inner aims (λ i. targets_in i (wasm.If t code otherwise end_place)) (λ i. targets i code)
          (inner_is (targets 0 code) (λ e. or_left (targets 0 code) _ e)) (λ i e. or_left (targets (suc i) code) _ e) are)
          (λ u h e. occurs_there u h (or_left (occurs u h c.context low code) _ e))
          (λ test e. inside test (or_left (any_in test code) _ e)))
          (else_passes (inner ∷ aims) (labels_in code + suc (suc l)) t low otherwise typed.1
          (inner_aims s slots inner aims (λ i. targets_in i (wasm.If t code otherwise end_place)) (λ i. targets_else i otherwise)
          (inner_is (targets_else 0 otherwise) (λ e. or_right (targets 0 code) _ e)) (λ i e. or_right (targets (suc i) code) _ e) are)
          (λ u h e. occurs_there u h (or_right (occurs u h c.context low code) _ e))
          (λ test e. inside test (or_right (any_in test code) _ e))) present)
          below (next refl) occur here
      kind_passes aims l own outs base (wasm.Br label) typed are below next occur within inside here =
          br_passes aims label (λ i. targets_in i (wasm.Br label)) typed.0 own base typed.2.0 typed.1 typed.2.1 are
          (same_number label) below
      kind_passes aims l own outs base (wasm.BrIf label) typed are below next occur within inside here =
          br_if_passes aims label l (λ i. targets_in i (wasm.BrIf label)) typed.0 own base typed.2.0 typed.1 typed.2.1 are
          (same_number label) below here
      kind_passes aims l own outs base (wasm.BrTable labels default) typed are below next occur within inside here =
          br_table_passes aims labels default l (λ i. targets_in i (wasm.BrTable labels default)) typed.0 own base typed.3.0
          (all_append (λ i. slice_get (labels_at aims) i ≡ Some typed.0) labels (default ∷ []) typed.2 (typed.1, tt))
          (label_named labels default) typed.3.1 are below here
      kind_passes aims l own outs base wasm.Return typed are below next occur within inside here =
          return_passes_on c.context.result own base typed.0 typed.1 refl (k.exit_there (within is_return refl)) below
      kind_passes aims l own outs base wasm.Unreachable typed are below next occur within inside here = trap_passes
      kind_passes aims l own outs base (wasm.Call x) typed are below next occur within inside here =
          shaped (λ types os. HasSlots slots types → HasSlots slots os → All (call_stmts c types x)) typed.0.params
          (values typed.0.result) own outs base typed.2
          (λ low. call_kept x typed.0 low typed.1) below (next refl)
      kind_passes aims l own outs base (wasm.CallIndirect x) typed are below next occur within inside here =
          shaped (λ types os. HasSlots slots types → HasSlots slots os → All (call_indirect_stmts c (drop 1 types) x))
          (typed.0.params ++ I32 ∷ []) (values typed.0.result) own outs base typed.3
          (λ low. subst (λ types. HasSlots slots types → HasSlots slots (reverse (values typed.0.result) ++ low)
          → All (call_indirect_stmts c (drop 1 types) x))
          (sym (params_and_i32 typed.0.params low)) (call_indirect_kept x typed.0 low typed.1 typed.2 within)) below (next refl)
      kind_passes aims l own outs base wasm.Select typed are below next occur within inside here =
          shaped (λ types os. HasSlots slots types → HasSlots slots os → Passing (plain_stmts c types l wasm.Select))
          (typed.0 ∷ typed.0 ∷ I32 ∷ []) (typed.0 ∷ []) own outs base typed.1
          (λ low have behind_it present. select_kept s c whole slots k typed.0 l low
          (first_present s.body.stmts (label_name l) [] present) have behind_it)
          below (next refl) here
      kind_passes aims l own outs base kind typed are below next occur within inside here =
          plain_kept s c whole slots k kind (labels_at aims) l own outs base refl typed within below (next refl)

      pub else_passes : (aims : List Aim) (l : ℕ) (t : Option ValType) (base : Stack) (otherwise : Otherwise)
          → ElseHasType c.context (labels_at aims) otherwise t → AreAims s slots aims (λ i. targets_else i otherwise)
          → ((u : ValType) (h : ℕ) → occurs_in_else u h c.context base otherwise ≡ true → slots u h ≡ true)
          → ((test : Kind → Bool) → any_in_else test otherwise ≡ true → any_in test whole ≡ true)
          → Passing (emit_else c aims base l otherwise)
      else_passes aims l t base no_else typed are occur inside here = tt
      else_passes aims l t base (else_code place code) typed are occur inside here =
          code_passes aims l [] (values t) base code typed are occur inside here
