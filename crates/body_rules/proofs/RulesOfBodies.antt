-- The function of a body keeps the rules in a unit that declares what it needs.
use Rattle.w2c_base.specs.declared.trap.TrapKind.TheVariants as trap
use Rattle.c_tree.specs.declared.tree.CType.TheVariants as type
use Rattle.c_tree.specs.declared.tree.COp.TheVariants as op
use Rattle.c_tree.specs.Tree as tree
use Rattle.c_tree.specs.Scope as scope
use Rattle.body_rules.proofs.Common.{labels_of, ◌≡◌, ℕ, zero, suc, true, false, List, [], ◌∷◌, ◌++◌, slice_get, Some, None}
use Rattle.body_rules.proofs.Common.{codes, Option, sym, refl, ap, ◌∙◌, subst, append_assoc, or_left, or_right, same_Some, AllByRecursion}
use Rattle.body_rules.proofs.Common.{all_append, named, ValType, Code, BodyHasType, values, ends_body, Scope, is_among, variables, COp, N32}
use Rattle.body_rules.proofs.Common.{CType, bytes_equal, c_result_of, c_type_of, depth_name, change_depth, code_stmts, give_back, has_slot}
use Rattle.body_rules.proofs.Common.{is_return, names_exit, stmts_of, Aim, entry_label, exit_label, exit_of, first_label, label_if, any_in}
use Rattle.body_rules.proofs.Common.{targets, label_name, Setting, operand, occurs, stands}
use Rattle.c_tree.specs.Makers as makers
use Rattle.body_rules.proofs.Rules.{Passes, name_typed, n32_typed, op_typed, value_arg, set_passes, if_passes, label_passes, call_passes_as}
use Rattle.body_rules.proofs.Rules.{return_none_passes, return_passes, IsArg}
use Rattle.body_rules.proofs.RulesOfKinds.{Knows, no_void, operand_arg}
use Rattle.body_rules.proofs.RulesOfCode.{AfterIsOuts, Present, left_present, right_present, named_present, IsAim, label_if_passes}
use Rattle.body_rules.proofs.RulesOfCode.{code_passes}
use Rattle.body_rules.proofs.RulesOfFunctions.{ends_well}

-- ---- the statements of a body

abbrev head : Option ValType → List tree.Stmt
head result =
    tree.If op.Lt (tree.Name depth_name) (tree.Number (N32 1024)) (label_name entry_label)
    ∷ makers.trap trap.Exhaustion
    ∷ give_back result
    ∷ tree.Label (label_name entry_label)
    ∷ change_depth op.Add
    ∷ []

abbrev exit : Option ValType → List tree.Stmt
exit result = change_depth op.Sub ∷ give_back result ∷ []

-- what a body's labels stand for
pub exit_is_there : (c : Setting) (code : Code) (body : List tree.Stmt) → Present body (stmts_of c code) → any_in is_return code ≡ true
    → is_among (label_name exit_label) (labels_of body) ≡ true
exit_is_there c code body p e =
    let last : List tree.Stmt = label_if (names_exit code) exit_label ++ exit c.context.result in
    named_present body (names_exit code) exit_label (or_right (targets 0 code) (any_in is_return code) e)
    (left_present body (label_if (names_exit code) exit_label) (exit c.context.result)
    (right_present body (code_stmts c code) last (right_present body (head c.context.result) (code_stmts c code ++ last) p)))

module _ (s : Scope) (c : Setting) (code : Code) (k : Knows s c code (λ t h. has_slot t c.context code h)) where
  abbrev all : List tree.Stmt → Type 0
  all stmts = AllByRecursion (Passes s) stmts

  depth_passes : named depth_name (variables s) ≡ Some type.U32 → (o : COp) → scope.is_comparison o ≡ false → Passes s (change_depth o)
  depth_passes d o e =
      set_passes s depth_name _ type.U32 d refl
      (value_arg s _ type.U32 (op_typed s o (tree.Name depth_name) (tree.Number (N32 1)) type.U32 e refl
      (name_typed s depth_name type.U32 d refl) (n32_typed s 1)))

  give_passes : s.func.result ≡ c_result_of c.context.result → Passes s (give_back c.context.result)
  give_passes e = by c.context.result refl
    where
      by : (r : Option ValType) → c.context.result ≡ r → Passes s (give_back r)
      by None f = return_none_passes s (rw (e, f) refl)
      by (Some t) f =
          let same : s.func.result ≡ c_type_of t = e ∙ ap c_result_of f in
          return_passes s (tree.Value (operand t 0)) (rw same (no_void t))
          (subst (λ r. scope_arg r) (sym same) (operand_arg s c code (λ u h. has_slot u c.context code h) k t 0 (k.result_slot t f)))
        where
          scope_arg : CType → Type 0
          scope_arg r = IsArg s r (tree.Value (operand t 0))

  pub body_passes : AfterIsOuts → BodyHasType c.context code → s.body.stmts ≡ stmts_of c code → s.func.result ≡ c_result_of c.context.result
      → named depth_name (variables s) ≡ Some type.U32 → AllByRecursion (Passes s) (stmts_of c code)
  body_passes after_is typed same result d =
      let r : Option ValType = c.context.result in
      let labelled : List tree.Stmt = label_if (names_exit code) exit_label in
      let last : List tree.Stmt = labelled ++ exit r in
      let whole : Present s.body.stmts (stmts_of c code) = subst (λ b. Present b (stmts_of c code)) (sym same) (λ name e. e) in
      let behind_head : Present s.body.stmts (code_stmts c code ++ last) =
      right_present s.body.stmts (head r) (code_stmts c code ++ last) whole in
      all_append (Passes s) (head r) (code_stmts c code ++ last) (
        if_passes s op.Lt (tree.Name depth_name) (tree.Number (N32 1024)) (label_name entry_label) type.U32 refl refl
            (name_typed s depth_name type.U32 d refl) (n32_typed s 1024)
            (whole (label_name entry_label) (entry_there r)),
        (
          call_passes_as s None (codes "w2c_trap") _ _ (type.U32 ∷ []) k.traps refl (value_arg s _ type.U32 (n32_typed s _), tt) tt,
          (give_passes result, (label_passes s (label_name entry_label) refl, (depth_passes d op.Add refl, tt))),
        ),
      )
      (all_append (Passes s) (code_stmts c code) last
      (code_passes s c code (λ t h. has_slot t c.context code h) k after_is (exit_of r ∷ []) first_label [] (values r) [] code typed
      (aims_are behind_head)
      (λ t h e. or_right (stands t h (values r)) (occurs t h c.context [] code) e)
      (λ test e. e)
      (left_present s.body.stmts (code_stmts c code) last behind_head))
      (all_append (Passes s) labelled (exit r) (label_if_passes s c code (λ t h. has_slot t c.context code h) k
      (names_exit code) exit_label)
      (depth_passes d op.Sub refl, (give_passes result, tt))))
    where
      entry_there : (r : Option ValType) → is_among (label_name entry_label)
          (labels_of (head r ++ (code_stmts c code ++ (label_if (names_exit code) exit_label ++ exit r)))) ≡ true
      entry_there None = or_left _ _ (bytes_equal (label_name entry_label))
      entry_there (Some t) = or_left _ _ (bytes_equal (label_name entry_label))

      aims_are : Present s.body.stmts (code_stmts c code ++ (label_if (names_exit code) exit_label ++ exit c.context.result))
          → (i : ℕ) (aim : Aim) → slice_get (exit_of c.context.result ∷ []) i ≡ Some aim
          → IsAim s (λ t h. has_slot t c.context code h) (targets i code) aim
      aims_are p zero aim e =
          subst (IsAim s (λ t h. has_slot t c.context code h) (targets 0 code)) (same_Some (exit_of c.context.result) aim e) (record {
            there = λ t. named_present s.body.stmts (names_exit code) exit_label (or_left (targets 0 code) (any_in is_return code) t)
                (left_present s.body.stmts (label_if (names_exit code) exit_label) (exit c.context.result)
                (right_present s.body.stmts (code_stmts c code) (label_if (names_exit code) exit_label ++ exit c.context.result) p));
            slot_is = k.result_slot;
          })
      aims_are p (suc i) aim e = absurd cc

-- ---- its labels are distinct, and it ends by a return

ends_behind : (before : List tree.Stmt) (stmt : tree.Stmt) (stmts : List tree.Stmt)
    → ends_well (before ++ stmt ∷ stmts) ≡ ends_well (stmt ∷ stmts)
ends_behind [] stmt stmts = refl
ends_behind (x ∷ []) stmt stmts = refl
ends_behind (x ∷ y ∷ before) stmt stmts = ends_behind (y ∷ before) stmt stmts

pub body_ends_well : (c : Setting) (code : Code) → ends_well (stmts_of c code) ≡ true
body_ends_well c code =
    let r : Option ValType = c.context.result in
    let labelled : List tree.Stmt = label_if (names_exit code) exit_label in
    ap ends_well (sym (append_assoc (head r) (code_stmts c code) (labelled ++ exit r))
    ∙ sym (append_assoc (head r ++ code_stmts c code) labelled (exit r)))
    ∙ (ends_behind ((head r ++ code_stmts c code) ++ labelled) (change_depth op.Sub) (give_back r ∷ []) ∙ returns r)
  where
    returns : (r : Option ValType) → ends_body (give_back r) ≡ true
    returns None = refl
    returns (Some t) = refl
