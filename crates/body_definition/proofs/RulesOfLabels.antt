-- The labels of code are distinct: they are the names of distinct numbers within those that the code takes.
use Rattle.body_definition.proofs.Common.{change_depth, code_stmts, give_back, stmts_of, ◌≡◌, ℕ, suc, ◌+◌, ◌^◌, ◌<◌, ◌≤◌, Bool, true, false}
use Rattle.body_definition.proofs.Common.{◌||◌, List, [], ◌∷◌, ◌++◌, length, drop, if◌then◌else◌, slice_get, Some, None, Option, refl}
use Rattle.body_definition.proofs.Common.{arith, length-append, ValType, Code, Kind, Otherwise, else_code, end_code, no_else, then_code}
use Rattle.body_definition.proofs.Common.{Stack, Aim, branch_if, branch_table, call_indirect_stmts, call_stmts, emit, emit_kind, exit_of}
use Rattle.body_definition.proofs.Common.{if_aim, is_straight, jump, jump_over, label_if, moving_case, moving_cases, falls, labels_in}
use Rattle.body_definition.proofs.Common.{labels_in_else, targets, label_name, Setting, binary_way, by_way, compare_way, if_type}
use Rattle.body_definition.proofs.Common.{plain_stmts, set_slot, after, ends, Way, ByOperator}
use Rattle.body_forms.specs.Branches.{entry_label, exit_label, first_label}
use Rattle.body_definition.specs.Body.{names_exit}
use Rattle.w2c_base.specs.declared.value.ValType.TheVariants.{I32}
use Rattle.wasm_tree.specs.Instructions as wasm
use Rattle.c_tree.specs.declared.tree.COp.TheVariants as op
use Rattle.c_tree.specs.Tree as tree
use Rattle.c_tree.specs.Rules.{labels_of, are_distinct}
use Rattle.body_definition.specs.Labels.{labels_of as label_count, targets_else}
use Rattle.body_definition.specs.Code.{behind, emit_else, if_stmts}
use Rattle.body_forms.specs.Names.{local_name}
use Rattle.c_symbols.specs.Objects.{set_global}
use Rattle.body_forms.specs.Slots.{operand, selected}
use Rattle.c_tree.proofs.NumberedLabels.{Between, Within, none, one, joined, upward, downward, wider, skip, behind_one, labels_differ}

-- ---- parts of code without labels

jump_none : (aim : Aim) (types : Stack) → labels_of (jump aim types) ≡ []
jump_none aim types = grind arith

way_none : (w : Way) (t result : ValType) (h : ℕ) (f : tree.Expr → tree.Expr) → labels_of (by_way w t result h f ∷ []) ≡ []
way_none (ByOperator o) t result h f = refl
way_none _ t result h f = refl

if_type_none : (o : Option ValType) (f : ValType → tree.Stmt) → ((t : ValType) → labels_of (f t ∷ []) ≡ [])
    → labels_of (if_type o (λ t. f t ∷ [])) ≡ []
if_type_none None f g = refl
if_type_none (Some t) f g = g t

call_none : (c : Setting) (types : Stack) (x : ℕ) → labels_of (call_stmts c types x) ≡ []
call_none c types x = grind arith

indirect_none : (c : Setting) (types : Stack) (x : ℕ) → labels_of (call_indirect_stmts c types x) ≡ []
indirect_none c types x = grind arith

set_global_none : (c : Setting) (x : ℕ) (e : tree.Expr) → labels_of (set_global c.named.tree x e ∷ []) ≡ []
set_global_none c x e = grind arith

global_get_none : (c : Setting) (types : Stack) (l x : ℕ) → labels_of (plain_stmts c types l (wasm.GlobalGet x)) ≡ []
global_get_none c types l x = grind arith

global_set_none : (c : Setting) (types : Stack) (l x : ℕ) → labels_of (plain_stmts c types l (wasm.GlobalSet x)) ≡ []
global_set_none c types l x = grind (arith, set_global_none)

-- ---- code

if_aim_within : (l u : ℕ) (o : Option Aim) (f : Aim → List tree.Stmt) → ((aim : Aim) → Within l u (f aim)) → Within l u (if_aim o f)
if_aim_within l u None f g = none l u [] refl
if_aim_within l u (Some aim) f g = g aim

jump_within : (l u : ℕ) (aim : Aim) (types : Stack) → Within l u (jump aim types)
jump_within l u aim types = none l u (jump aim types) (jump_none aim types)

pub label_if_within : (l u n : ℕ) (b : Bool) → l ≤ n → n < u → Within l u (label_if b n)
label_if_within l u n true le less = one l u n le less
label_if_within l u n false le less = none l u [] refl

branch_if_within : (types : Stack) (l : ℕ) (aim : Aim) → Within l (1 + l) (branch_if types l aim)
branch_if_within types l aim = grind (arith, none, behind_one, upward, one, jump_within)

moving_case_within : (types : Stack) (l : ℕ) (aim : Aim) → Within l (suc l) (moving_case types l aim)
moving_case_within types l aim = by (is_straight aim types)
  where
    by : (b : Bool) → Within l (suc l) (if b then [] else tree.Label (label_name l) ∷ jump aim types)
    by true = none l (suc l) [] refl
    by false = upward l (suc l) (suc l) (tree.Label (label_name l) ∷ []) (jump aim types) (omega arith) (omega arith)
        (one l (suc l) l (omega arith) (omega arith)) (jump_within (suc l) (suc l) aim types)

moving_cases_within : (aims : List Aim) (types : Stack) (l : ℕ) (ks : List ℕ) → Within l (length ks + l) (moving_cases aims types l ks)
moving_cases_within aims types l [] = none l (0 + l) [] refl
moving_cases_within aims types l (i ∷ ks) =
    upward l (suc l) (suc (length ks) + l) (if_aim (slice_get aims i) (moving_case types l)) (moving_cases aims types (suc l) ks)
    (omega arith) (omega arith)
    (if_aim_within l (suc l) (slice_get aims i) (moving_case types l) (moving_case_within types l))
    (wider (suc l) (length ks + suc l) (suc l) (suc (length ks) + l) (moving_cases aims types (suc l) ks) (omega arith) (omega arith)
    (moving_cases_within aims types (suc l) ks))

branch_table_within : (aims : List Aim) (types : Stack) (l : ℕ) (labels : List ℕ) (default : ℕ)
    → Within l (suc (length labels) + l) (branch_table aims types l labels default)
branch_table_within aims types l labels default =
    let more = length-append labels (default ∷ []) in
    behind_one l (suc (length labels) + l) _ _ refl
    (wider l (length (labels ++ default ∷ []) + l) l (suc (length labels) + l) (moving_cases aims types l (labels ++ default ∷ []))
    (omega arith) (omega (arith, more)) (moving_cases_within aims types l (labels ++ default ∷ [])))

select_within : (c : Setting) (types : Stack) (l : ℕ) → Within l (1 + l) (plain_stmts c types l wasm.Select)
select_within c types l = by (slice_get types 1)
  where
    by : (o : Option ValType) → Within l (1 + l) (if_type o (selected l (length (drop 3 types))))
    by None = none l (1 + l) [] refl
    by (Some t) = behind_one l (1 + l) _ _ refl (behind_one l (1 + l) _ _ refl (one l (1 + l) l (omega arith) (omega arith)))

-- from here on, and not between: the numbers around those of a first branch
abbrev Around : ℕ → ℕ → ℕ → ℕ → ℕ → Type 0
Around l m u from n = (from ≤ n) × (n < u) × (suc (suc l) ≤ n → m ≤ n)

if_within : (otherwise : Otherwise) (height l m u : ℕ) (goes_on is_named : Bool) (first second : List tree.Stmt) → suc (suc l) ≤ m → m ≤ u
    → Within (suc (suc l)) m first → Within m u second → Within l u (if_stmts otherwise height l goes_on is_named first second)
if_within no_else height l m u goes_on is_named first second p q a b =
    behind_one l u _ _ refl
    (downward l (suc (suc l)) u first (tree.Label (label_name (suc l)) ∷ []) (omega arith) (omega (arith, p, q))
    (wider (suc (suc l)) m (suc (suc l)) u first (omega arith) q a) (one l (suc (suc l)) (suc l) (omega arith) (omega arith)))
if_within (else_code place code) height l m u goes_on is_named first second p q a b =
    let end = label_if (goes_on || is_named) (suc l) in
    let labelled = tree.Label (label_name l) ∷ (second ++ end) in
    behind_one l u _ _ refl
    (joined (Between (suc (suc l)) m) (Around l m u l) (Between l u) first (jump_over goes_on (suc l) ++ labelled)
    (λ n h. (omega (arith, h.0), omega (arith, h.1, q))) (λ n h. (h.0, h.1))
    (λ n k h j e. absurd (omega (arith, h.1, e, j.2 (omega (arith, h.0, e))))) a
    (skip (Around l m u l) (jump_over goes_on (suc l)) labelled (over_none goes_on)
    (joined (Between l (suc l)) (Around l m u (suc l)) (Around l m u l) (tree.Label (label_name l) ∷ []) (second ++ end)
    (λ n h. (h.0, omega (arith, h.1, p, q), λ le. absurd (omega (arith, le, h.1)))) (λ n h. (omega (arith, h.0), h.1, h.2))
    (λ n k h j e. absurd (omega (arith, h.1, j.0, e))) (one l (suc l) l (omega arith) (omega arith))
    (joined (Between m u) (Between (suc l) (suc (suc l))) (Around l m u (suc l)) second end
    (λ n h. (omega (arith, h.0, p), h.1, λ le. h.0)) (λ n h. (h.0, omega (arith, h.1, p, q), λ le. absurd (omega (arith, le, h.1))))
    (λ n k h j e. absurd (omega (arith, h.0, j.1, e, p))) b
    (label_if_within (suc l) (suc (suc l)) (suc l) (goes_on || is_named) (omega arith) (omega arith))))))
  where
    over_none : (b : Bool) → labels_of (jump_over b (suc l)) ≡ []
    over_none true = refl
    over_none false = refl

behind_within : (l u : ℕ) (e : Bool) (stmts : List tree.Stmt) → Within l u stmts → Within l u (behind e stmts)
behind_within l u true stmts a = none l u [] refl
behind_within l u false stmts a = a

mutual
  pub code_within : (c : Setting) (aims : List Aim) (types : Stack) (l : ℕ) (code : Code)
      → Within l (labels_in code + l) (emit c aims types l code)
  code_within c aims types l end_code = none l (0 + l) [] refl
  code_within c aims types l (then_code place kind code) =
      let rest : List tree.Stmt = emit c aims (after c.context types kind) (label_count kind + l) code in
      upward l (label_count kind + l) (label_count kind + labels_in code + l) (emit_kind c aims types l kind) (behind (ends kind) rest)
      (omega arith) (omega arith)
      (kind_within c aims types l kind)
      (behind_within (label_count kind + l) (label_count kind + labels_in code + l) (ends kind) rest
      (wider (label_count kind + l) (labels_in code + (label_count kind + l)) (label_count kind + l)
      (label_count kind + labels_in code + l) rest (omega arith) (omega arith)
      (code_within c aims (after c.context types kind) (label_count kind + l) code)))

  pub kind_within : (c : Setting) (aims : List Aim) (types : Stack) (l : ℕ) (kind : Kind)
      → Within l (label_count kind + l) (emit_kind c aims types l kind)
  kind_within c aims types l (wasm.Block t code end_place) =
      let inner : Aim = record { label = l; height = length types; value = t } in
      let stmts : List tree.Stmt = emit c (inner ∷ aims) types (suc l) code in
      downward l (suc l) (suc (labels_in code) + l) stmts (label_if (targets 0 code) l) (omega arith) (omega arith)
      (wider (suc l) (labels_in code + suc l) (suc l) (suc (labels_in code) + l) stmts (omega arith) (omega arith)
      (code_within c (inner ∷ aims) types (suc l) code))
      (label_if_within l (suc l) l (targets 0 code) (omega arith) (omega arith))
  kind_within c aims types l (wasm.Loop t code end_place) =
      let inner : Aim = record { label = l; height = length types; value = None } in
      let stmts : List tree.Stmt = emit c (inner ∷ aims) types (suc l) code in
      upward l (suc l) (suc (labels_in code) + l) (label_if (targets 0 code) l) stmts (omega arith) (omega arith)
      (label_if_within l (suc l) l (targets 0 code) (omega arith) (omega arith))
      (wider (suc l) (labels_in code + suc l) (suc l) (suc (labels_in code) + l) stmts (omega arith) (omega arith)
      (code_within c (inner ∷ aims) types (suc l) code))
  kind_within c aims types l (wasm.If t code otherwise end_place) =
      let inner : Aim = record { label = suc l; height = length (drop 1 types); value = t } in
      let m : ℕ = labels_in code + suc (suc l) in
      wider l (labels_in_else otherwise + m) l (suc (suc (labels_in code + labels_in_else otherwise)) + l) _ (omega arith) (omega arith)
      (if_within otherwise (length (drop 1 types)) l m (labels_in_else otherwise + m) (falls code)
      (targets 0 code || targets_else 0 otherwise)
      (emit c (inner ∷ aims) (drop 1 types) (suc (suc l)) code)
      (emit_else c (inner ∷ aims) (drop 1 types) m otherwise)
      (omega arith) (omega arith)
      (code_within c (inner ∷ aims) (drop 1 types) (suc (suc l)) code)
      (else_within c (inner ∷ aims) (drop 1 types) m otherwise))
  kind_within c aims types l (wasm.Br label) = if_aim_within l (0 + l) (slice_get aims label) (λ aim. jump aim types)
      (λ aim. jump_within l (0 + l) aim types)
  kind_within c aims types l (wasm.BrIf label) = if_aim_within l (1 + l) (slice_get aims label) (branch_if (drop 1 types) l)
      (branch_if_within (drop 1 types) l)
  kind_within c aims types l (wasm.BrTable labels default) = branch_table_within aims (drop 1 types) l labels default
  kind_within c aims types l wasm.Return = jump_within l (0 + l) (exit_of c.context.result) types
  kind_within c aims types l wasm.Unreachable = none l (0 + l) _ refl
  kind_within c aims types l (wasm.Call x) = none l (0 + l) _ (call_none c types x)
  kind_within c aims types l (wasm.CallIndirect x) = none l (0 + l) _ (indirect_none c (drop 1 types) x)
  kind_within c aims types l wasm.Select = select_within c types l
  kind_within c aims types l (wasm.LocalGet x) = none l (0 + l) _
      (if_type_none (slice_get c.context.locals x) (λ t. set_slot t (length types) (tree.Name (local_name x))) (λ t. refl))
  kind_within c aims types l (wasm.LocalSet x) = none l (0 + l) _
      (if_type_none (slice_get c.context.locals x) (λ t. tree.Set (local_name x) (tree.Value (operand t (length (drop 1 types)))))
      (λ t. refl))
  kind_within c aims types l (wasm.LocalTee x) = none l (0 + l) _
      (if_type_none (slice_get c.context.locals x) (λ t. tree.Set (local_name x) (tree.Value (operand t (length (drop 1 types)))))
      (λ t. refl))
  kind_within c aims types l (wasm.GlobalGet x) = none l (0 + l) _ (global_get_none c types l x)
  kind_within c aims types l (wasm.GlobalSet x) = none l (0 + l) _ (global_set_none c types l x)
  kind_within c aims types l (wasm.Compare t o) = none l (0 + l) _ (way_none (compare_way t o) t I32 (length (drop 2 types)) tree.To32)
  kind_within c aims types l (wasm.Binary t o) = none l (0 + l) _ (way_none (binary_way t o) t t (length (drop 2 types)) (λ e. e))
  kind_within c aims types l kind = none l (label_count kind + l) _ refl

  pub else_within : (c : Setting) (aims : List Aim) (types : Stack) (l : ℕ) (otherwise : Otherwise)
      → Within l (labels_in_else otherwise + l) (emit_else c aims types l otherwise)
  else_within c aims types l no_else = none l (0 + l) [] refl
  else_within c aims types l (else_code place code) = code_within c aims types l code

-- ---- a body

give_none : (r : Option ValType) → labels_of (give_back r ∷ []) ≡ []
give_none None = refl
give_none (Some t) = refl

pub body_within : (c : Setting) (code : Code) → Within 0 (labels_in code + 2) (stmts_of c code)
body_within c code =
    let r : Option ValType = c.context.result in
    let u : ℕ = labels_in code + 2 in
    let exit : List tree.Stmt = change_depth op.Sub ∷ give_back r ∷ [] in
    let labelled : List tree.Stmt = label_if (names_exit code) exit_label in
    let last : List tree.Stmt = labelled ++ exit in
    let inner : List tree.Stmt = code_stmts c code ++ last in
    behind_one 0 u _ _ refl (behind_one 0 u _ _ refl (behind_one 0 u _ _ (give_none r)
    (upward 0 1 u (tree.Label (label_name entry_label) ∷ []) (change_depth op.Add ∷ inner) (omega arith) (omega arith)
    (one 0 1 0 (omega arith) (omega arith))
    (behind_one 1 u _ _ refl
    (downward 1 2 u (code_stmts c code) last (omega arith) (omega arith)
    (code_within c (exit_of r ∷ []) [] first_label code)
    (upward 1 2 2 labelled exit (omega arith) (omega arith) (label_if_within 1 2 1 (names_exit code) (omega arith) (omega arith))
    (none 2 2 exit (give_none r))))))))

pub body_labels_differ : (c : Setting) (code : Code) → labels_in code + 2 < 2 ^ 32 → are_distinct (labels_of (stmts_of c code)) ≡ true
body_labels_differ c code few = labels_differ 0 (labels_in code + 2) (stmts_of c code) (omega (arith, few)) (body_within c code)
