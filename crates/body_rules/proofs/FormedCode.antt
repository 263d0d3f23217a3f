-- The statements of code have numbers within their types, and no deep expressions.
use Rattle.body_rules.proofs.Common.{◌≡◌, ℕ, suc, ◌+◌, ◌*◌, ◌^◌, ◌<◌, ◌≤◌, Bool, true, false, not, ◌&&◌, ◌||◌, List, [], ◌∷◌, ◌++◌, length}
use Rattle.body_rules.proofs.Common.{drop, is_some, if◌then◌else◌, ◌==◌, slice_get, Some, None, Option, refl, pow-suc, arith, pow_pos, Code}
use Rattle.body_rules.proofs.Common.{pow_mono, AllByRecursion, all_append, at_index, params_digits, result_digit, sig_number_of, type_digit}
use Rattle.body_rules.proofs.Common.{FuncType, ValType, Kind, Otherwise, else_code, end_code, no_else, then_code, has_wide, Stack, Name, ℤ}
use Rattle.body_rules.proofs.Common.{FitsArg, FitsCallee, FitsExpr, FitsNum, FitsStmt, depth_limit, c_params_of, global_name, memory_name}
use Rattle.body_rules.proofs.Common.{table_name, number, c_func_type, global_imports, memory_imports, table_imports, code_stmts, give_back}
use Rattle.body_rules.proofs.Common.{names_exit, stmts_of, Aim, behind, branch_if, call_element, call_indirect_stmts, call_named, call_of}
use Rattle.body_rules.proofs.Common.{call_stmts, cases_from, emit, emit_else, emit_kind, exit_of, if_aim, if_stmts, is_straight, jump, ends}
use Rattle.body_rules.proofs.Common.{jump_over, label_if, moving_case, moving_cases, operands_from, result_slot, any_in, any_in_else, falls}
use Rattle.body_rules.proofs.Common.{any_inside, labels_in, targets, targets_else, element_name, label_name, local_name, pointer_name, Way}
use Rattle.body_rules.proofs.Common.{callee, global_value, memory_arg, set_global, table_arg, Setting, binary_way, by_way, compare_way, I32}
use Rattle.body_rules.proofs.Common.{if_type, jump_if, operand, plain_stmts, selected, set_slot, after, under, ByHelper, ByOperator, I64}
use Rattle.body_rules.proofs.Common.{ByShift, or_parts, bits_below, pattern_below, pattern_of}
use Rattle.w2c_base.proofs.SignatureNumbers.{result_digit-small, type_digit-small}
use Rattle.wasm_tree.specs.Instructions as wasm
use Rattle.wasm_tree.specs.declared.tree.Module.{Module}
use Rattle.c_tree.specs.declared.tree.COp.TheVariants as op
use Rattle.c_tree.specs.Tree as tree
use Rattle.body_definition.specs.Labels.{labels_of as label_count}
use Rattle.body_definition.proofs.Bounds.{not_wide}

abbrev pub Fits : List tree.Stmt → Type 0
Fits stmts = AllByRecursion (FitsStmt depth_limit) stmts

-- ---- numbers

digits_below : (n k : ℕ) (params : List ValType) → n < k → params_digits n params < k * 2 ^ length params
digits_below n k [] less = omega (arith, less)
digits_below n k (t ∷ params) less =
    let digit : type_digit t ≤ 1 = type_digit-small t in
    let rest : params_digits (2 * n + type_digit t) params < 2 * k * 2 ^ length params =
    digits_below (2 * n + type_digit t) (2 * k) params (omega (arith, less, digit)) in
    let twice : k * 2 ^ suc (length params) ≡ 2 * k * 2 ^ length params = doubled k (length params) in
    omega (arith, rest, twice)
  where
    doubled : (k n : ℕ) → k * 2 ^ suc n ≡ 2 * k * 2 ^ n
    doubled k n = rw (pow-suc 2 n) (times k (2 ^ n))
      where
        times : (k p : ℕ) → k * (p * 2) ≡ 2 * k * p
        times k p = omega arith

pub pattern_fits : (width : ℕ) (z : ℤ) → pattern_of width z < 2 ^ width
pattern_fits width z = pattern_below width z

pub signature_below : (params : List ValType) (result : Option ValType) → length params ≤ 60 → sig_number_of params result < 2 ^ 64
signature_below params result few =
    let digits : params_digits 1 params < 2 * 2 ^ length params = digits_below 1 2 params (omega arith) in
    let most : 2 ^ length params ≤ 2 ^ 60 = pow_mono few in
    let last : result_digit result ≤ 2 = result_digit-small result in
    omega (arith, digits, most, last)

-- ---- parts of statements

object_fits : (d : ℕ) (b : Bool) (object : Name) → FitsArg (suc d)
    (if b then tree.Value (tree.Name (pointer_name object)) else tree.Address object)
object_fits d true object = tt
object_fits d false object = tt

pub memory_fits : (d : ℕ) (t : Module) → FitsArg (suc d) (memory_arg t)
memory_fits d t = object_fits d (is_some (slice_get (memory_imports t) 0)) memory_name

pub table_fits : (d : ℕ) (t : Module) → FitsArg (suc d) (table_arg t)
table_fits d t = object_fits d (is_some (slice_get (table_imports t) 0)) table_name

binary_fits : (w : Way) (t : ValType) (h : ℕ) → FitsStmt depth_limit (by_way w t t h (λ e. e))
binary_fits (ByOperator o) t h = (tt, tt)
binary_fits (ByShift o) I32 h = (tt, (tt, bits_below I32))
binary_fits (ByShift o) I64 h = (tt, (tt, bits_below I64))
binary_fits (ByHelper which) t h = (tt, (tt, (tt, tt)))

compare_fits : (w : Way) (t : ValType) (h : ℕ) → FitsStmt depth_limit (by_way w t I32 h tree.To32)
compare_fits (ByOperator o) t h = (tt, tt)
compare_fits (ByShift o) I32 h = (tt, (tt, bits_below I32))
compare_fits (ByShift o) I64 h = (tt, (tt, bits_below I64))
compare_fits (ByHelper which) t h = (tt, (tt, (tt, tt)))

eqz_fits : (t : ValType) (h : ℕ) → FitsStmt depth_limit (set_slot I32 h (tree.To32 (tree.Op op.Eq (operand t h) (number t 0))))
eqz_fits I32 h = (tt, pow_pos 32)
eqz_fits I64 h = (tt, pow_pos 64)

if_type_fits : (o : Option ValType) (f : ValType → List tree.Stmt) → ((t : ValType) → Fits (f t)) → Fits (if_type o f)
if_type_fits None f g = tt
if_type_fits (Some t) f g = g t

pub global_fits : (d : ℕ) (t : Module) (x : ℕ) → FitsExpr (suc d) (global_value t x)
global_fits d t x = by (is_some (slice_get (global_imports t) x))
  where
    by : (b : Bool) → FitsExpr (suc d) (if b then tree.Star (pointer_name (global_name x)) else tree.Name (global_name x))
    by true = tt
    by false = tt

set_fits : (t : ValType) (h : ℕ) (e : tree.Expr) → FitsExpr depth_limit e → FitsStmt depth_limit (set_slot t h e)
set_fits t h e fits = fits

global_get_fits : (c : Setting) (types : Stack) (l x : ℕ) → Fits (plain_stmts c types l (wasm.GlobalGet x))
global_get_fits c types l x = by (slice_get c.context.globals x)
  where
    by : (o : Option (ValType × Bool)) → Fits
        (elim o [ None ↦ [] | Some global ↦ set_slot global.0 (length types) (global_value c.named.tree x) ∷ [] ])
    by None = tt
    by (Some g) = (set_fits g.0 (length types) (global_value c.named.tree x) (global_fits 99 c.named.tree x), tt)

global_set_fits : (c : Setting) (types : Stack) (l x : ℕ) → Fits (plain_stmts c types l (wasm.GlobalSet x))
global_set_fits c types l x = by (slice_get c.context.globals x)
  where
    set : (b : Bool) (e : tree.Expr) → FitsExpr depth_limit e
        → FitsStmt depth_limit (if b then tree.SetStar (pointer_name (global_name x)) e else tree.Set (global_name x) (tree.Value e))
    set true e h = h
    set false e h = h

    by : (o : Option (ValType × Bool)) → Fits
        (elim o [ None ↦ [] | Some global ↦ set_global c.named.tree x (operand global.0 (under 1 types)) ∷ [] ])
    by None = tt
    by (Some g) = (set (is_some (slice_get (global_imports c.named.tree) x)) (operand g.0 (under 1 types)) tt, tt)

-- ---- calls and branches

operands_fit : (d h : ℕ) (types : List ValType) → AllByRecursion (FitsArg (suc d)) (operands_from h types)
operands_fit d h [] = tt
operands_fit d h (t ∷ types) = (tt, operands_fit d (suc h) types)

call_fits : (f : tree.Callee) (ty : FuncType) (types : Stack) → FitsCallee f → FitsStmt depth_limit (call_of f ty types)
call_fits f ty types callee_is = by ty.result
  where
    by : (r : Option ValType) → FitsStmt depth_limit
        (tree.Call (result_slot r (under (length ty.params) types)) f (operands_from (under (length ty.params) types) ty.params))
    by None = (callee_is, operands_fit 99 (under (length ty.params) types) ty.params)
    by (Some t) = (callee_is, operands_fit 98 (under (length ty.params) types) ty.params)

call_stmts_fit : (c : Setting) (types : Stack) (x : ℕ) → Fits (call_stmts c types x)
call_stmts_fit c types x = by (at_index c.context.funcs x)
  where
    name : (n : Option Name) (ty : FuncType) → Fits (call_named n ty types)
    name None ty = (tt, tt)
    name (Some n) ty = (call_fits (tree.Called n) ty types tt, tt)

    by : (o : Option FuncType) → Fits (elim o [ None ↦ [] | Some ty ↦ call_named (callee c.named x) ty types ])
    by None = tt
    by (Some ty) = name (callee c.named x) ty

pub params_there : (params : List ValType) → 0 < length (c_params_of params)
params_there [] = omega arith
params_there (t ∷ params) = omega arith

indirect_fits : (c : Setting) (types : Stack) (x : ℕ) → ((ty : FuncType) → slice_get c.context.types x ≡ Some ty → length ty.params ≤ 60)
    → Fits (call_indirect_stmts c types x)
indirect_fits c types x few = by (slice_get c.context.types x) refl
  where
    by : (o : Option FuncType) → slice_get c.context.types x ≡ o → Fits (elim o [ None ↦ [] | Some ty ↦ call_element c types ty ])
    by None e = tt
    by (Some ty) e = (
      (tt, (table_fits 98 c.named.tree, (tt, (signature_below ty.params ty.result (few ty e), tt)))),
      (call_fits (tree.Through (c_func_type ty) element_name) ty types (params_there ty.params), tt),
    )

jump_fits : (aim : Aim) (types : Stack) → Fits (jump aim types)
jump_fits aim types = by aim.value
  where
    by : (v : Option ValType) → Fits (jump (record { label = aim.label; height = aim.height; value = v }) types)
    by None = (tt, tt)
    by (Some t) = bent (under 1 types == aim.height)
      where
        bent : (b : Bool) → Fits ((if b then [] else set_slot t aim.height (operand t (under 1 types)) ∷ []) ++ tree.Goto
            (label_name aim.label) ∷ [])
        bent true = (tt, tt)
        bent false = (tt, (tt, tt))

jump_if_fits : 0 < 2 ^ 32
jump_if_fits = omega arith

branch_if_fits : (types : Stack) (l : ℕ) (aim : Aim) → Fits (branch_if types l aim)
branch_if_fits types l aim = by (is_straight aim types)
  where
    by : (b : Bool) → Fits (if b then jump_if op.Ne (length types) aim.label ∷ [] else jump_if op.Eq (length types) l ∷
        (jump aim types ++ tree.Label (label_name l) ∷ []))
    by true = ((tt, jump_if_fits), tt)
    by false = (
      (tt, jump_if_fits),
      all_append (FitsStmt depth_limit) (jump aim types) (tree.Label (label_name l) ∷ []) (jump_fits aim types) (tt, tt),
    )

if_aim_fits : (o : Option Aim) (f : Aim → List tree.Stmt) → ((aim : Aim) → Fits (f aim)) → Fits (if_aim o f)
if_aim_fits None f g = tt
if_aim_fits (Some aim) f g = g aim

moving_fits : (aims : List Aim) (types : Stack) (l : ℕ) (ks : List ℕ) → Fits (moving_cases aims types l ks)
moving_fits aims types l [] = tt
moving_fits aims types l (i ∷ ks) =
    all_append (FitsStmt depth_limit) (if_aim (slice_get aims i) (moving_case types l)) (moving_cases aims types (suc l) ks)
    (if_aim_fits (slice_get aims i) (moving_case types l) one) (moving_fits aims types (suc l) ks)
  where
    one : (aim : Aim) → Fits (moving_case types l aim)
    one aim = by (is_straight aim types)
      where
        by : (b : Bool) → Fits (if b then [] else tree.Label (label_name l) ∷ jump aim types)
        by true = tt
        by false = (tt, jump_fits aim types)

cases_fit : (aims : List Aim) (types : Stack) (n l : ℕ) (ks : List ℕ) → n + length ks ≤ 2 ^ 32
    → AllByRecursion (λ (e : tree.Case). FitsNum e.0) (cases_from aims types n l ks)
cases_fit aims types n l [] few = tt
cases_fit aims types n l (i ∷ ks) few = (omega (arith, few), cases_fit aims types (suc n) (suc l) ks (omega (arith, few)))

label_if_fits : (b : Bool) (l : ℕ) → Fits (label_if b l)
label_if_fits true l = (tt, tt)
label_if_fits false l = tt

if_fits : (otherwise : Otherwise) (height l : ℕ) (goes_on is_named : Bool) (first second : List tree.Stmt) → Fits first → Fits second
    → Fits (if_stmts otherwise height l goes_on is_named first second)
if_fits no_else height l goes_on is_named first second p q =
    ((tt, jump_if_fits), all_append (FitsStmt depth_limit) first (tree.Label (label_name (suc l)) ∷ []) p (tt, tt))
if_fits (else_code place code) height l goes_on is_named first second p q = (
  (tt, jump_if_fits),
  all_append (FitsStmt depth_limit) first _ p
      (all_append (FitsStmt depth_limit) (jump_over goes_on (suc l)) _ (over goes_on)
      (tt, all_append (FitsStmt depth_limit) second _ q (label_if_fits (goes_on || is_named) (suc l)))),
)
  where
    over : (b : Bool) → Fits (jump_over b (suc l))
    over true = (tt, tt)
    over false = tt

-- ---- code

behind_fits : (e : Bool) (x : Bool) (stmts : List tree.Stmt) → not e && x ≡ false → (x ≡ false → Fits stmts) → Fits (behind e stmts)
behind_fits true x stmts h f = tt
behind_fits false x stmts h f = f h

module _ (c : Setting) (few : (x : ℕ) (ty : FuncType) → slice_get c.context.types x ≡ Some ty → length ty.params ≤ 60) where
  mutual
    pub code_fits : (aims : List Aim) (types : Stack) (l : ℕ) (code : Code) → any_in has_wide code ≡ false → Fits (emit c aims types l code)
    code_fits aims types l end_code e = tt
    code_fits aims types l (then_code place kind code) e =
        let h = or_parts (has_wide kind || any_inside has_wide kind) (not (ends kind) && any_in has_wide code) e in
        let g = or_parts (has_wide kind) (any_inside has_wide kind) h.0 in
        all_append (FitsStmt depth_limit) (emit_kind c aims types l kind)
        (behind (ends kind) (emit c aims (after c.context types kind) (label_count kind + l) code))
        (kind_fits aims types l kind g.0 g.1)
        (behind_fits (ends kind) (any_in has_wide code) (emit c aims (after c.context types kind) (label_count kind + l) code) h.1
        (λ narrow. code_fits aims (after c.context types kind) (label_count kind + l) code narrow))

    pub kind_fits : (aims : List Aim) (types : Stack) (l : ℕ) (kind : Kind) → has_wide kind ≡ false → any_inside has_wide kind ≡ false
        → Fits (emit_kind c aims types l kind)
    kind_fits aims types l (wasm.Block t code end_place) e i =
        all_append (FitsStmt depth_limit) (emit c (record { label = l; height = length types; value = t } ∷ aims) types (suc l) code)
        (label_if (targets 0 code) l)
        (code_fits (record { label = l; height = length types; value = t } ∷ aims) types (suc l) code i) (label_if_fits (targets 0 code) l)
    kind_fits aims types l (wasm.Loop t code end_place) e i =
        all_append (FitsStmt depth_limit) (label_if (targets 0 code) l)
        (emit c (record { label = l; height = length types; value = None } ∷ aims) types (suc l) code)
        (label_if_fits (targets 0 code) l) (code_fits (record { label = l; height = length types; value = None } ∷ aims) types
        (suc l) code i)
    kind_fits aims types l (wasm.If t code otherwise end_place) e i =
        let h = or_parts (any_in has_wide code) (any_in_else has_wide otherwise) i in
        let inner : Aim = record { label = suc l; height = under 1 types; value = t } in
        if_fits otherwise (under 1 types) l (falls code) (targets 0 code || targets_else 0 otherwise)
        (emit c (inner ∷ aims) (drop 1 types) (suc (suc l)) code)
        (emit_else c (inner ∷ aims) (drop 1 types) (labels_in code + suc (suc l)) otherwise)
        (code_fits (inner ∷ aims) (drop 1 types) (suc (suc l)) code h.0)
        (else_fits (inner ∷ aims) (drop 1 types) (labels_in code + suc (suc l)) otherwise h.1)
    kind_fits aims types l (wasm.Br label) e i = if_aim_fits (slice_get aims label) (λ aim. jump aim types) (λ aim. jump_fits aim types)
    kind_fits aims types l (wasm.BrIf label) e i = if_aim_fits (slice_get aims label) (branch_if (drop 1 types) l)
        (branch_if_fits (drop 1 types) l)
    kind_fits aims types l (wasm.BrTable labels default) e i =
        let less = not_wide (length labels) e in
        ((tt, cases_fit aims (drop 1 types) 0 l labels (omega (arith, less))), moving_fits aims (drop 1 types) l (labels ++ default ∷ []))
    kind_fits aims types l wasm.Return e i = jump_fits (exit_of c.context.result) types
    kind_fits aims types l wasm.Unreachable e i = ((tt, (omega arith, tt)), tt)
    kind_fits aims types l (wasm.Call x) e i = call_stmts_fit c types x
    kind_fits aims types l (wasm.CallIndirect x) e i = indirect_fits c (drop 1 types) x (few x)
    kind_fits aims types l wasm.Nop e i = tt
    kind_fits aims types l wasm.Drop e i = tt
    kind_fits aims types l wasm.Select e i = if_type_fits (slice_get types 1) (selected l (under 3 types))
        (λ t. ((tt, jump_if_fits), (tt, (tt, tt))))
    kind_fits aims types l (wasm.LocalGet x) e i = if_type_fits (slice_get c.context.locals x)
        (λ t. set_slot t (length types) (tree.Name (local_name x)) ∷ []) (λ t. (tt, tt))
    kind_fits aims types l (wasm.LocalSet x) e i = if_type_fits (slice_get c.context.locals x)
        (λ t. tree.Set (local_name x) (tree.Value (operand t (under 1 types))) ∷ []) (λ t. (tt, tt))
    kind_fits aims types l (wasm.LocalTee x) e i = if_type_fits (slice_get c.context.locals x)
        (λ t. tree.Set (local_name x) (tree.Value (operand t (under 1 types))) ∷ []) (λ t. (tt, tt))
    kind_fits aims types l (wasm.GlobalGet x) e i = global_get_fits c types l x
    kind_fits aims types l (wasm.GlobalSet x) e i = global_set_fits c types l x
    kind_fits aims types l (wasm.Load o arg) e i = ((tt, (memory_fits 98 c.named.tree, (tt, (not_wide arg.offset e, tt)))), tt)
    kind_fits aims types l (wasm.Store o arg) e i = ((tt, (memory_fits 99 c.named.tree, (tt, (not_wide arg.offset e, (tt, tt))))), tt)
    kind_fits aims types l wasm.MemorySize e i = ((tt, (memory_fits 98 c.named.tree, tt)), tt)
    kind_fits aims types l wasm.MemoryGrow e i = ((tt, (memory_fits 98 c.named.tree, (tt, tt))), tt)
    kind_fits aims types l wasm.MemoryCopy e i = ((tt, (memory_fits 99 c.named.tree, (tt, (tt, (tt, tt))))), tt)
    kind_fits aims types l wasm.MemoryFill e i = ((tt, (memory_fits 99 c.named.tree, (tt, (tt, (tt, tt))))), tt)
    kind_fits aims types l (wasm.I32Const z) e i = (pattern_fits 32 z, tt)
    kind_fits aims types l (wasm.I64Const z) e i = (pattern_fits 64 z, tt)
    kind_fits aims types l (wasm.Eqz t) e i = (eqz_fits t (under 1 types), tt)
    kind_fits aims types l (wasm.Compare t o) e i = (compare_fits (compare_way t o) t (under 2 types), tt)
    kind_fits aims types l (wasm.Binary t o) e i = (binary_fits (binary_way t o) t (under 2 types), tt)
    kind_fits aims types l wasm.I32WrapI64 e i = (tt, tt)
    kind_fits aims types l wasm.I64ExtendI32U e i = (tt, tt)
    kind_fits aims types l _ e i = ((tt, (tt, tt)), tt)

    pub else_fits : (aims : List Aim) (types : Stack) (l : ℕ) (otherwise : Otherwise) → any_in_else has_wide otherwise ≡ false
        → Fits (emit_else c aims types l otherwise)
    else_fits aims types l no_else e = tt
    else_fits aims types l (else_code place code) e = code_fits aims types l code e

  give_fits : (r : Option ValType) → FitsStmt depth_limit (give_back r)
  give_fits None = tt
  give_fits (Some t) = tt

  pub body_fits : (code : Code) → any_in has_wide code ≡ false → Fits (stmts_of c code)
  body_fits code e = (
    (tt, omega arith),
    (
      (tt, (omega arith, tt)),
      (
        give_fits c.context.result,
        (
          tt,
          (
            (tt, omega arith),
            all_append (FitsStmt depth_limit) (code_stmts c code) _ (code_fits (exit_of c.context.result ∷ []) [] 2 code e)
                (all_append (FitsStmt depth_limit) (label_if (names_exit code) 1) _ (label_if_fits (names_exit code) 1)
                ((tt, omega arith), (give_fits c.context.result, tt))),
          ),
        ),
      ),
    ),
  )
