-- Functions that keep the rules on statements have names where what is declared has names; so has that of a body.
use Rattle.body_rules.proofs.Common.{all_from, is_name, test_at, I32, I64, labels_of, all_weaker, body_within, by_test, ◌≡◌, ℕ, suc, ◌+◌}
use Rattle.body_rules.proofs.Common.{◌^◌, ◌<◌, ◌≤◌, true, false, List, [], ◌∷◌, map, length, slice_get, Some, None}
use Rattle.body_rules.proofs.Common.{filter_map, bytes_eq, sym, refl, subst, arith, bytes_eq-Decides, AllByRecursion, all_append, named}
use Rattle.body_rules.proofs.Common.{FuncType, ValType, declared_locals, BodyEntry, has_wide, context_of, primitives, Name, Scope, array_of}
use Rattle.body_rules.proofs.Common.{arrays, functions, is_among, local_variables, param_variables, variables, FitsItem, FitsNum, IsName}
use Rattle.body_rules.proofs.Common.{depth_limit, IsNamedIfAny, NamedBody, NamedItem, CType, NamedModule, func_of, most_operands, params_of}
use Rattle.body_rules.proofs.Common.{params_from, stmts_of, zero_local, any_in, labels_in, label_name, local_name, slot, Setting, Within}
use Rattle.body_rules.proofs.Common.{Between, vars_in, funcs_in}
use Rattle.c_tree.specs.Tree as tree
use Rattle.c_tree.proofs.Names.{numbered}
use Rattle.body_rules.proofs.Rules.{Passes}
use Rattle.body_rules.proofs.OwnNames.{body_locals, each_local, with_params}
use Rattle.body_rules.specs.Declared.{NamedItems}
use Rattle.body_rules.proofs.Formed.{AreNames, stmts_named}
use Rattle.body_rules.proofs.FormedCode.{body_fits}

-- ---- names that are found

-- what holds of all names holds of one that is found
pub found_name : {A : Type 0} (P : Name → Type 0) (q : Name) (xs : List (Name × A)) (t : A) → AllByRecursion (λ (v : Name × A). P v.0) xs
    → named q xs ≡ Some t → P q
found_name P q [] t all e = absurd cc
found_name P q (x ∷ xs) t all e = by_test (bytes_eq x.0 q) (λ f. subst P ((bytes_eq-Decides x.0 q).0 f) all.0)
    (λ f. found_name P q xs t all.1 (rw f at e))

among_is : (q : Name) (xs : List Name) → AllByRecursion IsName xs → is_among q xs ≡ true → IsName q
among_is q [] all e = absurd cc
among_is q (x ∷ xs) all e = by_test (bytes_eq q x) (λ f. subst IsName (sym ((bytes_eq-Decides q x).0 f)) all.0)
    (λ f. among_is q xs all.1 (rw f at e))

-- ---- names that are declared

vars_named : (items : List tree.Item) → NamedItems items → AllByRecursion (λ (v : Name × CType). IsName v.0) (vars_in items)
vars_named [] all = tt
vars_named (tree.Array name count bytes ∷ items) all = vars_named items all.1
vars_named (tree.Var t name number ∷ items) all = (all.0, vars_named items all.1)
vars_named (tree.Function f ∷ items) all = vars_named items all.1

funcs_named : (items : List tree.Item) → NamedItems items → AllByRecursion (λ (v : Name × tree.FuncType). IsName v.0) (funcs_in items)
funcs_named [] all = tt
funcs_named (tree.Array name count bytes ∷ items) all = funcs_named items all.1
funcs_named (tree.Var t name number ∷ items) all = funcs_named items all.1
funcs_named (tree.Function f ∷ items) all = (all.0, funcs_named items all.1)

arrays_named : (items : List tree.Item) → NamedItems items → AllByRecursion IsName (filter_map array_of items)
arrays_named [] all = tt
arrays_named (tree.Array name count bytes ∷ items) all = (all.0, arrays_named items all.1)
arrays_named (tree.Var t name number ∷ items) all = arrays_named items all.1
arrays_named (tree.Function f ∷ items) all = arrays_named items all.1

params_named : (params : List tree.Param) → AllByRecursion (λ (p : tree.Param). IsNamedIfAny p.1) params
    → AllByRecursion (λ (v : Name × CType). IsName v.0) (param_variables (with_params params))
params_named [] all = tt
params_named ((t, None) ∷ params) all = params_named params all.1
params_named ((t, Some n) ∷ params) all = (all.0, params_named params all.1)

locals_named : (locals : List tree.Local) → AllByRecursion (λ (l : tree.Local). IsName l.1) locals
    → AllByRecursion (λ (v : Name × CType). IsName v.0) (map (λ (l : tree.Local). (l.1, l.0)) locals)
locals_named [] all = tt
locals_named (l ∷ locals) all = (all.0, locals_named locals all.1)

primitives_named : AllByRecursion (λ (v : Name × tree.FuncType). IsName v.0) primitives
primitives_named = all_from (λ (v : Name × tree.FuncType). IsName v.0) primitives (λ i v is.
    test_at (λ (v : Name × tree.FuncType). is_name v.0) primitives i v refl is)

scope_names : (s : Scope) → NamedItems s.declared → AllByRecursion (λ (p : tree.Param). IsNamedIfAny p.1) s.func.params
    → AllByRecursion (λ (l : tree.Local). IsName l.1) s.body.locals → AllByRecursion IsName (labels_of s.body.stmts) → AreNames s
scope_names s items params locals labels = record {
  vars = λ n t e. found_name IsName n (variables s) t
      (all_append (λ (v : Name × CType). IsName v.0) (param_variables s.func) _ (params_named s.func.params params)
      (all_append (λ (v : Name × CType). IsName v.0) (local_variables s.body) _ (locals_named s.body.locals locals)
      (all_append (λ (v : Name × CType). IsName v.0) (vars_in s.declared) _ (vars_named s.declared items) (refl, tt)))) e;
  arrays_are = λ n e. among_is n (arrays s) (arrays_named s.declared items) e;
  funcs = λ n t e. found_name IsName n (functions s) t
      (all_append (λ (v : Name × tree.FuncType). IsName v.0) (funcs_in s.declared) primitives
      (funcs_named s.declared items) primitives_named) e;
  labels = λ n e. among_is n (labels_of s.body.stmts) labels e;
}

-- a function whose statements keep the rules
pub function_named : (declared : List tree.Item) (f : tree.Func) (b : tree.Body) → f.body ≡ Some b → IsName f.name → NamedItems declared
    → AllByRecursion (λ (p : tree.Param). IsNamedIfAny p.1) f.params → AllByRecursion (λ (l : tree.Local). IsName l.1) b.locals
    → AllByRecursion IsName (labels_of b.stmts)
    → AllByRecursion (Passes (record { declared = declared; func = f; body = b })) b.stmts → NamedItem (tree.Function f)
function_named declared f b e name items params locals labels all = (
  name,
  params,
  subst (λ o. NamedBody o) (sym e) (
    locals,
    stmts_named (record { declared = declared; func = f; body = b })
        (scope_names (record { declared = declared; func = f; body = b }) items params locals labels) [] b.stmts refl all,
  ),
)

-- ---- the function of a body

local_is : (k : ℕ) → k < 2 ^ 64 → IsName (local_name k)
local_is k less = numbered 108 k refl (λ e. absurd (grind (arith, e))) (λ e. absurd (grind (arith, e))) less

pub label_is : (k : ℕ) → k < 2 ^ 64 → IsName (label_name k)
label_is k less = numbered 76 k refl (λ e. absurd (grind (arith, e))) (λ e. absurd (grind (arith, e))) less

slot_is : (t : ValType) (k : ℕ) → k < 2 ^ 64 → IsName (slot t k)
slot_is I32 k less = numbered 105 k refl (λ e. absurd (grind (arith, e))) (λ e. absurd (grind (arith, e))) less
slot_is I64 k less = numbered 106 k refl (λ e. absurd (grind (arith, e))) (λ e. absurd (grind (arith, e))) less

params_are : (k : ℕ) (types : List ValType) → k + length types ≤ 2 ^ 64
    → AllByRecursion (λ (p : tree.Param). IsNamedIfAny p.1) (params_from k types)
params_are k [] few = tt
params_are k (t ∷ types) few = (local_is k (omega (arith, few)), params_are (suc k) types (omega (arith, few)))

params_of_are : (types : List ValType) → length types ≤ 2 ^ 64 → AllByRecursion (λ (p : tree.Param). IsNamedIfAny p.1) (params_of types)
params_of_are [] few = (tt, tt)
params_of_are (t ∷ types) few = params_are 0 (t ∷ types) (omega (arith, few))

pub params_listed : (types : List ValType) → 0 < length (params_of types)
params_listed [] = omega arith
params_listed (t ∷ types) = omega arith

zero_fits : (t : ValType) (name : Name) → FitsNum (zero_local t name).2
zero_fits I32 name = omega arith
zero_fits I64 name = omega arith

labels_are : (u : ℕ) (numbers : List ℕ) → u ≤ 2 ^ 64 → AllByRecursion (λ n. n < u) numbers → AllByRecursion IsName (map label_name numbers)
labels_are u [] few high = tt
labels_are u (n ∷ numbers) few high = (label_is n (omega (arith, few, high.0)), labels_are u numbers few high.1)

pub within_named : (l u : ℕ) (stmts : List tree.Stmt) → u ≤ 2 ^ 64 → Within l u stmts → AllByRecursion IsName (labels_of stmts)
within_named l u stmts few w = subst (AllByRecursion IsName) (sym w.same)
    (labels_are u w.numbers few (all_weaker (Between l u) (λ n. n < u) w.numbers (λ n h. h.1) w.all))

pub body_named : (m : NamedModule) (index : ℕ) (ty : FuncType) (body : BodyEntry) (declared : List tree.Item)
    → IsName (func_of m index ty body).name → NamedItems declared
    → length ty.params + length (declared_locals body.runs) ≤ 2 ^ 64 → most_operands (context_of m.tree ty body) body.code ≤ 2 ^ 64
    → labels_in body.code + 2 < 2 ^ 32
    → AllByRecursion (Passes
    (record {
      declared = declared;
      func = func_of m index ty body;
      body =
          record {
            locals = body_locals ty body (context_of m.tree ty body);
            stmts = stmts_of (record { named = m; context = context_of m.tree ty body }) body.code;
          };
    }))
    (stmts_of (record { named = m; context = context_of m.tree ty body }) body.code) → NamedItem (tree.Function (func_of m index ty body))
body_named m index ty body declared name items few low labels all =
    let c : Setting = record { named = m; context = context_of m.tree ty body } in
    function_named declared (func_of m index ty body) (record { locals = body_locals ty body c.context; stmts = stmts_of c body.code })
    refl name items
    (params_of_are ty.params (omega (arith, few)))
    (each_local (λ (l : tree.Local). IsName l.1) ty body (context_of m.tree ty body)
    (λ t k less. local_is k (omega (arith, less, few))) (λ t h less. slot_is t h (omega (arith, less, low))) refl)
    (within_named 0 (labels_in body.code + 2) (stmts_of c body.code) (omega (arith, labels)) (body_within c body.code))
    all

pub body_item_fits : (m : NamedModule) (index : ℕ) (ty : FuncType) (body : BodyEntry) → any_in has_wide body.code ≡ false
    → ((x : ℕ) (ty : FuncType) → slice_get (map (λ t. t.ty) m.tree.types) x ≡ Some ty → length ty.params ≤ 60)
    → FitsItem depth_limit (tree.Function (func_of m index ty body))
body_item_fits m index ty body narrow sigs = (
  params_listed ty.params,
  (
    each_local (λ (l : tree.Local). FitsNum l.2) ty body (context_of m.tree ty body) (λ t k less. zero_fits t (local_name k))
        (λ t h less. zero_fits t (slot t h)) (omega arith),
    body_fits (record { named = m; context = context_of m.tree ty body }) sigs body.code narrow,
  ),
)
