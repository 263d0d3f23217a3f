-- A unit keeps the rules where each of its items does at its place, in a unit of which some things are so of all items
-- together; and what items owe there, with a body and without.
use Rattle.unit_rules.proofs.Common.{defines_itself, hidden_by_class, ◌≡◌, ℕ, suc, ◌+◌, ◌<◌, ◌≤◌, Bool, true, false, not, ◌&&◌, ◌||◌, ◌≢◌}
use Rattle.unit_rules.proofs.Common.{◌⊎◌, List, [], ◌∷◌, ◌++◌, map, ap, length, is_some, if◌then◌else◌, nat_le, slice_get, Some, None, sym}
use Rattle.unit_rules.proofs.Common.{bytes_eq, refl, ◌∙◌, subst, inl, inr, append_assoc, append-nil, arith, or_right, AllByRecursion, Name}
use Rattle.unit_rules.proofs.Common.{list_all, list_any, both_hold, all_map, take_with, numbered, imported_funcs, NamedModule, func_name}
use Rattle.unit_rules.proofs.Common.{KeepsRules, broken_in_body, broken_in_item, are_distinct, defines, hides_none, is_declared_once, CType}
use Rattle.unit_rules.proofs.Common.{is_own_name, is_result_type, is_symbol, is_value_type, is_void, item_rules, labels_of, local_names}
use Rattle.unit_rules.proofs.Common.{may_both_stand, number_suits, proper_params, local_variables, name_of, param_variables, all_true}
use Rattle.unit_rules.proofs.Common.{Passes, all_numbered, body_keeps, ends_well, none_broken, none_of_all, take_before, same_number, class}
use Rattle.unit_rules.proofs.Common.{Place, AllPairs}
use Rattle.c_tree.specs.Tree as tree
use Rattle.body_rules.proofs.RulesOfFunctions.{all_at as all_around}
use Rattle.unit_rules.proofs.Clashes.{MayFollow, NoClass, NoRuntime, pairs_at}

-- ---- sections

-- where an item of two lists in a row stands
split_at : {A : Type 0} (xs ys before : List A) (x : A) (behind : List A) → xs ++ ys ≡ before ++ x ∷ behind
    → ((b : List A) × (xs ≡ before ++ x ∷ b) × (behind ≡ b ++ ys)) ⊎ ((c : List A) × (before ≡ xs ++ c) × (ys ≡ c ++ x ∷ behind))
split_at [] ys before x behind e = inr (before, refl, e)
split_at (z ∷ xs) ys [] x behind e = let h : z ≡ x = cc in let t : xs ++ ys ≡ behind = cc in inl (xs, ap (λ w. w ∷ xs) h, sym t)
split_at {A = A} (z ∷ xs) ys (y ∷ before) x behind e =
    let h : z ≡ y = cc in
    let rest : xs ++ ys ≡ before ++ x ∷ behind = cc in
    elim (split_at xs ys before x behind rest) [
      | inl found ↦ inl (found.0, ap (λ w. z ∷ w) found.1 ∙ ap (λ w. w ∷ (before ++ x ∷ found.0)) h, found.2)
      | inr found ↦ inr (found.0, ap (λ w. y ∷ w) found.1 ∙ ap (λ w. w ∷ (xs ++ found.0)) (sym h), found.2)
    ]

-- what is so of all items of a unit together: none clashes with an earlier one, none has a name of functions' own variables or of the
-- runtime, and the unit defines each function of the module
pub record IsWhole (m : NamedModule) (unit : List tree.Item) : Type 0 where
  pub apart : AllPairs MayFollow unit
  pub no_own : NoClass 9 unit
  pub no_runtime : NoRuntime unit
  pub defined : (k : ℕ) → imported_funcs m.tree ≤ k → k < imported_funcs m.tree + length m.tree.funcs
      → list_any (defines (func_name k)) unit ≡ true

-- such a unit has an item that breaks no rule
abbrev pub Keeps : NamedModule → List tree.Item → tree.Item → List tree.Item → Type 0
Keeps m before x behind = IsWhole m (before ++ x ∷ behind) → broken_in_item (before ++ x ∷ behind) (length before, x) ≡ []

-- wherever it stands behind some items
abbrev pub KeepsBehind : NamedModule → List tree.Item → tree.Item → Type 0
KeepsBehind m front x = (before behind : List tree.Item) → Keeps m (front ++ before) x behind

abbrev AllKeep : NamedModule → List tree.Item → List tree.Item → List tree.Item → Type 0
AllKeep m front items back = (before : List tree.Item) (x : tree.Item) (behind : List tree.Item) → items ≡ before ++ x ∷ behind
    → Keeps m (front ++ before) x (behind ++ back)

each_keeps : (m : NamedModule) (front items back : List tree.Item) → AllByRecursion (KeepsBehind m front) items → AllKeep m front items back
each_keeps m front items back all before x behind e =
    all_around (KeepsBehind m front) before x behind (subst (AllByRecursion (KeepsBehind m front)) e all) before (behind ++ back)

next_section : (m : NamedModule) (front items rest back : List tree.Item) → AllKeep m front items (rest ++ back)
    → AllKeep m (front ++ items) rest back → AllKeep m front (items ++ rest) back
next_section m front items rest back p q before x behind e = elim (split_at items rest before x behind e) [
  | inl found ↦ subst (λ b. Keeps m (front ++ before) x b) (sym (ap (λ b. b ++ back) found.2 ∙ append_assoc found.0 rest back))
      (p before x found.0 found.1)
  | inr found ↦ subst (λ b. Keeps m b x (behind ++ back)) (append_assoc front items found.0 ∙ ap (λ b. front ++ b) (sym found.1))
      (q found.0 x behind found.2)
]

-- items that keep the rules wherever they stand, those that do behind these, and the last ones behind all
pub unit_keeps : (m : NamedModule) (known later last : List tree.Item) → IsWhole m (known ++ (later ++ last))
    → AllByRecursion (KeepsBehind m []) known
    → AllByRecursion (KeepsBehind m known) later → AllByRecursion (KeepsBehind m (known ++ later)) last
    → KeepsRules (known ++ (later ++ last))
unit_keeps m known later last whole p q r =
    let unit : List tree.Item = known ++ (later ++ last) in
    ap (λ b. slice_get b 0) (none_of_all (broken_in_item unit) (numbered unit)
    (all_numbered (λ entry. broken_in_item unit entry ≡ []) unit (λ before x behind e.
    let same = e ∙ ap (λ b. before ++ x ∷ b) (sym (append-nil behind)) in
    subst (λ u. broken_in_item u (length before, x) ≡ []) (sym same) (all before x behind e (subst (IsWhole m) same whole)))))
  where
    all : AllKeep m [] (known ++ (later ++ last)) []
    all = next_section m [] known (later ++ last) [] (each_keeps m [] known ((later ++ last) ++ []) p)
        (next_section m known later last [] (each_keeps m known later (last ++ []) q) (each_keeps m (known ++ later) last [] r))

-- ---- rule 1

pub once : (x : tree.Item) (before behind : List tree.Item) → AllPairs MayFollow (before ++ x ∷ behind)
    → is_declared_once (record { unit = before ++ x ∷ behind; number = length before; item = x }) ≡ true
once x before behind apart =
    ap (list_all (λ other. not (bytes_eq (name_of other) (name_of x)) || may_both_stand other x)) (take_before before x behind)
    ∙ all_true (λ other. not (bytes_eq (name_of other) (name_of x)) || may_both_stand other x) before
    (pairs_at MayFollow before x behind apart)

-- ---- items without a body

item_keeps : (x : tree.Item) (before behind : List tree.Item)
    → list_all (λ (r : ℕ × (Place → Bool)). r.1 (record { unit = before ++ x ∷ behind; number = length before; item = x })) item_rules
    ≡ true → broken_in_body (before ++ x ∷ behind) (length before) x ≡ [] → broken_in_item (before ++ x ∷ behind) (length before, x) ≡ []
item_keeps x before behind e f = ap (λ rules. map
    (λ rule. record { item = length before; statement = 0; rule = rule }) rules ++ broken_in_body (before ++ x ∷ behind)
    (length before) x) (none_broken item_rules (record { unit = before ++ x ∷ behind; number = length before; item = x }) e) ∙ f

pub variable_keeps : (m : NamedModule) (t : CType) (name : Name) → is_own_name name ≡ true → is_void t ≡ false
    → KeepsBehind m [] (tree.Var t name None)
variable_keeps m t name own value before behind whole =
    item_keeps (tree.Var t name None) before behind
    (rw (once (tree.Var t name None) before behind whole.apart) (rw own (rw value refl))) refl

pub array_keeps : (m : NamedModule) (name : Name) (b : ℕ) (bytes : List ℕ) → is_own_name name ≡ true
    → KeepsBehind m [] (tree.Array name (length (b ∷ bytes)) (b ∷ bytes))
array_keeps m name b bytes own before behind whole =
    item_keeps (tree.Array name (length (b ∷ bytes)) (b ∷ bytes)) before behind
    (rw (once (tree.Array name (length (b ∷ bytes)) (b ∷ bytes)) before behind whole.apart)
    (rw own (rw (some (length bytes), same_number (suc (length bytes))) refl))) refl
  where
    some : (n : ℕ) → nat_le 1 (suc n) ≡ true
    some n = grind arith

abbrev pub declared_func : Bool → CType → Name → List tree.Param → tree.Func
declared_func static result name params = record { is_static = static; result = result; name = name; params = params; body = None }

-- a declaration: its types are proper, its parameters have no names
pub record IsDeclaration (static : Bool) (result : CType) (name : Name) (params : List tree.Param) : Type 0 where
  pub result_is : is_result_type result ≡ true
  pub params_are : list_all (λ (q : tree.Param). is_value_type q.0) (proper_params params) ≡ true
  pub nameless : param_variables (declared_func static result name params) ≡ []
  pub free : (if static then is_own_name name else is_symbol name) ≡ true

pub declaration_keeps : (m : NamedModule) (static : Bool) (result : CType) (name : Name) (params : List tree.Param)
    → IsDeclaration static result name params
    → ((unit : List tree.Item) → IsWhole m unit → not static || list_any (defines name) unit ≡ true)
    → KeepsBehind m [] (tree.Function (declared_func static result name params))
declaration_keeps m static result name params d is_defined before behind whole =
    item_keeps x before behind
    (rw (once x before behind whole.apart)
    (rw free (rw (d.result_is, d.params_are) (rw (is_defined (before ++ x ∷ behind) whole)
    (rw (ap are_distinct no_names) (rw (ap (hides_none (before ++ x ∷ behind)) no_names) refl)))))) refl
  where
    x : tree.Item
    x = tree.Function (declared_func static result name params)

    no_names : local_names x ≡ []
    no_names = ap (λ vars. map (λ (v : Name × CType). v.0) (vars ++ [])) d.nameless

    free : ((if static then is_own_name name else is_symbol name) && list_all is_own_name (local_names x)) ≡ true
    free = rw (d.free) (ap (list_all is_own_name) no_names)

-- ---- a function with a body

abbrev pub own_of : tree.Func → tree.Body → List (Name × CType)
own_of f b = param_variables f ++ local_variables b

abbrev pub names_of_vars : List (Name × CType) → List Name
names_of_vars vars = map (λ (v : Name × CType). v.0) vars

-- the types of a function's result, parameters and variables are proper, its names are free and differ, and it has statements
abbrev pub func_tested : tree.Func → tree.Body → Bool
func_tested f b =
    is_result_type f.result && (list_all (λ (q : tree.Param). is_value_type q.0) (proper_params f.params)
    && (list_all (λ (q : tree.Param). is_some q.1) (proper_params f.params)
    && (list_all (λ (v : Name × CType). is_value_type v.1) (local_variables b)
    && (list_all (λ (l : tree.Local). number_suits l.0 l.2) b.locals
    && ((if f.is_static then is_own_name f.name else is_symbol f.name)
    && (list_all is_own_name (names_of_vars (own_of f b))
    && (are_distinct (names_of_vars (own_of f b)) && nat_le 1 (length b.stmts))))))))

-- all that the rules ask of a function, the names of its unit apart
pub record IsFunction (declared : List tree.Item) (f : tree.Func) (b : tree.Body) : Type 0 where
  pub tested : func_tested f b ≡ true
  pub own_class : AllByRecursion (λ n. class n ≡ 9) (names_of_vars (own_of f b))
  pub passes : AllByRecursion (Passes (record { declared = declared; func = f; body = b })) b.stmts
  pub labels : are_distinct (labels_of b.stmts) ≡ true
  pub ends : ends_well b.stmts ≡ true

defined_keeps : (m : NamedModule) (f : tree.Func) (b : tree.Body) (before behind : List tree.Item)
    → IsFunction (before ++ tree.Function (record f { body = Some b }) ∷ []) (record f { body = Some b }) b
    → Keeps m before (tree.Function (record f { body = Some b })) behind
defined_keeps m f b before behind i whole =
    let t1 = both_hold (is_result_type f.result) _ i.tested in
    let t2 = both_hold (list_all (λ (q : tree.Param). is_value_type q.0) (proper_params f.params)) _ t1.1 in
    let t3 = both_hold (list_all (λ (q : tree.Param). is_some q.1) (proper_params f.params)) _ t2.1 in
    let t4 = both_hold (list_all (λ (v : Name × CType). is_value_type v.1) (local_variables b)) _ t3.1 in
    let t5 = both_hold (list_all (λ (l : tree.Local). number_suits l.0 l.2) b.locals) _ t4.1 in
    let t6 = both_hold (if f.is_static then is_own_name f.name else is_symbol f.name) _ t5.1 in
    let t7 = both_hold (list_all is_own_name (names_of_vars (own_of f b))) _ t6.1 in
    let t8 = both_hold (are_distinct (names_of_vars (own_of f b))) (nat_le 1 (length b.stmts)) t7.1 in
    item_keeps x before behind
    (rw (once x before behind whole.apart)
    (rw (t6.0, t7.0) (rw (t1.0, t2.0, t4.0) (rw t5.0 (rw defined_if (rw (t3.0, t8.0, hidden) (rw t8.1 refl)))))))
    (body_keeps (before ++ x ∷ behind) (length before) (before ++ x ∷ []) (record f { body = Some b }) b refl (take_with before x behind)
    i.passes i.labels i.ends)
  where
    x : tree.Item
    x = tree.Function (record f { body = Some b })

    defined_if : (not f.is_static || list_any (defines f.name) (before ++ x ∷ behind)) ≡ true
    defined_if = or_right (not f.is_static) _ (defines_itself (record f { body = Some b }) before behind refl)

    hidden : hides_none (before ++ x ∷ behind) (names_of_vars (own_of (record f { body = Some b }) b)) ≡ true
    hidden = hidden_by_class (before ++ x ∷ behind) _ i.own_class (all_map (λ n. class n ≢ 9) name_of (before ++ x ∷ behind) whole.no_own)

pub function_keeps : (m : NamedModule) (f : tree.Func) (b : tree.Body) → f.body ≡ Some b → (before behind : List tree.Item)
    → (IsWhole m (before ++ tree.Function f ∷ behind) → IsFunction (before ++ tree.Function f ∷ []) f b)
    → Keeps m before (tree.Function f) behind
function_keeps m f b has before behind i whole =
    (subst (λ (g : tree.Func). IsFunction (before ++ tree.Function g ∷ []) g b → Keeps m before (tree.Function g) behind)
    (sym (ap (λ o. record f { body = o }) has)) (defined_keeps m f b before behind)) (i whole) whole
