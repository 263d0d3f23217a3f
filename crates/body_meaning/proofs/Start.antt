-- The variables of a function at its start: its parameters, its declared locals, which are 0, and then its slots
-- (C11, 6.9.1 function definitions, 6.7.9 initialisation).
use Rattle.body_meaning.proofs.Common.{◌≡◌, ℕ, zero, suc, ◌+◌, ◌^◌, ◌<◌, ◌≤◌, Bool, true, false, cond, List, [], ◌∷◌, ◌++◌, map, length}
use Rattle.body_meaning.proofs.Common.{if◌then◌else◌, IsTrue, Some, None, filter, Option, option_map, bytes_eq, sym, refl, ap, ◌∙◌, subst}
use Rattle.body_meaning.proofs.Common.{inl, inr, append_assoc, arith, length-append, cases_eq, AllByRecursion, range_with_len, all_append}
use Rattle.body_meaning.proofs.Common.{if_found, named, IsNumber, types_of, value, zeros, FuncType, ValType, Value, declared_locals, Code}
use Rattle.body_meaning.proofs.Common.{BodyEntry, Context, context_of, Plain, bytes_differ, bytes_equal, numbers_of_their_types, c_type_of}
use Rattle.body_meaning.proofs.Common.{initial_of, are_of_types, bind, first_vars, locals_of, param_names, param_types, global_name}
use Rattle.body_meaning.proofs.Common.{Located, VarsAgree, element_local, func_of, has_element, has_slot, locals_from, most_operands}
use Rattle.body_meaning.proofs.Common.{params_from, params_of, slots_of, zero_local, BodyHasLimits, element_name, local_name, pointer_name}
use Rattle.body_meaning.proofs.Common.{slot, type_of-value, types_many}
use Rattle.w2c_base.specs.declared.value.ValType.TheVariants as type
use Rattle.c_tree.specs.declared.tree.CType.TheVariants as c_type
use Rattle.c_tree.specs.Tree as tree
use Rattle.wasm_meaning.specs.LinkedSet as link
use Rattle.c_meaning.specs.State as state
use Rattle.body_meaning.proofs.Names.{local_at_another_place, local_is_no_element, slot_is_no_element, slot_is_no_global, slot_is_no_local}
use Rattle.body_meaning.proofs.Names.{slot_is_no_pointer}
use Rattle.body_meaning.proofs.Slots.{slots_are_low}
use Rattle.body_meaning.proofs.Operands.{zeros_types, zeros_numbers}
use Rattle.body_meaning.proofs.Own.{func_body}

-- ---- the variables that are made

abbrev local_vars : ℕ → List Value → state.Vars
local_vars k [] = []
local_vars k (v ∷ locals) = (local_name k, state.Number v) ∷ local_vars (suc k) locals

abbrev slot_vars : ValType → List ℕ → state.Vars
slot_vars t heights = map (λ height. (slot t height, state.Number (value t 0))) heights

abbrev element_vars : Bool → state.Vars
element_vars has = if has then (element_name, state.FuncPointer None) ∷ [] else []

abbrev heights_of : ValType → Context → Code → List ℕ
heights_of t c code = filter (has_slot t c code) (range_with_len 0 (most_operands c code))

abbrev slots_behind : Context → Code → state.Vars
slots_behind c code = slot_vars type.I32 (heights_of type.I32 c code) ++
    (slot_vars type.I64 (heights_of type.I64 c code) ++ element_vars (has_element code))

-- all of them
abbrev pub start_vars : Context → BodyEntry → List Value → state.Vars
start_vars c entry args = local_vars 0 (args ++ zeros (declared_locals entry.runs)) ++ slots_behind c entry.code

bound : (k : ℕ) (types : List ValType) (args : List Value) → types_of args ≡ types
    → bind (param_names (params_from k types)) (map state.Number args) ≡ Some (local_vars k args)
bound k [] [] e = refl
bound k (t ∷ types) (v ∷ args) e =
    let others : types_of args ≡ types = cc in
    ap (option_map (λ (vars : state.Vars). (local_name k, state.Number v) ∷ vars)) (bound (suc k) types args others)
bound k _ _ e = absurd cc

params_bound : (types : List ValType) (args : List Value) → types_of args ≡ types
    → bind (param_names (params_of types)) (map state.Number args) ≡ Some (local_vars 0 args)
params_bound [] [] e = refl
params_bound [] (v ∷ args) e = absurd cc
params_bound (t ∷ types) args e = bound 0 (t ∷ types) args e

-- arguments have the types of the parameters
types_from : (k : ℕ) (types : List ValType) → param_types (params_from k types) ≡ map c_type_of types
types_from k [] = refl
types_from k (t ∷ types) = ap (λ others. c_type_of t ∷ others) (types_from (suc k) types)

types_of_params : (types : List ValType) → param_types (params_of types) ≡ map c_type_of types
types_of_params [] = refl
types_of_params (t ∷ types) = types_from 0 (t ∷ types)

args_fit : {types : List ValType} (args : List Value) → types_of args ≡ types
    → are_of_types (param_types (params_of types)) (map state.Number args) ≡ true
args_fit {types} args e = rw (types_of_params types ∙ ap (map c_type_of) (sym e)) (numbers_of_their_types args)

locals_join : (xs ys : List tree.Local) {vs ws : state.Vars} → locals_of xs ≡ Some vs → locals_of ys ≡ Some ws
    → locals_of (xs ++ ys) ≡ Some (vs ++ ws)
locals_join [] ys {vs} {ws} e f = let same : [] ≡ vs = cc in f ∙ ap (λ us. Some (us ++ ws)) same
locals_join (l ∷ xs) ys {vs} {ws} e f = of_value (initial_of l.0 l.2) e (λ us h. locals_join xs ys h f)
  where
    of_others : (v : state.CValue) (o : Option state.Vars) → locals_of xs ≡ o
        → option_map (λ (vars : state.Vars). (l.1, v) ∷ vars) o ≡ Some vs
        → ((us : state.Vars) → locals_of xs ≡ Some us → locals_of (xs ++ ys) ≡ Some (us ++ ws))
        → option_map (λ (vars : state.Vars). (l.1, v) ∷ vars) (locals_of (xs ++ ys)) ≡ Some (vs ++ ws)
    of_others v None is e more = absurd cc
    of_others v (Some us) is e more =
        let same : (l.1, v) ∷ us ≡ vs = cc in
        ap (option_map (λ (vars : state.Vars). (l.1, v) ∷ vars)) (more us is) ∙ ap (λ xs. Some (xs ++ ws)) same

    of_value : (o : Option state.CValue) → if_found o (λ v. option_map (λ (vars : state.Vars). (l.1, v) ∷ vars) (locals_of xs)) ≡ Some vs
        → ((us : state.Vars) → locals_of xs ≡ Some us → locals_of (xs ++ ys) ≡ Some (us ++ ws))
        → if_found o (λ v. option_map (λ (vars : state.Vars). (l.1, v) ∷ vars) (locals_of (xs ++ ys))) ≡ Some (vs ++ ws)
    of_value None e more = absurd cc
    of_value (Some v) e more = of_others v (locals_of xs) refl e more

zero_locals : (k : ℕ) (types : List ValType) → locals_of (locals_from k types) ≡ Some (local_vars k (zeros types))
zero_locals k [] = refl
zero_locals k (type.I32 ∷ types) = ap (option_map (λ (vars : state.Vars). (local_name k, state.Number (value type.I32 0)) ∷ vars))
    (zero_locals (suc k) types)
zero_locals k (type.I64 ∷ types) = ap (option_map (λ (vars : state.Vars). (local_name k, state.Number (value type.I64 0)) ∷ vars))
    (zero_locals (suc k) types)

zero_slots : (t : ValType) (heights : List ℕ) → locals_of (map (λ height. zero_local t (slot t height)) heights) ≡ Some
    (slot_vars t heights)
zero_slots t [] = refl
zero_slots type.I32 (h ∷ heights) = ap (option_map (λ (vars : state.Vars). (slot type.I32 h, state.Number (value type.I32 0)) ∷ vars))
    (zero_slots type.I32 heights)
zero_slots type.I64 (h ∷ heights) = ap (option_map (λ (vars : state.Vars). (slot type.I64 h, state.Number (value type.I64 0)) ∷ vars))
    (zero_slots type.I64 heights)

element_made : (code : Code) → locals_of (element_local code) ≡ Some (element_vars (has_element code))
element_made code = go (has_element code)
  where
    go : (has : Bool) → locals_of (if has then (c_type.FnPtr, element_name, Plain 0) ∷ [] else []) ≡ Some (element_vars has)
    go true = refl
    go false = refl

locals_joined : (k : ℕ) (xs ys : List Value) → local_vars k xs ++ local_vars (k + length xs) ys ≡ local_vars k (xs ++ ys)
locals_joined k [] ys = ap (λ n. local_vars n ys) (omega arith)
locals_joined k (x ∷ xs) ys = let e : k + length (x ∷ xs) ≡ suc k + length xs = omega arith in rw (e, locals_joined (suc k) xs ys) refl

-- a function that is called with such arguments begins with these variables
pub first_vars_are : (m : link.NamedModule) (index item : ℕ) (ty : FuncType) (entry : BodyEntry) (args : List Value)
    → types_of args ≡ ty.params
    → first_vars (record { item = item; func = func_of m index ty entry; body = func_body m ty entry }) (map state.Number args)
    ≡ Some (start_vars (context_of m.tree ty entry) entry args)
first_vars_are m index item ty entry args fit =
    let c : Context = context_of m.tree ty entry in
    let code = entry.code in
    let declared : List ValType = declared_locals entry.runs in
    let low : List tree.Local = slots_of type.I64 c code ++ element_local code in
    let all : List tree.Local = locals_from (length ty.params) declared ++ (slots_of type.I32 c code ++ low) in
    let behind : locals_of (slots_of type.I32 c code ++ low) ≡ Some (slots_behind c code) =
    locals_join (slots_of type.I32 c code) low (zero_slots type.I32 (heights_of type.I32 c code))
    (locals_join (slots_of type.I64 c code) (element_local code) (zero_slots type.I64 (heights_of type.I64 c code)) (element_made code)) in
    let made : locals_of all ≡ Some (local_vars (length ty.params) (zeros declared) ++ slots_behind c code) =
    locals_join (locals_from (length ty.params) declared) (slots_of type.I32 c code ++ low) (zero_locals (length ty.params) declared) behind
    in
    let long : length ty.params ≡ 0 + length args = omega (arith, ap length fit, types_many args) in
    rw (args_fit args fit, params_bound ty.params args fit) (ap (option_map (λ (locals : state.Vars). local_vars 0 args ++ locals)) made
    ∙ ap (λ (vars : state.Vars). Some vars)
    (ap (λ n. local_vars 0 args ++ (local_vars n (zeros declared) ++ slots_behind c code)) long
    ∙ (sym (append_assoc (local_vars 0 args) (local_vars (0 + length args) (zeros declared)) (slots_behind c code))
    ∙ ap (λ vars. vars ++ slots_behind c code) (locals_joined 0 args (zeros declared)))))

-- ---- what their names hold

named_behind : (name : state.Name) (xs ys : state.Vars) → named name xs ≡ None → named name (xs ++ ys) ≡ named name ys
named_behind name [] ys none = refl
named_behind name (x ∷ xs) ys none = grind (arith, named_behind name xs ys)

-- what is found stays found in front of others
found_left : (name : state.Name) (xs ys : state.Vars) (v : state.CValue) → named name xs ≡ Some v → named name (xs ++ ys) ≡ Some v
found_left name [] ys v e = absurd cc
found_left name (x ∷ xs) ys v e = grind (arith, found_left name xs ys v)

-- behind variables that hide none of them, locals are found
located : (before : state.Vars) (k : ℕ) (locals : List Value) (rest : state.Vars) → k + length locals < 2 ^ 64
    → ((i : ℕ) → k ≤ i → i < k + length locals → named (local_name i) before ≡ None)
    → Located k locals (before ++ (local_vars k locals ++ rest))
located before k [] rest small free = tt
located before k (v ∷ locals) rest small free =
    let here : state.Vars = (local_name k, state.Number v) ∷ [] in
    let others : state.Vars = local_vars (suc k) locals ++ rest in
    let order : (before ++ here) ++ others ≡ before ++ (here ++ others) = append_assoc before here others in (
      named_behind (local_name k) before (here ++ others) (free k (omega arith) (omega arith))
          ∙ ap (λ b. if b then Some (state.Number v) else named (local_name k) others) (bytes_equal (local_name k)),
      subst (Located (suc k) locals) order (located (before ++ here) (suc k) locals rest (omega (arith, small)) (λ i from to.
          named_behind (local_name i) before here (free i (omega (arith, from)) (omega (arith, to)))
          ∙ ap (λ b. if b then Some (state.Number v) else None) (bytes_differ (local_name k) (local_name i)
          (local_at_another_place k i (omega (arith, small)) (omega (arith, small, to)) (λ e. absurd (omega (arith, e, from))))))),
    )

unnamed_locals : (name : state.Name) (k : ℕ) (locals : List Value) → ((i : ℕ) → bytes_eq (local_name i) name ≡ false)
    → named name (local_vars k locals) ≡ None
unnamed_locals name k [] differ = refl
unnamed_locals name k (v ∷ locals) differ = rw (differ k) (unnamed_locals name (suc k) locals differ)

unnamed_slots : (name : state.Name) (t : ValType) (heights : List ℕ) → ((h : ℕ) → bytes_eq (slot t h) name ≡ false)
    → named name (slot_vars t heights) ≡ None
unnamed_slots name t [] differ = refl
unnamed_slots name t (h ∷ heights) differ = rw (differ h) (unnamed_slots name t heights differ)

unnamed : (c : Context) (entry : BodyEntry) (args : List Value) (name : state.Name) → ((i : ℕ) → bytes_eq (local_name i) name ≡ false)
    → ((t : ValType) (h : ℕ) → bytes_eq (slot t h) name ≡ false)
    → bytes_eq element_name name ≡ false → named name (start_vars c entry args) ≡ None
unnamed c entry args name no_local no_slot no_element =
    let narrow = slot_vars type.I32 (heights_of type.I32 c entry.code) in
    let wide = slot_vars type.I64 (heights_of type.I64 c entry.code) in
    let element = element_vars (has_element entry.code) in
    named_behind name _ _ (unnamed_locals name 0 _ no_local)
    ∙ (named_behind name narrow _ (unnamed_slots name type.I32 _ (no_slot type.I32))
    ∙ (named_behind name wide element (unnamed_slots name type.I64 _ (no_slot type.I64)) ∙ no_variable (has_element entry.code)))
  where
    no_variable : (has : Bool) → named name (element_vars has) ≡ None
    no_variable true = ap (λ b. if b then Some (state.FuncPointer None) else None) no_element
    no_variable false = refl

-- a height that passes has its slot, which is 0
slot_there : (t : ValType) (test : ℕ → Bool) (a n h : ℕ) → test h ≡ true → a ≤ h → h < a + n
    → named (slot t h) (slot_vars t (filter test (range_with_len a n))) ≡ Some (state.Number (value t 0))
slot_there t test a zero h passes from to = absurd (omega (arith, from, to))
slot_there t test a (suc n) h passes from to = elim (cases_eq a h) [
  | inl same ↦
      let kept : test a ≡ true = ap test same ∙ passes in
      let found : bytes_eq (slot t a) (slot t h) ≡ true = ap (λ k. bytes_eq (slot t a) (slot t k)) (sym same) ∙ bytes_equal (slot t a) in
      rw (kept, found) refl
  | inr differ ↦ by_test (test a) (slot_there t test (a + 1) n h passes (omega (arith, from, differ)) (omega (arith, to)))
]
  where
    hidden : (b : Bool) (rest : Option state.CValue) → rest ≡ Some (state.Number (value t 0))
        → (if b then Some (state.Number (value t 0)) else rest) ≡ Some (state.Number (value t 0))
    hidden true rest e = refl
    hidden false rest e = e

    by_test : (keep : Bool) → named (slot t h) (slot_vars t (filter test (range_with_len (a + 1) n))) ≡ Some (state.Number (value t 0))
        → named (slot t h) (slot_vars t (cond keep (a ∷ filter test (range_with_len (a + 1) n)) (filter test (range_with_len (a + 1) n))))
        ≡ Some (state.Number (value t 0))
    by_test true e = hidden (bytes_eq (slot t a) (slot t h)) (named (slot t h) (slot_vars t (filter test (range_with_len (a + 1) n)))) e
    by_test false e = e

-- the arguments and zeros are its locals, and it has all its slots
pub start_agrees : (c : Context) {entry : BodyEntry} (args : List Value) → BodyHasLimits entry → length args ≤ 60
    → AllByRecursion IsNumber args
    → VarsAgree (λ t height. has_slot t c entry.code height) (has_element entry.code) [] (args ++ zeros (declared_locals entry.runs))
    (start_vars c entry args)
start_agrees c {entry} args within few numbers =
    let declared : List ValType = declared_locals entry.runs in
    let locals : List Value = args ++ zeros declared in
    let long : length locals ≡ length args + length declared = length-append args (zeros declared)
    ∙ ap (λ n. length args + n) (sym (types_many (zeros declared)) ∙ ap length (zeros_types declared)) in
    record {
      stacked = tt;
      located = located [] 0 locals (slots_behind c entry.code) (omega (arith, long, few, within.locals)) (λ i from to. refl);
      stack_numbers = tt;
      local_numbers = all_append IsNumber args (zeros declared) numbers (zeros_numbers declared);
      declared = λ t height is. (
        value t 0,
        named_behind (slot t height) (local_vars 0 locals) (slots_behind c entry.code)
            (unnamed_locals (slot t height) 0 locals (λ i. bytes_differ (local_name i) (slot t height)
            (λ e. slot_is_no_local t height i (sym e)))) ∙ slot_here t height is,
        type_of-value t 0,
      );
      element = λ is. (
        None,
        named_behind element_name (local_vars 0 locals) (slots_behind c entry.code)
            (unnamed_locals element_name 0 locals (λ i. bytes_differ (local_name i) element_name (local_is_no_element i)))
            ∙ (named_behind element_name (slot_vars type.I32 (heights_of type.I32 c entry.code))
            (slot_vars type.I64 (heights_of type.I64 c entry.code) ++ element_vars (has_element entry.code))
            (unnamed_slots element_name type.I32 (heights_of type.I32 c entry.code) (λ h. bytes_differ (slot type.I32 h) element_name
            (slot_is_no_element type.I32 h)))
            ∙ (named_behind element_name (slot_vars type.I64 (heights_of type.I64 c entry.code)) (element_vars (has_element entry.code))
            (unnamed_slots element_name type.I64 (heights_of type.I64 c entry.code) (λ h. bytes_differ (slot type.I64 h) element_name
            (slot_is_no_element type.I64 h))) ∙ element_here (has_element entry.code) is)),
      );
      globals_seen = λ k. unnamed c entry args (global_name k) (λ i. refl)
          (λ t h. bytes_differ (slot t h) (global_name k) (slot_is_no_global t h k)) refl;
      pointers_seen = λ object. unnamed c entry args (pointer_name object) (λ i. refl)
          (λ t h. bytes_differ (slot t h) (pointer_name object) (slot_is_no_pointer t h object)) refl;
    }
  where
    slot_here : (t : ValType) (height : ℕ) → has_slot t c entry.code height ≡ true
        → named (slot t height) (slots_behind c entry.code) ≡ Some (state.Number (value t 0))
    slot_here type.I32 height is =
        found_left (slot type.I32 height) (slot_vars type.I32 (heights_of type.I32 c entry.code))
        (slot_vars type.I64 (heights_of type.I64 c entry.code) ++ element_vars (has_element entry.code)) (state.Number (value type.I32 0))
        (slot_there type.I32 (has_slot type.I32 c entry.code) 0 (most_operands c entry.code) height is (omega arith)
        (omega (arith, slots_are_low type.I32 c entry.code height is)))
    slot_here type.I64 height is =
        named_behind (slot type.I64 height) (slot_vars type.I32 (heights_of type.I32 c entry.code))
        (slot_vars type.I64 (heights_of type.I64 c entry.code) ++ element_vars (has_element entry.code))
        (unnamed_slots (slot type.I64 height) type.I32 (heights_of type.I32 c entry.code) (λ h. refl))
        ∙ found_left (slot type.I64 height) (slot_vars type.I64 (heights_of type.I64 c entry.code)) (element_vars (has_element entry.code))
        (state.Number (value type.I64 0))
        (slot_there type.I64 (has_slot type.I64 c entry.code) 0 (most_operands c entry.code) height is (omega arith)
        (omega (arith, slots_are_low type.I64 c entry.code height is)))

    element_here : (has : Bool) → IsTrue has → named element_name (element_vars has) ≡ Some (state.FuncPointer None)
    element_here true is = refl
    element_here false is = absurd cc
