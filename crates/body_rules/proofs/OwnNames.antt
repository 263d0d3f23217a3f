-- The parameters and local variables of a body's function: what each of their names stands for, that they are
-- distinct, and that no other name is one of them.
use Rattle.body_rules.proofs.Common.{◌≡◌, ℕ, zero, suc, ◌+◌, ◌^◌, ◌<◌, ◌≤◌, max, Bool, true, false, ◌||◌, List, [], ◌∷◌, ◌++◌, map, ap, sym}
use Rattle.body_rules.proofs.Common.{arith, length, if◌then◌else◌, slice_get, Some, None, filter, bytes_eq, refl, ◌∙◌, append_assoc, Code}
use Rattle.body_rules.proofs.Common.{map-append, AllByRecursion, range_with_len, all_append, all_map, named, FuncType, ValType, BodyEntry}
use Rattle.body_rules.proofs.Common.{declared_locals, Context, values, are_distinct, Name, is_own_name, is_among, CType, Plain, bytes_equal}
use Rattle.body_rules.proofs.Common.{param_variables, c_type_of, element_local, has_slot, has_element, locals_from, slots_of, most_operands}
use Rattle.body_rules.proofs.Common.{params_from, params_of, zero_local, element_name, local_name, slot, occurs, peak, stands, zero-add}
use Rattle.body_rules.proofs.Common.{add-zero, all_filtered, one_moves, all_from, of_contained, by_test, slice_get_within, I32, I64, class}
use Rattle.body_rules.proofs.Common.{all_weaker, contains_kept, get_numbered, stands_low, occurs_low, GivesNames, lettered, class_lettered}
use Rattle.body_rules.proofs.Common.{all_differ, Variables, named_in, ◌==◌}
use Rattle.c_tree.specs.declared.tree.CType.TheVariants as type
use Rattle.c_tree.specs.Tree as tree
use Rattle.body_rules.proofs.Classes.{AllOf, distinct_joined, none_joined, range_high, range_differ, differ_kept}

-- ---- looking names up

-- no name of these is the one
abbrev pub Avoid : Name → Variables → Type 0
Avoid q xs = AllByRecursion (λ (v : Name × CType). bytes_eq v.0 q ≡ false) xs

pub named_past : (q : Name) (xs ys : Variables) → Avoid q xs → named q (xs ++ ys) ≡ named q ys
named_past q [] ys a = refl
named_past q (x ∷ xs) ys a = rw a.0 (named_past q xs ys a.1)

-- ---- variables with numbered names

-- the names are those of the numbers from k on, each with the type of its item
abbrev pub vars_from : {A : Type 0} → (ℕ → Name) → (A → CType) → ℕ → List A → Variables
vars_from name ty k [] = []
vars_from name ty k (x ∷ xs) = (name k, ty x) ∷ vars_from name ty (suc k) xs

abbrev pub names : Variables → List Name
names vars = map (λ (v : Name × CType). v.0) vars

all_vars : {A : Type 0} (P : Name × CType → Type 0) (name : ℕ → Name) (ty : A → CType) (k : ℕ) (xs : List A)
    → ((x : A) (j : ℕ) → j < k + length xs → P (name j, ty x)) → AllByRecursion P (vars_from name ty k xs)
all_vars P name ty k [] f = tt
all_vars P name ty k (x ∷ xs) f = (f x k (omega arith), all_vars P name ty (suc k) xs (λ y j less. f y j (omega (arith, less))))

pub vars_avoid : {A : Type 0} (q : Name) (name : ℕ → Name) (ty : A → CType) (k : ℕ) (xs : List A)
    → ((j : ℕ) → bytes_eq (name j) q ≡ false) → Avoid q (vars_from name ty k xs)
vars_avoid q name ty k xs f = all_vars (λ (v : Name × CType). bytes_eq v.0 q ≡ false) name ty k xs (λ x j less. f j)

pub vars_names : {A : Type 0} (name : ℕ → Name) (ty : A → CType) (k : ℕ) (xs : List A)
    → names (vars_from name ty k xs) ≡ map name (range_with_len k (length xs))
vars_names name ty k [] = refl
vars_names name ty k (x ∷ xs) = ap (λ ns. name k ∷ ns)
    (vars_names name ty (suc k) xs ∙ ap (λ n. map name (range_with_len n (length xs))) (one k))
  where
    one : (k : ℕ) → suc k ≡ k + 1
    one k = omega arith

pub vars_named : {A : Type 0} (name : ℕ → Name) → GivesNames name → (ty : A → CType) (k i j : ℕ) (xs : List A) (x : A)
    → slice_get xs i ≡ Some x → i + k ≡ j → k + length xs ≤ 2 ^ 64 → named (name j) (vars_from name ty k xs) ≡ Some (ty x)
vars_named name gives ty k i j [] x e same few = absurd cc
vars_named name gives ty k zero j (y ∷ xs) x e same few =
    let first : y ≡ x = cc in
    rw (ap (bytes_eq (name k)) (ap name (sym same ∙ zero-add k)) ∙ bytes_equal (name k)) (ap (λ z. Some (ty z)) first)
vars_named name gives ty k (suc i) j (y ∷ xs) x e same few =
    let low = slice_get_within xs i x e in
    rw (gives k j (omega arith) (omega (arith, same, low)) (λ f. absurd (omega (arith, same, f))))
    (vars_named name gives ty (suc k) i j xs x e (omega (arith, same)) (omega arith))

-- ---- the variables

-- parameters and locals
abbrev locals_at : ℕ → List ValType → Variables
locals_at k types = vars_from local_name c_type_of k types

abbrev heights_of : ValType → Context → Code → List ℕ
heights_of t c code = filter (has_slot t c code) (range_with_len 0 (most_operands c code))

abbrev slots_at : ValType → List ℕ → Variables
slots_at t heights = map (λ h. (slot t h, c_type_of t)) heights

abbrev element_vars : Code → Variables
element_vars code = if has_element code then (element_name, type.FnPtr) ∷ [] else []

abbrev pub own_variables : Context → Code → Variables
own_variables c code = locals_at 0 c.locals ++ (slots_at I32 (heights_of I32 c code) ++
    (slots_at I64 (heights_of I64 c code) ++ element_vars code))

abbrev pub with_params : List tree.Param → tree.Func
with_params params = record { is_static = true; result = type.Void; name = []; params = params; body = None }

params_from_are : (k : ℕ) (types : List ValType) → param_variables (with_params (params_from k types)) ≡ locals_at k types
params_from_are k [] = refl
params_from_are k (t ∷ types) = ap (λ vars. (local_name k, c_type_of t) ∷ vars) (params_from_are (suc k) types)

params_are : (types : List ValType) → param_variables (with_params (params_of types)) ≡ locals_at 0 types
params_are [] = refl
params_are (t ∷ types) = params_from_are 0 (t ∷ types)

abbrev variable : tree.Local → Name × CType
variable l = (l.1, l.0)

locals_are : (k : ℕ) (types : List ValType) → map variable (locals_from k types) ≡ locals_at k types
locals_are k [] = refl
locals_are k (t ∷ types) = ap (λ vars. (local_name k, c_type_of t) ∷ vars) (locals_are (suc k) types)

slots_are : (t : ValType) (heights : List ℕ) → map variable (map (λ height. zero_local t (slot t height)) heights) ≡ slots_at t heights
slots_are t [] = refl
slots_are t (h ∷ heights) = ap (λ vars. (slot t h, c_type_of t) ∷ vars) (slots_are t heights)

-- what is made of one or of none
made_if : {A B : Type 0} (f : A → B) (b : Bool) (x : A) → map f (if b then x ∷ [] else []) ≡ (if b then f x ∷ [] else [])
made_if f true x = refl
made_if f false x = refl

-- what is made of two lists, one behind the other
joined : {A B : Type 0} (f : A → B) (xs ys : List A) (us vs : List B) → map f xs ≡ us → map f ys ≡ vs → map f (xs ++ ys) ≡ us ++ vs
joined f xs ys us vs e g = map-append f xs ys ∙ (ap (λ ws. ws ++ map f ys) e ∙ ap (λ ws. us ++ ws) g)

vars_joined : (k : ℕ) (xs ys : List ValType) → locals_at k xs ++ locals_at (length xs + k) ys ≡ locals_at k (xs ++ ys)
vars_joined k [] ys = ap (λ n. locals_at n ys) (zero-add k)
vars_joined k (x ∷ xs) ys =
    ap (λ vars. (local_name k, c_type_of x) ∷ vars)
    (ap (λ n. locals_at (suc k) xs ++ locals_at n ys) (one_moves (length xs) k) ∙ vars_joined (suc k) xs ys)

-- the local variables of a body's function, in order
abbrev pub body_locals : FuncType → BodyEntry → Context → List tree.Local
body_locals ty body c =
    locals_from (length ty.params) (declared_locals body.runs) ++
    (slots_of I32 c body.code ++ (slots_of I64 c body.code ++ element_local body.code))

body_locals_are : (ty : FuncType) (body : BodyEntry) (c : Context) → map variable (body_locals ty body c)
    ≡ locals_at (length ty.params) (declared_locals body.runs)
    ++ (slots_at I32 (heights_of I32 c body.code) ++ (slots_at I64 (heights_of I64 c body.code) ++ element_vars body.code))
body_locals_are ty body c =
    joined variable (locals_from (length ty.params) (declared_locals body.runs)) _ _ _
    (locals_are (length ty.params) (declared_locals body.runs))
    (joined variable (slots_of I32 c body.code) _ _ _ (slots_are I32 (heights_of I32 c body.code))
    (joined variable (slots_of I64 c body.code) (element_local body.code) _ _ (slots_are I64 (heights_of I64 c body.code))
    (made_if variable (has_element body.code) (type.FnPtr, element_name, Plain 0))))

pub own_are : (ty : FuncType) (body : BodyEntry) (c : Context) → c.locals ≡ ty.params ++ declared_locals body.runs
    → param_variables (with_params (params_of ty.params)) ++ map variable (body_locals ty body c) ≡ own_variables c body.code
own_are ty body c e =
    let rest : Variables = slots_at I32 (heights_of I32 c body.code) ++
    (slots_at I64 (heights_of I64 c body.code) ++ element_vars body.code) in
    ap (λ a. a ++ map variable (body_locals ty body c)) (params_are ty.params)
    ∙ (ap (λ b. locals_at 0 ty.params ++ b) (body_locals_are ty body c)
    ∙ (sym (append_assoc (locals_at 0 ty.params) (locals_at (length ty.params) (declared_locals body.runs)) rest)
    ∙ ap (λ a. a ++ rest) (ap (λ n. locals_at 0 ty.params ++ locals_at n (declared_locals body.runs)) (sym (add-zero (length ty.params))) ∙
    (vars_joined 0 ty.params (declared_locals body.runs) ∙ ap (locals_at 0) (sym e)))))

-- ---- what holds of each by its number

heights_low : (t : ValType) (c : Context) (code : Code) → AllByRecursion (λ h. h < most_operands c code) (heights_of t c code)
heights_low t c code = all_filtered (λ h. h < most_operands c code) (has_slot t c code) (range_with_len 0 (most_operands c code))
    (range_high 0 (most_operands c code) (most_operands c code) (omega arith))

-- what is made of each slot, and of the element if any, behind others
by_groups : {A : Type 0} (P : A → Type 0) (first : List A) (of_slot : ValType → ℕ → A) (element : A) (c : Context) (code : Code)
    → AllByRecursion P first → ((t : ValType) (h : ℕ) → h < most_operands c code → P (of_slot t h)) → P element
    → AllByRecursion P (first ++ (map (of_slot I32) (heights_of I32 c code) ++ (map (of_slot I64) (heights_of I64 c code) ++
    (if has_element code then element ∷ [] else []))))
by_groups P first of_slot element c code all f e =
    all_append P first _ all
    (all_append P (map (of_slot I32) (heights_of I32 c code)) _ (slots I32)
    (all_append P (map (of_slot I64) (heights_of I64 c code)) _ (slots I64) (last (has_element code))))
  where
    slots : (t : ValType) → AllByRecursion P (map (of_slot t) (heights_of t c code))
    slots t = all_map P (of_slot t) (heights_of t c code)
        (all_weaker (λ h. h < most_operands c code) (λ h. P (of_slot t h)) (heights_of t c code) (f t) (heights_low t c code))

    last : (b : Bool) → AllByRecursion P (if b then element ∷ [] else [])
    last true = (e, tt)
    last false = tt

each_own : (P : Name × CType → Type 0) (c : Context) (code : Code)
    → ((t : ValType) (k : ℕ) → k < length c.locals → P (local_name k, c_type_of t))
    → ((t : ValType) (h : ℕ) → h < most_operands c code → P (slot t h, c_type_of t)) → P (element_name, type.FnPtr)
    → AllByRecursion P (own_variables c code)
each_own P c code f g e = by_groups P (locals_at 0 c.locals) (λ t h. (slot t h, c_type_of t)) (element_name, type.FnPtr) c code
    (all_vars P local_name c_type_of 0 c.locals (λ t k less. f t k (omega (arith, less)))) g e

pub each_local : (P : tree.Local → Type 0) (ty : FuncType) (body : BodyEntry) (c : Context)
    → ((t : ValType) (k : ℕ) → k < length ty.params + length (declared_locals body.runs) → P (zero_local t (local_name k)))
    → ((t : ValType) (h : ℕ) → h < most_operands c body.code → P (zero_local t (slot t h))) → P (type.FnPtr, element_name, Plain 0)
    → AllByRecursion P (body_locals ty body c)
each_local P ty body c f g e =
    by_groups P (locals_from (length ty.params) (declared_locals body.runs)) (λ t h. zero_local t (slot t h))
    (type.FnPtr, element_name, Plain 0) c body.code (locals (length ty.params) (declared_locals body.runs) f) g e
  where
    locals : (k : ℕ) (types : List ValType) → ((t : ValType) (j : ℕ) → j < k + length types → P (zero_local t (local_name j)))
        → AllByRecursion P (locals_from k types)
    locals k [] f = tt
    locals k (t ∷ types) f = (f t k (omega arith), locals (suc k) types (λ u j less. f u j (omega (arith, less))))

-- a name with another letter
pub letter_avoids : (l : ℕ) (rest : List ℕ) (c : Context) (code : Code) → 108 == l ≡ false → 105 == l ≡ false → 106 == l ≡ false
    → 101 == l ≡ false → Avoid (l ∷ rest) (own_variables c code)
letter_avoids l rest c code a b d e =
    each_own (λ (v : Name × CType). bytes_eq v.0 (l ∷ rest) ≡ false) c code (λ t k less. rw a refl) (λ t h less. slot_is t h) (rw e refl)
  where
    slot_is : (t : ValType) (h : ℕ) → bytes_eq (slot t h) (l ∷ rest) ≡ false
    slot_is I32 h = rw b refl
    slot_is I64 h = rw d refl

-- ---- what they stand for

pub local_named : (c : Context) (code : Code) (i : ℕ) (t : ValType) → slice_get c.locals i ≡ Some t → length c.locals ≤ 2 ^ 64
    → named (local_name i) (own_variables c code) ≡ Some (c_type_of t)
local_named c code i t e few = named_in (local_name i) (locals_at 0 c.locals) _ (c_type_of t)
    (vars_named local_name (lettered 108) c_type_of 0 i i c.locals t e (add-zero i) (omega (arith, few)))

slot_at : (t : ValType) (heights : List ℕ) (i h : ℕ) → slice_get heights i ≡ Some h
    → named (slot t h) (slots_at t heights) ≡ Some (c_type_of t)
slot_at t [] i h at = absurd cc
slot_at t (k ∷ heights) zero h at =
    let same : k ≡ h = cc in rw (ap (λ n. bytes_eq (slot t n) (slot t h)) same ∙ bytes_equal (slot t h)) refl
slot_at t (k ∷ heights) (suc i) h at = by_test (bytes_eq (slot t k) (slot t h)) (λ e. rw e refl) (λ e. rw e (slot_at t heights i h at))

slot_height : (t : ValType) (h : ℕ) (c : Context) (code : Code) → has_slot t c code h ≡ true → h < most_operands c code
slot_height t h c code e = by (stands t h (values c.result)) refl e
  where
    by : (b : Bool) → stands t h (values c.result) ≡ b → b || occurs t h c [] code ≡ true
        → h < max (length (values c.result)) (peak c [] code)
    by true f g = let low : h < length (values c.result) = stands_low t h (values c.result) f in omega (arith, low)
    by false f g = let low : h < peak c [] code = occurs_low t h c [] code g in omega (arith, low)

slot_there : (t : ValType) (h : ℕ) (c : Context) (code : Code) → has_slot t c code h ≡ true
    → named (slot t h) (slots_at t (heights_of t c code)) ≡ Some (c_type_of t)
slot_there t h c code e =
    of_contained (λ n. named (slot t n) (slots_at t (heights_of t c code)) ≡ Some (c_type_of t)) (heights_of t c code) h
    (all_from _ (heights_of t c code) (slot_at t (heights_of t c code)))
    (contains_kept (has_slot t c code) (range_with_len 0 (most_operands c code)) h h
    (get_numbered 0 (most_operands c code) h (slot_height t h c code e) ∙ ap (λ (k : ℕ). Some k) (zero-add h)) e)

slots_avoid : (q : Name) (t : ValType) (heights : List ℕ) → ((h : ℕ) → bytes_eq (slot t h) q ≡ false) → Avoid q (slots_at t heights)
slots_avoid q t [] f = tt
slots_avoid q t (h ∷ heights) f = (f h, slots_avoid q t heights f)

pub slot_named : (c : Context) (code : Code) (t : ValType) (h : ℕ) → has_slot t c code h ≡ true
    → named (slot t h) (own_variables c code) ≡ Some (c_type_of t)
slot_named c code I32 h e =
    named_past (slot I32 h) (locals_at 0 c.locals) _ (vars_avoid (slot I32 h) local_name c_type_of 0 c.locals (λ k. refl))
    ∙ named_in (slot I32 h) (slots_at I32 (heights_of I32 c code)) _ type.U32 (slot_there I32 h c code e)
slot_named c code I64 h e =
    named_past (slot I64 h) (locals_at 0 c.locals) _ (vars_avoid (slot I64 h) local_name c_type_of 0 c.locals (λ k. refl))
    ∙ (named_past (slot I64 h) (slots_at I32 (heights_of I32 c code)) _ (slots_avoid (slot I64 h) I32 (heights_of I32 c code) (λ k. refl))
    ∙ named_in (slot I64 h) (slots_at I64 (heights_of I64 c code)) _ type.U64 (slot_there I64 h c code e))

pub element_named : (c : Context) (code : Code) → has_element code ≡ true → named element_name (own_variables c code) ≡ Some type.FnPtr
element_named c code e =
    named_past element_name (locals_at 0 c.locals) _ (vars_avoid element_name local_name c_type_of 0 c.locals (λ k. refl))
    ∙ (named_past element_name (slots_at I32 (heights_of I32 c code)) _ (slots_avoid element_name I32 (heights_of I32 c code) (λ h. refl))
    ∙ (named_past element_name (slots_at I64 (heights_of I64 c code)) _ (slots_avoid element_name I64 (heights_of I64 c code) (λ h. refl))
    ∙ ap (λ b. named element_name (if b then (element_name, type.FnPtr) ∷ [] else [])) e))

-- ---- they are distinct, of a class of their own, and no names for other units

slots_names : (t : ValType) (heights : List ℕ) → names (slots_at t heights) ≡ map (slot t) heights
slots_names t [] = refl
slots_names t (h ∷ heights) = ap (λ ns. slot t h ∷ ns) (slots_names t heights)

-- the names by their groups
abbrev name_groups : Context → Code → List Name
name_groups c code =
    map local_name (range_with_len 0 (length c.locals))
    ++ (map (slot I32) (heights_of I32 c code) ++ (map (slot I64) (heights_of I64 c code) ++
    (if has_element code then element_name ∷ [] else [])))

own_names : (c : Context) (code : Code) → names (own_variables c code) ≡ name_groups c code
own_names c code =
    joined (λ (v : Name × CType). v.0) (locals_at 0 c.locals) _ _ _ (vars_names local_name c_type_of 0 c.locals)
    (joined (λ (v : Name × CType). v.0) (slots_at I32 (heights_of I32 c code)) _ _ _ (slots_names I32 (heights_of I32 c code))
    (joined (λ (v : Name × CType). v.0) (slots_at I64 (heights_of I64 c code)) (element_vars code) _ _
    (slots_names I64 (heights_of I64 c code)) (made_if (λ (v : Name × CType). v.0) (has_element code) (element_name, type.FnPtr))))

module _ (c : Context) (code : Code) (few : length c.locals ≤ 2 ^ 64) (low : most_operands c code ≤ 2 ^ 64) where
  pub own_class : AllOf 9 (names (own_variables c code))
  own_class = all_map (λ n. class n ≡ 9) (λ (v : Name × CType). v.0) (own_variables c code)
      (each_own (λ (v : Name × CType). class v.0 ≡ 9) c code (λ t k less. class_lettered 108 k (omega (arith, less, few)) refl)
      slot_class refl)
    where
      slot_class : (t : ValType) (h : ℕ) → h < most_operands c code → class (slot t h) ≡ 9
      slot_class I32 h less = class_lettered 105 h (omega (arith, less, low)) refl
      slot_class I64 h less = class_lettered 106 h (omega (arith, less, low)) refl

  pub own_free : AllByRecursion (λ n. is_own_name n ≡ true) (names (own_variables c code))
  own_free = all_map (λ n. is_own_name n ≡ true) (λ (v : Name × CType). v.0) (own_variables c code)
      (each_own (λ (v : Name × CType). is_own_name v.0 ≡ true) c code (λ t k less. refl) slot_free refl)
    where
      slot_free : (t : ValType) (h : ℕ) → h < most_operands c code → is_own_name (slot t h) ≡ true
      slot_free I32 h less = refl
      slot_free I64 h less = refl

  pub own_distinct : are_distinct (names (own_variables c code)) ≡ true
  own_distinct = ap are_distinct (own_names c code) ∙ all
    where
      slots_differ : (t : ValType) → GivesNames (slot t) → are_distinct (map (slot t) (heights_of t c code)) ≡ true
      slots_differ t gives = all_differ (slot t) gives (heights_of t c code)
          (all_weaker (λ h. h < most_operands c code) (λ h. h < 2 ^ 64) (heights_of t c code) (λ h less. omega (arith, less, low))
          (heights_low t c code))
          (differ_kept (has_slot t c code) (range_with_len 0 (most_operands c code)) (range_differ 0 (most_operands c code)))

      -- no name of these groups
      apart_slots : (q : Name) (t : ValType) (heights : List ℕ) → ((h : ℕ) → bytes_eq q (slot t h) ≡ false)
          → is_among q (map (slot t) heights) ≡ false
      apart_slots q t [] f = refl
      apart_slots q t (h ∷ heights) f = rw (f h) (apart_slots q t heights f)

      apart_element : (q : Name) (b : Bool) → bytes_eq q element_name ≡ false → is_among q (if b then element_name ∷ [] else []) ≡ false
      apart_element q true e = rw e refl
      apart_element q false e = refl

      last : (b : Bool) → are_distinct (if b then element_name ∷ [] else []) ≡ true
      last true = refl
      last false = refl

      all : are_distinct (name_groups c code) ≡ true
      all =
          distinct_joined (map local_name (range_with_len 0 (length c.locals))) _
          (all_map _ local_name (range_with_len 0 (length c.locals)) (all_from _ (range_with_len 0 (length c.locals))
          (λ i k at. none_joined (local_name k) (map (slot I32) (heights_of I32 c code)) _
          (apart_slots (local_name k) I32 (heights_of I32 c code) (λ h. refl))
          (none_joined (local_name k) (map (slot I64) (heights_of I64 c code)) _
          (apart_slots (local_name k) I64 (heights_of I64 c code) (λ h. refl)) (apart_element (local_name k) (has_element code) refl)))))
          (all_differ local_name (lettered 108) (range_with_len 0 (length c.locals))
          (range_high 0 (length c.locals) (2 ^ 64) (omega (arith, few))) (range_differ 0 (length c.locals)))
          (distinct_joined (map (slot I32) (heights_of I32 c code)) _
          (all_map _ (slot I32) (heights_of I32 c code) (all_from _ (heights_of I32 c code)
          (λ i k at. none_joined (slot I32 k) (map (slot I64) (heights_of I64 c code)) _
          (apart_slots (slot I32 k) I64 (heights_of I64 c code) (λ h. refl)) (apart_element (slot I32 k) (has_element code) refl))))
          (slots_differ I32 (lettered 105))
          (distinct_joined (map (slot I64) (heights_of I64 c code)) _
          (all_map _ (slot I64) (heights_of I64 c code)
          (all_from _ (heights_of I64 c code) (λ i k at. apart_element (slot I64 k) (has_element code) refl)))
          (slots_differ I64 (lettered 106)) (last (has_element code))))
