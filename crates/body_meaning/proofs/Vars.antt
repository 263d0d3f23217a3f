-- The variables of a running function agree with its operands and locals behind an assignment.
use Rattle.body_meaning.proofs.Common.{◌≡◌, ℕ, zero, suc, ◌+◌, ◌^◌, ◌<◌, ◌≤◌, Bool, true, false, ◌≢◌, List, [], ◌∷◌, ◌++◌, length, is_some}
use Rattle.body_meaning.proofs.Common.{IsSome, IsTrue, slice_get, slice_set, Some, None, Option, bytes_eq, sym, refl, ap, ◌∙◌, subst, arith}
use Rattle.body_meaning.proofs.Common.{same_Some, slice_get_within, bytes_eq-Decides, equal_type-eq, named, with_named, IsNumber, type_of}
use Rattle.body_meaning.proofs.Common.{types_of, ValType, Value, named-with_another, named-with_named, numbers_of_one_type, of_one_type}
use Rattle.body_meaning.proofs.Common.{global_name, HoldsFunction, HoldsNumber, Located, Stacked, VarsAgree, Site, StandsAt, Together}
use Rattle.body_meaning.proofs.Common.{AllByRecursion, element_name, local_name, pointer_name, slot}
use Rattle.w2c_base.proofs.Lists.{all_behind, all_set}
use Rattle.wasm_meaning.specs.Store as store
use Rattle.wasm_meaning.specs.Execution as exec
use Rattle.c_meaning.specs.State as state
use Rattle.body_meaning.proofs.Names.{slot_at_another_height, slot_is_no_local, slot_is_no_element, slot_is_no_global, slot_is_no_pointer}
use Rattle.body_meaning.proofs.Names.{local_at_another_place, local_is_no_element, local_is_no_global, local_is_no_pointer}
use Rattle.body_meaning.proofs.Names.{element_is_no_global, element_is_no_pointer}

-- the height of operands
abbrev pub height : List Value → ℕ
height stack = length (types_of stack)

-- ---- operands and locals below, and behind an assignment to another name

pub stacked_below : (xs ys : List Value) (vars : state.Vars) → Stacked (xs ++ ys) vars → Stacked ys vars
stacked_below [] ys vars h = h
stacked_below (x ∷ xs) ys vars h = stacked_below xs ys vars h.1

-- other operands in the same variables
pub agree_at : {slots : ValType → ℕ → Bool} {has_element : Bool} {stack stack' locals : List Value} {vars : state.Vars}
    → VarsAgree slots has_element stack locals vars → Stacked stack' vars → AllByRecursion IsNumber stack'
    → VarsAgree slots has_element stack' locals vars
agree_at a stacked numbers = record {
  stacked = stacked;
  located = a.located;
  stack_numbers = numbers;
  local_numbers = a.local_numbers;
  declared = a.declared;
  element = a.element;
  globals_seen = a.globals_seen;
  pointers_seen = a.pointers_seen;
}

-- the operands under the uppermost ones
pub agree_below : {slots : ValType → ℕ → Bool} {has_element : Bool} (xs ys : List Value) {locals : List Value} {vars : state.Vars}
    → VarsAgree slots has_element (xs ++ ys) locals vars → VarsAgree slots has_element ys locals vars
agree_below xs ys {vars} a = agree_at a (stacked_below xs ys vars a.stacked) (all_behind IsNumber xs ys a.stack_numbers)

stays_stacked : (name : List ℕ) (new : state.CValue) (stack : List Value) (vars : state.Vars)
    → ((t : ValType) (h : ℕ) → h < height stack → slot t h ≢ name) → Stacked stack vars → Stacked stack (with_named name new vars)
stays_stacked name new [] vars other s = tt
stays_stacked name new (v ∷ stack) vars other s = (
  named-with_another (slot (type_of v) (height stack)) name new vars (other (type_of v) (height stack) (omega arith)) ∙ s.0,
  stays_stacked name new stack vars (λ t h less. other t h (omega (arith, less))) s.1,
)

stays_located : (name : List ℕ) (new : state.CValue) (k : ℕ) (locals : List Value) (vars : state.Vars)
    → ((i : ℕ) → k ≤ i → i < k + length locals → local_name i ≢ name) → Located k locals vars → Located k locals (with_named name new vars)
stays_located name new k [] vars other s = tt
stays_located name new k (v ∷ locals) vars other s = (
  named-with_another (local_name k) name new vars (other k (omega arith) (omega arith)) ∙ s.0,
  stays_located name new (suc k) locals vars (λ i from to. other i (omega (arith, from)) (omega (arith, to))) s.1,
)

-- ---- what variables hold

-- a value of its type goes where this is held
abbrev pub Takes : Option state.CValue → state.CValue → Type 0
Takes held new = (old : state.CValue) × (held ≡ Some old) × (of_one_type old new ≡ true)

pub number_taken : (t : ValType) (held : Option state.CValue) (v : Value) → HoldsNumber t held → type_of v ≡ t → Takes held (state.Number v)
number_taken t held v holds typed = (state.Number holds.0, holds.1, numbers_of_one_type holds.0 v (holds.2 ∙ sym typed))

pub function_taken : (held : Option state.CValue) (to : Option state.FuncAddress) → HoldsFunction held → Takes held (state.FuncPointer to)
function_taken held to holds = (state.FuncPointer holds.0, holds.1, refl)

pub number_there : (t : ValType) (held : Option state.CValue) → HoldsNumber t held → IsSome held
number_there t held holds = ap is_some holds.1

-- what goes where a number or a function is held is one
of_one : (held : Option state.CValue) (old new : state.CValue) → Takes held new → held ≡ Some old → of_one_type old new ≡ true
of_one held old new takes is = ap (λ x. of_one_type x new) (sym (same_Some takes.0 old (sym takes.1 ∙ is))) ∙ takes.2

another_number : (t : ValType) (held : Option state.CValue) (new : state.CValue) → Takes held new → HoldsNumber t held
    → HoldsNumber t (Some new)
another_number t held (state.Number w) takes holds =
    let typed : of_one_type (state.Number holds.0) (state.Number w) ≡ true =
    of_one held (state.Number holds.0) (state.Number w) takes holds.1 in
    (w, refl, sym (equal_type-eq (type_of holds.0) (type_of w) typed) ∙ holds.2)
another_number t held (state.Pointer to) takes holds =
    absurd (let wrong : false ≡ true = of_one held (state.Number holds.0) (state.Pointer to) takes holds.1 in cc)
another_number t held (state.FuncPointer to) takes holds =
    absurd (let wrong : false ≡ true = of_one held (state.Number holds.0) (state.FuncPointer to) takes holds.1 in cc)

another_function : (held : Option state.CValue) (new : state.CValue) → Takes held new → HoldsFunction held → HoldsFunction (Some new)
another_function held (state.FuncPointer to) takes holds = (to, refl)
another_function held (state.Number w) takes holds =
    absurd (let wrong : false ≡ true = of_one held (state.FuncPointer holds.0) (state.Number w) takes holds.1 in cc)
another_function held (state.Pointer to) takes holds =
    absurd (let wrong : false ≡ true = of_one held (state.FuncPointer holds.0) (state.Pointer to) takes holds.1 in cc)

-- what a name holds behind an assignment that keeps types
still_holds : (Holds : Option state.CValue → Type 0) (n name : List ℕ) (new : state.CValue) (vars : state.Vars)
    → Takes (named name vars) new → (Holds (named name vars) → Holds (Some new))
    → Holds (named n vars) → Holds (named n (with_named name new vars))
still_holds Holds n name new vars takes another holds = go (bytes_eq n name) refl
  where
    go : (b : Bool) → bytes_eq n name ≡ b → Holds (named n (with_named name new vars))
    go true is =
        let same : n ≡ name = (bytes_eq-Decides n name).0 is in
        subst (λ (x : List ℕ). Holds (named x (with_named name new vars))) (sym same)
        (subst Holds (sym (named-with_named name new vars (ap is_some takes.1)))
        (another (subst (λ (x : List ℕ). Holds (named x vars)) same holds)))
    go false is =
        let differ : n ≢ name = λ e. let equal : bytes_eq n name ≡ true = (bytes_eq-Decides n name).1 e in cc in
        subst Holds (sym (named-with_another n name new vars differ)) holds

-- behind an assignment to a name that is no global and no pointer, with the operands and locals that there are then
assigned : {slots : ValType → ℕ → Bool} {has_element : Bool} {stack stack' locals locals' : List Value} {vars : state.Vars}
    (name : List ℕ) (new : state.CValue) → ((k : ℕ) → name ≢ global_name k) → ((object : state.Name) → name ≢ pointer_name object)
    → Takes (named name vars) new → VarsAgree slots has_element stack locals vars → Stacked stack' (with_named name new vars)
    → Located 0 locals' (with_named name new vars) → AllByRecursion IsNumber stack' → AllByRecursion IsNumber locals'
    → VarsAgree slots has_element stack' locals' (with_named name new vars)
assigned {vars} name new no_global no_pointer takes a stacked located stack_numbers local_numbers = record {
  stacked = stacked;
  located = located;
  stack_numbers = stack_numbers;
  local_numbers = local_numbers;
  declared = λ t h is. still_holds (HoldsNumber t) (slot t h) name new vars takes (another_number t (named name vars) new takes)
      (a.declared t h is);
  element = λ is. still_holds HoldsFunction element_name name new vars takes (another_function (named name vars) new takes) (a.element is);
  globals_seen = λ k. named-with_another (global_name k) name new vars (λ e. no_global k (sym e)) ∙ a.globals_seen k;
  pointers_seen = λ object. named-with_another (pointer_name object) name new vars (λ e. no_pointer object (sym e))
      ∙ a.pointers_seen object;
}

-- ---- what a local holds

located_at : (k x : ℕ) (locals : List Value) {v : Value} (vars : state.Vars) → Located k locals vars → slice_get locals x ≡ Some v
    → named (local_name (k + x)) vars ≡ Some (state.Number v)
located_at k x [] vars s is = absurd cc
located_at k zero (w ∷ locals) {v} vars s is =
    let e : k ≡ k + 0 = omega arith in
    let same : Some w ≡ Some v = is in
    subst (λ (i : ℕ). named (local_name i) vars ≡ Some (state.Number v)) e
    (s.0 ∙ ap (λ (o : Option Value). elim o [ None ↦ None | Some u ↦ Some (state.Number u) ]) same)
located_at k (suc x) (w ∷ locals) {v} vars s is =
    let e : suc k + x ≡ k + suc x = omega arith in
    subst (λ (i : ℕ). named (local_name i) vars ≡ Some (state.Number v)) e (located_at (suc k) x locals vars s.1 is)

pub local_at : (x : ℕ) (locals : List Value) {v : Value} (vars : state.Vars) → Located 0 locals vars → slice_get locals x ≡ Some v
    → named (local_name x) vars ≡ Some (state.Number v)
local_at x locals {v} vars s is =
    let e : 0 + x ≡ x = omega arith in
    subst (λ (i : ℕ). named (local_name i) vars ≡ Some (state.Number v)) e (located_at 0 x locals vars s is)

pub local_taken : (x : ℕ) (locals : List Value) (v : Value) {old : Value} (vars : state.Vars) → Located 0 locals vars
    → slice_get locals x ≡ Some old → type_of v ≡ type_of old → Takes (named (local_name x) vars) (state.Number v)
local_taken x locals v {old} vars located is typed =
    (state.Number old, local_at x locals vars located is, numbers_of_one_type old v (sym typed))

-- ---- assignments

-- a value is put on top of the operands
pub push : {slots : ValType → ℕ → Bool} {has_element : Bool} {stack locals : List Value} {vars : state.Vars} (v : Value)
    → height stack < 2 ^ 64 → slots (type_of v) (height stack) ≡ true → IsNumber v → VarsAgree slots has_element stack locals vars
    → VarsAgree slots has_element (v ∷ stack) locals (with_named (slot (type_of v) (height stack)) (state.Number v) vars)
push {stack} {locals} {vars} v small there fits a =
    let name : List ℕ = slot (type_of v) (height stack) in
    let new : state.CValue = state.Number v in
    assigned name new (slot_is_no_global (type_of v) (height stack)) (slot_is_no_pointer (type_of v) (height stack))
    (number_taken (type_of v) (named name vars) v (a.declared (type_of v) (height stack) there) refl) a (
      named-with_named name new vars (number_there (type_of v) (named name vars) (a.declared (type_of v) (height stack) there)),
      stays_stacked name new stack vars (λ t h less. slot_at_another_height t (type_of v) h (height stack)
          (omega (arith, less, small)) small (omega (arith, less))) a.stacked,
    ) (stays_located name new 0 locals vars (λ i from to e. slot_is_no_local (type_of v) (height stack) i (sym e)) a.located)
    (fits, a.stack_numbers) a.local_numbers

-- the element that is about to be called
pub set_element : {slots : ValType → ℕ → Bool} {has_element : Bool} {stack locals : List Value} {vars : state.Vars}
    (to : Option state.FuncAddress) → IsTrue has_element → VarsAgree slots has_element stack locals vars
    → VarsAgree slots has_element stack locals (with_named element_name (state.FuncPointer to) vars)
set_element {stack} {locals} {vars} to there a =
    let new : state.CValue = state.FuncPointer to in
    assigned element_name new element_is_no_global element_is_no_pointer (function_taken (named element_name vars) to (a.element there)) a
    (stays_stacked element_name new stack vars (λ t h less. slot_is_no_element t h) a.stacked)
    (stays_located element_name new 0 locals vars (λ i from to. local_is_no_element i) a.located) a.stack_numbers a.local_numbers

-- the local with number x is set
located_set : (k x y : ℕ) (locals : List Value) (v : Value) {old : Value} (vars : state.Vars) → y ≡ k + x → length locals + k < 2 ^ 64
    → slice_get locals x ≡ Some old → Located k locals vars → Located k (slice_set locals x v)
    (with_named (local_name y) (state.Number v) vars)
located_set k x y [] v vars place few is s = absurd cc
located_set k zero y (w ∷ locals) v vars place few is s =
    let e : k ≡ y = omega (arith, place) in
    subst (λ (i : ℕ). Located k (v ∷ locals) (with_named (local_name i) (state.Number v) vars)) e (
      named-with_named (local_name k) (state.Number v) vars (ap is_some s.0),
      stays_located (local_name k) (state.Number v) (suc k) locals vars
          (λ i from to. local_at_another_place i k (omega (arith, to, few)) (omega (arith, few)) (omega (arith, from))) s.1,
    )
located_set k (suc x) y (w ∷ locals) v {old} vars place few is s =
    let within : x < length locals = slice_get_within locals x old is in (
      named-with_another (local_name k) (local_name y) (state.Number v) vars
          (local_at_another_place k y (omega (arith, few)) (omega (arith, few, place, within)) (omega (arith, place))) ∙ s.0,
      located_set (suc k) x y locals v vars (omega (arith, place)) (omega (arith, few)) is s.1,
    )

pub set_local : {slots : ValType → ℕ → Bool} {has_element : Bool} {stack locals : List Value} {vars : state.Vars} (x : ℕ) (v : Value)
    {old : Value} → length locals < 2 ^ 64 → slice_get locals x ≡ Some old → type_of v ≡ type_of old → IsNumber v
    → VarsAgree slots has_element stack locals vars
    → VarsAgree slots has_element stack (slice_set locals x v) (with_named (local_name x) (state.Number v) vars)
set_local {stack} {locals} {vars} x v few is typed fits a =
    assigned (local_name x) (state.Number v) (local_is_no_global x) (local_is_no_pointer x)
    (local_taken x locals v vars a.located is typed) a
    (stays_stacked (local_name x) (state.Number v) stack vars (λ t h less. slot_is_no_local t h x) a.stacked)
    (located_set 0 x x locals v vars (omega arith) (omega (arith, few)) is a.located) a.stack_numbers
    (all_set IsNumber locals x v fits a.local_numbers)

-- ---- operands of a running function are taken

-- what is shared may change
pub lowered : {g : Site} (above whole : List Value) {now : store.State} {new : store.Store} {m after : state.Machine} {vars : state.Vars}
    → StandsAt g (above ++ whole) now m vars
    → Together g.program g.linked g.count (suc g.depth) after new now.trail → StandsAt g whole (exec.in_store now new) after vars
lowered above whole stood together =
    record { together = together; variables = agree_below above whole stood.variables; local_types = stood.local_types }

pub stands_below : {g : Site} (xs ys : List Value) {now : store.State} {m : state.Machine} {vars : state.Vars}
    → StandsAt g (xs ++ ys) now m vars → StandsAt g ys now m vars
stands_below xs ys s = lowered xs ys s s.together
