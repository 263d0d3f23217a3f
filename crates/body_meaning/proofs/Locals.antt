-- Instructions on locals and constants, and those that only drop or select operands, are followed by their statements.
use Rattle.body_meaning.proofs.Common.{◌≡◌, ℕ, zero, suc, ◌+◌, ◌^◌, ◌<◌, ◌≤◌, List, [], ◌∷◌, ◌++◌, length, slice_get, slice_set, Some, None}
use Rattle.body_meaning.proofs.Common.{Option, sym, refl, ap, ◌∙◌, subst, arith, length-append, all_at, named, with_named, IsNumber, bits}
use Rattle.body_meaning.proofs.Common.{type_of, types_of, value, ValType, Value, I32, declared_locals, Context, Stack, pattern_below}
use Rattle.body_meaning.proofs.Common.{of_the_same_type, pattern_of, join_one, stays, after_label, number, Arrives, Follows, Site, StandsAt}
use Rattle.body_meaning.proofs.Common.{Target, at, label_name, local_name, slot, IsSite, KindFollows, operand, plain_stmts, selected}
use Rattle.body_meaning.proofs.Common.{set_slot, type_of-value, types_many, Spot, IsHere, Turns, ends, false, Kind, under, evaluate-num}
use Rattle.body_definition.specs.Plain.{if_type}
use Rattle.w2c_base.specs.declared.value.ValType.TheVariants as type
use Rattle.w2c_base.specs.declared.value.Value.TheVariants.{I64}
use Rattle.wasm_tree.specs.Instructions as wasm
use Rattle.c_tree.specs.declared.tree.COp.TheVariants as op
use Rattle.c_tree.specs.Tree as tree
use Rattle.wasm_meaning.specs.Store as store
use Rattle.wasm_meaning.specs.Execution as exec
use Rattle.c_meaning.specs.State as state
use Rattle.body_meaning.proofs.Names.{slot_is_no_depth, local_is_no_depth}
use Rattle.body_meaning.proofs.Before.{arrives_by}
use Rattle.body_meaning.proofs.Vars.{height, set_local, local_at, local_taken, number_taken, stands_below}
use Rattle.body_meaning.proofs.Gives.{Place, owes, running, evaluate-variable, set_reaches, sets, Owes, leaves_value}
use Rattle.body_meaning.proofs.Numeric.{one_of, evaluate-slot, one_stands, Two, two_stand, value_place}
use Rattle.alike.proofs.LookUps.{types_set}
use Rattle.body_meaning.proofs.Operands.{value_number, other_types, no_operand}
use Rattle.body_meaning.proofs.Jumps.{if_passes, if_goes, ne_more}

-- ---- no statement

-- what only takes operands away
taken_off : {g : Site} (stack base : List Value) {now : store.State} {m : state.Machine} {vars : state.Vars}
    → StandsAt g (stack ++ base) now m vars → {outs : Stack} → types_of stack ≡ outs → (targets : List Target) (exit : Target) (n : ℕ)
    (rest : List tree.Stmt) → Follows g 0 targets exit base rest outs (at g m rest vars) n (exec.Normal n stack now)
taken_off {g} stack base {m} {vars} agree typed targets exit n rest =
    (typed, [], arrives_by agree (stays g.program (at g m rest vars)) (record { least = omega arith; most = omega arith }))

pub nop_follows : (g : Site) (calls : exec.Calls) → KindFollows g calls wasm.Nop
nop_follows g calls s stack here exit n = taken_off stack s.base here.stands (here.typed.1 ∙ sym here.typed.2) s.targets exit n s.rest

pub drop_follows : (g : Site) (calls : exec.Calls) → KindFollows g calls wasm.Drop
drop_follows g calls s [] here exit n = absurd (no_operand here.typed.1.1)
drop_follows g calls s (v ∷ stack) here exit n =
    taken_off stack s.base (stands_below (v ∷ []) _ here.stands) (other_types here.typed.1.1 ∙ sym here.typed.1.2) s.targets exit n s.rest

-- ---- constants

const_does : {g : Site} {room : ℕ} {calls : exec.Calls} → IsSite g room calls → {kind : Kind} {s : Spot} {stack : List Value}
    → IsHere g kind s stack → ends kind ≡ false → (t : ValType) (k : ℕ) → k < 2 ^ bits t → Turns [] (t ∷ []) (types_of stack) s.outs
    → (left : ℕ) → Owes g s (set_slot t (height (stack ++ s.base)) (number t k) ∷ []) left (exec.Leaves (value t k ∷ stack) s.now)
const_does {g} site {s} {stack} here goes t k fits turns left =
    sets (value_place site here goes turns.2 stack turns.1 here.stands) k fits left (number t k) (evaluate-num g.program s.machine
    (running g (set_slot t (height (stack ++ s.base)) (number t k) ∷ s.rest) s.vars) t k)

pub i32_const_follows : {g : Site} {room : ℕ} {calls : exec.Calls} (z : _) → IsSite g room calls → KindFollows g calls (wasm.I32Const z)
i32_const_follows {g} z site s stack here exit n =
    owes g s exit n _ {done = exec.plain g.linked g.unit (wasm.I32Const z) stack s.now} refl
    (const_does site here refl type.I32 (pattern_of 32 z) (pattern_below 32 z) here.typed)

pub i64_const_follows : {g : Site} {room : ℕ} {calls : exec.Calls} (z : _) → IsSite g room calls → KindFollows g calls (wasm.I64Const z)
i64_const_follows {g} z site s stack here exit n =
    owes g s exit n _ {done = exec.plain g.linked g.unit (wasm.I64Const z) stack s.now} refl
    (const_does site here refl type.I64 (pattern_of 64 z) (pattern_below 64 z) here.typed)

-- ---- locals

-- the local with a type
pub local_of : (locals : List Value) (index : ℕ) {t : ValType} → slice_get (types_of locals) index ≡ Some t
    → (n : ℕ) × (slice_get locals index ≡ Some (value t n))
local_of [] index e = absurd cc
local_of (v ∷ locals) zero {t} e = go v t e
  where
    go : (v : Value) (t : ValType) → Some (type_of v) ≡ Some t → (n : ℕ) × (Some v ≡ Some (value t n))
    go (I32 n) type.I32 e = (n, refl)
    go (I64 n) type.I64 e = (n, refl)
    go _ _ e = absurd cc
local_of (v ∷ locals) (suc index) e = local_of locals index e

pub few_locals : {g : Site} {room : ℕ} {calls : exec.Calls} → IsSite g room calls → (locals : List Value)
    → types_of locals ≡ g.setting.context.locals → length locals < 2 ^ 64
few_locals site locals e =
    let counted : length (types_of locals) ≡ length (site.ty.params ++ declared_locals site.entry.runs) = ap length e
    ∙ ap (λ (c : Context). length c.locals) site.context_is in
    let both : length (site.ty.params ++ declared_locals site.entry.runs)
    ≡ length site.ty.params + length (declared_locals site.entry.runs) = length-append site.ty.params (declared_locals site.entry.runs) in
    let params : length site.ty.params ≤ 60 = site.few_params in
    let declared : length (declared_locals site.entry.runs) < 2 ^ 32 = site.within.locals in
    let same : length (types_of locals) ≡ length locals = types_many locals in
    omega (arith, counted, both, params, declared, same)

number_fits : (t : ValType) (n : ℕ) → IsNumber (value t n) → n < 2 ^ bits t
number_fits type.I32 n h = h
number_fits type.I64 n h = h

-- what a local of the running function holds
held : {g : Site} {stack : List Value} {now : store.State} {m : state.Machine} {vars : state.Vars} → StandsAt g stack now m vars
    → (index : ℕ) {t : ValType} → slice_get g.setting.context.locals index ≡ Some t
    → (k : ℕ) × (slice_get now.locals index ≡ Some (value t k))
held {now} agree index is = local_of now.locals index (ap (λ (ts : Stack). slice_get ts index) agree.local_types ∙ is)

pub local_get_follows : {g : Site} {room : ℕ} {calls : exec.Calls} (index : ℕ) → IsSite g room calls
    → KindFollows g calls (wasm.LocalGet index)
local_get_follows {g} index site s stack here exit n =
    let t : ValType = here.typed.0 in
    let found = held here.stands index here.typed.1 in
    let fits : found.0 < 2 ^ bits t = number_fits t found.0
    (all_at IsNumber s.now.locals index (value t found.0) here.stands.variables.local_numbers found.1) in
    owes g s exit n _ refl (λ left. rw (here.typed.1, found.1)
    (sets (value_place site here refl here.typed.2.2 stack here.typed.2.1 here.stands) found.0 fits left (tree.Name (local_name index))
    (evaluate-variable g.program s.machine (running g (set_slot t (height (stack ++ s.base)) (tree.Name (local_name index)) ∷ s.rest)
    s.vars) (local_name index) (local_is_no_depth index) (local_at index s.now.locals s.vars here.stands.variables.located found.1))))

-- an operand is put into a local; `whole` stays
sets_local : {g : Site} {room : ℕ} {calls : exec.Calls} → IsSite g room calls
    → {whole : List Value} {now : store.State} {m : state.Machine} {vars : state.Vars} → StandsAt g whole now m vars
    → (index : ℕ) (t : ValType) (h n k : ℕ) → named (slot t h) vars ≡ Some (state.Number (value t n)) → n < 2 ^ bits t
    → slice_get now.locals index ≡ Some (value t k) → (rest : List tree.Stmt) (left : ℕ)
    → Arrives g 0 rest (at g m (tree.Set (local_name index) (tree.Value (operand t h)) ∷ rest) vars) (suc left) left whole
    (exec.in_locals now (slice_set now.locals index (value t n)))
sets_local {g} site {now} {m} {vars} agree index t h n k is fits old rest left =
    let stmts : List tree.Stmt = tree.Set (local_name index) (tree.Value (operand t h)) ∷ rest in
    let typed : type_of (value t n) ≡ type_of (value t k) = type_of-value t n ∙ sym (type_of-value t k) in
    arrives_by {m = m} {vars = with_named (local_name index) (state.Number (value t n)) vars} (record {
      together = agree.together;
      variables = set_local index (value t n) (few_locals site now.locals agree.local_types) old typed (value_number t n fits)
          agree.variables;
      local_types = types_set now.locals index (value t n) (value t k) old typed ∙ agree.local_types;
    }) (set_reaches g m rest vars (local_name index) (operand t h) (local_is_no_depth index)
    (local_taken index now.locals (value t n) vars agree.variables.located old typed) (evaluate-slot g m stmts vars t h is))
    (record { least = omega arith; most = omega arith })

local_set_done : (index : ℕ) (v : Value) {old : Value} (stack : List Value) (now : store.State) → slice_get now.locals index ≡ Some old
    → type_of old ≡ type_of v → exec.local_set index v stack now ≡ exec.Leaves stack (exec.in_locals now (slice_set now.locals index v))
local_set_done index v {old} stack now e typed =
    let does : exec.Done = exec.Leaves stack (exec.in_locals now (slice_set now.locals index v)) in
    ap (λ (o : Option Value). elim o [ None ↦ exec.NoRule | Some w ↦ exec.of_one_type w v does ]) e ∙ of_the_same_type old v does typed

-- an operand is put into a local, and these stay
puts_local : {g : Site} {room : ℕ} {calls : exec.Calls} → IsSite g room calls → (s : Spot) (index : ℕ) {t : ValType} {types : Stack}
    → slice_get g.setting.context.locals index ≡ Some t → (kept : Value → List Value → List Value)
    → ((x : ℕ) (below : List Value) → StandsAt g (value t x ∷ (below ++ s.base)) s.now s.machine s.vars
    → StandsAt g (kept (value t x) below ++ s.base) s.now s.machine s.vars)
    → ((x : ℕ) (below : List Value) → types_of below ≡ types → types_of (kept (value t x) below) ≡ s.outs)
    → (done : List Value → exec.Done) → ((v : Value) (below : List Value) → done (v ∷ below) ≡ exec.local_set index v (kept v below) s.now)
    → (left : ℕ) (stack : List Value) → types_of stack ≡ t ∷ types → StandsAt g (stack ++ s.base) s.now s.machine s.vars
    → Owes g s (if_type (slice_get g.setting.context.locals index)
    (λ t. tree.Set (local_name index) (tree.Value (operand t (under 1 (types_of (stack ++ s.base))))) ∷ [])) left (done stack)
puts_local {g} site s index {t} {types} is kept keeps typed done does left stack shape agree =
    one_of t (λ stack. StandsAt g (stack ++ s.base) s.now s.machine s.vars → Owes g s (if_type (slice_get g.setting.context.locals index)
    (λ t. tree.Set (local_name index) (tree.Value (operand t (under 1 (types_of (stack ++ s.base))))) ∷ [])) left (done stack))
    go stack shape agree
  where
    go : (x : ℕ) (below : List Value) → types_of below ≡ types → StandsAt g (value t x ∷ (below ++ s.base)) s.now s.machine s.vars
        → Owes g s (if_type (slice_get g.setting.context.locals index)
        (λ t. tree.Set (local_name index) (tree.Value (operand t (height (below ++ s.base)))) ∷ [])) left (done (value t x ∷ below))
    go x below same agree =
        let one = one_stands s t x agree in
        let found = held agree index is in
        rw (
          is,
          does (value t x) below,
          local_set_done index (value t x) (kept (value t x) below) s.now found.1 (type_of-value t found.0 ∙ sym (type_of-value t x)),
        ) (
          typed x below same,
          [],
          sets_local site (keeps x below agree) index t (height (below ++ s.base)) x found.0 one.is one.fits found.1 s.rest left,
        )

pub local_set_follows : {g : Site} {room : ℕ} {calls : exec.Calls} (index : ℕ) → IsSite g room calls
    → KindFollows g calls (wasm.LocalSet index)
local_set_follows {g} index site s stack here exit n =
    owes g s exit n _ refl (λ left. puts_local site s index here.typed.1 (λ v below. below)
    (λ x below agree. (one_stands s here.typed.0 x agree).below) (λ x below same. same ∙ sym here.typed.2.2)
    (λ stack. exec.plain g.linked g.unit (wasm.LocalSet index) stack s.now) (λ v below. refl) left stack here.typed.2.1 here.stands)

pub local_tee_follows : {g : Site} {room : ℕ} {calls : exec.Calls} (index : ℕ) → IsSite g room calls
    → KindFollows g calls (wasm.LocalTee index)
local_tee_follows {g} index site s stack here exit n =
    let t : ValType = here.typed.0 in
    owes g s exit n _ refl (λ left. puts_local site s index here.typed.1 (λ v below. v ∷ below) (λ x below agree. agree)
    (λ x below same. ap (λ (u : ValType). u ∷ types_of below) (type_of-value t x) ∙ ap (λ (ts : Stack). t ∷ ts) same ∙ sym here.typed.2.2)
    (λ stack. exec.plain g.linked g.unit (wasm.LocalTee index) stack s.now) (λ v below. refl) left stack here.typed.2.1 here.stands)

-- ---- select

selects : {g : Site} {s : Spot} {below : List Value} {t : ValType} → Place g s below t
    → {x y : ℕ} → Two g s (below ++ s.base) t x y → StandsAt g (value t x ∷ (below ++ s.base)) s.now s.machine s.vars
    → (c l : ℕ) → named (slot type.I32 (2 + height (below ++ s.base))) s.vars ≡ Some (state.Number (I32 c))
    → after_label (label_name l) g.body.stmts ≡ Some s.rest → (left : ℕ)
    → Owes g s (selected l (height (below ++ s.base)) t) left (exec.selected (I32 c ∷ value t y ∷ value t x ∷ below) s.now)
selects {g} {s} {below} {t} place {x} {y} two first zero l condition found left =
    let h : ℕ = height (below ++ s.base) in
    let move : tree.Stmt = set_slot t h (operand t (1 + h)) in
    let label : List tree.Stmt = tree.Label (label_name l) ∷ s.rest in
    subst (Owes g s (selected l h t) left) (sym (of_the_same_type (value t x) (value t y) (exec.Leaves (value t y ∷ below) s.now)
    (type_of-value t x ∙ sym (type_of-value t y))))
    (leaves_value place place.stands (value t y) (type_of-value t y) (value_number t y two.fits) (label_name l ∷ []) left (omega arith)
    (omega arith) (join_one _ _ _ _ _ (if_passes g s.machine s.vars op.Ne (2 + h) 0 l (move ∷ label) condition refl)
    (set_reaches g s.machine label s.vars (slot t h) (operand t (1 + h)) (slot_is_no_depth t h)
    (number_taken t (named (slot t h) s.vars) (value t y) (place.stands.variables.declared t h place.there) (type_of-value t y))
    (evaluate-slot g s.machine (move ∷ label) s.vars t (1 + h) two.is))))
selects {g} {s} {below} {t} place {x} {y} two first (suc c) l condition found left =
    let h : ℕ = height (below ++ s.base) in
    let move : tree.Stmt = set_slot t h (operand t (1 + h)) in
    subst (Owes g s (selected l h t) left) (sym (of_the_same_type (value t x) (value t y) (exec.Leaves (value t x ∷ below) s.now)
    (type_of-value t x ∙ sym (type_of-value t y)))) (
      ap (λ (u : ValType). u ∷ types_of below) (type_of-value t x) ∙ sym place.typed,
      [],
      arrives_by first
          (if_goes g s.machine s.vars op.Ne (2 + h) (suc c) l (move ∷ tree.Label (label_name l) ∷ s.rest) condition (ne_more c) found)
          (record { least = omega arith; most = omega arith }),
    )

-- a condition above two operands of a type
pub three_of : (t : ValType) {types : Stack} (P : List Value → Type 0)
    → ((c x y : ℕ) (below : List Value) → types_of below ≡ types → P (I32 c ∷ value t y ∷ value t x ∷ below))
    → (stack : List Value) → types_of stack ≡ type.I32 ∷ t ∷ t ∷ types → P stack
three_of type.I32 P go (I32 c ∷ I32 y ∷ I32 x ∷ below) e = go c x y below cc
three_of type.I64 P go (I32 c ∷ I64 y ∷ I64 x ∷ below) e = go c x y below cc
three_of t P go _ e = absurd cc

abbrev SelectDoes : Site → Spot → ℕ → List Value → Type 0
SelectDoes g s left stack = IsHere g wasm.Select s stack
    → Owes g s (plain_stmts g.setting (types_of (stack ++ s.base)) s.label wasm.Select) left (exec.selected stack s.now)

select_does : {g : Site} {room : ℕ} {calls : exec.Calls} → IsSite g room calls → (s : Spot) (left : ℕ) {t : ValType} {types : Stack}
    → s.outs ≡ t ∷ types → (stack : List Value) → types_of stack ≡ type.I32 ∷ t ∷ t ∷ types → SelectDoes g s left stack
select_does {g} site s left {t} {types} result = three_of t (SelectDoes g s left) go
  where
    go : (c x y : ℕ) (below : List Value) → types_of below ≡ types → SelectDoes g s left (I32 c ∷ value t y ∷ value t x ∷ below)
    go c x y below same here =
        let whole : List Value = below ++ s.base in
        let condition = one_stands s type.I32 c here.stands in
        let two = two_stand s t x y condition.below in
        let e : height (value t y ∷ value t x ∷ whole) ≡ 2 + height whole = omega arith in
        let is : named (slot type.I32 (2 + height whole)) s.vars ≡ Some (state.Number (I32 c)) =
        subst (λ (h : ℕ). named (slot type.I32 h) s.vars ≡ Some (state.Number (I32 c))) e condition.is in
        subst (λ (u : ValType). Owes g s (selected s.label (height whole) u) left
        (exec.selected (I32 c ∷ value t y ∷ value t x ∷ below) s.now)) (sym (type_of-value t y))
        (selects (value_place site here refl result below same two.first.below) two
        (stands_below (value t y ∷ []) (value t x ∷ whole) condition.below) c s.label is here.placed.0 left)

pub select_follows : {g : Site} {room : ℕ} {calls : exec.Calls} → IsSite g room calls → KindFollows g calls wasm.Select
select_follows {g} site s stack here exit n =
    owes g s exit n _ refl (λ left. select_does site s left here.typed.1.2 stack here.typed.1.1 here)
