-- Initial and offset expressions (WebAssembly Core 1.0, 3.3.7): their values, and those of the expressions of C.
use Rattle.w2c_base.specs.declared.value.ValType.TheVariants as type
use Rattle.wasm_meaning.specs.Store as store
use Rattle.c_tree.specs.Tree as c
use Rattle.c_meaning.specs.State as state
use Rattle.c_init.specs.Fitting.{ShapeFits}
use Rattle.init_meaning.proofs.Common.{◌≡◌, ℕ, ◌+◌, ◌%◌, ◌^◌, ◌<◌, Bool, false, List, ℤ, pos, negsuc, slice_get, Some, None, Option, refl}
use Rattle.init_meaning.proofs.Common.{ap, ◌∙◌, arith, if_found, IsNumber, type_of, ValType, Value, I32, I64, Code, GlobalGet, I32Const}
use Rattle.init_meaning.proofs.Common.{I64Const, end_code, then_code, Module, shape_of, shape_of_global, LinkedSet, pattern_of, as_offset}
use Rattle.init_meaning.proofs.Common.{constant_of, number_in, value_of, constant_expr, place_expr}
use Rattle.init_meaning.proofs.InitStatements.{Seat, running, Evaluates, Gets}
use Rattle.init_meaning.proofs.InitObjects.{GlobalFound}

-- what such an expression's value is in both
pub record ConstantFound (s : LinkedSet) (g : Seat) (tree : Module) (m : state.Machine) (made : store.Store) (vars : state.Vars)
    (ty : ValType) (code : Code) : Type 0 where
  pub value : Value
  pub is : constant_of s g.unit made code ≡ Some value
  pub typed : type_of value ≡ ty
  pub is_number : IsNumber value
  pub evaluates : Evaluates g m vars (constant_expr tree code) value

pattern_32 : (z : ℤ) → pattern_of 32 z < 2 ^ 32
pattern_32 (pos a) = omega arith
pattern_32 (negsuc a) = omega arith

pattern_64 : (z : ℤ) → pattern_of 64 z < 2 ^ 64
pattern_64 (pos a) = omega arith
pattern_64 (negsuc a) = omega arith

-- a global that is got
got_found : (s : LinkedSet) (g : Seat) (tree : Module) (m : state.Machine) (made : store.Store) (vars : state.Vars)
    (globals : List (ValType × Bool)) (ty : ValType) (place index : ℕ) → ShapeFits ty (shape_of_global (slice_get globals index))
    → (slice_get globals index ≡ Some (ty, false) → GlobalFound s g tree m made vars index ty)
    → ConstantFound s g tree m made vars ty (then_code place (GlobalGet index) end_code)
got_found s g tree m made vars globals ty place index fits found = go (slice_get globals index) refl fits
  where
    by : GlobalFound s g tree m made vars index ty → ConstantFound s g tree m made vars ty (then_code place (GlobalGet index) end_code)
    by f = record { value = f.value; is = f.is; typed = f.typed; is_number = f.is_number; evaluates = f.evaluates }

    go : (x : Option (ValType × Bool)) → slice_get globals index ≡ x → ShapeFits ty (shape_of_global x)
        → ConstantFound s g tree m made vars ty (then_code place (GlobalGet index) end_code)
    go None is h = absurd h
    go (Some t) is h =
        let same : t ≡ (ty, false) = (λ i. (h.0 i, h.1 i)) in
        by (found (is ∙ ap Some same))

pub constant_found : (s : LinkedSet) (g : Seat) (tree : Module) (m : state.Machine) (made : store.Store) (vars : state.Vars)
    (globals : List (ValType × Bool)) (ty : ValType) (code : Code) → ShapeFits ty (shape_of globals code)
    → ((index : ℕ) → slice_get globals index ≡ Some (ty, false) → GlobalFound s g tree m made vars index ty)
    → ConstantFound s g tree m made vars ty code
constant_found s g tree m made vars globals ty (then_code place (I32Const z) end_code) fits found =
    record { value = I32 (pattern_of 32 z); is = refl; typed = fits; is_number = pattern_32 z; evaluates = λ rest. refl }
constant_found s g tree m made vars globals ty (then_code place (I64Const z) end_code) fits found =
    record { value = I64 (pattern_of 64 z); is = refl; typed = fits; is_number = pattern_64 z; evaluates = λ rest. refl }
constant_found s g tree m made vars globals ty (then_code place (GlobalGet index) end_code) fits found =
    got_found s g tree m made vars globals ty place index fits (found index)
constant_found s g tree m made vars globals ty _ fits found = absurd fits

-- ---- offsets

pub record OffsetFound (s : LinkedSet) (g : Seat) (tree : Module) (m : state.Machine) (made : store.Store) (vars : state.Vars)
    (code : Code) : Type 0 where
  pub offset : ℕ
  pub is : if_found (constant_of s g.unit made code) as_offset ≡ Some offset
  pub small : offset < 2 ^ 32
  pub evaluates : Evaluates g m vars (constant_expr tree code) (I32 offset)

pub offset_found : (s : LinkedSet) (g : Seat) (tree : Module) (m : state.Machine) (made : store.Store) (vars : state.Vars) (code : Code)
    → ConstantFound s g tree m made vars type.I32 code → OffsetFound s g tree m made vars code
offset_found s g tree m made vars code f = go f.value f.is f.typed f.is_number f.evaluates
  where
    go : (v : Value) → constant_of s g.unit made code ≡ Some v → type_of v ≡ type.I32 → IsNumber v
        → Evaluates g m vars (constant_expr tree code) v → OffsetFound s g tree m made vars code
    go (I32 n) is typed small evaluates =
        record { offset = n; is = ap (λ o. if_found o as_offset) is; small = small; evaluates = evaluates }
    go (I64 n) is typed small evaluates = absurd cc

-- a place in a segment
sum_fits : (o k : ℕ) → o < 2 ^ 32 → k < 2 ^ 32 → (o + k) % 18446744073709551616 ≡ o + k
sum_fits o k p q = omega (arith, p, q)

pub place_evaluates : (g : Seat) (tree : Module) (m : state.Machine) (vars : state.Vars) (code : Code) (number : c.Expr) (o k : ℕ)
    → Evaluates g m vars (constant_expr tree code) (I32 o) → Evaluates g m vars number (I64 k) → o < 2 ^ 32 → k < 2 ^ 32
    → Evaluates g m vars (place_expr tree code number) (I64 (o + k))
place_evaluates g tree m vars code number o k left right small less rest = rw (left rest, right rest, sum_fits o k small less) refl

pub place_gets : (g : Seat) (tree : Module) (m : state.Machine) (vars : state.Vars) (code : Code) (number : c.Expr) (o k : ℕ)
    → Evaluates g m vars (constant_expr tree code) (I32 o) → Evaluates g m vars number (I64 k) → o < 2 ^ 32 → k < 2 ^ 32
    → Gets g m vars (c.Value (place_expr tree code number)) (state.Number (I64 (o + k)))
place_gets g tree m vars code number o k left right small less rest =
    ap (λ x. state.then_evaluate x (λ (v : Value). state.Is (state.Number v)))
    (place_evaluates g tree m vars code number o k left right small less rest)

-- as an argument or a right side
pub value_gets : (g : Seat) (m : state.Machine) (vars : state.Vars) (e : c.Expr) (v : Value) → Evaluates g m vars e v
    → Gets g m vars (c.Value e) (state.Number v)
value_gets g m vars (c.Name name) v is rest = go (value_of m (running g rest vars) name) (is rest)
  where
    go : (o : Option state.CValue) → number_in o ≡ state.Is v → state.found o ≡ state.Is (state.Number v)
    go (Some (state.Number w)) e = ap (λ x. state.then_evaluate x (λ (v : Value). state.Is (state.Number v))) e
    go _ e = absurd cc
value_gets g m vars e v is rest = ap (λ x. state.then_evaluate x (λ (v : Value). state.Is (state.Number v))) (is rest)
