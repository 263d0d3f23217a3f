-- The names of a translated function are pairwise distinct, by their letters and numbers.
use Rattle.w2c_base.specs.declared.value.ValType.TheVariants.{I32, I64}
use Rattle.body_meaning.proofs.Common.{◌≡◌, ℕ, ◌^◌, ◌<◌, false, ◌≢◌, List, [], ◌∷◌, bytes_eq, refl, ap, arith, decimal_injective, ValType}
use Rattle.body_meaning.proofs.Common.{depth_name, global_name, element_name, local_name, pointer_name, slot}

abbrev tail : List ℕ → List ℕ
tail [] = []
tail (x ∷ xs) = xs

-- ---- slots

pub slot_at_another_height : (t u : ValType) (h k : ℕ) → h < 2 ^ 64 → k < 2 ^ 64 → h ≢ k → slot t h ≢ slot u k
slot_at_another_height I32 I32 h k p q ne e = ne (decimal_injective h k p q (ap tail e))
slot_at_another_height I64 I64 h k p q ne e = ne (decimal_injective h k p q (ap tail e))
slot_at_another_height I32 I64 h k p q ne e = grind arith
slot_at_another_height I64 I32 h k p q ne e = grind arith

pub slot_is_no_local : (t : ValType) (h k : ℕ) → slot t h ≢ local_name k
slot_is_no_local I32 h k e = grind arith
slot_is_no_local I64 h k e = grind arith

pub slot_is_no_element : (t : ValType) (h : ℕ) → slot t h ≢ element_name
slot_is_no_element I32 h e = grind arith
slot_is_no_element I64 h e = grind arith

pub slot_is_no_global : (t : ValType) (h k : ℕ) → slot t h ≢ global_name k
slot_is_no_global I32 h k e = grind arith
slot_is_no_global I64 h k e = grind arith

pub slot_is_no_pointer : (t : ValType) (h : ℕ) (object : List ℕ) → slot t h ≢ pointer_name object
slot_is_no_pointer I32 h object e = grind arith
slot_is_no_pointer I64 h object e = grind arith

pub slot_is_no_depth : (t : ValType) (h : ℕ) → bytes_eq (slot t h) depth_name ≡ false
slot_is_no_depth I32 h = refl
slot_is_no_depth I64 h = refl

-- ---- locals

pub local_at_another_place : (h k : ℕ) → h < 2 ^ 64 → k < 2 ^ 64 → h ≢ k → local_name h ≢ local_name k
local_at_another_place h k p q ne e = ne (decimal_injective h k p q (ap tail e))

pub local_is_no_element : (k : ℕ) → local_name k ≢ element_name
local_is_no_element k e = grind arith

pub local_is_no_global : (h k : ℕ) → local_name h ≢ global_name k
local_is_no_global h k e = grind arith

pub local_is_no_pointer : (k : ℕ) (object : List ℕ) → local_name k ≢ pointer_name object
local_is_no_pointer k object e = grind arith

pub local_is_no_depth : (k : ℕ) → bytes_eq (local_name k) depth_name ≡ false
local_is_no_depth k = refl

-- ---- the element, globals, pointers

pub element_is_no_global : (k : ℕ) → element_name ≢ global_name k
element_is_no_global k e = grind arith

pub element_is_no_pointer : (object : List ℕ) → element_name ≢ pointer_name object
element_is_no_pointer object e = grind arith
