-- The slots of a function: below the greatest height, and set without changing what else its variables hold.
use Rattle.body_meaning.proofs.Common.{◌≡◌, ℕ, ◌^◌, ◌<◌, max, true, ◌⊎◌, List, [], ◌∷◌, length, sym, ◌∙◌, inl, inr, arith, or_cases}
use Rattle.body_meaning.proofs.Common.{with_named, IsNumber, type_of, types_of, ValType, Value, Code, Context, values, VarsAgree, has_slot}
use Rattle.body_meaning.proofs.Common.{most_operands, Site, slot, IsSite, occurs, peak, stands}
use Rattle.wasm_meaning.specs.Execution as exec
use Rattle.c_meaning.specs.State as state
use Rattle.body_definition.proofs.Heights.{stands_low, occurs_low}
use Rattle.body_definition.proofs.Peaks.{one_value}
use Rattle.body_meaning.proofs.Vars.{push}

pub slots_are_low : (t : ValType) (c : Context) (code : Code) (height : ℕ) → has_slot t c code height ≡ true → height < most_operands c code
slots_are_low t c code height e =
    go (stands_low t height _) (occurs_low t height c [] code) (or_cases (stands t height (values c.result)) (occurs t height c [] code) e)
  where
    go : (stands t height (values c.result) ≡ true → height < length (values c.result))
        → (occurs t height c [] code ≡ true → height < peak c [] code)
        → (stands t height (values c.result) ≡ true) ⊎ (occurs t height c [] code ≡ true)
        → height < max (length (values c.result)) (peak c [] code)
    go left right (inl is) = let low : height < length (values c.result) = left is in omega (arith, low)
    go left right (inr is) = let low : height < peak c [] code = right is in omega (arith, low)

-- the height of a slot that a site has
pub slot_low : {g : Site} {room : ℕ} {calls : exec.Calls} → IsSite g room calls → (t : ValType) (height : ℕ) → g.slots t height ≡ true
    → height < 2 ^ 32
slot_low {g} site t height e =
    let c : Context = g.setting.context in
    let low : height < max (length (values c.result)) (peak c [] site.entry.code) =
    slots_are_low t c site.entry.code height (sym (site.slots_are t height) ∙ e) in
    let few : peak c [] site.entry.code < 2 ^ 32 = site.within.operands c in
    omega (arith, low, few, one_value c.result)

-- a value may be put into a slot that the function has
abbrev pub SlotIsSet : Site → Type 0
SlotIsSet g = (v : Value) (stack locals : List Value) (vars : state.Vars)
    → g.slots (type_of v) (length (types_of stack)) ≡ true → IsNumber v → VarsAgree g.slots g.has_element stack locals vars
    → VarsAgree g.slots g.has_element (v ∷ stack) locals (with_named (slot (type_of v) (length (types_of stack))) (state.Number v) vars)

pub slots_are_set : {g : Site} {room : ℕ} {calls : exec.Calls} → IsSite g room calls → SlotIsSet g
slots_are_set site v stack locals vars there fits a =
    let low : length (types_of stack) < 2 ^ 32 = slot_low site (type_of v) (length (types_of stack)) there in
    push v (omega (arith, low)) there fits a
