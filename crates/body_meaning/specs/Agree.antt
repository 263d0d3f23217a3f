-- When the variables of a running function agree with its locals and operands (WebAssembly Core 1.0, 4.2.12 stack).
use Rattle.std.specs.Prelude.{◌≡◌, ℕ, suc, Bool, true, IsTrue, List, [], ◌∷◌, length, Option, Some, None, ⊤}
use Rattle.std.specs.List.{AllByRecursion}
use Rattle.w2c_base.specs.declared.value.ValType.{ValType}
use Rattle.w2c_base.specs.declared.value.Value.{Value}
use Rattle.w2c_base.specs.Values.{type_of, types_of, IsNumber}
use Rattle.w2c_base.specs.Lookup.{named}
use Rattle.c_tree.specs.DefinedNames.{global_name, pointer_name}
use Rattle.c_meaning.specs.State as state
use Rattle.body_forms.specs.Names.{slot, local_name, element_name}

-- each operand stands in its slot; the top comes first
abbrev pub Stacked : List Value → state.Vars → Type 0
Stacked [] vars = ⊤
Stacked (v ∷ stack) vars = (named (slot (type_of v) (length (types_of stack))) vars ≡ Some (state.Number v)) × Stacked stack vars

-- the locals from number k on
abbrev pub Located : ℕ → List Value → state.Vars → Type 0
Located k [] vars = ⊤
Located k (v ∷ locals) vars = (named (local_name k) vars ≡ Some (state.Number v)) × Located (suc k) locals vars

-- what a variable holds: a number of this type, or a pointer to a function
abbrev pub HoldsNumber : ValType → Option state.CValue → Type 0
HoldsNumber t held = (old : Value) × (held ≡ Some (state.Number old)) × (type_of old ≡ t)

abbrev pub HoldsFunction : Option state.CValue → Type 0
HoldsFunction held = (to : Option state.FuncAddress) × (held ≡ Some (state.FuncPointer to))

-- the variables of a function that has these slots, by type and height
pub record VarsAgree (slots : ValType → ℕ → Bool) (has_element : Bool) (stack locals : List Value) (vars : state.Vars) : Type 0 where
  pub stacked : Stacked stack vars
  pub located : Located 0 locals vars
  pub stack_numbers : AllByRecursion IsNumber stack
  pub local_numbers : AllByRecursion IsNumber locals
  pub declared : (t : ValType) (height : ℕ) → slots t height ≡ true → HoldsNumber t (named (slot t height) vars)
  pub element : IsTrue has_element → HoldsFunction (named element_name vars)
  -- no variable hides a global or a pointer of the unit
  pub globals_seen : (k : ℕ) → named (global_name k) vars ≡ None
  pub pointers_seen : (object : state.Name) → named (pointer_name object) vars ≡ None
