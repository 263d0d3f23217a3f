-- What look-ups in lists of values, in linked sets and in a machine's objects tell.
use Rattle.alike.proofs.Common.{◌≡◌, ℕ, zero, suc, Bool, true, false, ◌||◌, List, [], ◌∷◌, IsSome, slice_get, Some, None, Option}
use Rattle.alike.proofs.Common.{option_map, sym, refl, ap, ◌∙◌, slice_set, none-some, same_Some, type_of, types_of, ValType, Value}
use Rattle.alike.proofs.Common.{NamedModule, LinkedSet, module_at, is_some}
use Rattle.c_meaning.specs.State as state
use Rattle.c_meaning.specs.Machine as machine

pub is_there : {A : Type 0} (o : Option A) → IsSome o → (x : A) × (o ≡ Some x)
is_there None some = absurd cc
is_there (Some x) some = (x, refl)

pub value_of_type : (values : List Value) (k : ℕ) (t : ValType) → slice_get (types_of values) k ≡ Some t
    → (v : Value) × (slice_get values k ≡ Some v) × (type_of v ≡ t)
value_of_type [] k t e = absurd (none-some t e)
value_of_type (v ∷ values) zero t e = (v, refl, same_Some (type_of v) t e)
value_of_type (v ∷ values) (suc k) t e = value_of_type values k t e

pub or_middle : (a b c : Bool) → b ≡ true → (a || b || c) ≡ true
or_middle true b c e = refl
or_middle false b c e = ap (λ b. b || c) e

pub or_last : (a b c : Bool) → c ≡ true → (a || b || c) ≡ true
or_last true b c e = refl
or_last false true c e = refl
or_last false false c e = e

pub module_is : (s : LinkedSet) (p : ℕ) (m : NamedModule) → slice_get s.modules p ≡ Some m → module_at s p ≡ Some m.tree
module_is s p m e = ap (option_map (λ (m : NamedModule). m.tree)) e

pub types_set : (values : List Value) (k : ℕ) (v old : Value) → slice_get values k ≡ Some old → type_of v ≡ type_of old
    → types_of (slice_set values k v) ≡ types_of values
types_set [] k v old e same = refl
types_set (x ∷ values) zero v old e same = ap (λ t. t ∷ types_of values) (same ∙ sym (ap type_of (same_Some x old e)))
types_set (x ∷ values) (suc k) v old e same = ap (λ ts. type_of x ∷ ts) (types_set values k v old e same)

pub var_is_object : (m : state.Machine) (a : state.ObjectAddress) (v : state.CValue) → machine.var_in m a ≡ Some v
    → machine.is_object m a ≡ true
var_is_object m a v is = ap (λ (o : Option state.CValue). is_some o || is_some (machine.memory_in m a) || is_some (machine.table_in m a)) is

pub memory_is_object : (m : state.Machine) (a : state.ObjectAddress) (memory : state.Memory) → machine.memory_in m a ≡ Some memory
    → machine.is_object m a ≡ true
memory_is_object m a memory is =
    or_middle (is_some (machine.var_in m a)) (is_some (machine.memory_in m a)) (is_some (machine.table_in m a)) (ap is_some is)

pub table_is_object : (m : state.Machine) (a : state.ObjectAddress) (table : state.Table) → machine.table_in m a ≡ Some table
    → machine.is_object m a ≡ true
table_is_object m a table is =
    or_last (is_some (machine.var_in m a)) (is_some (machine.memory_in m a)) (is_some (machine.table_in m a)) (ap is_some is)
