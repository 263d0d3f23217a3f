-- A machine in which one memory holds other bytes, and nothing else is changed.
use Rattle.c_prelude.proofs.Common.{◌≡◌, ℕ, zero, suc, Bool, true, false, List, [], ◌∷◌, is_some, if◌then◌else◌, slice_get, slice_set, Some}
use Rattle.c_prelude.proofs.Common.{None, Option, bytes_eq, sym, refl, ap, ◌∙◌, if_found, named, with_named, memory_in, with_memory}
use Rattle.c_prelude.proofs.Common.{with_objects, with_content, Machine, Memory, Name, ObjectAddress, Objects}
use Rattle.std.proofs.lemmas.Option.{none-some}
use Rattle.w2c_base.proofs.Places.{set_same}
use Rattle.c_meaning.proofs.Lookups.{named-with_named, with_same}

-- the machine with these bytes or those in its memory
pub record Holding (m : Machine) (a : ObjectAddress) (memory : Memory) : Type 0 where
  pub machine : List ℕ → Machine
  pub first : m ≡ machine memory.bytes
  pub held : (bytes : List ℕ) → memory_in (machine bytes) a ≡ Some (with_content memory bytes)
  pub put : (bytes new : List ℕ) → with_memory (machine bytes) a (with_content memory new) ≡ machine new

-- ---- lists and names

set_again : {A : Type 0} (xs : List A) (k : ℕ) (x y : A) → slice_set (slice_set xs k x) k y ≡ slice_set xs k y
set_again [] k x y = refl
set_again (z ∷ xs) zero x y = refl
set_again (z ∷ xs) (suc k) x y = ap (λ ys. z ∷ ys) (set_again xs k x y)

get_set : {A : Type 0} (xs : List A) (k : ℕ) (x y : A) → slice_get xs k ≡ Some y → slice_get (slice_set xs k x) k ≡ Some x
get_set [] k x y e = absurd (none-some y e)
get_set (z ∷ xs) zero x y e = refl
get_set (z ∷ xs) (suc k) x y e = get_set xs k x y e

with_again : {A : Type 0} (name : Name) (v w : A) (entries : List (Name × A))
    → with_named name w (with_named name v entries) ≡ with_named name w entries
with_again name v w [] = refl
with_again name v w (x ∷ entries) = go (with_again name v w entries) (bytes_eq x.0 name) refl
  where
    go : with_named name w (with_named name v entries) ≡ with_named name w entries → (b : Bool) → bytes_eq x.0 name ≡ b
        → with_named name w (with_named name v (x ∷ entries)) ≡ with_named name w (x ∷ entries)
    go behind true is = rw (is, is) refl
    go behind false is = rw (is, is) (ap (λ ys. x ∷ ys) behind)

-- ---- the machine

objects_found : (found : Option Objects) (name : Name) (memory : Memory) → if_found found (λ o. named name o.memories) ≡ Some memory
    → (o : Objects) × (found ≡ Some o) × (named name o.memories ≡ Some memory)
objects_found None name memory e = absurd (none-some memory e)
objects_found (Some o) name memory e = (o, refl, e)

abbrev with_memories : Objects → List (Name × Memory) → Objects
with_memories o memories = record { vars = o.vars; memories = memories; tables = o.tables }

abbrev with_unit : Machine → ℕ → Objects → Machine
with_unit m k o = record { depth = m.depth; units = slice_set m.units k o; trail = m.trail }

changed : (m : Machine) (k : ℕ) (o : Objects) (change : Objects → Objects) → slice_get m.units k ≡ Some o
    → with_objects m k change ≡ with_unit m k (change o)
changed m k o change e = ap (λ (found : Option Objects). elim found [ None ↦ m | Some o ↦ with_unit m k (change o) ]) e

-- a memory of a machine can be changed so
pub holding : (m : Machine) (a : ObjectAddress) (memory : Memory) → memory_in m a ≡ Some memory → Holding m a memory
holding m a memory is =
    let r = objects_found (slice_get m.units a.unit) a.name memory is in
    let o : Objects = r.0 in
    let objects : List ℕ → Objects = λ bytes. with_memories o (with_named a.name (with_content memory bytes) o.memories) in
    let at : (bytes : List ℕ) → slice_get (slice_set m.units a.unit (objects bytes)) a.unit ≡ Some (objects bytes) =
    λ bytes. get_set m.units a.unit (objects bytes) o r.1 in
    let there : is_some (named a.name o.memories) ≡ true = ap (λ (found : Option Memory). is_some found) r.2 in
    record {
      machine = λ bytes. with_unit m a.unit (objects bytes);
      first = sym (ap (λ memories. with_unit m a.unit (with_memories o memories)) (with_same a.name memory o.memories r.2)
          ∙ ap (λ units. record { depth = m.depth; units = units; trail = m.trail }) (set_same m.units a.unit o r.1));
      held = λ bytes. ap (λ (found : Option Objects). if_found found (λ o. named a.name o.memories)) (at bytes)
          ∙ named-with_named a.name (with_content memory bytes) o.memories there;
      put = λ bytes new.
          changed (with_unit m a.unit (objects bytes)) a.unit (objects bytes)
          (λ o. with_memories o (with_named a.name (with_content memory new) o.memories)) (at bytes)
          ∙ (ap (λ memories. with_unit (with_unit m a.unit (objects bytes)) a.unit (with_memories o memories))
          (with_again a.name (with_content memory bytes) (with_content memory new) o.memories)
          ∙ ap (λ units. record { depth = m.depth; units = units; trail = m.trail })
          (set_again m.units a.unit (objects bytes) (objects new)));
    }

-- bytes are put into the memory as it was at first
pub put_first : (m : Machine) (a : ObjectAddress) (memory : Memory) (h : Holding m a memory) (new : List ℕ)
    → with_memory m a (with_content memory new) ≡ h.machine new
put_first m a memory h new = ap (λ (m : Machine). with_memory m a (with_content memory new)) h.first ∙ h.put memory.bytes new
