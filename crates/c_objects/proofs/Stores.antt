-- Objects that stand by number, looked up by name.
use Rattle.c_objects.proofs.Common.{◌≡◌, ℕ, zero, suc, Bool, true, false, List, [], ◌∷◌, length, get_or, if◌then◌else◌, slice_get}
use Rattle.c_objects.proofs.Common.{slice_set, Some, None, zip, bytes_eq, sym, refl, ap, subst, arith, rules, AllByRecursion, named}
use Rattle.c_objects.proofs.Common.{with_named, memory_in, table_in, Effect, NoEffect, on_memory, on_table, Machine, Name, ObjectAddress}
use Rattle.c_objects.proofs.Common.{Pointer, memory_effect, table_effect, AreNames, AreStored, Differ, IsStored, objects_of, units_of}
use Rattle.c_objects.proofs.Common.{Naming, UnitNames, MemoryCall, UnitObjects, TableCall, same_Some}
use Rattle.w2c_base.specs.Values.{equal_type, type_of}
use Rattle.c_objects.specs.declared.memory.MemoryCall.TheVariants as mem
use Rattle.c_objects.specs.declared.table.TableCall.TheVariants as tab
use Rattle.c_tree.specs.Primitives.{type_at}
use Rattle.std.proofs.lemmas.Option.{same_Some}

module _ {A : Type 0} where
  -- a name that differs from all is beside nothing
  pub no_such : (q : Name) (names : List Name) (vs : List A) → AllByRecursion (λ x. bytes_eq x q ≡ false) names
      → named q (zip names vs) ≡ None
  no_such q (x ∷ names) (v ∷ vs) all = rw all.0 (no_such q names vs all.1)
  no_such q _ _ all = refl

pub nameless : (names : List Name) → AreNames names → AllByRecursion (λ x. bytes_eq x [] ≡ false) names
nameless [] are = tt
nameless (x ∷ names) are = (are.0.1, nameless names are.2)

-- the name at a number differs from the first
pub later : (x : Name) (names : List Name) (i : ℕ) → Differ [] x → AllByRecursion (Differ x) names → bytes_eq x (get_or names i []) ≡ false
later x [] i letter all = letter.1
later x (y ∷ names) zero letter all = all.0.0
later x (y ∷ names) (suc i) letter all = later x names i letter all.1

bytes_same : (x : Name) → bytes_eq x x ≡ true
bytes_same x = search rules

module _ {A : Type 0} where
  -- what stands at a number stands beside its name
  pub named_at : (names : List Name) (vs : List A) (i : ℕ) → AreNames names → length names ≡ length vs
      → named (get_or names i []) (zip names vs) ≡ slice_get vs i
  named_at [] [] i are many = refl
  named_at (x ∷ names) (v ∷ vs) zero are many = rw (bytes_same x) refl
  named_at (x ∷ names) (v ∷ vs) (suc i) are many = rw (later x names i are.0 are.1) (named_at names vs i are.2 (omega (arith, many)))
  named_at _ _ i are many = absurd (omega (arith, many))

  pub set_at : (names : List Name) (vs : List A) (i : ℕ) (w : A) → AreNames names → length names ≡ length vs
      → with_named (get_or names i []) w (zip names vs) ≡ zip names (slice_set vs i w)
  set_at [] vs i w are many = refl
  set_at (x ∷ names) [] i w are many = absurd (omega (arith, many))
  set_at (x ∷ names) (v ∷ vs) zero w are many = rw (bytes_same x) refl
  set_at (x ∷ names) (v ∷ vs) (suc i) w are many =
      rw (later x names i are.0 are.1) (ap (λ l. (x, v) ∷ l) (set_at names vs i w are.2 (omega (arith, many))))

-- the unit at a number
module _ (names : Naming) where
  pub stored_at : (ns : List UnitNames) (os : List UnitObjects) (u : ℕ) (o : UnitObjects) → AreStored ns os → slice_get os u ≡ Some o
      → (n : UnitNames) × (slice_get ns u ≡ Some n) × IsStored n o
  stored_at [] [] u o are e = absurd cc
  stored_at (n ∷ ns) (p ∷ os) zero o are e = let same : p ≡ o = same_Some p o e in (n, refl, subst (λ x. IsStored n x) same are.0)
  stored_at (n ∷ ns) (p ∷ os) (suc u) o are e = stored_at ns os u o are.1 e
  stored_at _ _ u o are e = absurd are

  pub stored_set : (ns : List UnitNames) (os : List UnitObjects) (u : ℕ) (n : UnitNames) (o : UnitObjects) → AreStored ns os
      → slice_get ns u ≡ Some n → IsStored n o
      → AreStored ns (slice_set os u o)
  stored_set [] [] u n o are e is = absurd cc
  stored_set (k ∷ ns) (p ∷ os) zero n o are e is = (subst (λ x. IsStored x o) (same_Some n k (sym e)) is, are.1)
  stored_set (k ∷ ns) (p ∷ os) (suc u) n o are e is = (are.0, stored_set ns os u n o are.1 e is)
  stored_set _ _ u n o are e is = absurd are

  pub units_at : (ns : List UnitNames) (os : List UnitObjects) (u : ℕ) (n : UnitNames) (o : UnitObjects) → slice_get ns u ≡ Some n
      → slice_get os u ≡ Some o
      → slice_get (units_of names ns os) u ≡ Some (objects_of names n o)
  units_at [] os u n o en eo = absurd cc
  units_at (k ∷ ns) [] u n o en eo = absurd cc
  units_at (k ∷ ns) (p ∷ os) zero n o en eo = both k p n o en eo
    where
      both : (k : UnitNames) (p : UnitObjects) (n : UnitNames) (o : UnitObjects) → Some k ≡ Some n → Some p ≡ Some o
          → Some (objects_of names k p) ≡ Some (objects_of names n o)
      both k p n o en eo = let one : k ≡ n = cc in let other : p ≡ o = cc in rw (one, other) refl
  units_at (k ∷ ns) (p ∷ os) (suc u) n o en eo = units_at ns os u n o en eo

  pub units_past : (ns : List UnitNames) (os : List UnitObjects) (u : ℕ) → slice_get os u ≡ None → slice_get (units_of names ns os) u ≡ None
  units_past (n ∷ ns) (o ∷ os) zero e = absurd cc
  units_past (n ∷ ns) (o ∷ os) (suc u) e = units_past ns os u e
  units_past _ _ u e = refl

  pub units_set : (ns : List UnitNames) (os : List UnitObjects) (u : ℕ) (n : UnitNames) (o : UnitObjects) → slice_get ns u ≡ Some n
      → slice_set (units_of names ns os) u (objects_of names n o) ≡ units_of names ns (slice_set os u o)
  units_set [] os u n o e = refl
  units_set (k ∷ ns) [] u n o e = refl
  units_set (k ∷ ns) (p ∷ os) zero n o e = ap (λ x. objects_of names x o ∷ units_of names ns os) (same_Some n k (sym e))
  units_set (k ∷ ns) (p ∷ os) (suc u) n o e = ap (λ l. objects_of names k p ∷ l) (units_set ns os u n o e)

-- nothing stands there
pub no_memory_effect : (names : Naming) (m : Machine) (a : ObjectAddress) (call : MemoryCall) → memory_in m a ≡ None
    → memory_effect call (Pointer (Some a)) m ≡ NoEffect
no_memory_effect names m a (mem.Put width at v) e = go (equal_type (type_at width) (type_of v)) (rw (e, on_memory) refl)
  where
    go : {x : Effect} (b : Bool) → x ≡ NoEffect → (if b then x else NoEffect) ≡ NoEffect
    go true e = e
    go false e = refl
no_memory_effect names m a _ e = rw (e, on_memory) refl

pub no_table_effect : (names : Naming) (m : Machine) (a : ObjectAddress) (call : TableCall) → table_in m a ≡ None
    → table_effect names call (Pointer (Some a)) m ≡ NoEffect
no_table_effect names m a (tab.New count most) e = rw (e, on_table) refl
no_table_effect names m a _ e = rw (e, on_table) refl
