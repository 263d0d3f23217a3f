-- What the tables of a unit find is what the meaning of C finds by name.
use Rattle.c_thread.proofs.Common.{◌≡◌, ℕ, zero, suc, ◌+◌, Bool, true, false, List, [], ◌∷◌, map, length, is_some, if◌then◌else◌, slice_get}
use Rattle.c_thread.proofs.Common.{Some, None, Option, option_map, zip, bytes_eq, sym, refl, ap, ◌∙◌, subst, arith, option_or, if_found}
use Rattle.c_thread.proofs.Common.{named, Trail, var_in, Name, slice_get-map, units_at, units_past, AreStored, IsStored, machine_of, var_at}
use Rattle.c_thread.proofs.Common.{Naming, UnitNames, value_of, Held, UnitObjects, named-zip, Finds, entry_in, number_in, same_Some}
use Rattle.c_objects.specs.declared.held.Object.TheVariants as object

abbrev no_value : Option Held
no_value = None

nothing : (o : Option ℕ) → if_found o (λ i. no_value) ≡ no_value
nothing None = refl
nothing (Some i) = refl

module _ (names : Naming) (depth : ℕ) (trail : Trail) where
  -- a variable of a unit by its name
  pub var_seen : (os : List UnitObjects) (u : ℕ) (n : UnitNames) (table : List (Name × ℕ)) (q : Name) → AreStored names os
      → slice_get names u ≡ Some n
      → Finds table (λ q. number_in q n.vars)
      → var_in (machine_of names depth trail os) (record { unit = u; name = q })
      ≡ option_map (value_of names) (if_found (named q table) (λ i. var_at os (record { unit = u; object = object.Variable i })))
  var_seen os u n table q are here finds = go (slice_get os u) refl
    where
      through : (x : UnitObjects) (o : Option ℕ)
          → if_found o (λ i. slice_get (map (value_of names) x.vars.items) i)
          ≡ option_map (value_of names) (if_found o (λ i. slice_get x.vars.items i))
      through x None = refl
      through x (Some i) = slice_get-map (value_of names) x.vars.items i

      go : (o : Option UnitObjects) → slice_get os u ≡ o → var_in (machine_of names depth trail os) (record { unit = u; name = q })
          ≡ option_map (value_of names) (if_found (named q table) (λ i. var_at os (record { unit = u; object = object.Variable i })))
      go None e =
          ap (λ o. if_found o (λ o. named q o.vars)) (units_past names names os u e)
          ∙ sym (ap (option_map (value_of names))
          (ap (λ o. if_found (named q table) (λ i. if_found o (λ x. slice_get x.vars.items i))) e ∙ nothing (named q table)))
      go (Some x) e =
          ap (λ o. if_found o (λ o. named q o.vars)) (units_at names names os u n x here e)
          ∙ named-zip q n.vars (map (value_of names) x.vars.items)
          ∙ through x (number_in q n.vars)
          ∙ ap (λ o. option_map (value_of names) (if_found o (λ i. slice_get x.vars.items i))) (sym (finds q))
          ∙ ap (λ o. option_map (value_of names) (if_found (named q table) (λ i. if_found o (λ x. slice_get x.vars.items i)))) (sym e)

-- a name is there where a number is
pub present : {A : Type 0} (k : ℕ) (q : Name) (xs : List Name) (vs : List A) → length xs ≡ length vs
    → is_some (named q (zip xs vs)) ≡ is_some (entry_in k q (map Some xs))
present k q [] vs many = refl
present k q (x ∷ xs) [] many = absurd (omega (arith, many))
present {A = A} k q (x ∷ xs) (v ∷ vs) many = go (present (k + 1) q xs vs (omega (arith, many))) (bytes_eq x q)
  where
    go : is_some (named q (zip xs vs)) ≡ is_some (entry_in (k + 1) q (map Some xs))
        → (b : Bool) → is_some (if b then Some v else named q (zip xs vs))
        ≡ is_some (option_or (if b then Some k else None) (entry_in (k + 1) q (map Some xs)))
    go rest true = refl
    go rest false = rest

-- the objects of a unit with names
pub stored_for : (ns : List UnitNames) (os : List UnitObjects) (u : ℕ) (n : UnitNames) → AreStored ns os → slice_get ns u ≡ Some n
    → (o : UnitObjects) × (slice_get os u ≡ Some o) × IsStored n o
stored_for [] os u n are e = absurd cc
stored_for (k ∷ ns) [] u n are e = absurd are
stored_for (k ∷ ns) (o ∷ os) zero n are e = (o, refl, subst (λ x. IsStored x o) (same_Some k n e) are.0)
stored_for (k ∷ ns) (o ∷ os) (suc u) n are e = stored_for ns os u n are.1 e
