-- What is written where it stands already changes nothing.
use Rattle.c_objects.proofs.Common.{◌≡◌, ℕ, [], ◌∷◌, if◌then◌else◌, slice_get, slice_set, Some, None, Option, refl, ap, ◌∙◌, if_found}
use Rattle.c_objects.proofs.Common.{named, with_named, memory_in, table_in, with_memory, with_objects, with_table, Machine, Memory}
use Rattle.c_objects.proofs.Common.{ObjectAddress, Objects, Table, Keeps}
use Rattle.w2c_base.proofs.Places.{set_same}
use Rattle.c_meaning.proofs.Lookups.{with_same}
use Rattle.c_objects.specs.declared.done.Done.{Done}
use Rattle.c_objects.specs.declared.done.Done.TheVariants as done

objects_kept : (m : Machine) (u : ℕ) (o : Objects) (change : Objects → Objects) → slice_get m.units u ≡ Some o → change o ≡ o
    → with_objects m u change ≡ m
objects_kept m u o change e same = rw (e, with_objects)
    (ap (λ units. record { depth = m.depth; units = units; trail = m.trail })
    (ap (λ n. slice_set m.units u n) same ∙ set_same m.units u o e))

pub memory_kept : (m : Machine) (a : ObjectAddress) (v : Memory) → memory_in m a ≡ Some v → with_memory m a v ≡ m
memory_kept m a v e = go (slice_get m.units a.unit) refl e
  where
    go : (o : Option Objects) → slice_get m.units a.unit ≡ o → if_found o (λ o. named a.name o.memories) ≡ Some v → with_memory m a v ≡ m
    go None here e = absurd cc
    go (Some o) here e = objects_kept m a.unit o
        (λ o. record { vars = o.vars; memories = with_named a.name v o.memories; tables = o.tables })
        here
        (ap (λ memories. record { vars = o.vars; memories = memories; tables = o.tables }) (with_same a.name v o.memories e))

pub table_kept : (m : Machine) (a : ObjectAddress) (v : Table) → table_in m a ≡ Some v → with_table m a v ≡ m
table_kept m a v e = go (slice_get m.units a.unit) refl e
  where
    go : (o : Option Objects) → slice_get m.units a.unit ≡ o → if_found o (λ o. named a.name o.tables) ≡ Some v → with_table m a v ≡ m
    go None here e = absurd cc
    go (Some o) here e = objects_kept m a.unit o
        (λ o. record { vars = o.vars; memories = o.memories; tables = with_named a.name v o.tables })
        here
        (ap (λ tables. record { vars = o.vars; memories = o.memories; tables = tables }) (with_same a.name v o.tables e))

pub keeps_same : {A : Type 0} (d : Done) (x : A) → Keeps d x x
keeps_same (done.Gives value) x = tt
keeps_same _ x = refl

pub keeps_on : {A B : Type 0} (d : Done) (old new : A) (before after : B) → Keeps d old new → (new ≡ old → after ≡ before)
    → Keeps d before after
keeps_on (done.Gives value) old new before after kept go = tt
keeps_on _ old new before after kept go = go kept
