-- The units of an accepted set are instantiated as its modules are, from how init functions and bodies are followed.
use Rattle.unit_meaning.proofs.Common.{◌≡◌, ℕ, suc, arith, slice_get, Some, LinkedSet, NamedModule, within_of, BodiesFollow, AreServed}
use Rattle.unit_meaning.proofs.Common.{UnitsAreInstantiatedAlike, items, IsAcceptedSet, UnitsServe, program_of}
use Rattle.c_meaning.specs.Machine.{objects_of}
use Rattle.init_meaning.specs.Declared.{IsDeclared}
use Rattle.init_meaning.specs.InitFollows.{IsKnown, InitsFollow}
use Rattle.unit_definition.proofs.Instantiable.{modules_are_instantiable}
use Rattle.unit_meaning.proofs.StillDeclared.{still_declared}

-- what other parts show of a module of the set and of its unit: of its functions, and of its variables
abbrev pub UnitsAreKnown : Type 0
UnitsAreKnown = (s : LinkedSet) → IsAcceptedSet s → (u : ℕ) (m : NamedModule) → slice_get s.modules u ≡ Some m
    → IsKnown (program_of s) s u m × IsDeclared m.tree (objects_of (items m))

pub instantiated_alike : InitsFollow → BodiesFollow → UnitsServe → UnitsAreKnown → UnitsAreInstantiatedAlike
instantiated_alike inits bodies serve known s accepted u m module_is n made trail mach pending below together untouched =
    inits (program_of s) s u m module_is k.0
    (modules_are_instantiable m.tree (served.valid u m module_is) (within_of m.tree (served.within u m module_is)))
    (bodies (program_of s) s served (suc u) 1024 (omega arith)) n made trail mach pending below together
    (record {
      nothing = untouched.objects;
      now = untouched.now;
      unit = untouched.unit;
      declared = still_declared (program_of s) s u m mach made trail together untouched k.1;
    })
  where
    k : IsKnown (program_of s) s u m × IsDeclared m.tree (objects_of (items m))
    k = known s accepted u m module_is

    served : AreServed (program_of s) s
    served = serve s accepted
