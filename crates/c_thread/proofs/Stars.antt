-- What is seen, in the meaning of C.
use Rattle.c_thread.proofs.Common.{◌≡◌, Some, option_map, refl, Program, Machine, Name, Running, evaluate, Naming, ObjectId, Sees, Sight}
use Rattle.c_tree.specs.Tree as tree
use Rattle.c_meaning.specs.Step.{number_in}
use Rattle.c_objects.specs.declared.held.Held.TheVariants as held
use Rattle.c_objects.specs.Views.{value_of as held_of}

-- what a pointer points to
pub star_sees : (names : Naming) (s : Sight) (p : Program) (m : Machine) (r : Running) → Sees names s p m r → (name : Name) (at : ObjectId)
    → s.held name ≡ Some (held.Pointer (Some at)) → evaluate p m r (tree.Star name) ≡ number_in (option_map (held_of names) (s.var at))
star_sees names s p m r sees name at e = rw (sees.values_are name, e, sees.vars_are at) refl
