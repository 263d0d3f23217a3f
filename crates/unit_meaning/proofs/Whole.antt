-- The theorem of units, from how init functions and bodies are followed.
use Rattle.unit_meaning.proofs.Common.{BodiesFollow, UnitsAreInstantiatedAlike, UnitsDoTheSame}
use Rattle.unit_meaning.proofs.Program.{units_serve}
use Rattle.unit_meaning.proofs.Known as known
use Rattle.unit_meaning.proofs.Reached.{inits_are_defined, parts_are_there, funcs_are_reached, imports_give_pointers}
use Rattle.unit_meaning.proofs.Pairing.{units_do_the_same}
use Rattle.init_meaning.specs.InitFollows.{InitsFollow}

pub units_are_instantiated_alike : InitsFollow → BodiesFollow → UnitsAreInstantiatedAlike
units_are_instantiated_alike inits bodies =
    known.units_are_instantiated_alike inits bodies units_serve inits_are_defined parts_are_there funcs_are_reached
    imports_give_pointers

pub units_do_what_modules_do : InitsFollow → BodiesFollow → UnitsDoTheSame
units_do_what_modules_do inits bodies = units_do_the_same (units_are_instantiated_alike inits bodies) bodies
