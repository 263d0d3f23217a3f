-- What an expression is, in the words of the rules.
use Rattle.c_tree.specs.Scope as place
use Rattle.c_types.specs.declared.typing.Typing.{Typing}
use Rattle.c_types.specs.declared.typing.Typing.TheVariants as code

abbrev pub typing : Typing → place.Typing
typing (code.HasType t) = place.HasType t
typing code.Compares = place.Compares
typing code.IsElement = place.IsElement
typing code.IllTyped = place.IllTyped
