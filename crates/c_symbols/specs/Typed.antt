-- The types of symbols as the program keeps them, by the value types of their parameters.
use Rattle.c_tree.specs.Tree as tree
use Rattle.c_tree.specs.TypesInC.{c_params_of}
use Rattle.c_symbols.specs.declared.types.SymbolType.{SymbolType}

abbrev pub type_of : SymbolType → tree.FuncType
type_of t = record { params = c_params_of t.params.now; result = t.result }
