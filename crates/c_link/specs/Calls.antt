-- Calls of the functions that linked units define (C11, 6.5.2.2 function calls).
use Rattle.std.specs.Prelude.{◌&&◌, Bool, false, List, [], ◌∷◌, filter_map, Option, Some, None, option_map}
use Rattle.std.specs.List.{list_all, list_any}
use Rattle.w2c_base.specs.declared.value.Value.{Value}
use Rattle.w2c_base.specs.Values.{is_number, types_of}
use Rattle.c_tree.specs.declared.tree.CType.TheVariants.{Void, U32, U64}
use Rattle.c_tree.specs.Tree as tree
use Rattle.c_tree.specs.Runtime.{same_type, same_types}
use Rattle.c_tree.specs.Scope.{Name, func_type_of as type_of_func}
use Rattle.c_tree.specs.TypesInC.{c_params_of}
use Rattle.c_meaning.specs.Linking.{defined_for_all, first}

-- the type of the function of external linkage that the first unit that defines one defines under a symbol
abbrev pub signature_of : List (List tree.Item) → Name → Option tree.FuncType
signature_of units symbol = option_map (λ d. type_of_func d.func) (first (filter_map (λ items. defined_for_all items symbol) units))

-- a function of this type may be called with these arguments: its parameters have their types, its
-- result is void, u32 or u64, and the arguments are numbers of their types
abbrev pub takes : tree.FuncType → List Value → Bool
takes ty args = same_types ty.params (c_params_of (types_of args))
    && list_any (same_type ty.result) (Void ∷ U32 ∷ U64 ∷ [])
    && list_all is_number args

abbrev pub takes_if_any : Option tree.FuncType → List Value → Bool
takes_if_any None args = false
takes_if_any (Some ty) args = takes ty args
