-- Tables of names, by what they find: what the definitions of the rules name as lists.
use Rattle.std.specs.Prelude.{◌≡◌, List, filter_map, is_some, option_map}
use Rattle.std.specs.Borrow.{Bor}
use Rattle.w2c_base.specs.Lookup.{named}
use Rattle.c_tree.specs.declared.tree.CType.{CType}
use Rattle.c_tree.specs.declared.tree.Func.{Func}
use Rattle.c_tree.specs.Tree as tree
use Rattle.c_tree.specs.View.{func_of}
use Rattle.c_tree.specs.Scope.{Name, is_among, variable_of, array_of, function_of, func_type_of}

-- each name stands for what the list has first beside it
abbrev pub Finds : {A : Type 0} → List (Name × A) → List (Name × A) → Type 0
Finds table entries = (q : Name) → named q table ≡ named q entries

-- a name is in the table where it is in the list
abbrev pub Knows : {A : Type 0} → List (Name × A) → List Name → Type 0
Knows table names = (q : Name) → is_some (named q table) ≡ is_among q names

-- each name stands for a function of the type that the list has first beside it
abbrev pub FindsTypes : List (Name × Bor Func) → List (Name × tree.FuncType) → Type 0
FindsTypes table entries = (q : Name) → option_map (λ (f : Bor Func). func_type_of (func_of f.now)) (named q table) ≡ named q entries

abbrev pub variables_of : List tree.Item → List (Name × CType)
variables_of items = filter_map variable_of items

abbrev pub arrays_of : List tree.Item → List Name
arrays_of items = filter_map array_of items

abbrev pub functions_of : List tree.Item → List (Name × tree.FuncType)
functions_of items = filter_map function_of items
