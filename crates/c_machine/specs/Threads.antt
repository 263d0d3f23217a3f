-- The functions that items define: their statements, names and types, and the values that their
-- variables have, in the order in which parameters and locals are declared.
use Rattle.std.specs.Prelude.{◌≡◌, ℕ, List, [], ◌++◌, map, zip, slice_get, Option, Some, None, option_map}
use Rattle.w2c_base.specs.Lookup.{if_found}
use Rattle.c_tree.specs.declared.tree.CType.{CType}
use Rattle.c_tree.specs.declared.tree.CType.TheVariants.{Void}
use Rattle.c_tree.specs.Tree as tree
use Rattle.c_meaning.specs.State.{Name, CValue}
use Rattle.c_meaning.specs.Linking.{Definition, definition_of}
use Rattle.c_meaning.specs.Step.{locals_of}
use Rattle.c_machine.specs.Names.{local_name, local_names}

-- the statements of an item, and its parameters and locals
abbrev pub stmts_of : tree.Item → List tree.Stmt
stmts_of (tree.Array name count bytes) = []
stmts_of (tree.Var ty name number) = []
stmts_of (tree.Function f) = elim f.body [ None ↦ [] | Some body ↦ body.stmts ]

abbrev pub names_of : tree.Item → List Name
names_of (tree.Array name count bytes) = []
names_of (tree.Var ty name number) = []
names_of (tree.Function f) = elim f.body [ None ↦ [] | Some body ↦ local_names f body ]

-- the type of the result of an item's function, void where it is none
abbrev pub result_of : tree.Item → CType
result_of (tree.Array name count bytes) = Void
result_of (tree.Var ty name number) = Void
result_of (tree.Function f) = f.result

abbrev pub stmts_at : List tree.Item → ℕ → List tree.Stmt
stmts_at items i = elim (slice_get items i) [ None ↦ [] | Some item ↦ stmts_of item ]

abbrev pub names_at : List tree.Item → ℕ → List Name
names_at items i = elim (slice_get items i) [ None ↦ [] | Some item ↦ names_of item ]

abbrev pub result_at : List tree.Item → ℕ → CType
result_at items i = elim (slice_get items i) [ None ↦ Void | Some item ↦ result_of item ]

-- the name that the value of a call goes to
abbrev pub target_of : Option tree.Stmt → Option Name
target_of (Some (tree.Call target callee args)) = target
target_of _ = None

-- the definition that an item is
abbrev pub definition_in : List tree.Item → ℕ → Option Definition
definition_in items i = if_found (slice_get items i) (λ item. definition_of (i, item))

-- parameters with values, and locals behind them, are these values
abbrev pub WithLocals : {V : Type 0} → (V → CValue) → List Name → List V → List tree.Local → Option (List V) → Type 0
WithLocals view params values locals all =
    option_map (λ ls. zip params (map view values) ++ ls) (locals_of locals)
    ≡ option_map (λ vs. zip (params ++ map local_name locals) (map view vs)) all
