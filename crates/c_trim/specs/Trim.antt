-- A unit without the static functions that nothing needs (C11, 6.2.2 paragraph 3 internal linkage).
use Rattle.std.specs.Prelude.{◌≡◌, ◌↔◌, ◌&&◌, ◌||◌, not, Bool, true, false, List, [], ◌∷◌, filter, flat_map, bytes_eq, Option, Some}
use Rattle.std.specs.Prelude.{None}
use Rattle.std.specs.List.{list_any}
use Rattle.c_tree.specs.Tree as tree
use Rattle.c_tree.specs.Scope.{Name, is_among, name_of}
use Rattle.c_tree.specs.Rules.{Use, AsVariable, AsArray, AsFunction, arg_uses, callee_uses, stmt_uses}

-- ---- the functions that text names: by a call, or as an element of a table

-- those among the names that are used
abbrev pub functions_of : List Use → List Name
functions_of [] = []
functions_of (AsFunction name ∷ uses) = name ∷ functions_of uses
functions_of (AsVariable name ∷ uses) = functions_of uses
functions_of (AsArray name ∷ uses) = functions_of uses

abbrev pub arg_functions : tree.Arg → List Name
arg_functions a = functions_of (arg_uses a)

abbrev pub callee_functions : tree.Callee → List Name
callee_functions f = functions_of (callee_uses f)

abbrev pub stmt_functions : tree.Stmt → List Name
stmt_functions stmt = functions_of (stmt_uses stmt)

abbrev pub body_functions : Option tree.Body → List Name
body_functions None = []
body_functions (Some b) = flat_map stmt_functions b.stmts

abbrev pub item_functions : tree.Item → List Name
item_functions (tree.Array name count bytes) = []
item_functions (tree.Var ty name number) = []
item_functions (tree.Function f) = body_functions f.body

-- ---- what is needed

abbrev pub is_external : tree.Item → Bool
is_external (tree.Array name count bytes) = false
is_external (tree.Var ty name number) = false
is_external (tree.Function f) = not f.is_static

-- the body of an external function names x
abbrev pub external_names : List tree.Item → Name → Bool
external_names unit x = list_any (λ item. is_external item && is_among x (item_functions item)) unit

-- the body of the function y names x
abbrev pub names : List tree.Item → Name → Name → Bool
names unit y x = list_any (λ item. bytes_eq (name_of item) y && is_among x (item_functions item)) unit

-- The chain, from its last name to its first, leads to x: the first is named in the body of an external function, and
-- each next, x at the end, in the body of the one before.
abbrev pub leads : List tree.Item → List Name → Name → Bool
leads unit [] x = external_names unit x
leads unit (y ∷ chain) x = names unit y x && leads unit chain y

-- A chain of names leads to x.
pub record IsNeeded (unit : List tree.Item) (x : Name) : Type 0 where
  pub chain : List Name
  pub leads_there : leads unit chain x ≡ true

-- ---- what stays

-- all but the declarations and definitions of static functions that are not needed
abbrev pub stays : (Name → Bool) → tree.Item → Bool
stays needed (tree.Array name count bytes) = true
stays needed (tree.Var ty name number) = true
stays needed (tree.Function f) = not f.is_static || needed f.name

abbrev pub kept : (Name → Bool) → List tree.Item → List tree.Item
kept needed items = filter (stays needed) items

-- it tells the names that are needed in the unit
abbrev pub TellsNeeded : List tree.Item → (Name → Bool) → Type 0
TellsNeeded unit needed = (x : Name) → (needed x ≡ true) ↔ IsNeeded unit x

-- The second unit is the first one trimmed.
pub record IsTrimmed (unit trimmed : List tree.Item) : Type 0 where
  pub needed : Name → Bool
  pub tells : TellsNeeded unit needed
  pub is : trimmed ≡ kept needed unit
