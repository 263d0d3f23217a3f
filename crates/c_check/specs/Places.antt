-- Places of a unit at which rules are asked.
use Rattle.std.specs.Prelude.{ℕ, [], map, false, None}
use Rattle.c_tree.specs.declared.tree.CType.TheVariants as type
use Rattle.c_tree.specs.declared.tree.Item.{Item}
use Rattle.c_tree.specs.declared.tree.Stmt.{Stmt}
use Rattle.c_tree.specs.View.{item_of, stmt_of}
use Rattle.c_tree.specs.Rules.{Place, StmtPlace}
use Rattle.c_tree.specs.Scope as place
use Rattle.c_scope.specs.declared.file_scope.FileScope.{FileScope}
use Rattle.c_scope.specs.declared.scope.Scope.{Scope}
use Rattle.c_scope.specs.ScopeOf.{scope_of}

-- the item behind those that the scope declares
abbrev pub item_place : FileScope → Item → Place
item_place file item = record { unit = map item_of file.items.now; number = file.count; item = item_of item }

-- a statement, with its number from 1
abbrev pub stmt_place : Scope → ℕ → Stmt → StmtPlace
stmt_place scope number stmt = record { scope = scope_of scope; number = number; stmt = stmt_of stmt }

-- an item where its unit does not matter
abbrev pub alone : Item → Place
alone item = record { unit = []; number = 0; item = item_of item }

abbrev nowhere : place.Scope
nowhere =
    record {
      declared = [];
      func = record { is_static = false; result = type.Void; name = []; params = []; body = None };
      body = record { locals = []; stmts = [] };
    }

-- a statement where its function does not matter
abbrev pub stmt_alone : Stmt → StmtPlace
stmt_alone stmt = record { scope = nowhere; number = 0; stmt = stmt_of stmt }
