-- The tree of a value, without where its parts lie in memory.
use Rattle.std.specs.Prelude.{List, Option, Some, None, map}
use Rattle.c_tree.specs.declared.tree.CFuncType.{CFuncType}
use Rattle.c_tree.specs.declared.tree.Expr.{Expr}
use Rattle.c_tree.specs.declared.tree.Expr.TheVariants as expr
use Rattle.c_tree.specs.declared.tree.Arg.{Arg}
use Rattle.c_tree.specs.declared.tree.Arg.TheVariants as arg
use Rattle.c_tree.specs.declared.tree.Callee.{Callee}
use Rattle.c_tree.specs.declared.tree.Callee.TheVariants as callee
use Rattle.c_tree.specs.declared.tree.Stmt.{Stmt}
use Rattle.c_tree.specs.declared.tree.Stmt.TheVariants as stmt
use Rattle.c_tree.specs.declared.tree.Body.{Body}
use Rattle.c_tree.specs.declared.tree.Func.{Func}
use Rattle.c_tree.specs.declared.tree.Item.{Item}
use Rattle.c_tree.specs.declared.tree.Item.TheVariants as item
use Rattle.c_tree.specs.Tree as tree

abbrev pub expr_of : Expr → tree.Expr
expr_of (expr.Name n) = tree.Name n
expr_of (expr.At' n p i) = tree.At n (expr_of i)
expr_of (expr.Num n) = tree.Number n
expr_of (expr.To32' p e) = tree.To32 (expr_of e)
expr_of (expr.To64' p e) = tree.To64 (expr_of e)
expr_of (expr.Star n) = tree.Star n
expr_of (expr.Op' o p a q b) = tree.Op o (expr_of a) (expr_of b)

abbrev pub arg_of : Arg → tree.Arg
arg_of (arg.Value e) = tree.Value (expr_of e)
arg_of (arg.Address n) = tree.Address n
arg_of (arg.Function n) = tree.OfFunction n

abbrev pub func_type_of : CFuncType → tree.FuncType
func_type_of t = record { params = t.params; result = t.result }

abbrev pub callee_of : Callee → tree.Callee
callee_of (callee.Named n) = tree.Called n
callee_of (callee.Through t n) = tree.Through (func_type_of t) n

abbrev pub stmt_of : Stmt → tree.Stmt
stmt_of (stmt.Label n) = tree.Label n
stmt_of stmt.Null = tree.Null
stmt_of (stmt.Set n a) = tree.Set n (arg_of a)
stmt_of (stmt.SetStar n e) = tree.SetStar n (expr_of e)
stmt_of (stmt.Call n f args) = tree.Call n (callee_of f) (map arg_of args)
stmt_of (stmt.Goto n) = tree.Goto n
stmt_of (stmt.If o a b n) = tree.If o (expr_of a) (expr_of b) n
stmt_of (stmt.Switch e cases n) = tree.Switch (expr_of e) cases n
stmt_of stmt.ReturnNone = tree.ReturnNone
stmt_of (stmt.Return a) = tree.Return (arg_of a)

abbrev pub body_of : Body → tree.Body
body_of b = record { locals = b.locals; stmts = map stmt_of b.stmts }

abbrev pub maybe_body_of : Option Body → Option tree.Body
maybe_body_of None = None
maybe_body_of (Some b) = Some (body_of b)

abbrev pub func_of : Func → tree.Func
func_of f = record { is_static = f.is_static; result = f.result; name = f.name; params = f.params; body = maybe_body_of f.body }

abbrev pub item_of : Item → tree.Item
item_of (item.Array n count bytes) = tree.Array n count bytes
item_of (item.Var t n v) = tree.Var t n v
item_of (item.Func f) = tree.Function (func_of f)

-- the tree of a unit
abbrev pub unit_of : List Item → List tree.Item
unit_of items = map item_of items
