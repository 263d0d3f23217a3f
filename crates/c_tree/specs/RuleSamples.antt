-- Small units, written by hand, that keep the rules or break one.
use Rattle.std.specs.Prelude.{ℕ, Bool, true, false, List, [], ◌∷◌, ◌++◌, codes, Option, Some, None}
use Rattle.c_tree.specs.declared.tree.CType.{CType}
use Rattle.c_tree.specs.declared.tree.CType.TheVariants as type
use Rattle.c_tree.specs.declared.tree.Num.{Num}
use Rattle.c_tree.specs.declared.tree.Num.TheVariants.{N32}
use Rattle.c_tree.specs.Tree as tree
use Rattle.c_tree.specs.Scope.{Name}
use Rattle.c_tree.specs.FirstBroken.{BrokenAt}

abbrev pub at : ℕ → ℕ → ℕ → BrokenAt
at item statement rule = record { item = item; statement = statement; rule = rule }

abbrev pub symbol : Name
symbol = codes "w2cZ_uZ_fZ_q"

-- u32 w2cZ_uZ_fZ_q(u32 x, u32 y) { .. }
abbrev pub external : List tree.Local → List tree.Stmt → tree.Item
external locals stmts = tree.Function (record {
  is_static = false;
  result = type.U32;
  name = symbol;
  params = (type.U32, Some (codes "x")) ∷ (type.U32, Some (codes "y")) ∷ [];
  body = Some (record { locals = locals; stmts = stmts });
})

-- a function's declaration, without a body
abbrev pub declaration : Bool → CType → Name → List tree.Param → tree.Item
declaration is_static result name params =
    tree.Function (record { is_static = is_static; result = result; name = name; params = params; body = None })

-- static void f(void) { return; }
abbrev pub f_defined : tree.Item
f_defined = tree.Function (record {
  is_static = true;
  result = type.Void;
  name = codes "f";
  params = (type.Void, None) ∷ [];
  body = Some (record { locals = []; stmts = tree.ReturnNone ∷ [] });
})

-- static void f(void);
abbrev pub f_declared : tree.Item
f_declared = declaration true type.Void (codes "f") ((type.Void, None) ∷ [])

abbrev pub variable : CType → Name → Option Num → tree.Item
variable t name number = tree.Var t name number

-- a value by the name of its variable, and a u32
abbrev pub by_name : Name → tree.Expr
by_name name = tree.Name name

abbrev pub x : tree.Expr
x = tree.Name (codes "x")

abbrev pub y : tree.Expr
y = tree.Name (codes "y")

abbrev pub word : ℕ → tree.Expr
word n = tree.Number (N32 n)

-- return of a value
abbrev pub gives : tree.Expr → tree.Stmt
gives e = tree.Return (tree.Value e)

-- a unit of the external function alone, without local variables
abbrev pub alone : List tree.Stmt → List tree.Item
alone stmts = external [] stmts ∷ []

-- the same behind other items, with one statement and the return of x
abbrev pub behind : List tree.Item → tree.Stmt → List tree.Item
behind items stmt = items ++ external [] (stmt ∷ gives x ∷ []) ∷ []

-- switch (e) { case a: goto L; case b: goto L; default: goto L; }
abbrev pub switch_of : tree.Expr → Num → Num → tree.Stmt
switch_of e a b = tree.Switch e ((a, codes "L") ∷ (b, codes "L") ∷ []) (codes "L")

-- a call of a function by its name, whose value is left
abbrev pub call : Name → List tree.Arg → tree.Stmt
call name args = tree.Call None (tree.Called name) args

-- a call through a name, of a function of one parameter
abbrev pub call_through : Name → CType → CType → tree.Stmt
call_through name result param = tree.Call None (tree.Through (record { params = param ∷ []; result = result }) name) (tree.Value x ∷ [])

-- void w2cZ_h(T);
abbrev pub takes : CType → tree.Item
takes t = declaration false type.Void (codes "w2cZ_h") ((t, None) ∷ [])

-- static void f(u32) { return; }
abbrev pub f_without_parameter_name : tree.Item
f_without_parameter_name = tree.Function (record {
  is_static = true;
  result = type.Void;
  name = codes "f";
  params = (type.U32, None) ∷ [];
  body = Some (record { locals = []; stmts = tree.ReturnNone ∷ [] });
})
