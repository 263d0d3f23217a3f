-- Small units, written by hand, some of whose functions are not needed.
use Rattle.std.specs.Prelude.{Bool, true, false, List, [], ◌∷◌, codes, Option, Some, None}
use Rattle.c_tree.specs.declared.tree.CType.TheVariants as type
use Rattle.c_tree.specs.declared.tree.Num.TheVariants.{N32, N64}
use Rattle.c_tree.specs.declared.tree.COp.TheVariants as op
use Rattle.c_tree.specs.Tree as tree
use Rattle.c_tree.specs.Scope.{Name}
use Rattle.c_tree.specs.RuleSamples as sample

-- u32 w2cZ_uZ_fZ_q(u32 x, u32 y) { u32 z = 0u; z = (x / y); return z; }
abbrev pub quotient : tree.Item
quotient = sample.external ((type.U32, codes "z", N32 0) ∷ [])
    (tree.Set (codes "z") (tree.Value (tree.Op op.Div sample.x sample.y)) ∷ tree.Return (tree.Value (tree.Name (codes "z"))) ∷ [])

-- static u32 NAME(u32 a) and a body
abbrev pub static : Name → Option (List tree.Stmt) → tree.Item
static name stmts = tree.Function (record {
  is_static = true;
  result = type.U32;
  name = name;
  params = (type.U32, Some (codes "a")) ∷ [];
  body = body_of stmts;
})
  where
    body_of : Option (List tree.Stmt) → Option tree.Body
    body_of None = None
    body_of (Some stmts) = Some (record { locals = []; stmts = stmts })

abbrev pub a : tree.Expr
a = tree.Name (codes "a")

-- static u32 h(u32 a) { return a; }
abbrev pub h : tree.Item
h = static (codes "h") (Some (tree.Return (tree.Value a) ∷ []))

abbrev pub not_named : List tree.Item
not_named = h ∷ quotient ∷ []

-- a = NAME(a); return a;
abbrev pub calls : Name → List tree.Stmt
calls name = tree.Call (Some (codes "a")) (tree.Called name) (tree.Value a ∷ []) ∷ tree.Return (tree.Value a) ∷ []

-- two static functions that call each other, declared and defined
abbrev pub each_other : List tree.Item
each_other =
    static (codes "f") None ∷ static (codes "g") None
    ∷ static (codes "f") (Some (calls (codes "g"))) ∷ static (codes "g") (Some (calls (codes "f")))
    ∷ quotient ∷ []

-- w2c_tab_set(&t0, 0ull, (w2c_fn)f0, 1ull);
abbrev pub puts : Name → tree.Stmt
puts name = sample.call (codes "w2c_tab_set")
    (tree.Address (codes "t0") ∷ tree.Value (tree.Number (N64 0)) ∷ tree.OfFunction name ∷ tree.Value (tree.Number (N64 1)) ∷ [])

-- a static function that an element holds, and one that it calls; g calls both and is not needed
abbrev pub by_element : Bool → List tree.Item
by_element with_g =
    h ∷ static (codes "f0") (Some (calls (codes "h"))) ∷ (if_with with_g
    (sample.variable type.Tab (codes "t0") None ∷ sample.external [] (puts (codes "f0") ∷ sample.gives sample.x ∷ []) ∷ []))
  where
    if_with : Bool → List tree.Item → List tree.Item
    if_with true items = static (codes "g") (Some (calls (codes "f0"))) ∷ items
    if_with false items = items
