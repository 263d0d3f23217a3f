-- Units as trees of plain data, without where their parts lie in memory.
use Rattle.std.specs.Prelude.{ℕ, Bool, List, Option}
use Rattle.c_tree.specs.declared.tree.CType.{CType}
use Rattle.c_tree.specs.declared.tree.Num.{Num}
use Rattle.c_tree.specs.declared.tree.COp.{COp}

pub data Expr : Type 0 where
  Name : List ℕ → Expr
  At : List ℕ → Expr → Expr
  Number : Num → Expr
  To32 : Expr → Expr
  To64 : Expr → Expr
  Star : List ℕ → Expr
  Op : COp → Expr → Expr → Expr

pub data Arg : Type 0 where
  Value : Expr → Arg
  Address : List ℕ → Arg
  OfFunction : List ℕ → Arg

pub record FuncType : Type 0 where
  pub params : List CType
  pub result : CType

pub data Callee : Type 0 where
  Called : List ℕ → Callee
  Through : FuncType → List ℕ → Callee

-- a case and its label
abbrev pub Case : Type 0
Case = Num × List ℕ

pub data Stmt : Type 0 where
  Label : List ℕ → Stmt
  Null : Stmt
  Set : List ℕ → Arg → Stmt
  SetStar : List ℕ → Expr → Stmt
  Call : Option (List ℕ) → Callee → List Arg → Stmt
  Goto : List ℕ → Stmt
  If : COp → Expr → Expr → List ℕ → Stmt
  Switch : Expr → List Case → List ℕ → Stmt
  ReturnNone : Stmt
  Return : Arg → Stmt

-- a local variable: its type, its name, its first value
abbrev pub Local : Type 0
Local = CType × List ℕ × Num

-- a parameter, and its name where it has one
abbrev pub Param : Type 0
Param = CType × Option (List ℕ)

pub record Body : Type 0 where
  pub locals : List Local
  pub stmts : List Stmt

pub record Func : Type 0 where
  pub is_static : Bool
  pub result : CType
  pub name : List ℕ
  pub params : List Param
  pub body : Option Body

pub data Item : Type 0 where
  Array : List ℕ → ℕ → List ℕ → Item
  Var : CType → List ℕ → Option Num → Item
  Function : Func → Item
