-- The state of linked units that run (C11, 6.2.4 storage durations, 6.2.5 types): values, objects
-- of file scope, and the functions that run. A function's position is the list of its statements
-- still to come.
use Rattle.std.specs.Prelude.{ℕ, Bool, true, false, List, Option, Some, None}
use Rattle.w2c_base.specs.declared.value.Value.{Value}
use Rattle.w2c_base.specs.declared.trap.TrapKind.{TrapKind}
use Rattle.w2c_base.specs.Values.{type_of, equal_type}
use Rattle.w2c_base.specs.Run.{Trail}
use Rattle.c_tree.specs.declared.tree.CType.{CType}
use Rattle.c_tree.specs.Tree as tree

abbrev pub Name : Type 0
Name = List ℕ

-- a function: one that a unit defines, by the unit's number, or a host's, by the numbers of both
pub data FuncAddress : Type 0 where
  UnitFunc : (unit : ℕ) → (name : Name) → FuncAddress
  HostFunc : (host function : ℕ) → FuncAddress

-- an object of file scope, by its unit's number
pub record ObjectAddress : Type 0 where
  pub unit : ℕ
  pub name : Name

-- the value of a variable: a number, or a pointer, which may be null
pub data CValue : Type 0 where
  Number : Value → CValue
  Pointer : Option ObjectAddress → CValue
  FuncPointer : Option FuncAddress → CValue

-- values of one type: numbers of one width, pointers to objects, or pointers to functions. What a
-- pointer points to is looked at where it is used
abbrev pub of_one_type : CValue → CValue → Bool
of_one_type (Number v) (Number w) = equal_type (type_of v) (type_of w)
of_one_type (Pointer to) (Pointer other) = true
of_one_type (FuncPointer f) (FuncPointer g) = true
of_one_type _ _ = false

abbrev pub Vars : Type 0
Vars = List (Name × CValue)

-- a maximum is in pages; 4294967296 means none. One that was not made has no bytes and maximum 0
pub record Memory : Type 0 where
  pub is_made : Bool
  pub bytes : List ℕ
  pub max : ℕ

-- a function and its signature number
pub record Element : Type 0 where
  pub func : FuncAddress
  pub signature : ℕ

pub record Table : Type 0 where
  pub is_made : Bool
  pub elements : List (Option Element)
  pub max : ℕ

-- the objects of one unit
pub record Objects : Type 0 where
  pub vars : Vars
  pub memories : List (Name × Memory)
  pub tables : List (Name × Table)

-- what all functions share: w2c_depth, the objects of each unit in order, and the trail
pub record Machine : Type 0 where
  pub depth : ℕ
  pub units : List Objects
  pub trail : Trail

-- a function that runs: its unit and item, the type of its result, its body's statements, those still to
-- come, and its parameters and locals
pub record Running : Type 0 where
  pub unit : ℕ
  pub item : ℕ
  pub result : CType
  pub stmts : List tree.Stmt
  pub rest : List tree.Stmt
  pub vars : Vars

-- a function that waits for the one that it called, and the name that the value goes to
pub record Frame : Type 0 where
  pub target : Option Name
  pub running : Running

-- the function that runs, and those below it, the innermost first
pub record State : Type 0 where
  pub machine : Machine
  pub running : Running
  pub below : List Frame

-- a statement's place: a statement's number counts from 1, labels included
pub record Place : Type 0 where
  pub unit : ℕ
  pub item : ℕ
  pub statement : ℕ

-- why a run stops before its end, besides for want of steps. The kinds of what is undefined: 1 division by 0, 2 shift by the
-- width or more, 3 array index past the count, 4 null pointer, 5 call through another type,
-- 6 memory access past the length, 7 table place past the length, 8 argument of a primitive out
-- of its range
pub data Stop : Type 0 where
  Trapped : (kind : TrapKind) → Stop
  Undefined : (kind : ℕ) → (place : Place) → Stop
  Asks Stuck : Stop

-- what an evaluation comes to: a value, what is undefined, or nothing where no rule applies
pub data Evaluated (A : Type 0) : Type 0 where
  Is : (value : A) → Evaluated A
  Bad : (kind : ℕ) → Evaluated A
  NoRule : Evaluated A

abbrev pub then_evaluate : {A B : Type 0} → Evaluated A → (A → Evaluated B) → Evaluated B
then_evaluate (Is a) go = go a
then_evaluate (Bad kind) go = Bad kind
then_evaluate NoRule go = NoRule

abbrev pub found : {A : Type 0} → Option A → Evaluated A
found None = NoRule
found (Some a) = Is a
