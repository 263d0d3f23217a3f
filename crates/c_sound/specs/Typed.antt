-- States of linked units in which each value has its declared type (C11, 6.2.5 types, 6.5.2.2, 6.5.16.1 and 6.8.6.4
-- where values go), and functions of which each statement keeps the rules for statements.
use Rattle.std.specs.Prelude.{◌≡◌, ◌≢◌, ℕ, Bool, true, false, List, [], ◌∷◌, ◌++◌, map, filter_map, slice_get, is_some, Option, Some, None}
use Rattle.std.specs.Prelude.{⊤}
use Rattle.std.specs.List.{AllByRecursion, list_all, list_any}
use Rattle.w2c_base.specs.Lookup.{if_found, named}
use Rattle.w2c_base.specs.Run.{Reply, Phase, Init, Call}
use Rattle.c_tree.specs.declared.tree.CType.{CType}
use Rattle.c_tree.specs.declared.tree.CType.TheVariants as type
use Rattle.c_tree.specs.Tree as tree
use Rattle.c_tree.specs.Runtime.{same_type, depth_name}
use Rattle.c_tree.specs.Scope.{Scope, is_among, variable_of, param_variables, local_variables, file_variables, variables, arrays}
use Rattle.c_tree.specs.Scope.{file_functions, is_object_type, pointer_to, type_of}
use Rattle.c_tree.specs.Rules.{if_any, is_void, proper_types, labels_of, labels_named, is_known, stmt_uses, stmt_is_typed, stmt_suits}
use Rattle.c_tree.specs.Rules.{cases_suit, ends_body, locals_suit}
use Rattle.c_meaning.specs.State.{Name, FuncAddress, UnitFunc, ObjectAddress, CValue, Number, Pointer, FuncPointer, Vars, Memory, Element}
use Rattle.c_meaning.specs.State.{Table, Machine, Running, Frame, State, Stuck}
use Rattle.c_meaning.specs.Linking.{Program, Definition, func_named, array_named, definition_at, func_type, init_functions}
use Rattle.c_meaning.specs.Machine.{of_type, var_in, memory_in, table_in, fresh}
use Rattle.c_meaning.specs.Primitives as prim
use Rattle.c_meaning.specs.Run.{Entry, Progress, Going, Over, Ended, Stopped}
use Rattle.c_meaning.specs.Step.{Step, Next, Back, Stops, param_types}

-- ---- values

-- the declared type of an object of file scope
abbrev pub type_at : Program → ObjectAddress → Option CType
type_at p a = if_found (slice_get p.units a.unit) (λ items. named a.name (filter_map variable_of items))

-- What a pointer points to is there: an object of the type that the pointer's type says, or a function.
abbrev pub PointsWell : Program → CType → CValue → Type 0
PointsWell p t (Number v) = ⊤
PointsWell p t (Pointer None) = ⊤
PointsWell p t (Pointer (Some a)) = (target : CType) × (type_at p a ≡ Some target) × (pointer_to target ≡ Some t)
PointsWell p t (FuncPointer None) = ⊤
PointsWell p t (FuncPointer (Some f)) = is_some (func_type p f) ≡ true

-- A value of this type.
pub record OfType (p : Program) (t : CType) (v : CValue) : Type 0 where
  pub is : of_type t v ≡ true
  pub points : PointsWell p t v

-- One value for each type, in order.
abbrev pub OfTypes : Program → List CType → List CValue → Type 0
OfTypes p [] [] = ⊤
OfTypes p (t ∷ types) (v ∷ values) = OfType p t v × OfTypes p types values
OfTypes p _ _ = ⊥

-- What a function of this type gives: a value of it, or none where it is void.
abbrev pub Gives : Program → CType → Option CValue → Type 0
Gives p t None = is_void t ≡ true
Gives p t (Some v) = OfType p t v

-- Variables of these names and types, in order.
abbrev pub VarsOf : Program → List (Name × CType) → Vars → Type 0
VarsOf p [] [] = ⊤
VarsOf p (d ∷ declared) (e ∷ vars) = (d.0 ≡ e.0) × OfType p d.1 e.1 × VarsOf p declared vars
VarsOf p _ _ = ⊥

-- Each element of a table that is not empty is a function.
abbrev pub HoldsFunc : Program → Option Element → Type 0
HoldsFunc p None = ⊤
HoldsFunc p (Some e) = is_some (func_type p e.func) ≡ true

abbrev pub HoldFuncs : Program → List (Option Element) → Type 0
HoldFuncs p [] = ⊤
HoldFuncs p (e ∷ elements) = HoldsFunc p e × HoldFuncs p elements

-- Each declared object is there, and holds a value of its type.
pub record TypedMachine (p : Program) (m : Machine) : Type 0 where
  pub vars : (a : ObjectAddress) (t : CType) → type_at p a ≡ Some t → is_object_type t ≡ false
      → (v : CValue) × (var_in m a ≡ Some v) × OfType p t v
  pub memories : (a : ObjectAddress) → type_at p a ≡ Some type.Mem → (memory : Memory) × (memory_in m a ≡ Some memory)
  pub tables : (a : ObjectAddress) → type_at p a ≡ Some type.Tab
      → (table : Table) × (table_in m a ≡ Some table) × HoldFuncs p table.elements

-- ---- functions

-- the names of a function's own
abbrev pub own_variables : Scope → List (Name × CType)
own_variables s = param_variables s.func ++ local_variables s.body

-- Names of file scope stand for what the unit with this number declares.
pub record ScopeOf (p : Program) (u : ℕ) (s : Scope) : Type 0 where
  pub file_vars : (name : Name) (t : CType) → named name (file_variables s) ≡ Some t
      → type_at p (record { unit = u; name = name }) ≡ Some t
  pub arrays_are : (name : Name) → is_among name (arrays s) ≡ true → is_some (array_named p u name) ≡ true
  pub funcs : (name : Name) (ty : tree.FuncType) → named name (file_functions s) ≡ Some ty
      → (prim.primitive name ≡ None) × ((f : FuncAddress) × (func_named p u name ≡ Some f) × (func_type p f ≡ Some ty))
  pub own : named depth_name (own_variables s) ≡ None
  pub file : named depth_name (file_variables s) ≡ None

-- the cases of a switch are numbers of its type
abbrev pub switch_suits : Scope → tree.Stmt → Bool
switch_suits s (tree.Switch e cases name) = if_any (type_of s e) (cases_suit cases)
switch_suits s _ = true

-- The statement keeps the rules that its step needs.
pub record SoundStmt (s : Scope) (stmt : tree.Stmt) : Type 0 where
  pub labels : list_all (λ name. is_among name (labels_of s.body.stmts)) (labels_named stmt) ≡ true
  pub known : list_all (is_known s) (stmt_uses stmt) ≡ true
  pub typed : stmt_is_typed s stmt ≡ true
  pub suits : stmt_suits s stmt ≡ true
  pub cases : switch_suits s stmt ≡ true

-- Each statement does, and the last one ends the body.
abbrev pub Sound : Scope → List tree.Stmt → Type 0
Sound s [] = ⊤
Sound s (stmt ∷ stmts) = SoundStmt s stmt × (stmts ≡ [] → ends_body stmt ≡ true) × Sound s stmts

-- A definition that may be called by its type.
pub record Callable (p : Program) (u : ℕ) (d : Definition) (ty : tree.FuncType) : Type 0 where
  pub declared : List tree.Item
  pub scope_is : ScopeOf p u (record { declared = declared; func = d.func; body = d.body })
  pub sound : Sound (record { declared = declared; func = d.func; body = d.body }) d.body.stmts
  pub more : d.body.stmts ≢ []
  pub params : param_types d.func.params ≡ proper_types ty.params
  pub result : d.func.result ≡ ty.result
  pub locals : locals_suit (Some d.body) ≡ true

-- A function of a unit without parameters or result.
abbrev pub IsVoid : Program → FuncAddress → Type 0
IsVoid p f = (u : ℕ) × (name : Name) × (f ≡ UnitFunc u name)
    × (func_type p f ≡ Some (record { params = type.Void ∷ []; result = type.Void }))

-- Each function of a unit may be called by its type, those that are run first are void, and each object begins with a
-- value of its type.
pub record TypedProgram (p : Program) : Type 0 where
  pub callable : (u : ℕ) (name : Name) (ty : tree.FuncType) → func_type p (UnitFunc u name) ≡ Some ty
      → (d : Definition) × (definition_at p u name ≡ Some d) × Callable p u d ty
  pub inits : AllByRecursion (IsVoid p) (init_functions p)
  pub start : (replies : List Reply) → TypedMachine p (fresh p replies)

-- ---- states

-- A function that runs, or waits: a statement is still to come, and its variables hold values of their types.
pub record TypedRunning (p : Program) (r : Running) : Type 0 where
  pub scope : Scope
  pub scope_is : ScopeOf p r.unit scope
  pub stmts : r.stmts ≡ scope.body.stmts
  pub result : r.result ≡ scope.func.result
  pub whole : Sound scope scope.body.stmts
  pub sound : Sound scope r.rest
  pub more : r.rest ≢ []
  pub vars : VarsOf p (own_variables scope) r.vars

-- The name that waits for a value takes one of this type.
abbrev pub Takes : Scope → CType → Option Name → Type 0
Takes s t None = ⊤
Takes s t (Some name) = (named name (variables s) ≡ Some t) × (is_object_type t ≡ false) × (is_void t ≡ false)

-- The functions below one whose result has the second type, down to one whose result has the first.
abbrev pub TypedBelow : Program → CType → CType → List Frame → Type 0
TypedBelow p last t [] = t ≡ last
TypedBelow p last t (f ∷ below) =
    (r : TypedRunning p f.running) × Takes r.scope t f.target × TypedBelow p last f.running.result below

pub record TypedState (p : Program) (last : CType) (s : State) : Type 0 where
  pub machine : TypedMachine p s.machine
  pub running : TypedRunning p s.running
  pub below : TypedBelow p last s.running.result s.below

-- A step that is not stuck: the next state is typed, or the last function gives what its type says.
abbrev pub TypedStep : Program → CType → Step → Type 0
TypedStep p last (Next s) = TypedState p last s
TypedStep p last (Back m value) = TypedMachine p m × Gives p last value
TypedStep p last (Stops m Stuck) = ⊥
TypedStep p last (Stops m why) = ⊤

-- ---- runs

-- what the function that ends a phase may give: an init function nothing, a listed call a number or nothing
abbrev pub may_end : Phase → CType → Bool
may_end (Init k) t = is_void t
may_end (Call k) t = list_any (same_type t) (type.Void ∷ type.U32 ∷ type.U64 ∷ [])

-- An entry is a function of a unit, with arguments of its parameters' types, that may end its phase.
pub record Begins (p : Program) (e : Entry) : Type 0 where
  pub unit : ℕ
  pub name : Name
  pub ty : tree.FuncType
  pub func : e.func ≡ Some (UnitFunc unit name)
  pub func_is : func_type p (UnitFunc unit name) ≡ Some ty
  pub args : OfTypes p (proper_types ty.params) (map Number e.args)
  pub ends : may_end e.phase ty.result ≡ true

-- A state in a phase is typed, down to a function that may end the phase.
pub record TypedPhase (p : Program) (phase : Phase) (s : State) : Type 0 where
  pub last : CType
  pub ends : may_end phase last ≡ true
  pub state : TypedState p last s

-- A run of one entry: typed as long as it goes on; where it is over it is not stuck, and where it ended the objects
-- are typed.
abbrev pub TypedRun : Program → Progress → Type 0
TypedRun p (Going pending s) = TypedPhase p pending.phase s × (pending.entries ≡ [])
TypedRun p (Over run) = (run.outcome ≢ Stopped Stuck) × (run.outcome ≡ Ended → (m : Machine) → m.units ≡ run.units → TypedMachine p m)
