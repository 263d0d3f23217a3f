-- What a renaming makes of the text of a unit, of values, and of functions that run.
use Rattle.std.specs.Prelude.{ℕ, map, option_map}
use Rattle.c_tree.specs.Tree as tree
use Rattle.c_meaning.specs.State.{CValue, Number, Pointer, FuncPointer, Vars, Name, Element, Table, Running, Frame, Stop, Trapped}
use Rattle.c_meaning.specs.State.{Undefined, Asks, Stuck}
use Rattle.c_meaning.specs.Linking.{Definition}
use Rattle.c_meaning.specs.Run.{Outcome, Ended, Stopped, OutOfSteps}
use Rattle.c_renaming.specs.Renaming.{Renaming, address, place}

-- ---- text, in the unit with number u

abbrev pub expr : Renaming → ℕ → tree.Expr → tree.Expr
expr ρ u (tree.Name name) = tree.Name (ρ.var u name)
expr ρ u (tree.At name index) = tree.At (ρ.var u name) (expr ρ u index)
expr ρ u (tree.Number number) = tree.Number number
expr ρ u (tree.To32 e) = tree.To32 (expr ρ u e)
expr ρ u (tree.To64 e) = tree.To64 (expr ρ u e)
expr ρ u (tree.Star name) = tree.Star (ρ.var u name)
expr ρ u (tree.Op op left right) = tree.Op op (expr ρ u left) (expr ρ u right)

abbrev pub arg : Renaming → ℕ → tree.Arg → tree.Arg
arg ρ u (tree.Value e) = tree.Value (expr ρ u e)
arg ρ u (tree.Address name) = tree.Address (ρ.var u name)
arg ρ u (tree.OfFunction name) = tree.OfFunction (ρ.func u name)

abbrev pub callee : Renaming → ℕ → tree.Callee → tree.Callee
callee ρ u (tree.Called name) = tree.Called (ρ.func u name)
callee ρ u (tree.Through ty name) = tree.Through ty (ρ.var u name)

abbrev pub case : Renaming → ℕ → tree.Case → tree.Case
case ρ u c = (c.0, ρ.label u c.1)

abbrev pub stmt : Renaming → ℕ → tree.Stmt → tree.Stmt
stmt ρ u (tree.Label name) = tree.Label (ρ.label u name)
stmt ρ u tree.Null = tree.Null
stmt ρ u (tree.Set name a) = tree.Set (ρ.var u name) (arg ρ u a)
stmt ρ u (tree.SetStar name e) = tree.SetStar (ρ.var u name) (expr ρ u e)
stmt ρ u (tree.Call target f args) = tree.Call (option_map (ρ.var u) target) (callee ρ u f) (map (arg ρ u) args)
stmt ρ u (tree.Goto name) = tree.Goto (ρ.label u name)
stmt ρ u (tree.If op left right name) = tree.If op (expr ρ u left) (expr ρ u right) (ρ.label u name)
stmt ρ u (tree.Switch e cases default) = tree.Switch (expr ρ u e) (map (case ρ u) cases) (ρ.label u default)
stmt ρ u tree.ReturnNone = tree.ReturnNone
stmt ρ u (tree.Return a) = tree.Return (arg ρ u a)

abbrev pub local : Renaming → ℕ → tree.Local → tree.Local
local ρ u l = (l.0, ρ.var u l.1, l.2)

abbrev pub param : Renaming → ℕ → tree.Param → tree.Param
param ρ u p = (p.0, option_map (ρ.var u) p.1)

abbrev pub body : Renaming → ℕ → tree.Body → tree.Body
body ρ u b = record { locals = map (local ρ u) b.locals; stmts = map (stmt ρ u) b.stmts }

abbrev pub func : Renaming → ℕ → tree.Func → tree.Func
func ρ u f = record {
  is_static = f.is_static;
  result = f.result;
  name = ρ.func u f.name;
  params = map (param ρ u) f.params;
  body = option_map (body ρ u) f.body;
}

abbrev pub item : Renaming → ℕ → tree.Item → tree.Item
item ρ u (tree.Array name count bytes) = tree.Array (ρ.var u name) count bytes
item ρ u (tree.Var ty name number) = tree.Var ty (ρ.var u name) number
item ρ u (tree.Function f) = tree.Function (func ρ u f)

abbrev pub definition : Renaming → ℕ → Definition → Definition
definition ρ u d = record { item = ρ.item u d.item; func = func ρ u d.func; body = body ρ u d.body }

-- ---- values

abbrev pub value : Renaming → CValue → CValue
value ρ (Number v) = Number v
value ρ (Pointer to) = Pointer (option_map ρ.object to)
value ρ (FuncPointer to) = FuncPointer (option_map (address ρ) to)

abbrev pub entry : Renaming → ℕ → Name × CValue → Name × CValue
entry ρ u e = (ρ.var u e.0, value ρ e.1)

abbrev pub vars : Renaming → ℕ → Vars → Vars
vars ρ u entries = map (entry ρ u) entries

abbrev pub element : Renaming → Element → Element
element ρ e = record { func = address ρ e.func; signature = e.signature }

abbrev pub table : Renaming → Table → Table
table ρ t = record { is_made = t.is_made; elements = map (option_map (element ρ)) t.elements; max = t.max }

-- ---- functions that run

abbrev pub running : Renaming → Running → Running
running ρ r = record {
  unit = ρ.unit r.unit;
  item = ρ.item r.unit r.item;
  result = r.result;
  stmts = map (stmt ρ r.unit) r.stmts;
  rest = map (stmt ρ r.unit) r.rest;
  vars = vars ρ r.unit r.vars;
}

abbrev pub frame : Renaming → Frame → Frame
frame ρ f = record { target = option_map (ρ.var f.running.unit) f.target; running = running ρ f.running }

abbrev pub stop : Renaming → Stop → Stop
stop ρ (Trapped kind) = Trapped kind
stop ρ (Undefined kind at) = Undefined kind (place ρ at)
stop ρ Asks = Asks
stop ρ Stuck = Stuck

abbrev pub outcome : Renaming → Outcome → Outcome
outcome ρ Ended = Ended
outcome ρ (Stopped why) = Stopped (stop ρ why)
outcome ρ OutOfSteps = OutOfSteps
