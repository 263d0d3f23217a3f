-- The local variables of an init function, and its tests of sizes.
use Rattle.init_meaning.proofs.Common.{◌≡◌, ℕ, true, false, ◌||◌, List, [], ◌∷◌, Some, None, bytes_eq, refl, ◌∙◌, arith, list_any, named}
use Rattle.init_meaning.proofs.Common.{with_named, TrapKind, Value, I32, I64, Module, COp, named-with_named, operate, Effect, Gives}
use Rattle.init_meaning.proofs.Common.{primitive, Reaches, Over, Stopped, over, after_label, depth_name, global_name, label_name}
use Rattle.init_meaning.proofs.Common.{pointer_name, byte_name, has_bytes, size_name, tests_bounds, tests_limits}
use Rattle.c_tree.specs.Tree as c
use Rattle.c_meaning.specs.State as state
use Rattle.c_tree.specs.Makers as makers
use Rattle.init_meaning.specs.Zeros.{held}
use Rattle.init_meaning.proofs.Held.{held_there, held_kept}
use Rattle.init_meaning.proofs.InitStatements.{Seat, TrapGoes, at, Evaluates, Gets, joined, value_goes, test_goes, test_jumps}

-- ---- variables

-- the variable holds a number of 64 bits
abbrev pub IsWide : state.Name → state.Vars → Type 0
IsWide name vars = held name vars ≡ Some (state.Number (I64 0))

-- a number for sizes and one for bytes, where they are used; no global and no pointer is hidden
pub record HasLocals (m : Module) (vars : state.Vars) : Type 0 where
  pub size : (tests_limits m || tests_bounds m) ≡ true → IsWide size_name vars
  pub byte : list_any has_bytes m.segments ≡ true → IsWide byte_name vars
  pub globals_seen : (k : ℕ) → named (global_name k) vars ≡ None
  pub pointers_seen : (object : state.Name) → named (pointer_name object) vars ≡ None

none_with_named : {A : Type 0} (name other : List ℕ) (new : A) (entries : List (List ℕ × A)) → named name entries ≡ None
    → named name (with_named other new entries) ≡ None
none_with_named name other new [] none = refl
none_with_named name other new (e ∷ entries) none = grind (arith, none_with_named name other new entries)

-- a number of 64 bits is set
pub locals_kept : (m : Module) (name : state.Name) (n : ℕ) (vars : state.Vars) → IsWide name vars → HasLocals m vars
    → HasLocals m (with_named name (state.Number (I64 n)) vars)
locals_kept m name n vars wide h = record {
  size = λ used. held_kept size_name name (state.Number (I64 n)) vars wide ∙ h.size used;
  byte = λ used. held_kept byte_name name (state.Number (I64 n)) vars wide ∙ h.byte used;
  globals_seen = λ k. none_with_named (global_name k) name (state.Number (I64 n)) vars (h.globals_seen k);
  pointers_seen = λ object. none_with_named (pointer_name object) name (state.Number (I64 n)) vars (h.pointers_seen object);
}

-- a local number
pub local_evaluates : (g : Seat) (m : state.Machine) (vars : state.Vars) (name : state.Name) (v : Value)
    → bytes_eq name depth_name ≡ false → named name vars ≡ Some (state.Number v) → Evaluates g m vars (c.Name name) v
local_evaluates g m vars name v apart is rest = rw (apart, is) refl

-- ---- tests

pub operates : (g : Seat) (m : state.Machine) (vars : state.Vars) (o : COp) (left right : c.Expr) (x y z : Value)
    → Evaluates g m vars left x → Evaluates g m vars right y → operate o x y ≡ state.Is z → Evaluates g m vars (c.Op o left right) z
operates g m vars o left right x y z l r is rest = rw (l rest, r rest) is

-- the size is asked, then a test of it goes on or jumps to a trap
pub record Asked (g : Seat) (m : state.Machine) (vars : state.Vars) (name : state.Name) (a : c.Arg) (n : ℕ) : Type 0 where
  pub does : List state.CValue → state.Machine → Effect
  pub is_primitive : primitive name ≡ Some does
  pub pointer : state.CValue
  pub gets : Gets g m vars a pointer
  pub gives : does (pointer ∷ []) m ≡ Gives m (Some (state.Number (I64 n)))
  pub there : IsWide size_name vars

abbrev pub with_size : ℕ → state.Vars → state.Vars
with_size n vars = with_named size_name (state.Number (I64 n)) vars

pub size_evaluates : (g : Seat) (m : state.Machine) (vars : state.Vars) (n : ℕ) → IsWide size_name vars
    → Evaluates g m (with_size n vars) (c.Name size_name) (I64 n)
size_evaluates g m vars n there = local_evaluates g m (with_size n vars) size_name (I64 n) refl
    (named-with_named size_name (state.Number (I64 n)) vars (held_there size_name vars (state.Number (I64 0)) there))

abbrev pub ask_and_test : state.Name → c.Arg → COp → c.Expr → c.Expr → state.Name → List c.Stmt → List c.Stmt
ask_and_test name a o left right label rest = c.Call (Some size_name) (c.Called name) (a ∷ []) ∷ c.If o left right label ∷ rest

pub asked_goes : (g : Seat) (m : state.Machine) (vars : state.Vars) (name : state.Name) (a : c.Arg) (n : ℕ) (rest : List c.Stmt)
    → Asked g m vars name a n → Reaches g.program 1 (at g m (c.Call (Some size_name) (c.Called name) (a ∷ []) ∷ rest) vars)
    (at g m rest (with_size n vars))
asked_goes g m vars name a n rest asked =
    value_goes g m size_name name (a ∷ []) (state.Number (I64 n)) rest vars (asked.pointer ∷ []) asked.does
    (λ rest. rw (asked.gets rest) refl) asked.is_primitive asked.gives refl asked.there

pub passes : (g : Seat) (m : state.Machine) (vars : state.Vars) (name : state.Name) (a : c.Arg) (n : ℕ) (o : COp) (left right : c.Expr)
    (label : state.Name) (rest : List c.Stmt) → Asked g m vars name a n → Evaluates g m (with_size n vars) (c.Op o left right) (I32 0)
    → Reaches g.program 2 (at g m (ask_and_test name a o left right label rest) vars) (at g m rest (with_size n vars))
passes g m vars name a n o left right label rest asked is =
    joined (asked_goes g m vars name a n (c.If o left right label ∷ rest) asked)
    (test_goes g m o left right label rest (with_size n vars) is)

-- the label of a trap, and the trap behind it
abbrev pub IsTrapLabel : Seat → ℕ → TrapKind → Type 0
IsTrapLabel g label kind = (more : List c.Stmt) × (after_label (label_name label) g.stmts ≡ Some (makers.trap kind ∷ more))

pub fails : (g : Seat) (m : state.Machine) (vars : state.Vars) (name : state.Name) (a : c.Arg) (n : ℕ) (o : COp) (left right : c.Expr)
    (label : ℕ) (kind : TrapKind) (rest : List c.Stmt)
    → Asked g m vars name a n → Evaluates g m (with_size n vars) (c.Op o left right) (I32 1) → IsTrapLabel g label kind → TrapGoes kind
    → Reaches g.program 3 (at g m (ask_and_test name a o left right (label_name label) rest) vars)
    (Over (over g.pending m (Stopped (state.Trapped kind))))
fails g m vars name a n o left right label kind rest asked is found trap =
    joined (asked_goes g m vars name a n (c.If o left right (label_name label) ∷ rest) asked)
    (joined (test_jumps g m o left right (label_name label) (makers.trap kind ∷ found.0) rest (with_size n vars) is found.1)
    (trap g m found.0 (with_size n vars)))
