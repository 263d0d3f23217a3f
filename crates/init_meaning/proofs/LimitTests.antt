-- The tests of an imported table's or memory's limits against `limits_fit` (WebAssembly Core 1.0, 4.5.2).
use Rattle.init_meaning.proofs.Common.{COp, ◌≡◌, ℕ, zero, suc, ◌+◌, ◌/◌, ◌<◌, ◌≤◌, Bool, true, false, ◌&&◌, ◌||◌, ◌⊎◌, List, [], ◌∷◌, ◌++◌}
use Rattle.init_meaning.proofs.Common.{is_some, if◌then◌else◌, nat_lt, nat_le, ◌==◌, Some, None, Option, refl, ap, ◌∙◌, inl, inr}
use Rattle.init_meaning.proofs.Common.{append_assoc, arith, or_right, named, ImportLimits, I32, I64, Limits, Module, limits_fit, max_fits}
use Rattle.init_meaning.proofs.Common.{stays, truth, Effect, Gives, primitive, Reaches, Over, Stopped, over, sides, label_name}
use Rattle.init_meaning.proofs.Common.{pointer_name, limits_label, max_number, n64, size_name, test_limits, test_max, test_min}
use Rattle.init_meaning.proofs.Common.{tests_bounds, tests_limits}
use Rattle.c_tree.specs.declared.tree.COp.TheVariants as op
use Rattle.c_tree.specs.Tree as c
use Rattle.c_meaning.specs.State as state
use Rattle.init_meaning.proofs.InitStatements.{Seat, at, Evaluates, Gets, joined, limits_trap}
use Rattle.init_meaning.proofs.InitTests.{HasLocals, IsWide, locals_kept, Asked, IsTrapLabel, with_size, size_evaluates, operates, passes}
use Rattle.init_meaning.proofs.InitTests.{ask_and_test, fails}

-- what asks for a size or a maximum gives
pub record Measures (g : Seat) (m : state.Machine) (object : state.Name) (name : state.Name) (n : ℕ) : Type 0 where
  pub does : List state.CValue → state.Machine → Effect
  pub is_primitive : primitive name ≡ Some does
  pub pointer : state.CValue
  pub gets : (vars : state.Vars) → named (pointer_name object) vars ≡ None → Gets g m vars (c.Value (c.Name (pointer_name object))) pointer
  pub gives : does (pointer ∷ []) m ≡ Gives m (Some (state.Number (I64 n)))

-- tests that pass, and tests of which one fails
pub record Passes (g : Seat) (m : Module) (stmts rest : List c.Stmt) (most : ℕ) (mach : state.Machine) (vars : state.Vars) : Type 0 where
  pub locals : state.Vars
  pub has : HasLocals m locals
  pub statements : ℕ
  pub few : statements ≤ most
  pub way : Reaches g.program statements (at g mach stmts vars) (at g mach rest locals)

pub record Fails (g : Seat) (stmts : List c.Stmt) (most : ℕ) (mach : state.Machine) (vars : state.Vars) : Type 0 where
  pub statements : ℕ
  pub few : statements ≤ most
  pub way : Reaches g.program statements (at g mach stmts vars) (Over (over g.pending mach (Stopped (state.Trapped ImportLimits))))

-- the trap and the variable are there
abbrev pub CanTest : Seat → Module → Type 0
CanTest g m = (tests_limits m ≡ true) × IsTrapLabel g limits_label ImportLimits

has_size : (m : Module) (vars : state.Vars) → tests_limits m ≡ true → HasLocals m vars → IsWide size_name vars
has_size m vars used locals = locals.size (ap (λ b. b || tests_bounds m) used)

asks : (g : Seat) (m : Module) (mach : state.Machine) (vars : state.Vars) (object name : state.Name) (n : ℕ) → Measures g mach object name n
    → tests_limits m ≡ true → HasLocals m vars → Asked g mach vars name (c.Value (c.Name (pointer_name object))) n
asks g m mach vars object name n measures used locals = record {
  does = measures.does;
  is_primitive = measures.is_primitive;
  pointer = measures.pointer;
  gets = measures.gets vars (locals.pointers_seen object);
  gives = measures.gives;
  there = has_size m vars used locals;
}

least : (size : ℕ) → nat_le 0 size ≡ true
least size = elim (sides 0 size) [ inl h ↦ h.0 | inr h ↦ absurd (omega (arith, h.2)) ]

some_min : (min : ℕ) → nat_lt 0 (suc min) ≡ true
some_min min = elim (sides (suc min) 0) [ inl h ↦ absurd (omega (arith, h.2)) | inr h ↦ h.1 ]

-- what a test of a size or a maximum comes to, and what it tells
abbrev Tells : Bool → Bool → Type 0
Tells fits fail = ((fits ≡ true) × (fail ≡ false)) ⊎ ((fits ≡ false) × (fail ≡ true))

abbrev Tested : Seat → Module → Bool → List c.Stmt → List c.Stmt → (most : ℕ) → state.Machine → state.Vars → Type 0
Tested g m fits stmts rest most mach vars =
    ((fits ≡ true) × Passes g m stmts rest most mach vars) ⊎ ((fits ≡ false) × Fails g stmts (most + 1) mach vars)

size_tested : (g : Seat) (m : Module) (mach : state.Machine) (object name : state.Name) (n : ℕ) (o : COp) (left right : c.Expr)
    (fits fail : Bool) (rest : List c.Stmt) (vars : state.Vars)
    → Measures g mach object name n → (k : CanTest g m) → (locals : HasLocals m vars) → Tells fits fail
    → ((b : Bool) → fail ≡ b → Evaluates g mach (with_size n vars) (c.Op o left right) (I32 (if b then 1 else 0)))
    → Tested g m fits (ask_and_test name (c.Value (c.Name (pointer_name object))) o left right (label_name limits_label) rest) rest 2 mach
    vars
size_tested g m mach object name n o left right fits fail rest vars measures k locals tells evaluates = go tells
  where
    a : c.Arg
    a = c.Value (c.Name (pointer_name object))

    asked : Asked g mach vars name a n
    asked = asks g m mach vars object name n measures k.0 locals

    go : Tells fits fail → Tested g m fits (ask_and_test name a o left right (label_name limits_label) rest) rest 2 mach vars
    go (inl h) = inl (
      h.0,
      record {
        locals = with_size n vars;
        has = locals_kept m size_name n vars (has_size m vars k.0 locals) locals;
        statements = 2;
        few = omega arith;
        way = passes g mach vars name a n o left right (label_name limits_label) rest asked (evaluates false h.1);
      },
    )
    go (inr h) = inr (
      h.0,
      record {
        statements = 3;
        few = omega arith;
        way = fails g mach vars name a n o left right limits_label ImportLimits rest asked (evaluates true h.1) k.1 limits_trap;
      },
    )

-- where nothing is asked
not_tested : (g : Seat) (m : Module) (mach : state.Machine) (rest : List c.Stmt) (vars : state.Vars) → HasLocals m vars
    → Passes g m rest rest 2 mach vars
not_tested g m mach rest vars locals =
    record { locals = vars; has = locals; statements = 0; few = omega arith; way = stays g.program (at g mach rest vars) }

min_tested : (g : Seat) (m : Module) (mach : state.Machine) (object name : state.Name) (n unit size min : ℕ) (rest : List c.Stmt)
    (vars : state.Vars) → Measures g mach object name n → (unit == 0) ≡ false → n / unit ≡ size → (nat_lt 0 min ≡ true → CanTest g m)
    → HasLocals m vars → Tested g m (nat_le min size) (test_min object name unit min ++ rest) rest 2 mach vars
min_tested g m mach object name n unit size zero rest vars measures some same can locals =
    inl (least size, not_tested g m mach rest vars locals)
min_tested g m mach object name n unit size (suc min) rest vars measures some same can locals =
    size_tested g m mach object name n op.Lt left (n64 (suc min)) (nat_le (suc min) size) (nat_lt size (suc min)) rest vars measures k
    locals (elim (sides (suc min) size) [ inl h ↦ inl (h.0, h.1) | inr h ↦ inr (h.0, h.1) ])
    (λ b is. operates g mach (with_size n vars) op.Lt left (n64 (suc min)) (I64 size) (I64 (suc min)) (I32 (if b then 1 else 0))
    (operates g mach (with_size n vars) op.Div (c.Name size_name) (n64 unit) (I64 n) (I64 unit) (I64 size)
    (size_evaluates g mach vars n (has_size m vars k.0 locals)) (λ rest. refl)
    (ap (λ b. if b then state.Bad 1 else state.Is (I64 (n / unit))) some ∙ ap (λ x. state.Is (I64 x)) same)) (λ rest. refl) (ap truth is))
  where
    left : c.Expr
    left = c.Op op.Div (c.Name size_name) (n64 unit)

    k : CanTest g m
    k = can (some_min min)

-- a maximum that is missing is above each one that is wanted
max_tells : (given : Option ℕ) (max : ℕ) → max < 4294967296 → Tells (max_fits given (Some max)) (nat_lt max (max_number given))
max_tells None max low = inr (refl, elim (sides 4294967296 max) [ inl h ↦ absurd (omega (arith, low, h.2)) | inr h ↦ h.1 ])
max_tells (Some given) max low = elim (sides given max) [ inl h ↦ inl (h.0, h.1) | inr h ↦ inr (h.0, h.1) ]

max_tested : (g : Seat) (m : Module) (mach : state.Machine) (object name : state.Name) (given max : Option ℕ) (rest : List c.Stmt)
    (vars : state.Vars)
    → Measures g mach object name (max_number given) → ((k : ℕ) → max ≡ Some k → k < 4294967296) → (is_some max ≡ true → CanTest g m)
    → HasLocals m vars → Tested g m (max_fits given max) (test_max object name max ++ rest) rest 2 mach vars
max_tested g m mach object name given None rest vars measures low can locals = inl (any given, not_tested g m mach rest vars locals)
  where
    any : (given : Option ℕ) → max_fits given None ≡ true
    any None = refl
    any (Some given) = refl
max_tested g m mach object name given (Some max) rest vars measures low can locals =
    let n : ℕ = max_number given in
    size_tested g m mach object name n op.Gt (c.Name size_name) (n64 max) (max_fits given (Some max)) (nat_lt max n) rest vars measures
    (can refl) locals (max_tells given max (low max refl))
    (λ b is. operates g mach (with_size n vars) op.Gt (c.Name size_name) (n64 max) (I64 n) (I64 max) (I32 (if b then 1 else 0))
    (size_evaluates g mach vars n (has_size m vars (can refl).0 locals)) (λ rest. refl) (ap truth is))

-- both, in their order
pub limits_tested : (g : Seat) (m : Module) (mach : state.Machine) (object len_of max_of : state.Name) (n unit size : ℕ) (given : Option ℕ)
    (limits : Limits) (rest : List c.Stmt) (vars : state.Vars)
    → Measures g mach object len_of n → Measures g mach object max_of (max_number given) → (unit == 0) ≡ false → n / unit ≡ size
    → ((k : ℕ) → limits.max ≡ Some k → k < 4294967296) → ((nat_lt 0 limits.min || is_some limits.max) ≡ true → CanTest g m)
    → HasLocals m vars → Tested g m (limits_fit size given limits) (test_limits object len_of max_of unit limits ++ rest) rest 4 mach vars
limits_tested g m mach object len_of max_of n unit size given limits rest vars lens maxes some same low can locals =
    rw (append_assoc (test_min object len_of unit limits.min) (test_max object max_of limits.max) rest)
    (first (min_tested g m mach object len_of n unit size limits.min others vars lens some same
    (λ is. can (ap (λ b. b || is_some limits.max) is)) locals))
  where
    others : List c.Stmt
    others = test_max object max_of limits.max ++ rest

    stmts : List c.Stmt
    stmts = test_min object len_of unit limits.min ++ others

    second : nat_le limits.min size ≡ true → (p : Passes g m stmts others 2 mach vars)
        → Tested g m (max_fits given limits.max) others rest 2 mach p.locals
        → Tested g m (limits_fit size given limits) stmts rest 4 mach vars
    second fits p (inl h) = inl (
      ap (λ b. b && max_fits given limits.max) fits ∙ h.0,
      record {
        locals = h.1.locals;
        has = h.1.has;
        statements = p.statements + h.1.statements;
        few = omega (arith, p.few, h.1.few);
        way = joined p.way h.1.way;
      },
    )
    second fits p (inr h) = inr (
      ap (λ b. b && max_fits given limits.max) fits ∙ h.0,
      record { statements = p.statements + h.1.statements; few = omega (arith, p.few, h.1.few); way = joined p.way h.1.way },
    )

    first : Tested g m (nat_le limits.min size) stmts others 2 mach vars → Tested g m (limits_fit size given limits) stmts rest 4 mach vars
    first (inl h) = second h.0 h.1 (max_tested g m mach object max_of given limits.max rest h.1.locals maxes low
        (λ is. can (or_right (nat_lt 0 limits.min) (is_some limits.max) is)) h.1.has)
    first (inr h) = inr (
      ap (λ b. b && max_fits given limits.max) h.0,
      record { statements = h.1.statements; few = omega (arith, h.1.few); way = h.1.way },
    )
