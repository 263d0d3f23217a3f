-- Numeric instructions are followed by their statements.
use Rattle.body_meaning.proofs.Common.{◌≡◌, ℕ, ◌+◌, ◌%◌, ◌^◌, ◌<◌, Bool, true, false, List, [], ◌∷◌, ◌++◌, map, length, ◌==◌, Some, sym}
use Rattle.body_meaning.proofs.Common.{refl, ap, ◌∙◌, subst, arith, named, bits, number_of, types_of, value, ValType, Value, I32}
use Rattle.body_meaning.proofs.Common.{extend_type, extend_width, Typing, Kind, BinaryOp, CompareOp, ExtendOp, UnaryOp, binary_typing}
use Rattle.body_meaning.proofs.Common.{compare_typing, eqz_typing, extend_typing, unary_typing, Labels, Stack, Turns, TurnsAsTabled}
use Rattle.body_meaning.proofs.Common.{binary_fits, extend_fits, pattern_below, unary_fits, Answer, AnswerFits, Gives, binary, compare}
use Rattle.body_meaning.proofs.Common.{extend_s, signed, truth, unary, bytes_equal, Program, Evaluated, Is, then_evaluate, evaluate}
use Rattle.body_meaning.proofs.Common.{evaluate_arg, evaluate_args, helper_right, evaluate-num, flagged, flagged-bit, CallComesTo}
use Rattle.body_meaning.proofs.Common.{helper_of, number, Helper, NumOp, Site, StandsAt, Target, slot, IsSite, IsThere, KindFollows}
use Rattle.body_meaning.proofs.Common.{binary_way, by_way, call_helper, compare_way, extend_helper, helper_for, operand, set_slot}
use Rattle.body_meaning.proofs.Common.{unary_helper, Defines, after, ends, stands, under, Way, ByHelper, ByOperator, ByShift, Spot, IsHere}
use Rattle.w2c_base.specs.declared.value.ValType.TheVariants as type
use Rattle.w2c_base.specs.declared.value.Value.TheVariants.{I64}
use Rattle.wasm_tree.specs.Instructions as wasm
use Rattle.c_tree.specs.declared.tree.COp.TheVariants as op
use Rattle.c_tree.specs.Tree as tree
use Rattle.wasm_meaning.specs.Store as store
use Rattle.wasm_meaning.specs.Execution as exec
use Rattle.c_meaning.specs.State as state
use Rattle.c_helpers.specs.declared.operation.NumOp.TheVariants as num
use Rattle.c_helpers.specs.declared.operation.Helper.TheVariants as helper
use Rattle.body_definition.proofs.Heights.{after_typed, stands_top}
use Rattle.c_prelude.specs.Operators.{number as c_number, answered as c_answered}
use Rattle.body_meaning.proofs.Names.{slot_is_no_depth}
use Rattle.body_meaning.proofs.Vars.{height, stands_below}
use Rattle.body_meaning.proofs.Slots.{slots_are_set}
use Rattle.body_meaning.proofs.Gives.{Place, owes, running, evaluate-variable, number_arg, sets, helper_gives, Owes}
use Rattle.body_meaning.proofs.Ways.{Evaluates, WayIsRight, operated, binary_right, compare_right, unary_right, extend_right}
use Rattle.body_meaning.proofs.Operands.{types_append}

-- ---- operands of a type

pub one_of : (t : ValType) {types : Stack} (P : List Value → Type 0)
    → ((x : ℕ) (under : List Value) → types_of under ≡ types → P (value t x ∷ under))
    → (stack : List Value) → types_of stack ≡ t ∷ types → P stack
one_of type.I32 P go (I32 x ∷ under) e = go x under cc
one_of type.I64 P go (I64 x ∷ under) e = go x under cc
one_of t P go _ e = absurd cc

pub two_of : (t : ValType) {types : Stack} (P : List Value → Type 0)
    → ((x y : ℕ) (under : List Value) → types_of under ≡ types → P (value t y ∷ value t x ∷ under))
    → (stack : List Value) → types_of stack ≡ t ∷ t ∷ types → P stack
two_of type.I32 P go (I32 y ∷ I32 x ∷ under) e = go x y under cc
two_of type.I64 P go (I64 y ∷ I64 x ∷ under) e = go x y under cc
two_of t P go _ e = absurd cc

one_operand-value : (t : ValType) (x : ℕ) (under : List Value) (go : ℕ → List Value → exec.Done)
    → exec.one_operand t (value t x ∷ under) go ≡ go x under
one_operand-value type.I32 x under go = refl
one_operand-value type.I64 x under go = refl

two_operands-value : (t : ValType) (x y : ℕ) (under : List Value) (go : ℕ → ℕ → List Value → exec.Done)
    → exec.two_operands t (value t y ∷ value t x ∷ under) go ≡ go x y under
two_operands-value type.I32 x y under go = refl
two_operands-value type.I64 x y under go = refl

pub evaluate-slot : (g : Site) (m : state.Machine) (rest : List tree.Stmt) (vars : state.Vars) (t : ValType) (h : ℕ) {v : Value}
    → named (slot t h) vars ≡ Some (state.Number v) → evaluate g.program m (running g rest vars) (operand t h) ≡ Is v
evaluate-slot g m rest vars t h is = evaluate-variable g.program m (running g rest vars) (slot t h) (slot_is_no_depth t h) is

-- the uppermost operand, in its slot
pub record One (g : Site) (s : Spot) (whole : List Value) (t : ValType) (x : ℕ) : Type 0 where
  pub is : named (slot t (height whole)) s.vars ≡ Some (state.Number (value t x))
  pub fits : x < 2 ^ bits t
  pub below : StandsAt g whole s.now s.machine s.vars

pub one_stands : {g : Site} (s : Spot) {whole : List Value} (t : ValType) (x : ℕ)
    → StandsAt g (value t x ∷ whole) s.now s.machine s.vars → One g s whole t x
one_stands s {whole} type.I32 x h =
    record { is = h.variables.stacked.0; fits = h.variables.stack_numbers.0; below = stands_below (I32 x ∷ []) whole h }
one_stands s {whole} type.I64 x h =
    record { is = h.variables.stacked.0; fits = h.variables.stack_numbers.0; below = stands_below (I64 x ∷ []) whole h }

-- the two uppermost ones
pub record Two (g : Site) (s : Spot) (whole : List Value) (t : ValType) (x y : ℕ) : Type 0 where
  pub first : One g s whole t x
  pub is : named (slot t (1 + height whole)) s.vars ≡ Some (state.Number (value t y))
  pub fits : y < 2 ^ bits t

pub two_stand : {g : Site} (s : Spot) {whole : List Value} (t : ValType) (x y : ℕ)
    → StandsAt g (value t y ∷ value t x ∷ whole) s.now s.machine s.vars → Two g s whole t x y
two_stand s {whole} t x y h =
    let upper = one_stands s t y h in
    let e : height (value t x ∷ whole) ≡ 1 + height whole = omega arith in
    record {
      first = one_stands s t x upper.below;
      is = subst (λ (h : ℕ). named (slot t h) s.vars ≡ Some (state.Number (value t y))) e upper.is;
      fits = upper.fits;
    }

-- ---- arguments

pub args_are : (p : Program) (m : state.Machine) (r : state.Running) (a : tree.Arg) (args : List tree.Arg) (v : state.CValue)
    (given : List state.CValue)
    → evaluate_arg p m r a ≡ Is v → evaluate_args p m r args ≡ Is given → evaluate_args p m r (a ∷ args) ≡ Is (v ∷ given)
args_are p m r a args v given first behind = rw (first, behind) refl

one_arg : (p : Program) (m : state.Machine) (r : state.Running) (a : tree.Expr) {v : Value} → evaluate p m r a ≡ Is v
    → evaluate_args p m r (tree.Value a ∷ []) ≡ Is (state.Number v ∷ [])
one_arg p m r a {v} is = args_are p m r (tree.Value a) [] (state.Number v) [] (number_arg p m r a is) refl

two_args : (p : Program) (m : state.Machine) (r : state.Running) (a b : tree.Expr) {v w : Value} → evaluate p m r a ≡ Is v
    → evaluate p m r b ≡ Is w → evaluate_args p m r (tree.Value a ∷ tree.Value b ∷ []) ≡ Is (state.Number v ∷ state.Number w ∷ [])
two_args p m r a b {v} {w} is then_is = args_are
    p m r (tree.Value a) (tree.Value b ∷ []) (state.Number v) (state.Number w ∷ []) (number_arg p m r a is) (one_arg p m r b then_is)

-- the helper of an instruction is there
pub helper_there : {g : Site} (kind : Kind) (which : Helper) → IsThere g (λ test. test kind) → helper_for kind ≡ Some which
    → Defines g.program g.unit (helper_of which)
helper_there kind which there e = there.helpers which (rw e (bytes_equal (helper_of which).name))

abbrev helper_stmt : NumOp → ValType → ValType → ℕ → tree.Stmt
helper_stmt which t u h = call_helper (Some (slot u h)) (helper.Num which) (tree.Value (operand t h) ∷ [])

abbrev labels_of : List Target → Labels
labels_of targets = map (λ t. t.aim.value) targets

-- ---- the place of a value

pub value_place : {g : Site} {room : ℕ} {calls : exec.Calls} → IsSite g room calls → {kind : Kind} {s : Spot} {stack : List Value}
    → IsHere g kind s stack → ends kind ≡ false → {u : ValType} {types : Stack} → s.outs ≡ u ∷ types → (under : List Value)
    → types_of under ≡ types → StandsAt g (under ++ s.base) s.now s.machine s.vars → Place g s under u
value_place {g} site {kind} {s} {stack} here goes {u} result under same agree =
    let c = g.setting.context in
    let whole : Stack = types_of (under ++ s.base) in
    let typed : s.outs ≡ u ∷ types_of under = result ∙ ap (λ (ts : Stack). u ∷ ts) (sym same) in
    let e : after c (types_of (stack ++ s.base)) kind ≡ u ∷ whole =
    rw (types_append stack s.base) (after_typed c (labels_of s.targets) kind (types_of stack) s.outs (types_of s.base) here.typed goes
    ∙ ap (λ (ts : Stack). ts ++ types_of s.base) typed ∙ ap (λ (ts : Stack). u ∷ ts) (sym (types_append under s.base))) in
    record {
      typed = typed;
      there = here.slots u (length whole) (subst (λ (ts : Stack). stands u (length whole) ts ≡ true) (sym e) (stands_top u whole));
      set = slots_are_set site;
      stands = agree;
    }

-- ---- operators

by_expr : {g : Site} {s : Spot} {under : List Value} {u : ValType} → Place g s under u
    → {answer : Answer} → AnswerFits (bits u) answer → (left : ℕ) {e : tree.Expr}
    → Evaluates g.program s.machine (running g (set_slot u (height (under ++ s.base)) e ∷ s.rest) s.vars) e u answer
    → Owes g s (set_slot u (height (under ++ s.base)) e ∷ []) left (exec.answered u answer under s.now)
by_expr {g} {s} {under} {u} place fits left {e} has =
    subst (λ (a : Answer). Owes g s (set_slot u (height (under ++ s.base)) e ∷ []) left (exec.answered u a under s.now)) (sym has.gives)
    (sets place has.n (subst (AnswerFits (bits u)) has.gives fits) left e has.is)

by_way_does : {g : Site} {s : Spot} {under : List Value} {t u : ValType} → Place g s under u
    → {x y : ℕ} → Two g s (under ++ s.base) t x y → (answer : ℕ → ℕ → Answer) → AnswerFits (bits u) (answer x y)
    → (as_value : tree.Expr → tree.Expr) (way : Way) → WayIsRight t u answer as_value way
    → ((which : NumOp) → way ≡ ByHelper which → Defines g.program g.unit (helper_of (helper.Num which))) → (left : ℕ)
    → Owes g s (by_way way t u (height (under ++ s.base)) as_value ∷ []) left (exec.answered u (answer x y) under s.now)
by_way_does {g} {s} {under} {t} {u} place {x} {y} two answer fits as_value (ByOperator o) right defined left =
    let h : ℕ = height (under ++ s.base) in
    let stmts : List tree.Stmt = set_slot u h (as_value (tree.Op o (operand t h) (operand t (1 + h)))) ∷ s.rest in
    by_expr place fits left (right g.program s.machine (running g stmts s.vars) (operand t h) (operand t (1 + h)) x y
    (evaluate-slot g s.machine stmts s.vars t h two.first.is) (evaluate-slot g s.machine stmts s.vars t (1 + h) two.is))
by_way_does {g} {s} {under} {t} {u} place {x} {y} two answer fits as_value (ByShift o) right defined left =
    let h : ℕ = height (under ++ s.base) in
    let stmts : List tree.Stmt = set_slot u h (as_value (tree.Op o (operand t h) (tree.Op op.Rem (operand t (1 + h)) (number t (bits t)))))
    ∷ s.rest in by_expr place fits left (right g.program s.machine (running g stmts s.vars) (operand t h) (operand t (1 + h)) x y
    (evaluate-slot g s.machine stmts s.vars t h two.first.is) (evaluate-slot g s.machine stmts s.vars t (1 + h) two.is))
by_way_does {g} {s} {under} {t} {u} place {x} {y} two answer fits as_value (ByHelper which) right defined left =
    let h : ℕ = height (under ++ s.base) in
    let args : List tree.Arg = tree.Value (operand t h) ∷ tree.Value (operand t (1 + h)) ∷ [] in
    let stmts : List tree.Stmt = call_helper (Some (slot u h)) (helper.Num which) args ∷ s.rest in
    helper_gives place left (helper.Num which) args (answer x y) (defined which refl)
    (two_args g.program s.machine (running g stmts s.vars) (operand t h) (operand t (1 + h))
    (evaluate-slot g s.machine stmts s.vars t h two.first.is) (evaluate-slot g s.machine stmts s.vars t (1 + h) two.is))
    (right s.machine x y two.first.fits two.fits) fits

-- two operands of a type give a value, or trap
two_does : {g : Site} {room : ℕ} {calls : exec.Calls} → IsSite g room calls → {kind : Kind} {s : Spot} {t u : ValType}
    → (answer : ℕ → ℕ → Answer) → ((x y : ℕ) → x < 2 ^ bits t → y < 2 ^ bits t → AnswerFits (bits u) (answer x y))
    → (as_value : tree.Expr → tree.Expr) (way : Way) → WayIsRight t u answer as_value way
    → ((which : NumOp) → way ≡ ByHelper which → Defines g.program g.unit (helper_of (helper.Num which)))
    → ends kind ≡ false → (left : ℕ) (stack : List Value) → IsHere g kind s stack → Turns (t ∷ t ∷ []) (u ∷ []) (types_of stack) s.outs
    → Owes g s (by_way way t u (under 2 (types_of (stack ++ s.base))) as_value ∷ []) left
    (exec.two_operands t stack (λ x y below. exec.answered u (answer x y) below s.now))
two_does {g} site {kind} {s} {t} {u} answer fits as_value way right defined goes left stack here turns =
    two_of t (λ stack. IsHere g kind s stack → Owes g s (by_way way t u (under 2 (types_of (stack ++ s.base))) as_value ∷ []) left
    (exec.two_operands t stack (λ x y below. exec.answered u (answer x y) below s.now))) go stack turns.1 here
  where
    go : (x y : ℕ) (below : List Value) → types_of below ≡ turns.0 → IsHere g kind s (value t y ∷ value t x ∷ below)
        → Owes g s (by_way way t u (height (below ++ s.base)) as_value ∷ []) left
        (exec.two_operands t (value t y ∷ value t x ∷ below) (λ x y below. exec.answered u (answer x y) below s.now))
    go x y below same here =
        let two = two_stand s t x y here.stands in
        subst (Owes g s (by_way way t u (height (below ++ s.base)) as_value ∷ []) left)
        (sym (two_operands-value t x y below (λ x y below. exec.answered u (answer x y) below s.now)))
        (by_way_does (value_place site here goes turns.2 below same two.first.below) two answer (fits x y two.first.fits two.fits)
        as_value way right defined left)

-- one operand of a type gives a value
one_does : {g : Site} {room : ℕ} {calls : exec.Calls} → IsSite g room calls → {kind : Kind} {s : Spot} {t u : ValType}
    → (result_of : ℕ → ℕ) (stmt : ℕ → tree.Stmt) → ends kind ≡ false → (left : ℕ)
    → ((x : ℕ) (below : List Value) → Place g s below u → One g s (below ++ s.base) t x
    → Owes g s (stmt (height (below ++ s.base)) ∷ []) left (exec.Leaves (value u (result_of x) ∷ below) s.now))
    → (stack : List Value) → IsHere g kind s stack → Turns (t ∷ []) (u ∷ []) (types_of stack) s.outs
    → Owes g s (stmt (under 1 (types_of (stack ++ s.base))) ∷ []) left
    (exec.one_operand t stack (λ x below. exec.Leaves (value u (result_of x) ∷ below) s.now))
one_does {g} site {kind} {s} {t} {u} result_of stmt goes left does stack here turns =
    one_of t (λ stack. IsHere g kind s stack → Owes g s (stmt (under 1 (types_of (stack ++ s.base))) ∷ []) left
    (exec.one_operand t stack (λ x below. exec.Leaves (value u (result_of x) ∷ below) s.now))) go stack turns.1 here
  where
    go : (x : ℕ) (below : List Value) → types_of below ≡ turns.0 → IsHere g kind s (value t x ∷ below)
        → Owes g s (stmt (height (below ++ s.base)) ∷ []) left
        (exec.one_operand t (value t x ∷ below) (λ x below. exec.Leaves (value u (result_of x) ∷ below) s.now))
    go x below same here =
        let one = one_stands s t x here.stands in
        subst (Owes g s (stmt (height (below ++ s.base)) ∷ []) left)
        (sym (one_operand-value t x below (λ x below. exec.Leaves (value u (result_of x) ∷ below) s.now)))
        (does x below (value_place site here goes turns.2 below same one.below) one)

-- a helper of one operand
by_helper : {g : Site} {s : Spot} {below : List Value} {t u : ValType} → Place g s below u
    → (left : ℕ) (which : NumOp) {x : ℕ} (n : ℕ) → Defines g.program g.unit (helper_of (helper.Num which)) → One g s (below ++ s.base) t x
    → CallComesTo 390 (helper_of (helper.Num which)) (c_number t x ∷ []) s.machine (c_answered s.machine u (Gives n)) → n < 2 ^ bits u
    → Owes g s (helper_stmt which t u (height (below ++ s.base)) ∷ []) left (exec.Leaves (value u n ∷ below) s.now)
by_helper {g} {s} {below} {t} {u} place left which n defined one comes fits =
    let h : ℕ = height (below ++ s.base) in
    helper_gives place left (helper.Num which) (tree.Value (operand t h) ∷ []) (Gives n) defined
    (one_arg g.program s.machine (running g (helper_stmt which t u h ∷ s.rest) s.vars) (operand t h)
    (evaluate-slot g s.machine (helper_stmt which t u h ∷ s.rest) s.vars t h one.is)) comes fits

-- a comparison with 0
is_zero : (g : Site) (m : state.Machine) (stmts : List tree.Stmt) (vars : state.Vars) (t : ValType) (h x : ℕ)
    → named (slot t h) vars ≡ Some (state.Number (value t x))
    → evaluate g.program m (running g stmts vars) (tree.To32 (tree.Op op.Eq (operand t h) (number t 0))) ≡ Is (I32 (truth (x == 0)))
is_zero g m stmts vars t h x is =
    let r : state.Running = running g stmts vars in
    ap (flagged type.I32)
    (operated g.program m r t op.Eq (operand t h) (number t 0) x 0 (evaluate-slot g m stmts vars t h is) (evaluate-num g.program m r t 0))
    ∙ flagged-bit type.I32 (x == 0)

-- instructions on one operand, as they are executed
wrap_done : (g : Site) (stack : List Value) (now : store.State)
    → exec.plain g.linked g.unit wasm.I32WrapI64 stack now ≡ exec.one_operand type.I64 stack
    (λ x below. exec.Leaves (I32 (x % 2 ^ 32) ∷ below) now)
wrap_done g (I64 x ∷ stack) now = refl
wrap_done g _ now = refl

extend_u_done : (g : Site) (stack : List Value) (now : store.State)
    → exec.plain g.linked g.unit wasm.I64ExtendI32U stack now ≡ exec.one_operand type.I32 stack (λ x below. exec.Leaves (I64 x ∷ below) now)
extend_u_done g (I32 x ∷ stack) now = refl
extend_u_done g _ now = refl

extend_s_done : (g : Site) (stack : List Value) (now : store.State) → exec.plain g.linked g.unit wasm.I64ExtendI32S stack now
    ≡ exec.one_operand type.I32 stack (λ x below. exec.Leaves (I64 (extend_s 32 64 x) ∷ below) now)
extend_s_done g (I32 x ∷ stack) now = refl
extend_s_done g _ now = refl

-- ---- numbers of a width

truth_low : (b : Bool) → truth b < 2 ^ 32
truth_low true = omega arith
truth_low false = omega arith

-- ---- instructions

pub binary_follows : {g : Site} {room : ℕ} {calls : exec.Calls} (t : ValType) (o : BinaryOp) → IsSite g room calls
    → IsThere g (λ test. test (wasm.Binary t o)) → KindFollows g calls (wasm.Binary t o)
binary_follows {g} t o site there s stack here exit n =
    owes g s exit n _ refl (λ left. two_does site (binary o (bits t)) (binary_fits t o) (λ e. e) (binary_way t o) (binary_right t o)
    (λ which e. helper_there (wasm.Binary t o) (helper.Num which) there (rw e refl)) refl left stack here
    (subst (λ (ty : Typing). TurnsAsTabled ty (types_of stack) s.outs) (binary_typing t o) here.typed))

pub compare_follows : {g : Site} {room : ℕ} {calls : exec.Calls} (t : ValType) (o : CompareOp) → IsSite g room calls
    → IsThere g (λ test. test (wasm.Compare t o)) → KindFollows g calls (wasm.Compare t o)
compare_follows {g} t o site there s stack here exit n =
    owes g s exit n _ refl (λ left. two_does site (λ x y. Gives (truth (compare o (bits t) x y)))
    (λ x y p q. truth_low (compare o (bits t) x y)) tree.To32 (compare_way t o) (compare_right t o)
    (λ which e. helper_there (wasm.Compare t o) (helper.Num which) there (rw e refl)) refl left stack here
    (subst (λ (ty : Typing). TurnsAsTabled ty (types_of stack) s.outs) (compare_typing t o) here.typed))

pub unary_follows : {g : Site} {room : ℕ} {calls : exec.Calls} (t : ValType) (o : UnaryOp) → IsSite g room calls
    → IsThere g (λ test. test (wasm.Unary t o)) → KindFollows g calls (wasm.Unary t o)
unary_follows {g} t o site there s stack here exit n =
    owes g s exit n _ refl (λ left. one_does site (unary o (bits t)) (helper_stmt (unary_helper t o) t t) refl left
    (λ x below place one. by_helper place left (unary_helper t o) (unary o (bits t) x)
    (helper_there (wasm.Unary t o) (helper.Num (unary_helper t o)) there refl) one (unary_right t o s.machine x one.fits)
    (unary_fits t o x one.fits))
    stack here (subst (λ (ty : Typing). TurnsAsTabled ty (types_of stack) s.outs) (unary_typing t o) here.typed))

pub extend_follows : {g : Site} {room : ℕ} {calls : exec.Calls} (o : ExtendOp) → IsSite g room calls
    → IsThere g (λ test. test (wasm.Extend o)) → KindFollows g calls (wasm.Extend o)
extend_follows {g} o site there s stack here exit n =
    let t : ValType = extend_type o in
    let low : ℕ → ℕ = extend_s (extend_width o) (bits t) in
    owes g s exit n _ refl (λ left. one_does site low (helper_stmt (extend_helper o) t t) refl left
    (λ x below place one. by_helper place left (extend_helper o) (low x)
    (helper_there (wasm.Extend o) (helper.Num (extend_helper o)) there refl) one (extend_right o s.machine x one.fits) (extend_fits o x))
    stack here (subst (λ (ty : Typing). TurnsAsTabled ty (types_of stack) s.outs) (extend_typing o) here.typed))

pub eqz_follows : {g : Site} {room : ℕ} {calls : exec.Calls} (t : ValType) → IsSite g room calls → KindFollows g calls (wasm.Eqz t)
eqz_follows {g} t site s stack here exit n =
    let made = λ (h : ℕ). tree.To32 (tree.Op op.Eq (operand t h) (number t 0)) in
    let stmt = λ (h : ℕ). set_slot type.I32 h (made h) in
    owes g s exit n _ refl (λ left. one_does site (λ x. truth (x == 0)) stmt refl left
    (λ x below place one. let h = height (below ++ s.base) in
    sets place (truth (x == 0)) (truth_low (x == 0)) left (made h) (is_zero g s.machine (stmt h ∷ s.rest) s.vars t h x one.is))
    stack here (subst (λ (ty : Typing). TurnsAsTabled ty (types_of stack) s.outs) (eqz_typing t) here.typed))

pub wrap_follows : {g : Site} {room : ℕ} {calls : exec.Calls} → IsSite g room calls → KindFollows g calls wasm.I32WrapI64
wrap_follows {g} site s stack here exit n =
    let stmt = λ (h : ℕ). set_slot type.I32 h (tree.To32 (operand type.I64 h)) in
    owes g s exit n _ (wrap_done g stack s.now) (λ left. one_does site (λ x. x % 2 ^ 32) stmt refl left
    (λ x below place one. let h = height (below ++ s.base) in
    sets place (x % 2 ^ 32) (omega arith) left (tree.To32 (operand type.I64 h))
    (ap (λ (v : Evaluated Value). then_evaluate v (λ w. Is (I32 (number_of w % 2 ^ 32))))
    (evaluate-slot g s.machine (stmt h ∷ s.rest) s.vars type.I64 h one.is))) stack here here.typed)

pub extend_u_follows : {g : Site} {room : ℕ} {calls : exec.Calls} → IsSite g room calls → KindFollows g calls wasm.I64ExtendI32U
extend_u_follows {g} site s stack here exit n =
    let stmt = λ (h : ℕ). set_slot type.I64 h (tree.To64 (operand type.I32 h)) in
    owes g s exit n _ (extend_u_done g stack s.now) (λ left. one_does site (λ x. x) stmt refl left
    (λ x below place one. let h = height (below ++ s.base) in let small : x < 2 ^ 32 = one.fits in
    sets place x (omega (arith, small)) left (tree.To64 (operand type.I32 h))
    (ap (λ (v : Evaluated Value). then_evaluate v (λ w. Is (I64 (number_of w))))
    (evaluate-slot g s.machine (stmt h ∷ s.rest) s.vars type.I32 h one.is))) stack here here.typed)

pub extend_s_follows : {g : Site} {room : ℕ} {calls : exec.Calls} → IsSite g room calls → IsThere g (λ test. test wasm.I64ExtendI32S)
    → KindFollows g calls wasm.I64ExtendI32S
extend_s_follows {g} site there s stack here exit n =
    owes g s exit n _ (extend_s_done g stack s.now)
    (λ left. one_does site (extend_s 32 64) (helper_stmt num.I64ExtendI32S type.I32 type.I64) refl left
    (λ x below place one. by_helper place left num.I64ExtendI32S (extend_s 32 64 x)
    (helper_there wasm.I64ExtendI32S (helper.Num num.I64ExtendI32S) there refl) one
    (helper_right (helper.Num num.I64ExtendI32S) s.machine x one.fits) (pattern_below 64 (signed 32 (x % 2 ^ 32)))) stack here here.typed)
