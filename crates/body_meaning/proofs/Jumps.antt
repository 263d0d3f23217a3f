-- Branches and returns: a value is moved to the height of the block that is left, and the label is gone to.
use Rattle.body_meaning.proofs.Common.{◌≡◌, ℕ, zero, suc, ◌≤◌, Bool, true, false, List, [], ◌∷◌, ◌++◌, map, length, if◌then◌else◌}
use Rattle.body_meaning.proofs.Common.{◌==◌, slice_get, Some, None, Option, sym, refl, ap, ◌∙◌, subst, append_assoc, arith, eqb-true, named}
use Rattle.body_meaning.proofs.Common.{with_named, IsNumber, number_of, type_of, types_of, ValType, Value, I32, Stack, values, COp, N32}
use Rattle.body_meaning.proofs.Common.{of_its_type, join, step, operate, Reaches, Progress, go_on, Next, Step, after_label, at_rest, c_step}
use Rattle.body_meaning.proofs.Common.{evaluate, goto, next, number_in, place_of, with_value, HoldsNumber, is_straight, jump, Branches}
use Rattle.body_meaning.proofs.Common.{BranchesTo, Site, StandsAt, Target, at, state_at, label_name, slot, AreTargets, IsFoundIf, IsTarget}
use Rattle.body_meaning.proofs.Common.{aims_of, jump_if, operand, set_slot}
use Rattle.std.proofs.Math.Dec.{eqb-suc-zero}
use Rattle.w2c_base.specs.declared.value.ValType.TheVariants as type
use Rattle.c_tree.specs.declared.tree.COp.TheVariants as op
use Rattle.c_tree.specs.Tree as tree
use Rattle.wasm_meaning.specs.Store as store
use Rattle.wasm_meaning.specs.Execution as exec
use Rattle.c_meaning.specs.State as state
use Rattle.body_meaning.proofs.Vars.{agree_at, stands_below, number_taken}
use Rattle.body_meaning.proofs.Slots.{SlotIsSet}
use Rattle.body_meaning.proofs.Before.{arrives_by, target_by}
use Rattle.body_meaning.proofs.Gives.{arg_reaches, operand_is, slot_value}
use Rattle.body_meaning.proofs.Names.{slot_is_no_depth}

-- ---- variables

-- a value that stands at a height already
pub stands_with : {g : Site} {v : Value} {base : List Value} {now : store.State} {m : state.Machine} {vars : state.Vars}
    → named (slot (type_of v) (length (types_of base))) vars ≡ Some (state.Number v) → IsNumber v
    → StandsAt g base now m vars → StandsAt g (v ∷ base) now m vars
stands_with there number s =
    let a = s.variables in
    record { together = s.together; variables = agree_at a (there, a.stacked) (number, a.stack_numbers); local_types = s.local_types }

-- ---- statements

-- one statement, by what it does
pub way_by : (g : Site) (m : state.Machine) (code : List tree.Stmt) (vars : state.Vars) {does : Step}
    → c_step g.program (state_at g m code vars) ≡ does → Reaches g.program 1 (at g m code vars) (go_on g.program g.pending does)
way_by g m code vars e = subst (λ x. Reaches g.program 1 (at g m code vars) (go_on g.program g.pending x)) e (step g.program g.pending _)

pub goes_to : (g : Site) (m : state.Machine) (code : List tree.Stmt) (vars : state.Vars) (name : state.Name) {to : List tree.Stmt}
    → after_label name g.body.stmts ≡ Some to → goto m (state_at g m code vars).running name g.below ≡ Next (state_at g m to vars)
goes_to g m code vars name found = rw found refl

pub goto_reaches : (g : Site) (m : state.Machine) (vars : state.Vars) (name : state.Name) {to : List tree.Stmt} (rest : List tree.Stmt)
    → after_label name g.body.stmts ≡ Some to → Reaches g.program 1 (at g m (tree.Goto name ∷ rest) vars) (at g m to vars)
goto_reaches g m vars name rest found = way_by g m (tree.Goto name ∷ rest) vars (goes_to g m (tree.Goto name ∷ rest) vars name found)

-- a comparison with 0 of the condition in a slot
condition : (g : Site) (m : state.Machine) (code : List tree.Stmt) (vars : state.Vars) (o : COp) (h c : ℕ) {answer : Value}
    → named (slot type.I32 h) vars ≡ Some (state.Number (I32 c)) → operate o (I32 c) (I32 0) ≡ state.Is answer
    → evaluate g.program m (state_at g m code vars).running (tree.Op o (operand type.I32 h) (tree.Number (N32 0))) ≡ state.Is answer
condition g m code vars o h c is e =
    ap (λ x. state.then_evaluate (number_in x) (λ v. operate o v (I32 0))) (slot_value m (state_at g m code vars).running type.I32 h is) ∙ e

pub if_passes : (g : Site) (m : state.Machine) (vars : state.Vars) (o : COp) (h c l : ℕ) (rest : List tree.Stmt)
    → named (slot type.I32 h) vars ≡ Some (state.Number (I32 c)) → operate o (I32 c) (I32 0) ≡ state.Is (I32 0)
    → Reaches g.program 1 (at g m (jump_if o h l ∷ rest) vars) (at g m rest vars)
if_passes g m vars o h c l rest is e =
    let r = (state_at g m (jump_if o h l ∷ rest) vars).running in
    way_by g m (jump_if o h l ∷ rest) vars (ap (λ x. with_value m (place_of r rest) x (λ v. if number_of v
    == 0 then next m (at_rest r rest) g.below else goto m r (label_name l) g.below)) (condition g m (jump_if o h l ∷ rest) vars o h c is e))

pub if_goes : (g : Site) (m : state.Machine) (vars : state.Vars) (o : COp) (h c l : ℕ) (rest : List tree.Stmt) {to : List tree.Stmt}
    → named (slot type.I32 h) vars ≡ Some (state.Number (I32 c)) → operate o (I32 c) (I32 0) ≡ state.Is (I32 1)
    → after_label (label_name l) g.body.stmts ≡ Some to → Reaches g.program 1 (at g m (jump_if o h l ∷ rest) vars) (at g m to vars)
if_goes g m vars o h c l rest is e found =
    let r = (state_at g m (jump_if o h l ∷ rest) vars).running in
    way_by g m (jump_if o h l ∷ rest) vars (ap (λ x. with_value m (place_of r rest) x (λ v. if number_of v
    == 0 then next m (at_rest r rest) g.below else goto m r (label_name l) g.below)) (condition g m (jump_if o h l ∷ rest) vars o h c is e)
    ∙ goes_to g m (jump_if o h l ∷ rest) vars (label_name l) found)

pub eq_more : (c : ℕ) → operate op.Eq (I32 (suc c)) (I32 0) ≡ state.Is (I32 0)
eq_more c = rw (eqb-suc-zero c) refl

pub ne_more : (c : ℕ) → operate op.Ne (I32 (suc c)) (I32 0) ≡ state.Is (I32 1)
ne_more c = rw (eqb-suc-zero c) refl

-- a slot's value goes to another slot
pub move_reaches : (g : Site) (m : state.Machine) (vars : state.Vars) (t : ValType) (h h' : ℕ) {v : Value} (rest : List tree.Stmt)
    → named (slot t h) vars ≡ Some (state.Number v) → type_of v ≡ t → HoldsNumber t (named (slot t h') vars)
    → Reaches g.program 1 (at g m (set_slot t h' (operand t h) ∷ rest) vars) (at g m rest (with_named (slot t h') (state.Number v) vars))
move_reaches g m vars t h h' {v} rest is typed there =
    arg_reaches g m rest vars (slot t h') (operand t h) (slot_is_no_depth t h') (number_taken t (named (slot t h') vars) v there typed)
    (operand_is g.program m (state_at g m (set_slot t h' (operand t h) ∷ rest) vars).running t h is)

-- ---- targets

-- a target that a branch by its number finds
pub record TargetAt (g : Site) (base : List Value) (ts : List Target) (named : ℕ → Bool) (k : ℕ) (t : Option ValType) : Type 0 where
  pub target : Target
  pub at_it : slice_get (aims_of ts) k ≡ Some target.aim
  pub value_is : target.aim.value ≡ t
  pub is : IsTarget g base target
  pub found : IsFoundIf (named k) g target
  pub branch : (from : Progress) (n left : ℕ) (stack : List Value) (now : store.State) → Branches g 0 target from n left stack now
      → BranchesTo g 0 ts k from n left stack now

targets_shift : (g : Site) (base : List Value) (named : ℕ → Bool) (k : ℕ) (ts : List Target) → AreTargets g base named (suc k) ts
    → AreTargets g base (λ j. named (suc j)) k ts
targets_shift g base named k [] h = tt
targets_shift g base named k (t ∷ ts) h = (h.0, h.1, targets_shift g base named (suc k) ts h.2)

pub targets_unshift : (g : Site) (base : List Value) (named : ℕ → Bool) (k : ℕ) (ts : List Target)
    → AreTargets g base (λ j. named (suc j)) k ts → AreTargets g base named (suc k) ts
targets_unshift g base named k [] h = tt
targets_unshift g base named k (t ∷ ts) h = (h.0, h.1, targets_unshift g base named (suc k) ts h.2)

pub target_at : (g : Site) (base : List Value) (ts : List Target) (named : ℕ → Bool) (k : ℕ) {t : Option ValType}
    → AreTargets g base named 0 ts → slice_get (map (λ x. x.aim.value) ts) k ≡ Some t → TargetAt g base ts named k t
target_at g base [] named k all e = absurd (grind (arith, e))
target_at g base (x ∷ ts) named zero all e =
    record { target = x; at_it = refl; value_is = grind (arith, e); is = all.0; found = all.1; branch = λ from n left stack now b. b }
target_at g base (x ∷ ts) named (suc k) all e =
    let y = target_at g base ts (λ j. named (suc j)) k (targets_shift g base named 0 ts all.2) e in
    record { target = y.target; at_it = y.at_it; value_is = y.value_is; is = y.is; found = y.found; branch = y.branch }

-- targets of fewer branches, and over more operands
pub target_over : {g : Site} (stack : List Value) {base : List Value} {t : Target} → IsTarget g base t → IsTarget g (stack ++ base) t
target_over stack {t} h = record {
  upper = stack ++ h.upper;
  lower = ap (λ b. stack ++ b) h.lower ∙ sym (append_assoc stack h.upper t.base);
  height = h.height;
  declared = h.declared;
}

pub targets_over : (g : Site) (stack base : List Value) (named fewer : ℕ → Bool) (k : ℕ) (ts : List Target)
    → ((j : ℕ) → fewer j ≡ true → named j ≡ true) → AreTargets g base named k ts → AreTargets g (stack ++ base) fewer k ts
targets_over g stack base named fewer k [] less h = tt
targets_over g stack base named fewer k (t ∷ ts) less h =
    (target_over stack h.0, (λ e. h.1 (less k e)), targets_over g stack base named fewer (suc k) ts less h.2)

-- ---- a branch's value

-- the value that a branch takes stands at its place
pub record Keeps (g : Site) (x : Target) (stack : List Value) (now : store.State) (m : state.Machine) (vars : state.Vars) : Type 0 where
  pub kept : List Value
  pub kept_is : exec.top x.aim.value stack ≡ Some kept
  pub typed : types_of kept ≡ values x.aim.value
  pub stands : StandsAt g (kept ++ x.base) now m vars

-- what lies under a target's block
stands_low : {g : Site} {base : List Value} (stack : List Value) {x : Target} {now : store.State} {m : state.Machine} {vars : state.Vars}
    → IsTarget g base x → StandsAt g (stack ++ base) now m vars → StandsAt g x.base now m vars
stands_low {g} {base} stack {x} {now} {m} {vars} is s =
    stands_below is.upper x.base (subst (λ b. StandsAt g b now m vars) is.lower (stands_below stack base s))

same_type : (v : Value) (stack : List Value) {t : ValType} {more : Stack} → types_of (v ∷ stack) ≡ t ∷ more → type_of v ≡ t
same_type v stack e = grind (arith, e)

straight_by : {g : Site} {base : List Value} (l h : ℕ) (value : Option ValType) (b : List Value) (to : List tree.Stmt) (stack : List Value)
    (more : Stack) {now : store.State} {m : state.Machine} {vars : state.Vars} → IsTarget g base (target_by l h value b to)
    → types_of stack ≡ values value ++ more → is_straight (target_by l h value b to).aim (types_of (stack ++ base)) ≡ true
    → StandsAt g (stack ++ base) now m vars → Keeps g (target_by l h value b to) stack now m vars
straight_by l h None b to stack more is e straight s = record { kept = []; kept_is = refl; typed = refl; stands = stands_low stack is s }
straight_by l h (Some t) b to [] more is e straight s = absurd (grind (arith, e))
straight_by {base} l h (Some t) b to (v ∷ stack) more {vars} is e straight s =
    let same : length (types_of (stack ++ base)) ≡ length (types_of b) = eqb-true (length (types_of (stack ++ base))) h straight
    ∙ is.height in
    let there : named (slot (type_of v) (length (types_of b))) vars ≡ Some (state.Number v) =
    subst (λ i. named (slot (type_of v) i) vars ≡ Some (state.Number v)) same s.variables.stacked.0 in
    record {
      kept = v ∷ [];
      kept_is = of_its_type t v (v ∷ []) (sym (same_type v stack e));
      typed = ap (λ u. u ∷ []) (same_type v stack e);
      stands = stands_with there s.variables.stack_numbers.0 (stands_low (v ∷ stack) is s);
    }

pub straight : (g : Site) (base : List Value) (x : Target) (stack : List Value) (more : Stack) (now : store.State) (m : state.Machine)
    (vars : state.Vars) → IsTarget g base x → types_of stack ≡ values x.aim.value ++ more
    → is_straight x.aim (types_of (stack ++ base)) ≡ true → StandsAt g (stack ++ base) now m vars → Keeps g x stack now m vars
straight g base x stack more now m vars is e h s = straight_by x.aim.label x.aim.height x.aim.value x.base x.rest stack more is e h s

-- a jump comes to its label, with its value
pub record Lands (g : Site) (x : Target) (from : Progress) (stack : List Value) (now : store.State) : Type 0 where
  pub machine : state.Machine
  pub vars : state.Vars
  pub keeps : Keeps g x stack now machine vars
  pub statements : ℕ
  pub some : 1 ≤ statements
  pub few : statements ≤ 2
  pub way : Reaches g.program statements from (at g machine x.rest vars)

goes_straight : {g : Site} {x : Target} {from : Progress} {stack : List Value} {now : store.State} {m : state.Machine} {vars : state.Vars}
    → Keeps g x stack now m vars → Reaches g.program 1 from (at g m x.rest vars) → Lands g x from stack now
goes_straight {m} {vars} keeps way =
    record { machine = m; vars = vars; keeps = keeps; statements = 1; some = omega arith; few = omega arith; way = way }

lands_by : {g : Site} → SlotIsSet g → {base : List Value} (l h : ℕ) (value : Option ValType) (b : List Value) {to : List tree.Stmt}
    (stack : List Value) (more : Stack) (rest : List tree.Stmt) {now : store.State} {m : state.Machine} {vars : state.Vars}
    → IsTarget g base (target_by l h value b to) → after_label (label_name l) g.body.stmts ≡ Some to → types_of stack ≡ values value ++ more
    → StandsAt g (stack ++ base) now m vars → (same : Bool) → is_straight (target_by l h value b to).aim (types_of (stack ++ base)) ≡ same
    → Lands g (target_by l h value b to) (at g m (jump (target_by l h value b to).aim (types_of (stack ++ base)) ++ rest) vars) stack now
lands_by {g} set l h None b {to} stack more rest {m} {vars} is found e s same straight =
    goes_straight (straight_by l h None b to stack more is e refl s) (goto_reaches g m vars (label_name l) rest found)
lands_by set l h (Some t) b [] more rest is found e s same straight = absurd (grind (arith, e))
lands_by {g} set l h (Some t) b {to} (v ∷ stack) more rest {m} {vars} is found e s true straight =
    goes_straight {m = m} {vars = vars} (straight_by l h (Some t) b to (v ∷ stack) more is e straight s)
    (rw straight (goto_reaches g m vars (label_name l) rest found))
lands_by {g} set {base} l h (Some t) b {to} (v ∷ stack) more rest {now} {m} {vars} is found e s false straight =
    let type_is : type_of v ≡ t = same_type v stack e in
    let i : ℕ = length (types_of (stack ++ base)) in
    let low : StandsAt g b now m vars = stands_low (v ∷ stack) is s in
    let declared : g.slots (type_of v) (length (types_of b)) ≡ true =
    subst (λ u. g.slots u (length (types_of b)) ≡ true) (sym type_is) (subst (λ j. g.slots t j ≡ true) is.height (is.declared t refl)) in
    let new : state.Vars = with_named (slot (type_of v) (length (types_of b))) (state.Number v) vars in
    let code : ValType → ℕ → List tree.Stmt = λ u j. set_slot u j (operand u i) ∷ (tree.Goto (label_name l) ∷ rest) in
    let way : Reaches g.program 2 (at g m (code (type_of v) (length (types_of b))) vars) (at g m to new) =
    join g.program 1 1 (at g m (code (type_of v) (length (types_of b))) vars) (at g m (tree.Goto (label_name l) ∷ rest) new)
    (at g m to new) (move_reaches g m vars (type_of v) i (length (types_of b)) (tree.Goto (label_name l) ∷ rest) s.variables.stacked.0
    refl (s.variables.declared (type_of v) (length (types_of b)) declared)) (goto_reaches g m new (label_name l) rest found) in
    let way_there : Reaches g.program 2 (at g m (code t h) vars) (at g m to new) =
    subst (λ u. Reaches g.program 2 (at g m (code u h) vars) (at g m to new)) type_is
    (subst (λ j. Reaches g.program 2 (at g m (code (type_of v) j) vars) (at g m to new)) (sym is.height) way) in
    record {
      machine = m;
      vars = new;
      keeps = record {
        kept = v ∷ [];
        kept_is = of_its_type t v (v ∷ []) (sym type_is);
        typed = ap (λ u. u ∷ []) type_is;
        stands = record {
          together = s.together;
          variables = set v b now.locals vars declared s.variables.stack_numbers.0 low.variables;
          local_types = s.local_types;
        };
      };
      statements = 2;
      some = omega arith;
      few = omega arith;
      way = rw straight way_there;
    }

pub lands : {g : Site} → SlotIsSet g → {base : List Value} {x : Target} (stack : List Value) (more : Stack) (rest : List tree.Stmt)
    {now : store.State} {m : state.Machine} {vars : state.Vars}
    → IsTarget g base x → after_label (label_name x.aim.label) g.body.stmts ≡ Some x.rest → types_of stack ≡ values x.aim.value ++ more
    → StandsAt g (stack ++ base) now m vars → Lands g x (at g m (jump x.aim (types_of (stack ++ base)) ++ rest) vars) stack now
lands set {base} {x} stack more rest is found e s =
    lands_by set x.aim.label x.aim.height x.aim.value x.base stack more rest is found e s _ refl

-- a branch, some statements behind where its step begins
pub branches : {g : Site} {x : Target} {from to : Progress} {k : ℕ} (left : ℕ) {stack : List Value} {now : store.State}
    → Reaches g.program k from to → k ≤ 300 → Lands g x to stack now → Branches g 0 x from (suc left) left stack now
branches {g} {x} {from} {to} {k} left way few l = record {
  kept = l.keeps.kept;
  kept_is = l.keeps.kept_is;
  typed = l.keeps.typed;
  less = omega arith;
  arrives = arrives_by l.keeps.stands (join g.program k l.statements from to (at g l.machine x.rest l.vars) way l.way)
      (record { least = omega (arith, l.some); most = omega (arith, few, l.few) });
}

-- a branch by one statement, without a move
pub branches_at_once : {g : Site} {x : Target} {from : Progress} (left : ℕ) {stack : List Value} {now : store.State} {m : state.Machine}
    {vars : state.Vars} → Reaches g.program 1 from (at g m x.rest vars) → Keeps g x stack now m vars
    → Branches g 0 x from (suc left) left stack now
branches_at_once left way k = record {
  kept = k.kept;
  kept_is = k.kept_is;
  typed = k.typed;
  less = omega arith;
  arrives = arrives_by k.stands way (record { least = omega arith; most = omega arith });
}
