-- The instructions that branch: br, br_if, br_table, return, and unreachable.
use Rattle.body_meaning.proofs.Common.{◌≡◌, ℕ, zero, suc, ◌+◌, Bool, true, false, ◌||◌, List, [], ◌∷◌, ◌++◌, map, reverse, length, drop}
use Rattle.body_meaning.proofs.Common.{if◌then◌else◌, nat_eq, ◌==◌, slice_get, Some, None, Option, unwrap_or, sym, refl, ap, ◌∙◌, subst}
use Rattle.body_meaning.proofs.Common.{append_assoc, arith, eq-eqb, ne_eqb, AllByRecursion, list_any, named, types_of, ValType, Value, I32}
use Rattle.body_meaning.proofs.Common.{Br, BrIf, BrTable, Return, Unreachable, KindHasType, Stack, values, stays, step, Reaches, Progress}
use Rattle.body_meaning.proofs.Common.{after_label, goto, label_of, number_in, place_of, with_value, Aim, branch_table, case_label}
use Rattle.body_meaning.proofs.Common.{cases_from, emit_kind, if_aim, is_straight, jump, moving_case, moving_cases, Branches, Follows, Site}
use Rattle.body_meaning.proofs.Common.{StandsAt, Target, at, state_at, targets_in, label_name, slot, AreTargets, IsExit, IsPlaced, IsTarget}
use Rattle.body_meaning.proofs.Common.{aims_of, jump_if, operand}
use Rattle.w2c_base.specs.declared.value.ValType.TheVariants as type
use Rattle.w2c_base.specs.declared.value.Value.TheVariants.{I64}
use Rattle.w2c_base.specs.declared.trap.TrapKind.TheVariants as trap
use Rattle.c_tree.specs.declared.tree.COp.TheVariants as op
use Rattle.c_tree.specs.Tree as tree
use Rattle.wasm_meaning.specs.Store as store
use Rattle.wasm_meaning.specs.Execution as exec
use Rattle.c_meaning.specs.State as state
use Rattle.body_meaning.proofs.Before.{arrives_by, ends_by, spends}
use Rattle.alike.proofs.Placed.{placed_back}
use Rattle.body_meaning.proofs.Slots.{SlotIsSet}
use Rattle.body_meaning.proofs.Jumps.{way_by, goes_to, if_passes, if_goes, eq_more, ne_more, TargetAt, target_at, straight, Lands, lands}
use Rattle.body_meaning.proofs.Jumps.{branches, branches_at_once}
use Rattle.body_meaning.proofs.Vars.{stands_below}
use Rattle.body_meaning.proofs.Gives.{slot_value}
use Rattle.body_meaning.proofs.Operands.{reversed}

-- a label's value under a condition
under_condition : (t : Option ValType) {types : Stack} (more : Stack) → types ≡ reverse (values t ++ type.I32 ∷ []) ++ more
    → types ≡ type.I32 ∷ (values t ++ more)
under_condition None more e = e
under_condition (Some t) more e = e

-- a label's value is its target's
of_target : {t : Option ValType} (x : Target) {types : Stack} (more : Stack) → x.aim.value ≡ t → types ≡ values t ++ more
    → types ≡ values x.aim.value ++ more
of_target x more value_is e = e ∙ ap (λ o. values o ++ more) (sym value_is)

-- ---- br

pub br_follows : {g : Site} → SlotIsSet g → (calls : exec.Calls) (label : ℕ) (ts : List Target) (exit : Target)
    (base stack : List Value) (l n : ℕ) (rest : List tree.Stmt) (outs : Stack) {now : store.State} {m : state.Machine} {vars : state.Vars}
    → KindHasType g.setting.context (map (λ t. t.aim.value) ts) (Br label) (types_of stack) outs
    → AreTargets g base (λ k. targets_in k (Br label)) 0 ts → StandsAt g (stack ++ base) now m vars
    → Follows g 0 ts exit base rest outs (at g m (emit_kind g.setting (aims_of ts) (types_of (stack ++ base)) l (Br label) ++ rest) vars) n
    (exec.exec_kind g.linked calls g.unit (Br label) n stack now)
br_follows {g} set calls label ts exit base stack l n rest outs {now} {m} {vars} typed all s =
    let x = target_at g base ts (λ k. label == k) label all typed.1 in
    let types = types_of (stack ++ base) in
    let fits = of_target x.target typed.2.0 x.value_is (typed.2.1 ∙ ap (λ xs. xs ++ typed.2.0) (reversed typed.0)) in
    let from = at g m (jump x.target.aim types ++ rest) vars in
    subst (λ o. Follows g 0 ts exit base rest outs (at g m (if_aim o (λ aim. jump aim types) ++ rest) vars) n
    (exec.spend n now (λ left. exec.Branch label left stack now))) (sym x.at_it) (spends g 0 ts exit base (jump x.target.aim types ++ rest)
    rest outs m vars n now (λ left. exec.Branch label left stack now) (λ left. x.branch from (suc left) left stack now
    (branches left (stays g.program from) (omega arith) (lands set stack typed.2.0 rest x.is (x.found (eq-eqb label label refl)) fits s))))

-- ---- br_if

abbrev branch_by : Bool → Stack → ℕ → Aim → List tree.Stmt
branch_by b types l aim =
    if b then jump_if op.Ne (length types) aim.label ∷ []
    else jump_if op.Eq (length types) l ∷ (jump aim types ++ tree.Label (label_name l) ∷ [])

-- the condition holds
br_if_taken : {g : Site} → SlotIsSet g → {base : List Value} (stack : List Value) {x : Target} (more : Stack) (l left c : ℕ)
    (rest : List tree.Stmt) {now : store.State} {m : state.Machine} {vars : state.Vars} → IsTarget g base x
    → after_label (label_name x.aim.label) g.body.stmts ≡ Some x.rest → types_of stack ≡ values x.aim.value ++ more
    → StandsAt g (I32 (suc c) ∷ (stack ++ base)) now m vars → (b : Bool) → is_straight x.aim (types_of (stack ++ base)) ≡ b
    → Branches g 0 x (at g m (branch_by b (types_of (stack ++ base)) l x.aim ++ rest) vars) (suc left) left stack now
br_if_taken {g} set {base} stack {x} more l left c rest {now} {m} {vars} is found fits s true straight_is =
    let types = types_of (stack ++ base) in
    let under = stands_below (I32 (suc c) ∷ []) (stack ++ base) s in
    branches_at_once left (if_goes g m vars op.Ne (length types) (suc c) x.aim.label rest s.variables.stacked.0 (ne_more c) found)
    (straight g base x stack more now m vars is fits straight_is under)
br_if_taken {g} set {base} stack {x} more l left c rest {now} {m} {vars} is found fits s false straight_is =
    let types = types_of (stack ++ base) in
    let under = stands_below (I32 (suc c) ∷ []) (stack ++ base) s in
    let tail = tree.Label (label_name l) ∷ [] in
    let code = (jump x.aim types ++ tail) ++ rest in
    let land = lands set stack more (tail ++ rest) is found fits under in
    let here : Lands g x (at g m code vars) stack now = subst (λ xs. Lands g x (at g m xs vars) stack now)
    (sym (append_assoc (jump x.aim types) tail rest)) land in
    branches left (if_passes g m vars op.Eq (length types) (suc c) l code s.variables.stacked.0 (eq_more c)) (omega arith) here

-- it does not hold
br_if_left : {g : Site} (base stack : List Value) (aim : Aim) (l left : ℕ) (rest : List tree.Stmt) {now : store.State} {m : state.Machine}
    {vars : state.Vars} → StandsAt g (I32 0 ∷ (stack ++ base)) now m vars → (b : Bool)
    → IsPlaced g.body.stmts (branch_by b (types_of (stack ++ base)) l aim) rest
    → Reaches g.program 1 (at g m (branch_by b (types_of (stack ++ base)) l aim ++ rest) vars) (at g m rest vars)
br_if_left {g} base stack aim l left rest {m} {vars} s true placed =
    if_passes g m vars op.Ne (length (types_of (stack ++ base))) 0 aim.label rest s.variables.stacked.0 refl
br_if_left {g} base stack aim l left rest {m} {vars} s false placed =
    let types = types_of (stack ++ base) in
    let tail = tree.Label (label_name l) ∷ [] in
    if_goes g m vars op.Eq (length types)
    0 l ((jump aim types ++ tail) ++ rest) s.variables.stacked.0 refl (placed_back g.body.stmts (jump aim types) tail rest placed).0

br_if_so : {g : Site} → SlotIsSet g → {label : ℕ} {ts : List Target} (exit : Target) {base : List Value}
    (stack : List Value) (l left : ℕ) (rest : List tree.Stmt) {outs : Stack} {now : store.State} {m : state.Machine} {vars : state.Vars}
    → {t : Option ValType} (more : Stack) → (x : TargetAt g base ts (λ k. label == k) label t)
    → types_of stack ≡ reverse (values t ++ type.I32 ∷ []) ++ more → outs ≡ reverse (values t) ++ more
    → (code : List tree.Stmt) → code ≡ if_aim (slice_get (aims_of ts) label)
    (λ aim. branch_by (is_straight aim (drop 1 (types_of (stack ++ base)))) (drop 1 (types_of (stack ++ base))) l aim)
    → IsPlaced g.body.stmts code rest → StandsAt g (stack ++ base) now m vars
    → Follows g 0 ts exit base rest outs (at g m (code ++ rest) vars) (suc left)
    (exec.choose stack now (λ under. exec.Branch label left under now) (λ under. exec.Normal left under now))
br_if_so set exit [] l left rest {t} more x e outs_are code code_is placed s = absurd (grind (arith, under_condition t more e))
br_if_so set exit (I64 c ∷ stack) l left rest {t} more x e outs_are code code_is placed s = absurd (grind (arith, under_condition t more e))
br_if_so {g} set exit {base} (I32 zero ∷ stack) l left rest {m} {vars} {t} more x e outs_are code code_is placed s =
    let types = types_of (stack ++ base) in
    let aim = x.target.aim in
    let b = is_straight aim types in
    let same : code ≡ branch_by b types l aim = code_is ∙ ap (λ o. if_aim o (λ a. branch_by (is_straight a types) types l a)) x.at_it in
    let fits : types_of stack ≡ values t ++ more = grind (arith, under_condition t more e) in
    let way = br_if_left base stack aim l left rest s b (subst (λ xs. IsPlaced g.body.stmts xs rest) same placed) in (
      fits ∙ sym (outs_are ∙ ap (λ xs. xs ++ more) (reversed t)),
      [],
      arrives_by (stands_below (I32 0 ∷ []) (stack ++ base) s)
          (subst (λ xs. Reaches g.program 1 (at g m (xs ++ rest) vars) (at g m rest vars)) (sym same) way)
          (record { least = omega arith; most = omega arith }),
    )
br_if_so {g} set {label} exit {base} (I32 (suc c) ∷ stack) l left rest {now} {m} {vars} {t} more x e outs_are code code_is placed s =
    let types = types_of (stack ++ base) in
    let aim = x.target.aim in
    let b = is_straight aim types in
    let same : code ≡ branch_by b types l aim = code_is ∙ ap (λ o. if_aim o (λ a. branch_by (is_straight a types) types l a)) x.at_it in
    let fits : types_of stack ≡ values t ++ more = grind (arith, under_condition t more e) in
    x.branch (at g m (code ++ rest) vars)
    (suc left) left stack now (subst (λ xs. Branches g 0 x.target (at g m (xs ++ rest) vars) (suc left) left stack now) (sym same)
    (br_if_taken set stack more l left c rest x.is (x.found (eq-eqb label label refl)) (of_target x.target more x.value_is fits) s b refl))

pub br_if_follows : {g : Site} → SlotIsSet g → (calls : exec.Calls) (label : ℕ) (ts : List Target) (exit : Target)
    (base stack : List Value) (l n : ℕ) (rest : List tree.Stmt) (outs : Stack) {now : store.State} {m : state.Machine} {vars : state.Vars}
    → KindHasType g.setting.context (map (λ t. t.aim.value) ts) (BrIf label) (types_of stack) outs
    → AreTargets g base (λ k. targets_in k (BrIf label)) 0 ts
    → IsPlaced g.body.stmts (emit_kind g.setting (aims_of ts) (types_of (stack ++ base)) l (BrIf label)) rest
    → StandsAt g (stack ++ base) now m vars
    → Follows g 0 ts exit base rest outs (at g m (emit_kind g.setting (aims_of ts) (types_of (stack ++ base)) l (BrIf label) ++ rest) vars)
    n (exec.exec_kind g.linked calls g.unit (BrIf label) n stack now)
br_if_follows {g} set calls label ts exit base stack l n rest outs {now} {m} {vars} typed all placed s =
    let x = target_at g base ts (λ k. label == k) label all typed.1 in
    let code = emit_kind g.setting (aims_of ts) (types_of (stack ++ base)) l (BrIf label) in
    spends g 0 ts exit base (code ++ rest) rest outs m vars n now (λ left. exec.choose stack now (λ under. exec.Branch label left under now)
    (λ under. exec.Normal left under now)) (λ left. br_if_so set exit stack l left rest typed.2.0 x typed.2.1 typed.2.2 code refl placed s)

-- ---- br_table

-- the case that a number takes
record CaseTaken (aims : List Aim) (types : Stack) (i l : ℕ) (cases : List tree.Case) (default : state.Name) (all : List ℕ)
    (k : ℕ) : Type 0 where
  arm : ℕ
  label_is : label_of (I32 i) cases default ≡ case_label types (arm + l) (slice_get aims k)
  at_it : slice_get all arm ≡ Some k

case_taken : (aims : List Aim) (types : Stack) (i first x l : ℕ) (labels : List ℕ) (default : ℕ) → i ≡ first + x
    → CaseTaken aims types i l (cases_from aims types first l labels) (case_label types (length labels + l) (slice_get aims default))
    (labels ++ default ∷ []) (unwrap_or (slice_get labels x) default)
case_taken aims types i first x l [] default e = record { arm = 0; label_is = refl; at_it = refl }
case_taken aims types i first zero l (k ∷ labels) default e =
    let same : nat_eq i first ≡ true = eq-eqb i first (omega (arith, e)) in
    let place : l ≡ 0 + l = omega arith in
    record { arm = 0; label_is = rw same (ap (λ j. case_label types j (slice_get aims k)) place); at_it = refl }
case_taken aims types i first (suc x) l (k ∷ labels) default e =
    let c = case_taken aims types i (suc first) x (suc l) labels default (omega (arith, e)) in
    let other : nat_eq i first ≡ false = ne_eqb i first (λ h. omega (arith, e, h)) in
    let place : length labels + suc l ≡ suc (length labels) + l = omega arith in
    let place_of_arm : c.arm + suc l ≡ suc c.arm + l = omega arith in
    let cases = cases_from aims types (suc first) (suc l) labels in
    let chosen = unwrap_or (slice_get labels x) default in
    let label_is : label_of (I32 i) cases (case_label types (suc (length labels) + l) (slice_get aims default))
    ≡ case_label types (suc c.arm + l) (slice_get aims chosen) =
    subst (λ j. label_of (I32 i) cases (case_label types j (slice_get aims default))
    ≡ case_label types (suc c.arm + l) (slice_get aims chosen)) place
    (c.label_is ∙ ap (λ j. case_label types j (slice_get aims chosen)) place_of_arm) in
    record { arm = suc c.arm; label_is = rw other label_is; at_it = c.at_it }

-- a case that moves a value is found by its label
moving_at : (body : List tree.Stmt) (aims : List Aim) (types : Stack) (l : ℕ) (ks : List ℕ) (rest : List tree.Stmt) (j : ℕ) {k : ℕ}
    {aim : Aim} → slice_get ks j ≡ Some k → slice_get aims k ≡ Some aim → is_straight aim types ≡ false
    → IsPlaced body (moving_cases aims types l ks) rest
    → (behind : List tree.Stmt) × (after_label (label_name (j + l)) body ≡ Some (jump aim types ++ behind))
moving_at body aims types l [] rest j e at_it straight_is placed = absurd (grind (arith, e))
moving_at body aims types l (x ∷ ks) rest zero {k} {aim} e at_it straight_is placed =
    let same : x ≡ k = grind (arith, e) in
    let others = moving_cases aims types (suc l) ks in
    let here : IsPlaced body (if_aim (Some aim) (moving_case types l) ++ others) rest =
    subst (λ o. IsPlaced body (if_aim o (moving_case types l) ++ others) rest) (ap (slice_get aims) same ∙ at_it) placed in
    let there : IsPlaced body ((tree.Label (label_name l) ∷ jump aim types) ++ others) rest =
    subst (λ b. IsPlaced body ((if b then [] else tree.Label (label_name l) ∷ jump aim types) ++ others) rest) straight_is here in
    let place : l ≡ 0 + l = omega arith in (
      others ++ rest,
      subst (λ i. after_label (label_name i) body ≡ Some (jump aim types ++ (others ++ rest))) place
          (there.0 ∙ ap Some (append_assoc (jump aim types) others rest)),
    )
moving_at body aims types l (x ∷ ks) rest (suc j) {aim} e at_it straight_is placed =
    let m = moving_at body aims types (suc l) ks rest j e at_it
    straight_is (placed_back body (if_aim (slice_get aims x) (moving_case types l)) (moving_cases aims types (suc l) ks) rest placed) in
    let place : j + suc l ≡ suc j + l = omega arith in
    (m.0, subst (λ i. after_label (label_name i) body ≡ Some (jump aim types ++ m.0)) place m.1)

switch_reaches : (g : Site) (m : state.Machine) (vars : state.Vars) (h i : ℕ) (cases : List tree.Case)
    (default : state.Name) (rest : List tree.Stmt) {to : List tree.Stmt} → named (slot type.I32 h) vars ≡ Some (state.Number (I32 i))
    → after_label (label_of (I32 i) cases default) g.body.stmts ≡ Some to
    → Reaches g.program 1 (at g m (tree.Switch (operand type.I32 h) cases default ∷ rest) vars) (at g m to vars)
switch_reaches g m vars h i cases default rest is found =
    let code : List tree.Stmt = tree.Switch (operand type.I32 h) cases default ∷ rest in
    let r = (state_at g m code vars).running in
    way_by g m code vars (ap (λ x. with_value m (place_of r rest) (number_in x) (λ v. goto m r (label_of v cases default) g.below))
    (slot_value m (state_at g m code vars).running type.I32 h is) ∙ goes_to g m code vars (label_of (I32 i) cases default) found)

-- the label that is taken is one of the table's
chosen_type : (labels : List (Option ValType)) (ks : List ℕ) (d i : ℕ) {t : Option ValType} → slice_get labels d ≡ Some t
    → AllByRecursion (λ k. slice_get labels k ≡ Some t) ks → slice_get labels (unwrap_or (slice_get ks i) d) ≡ Some t
chosen_type labels [] d i default others = default
chosen_type labels (k ∷ ks) d zero default others = others.0
chosen_type labels (k ∷ ks) d (suc i) default others = chosen_type labels ks d i default others.1

chosen_named : (ks : List ℕ) (d i : ℕ) → (list_any (λ label. label == unwrap_or (slice_get ks i) d) ks ||
    (d == unwrap_or (slice_get ks i) d)) ≡ true
chosen_named [] d i = eq-eqb d d refl
chosen_named (k ∷ ks) d zero = rw (eq-eqb k k refl) refl
chosen_named (k ∷ ks) d (suc i) = go (k == unwrap_or (slice_get ks i) d) (chosen_named ks d i)
  where
    go : (b : Bool) → (list_any (λ label. label == unwrap_or (slice_get ks i) d) ks || (d == unwrap_or (slice_get ks i) d)) ≡ true
        → ((b || list_any (λ label. label == unwrap_or (slice_get ks i) d) ks) || (d == unwrap_or (slice_get ks i) d)) ≡ true
    go true e = refl
    go false e = e

table_goes : {g : Site} → SlotIsSet g → {base : List Value} (stack : List Value) {x : Target} (more : Stack) (left i : ℕ)
    (cases : List tree.Case) (default : state.Name) (rest : List tree.Stmt) {now : store.State} {m : state.Machine} {vars : state.Vars}
    → IsTarget g base x → after_label (label_name x.aim.label) g.body.stmts ≡ Some x.rest → types_of stack ≡ values x.aim.value ++ more
    → StandsAt g (I32 i ∷ (stack ++ base)) now m vars → (l : ℕ)
    → label_of (I32 i) cases default ≡ case_label (types_of (stack ++ base)) l (Some x.aim)
    → (is_straight x.aim (types_of (stack ++ base)) ≡ false → (behind : List tree.Stmt) ×
    (after_label (label_name l) g.body.stmts ≡ Some (jump x.aim (types_of (stack ++ base)) ++ behind)))
    → (b : Bool) → is_straight x.aim (types_of (stack ++ base)) ≡ b
    → Branches g 0 x (at g m (tree.Switch (operand type.I32 (length (types_of (stack ++ base)))) cases default ∷ rest) vars)
    (suc left) left stack now
table_goes {g} set {base} stack {x} more left i cases default rest {now} {m} {vars} is found fits s l label_is moving true straight_is =
    let types = types_of (stack ++ base) in
    let under = stands_below (I32 i ∷ []) (stack ++ base) s in
    let label_there : label_of (I32 i) cases default ≡ label_name x.aim.label = label_is
    ∙ ap (λ b. if b then label_name x.aim.label else label_name l) straight_is in
    branches_at_once left (switch_reaches g m vars (length types) i cases default rest s.variables.stacked.0
    (ap (λ name. after_label name g.body.stmts) label_there ∙ found)) (straight g base x stack more now m vars is fits straight_is under)
table_goes {g} set {base} stack {x} more left i cases default rest {m} {vars} is found fits s l label_is moving false straight_is =
    let types = types_of (stack ++ base) in
    let under = stands_below (I32 i ∷ []) (stack ++ base) s in
    let label_there : label_of (I32 i) cases default ≡ label_name l = label_is
    ∙ ap (λ b. if b then label_name x.aim.label else label_name l) straight_is in
    let to = moving straight_is in
    branches left (switch_reaches g m vars (length types) i cases default rest s.variables.stacked.0
    (ap (λ name. after_label name g.body.stmts) label_there ∙ to.1)) (omega arith) (lands set stack more to.0 is found fits under)

br_table_so : {g : Site} → SlotIsSet g → (labels : List ℕ) (default : ℕ) (ts : List Target) (exit : Target) (base stack : List Value)
    (l left : ℕ) (rest : List tree.Stmt) (outs : Stack) {now : store.State} {m : state.Machine} {vars : state.Vars}
    → KindHasType g.setting.context (map (λ t. t.aim.value) ts) (BrTable labels default) (types_of stack) outs
    → AreTargets g base (λ k. targets_in k (BrTable labels default)) 0 ts
    → IsPlaced g.body.stmts (branch_table (aims_of ts) (drop 1 (types_of (stack ++ base))) l labels default) rest
    → StandsAt g (stack ++ base) now m vars → Follows g 0 ts exit base rest outs (at g m
    (branch_table (aims_of ts) (drop 1 (types_of (stack ++ base))) l labels default ++ rest) vars) (suc left)
    (exec.pick stack now labels default (λ k under. exec.Branch k left under now))
br_table_so set labels default ts exit base [] l left rest outs typed all placed s =
    absurd (grind (arith, under_condition typed.0 typed.3.0 typed.3.1))
br_table_so set labels default ts exit base (I64 c ∷ stack) l left rest outs typed all placed s =
    absurd (grind (arith, under_condition typed.0 typed.3.0 typed.3.1))
br_table_so {g} set labels default ts exit base (I32 i ∷ stack) l left rest outs {now} {m} {vars} typed all placed s =
    let types = types_of (stack ++ base) in
    let aims = aims_of ts in
    let k = unwrap_or (slice_get labels i) default in
    let x = target_at g base ts _ k all (chosen_type _ labels default i typed.1 typed.2) in
    let fits : types_of stack ≡ values typed.0 ++ typed.3.0 = grind (arith, under_condition typed.0 typed.3.0 typed.3.1) in
    let c = case_taken aims types i 0 i l labels default (omega arith) in
    let cases = cases_from aims types 0 l labels in
    let other = case_label types (length labels + l) (slice_get aims default) in
    let moves = moving_cases aims types l (labels ++ default ∷ []) in
    x.branch (at g m (tree.Switch (operand type.I32 (length types)) cases other ∷ (moves ++ rest)) vars)
    (suc left) left stack now (table_goes set stack typed.3.0 left i cases other _ x.is (x.found (chosen_named labels default i))
    (of_target x.target typed.3.0 x.value_is fits) s _ (c.label_is ∙ ap (case_label types (c.arm + l)) x.at_it)
    (λ straight_is. moving_at g.body.stmts aims types l (labels ++ default ∷ []) rest c.arm c.at_it x.at_it straight_is placed) _ refl)

pub br_table_follows : {g : Site} → SlotIsSet g → (calls : exec.Calls) (labels : List ℕ) (default : ℕ) (ts : List Target) (exit : Target)
    (base stack : List Value) (l n : ℕ) (rest : List tree.Stmt) (outs : Stack) {now : store.State} {m : state.Machine} {vars : state.Vars}
    → KindHasType g.setting.context (map (λ t. t.aim.value) ts) (BrTable labels default) (types_of stack) outs
    → AreTargets g base (λ k. targets_in k (BrTable labels default)) 0 ts
    → IsPlaced g.body.stmts (emit_kind g.setting (aims_of ts) (types_of (stack ++ base)) l (BrTable labels default)) rest
    → StandsAt g (stack ++ base) now m vars → Follows g 0 ts exit base rest outs (at g m
    (emit_kind g.setting (aims_of ts) (types_of (stack ++ base)) l (BrTable labels default) ++ rest) vars) n
    (exec.exec_kind g.linked calls g.unit (BrTable labels default) n stack now)
br_table_follows {g} set calls labels default ts exit base stack l n rest outs {now} {m} {vars} typed all placed s =
    spends g 0
    ts exit base _ rest outs m vars n now _ (λ left. br_table_so set labels default ts exit base stack l left rest outs typed all placed s)

-- ---- return and unreachable

pub return_follows : {g : Site} → SlotIsSet g → (calls : exec.Calls) (ts : List Target) {exit : Target} {base : List Value}
    (stack : List Value) (l n : ℕ) (rest : List tree.Stmt) (outs : Stack) {now : store.State} {m : state.Machine} {vars : state.Vars}
    → KindHasType g.setting.context (map (λ t. t.aim.value) ts) Return (types_of stack) outs → IsExit g base true exit
    → StandsAt g (stack ++ base) now m vars
    → Follows g 0 ts exit base rest outs (at g m (emit_kind g.setting (aims_of ts) (types_of (stack ++ base)) l Return ++ rest) vars) n
    (exec.exec_kind g.linked calls g.unit Return n stack now)
return_follows {g} set calls ts {exit} {base} stack l n rest outs {now} {m} {vars} typed is s =
    let types = types_of (stack ++ base) in
    let result = g.setting.context.result in
    let fits = of_target exit typed.0 (ap (λ aim. aim.value) is.aim_is) (typed.1 ∙ ap (λ xs. xs ++ typed.0) (reversed result)) in
    let from : Aim → Progress = λ aim. at g m (jump aim types ++ rest) vars in
    spends g 0 ts exit base _ rest outs m vars n now _ (λ left. subst (λ aim. Branches g 0 exit (from aim) (suc left) left stack now)
    is.aim_is (branches left (stays g.program _) (omega arith) (lands set stack typed.0 rest is.target (is.found refl) fits s)))

pub unreachable_follows : {g : Site} (calls : exec.Calls) (ts : List Target) (exit : Target)
    (base stack : List Value) (l n : ℕ) (rest : List tree.Stmt) (outs : Stack) {now : store.State} {m : state.Machine} {vars : state.Vars}
    → StandsAt g (stack ++ base) now m vars
    → Follows g 0 ts exit base rest outs (at g m (emit_kind g.setting (aims_of ts) (types_of (stack ++ base)) l Unreachable ++ rest) vars) n
    (exec.exec_kind g.linked calls g.unit Unreachable n stack now)
unreachable_follows {g} calls ts exit base stack l n rest outs {now} {m} {vars} s =
    spends g 0 ts exit base _ rest outs m vars n now _ (λ left.
    ends_by m (state.Trapped trap.Unreachable) refl s.together.agrees (step g.program g.pending _) (omega arith))
