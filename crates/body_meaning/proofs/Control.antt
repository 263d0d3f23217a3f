-- Code is followed by its statements: one induction over code, for every budget.
use Rattle.body_meaning.proofs.Common.{◌≡◌, ℕ, zero, suc, ◌+◌, ◌^◌, ◌<◌, ◌≤◌, Bool, true, false, not, ◌&&◌, ◌||◌, List, [], ◌∷◌, ◌++◌, map}
use Rattle.body_meaning.proofs.Common.{reverse, length, if◌then◌else◌, Some, None, Option, sym, refl, ap, ◌∙◌, subst, true≢false, arith, Br}
use Rattle.body_meaning.proofs.Common.{append_assoc, eq-eqb, or_parts, or_right, type_equals_itself, types_of, ValType, Value, I32, Block}
use Rattle.body_meaning.proofs.Common.{BrIf, BrTable, Call, CallIndirect, Code, If, Kind, Loop, Return, Unreachable, else_code, end_code}
use Rattle.body_meaning.proofs.Common.{no_else, then_code, has_wide, Context, Labels, HasType, KindHasType, Stack, values, join, stays, Aim}
use Rattle.body_meaning.proofs.Common.{Reaches, Progress, after_label, is_return, behind, emit, emit_kind, jump_over, label_if, Arrives, at}
use Rattle.body_meaning.proofs.Common.{Follows, Site, StandsAt, Target, labelled, any_in, any_inside, falls, labels_in, labels_of, IsExit}
use Rattle.body_meaning.proofs.Common.{targets_else, targets_in, label_name, AllCodeFollows, AreTargets, IndirectCallsFollow, IsPlaced}
use Rattle.body_meaning.proofs.Common.{IsThere, KindFollows, aims_of, is_plain, jump_if, after, ends, occurs, occurs_in, stands, IsHere}
use Rattle.w2c_base.specs.declared.value.Value.TheVariants.{I64}
use Rattle.c_tree.specs.declared.tree.COp.TheVariants as op
use Rattle.c_tree.specs.Tree as tree
use Rattle.wasm_meaning.specs.Store as store
use Rattle.wasm_meaning.specs.Execution as exec
use Rattle.c_meaning.specs.State as state
use Rattle.body_definition.specs.Labels.{targets as branches_to}
use Rattle.body_definition.proofs.Heights.{after_typed, stands_occurs}
use Rattle.body_meaning.proofs.Slots.{SlotIsSet, slots_are_set}
use Rattle.body_meaning.proofs.Plain.{plain_kinds_follow}
use Rattle.body_meaning.proofs.Calls.{calls_in_code_follow}
use Rattle.body_meaning.proofs.Past.{past_way}
use Rattle.body_meaning.proofs.Before.{before, with_spare, follows_past, sequel, spends, arrives_over, target_by, outs_over, leaves}
use Rattle.body_meaning.proofs.Before.{arrives_by, turns_follow}
use Rattle.alike.proofs.Placed.{placed_front, placed_back}
use Rattle.body_meaning.proofs.Placed.{label_found, last_label_found}
use Rattle.body_meaning.proofs.Jumps.{goto_reaches, if_passes, if_goes, eq_more, target_over, targets_over, targets_unshift}
use Rattle.body_meaning.proofs.Branching.{br_follows, br_if_follows, br_table_follows, return_follows, unreachable_follows}
use Rattle.body_meaning.proofs.Operands.{types_append, reversed}
use Rattle.body_meaning.proofs.Vars.{stands_below}

-- the other instructions of a function that runs
pub record Others (g : Site) (calls : exec.Calls) : Type 0 where
  pub set : SlotIsSet g
  pub plain : (kind : Kind) → IsThere g (λ test. test kind) → is_plain kind ≡ true → KindFollows g calls kind
  pub call : (index : ℕ) → KindFollows g calls (Call index)
  pub call_indirect : (type_index : ℕ) → IsThere g (λ test. test (CallIndirect type_index)) → KindFollows g calls (CallIndirect type_index)

-- ---- what does not go on

abbrev NotNormal : exec.Result → Type 0
NotNormal (exec.Normal left stack now) = ⊥
NotNormal _ = Unit {0}

ends_so : (g : Site) (calls : exec.Calls) (kind : Kind) (n : ℕ) (stack : List Value) (now : store.State) → ends kind ≡ true
    → NotNormal (exec.exec_kind g.linked calls g.unit kind n stack now)
ends_so g calls Unreachable zero stack now e = tt
ends_so g calls Unreachable (suc n) stack now e = tt
ends_so g calls (Br label) zero stack now e = tt
ends_so g calls (Br label) (suc n) stack now e = tt
ends_so g calls (BrTable labels default) zero stack now e = tt
ends_so g calls (BrTable labels default) (suc n) [] now e = tt
ends_so g calls (BrTable labels default) (suc n) (I32 i ∷ stack) now e = tt
ends_so g calls (BrTable labels default) (suc n) (I64 i ∷ stack) now e = tt
ends_so g calls Return zero stack now e = tt
ends_so g calls Return (suc n) stack now e = tt
ends_so g calls _ n stack now e = absurd cc

never_then : (r : exec.Result) (go : ℕ → List Value → store.State → exec.Result) → NotNormal r → NotNormal (exec.and_then r go)
never_then (exec.Normal left stack now) go never = absurd never
never_then _ go never = tt

then_never : (r : exec.Result) (go : ℕ → List Value → store.State → exec.Result)
    → ((left : ℕ) (stack : List Value) (now : store.State) → NotNormal (go left stack now)) → NotNormal (exec.and_then r go)
then_never (exec.Normal left stack now) go never = never left stack now
then_never _ go never = tt

-- code whose end is not translated does not come to its end
falls_not : (g : Site) (calls : exec.Calls) (code : Code) (n : ℕ) (stack : List Value) (now : store.State) → falls code ≡ false
    → NotNormal (exec.exec g.linked calls g.unit code n stack now)
falls_not g calls end_code n stack now e = absurd cc
falls_not g calls (then_code place kind code) n stack now e = go (falls_not g calls code) (ends kind) refl
  where
    go : ((n : ℕ) (stack : List Value) (now : store.State) → falls code ≡ false
        → NotNormal (exec.exec g.linked calls g.unit code n stack now))
        → (b : Bool) → ends kind ≡ b → NotNormal (exec.exec g.linked calls g.unit (then_code place kind code) n stack now)
    go more true is = never_then _ _ (ends_so g calls kind n stack now is)
    go more false is = then_never _ _ (λ left stack' now'. more left stack' now' (subst (λ b. (not b && falls code) ≡ false) is e))

-- ---- an instruction and the code behind it

last : (g : Site) (ts : List Target) (exit : Target) (base : List Value) (middle rest : List tree.Stmt) (mids outs : Stack)
    (from : Progress) (n : ℕ) (r : exec.Result) (go : ℕ → List Value → store.State → exec.Result)
    → NotNormal r → Follows g 0 ts exit base middle mids from n r → Follows g 0 ts exit base rest outs from n (exec.and_then r go)
last g ts exit base middle rest mids outs from n (exec.Normal left stack now) go never h = absurd never
last g ts exit base middle rest mids outs from n _ go never h = h

chain : (g : Site) (ts : List Target) (exit : Target) (base : List Value) (first second rest : List tree.Stmt) (mids outs : Stack) (n : ℕ)
    (m : state.Machine) (vars : state.Vars) (r : exec.Result) (go : ℕ → List Value → store.State → exec.Result)
    → (b : Bool) → (b ≡ true → NotNormal r) → IsPlaced g.body.stmts (first ++ behind b second) rest
    → ((middle : List tree.Stmt) → IsPlaced g.body.stmts first middle
    → Follows g 0 ts exit base middle mids (at g m (first ++ middle) vars) n r)
    → (b ≡ false → (left : ℕ) (stack : List Value) (now : store.State) (m : state.Machine) (vars : state.Vars) → types_of stack ≡ mids
    → StandsAt g (stack ++ base) now m vars → IsPlaced g.body.stmts second rest
    → Follows g 0 ts exit base rest outs (at g m (second ++ rest) vars) left (go left stack now))
    → Follows g 0 ts exit base rest outs (at g m ((first ++ behind b second) ++ rest) vars) n (exec.and_then r go)
chain g ts exit base first second rest mids outs n m vars r go true never placed here there =
    subst (λ xs. Follows g 0 ts exit base rest outs (at g m xs vars) n (exec.and_then r go)) (sym (append_assoc first [] rest))
    (last g ts exit base rest rest mids outs _ n r go (never refl) (here rest (placed_front g.body.stmts first [] rest placed)))
chain g ts exit base first second rest mids outs n m vars r go false never placed here there =
    let placed_there = placed_back g.body.stmts first second rest placed in
    subst (λ xs. Follows g 0 ts exit base rest outs (at g m xs vars) n (exec.and_then r go)) (sym (append_assoc first second rest))
    (sequel g ts exit base _ rest mids outs _ n r go (here (second ++ rest) (placed_front g.body.stmts first second rest placed))
    (λ left stack now m' vars' e s. there refl left stack now m' vars' e s placed_there))

-- the types that code is translated over are those of the operands
retyped : (g : Site) (ts : List Target) (exit : Target) (base stack : List Value)
    {types : Stack} (l n : ℕ) (rest : List tree.Stmt) (outs : Stack) (m : state.Machine) (vars : state.Vars) (code : Code) (r : exec.Result)
    → types ≡ types_of (stack ++ base)
    → ((t : ValType) (height : ℕ) → occurs t height g.setting.context types code ≡ true → g.slots t height ≡ true)
    → IsPlaced g.body.stmts (emit g.setting (aims_of ts) types l code) rest
    → (((t : ValType) (height : ℕ) → occurs t height g.setting.context (types_of (stack ++ base)) code ≡ true → g.slots t height ≡ true)
    → IsPlaced g.body.stmts (emit g.setting (aims_of ts) (types_of (stack ++ base)) l code) rest
    → Follows g 0 ts exit base rest outs (at g m (emit g.setting (aims_of ts) (types_of (stack ++ base)) l code ++ rest) vars) n r)
    → Follows g 0 ts exit base rest outs (at g m (emit g.setting (aims_of ts) types l code ++ rest) vars) n r
retyped g ts exit base stack l n rest outs m vars code r e slots placed h =
    subst (λ xs. Follows g 0 ts exit base rest outs (at g m (emit g.setting (aims_of ts) xs l code ++ rest) vars) n r)
    (sym e) (h (λ t height is. slots t height (subst (λ xs. occurs t height g.setting.context xs code ≡ true) (sym e) is))
    (subst (λ xs. IsPlaced g.body.stmts (emit g.setting (aims_of ts) xs l code) rest) e placed))

-- the types behind an instruction
types_behind : (c : Context) (labels : Labels) (kind : Kind) {mids : Stack} (stack stack' base : List Value)
    → KindHasType c labels kind (types_of stack) mids → ends kind ≡ false → types_of stack' ≡ mids
    → after c (types_of (stack ++ base)) kind ≡ types_of (stack' ++ base)
types_behind c labels kind {mids} stack stack' base typed goes e = ap (λ xs. after c xs kind) (types_append stack base)
    ∙ (after_typed c labels kind (types_of stack) mids (types_of base) typed goes
    ∙ sym (types_append stack' base ∙ ap (λ xs. xs ++ types_of base) e))

occurs_behind : (t : ValType) (height : ℕ) (c : Context) (types : Stack) (place : ℕ) (kind : Kind) (code : Code) → ends kind ≡ false
    → occurs t height c (after c types kind) code ≡ true → occurs t height c types (then_code place kind code) ≡ true
occurs_behind t height c types place kind code goes e = rw (goes, e, or_right (occurs_in t height c types kind) true refl)
    (or_right (stands t height types) true refl)

-- ---- what is handed down

-- What holds of code, or of an instruction, by what tests find in it and which targets it names: these are found, and so
-- is the exit where it returns; what it calls is there; and it has no wide number.
record Inside (g : Site) (base : List Value) (ts : List Target) (exit : Target) (finds : (Kind → Bool) → Bool)
    (names : ℕ → Bool) : Type 0 where
  targets : AreTargets g base names 0 ts
  is_exit : IsExit g base (finds is_return) exit
  there : IsThere g finds
  narrow : finds has_wide ≡ false

there_less : {g : Site} {finds : (Kind → Bool) → Bool} (fewer : (Kind → Bool) → Bool)
    → ((test : Kind → Bool) → fewer test ≡ true → finds test ≡ true) → IsThere g finds → IsThere g fewer
there_less fewer less h = record { helpers = λ which is. h.helpers which (less _ is); element = λ is. h.element (less _ is) }

false_too : {a : Bool} (b : Bool) → (b ≡ true → a ≡ true) → a ≡ false → b ≡ false
false_too true less e = absurd (true≢false (sym (less refl) ∙ e))
false_too false less e = refl

-- a part of it, over more operands
part : {g : Site} (stack : List Value) {base : List Value} {ts : List Target} {exit : Target} {finds : (Kind → Bool) → Bool}
    (fewer : (Kind → Bool) → Bool) {names : ℕ → Bool} (some : ℕ → Bool) → ((test : Kind → Bool) → fewer test ≡ true → finds test ≡ true)
    → ((k : ℕ) → some k ≡ true → names k ≡ true) → Inside g base ts exit finds names → Inside g (stack ++ base) ts exit fewer some
part {g} stack {base} {ts} fewer {names} some less less_named h = record {
  targets = targets_over g stack base names some 0 ts less_named h.targets;
  is_exit = record {
    target = target_over stack h.is_exit.target;
    found = λ is. h.is_exit.found (less is_return is);
    aim_is = h.is_exit.aim_is;
    base_is = h.is_exit.base_is;
  };
  there = there_less fewer less h.there;
  narrow = false_too (fewer has_wide) (less has_wide) h.narrow;
}

-- ---- blocks

-- a value that an instruction leaves has its slot
declared_over : (g : Site) (v : Option ValType) (types : Stack)
    → ((t : ValType) (height : ℕ) → stands t height (values v ++ types) ≡ true → g.slots t height ≡ true)
    → (u : ValType) → v ≡ Some u → g.slots u (length types) ≡ true
declared_over g None types slots u e = absurd (grind (arith, e))
declared_over g (Some t) types slots u e =
    let same : t ≡ u = grind (arith, e) in
    subst (λ w. g.slots w (length types) ≡ true) same
    (slots t (length types) (rw (type_equals_itself t, eq-eqb (length types) (length types) refl) refl))

declared_none : (g : Site) (height : ℕ) (u : ValType) → None ≡ Some u → g.slots u height ≡ true
declared_none g height u e = absurd (grind (arith, e))

-- code inside a block, whose label is target 0 there
opened : {g : Site} {ts : List Target} {exit : Target} (l : ℕ) (v : Option ValType) (stack : List Value) {base : List Value}
    (to : List tree.Stmt) {finds : (Kind → Bool) → Bool} (fewer : (Kind → Bool) → Bool) (names some : ℕ → Bool)
    → ((test : Kind → Bool) → fewer test ≡ true → finds test ≡ true) → ((k : ℕ) → some k ≡ true → names k ≡ true)
    → ((u : ValType) → v ≡ Some u → g.slots u (length (types_of (stack ++ base))) ≡ true)
    → (some 0 ≡ true → after_label (label_name l) g.body.stmts ≡ Some to) → Inside g base ts exit finds (λ k. names (suc k))
    → Inside g (stack ++ base) (target_by l (length (types_of (stack ++ base))) v (stack ++ base) to ∷ ts) exit fewer some
opened {g} {ts} l v stack {base} to fewer names some less less_named declared found h =
    let p = part stack fewer _ less (λ k is. less_named (suc k) is) h in
    record {
      targets = (record { upper = []; lower = refl; height = refl; declared = declared }, found, targets_unshift g _ some 0 ts p.targets);
      is_exit = p.is_exit;
      there = p.there;
      narrow = p.narrow;
    }

abbrev names_if : Bool → ℕ → List state.Name
names_if named l = if named then label_name l ∷ [] else []

label_before : (named : Bool) (l : ℕ) (rest : List tree.Stmt) → label_if named l ++ rest ≡ labelled (names_if named l) rest
label_before true l rest = refl
label_before false l rest = refl

-- a block, from what its code does
block_left : (g : Site) (ts : List Target) (exit : Target) (t : Option ValType) (l h : ℕ) (stack base : List Value)
    (named : Bool) (inner rest : List tree.Stmt) {outs : Stack} (m : state.Machine) (vars : state.Vars) (n : ℕ) (r : exec.Result)
    → outs ≡ values t ++ types_of stack
    → Follows g 0 (target_by l h t (stack ++ base) rest ∷ ts) exit (stack ++ base) (label_if named l ++ rest) (values t)
    (at g m (inner ++ (label_if named l ++ rest)) vars) n r
    → Follows g 0 ts exit base rest outs (at g m ((inner ++ label_if named l) ++ rest) vars) n (exec.leave t stack r)
block_left g ts exit t l h stack base named inner rest {outs} m vars n r e f =
    subst (λ xs. Follows g 0 ts exit base rest outs (at g m xs vars) n (exec.leave t stack r)) (sym (append_assoc inner (label_if named l)
    rest)) (leaves g 0 ts exit t l h stack base _ rest _ n r e (subst (λ xs. Follows g 0 (target_by l h t (stack ++ base) rest ∷ ts)
    exit (stack ++ base) xs (values t) (at g m (inner ++ (label_if named l ++ rest)) vars) n r) (label_before named l rest) f))

-- what a type [] → [t] says
block_outs : (t : Option ValType) {types outs more : Stack} → types ≡ more → outs ≡ reverse (values t) ++ more → outs ≡ values t ++ types
block_outs t {more} e f = f ∙ (ap (λ xs. xs ++ more) (reversed t) ∙ ap (λ xs. values t ++ xs) (sym e))

-- a loop, from what its turns do
loop_turns : {g : Site} (ts : List Target) (exit : Target) (t : Option ValType) (l h : ℕ) (stack base : List Value) (named : Bool)
    (inner rest : List tree.Stmt) {outs : Stack} (body : ℕ → store.State → exec.Result) (n : ℕ) {now : store.State} {m : state.Machine}
    {vars : state.Vars} → outs ≡ values t ++ types_of stack → StandsAt g (stack ++ base) now m vars
    → ((n : ℕ) (now : store.State) (m : state.Machine) (vars : state.Vars) → StandsAt g (stack ++ base) now m vars
    → Follows g 0 (target_by l h None (stack ++ base) (inner ++ rest) ∷ ts) exit (stack ++ base) rest (values t)
    (at g m (inner ++ rest) vars) n (body n now))
    → Follows g 0 ts exit base rest outs (at g m ((label_if named l ++ inner) ++ rest) vars) n (exec.turns (suc n) body stack n now)
loop_turns {g} ts exit t l h stack base named inner rest {outs} body n {now} {m} {vars} e s f =
    subst (λ xs. Follows g 0 ts exit base rest outs (at g m xs vars) n (exec.turns (suc n) body stack n now))
    (sym (append_assoc (label_if named l) inner rest ∙ label_before named l _)) (follows_past
    g 0 _ ts exit base _ rest outs m vars n _ (turns_follow ts exit t l h stack base _ rest body e f (suc n) n (omega arith) s))

-- ---- if

-- the first branch of an `if` is left by a jump over the second
arrives_over_jump : {g : Site} (names : List state.Name) (l : ℕ) (skipped : List tree.Stmt) {rest : List tree.Stmt} {from : Progress}
    {n left : ℕ} {stack : List Value} {now : store.State} → after_label (label_name l) g.body.stmts ≡ Some rest
    → Arrives g 0 (labelled names (tree.Goto (label_name l) ∷ skipped)) from n left stack now → Arrives g 1 rest from n left stack now
arrives_over_jump {g} names l skipped {rest} {from} found a =
    arrives_by a.stands (join g.program a.statements 1 from (at g a.machine (labelled names (tree.Goto (label_name l) ∷ skipped)) a.vars)
    (at g a.machine rest a.vars) a.way (past_way g names (goto_reaches g a.machine a.vars (label_name l) skipped found)))
    (record { least = omega (arith, a.paid.least); most = omega (arith, a.paid.most) })

leaves_over : (g : Site) (ts : List Target) (exit : Target) (t : Option ValType) (l h : ℕ) (stack base : List Value)
    (skipped rest : List tree.Stmt) {outs : Stack} (from : Progress) (n : ℕ) (r : exec.Result) → outs ≡ values t ++ types_of stack
    → (b : Bool) → (b ≡ false → NotNormal r) → (b ≡ true → after_label (label_name l) g.body.stmts ≡ Some rest)
    → Follows g 0 (target_by l h t (stack ++ base) rest ∷ ts) exit (stack ++ base) (jump_over b l ++ skipped) (values t) from n r
    → Follows g 1 ts exit base rest outs from n (exec.leave t stack r)
leaves_over g ts exit t l h stack base skipped rest from n (exec.Normal left inner now) e false never found f = absurd (never refl)
leaves_over g ts exit t l h stack base skipped rest from n (exec.Normal left inner now) e true never found f =
    (outs_over t inner stack e f.0, [], arrives_over inner stack base (arrives_over_jump f.1 l skipped (found refl) f.2))
leaves_over g ts exit t l h stack base skipped rest {outs} from n (exec.Branch label left inner now) e b never found f =
    with_spare g 1 ts exit base rest outs from n (exec.leave t stack (exec.Branch label left inner now))
    (leaves g 0 ts exit t l h stack base [] rest from n (exec.Branch label left inner now) e f)
leaves_over g ts exit t l h stack base skipped rest {outs} from n (exec.Returned left inner now) e b never found f =
    with_spare g 1 ts exit base rest outs from n (exec.Returned left inner now) f
leaves_over g ts exit t l h stack base skipped rest {outs} from n (exec.Stops why now) e b never found f =
    with_spare g 1 ts exit base rest outs from n (exec.Stops why now) f

-- one statement of a step comes before
behind_one : (g : Site) (spare : ℕ) (ts : List Target) (exit : Target)
    (base : List Value) (rest : List tree.Stmt) (outs : Stack) {from to : Progress} (left : ℕ) (r : exec.Result) → spare ≤ 300
    → Reaches g.program 1 from to → Follows g spare ts exit base rest outs to left r → Follows g 0 ts exit base rest outs from (suc left) r
behind_one g spare ts exit base rest outs left r few way f =
    before g
    spare 0 ts exit base rest outs (suc left) left way (record { least = omega arith; fewer = omega arith; most = omega (arith, few) }) r f

-- an `if` with one branch
if_alone : {g : Site} (ts : List Target) (exit : Target) {t : Option ValType} (base stack : List Value) (l left c : ℕ) (rest
    : List tree.Stmt) {outs : Stack} {now : store.State} {m : state.Machine} {vars : state.Vars} (first : List tree.Stmt) (r : exec.Result)
    → t ≡ None → outs ≡ values t ++ types_of stack → IsPlaced g.body.stmts (first ++ tree.Label (label_name l) ∷ []) rest
    → StandsAt g (I32 c ∷ (stack ++ base)) now m vars
    → Follows g 0 (target_by l (length (types_of (stack ++ base))) t (stack ++ base) rest ∷ ts) exit (stack ++ base)
    (tree.Label (label_name l) ∷ rest) (values t) (at g m (first ++ (tree.Label (label_name l) ∷ rest)) vars) left r
    → Follows g 0 ts exit base rest outs (at g m
    (jump_if op.Eq (length (types_of (stack ++ base))) l ∷ ((first ++ tree.Label (label_name l) ∷ []) ++ rest)) vars) (suc left)
    (exec.choose (I32 c ∷ stack) now (λ under. exec.leave t under r) (λ under. exec.leave t under (exec.Normal left [] now)))
if_alone {g} ts exit base stack l left zero rest {m} {vars} first r none e placed s f =
    let code = (first ++ tree.Label (label_name l) ∷ []) ++ rest in
    let h = length (types_of (stack ++ base)) in (
      sym (e ∙ ap (λ o. values o ++ types_of stack) none),
      [],
      arrives_by (stands_below (I32 0 ∷ []) (stack ++ base) s) (if_goes g m vars
          op.Eq h 0 l code s.variables.stacked.0 refl (placed_back g.body.stmts first (tree.Label (label_name l) ∷ []) rest placed).0)
          (record { least = omega arith; most = omega arith }),
    )
if_alone {g} ts exit {t} base stack l left (suc c) rest {outs} {m} {vars} first r none e placed s f =
    let code = (first ++ tree.Label (label_name l) ∷ []) ++ rest in
    let h = length (types_of (stack ++ base)) in
    behind_one g 0 ts exit base rest outs left (exec.leave t stack r) (omega arith) (if_passes g m
    vars op.Eq h (suc c) l code s.variables.stacked.0 (eq_more c)) (block_left g ts exit t l h stack base true first rest m vars left r e f)

-- an `if` with two branches
if_both : {g : Site}
    (ts : List Target) (exit : Target) (t : Option ValType) (base stack : List Value) (l left c : ℕ) (rest : List tree.Stmt) {outs : Stack}
    {now : store.State} {m : state.Machine} {vars : state.Vars} (first second : List tree.Stmt) (r r' : exec.Result) (b named : Bool)
    → outs ≡ values t ++ types_of stack → (b ≡ false → NotNormal r)
    → IsPlaced g.body.stmts (first ++ (jump_over b (suc l) ++ (tree.Label (label_name l) ∷ (second ++ label_if (b || named) (suc l))))) rest
    → StandsAt g (I32 c ∷ (stack ++ base)) now m vars
    → Follows g 0 (target_by (suc l) (length (types_of (stack ++ base))) t (stack ++ base) rest ∷ ts) exit (stack ++ base)
    ((jump_over b (suc l) ++ (tree.Label (label_name l) ∷ (second ++ label_if (b || named) (suc l)))) ++ rest) (values t)
    (at g m (first ++ ((jump_over b (suc l) ++ (tree.Label (label_name l) ∷ (second ++ label_if (b || named) (suc l)))) ++ rest))
    vars) left r → Follows g 0 (target_by (suc l) (length (types_of (stack ++ base))) t (stack ++ base) rest ∷ ts) exit (stack ++ base)
    (label_if (b || named) (suc l) ++ rest) (values t) (at g m (second ++ (label_if (b || named) (suc l) ++ rest)) vars) left r'
    → Follows g 0 ts exit base rest outs (at g m (jump_if op.Eq (length (types_of (stack ++ base))) l ∷
    ((first ++ (jump_over b (suc l) ++ (tree.Label (label_name l) ∷ (second ++ label_if (b || named) (suc l))))) ++ rest)) vars) (suc left)
    (exec.choose (I32 c ∷ stack) now (λ under. exec.leave t under r) (λ under. exec.leave t under r'))
if_both {g} ts exit t base stack l left zero rest {outs} {m} {vars} first second r r' b named e never placed s f f' =
    let tail = second ++ label_if (b || named) (suc l) in
    let more = jump_over b (suc l) ++ (tree.Label (label_name l) ∷ tail) in
    let h = length (types_of (stack ++ base)) in
    let found = (placed_back g.body.stmts (jump_over b (suc l)) (tree.Label (label_name l) ∷ tail) rest
    (placed_back g.body.stmts first more rest placed)).0 in
    behind_one g 0 ts exit base rest outs left (exec.leave t stack r') (omega arith) (if_goes g m vars op.Eq h 0 l ((first ++ more) ++ rest)
    s.variables.stacked.0 refl found) (block_left g ts exit t (suc l) h stack base (b || named) second rest m vars left r' e f')
if_both {g} ts exit t base stack l left (suc c) rest {outs} {m} {vars} first second r r' b named e never placed s f f' =
    let tail = second ++ label_if (b || named) (suc l) in
    let more = jump_over b (suc l) ++ (tree.Label (label_name l) ∷ tail) in
    let h = length (types_of (stack ++ base)) in
    let placed_tail = (placed_back g.body.stmts (jump_over b (suc l)) (tree.Label (label_name l) ∷ tail) rest
    (placed_back g.body.stmts first more rest placed)).1 in
    let placed_end = placed_back g.body.stmts second (label_if (b || named) (suc l)) rest placed_tail in
    let way = if_passes g m vars op.Eq h (suc c) l ((first ++ more) ++ rest) s.variables.stacked.0 (eq_more c) in
    behind_one g 1 ts exit base rest outs left (exec.leave t stack r)
    (omega arith) (subst (λ xs. Reaches g.program 1 (at g m (jump_if op.Eq h l ∷ ((first ++ more) ++ rest)) vars) (at g m xs vars))
    (append_assoc first more rest) way) (leaves_over g ts exit t (suc l) h stack base ((tree.Label (label_name l) ∷ tail) ++ rest)
    rest (at g m (first ++ (more ++ rest)) vars) left r e b never (λ is. last_label_found g.body.stmts (b || named) (suc l) rest
    placed_end (rw is refl)) (subst (λ xs. Follows g 0 (target_by (suc l) h t (stack ++ base) rest ∷ ts) exit (stack ++ base) xs (values t)
    (at g m (first ++ (more ++ rest)) vars) left r) (append_assoc (jump_over b (suc l)) (tree.Label (label_name l) ∷ tail) rest) f))

-- an instruction that holds no code
here_of : {g : Site} (kind : Kind) (ts : List Target) (base stack : List Value) (l : ℕ) (rest : List tree.Stmt) (outs : Stack)
    (now : store.State) (m : state.Machine) (vars : state.Vars)
    → KindHasType g.setting.context (map (λ t. t.aim.value) ts) kind (types_of stack) outs → ends kind ≡ false
    → (ends kind ≡ false → (t : ValType) (height : ℕ) → stands t height (after g.setting.context (types_of (stack ++ base)) kind) ≡ true
    → g.slots t height ≡ true) → has_wide kind ≡ false
    → IsPlaced g.body.stmts (emit_kind g.setting (aims_of ts) (types_of (stack ++ base)) l kind) rest
    → StandsAt g (stack ++ base) now m vars → IsHere g kind (record
    { targets = ts; base = base; label = l; rest = rest; outs = outs; now = now; machine = m; vars = vars }) stack
here_of kind ts base stack l rest outs now m vars typed goes slots narrow placed stood =
    record { typed = typed; slots = slots goes; narrow = narrow; placed = placed; stands = stood }

-- ---- the induction

mutual
  code_goes : (g : Site) (calls : exec.Calls) → Others g calls → (code : Code)
      (ts : List Target) (exit : Target) (base stack : List Value) (l n : ℕ) (rest : List tree.Stmt) (outs : Stack) (now : store.State)
      (m : state.Machine) (vars : state.Vars) → HasType g.setting.context (map (λ t. t.aim.value) ts) code (types_of stack) outs
      → Inside g base ts exit (λ test. any_in test code) (λ k. branches_to k code)
      → ((t : ValType) (height : ℕ) → occurs t height g.setting.context (types_of (stack ++ base)) code ≡ true → g.slots t height ≡ true)
      → l + labels_in code < 2 ^ 32 → IsPlaced g.body.stmts (emit g.setting (aims_of ts) (types_of (stack ++ base)) l code) rest
      → StandsAt g (stack ++ base) now m vars
      → Follows g 0 ts exit base rest outs (at g m (emit g.setting (aims_of ts) (types_of (stack ++ base)) l code ++ rest) vars) n
      (exec.exec g.linked calls g.unit code n stack now)
  code_goes g calls others end_code ts exit base stack l n rest outs now m vars typed inside slots few placed s =
      (typed, [], arrives_by s (stays g.program (at g m rest vars)) (record { least = omega arith; most = omega arith }))
  code_goes g calls others (then_code place kind code) ts exit base stack l n rest outs now m vars typed inside slots few placed s =
      let c = g.setting.context in
      let types = types_of (stack ++ base) in
      let labels = map (λ t. t.aim.value) ts in
      chain g ts exit base (emit_kind g.setting (aims_of ts) types l kind) (emit g.setting (aims_of ts) (after c types kind) (labels_of kind
      + l) code) rest typed.0 outs n m vars (exec.exec_kind g.linked calls g.unit kind n stack now) (exec.exec g.linked calls g.unit code)
      (ends kind) (ends_so g calls kind n stack now) placed (λ middle p. kind_goes g calls others kind ts exit base stack l n middle
      typed.0 now m vars typed.1 (part [] (λ test. test kind || any_inside test kind) (λ k. targets_in k kind) (λ test is. rw is refl)
      (λ k is. rw is refl) inside) (λ goes t height is. slots t height (occurs_behind t height c types place kind code goes (stands_occurs
      t height c (after c types kind) code is))) (λ t height is. slots t height (rw is (or_right (stands t height types) true refl)))
      (omega (arith, few)) p s) (λ goes left stack' now' m' vars' e s' p. retyped g ts exit base stack' (labels_of kind + l) left rest outs
      m' vars' code (exec.exec g.linked calls g.unit code left stack' now') (types_behind c labels kind stack stack' base typed.1 goes e)
      (λ t height is. slots t height (occurs_behind t height c types place kind code goes is)) p (λ slots' p'. code_goes g calls others code
      ts exit base stack' (labels_of kind + l) left rest outs now' m' vars' (subst (λ xs. HasType c labels code xs outs) (sym e) typed.2)
      (part [] (λ test. any_in test code) (λ k. branches_to k code) (λ test is. rw (goes, is) (or_right (test kind || any_inside test kind)
      true refl)) (λ k is. rw (goes, is) (or_right (targets_in k kind) true refl)) inside) slots' (omega (arith, few)) p' s'))

  kind_goes : (g : Site) (calls : exec.Calls) → Others g calls → (kind : Kind)
      (ts : List Target) (exit : Target) (base stack : List Value) (l n : ℕ) (rest : List tree.Stmt) (outs : Stack) (now : store.State)
      (m : state.Machine) (vars : state.Vars) → KindHasType g.setting.context (map (λ t. t.aim.value) ts) kind (types_of stack) outs
      → Inside g base ts exit (λ test. test kind || any_inside test kind) (λ k. targets_in k kind)
      → (ends kind ≡ false → (t : ValType) (height : ℕ) → stands t height (after g.setting.context (types_of (stack ++ base)) kind) ≡ true
      → g.slots t height ≡ true)
      → ((t : ValType) (height : ℕ) → occurs_in t height g.setting.context (types_of (stack ++ base)) kind ≡ true → g.slots t height ≡ true)
      → l + labels_of kind < 2 ^ 32 → IsPlaced g.body.stmts (emit_kind g.setting (aims_of ts) (types_of (stack ++ base)) l kind) rest
      → StandsAt g (stack ++ base) now m vars
      → Follows g 0 ts exit base rest outs (at g m (emit_kind g.setting (aims_of ts) (types_of (stack ++ base)) l kind ++ rest) vars) n
      (exec.exec_kind g.linked calls g.unit kind n stack now)
  kind_goes g calls others Unreachable ts exit base stack l n rest outs now m vars typed inside left slots few placed s =
      unreachable_follows calls ts exit base stack l n rest outs s
  kind_goes g calls others Return ts exit base stack l n rest outs now m vars typed inside left slots few placed s =
      return_follows others.set calls ts stack l n rest outs typed inside.is_exit s
  kind_goes g calls others (Br label) ts exit base stack l n rest outs now m vars typed inside left slots few placed s =
      br_follows others.set calls label ts exit base stack l n rest outs typed inside.targets s
  kind_goes g calls others (BrIf label) ts exit base stack l n rest outs now m vars typed inside left slots few placed s =
      br_if_follows others.set calls label ts exit base stack l n rest outs typed inside.targets placed s
  kind_goes g calls others (BrTable labels default) ts exit base stack l n rest outs now m vars typed inside left slots few placed s =
      br_table_follows others.set calls labels default ts exit base stack l n rest outs typed inside.targets placed s
  kind_goes g calls others (Block t code end_place) ts exit base stack l n rest outs now m vars typed inside left slots few placed s =
      let types = types_of (stack ++ base) in
      let named = branches_to 0 code in
      let x = target_by l (length types) t (stack ++ base) rest in
      let inner = emit g.setting (aims_of (x ∷ ts)) types (suc l) code in
      let tail = label_if named l in
      block_left g ts exit t l (length types) stack base named inner rest m vars n (exec.exec g.linked calls g.unit code n [] now)
      (block_outs t typed.1.1 typed.1.2) (code_goes g calls others code (x ∷ ts) exit (stack ++ base) [] (suc l) n (tail ++ rest)
      (values t) now m vars typed.0 (opened l t stack rest (λ test. any_in test code) (λ k. branches_to k code) (λ k. branches_to k code)
      (λ test is. rw is (or_right (test (Block t code end_place)) true refl)) (λ k is. is) (declared_over g t types (left refl))
      (last_label_found g.body.stmts named l rest (placed_back g.body.stmts inner tail rest placed)) inside)
      slots (omega (arith, few)) (placed_front g.body.stmts inner tail rest placed) s)
  kind_goes g calls others (Loop t code end_place) ts exit base stack l n rest outs now m vars typed inside left slots few placed s =
      let types = types_of (stack ++ base) in
      let named = branches_to 0 code in
      let aim : Aim = record { label = l; height = length types; value = None } in
      let inner = emit g.setting (aim ∷ aims_of ts) types (suc l) code in
      let x = target_by l (length types) None (stack ++ base) (inner ++ rest) in
      loop_turns ts exit t l (length types) stack base named inner rest (λ left'. exec.exec g.linked calls g.unit code left' [])
      n (block_outs t typed.1.1 typed.1.2) s (λ n' now' m' vars' s'. code_goes g calls others code (x ∷ ts) exit
      (stack ++ base) [] (suc l) n' rest (values t) now' m' vars' typed.0 (opened l None stack (inner ++ rest) (λ test. any_in test code)
      (λ k. branches_to k code) (λ k. branches_to k code) (λ test is. rw is (or_right (test (Loop t code end_place)) true refl))
      (λ k is. is) (declared_none g (length types)) (label_found g.body.stmts named l inner rest placed) inside)
      slots (omega (arith, few)) (placed_back g.body.stmts (label_if named l) inner rest placed) s')
  kind_goes g calls others (If t code otherwise end_place) ts exit base [] l n rest outs now m vars typed inside left slots few placed s =
      absurd (grind (arith, typed.2.1))
  kind_goes g calls others (If t code otherwise end_place) ts exit base
      (I64 c ∷ stack) l n rest outs now m vars typed inside left slots few placed s = absurd (grind (arith, typed.2.1))
  kind_goes g calls others (If t code no_else end_place) ts exit base
      (I32 c ∷ stack) l n rest outs now m vars typed inside left slots few placed s =
      let kind = If t code no_else end_place in
      let types = types_of (stack ++ base) in
      let x = target_by (suc l) (length types) t (stack ++ base) rest in
      let first = emit g.setting (aims_of (x ∷ ts)) types (suc (suc l)) code in
      let tail = tree.Label (label_name (suc l)) ∷ [] in
      let same : types_of stack ≡ typed.2.0 = grind (arith, typed.2.1) in
      let under = stands_below (I32 c ∷ []) (stack ++ base) s in
      let does : ℕ → exec.Result = λ left'. exec.exec g.linked calls g.unit code left' [] now in
      spends g 0 ts exit base (jump_if op.Eq (length types) (suc l) ∷ ((first ++ tail) ++ rest))
      rest outs m vars n now (λ left'. exec.choose (I32 c ∷ stack) now (λ below. exec.leave t below (does left'))
      (λ below. exec.leave t below (exec.Normal left' [] now))) (λ left'. if_alone ts exit base stack (suc l) left'
      c rest first (does left') typed.1 (block_outs t same typed.2.2) placed s (code_goes g calls others code (x ∷ ts) exit (stack ++ base)
      [] (suc (suc l)) left' (tail ++ rest) (values t) now m vars typed.0 (opened (suc l) t stack rest (λ test. any_in test code)
      (λ k. branches_to k code || targets_else k no_else) (λ k. branches_to k code) (λ test is. rw is (or_right (test kind) true refl))
      (λ k is. rw is refl) (declared_over g t types (left refl)) (λ is. (placed_back g.body.stmts first tail rest placed).0) inside)
      (λ u height is. slots u height (rw is refl)) (omega (arith, few)) (placed_front g.body.stmts first tail rest placed) under))
  kind_goes g calls others (If t code (else_code else_place other) end_place) ts exit base
      (I32 c ∷ stack) l n rest outs now m vars typed inside left slots few placed s =
      let kind = If t code (else_code else_place other) end_place in
      let types = types_of (stack ++ base) in
      let x = target_by (suc l) (length types) t (stack ++ base) rest in
      let first = emit g.setting (aims_of (x ∷ ts)) types (suc (suc l)) code in
      let second = emit g.setting (aims_of (x ∷ ts)) types (labels_in code + suc (suc l)) other in
      let b = falls code in
      let named = branches_to 0 code || branches_to 0 other in
      let end = label_if (b || named) (suc l) in
      let tail = tree.Label (label_name l) ∷ (second ++ end) in
      let more = jump_over b (suc l) ++ tail in
      let same : types_of stack ≡ typed.2.0 = grind (arith, typed.2.1) in
      let under = stands_below (I32 c ∷ []) (stack ++ base) s in
      let placed_tail = (placed_back g.body.stmts (jump_over b (suc l)) tail rest (placed_back g.body.stmts first more rest placed)).1 in
      let found : named ≡ true → after_label (label_name (suc l)) g.body.stmts ≡ Some rest = λ is. last_label_found g.body.stmts
      (b || named) (suc l) rest (placed_back g.body.stmts second end rest placed_tail) (rw is (or_right b true refl)) in
      let names : ℕ → Bool = λ k. branches_to k code || branches_to k other in
      let does : ℕ → exec.Result = λ left'. exec.exec g.linked calls g.unit code left' [] now in
      let does_else : ℕ → exec.Result = λ left'. exec.exec g.linked calls g.unit other left' [] now in
      spends g 0 ts exit base (jump_if op.Eq (length types) l ∷ ((first ++ more) ++ rest)) rest outs m vars n now (λ left'. exec.choose
      (I32 c ∷ stack) now (λ below. exec.leave t below (does left')) (λ below. exec.leave t below (does_else left'))) (λ left'. if_both
      ts exit t base stack l left' c rest first second (does left') (does_else left') b named (block_outs t same typed.2.2) (falls_not
      g calls code left' [] now) placed s (code_goes g calls others code (x ∷ ts) exit (stack ++ base) [] (suc (suc l)) left' (more ++ rest)
      (values t) now m vars typed.0 (opened (suc l) t stack rest (λ test. any_in test code) names (λ k. branches_to k code) (λ test is.
      rw is (or_right (test kind) true refl)) (λ k is. rw is refl) (declared_over g t types (left refl)) (λ is. found (rw is refl)) inside)
      (λ u height is. slots u height (rw is refl)) (omega (arith, few)) (placed_front g.body.stmts first more rest placed) under)
      (code_goes g calls others other (x ∷ ts) exit (stack ++ base) [] (labels_in code + suc (suc l)) left' (end ++ rest) (values t) now
      m vars typed.1 (opened (suc l) t stack rest (λ test. any_in test other) names (λ k. branches_to k other) (λ test is. rw (
        is,
        or_right (any_in test code) true refl,
      ) (or_right (test kind) true refl)) (λ k is. rw is (or_right (branches_to k code) true refl))
      (declared_over g t types (left refl)) (λ is. found (rw is (or_right (branches_to 0 code) true refl))) inside)
      (λ u height is. slots u height (rw is (or_right (occurs u height g.setting.context types code) true refl)))
      (omega (arith, few)) (placed_front g.body.stmts second end rest placed_tail) under))
  kind_goes g calls others (Call index) ts exit base stack l n rest outs now m vars typed inside left slots few placed s =
      others.call index _ stack (here_of (Call index) ts base stack l rest outs now m vars typed refl left refl placed s) exit n
  kind_goes g calls others (CallIndirect type_index) ts exit base stack l n rest outs now m vars typed inside left slots few placed s =
      others.call_indirect type_index (there_less _ (λ test is. rw is refl) inside.there) _ stack
      (here_of (CallIndirect type_index) ts base stack l rest outs now m vars typed refl left refl placed s) exit n
  kind_goes g calls others kind ts exit base stack l n rest outs now m vars typed inside left slots few placed s =
      others.plain kind (there_less (λ test. test kind) (λ test is. rw is refl) inside.there) refl _ stack (here_of kind ts base stack l
      rest outs now m vars typed refl left (or_parts (has_wide kind) (any_inside has_wide kind) inside.narrow).0 placed s) exit n

-- All code is followed, from calls through the table.
pub all_code_follows : IndirectCallsFollow → AllCodeFollows
all_code_follows call_indirect g room calls code site there ts exit base stack l n rest outs now m vars has_type targets is_exit slots few
    narrow placed s =
    code_goes g calls (record {
      set = slots_are_set site;
      plain = λ kind is plain_kind. plain_kinds_follow g room calls kind site is plain_kind;
      call = λ index. calls_in_code_follow g room calls index site;
      call_indirect = λ type_index is. call_indirect g room calls type_index site is;
    }) code ts exit base stack l n rest outs now m vars has_type
    (record { targets = targets; is_exit = is_exit; there = there; narrow = narrow }) slots few placed s
