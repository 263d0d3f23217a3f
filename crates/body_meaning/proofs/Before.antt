-- A run of C that follows code, behind labels and statements that were run before; instructions one behind another,
-- the end of a block and the turns of a loop.
use Rattle.body_meaning.proofs.Common.{◌≡◌, ℕ, zero, suc, ◌+◌, ◌*◌, ◌<◌, ◌≤◌, List, [], ◌∷◌, ◌++◌, None, Option, sym, refl, ap, ◌∙◌, subst}
use Rattle.body_meaning.proofs.Common.{append_assoc, arith, Trail, types_of, ValType, Value, Stack, values, join, stays, Program, Reaches}
use Rattle.body_meaning.proofs.Common.{Going, IsGoing, Over, Pending, Progress, Stopped, over, at_rest, Arrives, Branches, BranchesTo}
use Rattle.body_meaning.proofs.Common.{Agrees, EndsAlike, Follows, GoesOn, Paid, SameStop, Site, StandsAt, StopsAlike, Target, at, labelled}
use Rattle.c_tree.specs.Tree as tree
use Rattle.wasm_meaning.specs.LinkedSet as link
use Rattle.wasm_meaning.specs.Store as store
use Rattle.wasm_meaning.specs.Execution as exec
use Rattle.c_meaning.specs.State as state
use Rattle.body_meaning.proofs.Past.{past_way}
use Rattle.body_meaning.proofs.Operands.{types_append}

-- ---- counts

-- k statements come before what is followed with m steps and some to spare: n steps pay for all
pub record Covers (spare spare' n m k : ℕ) : Type 0 where
  pub least : n ≤ m + k
  pub fewer : m ≤ n
  pub most : k + 400 * m + spare ≤ 400 * n + spare'

-- ---- where a run comes to

pub arrives_by : {g : Site} {spare : ℕ} {rest : List tree.Stmt} {from : Progress} {n left : ℕ} {stack : List Value} {now : store.State}
    {m : state.Machine} {vars : state.Vars} {statements : ℕ} → StandsAt g stack now m vars
    → Reaches g.program statements from (at g m rest vars) → Paid spare n left statements → Arrives g spare rest from n left stack now
arrives_by {m} {vars} {statements} stands way paid =
    record { machine = m; vars = vars; stands = stands; statements = statements; way = way; paid = paid }

pub ends_by : {p : Program} {s : link.LinkedSet} {pending : Pending} {spare : ℕ} {from : Progress} {n : ℕ} {why : exec.Stop}
    {made : store.Store} {trail : Trail} (m : state.Machine) (reason : state.Stop) {statements : ℕ}
    → SameStop why reason → Agrees p s m made trail → Reaches p statements from (Over (over pending m (Stopped reason)))
    → statements ≤ 400 * n + spare → EndsAlike p s pending spare from n why made trail
ends_by m reason {statements} same agrees way few =
    record { machine = m; reason = reason; same = same; agrees = agrees; statements = statements; way = way; few = few }

-- ---- labels

pub labelled_twice : (xs ys : List state.Name) (rest : List tree.Stmt) → labelled xs (labelled ys rest) ≡ labelled (xs ++ ys) rest
labelled_twice [] ys rest = refl
labelled_twice (x ∷ xs) ys rest = ap (λ code. tree.Label x ∷ code) (labelled_twice xs ys rest)

-- labels are put in front of where a run stands
abbrev in_front : List state.Name → Progress → Progress
in_front names (Over run) = Over run
in_front names (Going pending s) = Going pending (record
    { machine = s.machine; running = at_rest s.running (labelled names s.running.rest); below = s.below })

stays_so : (p : Program) {x y : Progress} → x ≡ y → Reaches p 0 x y
stays_so p {x} e = subst (λ z. Reaches p 0 x z) e (stays p x)

arrives_past : (g : Site) (spare : ℕ) (names : List state.Name) (code rest : List tree.Stmt) (m : state.Machine) (vars : state.Vars)
    (n left : ℕ) (stack : List Value) (now : store.State)
    → (x : (more : List state.Name) × Arrives g spare (labelled more rest) (at g m code vars) n left stack now)
    → (k : ℕ) → x.1.statements ≡ k
    → (more : List state.Name) × Arrives g spare (labelled more rest) (at g m (labelled names code) vars) n left stack now
arrives_past g spare names code rest m vars n left stack now x zero e =
    let a = x.1 in
    let here : at g m code vars ≡ at g a.machine (labelled x.0 rest) a.vars = (rw e at a.way).there in
    let there : at g m (labelled names code) vars ≡ at g a.machine (labelled (names ++ x.0) rest) a.vars =
    ap (in_front names) here ∙ ap (λ xs. at g a.machine xs a.vars) (labelled_twice names x.0 rest) in
    (names ++ x.0, arrives_by a.stands (stays_so g.program there) (rw e at a.paid))
arrives_past g spare names code rest m vars n left stack now x (suc k) e =
    let a = x.1 in (x.0, arrives_by a.stands (past_way g names (rw e at a.way)) (rw e at a.paid))

branches_past : {g : Site} {spare : ℕ} (names : List state.Name) {code : List tree.Stmt} {m : state.Machine} {vars : state.Vars}
    {t : Target} {n left : ℕ} {stack : List Value} {now : store.State} → (b : Branches g spare t (at g m code vars) n left stack now)
    → (k : ℕ) → b.arrives.statements ≡ k → Branches g spare t (at g m (labelled names code) vars) n left stack now
branches_past names b zero e = absurd (omega (arith, b.less, b.arrives.paid.least, e))
branches_past {g} {spare} names {code} {m} {vars} {t} {n} {left} b (suc k) e =
    let a = b.arrives in
    record {
      kept = b.kept;
      kept_is = b.kept_is;
      typed = b.typed;
      less = b.less;
      arrives = arrives_by a.stands (past_way g names (rw e at a.way)) (rw e at a.paid);
    }

-- what holds of each target that a branch may go to
branches_to_each : (g : Site) {spare spare' : ℕ} (ts : List Target) {from to : Progress} {n m : ℕ} (label left : ℕ) (stack : List Value)
    (now : store.State) → ((t : Target) → Branches g spare t to m left stack now → Branches g spare' t from n left stack now)
    → BranchesTo g spare ts label to m left stack now → BranchesTo g spare' ts label from n left stack now
branches_to_each g [] label left stack now each h = h
branches_to_each g (t ∷ ts) zero left stack now each h = each t h
branches_to_each g (t ∷ ts) (suc label) left stack now each h = branches_to_each g ts label left stack now each h

ends_past : (g : Site) {spare : ℕ} (names : List state.Name) {code : List tree.Stmt} {m : state.Machine} {vars : state.Vars} {n : ℕ}
    {why : exec.Stop} {made : store.Store} {trail : Trail}
    → (x : EndsAlike g.program g.linked g.pending spare (at g m code vars) n why made trail) → (k : ℕ) → x.statements ≡ k
    → EndsAlike g.program g.linked g.pending spare (at g m (labelled names code) vars) n why made trail
ends_past g names {code} {m} {vars} x zero e =
    absurd (subst
    IsGoing (subst (λ k. Reaches g.program k (at g m code vars) (Over (over g.pending x.machine (Stopped x.reason)))) e x.way).there tt)
ends_past g names {code} {m} {vars} x (suc k) e =
    ends_by x.machine x.reason x.same x.agrees (past_way g names
    (subst (λ j. Reaches g.program j (at g m code vars) (Over (over g.pending x.machine (Stopped x.reason)))) e x.way)) (rw e at x.few)

goes_on_past : (g : Site) (names : List state.Name) {code : List tree.Stmt} {m : state.Machine} {vars : state.Vars} {n : ℕ}
    → (x : GoesOn g.program (at g m code vars) n) → (k : ℕ) → x.statements ≡ k → GoesOn g.program (at g m (labelled names code) vars) n
goes_on_past g names {code} {m} {vars} x zero e =
    record { to = at g m (labelled names code) vars; goes = tt; statements = 0; way = stays g.program _; least = rw e at x.least }
goes_on_past g names x (suc k) e =
    record { to = x.to; goes = x.goes; statements = suc k; way = past_way g names (rw e at x.way); least = rw e at x.least }

-- code is followed from before labels as it is from behind them
pub follows_past : (g : Site) (spare : ℕ) (names : List state.Name) (ts : List Target) (exit : Target) (base : List Value)
    (code rest : List tree.Stmt) (outs : Stack) (m : state.Machine) (vars : state.Vars) (n : ℕ) (r : exec.Result)
    → Follows g spare ts exit base rest outs (at g m code vars) n r
    → Follows g spare ts exit base rest outs (at g m (labelled names code) vars) n r
follows_past g spare names ts exit base code rest outs m vars n (exec.Normal left stack now) h =
    let a = arrives_past g spare names code rest m vars n left (stack ++ base) now (h.1, h.2) h.2.statements refl in
    (h.0, a.0, a.1)
follows_past g spare names ts exit base code rest outs m vars n (exec.Branch label left stack now) h =
    branches_to_each g ts label left stack now (λ t b. branches_past names b b.arrives.statements refl) h
follows_past g spare names ts exit base code rest outs m vars n (exec.Returned left stack now) h =
    branches_past names h h.arrives.statements refl
follows_past g spare names ts exit base code rest outs m vars n (exec.Stops (exec.Trapped kind) now) h =
    ends_past g names h h.statements refl
follows_past g spare names ts exit base code rest outs m vars n (exec.Stops exec.Asks now) h = ends_past g names h h.statements refl
follows_past g spare names ts exit base code rest outs m vars n (exec.Stops exec.OutOfSteps now) h =
    goes_on_past g names h h.statements refl
follows_past g spare names ts exit base code rest outs m vars n (exec.Stops exec.Stuck now) h = h

-- ---- statements that were run before

arrives_before : {g : Site} {spare spare' : ℕ} {rest : List tree.Stmt} {from to : Progress} {n m left k : ℕ} {stack : List Value}
    {now : store.State} → Reaches g.program k from to → Covers spare spare' n m k → Arrives g spare rest to m left stack now
    → Arrives g spare' rest from n left stack now
arrives_before {g} {rest} {from} {to} {k} way covers a =
    arrives_by a.stands (join g.program k a.statements from to (at g a.machine rest a.vars) way a.way)
    (record { least = omega (arith, covers.least, a.paid.least); most = omega (arith, covers.most, a.paid.most) })

branches_before : {g : Site} {spare spare' : ℕ} {t : Target} {from to : Progress} {n m left k : ℕ} {stack : List Value} {now : store.State}
    → Reaches g.program k from to → Covers spare spare' n m k → Branches g spare t to m left stack now
    → Branches g spare' t from n left stack now
branches_before way covers b = record {
  kept = b.kept;
  kept_is = b.kept_is;
  typed = b.typed;
  less = omega (arith, b.less, covers.fewer);
  arrives = arrives_before way covers b.arrives;
}

pub ends_before : {p : Program} {s : link.LinkedSet} {pending : Pending} {spare : ℕ} (spare' : ℕ) {from to : Progress} (n : ℕ) {m k : ℕ}
    {why : exec.Stop} {made : store.Store} {trail : Trail} → Reaches p k from to → k + 400 * m + spare ≤ 400 * n + spare'
    → EndsAlike p s pending spare to m why made trail → EndsAlike p s pending spare' from n why made trail
ends_before {p} {pending} spare' {from} {to} n {k} way most x = ends_by x.machine x.reason x.same x.agrees
    (join p k x.statements from to (Over (over pending x.machine (Stopped x.reason))) way x.way) (omega (arith, most, x.few))

pub goes_on_before : {p : Program} {from to : Progress} (n : ℕ) {m k : ℕ}
    → Reaches p k from to → n ≤ m + k → GoesOn p to m → GoesOn p from n
goes_on_before {p} n {k} way least x = record
    { to = x.to; goes = x.goes; statements = k + x.statements; way = join p k _ _ _ _ way x.way; least = omega (arith, least, x.least) }

pub stops_before : {p : Program} (s : link.LinkedSet) (pending : Pending) (spare spare' : ℕ) {from to : Progress} (n m : ℕ) {k : ℕ}
    (why : exec.Stop) (made : store.Store) (trail : Trail) → Reaches p k from to → Covers spare spare' n m k
    → StopsAlike p s pending spare to m why made trail → StopsAlike p s pending spare' from n why made trail
stops_before s pending spare spare' n m (exec.Trapped kind) made trail way covers h = ends_before spare' n way covers.most h
stops_before s pending spare spare' n m exec.Asks made trail way covers h = ends_before spare' n way covers.most h
stops_before s pending spare spare' n m exec.OutOfSteps made trail way covers h = goes_on_before n way covers.least h
stops_before s pending spare spare' n m exec.Stuck made trail way covers h = h

-- what is followed from a place is followed from statements before it
pub before : (g : Site) (spare spare' : ℕ) (ts : List Target) (exit : Target) (base : List Value) (rest : List tree.Stmt) (outs : Stack)
    {from to : Progress} (n m : ℕ) {k : ℕ} → Reaches g.program k from to → Covers spare spare' n m k → (r : exec.Result)
    → Follows g spare ts exit base rest outs to m r → Follows g spare' ts exit base rest outs from n r
before g spare spare' ts exit base rest outs n m way covers (exec.Normal left stack now) h = (h.0, h.1, arrives_before way covers h.2)
before g spare spare' ts exit base rest outs n m way covers (exec.Branch label left stack now) h =
    branches_to_each g ts label left stack now (λ t b. branches_before way covers b) h
before g spare spare' ts exit base rest outs n m way covers (exec.Returned left stack now) h = branches_before way covers h
before g spare spare' ts exit base rest outs n m way covers (exec.Stops why now) h =
    stops_before g.linked g.pending spare spare' n m why now.store now.trail way covers h

-- the same with more to spare
pub with_spare : (g : Site) (spare : ℕ) (ts : List Target) (exit : Target) (base : List Value) (rest : List tree.Stmt) (outs : Stack)
    (from : Progress) (n : ℕ) (r : exec.Result)
    → Follows g 0 ts exit base rest outs from n r → Follows g spare ts exit base rest outs from n r
with_spare g spare ts exit base rest outs from n r h =
    before g
    0 spare ts exit base rest outs n n (stays g.program from) (record { least = omega arith; fewer = omega arith; most = omega arith }) r h

-- code that goes on behind where a run came to
pub continues : (g : Site) (spare : ℕ) (ts : List Target) (exit : Target) (base : List Value) (middle rest : List tree.Stmt) (outs : Stack)
    (from : Progress) (n left : ℕ) (stack : List Value) (now : store.State) (r : exec.Result)
    → (x : (names : List state.Name) × Arrives g spare (labelled names middle) from n left stack now) → left ≤ n
    → Follows g 0 ts exit base rest outs (at g x.1.machine middle x.1.vars) left r → Follows g spare ts exit base rest outs from n r
continues g spare ts exit base middle rest outs from n left stack now r x less h =
    let a = x.1 in
    before g 0 spare ts exit base rest outs n left a.way (record {
      least = omega (arith, a.paid.least);
      fewer = less;
      most = omega (arith, a.paid.most);
    }) r (follows_past g 0 x.0 ts exit base middle rest outs a.machine a.vars left r h)

-- ---- instructions

-- an instruction and the code behind it
pub sequel : (g : Site) (ts : List Target) (exit : Target) (base : List Value) (middle rest : List tree.Stmt) (mids outs : Stack)
    (from : Progress) (n : ℕ) (r : exec.Result) (go : ℕ → List Value → store.State → exec.Result)
    → Follows g 0 ts exit base middle mids from n r
    → ((left : ℕ) (stack : List Value) (now : store.State) (m : state.Machine) (vars : state.Vars) → types_of stack ≡ mids
    → StandsAt g (stack ++ base) now m vars → Follows g 0 ts exit base rest outs (at g m middle vars) left (go left stack now))
    → Follows g 0 ts exit base rest outs from n (exec.and_then r go)
sequel g ts exit base middle rest mids outs from n (exec.Normal left stack now) go h next =
    let a = h.2 in
    continues g 0 ts exit base middle rest outs from n left (stack ++ base) now (go left stack now) (h.1, a) (omega (arith, a.paid.most))
    (next left stack now a.machine a.vars h.0 a.stands)
sequel g ts exit base middle rest mids outs from n _ go h next = h

-- an instruction that costs a step
pub spends : (g : Site) (spare : ℕ) (ts : List Target) (exit : Target) (base : List Value) (code rest : List tree.Stmt) (outs : Stack)
    (m : state.Machine) (vars : state.Vars) (n : ℕ) (now : store.State) (go : ℕ → exec.Result)
    → ((left : ℕ) → Follows g spare ts exit base rest outs (at g m code vars) (suc left) (go left))
    → Follows g spare ts exit base rest outs (at g m code vars) n (exec.spend n now go)
spends g spare ts exit base code rest outs m vars zero now go h =
    record { to = at g m code vars; goes = tt; statements = 0; way = stays g.program (at g m code vars); least = omega arith }
spends g spare ts exit base code rest outs m vars (suc left) now go h = h left

-- ---- blocks

-- a block's operands on those below
pub arrives_over : {g : Site} {spare : ℕ} {rest : List tree.Stmt} {from : Progress} {n left : ℕ} (inner stack base : List Value)
    {now : store.State}
    → Arrives g spare rest from n left (inner ++ (stack ++ base)) now → Arrives g spare rest from n left ((inner ++ stack) ++ base) now
arrives_over {g} {spare} {rest} {from} {n} {left} inner stack base {now} h =
    subst (λ xs. Arrives g spare rest from n left xs now) (sym (append_assoc inner stack base)) h

-- the target of a block's own label
abbrev pub target_by : ℕ → ℕ → Option ValType → List Value → List tree.Stmt → Target
target_by l h t base rest = record { aim = record { label = l; height = h; value = t }; base = base; rest = rest }

pub outs_over : (t : Option ValType) (inner stack : List Value) {outs : Stack} → outs ≡ values t ++ types_of stack
    → types_of inner ≡ values t → types_of (inner ++ stack) ≡ outs
outs_over t inner stack e h = types_append inner stack ∙ (ap (λ xs. xs ++ types_of stack) h ∙ sym e)

-- a block is left: it ends before its label, where the label is written
pub leaves : (g : Site) (spare : ℕ) (ts : List Target) (exit : Target) (t : Option ValType) (l h : ℕ)
    (stack base : List Value) (names : List state.Name) (rest : List tree.Stmt) {outs : Stack} (from : Progress) (n : ℕ) (r : exec.Result)
    → outs ≡ values t ++ types_of stack
    → Follows g spare (target_by l h t (stack ++ base) rest ∷ ts) exit (stack ++ base) (labelled names rest) (values t) from n r
    → Follows g spare ts exit base rest outs from n (exec.leave t stack r)
leaves g spare ts exit t l h stack base names rest from n (exec.Normal left inner now) e f = (
  outs_over t inner stack e f.0,
  f.1 ++ names,
  arrives_over inner
      stack base (subst (λ code. Arrives g spare code from n left (inner ++ (stack ++ base)) now) (labelled_twice f.1 names rest) f.2),
)
leaves g spare ts exit t l h stack base names rest {outs} from n (exec.Branch zero left inner now) e f =
    subst (λ o. Follows g spare ts exit base rest outs from n (exec.onto left o stack now))
    (sym f.kept_is) (outs_over t f.kept stack e f.typed, [], arrives_over f.kept stack base f.arrives)
leaves g spare ts exit t l h stack base names rest from n _ e f = f

-- a turn of a loop
no_values : (vs : List Value) → types_of vs ≡ [] → vs ≡ []
no_values [] e = refl
no_values (v ∷ vs) e = absurd (grind (arith, e))

turn_follows : (g : Site) (ts : List Target) (exit : Target) (t : Option ValType) (l h : ℕ) (stack base : List Value)
    (start rest : List tree.Stmt) {outs : Stack} (from : Progress) (n : ℕ) (again : ℕ → store.State → exec.Result) (r : exec.Result)
    → outs ≡ values t ++ types_of stack
    → Follows g 0 (target_by l h None (stack ++ base) start ∷ ts) exit (stack ++ base) rest (values t) from n r
    → ((left : ℕ) (now : store.State) (m : state.Machine) (vars : state.Vars) → left < n → StandsAt g (stack ++ base) now m vars
    → Follows g 0 ts exit base rest outs (at g m start vars) left (again left now))
    → Follows g 0 ts exit base rest outs from n (exec.turn again stack r)
turn_follows g ts exit t l h stack base start rest from n again (exec.Normal left inner now) e f next =
    (outs_over t inner stack e f.0, f.1, arrives_over inner stack base f.2)
turn_follows g ts exit t l h stack base start rest {outs} from n again (exec.Branch zero left inner now) e f next =
    let a = f.arrives in
    let empty : f.kept ≡ [] = no_values f.kept f.typed in
    let stands : StandsAt g (stack ++ base) now a.machine a.vars =
    subst (λ vs. StandsAt g (vs ++ (stack ++ base)) now a.machine a.vars) empty a.stands in
    before g 0 0 ts exit base rest outs n left a.way (record {
      least = a.paid.least;
      fewer = omega (arith, f.less);
      most = omega (arith, a.paid.most);
    }) (again left now) (next left now a.machine a.vars f.less stands)
turn_follows g ts exit t l h stack base start rest from n again _ e f next = f

-- the turns of a loop, which are more than the budget
pub turns_follow : {g : Site} (ts : List Target) (exit : Target) (t : Option ValType)
    (l h : ℕ) (stack base : List Value) (start rest : List tree.Stmt) {outs : Stack} (body : ℕ → store.State → exec.Result)
    → outs ≡ values t ++ types_of stack
    → ((n : ℕ) (now : store.State) (m : state.Machine) (vars : state.Vars) → StandsAt g (stack ++ base) now m vars
    → Follows g 0 (target_by l h None (stack ++ base) start ∷ ts) exit (stack ++ base) rest (values t) (at g m start vars) n (body n now))
    → (k n : ℕ) {now : store.State} {m : state.Machine} {vars : state.Vars} → n < k → StandsAt g (stack ++ base) now m vars
    → Follows g 0 ts exit base rest outs (at g m start vars) n (exec.turns k body stack n now)
turns_follow ts exit t l h stack base start rest body e f zero n less stands = absurd (omega (arith, less))
turns_follow {g} ts exit t l h stack base start rest body e f (suc k) n {now} {m} {vars} less stands =
    turn_follows g ts exit t l h stack base start rest _ n _ _ e (f n now m vars stands) (λ left
    now' m' vars' fewer stands'. turns_follow ts exit t l h stack base start rest body e f k left (omega (arith, less, fewer)) stands')
