-- Every call is followed, by induction on how many more functions may become active: hosts', and the modules' own,
-- which trap where there is no room, and else run their code (WebAssembly Core 1.0, 4.4.7).
use Rattle.body_meaning.proofs.Common.{◌≡◌, ℕ, zero, suc, ◌+◌, ◌<◌, List, [], ◌∷◌, ◌++◌, map, length, slice_get, Some, None, Option, sym}
use Rattle.body_meaning.proofs.Common.{refl, ap, ◌∙◌, subst, arith, or_left, or_right, same_Some, AllByRecursion, Trail, IsNumber, types_of}
use Rattle.body_meaning.proofs.Common.{zeros, FuncType, ValType, Value, declared_locals, Code, BodyEntry, Context, context_of, values, join}
use Rattle.body_meaning.proofs.Common.{Definition, Program, c_result_of, with_depth, Reaches, Over, Pending, Progress, Stopped, go_on, over}
use Rattle.body_meaning.proofs.Common.{Stops, begin, next, func_name, IsDefined, IsFuncOf, code_stmts, has_element, has_slot, is_return}
use Rattle.body_meaning.proofs.Common.{stmts_of, CallFollows, CallsFollow, Follows, Site, StandsAt, Together, at, any_in, targets}
use Rattle.body_meaning.proofs.Common.{AllCodeFollows, IsSite, IsTarget, IsThere, PassesOn, StandsFor, called, core, wrapper_statements}
use Rattle.body_meaning.proofs.Common.{AreServed, occurs, stands, types_many}
use Rattle.w2c_base.specs.declared.trap.TrapKind.TheVariants as trap
use Rattle.wasm_meaning.specs.LinkedSet as link
use Rattle.wasm_meaning.specs.Store as store
use Rattle.wasm_meaning.specs.Execution as exec
use Rattle.c_meaning.specs.State as state
use Rattle.body_definition.proofs.Heights.{stands_top}
use Rattle.body_meaning.specs.Bodies.{BodiesFollow}
use Rattle.body_meaning.proofs.Hosts.{host_follows}
use Rattle.body_meaning.proofs.Own.{IsOwn, own_is, func_body}
use Rattle.body_meaning.proofs.Start.{start_vars, first_vars_are, start_agrees}
use Rattle.body_meaning.proofs.Operands.{zeros_types, types_append}
use Rattle.body_meaning.proofs.Exits.{end_stmts, BodyIsPlaced, body_is_placed}
use Rattle.body_meaning.proofs.There.{body_is_there}
use Rattle.body_meaning.proofs.Function.{exit_target, begins, too_deep, Around, finish_follows}
use Rattle.body_meaning.proofs.Before.{ends_by}
use Rattle.body_meaning.proofs.Spaces.{module_named}
use Rattle.alike.proofs.Store.{with_depth_together}

-- ---- a function that runs

abbrev site_of : Program → link.LinkedSet → ℕ → Pending → List state.Frame → ℕ → ℕ → link.NamedModule → ℕ → FuncType → BodyEntry → Site
site_of p s count pending below depth u m item ty entry =
    let c : Context = context_of m.tree ty entry in
    record {
      program = p;
      linked = s;
      count = count;
      pending = pending;
      below = below;
      depth = depth;
      setting = record { named = m; context = c };
      unit = u;
      item = item;
      body = func_body m ty entry;
      slots = λ t height. has_slot t c entry.code height;
      has_element = has_element entry.code;
    }

-- the call begins the function's body
enters : {p : Program}
    {s : link.LinkedSet} (count : ℕ) (pending : Pending) (below : List state.Frame) (depth : ℕ) {u : ℕ} {m : link.NamedModule}
    {index : ℕ} (own : IsOwn p s u m index) (machine : state.Machine) (args : List Value) → types_of args ≡ own.ty.params
    → called p pending (state.UnitFunc u (func_name index)) machine args below
    ≡ at (site_of p s count pending below depth u m own.item own.ty own.entry) machine
    (stmts_of (record { named = m; context = context_of m.tree own.ty own.entry }) own.entry.code)
    (start_vars (context_of m.tree own.ty own.entry) own.entry args)
enters {p} count pending below depth {u} {m} {index} own machine args fit =
    let stmts = (func_body m own.ty own.entry).stmts in
    ap (λ (d : Option Definition). go_on p pending (begin d u machine (map state.Number args) below)) own.defined
    ∙ ap (λ (o : Option state.Vars). go_on p pending (elim o [
      | None ↦ Stops machine state.Stuck
      | Some vars ↦ next machine (record
          { unit = u; item = own.item; result = c_result_of own.ty.result; stmts = stmts; rest = stmts; vars = vars }) below
    ])) (first_vars_are m index own.item own.ty own.entry args fit)

-- ---- calls of a module's function

-- with no room it traps
full_follows : {p : Program} {s : link.LinkedSet} {count : ℕ} {pending : Pending} {below : List state.Frame} {u : ℕ} {m : link.NamedModule}
    {index : ℕ} (own : IsOwn p s u m index)
    {a : state.FuncAddress} {args : List Value} (n : ℕ) {depth : ℕ} {made : store.Store} {trail : Trail} {machine : state.Machine}
    → types_of args ≡ own.ty.params → PassesOn p wrapper_statements own.ty a (state.UnitFunc u (func_name index)) pending machine args below
    → Together p s count depth machine made trail → depth ≡ 1024
    → CallFollows p s count depth pending below own.ty (called p pending a machine args below) n
    (exec.CallStops (exec.Trapped trap.Exhaustion) made trail)
full_follows {p} {s} {count} {pending} {below} {u} {m} own {a} {args} n {depth} {machine} fit passes together full =
    let frames : List state.Frame = passes.frames ++ below in
    let g : Site = site_of p s count pending frames depth u m own.item own.ty own.entry in
    let vars : state.Vars = start_vars (context_of m.tree own.ty own.entry) own.entry args in
    let start : Progress = at g machine (stmts_of g.setting own.entry.code) vars in
    let from : Progress = called p pending a machine args below in
    let end : Progress = Over (over pending machine (Stopped (state.Trapped trap.Exhaustion))) in
    ends_by machine (state.Trapped trap.Exhaustion) refl together.agrees (join p passes.there 2 from start end
    (subst (λ x. Reaches p passes.there from x) (enters count pending frames depth own machine args fit) passes.calls)
    (too_deep g machine own.entry.code vars (omega (arith, full, together.depth_is)))) (omega (arith, passes.few))

-- with room its code is followed
code_follows : AllCodeFollows → {p : Program} {s : link.LinkedSet} → AreServed p s → {count : ℕ} (room : ℕ) (calls : exec.Calls)
    → CallsFollow p s count room calls
    → {pending : Pending} {below : List state.Frame} {u : ℕ} {m : link.NamedModule} {index : ℕ} → slice_get s.modules u ≡ Some m → u < count
    → (own : IsOwn p s u m index)
    → {a : state.FuncAddress} {args : List Value} (n : ℕ) {depth : ℕ} {made : store.Store} {trail : Trail} {machine : state.Machine}
    → types_of args ≡ own.ty.params → AllByRecursion IsNumber args
    → PassesOn p wrapper_statements own.ty a (state.UnitFunc u (func_name index)) pending machine args below
    → Together p s count depth machine made trail → suc depth + room ≡ 1024
    → CallFollows p s count depth pending below own.ty (called p pending a machine args below) n
    (exec.finish own.ty.result (exec.exec s calls u own.entry.code n []
    (record { locals = args ++ zeros (declared_locals own.entry.runs); store = made; trail = trail })))
code_follows all {p} {s} served {count} room calls calls_follow
    {pending} {below} {u} {m} {index} is early own {a} {args} n {depth} {made} {trail} {machine} fit numbers passes together sum =
    let ty : FuncType = own.ty in
    let entry : BodyEntry = own.entry in
    let code : Code = entry.code in
    let c : Context = context_of m.tree ty entry in
    let frames : List state.Frame = passes.frames ++ below in
    let g : Site = site_of p s count pending frames depth u m own.item ty entry in
    let vars : state.Vars = start_vars c entry args in
    let locals : List Value = args ++ zeros (declared_locals entry.runs) in
    let now : store.State = record { locals = locals; store = made; trail = trail } in
    let deeper : state.Machine = with_depth machine (suc machine.depth) in
    let from : Progress = called p pending a machine args below in
    let begun : Progress = at g machine (stmts_of g.setting code) vars in
    let start : Progress = at g deeper (code_stmts g.setting code ++ end_stmts ty.result code) vars in
    let places : BodyIsPlaced g.setting code = body_is_placed g.setting code own.within.labels in
    let site : IsSite g room calls = record {
      served = served;
      module_is = is;
      is_ready = early;
      room_is = sum;
      calls_follow = calls_follow;
      index = index;
      ty = ty;
      entry = entry;
      few_params = own.few;
      context_is = refl;
      body_is = refl;
      slots_are = λ t height. refl;
      element_is = refl;
      within = own.within;
    } in
    let there : IsThere g (λ test. any_in test code) = body_is_there g own.place (served.serve u m is) own.body_at refl in
    let around : Around g ty below from start = record {
      before = passes.there + 2;
      back = passes.back;
      few = omega (arith, passes.few);
      result_is = refl;
      comes = join p passes.there 2 from begun start (subst (λ x. Reaches p passes.there from x) (enters count pending
          frames depth own machine args fit) passes.calls) (begins g machine vars places refl (omega (arith, sum, together.depth_is)));
      gives = passes.gives;
    } in
    let target : IsTarget g [] (exit_target ty) = record {
      upper = [];
      lower = refl;
      height = refl;
      declared = λ t e. or_left (stands t 0 (values ty.result)) (occurs t 0 c [] code)
          (ap (λ (r : Option ValType). stands t 0 (values r)) e ∙ stands_top t []);
    } in
    let types : types_of locals ≡ c.locals = types_append args (zeros (declared_locals entry.runs))
    ∙ (rw (fit, zeros_types (declared_locals entry.runs)) refl) in
    let stands_now : StandsAt g [] now deeper vars = record {
      together = subst (λ d. Together p s count (suc depth) (with_depth machine d) made trail) (ap suc (sym together.depth_is))
          (with_depth_together p s count depth (suc depth) machine made trail together);
      variables = start_agrees c args own.within (omega (arith, own.few, ap length fit, types_many args)) numbers;
      local_types = types;
    } in
    let follows : Follows g 0 (exit_target ty ∷ []) (exit_target ty) [] (end_stmts ty.result code) (values ty.result) start n
    (exec.exec s calls u code n [] now) =
    all g room calls code site there (exit_target ty ∷ []) (exit_target ty) [] [] 2 n (end_stmts ty.result code)
    (values ty.result) now deeper vars
    own.valid (target, (λ e. places.exit (or_left (targets 0 code) (any_in is_return code) e)), tt) (record
    { target = target; found = λ e. places.exit (or_right (targets 0 code) (any_in is_return code) e); aim_is = refl; base_is = refl })
    (λ t height e. or_right (stands t height (values ty.result)) (occurs t height c [] code) e) (omega (arith, own.within.labels))
    own.within.numbers
    places.code_is
    stands_now in
    finish_follows around (omega (arith, sum)) code n (exec.exec s calls u code n [] now) follows

-- ---- all calls

passes_as : {p : Program} {s : link.LinkedSet} {f : link.FuncAddress} {a : state.FuncAddress} {ty : FuncType} (pending : Pending)
    (machine : state.Machine) (args : List Value) (below : List state.Frame) → StandsFor p s f a → link.func_type s f ≡ Some ty
    → types_of args ≡ ty.params → PassesOn p wrapper_statements ty a (core f) pending machine args below
passes_as {p} {f} {a} {ty} pending machine args below stands typed fit =
    let same : stands.ty ≡ ty = same_Some stands.ty ty (sym stands.ty_is ∙ typed) in
    subst (λ t. PassesOn p wrapper_statements t a (core f) pending machine args below) same
    (stands.passes pending machine args below (fit ∙ ap (λ t. t.params) (sym same)))

-- a function that can be called is one of a module
record Owned (p : Program) (s : link.LinkedSet) (u index : ℕ) (ty : FuncType) : Type 0 where
  m : link.NamedModule
  is : slice_get s.modules u ≡ Some m
  own : IsOwn p s u m index
  same : own.ty ≡ ty

owned : {p : Program} {s : link.LinkedSet} {count u index : ℕ} {ty : FuncType} → AreServed p s → IsFuncOf s count u index
    → link.func_type s (link.ModuleFunc u index) ≡ Some ty → Owned p s u index ty
owned {s} {u} {index} {ty} served func typed =
    let found = module_named s u func.tree_is in
    let own = own_is u served found.1 (subst (λ tree. IsDefined tree index) (sym found.2) func.defined) in
    record { m = found.0; is = found.1; own = own; same = same_Some own.ty ty (sym own.typed ∙ typed) }

host_call : {p : Program} {s : link.LinkedSet} → AreServed p s → {count : ℕ}
    (room h k : ℕ) {a : state.FuncAddress} {ty : FuncType} (args : List Value) (n : ℕ) {depth : ℕ} {made : store.Store} {trail : Trail}
    {machine : state.Machine} (pending : Pending) (below : List state.Frame)
    → link.func_type s (link.HostFunc h k) ≡ Some ty → StandsFor p s (link.HostFunc h k) a → types_of args ≡ ty.params
    → Together p s count depth machine made trail → CallFollows p s count depth pending below ty (called p pending a machine args below) n
    (exec.replied (link.func_type s (link.HostFunc h k)) trail.replies trail.events (record { host = h; function = k; args = args }) n made)
host_call {p} {s} served {count} room h k {a} {ty} args n {depth} {made} {trail} {machine} pending below typed stands fit together =
    subst (λ o. CallFollows p s count depth pending below ty (called p pending a machine args below)
    n (exec.replied o trail.replies trail.events (record { host = h; function = k; args = args }) n made))
    (sym typed) (host_follows h k n served.hosts typed fit (passes_as pending machine args below stands typed fit) together)

no_room : {p : Program} {s : link.LinkedSet} → AreServed p s → (count : ℕ) → CallsFollow p s count 0 (exec.call_within s 0)
no_room served count (link.HostFunc h k) a ty args n depth made trail machine pending below typed callable stands fit numbers together sum =
    host_call served 0 h k args n pending below typed stands fit together
no_room {p} {s} served
    count (link.ModuleFunc u index) a ty args n depth made trail machine pending below typed callable stands fit numbers together sum =
    let o = owned served callable typed in
    let passes = passes_as pending machine args below stands typed fit in
    subst (λ t. types_of args ≡ t.params → PassesOn p wrapper_statements t a (state.UnitFunc u (func_name index)) pending machine args below
    → CallFollows p s count depth pending below t (called p pending a machine args below) n (exec.CallStops (exec.Trapped trap.Exhaustion)
    made trail)) o.same (λ fits passing. full_follows o.own n fits passing together (omega (arith, sum))) fit passes

more_room : AllCodeFollows → {p : Program} {s : link.LinkedSet} → AreServed p s → (count room : ℕ)
    → CallsFollow p s count room (exec.call_within s room) → CallsFollow p s count (suc room) (exec.call_within s (suc room))
more_room all served count room before (link.HostFunc h k) a ty args n depth made trail machine pending
    below typed callable stands fit numbers together sum = host_call served (suc room) h k args n pending below typed stands fit together
more_room all {p} {s} served count room
    before (link.ModuleFunc u index) a ty args n depth made trail machine pending below typed callable stands fit numbers together sum =
    let o = owned served callable typed in
    let calls : exec.Calls = exec.call_within s room in
    let passes = passes_as pending machine args below stands typed fit in
    let entered : exec.enter s calls u (link.body_of s u index) (link.func_type s (link.ModuleFunc u index)) args n made trail ≡ exec.finish
    o.own.ty.result (exec.exec s calls u o.own.entry.code n [] (record
    { locals = args ++ zeros (declared_locals o.own.entry.runs); store = made; trail = trail })) = rw (o.own.code_is, o.own.typed) refl in
    subst (λ t. types_of args ≡ t.params → PassesOn p wrapper_statements t a (state.UnitFunc u (func_name index)) pending machine args below
    → CallFollows p s count depth pending below t (called p pending a machine args below)
    n (exec.enter s calls u (link.body_of s u index) (link.func_type s (link.ModuleFunc u index)) args n made trail)) o.same (λ fits
    passing. subst (λ c. CallFollows p s count depth pending below o.own.ty (called p pending a machine args below) n c) (sym entered)
    (code_follows all served room calls before o.is callable.early o.own n fits numbers passing together (omega (arith, sum)))) fit passes

pub bodies_follow : AllCodeFollows → BodiesFollow
bodies_follow all p s served count zero fits = no_room served count
bodies_follow all p s served count (suc room) fits =
    more_room all served count room (bodies_follow all p s served count room (omega (arith, fits)))
