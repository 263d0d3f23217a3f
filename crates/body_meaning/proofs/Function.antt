-- A function that is called: the test of the depth, the code, and the exit, against the module's function that is
-- entered and finished (WebAssembly Core 1.0, 4.4.7.1 invocation; C11, 6.9.1).
use Rattle.body_meaning.proofs.Common.{◌≡◌, ℕ, zero, suc, ◌+◌, ◌-◌, ◌%◌, ◌^◌, ◌<◌, ◌≤◌, Bool, true, false, List, [], ◌∷◌, ◌++◌}
use Rattle.body_meaning.proofs.Common.{if◌then◌else◌, nat_lt, Some, None, Option, sym, refl, ap, ◌∙◌, subst, append-nil, arith, le-ltb}
use Rattle.body_meaning.proofs.Common.{lt-ltb, same_Some, AllByRecursion, number_is_found, result_is_typed, named, IsNumber, equal_type}
use Rattle.body_meaning.proofs.Common.{is_result, type_of, types_of, FuncType, ValType, Value, I32, Code, values, of_its_type}
use Rattle.body_meaning.proofs.Common.{number_is_returned, join, step, c_result_of, with_depth, Reaches, Over, Progress, Stopped, over}
use Rattle.body_meaning.proofs.Common.{Next, Stops, after_label, c_step, VarsAgree, change_depth, code_stmts, give_back, names_exit}
use Rattle.body_meaning.proofs.Common.{stmts_of, entry_label, exit_label, exit_of, label_if, Arrives, Branches, CallFollows, ComesBack}
use Rattle.body_meaning.proofs.Common.{Follows, Site, Target, at, call_spare, labelled, state_at, label_name, slot, given, Setting}
use Rattle.w2c_base.specs.declared.value.ValType.TheVariants as type
use Rattle.w2c_base.specs.declared.value.Value.TheVariants.{I64}
use Rattle.w2c_base.specs.declared.trap.TrapKind.TheVariants as trap
use Rattle.c_tree.specs.declared.tree.COp.TheVariants as op
use Rattle.c_tree.specs.Tree as tree
use Rattle.c_tree.specs.Makers as makers
use Rattle.wasm_meaning.specs.Store as store
use Rattle.wasm_meaning.specs.Execution as exec
use Rattle.c_meaning.specs.State as state
use Rattle.c_meaning.specs.Step.{give, is_returned}
use Rattle.body_meaning.proofs.Past.{past_way}
use Rattle.body_meaning.proofs.Before.{labelled_twice, stops_before}
use Rattle.body_meaning.proofs.Jumps.{way_by}
use Rattle.body_meaning.proofs.Exits.{exit_stmts, end_stmts, BodyIsPlaced}
use Rattle.body_meaning.proofs.Gives.{slot_value}
use Rattle.alike.proofs.Store.{with_depth_together}

-- ---- the head

-- with room for one more the code is come to, one deeper
pub begins : (g : Site) (m : state.Machine) {code : Code} (vars : state.Vars) → BodyIsPlaced g.setting code
    → g.body.stmts ≡ stmts_of g.setting code → m.depth < 1024 → Reaches g.program 2 (at g m (stmts_of g.setting code) vars)
    (at g (with_depth m (suc m.depth)) (code_stmts g.setting code ++ end_stmts g.setting.context.result code) vars)
begins g m {code} vars placed stmts_are room =
    let behind : List tree.Stmt = code_stmts g.setting code ++ end_stmts g.setting.context.result code in
    let deeper : state.State = state_at g (with_depth m (suc m.depth)) behind vars in
    let up : (m.depth + 1) % 2 ^ 32 ≡ suc m.depth = omega (arith, room) in
    join g.program 1 1 _ (at g m (change_depth op.Add ∷ behind) vars) _
    (way_by g m _ vars {does = Next (state_at g m (change_depth op.Add ∷ behind) vars)}
    (rw (lt-ltb m.depth 1024 room, ap (after_label (label_name entry_label)) stmts_are ∙ placed.entry) refl))
    (way_by g m _ vars {does = Next deeper} (ap (λ (d : ℕ). Next (state_at g (with_depth m d) behind vars)) up))

-- without room it traps
pub too_deep : (g : Site) (m : state.Machine) (code : Code) (vars : state.Vars) → 1024 ≤ m.depth
    → Reaches g.program 2 (at g m (stmts_of g.setting code) vars) (Over (over g.pending m (Stopped (state.Trapped trap.Exhaustion))))
too_deep g m code vars full =
    let c : Setting = g.setting in
    let name : state.Name = label_name entry_label in
    let behind : List tree.Stmt = code_stmts c code ++ end_stmts c.context.result code in
    let stmts : List tree.Stmt = stmts_of c code in
    let first : List tree.Stmt = makers.trap trap.Exhaustion ∷ give_back c.context.result ∷ tree.Label name ∷ change_depth
    op.Add ∷ behind in
    let deep : nat_lt m.depth 1024 ≡ false = le-ltb m.depth 1024 full in
    let passes : c_step g.program (state_at g m stmts vars) ≡ Next (state_at g m first vars) = rw deep refl in
    join g.program 1 1 _ _ _ (way_by g m stmts vars passes) (step g.program g.pending _)

-- ---- the exit

-- the value of a function, where these values are kept
record Result (t : Option ValType) (kept : List Value) : Type 0 where
  value : Option Value
  typed : is_result t value ≡ true
  kept_is : kept ≡ exec.with_result value []

result_of : (t : Option ValType) (kept : List Value) → types_of kept ≡ values t → AllByRecursion IsNumber kept → Result t kept
result_of None [] e numbers = record { value = None; typed = refl; kept_is = refl }
result_of (Some type.I32) (I32 n ∷ []) e numbers =
    record { value = Some (I32 n); typed = number_is_found (I32 n) numbers.0; kept_is = refl }
result_of (Some type.I64) (I64 n ∷ []) e numbers =
    record { value = Some (I64 n); typed = number_is_found (I64 n) numbers.0; kept_is = refl }
result_of _ _ e numbers = absurd cc

value_returned : (g : Site) (m : state.Machine) (vars : state.Vars) {v : Value} → g.setting.context.result ≡ Some (type_of v)
    → named (slot (type_of v) 0) vars ≡ Some (state.Number v)
    → Reaches g.program 1 (at g m (give_back (Some (type_of v)) ∷ []) vars) (given g.program g.pending m (Some v) g.below)
value_returned g m vars {v} typed there =
    let code : List tree.Stmt = give_back (Some (type_of v)) ∷ [] in
    let r : state.Running = (state_at g m code vars).running in
    way_by g m code vars (rw (
      slot_value m r (type_of v) 0 there,
      ap (λ (t : Option ValType). is_returned (c_result_of t) (Some (state.Number v))) typed ∙ number_is_returned v,
    ) refl)

gives_back : (g : Site) (m : state.Machine) {vars : state.Vars} (t : Option ValType) (value : Option Value) {locals : List Value}
    → g.setting.context.result ≡ t → is_result t value ≡ true → VarsAgree g.slots g.has_element (exec.with_result value []) locals vars
    → Reaches g.program 1 (at g m (give_back t ∷ []) vars) (given g.program g.pending m value g.below)
gives_back g m {vars} None None is typed agree =
    way_by g m (tree.ReturnNone ∷ [])
    vars (ap (λ (t : Option ValType). if is_returned (c_result_of t) None then give m None g.below else Stops m state.Stuck) is)
gives_back g m {vars} (Some type.I32) (Some (I32 n)) is typed agree = value_returned g m vars is agree.stacked.0
gives_back g m {vars} (Some type.I64) (Some (I64 n)) is typed agree = value_returned g m vars is agree.stacked.0
gives_back g m _ _ is typed agree = absurd cc

-- the exit gives the value, at the depth of before
exit_gives : (g : Site) (m : state.Machine) {vars : state.Vars} {t : Option ValType} (value : Option Value) {locals : List Value} {d : ℕ}
    → g.setting.context.result ≡ t → is_result t value ≡ true
    → VarsAgree g.slots g.has_element (exec.with_result value []) locals vars → m.depth ≡ suc d → d < 1024
    → Reaches g.program 2 (at g m (exit_stmts t) vars) (given g.program g.pending (with_depth m d) value g.below)
exit_gives g m {vars} {t} value {d} is typed agree deep room =
    let down : (m.depth + (2 ^ 32 - 1)) % 2 ^ 32 ≡ d = omega (arith, deep, room) in
    let counts : c_step g.program (state_at g m (exit_stmts t) vars) ≡ Next (state_at g (with_depth m d) (give_back t ∷ []) vars) =
    ap (λ (k : ℕ). Next (state_at g (with_depth m k) (give_back t ∷ []) vars)) down in
    join g.program 1 1 _ _ _ (way_by g m _ vars counts) (gives_back g _ t value is typed agree)

-- ---- the end of a call

result_all : (t : Option ValType) (value : Option Value) → is_result t value ≡ true
    → exec.gives_all t (exec.with_result value []) ≡ Some value
result_all None None typed = refl
result_all (Some t) (Some v) typed = of_its_type t v (Some v) (same_Some t (type_of v) (result_is_typed (Some t) v typed))
result_all _ _ typed = absurd cc

result_top : (t : Option ValType) (stack : List Value) {kept : List Value} (value : Option Value) → exec.top t stack ≡ Some kept
    → kept ≡ exec.with_result value [] → is_result t value ≡ true → exec.gives_top t stack ≡ Some value
result_top None stack None e is typed = refl
result_top (Some t) (v ∷ stack) {kept} (Some w) e is typed = go (equal_type t (type_of v)) e
  where
    go : (b : Bool) → (if b then Some (v ∷ []) else None) ≡ Some kept → (if b then Some (Some v) else None) ≡ Some (Some w)
    go true e = let same : v ≡ w = cc in ap (λ (x : Value). Some (Some x)) same
    go false e = absurd cc
result_top _ _ _ e is typed = absurd cc

-- what stands around a function that is called: what comes before its code, and how its value comes to those who wait
pub record Around (g : Site) (ty : FuncType) (below : List state.Frame) (from start : Progress) : Type 0 where
  pub before : ℕ
  pub back : ℕ
  pub few : before + back ≤ 50
  pub result_is : g.setting.context.result ≡ ty.result
  pub comes : Reaches g.program before from start
  pub gives : (after : state.Machine) (value : Option Value) → is_result ty.result value ≡ true
      → Reaches g.program back (given g.program g.pending after value g.below) (given g.program g.pending after value below)

-- the run comes to the exit with the value, and so back
exit_comes_back : {g : Site} {ty : FuncType} {below : List state.Frame} {from start : Progress} → Around g ty below from start
    → g.depth < 1024 → {n left : ℕ} {kept : List Value} {now : store.State} (names : List state.Name)
    → Arrives g 0 (labelled names (exit_stmts ty.result)) start n left kept now
    → (r : Result ty.result kept) → ComesBack g.program g.linked g.count g.depth g.pending below ty from n left r.value now.store now.trail
exit_comes_back {g} {ty} {below} {from} {start} around room {now} names x r =
    let p = g.program in
    let machine = with_depth x.machine g.depth in
    let inner : Progress = given p g.pending machine r.value g.below in
    let outer : Progress = given p g.pending machine r.value below in
    let arrived : Progress = at g x.machine (labelled names (exit_stmts ty.result)) x.vars in
    let agree : VarsAgree g.slots g.has_element (exec.with_result r.value []) now.locals x.vars =
    subst (λ values. VarsAgree g.slots g.has_element values now.locals x.vars) r.kept_is x.stands.variables in
    let leaves : Reaches p 2 arrived inner =
    past_way g names (exit_gives g x.machine r.value around.result_is r.typed agree x.stands.together.depth_is room) in
    record {
      machine = machine;
      together = with_depth_together p g.linked g.count _ g.depth x.machine now.store now.trail x.stands.together;
      typed = r.typed;
      statements = around.before + (x.statements + (2 + around.back));
      way = join p around.before _ from start outer around.comes (join p x.statements
          _ start arrived outer x.way (join p 2 around.back arrived inner outer leaves (around.gives machine r.value r.typed)));
      paid = record { least = omega (arith, x.paid.least); most = omega (arith, x.paid.most, around.few) };
    }

abbrev pub exit_target : FuncType → Target
exit_target ty = record { aim = exit_of ty.result; base = []; rest = exit_stmts ty.result }

-- the exit's own label stands in front of it
to_exit : (names : List state.Name) (is_named : Bool) (rest : List tree.Stmt)
    → (more : List state.Name) × (labelled names (label_if is_named exit_label ++ rest) ≡ labelled more rest)
to_exit names true rest = (names ++ label_name exit_label ∷ [], labelled_twice names (label_name exit_label ∷ []) rest)
to_exit names false rest = (names, refl)

-- what the module's function comes to is followed by the call
pub finish_follows : {g : Site} {ty : FuncType} {below : List state.Frame} {from start : Progress} → Around g ty below from start
    → g.depth < 1024
    → (code : Code) (n : ℕ) (r : exec.Result) → Follows g 0 (exit_target ty ∷ []) (exit_target ty) [] (end_stmts ty.result code)
    (values ty.result) start n r → CallFollows g.program g.linked g.count g.depth g.pending below ty from n (exec.finish ty.result r)
finish_follows {g} {ty} {below} {from} {start} around room code n r h = go r h
  where
    -- a branch to the exit, or a return, keeps the value
    by_top : (left : ℕ) (stack : List Value) (now : store.State) → Branches g 0 (exit_target ty) start n left stack now
        → CallFollows g.program g.linked g.count g.depth g.pending below ty from n (exec.gave (exec.gives_top ty.result stack) left now)
    by_top left stack now b =
        let x : Arrives g 0 (exit_stmts ty.result) start n left b.kept now =
        subst (λ values. Arrives g 0 (exit_stmts ty.result) start n left values now) (append-nil b.kept) b.arrives in
        let r = result_of ty.result b.kept b.typed x.stands.variables.stack_numbers in
        let top : exec.gives_top ty.result stack ≡ Some r.value = result_top ty.result stack r.value b.kept_is r.kept_is r.typed in
        subst (λ o. CallFollows g.program g.linked g.count g.depth g.pending below ty from n (exec.gave o left now))
        (sym top) (exit_comes_back around room [] x r)

    go : (r : exec.Result) → Follows g 0 (exit_target ty ∷ []) (exit_target ty) [] (end_stmts ty.result code) (values ty.result) start n r
        → CallFollows g.program g.linked g.count g.depth g.pending below ty from n (exec.finish ty.result r)
    go (exec.Normal left stack now) h =
        let named = to_exit h.1 (names_exit code) (exit_stmts ty.result) in
        let x : Arrives g 0 (labelled named.0 (exit_stmts ty.result)) start n left stack now =
        subst (λ values. Arrives g 0 (labelled named.0 (exit_stmts ty.result)) start n left values now) (append-nil stack)
        (subst (λ rest. Arrives g 0 rest start n left (stack ++ []) now) named.1 h.2) in
        let r = result_of ty.result stack h.0 x.stands.variables.stack_numbers in
        let all : exec.gives_all ty.result stack ≡ Some r.value = ap (exec.gives_all ty.result) r.kept_is
        ∙ result_all ty.result r.value r.typed in
        subst (λ o. CallFollows g.program g.linked g.count g.depth g.pending below ty from n (exec.gave o left now))
        (sym all) (exit_comes_back around room named.0 x r)
    go (exec.Branch zero left stack now) h = by_top left stack now h
    go (exec.Branch (suc label) left stack now) h = absurd h
    go (exec.Returned left stack now) h = by_top left stack now h
    go (exec.Stops why now) h =
        stops_before g.linked g.pending 0 call_spare
        n n why now.store now.trail around.comes (record { least = omega arith; fewer = omega arith; most = omega (arith, around.few) }) h
