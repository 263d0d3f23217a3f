-- A statement that calls a function of its unit comes to the end of the call.
use Rattle.c_prelude.proofs.Common.{◌≡◌, ℕ, suc, List, ◌∷◌, slice_get, Some, None, Option, option_map, sym, ap, ◌∙◌, subst, arith, if_found}
use Rattle.c_prelude.proofs.Common.{Definition, Program, defined, definition_at, definition_of, external_func, func_named, Effect, Going}
use Rattle.c_prelude.proofs.Common.{Pending, Progress, go_on, CValue, Evaluated, Frame, FuncAddress, Machine, Name, Running, Stuck}
use Rattle.c_prelude.proofs.Common.{UnitFunc, Step, Stops, act, at_rest, begin, c_step, call, call_callee, place_of, take_effect}
use Rattle.c_prelude.proofs.Common.{with_value, CallComesBetween, CallComesTo, CallEnd, call_begun, call_ended}
use Rattle.std.specs.Option.{option_or}
use Rattle.c_tree.specs.Tree as tree
use Rattle.c_meaning.specs.Reaches.{Reaches}
use Rattle.c_meaning.proofs.Ways.{step, join_one}
use Rattle.c_prelude.specs.Statements.{Calls, StatementComesTo, StatementComesBetween}

-- a name that the unit defines stands for that definition
pub named_here : (p : Program) (u : ℕ) (name : Name) (d : Definition) → definition_at p u name ≡ Some d
    → func_named p u name ≡ Some (UnitFunc u name)
named_here p u name d = go (slice_get p.units u)
  where
    go : (found : Option (List tree.Item)) → if_found found (λ items. defined items name) ≡ Some d
        → if_found found (λ items. option_or (option_map (λ (d : Definition). UnitFunc u name) (defined items name))
        (external_func p name)) ≡ Some (UnitFunc u name)
    go None e = absurd cc
    go (Some items) e = ap (λ found. option_or (option_map (λ (d : Definition). UnitFunc u name) found) (external_func p name)) e

-- the statement begins the call
begins : (p : Program) (m : Machine) (r : Running) (target : Option Name) (f : tree.Func) (values : List CValue) (rest : List tree.Stmt)
    (below : List Frame)
    → (calls : Calls p m r target f values rest)
    → c_step p (record { machine = m; running = r; below = below })
    ≡ begin (definition_of (calls.item, tree.Function f)) r.unit m values (record { target = target; running = at_rest r rest } ∷ below)
begins p m r target f values rest below calls =
    let frames = record { target = target; running = at_rest r rest } ∷ below in
    let place = place_of r rest in
    let d : Definition = record { item = calls.item; func = f; body = calls.body } in
    let known : definition_of (calls.item, tree.Function f) ≡ Some d = ap
    (option_map (λ (body : tree.Body). record { item = calls.item; func = f; body = body })) calls.has_body in
    ap (λ stmts. act p m r stmts below) calls.next
    ∙ (ap (λ (v : Evaluated (List CValue)). with_value m place v (λ values. call_callee p (tree.Called f.name) place m r values frames))
    calls.evaluated
    ∙ (ap (λ (does : Option (List CValue → Machine → Effect)). elim does [
      | Some does ↦ take_effect (does values m) place m frames
      | None ↦ elim
          (func_named p r.unit f.name) [ None ↦ Stops m Stuck | Some g ↦ call p g m values frames ]
    ]) calls.is_no_primitive
    ∙ (ap (λ (found : Option FuncAddress). elim found [ None ↦ Stops m Stuck | Some g ↦ call p g m values frames ])
    (named_here p r.unit f.name d calls.defined)
    ∙ ap (λ (found : Option Definition). begin found r.unit m values frames) (calls.defined ∙ sym known))))

-- a way of the call is one statement more of the statement
behind : (p : Program) (pending : Pending) (n : ℕ) (m : Machine) (r : Running) (target : Option Name) (f : tree.Func)
    (values : List CValue) (rest : List tree.Stmt) (below : List Frame) (to : Progress)
    → (calls : Calls p m r target f values rest)
    → Reaches p n (call_begun p pending r.unit calls.item f m values (record { target = target; running = at_rest r rest } ∷ below)) to
    → Reaches p (suc n) (Going pending (record { machine = m; running = r; below = below })) to
behind p pending n m r target f values rest below to calls way =
    let from : Progress = Going pending (record { machine = m; running = r; below = below }) in
    let frames = record { target = target; running = at_rest r rest } ∷ below in
    let begun : Progress = call_begun p pending r.unit calls.item f m values frames in
    let first : Reaches p 1 from begun = subst (λ (s : Step). Reaches p 1 from (go_on p pending s))
    (begins p m r target f values rest below calls) (step p pending (record { machine = m; running = r; below = below })) in
    join_one p n from begun to first way

pub statement_comes_to : (p : Program) (pending : Pending) (most : ℕ) (m : Machine) (r : Running) (target : Option Name) (f : tree.Func)
    (values : List CValue) (rest : List tree.Stmt) (end : CallEnd) (below : List Frame)
    → Calls p m r target f values rest → CallComesTo most f values m end → StatementComesTo p pending most m r target rest end below
statement_comes_to p pending most m r target f values rest end below calls comes =
    let frames = record { target = target; running = at_rest r rest } ∷ below in
    record {
      statements = suc comes.statements;
      few = omega (arith, comes.few);
      way = behind p pending comes.statements m r target f values rest below (call_ended p pending end frames) calls
          (comes.way p pending r.unit calls.item frames);
    }

pub statement_comes_between : (p : Program) (pending : Pending) (least most : ℕ) (m : Machine) (r : Running) (target : Option Name)
    (f : tree.Func) (values : List CValue) (rest : List tree.Stmt) (end : CallEnd) (below : List Frame)
    → Calls p m r target f values rest → CallComesBetween least most f values m end
    → StatementComesBetween p pending least most m r target rest end below
statement_comes_between p pending least most m r target f values rest end below calls comes =
    let frames = record { target = target; running = at_rest r rest } ∷ below in
    record {
      statements = suc comes.statements;
      many = omega (arith, comes.many);
      few = omega (arith, comes.few);
      way = behind p pending comes.statements m r target f values rest below (call_ended p pending end frames) calls
          (comes.way p pending r.unit calls.item frames);
    }
