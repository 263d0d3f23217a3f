-- A host's call: both languages ask the same and take the same reply (WebAssembly Core 1.0, 4.4.7.3).
use Rattle.body_meaning.proofs.Common.{◌≡◌, ℕ, ◌+◌, ◌≤◌, Bool, true, false, List, [], ◌∷◌, ◌++◌, map, if◌then◌else◌, Some, None, Option}
use Rattle.body_meaning.proofs.Common.{option_map, sym, refl, ap, ◌∙◌, subst, arith, types_equal_themselves, Ask, Event, Gave, HostTrapped}
use Rattle.body_meaning.proofs.Common.{Reply, Trail, asked, equal_types, is_result, types_of, FuncType, Value, join, Program, host_type}
use Rattle.body_meaning.proofs.Common.{with_trail, Reaches, Pending, Progress, go_on, Step, Stops, CallFollows, Together, PassesOn, called}
use Rattle.body_meaning.proofs.Common.{given, wrapper_statements}
use Rattle.w2c_base.specs.declared.trap.TrapKind.TheVariants as trap
use Rattle.wasm_meaning.specs.LinkedSet as link
use Rattle.wasm_meaning.specs.Store as store
use Rattle.wasm_meaning.specs.Execution as exec
use Rattle.c_meaning.specs.State as state
use Rattle.c_meaning.specs.Step.{numbers, replied, give, ask}
use Rattle.alike.proofs.Store.{with_trail_together}
use Rattle.body_meaning.proofs.Before.{ends_by}

pub numbers_are_read : (args : List Value) → numbers (map state.Number args) ≡ Some args
numbers_are_read [] = refl
numbers_are_read (v ∷ args) = ap (option_map (λ (others : List Value). v ∷ others)) (numbers_are_read args)

-- where the run comes to the reply, both go on alike
reply_follows : {p : Program} {s : link.LinkedSet} {count depth : ℕ} (pending : Pending) (frames below : List state.Frame) (ty : FuncType)
    {there : ℕ} (back : ℕ) {from : Progress}
    (n : ℕ) {made : store.Store} {trail : Trail} {m : state.Machine} (replies : List Reply) (before : List Event) (a : Ask)
    → there + back ≤ wrapper_statements → Together p s count depth m made trail
    → Reaches p there from (go_on p pending (replied ty replies before a m frames))
    → ((after : state.Machine) (value : Option Value) → is_result ty.result value ≡ true
    → Reaches p back (given p pending after value frames) (given p pending after value below))
    → CallFollows p s count depth pending below ty from n (exec.replied (Some ty) replies before a n made)
reply_follows {p} {s} {count} {depth} pending frames below ty back n {made} {trail} {m} [] before a few together way gives =
    ends_by (with_trail m (asked before a None [])) state.Asks refl (with_trail_together p s count depth m made trail _ together).agrees
    way (omega (arith, few))
reply_follows {p} {s} {count} {depth} pending frames below ty back n {made} {trail} {m} (HostTrapped ∷ replies) before a few together
    way gives = ends_by (with_trail m (asked before a (Some HostTrapped) replies)) (state.Trapped trap.HostTrap) refl
    (with_trail_together p s count depth m made trail _ together).agrees way (omega (arith, few))
reply_follows {p} {s} {count} {depth} pending frames below ty {there}
    back {from} n {made} {trail} {m} (Gave result ∷ replies) before a few together way gives = by_type (is_result ty.result result) refl way
  where
    replied_so : Trail
    replied_so = asked before a (Some (Gave result)) replies

    unanswered : Trail
    unanswered = asked before a None replies

    by_type : (typed : Bool) → is_result ty.result result ≡ typed → Reaches p there from (go_on p pending (if typed
        then give (with_trail m replied_so) (option_map state.Number result) frames
        else Stops (with_trail m unanswered) state.Asks)) → CallFollows p s count depth pending below ty from n
        (if typed then exec.Back n result made replied_so else exec.CallStops exec.Asks made unanswered)
    by_type true typed way = record {
      machine = with_trail m replied_so;
      together = with_trail_together p s count depth m made trail replied_so together;
      typed = typed;
      statements = there + back;
      way = join p there back from _ _ way (gives (with_trail m replied_so) result typed);
      paid = record { least = omega arith; most = omega (arith, few) };
    }
    by_type false typed way = ends_by (with_trail m unanswered) state.Asks refl
        (with_trail_together p s count depth m made trail unanswered together).agrees way (omega (arith, few))

abbrev ask_of : ℕ → ℕ → List Value → Ask
ask_of h f args = record { host = h; function = f; args = args }

-- a host of the program is asked
asks_host : (p : Program) (s : link.LinkedSet) (h f : ℕ) {ty : FuncType} (m : state.Machine) (args : List Value) (frames : List state.Frame)
    → p.hosts ≡ s.hosts → link.func_type s (link.HostFunc h f) ≡ Some ty → types_of args ≡ ty.params
    → ask p h f m (map state.Number args) frames ≡ replied ty m.trail.replies m.trail.events (ask_of h f args) m frames
asks_host p s h f {ty} m args frames same typed fit = ap (λ (o : Option FuncType). elim o [
  | None ↦ Stops m state.Stuck
  | Some t ↦ elim (numbers (map state.Number args)) [
    | None ↦ Stops m state.Stuck
    | Some values ↦ answer t values
  ]
]) (type_here ∙ typed)
    ∙ ap (λ (o : Option (List Value)). elim o [ None ↦ Stops m state.Stuck | Some values ↦ answer ty values ]) (numbers_are_read args)
    ∙ ap (λ b. if b then replied ty m.trail.replies m.trail.events (ask_of h f args) m frames else Stops m state.Stuck)
    (ap (λ types. equal_types types (types_of args)) (sym fit) ∙ types_equal_themselves (types_of args))
  where
    answer : FuncType → List Value → Step
    answer t values =
        if equal_types t.params (types_of values)
        then replied t m.trail.replies m.trail.events (ask_of h f values) m frames
        else Stops m state.Stuck

    type_here : host_type p h f ≡ link.func_type s (link.HostFunc h f)
    type_here = rw same refl

-- a host's call through a function of C that passes its calls on
pub host_follows : {p : Program} {s : link.LinkedSet} {count depth : ℕ} {pending : Pending} {below : List state.Frame} {ty : FuncType}
    {a : state.FuncAddress} (h f : ℕ) {args : List Value} (n : ℕ) {made : store.Store} {trail : Trail} {m : state.Machine}
    → p.hosts ≡ s.hosts → link.func_type s (link.HostFunc h f) ≡ Some ty → types_of args ≡ ty.params
    → PassesOn p wrapper_statements ty a (state.HostFunc h f) pending m args below → Together p s count depth m made trail
    → CallFollows p s count depth pending below ty (called p pending a m args below) n
    (exec.replied (Some ty) trail.replies trail.events (record { host = h; function = f; args = args }) n made)
host_follows {p} {s} {pending} {below} {ty} {a} h f {args} n {trail} {m} same typed fit passes together =
    let frames : List state.Frame = passes.frames ++ below in
    let answered : ask p h f m (map state.Number args) frames ≡ replied ty trail.replies trail.events (ask_of h f args) m frames =
    asks_host p s h f m args frames same typed fit
    ∙ ap (λ (t : Trail). replied ty t.replies t.events (ask_of h f args) m frames) together.agrees.same_trail in
    reply_follows pending frames below ty passes.back n trail.replies trail.events (ask_of h f args) passes.few together
    (subst (λ (o : Step). Reaches p passes.there (called p pending a m args below) (go_on p pending o)) answered passes.calls) passes.gives
