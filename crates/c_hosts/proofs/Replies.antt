-- The reply of a host, and what a statement that asks one comes to.
use Rattle.c_hosts.proofs.Common.{◌≡◌, Bool, true, false, List, [], ◌∷◌, ◌++◌, is_some, if◌then◌else◌, Some, None, Option, option_map}
use Rattle.c_hosts.proofs.Common.{bytes_eq, sym, refl, ap, ◌∙◌, subst, named, with_named, Event, Gave, Reply, equal_types, is_result}
use Rattle.c_hosts.proofs.Common.{types_of, FuncType, Value, Program, host_type, Stuck, Step, Stops, assign, assign_depth, depth_name, give}
use Rattle.c_hosts.proofs.Common.{in_unit, next, put_in, replied, with_vars, Naming, below_in, host_asked, machine_in, step_in, waiting_in}
use Rattle.c_hosts.proofs.Common.{HostCall, LinkedThread, IsOffered, hosts_of, offered, settled_in, HostFunction, HostModule}
use Rattle.std.specs.Prelude.{⊤}
use Rattle.w2c_base.specs.declared.value.Value.TheVariants.{I32, I64}
use Rattle.w2c_base.specs.Run as run
use Rattle.w2c_base.specs.Run.{Ask, Trail, asked}
use Rattle.c_meaning.specs.State.{Name, CValue, Number, Machine, Running, Frame as Waiting, Asks, of_one_type}
use Rattle.c_meaning.specs.Machine.{var_in, with_trail, with_var}
use Rattle.c_thread.specs.declared.linked.LinkedStep.{LinkedStep}
use Rattle.c_thread.specs.declared.linked.LinkedStep.TheVariants as step
use Rattle.c_hosts.proofs.Offers.{own_type, type_of_offered}

-- the statement stops at no ask
abbrev pub GoesOn : Step → Type 0
GoesOn (Stops m Asks) = ⊥
GoesOn o = ⊤

put_goes_on : (m : Machine) (held : Option CValue) (v : CValue) (does : Step) → GoesOn does → GoesOn (put_in m held v does)
put_goes_on m None v does on = tt
put_goes_on m (Some held) v does on = go (of_one_type held v)
  where
    go : (b : Bool) → GoesOn (if b then does else Stops m Stuck)
    go true = on
    go false = tt

depth_goes_on : (m : Machine) (r : Running) (v : CValue) (below : List Waiting) → GoesOn (assign_depth m r v below)
depth_goes_on m r (Number (I32 n)) below = tt
depth_goes_on m r (Number (I64 n)) below = tt
depth_goes_on m r _ below = tt

assign_goes_on : (m : Machine) (r : Running) (name : Name) (v : CValue) (below : List Waiting) → GoesOn (assign m r name v below)
assign_goes_on m r name v below = go (bytes_eq name depth_name) (is_some (named name r.vars))
  where
    go : (b c : Bool) → GoesOn (
        if b then assign_depth m r v below
        else (if c
        then put_in m (named name r.vars) v (next m (with_vars r (with_named name v r.vars)) below)
        else put_in m (var_in m (in_unit r name)) v (next (with_var m (in_unit r name) v) r below)))
    go true c = depth_goes_on m r v below
    go false true = put_goes_on m (named name r.vars) v (next m (with_vars r (with_named name v r.vars)) below) tt
    go false false = put_goes_on m (var_in m (in_unit r name)) v (next (with_var m (in_unit r name) v) r below) tt

pub give_goes_on : (m : Machine) (value : Option CValue) (below : List Waiting) → GoesOn (give m value below)
give_goes_on m value [] = tt
give_goes_on m value (f ∷ below) = go f.target value
  where
    go : (o : Option Name) (value : Option CValue) → GoesOn (elim o [
      | None ↦ next m f.running below
      | Some name ↦ elim value [ None ↦ Stops m Stuck | Some v ↦ assign m f.running name v below ]
    ])
    go None value = tt
    go (Some name) None = tt
    go (Some name) (Some v) = assign_goes_on m f.running name v below

-- with a value of the function's type
pub value_goes_on : (ty : FuncType) (value : Option Value) (later : List Reply) (told : List Event) (a : Ask) (m : Machine)
    (below : List Waiting)
    → is_result ty.result value ≡ true → GoesOn (replied ty (Gave value ∷ later) told a m below)
value_goes_on ty value later told a m below fits =
    subst GoesOn (sym (given fits)) (give_goes_on (with_trail m (asked told a (Some (Gave value)) later)) (option_map Number value) below)
  where
    given : is_result ty.result value ≡ true → replied ty (Gave value ∷ later) told a m below
        ≡ give (with_trail m (asked told a (Some (Gave value)) later)) (option_map Number value) below
    given e = rw e refl

-- a call that no host's function takes, and one that a host's function takes
module _ {H : Type 0} (d : HostModule H) (p : Program) (hosts : List H) (call : HostCall) (are : p.hosts ≡ hosts_of d hosts)
    (m : Machine) (below : List Waiting) where
  abbrev ask : Ask
  ask = record { host = call.host; function = call.function; args = call.args.items }

  abbrev typed : Option FuncType → Step
  typed o = elim o [
    | None ↦ Stops m Stuck
    | Some ty ↦
        if equal_types ty.params (types_of call.args.items) then replied ty m.trail.replies m.trail.events ask m below
        else Stops m Stuck
  ]

  by_type : host_asked p call m below ≡ typed (option_map (own_type d) (offered d hosts call))
  by_type = ap typed (type_of_offered d p hosts call are)

  pub not_offered : ((f : HostFunction) → IsOffered d hosts call f → ⊥) → host_asked p call m below ≡ Stops m Stuck
  not_offered none = by_type ∙ go (offered d hosts call) refl
    where
      go : (o : Option HostFunction) → offered d hosts call ≡ o → typed (option_map (own_type d) o) ≡ Stops m Stuck
      go None e = refl
      go (Some f) e = untaken (equal_types f.ty.params (types_of call.args.items)) refl
        where
          untaken : (b : Bool) → equal_types f.ty.params (types_of call.args.items) ≡ b
              → (if b then replied f.ty m.trail.replies m.trail.events ask m below else Stops m Stuck) ≡ Stops m Stuck
          untaken true fits = absurd (none f (e, fits))
          untaken false fits = refl

  pub is_offered : (f : HostFunction) → IsOffered d hosts call f → host_asked p call m below
      ≡ replied f.ty m.trail.replies m.trail.events ask m below
  is_offered f (found, fits) = by_type ∙ ap (λ o. typed (option_map (own_type d) o)) found
      ∙ ap (λ b. if b then replied f.ty m.trail.replies m.trail.events ask m below else Stops m Stuck) fits

-- a call that goes on where no reply is left has no function of its type
abbrev asking : Naming → Program → List Event → Ask → Option Reply → List Reply → HostCall → LinkedThread → Option FuncType → Step
asking names p told a r later call t o = elim o [
  | None ↦ Stops (machine_in names (asked told a r later) t) Stuck
  | Some ty ↦
      if equal_types ty.params (types_of call.args.items)
      then replied ty later (told ++ run.Asked a r ∷ []) (record { host = call.host; function = call.function; args = call.args.items })
      (machine_in names (asked told a r later) t) (waiting_in names p t.top ∷ below_in names p t.below.items)
      else Stops (machine_in names (asked told a r later) t) Stuck
]

no_second : (names : Naming) (p : Program) (told : List Event) (a : Ask) (r : Option Reply) (later : List Reply) (call : HostCall)
    (t : LinkedThread)
    (o : Option FuncType) → GoesOn (asking names p told a r [] call t o)
    → Stops (machine_in names (asked told a r later) t) Stuck ≡ asking names p told a r later call t o
no_second names p told a r later call t None on = refl
no_second names p told a r later call t (Some ty) on = go (equal_types ty.params (types_of call.args.items)) on
  where
    go : (b : Bool)
        → GoesOn (if b
        then replied ty [] (told ++ run.Asked a r ∷ []) (record { host = call.host; function = call.function; args = call.args.items })
        (machine_in names (asked told a r []) t) (waiting_in names p t.top ∷ below_in names p t.below.items)
        else Stops (machine_in names (asked told a r []) t) Stuck)
        → Stops (machine_in names (asked told a r later) t) Stuck
        ≡ (if b
        then replied ty later (told ++ run.Asked a r ∷ []) (record { host = call.host; function = call.function; args = call.args.items })
        (machine_in names (asked told a r later) t) (waiting_in names p t.top ∷ below_in names p t.below.items)
        else Stops (machine_in names (asked told a r later) t) Stuck)
    go true on = absurd on
    go false on = refl

-- a statement that goes on whatever is replied later asks no host a second time
pub settles : (names : Naming) (p : Program) (told : List Event) (a : Ask) (r : Option Reply) (later : List Reply) (o : LinkedStep)
    (t : LinkedThread)
    → ((replies : List Reply) → GoesOn (step_in names p (asked told a r replies) o t))
    → settled_in names p (asked told a r later) o t ≡ step_in names p (asked told a r later) o t
settles names p told a r later (step.Asks call) t on =
    no_second names p told a r later call t (host_type p call.host call.function) (on [])
settles names p told a r later _ t on = refl

pub asks_nothing : (names : Naming) (p : Program) (trail : Trail) (o : LinkedStep) (t : LinkedThread)
    → ((call : HostCall) → o ≡ step.Asks call → ⊥) → settled_in names p trail o t ≡ step_in names p trail o t
asks_nothing names p trail (step.Asks call) t not = absurd (not call refl)
asks_nothing names p trail _ t not = refl
