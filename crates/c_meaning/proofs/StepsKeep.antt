-- What is so of a machine, and stays so whenever an object, the depth or the trail is changed, is so after a statement and after
-- a run. So a law of that kind is told by what these changes do, and a new statement of C needs one arm here.
use Rattle.c_meaning.proofs.Common.{◌≡◌, ℕ, zero, suc, ◌+◌, ◌/◌, min, Bool, true, false, ◌||◌, List, [], ◌∷◌, map, length, is_some}
use Rattle.c_meaning.proofs.Common.{if◌then◌else◌, nat_lt, nat_le, ◌==◌, slice_get, slice_set, Some, None, Option, option_map, find}
use Rattle.c_meaning.proofs.Common.{bytes_eq, sym, refl, ap, ◌∙◌, subst, AllByRecursion, ⊤, if_found, named, with_named, Ask, Call, Event}
use Rattle.c_meaning.proofs.Common.{Gave, HostTrapped, Init, Phase, Reply, Trail, asked, equal_type, equal_types, is_result, number_of}
use Rattle.c_meaning.proofs.Common.{type_of, types_of, FuncType, Value, I32, I64, same_func_type, Definition, Program, definition_at}
use Rattle.c_meaning.proofs.Common.{func_named, func_type, host_type, memory_in, table_in, var_in, with_depth, with_memory, with_objects}
use Rattle.c_meaning.proofs.Common.{with_table, with_trail, with_var, Entry, Going, Over, Pending, Progress, after, begin_entry, begun}
use Rattle.c_meaning.proofs.Common.{came_back, go_on, run_of, told_end, Bad, CValue, Evaluated, Frame, FuncAddress, FuncPointer, HostFunc}
use Rattle.c_meaning.proofs.Common.{Is, Machine, Memory, Name, NoRule, Number, ObjectAddress, Objects, Place, Pointer, Running, State}
use Rattle.c_meaning.proofs.Common.{Stuck, Table, UnitFunc, found, of_one_type, then_evaluate}
use Rattle.w2c_base.specs.declared.value.ValType.{ValType}
use Rattle.w2c_base.specs.declared.value.ValType.TheVariants as type
use Rattle.w2c_base.specs.Trap.{code_of}
use Rattle.c_tree.specs.Tree as tree
use Rattle.c_tree.specs.Runtime.{depth_name}
use Rattle.c_meaning.specs.Primitives as prim
use Rattle.c_meaning.specs.Step as step

-- ---- what holds whichever way a test goes, and whether or not something is there

pub either_way : {A : Type 0} (P : A → Type 0) (b : Bool) {x y : A} → P x → P y → P (if b then x else y)
either_way P true h k = h
either_way P false h k = k

pub there_or_not : {A B : Type 0} (P : B → Type 0) (o : Option A) {none : B} {some : A → B} → P none → ((a : A) → P (some a))
    → P (elim o [ None ↦ none | Some a ↦ some a ])
there_or_not P None h k = h
there_or_not P (Some a) h k = k a

-- .. with what was seen
pub whether : {A : Type 0} (P : A → Type 0) (b : Bool) {x y : A} → (b ≡ true → P x) → P y → P (if b then x else y)
whether P true h k = h refl
whether P false h k = k

pub where_there : {A B : Type 0} (P : B → Type 0) (o : Option A) {none : B} {some : A → B} → P none → ((a : A) → o ≡ Some a → P (some a))
    → P (elim o [ None ↦ none | Some a ↦ some a ])
where_there P None h k = h
where_there P (Some a) h k = k a refl

-- ---- the changes of a machine

-- It stays so when the depth or an object is changed; a variable gets a value of the type that it holds.
pub record KeptByObjects (P : Machine → Type 0) : Type 0 where
  pub depth : (m : Machine) (n : ℕ) → P m → P (with_depth m n)
  pub var : (m : Machine) (a : ObjectAddress) (old v : CValue) → var_in m a ≡ Some old → of_one_type old v ≡ true → P m
      → P (with_var m a v)
  pub memory : (m : Machine) (a : ObjectAddress) (new : Memory) → P m → P (with_memory m a new)
  pub table : (m : Machine) (a : ObjectAddress) (new : Table) → P m → P (with_table m a new)

-- what is asked of a host is of the function's type, and so is a value that it gives
pub record IsAsked (p : Program) (a : Ask) (reply : Option Reply) : Type 0 where
  pub ty : FuncType
  pub type_is : host_type p a.host a.function ≡ Some ty
  pub takes : equal_types ty.params (types_of a.args) ≡ true
  pub gives : (v : Option Value) → reply ≡ Some (Gave v) → is_result ty.result v ≡ true

-- It stays so when a host is asked, and when the end of a listed call is told.
abbrev pub KeptByAsks : Program → (Machine → Type 0) → Type 0
KeptByAsks p P = (m : Machine) (a : Ask) (reply : Option Reply) (replies : List Reply) → IsAsked p a reply → P m
    → P (with_trail m (asked m.trail.events a reply replies))

abbrev pub KeptByEnds : (Machine → Type 0) → Type 0
KeptByEnds P = (m : Machine) (value : Option Value) → P m → P (told_end m value)

-- what is said of the trail alone
pub trail_kept : (Q : Trail → Type 0) → KeptByObjects (λ m. Q m.trail)
trail_kept Q = record {
  depth = λ m n has. has;
  var = λ m a old v there same has. changed m a.unit _ has;
  memory = λ m a new has. changed m a.unit _ has;
  table = λ m a new has. changed m a.unit _ has;
}
  where
    changed : (m : Machine) (u : ℕ) (change : Objects → Objects) → Q m.trail → Q (with_objects m u change).trail
    changed m u change has = there_or_not (λ (x : Machine). Q x.trail) (slice_get m.units u) has (λ o. has)

-- what each unit's objects show, where a change of one of them shows the same
pub record ShownAlike {A : Type 0} (f : Objects → A) : Type 0 where
  pub var : (o : Objects) (name : Name) (old v : CValue) → named name o.vars ≡ Some old → of_one_type old v ≡ true
      → f (record { vars = with_named name v o.vars; memories = o.memories; tables = o.tables }) ≡ f o
  pub memory : (o : Objects) (name : Name) (new : Memory)
      → f (record { vars = o.vars; memories = with_named name new o.memories; tables = o.tables }) ≡ f o
  pub table : (o : Objects) (name : Name) (new : Table)
      → f (record { vars = o.vars; memories = o.memories; tables = with_named name new o.tables }) ≡ f o

pub names_of_entries : {A : Type 0} (name : Name) (new : A) (entries : List (Name × A))
    → map (λ (e : Name × A). e.0) (with_named name new entries) ≡ map (λ (e : Name × A). e.0) entries
names_of_entries name new [] = refl
names_of_entries {A} name new (e ∷ entries) = go (bytes_eq e.0 name) (names_of_entries name new entries)
  where
    go : (b : Bool) → map (λ (e : Name × A). e.0) (with_named name new entries) ≡ map (λ (e : Name × A). e.0) entries
        → map (λ (e : Name × A). e.0) (if b then (e.0, new) ∷ entries else e ∷ with_named name new entries)
        ≡ e.0 ∷ map (λ (e : Name × A). e.0) entries
    go true others = refl
    go false others = ap (λ names. e.0 ∷ names) others

set_same : {A B : Type 0} (f : A → B) (xs : List A) (i : ℕ) (x y : A) → slice_get xs i ≡ Some x → f y ≡ f x
    → map f (slice_set xs i y) ≡ map f xs
set_same f [] i x y found same = refl
set_same {A} f (x' ∷ xs) zero x y found same = let is : x ≡ x' = cc in ap (λ b. b ∷ map f xs) (same ∙ ap f is)
set_same f (x' ∷ xs) (suc i) x y found same = ap (λ bs. f x' ∷ bs) (set_same f xs i x y found same)

module _ {A : Type 0} (f : Objects → A) (alike : ShownAlike f) where
  changed_unit : (m : Machine) (u : ℕ) (change : Objects → Objects)
      → ((o : Objects) → slice_get m.units u ≡ Some o → f (change o) ≡ f o) → map f (with_objects m u change).units ≡ map f m.units
  changed_unit m u change h = go (slice_get m.units u) refl
    where
      go : (o : Option Objects) → slice_get m.units u ≡ o → map f (
          elim o as (λ x. Machine) [
            | None ↦ m
            | Some o ↦ record { depth = m.depth; units = slice_set m.units u (change o); trail = m.trail }
          ]
          ).units ≡ map f m.units
      go None found = refl
      go (Some o) found = set_same f m.units u o (change o) found (h o found)

  pub units_kept : (shown : List A) → KeptByObjects (λ m. map f m.units ≡ shown)
  units_kept shown = record {
    depth = λ m n has. has;
    var = λ m a old v there same has.
        changed_unit m a.unit _ (λ o found. alike.var o a.name old v
        (sym (ap (λ (x : Option Objects). if_found x (λ o. named a.name o.vars)) found) ∙ there) same) ∙ has;
    memory = λ m a new has. changed_unit m a.unit _ (λ o found. alike.memory o a.name new) ∙ has;
    table = λ m a new has. changed_unit m a.unit _ (λ o found. alike.table o a.name new) ∙ has;
  }

-- ---- primitives

abbrev EffectHas : (Machine → Type 0) → prim.Effect → Type 0
EffectHas P (prim.Gives after value) = P after
EffectHas P _ = ⊤

abbrev Body : Type 0
Body = List CValue → Machine → prim.Effect

module _ {P : Machine → Type 0} (kept : KeptByObjects P) (m : Machine) (has : P m) where
  abbrev Keeps : Body → Type 0
  Keeps does = (args : List CValue) → EffectHas P (does args m)

  on_memory : (v : CValue) (go : ObjectAddress → Memory → prim.Effect)
      → ((a : ObjectAddress) (memory : Memory) → EffectHas P (go a memory)) → EffectHas P (prim.on_memory v m go)
  on_memory (Pointer None) go h = tt
  on_memory (Pointer (Some a)) go h = there_or_not (EffectHas P) (memory_in m a) tt (h a)
  on_memory _ go h = tt

  on_table : (v : CValue) (go : ObjectAddress → Table → prim.Effect)
      → ((a : ObjectAddress) (table : Table) → EffectHas P (go a table)) → EffectHas P (prim.on_table v m go)
  on_table (Pointer None) go h = tt
  on_table (Pointer (Some a)) go h = there_or_not (EffectHas P) (table_in m a) tt (h a)
  on_table _ go h = tt

  trap : Keeps prim.trap
  trap (Number (I32 code) ∷ []) = there_or_not (EffectHas P) (find (λ kind. code_of kind == code) prim.trap_kinds) tt (λ kind. tt)
  trap _ = tt

  mem_new : Keeps prim.mem_new
  mem_new (pointer ∷ Number (I32 least) ∷ Number (I64 most) ∷ []) = on_memory pointer _ (λ a memory.
      either_way (EffectHas P) (memory.is_made || nat_lt 16384 least || nat_lt 4294967296 most) tt (kept.memory m a _ has))
  mem_new _ = tt

  mem_len : Keeps prim.mem_len
  mem_len (pointer ∷ []) = on_memory pointer _ (λ a memory. has)
  mem_len _ = tt

  mem_max : Keeps prim.mem_max
  mem_max (pointer ∷ []) = on_memory pointer _ (λ a memory. has)
  mem_max _ = tt

  mem_grow : Keeps prim.mem_grow
  mem_grow (pointer ∷ Number (I32 more) ∷ []) = on_memory pointer _ (λ a memory.
      either_way (EffectHas P) (nat_le (length memory.bytes / 65536 + more) (min memory.max 16384)) (kept.memory m a _ has) has)
  mem_grow _ = tt

  get : (width : ℕ) (t : ValType) → Keeps (prim.get width t)
  get width t (pointer ∷ Number (I64 place) ∷ []) = on_memory pointer _ (λ a memory.
      either_way (EffectHas P) (nat_le (place + width) (length memory.bytes)) has tt)
  get width t _ = tt

  put : (width : ℕ) (t : ValType) → Keeps (prim.put width t)
  put width t (pointer ∷ Number (I64 place) ∷ Number v ∷ []) =
      either_way (EffectHas P) (equal_type t (type_of v)) (on_memory pointer _ (λ a memory.
      either_way (EffectHas P) (nat_le (place + width) (length memory.bytes)) (kept.memory m a _ has) tt)) tt
  put width t _ = tt

  tab_new : Keeps prim.tab_new
  tab_new (pointer ∷ Number (I32 count) ∷ Number (I64 most) ∷ []) = on_table pointer _ (λ a table.
      either_way (EffectHas P) (table.is_made || nat_lt 1000000 count) tt (kept.table m a _ has))
  tab_new _ = tt

  tab_len : Keeps prim.tab_len
  tab_len (pointer ∷ []) = on_table pointer _ (λ a table. has)
  tab_len _ = tt

  tab_max : Keeps prim.tab_max
  tab_max (pointer ∷ []) = on_table pointer _ (λ a table. has)
  tab_max _ = tt

  tab_sig : Keeps prim.tab_sig
  tab_sig (pointer ∷ Number (I64 place) ∷ []) = on_table pointer _ (λ a table.
      there_or_not (EffectHas P) (slice_get table.elements place) tt (λ element. there_or_not (EffectHas P) element has (λ e. has)))
  tab_sig _ = tt

  tab_fn : Keeps prim.tab_fn
  tab_fn (pointer ∷ Number (I64 place) ∷ []) = on_table pointer _ (λ a table.
      there_or_not (EffectHas P) (slice_get table.elements place) tt (λ element. has))
  tab_fn _ = tt

  tab_set : Keeps prim.tab_set
  tab_set (pointer ∷ Number (I64 place) ∷ FuncPointer func ∷ Number (I64 signature) ∷ []) = on_table pointer _ (λ a table.
      there_or_not (EffectHas P) func tt (λ f.
      there_or_not (EffectHas P) (slice_get table.elements place) tt (λ old.
      either_way (EffectHas P) (signature == 0) tt (kept.table m a _ has))))
  tab_set _ = tt

  all_keep : AllByRecursion (λ (e : Name × Body). Keeps e.1) prim.primitives
  all_keep = (
    trap,
    (
      mem_new,
      (
        mem_len,
        (
          mem_max,
          (
            mem_grow,
            (
              get 1 type.I32,
              (
                get 2 type.I32,
                (
                  get 4 type.I32,
                  (
                    get 8 type.I64,
                    (
                      put 1 type.I32,
                      (
                        put 2 type.I32,
                        (
                          put 4 type.I32,
                          (put 8 type.I64, (tab_new, (tab_len, (tab_max, (tab_sig, (tab_fn, (tab_set, tt))))))),
                        ),
                      ),
                    ),
                  ),
                ),
              ),
            ),
          ),
        ),
      ),
    ),
  )

  found_keeps : (name : Name) (bodies : List (Name × Body)) → AllByRecursion (λ (e : Name × Body). Keeps e.1) bodies
      → (does : Body) → named name bodies ≡ Some does → Keeps does
  found_keeps name [] all does found = absurd (cc)
  found_keeps name (e ∷ bodies) all does found = go (bytes_eq e.0 name) found (found_keeps name bodies all.1 does)
    where
      go : (b : Bool) → (if b then Some e.1 else named name bodies) ≡ Some does → (named name bodies ≡ Some does → Keeps does)
          → Keeps does
      go true is others = subst Keeps (let same : e.1 ≡ does = cc in same) all.0
      go false is others = others is

  pub primitive_keeps : (name : Name) (does : Body) → prim.primitive name ≡ Some does → Keeps does
  primitive_keeps name does found = found_keeps name prim.primitives all_keep does found

-- ---- statements

abbrev pub machine_of : step.Step → Machine
machine_of (step.Next s) = s.machine
machine_of (step.Back m value) = m
machine_of (step.Stops m why) = m

-- It is so of the machine that a step comes to.
abbrev pub StepHas : (Machine → Type 0) → step.Step → Type 0
StepHas P o = P (machine_of o)

with_keeps : {A : Type 0} (P : Machine → Type 0) (m : Machine) (place : Place) (e : Evaluated A) (go : A → step.Step) → P m
    → ((a : A) → StepHas P (go a)) → StepHas P (step.with_value m place e go)
with_keeps P m place (Is a) go has h = h a
with_keeps P m place (Bad kind) go has h = has
with_keeps P m place NoRule go has h = has

module _ {P : Machine → Type 0} (kept : KeptByObjects P) (m : Machine) where
  assign_depth_keeps : (r : Running) (v : CValue) (below : List Frame) → P m → StepHas P (step.assign_depth m r v below)
  assign_depth_keeps r (Number (I32 n)) below has = kept.depth m n has
  assign_depth_keeps r (Number (I64 n)) below has = has
  assign_depth_keeps r _ below has = has

  -- what is done where a value of the type is held
  put_keeps : (held : Option CValue) (v : CValue) (does : step.Step) → P m
      → ((old : CValue) → held ≡ Some old → of_one_type old v ≡ true → StepHas P does) → StepHas P (step.put_in m held v does)
  put_keeps None v does has h = has
  put_keeps (Some old) v does has h = go (of_one_type old v) refl
    where
      go : (b : Bool) → of_one_type old v ≡ b → StepHas P (if b then does else step.Stops m Stuck)
      go true same = h old refl same
      go false same = has

  pub put_var_keeps : (a : ObjectAddress) (v : CValue) (r : Running) (below : List Frame) → P m
      → StepHas P (step.put_in m (var_in m a) v (step.next (with_var m a v) r below))
  put_var_keeps a v r below has = put_keeps (var_in m a) v _ has (λ old there same. kept.var m a old v there same has)

  pub assign_keeps : (r : Running) (name : Name) (v : CValue) (below : List Frame) → P m → StepHas P (step.assign m r name v below)
  assign_keeps r name v below has =
      either_way (StepHas P) (bytes_eq name depth_name) (assign_depth_keeps r v below has)
      (either_way (StepHas P) (is_some (named name r.vars)) (put_keeps (named name r.vars) v _ has (λ old there same. has))
      (put_var_keeps (step.in_unit r name) v r below has))

  pub give_keeps : (value : Option CValue) (below : List Frame) → P m → StepHas P (step.give m value below)
  give_keeps value [] has = has
  give_keeps value (f ∷ below) has = there_or_not (StepHas P) f.target has
      (λ name. there_or_not (StepHas P) value has (λ v. assign_keeps f.running name v below has))

  pub returned_keeps : (r : Running) (value : Option CValue) (below : List Frame) → P m → StepHas P (step.returned m r value below)
  returned_keeps r value below has =
      either_way (StepHas P) (step.is_returned r.result value) (give_keeps value below has) has

pub jump_keeps : (P : Machine → Type 0) (m : Machine) (r : Running) (name : Name) (below : List Frame) → P m
    → StepHas P (step.jump m r name below)
jump_keeps P m r name below has = there_or_not (StepHas P) (step.after_label name r.stmts) has (λ rest. has)

pub begin_keeps : (P : Machine → Type 0) (d : Option Definition) (u : ℕ) (m : Machine) (args : List CValue) (below : List Frame)
    → P m → StepHas P (step.begin d u m args below)
begin_keeps P None u m args below has = has
begin_keeps P (Some d) u m args below has = there_or_not (StepHas P) (step.first_vars d args) has (λ vars. has)

module _ (p : Program) {P : Machine → Type 0} (kept : KeptByObjects P) (asks : KeptByAsks p P) where
  replied_keeps : (ty : FuncType) (replies : List Reply) (a : Ask) (m : Machine) (below : List Frame)
      → host_type p a.host a.function ≡ Some ty → equal_types ty.params (types_of a.args) ≡ true → P m
      → StepHas P (step.replied ty replies m.trail.events a m below)
  replied_keeps ty replies a m below type_is takes has = go replies
    where
      of_type : (reply : Option Reply) → ((v : Option Value) → reply ≡ Some (Gave v) → is_result ty.result v ≡ true) → IsAsked p a reply
      of_type reply gives = record { ty = ty; type_is = type_is; takes = takes; gives = gives }

      none : IsAsked p a None
      none = of_type None (λ v e. absurd cc)

      go : (replies : List Reply) → StepHas P (step.replied ty replies m.trail.events a m below)
      go [] = asks m a None [] none has
      go (HostTrapped ∷ replies) = asks m a (Some HostTrapped) replies (of_type (Some HostTrapped) (λ v e. absurd cc)) has
      go (Gave result ∷ replies) = whether (StepHas P) (is_result ty.result result)
          (λ is. give_keeps kept (with_trail m (asked m.trail.events a (Some (Gave result)) replies)) (option_map Number result) below
          (asks m a (Some (Gave result)) replies (of_type (Some (Gave result)) (λ v e. let same : result ≡ v = cc in
          subst (λ v. is_result ty.result v ≡ true) same is)) has))
          (asks m a None replies none has)

  ask_keeps : (h f : ℕ) (m : Machine) (args : List CValue) (below : List Frame) → P m → StepHas P (step.ask p h f m args below)
  ask_keeps h f m args below has = where_there (StepHas P) (host_type p h f) has (λ ty type_is.
      there_or_not (StepHas P) (step.numbers args) has (λ values.
      whether (StepHas P) (equal_types ty.params (types_of values)) (λ takes.
      replied_keeps ty m.trail.replies (record { host = h; function = f; args = values }) m below type_is takes has) has))

  pub call_keeps : (f : FuncAddress) (m : Machine) (args : List CValue) (below : List Frame) → P m
      → StepHas P (step.call p f m args below)
  call_keeps (UnitFunc u name) m args below has = begin_keeps P (definition_at p u name) u m args below has
  call_keeps (HostFunc h f) m args below has = ask_keeps h f m args below has

  effect_keeps : (o : prim.Effect) (place : Place) (m : Machine) (below : List Frame) → P m → EffectHas P o
      → StepHas P (step.take_effect o place m below)
  effect_keeps (prim.Gives after value) place m below has does = give_keeps kept after value below does
  effect_keeps _ place m below has does = has

  named_keeps : (u : ℕ) (name : Name) (place : Place) (m : Machine) (args : List CValue) (below : List Frame) → P m
      → StepHas P (step.call_named p u name place m args below)
  named_keeps u name place m args below has = go (prim.primitive name) refl
    where
      go : (o : Option (List CValue → Machine → prim.Effect)) → prim.primitive name ≡ o → StepHas P (elim o [
        | Some does ↦ step.take_effect (does args m) place m below
        | None ↦ elim (func_named p u name) [ None ↦ step.Stops m Stuck | Some f ↦ step.call p f m args below ]
      ])
      go (Some does) is = effect_keeps (does args m) place m below has (primitive_keeps kept m has name does is args)
      go None is = there_or_not (StepHas P) (func_named p u name) has (λ f. call_keeps f m args below has)

  through_keeps : (v : Option CValue) (want : tree.FuncType) (place : Place) (m : Machine) (args : List CValue) (below : List Frame)
      → P m → StepHas P (step.call_through p v want place m args below)
  through_keeps (Some (FuncPointer None)) want place m args below has = has
  through_keeps (Some (FuncPointer (Some f))) want place m args below has = there_or_not (StepHas P) (func_type p f) has (λ ty.
      either_way (StepHas P) (same_func_type ty want) (call_keeps f m args below has) has)
  through_keeps _ want place m args below has = has

  callee_keeps : (callee : tree.Callee) (place : Place) (m : Machine) (r : Running) (args : List CValue) (below : List Frame) → P m
      → StepHas P (step.call_callee p callee place m r args below)
  callee_keeps (tree.Called name) place m r args below has = named_keeps r.unit name place m args below has
  callee_keeps (tree.Through want name) place m r args below has = through_keeps (step.value_of m r name) want place m args below has

  act_keeps : (m : Machine) (r : Running) (rest : List tree.Stmt) (below : List Frame) → P m → StepHas P (step.act p m r rest below)
  act_keeps m r [] below has = has
  act_keeps m r (tree.Label name ∷ rest) below has = act_keeps m r rest below has
  act_keeps m r (tree.Null ∷ rest) below has = has
  act_keeps m r (tree.Set name a ∷ rest) below has = with_keeps P m (step.place_of r rest) (step.evaluate_arg p m r a) _ has
      (λ v. assign_keeps kept m (step.at_rest r rest) name v below has)
  act_keeps m r (tree.SetStar name e ∷ rest) below has = with_keeps P m (step.place_of r rest) (step.evaluate p m r e) _ has (λ v.
      with_keeps P m (step.place_of r rest) (then_evaluate (found (step.value_of m r name)) step.as_object) _ has (λ a.
      put_var_keeps kept m a (Number v) (step.at_rest r rest) below has))
  act_keeps m r (tree.Call target callee args ∷ rest) below has = with_keeps P m (step.place_of r rest)
      (step.evaluate_args p m r args) _ has
      (λ values. callee_keeps callee (step.place_of r rest) m r values
      (record { target = target; running = step.at_rest r rest } ∷ below) has)
  act_keeps m r (tree.Goto name ∷ rest) below has = jump_keeps P m r name below has
  act_keeps m r (tree.If op left right name ∷ rest) below has =
      with_keeps P m (step.place_of r rest) (step.evaluate p m r (tree.Op op left right)) _ has (λ v.
      either_way (StepHas P) (number_of v == 0) has (jump_keeps P m r name below has))
  act_keeps m r (tree.Switch e cases default ∷ rest) below has = with_keeps P m (step.place_of r rest) (step.evaluate p m r e) _ has
      (λ v. jump_keeps P m r (step.label_of v cases default) below has)
  act_keeps m r (tree.ReturnNone ∷ rest) below has = returned_keeps kept m r None below has
  act_keeps m r (tree.Return a ∷ rest) below has = with_keeps P m (step.place_of r rest) (step.evaluate_arg p m r a) _ has
      (λ v. returned_keeps kept m r (Some v) below has)

  -- one statement
  pub steps_keep : (s : State) → P s.machine → StepHas P (step.c_step p s)
  steps_keep s has = act_keeps s.machine s.running s.running.rest s.below has

-- ---- runs

-- It is so of what a run has told that is left where it stands, and of its objects.
abbrev pub RunHas : (List Event → List Objects → Type 0) → Progress → Type 0
RunHas Q x = Q (run_of x).events (run_of x).units

abbrev pub OfMachine : (List Event → List Objects → Type 0) → Machine → Type 0
OfMachine Q m = Q m.trail.events m.units

module _ (p : Program) (Q : List Event → List Objects → Type 0) (kept : KeptByObjects (OfMachine Q))
    (asks : KeptByAsks p (OfMachine Q)) (ends : KeptByEnds (OfMachine Q)) where
  begun_keeps : (pending : Pending) (o : step.Step) → StepHas (OfMachine Q) o → RunHas Q (begun pending o)
  begun_keeps pending (step.Next s) has = has
  begun_keeps pending _ has = has

  pub entry_keeps : (m : Machine) (last : Phase) (entries : List Entry) → OfMachine Q m → RunHas Q (begin_entry p m last entries)
  entry_keeps m last [] has = has
  entry_keeps m last (e ∷ entries) has = there_or_not (RunHas Q) e.func has (λ f.
      begun_keeps (record { phase = e.phase; entries = entries }) (step.call p f m (map Number e.args) [])
      (call_keeps p kept asks f m (map Number e.args) [] has))

  back_keeps : (pending : Pending) (m : Machine) (phase : Phase) (value : Option CValue) → OfMachine Q m
      → RunHas Q (came_back p pending m phase value)
  back_keeps pending m (Init k) None has = entry_keeps m (Init k) pending.entries has
  back_keeps pending m (Call k) None has = entry_keeps (told_end m None) (Call k) pending.entries (ends m None has)
  back_keeps pending m (Call k) (Some (Number v)) has = entry_keeps (told_end m (Some v)) (Call k) pending.entries (ends m (Some v) has)
  back_keeps pending m _ (Some _) has = has

  on_keeps : (pending : Pending) (o : step.Step) → StepHas (OfMachine Q) o → RunHas Q (go_on p pending o)
  on_keeps pending (step.Back m value) has = back_keeps pending m pending.phase value has
  on_keeps pending _ has = has

  pub after_keeps : (n : ℕ) (x : Progress) → RunHas Q x → RunHas Q (after p n x)
  after_keeps zero x has = has
  after_keeps (suc n) (Over run) has = has
  after_keeps (suc n) (Going pending s) has = after_keeps n (go_on p pending (step.c_step p s))
      (on_keeps pending (step.c_step p s) (steps_keep p kept asks s has))
