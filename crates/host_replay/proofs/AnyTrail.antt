-- A statement does the same whatever was told and whatever is replied, unless it asks a host.
use Rattle.host_replay.proofs.Common.{◌≡◌, ℕ, ◌+◌, ◌/◌, ◌%◌, ◌^◌, min, Bool, true, false, ◌||◌, ◌⊎◌, List, [], ◌∷◌, length, drop, is_some}
use Rattle.host_replay.proofs.Common.{if◌then◌else◌, nat_lt, nat_le, ◌==◌, slice_get, slice_set, Some, None, Option, find, bytes_eq, refl}
use Rattle.host_replay.proofs.Common.{ap, ◌∙◌, subst, inl, inr, AllByRecursion, by_test, named, Ask, Trail, equal_type, equal_types}
use Rattle.host_replay.proofs.Common.{number_of, type_of, types_of, FuncType, ValType, Value, Definition, Program, array_named}
use Rattle.host_replay.proofs.Common.{definition_at, func_named, func_type, host_type, memory_in, table_in, var_in, with_objects}
use Rattle.host_replay.proofs.Common.{with_trail, with_var, CValue, Frame, FuncAddress, FuncPointer, Machine, Number, Pointer, Stuck}
use Rattle.host_replay.proofs.Common.{Trapped}
use Rattle.w2c_base.specs.declared.value.ValType.TheVariants as type
use Rattle.w2c_base.specs.declared.value.Value.TheVariants.{I32, I64}
use Rattle.w2c_base.specs.Trap.{code_of}
use Rattle.c_tree.specs.Tree as tree
use Rattle.c_tree.specs.Runtime.{depth_name, same_func_type}
use Rattle.c_meaning.specs.State.{Name, UnitFunc, HostFunc, ObjectAddress, Memory, Table, Objects, Running, Place, Stop, Undefined}
use Rattle.c_meaning.specs.State.{Evaluated, Is, Bad, NoRule, then_evaluate, found, of_one_type}
use Rattle.c_meaning.specs.Operators.{operate}
use Rattle.c_meaning.specs.Primitives as prim
use Rattle.c_meaning.specs.Step as step

-- ---- what depends on the trail, by cases on what does not

pub either : {X : Type 0} (P : (Trail → X) → Type 0) (b : Bool) {x y : Trail → X} → P x → P y → P (λ t. if b then x t else y t)
either P true h k = h
either P false h k = k

pub there : {A X : Type 0} (P : (Trail → X) → Type 0) (o : Option A) {none : Trail → X} {some : A → Trail → X} → P none
    → ((a : A) → P (some a)) → P (λ t. elim o [ None ↦ none t | Some a ↦ some a t ])
there P None h k = h
there P (Some a) h k = k a

-- ---- objects

objects_free : (m : Machine) (u : ℕ) (change : Objects → Objects) (t : Trail)
    → with_objects (with_trail m t) u change ≡ with_trail (with_objects m u change) t
objects_free m u change t = by (slice_get m.units u)
  where
    by : (o : Option Objects) → ◌≡◌ {A = Machine} (elim o [
      | None ↦ with_trail m t
      | Some o ↦ record { depth = m.depth; units = slice_set m.units u (change o); trail = t }
    ]) (with_trail (elim o [
      | None ↦ m
      | Some o ↦ record { depth = m.depth; units = slice_set m.units u (change o); trail = m.trail }
    ]) t)
    by None = refl
    by (Some o) = refl

-- ---- primitives

abbrev effect_in : Trail → prim.Effect → prim.Effect
effect_in t (prim.Gives after value) = prim.Gives (with_trail after t) value
effect_in t (prim.Traps kind) = prim.Traps kind
effect_in t (prim.IsUndefined kind) = prim.IsUndefined kind
effect_in t prim.NoEffect = prim.NoEffect

abbrev FreeEffect : (Trail → prim.Effect) → Type 0
FreeEffect does = (o : prim.Effect) × ((t : Trail) → does t ≡ effect_in t o)

no_effect : FreeEffect (λ t. prim.NoEffect)
no_effect = (prim.NoEffect, λ t. refl)

undefined : (kind : ℕ) → FreeEffect (λ t. prim.IsUndefined kind)
undefined kind = (prim.IsUndefined kind, λ t. refl)

gives : (m : Machine) (value : Option CValue) → FreeEffect (λ t. prim.Gives (with_trail m t) value)
gives m value = (prim.Gives m value, λ t. refl)

changes : (m : Machine) (u : ℕ) (change : Objects → Objects) (value : Option CValue)
    → FreeEffect (λ t. prim.Gives (with_objects (with_trail m t) u change) value)
changes m u change value = (prim.Gives (with_objects m u change) value, λ t. ap (λ n. prim.Gives n value) (objects_free m u change t))

abbrev Body : Type 0
Body = List CValue → Machine → prim.Effect

abbrev IsFree : Body → Type 0
IsFree does = (args : List CValue) (m : Machine) → FreeEffect (λ t. does args (with_trail m t))

on_memory_free : (v : CValue) (m : Machine) (go : Trail → ObjectAddress → Memory → prim.Effect)
    → ((a : ObjectAddress) (memory : Memory) → FreeEffect (λ t. go t a memory)) → FreeEffect (λ t. prim.on_memory v (with_trail m t) (go t))
on_memory_free (Pointer None) m go h = undefined 4
on_memory_free (Pointer (Some a)) m go h = there FreeEffect (memory_in m a) no_effect (h a)
on_memory_free _ m go h = no_effect

on_table_free : (v : CValue) (m : Machine) (go : Trail → ObjectAddress → Table → prim.Effect)
    → ((a : ObjectAddress) (table : Table) → FreeEffect (λ t. go t a table)) → FreeEffect (λ t. prim.on_table v (with_trail m t) (go t))
on_table_free (Pointer None) m go h = undefined 4
on_table_free (Pointer (Some a)) m go h = there FreeEffect (table_in m a) no_effect (h a)
on_table_free _ m go h = no_effect

trap_free : IsFree prim.trap
trap_free (Number (I32 code) ∷ []) m =
    there FreeEffect (find (λ kind. code_of kind == code) prim.trap_kinds) (undefined 8) (λ kind. (prim.Traps kind, λ t. refl))
trap_free _ m = no_effect

mem_new_free : IsFree prim.mem_new
mem_new_free (pointer ∷ Number (I32 least) ∷ Number (I64 most) ∷ []) m =
    on_memory_free pointer m _ (λ a memory.
    either FreeEffect (memory.is_made || nat_lt 16384 least || nat_lt 4294967296 most) (undefined 8) (changes m a.unit _ None))
mem_new_free _ m = no_effect

mem_len_free : IsFree prim.mem_len
mem_len_free (pointer ∷ []) m = on_memory_free pointer m _ (λ a memory. gives m _)
mem_len_free _ m = no_effect

mem_max_free : IsFree prim.mem_max
mem_max_free (pointer ∷ []) m = on_memory_free pointer m _ (λ a memory. gives m _)
mem_max_free _ m = no_effect

mem_grow_free : IsFree prim.mem_grow
mem_grow_free (pointer ∷ Number (I32 more) ∷ []) m =
    on_memory_free pointer m _ (λ a memory.
    either FreeEffect (nat_le (length memory.bytes / 65536 + more) (min memory.max 16384)) (changes m a.unit _ _) (gives m _))
mem_grow_free _ m = no_effect

get_free : (width : ℕ) (ty : ValType) → IsFree (prim.get width ty)
get_free width ty (pointer ∷ Number (I64 place) ∷ []) m =
    on_memory_free pointer m _ (λ a memory.
    either FreeEffect (nat_le (place + width) (length memory.bytes)) (gives m _) (undefined 6))
get_free width ty _ m = no_effect

put_free : (width : ℕ) (ty : ValType) → IsFree (prim.put width ty)
put_free width ty (pointer ∷ Number (I64 place) ∷ Number v ∷ []) m =
    either FreeEffect (equal_type ty (type_of v))
    (on_memory_free pointer m _ (λ a memory.
    either FreeEffect (nat_le (place + width) (length memory.bytes)) (changes m a.unit _ None) (undefined 6))) no_effect
put_free width ty _ m = no_effect

tab_new_free : IsFree prim.tab_new
tab_new_free (pointer ∷ Number (I32 count) ∷ Number (I64 most) ∷ []) m =
    on_table_free pointer m _ (λ a table.
    either FreeEffect (table.is_made || nat_lt 1000000 count) (undefined 8) (changes m a.unit _ None))
tab_new_free _ m = no_effect

tab_len_free : IsFree prim.tab_len
tab_len_free (pointer ∷ []) m = on_table_free pointer m _ (λ a table. gives m _)
tab_len_free _ m = no_effect

tab_max_free : IsFree prim.tab_max
tab_max_free (pointer ∷ []) m = on_table_free pointer m _ (λ a table. gives m _)
tab_max_free _ m = no_effect

tab_sig_free : IsFree prim.tab_sig
tab_sig_free (pointer ∷ Number (I64 place) ∷ []) m = on_table_free pointer m _ (λ a table.
    there FreeEffect (slice_get table.elements place) (undefined 7) (λ element.
    there FreeEffect element (gives m _) (λ e. gives m _)))
tab_sig_free _ m = no_effect

tab_fn_free : IsFree prim.tab_fn
tab_fn_free (pointer ∷ Number (I64 place) ∷ []) m = on_table_free pointer m _ (λ a table.
    there FreeEffect (slice_get table.elements place) (undefined 7) (λ element. gives m _))
tab_fn_free _ m = no_effect

tab_set_free : IsFree prim.tab_set
tab_set_free (pointer ∷ Number (I64 place) ∷ FuncPointer func ∷ Number (I64 signature) ∷ []) m = on_table_free pointer m _ (λ a table.
    there FreeEffect func (undefined 4) (λ f.
    there FreeEffect (slice_get table.elements place) (undefined 7) (λ old.
    either FreeEffect (signature == 0) (undefined 8) (changes m a.unit _ None))))
tab_set_free _ m = no_effect

all_free : AllByRecursion (λ (e : Name × Body). IsFree e.1) prim.primitives
all_free = (trap_free, mem_free)
  where
    table_free : AllByRecursion (λ (e : Name × Body). IsFree e.1) (drop 13 prim.primitives)
    table_free = (tab_new_free, (tab_len_free, (tab_max_free, (tab_sig_free, (tab_fn_free, (tab_set_free, tt))))))

    put_all_free : AllByRecursion (λ (e : Name × Body). IsFree e.1) (drop 9 prim.primitives)
    put_all_free = (put_free 1 type.I32, (put_free 2 type.I32, (put_free 4 type.I32, (put_free 8 type.I64, table_free))))

    get_all_free : AllByRecursion (λ (e : Name × Body). IsFree e.1) (drop 5 prim.primitives)
    get_all_free = (get_free 1 type.I32, (get_free 2 type.I32, (get_free 4 type.I32, (get_free 8 type.I64, put_all_free))))

    mem_free : AllByRecursion (λ (e : Name × Body). IsFree e.1) (drop 1 prim.primitives)
    mem_free = (mem_new_free, (mem_len_free, (mem_max_free, (mem_grow_free, get_all_free))))

found_free : (name : Name) (bodies : List (Name × Body)) → AllByRecursion (λ (e : Name × Body). IsFree e.1) bodies
    → (does : Body) → named name bodies ≡ Some does → IsFree does
found_free name [] all does found = absurd cc
found_free name (e ∷ bodies) all does found = by_test (bytes_eq e.0 name)
    (λ is. subst IsFree (let f = rw is at found in let same : e.1 ≡ does = cc in same) all.0)
    (λ is. found_free name bodies all.1 does (rw is at found))

-- ---- expressions

evaluate_free : (p : Program) (m : Machine) (t : Trail) (r : Running) (e : tree.Expr)
    → step.evaluate p (with_trail m t) r e ≡ step.evaluate p m r e
evaluate_free p m t r (tree.At name index) =
    ap (λ x. then_evaluate x (λ i. then_evaluate (found (array_named p r.unit name)) (λ bytes. step.element bytes (number_of i))))
    (evaluate_free p m t r index)
evaluate_free p m t r (tree.To32 e) = ap (λ x. then_evaluate x (λ v. Is (I32 (number_of v % 2 ^ 32)))) (evaluate_free p m t r e)
evaluate_free p m t r (tree.To64 e) = ap (λ x. then_evaluate x (λ v. Is (I64 (number_of v)))) (evaluate_free p m t r e)
evaluate_free p m t r (tree.Op op left right) =
    λ i. then_evaluate (evaluate_free p m t r left i) (λ x. then_evaluate (evaluate_free p m t r right i) (λ y. operate op x y))
evaluate_free p m t r _ = refl

arg_free : (p : Program) (m : Machine) (t : Trail) (r : Running) (a : tree.Arg)
    → step.evaluate_arg p (with_trail m t) r a ≡ step.evaluate_arg p m r a
arg_free p m t r (tree.Value (tree.Name name)) = refl
arg_free p m t r (tree.Value e) = ap (λ x. then_evaluate x (λ v. Is (Number v))) (evaluate_free p m t r e)
arg_free p m t r _ = refl

args_free : (p : Program) (m : Machine) (t : Trail) (r : Running) (args : List tree.Arg)
    → step.evaluate_args p (with_trail m t) r args ≡ step.evaluate_args p m r args
args_free p m t r [] = refl
args_free p m t r (a ∷ args) =
    λ i. then_evaluate (arg_free p m t r a i) (λ v. then_evaluate (args_free p m t r args i) (λ values. Is (v ∷ values)))

-- ---- statements that ask nothing

-- the same step with this trail
abbrev pub in_trail : Trail → step.Step → step.Step
in_trail t (step.Next s) = step.Next (record { machine = with_trail s.machine t; running = s.running; below = s.below })
in_trail t (step.Back m value) = step.Back (with_trail m t) value
in_trail t (step.Stops m why) = step.Stops (with_trail m t) why

abbrev pub Free : (Trail → step.Step) → Type 0
Free does = (o : step.Step) × ((t : Trail) → does t ≡ in_trail t o)

stops : (m : Machine) (why : Stop) → Free (λ t. step.Stops (with_trail m t) why)
stops m why = (step.Stops m why, λ t. refl)

goes : (m : Machine) (r : Running) (below : List Frame) → Free (λ t. step.next (with_trail m t) r below)
goes m r below = (step.next m r below, λ t. refl)

assign_depth_free : (m : Machine) (r : Running) (v : CValue) (below : List Frame) → Free (λ t. step.assign_depth (with_trail m t) r v below)
assign_depth_free m r (Number (I32 n)) below = (step.assign_depth m r (Number (I32 n)) below, λ t. refl)
assign_depth_free m r _ below = stops m Stuck

put_in_free : (m : Machine) (held : Option CValue) (v : CValue) (does : Trail → step.Step) → Free does
    → Free (λ t. step.put_in (with_trail m t) held v (does t))
put_in_free m None v does h = stops m Stuck
put_in_free m (Some held) v does h = either Free (of_one_type held v) h (stops m Stuck)

put_var_free : (m : Machine) (a : ObjectAddress) (v : CValue) (r : Running) (below : List Frame)
    → Free (λ t. step.put_in (with_trail m t) (var_in m a) v (step.next (with_var (with_trail m t) a v) r below))
put_var_free m a v r below = put_in_free m (var_in m a) v _
    (step.next (with_var m a v) r below, λ t. ap (λ n. step.next n r below) (objects_free m a.unit _ t))

assign_free : (m : Machine) (r : Running) (name : Name) (v : CValue) (below : List Frame)
    → Free (λ t. step.assign (with_trail m t) r name v below)
assign_free m r name v below =
    either Free (bytes_eq name depth_name) (assign_depth_free m r v below)
    (either Free (is_some (named name r.vars)) (put_in_free m (named name r.vars) v _ (goes m _ below))
    (put_var_free m (step.in_unit r name) v r below))

pub give_free : (m : Machine) (value : Option CValue) (below : List Frame) → Free (λ t. step.give (with_trail m t) value below)
give_free m value [] = (step.Back m value, λ t. refl)
give_free m value (f ∷ below) = there Free f.target (goes m f.running below)
    (λ name. there Free value (stops m Stuck) (λ v. assign_free m f.running name v below))

returned_free : (m : Machine) (r : Running) (value : Option CValue) (below : List Frame)
    → Free (λ t. step.returned (with_trail m t) r value below)
returned_free m r value below = either Free (step.is_returned r.result value) (give_free m value below) (stops m Stuck)

jump_free : (m : Machine) (r : Running) (name : Name) (below : List Frame) → Free (λ t. step.jump (with_trail m t) r name below)
jump_free m r name below = there Free (step.after_label name r.stmts) (stops m Stuck) (λ rest. goes m (step.at_rest r rest) below)

begin_free : (d : Option Definition) (u : ℕ) (m : Machine) (args : List CValue) (below : List Frame)
    → Free (λ t. step.begin d u (with_trail m t) args below)
begin_free None u m args below = stops m Stuck
begin_free (Some d) u m args below = there Free (step.first_vars d args) (stops m Stuck) (λ vars. goes m _ below)

effect_free : (m : Machine) (place : Place) (below : List Frame) (does : Trail → prim.Effect) → FreeEffect does
    → Free (λ t. step.take_effect (does t) place (with_trail m t) below)
effect_free m place below does h =
    let taken = by h.0 in
    (taken.0, λ t. ap (λ o. step.take_effect o place (with_trail m t) below) (h.1 t) ∙ taken.1 t)
  where
    by : (o : prim.Effect) → Free (λ t. step.take_effect (effect_in t o) place (with_trail m t) below)
    by (prim.Gives after value) = give_free after value below
    by (prim.Traps kind) = stops m (Trapped kind)
    by (prim.IsUndefined kind) = stops m (Undefined kind place)
    by prim.NoEffect = stops m Stuck

-- ---- statements

-- a host's function is asked that is there, with arguments of its types
pub record Asking (p : Program) (does : Trail → step.Step) : Type 0 where
  pub ask : Ask
  pub ty : FuncType
  pub type_is : host_type p ask.host ask.function ≡ Some ty
  pub takes : equal_types ty.params (types_of ask.args) ≡ true
  pub machine : Machine
  pub below : List Frame
  pub is : (t : Trail) → does t ≡ step.replied ty t.replies t.events ask (with_trail machine t) below

-- what a statement does, over the trail in front of it
abbrev pub Does : Program → (Trail → step.Step) → Type 0
Does p does = Free does ⊎ Asking p does

does_as : (p : Program) (does other : Trail → step.Step) → ((t : Trail) → does t ≡ other t) → Does p other → Does p does
does_as p does other same (inl h) = inl (h.0, λ t. same t ∙ h.1 t)
does_as p does other same (inr h) = inr (record {
  ask = h.ask;
  ty = h.ty;
  type_is = h.type_is;
  takes = h.takes;
  machine = h.machine;
  below = h.below;
  is = λ t. same t ∙ h.is t;
})

with_value_does : (p : Program) {A : Type 0} (m : Machine) (place : Place) (e : Trail → Evaluated A) (always : Evaluated A)
    (go : Trail → A → step.Step)
    → ((t : Trail) → e t ≡ always) → ((a : A) → Does p (λ t. go t a)) → Does p (λ t. step.with_value (with_trail m t) place (e t) (go t))
with_value_does p {A} m place e always go same h =
    does_as p _ (λ t. step.with_value (with_trail m t) place always (go t))
    (λ t. ap (λ x. step.with_value (with_trail m t) place x (go t)) (same t)) (by always)
  where
    by : (x : Evaluated A) → Does p (λ t. step.with_value (with_trail m t) place x (go t))
    by (Is a) = h a
    by (Bad kind) = inl (stops m (Undefined kind place))
    by NoRule = inl (stops m Stuck)

ask_does : (p : Program) (h f : ℕ) (m : Machine) (args : List CValue) (below : List Frame)
    → Does p (λ t. step.ask p h f (with_trail m t) args below)
ask_does p h f m args below = by_type (host_type p h f) refl
  where
    by_type : (o : Option FuncType) → host_type p h f ≡ o → Does p (λ t. elim o [
      | None ↦ step.Stops (with_trail m t) Stuck
      | Some ty ↦ elim (step.numbers args) [
        | None ↦ step.Stops (with_trail m t) Stuck
        | Some values ↦
            if equal_types ty.params (types_of values)
            then step.replied ty t.replies t.events (record { host = h; function = f; args = values }) (with_trail m t) below
            else step.Stops (with_trail m t) Stuck
      ]
    ])
    by_type None is = inl (stops m Stuck)
    by_type (Some ty) is = there (Does p) (step.numbers args) (inl (stops m Stuck)) (λ values.
        by_types ty is values (equal_types ty.params (types_of values)) refl)
      where
        by_types : (ty : FuncType) → host_type p h f ≡ Some ty → (values : List Value) (b : Bool)
            → equal_types ty.params (types_of values) ≡ b → Does p (λ t.
            if b
            then step.replied ty t.replies t.events (record { host = h; function = f; args = values }) (with_trail m t) below
            else step.Stops (with_trail m t) Stuck)
        by_types ty is values true takes = inr (record {
          ask = record { host = h; function = f; args = values };
          ty = ty;
          type_is = is;
          takes = takes;
          machine = m;
          below = below;
          is = λ t. refl;
        })
        by_types ty is values false takes = inl (stops m Stuck)

pub call_does : (p : Program) (f : FuncAddress) (m : Machine) (args : List CValue) (below : List Frame)
    → Does p (λ t. step.call p f (with_trail m t) args below)
call_does p (UnitFunc u name) m args below = inl (begin_free (definition_at p u name) u m args below)
call_does p (HostFunc h f) m args below = ask_does p h f m args below

named_does : (p : Program) (u : ℕ) (name : Name) (place : Place) (m : Machine) (args : List CValue) (below : List Frame)
    → Does p (λ t. step.call_named p u name place (with_trail m t) args below)
named_does p u name place m args below = by (prim.primitive name) refl
  where
    by : (o : Option Body) → prim.primitive name ≡ o → Does p (λ t. elim o [
      | Some does ↦ step.take_effect (does args (with_trail m t)) place (with_trail m t) below
      | None ↦ elim (func_named p u name) [ None ↦ step.Stops (with_trail m t) Stuck | Some f ↦ step.call p f (with_trail m t) args below ]
    ])
    by (Some does) is = inl (effect_free m place below _ (found_free name prim.primitives all_free does is args m))
    by None is = there (Does p) (func_named p u name) (inl (stops m Stuck)) (λ f. call_does p f m args below)

through_does : (p : Program) (v : Option CValue) (want : tree.FuncType) (place : Place) (m : Machine) (args : List CValue)
    (below : List Frame) → Does p (λ t. step.call_through p v want place (with_trail m t) args below)
through_does p (Some (FuncPointer None)) want place m args below = inl (stops m (Undefined 4 place))
through_does p (Some (FuncPointer (Some f))) want place m args below =
    there (Does p) (func_type p f) (inl (stops m Stuck)) (λ ty.
    either (Does p) (same_func_type ty want) (call_does p f m args below) (inl (stops m (Undefined 5 place))))
through_does p _ want place m args below = inl (stops m Stuck)

callee_does : (p : Program) (callee : tree.Callee) (place : Place) (m : Machine) (r : Running) (args : List CValue)
    (below : List Frame) → Does p (λ t. step.call_callee p callee place (with_trail m t) r args below)
callee_does p (tree.Called name) place m r args below = named_does p r.unit name place m args below
callee_does p (tree.Through want name) place m r args below = through_does p (step.value_of m r name) want place m args below

pub act_does : (p : Program) (m : Machine) (r : Running) (rest : List tree.Stmt) (below : List Frame)
    → Does p (λ t. step.act p (with_trail m t) r rest below)
act_does p m r [] below = inl (stops m Stuck)
act_does p m r (tree.Label name ∷ rest) below = act_does p m r rest below
act_does p m r (tree.Null ∷ rest) below = inl (goes m (step.at_rest r rest) below)
act_does p m r (tree.Set name a ∷ rest) below =
    with_value_does p m (step.place_of r rest) (λ t. step.evaluate_arg p (with_trail m t) r a) (step.evaluate_arg p m r a) _
    (λ t. arg_free p m t r a) (λ v. inl (assign_free m (step.at_rest r rest) name v below))
act_does p m r (tree.SetStar name e ∷ rest) below =
    with_value_does p m (step.place_of r rest) (λ t. step.evaluate p (with_trail m t) r e) (step.evaluate p m r e) _
    (λ t. evaluate_free p m t r e) (λ v.
    with_value_does p m (step.place_of r rest) _ (then_evaluate (found (step.value_of m r name)) step.as_object) _ (λ t. refl)
    (λ a. inl (put_var_free m a (Number v) (step.at_rest r rest) below)))
act_does p m r (tree.Call target callee args ∷ rest) below =
    with_value_does p m (step.place_of r rest) (λ t. step.evaluate_args p (with_trail m t) r args) (step.evaluate_args p m r args) _
    (λ t. args_free p m t r args)
    (λ values. callee_does p callee (step.place_of r rest) m r values (record { target = target; running = step.at_rest r rest } ∷ below))
act_does p m r (tree.Goto name ∷ rest) below = inl (jump_free m r name below)
act_does p m r (tree.If op left right name ∷ rest) below =
    with_value_does p m (step.place_of r rest) (λ t. step.evaluate p (with_trail m t) r (tree.Op op left right))
    (step.evaluate p m r (tree.Op op left right)) _ (λ t. evaluate_free p m t r (tree.Op op left right)) (λ v.
    either (Does p) (number_of v == 0) (inl (goes m (step.at_rest r rest) below)) (inl (jump_free m r name below)))
act_does p m r (tree.Switch e cases default ∷ rest) below =
    with_value_does p m (step.place_of r rest) (λ t. step.evaluate p (with_trail m t) r e) (step.evaluate p m r e) _
    (λ t. evaluate_free p m t r e) (λ v. inl (jump_free m r (step.label_of v cases default) below))
act_does p m r (tree.ReturnNone ∷ rest) below = inl (returned_free m r None below)
act_does p m r (tree.Return a ∷ rest) below =
    with_value_does p m (step.place_of r rest) (λ t. step.evaluate_arg p (with_trail m t) r a) (step.evaluate_arg p m r a) _
    (λ t. arg_free p m t r a) (λ v. inl (returned_free m r (Some v) below))
