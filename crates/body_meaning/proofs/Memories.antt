-- The instructions on the memory are followed by their statements.
use Rattle.body_meaning.proofs.Common.{◌≡◌, ℕ, zero, suc, ◌+◌, ◌*◌, ◌/◌, ◌^◌, ◌<◌, ◌≤◌, min, Bool, true, false, List, [], ◌∷◌, ◌++◌, length}
use Rattle.body_meaning.proofs.Common.{take, drop, replicate, if◌then◌else◌, nat_le, Some, None, codes, Option, unwrap_or, sym, refl, ap}
use Rattle.body_meaning.proofs.Common.{◌∙◌, subst, arith, length-append, length-drop, length-take, nat_tests, length-replicate, none-some}
use Rattle.body_meaning.proofs.Common.{same_Some, AllByRecursion, all_append, type_equals_itself, low_bytes, with_bytes, named, equal_type}
use Rattle.body_meaning.proofs.Common.{number_of, type_of, types_of, value, ValType, Value, I32, load_access, store_access, Load, Store, Is}
use Rattle.body_meaning.proofs.Common.{MemoryGrow, MemorySize, MemArg, LoadOp, StoreOp, load_typing, store_typing, Stack, TurnsAsTabled, at}
use Rattle.body_meaning.proofs.Common.{table_type, load_fits, LinkedSet, memory_at, load_number, store_number, Gives, Effect, NoEffect}
use Rattle.body_meaning.proofs.Common.{gives, mem_grow, with_content, Reaches, go_on, Number, Pointer, Step, c_step, evaluate_args, Helper}
use Rattle.body_meaning.proofs.Common.{place_of, take_effect, helper_right, CallComesTo, call_ended, helper_of, ComesWithin, MemoryAgrees}
use Rattle.body_meaning.proofs.Common.{Site, StandsAt, state_at, slot, memory_arg, IsSite, IsThere, KindFollows, call_helper, operand, Spot}
use Rattle.w2c_base.specs.declared.value.ValType.TheVariants as type
use Rattle.w2c_base.specs.declared.value.Value.TheVariants.{I64}
use Rattle.w2c_base.specs.declared.trap.TrapKind.TheVariants as trap
use Rattle.w2c_base.proofs.Lists.{all_replicate, all_take, all_drop}
use Rattle.c_tree.specs.Tree as tree
use Rattle.c_tree.specs.Makers.{num}
use Rattle.wasm_meaning.specs.Store as store
use Rattle.wasm_meaning.specs.Execution as exec
use Rattle.c_meaning.specs.State as state
use Rattle.c_meaning.specs.Machine as machine
use Rattle.c_helpers.specs.declared.operation.Helper.TheVariants as helper
use Rattle.body_definition.proofs.Bounds.{not_wide}
use Rattle.c_prelude.specs.Operators.{number, answered, stored}
use Rattle.alike.specs.Objects.{memory_object}
use Rattle.alike.proofs.Store.{together_memory}
use Rattle.body_meaning.proofs.Seen.{MemoryFound, memory_found}
use Rattle.body_meaning.proofs.Gives.{running, leaves_value, leaves_none, operand_is, waiting, helper_comes, takes_one, back_to_top, Owes}
use Rattle.body_meaning.proofs.Gives.{Place, helper_gives, owes, traps}
use Rattle.body_meaning.proofs.Numeric.{value_place, helper_there}
use Rattle.body_meaning.proofs.Operands.{no_operand, first_type, other_types}
use Rattle.body_meaning.proofs.Vars.{lowered, height, stands_below}
use Rattle.body_meaning.proofs.Jumps.{way_by}

-- ---- calls of helpers

-- the memory that the module meets
pub memory_done : (s : LinkedSet) (p : ℕ) {owner : ℕ} (now : store.State) {memory : store.Memory} (go : ℕ → store.Memory → exec.Done)
    → memory_at s p 0 ≡ Some owner → store.memory_in now.store owner ≡ Some memory
    → exec.on_memory (memory_at s p 0) now go ≡ go owner memory
memory_done s p {owner} now go at is =
    ap (λ o. exec.on_memory o now go) at ∙ ap (λ (o : Option store.Memory). elim o [ None ↦ exec.NoRule | Some m ↦ go owner m ]) is

pub types_differ : type.I64 ≡ type.I32 → ⊥
types_differ e = absurd cc

-- ---- loads

turned_load : (o : LoadOp) (arg : MemArg) (old new : Stack) → TurnsAsTabled (table_type (Load o arg)) old new
    → (under : Stack) × (old ≡ type.I32 ∷ under) × (new ≡ (load_access o).ty ∷ under)
turned_load o arg old new typed = subst (λ ty. TurnsAsTabled ty old new) (load_typing o arg) typed

pub load_follows : {g : Site} {room : ℕ} {calls : exec.Calls} (o : LoadOp) (arg : MemArg) → IsSite g room calls
    → IsThere g (λ test. test (Load o arg)) → KindFollows g calls (Load o arg)
load_follows o arg site has s [] here exit n = absurd (no_operand (turned_load o arg [] s.outs here.typed.2).1)
load_follows o arg site has s (I64 x ∷ stack) here exit n = absurd (types_differ (first_type (turned_load o arg _ s.outs here.typed.2).1))
load_follows {g} o arg site has s (I32 x ∷ stack) here exit n =
    let whole : List Value = stack ++ s.base in
    let h : ℕ = height whole in
    let t : ValType = (load_access o).ty in
    let turn = turned_load o arg _ s.outs here.typed.2 in
    let f = memory_found site here.typed.0 here.stands in
    let place : Place g s stack t =
    value_place site here refl turn.2 stack (other_types turn.1) (stands_below (I32 x ∷ []) whole here.stands) in
    let which : Helper = helper.Load o in
    let args : List tree.Arg = memory_arg g.setting.named.tree ∷ tree.Value (operand type.I32 h) ∷ tree.Value
    (num type.I32 arg.offset) ∷ [] in
    let given : List state.CValue = Pointer (Some (memory_object f.owner)) ∷ number type.I32 x ∷ number type.I32 arg.offset ∷ [] in
    let rest : List tree.Stmt = call_helper (Some (slot t h)) which args ∷ s.rest in
    let evaluated : evaluate_args g.program s.machine (running g rest s.vars) args ≡ Is given =
    rw (f.evaluated rest, operand_is g.program s.machine (running g rest s.vars) type.I32 h here.stands.variables.stacked.0) refl in
    let comes : CallComesTo 390 (helper_of which) given s.machine (answered s.machine t (load_number o f.memory.bytes (x + arg.offset))) =
    subst (λ (bytes : List ℕ). CallComesTo 390 (helper_of which) given s.machine
    (answered s.machine t (load_number o bytes (x + arg.offset)))) f.agrees.bytes
    (helper_right which s.machine (memory_object f.owner) f.other f.other_is x arg.offset here.stands.variables.stack_numbers.0
    (not_wide arg.offset here.narrow)) in
    owes g s exit n _ (memory_done g.linked g.unit s.now (λ owner m. exec.loaded o m (x + arg.offset) stack s.now) f.owner_is f.memory_is)
    (λ left. helper_gives place left which args (load_number o f.memory.bytes (x + arg.offset))
    (helper_there (Load o arg) which has refl) evaluated comes (load_fits o f.memory.bytes (x + arg.offset) f.agrees.are_bytes))

-- ---- the size

pages_small : {memory : store.Memory} {other : state.Memory} → MemoryAgrees memory other → store.pages memory ≤ 16384
pages_small agrees = omega (arith, agrees.whole, agrees.few)

pub size_follows : {g : Site} {room : ℕ} {calls : exec.Calls} → IsSite g room calls → IsThere g (λ test. test MemorySize)
    → KindFollows g calls MemorySize
size_follows {g} site has s stack here exit n =
    let h : ℕ = height (stack ++ s.base) in
    let f = memory_found site here.typed.0 here.stands in
    let args : List tree.Arg = memory_arg g.setting.named.tree ∷ [] in
    let given : List state.CValue = Pointer (Some (memory_object f.owner)) ∷ [] in
    let small : length f.other.bytes ≤ 16384 * 65536 = omega (arith, ap length f.agrees.bytes, f.agrees.whole, f.agrees.few) in
    let comes : CallComesTo 390 (helper_of helper.Size) given s.machine (answered s.machine type.I32 (Gives (store.pages f.memory))) =
    subst (λ (bytes : List ℕ). CallComesTo 390 (helper_of helper.Size) given s.machine
    (answered s.machine type.I32 (Gives (length bytes / 65536)))) f.agrees.bytes
    (helper_right helper.Size s.machine (memory_object f.owner) f.other f.other_is small) in
    owes g s exit n _
    (memory_done g.linked g.unit s.now (λ owner m. exec.Leaves (I32 (store.pages m) ∷ stack) s.now) f.owner_is f.memory_is)
    (λ left. helper_gives (value_place site here refl here.typed.1.2 stack here.typed.1.1 here.stands) left helper.Size args
    (Gives (store.pages f.memory)) (helper_there MemorySize helper.Size has refl)
    (rw (f.evaluated (call_helper (Some (slot type.I32 h)) helper.Size args ∷ s.rest)) refl) comes (omega (arith, pages_small f.agrees)))

-- ---- stores

turned_store : (o : StoreOp) (arg : MemArg) (old new : Stack) → TurnsAsTabled (table_type (Store o arg)) old new
    → (under : Stack) × (old ≡ (store_access o).ty ∷ type.I32 ∷ under) × (new ≡ under)
turned_store o arg old new typed = subst (λ ty. TurnsAsTabled ty old new) (store_typing o arg) typed

low_length : (width n : ℕ) → length (low_bytes width n) ≡ width
low_length zero n = refl
low_length (suc width) n = ap suc (low_length width (n / 256))

low_small : (width n : ℕ) → AllByRecursion (λ b. b < 256) (low_bytes width n)
low_small zero n = tt
low_small (suc width) n = (omega arith, low_small width (n / 256))

-- bytes written within the memory leave as many bytes
pub written_agrees : {memory : store.Memory} {other : state.Memory} (place : ℕ) (new : List ℕ) → place + length new ≤ length memory.bytes
    → AllByRecursion (λ b. b < 256) new
    → MemoryAgrees memory other → MemoryAgrees (record { bytes = with_bytes memory.bytes place new; max = memory.max })
    (with_content other (with_bytes memory.bytes place new))
written_agrees {memory} place new within small agrees = record {
  made = agrees.made;
  bytes = refl;
  max = agrees.max;
  pages = agrees.pages;
  whole = omega (
    arith,
    length-append (take place memory.bytes) (new ++ drop (place + length new) memory.bytes),
    length-append new (drop (place + length new) memory.bytes),
    length-take place memory.bytes,
    length-drop (place + length new) memory.bytes,
    within,
    agrees.whole,
  );
  few = agrees.few;
  are_bytes =
      all_append _ _ _ (all_take _ place memory.bytes agrees.are_bytes)
      (all_append _ new _ small (all_drop _ _ memory.bytes agrees.are_bytes));
}

-- bytes that are written where a test passes
pub tested_agrees : {memory : store.Memory} {other : state.Memory} → MemoryAgrees memory other → (b : Bool) (place : ℕ) (new : List ℕ)
    {bytes : List ℕ} → (b ≡ true → place + length new ≤ length memory.bytes) → AllByRecursion (λ b. b < 256) new
    → (if b then Some (with_bytes memory.bytes place new) else None) ≡ Some bytes
    → MemoryAgrees (record { bytes = bytes; max = memory.max }) (with_content other bytes)
tested_agrees {memory} {other} agrees true place new {bytes} within small e =
    subst (λ bytes. MemoryAgrees (record { bytes = bytes; max = memory.max }) (with_content other bytes))
    (same_Some (with_bytes memory.bytes place new) bytes e) (written_agrees place new (within refl) small agrees)
tested_agrees agrees false place new {bytes} within small e = absurd (none-some bytes e)

stored_agrees : (o : StoreOp) {memory : store.Memory} {other : state.Memory} (address n : ℕ) {bytes : List ℕ}
    → store_number o memory.bytes address n ≡ Some bytes → MemoryAgrees memory other
    → MemoryAgrees (record { bytes = bytes; max = memory.max }) (with_content other bytes)
stored_agrees o {memory} address n e agrees =
    tested_agrees agrees (nat_le (address + (store_access o).width) (length memory.bytes)) address
    (low_bytes (store_access o).width n) (λ is.
    let within : address + (store_access o).width ≤ length memory.bytes = grind (arith, nat_tests, is) in
    omega (arith, low_length (store_access o).width n, within)) (low_small (store_access o).width n) e

value_of_number : (v : Value) → value (type_of v) (number_of v) ≡ v
value_of_number (I32 n) = refl
value_of_number (I64 n) = refl

-- what the helper of a store comes to, with the memory of the store
store_comes : (o : StoreOp) (m : state.Machine) (a : state.ObjectAddress) {memory : store.Memory} {other : state.Memory} (x offset n : ℕ)
    → machine.memory_in m a ≡ Some other → MemoryAgrees memory other → x < 2 ^ 32 → offset < 2 ^ 32
    → CallComesTo 390 (helper_of (helper.Store o))
    (Pointer (Some a) ∷ number type.I32 x ∷ number type.I32 offset ∷ number (store_access o).ty n ∷ []) m
    (stored m a other (store_number o memory.bytes (x + offset) n))
store_comes o m a {other} x offset n is agrees small narrow =
    let f : tree.Func = helper_of (helper.Store o) in
    subst (λ (bytes : List ℕ). CallComesTo 390 f (Pointer (Some a) ∷ number type.I32 x ∷ number type.I32 offset ∷ number
    (store_access o).ty n ∷ []) m (stored m a other (store_number o bytes (x + offset) n))) agrees.bytes
    (helper_right (helper.Store o) m a other is x offset n small narrow)

-- the memory has another content, and the operands above are taken off
pub rewritten : {g : Site} {now : store.State} {m : state.Machine} {vars : state.Vars}
    (f : MemoryFound g now.store m vars) (above whole : List Value) (bytes : List ℕ)
    → MemoryAgrees (record { bytes = bytes; max = f.memory.max }) (with_content f.other bytes) → StandsAt g (above ++ whole) now m vars
    → StandsAt g whole (exec.in_store now (store.with_memory now.store f.owner (record { bytes = bytes; max = f.memory.max })))
    (machine.with_memory m (memory_object f.owner) (with_content f.other bytes)) vars
rewritten {g} {now} {m} f above whole bytes agrees stood =
    lowered above whole stood (together_memory g.program g.linked g.count (suc g.depth) m now.store now.trail f.owner f.objects f.other
    (with_content f.other bytes) (record { bytes = bytes; max = f.memory.max }) f.objects_are f.other_is agrees stood.together)

store_does : {g : Site} (s : Spot) (stack : List Value) {v : Value} (x : ℕ) (o : StoreOp) (address left : ℕ) {stmt : tree.Stmt}
    → StandsAt g (v ∷ I32 x ∷ (stack ++ s.base)) s.now s.machine s.vars → (f : MemoryFound g s.now.store s.machine s.vars)
    → s.outs ≡ types_of stack → (result : Option (List ℕ)) → store_number o f.memory.bytes address (number_of v) ≡ result
    → ComesWithin g.program 391 (at g s.machine (stmt ∷ s.rest) s.vars)
    (call_ended g.program g.pending (stored s.machine (memory_object f.owner) f.other result) (waiting g None s.rest s.vars))
    → Owes g s (stmt ∷ []) left (exec.written f.owner f.memory result stack s.now)
store_does s stack x o address left stood f typed None is came = traps stood trap.MemoryOut left came (omega arith)
store_does {g} s stack {v} x o address left stood f typed (Some bytes) is came =
    leaves_none s stack typed (rewritten f (v ∷ I32 x ∷ []) (stack ++ s.base) bytes (stored_agrees o address (number_of v) is f.agrees)
    stood) left (takes_one g came.statements came.way) (omega (arith, came.few)) came.way

pub store_follows : {g : Site} {room : ℕ} {calls : exec.Calls} (o : StoreOp) (arg : MemArg) → IsSite g room calls
    → IsThere g (λ test. test (Store o arg)) → KindFollows g calls (Store o arg)
store_follows o arg site has s [] here exit n = absurd (no_operand (turned_store o arg [] s.outs here.typed.2).1)
store_follows o arg site has s (v ∷ []) here exit n = absurd (no_operand (other_types (turned_store o arg _ s.outs here.typed.2).1))
store_follows o arg site has s (v ∷ I64 x ∷ stack) here exit n =
    let turn = turned_store o arg _ s.outs here.typed.2 in
    absurd (types_differ (first_type (other_types turn.1)))
store_follows {g} o arg site has s (v ∷ I32 x ∷ stack) here exit n =
    let whole : List Value = stack ++ s.base in
    let h : ℕ = height whole in
    let t : ValType = (store_access o).ty in
    let turn = turned_store o arg _ s.outs here.typed.2 in
    let is : type_of v ≡ t = first_type turn.1 in
    let f = memory_found site here.typed.0 here.stands in
    let which : Helper = helper.Store o in
    let a : state.ObjectAddress = memory_object f.owner in
    let args : List tree.Arg = memory_arg g.setting.named.tree ∷ tree.Value (operand type.I32 h) ∷ tree.Value
    (num type.I32 arg.offset) ∷ tree.Value (operand t (1 + h)) ∷ [] in
    let content : state.CValue = number t (number_of v) in
    let given : List state.CValue = Pointer (Some a) ∷ number type.I32 x ∷ number type.I32 arg.offset ∷ content ∷ [] in
    let rest : List tree.Stmt = call_helper None which args ∷ s.rest in
    let r : state.Running = running g rest s.vars in
    let place : suc h ≡ 1 + h = omega arith in
    let same : Number v ≡ content = ap Number (sym (value_of_number v) ∙ ap (λ t. value t (number_of v)) is) in
    let holds : named (slot t (1 + h)) s.vars ≡ Some content =
    ap (λ i. named (slot t i) s.vars) (sym place) ∙ ap (λ t. named (slot t (suc h)) s.vars) (sym is)
    ∙ here.stands.variables.stacked.0 ∙ ap Some same in
    let evaluated : evaluate_args g.program s.machine r args ≡ Is given =
    rw (
      f.evaluated rest,
      operand_is g.program s.machine r type.I32 h here.stands.variables.stacked.1.0,
      operand_is g.program s.machine r t (1 + h) holds,
    ) refl in
    let result : Option (List ℕ) = store_number o f.memory.bytes (x + arg.offset) (number_of v) in
    let comes : CallComesTo 390 (helper_of which) given s.machine (stored s.machine a f.other result) =
    store_comes o s.machine a x arg.offset _ f.other_is f.agrees here.stands.variables.stack_numbers.1.0 (not_wide arg.offset here.narrow)
    in
    let typed_as : equal_type t (type_of v) ≡ true = ap (λ u. equal_type t u) is ∙ type_equals_itself t in
    let stores : ℕ → store.Memory → exec.Done = λ owner m. exec.stored o owner m (x + arg.offset) (number_of v) stack s.now in
    owes g s exit n _ (rw typed_as (memory_done g.linked g.unit s.now stores f.owner_is f.memory_is))
    (λ left. store_does s stack x o _ left here.stands f (turn.2 ∙ sym (other_types (other_types turn.1))) result refl
    (helper_comes g s.vars None which args s.rest (helper_there _ which has refl) evaluated comes))

-- ---- growth

more_typed : (bytes : List ℕ) (pages more : ℕ) → length bytes ≡ pages * 65536
    → length (bytes ++ replicate (more * 65536) 0) ≡ (pages + more) * 65536
more_typed bytes pages more e = omega (
  arith,
  e,
  length-append bytes (replicate (more * 65536) 0),
  length-replicate {A = ℕ} (more * 65536) 0,
)

grown_agrees : {memory : store.Memory} {other : state.Memory} (more : ℕ) → store.pages memory + more ≤ 16384 → MemoryAgrees memory other
    → MemoryAgrees (record { bytes = memory.bytes ++ replicate (more * 65536) 0; max = memory.max })
    (with_content other (memory.bytes ++ replicate (more * 65536) 0))
grown_agrees {memory} more few agrees = record {
  made = agrees.made;
  bytes = refl;
  max = agrees.max;
  pages = agrees.pages + more;
  whole = more_typed memory.bytes agrees.pages more agrees.whole;
  few = omega (arith, few, agrees.whole);
  are_bytes = all_append _ memory.bytes _ agrees.are_bytes (all_replicate _ _ 0 (λ some. omega arith));
}

-- no maximum is a great one in C
same_limit : (max : Option ℕ) → min (unwrap_or max 4294967296) 16384 ≡ min (unwrap_or max 16384) 16384
same_limit None = refl
same_limit (Some max) = refl

-- what the primitive does, by whether there is room
abbrev grown_effect : state.Machine → state.ObjectAddress → state.Memory → ℕ → List ℕ → Bool → Effect
grown_effect m a other more bytes fits =
    if fits then gives (machine.with_memory m a (with_content other (bytes ++ replicate (more * 65536) 0)))
    (I32 (length bytes / 65536)) else gives m (I32 4294967295)

abbrev has_room : store.Memory → ℕ → Bool
has_room memory more = nat_le (store.pages memory + more) (min (unwrap_or memory.max 16384) 16384)

grow_effect : (m : state.Machine) (a : state.ObjectAddress) {memory : store.Memory} {other : state.Memory} (more : ℕ)
    → machine.memory_in m a ≡ Some other → MemoryAgrees memory other
    → mem_grow (Pointer (Some a) ∷ number type.I32 more ∷ []) m ≡ grown_effect m a other more memory.bytes (has_room memory more)
grow_effect m a {memory} {other} more is agrees =
    let effect : List ℕ → ℕ → Effect = λ bytes limit. if nat_le (length bytes / 65536 + more) limit then gives
    (machine.with_memory m a (with_content other (bytes ++ replicate (more * 65536) 0))) (I32 (length bytes / 65536)) else gives m
    (I32 4294967295) in
    ap (λ (o : Option state.Memory). elim o [
      | None ↦ NoEffect
      | Some x ↦
          if nat_le (length x.bytes / 65536 + more) (min x.max 16384)
          then gives (machine.with_memory m a (with_content x (x.bytes ++ replicate (more * 65536) 0))) (I32 (length x.bytes / 65536))
          else gives m (I32 4294967295)
    ]) is ∙ ap (λ bytes. effect bytes (min other.max 16384)) agrees.bytes
    ∙ ap (effect memory.bytes) (ap (λ max. min max 16384) agrees.max ∙ same_limit memory.max)

grow_does : {g : Site} {s : Spot} {stack : List Value} → Place g s stack type.I32 → (more : ℕ) {stmt : tree.Stmt} (left : ℕ)
    (place : state.Place)
    → StandsAt g (I32 more ∷ (stack ++ s.base)) s.now s.machine s.vars → (f : MemoryFound g s.now.store s.machine s.vars)
    → (fits : Bool) → has_room f.memory more ≡ fits → ComesWithin g.program 391 (at g s.machine (stmt ∷ s.rest) s.vars)
    (go_on g.program g.pending (take_effect (grown_effect s.machine (memory_object f.owner) f.other more f.memory.bytes fits) place
    s.machine (waiting g (Some (slot type.I32 (height (stack ++ s.base)))) s.rest s.vars))) → Owes g s (stmt ∷ []) left
    (elim (if fits then Some (record { bytes = f.memory.bytes ++ replicate (more * 65536) 0; max = f.memory.max }) else None) [
      | None ↦ exec.Leaves (I32 4294967295 ∷ stack) s.now
      | Some new ↦ exec.Leaves (I32 (store.pages f.memory) ∷ stack) (exec.in_store s.now (store.with_memory s.now.store f.owner new))
    ])
grow_does {g} {s} {stack} top more left place stood f true fits came =
    let h : ℕ = height (stack ++ s.base) in
    let bytes : List ℕ = f.memory.bytes ++ replicate (more * 65536) 0 in
    let after : state.Machine = machine.with_memory s.machine (memory_object f.owner) (with_content f.other bytes) in
    let room : store.pages f.memory + more ≤ min (unwrap_or f.memory.max 16384) 16384 = grind (arith, nat_tests, fits) in
    let new = rewritten f (I32 more ∷ []) (stack ++ s.base) bytes (grown_agrees more (omega (arith, room)) f.agrees) stood in
    let v : Value = I32 (store.pages f.memory) in
    let back = back_to_top g after type.I32 h v (stood.variables.declared type.I32 h top.there) refl came in
    leaves_value top new v refl (omega (arith, pages_small f.agrees)) [] left
    (takes_one g back.statements back.way) (omega (arith, back.few)) back.way
grow_does {g} {s} {stack} top more left place stood f false fits came =
    let h : ℕ = height (stack ++ s.base) in
    let v : Value = I32 4294967295 in
    let back = back_to_top g s.machine type.I32 h v (stood.variables.declared type.I32 h top.there) refl came in
    leaves_value top top.stands v refl (omega arith) [] left (takes_one g back.statements back.way) (omega (arith, back.few)) back.way

pub grow_follows : {g : Site} {room : ℕ} {calls : exec.Calls} → IsSite g room calls → KindFollows g calls MemoryGrow
grow_follows site s [] here exit n = absurd (no_operand here.typed.1.1)
grow_follows site s (I64 x ∷ stack) here exit n = absurd (types_differ (first_type here.typed.1.1))
grow_follows {g} site s (I32 more ∷ stack) here exit n =
    let whole : List Value = stack ++ s.base in
    let h : ℕ = height whole in
    let m : state.Machine = s.machine in
    let f = memory_found site here.typed.0 here.stands in
    let a : state.ObjectAddress = memory_object f.owner in
    let args : List tree.Arg = memory_arg g.setting.named.tree ∷ tree.Value (operand type.I32 h) ∷ [] in
    let given : List state.CValue = Pointer (Some a) ∷ number type.I32 more ∷ [] in
    let rest : List tree.Stmt = tree.Call (Some (slot type.I32 h)) (tree.Called (codes "w2c_mem_grow")) args ∷ s.rest in
    let r : state.Running = running g rest s.vars in
    let place : state.Place = place_of r s.rest in
    let evaluated : evaluate_args g.program m r args ≡ Is given =
    rw (f.evaluated rest, operand_is g.program m r type.I32 h here.stands.variables.stacked.0) refl in
    let frames : List state.Frame = waiting g (Some (slot type.I32 h)) s.rest s.vars in
    let grows : Step = take_effect (grown_effect m a f.other more f.memory.bytes (has_room f.memory more)) place m frames in
    let acts : c_step g.program (state_at g m rest s.vars) ≡ grows = rw (evaluated, grow_effect m a more f.other_is f.agrees) refl in
    let way : Reaches g.program 1 (at g m rest s.vars) (go_on g.program g.pending grows) = way_by g m rest s.vars acts in
    owes g s exit n _ (memory_done g.linked g.unit s.now (λ owner m. exec.grown owner m more stack s.now) f.owner_is f.memory_is)
    (λ left. grow_does (value_place site here refl here.typed.1.2 stack (other_types here.typed.1.1)
    (stands_below (I32 more ∷ []) whole here.stands)) more left place here.stands f (has_room f.memory more) refl
    (record { statements = 1; few = omega arith; way = way }))
