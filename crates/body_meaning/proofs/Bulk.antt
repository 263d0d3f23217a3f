-- The instructions that copy and fill bytes of the memory are followed by their statements. They cost a step for each
-- byte, and their helpers take more statements than that.
use Rattle.body_meaning.proofs.Common.{◌≡◌, ℕ, zero, suc, ◌+◌, ◌*◌, ◌%◌, ◌^◌, ◌<◌, ◌≤◌, ◌&&◌, List, [], ◌∷◌, ◌++◌, length, drop, replicate}
use Rattle.body_meaning.proofs.Common.{nat_le, Some, None, Option, sym, refl, ap, ◌∙◌, subst, arith, length-drop}
use Rattle.body_meaning.proofs.Common.{length-take, nat_tests, length-replicate, AllByRecursion, bytes_at, named, types_of, Value, I32}
use Rattle.body_meaning.proofs.Common.{Kind, MemoryCopy, MemoryFill, HasMemory, Turns, memory_at, copy_bytes, fill_bytes, with_content}
use Rattle.body_meaning.proofs.Common.{Reaches, Progress, Is, Pointer, evaluate_args, helper_right, helper_of, Helper, MemoryAgrees}
use Rattle.body_meaning.proofs.Common.{EndsAlike, Follows, Site, StandsAt, Target, at, slot, memory_arg, IsSite, IsThere, KindFollows}
use Rattle.body_meaning.proofs.Common.{both_hold, bytes_stmt, call_helper, operand, Defines, under, Spot}
use Rattle.w2c_base.specs.declared.value.ValType.TheVariants as type
use Rattle.w2c_base.specs.declared.trap.TrapKind.TheVariants as trap
use Rattle.w2c_base.proofs.Lists.{all_replicate, all_take, all_drop}
use Rattle.c_tree.specs.Tree as tree
use Rattle.wasm_meaning.specs.Store as store
use Rattle.wasm_meaning.specs.Execution as exec
use Rattle.c_meaning.specs.State as state
use Rattle.c_meaning.specs.Machine as machine
use Rattle.c_helpers.specs.declared.operation.Helper.TheVariants as helper
use Rattle.c_prelude.specs.Operators.{number, DoesBytes, ComesToBytes}
use Rattle.body_meaning.proofs.Before.{arrives_by, spends}
use Rattle.alike.specs.Objects.{memory_object}
use Rattle.body_meaning.proofs.Seen.{MemoryFound, memory_found}
use Rattle.body_meaning.proofs.Gives.{running, operand_is, helper_comes, helper_comes_between, traps}
use Rattle.body_meaning.proofs.Numeric.{helper_there}
use Rattle.body_meaning.proofs.Memories.{memory_done, tested_agrees, rewritten}
use Rattle.body_meaning.proofs.Vars.{height}
use Rattle.body_meaning.proofs.Locals.{three_of}

-- ---- what is paid byte by byte

-- no value is left, after more statements than so many bytes
pub record Moves (g : Site) (s : Spot) (code : List tree.Stmt) (count : ℕ) (stack : List Value) (now : store.State) : Type 0 where
  pub typed : types_of stack ≡ s.outs
  pub machine : state.Machine
  pub vars : state.Vars
  pub stands : StandsAt g (stack ++ s.base) now machine vars
  pub statements : ℕ
  pub way : Reaches g.program statements (at g s.machine (code ++ s.rest) s.vars) (at g machine s.rest vars)
  pub many : suc count ≤ statements
  pub few : statements ≤ 400 * suc count

-- what such an instruction owes, once its first step is paid
abbrev pub DoesAll : Site → Spot → List tree.Stmt → ℕ → exec.Done → Type 0
DoesAll g s code count (exec.Leaves stack now) = Moves g s code count stack now
DoesAll g s code count (exec.Faults kind) = (left : ℕ)
    → EndsAlike g.program g.linked g.pending 0 (at g s.machine (code ++ s.rest) s.vars) (suc left) (exec.Trapped kind) s.now.store
    s.now.trail
DoesAll g s code count exec.NoRule = ⊥

module _ (g : Site) (s : Spot) (exit : Target) (code : List tree.Stmt) where
  abbrev from : Progress
  from = at g s.machine (code ++ s.rest) s.vars

  -- so many steps are paid already
  all_paid : (total : ℕ) (stack : List Value) (now : store.State) → Moves g s code total stack now
      → (paid count left n : ℕ) → n ≡ paid + left → suc total ≡ paid + count
      → Follows g 0 s.targets exit s.base s.rest s.outs from n (exec.spend_all count left s.now (λ left. exec.Normal left stack now))
  all_paid total stack now moves paid zero left n e f =
      let many = moves.many in
      let few = moves.few in
      (moves.typed, [], arrives_by moves.stands moves.way (record { least = omega (arith, e, f, many); most = omega (arith, e, f, few) }))
  all_paid total stack now moves paid (suc count) zero n e f =
      let many = moves.many in record {
        to = at g moves.machine s.rest moves.vars;
        goes = tt;
        statements = moves.statements;
        way = moves.way;
        least = omega (arith, e, f, many);
      }
  all_paid total stack now moves paid (suc count) (suc left) n e f =
      all_paid total stack now moves (suc paid) count left n (omega (arith, e)) (omega (arith, f))

  did_all_follows : (count left : ℕ) (done : exec.Done) → DoesAll g s code count done
      → Follows g 0 s.targets exit s.base s.rest s.outs from (suc left) (exec.did_all count left s.now done)
  did_all_follows count left (exec.Leaves stack now) does =
      all_paid count stack now does 1 count left (suc left) (omega arith) (omega arith)
  did_all_follows count left (exec.Faults kind) does = does left
  did_all_follows count left exec.NoRule does = absurd does

-- ---- bytes written

-- bytes that are changed stay as many, and bytes
abbrev KeepsMemories : (List ℕ → ℕ → ℕ → ℕ → Option (List ℕ)) → Type 0
KeepsMemories change =
    (memory : store.Memory) (other : state.Memory) (x y z : ℕ) (bytes : List ℕ) → change memory.bytes x y z ≡ Some bytes
    → MemoryAgrees memory other → MemoryAgrees (record { bytes = bytes; max = memory.max }) (with_content other bytes)

copied_length : (bytes : List ℕ) (from count : ℕ) → from + count ≤ length bytes → length (bytes_at bytes from count) ≡ count
copied_length bytes from count within = omega (arith, within, length-take count (drop from bytes), length-drop from bytes)

copy_keeps : KeepsMemories copy_bytes
copy_keeps memory other to from count bytes e agrees =
    tested_agrees agrees (nat_le (from + count) (length memory.bytes) && nat_le (to + count) (length memory.bytes)) to
    (bytes_at memory.bytes from count) (λ is.
    let both = both_hold (nat_le (from + count) (length memory.bytes)) (nat_le (to + count) (length memory.bytes)) is in
    let read : from + count ≤ length memory.bytes = grind (arith, nat_tests, both.0) in
    let within : to + count ≤ length memory.bytes = grind (arith, nat_tests, both.1) in
    omega (arith, copied_length memory.bytes from count read, within))
    (all_take (λ b. b < 256) count (drop from memory.bytes) (all_drop (λ b. b < 256) from memory.bytes agrees.are_bytes)) e

fill_keeps : KeepsMemories fill_bytes
fill_keeps memory other place n count bytes e agrees =
    tested_agrees agrees (nat_le (place + count) (length memory.bytes)) place (replicate count (n % 256)) (λ is.
    let within : place + count ≤ length memory.bytes = grind (arith, nat_tests, is) in
    omega (arith, length-replicate {A = ℕ} count (n % 256), within)) (all_replicate (λ b. b < 256) count (n % 256) (λ some. omega arith)) e

-- ---- the statement

abbrev given_to : state.ObjectAddress → (x y count : ℕ) → List state.CValue
given_to a x y count = Pointer (Some a) ∷ number type.I32 x ∷ number type.I32 y ∷ number type.I32 count ∷ []

-- what the helper comes to, with the memory of the store
bytes_come : (which : Helper) (change : List ℕ → ℕ → ℕ → ℕ → Option (List ℕ)) → DoesBytes (helper_of which) change
    → (m : state.Machine) (a : state.ObjectAddress) {memory : store.Memory} {other : state.Memory} (x y count : ℕ)
    → machine.memory_in m a ≡ Some other → MemoryAgrees memory other → x < 2 ^ 32 → y < 2 ^ 32 → count < 2 ^ 32
    → ComesToBytes (helper_of which) (given_to a x y count) m a other count (change memory.bytes x y count)
bytes_come which change does m a {other} x y count is agrees px py pc =
    subst (λ (bytes : List ℕ). ComesToBytes (helper_of which) (given_to a x y count) m a other count (change bytes x y count))
    agrees.bytes (does m a other is (subst (AllByRecursion (λ b. b < 256)) (sym agrees.bytes) agrees.are_bytes) x y count px py pc)

module _ (g : Site) (room : ℕ) (calls : exec.Calls) (site : IsSite g room calls) (which : Helper)
    (change : List ℕ → ℕ → ℕ → ℕ → Option (List ℕ)) (keeps : KeepsMemories change) (does : DoesBytes (helper_of which) change)
    (defined : Defines g.program g.unit (helper_of which)) (s : Spot) where
  abbrev stmt_at : ℕ → tree.Stmt
  stmt_at h = bytes_stmt g.setting.named.tree which h

  -- the helper's call, by what it comes to
  written_does : (x y count : ℕ) (stack : List Value) → StandsAt g (I32 count ∷ I32 y ∷ I32 x ∷ (stack ++ s.base)) s.now s.machine s.vars
      → (f : MemoryFound g s.now.store s.machine s.vars) → s.outs ≡ types_of stack → (args : List tree.Arg)
      → evaluate_args g.program s.machine (running g (call_helper None which args ∷ s.rest) s.vars) args
      ≡ Is (given_to (memory_object f.owner) x y count) → (result : Option (List ℕ)) → change f.memory.bytes x y count ≡ result
      → ComesToBytes (helper_of which) (given_to (memory_object f.owner) x y count) s.machine (memory_object f.owner) f.other count result
      → DoesAll g s (call_helper None which args ∷ []) count (exec.written f.owner f.memory result stack s.now)
  written_does x y count stack stood f typed args evaluated None is comes = λ left.
      traps stood trap.MemoryOut left (helper_comes g s.vars None which args s.rest defined evaluated comes) (omega arith)
  written_does x y count stack stood f typed args evaluated (Some bytes) is comes =
      let came = helper_comes_between g s.vars None which args s.rest defined evaluated comes in
      record {
        typed = sym typed;
        machine = machine.with_memory s.machine (memory_object f.owner) (with_content f.other bytes);
        vars = s.vars;
        stands = rewritten f (I32 count ∷ I32 y ∷ I32 x ∷ []) _ bytes (keeps f.memory f.other x y count bytes is f.agrees) stood;
        statements = came.statements;
        way = came.way;
        many = omega (arith, came.many);
        few = omega (arith, came.few);
      }

  -- three operands, the last on top
  bytes_do : (x y count : ℕ) (stack : List Value) → HasMemory g.setting.context
      → StandsAt g (I32 count ∷ I32 y ∷ I32 x ∷ (stack ++ s.base)) s.now s.machine s.vars → s.outs ≡ types_of stack
      → DoesAll g s (stmt_at (height (stack ++ s.base)) ∷ []) count (exec.on_memory (memory_at g.linked g.unit 0) s.now
      (λ owner memory. exec.written owner memory (change memory.bytes x y count) stack s.now))
  bytes_do x y count stack has stood typed =
      let h : ℕ = height (stack ++ s.base) in
      let f = memory_found site has stood in
      let args : List tree.Arg = memory_arg g.setting.named.tree ∷ tree.Value (operand type.I32 h)
      ∷ tree.Value (operand type.I32 (1 + h)) ∷ tree.Value (operand type.I32 (2 + h)) ∷ [] in
      let rest : List tree.Stmt = call_helper None which args ∷ s.rest in
      let r : state.Running = running g rest s.vars in
      let holds = stood.variables.stacked in
      let one : suc h ≡ 1 + h = omega arith in
      let two : suc (suc h) ≡ 2 + h = omega arith in
      let evaluated : evaluate_args g.program s.machine r args ≡ Is (given_to (memory_object f.owner) x y count) =
      rw (
        f.evaluated rest,
        operand_is g.program s.machine r type.I32 h holds.1.1.0,
        operand_is g.program s.machine r type.I32 (1 + h) (ap (λ i. named (slot type.I32 i) s.vars) (sym one) ∙ holds.1.0),
        operand_is g.program s.machine r type.I32 (2 + h) (ap (λ i. named (slot type.I32 i) s.vars) (sym two) ∙ holds.0),
      ) refl in
      subst (DoesAll g s (call_helper None which args ∷ []) count) (sym (memory_done g.linked g.unit s.now _ f.owner_is f.memory_is))
      (written_does x y count stack stood f typed args evaluated _ refl (bytes_come which change does s.machine _ x y count f.other_is
      f.agrees stood.variables.stack_numbers.1.1.0 stood.variables.stack_numbers.1.0 stood.variables.stack_numbers.0))

  -- the instruction, whatever operands it finds
  bytes_follow : (exit : Target) (kind : Kind) (n : ℕ)
      → ((x y count : ℕ) (under : List Value) → exec.plain g.linked g.unit kind (I32 count ∷ I32 y ∷ I32 x ∷ under) s.now
      ≡ exec.on_memory (memory_at g.linked g.unit 0) s.now
      (λ owner memory. exec.written owner memory (change memory.bytes x y count) under s.now))
      → HasMemory g.setting.context → (stack : List Value) → Turns (type.I32 ∷ type.I32 ∷ type.I32 ∷ []) [] (types_of stack) s.outs
      → StandsAt g (stack ++ s.base) s.now s.machine s.vars → Follows g 0 s.targets exit s.base s.rest s.outs
      (at g s.machine (stmt_at (under 3 (types_of (stack ++ s.base))) ∷ s.rest) s.vars) n
      (exec.spend n s.now (λ left. exec.did_all (exec.count_on stack) left s.now (exec.plain g.linked g.unit kind stack s.now)))
  bytes_follow exit kind n done has stack turns stood =
      three_of type.I32 (λ stack. StandsAt g (stack ++ s.base) s.now s.machine s.vars → Follows g 0 s.targets exit s.base s.rest s.outs
      (at g s.machine (stmt_at (under 3 (types_of (stack ++ s.base))) ∷ s.rest) s.vars) n
      (exec.spend n s.now (λ left. exec.did_all (exec.count_on stack) left s.now (exec.plain g.linked g.unit kind stack s.now))))
      (λ count x y under same stood.
      let code : List tree.Stmt = stmt_at (height (under ++ s.base)) ∷ [] in
      spends g 0 s.targets exit s.base _ s.rest s.outs s.machine s.vars n s.now _
      (λ left. did_all_follows g s exit code count left (exec.plain g.linked g.unit kind (I32 count ∷ I32 y ∷ I32 x ∷ under) s.now) (subst
      (DoesAll g s code count) (sym (done x y count under)) (bytes_do x y count under has stood (turns.2 ∙ sym same))))) stack turns.1 stood

pub copy_follows : {g : Site} {room : ℕ} {calls : exec.Calls} → IsSite g room calls → IsThere g (λ test. test MemoryCopy)
    → KindFollows g calls MemoryCopy
copy_follows {g} {room} {calls} site there s stack here exit n =
    bytes_follow g room calls site helper.Copy copy_bytes copy_keeps (helper_right helper.Copy) (helper_there MemoryCopy helper.Copy there
    refl) s exit MemoryCopy n (λ x y count under. refl) here.typed.0 stack here.typed.1 here.stands

pub fill_follows : {g : Site} {room : ℕ} {calls : exec.Calls} → IsSite g room calls → IsThere g (λ test. test MemoryFill)
    → KindFollows g calls MemoryFill
fill_follows {g} {room} {calls} site there s stack here exit n =
    bytes_follow g room calls site helper.Fill fill_bytes fill_keeps (helper_right helper.Fill) (helper_there MemoryFill helper.Fill there
    refl) s exit MemoryFill n (λ x y count under. refl) here.typed.0 stack here.typed.1 here.stands
