-- A run that is not out of steps is the same with a larger budget.
use Rattle.wasm_meaning.proofs.Common.{◌≡◌, ℕ, zero, suc, ◌+◌, ◌-◌, ◌≤◌, Bool, true, false, ◌≢◌, List, [], ◌∷◌, ◌++◌, length, replicate}
use Rattle.wasm_meaning.proofs.Common.{nat_le, slice_set, Some, None, Option, sym, refl, ap, ◌∙◌, arith, if_found, Init, Phase, Reply}
use Rattle.wasm_meaning.proofs.Common.{Trail, ImportKind, ImportFunc, ImportGlobal, ImportMemory, ImportTable, Back, CallStops, Called}
use Rattle.wasm_meaning.proofs.Common.{OutOfSteps, Trapped, call_within, LinkedSet, as_memory, as_table, func_at, import_at, memory_at}
use Rattle.wasm_meaning.proofs.Common.{table_at, CallExport, CallStart, Ended, ListedCall, MakeGlobal, Outcome, Planned, Stopped, Take}
use Rattle.wasm_meaning.proofs.Common.{Task, TestData, TestElements, WasmRun, WriteByte, WriteElement, as_offset, called_func, constant_of}
use Rattle.wasm_meaning.proofs.Common.{do_task, done, first_value, is_free, limits_fit, paid, plan_of, run_tasks, tested, then_run}
use Rattle.wasm_meaning.proofs.Common.{trail_after, wasm_run, with_found, with_memory_at, with_table_at}
use Rattle.w2c_base.specs.declared.trap.TrapKind.{TrapKind}
use Rattle.w2c_base.specs.declared.trap.TrapKind.TheVariants as trap
use Rattle.wasm_tree.specs.declared.entries.Import.{Import}
use Rattle.wasm_tree.specs.declared.entries.ElementEntry.{ElementEntry}
use Rattle.wasm_tree.specs.declared.entries.SegmentEntry.{SegmentEntry}
use Rattle.wasm_meaning.specs.Store as store
use Rattle.wasm_meaning.proofs.Longer.{LongerCall, calls_longer}

tested_longer : (d : ℕ) (passes : Bool) (kind : TrapKind) (n : ℕ) (made : store.Store) (trail : Trail)
    → LongerCall d (tested passes kind n made trail) (tested passes kind (n + d) made trail)
tested_longer d true kind n made trail = refl
tested_longer d false kind n made trail = refl

found_longer : {A : Type 0} (d : ℕ) (found : Option A) (made : store.Store) (trail : Trail) (go other : A → Called)
    → ((a : A) → LongerCall d (go a) (other a)) → LongerCall d (with_found found made trail go) (with_found found made trail other)
found_longer d None made trail go other h = refl
found_longer d (Some a) made trail go other h = h a

-- an import that is taken, by its kind
abbrev taken : LinkedSet → ℕ → Import → store.Store → Trail → ImportKind → ℕ → Called
taken s p i made trail kind n = elim kind [
  | ImportFunc t ↦ done n made trail
  | ImportTable want ↦ with_found (if_found (if_found (import_at s p i) as_table) (store.table_in made)) made trail
      (λ t. tested (limits_fit (length t.elements) t.max want) trap.ImportLimits n made trail)
  | ImportMemory want ↦ with_found (if_found (if_found (import_at s p i) as_memory) (store.memory_in made)) made trail
      (λ m. tested (limits_fit (store.pages m) m.max want) trap.ImportLimits n made trail)
  | ImportGlobal t mutable ↦ done n made trail
]

taken_longer : (d : ℕ) (s : LinkedSet) (p : ℕ) (i : Import) (kind : ImportKind) (n : ℕ) (made : store.Store) (trail : Trail)
    → LongerCall d (taken s p i made trail kind n) (taken s p i made trail kind (n + d))
taken_longer d s p i (ImportTable want) n made trail =
    found_longer d (if_found (if_found (import_at s p i) as_table) (store.table_in made)) made trail
    (λ t. tested (limits_fit (length t.elements) t.max want) trap.ImportLimits n made trail)
    (λ t. tested (limits_fit (length t.elements) t.max want) trap.ImportLimits (n + d) made trail)
    (λ t. tested_longer d (limits_fit (length t.elements) t.max want) trap.ImportLimits n made trail)
taken_longer d s p i (ImportMemory want) n made trail =
    found_longer d (if_found (if_found (import_at s p i) as_memory) (store.memory_in made)) made trail
    (λ m. tested (limits_fit (store.pages m) m.max want) trap.ImportLimits n made trail)
    (λ m. tested (limits_fit (store.pages m) m.max want) trap.ImportLimits (n + d) made trail)
    (λ m. tested_longer d (limits_fit (store.pages m) m.max want) trap.ImportLimits n made trail)
taken_longer d s p i _ n made trail = refl

table_longer : (d : ℕ) (s : LinkedSet) (p : ℕ) (e : ElementEntry) (made : store.Store) (trail : Trail)
    (go other : ℕ → store.Table → ℕ → Called) →
    ((owner : ℕ) (t : store.Table) (offset : ℕ) → LongerCall d (go owner t offset) (other owner t offset))
    → LongerCall d (with_table_at s p e made trail go) (with_table_at s p e made trail other)
table_longer d s p e made trail go other h =
    found_longer d (table_at s p e.table) made trail
    (λ owner. with_found (store.table_in made owner) made trail
    (λ t. with_found (if_found (constant_of s p made e.offset) as_offset) made trail (λ offset. go owner t offset)))
    (λ owner. with_found (store.table_in made owner) made trail
    (λ t. with_found (if_found (constant_of s p made e.offset) as_offset) made trail (λ offset. other owner t offset)))
    (λ owner. found_longer d (store.table_in made owner) made trail
    (λ t. with_found (if_found (constant_of s p made e.offset) as_offset) made trail (λ offset. go owner t offset))
    (λ t. with_found (if_found (constant_of s p made e.offset) as_offset) made trail (λ offset. other owner t offset))
    (λ t. found_longer d (if_found (constant_of s p made e.offset) as_offset) made trail (λ offset. go owner t offset)
    (λ offset. other owner t offset) (λ offset. h owner t offset)))

memory_longer : (d : ℕ) (s : LinkedSet) (p : ℕ) (e : SegmentEntry) (made : store.Store) (trail : Trail)
    (go other : ℕ → store.Memory → ℕ → Called) →
    ((owner : ℕ) (m : store.Memory) (offset : ℕ) → LongerCall d (go owner m offset) (other owner m offset))
    → LongerCall d (with_memory_at s p e made trail go) (with_memory_at s p e made trail other)
memory_longer d s p e made trail go other h =
    found_longer d (memory_at s p e.memory) made trail
    (λ owner. with_found (store.memory_in made owner) made trail
    (λ m. with_found (if_found (constant_of s p made e.offset) as_offset) made trail (λ offset. go owner m offset)))
    (λ owner. with_found (store.memory_in made owner) made trail
    (λ m. with_found (if_found (constant_of s p made e.offset) as_offset) made trail (λ offset. other owner m offset)))
    (λ owner. found_longer d (store.memory_in made owner) made trail
    (λ m. with_found (if_found (constant_of s p made e.offset) as_offset) made trail (λ offset. go owner m offset))
    (λ m. with_found (if_found (constant_of s p made e.offset) as_offset) made trail (λ offset. other owner m offset))
    (λ m. found_longer d (if_found (constant_of s p made e.offset) as_offset) made trail (λ offset. go owner m offset)
    (λ offset. other owner m offset) (λ offset. h owner m offset)))

task_longer : (d : ℕ) (s : LinkedSet) (p : ℕ) (t : Task) (n : ℕ) (made : store.Store) (trail : Trail)
    → LongerCall d (do_task s p t n made trail) (do_task s p t (n + d) made trail)
task_longer d s p (Take i) n made trail = taken_longer d s p i i.kind n made trail
task_longer d s p (MakeGlobal ty initial) n made trail = found_longer d (first_value s p made ty initial) made trail
    (λ v. done n (store.with_objects made p (λ o. record { memory = o.memory; table = o.table; globals = o.globals ++ v ∷ [] })) trail)
    (λ v. done (n + d) (store.with_objects made p (λ o. record { memory = o.memory; table = o.table; globals = o.globals ++ v ∷ [] }))
    trail)
    (λ v. refl)
task_longer d s p (TestElements e) n made trail = table_longer d s p e made trail
    (λ owner t offset. tested (nat_le (offset + length e.funcs) (length t.elements)) trap.SegmentOut n made trail)
    (λ owner t offset. tested (nat_le (offset + length e.funcs) (length t.elements)) trap.SegmentOut (n + d) made trail)
    (λ owner t offset. tested_longer d (nat_le (offset + length e.funcs) (length t.elements)) trap.SegmentOut n made trail)
task_longer d s p (TestData e) n made trail = memory_longer d s p e made trail
    (λ owner m offset. tested (nat_le (offset + length e.bytes) (length m.bytes)) trap.SegmentOut n made trail)
    (λ owner m offset. tested (nat_le (offset + length e.bytes) (length m.bytes)) trap.SegmentOut (n + d) made trail)
    (λ owner m offset. tested_longer d (nat_le (offset + length e.bytes) (length m.bytes)) trap.SegmentOut n made trail)
task_longer d s p (WriteElement e number func) n made trail = table_longer d s p e made trail
    (λ owner t offset. with_found (func_at s p func) made trail
    (λ f. done n (store.with_table made owner (record {
      elements = slice_set t.elements (offset + number)
          (Some f);
      max = t.max;
    })) trail))
    (λ owner t offset. with_found (func_at s p func) made trail
    (λ f. done (n + d) (store.with_table made owner
    (record { elements = slice_set t.elements (offset + number) (Some f); max = t.max })) trail))
    (λ owner t offset. found_longer d (func_at s p func) made trail
    (λ f. done n (store.with_table made owner (record { elements = slice_set t.elements (offset + number) (Some f); max = t.max })) trail)
    (λ f. done (n + d) (store.with_table made owner (record { elements = slice_set t.elements (offset + number) (Some f); max = t.max }))
    trail)
    (λ f. refl))
task_longer d s p (WriteByte e number byte) n made trail = memory_longer d s p e made trail
    (λ owner m offset. done n (store.with_memory made owner (record { bytes = slice_set m.bytes (offset + number) byte; max = m.max }))
    trail)
    (λ owner m offset. done (n + d) (store.with_memory made owner
    (record { bytes = slice_set m.bytes (offset + number) byte; max = m.max })) trail)
    (λ owner m offset. refl)
task_longer d s p (CallStart func) n made trail = found_longer d (func_at s p func) made trail
    (λ f. call_within s 1024 f [] n made trail) (λ f. call_within s 1024 f [] (n + d) made trail)
    (λ f. calls_longer d s 1024 f [] n made trail)
task_longer d s p (CallExport c) n made trail = found_longer d (called_func s c) made trail
    (λ f. call_within s 1024 f c.args n made trail) (λ f. call_within s 1024 f c.args (n + d) made trail)
    (λ f. calls_longer d s 1024 f c.args n made trail)
task_longer d s p _ n made trail = refl

paid_longer : (d : ℕ) (free : Bool) (n : ℕ) (made : store.Store) (trail : Trail) (go : ℕ → Called)
    → ((m : ℕ) → LongerCall d (go m) (go (m + d))) → LongerCall d (paid free n made trail go) (paid free (n + d) made trail go)
paid_longer d true n made trail go h = h n
paid_longer d false zero made trail go h = tt
paid_longer d false (suc n) made trail go h = let e : suc n + d ≡ suc (n + d) = omega arith in rw e (h n)

-- the second is the first, where that is not out of steps
abbrev Same : WasmRun → WasmRun → Type 0
Same w other = w.outcome ≢ Stopped OutOfSteps → other ≡ w

then_longer : (d : ℕ) (c e : Called) (t : Planned) (go : ℕ → store.Store → Trail → WasmRun) → LongerCall d c e
    → ((n : ℕ) (made : store.Store) (trail : Trail) → Same (go n made trail) (go (n + d) made trail))
    → Same (then_run c t go) (then_run e t go)
then_longer d (Back n value made trail) e t go h k over = ap (λ o. then_run o t go) h ∙ k n made (trail_after t.task value trail) over
then_longer d (CallStops (Trapped kind) made trail) e t go h k over = ap (λ o. then_run o t go) h
then_longer d (CallStops OutOfSteps made trail) e t go h k over = absurd (over refl)
then_longer d (CallStops _ made trail) e t go h k over = ap (λ o. then_run o t go) h

tasks_longer : (d : ℕ) (s : LinkedSet) (plan : List Planned) (last : Phase) (n : ℕ) (made : store.Store) (trail : Trail)
    → Same (run_tasks s plan last n made trail) (run_tasks s plan last (n + d) made trail)
tasks_longer d s [] last n made trail = λ over. refl
tasks_longer d s (t ∷ plan) last n made trail =
    then_longer d
    (paid (is_free t.task) n made trail (λ left. do_task s t.place t.task left made trail))
    (paid (is_free t.task) (n + d) made trail (λ left. do_task s t.place t.task left made trail))
    t (run_tasks s plan t.phase)
    (paid_longer d (is_free t.task) n made trail (λ left. do_task s t.place t.task left made trail)
    (λ m. task_longer d s t.place t.task m made trail))
    (λ m made' trail'. tasks_longer d s plan t.phase m made' trail')

abbrev fresh : LinkedSet → store.Store
fresh s = replicate (length s.modules) store.no_objects

pub run_longer : (s : LinkedSet) (calls : List ListedCall) (replies : List Reply) (n m : ℕ) → n ≤ m
    → (wasm_run s calls n replies).outcome ≢ Stopped OutOfSteps → wasm_run s calls m replies ≡ wasm_run s calls n replies
run_longer s calls replies n m le over =
    let e : m ≡ n + (m - n) = omega arith in
    ap (λ k. wasm_run s calls k replies) e
    ∙ tasks_longer (m - n) s (plan_of s calls) (Init 0) n (fresh s) (record { replies = replies; events = [] }) over

-- an outcome is want of steps or another
decided : (o : Outcome) (A : Type 0) → (o ≡ Stopped OutOfSteps → A) → (o ≢ Stopped OutOfSteps → A) → A
decided (Stopped OutOfSteps) A out over = out refl
decided Ended A out over = over (λ e. grind arith)
decided (Stopped (Trapped kind)) A out over = over (λ e. grind arith)
decided (Stopped _) A out over = over (λ e. grind arith)

pub run_shorter : (s : LinkedSet) (calls : List ListedCall) (replies : List Reply) (n m : ℕ) → n ≤ m
    → (wasm_run s calls m replies).outcome ≡ Stopped OutOfSteps → (wasm_run s calls n replies).outcome ≡ Stopped OutOfSteps
run_shorter s calls replies n m le out =
    decided (wasm_run s calls n replies).outcome ((wasm_run s calls n replies).outcome ≡ Stopped OutOfSteps)
    (λ e. e)
    (λ over. sym (ap (λ w. w.outcome) (run_longer s calls replies n m le over)) ∙ out)
