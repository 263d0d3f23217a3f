-- The plan of a set's run and the entries of its units' run, module by module and call by call.
use Rattle.unit_meaning.proofs.Common.{◌≡◌, ℕ, suc, ◌+◌, List, [], ◌∷◌, ◌++◌, map, length, Some, None, Option, zip, flat_map, refl, ap, ◌∙◌}
use Rattle.unit_meaning.proofs.Common.{append_assoc, arith, AllByRecursion, range_with_len, all_append, numbered, Call, Init, Phase, Trail}
use Rattle.unit_meaning.proofs.Common.{Value, init_symbol_of, Start, Module, Back, CallStops, Called, LinkedSet, NamedModule, ListedCall}
use Rattle.unit_meaning.proofs.Common.{MakeGlobal, MakeMemory, MakeTable, Take, Task, TestData, TestElements, WriteByte, WriteElement}
use Rattle.unit_meaning.proofs.Common.{do_task, is_free, paid, start_tasks, tasks_of, Program, SymbolCall, called_func, init_functions}
use Rattle.unit_meaning.proofs.Common.{Entry, entries_of, FuncAddress, UnitFunc, and_then, do_tasks, symbol_call}
use Rattle.wasm_meaning.specs.Store as store
use Rattle.wasm_meaning.specs.Run.{CallExport, Planned, WasmRun, Stopped, plan_of, trail_after, then_run, run_tasks}
use Rattle.c_meaning.proofs.Links.{all_flat}
use Rattle.c_init.proofs.Small.{all_images}

-- ---- the plan

abbrev pub planned : ℕ → Task → Planned
planned u t = record { phase = Init u; place = u; task = t }

abbrev pub module_plan : ℕ → List NamedModule → List Planned → List Planned
module_plan u [] rest = rest
module_plan u (m ∷ modules) rest = map (planned u) (tasks_of m.tree) ++ module_plan (suc u) modules rest

abbrev pub call_plan : ℕ → List ListedCall → List Planned
call_plan k [] = []
call_plan k (c ∷ calls) = record { phase = Call k; place = 0; task = CallExport c } ∷ call_plan (suc k) calls

modules_planned : (u : ℕ) (modules : List NamedModule) (rest : List Planned)
    → flat_map (λ (m : ℕ × NamedModule). map (λ t. record { phase = Init m.0; place = m.0; task = t }) (tasks_of m.1.tree))
    (zip (range_with_len u (length modules)) modules) ++ rest ≡ module_plan u modules rest
modules_planned u [] rest = refl
modules_planned u (m ∷ modules) rest =
    let next : u + 1 ≡ suc u = omega arith in
    rw next (append_assoc (map (planned u) (tasks_of m.tree))
    (flat_map (λ (m : ℕ × NamedModule). map (λ t. record { phase = Init m.0; place = m.0; task = t }) (tasks_of m.1.tree))
    (zip (range_with_len (suc u) (length modules)) modules)) rest
    ∙ ap (λ plan. map (planned u) (tasks_of m.tree) ++ plan) (modules_planned (suc u) modules rest))

calls_planned : (k : ℕ) (calls : List ListedCall)
    → map (λ (c : ℕ × ListedCall). record { phase = Call c.0; place = 0; task = CallExport c.1 })
    (zip (range_with_len k (length calls)) calls) ≡ call_plan k calls
calls_planned k [] = refl
calls_planned k (c ∷ calls) =
    let next : k + 1 ≡ suc k = omega arith in
    rw next (ap (λ plan. record { phase = Call k; place = 0; task = CallExport c } ∷ plan) (calls_planned (suc k) calls))

pub plan_is : (s : LinkedSet) (calls : List ListedCall) → plan_of s calls ≡ module_plan 0 s.modules (call_plan 0 calls)
plan_is s calls =
    ap (λ plan. flat_map (λ (m : ℕ × NamedModule). map (λ t. record { phase = Init m.0; place = m.0; task = t }) (tasks_of m.1.tree))
    (numbered s.modules) ++ plan) (calls_planned 0 calls) ∙ modules_planned 0 s.modules (call_plan 0 calls)

-- ---- the entries

abbrev pub init_entries : ℕ → List NamedModule → List Entry → List Entry
init_entries u [] rest = rest
init_entries u (m ∷ modules) rest = record { phase = Init u; func = Some (UnitFunc u (init_symbol_of m.name)); args = [] } ∷ init_entries
    (suc u) modules rest

abbrev pub call_entries : Program → ℕ → List ListedCall → List Entry
call_entries p k [] = []
call_entries p k (c ∷ calls) = record { phase = Call k; func = called_func p (symbol_call c); args = c.args } ∷ call_entries p (suc k) calls

abbrev init_func_of : ℕ × NamedModule → FuncAddress
init_func_of m = UnitFunc m.0 (init_symbol_of m.1.name)

inits_entered : (u : ℕ) (modules : List NamedModule) (rest : List Entry)
    → map (λ (f : ℕ × FuncAddress). record { phase = Init f.0; func = Some f.1; args = [] })
    (zip (range_with_len u (length (map init_func_of (zip (range_with_len u (length modules)) modules))))
    (map init_func_of (zip (range_with_len u (length modules)) modules))) ++ rest ≡ init_entries u modules rest
inits_entered u [] rest = refl
inits_entered u (m ∷ modules) rest =
    let next : u + 1 ≡ suc u = omega arith in
    rw next (ap (λ entries. record { phase = Init u; func = Some (UnitFunc u (init_symbol_of m.name)); args = [] } ∷ entries)
    (inits_entered (suc u) modules rest))

calls_entered : (p : Program) (k : ℕ) (calls : List ListedCall)
    → map (λ (c : ℕ × SymbolCall). record { phase = Call c.0; func = called_func p c.1; args = c.1.args })
    (zip (range_with_len k (length (map symbol_call calls))) (map symbol_call calls)) ≡ call_entries p k calls
calls_entered p k [] = refl
calls_entered p k (c ∷ calls) =
    let next : k + 1 ≡ suc k = omega arith in
    rw next (ap (λ entries. record { phase = Call k; func = called_func p (symbol_call c); args = c.args } ∷ entries)
    (calls_entered p (suc k) calls))

pub entries_are : (p : Program) (modules : List NamedModule) (calls : List ListedCall)
    → init_functions p ≡ map init_func_of (numbered modules)
    → entries_of p (map symbol_call calls) ≡ init_entries 0 modules (call_entries p 0 calls)
entries_are p modules calls inits =
    ap (λ funcs. map (λ (f : ℕ × FuncAddress). record { phase = Init f.0; func = Some f.1; args = [] }) (numbered funcs) ++ map
    (λ (c : ℕ × SymbolCall). record { phase = Call c.0; func = called_func p c.1; args = c.1.args })
    (numbered (map symbol_call calls))) inits
    ∙ ap (λ entries. map (λ (f : ℕ × FuncAddress). record { phase = Init f.0; func = Some f.1; args = [] })
    (numbered (map init_func_of (numbered modules))) ++ entries) (calls_entered p 0 calls)
    ∙ inits_entered 0 modules (call_entries p 0 calls)

-- ---- a module's tasks end no call

abbrev pub KeepsTrail : Task → Type 0
KeepsTrail t = (value : Option Value) (trail : Trail) → trail_after t value trail ≡ trail

start_keeps : (start : Option Start) → AllByRecursion KeepsTrail (start_tasks start)
start_keeps None = tt
start_keeps (Some start) = (λ value trail. refl, tt)

tasks_keep : (m : Module) → AllByRecursion KeepsTrail (tasks_of m)
tasks_keep m = (
  λ value trail. refl,
  all_append KeepsTrail _ _ (all_images KeepsTrail Take _ (λ i value trail. refl))
      (all_append KeepsTrail _ _ (all_images KeepsTrail (λ t. MakeTable t.limits) m.tables (λ t value trail. refl))
      (all_append KeepsTrail _ _ (all_images KeepsTrail (λ t. MakeMemory t.limits) m.memories (λ t value trail. refl))
      (all_append KeepsTrail _ _ (all_images KeepsTrail (λ g. MakeGlobal g.ty g.code) m.globals (λ g value trail. refl))
      (all_append KeepsTrail _ _ (all_images KeepsTrail TestElements m.elements (λ e value trail. refl))
      (all_append KeepsTrail _ _ (all_images KeepsTrail TestData m.segments (λ e value trail. refl))
      (all_append KeepsTrail _ _ (all_flat KeepsTrail _ m.elements
      (λ e. all_images KeepsTrail (λ f. WriteElement e f.0 f.1.index) (numbered e.funcs) (λ f value trail. refl)))
      (all_append KeepsTrail _ _ (all_flat KeepsTrail _ m.segments
      (λ d. all_images KeepsTrail (λ b. WriteByte d b.0 b.1) (numbered d.bytes) (λ b value trail. refl))) (start_keeps m.start)))))))),
)

-- ---- the run over a module's tasks is what they come to, and the run behind

abbrev pub behind_module : Called → ℕ → (ℕ → store.Store → Trail → WasmRun) → WasmRun
behind_module (Back left value made trail) u go = go left made trail
behind_module (CallStops why made trail) u go = record { phase = Init u; events = trail.events; store = made; outcome = Stopped why }

task_by_task : (s : LinkedSet) (u : ℕ) (tasks : List Task) (rest : List Planned) → AllByRecursion KeepsTrail tasks
    → (n : ℕ) (made : store.Store) (trail : Trail) → run_tasks s (map (planned u) tasks ++ rest) (Init u) n made trail
    ≡ behind_module (do_tasks s u tasks n made trail) u (run_tasks s rest (Init u))
task_by_task s u [] rest keep n made trail = refl
task_by_task s u (t ∷ tasks) rest keep n made trail =
    go (paid (is_free t) n made trail (λ left. do_task s u t left made trail)) (task_by_task s u tasks rest keep.1)
  where
    go : (o : Called) → ((n : ℕ) (made : store.Store) (trail : Trail) → run_tasks s (map (planned u) tasks ++ rest) (Init u) n made trail
        ≡ behind_module (do_tasks s u tasks n made trail) u (run_tasks s rest (Init u)))
        → then_run o (planned u t) (run_tasks s (map (planned u) tasks ++ rest) (Init u))
        ≡ behind_module (and_then o (do_tasks s u tasks)) u (run_tasks s rest (Init u))
    go (Back left value made trail) others =
        ap (run_tasks s (map (planned u) tasks ++ rest) (Init u) left made) (keep.0 value trail) ∙ others left made trail
    go (CallStops why made trail) others = refl

pub module_run : (s : LinkedSet) (u : ℕ) (m : Module) (rest : List Planned) (last : Phase) (n : ℕ) (made : store.Store) (trail : Trail)
    → run_tasks s (map (planned u) (tasks_of m) ++ rest) last n made trail
    ≡ behind_module (do_tasks s u (tasks_of m) n made trail) u (run_tasks s rest (Init u))
module_run s u m rest last n made trail = task_by_task s u (tasks_of m) rest (tasks_keep m) n made trail
