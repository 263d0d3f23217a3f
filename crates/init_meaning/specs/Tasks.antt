-- The tasks of an instantiation in order, each paid (WebAssembly Core 1.0, 4.5.4).
use Rattle.std.specs.Prelude.{ℕ, List, [], ◌∷◌, None}
use Rattle.w2c_base.specs.Run.{Trail}
use Rattle.wasm_meaning.specs.LinkedSet.{LinkedSet}
use Rattle.wasm_meaning.specs.Store as store
use Rattle.wasm_meaning.specs.Execution.{Called, Back, CallStops}
use Rattle.wasm_meaning.specs.Run.{Task, do_task, is_free, paid}

-- tasks in order, each paid
abbrev pub and_then : Called → (ℕ → store.Store → Trail → Called) → Called
and_then (Back left value made trail) go = go left made trail
and_then (CallStops why made trail) go = CallStops why made trail

abbrev pub do_tasks : LinkedSet → ℕ → List Task → ℕ → store.Store → Trail → Called
do_tasks s u [] n made trail = Back n None made trail
do_tasks s u (t ∷ tasks) n made trail =
    and_then (paid (is_free t) n made trail (λ left. do_task s u t left made trail)) (do_tasks s u tasks)
