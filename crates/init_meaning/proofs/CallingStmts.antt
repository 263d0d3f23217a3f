-- The init function of a large module, which calls its parts: their tasks are done in order, and then the start call.
use Rattle.wasm_meaning.specs.Execution as exec
use Rattle.c_tree.specs.Tree as c
use Rattle.c_init.specs.Init.{Part, all_parts, bytes_part, data_tests_part, element_tests_part, elements_of}
use Rattle.c_init.specs.Init.{elements_part, pieces, some_bytes}
use Rattle.init_meaning.proofs.Common.{◌≡◌, ℕ, suc, true, List, [], ◌∷◌, ◌++◌, map, length, filter, flat_map, refl, arith, numbered}
use Rattle.init_meaning.proofs.Common.{ElementEntry, FuncRef, LinkedSet, Module, NamedModule, Task, TestData, WriteElement, start_tasks}
use Rattle.init_meaning.proofs.Common.{CallsFollow, start_stmts}
use Rattle.init_meaning.specs.Parts.{PartsAreDefined}
use Rattle.init_meaning.proofs.InitStatements.{Seat}
use Rattle.init_meaning.proofs.InitRuns.{FollowsTasks}
use Rattle.init_meaning.proofs.Surroundings.{Surroundings}
use Rattle.init_meaning.proofs.SegmentTests.{AreTested}
use Rattle.init_meaning.proofs.ElementWrites.{by_segment, element_task}
use Rattle.init_meaning.proofs.DataWrites.{tasks_of}
use Rattle.init_meaning.proofs.MakeTasks.{IsMaking, all_made, global_task}
use Rattle.init_meaning.proofs.StartTasks.{before_tests, starts, tasks_behind}
use Rattle.init_meaning.proofs.PartRows.{calls, kind_called}
use Rattle.init_meaning.proofs.PartKinds.{bytes_called, data_pieces, element_pieces, global_pieces, write_pieces}

module _ (s : LinkedSet) (g : Seat) (m : NamedModule) (a : Surroundings s g m) (last : g.below ≡ g.last)
    (law : CallsFollow g.program s (suc g.unit) 1024 (exec.call_within s 1024)) (rest : List c.Stmt) where
  abbrev t : Module
  t = m.tree

  abbrev ends : List c.Stmt
  ends = start_stmts m t.start ++ (c.ReturnNone ∷ rest)

  -- the parts from a kind on
  abbrev from_bytes : List Part
  from_bytes = map (bytes_part t) (filter some_bytes (pieces (numbered t.segments)))

  abbrev from_writes : List Part
  from_writes = map (elements_part t) (pieces (elements_of t)) ++ from_bytes

  abbrev from_data : List Part
  from_data = map (data_tests_part t) (pieces t.segments) ++ from_writes

  abbrev from_elements : List Part
  from_elements = map (element_tests_part t) (pieces t.elements) ++ from_data

  abbrev byte_writes : List Task
  byte_writes = tasks_of t.segments ++ start_tasks t.start

  abbrev element_writes : List Task
  element_writes =
      flat_map (λ (e : ElementEntry). map (λ (f : ℕ × FuncRef). WriteElement e f.0 f.1.index) (numbered e.funcs)) t.elements ++ byte_writes

  writes_follow : (k : ℕ) → PartsAreDefined g.program g.unit t k from_writes
      → FollowsTasks s g 62 (AreTested s g m t.elements t.segments) (calls k from_writes ++ ends) element_writes
  writes_follow k defined =
      rw (by_segment element_task t.elements) at (kind_called (write_pieces s g m a) 61 k from_bytes ends byte_writes defined (λ k defined.
      bytes_called s g m a (length t.segments) 61 k 0 [] t.segments ends (start_tasks t.start) (omega arith) refl refl
      a.instantiable.segments defined (starts s g m t.start rest last a a.instantiable.start law)))

  pub parts_follow : PartsAreDefined g.program g.unit t 0 (all_parts t)
      → FollowsTasks s g 62 (IsMaking s g m true true []) (calls 0 (all_parts t) ++ ends)
      (map global_task (numbered t.globals) ++ tasks_behind t)
  parts_follow defined =
      kind_called (global_pieces s g m a) 61 0 from_elements ends (tasks_behind t) defined (λ k defined.
      all_made s g m a (before_tests s g m
      (kind_called (element_pieces s g m a) 61 k from_data ends (map TestData t.segments ++ element_writes) defined (λ k defined.
      kind_called (data_pieces s g m a) 61 k from_writes ends element_writes defined writes_follow))))
