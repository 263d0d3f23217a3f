-- What is known where an init function calls a part is known inside the part, and behind its return.
use Rattle.c_tree.specs.Tree as c
use Rattle.c_meaning.specs.State as state
use Rattle.init_meaning.proofs.Common.{List, LinkedSet, NamedModule, ElementEntry, GlobalEntry, SegmentEntry, true}
use Rattle.init_meaning.proofs.InitStatements.{Seat}
use Rattle.init_meaning.proofs.Surroundings.{Surroundings}
use Rattle.init_meaning.proofs.SegmentTests.{AreTested}
use Rattle.init_meaning.proofs.MakeTasks.{IsMaking, with_locals}
use Rattle.init_meaning.proofs.FirstVars.{init_locals}
use Rattle.init_meaning.proofs.PartCalls.{Crosses, inside}

pub inside_around : (s : LinkedSet) (g : Seat) (m : NamedModule) (item : _) (stmts rest : List c.Stmt) (vars : state.Vars)
    → Surroundings s g m → Surroundings s (inside g item stmts rest vars) m
inside_around s g m item stmts rest vars a = record { module_is = a.module_is; known = a.known; instantiable = a.instantiable }

pub making_crosses : (s : LinkedSet) (m : NamedModule) (front : List GlobalEntry) → Crosses m (λ g. IsMaking s g m true true front)
making_crosses s m front = record {
  locals = λ g mach made trail vars h. h.own.locals;
  enters = λ g item stmts rest vars mach made trail h. record
      { o = h.o; x = h.x; own = with_locals h.own (init_locals m.tree); table = h.table; memory = h.memory; types = h.types };
  leaves = λ g item stmts rest vars mach made trail inner known h. record
      { o = h.o; x = h.x; own = with_locals h.own known; table = h.table; memory = h.memory; types = h.types };
}

pub tested_crosses : (s : LinkedSet) (m : NamedModule) (elements : List ElementEntry) (segments : List SegmentEntry)
    → Crosses m (λ g. AreTested s g m elements segments)
tested_crosses s m elements segments = record {
  locals = λ g mach made trail vars h. h.filled.locals;
  enters = λ g item stmts rest vars mach made trail h. record {
    filled = record { together = h.filled.together; locals = init_locals m.tree };
    elements_fit = h.elements_fit;
    data_fit = h.data_fit;
  };
  leaves = λ g item stmts rest vars mach made trail inner known h. record
      { filled = record { together = h.filled.together; locals = known }; elements_fit = h.elements_fit; data_fit = h.data_fit };
}
