use Rattle.crun.proofs.Common.{◌-◌, [], Some, sym, refl, ap, ◌∙◌, subst, Call, AreStored, HaveUnitTables, LinkedThread, trail_before}
use Rattle.crun.proofs.Common.{trail_behind, IsReady, naming_in, program_in}
use Rattle.crun.proofs.Functions.{
  alone_in,
  asks_none,
  came_part,
  came_there,
  engine_behind,
  has_outcome,
  if_ended,
  outcome_came,
  same_behind,
  still_ready,
  told_nothing,
  typed_behind,
}
use Rattle.crun.proofs.engine.Engine.run_function.Goals as goal

pub returns-in-Err-clause-wanting : goal.returns-in-Err-clause-wanting
returns-in-Err-clause-wanting g c = (
  [],
  asks_none g.H.HostModule c.args.self.now,
  told_nothing g.H.HostModule c.args.self.now c.args.unit c.args.item c.args.args.now
      c.requires.ready c.requires.begins
      c.args.self.now.left,
)

pub run-came-requires : goal.run-came-requires
run-came-requires g c = record {
  tables = subst HaveUnitTables (sym c.as_slice.ensures.value) c.requires.ready.started.tables;
}

pub returns-in-Err-came-clause-wanting : goal.returns-in-Err-came-clause-wanting
returns-in-Err-came-clause-wanting g c =
    let t : LinkedThread = record { depth = c.args.self.now.depth; store = c.replace.result; top = c.in-Ok.top; below = c.new-2.result } in
    let part = c.in-Err-came.ensures.wanting in (
      part.0,
      part.1,
      came_part g.H.HostModule c.args.self.now c.args.unit c.args.item c.args.args.now c.requires.ready c.in-Ok.top
          c.in-Ok.ensures
          c.as_slice.result.now c.as_slice.ensures.value t c.replace.ensures.value refl refl c.new-2.ensures.items c.args.self.now.left
          part.0
          part.2,
    )

pub returns-in-Err-came-clause-same : goal.returns-in-Err-came-clause-same
returns-in-Err-came-clause-same g c =
    let ran = c.in-Err-came.ensures.wanting in
    same_behind g.H.HostModule c.args.self.now c.run-came.new.thread c.run-came.new.hosts c.run-came.new.steps ran.0 ran.1

pub unreachable-requires : goal.unreachable-requires
unreachable-requires g c =
    let t : LinkedThread = record { depth = c.args.self.now.depth; store = c.replace.result; top = c.in-Ok.top; below = c.new-2.result } in
    let ran = c.in-Ok-came.ensures.ran in
    has_outcome g.H.HostModule c.args.self.now c.args.unit c.args.item c.args.args.now c.requires.ready c.requires.begins
    (c.args.self.now.left - c.run-came.new.steps)
    (trail_before ran.0 [] []) (trail_behind ran.0 [] []) c.in-Ok-came.ending c.run-came.new.thread
    (came_there g.H.HostModule c.args.self.now c.args.unit c.args.item c.args.args.now c.requires.ready c.in-Ok.top c.in-Ok.ensures
    c.as_slice.result.now c.as_slice.ensures.value t c.replace.ensures.value refl refl c.new-2.ensures.items
    (c.args.self.now.left - c.run-came.new.steps) ran.0 c.in-Ok-came.ending c.run-came.new.thread ran.2
    (alone_in (Call 0)) [] []) (sym c.outcome_of.ensures ∙ c.in_default.is)

pub returns-clause-came : goal.returns-clause-came
returns-clause-came g c =
    let t : LinkedThread = record { depth = c.args.self.now.depth; store = c.replace.result; top = c.in-Ok.top; below = c.new-2.result } in
    let ran = c.in-Ok-came.ensures.ran in (
      ran.0,
      ran.1,
      λ pending later told. outcome_came (program_in g.H.HostModule c.args.self.now) (naming_in c.args.self.now)
          c.run-came.new.thread
          pending (trail_behind ran.0 later told) c.in-Ok-came.ending c.in-Some.outcome _ (sym c.outcome_of.ensures ∙ c.in-Some.is)
          (came_there g.H.HostModule c.args.self.now c.args.unit c.args.item c.args.args.now c.requires.ready c.in-Ok.top c.in-Ok.ensures
          c.as_slice.result.now c.as_slice.ensures.value t c.replace.ensures.value refl refl c.new-2.ensures.items
          (c.args.self.now.left - c.run-came.new.steps) ran.0 c.in-Ok-came.ending c.run-came.new.thread ran.2
          pending later told),
    )

pub returns-clause-ready : goal.returns-clause-ready
returns-clause-ready g c =
    let t : LinkedThread = record { depth = c.args.self.now.depth; store = c.replace.result; top = c.in-Ok.top; below = c.new-2.result } in
    let behind = engine_behind c.args.self.now c.run-came.new.thread c.run-came.new.hosts c.run-came.new.steps in
    let ran = c.in-Ok-came.ensures.ran in
    if_ended c.in-Some.outcome (IsReady g.H.HostModule behind) (λ value is. still_ready g.H.HostModule c.args.self.now behind
    (same_behind g.H.HostModule c.args.self.now c.run-came.new.thread c.run-came.new.hosts c.run-came.new.steps ran.0 ran.1)
    c.requires.ready
    (c.in-Ok-came.ensures.stored (naming_in c.args.self.now) (subst (λ s. AreStored (naming_in c.args.self.now) s.units.items)
    (sym c.replace.ensures.value) c.requires.ready.stored))
    (typed_behind g.H.HostModule c.args.self.now c.args.unit c.args.item c.args.args.now c.requires.ready c.requires.begins
    (c.args.self.now.left - c.run-came.new.steps)
    (trail_before ran.0 [] []) (trail_behind ran.0 [] []) c.in-Ok-came.ending c.run-came.new.thread value
    (came_there g.H.HostModule c.args.self.now c.args.unit c.args.item c.args.args.now c.requires.ready c.in-Ok.top c.in-Ok.ensures
    c.as_slice.result.now c.as_slice.ensures.value t c.replace.ensures.value refl refl c.new-2.ensures.items
    (c.args.self.now.left - c.run-came.new.steps) ran.0 c.in-Ok-came.ending c.run-came.new.thread ran.2
    (alone_in (Call 0)) [] []) (sym c.outcome_of.ensures ∙ c.in-Some.is ∙ ap Some is)))

pub returns-clause-stored : goal.returns-clause-stored
returns-clause-stored g c =
    c.in-Ok-came.ensures.stored (naming_in c.args.self.now) (subst (λ s. AreStored (naming_in c.args.self.now) s.units.items)
    (sym c.replace.ensures.value) c.requires.ready.stored)

pub returns-clause-same : goal.returns-clause-same
returns-clause-same g c =
    let ran = c.in-Ok-came.ensures.ran in
    same_behind g.H.HostModule c.args.self.now c.run-came.new.thread c.run-came.new.hosts c.run-came.new.steps ran.0 ran.1
