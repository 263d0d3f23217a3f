use Rattle.c_thread.proofs.Common.{ap, ◌∙◌, arith, Going, state_in, step_in}
use Rattle.c_thread.specs.declared.linked.LinkedStep.TheVariants as outcome
use Rattle.c_thread.proofs.Ways.{on_its_way}
use Rattle.c_thread.proofs.linked.LinkedThread.run.Goals as goal

pub loop-steps-preserved : goal.loop-steps-preserved
loop-steps-preserved c = record {
  fewer = omega (arith, c.loop-steps.invariant.fewer);
  stored = λ names s. c.in_ok-other.ensures.stored names (c.loop-steps.invariant.stored names s);
  reaches = λ names p trail pending are types s.
      on_its_way p pending (Going pending (state_in names p trail c.args.self.now)) (state_in names p trail c.loop-steps.self)
      (step_in names p trail outcome.Next c.step.new.self) c.args.steps.now c.loop-steps.steps c.loop-steps-test.true
      c.loop-steps.invariant.fewer
      (c.in_ok-other.ensures.step names p trail are types (c.loop-steps.invariant.stored names s)
      ∙ ap (λ o. step_in names p trail o c.step.new.self) c.in-Next.is)
      (c.loop-steps.invariant.reaches names p trail pending are types s);
}

pub returns-in_default : goal.returns-in_default
returns-in_default c = record {
  reaches = λ names p trail pending are types s.
      on_its_way p pending (Going pending (state_in names p trail c.args.self.now)) (state_in names p trail c.loop-steps.self)
      (step_in names p trail c.in_ok-other.other c.step.new.self) c.args.steps.now c.loop-steps.steps c.loop-steps-test.true
      c.loop-steps.invariant.fewer
      (c.in_ok-other.ensures.step names p trail are types (c.loop-steps.invariant.stored names s))
      (c.loop-steps.invariant.reaches names p trail pending are types s);
  stored = λ names s. c.in_ok-other.ensures.stored names (c.loop-steps.invariant.stored names s);
  spent = λ e. absurd (c.in_default.not-Next e);
  fewer = omega (arith, c.loop-steps.invariant.fewer);
}
