use Rattle.body_check.proofs.Common.{◌≡◌, ◌++◌, drop, replicate, declared_locals}
use Rattle.body_check.proofs.context.locals_of.Given as goal

-- the locals so far and those that are left are all
abbrev pub invariant-loop-run : goal.invariant-loop-run
invariant-loop-run l = l.locals.items ++ declared_locals (drop l.run-index l.run-items) ≡ l.ty.params ++ declared_locals l.body.runs

abbrev pub invariant-loop : goal.invariant-loop
invariant-loop l = l.locals.items ≡ l.initial.locals.items ++ replicate l.counter l.run.ty
