use Rattle.wasm_writing.proofs.Common.{◌≡◌, ◌+◌, ◌≤◌, take, locals_of, runs, Puts}
use Rattle.wasm_writing.proofs.bodies.locals.Given as goal

abbrev pub invariant-loop-run : goal.invariant-loop-run
invariant-loop-run l = record {
  puts : Puts (runs 0 l.before (take l.run-index l.runs)) l.initial.draft l.draft;
  sum : l.locals ≡ locals_of (take l.run-index l.runs);
  low : l.locals ≤ 50000;
  all : l.before + l.locals ≤ 1000000;
}
