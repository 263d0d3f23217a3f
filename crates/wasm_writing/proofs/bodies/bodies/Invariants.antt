use Rattle.wasm_writing.proofs.Common.{◌≡◌, ◌≤◌, take, bodies, Puts}
use Rattle.wasm_writing.proofs.BodyLemmas.{all_of}
use Rattle.wasm_writing.proofs.bodies.bodies.Given as goal

abbrev pub invariant-loop-entry : goal.invariant-loop-entry
invariant-loop-entry l = record {
  puts : Puts (bodies 0 (take l.entry-index l.bodies)) l.initial.draft l.draft;
  sum : l.all_locals ≡ all_of (take l.entry-index l.bodies);
  most : l.all_locals ≤ 1000000;
}
