use Rattle.body_emitter.proofs.Common.{◌≡◌, ◌+◌, ◌++◌, drop, cases_from, made_by}
use Rattle.body_emitter.specs.Made.{aims_of}
use Rattle.body_emitter.proofs.emitter.Emitter.cases.Given as goal

abbrev pub invariant-loop-index : goal.invariant-loop-index
invariant-loop-index l = record {
  number : l.number ≡ l.index-index;
  label : l.at ≡ l.index-index + l.own;
  so_far : l.cases ++ cases_from (aims_of (made_by l.self)) (made_by l.self).types l.number l.at (drop l.index-index l.indexes)
      ≡ cases_from (aims_of (made_by l.self)) (made_by l.self).types 0 l.own l.indexes;
}
