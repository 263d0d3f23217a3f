use Rattle.body_forms.proofs.Common.{◌≡◌, ◌+◌, ◌++◌, drop, locals_from}
use Rattle.body_forms.proofs.variables.declared.Given as goal

abbrev pub invariant-loop-ty : goal.invariant-loop-ty
invariant-loop-ty l = record {
  place : l.index ≡ l.first + l.ty-index;
  so_far : l.locals ++ locals_from l.index (drop l.ty-index l.types) ≡ locals_from l.first l.types;
}
