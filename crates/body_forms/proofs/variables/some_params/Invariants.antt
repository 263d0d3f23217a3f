use Rattle.body_forms.proofs.Common.{◌≡◌, ◌++◌, drop, params_from}
use Rattle.body_forms.proofs.variables.some_params.Given as goal

abbrev pub invariant-loop-ty : goal.invariant-loop-ty
invariant-loop-ty l = record {
  place : l.index ≡ l.ty-index;
  so_far : l.params ++ params_from l.index (drop l.ty-index l.types) ≡ params_from 0 l.types;
}
