use Rattle.std.proofs.Common.{◌≡◌, ◌<◌, ◌++◌, All, length}
use Rattle.w2c_mangle.specs.Escaping.{escaped}
use Rattle.w2c_mangle.proofs.unescaping.unescape.Given as goal

abbrev pub invariant-loop-rest : goal.invariant-loop-rest
invariant-loop-rest l = record {
  so_far : escaped l.name ++ l.rest ≡ l.text;
  bytes : All (λ b. b < 256) l.name;
}

abbrev pub decreases-loop-rest : goal.decreases-loop-rest
decreases-loop-rest l = length l.rest
