use Rattle.std.proofs.Common.{◌≡◌, ◌++◌, drop}
use Rattle.w2c_mangle.specs.Escaping.{escaped}
use Rattle.w2c_mangle.proofs.escaping.put_escaped.Given as goal

abbrev pub invariant-loop-byte : goal.invariant-loop-byte
invariant-loop-byte l = l.text ++ escaped (drop l.byte-index l.name) ≡ l.fn.text ++ escaped l.name
