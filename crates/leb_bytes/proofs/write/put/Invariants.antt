use Rattle.std.proofs.Common.{◌≡◌, drop, length}
use Rattle.leb_bytes.proofs.Written.{Holds}
use Rattle.leb_bytes.proofs.write.put.Given as goal

abbrev pub invariant-loop-i : goal.invariant-loop-i
invariant-loop-i l = record {
  holds : Holds l.pattern l.i l.out;
  rest : drop l.count l.out ≡ drop l.count l.initial.out;
  length : length l.out ≡ 10;
}
