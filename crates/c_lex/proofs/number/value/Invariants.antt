use Rattle.c_lex.proofs.Common.{◌≡◌, drop, value_of}
use Rattle.c_lex.proofs.number.value.Given as goal

abbrev pub invariant-loop-digit : goal.invariant-loop-digit
invariant-loop-digit l = value_of l.n (drop l.digit-index l.digits) ≡ value_of 0 l.digits
