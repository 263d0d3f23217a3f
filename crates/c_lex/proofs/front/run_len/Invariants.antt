use Rattle.c_lex.proofs.Common.{◌≡◌, ◌++◌, take, drop, run, in_class}
use Rattle.c_lex.proofs.front.run_len.Given as goal

abbrev pub invariant-loop-i : goal.invariant-loop-i
invariant-loop-i l = take l.i l.bytes ++ run (in_class l.class) (drop l.i l.bytes) ≡ run (in_class l.class) l.bytes
