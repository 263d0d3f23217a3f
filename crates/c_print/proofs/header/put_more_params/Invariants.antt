use Rattle.c_print.proofs.Common.{◌≡◌, ◌++◌, drop, each, next_type_text}
use Rattle.c_print.proofs.header.put_more_params.Given as goal

abbrev pub invariant-loop-param : goal.invariant-loop-param
invariant-loop-param l = l.text ++ each next_type_text (drop l.param-index l.params) ≡ l.fn.text ++ each next_type_text l.params
