use Rattle.c_machine.proofs.Common.{◌≡◌, drop, list_any, stmt_of, is_label}
use Rattle.c_machine.proofs.ahead.has_label.Given as goal

abbrev pub invariant-loop-stmt : goal.invariant-loop-stmt
invariant-loop-stmt l =
    list_any (λ s. is_label (stmt_of s)) (drop l.stmt-index l.stmts) ≡ list_any (λ s. is_label (stmt_of s)) l.stmts
