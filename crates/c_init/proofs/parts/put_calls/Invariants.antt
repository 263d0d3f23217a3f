use Rattle.c_init.proofs.Common.{◌≡◌, ◌++◌, map, range_with_len, stmt_of}
use Rattle.std.proofs.Common.{◌-◌}
use Rattle.c_init.specs.Init.{call_part}
use Rattle.c_init.proofs.parts.put_calls.Given as goal

-- what is called, and what will be
abbrev pub invariant-loop-number : goal.invariant-loop-number
invariant-loop-number l = map stmt_of l.stmts ++ map call_part (range_with_len l.number (l.parts - l.number))
    ≡ map stmt_of l.fn.stmts ++ map call_part (range_with_len 0 l.parts)
