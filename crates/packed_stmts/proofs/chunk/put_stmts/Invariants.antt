use Rattle.packed_stmts.proofs.Common.{◌≡◌, ◌++◌, map, length, take, stmt_of}
use Rattle.std.specs.Prelude.{flat_map}
use Rattle.packed_stmts.specs.Packed.{size_code}
use Rattle.packed_stmts.specs.Statement.{stmt_code}
use Rattle.packed_stmts.proofs.chunk.put_stmts.Given as goal

abbrev pub invariant-loop-stmt : goal.invariant-loop-stmt
invariant-loop-stmt l =
    l.bytes ≡ l.fn.bytes ++ (size_code (length l.stmts) ++ flat_map stmt_code (map stmt_of (take l.stmt-index l.stmts)))
