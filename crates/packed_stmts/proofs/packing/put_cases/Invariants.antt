use Rattle.packed_stmts.proofs.Common.{◌≡◌, ◌++◌, length, take}
use Rattle.std.specs.Prelude.{flat_map}
use Rattle.packed_stmts.specs.Packed.{size_code, case_code}
use Rattle.packed_stmts.proofs.packing.put_cases.Given as goal

abbrev pub invariant-loop-case : goal.invariant-loop-case
invariant-loop-case l = l.bytes ≡ l.fn.bytes ++ (size_code (length l.cases) ++ flat_map case_code (take l.case-index l.cases))
