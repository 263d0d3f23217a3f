use Rattle.c_init.proofs.Common.{◌≡◌, drop, list_any, has_test}
use Rattle.c_init.proofs.needs.tests_limits.Given as goal

-- what is left decides
abbrev pub invariant-loop-import : goal.invariant-loop-import
invariant-loop-import l = list_any has_test (drop l.import-index l.m.imports) ≡ list_any has_test l.m.imports
