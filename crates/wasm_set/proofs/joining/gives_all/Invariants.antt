use Rattle.wasm_set.proofs.Common.{◌≡◌, drop, list_all, is_given}
use Rattle.wasm_set.proofs.joining.gives_all.Given as goal

abbrev pub invariant-loop-import : goal.invariant-loop-import
invariant-loop-import l =
    let given = is_given l.modules l.m in
    list_all given (drop l.import-index l.m.imports) ≡ list_all given l.m.imports
