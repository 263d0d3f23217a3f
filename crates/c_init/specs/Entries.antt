-- How many entries a module has that its unit has items for.
use Rattle.std.specs.Prelude.{ℕ, ◌+◌, length}
use Rattle.wasm_tree.specs.declared.tree.Module.{Module}

abbrev pub entries : Module → ℕ
entries m =
    length m.imports + (length m.funcs + (length m.tables + (length m.memories + (length m.globals
    + (length m.exports + length m.segments)))))
