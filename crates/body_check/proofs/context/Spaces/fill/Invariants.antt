use Rattle.body_check.proofs.Common.{◌≡◌, ◌++◌, drop, flat_map, func_of_import, global_of_import, memory_of_import, table_of_import}
use Rattle.body_check.proofs.context.Spaces.fill.Given as goal

-- what the imports so far brought, and what the others bring
abbrev pub invariant-loop-import : goal.invariant-loop-import
invariant-loop-import l = record {
  types : l.self.types.now ≡ l.m.types;
  funcs : l.self.funcs.items ++ flat_map func_of_import (drop l.import-index l.import-items) ≡ flat_map func_of_import l.m.imports;
  tables : l.self.tables.items ++ flat_map table_of_import (drop l.import-index l.import-items) ≡ flat_map table_of_import l.m.imports;
  memories : l.self.memories.items ++ flat_map memory_of_import (drop l.import-index l.import-items)
      ≡ flat_map memory_of_import l.m.imports;
  globals : l.self.globals.items ++ flat_map global_of_import (drop l.import-index l.import-items)
      ≡ flat_map global_of_import l.m.imports;
}
