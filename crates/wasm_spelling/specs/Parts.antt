-- The sections as the programs name them.
use Rattle.wasm_spelling.specs.ModuleFields as of
use Rattle.wasm_spelling.specs.declared.part.Part.{Part}
use Rattle.wasm_spelling.specs.declared.part.Part.TheVariants as part

abbrev pub part_is : Part → of.Part
part_is part.Types = of.types
part_is part.Imports = of.imports
part_is part.Functions = of.functions
part_is part.Tables = of.tables
part_is part.Memories = of.memories
part_is part.Globals = of.globals
part_is part.Exports = of.exports
part_is part.Start = of.start
part_is part.Elements = of.elements
part_is part.DataCount = of.data_count
part_is part.Code = of.code
part_is part.Segments = of.segments
