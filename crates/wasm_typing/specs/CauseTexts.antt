-- The texts of the causes, as the lines of refused files have them.
use Rattle.std.specs.Prelude.{ℕ, List, codes}
use Rattle.wasm_typing.specs.declared.fault.ValidCause.{ValidCause}
use Rattle.wasm_typing.specs.declared.fault.ValidCause.TheVariants as cause

abbrev pub cause_text : ValidCause → List ℕ
cause_text cause.UnknownType = codes "unknown type"
cause_text cause.TooManyTables = codes "too many tables"
cause_text cause.TooManyMemories = codes "too many memories"
cause_text cause.MinAboveMax = codes "min above max"
cause_text cause.TooManyPages = codes "too many pages"
cause_text cause.ConstantExpected = codes "constant expected"
cause_text cause.UnknownGlobal = codes "unknown global"
cause_text cause.TypeMismatch = codes "type mismatch"
cause_text cause.UnknownFunction = codes "unknown function"
cause_text cause.UnknownTable = codes "unknown table"
cause_text cause.UnknownMemory = codes "unknown memory"
cause_text cause.DuplicateExport = codes "duplicate export"
cause_text cause.StartType = codes "start type"
cause_text cause.UnknownLocal = codes "unknown local"
cause_text cause.UnknownLabel = codes "unknown label"
cause_text cause.Alignment = codes "alignment"
cause_text cause.ImmutableGlobal = codes "immutable global"
