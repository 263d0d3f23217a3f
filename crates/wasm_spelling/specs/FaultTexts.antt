-- The texts of causes and limits, as the lines of refused files have them.
use Rattle.std.specs.Prelude.{ℕ, List, codes}
use Rattle.wasm_spelling.specs.declared.fault.Cause.{Cause}
use Rattle.wasm_spelling.specs.declared.fault.Cause.TheVariants as cause
use Rattle.wasm_spelling.specs.declared.fault.Which.{Which}
use Rattle.wasm_spelling.specs.declared.fault.Which.TheVariants as which

abbrev pub cause_text : Cause → List ℕ
cause_text cause.UnexpectedEnd = codes "unexpected end"
cause_text cause.IntegerTooLong = codes "integer too long"
cause_text cause.UnusedBits = codes "unused bits"
cause_text cause.BadMagic = codes "bad magic"
cause_text cause.BadVersion = codes "bad version"
cause_text cause.BadSectionId = codes "bad section id"
cause_text cause.SectionOrder = codes "section order"
cause_text cause.CountDiffers = codes "count differs"
cause_text cause.SizePastEnd = codes "size past end"
cause_text cause.SectionNotUsedUp = codes "section not used up"
cause_text cause.BodyNotUsedUp = codes "body not used up"
cause_text cause.BadUTF8 = codes "bad UTF-8"
cause_text cause.BadForm = codes "bad form"
cause_text cause.BadTypeCode = codes "bad type code"
cause_text cause.BadKind = codes "bad kind"
cause_text cause.BadElementType = codes "bad element type"
cause_text cause.BadLimitsFlag = codes "bad limits flag"
cause_text cause.BadMutability = codes "bad mutability"
cause_text cause.BadOpcode = codes "bad opcode"
cause_text cause.ZeroByteExpected = codes "zero byte expected"

abbrev pub which_text : Which → List ℕ
which_text which.ModuleBytes = codes "module bytes"
which_text which.SetBytes = codes "set bytes"
which_text which.Parameters = codes "parameters"
which_text which.Results = codes "results"
which_text which.NameLength = codes "name length"
which_text which.Functions = codes "functions"
which_text which.Locals = codes "locals"
which_text which.AllLocals = codes "all locals"
which_text which.BlockDepth = codes "block depth"
which_text which.MemoryPages = codes "memory pages"
which_text which.TableLength = codes "table length"
