-- What a body's size counts.
use Rattle.std.specs.Prelude.{ℕ, length}
use Rattle.wasm_tree.specs.declared.entries.BodyEntry.{BodyEntry}
use Rattle.wasm_spelling.specs.Fields.{Fields, number}
use Rattle.wasm_spelling.specs.ModuleFields.{code_fields, end_byte, runs}
use Rattle.wasm_tree.specs.Limits.{most_blocks}

-- where so many locals stand in bodies before it
abbrev pub body_content : ℕ → BodyEntry → Fields → Fields
body_content all_locals b rest =
    number (length b.runs) (runs 0 all_locals b.runs (code_fields most_blocks b.code (end_byte b.end_place rest)))
