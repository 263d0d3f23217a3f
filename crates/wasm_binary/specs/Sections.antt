-- Sections as the reader returns them.
use Rattle.std.specs.Prelude.{Bool, true, false}
use Rattle.wasm_tree.specs.declared.tree.Module.{Module}
use Rattle.wasm_spelling.specs.Steps.{Reader, done, SectionId, no_section, a_custom, a_part}
use Rattle.wasm_spelling.specs.Parts.{part_is}
use Rattle.wasm_spelling.specs.Reading.{custom_at, part_at}
use Rattle.wasm_binary.specs.declared.sections.Heading.{Heading}
use Rattle.wasm_binary.specs.declared.sections.Heading.TheVariants as heading

abbrev pub id_of_heading : Heading → SectionId
id_of_heading heading.End = no_section
id_of_heading heading.Custom = a_custom
id_of_heading (heading.Part p) = a_part (part_is p)

abbrev pub is_no_section : SectionId → Bool
is_no_section no_section = true
is_no_section a_custom = false
is_no_section (a_part p) = false

-- what is read behind a section's id
abbrev pub behind_id : SectionId → Module → Reader Module
behind_id no_section t = done t
behind_id a_custom t = custom_at t
behind_id (a_part p) t = part_at p t
