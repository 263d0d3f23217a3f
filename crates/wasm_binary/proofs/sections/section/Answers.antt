use Rattle.wasm_binary.proofs.Common.{err_from_is_err_and, part_is, at}
use Rattle.wasm_spelling.specs.declared.fault.Cause.TheVariants as cause
use Rattle.wasm_spelling.specs.Reading.{content_at, custom_content_at, custom_at, part_at}
use Rattle.wasm_binary.proofs.NoWindow.{no_window}
use Rattle.wasm_binary.proofs.sections.section.Goals as goal

pub returns-in_err-inside-in-Custom : goal.returns-in_err-inside-in-Custom
unfolding custom_at
returns-in_err-inside-in-Custom c =
    let p = err_from_is_err_and c.from_residual.result c.from_residual.ensures.1 in
    rw (p.1, p.2, c.in-Custom.is) (no_window c.in_err-inside-in-Custom.field-0.0 cause.SectionNotUsedUp
    (custom_content_at c.args.«module».now) (at c.args.rest) c.in_err-inside-in-Custom.ensures)

pub returns-in_err-inside-in-Part : goal.returns-in_err-inside-in-Part
unfolding part_at
returns-in_err-inside-in-Part c =
    let p = err_from_is_err_and c.from_residual-in_err-inside-in-Part.result c.from_residual-in_err-inside-in-Part.ensures.1 in
    rw (p.1, p.2, c.in-Part.is) (no_window c.in_err-inside-in-Part.field-0.0 cause.SectionNotUsedUp
    (content_at (part_is c.in-Part.part) c.args.«module».now) (at c.args.rest) c.in_err-inside-in-Part.ensures)
