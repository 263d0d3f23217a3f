use Rattle.wasm_spelling.specs.ModuleFields.{name, import_kind}
use Rattle.wasm_writing.proofs.Lists.{puts_both}
use Rattle.wasm_writing.proofs.entries.ImportEntry.put.Goals as goal

pub returns : goal.returns
returns c =
    let i = c.args.self.now in
    puts_both (name i.«module») (λ rest. name i.field (import_kind i.kind i.place rest)) _ _ _ c.name.ensures
    (puts_both (name i.field) (import_kind i.kind i.place) _ _ _ c.name-2.ensures (c.imported.ensures i.place))
