use Rattle.wasm_writing.proofs.Common.{byte, here, number, export_code, name}
use Rattle.wasm_writing.proofs.Lists.{puts_both}
use Rattle.wasm_writing.proofs.Codes.{puts_here}
use Rattle.wasm_writing.proofs.entries.ExportEntry.put.Goals as goal

pub returns : goal.returns
returns c =
    let e = c.args.self.now in
    puts_here e.name_place (λ rest. name e.name (byte (export_code e.kind) (here e.index_place (number e.index rest)))) _ _
    (puts_both (name e.name) (λ rest. byte (export_code e.kind) (here e.index_place (number e.index rest))) _ _ _ c.name.ensures
    (puts_both (byte (export_code e.kind)) (λ rest. here e.index_place (number e.index rest)) _ _ _ c.export_kind.ensures
    (puts_here e.index_place (number e.index) _ _ c.number.ensures)))
