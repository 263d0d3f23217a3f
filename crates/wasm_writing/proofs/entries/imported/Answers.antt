use Rattle.wasm_writing.proofs.Common.{sym, subst, ImportKind, byte, here, import_kind, memory_type, mutability_code, value_type, Puts}
use Rattle.wasm_writing.proofs.Lists.{puts_both}
use Rattle.wasm_writing.proofs.Codes.{puts_here}
use Rattle.wasm_writing.proofs.entries.imported.Goals as goal

pub returns-in-Memory : goal.returns-in-Memory
returns-in-Memory c = λ place.
    let l = c.in-Memory.limits in
    subst (λ (k : ImportKind). Puts (import_kind k place) c.args.draft.now c.memory_type.new.draft) (sym c.in-Memory.is)
    (puts_both (byte 0x02) (λ rest. here place (memory_type l rest)) _ _ _ c.byte-in-Memory.ensures (puts_here place
    (memory_type l) _ _ c.memory_type.ensures))

pub returns-in-Global : goal.returns-in-Global
returns-in-Global c = λ place.
    let ty = c.in-Global.ty in
    let mutable = c.in-Global.mutable in
    subst (λ (k : ImportKind). Puts (import_kind k place) c.args.draft.now c.mutability.new.draft) (sym c.in-Global.is)
    (puts_both (byte 0x03) (λ rest. here place (value_type ty (byte (mutability_code mutable) rest))) _ _ _ c.byte-in-Global.ensures
    (puts_here place (λ rest. value_type ty (byte (mutability_code mutable) rest)) _ _ (puts_both (value_type ty)
    (byte (mutability_code mutable)) _ _ _ c.put.ensures c.mutability.ensures)))
