use Rattle.c_unit.proofs.Common.{◌≡◌, Bool, refl, ap, ◌∙◌, ValType, is_global_import, Import, ImportGlobal, Module, global_drawn, kind_next}
use Rattle.c_unit.proofs.Common.{no_global_drawn, pointer_type, pointed}
use Rattle.c_unit.proofs.global_pointers.global_pointers.Goals as goal
use Rattle.c_unit.proofs.global_pointers.global_pointers.Goals.{in-Global+in_ok-push, in_default}

pointed_at : (m : Module) (i : Import) (t : ValType) (mutable : Bool) → i.kind ≡ ImportGlobal t mutable → pointer_type t ≡ pointed m i
pointed_at m i t mutable e = rw e refl

pub loop-import-preserved : goal.loop-import-preserved
loop-import-preserved c =
    let before = c.loop-import.types.items in
    let after = c.match-import.types.items in
    let m = c.args.m.now in
    let items = c.as_slice-import-items.result.now in
    let import = c.import-item.result in
    elim c.match-import.branch [
      | in-Global+in_ok-push w ↦ kind_next is_global_import (pointed m) before after _ w.pointer_type.result m.imports items
          c.loop-import.import-index import c.as_slice-import-items.ensures c.loop-import-test.true c.import-item.is
          (w.pointer_type.ensures ∙ pointed_at m import w.in-Global.ty w.in-Global.field-1 w.in-Global.is)
          (global_drawn import w.in-Global.ty w.in-Global.field-1 w.pointer_type.result before after w.in-Global.is
          (ap (λ s. s.items) w.types-is ∙ w.in_ok-push.ensures.items)) c.loop-import.invariant
      | in_default w ↦ kind_next is_global_import (pointed m) before after _ (pointed m import) m.imports items
          c.loop-import.import-index import c.as_slice-import-items.ensures c.loop-import-test.true c.import-item.is refl
          (no_global_drawn import (pointed m import) before after w.in_default.not-Global (ap (λ s. s.items) w.types-is))
          c.loop-import.invariant
    ]
