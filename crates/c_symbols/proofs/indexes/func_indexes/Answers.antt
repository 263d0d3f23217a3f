use Rattle.c_symbols.proofs.Common.{◌++◌, map, flat_map, refl, ap, ◌∙◌, func_of_import}
use Rattle.w2c_base.proofs.Grown.{flat_map_next, map_next, read_again}
use Rattle.c_symbols.proofs.ByKind.{nothing_left, func_brought, no_func_brought}
use Rattle.c_symbols.proofs.indexes.func_indexes.Goals as goal
use Rattle.c_symbols.proofs.indexes.func_indexes.Goals.{in-Func+in_ok-push, in_default}

pub loop-import-preserved : goal.loop-import-preserved
loop-import-preserved c =
    let before = c.loop-import.space.items in
    let after = c.match-import.space.items in
    let import = c.import-item.result in
    flat_map_next before after _ c.as_slice-import-items.result.now c.loop-import.import-index import
    c.loop-import-test.true c.import-item.is func_of_import (elim c.match-import.branch [
      | in-Func+in_ok-push w ↦ func_brought import w.in-Func.type_index before after w.in-Func.is
          (ap (λ s. s.items) w.space-is ∙ w.in_ok-push.ensures.items)
      | in_default w ↦ no_func_brought import before after w.in_default.not-Func (ap (λ s. s.items) w.space-is)
    ]) c.loop-import.invariant

pub loop-func-init : goal.loop-func-init
loop-func-init c =
    let imports = c.as_slice-import-items.result.now in
    let imported = flat_map func_of_import c.args.m.now.imports in
    ap (λ ys. ys ++ map (λ f. f.type_index) c.as_slice-func-items.result.now)
    (nothing_left (flat_map func_of_import) c.loop-import.space.items imported imports c.loop-import.import-index refl
    c.loop-import-test.false c.loop-import.invariant)
    ∙ ap (λ ys. imported ++ map (λ f. f.type_index) ys) c.as_slice-func-items.ensures

pub loop-func-preserved : goal.loop-func-preserved
loop-func-preserved c =
    let items = c.as_slice-func-items.result.now in
    map_next c.loop-func.space.items c.push-in-loop-func.new.self.items _ items c.loop-func.func-index _ c.loop-func-test.true
    (read_again items c.loop-func.func-index _) (λ f. f.type_index) c.in_ok-push-2.ensures.items c.loop-func.invariant

pub returns : goal.returns
returns c =
    nothing_left (map (λ f. f.type_index)) c.loop-func.space.items _ c.as_slice-func-items.result.now
    c.loop-func.func-index refl c.loop-func-test.false c.loop-func.invariant
