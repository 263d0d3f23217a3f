use Rattle.c_symbols.proofs.Common.{[], ◌∷◌, ◌++◌, map, flat_map, refl, ap, ◌∙◌, global_of_import}
use Rattle.w2c_base.proofs.Grown.{flat_map_next, map_next, read_again}
use Rattle.c_symbols.proofs.ByKind.{nothing_left, global_brought, no_global_brought}
use Rattle.c_symbols.proofs.indexes.global_types.Goals as goal
use Rattle.c_symbols.proofs.indexes.global_types.Goals.{in-Global+in_ok-push, in_default}

pub loop-import-preserved : goal.loop-import-preserved
loop-import-preserved c =
    let before = c.loop-import.space.items in
    let after = c.match-import.space.items in
    let import = c.import-item.result in
    flat_map_next before after _ c.as_slice-import-items.result.now c.loop-import.import-index import
    c.loop-import-test.true c.import-item.is global_of_import (elim c.match-import.branch [
      | in-Global+in_ok-push w ↦ global_brought import w.in-Global.ty w.in-Global.mutable before after w.in-Global.is
          (ap (λ s. s.items) w.space-is ∙ w.in_ok-push.ensures.items)
      | in_default w ↦ no_global_brought import before after w.in_default.not-Global (ap (λ s. s.items) w.space-is)
    ]) c.loop-import.invariant

pub loop-global-init : goal.loop-global-init
loop-global-init c =
    let imports = c.as_slice-import-items.result.now in
    let imported = flat_map global_of_import c.args.m.now.imports in
    ap (λ ys. ys ++ map (λ g. (g.ty, g.mutable)) c.as_slice-global-items.result.now)
    (nothing_left (flat_map global_of_import) c.loop-import.space.items imported imports c.loop-import.import-index refl
    c.loop-import-test.false c.loop-import.invariant)
    ∙ ap (λ ys. imported ++ map (λ g. (g.ty, g.mutable)) ys) c.as_slice-global-items.ensures

pub loop-global-preserved : goal.loop-global-preserved
loop-global-preserved c =
    let items = c.as_slice-global-items.result.now in
    map_next c.loop-global.space.items c.push-in-loop-global.new.self.items _ items c.loop-global.global-index _ c.loop-global-test.true
    (read_again items c.loop-global.global-index _) (λ g. (g.ty, g.mutable))
    (c.in_ok-push-2.ensures.items ∙ ap (λ g. c.loop-global.space.items ++ (g.ty, g.mutable) ∷ []) c.global-item.is) c.loop-global.invariant

pub returns : goal.returns
returns c =
    nothing_left (map (λ g. (g.ty, g.mutable))) c.loop-global.space.items _ c.as_slice-global-items.result.now
    c.loop-global.global-index refl c.loop-global-test.false c.loop-global.invariant
