use Rattle.c_init.proofs.Common.{length, map, filter, refl, ap, ◌∙◌, arith, is_func_import, kind_next, import_symbol}
use Rattle.wasm_tree.specs.declared.tree.Module.{Module}
use Rattle.c_symbols.specs.Symbols.{Typed}
use Rattle.c_symbols.specs.declared.indexes.Indexes.{Indexes}
use Rattle.c_symbols.proofs.ByKind.{none_more}
use Rattle.c_symbols.proofs.Made.{stands_there}
use Rattle.c_init.proofs.import_symbols.func_symbols.Goals as goal

pub imported-requires : goal.imported-requires
imported-requires c =
    let tree = c.tree.ensures ∙ ap (λ (i : Indexes). i.tree.now) c.indexes-spaces.ensures in
    let same = c.as_slice-imports.ensures ∙ ap (λ (m : Module). m.imports) tree in
    omega (arith, c.loop-place-test.true, ap length same)

pub loop-place-preserved : goal.loop-place-preserved
loop-place-preserved c =
    let tree = c.tree.ensures ∙ ap (λ (i : Indexes). i.tree.now) c.indexes-spaces.ensures in
    let same = c.as_slice-imports.ensures ∙ ap (λ (m : Module). m.imports) tree in
    let imports = c.args.symbols.now.indexes.tree.now.imports in
    let x = c.index-imports-place.result in
    let items = c.as_slice-imports.result.now in
    let there = stands_there imports items c.loop-place.place x same c.loop-place-test.true c.index-imports-place.is in
    kind_next is_func_import import_symbol c.loop-place.names.items c.put_func.new.names.items _ c.imported.result.now.name imports
    items c.loop-place.place x same c.loop-place-test.true c.index-imports-place.is
    (ap (λ (t : Typed). t.0) (c.imported.ensures x there)) c.in_ok-put_func.ensures c.loop-place.invariant

pub returns : goal.returns
returns c =
    let tree = c.tree.ensures ∙ ap (λ (i : Indexes). i.tree.now) c.indexes-spaces.ensures in
    let same = c.as_slice-imports.ensures ∙ ap (λ (m : Module). m.imports) tree in
    none_more (λ is. map import_symbol (filter is_func_import is)) c.loop-place.names.items _ c.args.symbols.now.indexes.tree.now.imports
    c.as_slice-imports.result.now c.loop-place.place same refl c.loop-place-test.false c.loop-place.invariant
