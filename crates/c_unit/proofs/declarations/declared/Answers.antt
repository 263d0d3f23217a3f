use Rattle.c_unit.proofs.Common.{◌<◌, length, map, refl, sym, ap, ◌∙◌, arith, Module, named_of, pair_of, Typed}
use Rattle.std.proofs.lemmas.Option.{get_or_from_slice_get}
use Rattle.c_symbols.specs.declared.indexes.Indexes.{Indexes}
use Rattle.w2c_base.proofs.Places.{get_within}
use Rattle.c_unit.proofs.SeenNames.{declares_next, declares_all}
use Rattle.c_unit.proofs.declarations.declared.Goals as goal

pub imported-requires : goal.imported-requires
imported-requires c =
    let tree = c.tree.ensures ∙ ap (λ (i : Indexes). i.tree.now) c.indexes-spaces.ensures in
    let same = c.as_slice-imports.ensures ∙ ap (λ (m : Module). m.imports) tree in
    omega (arith, c.loop-place-test.true, ap length same)

pub loop-place-preserved : goal.loop-place-preserved
loop-place-preserved c =
    let tree = c.tree.ensures ∙ ap (λ (i : Indexes). i.tree.now) c.indexes-spaces.ensures in
    let same = c.as_slice-imports.ensures ∙ ap (λ (m : Module). m.imports) tree in
    let imports = c.args.symbols.now.indexes.tree.now.imports in
    let place = c.loop-place.place in
    let within : place < length imports = omega (arith, c.loop-place-test.true, ap length same) in
    let there = get_within imports place within in
    declares_next (named_of c.args.symbols.now.indexes) c.loop-place.seen c.put_if.new.seen (map pair_of c.loop-place.list.items)
    (map pair_of c.put_if.new.list.items) imports imports place there.0
    _
    refl within (sym (get_or_from_slice_get imports place there.0 there.0 there.1))
    (c.in_ok-name.ensures ∙ ap (λ (t : Typed). t.0) (c.imported.ensures there.0 there.1))
    c.in_ok-put_if.ensures.seen c.in_ok-put_if.ensures.list c.loop-place.invariant

pub returns : goal.returns
returns c =
    let tree = c.tree.ensures ∙ ap (λ (i : Indexes). i.tree.now) c.indexes-spaces.ensures in
    let same = c.as_slice-imports.ensures ∙ ap (λ (m : Module). m.imports) tree in
    let imports = c.args.symbols.now.indexes.tree.now.imports in
    declares_all (named_of c.args.symbols.now.indexes) c.loop-place.seen (map pair_of c.loop-place.list.items)
    imports imports c.loop-place.place refl (omega (arith, c.loop-place-test.false, ap length same)) c.loop-place.invariant
