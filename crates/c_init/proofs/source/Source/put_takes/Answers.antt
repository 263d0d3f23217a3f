use Rattle.c_init.proofs.Common.{length, slice_get, map, ap, ◌∙◌, arith, stmt_of, NamedModule, module_of}
use Rattle.c_symbols.specs.Named.{typed_import}
use Rattle.c_symbols.proofs.Made.{stands_there}
use Rattle.c_init.proofs.Takes.{takes_end}
use Rattle.c_init.proofs.source.Source.put_takes.Goals as goal

pub imported-requires : goal.imported-requires
imported-requires c =
    omega (
      arith,
      c.loop-place-test.true,
      ap length c.as_slice-imports.ensures,
      ap (λ (n : NamedModule). length n.tree.imports) c.symbols.ensures,
    )

pub put_take-requires : goal.put_take-requires
put_take-requires c =
    let imports = c.args.self.now.tree.now.imports in
    let place = c.loop-place.place in
    let x = c.index-imports-place.result in
    c.imported.ensures x
    (ap (λ (n : NamedModule). slice_get n.tree.imports place) c.symbols.ensures
    ∙ stands_there imports c.as_slice-imports.result.now place x c.as_slice-imports.ensures c.loop-place-test.true c.index-imports-place.is)
    ∙ ap (λ (n : NamedModule). typed_import n.tree x) c.symbols.ensures

pub returns : goal.returns
returns c =
    takes_end (module_of c.args.self.now) (map stmt_of c.args.stmts.now) (map stmt_of c.loop-place.stmts) c.loop-place.number
    c.args.self.now.tree.now.imports c.as_slice-imports.result.now c.loop-place.place
    c.as_slice-imports.ensures c.loop-place-test.false c.loop-place.invariant.so_far
