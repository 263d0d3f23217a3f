use Rattle.c_unit.proofs.Common.{◌≡◌, ℕ, IfOk, slice_get, Some, ap, ◌∙◌, subst, Export, NamedModule, global_name, memory_name, table_name}
use Rattle.c_unit.proofs.Common.{slice_get_within, pair_of, Typed, global_imports, memory_imports, table_imports, callee, module_of}
use Rattle.c_symbols.specs.Named.{typed_export}
use Rattle.c_init.specs.declared.source.Source.{Source}
use Rattle.c_tree.specs.Tree as tree
use Rattle.c_tree.specs.View.{func_of}
use Rattle.c_unit.proofs.Accesses.{passed_at, given_at, table_export, memory_export, global_export}
use Rattle.c_unit.proofs.exports.export_func.Goals as goal

-- it stands at its place in the module by its symbols, too
stands_with : (s : Source) (i : ℕ) (e : Export) (n : NamedModule) → n ≡ module_of s → slice_get s.tree.now.exports i ≡ Some e
    → slice_get n.tree.exports i ≡ Some e
stands_with s i e n same at = ap (λ (n : NamedModule). slice_get n.tree.exports i) same ∙ at

-- and its symbol was made there
symbol_is : (s : Source) (i : ℕ) (e : Export) (n : NamedModule) (made : Typed) → n ≡ module_of s → slice_get s.tree.now.exports i ≡ Some e
    → ((x : Export) → slice_get n.tree.exports i ≡ Some x → made ≡ typed_export n x) → made ≡ typed_export (module_of s) e
symbol_is s i e n made same at is = is e (stands_with s i e n same at) ∙ ap (λ (n : NamedModule). typed_export n e) same

pub exported-requires : goal.exported-requires
exported-requires c =
    let source = c.args.source.now in
    slice_get_within _ c.args.number c.args.export.now
    (stands_with source c.args.number c.args.export.now _ c.symbols.ensures c.requires)

pub returns-in_ok-callee-in-Func : goal.returns-in_ok-callee-in-Func
returns-in_ok-callee-in-Func c =
    let source = c.args.source.now in
    let m = module_of source in
    let e = c.args.export.now in
    subst (λ (f : tree.Func). IfOk c.passes_on.result (λ r. func_of r ≡ f))
    (passed_at m e (pair_of c.in_ok-symbol.symbol) c.in_ok-callee-in-Func.callee
    (c.in_ok-symbol.ensures ∙ symbol_is source c.args.number e _ _ c.symbols.ensures c.requires c.exported.ensures)
    (c.in_ok-callee-in-Func.ensures ∙ ap (λ (n : NamedModule). callee n e.index) c.spaces.ensures) c.in-Func.is) c.passes_on.ensures

pub returns-in-Table : goal.returns-in-Table
returns-in-Table c =
    let source = c.args.source.now in
    let m = module_of source in
    let e = c.args.export.now in
    subst (λ (f : tree.Func). IfOk c.object_func.result (λ r. func_of r ≡ f))
    (given_at m e (pair_of c.in_ok-symbol.symbol) c.reached-imports.result.now.tables.items (table_imports m.tree) table_name
    (c.in_ok-symbol.ensures ∙ symbol_is source c.args.number e _ _ c.symbols.ensures c.requires c.exported.ensures)
    c.reached-imports.ensures.tables ∙ table_export m e c.in-Table.is) c.object_func.ensures

pub returns-in-Memory : goal.returns-in-Memory
returns-in-Memory c =
    let source = c.args.source.now in
    let m = module_of source in
    let e = c.args.export.now in
    subst (λ (f : tree.Func). IfOk c.object_func-in-Memory.result (λ r. func_of r ≡ f))
    (given_at m e (pair_of c.in_ok-symbol.symbol) c.reached-imports.result.now.memories.items (memory_imports m.tree) memory_name
    (c.in_ok-symbol.ensures ∙ symbol_is source c.args.number e _ _ c.symbols.ensures c.requires c.exported.ensures)
    c.reached-imports.ensures.memories ∙ memory_export m e c.in-Memory.is) c.object_func-in-Memory.ensures

pub returns-in-Global : goal.returns-in-Global
returns-in-Global c =
    let source = c.args.source.now in
    let m = module_of source in
    let e = c.args.export.now in
    subst (λ (f : tree.Func). IfOk c.global_func.result (λ r. func_of r ≡ f))
    (given_at m e (pair_of c.in_ok-symbol.symbol) c.reached-imports.result.now.globals.items (global_imports m.tree) (global_name e.index)
    (c.in_ok-symbol.ensures ∙ symbol_is source c.args.number e _ _ c.symbols.ensures c.requires c.exported.ensures)
    c.reached-imports.ensures.globals ∙ global_export m e c.in-Global.is) c.global_func.ensures
