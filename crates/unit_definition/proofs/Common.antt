-- What proofs of this crate cite of std, of the crates below and of specs/, passed on from one place. Declares nothing.
pub use Rattle.std.proofs.Common.{◌≡◌, ℕ, zero, suc, ◌+◌, ◌-◌, ◌^◌, ◌<◌, ◌≤◌, Bool, true, false, not, ◌&&◌, ◌||◌, ◌≢◌, ◌⊎◌, List, [], ◌∷◌}
pub use Rattle.std.proofs.Common.{◌++◌, map, length, drop, is_some, is_none, if◌then◌else◌, IsSome, nat_eq, slice_get, Some, None, All}
pub use Rattle.std.proofs.Common.{Contains, filter, Option, option_map, find, zip, flat_map, filter_map, bytes_eq, unwrap_or, sym, refl, ap}
pub use Rattle.std.proofs.Common.{◌∙◌, subst, inl, inr, append_assoc, arith, length-append, zero-add, add-zero}
pub use Rattle.std.proofs.lemmas.Bool.{or_left, or_right, not-true}
pub use Rattle.std.proofs.lemmas.Fmt.{decimal_injective}
pub use Rattle.std.proofs.lemmas.List.{length-map, map-append}
pub use Rattle.std.proofs.lemmas.List.Elements.{filter_map-append}
pub use Rattle.std.proofs.lemmas.Option.{same_Some, slice_get-get_or, slice_get_within}
pub use Rattle.std.proofs.lemmas.Slice.Eq.{bytes_eq-Decides}
pub use Rattle.std.specs.List.{AllByRecursion, cons_option, list_all, position_from, range_with_len}
pub use Rattle.std.specs.Option.{option_or}
pub use Rattle.std.specs.Prelude.{⊤}
pub use Rattle.w2c_base.proofs.Nothing.{none_at}
pub use Rattle.w2c_base.proofs.OfEach.{all_append, all_at, all_map}
pub use Rattle.w2c_base.proofs.Places.{get_front}
pub use Rattle.w2c_base.proofs.Tests.{test_at}
pub use Rattle.w2c_base.specs.Lookup.{if_found, named, numbered}
pub use Rattle.w2c_base.specs.declared.signature.FuncType.{FuncType}
pub use Rattle.w2c_base.specs.declared.value.ValType.{ValType}
pub use Rattle.w2c_mangle.proofs.SymbolNames.{export_symbol_of-injective, export_symbol_of-parts}
pub use Rattle.w2c_mangle.proofs.SymbolNames.{init_symbol_of-not_export, init_symbol_of-parts}
pub use Rattle.w2c_mangle.specs.Symbols.{export_symbol_of, init_symbol_of}
pub use Rattle.w2c_mangle.specs.declared.symbol.SymbolKind.{SymbolKind}
pub use Rattle.wasm_tree.proofs.BehindImports.{defined_behind_imports}
pub use Rattle.wasm_tree.specs.IndexSpaces.{global_of_import, global_space, global_type_in, imported_funcs, imported_global_space}
pub use Rattle.wasm_tree.specs.IndexSpaces.{imported_globals, is_func_import, is_global_import, memory_of_import, memory_space}
pub use Rattle.wasm_tree.specs.IndexSpaces.{table_of_import, table_space, type_in}
pub use Rattle.wasm_tree.specs.declared.entries.BodyEntry.{BodyEntry}
pub use Rattle.wasm_tree.specs.declared.entries.Export.{Export}
pub use Rattle.wasm_tree.specs.declared.entries.ExportKind.{ExportKind}
pub use Rattle.wasm_tree.specs.declared.entries.ExportKind.TheVariants.{Func as ExportFunc, Global as ExportGlobal, Memory as ExportMemory}
pub use Rattle.wasm_tree.specs.declared.entries.ExportKind.TheVariants.{Table as ExportTable}
pub use Rattle.wasm_tree.specs.declared.entries.FuncEntry.{FuncEntry}
pub use Rattle.wasm_tree.specs.declared.entries.GlobalEntry.{GlobalEntry}
pub use Rattle.wasm_tree.specs.declared.entries.Import.{Import}
pub use Rattle.wasm_tree.specs.declared.entries.ImportKind.{ImportKind}
pub use Rattle.wasm_tree.specs.declared.entries.ImportKind.TheVariants.{Func as ImportFunc, Global as ImportGlobal, Memory as ImportMemory}
pub use Rattle.wasm_tree.specs.declared.entries.ImportKind.TheVariants.{Table as ImportTable}
pub use Rattle.wasm_tree.specs.declared.entries.Limits.{Limits}
pub use Rattle.wasm_tree.specs.declared.entries.LimitsEntry.{LimitsEntry}
pub use Rattle.wasm_tree.specs.declared.entries.SegmentEntry.{SegmentEntry}
pub use Rattle.wasm_tree.specs.declared.entries.TypeEntry.{TypeEntry}
pub use Rattle.wasm_tree.specs.declared.operators.LoadOp.{LoadOp}
pub use Rattle.wasm_tree.specs.declared.operators.StoreOp.{StoreOp}
pub use Rattle.wasm_tree.specs.declared.tree.Module.{Module}
pub use Rattle.wasm_typing.specs.Context.{body_context, context_of}
pub use Rattle.wasm_typing.specs.ModuleFaults.{fault_if, unknown_import_type}
pub use Rattle.wasm_typing.specs.Verdict.{bodies_of}
pub use Rattle.c_tree.specs.Rules.{is_symbol}
pub use Rattle.c_tree.specs.Scope.{Name, is_among, name_of, variable_of}
pub use Rattle.c_tree.specs.TypesInC.{c_type_of}
pub use Rattle.c_tree.specs.declared.tree.CType.{CType}
pub use Rattle.c_tree.specs.declared.tree.CType.TheVariants.{Void}
pub use Rattle.c_meaning.proofs.Lookups.{bytes_differ, bytes_equal}
pub use Rattle.c_meaning.specs.Linking.{Definition, defined, defined_for_all, definition_of, typed}
pub use Rattle.c_meaning.specs.Primitives.{primitive}
pub use Rattle.c_prelude.proofs.Functions.{listed, made_static, names_differ}
pub use Rattle.c_symbols.specs.Symbols.{Typed, declared_symbols, export_symbol, export_type, firsts, global_imports, global_kind}
pub use Rattle.c_symbols.specs.Symbols.{global_symbol, import_symbol, import_type, memory_imports, pointer_type, table_imports}
pub use Rattle.body_definition.proofs.Bounds.{within_of}
pub use Rattle.body_definition.specs.Body.{body_of, defined_at, func_of}
pub use Rattle.body_definition.specs.Limits.{BodyHasLimits, HasLimits}
pub use Rattle.body_definition.specs.Needs.{needs_of}
pub use Rattle.unit_definition.specs.Arrays.{bytes_if}
pub use Rattle.unit_definition.specs.Exports.{accessor, export_func, passes_on, usable_symbol}
pub use Rattle.unit_definition.specs.Items.{bodies, data_item, data_of, declaration, global_item, items, objects_of, part_items, prototype}
pub use Rattle.unit_definition.specs.Items.{variable}
pub use Rattle.unit_definition.specs.Tails.{from_data, from_declared, from_tables, global_pointer}
pub use Rattle.w2c_base.proofs.Options.{some_is}
pub use Rattle.w2c_base.proofs.Lists.{filter_few, get_numbered, get_unmapped}
pub use Rattle.wasm_tree.proofs.ImportCounts.{global_count, memory_count, table_count}
pub use Rattle.wasm_tree.specs.NamedModule.{NamedModule}
pub use Rattle.c_tree.specs.DefinedNames.{func_name, global_name, memory_name, table_name, pointer_name}
pub use Rattle.alike.specs.Agree.{IsDefined}
pub use Rattle.c_helpers.specs.Helpers.{helper_of}
pub use Rattle.c_helpers.specs.Needed.{helpers_of}
pub use Rattle.c_helpers.specs.declared.operation.Helper.{Helper}
pub use Rattle.c_helpers.specs.declared.operation.NumOp.{NumOp}
pub use Rattle.c_helpers.specs.declared.operation.TheConstants.{HELPERS}
pub use Rattle.c_symbols.specs.Objects.{callee, pointers_of}
pub use Rattle.c_tree.proofs.DeclaredNames.{past_none, named_in}
pub use Rattle.c_tree.proofs.NameClasses.{class_lettered, class_pointer, classes_differ, lettered}
pub use Rattle.c_tree.specs.DeclaredNames.{vars_in}
pub use Rattle.c_tree.specs.NameClasses.{class}
pub use Rattle.c_init.specs.Init.{data_name, init_func}
pub use Rattle.unit_definition.specs.Accepted.{IsAccepted}
