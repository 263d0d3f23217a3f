-- What proofs of this crate cite of std, of the crates below and of specs/, passed on from one place. Declares nothing.
pub use Rattle.std.proofs.Common.{◌≡◌, ℕ, zero, suc, ◌+◌, ◌-◌, ◌^◌, ◌<◌, ◌≤◌, Bool, true, false, not, ◌&&◌, ◌||◌}
pub use Rattle.std.proofs.Common.{List, [], ◌∷◌, ◌++◌, map, length, get_or, drop}
pub use Rattle.std.proofs.Common.{is_some, IfOk, if◌then◌else◌, slice_get}
pub use Rattle.std.proofs.Common.{Some, None, filter, Option, option_map, zip, flat_map}
pub use Rattle.std.proofs.Common.{bytes_eq, unwrap_or, sym, refl, ap, ◌∙◌, subst, append_assoc, append-nil, add-one}
pub use Rattle.std.proofs.Common.{arith, length-append, Bor, leb-true}
pub use Rattle.std.proofs.lemmas.List.{drop_all, length-map, map_push}
pub use Rattle.std.proofs.lemmas.List.FromFn.{length-map-range_with_len}
pub use Rattle.std.proofs.lemmas.Option.{slice_get-map, slice_get_past}
pub use Rattle.std.proofs.lemmas.Option.{slice_get_within}
pub use Rattle.std.specs.List.{list_any, range_with_len}
pub use Rattle.std.specs.Option.{option_or}
pub use Rattle.w2c_base.proofs.NumberedLists.{numbered_many}
pub use Rattle.w2c_base.proofs.Places.{drop_front}
pub use Rattle.w2c_base.proofs.Places.{get_front}
pub use Rattle.w2c_base.proofs.Tests.{bytes_eq-sym}
pub use Rattle.w2c_base.specs.Lookup.{if_found, named, numbered}
pub use Rattle.w2c_base.specs.declared.signature.FuncType.{FuncType}
pub use Rattle.w2c_base.specs.declared.value.ValType.{ValType}
pub use Rattle.wasm_tree.specs.IndexSpaces.{imported_funcs}
pub use Rattle.wasm_tree.specs.IndexSpaces.{is_global_import, is_memory_import, is_table_import}
pub use Rattle.wasm_tree.specs.IndexSpaces.{type_in}
pub use Rattle.wasm_tree.specs.declared.entries.BodyEntry.{BodyEntry}
pub use Rattle.wasm_tree.specs.declared.entries.Export.{Export}
pub use Rattle.wasm_tree.specs.declared.entries.ExportKind.TheVariants.{Func as ExportFunc, Global as ExportGlobal, Memory as ExportMemory}
pub use Rattle.wasm_tree.specs.declared.entries.ExportKind.TheVariants.{Table as ExportTable}
pub use Rattle.wasm_tree.specs.declared.entries.FuncEntry.{FuncEntry}
pub use Rattle.wasm_tree.specs.declared.entries.Import.{Import}
pub use Rattle.wasm_tree.specs.declared.entries.ImportKind.TheVariants.{Global as ImportGlobal}
pub use Rattle.wasm_tree.specs.declared.entries.SegmentEntry.{SegmentEntry}
pub use Rattle.wasm_tree.specs.declared.tree.Module.{Module}
pub use Rattle.c_tree.proofs.Tested.{at_front}
pub use Rattle.c_tree.specs.Scope.{Name, is_among}
pub use Rattle.c_tree.specs.Tree.{Array, Function}
pub use Rattle.c_tree.specs.TypesInC.{c_params_of, c_result_of, c_type_of}
pub use Rattle.c_tree.specs.View.{arg_of, item_of, unit_of}
pub use Rattle.c_tree.specs.declared.tree.CType.{CType}
pub use Rattle.c_symbols.proofs.ByKind.{global_drawn, kind_next, no_global_drawn}
pub use Rattle.c_symbols.specs.Named.{named_of, pair_of}
pub use Rattle.c_symbols.specs.Symbols.{Typed, declared_symbols, declared_type, export_symbol}
pub use Rattle.c_symbols.specs.Symbols.{export_type, firsts, global_imports}
pub use Rattle.c_symbols.specs.Symbols.{import_symbol, memory_imports}
pub use Rattle.c_symbols.specs.Symbols.{pointer_type, symbol_type, table_imports}
pub use Rattle.c_symbols.specs.declared.indexes.Symbol.{Symbol}
pub use Rattle.body_definition.specs.Body.{body_of, defined_at, func_of}
pub use Rattle.c_unit.specs.Accessors.{accessor_by}
pub use Rattle.unit_definition.specs.Arrays.{byte_segments, bytes_if, bytes_of}
pub use Rattle.unit_definition.specs.Exports.{accessor, args_from, export_func, param_name, params_from, passes_on}
pub use Rattle.unit_definition.specs.Items.{bodies, data_item, data_of, declaration, header_of, items, no_name, objects_of}
pub use Rattle.unit_definition.specs.Items.{part_items}
pub use Rattle.unit_definition.specs.Items.{prototype}
pub use Rattle.unit_definition.specs.Items.{variable}
pub use Rattle.c_unit.specs.Pointers.{pointed}
pub use Rattle.c_unit.specs.Prototypes.{bare_params, prototype_of}
pub use Rattle.c_unit.specs.Left.{Given}
pub use Rattle.unit_definition.specs.Tails.{from_bodies, from_data, from_declared, from_exports, from_global_pointers, from_globals}
pub use Rattle.unit_definition.specs.Tails.{from_helpers, from_init, from_memories, from_parts, from_pointers, from_prototypes}
pub use Rattle.unit_definition.specs.Tails.{from_table_pointers}
pub use Rattle.c_unit.specs.Left.{left_of}
pub use Rattle.w2c_base.proofs.Lists.{filter_few, get_numbered}
pub use Rattle.wasm_tree.specs.NamedModule.{NamedModule}
pub use Rattle.c_tree.specs.DefinedNames.{func_name, global_name, memory_name, table_name, pointer_name}
pub use Rattle.c_helpers.specs.Helpers.{helper_of}
pub use Rattle.c_helpers.specs.Needed.{calls_helper, helpers_of}
pub use Rattle.c_helpers.specs.Translated.{any_in}
pub use Rattle.c_helpers.specs.declared.operation.Helper.{Helper}
pub use Rattle.c_helpers.specs.declared.operation.TheConstants.{HELPERS}
pub use Rattle.c_symbols.specs.Objects.{callee, pointers_of}
pub use Rattle.body_forms.specs.Variables.{params_of}
pub use Rattle.c_init.specs.Init.{init_func}
pub use Rattle.c_init.specs.Sources.{module_of}
