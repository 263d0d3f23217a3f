-- What proofs of this crate cite of std, of the crates below and of specs/, passed on from one place. Declares nothing.
pub use Rattle.std.proofs.Common.{◌≡◌, ℕ, zero, suc, ◌+◌, ◌^◌, ◌<◌, ◌≤◌, Bool, true, false, cond, not, ◌||◌, ◌⊎◌, List, [], ◌∷◌, ◌++◌, map}
pub use Rattle.std.proofs.Common.{length, get_or, drop, is_none, IfOk, if◌then◌else◌, OnOk, IsSome, slice_get, Some, None, codes, filter}
pub use Rattle.std.proofs.Common.{Option, option_map, zip, flat_map, sym, refl, ap, ◌∙◌, subst, append_assoc, append-nil, arith}
pub use Rattle.std.proofs.Common.{length-append}
pub use Rattle.std.proofs.lemmas.List.{drop_all, length-map, map_push}
pub use Rattle.std.proofs.lemmas.Option.{slice_get-map, slice_get_past}
pub use Rattle.std.specs.List.{AllByRecursion, list_any, range_with_len}
pub use Rattle.w2c_base.proofs.Grown.{read_again}
pub use Rattle.w2c_base.proofs.Lists.{filter_few}
pub use Rattle.w2c_base.proofs.NumberedLists.{numbered_past}
pub use Rattle.w2c_base.specs.Lookup.{if_found, numbered}
pub use Rattle.w2c_base.specs.Values.{equal_type}
pub use Rattle.w2c_base.specs.declared.signature.FuncType.{FuncType}
pub use Rattle.w2c_base.specs.declared.value.ValType.{ValType}
pub use Rattle.wasm_tree.specs.IndexSpaces.{func_space, func_type_in, imported_funcs, imported_globals, is_func_import, is_global_import}
pub use Rattle.wasm_tree.specs.IndexSpaces.{memory_of_import, memory_space, table_of_import, table_space, type_in}
pub use Rattle.wasm_tree.specs.Instructions.{Code, GlobalGet, I32Const, I64Const, Kind, end_code, then_code}
pub use Rattle.wasm_tree.specs.NamedModule.{NamedModule}
pub use Rattle.wasm_tree.specs.Within.{WithinLimits}
pub use Rattle.wasm_tree.specs.declared.entries.Import.{Import}
pub use Rattle.wasm_tree.specs.declared.entries.ImportKind.{ImportKind}
pub use Rattle.wasm_tree.specs.declared.entries.ImportKind.TheVariants.{Func as ImportFunc, Global as ImportGlobal, Memory as ImportMemory}
pub use Rattle.wasm_tree.specs.declared.entries.ImportKind.TheVariants.{Table as ImportTable}
pub use Rattle.wasm_tree.specs.declared.entries.Limits.{Limits}
pub use Rattle.wasm_tree.specs.declared.entries.LimitsEntry.{LimitsEntry}
pub use Rattle.wasm_tree.specs.declared.entries.SegmentEntry.{SegmentEntry}
pub use Rattle.wasm_tree.specs.declared.entries.TypeEntry.{TypeEntry}
pub use Rattle.wasm_tree.specs.declared.tree.Module.{Module}
pub use Rattle.wasm_typing.specs.ModuleFaults.{Shape, constant, fault_if, got, got_unknown, has_other_type, is_got_unknown, is_no_constant}
pub use Rattle.wasm_typing.specs.ModuleFaults.{neither, too_many, unknown_types}
pub use Rattle.wasm_typing.specs.Verdict.{IsValid}
pub use Rattle.c_tree.proofs.Tested.{at_front}
pub use Rattle.c_tree.specs.DefinedNames.{func_name, global_name, label_name, pointer_name}
pub use Rattle.c_tree.specs.Scope.{Name}
pub use Rattle.c_tree.specs.View.{expr_of, stmt_of}
pub use Rattle.c_symbols.proofs.ByKind.{kind_next}
pub use Rattle.c_symbols.specs.Named.{named_of}
pub use Rattle.c_symbols.specs.Objects.{function_name, memory_arg, table_arg}
pub use Rattle.c_symbols.specs.Symbols.{func_imports, import_symbol, is_usable}
pub use Rattle.c_init.specs.Init.{constant_expr, has_bytes, has_test, is_some_of, limits_label, make_global, make_memory, make_table, n64}
pub use Rattle.c_init.specs.Init.{place_expr, set, set_pointer, size_name, take_stmts, takes_from, test_bounds, test_data, test_elements}
pub use Rattle.c_init.specs.Init.{test_min, write_data, write_element, write_elements}
pub use Rattle.c_init.specs.InitParts.{ending, making, writing}
pub use Rattle.c_init.specs.SetPointers.{pointer_set}
pub use Rattle.c_init.specs.Single.{constant_by, single_of}
pub use Rattle.c_init.specs.Sources.{module_of}
