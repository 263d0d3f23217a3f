-- What proofs of this crate cite of std, of the crates below and of specs/, passed on from one place. Declares nothing.
pub use Rattle.std.proofs.Common.{◌≡◌, ℕ, ◌+◌, ◌<◌, ◌≤◌, Bool, true, false, ◌&&◌, List, [], ◌∷◌, ◌++◌, map, length, get_or, drop, is_some}
pub use Rattle.std.proofs.Common.{if◌then◌else◌, slice_get, Some, None, filter, Option, option_map, flat_map, bytes_eq, sym, refl, ap, ◌∙◌}
pub use Rattle.std.proofs.Common.{subst, append_assoc, append-nil, arith}
pub use Rattle.std.proofs.lemmas.List.{drop_all, length-map}
pub use Rattle.std.proofs.lemmas.Option.{slice_get-get_or, slice_get-map, slice_get_past}
pub use Rattle.std.specs.List.{AllByRecursion}
pub use Rattle.w2c_base.proofs.OfEach.{all_at}
pub use Rattle.w2c_base.specs.Lookup.{at_index, if_found}
pub use Rattle.w2c_base.specs.declared.signature.FuncType.{FuncType}
pub use Rattle.w2c_base.specs.declared.value.ValType.{ValType}
pub use Rattle.wasm_tree.specs.IndexSpaces.{func_of_import, func_space, global_of_import, global_space, imported_funcs, is_func_import}
pub use Rattle.wasm_tree.specs.IndexSpaces.{is_global_import, is_memory_import, is_table_import, type_in}
pub use Rattle.wasm_tree.specs.NamedModule.{NamedModule}
pub use Rattle.wasm_tree.specs.Within.{WithinLimits}
pub use Rattle.wasm_tree.specs.declared.entries.Import.{Import}
pub use Rattle.wasm_tree.specs.declared.entries.TypeEntry.{TypeEntry}
pub use Rattle.wasm_tree.specs.declared.tree.Module.{Module}
pub use Rattle.c_tree.proofs.Tested.{at_front}
pub use Rattle.c_tree.specs.DefinedNames.{func_name}
pub use Rattle.c_tree.specs.Runtime.{same_types, same_type}
pub use Rattle.c_tree.specs.Scope.{Name}
pub use Rattle.c_tree.specs.TypesInC.{c_params_of, c_type_of}
pub use Rattle.c_symbols.specs.FewParams.{HaveFewParams}
pub use Rattle.c_symbols.specs.Named.{named_of, pair_of}
pub use Rattle.c_symbols.specs.Objects.{callee}
pub use Rattle.c_symbols.specs.Symbols.{Typed, export_symbol, export_type, exported_symbols, import_type, imported_symbols, func_imports}
pub use Rattle.c_symbols.specs.Symbols.{import_symbol}
