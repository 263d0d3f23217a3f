-- What proofs of this crate cite of std, of the crates below and of specs/, passed on from one place. Declares nothing.
pub use Rattle.std.proofs.Common.{◌≡◌, ℕ, zero, suc, ◌+◌, ◌-◌, ◌<◌, ◌≤◌, Bool, true, false, ◌&&◌, ◌≢◌, List, [], ◌∷◌, ◌++◌, map, length}
pub use Rattle.std.proofs.Common.{get_or, take, drop, replicate, is_none, if◌then◌else◌, nat_lt, slice_get, Some, None, Option, option_map}
pub use Rattle.std.proofs.Common.{find, flat_map, bytes_eq, sym, refl, ap, ◌∙◌, subst, append_assoc, append-nil, arith, length-append}
pub use Rattle.std.proofs.Common.{take_all, take_at}
pub use Rattle.std.proofs.lemmas.Bool.{false≢true, and_from}
pub use Rattle.std.proofs.lemmas.Bool.Decides.{nat_tests}
pub use Rattle.std.proofs.lemmas.List.{at_drop_all, at_drop_more, length-map, map-append, take-append-le}
pub use Rattle.std.proofs.lemmas.Option.{slice_get-get_or, slice_get_within, some_pair_parts}
pub use Rattle.std.specs.List.{AllByRecursion, list_all, range_with_len}
pub use Rattle.std.specs.Option.{option_or}
pub use Rattle.std.specs.Prelude.{⊤}
pub use Rattle.w2c_base.proofs.Conjunctions.{both_hold}
pub use Rattle.w2c_base.specs.Lookup.{AreDistinct, at_index, if_found, named}
pub use Rattle.w2c_base.specs.Run.{Host}
pub use Rattle.w2c_base.specs.Values.{IsNumber, equal_func_types, equal_results, equal_type, equal_types, is_number, types_of}
pub use Rattle.w2c_base.specs.declared.signature.FuncType.{FuncType}
pub use Rattle.w2c_base.specs.declared.value.ValType.{ValType}
pub use Rattle.w2c_base.specs.declared.value.Value.{Value}
pub use Rattle.wasm_tree.specs.IndexSpaces.{at_defined, func_of_import, func_space, global_of_import, global_space, imported_funcs}
pub use Rattle.wasm_tree.specs.IndexSpaces.{is_func_import, is_global_import, is_memory_import, is_table_import, memory_of_import}
pub use Rattle.wasm_tree.specs.IndexSpaces.{memory_space, table_of_import, table_space, type_in}
pub use Rattle.wasm_tree.specs.declared.entries.Export.{Export}
pub use Rattle.wasm_tree.specs.declared.entries.FuncEntry.{FuncEntry}
pub use Rattle.wasm_tree.specs.declared.entries.GlobalEntry.{GlobalEntry}
pub use Rattle.wasm_tree.specs.declared.entries.Import.{Import}
pub use Rattle.wasm_tree.specs.declared.entries.ImportKind.{ImportKind}
pub use Rattle.wasm_tree.specs.declared.entries.ImportKind.TheVariants.{Func as ImportFunc, Global as ImportGlobal, Memory as ImportMemory}
pub use Rattle.wasm_tree.specs.declared.entries.ImportKind.TheVariants.{Table as ImportTable}
pub use Rattle.wasm_tree.specs.declared.tree.Module.{Module}
pub use Rattle.wasm_tree.specs.NamedModule.{NamedModule}
pub use Rattle.wasm_meaning.specs.LinkedSet.{External, FuncAddress, GlobalAddress, HostFunc, Instance, IsFunc, IsGlobal, IsLinked, IsMemory}
pub use Rattle.wasm_meaning.specs.LinkedSet.{IsTable, LinkedSet, ModuleFunc, Resolves, as_func, as_global, as_memory, as_table, export_of}
pub use Rattle.wasm_meaning.specs.LinkedSet.{exported, func_type, global_type, offered as host_offers, import_at, imports_of, instance_of}
pub use Rattle.wasm_meaning.specs.LinkedSet.{instances, instances_behind, meaning_of, module_at, spaces_of, type_at}
pub use Rattle.wasm_set.specs.Joining.{gives, gives_if_any, is_given, may_join, module_named, module_takes, offer_takes, takes}
pub use Rattle.wasm_set.specs.Offers.{are_one_type, equal_bool, is_of_kind, offer_of, offered, offers}
pub use Rattle.wasm_set.specs.Sets.{named_of, set_of}
pub use Rattle.wasm_set.specs.Tables.{AreTables, OfferTable, Tells}
pub use Rattle.wasm_set.specs.declared.offer.Offer.{Offer}
pub use Rattle.wasm_set.specs.declared.offer.Offer.TheVariants.{Func, Global, Memory, Table}
pub use Rattle.wasm_set.specs.declared.set_module.SetModule.{SetModule}
