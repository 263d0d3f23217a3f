-- What proofs of this crate cite of std, of the crates below and of specs/, passed on from one place. Declares nothing.
pub use Rattle.std.proofs.Common.{◌≡◌, ℕ, zero, suc, ◌+◌, ◌<◌, ◌≤◌, Bool, true, false, cond, not, ◌&&◌, ◌||◌, ◌≢◌, ◌⊎◌, ◌↔◌, List, [], ◌∷◌}
pub use Rattle.std.proofs.Common.{◌++◌, map, length, get_or, take, drop, is_some, IfSome, if◌then◌else◌, IsSome, IsTrue, nat_eq, slice_get}
pub use Rattle.std.proofs.Common.{Some, None, codes, All, filter, Option, option_map, zip, flat_map, filter_map, bytes_eq, sym, refl, ap}
pub use Rattle.std.proofs.Common.{◌∙◌, subst, inl, inr, append_assoc, append-nil, add-one, arith, length-append, take_all, zero-add}
pub use Rattle.std.proofs.Common.{true≢false}
pub use Rattle.std.proofs.lemmas.Bool.Decides.{Decides-eqb, nat_tests}
pub use Rattle.std.proofs.lemmas.List.{append_cancel_left, append_cancel_right, drop_all, length-map, length_push, map-append}
pub use Rattle.std.proofs.lemmas.Option.{slice_get-get_or, slice_get-map}
pub use Rattle.std.proofs.lemmas.Slice.Eq.{bytes_eq-Decides, strip_prefix_is, strip_suffix_is}
pub use Rattle.std.specs.List.{AllByRecursion, cons_option, list_all, list_any, position_from, range_with_len}
pub use Rattle.std.specs.Option.{option_or}
pub use Rattle.w2c_base.proofs.Conjunctions.{left_holds, right_holds}
pub use Rattle.w2c_base.proofs.NumberedLists.{numbered_at, numbered_past}
pub use Rattle.w2c_base.proofs.Places.{drop_front, mapped_at, right_behind, seen_at, take_next}
pub use Rattle.w2c_base.specs.Lookup.{if_found, named, numbered}
pub use Rattle.w2c_base.specs.Run.{Host, HostFunction, Reply}
pub use Rattle.name_table.proofs.Lookups.{named-append}
pub use Rattle.c_tree.proofs.WellFormedUnits.{well_formed}
pub use Rattle.c_tree.specs.Runtime.{same_func_type, same_type, same_types}
pub use Rattle.c_tree.specs.Scope.{Name, name_of}
pub use Rattle.c_tree.specs.TypesInC.{c_func_type_of, c_params_of}
pub use Rattle.c_tree.specs.View.{func_type_of, item_of, unit_of}
pub use Rattle.c_tree.specs.WellFormed.{IsName, NamedItem}
pub use Rattle.c_tree.specs.declared.tree.CType.{CType}
pub use Rattle.c_tree.specs.declared.tree.CType.TheVariants.{U32, U64, Void}
pub use Rattle.c_tree.specs.declared.tree.Num.{Num}
pub use Rattle.c_rules.specs.UnitNames.{none_clash, stands_behind}
pub use Rattle.c_meaning.proofs.Links.{symbol_pair}
pub use Rattle.c_meaning.specs.Linking.{Definition, Program, SymbolCall, array_bytes, array_named, called_func, defined, defined_for_all}
pub use Rattle.c_meaning.specs.Linking.{definition_at, definition_of, definitions, external_func, fits, func_named, func_type, host_symbol}
pub use Rattle.c_meaning.specs.Linking.{init_functions, is_external, is_init, is_init_symbol, typed}
pub use Rattle.c_meaning.specs.Machine.{objects_of as c_objects_of, file_memory, file_table, file_var, fresh, initial_of, no_memory}
pub use Rattle.c_meaning.specs.Machine.{no_table, zero_of}
pub use Rattle.c_meaning.specs.State.{CValue, FuncAddress, HostFunc, Memory, Objects, Table, UnitFunc}
pub use Rattle.c_link.proofs.Apart.{definitions_from, first_under, seen_under}
pub use Rattle.c_link.proofs.Rules.{clash_none, first_defined, none_under, not_both}
pub use Rattle.c_link.specs.Offers.{c_symbols, defined_func}
pub use Rattle.c_link.specs.Programs.{AllChecked, IsChecked, IsProgramOf}
pub use Rattle.c_link.specs.declared.host_symbol.HostSymbol.{HostSymbol}
pub use Rattle.c_objects.specs.Objects.{memory_of, table_of}
pub use Rattle.c_objects.specs.Stores.{AreApart, AreNames, AreStored, Differ, IsStored, machine_of, objects_of, units_of}
pub use Rattle.c_objects.specs.Views.{Naming, func_of, item_name, value_of}
pub use Rattle.c_objects.specs.declared.held.FuncId.{FuncId}
pub use Rattle.c_machine.proofs.Functions.{defined_is, definition_there}
pub use Rattle.c_machine.proofs.NameTables.{Enters, enters_all, enters_next, mapped_twice}
pub use Rattle.c_machine.specs.Names.{defined_name, entry_in, found_at, function_in, number_in, texts}
pub use Rattle.c_machine.specs.Threads.{definition_in}
pub use Rattle.c_thread.specs.Linked.{AreObjectTables, HaveUnitTables, IsLinked, items_at}
pub use Rattle.c_thread.specs.Sights.{func_at, item_bytes, symbol_in}
pub use Rattle.c_thread.specs.declared.control.LinkedUnit.{LinkedUnit}
pub use Rattle.c_thread.specs.declared.scope.Symbols.{Symbols}
pub use Rattle.crun_startup.specs.Called.{AreSymbols, IsSeenAt, unit_item}
pub use Rattle.crun_startup.specs.Entries.{Entry, HaveCounts, entries, entry_of, func_in, host_entries, host_ids, host_type, ids_of}
pub use Rattle.crun_startup.specs.Entries.{item_entry, item_type, name_in, parts, symbol_of, types_in, unit_entries}
pub use Rattle.crun_startup.specs.Inits.{IsInitAt, UnitItem, address_in, init_entry, init_items, init_symbol_around, is_init_func}
pub use Rattle.crun_startup.specs.Inits.{is_init_item, unit_inits, void_type}
pub use Rattle.crun_startup.specs.Names.{array_name, function_name, has_object, names_in, naming_of, object_name, unit_names}
pub use Rattle.crun_startup.specs.Objects.{AreFirst, first_of, memory_value, table_value, var_value}
pub use Rattle.crun_startup.specs.Units.{AreAllFirst, AreTables, AreUnits, IsUnit}
