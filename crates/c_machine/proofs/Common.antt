-- What proofs of this crate cite of std, of the crates below and of specs/, passed on from one place. Declares nothing.
pub use Rattle.std.proofs.Common.{◌≡◌, ℕ, zero, suc, ◌+◌, ◌-◌, ◌<◌, ◌≤◌, Bool, true, false, ◌&&◌, ◌||◌, List, [], ◌∷◌, ◌++◌, map, length}
pub use Rattle.std.proofs.Common.{get_or, take, drop, if◌then◌else◌, slice_get, slice_set, Some, None, Err, filter, Option, option_map, zip}
pub use Rattle.std.proofs.Common.{filter_map, bytes_eq, sym, refl, ap, ◌∙◌, subst, inl, inr, append_assoc, append-nil, arith, length-append}
pub use Rattle.std.proofs.Common.{take_all, Bor}
pub use Rattle.std.proofs.lemmas.Bool.{cases_lt}
pub use Rattle.std.proofs.lemmas.List.{drop_all, length-map, length_push, map_push}
pub use Rattle.std.proofs.lemmas.Option.{slice_get-get_or, slice_get-map, slice_get_within, same_Some}
pub use Rattle.std.specs.List.{list_any, range_with_len}
pub use Rattle.std.specs.Option.{option_or}
pub use Rattle.w2c_base.proofs.Places.{drop_front, mapped_at, right_behind, get_before}
pub use Rattle.w2c_base.specs.Lookup.{if_found, named, with_named}
pub use Rattle.w2c_base.proofs.Options.{or_none}
pub use Rattle.name_table.proofs.Lookups.{named-append}
pub use Rattle.c_tree.specs.View.{item_of, stmt_of, unit_of}
pub use Rattle.c_tree.specs.declared.tree.CType.{CType}
pub use Rattle.c_tree.specs.declared.tree.CType.TheVariants.{Void}
pub use Rattle.c_meaning.specs.Linking.{Definition, Program, defined, definition_of}
pub use Rattle.c_meaning.specs.Machine.{initial_of, of_type}
pub use Rattle.c_meaning.specs.State.{CValue, Evaluated, Frame, Is, Machine, Name, NoRule, Running, Vars, then_evaluate}
pub use Rattle.c_meaning.specs.Step.{act, after_label, are_of_types, bind, evaluate_arg, evaluate_args, label_of, locals_of, param_names}
pub use Rattle.c_meaning.specs.Step.{param_types}
pub use Rattle.c_machine.specs.Names.{behind_labels, defined_name, entry_in, found_at, function_in, is_label, label_in, label_name}
pub use Rattle.c_machine.specs.Names.{local_name, local_names, number_in, texts}
pub use Rattle.c_machine.specs.NumberedNames.{entry_of}
pub use Rattle.c_machine.specs.Tables.{HaveTables, IsFunctionOf, IsFunctionTable, IsNext, IsTables, LeadsBehind, place_ahead}
pub use Rattle.c_machine.specs.Threads.{WithLocals, definition_in, names_at, names_of, result_at, result_of, stmts_at, stmts_of}
