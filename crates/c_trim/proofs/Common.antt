-- What proofs of this crate cite of std, of the crates below and of specs/, passed on from one place. Declares nothing.
pub use Rattle.std.proofs.Common.{◌≡◌, ℕ, zero, suc, ◌+◌, ◌-◌, ◌<◌, ◌≤◌, Bool, true, false, not, ◌&&◌, ◌||◌, ◌≢◌, ◌⊎◌, List, [], ◌∷◌, ◌++◌}
pub use Rattle.std.proofs.Common.{map, length, get_or, take, drop, is_some, if◌then◌else◌, ◌==◌, slice_get, slice_index_or, slice_set, Some}
pub use Rattle.std.proofs.Common.{None, codes, filter, Option, option_map, zip, flat_map, filter_map, bytes_eq, sym, refl, ap, ◌∙◌, subst}
pub use Rattle.std.proofs.Common.{inl, inr, append_assoc, append-nil, arith, length-append, take_all, eq-eqb, eqb-true}
pub use Rattle.std.proofs.lemmas.List.{length-map, length_push}
pub use Rattle.std.proofs.lemmas.List.Elements.{filter-append}
pub use Rattle.std.proofs.lemmas.List.Folds.{list_all-append, list_any-append}
pub use Rattle.std.proofs.lemmas.Slice.Eq.{bytes_eq-Decides}
pub use Rattle.std.specs.List.{AllByRecursion, cons_option, list_all, list_any, position_from, range_with_len}
pub use Rattle.std.specs.Option.{option_or}
pub use Rattle.std.specs.Prelude.{⊤}
pub use Rattle.w2c_base.proofs.Conjunctions.{both_hold}
pub use Rattle.w2c_base.proofs.OfEach.{all_at, all_from, all_split, of_each, all_filtered}
pub use Rattle.w2c_base.proofs.Tests.{by_test, same_tests, unlike_back}
pub use Rattle.w2c_base.specs.Lookup.{if_found, named, numbered}
pub use Rattle.w2c_base.specs.Run.{Host, Reply}
pub use Rattle.c_tree.specs.FirstBroken.{BrokenAt, KeepsRules, broken_in_body, broken_in_item, broken_in_stmt, broken_of, broken_rules}
pub use Rattle.c_tree.specs.Rules.{Place, StmtPlace, defines, has_body, item_rules, stmt_rules}
pub use Rattle.c_tree.specs.Runtime.{primitives, same_func_type, same_type}
pub use Rattle.c_tree.specs.Scope.{Name, Scope, file_functions, file_variables, func_type_of, functions, is_among, is_comparison}
pub use Rattle.c_tree.specs.Scope.{is_object_type, name_of, pointed_by, pointer_to, type_of, typing_of, variables}
pub use Rattle.c_tree.specs.View.{arg_of, item_of, stmt_of, unit_of}
pub use Rattle.c_tree.specs.declared.tree.CType.{CType}
pub use Rattle.c_meaning.specs.Linking.{LinkRefusal, NotDefined, Program, SymbolCall, Twice, TypeDiffers, defined_for_all, external_func}
pub use Rattle.c_meaning.specs.Linking.{external_functions, fits, func_type, host_symbol, link_refusal}
pub use Rattle.c_meaning.specs.Machine.{file_memory, file_table, file_var, objects_of}
pub use Rattle.c_meaning.specs.Run.{CRun, Outcome, Stopped, c_run}
pub use Rattle.c_meaning.specs.State.{CValue, Element, FuncAddress, FuncPointer, HostFunc, Memory, Number, Objects, Pointer, Stop, Table}
pub use Rattle.c_meaning.specs.State.{Undefined, UnitFunc}
pub use Rattle.c_renaming.proofs.Trimmed.{Found, externals, made, names_kept, position_found, test_same, trimmed_renames}
pub use Rattle.c_renaming.specs.ObjectNames.{AreDistinct, ObjectNames, declared_names, names_of}
pub use Rattle.c_renaming.specs.Parts.{KeptBody, KeptItem, item_stays}
pub use Rattle.c_renaming.specs.Renaming.{Renaming, address}
pub use Rattle.c_trim.specs.Marks.{AreAllReached, AreReached, BegunTo, FollowedTo, IsWanted, KnowsDefiners, Reached, begins, definer}
pub use Rattle.c_trim.specs.Marks.{functions_at, is_in, is_reached, reached_by, unreached, with_item, with_names}
pub use Rattle.c_trim.specs.Runs.{AllKeepRules, RunsAlike, RunsInPlaceOf, among, left_out, new_number, new_outcome, new_stop}
pub use Rattle.c_trim.specs.Trim.{IsNeeded, IsTrimmed, TellsNeeded, arg_functions, body_functions, callee_functions, external_names}
pub use Rattle.c_trim.specs.Trim.{functions_of, is_external, item_functions, kept, leads, names, stays, stmt_functions}
