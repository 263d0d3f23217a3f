-- What proofs of this crate cite of std, of the crates below and of specs/, passed on from one place. Declares nothing.
pub use Rattle.std.proofs.Common.{◌≡◌, ℕ, zero, suc, ◌+◌, ◌-◌, ◌^◌, ◌<◌, Bool, true, false, not, ◌&&◌, ◌||◌, ◌≢◌, List, [], ◌∷◌, ◌++◌, map}
pub use Rattle.std.proofs.Common.{length, get_or, take, drop, is_some, if◌then◌else◌, nat_le, ◌==◌, slice_get, Some, None, codes, decimal}
pub use Rattle.std.proofs.Common.{filter, Option, option_map, zip, flat_map, filter_map, bytes_eq, sym, refl, ap, ◌∙◌, subst, inl, inr}
pub use Rattle.std.proofs.Common.{append_assoc, append-nil, arith}
pub use Rattle.std.proofs.lemmas.Bool.{and_parts, both_ways, cases_order, false≢true, not-true, or_cases, or_right}
pub use Rattle.std.proofs.lemmas.List.{length-map, map-append}
pub use Rattle.std.proofs.lemmas.Option.{same_Some}
pub use Rattle.std.proofs.lemmas.Slice.Eq.{bytes_eq-Decides}
pub use Rattle.std.specs.List.{AllByRecursion, cons_option, list_all, list_any, range_with_len}
pub use Rattle.std.specs.Option.{option_or}
pub use Rattle.w2c_base.proofs.Nothing.{append_none, flat_empty, map_none, none_first}
pub use Rattle.w2c_base.proofs.NumberedLists.{numbered_at}
pub use Rattle.w2c_base.proofs.Options.{is_some_map, or_assoc}
pub use Rattle.w2c_base.proofs.Tests.{all_join, all_parts, by_test}
pub use Rattle.w2c_base.specs.Lookup.{if_found, named, numbered}
pub use Rattle.c_tree.specs.FirstBroken.{BrokenAt, KeepsRules, broken_in_body, broken_in_item, broken_in_stmt, broken_of, broken_rules}
pub use Rattle.c_tree.specs.Rules.{AsArray, AsFunction, AsVariable, Use, are_alike, are_distinct, arg_has_type, arg_suits, arg_uses, if_any}
pub use Rattle.c_tree.specs.Rules.{args_suit, body_is_not_empty, call_suits, callee_type, callee_uses, case_value, cases_are_distinct}
pub use Rattle.c_tree.specs.Rules.{cases_suit, defines, ends_body, expr_uses, file_name_is_free, first_values_suit, has_body, has_same_type}
pub use Rattle.c_tree.specs.Rules.{hides_none, is_defined_if_static, is_known, is_own_name, is_result_type, is_symbol, is_value_type}
pub use Rattle.c_tree.specs.Rules.{is_void, item_rules, label_is_free, label_of, labels_are_there, labels_named, labels_of, last_ends_body}
pub use Rattle.c_tree.specs.Rules.{local_names, locals_have_values, locals_suit, may_be_assigned, may_be_called, may_both_stand, stmt_rules}
pub use Rattle.c_tree.specs.Rules.{number_suits, own_names_are_distinct, params_are_named, proper_params, proper_types, stmt_is_typed}
pub use Rattle.c_tree.specs.Rules.{stmt_suits, stmt_uses, target_suits, target_uses, types_are_proper, written_type_is_proper}
pub use Rattle.c_tree.specs.Runtime.{depth_name, primitives, same_func_type, same_type}
pub use Rattle.c_tree.specs.Scope.{HasType, IsElement, Scope, array_of, arrays, common_type, file_functions, file_variables, func_type_of}
pub use Rattle.c_tree.specs.Scope.{function_of, functions, is_among, is_comparison, is_number_type, is_object_type, local_variables}
pub use Rattle.c_tree.specs.Scope.{may_be_narrowed, name_of, name_typing, number_type, op_typing, param_variables, pointed_by, type_of}
pub use Rattle.c_tree.specs.Scope.{typed_if, typing_of, value_type, value_typing, variable_of, variables}
pub use Rattle.c_tree.specs.Spelled.{FitsArg, FitsBody, FitsCallee, FitsExpr, FitsItem, FitsNum, FitsStmt, Formed, depth_limit}
pub use Rattle.c_tree.specs.View.{arg_of, item_of, stmt_of, unit_of}
pub use Rattle.c_tree.specs.declared.tree.CType.{CType}
pub use Rattle.c_meaning.proofs.Lookups.{bytes_differ, bytes_equal}
pub use Rattle.c_meaning.specs.Linking.{Definition, LinkRefusal, NotDefined, Program, Twice, TypeDiffers, defined, defined_for_all}
pub use Rattle.c_meaning.specs.Linking.{definition_at, definitions, external_func, external_functions, first, first_refusal, func_type}
pub use Rattle.c_meaning.specs.Linking.{is_external, link_refusal, symbols_of, twice, type_found, unresolved}
pub use Rattle.c_meaning.specs.State.{Name}
pub use Rattle.c_sound.proofs.Choices.{by_option}
pub use Rattle.c_sound.proofs.Defined.{any_from, defined_names, is_listed, passes_at, static_defined}
pub use Rattle.c_sound.proofs.Kept.{free_names, stmt_kept}
pub use Rattle.c_sound.proofs.Lists.{at_numbered, cons_not_none, first_there, flat_none, kept_at, kept_from, named_from, take_has}
pub use Rattle.c_sound.proofs.Lists.{take_keeps}
pub use Rattle.c_renaming.proofs.Bodies.{func_type_of-func}
pub use Rattle.c_renaming.proofs.Each.{each-append, each_at, each_by}
pub use Rattle.c_renaming.proofs.Merged.{merged_made, split}
pub use Rattle.c_renaming.proofs.Merging.{merging_names}
pub use Rattle.c_renaming.proofs.Runs.{runs_same}
pub use Rattle.c_renaming.proofs.Types.{calls_fit, type_found as kept_type_found}
pub use Rattle.c_renaming.specs.Kept.{Each, KeptStmt}
pub use Rattle.c_renaming.specs.Merging.{Foreign, IsDefinedOnce, KeepsSeen, MayMerge, MayUse, Own, joined}
pub use Rattle.c_renaming.specs.NewNames.{decimal_text, is_outside, name_in}
pub use Rattle.c_renaming.specs.Renaming.{Renaming, address}
pub use Rattle.c_link.specs.Calls.{signature_of}
pub use Rattle.c_link.specs.Offers.{c_symbols}
pub use Rattle.c_link.specs.Programs.{AllChecked, IsProgramOf}
pub use Rattle.c_link.specs.declared.host_symbol.HostSymbol.{HostSymbol}
pub use Rattle.c_merge.specs.Merge.{AreLinked, RunsAsUnits, as_one, declares, may_be_named, may_name, merge_names, merged, new_names}
