-- What proofs of this crate cite of std, of the crates below and of specs/, passed on from one place. Declares nothing.
pub use Rattle.std.proofs.Common.{◌≡◌, ℕ, zero, suc, ◌+◌, ◌-◌, ◌^◌, ◌<◌, ◌≤◌, Bool, true, false, not, ◌&&◌, ◌||◌, ◌≢◌, ◌⊎◌, ◌↔◌, List, []}
pub use Rattle.std.proofs.Common.{◌∷◌, ◌++◌, map, length, is_some, is_none, if◌then◌else◌, IsSome, nat_lt, nat_le, ◌==◌, slice_get, Some}
pub use Rattle.std.proofs.Common.{None, codes, decimal, All, Contains, filter, Option, option_map, zip, flat_map, filter_map, bytes_eq, sym}
pub use Rattle.std.proofs.Common.{refl, ap, ◌∙◌, subst, inl, inr, append_assoc, append-nil, arith, length-append, zero-add, true≢false}
pub use Rattle.std.proofs.lemmas.Bool.{or_left, or_right, not-true, false≢true, or_parts}
pub use Rattle.std.proofs.lemmas.Bool.Decides.{nat_tests}
pub use Rattle.std.proofs.lemmas.List.{length-map, map-append}
pub use Rattle.std.proofs.lemmas.List.Elements.{All-from_recursion, Contains-append_cases, Contains-append_left, Contains-append_right}
pub use Rattle.std.proofs.lemmas.List.Elements.{filter_map-append}
pub use Rattle.std.proofs.lemmas.List.Folds.{list_any-append}
pub use Rattle.std.proofs.lemmas.Option.{none-some, slice_get_within, slice_get_past}
pub use Rattle.std.proofs.lemmas.Slice.Eq.{bytes_eq-Decides}
pub use Rattle.std.specs.List.{AllByRecursion, list_all, list_any, range_with_len}
pub use Rattle.w2c_base.proofs.Conjunctions.{both_hold}
pub use Rattle.w2c_base.proofs.Lists.{all_behind, all_front, all_weaker, get_mapped, get_unmapped, all_unmapped, contains_kept, get_behind}
pub use Rattle.w2c_base.proofs.Lists.{named_has, get_kept}
pub use Rattle.w2c_base.proofs.OfEach.{all_append, all_at, all_flat, all_from, all_map, of_contained, all_filtered, always}
pub use Rattle.w2c_base.proofs.Options.{some_is}
pub use Rattle.w2c_base.proofs.Places.{take_with, get_front, some_first, get_within}
pub use Rattle.w2c_base.proofs.Tests.{all_join, all_parts, test_at, unlike_back, by_test}
pub use Rattle.w2c_base.specs.Lookup.{at_index, if_found, named, numbered}
pub use Rattle.w2c_base.specs.Trap.{code_of}
pub use Rattle.w2c_base.specs.declared.signature.FuncType.{FuncType}
pub use Rattle.w2c_base.specs.declared.trap.TrapKind.{TrapKind}
pub use Rattle.w2c_base.specs.declared.value.ValType.{ValType}
pub use Rattle.w2c_mangle.proofs.SymbolNames.{export_part, export_symbol_of-injective, export_symbol_of-parts, init_symbol_of-not_export}
pub use Rattle.w2c_mangle.proofs.SymbolNames.{init_symbol_of-parts, list_all-escaped}
pub use Rattle.w2c_mangle.specs.Escaping.{escaped}
pub use Rattle.w2c_mangle.specs.Symbols.{export_symbol_of, init_symbol_of, is_identifier_character, kind_letter}
pub use Rattle.w2c_mangle.specs.declared.symbol.SymbolKind.{SymbolKind}
pub use Rattle.wasm_tree.proofs.ImportCounts.{func_count, global_count}
pub use Rattle.wasm_tree.specs.IndexSpaces.{func_of_import, func_space, func_type_in, global_space, global_type_in, imported_funcs, type_in}
pub use Rattle.wasm_tree.specs.IndexSpaces.{imported_global_space, imported_globals, is_func_import, is_global_import, is_memory_import}
pub use Rattle.wasm_tree.specs.IndexSpaces.{is_table_import, memory_of_import, memory_space, table_of_import, table_space}
pub use Rattle.wasm_tree.specs.Instructions.{Code, GlobalGet, I32Const, I64Const, end_code, then_code}
pub use Rattle.wasm_tree.specs.NamedModule.{NamedModule}
pub use Rattle.wasm_tree.specs.Within.{IsMaximum}
pub use Rattle.wasm_tree.specs.declared.entries.BodyEntry.{BodyEntry}
pub use Rattle.wasm_tree.specs.declared.entries.ElementEntry.{ElementEntry}
pub use Rattle.wasm_tree.specs.declared.entries.Export.{Export}
pub use Rattle.wasm_tree.specs.declared.entries.ExportKind.{ExportKind}
pub use Rattle.wasm_tree.specs.declared.entries.ExportKind.TheVariants.{Func as ExportFunc, Global as ExportGlobal, Memory as ExportMemory}
pub use Rattle.wasm_tree.specs.declared.entries.ExportKind.TheVariants.{Table as ExportTable}
pub use Rattle.wasm_tree.specs.declared.entries.FuncEntry.{FuncEntry}
pub use Rattle.wasm_tree.specs.declared.entries.FuncRef.{FuncRef}
pub use Rattle.wasm_tree.specs.declared.entries.GlobalEntry.{GlobalEntry}
pub use Rattle.wasm_tree.specs.declared.entries.Import.{Import}
pub use Rattle.wasm_tree.specs.declared.entries.ImportKind.{ImportKind}
pub use Rattle.wasm_tree.specs.declared.entries.ImportKind.TheVariants.{Func as ImportFunc, Global as ImportGlobal, Memory as ImportMemory}
pub use Rattle.wasm_tree.specs.declared.entries.ImportKind.TheVariants.{Table as ImportTable}
pub use Rattle.wasm_tree.specs.declared.entries.Limits.{Limits}
pub use Rattle.wasm_tree.specs.declared.entries.LimitsEntry.{LimitsEntry}
pub use Rattle.wasm_tree.specs.declared.entries.SegmentEntry.{SegmentEntry}
pub use Rattle.wasm_tree.specs.declared.entries.Start.{Start}
pub use Rattle.wasm_tree.specs.declared.entries.TypeEntry.{TypeEntry}
pub use Rattle.wasm_tree.specs.declared.operators.LoadOp.{LoadOp}
pub use Rattle.wasm_tree.specs.declared.operators.StoreOp.{StoreOp}
pub use Rattle.wasm_tree.specs.declared.tree.Module.{Module}
pub use Rattle.wasm_typing.specs.Context.{context_of}
pub use Rattle.wasm_typing.specs.ModuleFaults.{duplicate_exports, fault_if, is_other_than_start, module_faults, shape_of, shape_of_global}
pub use Rattle.wasm_typing.specs.ModuleFaults.{start_faults, unknown_export, unknown_import_type}
pub use Rattle.c_tree.proofs.SameTypes.{same_c_func_type, func_types_same}
pub use Rattle.c_tree.specs.DefinedNames.{func_name, global_name, memory_name, table_name, label_name, pointer_name, part_name}
pub use Rattle.c_tree.specs.FirstBroken.{KeepsRules, broken_in_body, broken_in_item}
pub use Rattle.c_tree.specs.Makers.{zero_number}
pub use Rattle.c_tree.specs.Rules.{AsArray, AsFunction, AsVariable, Use, are_distinct, are_distinct_numbers, arg_has_type, arg_suits, Place}
pub use Rattle.c_tree.specs.Rules.{arg_uses, args_suit, callee_type, callee_uses, case_value, cases_are_distinct, cases_suit, defines}
pub use Rattle.c_tree.specs.Rules.{expr_uses, has_same_type, hides_none, if_any, is_declared_once, is_known, is_own_name, is_result_type}
pub use Rattle.c_tree.specs.Rules.{is_runtime_name, is_symbol, is_value_type, is_void, item_rules, label_is_free, labels_named, labels_of}
pub use Rattle.c_tree.specs.Rules.{local_names, may_be_assigned, may_be_called, may_both_stand, number_suits, points_to_number, stmt_suits}
pub use Rattle.c_tree.specs.Rules.{proper_params, proper_types, stmt_is_typed, stmt_uses, target_suits, target_uses, written_type_is_proper}
pub use Rattle.c_tree.specs.Rules.{are_alike}
pub use Rattle.c_tree.specs.Runtime.{primitives, same_func_type, same_type}
pub use Rattle.c_tree.specs.Scope.{HasType, Name, Scope, array_of, arrays, func_type_of, function_of, functions, is_among, is_object_type}
pub use Rattle.c_tree.specs.Scope.{local_variables, name_of, param_variables, pointed_by, variable_of, variables, pointer_to, typing_of}
pub use Rattle.c_tree.specs.Scope.{file_variables, file_functions, type_of, name_typing, value_typing, number_type, typed_if, common_type}
pub use Rattle.c_tree.specs.Scope.{may_be_narrowed, op_typing, is_comparison, value_type}
pub use Rattle.c_tree.specs.Spelled.{FitsArg, FitsExpr, FitsItem, FitsNum, FitsStmt, depth_limit}
pub use Rattle.c_tree.specs.TypesInC.{c_params_of, c_result_of, c_type_of}
pub use Rattle.c_tree.specs.WellFormed.{IsName, IsNamedIfAny, IsWellFormed, NamedArg, NamedItem, NamedStmt}
pub use Rattle.c_tree.specs.declared.tree.CType.{CType}
pub use Rattle.c_tree.specs.declared.tree.Num.TheVariants.{N32, Plain}
pub use Rattle.c_meaning.proofs.Lookups.{bytes_equal}
pub use Rattle.c_meaning.specs.Linking.{Definition, defined, defined_for_all, external_functions}
pub use Rattle.alike.specs.Agree.{IsDefined}
pub use Rattle.c_helpers.specs.Helpers.{helper_of}
pub use Rattle.c_helpers.specs.Needed.{calls_helper, helpers_of}
pub use Rattle.c_helpers.specs.Translated.{any_in}
pub use Rattle.c_helpers.specs.declared.operation.Helper.{Helper}
pub use Rattle.c_helpers.specs.declared.operation.NumOp.{NumOp}
pub use Rattle.c_helpers.specs.declared.operation.TheConstants.{HELPERS}
pub use Rattle.c_symbols.specs.Objects.{callee, function_name, global_value, memory_arg, table_arg}
pub use Rattle.c_symbols.specs.Symbols.{Typed, accessor_type, c_func_type, c_func_type_if, declared_symbols, export_symbol, export_type}
pub use Rattle.c_symbols.specs.Symbols.{exported_symbols, firsts, func_imports, global_accessor_type, global_imports, global_kind}
pub use Rattle.c_symbols.specs.Symbols.{global_symbol, import_symbol, import_type, imported_symbols, is_usable, memory_imports, symbol_type}
pub use Rattle.c_symbols.specs.Symbols.{pointer_type, table_imports, declared_type}
pub use Rattle.body_forms.specs.Variables.{params_of}
pub use Rattle.body_definition.specs.Body.{body_of, func_of, stmts_of}
pub use Rattle.c_prelude.proofs.Functions.{listed, made_static}
pub use Rattle.c_prelude.specs.Functions.{helper_type}
pub use Rattle.body_rules.proofs.BodyRules.{all_true, defines_itself, hidden_by_class, pointer_points}
pub use Rattle.c_tree.proofs.DeclaredNames.{past_none, named_in}
pub use Rattle.c_tree.proofs.NameClasses.{class_lettered, classes_differ, lettered}
pub use Rattle.body_rules.proofs.Classes.{distinct_joined, range_differ, range_high}
pub use Rattle.body_rules.proofs.FormedItems.{found_name, function_named, params_listed, within_named}
pub use Rattle.body_rules.proofs.OwnNames.{body_locals, named_past, vars_avoid, vars_from, vars_named, vars_names, with_params}
pub use Rattle.body_rules.proofs.Rules.{AreArgs, IsArg, IsTyped, Passes, address_arg, at, call_passes, call_passes_as, element_typed}
pub use Rattle.body_rules.proofs.Rules.{function_arg, if_passes, label_passes, n32_typed, n64_typed, name_typed, null_passes, op_typed}
pub use Rattle.body_rules.proofs.Rules.{return_none_passes, return_passes, set_passes, star_typed, value_arg, wide_typed, TakesResult}
pub use Rattle.body_rules.proofs.RulesOfCode.{Present, first_present, left_present, result_type, right_present, value_types}
pub use Rattle.body_rules.proofs.RulesOfFunctions.{all_numbered, body_keeps, ends_well, none_broken, none_of_all, take_before}
pub use Rattle.body_rules.proofs.RulesOfKinds.{no_object, no_void, same_number}
pub use Rattle.c_tree.proofs.NumberedLabels.{all_differ, Within, labels_differ}
pub use Rattle.body_rules.specs.Declared.{FileKnows, NamedItems}
pub use Rattle.c_tree.specs.DeclaredNames.{funcs_in, vars_in, Variables}
pub use Rattle.c_tree.specs.NameClasses.{class}
pub use Rattle.unit_definition.specs.Exports.{accessor, args_from, call_if, export_func, external, named_params, param_name, params_from}
pub use Rattle.unit_definition.specs.Exports.{passes_on, result_name, usable_symbol}
pub use Rattle.c_init.specs.Init.{bounds_label, byte_name, call_start, constant_expr, data_name, has_bytes, has_test, init_func, init_stmts}
pub use Rattle.c_init.specs.Init.{limits_label, local_if, loop_label, make_global, make_memory, make_table, max_number, n32, n64, signature}
pub use Rattle.c_init.specs.Init.{place_expr, set_pointer, size_name, start_stmts, take_stmts, takes_from, test_bounds, test_data, test_max}
pub use Rattle.c_init.specs.Init.{test_elements, test_min, tests_bounds, tests_limits, trap_if, write_data, write_element, write_elements}
pub use Rattle.c_init.specs.Init.{asks_something, primitive, test_limits, own_func, own_locals, part_func, parts_of, Part, begun, call_part}
pub use Rattle.c_init.specs.Init.{calling_stmts, elements_in, ended, stmts_with, whole_stmts, Element, write_one, bytes_part, elements_part}
pub use Rattle.c_init.specs.Init.{data_tests_part, element_tests_part, globals_part, part_end, part_stmts}
pub use Rattle.unit_definition.specs.Items.{bodies, data_of, declaration, items, prototype, data_item}
pub use Rattle.unit_definition.specs.Accepted.{IsAccepted}
pub use Rattle.unit_rules.specs.Shape.{DefinesExternal, GivesExport, GivesObject, HasShape, HaveSame, UnitsAreProper, declared_names}
pub use Rattle.unit_rules.specs.Shape.{defined_names, module_objects, own_symbols, unit_objects}
pub use Rattle.w2c_base.specs.declared.value.ValType.TheVariants.{I32, I64}
pub use Rattle.c_init.proofs.NoFaults.{rows_of, used_by_elements, used_by_segments}
pub use Rattle.c_init.proofs.Small.{each_none, no_fault, some_same, all_images, there_is, all_pass, no_left, no_right, there_in}
pub use Rattle.unit_definition.proofs.KnownNames.{imported_global, in_vars, no_var, past_vars, get_late, get_past}
pub use Rattle.unit_definition.proofs.Knowledge.{own_global, own_memory_is, own_table_is, imported_global_is, imported_memory_is}
pub use Rattle.unit_definition.proofs.Knowledge.{imported_table_is}
pub use Rattle.unit_definition.proofs.SectionLists.{objects, declarations, exports, functions_of, globals, helpers, init, mems, parts, tabs}
pub use Rattle.unit_definition.proofs.SectionLists.{pointers, prototypes, global_item, pointer_item}
pub use Rattle.unit_definition.proofs.Sections.{few_globals, bodies_class, data_class, data_pairs, declared_class, export_name, few_funcs}
pub use Rattle.unit_definition.proofs.Sections.{exports_class, globals_class, globals_pairs, helpers_class, init_class, mems_class, init_is}
pub use Rattle.unit_definition.proofs.Sections.{mems_pairs, of_export, of_import, parts_class, parts_pairs, pointers_class, pointers_pairs}
pub use Rattle.unit_definition.proofs.Sections.{prototypes_class, tabs_class, tabs_pairs, few_imports, pointers_are, AllClass}
pub use Rattle.body_rules.specs.BodiesAreProper.{BodiesKeepTheRules, BodiesAreFormed, IsTypedBody}
pub use Rattle.body_rules.proofs.FormedCode.{global_fits, pattern_fits, signature_below, params_there, memory_fits, table_fits}
pub use Rattle.unit_definition.proofs.AcceptedLimits.{accepted_limits}
pub use Rattle.unit_definition.proofs.BodiesAt.{few_params, BodyAt, body_at, few_found}
pub use Rattle.w2c_base.proofs.Numbers.{one_moves, same_or_more}
pub use Rattle.c_init.specs.Fitting.{ShapeFits}
pub use Rattle.unit_definition.proofs.Defined.{body_is, export_external}
pub use Rattle.unit_definition.proofs.Pairs.{AllPairs, all_range, firsts_all, firsts_differ, pairs_range}
pub use Rattle.c_init.proofs.FewParts.{few_parts}
pub use Rattle.w2c_base.proofs.NumberedLists.{numbered_at}
pub use Rattle.c_init.specs.Instantiable.{DataIsValid, ElementIsValid, IsInstantiable}
pub use Rattle.c_init.proofs.PartsOf.{Kind, parts_are, Consecutive}
