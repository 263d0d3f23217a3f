-- What proofs of this crate cite of std, of the crates below and of specs/, passed on from one place. Declares nothing.
pub use Rattle.std.proofs.Common.{◌≡◌, ℕ, zero, suc, ◌+◌, ◌-◌, ◌*◌, ◌^◌, ◌<◌, ◌≤◌, max, Bool, true, false, not, ◌&&◌, ◌||◌, ◌≢◌, List, []}
pub use Rattle.std.proofs.Common.{◌∷◌, ◌++◌, map, reverse, length, take, drop, is_some, if◌then◌else◌, nat_le, ◌==◌, slice_get, Some, None}
pub use Rattle.std.proofs.Common.{codes, filter, Option, zip, flat_map, filter_map, bytes_eq, sym, refl, ap, ◌∙◌, subst, append_assoc}
pub use Rattle.std.proofs.Common.{pow-suc, arith, length-append, pow_pos, pow_mono, zero-add, add-zero, one-add}
pub use Rattle.std.proofs.Math.Bool.{or-true}
pub use Rattle.std.proofs.lemmas.Bool.{not-true, or_left, or_parts, or_right}
pub use Rattle.std.proofs.lemmas.List.{length-reverse, map-append, reverse-append}
pub use Rattle.std.proofs.lemmas.List.Folds.{list_any-append}
pub use Rattle.std.proofs.lemmas.Option.{same_Some, slice_get_within}
pub use Rattle.std.proofs.lemmas.Slice.Eq.{bytes_eq-Decides}
pub use Rattle.std.specs.List.{AllByRecursion, list_all, list_any, range_with_len}
pub use Rattle.std.specs.Prelude.{⊤, ℤ}
pub use Rattle.w2c_base.proofs.Conjunctions.{both_hold}
pub use Rattle.w2c_base.proofs.Numbers.{one_moves}
pub use Rattle.w2c_base.proofs.OfEach.{all_append, all_filtered, all_from, all_map, of_contained}
pub use Rattle.w2c_base.proofs.Tests.{all_join, all_parts, by_test, unlike_back, test_at}
pub use Rattle.w2c_base.proofs.Types.{bits_below}
pub use Rattle.w2c_base.specs.Lookup.{at_index, named}
pub use Rattle.w2c_base.specs.Signature.{params_digits, result_digit, sig_number_of, type_digit}
pub use Rattle.w2c_base.specs.Values.{bits, equal_type, pattern_of}
pub use Rattle.w2c_base.specs.declared.signature.FuncType.{FuncType}
pub use Rattle.w2c_base.specs.declared.value.ValType.{ValType}
pub use Rattle.wasm_tree.specs.Accesses.{extend_type, load_access, store_access}
pub use Rattle.wasm_tree.specs.IndexSpaces.{declared_locals, global_space}
pub use Rattle.wasm_tree.specs.InstructionTable.{of_types}
pub use Rattle.wasm_tree.specs.Instructions.{Code, Kind, Otherwise, else_code, end_code, no_else, then_code}
pub use Rattle.wasm_tree.specs.NamedModule.{NamedModule}
pub use Rattle.wasm_tree.specs.Within.{has_wide}
pub use Rattle.wasm_tree.specs.declared.entries.BodyEntry.{BodyEntry}
pub use Rattle.wasm_tree.specs.declared.operators.BinaryOp.{BinaryOp}
pub use Rattle.wasm_tree.specs.declared.operators.CompareOp.{CompareOp}
pub use Rattle.wasm_tree.specs.declared.operators.ExtendOp.{ExtendOp}
pub use Rattle.wasm_tree.specs.declared.operators.LoadOp.{LoadOp}
pub use Rattle.wasm_tree.specs.declared.operators.StoreOp.{StoreOp}
pub use Rattle.wasm_tree.specs.declared.operators.UnaryOp.{UnaryOp}
pub use Rattle.wasm_typing.proofs.TableTypes.{binary_typing, compare_typing, eqz_typing, extend_typing, load_typing, store_typing}
pub use Rattle.wasm_typing.proofs.TableTypes.{unary_typing}
pub use Rattle.wasm_typing.specs.Context.{Context, Labels, context_of}
pub use Rattle.wasm_typing.specs.Typing.{BodyHasType, ElseHasType, HasMemory, HasTable, HasType, KindHasType, Stack, Turns, TurnsAsTabled}
pub use Rattle.wasm_typing.specs.Typing.{table_type, values}
pub use Rattle.c_tree.specs.DefinedNames.{global_name, memory_name, table_name, label_name, pointer_name}
pub use Rattle.c_tree.specs.FirstBroken.{BrokenAt, broken_in_body, broken_in_item, broken_in_stmt, broken_of}
pub use Rattle.c_tree.specs.Makers.{num as number}
pub use Rattle.c_tree.specs.Rules.{Place, StmtPlace, are_distinct, are_distinct_numbers, arg_uses, body_is_not_empty, case_value, defines}
pub use Rattle.c_tree.specs.Rules.{ends_body, expr_uses, hides_none, is_declared_once, is_own_name, is_result_type, is_value_type, is_void}
pub use Rattle.c_tree.specs.Rules.{item_rules, labels_named, local_names, number_suits, proper_params, proper_types, stmt_rules, labels_of}
pub use Rattle.c_tree.specs.Rules.{label_of, if_any, earlier_stmts, labels_are_there, last_ends_body, is_known, stmt_uses, arg_has_type}
pub use Rattle.c_tree.specs.Rules.{arg_suits, args_suit, stmt_is_typed, stmt_suits, label_is_free, written_type_is_proper, Use, AsVariable}
pub use Rattle.c_tree.specs.Rules.{cases_are_distinct, AsArray, AsFunction, callee_uses, target_uses}
pub use Rattle.c_tree.specs.Runtime.{depth_name, primitives}
pub use Rattle.c_tree.specs.Scope.{Name, Scope, array_of, arrays, functions, is_among, is_comparison, is_number_type, is_object_type}
pub use Rattle.c_tree.specs.Scope.{local_variables, name_of, param_variables, variables}
pub use Rattle.c_tree.specs.Spelled.{FitsArg, FitsCallee, FitsExpr, FitsItem, FitsNum, FitsStmt, depth_limit}
pub use Rattle.c_tree.specs.TypesInC.{c_params_of, c_result_of, c_type_of}
pub use Rattle.c_tree.specs.WellFormed.{IsName, IsNamedIfAny, NamedArg, NamedBody, NamedCallee, NamedExpr, NamedItem, NamedStmt, is_name}
pub use Rattle.c_tree.specs.declared.tree.COp.{COp}
pub use Rattle.c_tree.specs.declared.tree.CType.{CType}
pub use Rattle.c_tree.specs.declared.tree.Num.TheVariants.{N32, N64, Plain}
pub use Rattle.wasm_meaning.proofs.Fits.{pattern_below}
pub use Rattle.c_meaning.proofs.Lookups.{bytes_equal}
pub use Rattle.c_helpers.specs.Helpers.{helper_of}
pub use Rattle.c_helpers.specs.Needed.{calls_helper}
pub use Rattle.c_helpers.specs.Translated.{any_in, any_in_else, any_inside, ends}
pub use Rattle.c_helpers.specs.Ways.{binary_way, compare_way, extend_helper, helper_for, unary_helper}
pub use Rattle.c_helpers.specs.declared.operation.Helper.{Helper}
pub use Rattle.c_helpers.specs.declared.operation.NumOp.{NumOp}
pub use Rattle.c_helpers.specs.declared.steps.Way.{Way}
pub use Rattle.c_helpers.specs.declared.steps.Way.TheVariants.{ByHelper, ByOperator, ByShift}
pub use Rattle.c_symbols.specs.Objects.{callee, global_value, memory_arg, set_global, table_arg}
pub use Rattle.c_symbols.specs.Symbols.{c_func_type, global_imports, memory_imports, pointer_type, table_imports}
pub use Rattle.body_forms.specs.Branches.{Aim, branch_if, case_label, cases_from, entry_label, exit_label, exit_of, first_label, if_aim}
pub use Rattle.body_forms.specs.Branches.{is_straight, jump, jump_over, label_if, moving_case}
pub use Rattle.body_forms.specs.Frame.{change_depth, give_back}
pub use Rattle.body_forms.specs.Names.{element_name, local_name, slot}
pub use Rattle.body_forms.specs.Slots.{jump_if, operand, selected, set_slot, under}
pub use Rattle.body_forms.specs.Variables.{locals_from, params_from, params_of, zero_local}
pub use Rattle.body_definition.specs.Body.{code_stmts, element_local, func_of, has_element, has_slot, is_indirect, is_return, most_operands}
pub use Rattle.body_definition.specs.Body.{names_exit, slots_of, stmts_of}
pub use Rattle.body_definition.specs.Code.{behind, branch_table, call_element, call_indirect_stmts, call_named, call_of, call_stmts, emit}
pub use Rattle.body_definition.specs.Code.{emit_else, emit_kind, if_stmts, moving_cases, operands_from, result_slot}
pub use Rattle.body_definition.specs.Labels.{falls, labels_in, targets, targets_else, targets_in}
pub use Rattle.body_definition.specs.Plain.{Setting, by_way, bytes_stmt, call_helper, if_type, plain_stmts}
pub use Rattle.body_definition.specs.Stack.{after, occurs, occurs_in, occurs_in_else, peak, stands}
pub use Rattle.c_prelude.specs.Functions.{helper_type}
pub use Rattle.w2c_base.proofs.Places.{take_front, take_with}
pub use Rattle.c_tree.proofs.NumberedLabels.{labels-append, Within, Between, all_differ, Differ}
pub use Rattle.w2c_base.specs.declared.value.ValType.TheVariants.{I32, I64}
pub use Rattle.w2c_base.proofs.Lists.{all_weaker, contains_kept, get_numbered}
pub use Rattle.body_definition.proofs.RulesOfLabels.{body_within, body_labels_differ}
pub use Rattle.c_tree.specs.DeclaredNames.{vars_in, funcs_in, Variables}
pub use Rattle.body_definition.proofs.Heights.{after_typed, stands_top, stands_occurs, stands_low, occurs_low}
pub use Rattle.c_tree.specs.NameClasses.{class, NoneOf}
pub use Rattle.c_tree.proofs.DeclaredNames.{named_in, past_none}
pub use Rattle.c_tree.proofs.NameClasses.{GivesNames, lettered, class_lettered, classes_differ}
