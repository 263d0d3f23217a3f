-- What proofs of this crate cite of std, of the crates below and of specs/, passed on from one place. Declares nothing.
pub use Rattle.std.proofs.Common.{◌≡◌, ℕ, zero, suc, ◌+◌, ◌*◌, ◌/◌, ◌%◌, ◌^◌, ◌<◌, min, Bool, true, false, not, ◌&&◌, ◌||◌, ◌≢◌, ◌⊎◌, List}
pub use Rattle.std.proofs.Common.{[], ◌∷◌, ◌++◌, map, length, take, replicate, is_some, if◌then◌else◌, nat_lt, nat_le, ◌==◌, slice_get}
pub use Rattle.std.proofs.Common.{slice_set, Some, None, codes, filter, Option, option_map, zip, flat_map, filter_map, bytes_eq, sym}
pub use Rattle.std.proofs.Common.{refl, ap, ◌∙◌, subst, inl, inr, append_assoc, append-nil, arith}
pub use Rattle.std.proofs.lemmas.Bool.{and_parts, both_ways, cases_eq, cases_order, false≢true, not-true, or_cases, or_left, or_right}
pub use Rattle.std.proofs.lemmas.List.Folds.{list_all-append}
pub use Rattle.std.proofs.lemmas.Slice.Eq.{bytes_eq-Decides}
pub use Rattle.std.specs.List.{AllByRecursion, cons_option, list_all, list_any, position_from, range_with_len}
pub use Rattle.std.specs.Option.{option_or}
pub use Rattle.std.specs.Prelude.{⊤}
pub use Rattle.w2c_base.proofs.Nothing.{append_none, map_none, none_first}
pub use Rattle.w2c_base.proofs.NumberedLists.{numbered_at}
pub use Rattle.w2c_base.proofs.OfEach.{all_append, all_at, all_from}
pub use Rattle.w2c_base.proofs.Tests.{by_test}
pub use Rattle.w2c_base.specs.Lookup.{if_found, named, numbered, with_named}
pub use Rattle.w2c_base.specs.Run.{Ask, Asked, Call, CallEnded, Event, Gave, HostTrapped, Init, Phase, Reply, Trail, asked, call_ended}
pub use Rattle.w2c_base.specs.Values.{bits, is_number, number_of, types_of, value}
pub use Rattle.w2c_base.specs.declared.value.ValType.{ValType}
pub use Rattle.w2c_base.specs.declared.value.Value.{Value}
pub use Rattle.w2c_base.specs.declared.value.Value.TheVariants.{I32, I64}
pub use Rattle.c_tree.specs.FirstBroken.{BrokenAt, KeepsRules, broken_in_body, broken_in_item, broken_in_stmt, broken_of, broken_rules}
pub use Rattle.c_tree.specs.Rules.{are_alike, are_distinct, arg_has_type, arg_suits, arg_uses, args_suit, body_variables, call_suits}
pub use Rattle.c_tree.specs.Rules.{callee_type, callee_uses, cases_suit, defines, ends_body, expr_uses, has_body, has_same_type, has_type}
pub use Rattle.c_tree.specs.Rules.{hides_none, if_any, is_known, is_own_name, is_result_type, is_runtime_name, is_symbol, is_value_type}
pub use Rattle.c_tree.specs.Rules.{is_void, labels_of, local_names, locals_have_values, locals_suit, may_be_assigned, may_be_called}
pub use Rattle.c_tree.specs.Rules.{may_both_stand, number_suits, params_are_named, points_to_number, proper_params, proper_types}
pub use Rattle.c_tree.specs.Rules.{target_suits, target_uses}
pub use Rattle.c_tree.specs.Runtime.{depth_name, same_func_type, same_type, same_types}
pub use Rattle.c_tree.specs.Scope.{Compares, HasType, IllTyped, IsElement, Scope, Typing, array_of, arrays, common_type, file_functions}
pub use Rattle.c_tree.specs.Scope.{file_variables, func_type_of, function_of, functions, is_among, is_comparison, is_number_type}
pub use Rattle.c_tree.specs.Scope.{is_object_type, local_variables, may_be_narrowed, name_of, name_typing, number_type, op_typing}
pub use Rattle.c_tree.specs.Scope.{param_variables, pointed_by, pointer_to, type_of, typed_if, typing_of, value_type, value_typing}
pub use Rattle.c_tree.specs.Scope.{variable_of, variables}
pub use Rattle.c_tree.specs.TypesInC.{c_func_type_of, c_params_of, c_result_of, c_type_of}
pub use Rattle.c_tree.specs.declared.tree.COp.{COp}
pub use Rattle.c_tree.specs.declared.tree.CType.{CType}
pub use Rattle.c_tree.specs.declared.tree.Num.{Num}
pub use Rattle.c_tree.specs.declared.tree.Num.TheVariants.{N32, N64, Plain}
pub use Rattle.c_meaning.proofs.Lookups.{bytes_differ, named-with_another, named-with_named}
pub use Rattle.c_meaning.specs.Linking.{Definition, LinkRefusal, NotDefined, Program, SymbolCall, TypeDiffers, array_bytes, array_named}
pub use Rattle.c_meaning.specs.Linking.{called_func, defined, defined_for_all, definition_at, definition_of, definitions, external_func}
pub use Rattle.c_meaning.specs.Linking.{external_functions, fits, func_named, func_type, host_type, init_functions, is_external, is_init}
pub use Rattle.c_meaning.specs.Linking.{is_init_symbol, link_refusal, typed}
pub use Rattle.c_meaning.specs.Machine.{file_memory, file_table, file_var, fresh, initial_of, is_object, memory_in, no_memory, no_table}
pub use Rattle.c_meaning.specs.Machine.{objects_of, of_type, table_in, var_in, with_depth, with_memory, with_objects, with_table}
pub use Rattle.c_meaning.specs.Machine.{with_trail, with_var, zero_of}
pub use Rattle.c_meaning.specs.Run.{CRun, Ended, Entry, Going, OutOfSteps, Outcome, Over, Pending, Progress, Stopped, after, begin_entry}
pub use Rattle.c_meaning.specs.Run.{begun, c_start, came_back, entries_of, go_on, over, run_of, told_end}
pub use Rattle.c_meaning.specs.State.{Asks, Bad, CValue, Element, Evaluated, Frame, FuncAddress, FuncPointer, HostFunc, Is, Machine, Memory}
pub use Rattle.c_meaning.specs.State.{Name, NoRule, Number, ObjectAddress, Objects, Place, Pointer, Running, State, Stop, Stuck, Table}
pub use Rattle.c_meaning.specs.State.{Undefined, UnitFunc, Vars, found, of_one_type, then_evaluate}
pub use Rattle.c_meaning.specs.Step.{Back, Next, Step, Stops, act, after_label, are_of_types, as_number, as_object, ask, assign}
pub use Rattle.c_meaning.specs.Step.{assign_depth, at_rest, begin, bind, c_step, call, call_callee, call_named, call_through, element}
pub use Rattle.c_meaning.specs.Step.{equal_number, evaluate, evaluate_arg, evaluate_args, first_vars, give, in_unit, is_returned, jump}
pub use Rattle.c_meaning.specs.Step.{label_of, locals_of, next, number_in, numbers, param_names, param_types, place_of, put_in, replied}
pub use Rattle.c_meaning.specs.Step.{returned, take_effect, value_of, with_value, with_vars}
pub use Rattle.c_sound.specs.NeverStuck.{AllFit, KeepRules, NeverStuck}
pub use Rattle.c_sound.specs.Typed.{Begins, Callable, Gives, HoldFuncs, HoldsFunc, IsVoid, OfType, OfTypes, ScopeOf, Sound, SoundStmt}
pub use Rattle.c_sound.specs.Typed.{Takes, TypedBelow, TypedMachine, TypedPhase, TypedProgram, TypedRun, TypedRunning, TypedState}
pub use Rattle.c_sound.specs.Typed.{TypedStep, VarsOf, may_end, own_variables, switch_suits, type_at}
