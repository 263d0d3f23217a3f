-- What proofs of this crate cite of std, of the crates below and of specs/, passed on from one place. Declares nothing.
pub use Rattle.std.proofs.Common.{◌≡◌, ℕ, zero, suc, ◌+◌, ◌-◌, ◌*◌, ◌/◌, ◌%◌, ◌^◌, ◌<◌, ◌≤◌, min, max, Bool, true, false, cond, not, ◌&&◌}
pub use Rattle.std.proofs.Common.{◌||◌, ◌≢◌, ◌⊎◌, List, [], ◌∷◌, ◌++◌, map, reverse, length, take, drop, replicate, is_some, if◌then◌else◌}
pub use Rattle.std.proofs.Common.{IsSome, IsTrue, nat_eq, nat_lt, nat_le, ◌==◌, slice_get, slice_set, bit_and, bit_or, bit_xor, Some, None}
pub use Rattle.std.proofs.Common.{codes, filter, Option, option_map, find, flat_map, bytes_eq, unwrap_or, sym, refl, ap, ◌∙◌, subst, ap₂}
pub use Rattle.std.proofs.Common.{inl, inr, true≢false, append_assoc, append-nil, arith, length-append, length-drop, length-take, le-ltb}
pub use Rattle.std.proofs.Common.{lt-ltb, eq-eqb, ne_eqb, eqb-true}
pub use Rattle.std.proofs.Math.Seq.{drop-append_seam, take-append_seam}
pub use Rattle.std.proofs.lemmas.Bool.{cases_eq, or_cases, or_left, or_parts, or_right}
pub use Rattle.std.proofs.lemmas.Bool.Decides.{nat_tests}
pub use Rattle.std.proofs.lemmas.Fmt.{decimal_injective}
pub use Rattle.std.proofs.lemmas.List.{length-map, length-replicate, length-reverse, reverse-append, reverse-reverse}
pub use Rattle.std.proofs.lemmas.Option.{none-some, same_Some, slice_get-map, slice_get_within}
pub use Rattle.std.proofs.lemmas.Slice.Eq.{bytes_eq-Decides}
pub use Rattle.std.specs.List.{AllByRecursion, list_any, position_from, range_with_len}
pub use Rattle.std.specs.Option.{option_or}
pub use Rattle.w2c_base.proofs.Conjunctions.{both_hold}
pub use Rattle.w2c_base.proofs.Numbers.{number_is_found, result_is_number, result_is_typed}
pub use Rattle.w2c_base.proofs.OfEach.{all_append, all_at, all_map}
pub use Rattle.w2c_base.proofs.Types.{equal_results-eq, equal_type-eq, equal_type_of_same, results_equal_themselves, type_equals_itself}
pub use Rattle.w2c_base.proofs.Types.{types_equal_themselves, equal_types-eq, types_many}
pub use Rattle.w2c_base.specs.LittleEndian.{bytes_at, low_bytes, with_bytes}
pub use Rattle.w2c_base.specs.Lookup.{at_index, if_found, named, with_named}
pub use Rattle.w2c_base.specs.Run.{Ask, Event, Gave, Host, HostTrapped, Reply, Trail, asked}
pub use Rattle.w2c_base.specs.Signature.{params_digits, sig_number_of, type_digit}
pub use Rattle.w2c_base.specs.Values.{IsNumber, bits, equal_func_types, equal_results, equal_type, equal_types, is_result, number_of}
pub use Rattle.w2c_base.specs.Values.{pattern_of, type_of, types_of, value, zeros}
pub use Rattle.w2c_base.specs.declared.signature.FuncType.{FuncType}
pub use Rattle.w2c_base.specs.declared.value.ValType.{ValType}
pub use Rattle.w2c_base.specs.declared.value.Value.{Value}
pub use Rattle.w2c_base.specs.declared.value.Value.TheVariants.{I32}
pub use Rattle.wasm_tree.proofs.BehindImports.{defined_behind_imports}
pub use Rattle.wasm_tree.specs.Accesses.{extend_type, extend_width, load_access, store_access}
pub use Rattle.wasm_tree.specs.IndexSpaces.{at_defined, declared_locals, func_of_import, func_space, global_of_import, global_space}
pub use Rattle.wasm_tree.specs.IndexSpaces.{imported_funcs, imported_globals, is_func_import, is_global_import, is_memory_import}
pub use Rattle.wasm_tree.specs.IndexSpaces.{is_table_import, memory_of_import, memory_space, table_of_import, table_space, type_in}
pub use Rattle.wasm_tree.specs.InstructionTable.{Typing}
pub use Rattle.wasm_tree.specs.Instructions.{Block, Br, BrIf, BrTable, Call, CallIndirect, Code, GlobalGet, GlobalSet, If, Kind, Load, Loop}
pub use Rattle.wasm_tree.specs.Instructions.{MemoryCopy, MemoryFill, MemoryGrow, MemorySize, Return, Store, Unreachable, else_code}
pub use Rattle.wasm_tree.specs.Instructions.{end_code, no_else, then_code}
pub use Rattle.wasm_tree.specs.NamedModule.{NamedModule}
pub use Rattle.wasm_tree.specs.Within.{has_wide}
pub use Rattle.wasm_tree.specs.declared.code.MemArg.{MemArg}
pub use Rattle.wasm_tree.specs.declared.entries.BodyEntry.{BodyEntry}
pub use Rattle.wasm_tree.specs.declared.entries.FuncEntry.{FuncEntry}
pub use Rattle.wasm_tree.specs.declared.entries.Import.{Import}
pub use Rattle.wasm_tree.specs.declared.entries.ImportKind.{ImportKind}
pub use Rattle.wasm_tree.specs.declared.entries.ImportKind.TheVariants.{Func as ImportFunc, Global as ImportGlobal, Memory as ImportMemory}
pub use Rattle.wasm_tree.specs.declared.entries.ImportKind.TheVariants.{Table as ImportTable}
pub use Rattle.wasm_tree.specs.declared.operators.BinaryOp.{BinaryOp}
pub use Rattle.wasm_tree.specs.declared.operators.CompareOp.{CompareOp}
pub use Rattle.wasm_tree.specs.declared.operators.ExtendOp.{ExtendOp}
pub use Rattle.wasm_tree.specs.declared.operators.LoadOp.{LoadOp}
pub use Rattle.wasm_tree.specs.declared.operators.StoreOp.{StoreOp}
pub use Rattle.wasm_tree.specs.declared.operators.UnaryOp.{UnaryOp}
pub use Rattle.wasm_tree.specs.declared.tree.Module.{Module}
pub use Rattle.wasm_typing.proofs.TableTypes.{binary_typing, compare_typing, eqz_typing, extend_typing, load_typing, store_typing}
pub use Rattle.wasm_typing.proofs.TableTypes.{unary_typing}
pub use Rattle.wasm_typing.specs.Context.{Context, Labels, context_of}
pub use Rattle.wasm_typing.specs.Typing.{BodyHasType, HasMemory, HasTable, HasType, KindHasType, Stack, Turns, TurnsAsTabled, table_type}
pub use Rattle.wasm_typing.specs.Typing.{values}
pub use Rattle.wasm_typing.specs.Verdict.{bodies_of}
pub use Rattle.c_tree.specs.DefinedNames.{func_name, global_name, memory_name, table_name, label_name, pointer_name}
pub use Rattle.c_tree.specs.Makers.{num as number}
pub use Rattle.c_tree.specs.Runtime.{depth_name, same_func_type}
pub use Rattle.c_tree.specs.Scope.{func_type_of}
pub use Rattle.c_tree.specs.TypesInC.{c_params_of, c_result_of, c_type_of}
pub use Rattle.c_tree.specs.declared.tree.COp.{COp}
pub use Rattle.c_tree.specs.declared.tree.Num.TheVariants.{N32, N64, Plain}
pub use Rattle.wasm_meaning.proofs.Fits.{binary_fits, extend_fits, load_fits, pattern_below, unary_fits}
pub use Rattle.wasm_meaning.proofs.Typed.{of_its_type, of_the_same_type}
pub use Rattle.wasm_meaning.specs.LinkedSet.{External, GlobalAddress, IndexSpaces, IsGlobal, IsLinked, LinkedSet, Resolves, as_global}
pub use Rattle.wasm_meaning.specs.LinkedSet.{as_memory, as_table, global_at, global_type, import_at, imports_of, instances, memory_at}
pub use Rattle.wasm_meaning.specs.LinkedSet.{module_at, spaces_of, table_at}
pub use Rattle.wasm_meaning.specs.Memories.{copy_bytes, fill_bytes, load_number, store_number}
pub use Rattle.wasm_meaning.specs.Operators.{Answer, AnswerFits, Gives, Traps, binary, compare, extend_s, shl, shr_u, signed, truth, unary}
pub use Rattle.c_meaning.proofs.Lookups.{bytes_differ, bytes_equal, named-with_another, named-with_named}
pub use Rattle.c_meaning.proofs.Takes.{number_is_returned, numbers_of_one_type, numbers_of_their_types, put_number, put_where_held}
pub use Rattle.c_meaning.proofs.Ways.{join, join_one, stays, step}
pub use Rattle.c_meaning.specs.Linking.{Definition, Program, definition_at, func_named, func_type, host_type}
pub use Rattle.c_meaning.specs.Machine.{initial_of, with_depth, with_trail}
pub use Rattle.c_meaning.specs.Operators.{operate, operate_at}
pub use Rattle.c_meaning.specs.Primitives.{Effect, NoEffect, gives, mem_grow, primitive, with_content}
pub use Rattle.c_meaning.specs.Reaches.{Reaches}
pub use Rattle.c_meaning.specs.Run.{Going, IsGoing, Over, Pending, Progress, Stopped, go_on, over}
pub use Rattle.c_meaning.specs.State.{Element, Evaluated, Frame, FuncPointer, Is, Machine, NoRule, Number, Pointer, Running, found}
pub use Rattle.c_meaning.specs.State.{of_one_type, then_evaluate}
pub use Rattle.c_meaning.specs.Step.{Next, Step, Stops, act, after_label, are_of_types, as_object, assign, at_rest, begin, bind, c_step}
pub use Rattle.c_meaning.specs.Step.{call, evaluate, evaluate_arg, evaluate_args, first_vars, jump as goto}
pub use Rattle.c_meaning.specs.Step.{in_unit, label_of, locals_of, next, number_in, param_names, param_types, place_of, put_in, returned}
pub use Rattle.c_meaning.specs.Step.{take_effect, value_of, with_value, with_vars}
pub use Rattle.alike.specs.Agree.{ElementAgrees, ElementsAgree, IsCallable, IsCallableIfAny, IsDefined, IsFuncOf, IsMade, MemoryAgrees}
pub use Rattle.alike.specs.Agree.{Agrees, PointersAreSet, PointsTo, TableAgrees}
pub use Rattle.alike.specs.Alike.{first_global}
pub use Rattle.alike.specs.CallsFollow.{CallFollows, CallsFollow, ComesBack, EndsAlike, GoesOn, Paid, SameStop, StopsAlike, Together}
pub use Rattle.alike.specs.CallsFollow.{call_spare}
pub use Rattle.alike.specs.Passing.{PassesOn, StandsFor, called, core, given, wrapper_statements}
pub use Rattle.c_helpers.specs.Helpers.{helper_of}
pub use Rattle.c_helpers.specs.Needed.{calls_helper}
pub use Rattle.c_helpers.specs.Translated.{any_in, any_inside, ends}
pub use Rattle.c_helpers.specs.Ways.{binary_way, compare_way, extend_helper, helper_for, unary_helper}
pub use Rattle.c_helpers.specs.declared.operation.Helper.{Helper}
pub use Rattle.c_helpers.specs.declared.operation.NumOp.{NumOp}
pub use Rattle.c_helpers.specs.declared.operation.TheConstants.{HELPERS}
pub use Rattle.c_helpers.specs.declared.steps.Way.{Way}
pub use Rattle.c_helpers.specs.declared.steps.Way.TheVariants.{ByHelper, ByOperator, ByShift}
pub use Rattle.c_symbols.specs.Objects.{callee, global_value, memory_arg, set_global, table_arg}
pub use Rattle.c_symbols.specs.Symbols.{c_func_type, func_imports, global_imports, import_symbol, is_usable, memory_imports, table_imports}
pub use Rattle.body_forms.specs.Branches.{Aim, case_label, cases_from, entry_label, exit_label, exit_of, if_aim}
pub use Rattle.body_forms.specs.Branches.{is_straight, jump, jump_over, label_if, moving_case}
pub use Rattle.body_forms.specs.Frame.{change_depth, give_back}
pub use Rattle.body_forms.specs.Names.{element_name, local_name, slot}
pub use Rattle.body_forms.specs.Slots.{jump_if, operand, selected, set_slot, under}
pub use Rattle.body_forms.specs.Variables.{locals_from, params_from, params_of, zero_local}
pub use Rattle.body_definition.specs.Body.{body_of, code_stmts, defined_at, element_local, func_of, has_element, has_slot, is_return}
pub use Rattle.body_definition.specs.Body.{most_operands, names_exit, no_func, slots_of, stmts_of}
pub use Rattle.body_definition.specs.Code.{behind, branch_table, call_element, call_named, call_of, emit, emit_kind}
pub use Rattle.body_definition.specs.Code.{moving_cases, operands_from, result_slot}
pub use Rattle.body_definition.specs.Labels.{falls, labels_in, labels_of, targets, targets_else, targets_in}
pub use Rattle.body_definition.specs.Limits.{BodyHasLimits, HasLimits}
pub use Rattle.body_definition.specs.Plain.{Setting, by_way, bytes_stmt, call_helper, plain_stmts}
pub use Rattle.body_definition.specs.Stack.{after, after_call, occurs, occurs_in, peak, stands}
pub use Rattle.c_prelude.proofs.CallStatements.{named_here, statement_comes_between, statement_comes_to}
pub use Rattle.c_prelude.proofs.EachHelper.{helper_right}
pub use Rattle.c_prelude.proofs.Widths.{evaluate-num, flagged, flagged-bit, operate-value, type_of-value}
pub use Rattle.c_prelude.specs.Calls.{CallComesBetween, CallComesTo, CallEnd, GivesBack, TrapsWith, call_ended}
pub use Rattle.c_prelude.specs.Statements.{ComesBetween, ComesWithin}
pub use Rattle.body_meaning.specs.Agree.{HoldsFunction, HoldsNumber, Located, Stacked, VarsAgree}
pub use Rattle.body_meaning.specs.Follows.{Arrives, Branches, BranchesTo, Follows, Site, StandsAt, Target, at, labelled, state_at}
pub use Rattle.body_meaning.specs.Parts.{AllCodeFollows, AreTargets, CallsInCodeFollow, IndirectCallsFollow, IsExit, IsFoundIf}
pub use Rattle.alike.specs.Placed.{IsPlaced}
pub use Rattle.body_meaning.specs.Parts.{IsHere, IsSite, IsTarget, IsThere, KindFollows, Spot, aims_of, is_plain}
pub use Rattle.body_meaning.specs.Serves.{AreServed, Reached, Serves}
pub use Rattle.alike.specs.Defines.{Defines}
