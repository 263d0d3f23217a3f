-- What proofs of this crate cite of std, of the crates below and of specs/, passed on from one place. Declares nothing.
pub use Rattle.std.proofs.Common.{◌≡◌, ℕ, zero, suc, ◌+◌, ◌*◌, ◌/◌, ◌%◌, ◌^◌, ◌<◌, ◌≤◌, Bool, true, false, cond, ◌&&◌, ◌||◌, ◌≢◌, ◌⊎◌, List}
pub use Rattle.std.proofs.Common.{[], ◌∷◌, ◌++◌, map, length, take, drop, replicate, ℤ, pos, negsuc, is_some, if◌then◌else◌, IsSome, nat_lt}
pub use Rattle.std.proofs.Common.{nat_le, ◌==◌, slice_get, slice_set, Some, None, codes, filter, Option, option_map, zip, flat_map}
pub use Rattle.std.proofs.Common.{bytes_eq, sym, refl, ap, ◌∙◌, subst, inl, inr, append_assoc, append-nil, div-one, arith, length-set}
pub use Rattle.std.proofs.lemmas.Bool.{or_right}
pub use Rattle.std.proofs.lemmas.Bool.Decides.{nat_tests}
pub use Rattle.std.proofs.lemmas.List.{length-replicate}
pub use Rattle.std.proofs.lemmas.Option.{none-some, same_Some, slice_get_within}
pub use Rattle.std.specs.List.{AllByRecursion, list_any, range_with_len}
pub use Rattle.std.specs.Prelude.{⊤}
pub use Rattle.w2c_base.proofs.Lists.{all_behind, all_front, all_set, all_weaker, get_mapped, still_all, unseen}
pub use Rattle.w2c_base.proofs.OfEach.{all_at, all_push}
pub use Rattle.w2c_base.proofs.Places.{get_within, set_same, set_there}
pub use Rattle.w2c_base.specs.Lookup.{if_found, named, numbered, with_named}
pub use Rattle.w2c_base.specs.Run.{Trail}
pub use Rattle.w2c_base.specs.Values.{IsNumber, pattern_of, type_of, types_of, value}
pub use Rattle.w2c_base.specs.declared.signature.FuncType.{FuncType}
pub use Rattle.w2c_base.specs.declared.trap.TrapKind.{TrapKind}
pub use Rattle.w2c_base.specs.declared.trap.TrapKind.TheVariants.{ImportLimits, SegmentOut}
pub use Rattle.w2c_base.specs.declared.value.ValType.{ValType}
pub use Rattle.w2c_base.specs.declared.value.Value.{Value}
pub use Rattle.w2c_base.specs.declared.value.Value.TheVariants.{I32, I64}
pub use Rattle.w2c_mangle.specs.Symbols.{init_symbol_of}
pub use Rattle.wasm_tree.specs.IndexSpaces.{func_space, func_type_in, global_space, imported_global_space, imported_globals, is_func_import}
pub use Rattle.wasm_tree.specs.IndexSpaces.{is_global_import, is_memory_import, is_table_import, memory_of_import, memory_space}
pub use Rattle.wasm_tree.specs.IndexSpaces.{table_of_import, table_space}
pub use Rattle.wasm_tree.specs.Instructions.{Code, GlobalGet, I32Const, I64Const, end_code, then_code}
pub use Rattle.wasm_tree.specs.NamedModule.{NamedModule}
pub use Rattle.wasm_tree.specs.Within.{IsMaximum}
pub use Rattle.wasm_tree.specs.declared.entries.ElementEntry.{ElementEntry}
pub use Rattle.wasm_tree.specs.declared.entries.FuncRef.{FuncRef}
pub use Rattle.wasm_tree.specs.declared.entries.GlobalEntry.{GlobalEntry}
pub use Rattle.wasm_tree.specs.declared.entries.Import.{Import}
pub use Rattle.wasm_tree.specs.declared.entries.ImportKind.{ImportKind}
pub use Rattle.wasm_tree.specs.declared.entries.ImportKind.TheVariants.{Func as ImportFunc, Global as ImportGlobal, Memory as ImportMemory}
pub use Rattle.wasm_tree.specs.declared.entries.ImportKind.TheVariants.{Table as ImportTable}
pub use Rattle.wasm_tree.specs.declared.entries.Limits.{Limits}
pub use Rattle.wasm_tree.specs.declared.entries.LimitsEntry.{LimitsEntry}
pub use Rattle.wasm_tree.specs.declared.entries.SegmentEntry.{SegmentEntry}
pub use Rattle.wasm_tree.specs.declared.entries.Start.{Start}
pub use Rattle.wasm_tree.specs.declared.tree.Module.{Module}
pub use Rattle.wasm_typing.specs.ModuleFaults.{shape_of, shape_of_global}
pub use Rattle.c_tree.specs.DefinedNames.{global_name, memory_name, table_name, label_name, pointer_name}
pub use Rattle.c_tree.specs.Runtime.{depth_name}
pub use Rattle.c_tree.specs.Scope.{Name}
pub use Rattle.c_tree.specs.declared.tree.COp.{COp}
pub use Rattle.c_tree.specs.declared.tree.CType.TheVariants.{Void}
pub use Rattle.wasm_meaning.specs.Execution.{of_type}
pub use Rattle.wasm_meaning.specs.LinkedSet.{GlobalAddress, LinkedSet, ModuleFunc, global_at}
pub use Rattle.wasm_meaning.specs.LinkedSet.{memory_at, module_at, table_at}
pub use Rattle.wasm_meaning.specs.Run.{Begin, CallStart, MakeGlobal, MakeMemory, MakeTable, Take, Task, TestData, TestElements, WriteByte}
pub use Rattle.wasm_meaning.specs.Run.{WriteElement, as_offset, constant_of, do_task, done, is_free, limits_fit, max_fits}
pub use Rattle.wasm_meaning.specs.Run.{start_tasks, tasks_of, tested, first_value as wasm_first, with_found}
pub use Rattle.c_meaning.proofs.Lookups.{named-with_another, named-with_named}
pub use Rattle.c_meaning.proofs.Ways.{join, stays, step}
pub use Rattle.c_meaning.specs.Linking.{Program, array_named, func_named}
pub use Rattle.c_meaning.specs.Machine.{var_in, with_var}
pub use Rattle.c_meaning.specs.Operators.{operate, truth}
pub use Rattle.c_meaning.specs.Primitives.{Effect, Gives, NoEffect, gives, mem_len, mem_max, mem_new, primitive, put, put_at}
pub use Rattle.c_meaning.specs.Primitives.{set_element, tab_len, tab_max, tab_new, tab_set, with_content, with_element}
pub use Rattle.c_meaning.specs.Reaches.{Reaches}
pub use Rattle.c_meaning.specs.Run.{Going, Over, Pending, Progress, Stopped, go_on, over}
pub use Rattle.c_meaning.specs.State.{CValue, Frame, FuncAddress, Is, Machine, Number, ObjectAddress, Pointer, Running, State, Vars}
pub use Rattle.c_meaning.specs.Step.{Next, Step, Stops, after_label, assign, begin, c_step, call}
pub use Rattle.c_meaning.specs.Step.{element, evaluate, evaluate_arg, evaluate_args, give, jump, locals_of}
pub use Rattle.c_meaning.specs.Step.{number_in, put_in, value_of}
pub use Rattle.alike.specs.Agree.{Agrees, AreReady, ElementAgrees, ElementsAgree, IsCallable, IsCallableIfAny, IsMade, MemoriesAgree}
pub use Rattle.alike.specs.Agree.{MemoryAgrees, ObjectsAgree, PointersAreSet, PointsTo, TableAgrees, TablesAgree}
pub use Rattle.alike.specs.Alike.{GlobalsAlike, first_global}
pub use Rattle.alike.specs.CallsFollow.{CallFollows, CallsFollow, EndsAlike, Paid, StopsAlike, Together, call_spare}
pub use Rattle.alike.specs.Passing.{called, given}
pub use Rattle.c_symbols.specs.Objects.{callee, function_name, global_value, memory_arg, table_arg}
pub use Rattle.c_symbols.specs.Symbols.{global_imports, import_symbol, memory_imports, table_imports}
pub use Rattle.c_prelude.proofs.Widths.{sides}
pub use Rattle.alike.proofs.ObjectNames.{global_at_another_place, global_is_no_pointer}
pub use Rattle.alike.proofs.LookUps.{is_there, value_of_type, module_is}
pub use Rattle.alike.proofs.Store.{agrees_set, global_seen, machine_is, memory_seen, objects_at, pointers_kept, store_is, table_seen}
pub use Rattle.alike.proofs.Store.{together_memory, together_table, with_unit}
pub use Rattle.alike.specs.Objects.{global_object, memory_object, table_object}
pub use Rattle.alike.specs.Defines.{Defines}
pub use Rattle.c_init.specs.Init.{asks_something, bounds_label, byte_name, call_start, constant_expr, data_name, has_bytes, has_test}
pub use Rattle.c_init.specs.Init.{init_stmts, limits_label, local_if, loop_label, make_global, make_memory, make_table}
pub use Rattle.c_init.specs.Init.{max_number, n32, n64, place_expr, set_pointer, signature, size_name, start_stmts, take_stmts, takes_from}
pub use Rattle.c_init.specs.Init.{test_data, test_elements, test_limits, test_max, test_min, tests_bounds, tests_limits, trap_if}
pub use Rattle.c_init.specs.Init.{write_data, write_element, write_elements}
pub use Rattle.init_meaning.specs.InitFollows.{InitFollows}
pub use Rattle.init_meaning.specs.Tasks.{and_then, do_tasks}
pub use Rattle.init_meaning.specs.Zeros.{zero_like, zeroed}
