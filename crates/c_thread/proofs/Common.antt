-- What proofs of this crate cite of std, of the crates below and of specs/, passed on from one place. Declares nothing.
pub use Rattle.std.proofs.Common.{◌≡◌, ℕ, zero, suc, ◌+◌, ◌-◌, ◌<◌, ◌≤◌, Bool, true, false, not, ◌&&◌, ◌||◌, List, [], ◌∷◌, ◌++◌, map}
pub use Rattle.std.proofs.Common.{length, get_or, drop, is_some, if◌then◌else◌, ◌==◌, slice_get, slice_set, Some, None, Err, Option, Result}
pub use Rattle.std.proofs.Common.{option_map, zip, bytes_eq, sym, refl, ap, ◌∙◌, subst, append_assoc, append-nil, arith, length-drop}
pub use Rattle.std.proofs.lemmas.List.{drop_all, length-map, reverse-append, nil_from_length}
pub use Rattle.std.proofs.lemmas.Option.{slice_get-get_or, slice_get-map, slice_get_within, same_Some}
pub use Rattle.std.specs.Option.{option_or}
pub use Rattle.w2c_base.proofs.Places.{drop_front, mapped_at}
pub use Rattle.w2c_base.specs.Lookup.{if_found, named, with_named}
pub use Rattle.w2c_base.specs.Run.{Trail}
pub use Rattle.w2c_base.specs.Values.{equal_types, number_of, types_of}
pub use Rattle.w2c_base.specs.declared.value.Value.{Value}
pub use Rattle.c_tree.specs.Runtime.{same_types, depth_name}
pub use Rattle.c_tree.specs.View.{arg_of, callee_of, expr_of, stmt_of, unit_of}
pub use Rattle.c_tree.specs.declared.tree.CType.{CType}
pub use Rattle.c_meaning.specs.Linking.{Definition, Program, array_named, func_named, host_type}
pub use Rattle.c_meaning.specs.Machine.{is_object, of_type, var_in, with_var}
pub use Rattle.c_meaning.specs.Reaches.{Reaches}
pub use Rattle.c_meaning.specs.Run.{Going, Pending, Progress, go_on}
pub use Rattle.c_meaning.specs.State.{Bad, CValue, Evaluated, Is, Machine, Name, NoRule, ObjectAddress, Place, Running, State, Stuck}
pub use Rattle.c_meaning.specs.State.{Trapped, Undefined, Vars, Frame as Waiting, of_one_type, then_evaluate}
pub use Rattle.c_meaning.specs.Step.{Step, Stops, act, are_of_types, ask, assign, at_rest, begin, bind, c_step, call_callee}
pub use Rattle.c_meaning.specs.Step.{evaluate, evaluate_args, give, in_unit, is_returned, jump, label_of, locals_of, next, numbers}
pub use Rattle.c_meaning.specs.Step.{param_names, param_types, replied, returned, take_effect, value_of as value_in, with_vars}
pub use Rattle.c_objects.proofs.Elements.{set_mapped}
pub use Rattle.c_objects.proofs.Machines.{var_found}
pub use Rattle.c_objects.proofs.Stores.{units_at, units_past}
pub use Rattle.c_objects.specs.Stores.{AreStored, IsStored, machine_of, objects_of, var_at}
pub use Rattle.c_objects.specs.Views.{Keeps, Naming, UnitNames, address_of, effect_of, func_of, object_name, value_of}
pub use Rattle.c_objects.specs.declared.held.Held.{Held}
pub use Rattle.c_objects.specs.declared.held.ObjectId.{ObjectId}
pub use Rattle.c_objects.specs.declared.store.UnitObjects.{UnitObjects}
pub use Rattle.c_machine.proofs.Arguments.{Evaluates, evaluates_fault, evaluates_next}
pub use Rattle.c_machine.proofs.Begins.{behind_params, defines, fitting}
pub use Rattle.c_machine.proofs.Jumps.{act-behind_labels, after_label-drop, entry_within}
pub use Rattle.c_machine.proofs.Locals.{Grows, bind_all, grows_all, grows_next, grows_none}
pub use Rattle.c_machine.proofs.Variables.{entry_from, named-zip, with_named-zip}
pub use Rattle.c_machine.specs.Names.{Finds, behind_labels, entry_in, label_in, label_name, local_name, local_names, number_in}
pub use Rattle.c_machine.specs.Tables.{IsNext, IsTables}
pub use Rattle.c_machine.specs.Threads.{WithLocals, definition_in, names_at, result_at, stmts_at, stmts_of, target_of}
pub use Rattle.c_thread.specs.FuncTypes.{AreFuncTypes, agree_at}
pub use Rattle.c_thread.specs.Linked.{AreObjectTables, HaveUnitTables, IsLinked, assigned_in_unit, assigned_to, begun_in, below_in, failed}
pub use Rattle.c_thread.specs.Linked.{held_vars, items_at, machine_in, place_in, put_at, running_in, state_in, step_in, waiting_in}
pub use Rattle.c_thread.specs.Sights.{Sees, Sight, all_evaluated, bytes_in, func_in, held_evaluated, held_in, item_bytes, object_in}
pub use Rattle.c_thread.specs.Sights.{sight_of}
pub use Rattle.c_thread.specs.declared.linked.LinkedFrame.{LinkedFrame}
pub use Rattle.c_thread.specs.declared.scope.UnitScope.{UnitScope}
