-- What proofs of this crate cite of std, of the crates below and of specs/, passed on from one place. Declares nothing.
pub use Rattle.std.proofs.Common.{◌≡◌, ℕ, zero, suc, ◌+◌, ◌-◌, ◌*◌, ◌/◌, ◌%◌, ◌^◌, ◌<◌, ◌≤◌, Bool, true, false, cond, ◌≢◌, List, [], ◌∷◌}
pub use Rattle.std.proofs.Common.{◌++◌, map, reverse, length, get_or, take, drop, replicate, ℤ, pos, negsuc, if◌then◌else◌, nat_eq, nat_le}
pub use Rattle.std.proofs.Common.{slice_get, slice_set, bit_or, int_div, int_rem, Some, None, codes, Option, option_map, bytes_eq}
pub use Rattle.std.proofs.Common.{unwrap_or, sym, refl, ap, ◌∙◌, subst, add-zero, mod-lt, pow-suc, div-le_self, arith, pow_pos}
pub use Rattle.std.specs.List.{AllByRecursion, range_with_len}
pub use Rattle.w2c_base.specs.Lookup.{AreDistinct, if_found}
pub use Rattle.w2c_base.specs.Run.{Ask, Event, Gave, Host, HostTrapped, Init, Phase, Reply, Trail, asked}
pub use Rattle.w2c_base.specs.Signature.{params_digits, sig_number_of}
pub use Rattle.w2c_base.specs.Values.{bits, equal_func_types, equal_types, is_result, type_of, types_of, zeros}
pub use Rattle.w2c_base.specs.declared.signature.FuncType.{FuncType}
pub use Rattle.w2c_base.specs.declared.trap.TrapKind.TheVariants.{DivByZero, IntOverflow, MemoryOut, Signature}
pub use Rattle.w2c_base.specs.declared.value.ValType.{ValType}
pub use Rattle.w2c_base.specs.declared.value.ValType.TheVariants.{I32, I64}
pub use Rattle.w2c_base.specs.declared.value.Value.{Value}
pub use Rattle.wasm_tree.specs.declared.entries.ImportKind.{ImportKind}
pub use Rattle.wasm_tree.specs.declared.entries.ImportKind.TheVariants.{Func as ImportFunc, Global as ImportGlobal, Memory as ImportMemory}
pub use Rattle.wasm_tree.specs.declared.entries.ImportKind.TheVariants.{Table as ImportTable}
pub use Rattle.wasm_tree.specs.NamedModule.{NamedModule}
pub use Rattle.wasm_meaning.specs.Execution.{Asks, Back, Branch, CallStops, Called, Calls, Done, Leaves, Normal, OutOfSteps, Result}
pub use Rattle.wasm_meaning.specs.Execution.{Returned, Stop, Stops, Stuck, Trapped, and_then, call, call_element, call_indirect}
pub use Rattle.wasm_meaning.specs.Execution.{call_within, came_back, choose, count_on, did, did_all, dropped, enter, exec, exec_else}
pub use Rattle.wasm_meaning.specs.Execution.{exec_kind, finish, gave, gives_all, gives_top, invoke, leave, of_one_type, of_type, onto, pick}
pub use Rattle.wasm_meaning.specs.Execution.{plain, replied, spend, spend_all, top, turn, turns}
pub use Rattle.wasm_meaning.specs.LinkedSet.{External, FuncAddress, GlobalAddress, HostFunc, IsFunc, IsGlobal, IsLinked, IsMemory, IsTable}
pub use Rattle.wasm_meaning.specs.LinkedSet.{LinkedSet, ModuleFunc, Resolves, as_func, as_global, as_memory, as_table, body_of, func_at}
pub use Rattle.wasm_meaning.specs.LinkedSet.{func_type, global_type, import_at, memory_at, module_at, table_at, type_at}
pub use Rattle.wasm_meaning.specs.Run.{CallExport, CallStart, Ended, Fits, ListedCall, MakeGlobal, Outcome, Planned, Stopped, Take, Task}
pub use Rattle.wasm_meaning.specs.Run.{TestData, TestElements, WasmRun, WriteByte, WriteElement, as_offset, called_func, constant_of}
pub use Rattle.wasm_meaning.specs.Run.{do_task, done, first_value, is_free, limits_fit, paid, plan_of, run_tasks, tested, then_run}
pub use Rattle.wasm_meaning.specs.Run.{trail_after, wasm_run, with_found, with_memory_at, with_table_at}
pub use Rattle.wasm_meaning.specs.Samples.{alone, call_of, exports_table, host_ticks, imports_func, imports_memory, imports_one_global}
pub use Rattle.wasm_meaning.specs.Samples.{imports_table, indirect_calls}
