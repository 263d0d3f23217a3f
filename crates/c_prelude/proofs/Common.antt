-- What proofs of this crate cite of std, of the crates below and of specs/, passed on from one place. Declares nothing.
pub use Rattle.std.proofs.Common.{◌≡◌, ℕ, zero, suc, ◌+◌, ◌-◌, ◌*◌, ◌/◌, ◌%◌, ◌^◌, ◌<◌, ◌≤◌, Bool, true, false, cond, ◌&&◌, ◌≢◌, ◌⊎◌, List}
pub use Rattle.std.proofs.Common.{[], ◌∷◌, ◌++◌, length, get_or, take, drop, set, replicate, pos, negsuc, neg_ℤ, is_some, if◌then◌else◌}
pub use Rattle.std.proofs.Common.{nat_eq, nat_lt, nat_le, slice_get, slice_set, bit_and, bit_or, bit_xor, int_lt, int_le, int_div, int_rem}
pub use Rattle.std.proofs.Common.{Some, None, codes, Option, option_map, find, bytes_eq, sym, refl, ap, ◌∙◌, subst, inl, inr, append_assoc}
pub use Rattle.std.proofs.Common.{le_refl, add-zero, le_of_lt, add_assoc, mul-le-mul_right, mod-lt, mod-eq_of_lt, mul_assoc, add_comm}
pub use Rattle.std.proofs.Common.{lt_of_mul-lt-mul_right, mul-le-mul_left, one-mul, pow-suc, div-add-mod', zero-add, zero-mul, mul-one}
pub use Rattle.std.proofs.Common.{le_of_mul-le-mul_right, div-one, one-add, arith, length-append, length-drop, length-set, take-append-drop}
pub use Rattle.std.proofs.Common.{length-take, get_or-drop, drop-cons, take-suc, take-suc-set, drop-set-lt, pow_pos, pow_mono, pow-add}
pub use Rattle.std.proofs.lemmas.Bool.Decides.{eqb_tells, leb_tells, nat_tests}
pub use Rattle.std.proofs.lemmas.Nat.{div-mul-add, mod-mul-add, mod-pow-add, or_shifted, pow_below, shl-shr, shl_below, shr_below, shr_le}
pub use Rattle.std.specs.List.{AllByRecursion}
pub use lib.Bits.{and_block, and_le_r, and_mask, and_zero_r, or_self, shifted_even, shifted_half, xor_block, xor_zero_r}
pub use lib.Count.{count_leading_zeros, count_trailing_zeros, ones, trailing_of_zero}
pub use native.Mathlib.Nat.{add-div_right, add-mod_right, add-mul-div_right, div-eq_of_lt, mod_self, mul-mod_left, sub-zero, zero-mod}
pub use Rattle.w2c_base.specs.LittleEndian.{bytes_at, little_endian, low_bytes, with_bytes}
pub use Rattle.w2c_base.specs.Lookup.{if_found, named, with_named}
pub use Rattle.w2c_base.specs.Values.{bits, equal_type, number_of, pattern_of, type_of, value}
pub use Rattle.w2c_base.specs.declared.trap.TrapKind.TheVariants.{DivByZero, IntOverflow, MemoryOut}
pub use Rattle.w2c_base.specs.declared.value.ValType.{ValType}
pub use Rattle.w2c_base.specs.declared.value.Value.{Value}
pub use Rattle.w2c_base.specs.declared.value.Value.TheVariants.{I32, I64}
pub use Rattle.wasm_tree.specs.declared.operators.LoadOp.{LoadOp}
pub use Rattle.wasm_tree.specs.declared.operators.StoreOp.{StoreOp}
pub use Rattle.c_tree.specs.Makers.{num, trap}
pub use Rattle.c_tree.specs.TypesInC.{c_type_of}
pub use Rattle.c_tree.specs.declared.tree.CType.{CType}
pub use Rattle.c_tree.specs.declared.tree.CType.TheVariants.{Void}
pub use Rattle.wasm_meaning.specs.Operators.{Answer, Gives, Traps, div_s, extend_s, overflows, rem_s, shr_s, signed, truth}
pub use Rattle.c_meaning.proofs.Goes.{step_on, walk, walk_reaches}
pub use Rattle.c_meaning.specs.Linking.{Definition, Program, defined, definition_at, definition_of, external_func, func_named}
pub use Rattle.c_meaning.specs.Machine.{memory_in, of_type, with_memory, with_objects}
pub use Rattle.c_meaning.specs.Primitives.{Effect, get, on_memory, on_table, primitive, put, with_content}
pub use Rattle.c_meaning.specs.Run.{Going, Pending, Progress, go_on}
pub use Rattle.c_meaning.specs.State.{CValue, Element, Evaluated, Frame, FuncAddress, Is, Machine, Memory, Name, Number, ObjectAddress}
pub use Rattle.c_meaning.specs.State.{Objects, Pointer, Running, Stuck, UnitFunc, Vars, then_evaluate}
pub use Rattle.c_meaning.specs.Step.{Step, Stops, act, after_label, at_rest, begin, c_step, call, call_callee, evaluate, evaluate_arg, give}
pub use Rattle.c_meaning.specs.Step.{place_of, take_effect, with_value}
pub use Rattle.c_helpers.specs.Helpers.{copy_helper, element_helper, fill_helper, helper_of, load_helper, number_helper, number_stmts}
pub use Rattle.c_helpers.specs.Helpers.{object_stmts, size_helper, store_helper}
pub use Rattle.c_helpers.specs.Pieces.{flag}
pub use Rattle.c_helpers.specs.Rows.{Binary, Compare, Extend, ExtendI32S, Unary, operator_of, row_of}
pub use Rattle.c_helpers.specs.declared.operation.Form.{Form}
pub use Rattle.c_helpers.specs.declared.operation.Helper.{Helper}
pub use Rattle.c_helpers.specs.declared.operation.NumOp.{NumOp}
pub use Rattle.c_prelude.specs.Calls.{CallComesBetween, CallComesTo, CallEnd, GivesBack, call_begun, call_ended}
pub use Rattle.c_prelude.specs.Operators.{ComesToBytes, DoesCopy, DoesElement, DoesFill, DoesItsInstruction, DoesLoad, DoesOperator}
pub use Rattle.c_prelude.specs.Operators.{DoesSize, DoesStore, answered, element_found, number, stored}
