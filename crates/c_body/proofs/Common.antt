-- What proofs of this crate cite of std, of the crates below and of specs/, passed on from one place. Declares nothing.
pub use Rattle.std.proofs.Common.{◌≡◌, ℕ, zero, suc, ◌+◌, ◌-◌, ◌*◌, ◌^◌, ◌<◌, ◌≤◌, max, Bool, true, false, not, ◌&&◌}
pub use Rattle.std.proofs.Common.{◌||◌, List, [], ◌∷◌, ◌++◌, map, reverse, length, get_or, drop, replicate}
pub use Rattle.std.proofs.Common.{IfOk, if◌then◌else◌, OnOk, nat_lt, ◌==◌, slice_get}
pub use Rattle.std.proofs.Common.{slice_set, Some, None, Ok, Err, vec_len, filter}
pub use Rattle.std.proofs.Common.{Option, Result, option_map, sym, refl, ap, ◌∙◌}
pub use Rattle.std.proofs.Common.{subst, true≢false, append_assoc, append-nil, arith, length-append}
pub use Rattle.std.proofs.Common.{one-add}
pub use Rattle.std.proofs.Math.Bool.{and-false, and-true, or-false, or-true, or_assoc}
pub use Rattle.std.proofs.Math.Seq.{set-append_seam}
pub use Rattle.std.proofs.lemmas.Bool.{or_parts, false≢true}
pub use Rattle.std.proofs.lemmas.Bool.Decides.{nat_tests}
pub use Rattle.std.proofs.lemmas.List.{length-reverse}
pub use Rattle.std.proofs.lemmas.List.Elements.{filter-append}
pub use Rattle.std.proofs.lemmas.Option.{slice_get-map}
pub use Rattle.std.specs.List.{list_any, range_with_len}
pub use Rattle.w2c_base.proofs.OfEach.{all_at}
pub use Rattle.w2c_base.specs.Lookup.{at_index}
pub use Rattle.w2c_base.specs.Values.{equal_type}
pub use Rattle.w2c_base.specs.declared.signature.FuncType.{FuncType}
pub use Rattle.w2c_base.specs.declared.value.ValType.{ValType}
pub use Rattle.wasm_tree.proofs.CodeSizes.{instr_smaller}
pub use Rattle.wasm_tree.specs.IndexSpaces.{at_defined, declared_locals}
pub use Rattle.wasm_tree.specs.IndexSpaces.{imported_funcs}
pub use Rattle.wasm_tree.specs.IndexSpaces.{type_in}
pub use Rattle.wasm_tree.specs.InstructionTable.{Typing, by_rule, of_types}
pub use Rattle.wasm_tree.specs.Instructions.{Block, Code, If, Kind}
pub use Rattle.wasm_tree.specs.Instructions.{Loop}
pub use Rattle.wasm_tree.specs.Instructions.{Otherwise, else_code, end_code, no_else, then_code}
pub use Rattle.wasm_tree.specs.Size.{code_size, kind_size, otherwise_size}
pub use Rattle.wasm_tree.specs.Views.{code_tree, kind_tree, otherwise_tree}
pub use Rattle.wasm_tree.specs.Within.{WithinLimits, has_wide}
pub use Rattle.wasm_tree.specs.declared.code.ElsePart.{ElsePart}
pub use Rattle.wasm_tree.specs.declared.code.Instr.{Instr}
pub use Rattle.wasm_tree.specs.declared.code.MemArg.{MemArg}
pub use Rattle.wasm_tree.specs.declared.entries.BodyEntry.{BodyEntry}
pub use Rattle.wasm_tree.specs.declared.entries.FuncEntry.{FuncEntry}
pub use Rattle.wasm_tree.specs.declared.entries.TypeEntry.{TypeEntry}
pub use Rattle.wasm_tree.specs.declared.operators.BinaryOp.{BinaryOp}
pub use Rattle.wasm_tree.specs.declared.operators.CompareOp.{CompareOp}
pub use Rattle.wasm_tree.specs.declared.operators.ExtendOp.{ExtendOp}
pub use Rattle.wasm_tree.specs.declared.operators.LoadOp.{LoadOp}
pub use Rattle.wasm_tree.specs.declared.operators.StoreOp.{StoreOp}
pub use Rattle.wasm_tree.specs.declared.operators.UnaryOp.{UnaryOp}
pub use Rattle.wasm_tree.specs.declared.tree.Module.{Module}
pub use Rattle.wasm_typing.proofs.TableTypes.{binary_typing, compare_typing, eqz_typing, extend_typing, load_typing, store_typing}
pub use Rattle.wasm_typing.proofs.TableTypes.{unary_typing}
pub use Rattle.wasm_typing.specs.Context.{Context, Labels, context_of}
pub use Rattle.wasm_typing.specs.Typing.{ElseHasType, HasType, KindHasType, Stack, TurnsAsTabled}
pub use Rattle.wasm_typing.specs.Typing.{table_type, values}
pub use Rattle.wasm_typing.specs.Verdict.{IsValid, bodies_of}
pub use Rattle.c_tree.specs.Scope.{Name}
pub use Rattle.c_tree.specs.View.{arg_of, func_of as func_seen}
pub use Rattle.c_tree.specs.declared.tree.CType.{CType}
pub use Rattle.c_body.specs.Around.{context_with, setting_of}
pub use Rattle.body_definition.specs.Body.{body_of, code_stmts, element_local, has_slot}
pub use Rattle.body_definition.specs.Body.{is_indirect, is_return, most_operands, slots_of}
pub use Rattle.body_definition.specs.Body.{stmts_of}
pub use Rattle.body_definition.specs.Code.{branch_table, call_indirect_stmts, call_named, call_stmts}
pub use Rattle.body_definition.specs.Code.{emit, emit_kind}
pub use Rattle.body_definition.specs.Code.{moving_cases, operands_from}
pub use Rattle.body_definition.specs.Labels.{falls, labels_in, labels_in_else, labels_of, targets}
pub use Rattle.body_definition.specs.Labels.{targets_in}
pub use Rattle.body_definition.specs.Limits.{BodyHasLimits}
pub use Rattle.body_definition.specs.Plain.{Setting}
pub use Rattle.body_definition.specs.Plain.{plain_stmts}
pub use Rattle.c_body.specs.Ready.{BodyIsReady, CodeIsReady, InsideIsReady, IsReached, KindIsReached, Covered}
pub use Rattle.c_body.specs.Ready.{KindIsReady, PlainIsReady, operands_in, takes}
pub use Rattle.body_definition.specs.Stack.{after, after_call, occurs, occurs_in, peak, peak_in, pushed}
pub use Rattle.body_definition.specs.Stack.{stands}
pub use Rattle.body_definition.specs.Stack.{turned}
pub use Rattle.w2c_base.proofs.Grown.{flat_map_next, read_again}
pub use Rattle.wasm_tree.specs.NamedModule.{NamedModule}
pub use Rattle.c_tree.specs.DefinedNames.{label_name}
pub use Rattle.c_helpers.specs.Steps.{step_of, taken}
pub use Rattle.c_helpers.specs.Translated.{any_in, any_in_else, any_inside, ends}
pub use Rattle.body_forms.specs.Branches.{Aim, branch_if, exit_of, if_aim, jump, jump_over, label_if, moving_case}
pub use Rattle.body_forms.specs.Frame.{change_depth, give_back, head}
pub use Rattle.body_emitter.specs.Begun.{begun, behind_code, first_marks, with_exit}
pub use Rattle.body_emitter.specs.Inside.{Inside}
pub use Rattle.body_emitter.specs.Made.{Made, aim_of, behind_block, behind_falling, behind_first, behind_loop, give, in_block}
pub use Rattle.packed_stmts.specs.Gaps.{gap}
pub use Rattle.body_emitter.specs.Made.{in_first, in_loop, in_second, is_named, moved_cases, name_block, name_blocks, named_at}
pub use Rattle.packed_stmts.specs.Gaps.{is_written}
pub use Rattle.body_emitter.specs.Made.{popped, put, put_each, with_labels}
pub use Rattle.packed_stmts.specs.Gaps.{written}
pub use Rattle.body_emitter.specs.MadeBy.{made_by}
pub use Rattle.body_emitter.specs.Marks.{has_mark, is_marked, mark, no_mark, with_mark}
pub use Rattle.body_forms.specs.Names.{slot}
pub use Rattle.body_emitter.specs.Shown.{HasOperands, Keeps}
pub use Rattle.body_forms.specs.Slots.{jump_if}
pub use Rattle.body_forms.specs.Variables.{locals_from, params_of, zero_local}
pub use Rattle.body_emitter.specs.SlotVariables.{element_if, slots_from}
pub use Rattle.body_emitter.specs.declared.mark.Mark.{Mark}
pub use Rattle.body_emitter.specs.declared.stack.Operands.{Operands}
pub use Rattle.body_emitter.specs.declared.target.OpenBlock.{OpenBlock}
pub use Rattle.c_body.specs.Ran.{body_made, did_step, if_step, ran, ran_block, ran_branches, ran_instr, ran_kind, ran_loop, ran_plain}
pub use Rattle.c_body.specs.Ran.{unless_dead}
