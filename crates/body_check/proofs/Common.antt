-- What proofs of this crate cite of std, of the crates below and of specs/, passed on from one place. Declares nothing.
pub use Rattle.std.proofs.Common.{◌≡◌, ℕ, zero, suc, ◌+◌, ◌-◌, ◌*◌, ◌^◌, ◌<◌, ◌≤◌, Bool, true, false, not, ◌&&◌, ◌||◌, ◌⊎◌, List, [], ◌∷◌}
pub use Rattle.std.proofs.Common.{◌++◌, map, reverse, length, get_or, take, drop, replicate, is_some, is_none, OnOk, nat_le, slice_get}
pub use Rattle.std.proofs.Common.{Some, None, Ok, Err, Option, Result, option_map, flat_map, option_copied, sym, refl, ap, ◌∙◌, subst, inl}
pub use Rattle.std.proofs.Common.{inr, ⊎_elim, append_assoc, add_assoc, arith, length-append, pow_mono, rules, tests}
pub use Rattle.std.proofs.lemmas.Bool.{cases_lt, lt-leb}
pub use Rattle.std.proofs.lemmas.List.{drop_all, drop_more, replicate-append-replicate}
pub use Rattle.std.proofs.lemmas.List.Folds.{list_any-append}
pub use Rattle.std.proofs.lemmas.Option.{slice_get-map, same_Some}
pub use Rattle.std.specs.List.{AllByRecursion, list_any}
pub use Rattle.w2c_base.proofs.Places.{get_front, some_first}
pub use Rattle.w2c_base.specs.declared.signature.FuncType.{FuncType}
pub use Rattle.w2c_base.specs.declared.value.ValType.{ValType}
pub use Rattle.w2c_base.specs.declared.value.ValType.TheVariants.{I32, I64}
pub use Rattle.wasm_tree.specs.Accesses.{load_width, store_width}
pub use Rattle.wasm_tree.specs.IndexSpaces.{declared_locals, func_of_import, global_of_import, memory_of_import, table_of_import}
pub use Rattle.wasm_tree.specs.InstructionTable.{Typing, by_rule, of_types}
pub use Rattle.wasm_tree.specs.Instructions.{Block, Br, BrIf, BrTable, Call, CallIndirect, Code, Drop, GlobalGet, GlobalSet, If, Kind, Load}
pub use Rattle.wasm_tree.specs.Instructions.{LocalGet, LocalSet, LocalTee, Loop, MemoryCopy, MemoryFill, MemoryGrow, MemorySize, Otherwise}
pub use Rattle.wasm_tree.specs.Instructions.{Return, Select, Store, Unreachable, else_code, end_code, no_else, then_code}
pub use Rattle.wasm_tree.specs.Parts.{access_tree, index_tree, numeric_tree, parts_of, simple_tree}
pub use Rattle.wasm_tree.specs.Size.{code_size, kind_size, otherwise_size}
pub use Rattle.wasm_tree.specs.Views.{code_tree, kind_tree, otherwise_tree}
pub use Rattle.wasm_tree.specs.declared.code.ElsePart.{ElsePart}
pub use Rattle.wasm_tree.specs.declared.code.Instr.{Instr}
pub use Rattle.wasm_tree.specs.declared.operators.Kind.{Kind as RustKind}
pub use Rattle.wasm_tree.specs.declared.entries.BodyEntry.{BodyEntry}
pub use Rattle.wasm_tree.specs.declared.operators.IndexOp.{IndexOp}
pub use Rattle.wasm_typing.specs.BodyFault.{FirstBodyFault, body_tokens, cause_of, else_tokens, first_cause, kind_tokens, misaligned}
pub use Rattle.wasm_typing.specs.BodyFault.{plain_token, tokens}
pub use Rattle.wasm_typing.specs.Completion.{closing, completed, completed_else, completed_kind, else_token_count, kind_token_count}
pub use Rattle.wasm_typing.specs.Completion.{token_count}
pub use Rattle.wasm_typing.specs.Context.{Context, Labels}
pub use Rattle.wasm_typing.specs.Typing.{BodyHasType, ElseHasType, HasMemory, HasTable, HasType, KindHasType, Leaves, Stack, Turns}
pub use Rattle.wasm_typing.specs.Typing.{TurnsAsTabled, table_type, values}
pub use Rattle.wasm_typing.specs.declared.fault.Fault.{Fault}
pub use Rattle.wasm_typing.specs.declared.fault.ValidCause.{ValidCause}
pub use Rattle.wasm_typing.specs.declared.fault.ValidRefusal.{ValidRefusal}
pub use Rattle.body_check.specs.Checker.{Operands, Ran, Refusal, all_labels, and_then, anything, at_end, check, chosen, closes, common}
pub use Rattle.body_check.specs.Checker.{empties, first_end, give, has_memory, has_table, is_label, jump, later, no_result, nothing, on}
pub use Rattle.body_check.specs.Checker.{on_some, or_refuse, pop_any, pop_type, pop_types, push_types, refusal, run, run_else, run_kind}
pub use Rattle.body_check.specs.Checker.{step, turn, turn_tabled, when}
pub use Rattle.body_check.specs.Needs.{needs_of, row_cause, row_step, unmet, where_met}
pub use Rattle.body_check.specs.Plain.{Does, Plain}
pub use Rattle.body_check.specs.PlainParts.{any_missing}
pub use Rattle.body_check.specs.RanTo.{RanTo, Stays, all_placed, labels_of, run_block, run_nested, seen}
pub use Rattle.body_check.specs.Seen.{type_seen}
pub use Rattle.body_check.specs.Shown.{Keeps, Steps, bottom, pile, popped, shown}
pub use Rattle.body_check.specs.declared.numeric.Needs.TheVariants.{Access, Nothing}
pub use Rattle.body_check.specs.declared.operand.Operand.{Operand}
pub use Rattle.body_check.specs.declared.stop.Stop.{Stop}
