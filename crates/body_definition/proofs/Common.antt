-- What proofs of this crate cite of std, of the crates below and of specs/, passed on from one place. Declares nothing.
pub use Rattle.std.proofs.Common.{◌≡◌, ℕ, zero, suc, ◌+◌, ◌^◌, ◌<◌, ◌≤◌, max, Bool, true, false, not, ◌&&◌, ◌||◌, List, [], ◌∷◌, ◌++◌, map}
pub use Rattle.std.proofs.Common.{reverse, length, drop, if◌then◌else◌, nat_lt, ◌==◌, slice_get, Some, None, Option, option_map, zip}
pub use Rattle.std.proofs.Common.{unwrap_or, sym, refl, ap, ◌∙◌, subst, true≢false, append_assoc, arith, length-append, length-drop, eq-eqb}
pub use Rattle.std.proofs.Math.Seq.{drop-append_seam}
pub use Rattle.std.proofs.lemmas.Bool.{or_left}
pub use Rattle.std.proofs.lemmas.List.{length-reverse, reverse-append}
pub use Rattle.std.proofs.lemmas.Option.{slice_get-map}
pub use Rattle.w2c_base.proofs.Conjunctions.{both_hold}
pub use Rattle.w2c_base.proofs.Types.{type_equals_itself}
pub use Rattle.w2c_base.specs.Lookup.{at_index, if_found}
pub use Rattle.w2c_base.specs.declared.signature.FuncType.{FuncType}
pub use Rattle.w2c_base.specs.declared.value.ValType.{ValType}
pub use Rattle.wasm_tree.specs.IndexSpaces.{at_defined, type_in}
pub use Rattle.wasm_tree.specs.InstructionTable.{Row, Typing, by_rule, first_row, of_types, opcode_of, rows}
pub use Rattle.wasm_tree.specs.Instructions.{Block, Br, BrIf, BrTable, Call, CallIndirect, Code, Drop, GlobalGet, GlobalSet, If, Kind, Load}
pub use Rattle.wasm_tree.specs.Instructions.{LocalGet, LocalSet, LocalTee, Loop, MemoryCopy, MemoryFill, MemoryGrow, MemorySize}
pub use Rattle.wasm_tree.specs.Instructions.{Otherwise, Return, Select, Store, Unreachable, else_code, end_code, no_else, then_code}
pub use Rattle.wasm_tree.specs.Size.{code_size, kind_size, otherwise_size}
pub use Rattle.wasm_tree.specs.Within.{BodyIsWithin, WithinLimits, least_bytes, least_bytes_of, least_bytes_of_else, some_in}
pub use Rattle.wasm_tree.specs.Within.{some_in_else, some_inside}
pub use Rattle.wasm_tree.specs.declared.entries.BodyEntry.{BodyEntry}
pub use Rattle.wasm_tree.specs.declared.entries.FuncEntry.{FuncEntry}
pub use Rattle.wasm_tree.specs.declared.entries.TypeEntry.{TypeEntry}
pub use Rattle.wasm_tree.specs.declared.tree.Module.{Module}
pub use Rattle.wasm_typing.specs.Context.{Context, Labels, body_context, context_of}
pub use Rattle.wasm_typing.specs.Typing.{BodyHasType, KindHasType, Stack, Turns, TurnsAsTabled, table_type, typing_in, values}
pub use Rattle.wasm_typing.specs.Verdict.{AreTyped, IsTyped}
pub use Rattle.body_definition.specs.Body.{body_of, code_stmts, func_of, no_func, stmts_of}
pub use Rattle.body_definition.specs.Code.{branch_table, call_indirect_stmts, call_stmts, emit, emit_kind, moving_cases}
pub use Rattle.body_definition.specs.Labels.{falls, labels_in, labels_in_else, labels_of, targets}
pub use Rattle.body_definition.specs.Limits.{BodyHasLimits, HasLimits}
pub use Rattle.body_definition.specs.Plain.{Setting, by_way, if_type, plain_stmts}
pub use Rattle.body_definition.specs.Stack.{after, after_call, occurs, occurs_in, occurs_in_else, peak, peak_in, peak_in_else, pushed}
pub use Rattle.body_definition.specs.Stack.{stands, turned}
pub use Rattle.c_tree.specs.DefinedNames.{label_name}
pub use Rattle.c_helpers.specs.Translated.{any_in, any_in_else, any_inside, ends}
pub use Rattle.c_helpers.specs.Ways.{binary_way, compare_way}
pub use Rattle.c_helpers.specs.declared.steps.Way.{Way}
pub use Rattle.c_helpers.specs.declared.steps.Way.TheVariants.{ByOperator}
pub use Rattle.body_forms.specs.Branches.{Aim, branch_if, exit_of, if_aim, is_straight, jump, jump_over, label_if, moving_case}
pub use Rattle.body_forms.specs.Frame.{change_depth, give_back}
pub use Rattle.body_forms.specs.Slots.{set_slot}
