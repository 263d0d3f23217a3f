-- What proofs of this crate cite of std, of the crates below and of specs/, passed on from one place. Declares nothing.
pub use Rattle.std.proofs.Common.{◌≡◌, ℕ, zero, suc, ◌+◌, ◌-◌, ◌^◌, ◌<◌, ◌≤◌, max, Bool, true, false, cond, not, ◌&&◌, ◌||◌, eqb, ltb, leb}
pub use Rattle.std.proofs.Common.{◌⊎◌, List, [], ◌∷◌, ◌++◌, map, length, get_or, take, drop, replicate, ℤ, is_none, IsTrue, nat_lt, nat_le}
pub use Rattle.std.proofs.Common.{Some, None, Ok, Err, Option, Result, ok_or, find, flat_map, sym, refl, ap, ◌∙◌, subst, inl, inr}
pub use Rattle.std.proofs.Common.{append_assoc, append-nil, arith, length-append, length-drop, take-append-drop, length-take-le, w8, Fits}
pub use Rattle.std.proofs.Common.{rules, ltb-false, ltb-true, lt-ltb, eq-eqb, eqb-true, leb-true}
pub use Rattle.std.proofs.Math.Seq.{drop-append_seam, take-append_seam}
pub use Rattle.std.proofs.lemmas.Bool.{and_from, and_parts, cases_lt, or_from, or_right}
pub use Rattle.std.proofs.lemmas.List.{length-map, length-replicate, nil_from_length}
pub use Rattle.std.specs.List.{AllByRecursion}
pub use Rattle.std.specs.Str.{is_utf8}
pub use Rattle.w2c_base.proofs.OfEach.{all_append, all_flat, all_map, all_split, of_each}
pub use Rattle.w2c_base.specs.SpelledNumber.{SpellsSigned, SpellsUnsigned}
pub use Rattle.w2c_base.specs.declared.value.ValType.{ValType}
pub use Rattle.wasm_tree.proofs.ExactTable.{has_row, of_class, ◌&◌}
pub use Rattle.wasm_tree.specs.Bytes.{AreBytes}
pub use Rattle.wasm_tree.specs.Forms.{form_in, form_of}
pub use Rattle.wasm_tree.specs.IndexSpaces.{declared_locals, memory_of_import, memory_space, table_of_import, table_space}
pub use Rattle.wasm_tree.specs.InstructionTable.{Form, Prefixed, Row, a_mem_arg, a_sub_opcode, a_type, a_zero, an_i32, an_i64, an_index}
pub use Rattle.wasm_tree.specs.InstructionTable.{labels, nothing, opcode_of, prefixed, prefixed_of, row_of, rows}
pub use Rattle.wasm_tree.specs.Instructions.{Block, Br, BrIf, BrTable, Call, CallIndirect, Code, GlobalGet, GlobalSet, I32Const, I64Const}
pub use Rattle.wasm_tree.specs.Instructions.{If, Kind, Load, LocalGet, LocalSet, LocalTee, Loop, MemoryCopy, MemoryFill, MemoryGrow}
pub use Rattle.wasm_tree.specs.Instructions.{MemorySize, Store, else_code, end_code, no_else, then_code}
pub use Rattle.wasm_tree.specs.Limits.{most_all_locals, most_blocks, most_functions, most_locals, most_memory_pages, most_module_bytes}
pub use Rattle.wasm_tree.specs.Limits.{most_name_bytes, most_parameters, most_results, most_table_elements}
pub use Rattle.wasm_tree.specs.Within.{BodyIsWithin, IsMaximum, IsName, WithinLimits, block_depth, block_depth_of, has_wide, is_wide}
pub use Rattle.wasm_tree.specs.Within.{least_bytes, least_bytes_of, some_in, some_inside}
pub use Rattle.wasm_tree.specs.declared.entries.BodyEntry.{BodyEntry}
pub use Rattle.wasm_tree.specs.declared.entries.DataCount.{DataCount}
pub use Rattle.wasm_tree.specs.declared.entries.ElementEntry.{ElementEntry}
pub use Rattle.wasm_tree.specs.declared.entries.Export.{Export}
pub use Rattle.wasm_tree.specs.declared.entries.Import.{Import}
pub use Rattle.wasm_tree.specs.declared.entries.ImportKind.{ImportKind}
pub use Rattle.wasm_tree.specs.declared.entries.Limits.{Limits}
pub use Rattle.wasm_tree.specs.declared.entries.LimitsEntry.{LimitsEntry}
pub use Rattle.wasm_tree.specs.declared.entries.Run.{Run}
pub use Rattle.wasm_tree.specs.declared.entries.TypeEntry.{TypeEntry}
pub use Rattle.wasm_tree.specs.declared.tree.Module.{Module}
pub use Rattle.wasm_spelling.specs.At.{At, Counts}
pub use Rattle.wasm_spelling.specs.Fields.{Custom, Fields, Sized, Spelled, Then, byte, either, finished, for_some, here, number, provided}
pub use Rattle.wasm_spelling.specs.Fields.{signed, text, window}
pub use Rattle.wasm_spelling.specs.ModuleFields.{Part, Spells, any_name, block_type_code, bodies, code, code_fields, content, custom}
pub use Rattle.wasm_spelling.specs.ModuleFields.{customs, data_count, each, element_entry, elements, end_byte, export_code, export_entry}
pub use Rattle.wasm_spelling.specs.ModuleFields.{exports, expression, func_entry, func_ref, func_type, functions, global_entry, globals}
pub use Rattle.wasm_spelling.specs.ModuleFields.{id_of, immediates, import_entry, import_kind, imports, instr_fields, is_empty, limits}
pub use Rattle.wasm_spelling.specs.ModuleFields.{limits_from, locals_of, memories, memory_entry, module_fields, mutability_code, name}
pub use Rattle.wasm_spelling.specs.ModuleFields.{parts, rank_of, results, runs, section, sections, segment_entry, segments, short_vector}
pub use Rattle.wasm_spelling.specs.ModuleFields.{start, table_entry, tables, type_code, type_entry, types, utf8, value_type, vector}
pub use Rattle.wasm_spelling.specs.Steps.{Head, Reader, SectionId, a_block, a_custom, a_form, a_loop, a_part, agrees_with, an_if}
pub use Rattle.wasm_spelling.specs.Steps.{bodies_done, byte_at, byte_of, checked, data_count_at, data_done, done, formed, head_of}
pub use Rattle.wasm_spelling.specs.Steps.{locals_counted, malformed, more_locals, no_section, number_at, opened, part_of, reads, rest_at}
pub use Rattle.wasm_spelling.specs.Steps.{run_count_at, section_begins, section_id_at, section_id_of, sub_opcode_in, sub_opcode_of}
pub use Rattle.wasm_spelling.specs.Steps.{the_else, the_end, ◌>>=◌}
pub use Rattle.wasm_spelling.specs.Table.{Field, State, content_of, form_fields, index, instructions, none_more, of_functions, of_indexes}
pub use Rattle.wasm_spelling.specs.Table.{of_segments, on, parts_of, row, size, state, step, times, used_up}
pub use Rattle.wasm_spelling.specs.declared.fault.Cause.{Cause}
pub use Rattle.wasm_spelling.specs.declared.fault.ReadFault.{ReadFault}
pub use Rattle.wasm_spelling.specs.declared.fault.ReadFault.TheVariants.{Float, Limit, Malformed}
pub use Rattle.wasm_spelling.specs.declared.fault.Which.{Which}
