-- What proofs of this crate cite of std, of the crates below and of specs/, passed on from one place. Declares nothing.
pub use Rattle.std.proofs.Common.{◌≡◌, ℕ, zero, suc, ◌+◌, ◌-◌, ◌*◌, ◌^◌, ◌<◌, ◌≤◌, Bool, true, false, cond, ◌⊎◌, List, [], ◌∷◌, ◌++◌, map}
pub use Rattle.std.proofs.Common.{length, get_or, take, drop, replicate, ℤ, is_none, nat_eq, nat_lt, nat_le, Some, None, Option, sym, refl}
pub use Rattle.std.proofs.Common.{ap, ◌∙◌, subst, inl, inr, append_assoc, append-nil, add-zero, arith, length-append, length-take-le, w32}
pub use Rattle.std.proofs.Common.{w64, lt-ltb, le-leb, leb-true}
pub use Rattle.std.proofs.lemmas.Bool.{cases_Bool, cases_lt, false≢true}
pub use Rattle.std.proofs.lemmas.Int.{to_z-of_z}
pub use Rattle.std.proofs.lemmas.List.{length-replicate, take_more}
pub use Rattle.w2c_base.proofs.OfEach.{all_append}
pub use Rattle.w2c_base.proofs.Places.{read_again, front_next, front_split}
pub use Rattle.w2c_base.specs.SpelledNumber.{SpellsSigned, SpellsUnsigned, seven_bit_sum}
pub use Rattle.w2c_base.specs.declared.value.ValType.{ValType}
pub use Rattle.leb_bytes.specs.Shortest.{IsShortest}
pub use Rattle.wasm_tree.specs.InstructionTable.{opcode_of}
pub use Rattle.wasm_tree.specs.Instructions.{Block, Br, BrIf, BrTable, Call, CallIndirect, Code, GlobalGet, GlobalSet, I32Const, I64Const}
pub use Rattle.wasm_tree.specs.Instructions.{If, Kind, Load, LocalGet, LocalSet, LocalTee, Loop, MemoryCopy, MemoryFill, MemoryGrow}
pub use Rattle.wasm_tree.specs.Instructions.{MemorySize, Store, else_code, end_code, no_else, then_code}
pub use Rattle.wasm_tree.specs.Views.{code_tree, kind_tree}
pub use Rattle.wasm_tree.specs.declared.entries.BodyEntry.{BodyEntry}
pub use Rattle.wasm_tree.specs.declared.entries.DataCount.{DataCount}
pub use Rattle.wasm_tree.specs.declared.entries.ElementEntry.{ElementEntry}
pub use Rattle.wasm_tree.specs.declared.entries.Export.{Export}
pub use Rattle.wasm_tree.specs.declared.entries.FuncEntry.{FuncEntry}
pub use Rattle.wasm_tree.specs.declared.entries.FuncRef.{FuncRef}
pub use Rattle.wasm_tree.specs.declared.entries.GlobalEntry.{GlobalEntry}
pub use Rattle.wasm_tree.specs.declared.entries.Import.{Import}
pub use Rattle.wasm_tree.specs.declared.entries.ImportKind.{ImportKind}
pub use Rattle.wasm_tree.specs.declared.entries.Limits.{Limits}
pub use Rattle.wasm_tree.specs.declared.entries.LimitsEntry.{LimitsEntry}
pub use Rattle.wasm_tree.specs.declared.entries.Run.{Run}
pub use Rattle.wasm_tree.specs.declared.entries.SegmentEntry.{SegmentEntry}
pub use Rattle.wasm_tree.specs.declared.entries.Start.{Start}
pub use Rattle.wasm_tree.specs.declared.entries.TypeEntry.{TypeEntry}
pub use Rattle.wasm_tree.specs.declared.tree.Module.{Module}
pub use Rattle.wasm_spelling.specs.Fields.{Custom, Fields, Spelled, Then, byte, either, finished, for_some, here, number, provided, signed}
pub use Rattle.wasm_spelling.specs.Fields.{text, window}
pub use Rattle.wasm_spelling.specs.ModuleFields.{Part, block_type_code, bodies, code, code_fields, content, custom, data_count}
pub use Rattle.wasm_spelling.specs.ModuleFields.{data_count_content, each, element_entry, elements, end_byte, export_code, export_entry}
pub use Rattle.wasm_spelling.specs.ModuleFields.{exports, expression, func_entry, func_ref, func_type, functions, global_entry, globals}
pub use Rattle.wasm_spelling.specs.ModuleFields.{id_of, immediates, import_entry, import_kind, imports, instr_fields, is_empty, limits}
pub use Rattle.wasm_spelling.specs.ModuleFields.{limits_from, locals_of, magic, memories, memory_entry, memory_type, module_fields}
pub use Rattle.wasm_spelling.specs.ModuleFields.{mutability_code, name, parts, rank_of, results, runs, section, sections, segment_entry}
pub use Rattle.wasm_spelling.specs.ModuleFields.{segments, short_vector, start, start_content, start_entry, table_entry, table_type, tables}
pub use Rattle.wasm_spelling.specs.ModuleFields.{type_code, type_entry, types, value_type, vector, version}
pub use Rattle.wasm_spelling.specs.Parts.{part_is}
pub use Rattle.wasm_spelling.specs.Places.{IsFormed, SameApartFromPlaces, SpellsAside, bare_body, bare_code, bare_data_count, bare_element}
pub use Rattle.wasm_spelling.specs.Places.{bare_export, bare_func, bare_func_ref, bare_global, bare_import, bare_import_kind, bare_limits}
pub use Rattle.wasm_spelling.specs.Places.{bare_limits_entry, bare_module, bare_segment, bare_start, bare_type}
pub use Rattle.wasm_writing.specs.Bodies.{body_content}
pub use Rattle.wasm_writing.specs.Drafts.{Completes, Fits, HasStopped, IsWithin, Makes, Puts, PutsSize, Refuses, Takes, size_of}
pub use Rattle.wasm_writing.specs.ShortFile.{IsShortFile, filled, short_fields}
pub use Rattle.wasm_writing.specs.declared.draft.Draft.{Draft}
pub use Rattle.wasm_writing.specs.declared.draft.Draft.TheVariants.{Counted, Stopped, Written}
pub use Rattle.wasm_writing.specs.declared.draft.Stop.TheVariants.{Memory, Unformed}
pub use Rattle.wasm_tree.specs.Bytes.{AreBytes}
pub use Rattle.wasm_tree.specs.Limits.{most_all_locals, most_blocks, most_functions, most_locals, most_memory_pages, most_module_bytes}
pub use Rattle.wasm_tree.specs.Limits.{most_name_bytes, most_parameters, most_results, most_table_elements}
