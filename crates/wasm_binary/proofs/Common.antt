-- What proofs of this crate cite of std, of the crates below and of specs/, passed on from one place. Declares nothing.
pub use Rattle.std.proofs.Common.{◌≡◌, ℕ, zero, suc, ◌+◌, ◌-◌, ◌*◌, ◌<◌, ◌≤◌, Bool, true, false, cond, ◌&&◌, eqb, ◌≢◌, List, [], ◌∷◌, ◌++◌}
pub use Rattle.std.proofs.Common.{length, pos, IfOk, nat_lt, Some, None, Ok, Err, Option, Result, sym, refl, ap, ◌∙◌, subst, append_assoc}
pub use Rattle.std.proofs.Common.{append-nil, arith, rules, eqb-true}
pub use Rattle.std.proofs.lemmas.Result.{err_from_is_err_and}
pub use Rattle.wasm_tree.specs.Forms.{Makes, form_in, form_of}
pub use Rattle.wasm_tree.specs.InstructionTable.{Form, Prefixed, Row, a_mem_arg, a_sub_opcode, a_type, a_zero, an_i32, an_i64, an_index}
pub use Rattle.wasm_tree.specs.InstructionTable.{labels, nothing, opcode_of, prefixed_of, row_of}
pub use Rattle.wasm_tree.specs.Instructions.{Binary, Block, Br, BrIf, BrTable, Call, CallIndirect, Code, Compare, Drop, Eqz, Extend}
pub use Rattle.wasm_tree.specs.Instructions.{GlobalGet, GlobalSet, I32Const, I32WrapI64, I64Const, I64ExtendI32S, I64ExtendI32U, Kind, Load}
pub use Rattle.wasm_tree.specs.Instructions.{LocalGet, LocalSet, LocalTee, Loop, MemoryCopy, MemoryFill, MemoryGrow, MemorySize, Nop}
pub use Rattle.wasm_tree.specs.Instructions.{Return, Select, Store, Unary, Unreachable, end_code, then_code}
pub use Rattle.wasm_tree.specs.Views.{instr_tree, kind_tree}
pub use Rattle.wasm_tree.specs.declared.tree.Module.{Module}
pub use Rattle.wasm_spelling.proofs.CodeTaken.{block_takes, code_takes, item_takes}
pub use Rattle.wasm_spelling.specs.At.{At}
pub use Rattle.wasm_spelling.specs.Parts.{part_is}
pub use Rattle.wasm_spelling.specs.Reading.{Ender, all_sections_at, block_of, block_type_at, by_else, by_end, code_at, ender_place, file_at}
pub use Rattle.wasm_spelling.specs.Reading.{if_closed, times_at}
pub use Rattle.wasm_spelling.specs.Steps.{Reader, a_block, a_loop, an_if, malformed, number_at, ◌>>=◌}
pub use Rattle.wasm_spelling.specs.declared.fault.ReadFault.{ReadFault}
pub use Rattle.wasm_spelling.specs.declared.fault.ReadFault.TheVariants.{Float, Limit, Malformed, Memory}
pub use Rattle.wasm_binary.specs.Enders.{as_item, as_kind, as_one, block_closed, ender_of, head_of_opener, item_of, opened_at, opener_head}
pub use Rattle.wasm_binary.specs.Sections.{behind_id, id_of_heading, is_no_section}
pub use Rattle.wasm_binary.specs.View.{Fails, Gives, UnlessMemory, at, kept, seen}
