-- What proofs of this crate cite of std, of the crates below and of specs/, passed on from one place. Declares nothing.
pub use Rattle.std.proofs.Common.{◌≡◌, ℕ, zero, suc, ◌+◌, ◌-◌, ◌*◌, ◌%◌, ◌^◌, ◌<◌, ◌≤◌, Bool, true, false, List, [], ◌∷◌, ◌++◌, map, length}
pub use Rattle.std.proofs.Common.{replicate, ℤ, pos, ◌-ℤ◌, is_none, if◌then◌else◌, IsTrue, nat_eq, nat_lt, ◌==◌, slice_get, slice_index}
pub use Rattle.std.proofs.Common.{Some, None, Option, option_map, zip, flat_map, sym, refl, ap, ◌∙◌, subst, inl, inr, arith, length-append}
pub use Rattle.std.proofs.Common.{ltb-true, le-ltb, lt-ltb, eq-eqb, le-leb}
pub use Rattle.std.proofs.lemmas.Bool.{cases_Bool, cases_lt}
pub use Rattle.std.proofs.lemmas.Int.{ints}
pub use Rattle.std.proofs.lemmas.List.FromFn.{length-map-range_with_len, map-range_with_len_more}
pub use Rattle.std.specs.List.{list_all, range_with_len}
pub use Rattle.w2c_base.proofs.OfEach.{all_append, all_split}
pub use Rattle.w2c_base.specs.SpelledNumber.{IsNumberRun, SpellsSigned, SpellsUnsigned, seven_bit_sum, signed_sum}
pub use Rattle.leb_bytes.proofs.ShortestLemmas.{one_shortest_signed, one_shortest_unsigned, signed_shortest, unsigned_shortest}
pub use Rattle.leb_bytes.specs.Run.{InRange}
pub use Rattle.leb_bytes.specs.Shortest.{IsShortest}
pub use Rattle.wasm_tree.specs.Bytes.{AreBytes}
pub use Rattle.wasm_tree.specs.Instructions.{Block, Call, Code, If, Kind, Loop, Otherwise, else_code, end_code, no_else, then_code}
pub use Rattle.wasm_tree.specs.declared.entries.BodyEntry.{BodyEntry}
pub use Rattle.wasm_tree.specs.declared.tree.Module.{Module}
pub use Rattle.wasm_typing.specs.Context.{Context, Labels, context_of}
pub use Rattle.wasm_typing.specs.Typing.{BodyHasType, ElseHasType, HasType, KindHasType, Stack, values}
pub use Rattle.wasm_spelling.specs.Fields.{Fields, byte, finished, here, number, provided, signed, text, window}
pub use Rattle.wasm_spelling.specs.ModuleFields.{Part, bodies, code, code_fields, content, data_count, each, elements, exports, func_entry}
pub use Rattle.wasm_spelling.specs.ModuleFields.{functions, globals, id_of, imports, instr_fields, is_empty, magic, memories, segments}
pub use Rattle.wasm_spelling.specs.ModuleFields.{start, tables, types, version}
pub use Rattle.wasm_spelling.specs.Places.{IsFormed, SameApartFromPlaces, SpellsAside, bare_body, bare_code, bare_data_count, bare_export}
pub use Rattle.wasm_spelling.specs.Places.{bare_func, bare_kind, bare_otherwise, bare_start, bare_type}
pub use Rattle.wasm_writing.proofs.PartLemmas.{filled-empty, filled-full}
pub use Rattle.wasm_writing.proofs.Whole.{short_file_spells}
pub use Rattle.wasm_writing.specs.ShortFile.{IsShortFile, filled, short_fields}
pub use Rattle.w2c_gen.specs.Generated.{body_of, body_with, code_with, generated, number_to_number, of_first_type, operator, run_export}
pub use Rattle.w2c_gen.specs.Generated.{run_name, signed_reading}
pub use Rattle.w2c_gen.specs.GeneratedFile.{IsAcceptedAs, IsGeneratedFile}
pub use Rattle.w2c_gen.specs.Numbers.{next_number, number_at}
