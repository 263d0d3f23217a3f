-- What proofs of this crate cite of std, of the crates below and of specs/, passed on from one place. Declares nothing.
pub use Rattle.std.proofs.Common.{◌≡◌, ℕ, zero, suc, ◌+◌, ◌%◌, ◌^◌, ◌<◌, ◌≤◌, Bool, true, false, not, ◌&&◌, List, [], ◌∷◌, ◌++◌, map}
pub use Rattle.std.proofs.Common.{length, take, IfSome, IfNone, IfOk, nat_le, ◌==◌, slice_get, slice_index_or, Some, None, Ok, Err, codes}
pub use Rattle.std.proofs.Common.{IsAscii, decimal, Option, Result, flat_map, bytes_eq, sym, refl, ap, ◌∙◌, subst, append_assoc, append-nil}
pub use Rattle.std.proofs.Common.{arith, lit<, Bor, rules, eq-eqb, ne_eqb}
pub use Rattle.std.proofs.lemmas.Fmt.{IsAscii-decimal, decimal_by_steps, decimal_injective, parse-decimal}
pub use Rattle.std.proofs.lemmas.List.{append_cancel_right, map_push, same_from_push}
pub use Rattle.std.proofs.lemmas.List.Splits.{join_with_byte-slice_split, slice_split-cons_no, slice_split-cons_yes}
pub use Rattle.std.specs.List.{AllByRecursion, join_with_byte, list_all, onto_first, slice_split}
pub use Rattle.w2c_base.proofs.Conjunctions.{both_hold}
pub use Rattle.w2c_base.specs.Values.{IsNumber}
pub use Rattle.w2c_base.specs.declared.value.ValType.{ValType}
pub use Rattle.w2c_base.specs.declared.value.Value.{Value}
pub use Rattle.w2c_base.specs.declared.value.Value.TheVariants.{I32, I64}
pub use Rattle.w2c_mangle.specs.Escaping.{escaped}
pub use Rattle.c_meaning.specs.Views.{reply_of}
pub use Rattle.c_meaning.specs.declared.reply.HostReply.{HostReply}
pub use Rattle.crun_lines.specs.HostLines.{reply_text}
pub use Rattle.crun_lines.specs.Views.{texts}
pub use Rattle.crun_lines.specs.Words.{name_text, number_text, or_z, spaced}
pub use Rattle.journal_lines.specs.Lines.{IsBytes, IsGiven, IsLine, IsProper, line_text, result_text, spaced_type, spaced_types, type_text}
pub use Rattle.journal_lines.specs.Words.{SayLine, equals, line_words}
pub use Rattle.journal_lines.specs.declared.line.JournalLine.{JournalLine}
