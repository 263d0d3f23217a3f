-- What proofs of this crate cite of std, of the crates below and of specs/, passed on from one place. Declares nothing.
pub use Rattle.std.proofs.Common.{◌≡◌, ℕ, ◌-◌, ◌^◌, ◌<◌, ◌≤◌, Bool, true, false, not, ◌&&◌, ◌||◌, List, [], ◌∷◌, ◌++◌, map, length, get_or}
pub use Rattle.std.proofs.Common.{take, drop, IsTrue, ◌==◌, Some, None, Ok, Err, codes, All, Option, Result, option_map, option_and_then}
pub use Rattle.std.proofs.Common.{bytes_eq, sym, refl, ap, ◌∙◌, subst, append_assoc, arith, length-append, take-append-drop, take_all, Bor}
pub use Rattle.std.proofs.Common.{rules, le-leb, leb-true}
pub use Rattle.std.proofs.Math.Seq.{drop-append_seam, get_or-append_seam, take-append_seam}
pub use Rattle.std.proofs.lemmas.List.{append_cancel_left, append_cancel_right}
pub use Rattle.std.proofs.lemmas.List.Elements.{All-from_get_or, All-weaker}
pub use Rattle.std.proofs.lemmas.List.Sums.{AllPass-from_list_all, suffix_len_is}
pub use Rattle.std.proofs.lemmas.Slice.Eq.{bytes_eq-Decides}
pub use Rattle.std.specs.List.{list_all, list_any, suffix_len}
pub use Rattle.w2c_base.proofs.Conjunctions.{both_hold, left_holds, right_holds}
pub use Rattle.w2c_io.specs.Contents.{Name}
pub use Rattle.w2c_files.specs.CFile.{is_c_file}
pub use Rattle.w2c_files.specs.Words.{names_of, texts}
pub use Rattle.w2c_mangle.specs.Escaping.{escaped}
pub use Rattle.program_words.specs.Tests.{is_decimal, is_module_name}
pub use Rattle.wasm2c_words.specs.CommandLine.{line_of, line_of_values}
pub use Rattle.wasm2c_words.specs.Names.{are_distinct, header_name_of, module_name_of}
