-- What proofs of this crate cite of std, of the crates below and of specs/, passed on from one place. Declares nothing.
pub use Rattle.std.proofs.Common.{◌≡◌, ℕ, zero, suc, ◌+◌, ◌<◌, ◌≤◌, Bool, true, ◌&&◌, List, [], ◌∷◌, ◌++◌, map, length, get_or, take, drop}
pub use Rattle.std.proofs.Common.{IfSome, IfNone, slice_get, Some, None, codes, decimal, All, Option, option_map, option_copied, sym, refl}
pub use Rattle.std.proofs.Common.{ap, ◌∙◌, subst, inl, inr, append_assoc, arith, length-append, take-append-drop, length-take-le, take_all}
pub use Rattle.std.proofs.Common.{drop-cons, rules}
pub use Rattle.std.proofs.lemmas.Bool.{and_parts, false≢true}
pub use Rattle.std.proofs.lemmas.List.{get_or_default, length-map, map_push, take_more}
pub use Rattle.std.proofs.lemmas.Option.{same_Some}
pub use Rattle.std.proofs.lemmas.Result.{on_ok_weaker}
pub use Rattle.std.specs.List.{list_all, list_any}
pub use Rattle.w2c_base.specs.Values.{IsNumber, is_number, number_of, type_of, types_of}
pub use Rattle.w2c_base.specs.declared.value.Value.{Value}
pub use Rattle.c_tree.specs.Runtime.{same_type, same_types}
pub use Rattle.c_tree.specs.TypesInC.{c_params_of, c_type_of}
pub use Rattle.c_tree.specs.View.{func_type_of, unit_of}
pub use Rattle.c_tree.specs.declared.tree.CType.{CType}
pub use Rattle.c_meaning.specs.Linking.{Program, SymbolCall, first_refusal, fits}
pub use Rattle.c_link.specs.Calls.{signature_of, takes, takes_if_any}
pub use Rattle.c_link.specs.Offers.{c_symbols}
pub use Rattle.crun_words.specs.Arguments.{AreArguments}
pub use Rattle.crun_words.specs.CallLine.{Call, SaysCall}
pub use Rattle.crun_words.specs.CallsFile.{NumberedLine, call_lines_of}
pub use Rattle.crun_words.specs.CommandLine.{RunLine}
pub use Rattle.crun_words.specs.Seen.{seen_call, seen_lines, seen_numbered, seen_run}
pub use Rattle.crun_job.specs.Calls.{AreCalls, IsFirstRefusedLine, IsRefusedLine, Names, NamesFrom, program_of}
pub use Rattle.crun_job.specs.Lines.{CallsLine, Reason, Refused, cause_text, wanted_text}
pub use Rattle.crun_job.specs.Links.{AreLinked, Concerns, IsRefusedUnit, Symbols}
pub use Rattle.crun_job.specs.Refusals.{IsWithin, RefusesText, RefusesTexts, RefusesUnits, refusal_for}
pub use Rattle.crun_job.specs.Seen.{AllFit, call_seen, calls_seen, reason_of}
pub use Rattle.crun_job.specs.Stopping.{StopsTexts, StopsUnit}
pub use Rattle.crun_job.specs.Texts.{AreShort, AreUnitTexts, IsFirstRefusedText, IsRefusedText, IsUnitText, most_unit_bytes}
pub use Rattle.crun_job.specs.declared.calls_file.NamedCall.{NamedCall}
pub use Rattle.crun_job.specs.declared.refusal.UnitsRefusal.{UnitsRefusal}
pub use Rattle.crun_job.specs.declared.stop.Cause.{Cause}
