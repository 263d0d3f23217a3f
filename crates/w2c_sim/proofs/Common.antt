-- What proofs of this crate cite of std, of the crates below and of specs/, passed on from one place. Declares nothing.
pub use Rattle.std.proofs.Common.{◌≡◌, ℕ, ◌<◌, ◌≤◌, Bool, true, false, ◌&&◌, ◌≢◌, List, [], ◌∷◌, map, length, is_some, IfOk, IfErr, OnOk}
pub use Rattle.std.proofs.Common.{OnErr, IsSome, IsOk, Some, None, Ok, Err, All, Option, Result, option_map, sym, refl, ap, ◌∙◌, subst, inr}
pub use Rattle.std.proofs.Common.{arith}
pub use Rattle.std.proofs.lemmas.List.Elements.{All-from_recursion}
pub use Rattle.std.proofs.lemmas.Result.{err_from_is_err_and}
pub use Rattle.std.specs.List.{AllByRecursion, list_all, list_any, position_from}
pub use Rattle.w2c_io.proofs.Passed.{memory_wanted, vain_passed, whole_passed}
pub use Rattle.w2c_io.specs.Contents.{AppendsPart, appending}
pub use Rattle.wasm_tree.specs.Bytes.{AreBytes}
pub use Rattle.wasm_tree.specs.Within.{WithinLimits}
pub use Rattle.wasm_tree.specs.declared.tree.Module.{Module}
pub use Rattle.wasm_tree.specs.NamedModule.{NamedModule}
pub use Rattle.wasm_typing.specs.Verdict.{Accepted, IsValid, Verdict, Invalid as is_invalid}
pub use Rattle.wasm_spelling.proofs.Whole.{one_tree}
pub use Rattle.wasm_valid.proofs.Verdicts.{accepted, valid}
pub use Rattle.wasm_valid.specs.FileVerdict.{FileVerdict, IsVerdictOn, Read, Unread}
pub use Rattle.c_tree.specs.Spelled.{CSpells, Formed}
pub use Rattle.c_tree.specs.TypesInC.{c_func_type_of, c_params_of, c_result_of}
pub use Rattle.c_tree.specs.View.{unit_of}
pub use Rattle.c_print.proofs.ItemsWritten.{ArePut, IsWritten, all_written, begun, fails_at_include, fails_between, fails_in, is_contained}
pub use Rattle.c_print.proofs.ItemsWritten.{one_more, put_all, put_include, put_more, stops_at_include, stops_between, stops_in}
pub use Rattle.c_print.specs.Print.{print_item_of, print_of}
pub use Rattle.wasm_meaning.specs.LinkedSet.{IsFunc, LinkedSet, exported, instances}
pub use Rattle.c_meaning.specs.Linking.{Program, called_func, defined_for_all, fits, func_type}
pub use Rattle.unit_definition.specs.Items.{items}
pub use Rattle.unit_definition.specs.Accepted.{IsAccepted}
pub use Rattle.unit_meaning.specs.Sets.{IsAcceptedSet, UnitsDoTheSame, program_of, symbol_call}
pub use Rattle.c_unit.specs.Left.{Given, left_of}
pub use Rattle.w2c_sim.specs.Translation.{AreTextsOf, IsModuleOf, SpellsUnit, header_text_of, text_of}
