-- What proofs of this crate cite of std, of the crates below and of specs/, passed on from one place. Declares nothing.
pub use Rattle.std.proofs.Common.{◌≡◌, ℕ, suc, ◌+◌, ◌<◌, ◌≤◌, Bool, true, false, not, ◌||◌, ◌⊎◌, List, [], ◌∷◌, ◌++◌, map, length, get_or}
pub use Rattle.std.proofs.Common.{take, drop, is_none, slice_get, Some, None, Ok, Err, Option, option_map, zip, flat_map, option_copied}
pub use Rattle.std.proofs.Common.{bytes_eq, nat_cmp, sym, refl, ap, ◌∙◌, subst, inl, inr, append_assoc, append-nil, add-one, arith}
pub use Rattle.std.proofs.Common.{drop-cons, take-suc, Bor}
pub use Rattle.std.proofs.lemmas.Bool.Decides.{nat_tests}
pub use Rattle.std.proofs.lemmas.Grind.{flat_map-append}
pub use Rattle.std.proofs.lemmas.List.Folds.{flat_map-map, list_any_more}
pub use Rattle.std.specs.Iterator.Adapters.{zip_first, zip_second}
pub use Rattle.std.specs.List.{list_any}
pub use Rattle.std.specs.Slice.Iter.{iter_rest}
pub use Rattle.w2c_base.specs.declared.signature.FuncType.{FuncType}
pub use Rattle.w2c_base.specs.declared.value.ValType.{ValType}
pub use Rattle.wasm_tree.specs.IndexSpaces.{declared_locals, func_space, global_space, memory_space, table_space, type_in}
pub use Rattle.wasm_tree.specs.Instructions.{Code, GlobalGet, I32Const, I64Const, Kind, then_code}
pub use Rattle.wasm_tree.specs.Views.{code_tree, kind_tree}
pub use Rattle.wasm_tree.specs.declared.code.Instr.{Instr}
pub use Rattle.wasm_tree.specs.declared.entries.BodyEntry.{BodyEntry}
pub use Rattle.wasm_tree.specs.declared.tree.Module.{Module}
pub use Rattle.wasm_typing.specs.BodyFault.{FirstBodyFault}
pub use Rattle.wasm_typing.specs.Context.{Context, body_context, context_of}
pub use Rattle.wasm_typing.specs.ModuleFaults.{duplicate_exports, fault_if, is_no_first, is_out, min_above_max, module_faults, neither}
pub use Rattle.wasm_typing.specs.ModuleFaults.{shape_of, too_many_pages, unknown_export, unknown_import_type}
pub use Rattle.wasm_typing.specs.Typing.{BodyHasType}
pub use Rattle.wasm_typing.specs.Verdict.{Accepted, AreTyped, Bodies, FaultOfBody, FaultsOfBodies, Invalid, IsTyped, IsValid, Outcome}
pub use Rattle.wasm_typing.specs.Verdict.{Verdict, bodies_of, first_fault, outcome_of, sooner}
pub use Rattle.wasm_typing.specs.declared.fault.Fault.{Fault}
pub use Rattle.wasm_typing.specs.declared.fault.ValidCause.{ValidCause}
pub use Rattle.wasm_typing.specs.declared.fault.ValidRefusal.{ValidRefusal}
pub use Rattle.body_check.specs.Checker.{Operands, check, refusal}
pub use Rattle.wasm_valid.specs.Entered.{entered, kept}
pub use Rattle.wasm_valid.specs.EnteredBodies.{EntersBodies, EntersBody, body_context_seen}
pub use Rattle.body_check.specs.Seen.{typed_context_seen, AreSpacesOf, type_seen}
pub use Rattle.wasm_valid.specs.Expressions.{element_offset, expression_fault, initial_of, segment_offset}
