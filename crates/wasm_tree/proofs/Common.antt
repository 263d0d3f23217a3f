-- What proofs of this crate cite of std, of the crates below and of specs/, passed on from one place. Declares nothing.
pub use Rattle.std.proofs.Common.{◌≡◌, ℕ, zero, suc, ◌+◌, ◌-◌, ◌^◌, ◌<◌, ◌≤◌, min, Bool, true, false, cond, ◌&&◌, eqb, List, []}
pub use Rattle.std.proofs.Common.{◌∷◌, ◌++◌, map, length, get_or, drop, IfNone, IfSome, nat_lt, slice_get, Some, None, filter}
pub use Rattle.std.proofs.Common.{Option, option_map, flat_map, sym, refl, ap, ◌∙◌, subst, inl, inr, arith, rules}
pub use Rattle.std.proofs.Common.{eqb-true}
pub use Rattle.std.proofs.lemmas.Bool.Decides.{nat_tests}
pub use Rattle.std.proofs.lemmas.Option.{slice_get-map, slice_get_past, slice_get_read}
pub use Rattle.wasm_tree.specs.Appended.{code_length, instr_at, ◌+>◌}
pub use Rattle.wasm_tree.specs.IndexSpaces.{at_defined, func_of_import, func_space, global_of_import, global_space, imported_funcs}
pub use Rattle.wasm_tree.specs.IndexSpaces.{imported_globals, is_func_import, is_global_import, is_memory_import, is_table_import}
pub use Rattle.wasm_tree.specs.IndexSpaces.{memory_of_import, table_of_import}
pub use Rattle.wasm_tree.specs.Instructions.{Binary, Block, Compare, Eqz, Extend, If, Kind, Load, Loop, Store, Unary, then_code}
pub use Rattle.wasm_tree.specs.Parts.{HasOp, op_opcode}
pub use Rattle.wasm_tree.specs.Views.{code_tree, instr_tree, kind_tree}
pub use Rattle.wasm_tree.specs.declared.entries.Import.{Import}
pub use Rattle.wasm_tree.specs.declared.entries.ImportKind.{ImportKind}
pub use Rattle.wasm_tree.specs.declared.entries.ImportKind.TheVariants.{Func as ImportFunc}
