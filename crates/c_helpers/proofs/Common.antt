-- What proofs of this crate cite of std, of the crates below and of specs/, passed on from one place. Declares nothing.
pub use Rattle.std.proofs.Common.{◌≡◌, ℕ, ◌+◌, ◌*◌, ◌<◌, ◌≤◌, Bool, true, false, not, ◌&&◌, ◌||◌, List, [], ◌∷◌, ◌++◌, map, length, get_or}
pub use Rattle.std.proofs.Common.{drop, ℤ, pos, negsuc, if◌then◌else◌, Some, None, filter, Option, bytes_eq, sym, refl, ap}
pub use Rattle.std.proofs.Common.{◌∙◌, subst, append_assoc, arith, w32, w64, set, replicate, slice_get, inl, inr, rules}
pub use Rattle.std.proofs.Math.Bool.{or-false, or_assoc}
pub use Rattle.std.proofs.lemmas.List.{drop_all, drop_more, get_or-set_other, get_or-set_same}
pub use Rattle.std.specs.List.{list_any}
pub use Rattle.w2c_base.proofs.Grown.{read_again}
pub use Rattle.w2c_base.specs.Values.{pattern_of}
pub use Rattle.wasm_tree.proofs.CodeSizes.{instr_smaller}
pub use Rattle.wasm_tree.specs.Accesses.{load_access, store_access}
pub use Rattle.wasm_tree.specs.Instructions.{Code, Kind, Nop, end_code, then_code}
pub use Rattle.wasm_tree.specs.Size.{code_size, kind_size, otherwise_size}
pub use Rattle.wasm_tree.specs.Views.{code_tree, kind_tree, otherwise_tree}
pub use Rattle.wasm_tree.specs.declared.code.Instr.{Instr}
pub use Rattle.wasm_tree.specs.declared.entries.BodyEntry.{BodyEntry}
pub use Rattle.wasm_tree.specs.declared.operators.LoadOp.{LoadOp}
pub use Rattle.wasm_tree.specs.declared.operators.StoreOp.{StoreOp}
pub use Rattle.wasm_tree.specs.declared.tree.Module.{Module}
pub use Rattle.c_tree.specs.declared.tree.CType.{CType}
pub use Rattle.c_helpers.specs.Called.{HasMore, KnowsCalls, marked}
pub use Rattle.c_helpers.specs.Helpers.{local, param, helper_of}
pub use Rattle.c_helpers.specs.Needed.{calls_helper, helpers_of, named_by}
pub use Rattle.c_helpers.specs.Pieces.{all_placed, staged, made_by}
pub use Rattle.c_helpers.specs.Steps.{element_for, operator_step, step_helper, step_of}
pub use Rattle.c_helpers.specs.Translated.{any_in, any_inside, ends}
pub use Rattle.c_helpers.specs.Ways.{helper_for}
pub use Rattle.c_helpers.specs.declared.operation.Helper.{Helper}
pub use Rattle.c_helpers.specs.declared.operation.TheConstants.{HELPERS}
