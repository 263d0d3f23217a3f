-- What proofs of this crate cite of std, of the crates below and of specs/, passed on from one place. Declares nothing.
pub use Rattle.std.proofs.Common.{◌≡◌, ℕ, zero, suc, ◌+◌, ◌-◌, ◌<◌, ◌≤◌, true, false, List, [], ◌∷◌, ◌++◌, map, reverse, length}
pub use Rattle.std.proofs.Common.{get_or, take, drop, set, slice_get, Some, None, Option, option_map, sym, refl, ap, ◌∙◌, subst}
pub use Rattle.std.proofs.Common.{arith, length-drop, take-append-drop}
pub use Rattle.std.proofs.Math.Seq.{drop-append_seam}
pub use Rattle.std.proofs.lemmas.List.{get_or-reverse, length-map, length-reverse, reverse-append, take-append-le}
pub use Rattle.std.proofs.lemmas.Option.{slice_get-get_or, slice_get-map, slice_get_past}
pub use Rattle.w2c_base.specs.declared.value.ValType.{ValType}
pub use Rattle.c_tree.specs.DefinedNames.{label_name}
pub use Rattle.c_tree.specs.declared.tree.Stmt.{Stmt}
pub use Rattle.body_forms.specs.Branches.{Aim, branch_if, case_label, cases_from, if_aim, is_straight, jump}
pub use Rattle.body_emitter.specs.Inside.{Inside}
pub use Rattle.body_emitter.specs.Made.{Made, aim_of, is_named, moved_cases, name_blocks, named_at, put, put_each}
pub use Rattle.body_emitter.specs.MadeBy.{made_by}
pub use Rattle.body_emitter.specs.Marks.{mark, no_mark, with_mark}
pub use Rattle.body_emitter.specs.Shown.{Keeps}
pub use Rattle.body_forms.specs.Slots.{jump_if}
pub use Rattle.body_emitter.specs.SlotVariables.{slots_from}
pub use Rattle.body_emitter.specs.declared.mark.Mark.{Mark}
pub use Rattle.body_emitter.specs.declared.stack.Operands.{Operands}
pub use Rattle.body_emitter.specs.declared.target.OpenBlock.{OpenBlock}
