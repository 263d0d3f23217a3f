-- The variables of a translated function behind its locals: the slots that occurred, and the variable for an element.
use Rattle.std.specs.Prelude.{ℕ, suc, List, [], ◌∷◌, ◌++◌, Bool, if◌then◌else◌}
use Rattle.w2c_base.specs.declared.value.ValType.{ValType}
use Rattle.c_tree.specs.declared.tree.CType.TheVariants as c_type
use Rattle.c_tree.specs.declared.tree.Num.TheVariants.{Plain}
use Rattle.c_tree.specs.Tree as tree
use Rattle.body_forms.specs.Names.{slot, element_name}
use Rattle.body_forms.specs.Variables.{zero_local}
use Rattle.body_emitter.specs.declared.mark.Mark.{Mark}
use Rattle.body_emitter.specs.Marks.{has_mark}

abbrev pub slot_if : Bool → ValType → ℕ → List tree.Local
slot_if marked t height = if marked then zero_local t (slot t height) ∷ [] else []

-- the slots of a type that occurred, from a height on
abbrev pub slots_from : ValType → ℕ → List Mark → List tree.Local
slots_from t height [] = []
slots_from t height (m ∷ marks) = slot_if (has_mark t m) t height ++ slots_from t (suc height) marks

abbrev pub element_if : Bool → List tree.Local
element_if is_indirect = if is_indirect then (c_type.FnPtr, element_name, Plain 0) ∷ [] else []
