-- Which slots have occurred so far: by height, for each type.
use Rattle.std.specs.Prelude.{ℕ, zero, suc, Bool, true, false, List, [], ◌∷◌}
use Rattle.w2c_base.specs.declared.value.ValType.{ValType}
use Rattle.w2c_base.specs.declared.value.ValType.TheVariants.{I32, I64}
use Rattle.body_emitter.specs.declared.mark.Mark.{Mark}

abbrev pub no_mark : Mark
no_mark = record { narrow = false; wide = false }

abbrev pub has_mark : ValType → Mark → Bool
has_mark I32 m = m.narrow
has_mark I64 m = m.wide

abbrev pub with_mark : ValType → Mark → Mark
with_mark I32 m = record { narrow = true; wide = m.wide }
with_mark I64 m = record { narrow = m.narrow; wide = true }

-- with the slot of a type at a height, where no greater height is left out
abbrev pub mark : ValType → ℕ → List Mark → List Mark
mark t height [] = with_mark t no_mark ∷ []
mark t zero (m ∷ marks) = with_mark t m ∷ marks
mark t (suc height) (m ∷ marks) = m ∷ mark t height marks

abbrev pub is_marked : ValType → ℕ → List Mark → Bool
is_marked t height [] = false
is_marked t zero (m ∷ marks) = has_mark t m
is_marked t (suc height) (m ∷ marks) = is_marked t height marks
