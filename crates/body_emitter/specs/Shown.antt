-- The operands' types in memory, seen as a stack.
use Rattle.std.specs.Prelude.{◌≡◌, take, reverse, ℕ, ◌≤◌, ◌+◌, vec_len, List}
use Rattle.w2c_base.specs.declared.value.ValType.{ValType}
use Rattle.body_emitter.specs.declared.stack.Operands.{Operands}

-- the last one is the top
abbrev pub types_of : Operands → List ValType
types_of o = reverse o.types.items

-- what lies below the innermost block's operands is as it was
pub record Keeps (old new : Operands) : Type 0 where
  pub floor : new.floor ≡ old.floor
  pub below : take old.floor new.types.items ≡ take old.floor old.types.items

-- so many operands stand above those of the blocks around
abbrev pub HasOperands : ℕ → Operands → Type 0
HasOperands count o = count + o.floor ≤ vec_len o.types
