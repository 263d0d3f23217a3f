-- Operands inside a block that was opened over others.
use Rattle.std.specs.Prelude.{◌≡◌, take, length, vec_len}
use Rattle.body_emitter.specs.declared.stack.Operands.{Operands}
use Rattle.body_emitter.specs.declared.target.Opening.{Opening}
use Rattle.body_emitter.specs.declared.emitter.Emitter.{Emitter}
use Rattle.packed_stmts.specs.Listed.{listed}

-- they stand on the others, which are whole
pub record Inside (outer now : Operands) : Type 0 where
  pub floor : now.floor ≡ vec_len outer.types
  pub below : take now.floor now.types.items ≡ outer.types.items

-- what is kept of the place before a block
pub record IsOpening (at : Opening) (outer : Emitter) : Type 0 where
  pub label : at.label ≡ outer.labels
  pub floor : at.floor ≡ outer.operands.floor
  pub place : at.place ≡ length (listed outer.stmts)
