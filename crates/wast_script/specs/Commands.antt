-- The commands of a script. Texts are lists of bytes, as UTF-8 spells them.
use Rattle.std.specs.Prelude.{ℕ, List, Option}
use Rattle.w2c_io.specs.Contents.{Name}
use Rattle.w2c_base.specs.declared.value.Value.{Value}
use Rattle.w2c_base.specs.declared.trap.TrapKind.{TrapKind}

-- the file of a module, and the name that the module is given
pub record ModuleFile : Type 0 where
  pub name : List ℕ
  pub filename : Name

-- a call of what a module exports under a name
pub record Call : Type 0 where
  pub module_name : List ℕ
  pub field_name : List ℕ
  pub args : List Value

pub data Command : Type 0 where
  -- the module joins the set
  Module : (file : ModuleFile) → Command
  -- the call is kept for every assertion behind it
  Invoke : (call : Call) → Command
  -- the call ends, with this value or with none
  AssertReturn : (call : Call) → (expected : Option Value) → Command
  -- the call traps for this cause
  AssertTrap : (call : Call) → (cause : TrapKind) → Command
  -- the file is a module that is not valid; the file is no module
  AssertInvalid : (filename : Name) → Command
  AssertMalformed : (filename : Name) → Command
