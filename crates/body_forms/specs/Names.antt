-- The names of a translated function: its operands and locals, and the variable for an element. Those of its labels, of
-- functions, globals, the memory, the table, and of pointers to what other units define stand in c_tree.
use Rattle.std.specs.Prelude.{ℕ, List, ◌++◌, codes, decimal}
use Rattle.w2c_base.specs.declared.value.ValType.{ValType}
use Rattle.w2c_base.specs.declared.value.ValType.TheVariants.{I32, I64}

-- the variable of the operand at a height, by its type
abbrev pub slot : ValType → ℕ → List ℕ
slot I32 height = codes "i" ++ decimal height
slot I64 height = codes "j" ++ decimal height

abbrev pub local_name : ℕ → List ℕ
local_name k = codes "l" ++ decimal k

-- the variable for an element of a table that is about to be called
abbrev pub element_name : List ℕ
element_name = codes "e"
