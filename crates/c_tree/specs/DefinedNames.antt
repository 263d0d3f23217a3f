-- The names in a module's unit of its memory, its table, and the functions and globals that it defines,
-- numbered as in the module, imports first; of what points to those of others; and of the parts of its init function.
use Rattle.std.specs.Prelude.{ℕ, List, ◌++◌, codes, decimal}

abbrev pub memory_name : List ℕ
memory_name = codes "m0"

abbrev pub table_name : List ℕ
table_name = codes "t0"

abbrev pub func_name : ℕ → List ℕ
func_name k = codes "f" ++ decimal k

abbrev pub global_name : ℕ → List ℕ
global_name k = codes "g" ++ decimal k

-- the variable of file scope that points to an imported memory, table or global
abbrev pub pointer_name : List ℕ → List ℕ
pointer_name object = codes "p" ++ object

-- a label of a function
abbrev pub label_name : ℕ → List ℕ
label_name l = codes "L" ++ decimal l

-- a static function that the init function calls
abbrev pub part_name : ℕ → List ℕ
part_name k = codes "init_" ++ decimal k
