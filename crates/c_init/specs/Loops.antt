-- The loop that writes the bytes of a segment, by its parts.
use Rattle.std.specs.Prelude.{ℕ, ◌+◌, ◌++◌, List, [], ◌∷◌, codes, None}
use Rattle.wasm_tree.specs.Instructions.{Code}
use Rattle.wasm_tree.specs.declared.tree.Module.{Module}
use Rattle.c_tree.specs.declared.tree.COp.TheVariants as op
use Rattle.c_tree.specs.Tree as tree
use Rattle.c_tree.specs.DefinedNames.{label_name}
use Rattle.c_symbols.specs.Objects.{memory_arg}
use Rattle.c_init.specs.Init.{primitive, set, byte_name, data_name, loop_label, place_expr, n64}

abbrev pub byte_put : Module → ℕ → Code → tree.Stmt
byte_put m number offset =
    primitive None (codes "w2c_put1")
    (memory_arg m ∷ tree.Value (place_expr m offset (tree.Name byte_name))
    ∷ tree.Value (tree.To32 (tree.At (data_name number) (tree.Name byte_name))) ∷ [])

abbrev pub byte_next : tree.Stmt
byte_next = set byte_name (tree.Op op.Add (tree.Name byte_name) (n64 1))

abbrev pub byte_test : ℕ → ℕ → tree.Stmt
byte_test count mark = tree.If op.Lt (tree.Name byte_name) (n64 count) (label_name mark)

-- of the segment with this number, so many bytes
abbrev pub byte_loop : Module → ℕ → Code → ℕ → List tree.Stmt
byte_loop m number offset count =
    set byte_name (n64 0)
    ∷ tree.Label (label_name (loop_label number))
    ∷ byte_put m number offset
    ∷ byte_next
    ∷ byte_test count (loop_label number)
    ∷ []

-- the same behind other statements, by its parts
abbrev pub byte_parts : Module → ℕ → Code → ℕ → List tree.Stmt → List tree.Stmt
byte_parts m number offset count before =
    ((before ++ (set byte_name (n64 0) ∷ tree.Label (label_name (number + 2)) ∷ []))
    ++ (byte_put m number offset ∷ byte_next ∷ []))
    ++ (byte_test count (number + 2) ∷ [])
