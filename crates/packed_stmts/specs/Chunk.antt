-- Chunks: so many statements, one behind the other.
use Rattle.std.specs.Prelude.{ℕ, List, flat_map}
use Rattle.c_tree.specs.Tree as tree
use Rattle.packed_stmts.specs.Packed.{list_code}
use Rattle.packed_stmts.specs.Unpacked.{list_at}
use Rattle.packed_stmts.specs.Statement.{stmt_code, stmt_at}

unfoldable pub chunk_code : List tree.Stmt → List ℕ
chunk_code stmts = list_code stmt_code stmts

-- the statements of a chunk
unfoldable pub stmts_of : List ℕ → List tree.Stmt
stmts_of bytes = (list_at stmt_at bytes).0

-- those of chunks, one behind the other
abbrev pub all_of : List (List ℕ) → List tree.Stmt
all_of chunks = flat_map stmts_of chunks
