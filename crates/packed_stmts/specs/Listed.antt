-- The list of statements that a value of the program holds: its chunks and those at hand, with gaps by their flags.
use Rattle.std.specs.Prelude.{◌≡◌, ℕ, ◌+◌, Bool, if◌then◌else◌, List, [], ◌∷◌, ◌++◌, map, drop, length, Option, Some, None}
use Rattle.std.specs.Global.{Vec}
use Rattle.c_tree.specs.declared.tree.Stmt.{Stmt}
use Rattle.c_tree.specs.Tree as tree
use Rattle.c_tree.specs.View.{stmt_of}
use Rattle.packed_stmts.specs.declared.stmts.Statements.{Statements}
use Rattle.packed_stmts.specs.declared.stmts.Parts.{Parts}
use Rattle.packed_stmts.specs.Gaps.{gap, written}
use Rattle.packed_stmts.specs.Chunk.{all_of}

-- a flag for each statement: a label that was left out again
abbrev pub with_gaps : List Bool → List tree.Stmt → List tree.Stmt
with_gaps [] stmts = stmts
with_gaps (is_gap ∷ flags) [] = []
with_gaps (is_gap ∷ flags) (s ∷ stmts) = (if is_gap then gap else s) ∷ with_gaps flags stmts

unfoldable pub listed : Statements → List tree.Stmt
listed s = with_gaps s.gaps.items (all_of s.packed.items ++ map stmt_of s.recent.items)

-- what is left of a list that is given in parts
unfoldable pub left : Parts → List tree.Stmt
left p = written (with_gaps (drop p.place p.gaps.items) (all_of (drop p.taken p.packed.items) ++ map stmt_of p.recent.items))

-- in no more parts than this
unfoldable pub parts_left : Parts → ℕ
parts_left p = length (drop p.taken p.packed.items) + length p.recent.items

-- the next part of a list, and what is left behind it; there is none at its end
abbrev pub IsNext : List tree.Stmt → Option (Vec Stmt) → List tree.Stmt → Type 0
IsNext old None new = old ≡ []
IsNext old (Some part) new = old ≡ map stmt_of part.items ++ new
