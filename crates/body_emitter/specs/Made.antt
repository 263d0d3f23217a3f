-- What the translation of a body has made at some place of the code, and the changes that instructions make of it.
use Rattle.std.specs.Prelude.{ℕ, zero, suc, ◌+◌, ◌||◌, not, Bool, true, false, List, [], ◌∷◌, ◌++◌, map, drop, length, slice_get}
use Rattle.std.specs.Prelude.{slice_set, Option, Some, None}
use Rattle.w2c_base.specs.declared.value.ValType.{ValType}
use Rattle.w2c_base.specs.declared.value.ValType.TheVariants as type
use Rattle.wasm_tree.specs.Instructions.{Otherwise, no_else, else_code}
use Rattle.c_tree.specs.declared.tree.COp.TheVariants as op
use Rattle.c_tree.specs.Tree as tree
use Rattle.c_tree.specs.DefinedNames.{label_name}
use Rattle.body_emitter.specs.declared.mark.Mark.{Mark}
use Rattle.body_emitter.specs.declared.target.Target.{Target}
use Rattle.body_emitter.specs.declared.target.OpenBlock.{OpenBlock}
use Rattle.body_forms.specs.Slots.{operand, jump_if}
use Rattle.body_forms.specs.Branches.{Aim, label_if, if_aim, cases_from, case_label, moving_case, jump_over}
use Rattle.packed_stmts.specs.Gaps.{gap}
use Rattle.body_emitter.specs.Marks.{mark}

-- the statements so far, with gaps where a label was left out again; the types on the stack, the top first; the slots
-- that occurred; the open blocks, the innermost first; the next label; and whether this place is never reached, some
-- branch goes back to the caller, and some call is indirect
pub record Made : Type 0 where
  pub stmts : List tree.Stmt
  pub types : List ValType
  pub marks : List Mark
  pub blocks : List OpenBlock
  pub labels : ℕ
  pub is_dead : Bool
  pub returns : Bool
  pub is_indirect : Bool

abbrev pub aim_of : Target → Aim
aim_of t = record { label = t.label; height = t.height; value = t.value }

abbrev pub aims_of : Made → List Aim
aims_of m = map (λ (b : OpenBlock). aim_of b.target) m.blocks

-- ---- single changes

abbrev pub put : tree.Stmt → Made → Made
put s m = record m { stmts = m.stmts ++ s ∷ [] }

abbrev pub put_each : List tree.Stmt → Made → Made
put_each [] m = m
put_each (s ∷ stmts) m = put_each stmts (put s m)

abbrev pub popped : ℕ → Made → Made
popped k m = record m { types = drop k m.types }

abbrev pub pushed : ValType → Made → Made
pushed t m = record m { types = t ∷ m.types; marks = mark t (length m.types) m.marks }

abbrev pub give : Option ValType → Made → Made
give None m = m
give (Some t) m = pushed t m

abbrev pub with_labels : ℕ → Made → Made
with_labels n m = record m { labels = n + m.labels }

abbrev pub ended : Made → Made
ended m = record m { is_dead = true }

abbrev pub returned : Made → Made
returned m = record m { returns = true }

abbrev pub indirect : Made → Made
indirect m = record m { is_indirect = true }

abbrev pub named_at : ℕ → List OpenBlock → List OpenBlock
named_at k [] = []
named_at zero (b ∷ blocks) = record { target = b.target; named = true } ∷ blocks
named_at (suc k) (b ∷ blocks) = b ∷ named_at k blocks

abbrev pub name_block : ℕ → Made → Made
name_block k m = record m { blocks = named_at k m.blocks }

abbrev pub name_blocks : List ℕ → Made → Made
name_blocks [] m = m
name_blocks (k ∷ ks) m = name_blocks ks (name_block k m)

-- ---- blocks

abbrev pub block_at : ℕ → ℕ → Option ValType → OpenBlock
block_at label height value = record { target = record { label = label; height = height; value = value }; named = false }

abbrev pub opened : OpenBlock → Made → Made
opened b m = record m { blocks = b ∷ m.blocks }

abbrev pub below : List OpenBlock → List OpenBlock
below [] = []
below (b ∷ blocks) = blocks

abbrev pub is_named : List OpenBlock → Bool
is_named [] = false
is_named (b ∷ blocks) = b.named

-- the operands as they were around the block, and a place that is reached
abbrev pub restored : Made → Made → Made
restored outer m = record m { types = outer.types; is_dead = false }

abbrev pub closed : Made → Made → Made
closed outer m = record m { types = outer.types; blocks = below m.blocks; is_dead = false }

-- without the statement at a place, unless it is named
abbrev pub left_out : Bool → ℕ → Made → Made
left_out true place m = m
left_out false place m = record m { stmts = slice_set m.stmts place gap }

-- ---- instructions

abbrev pub switch_on : List Aim → List ValType → ℕ → List ℕ → ℕ → tree.Stmt
switch_on aims types l ks default =
    tree.Switch (operand type.I32 (length types)) (cases_from aims types 0 l ks) (case_label types (length ks + l) (slice_get aims default))

-- a case of a table that moves its value, with the label l
abbrev pub move_case : ℕ → ℕ → Made → Made
move_case l k m = put_each (if_aim (slice_get (aims_of m) k) (moving_case m.types l)) m

abbrev pub moved_cases : ℕ → List ℕ → Made → Made
moved_cases l [] m = m
moved_cases l (k ∷ ks) m = moved_cases (suc l) ks (move_case l k m)

-- the label behind the first branch of an `if`
abbrev pub else_label : ℕ → Otherwise → ℕ
else_label l no_else = suc l
else_label l (else_code place code) = l

abbrev pub in_block : Option ValType → Made → Made
in_block value m = opened (block_at m.labels (length m.types) value) (with_labels 1 m)

abbrev pub in_loop : Made → Made
in_loop m = opened (block_at m.labels (length m.types) None) (put (tree.Label (label_name m.labels)) (with_labels 1 m))

-- behind the operand of an `if`
abbrev pub in_first : Option ValType → Otherwise → Made → Made
in_first value otherwise m =
    opened (block_at (suc m.labels) (length m.types) value)
    (put (jump_if op.Eq (length m.types) (else_label m.labels otherwise)) (with_labels 2 m))

abbrev pub in_second : Made → Made → Made
in_second outer first =
    put (tree.Label (label_name outer.labels)) (put_each (jump_over (not first.is_dead) (suc outer.labels)) (restored outer first))

abbrev pub behind_block : Option ValType → Made → Made → Made
behind_block value outer inner = give value (put_each (label_if (is_named inner.blocks) outer.labels) (closed outer inner))

abbrev pub behind_loop : Option ValType → Made → Made → Made
behind_loop value outer inner = give value (left_out (is_named inner.blocks) (length outer.stmts) (closed outer inner))

abbrev pub behind_first : Made → Made → Made
behind_first outer first = put (tree.Label (label_name (suc outer.labels))) (closed outer first)

-- where the first branch comes to its end, or does not
abbrev pub behind_falling : Made → Bool → Made → Made
behind_falling outer falls second = put_each (label_if (falls || is_named second.blocks) (suc outer.labels)) (closed outer second)

abbrev pub behind_second : Made → Made → Made → Made
behind_second outer first second = behind_falling outer (not first.is_dead) second
