-- What a translation has made in front of a body's code, and behind it.
use Rattle.std.specs.Prelude.{Option, Some, None, ◌||◌, List, [], ◌∷◌, false}
use Rattle.w2c_base.specs.declared.value.ValType.{ValType}
use Rattle.c_tree.specs.declared.tree.COp.TheVariants as op
use Rattle.body_forms.specs.Branches.{label_if}
use Rattle.body_forms.specs.Frame.{give_back, change_depth, head}
use Rattle.body_emitter.specs.declared.mark.Mark.{Mark}
use Rattle.body_emitter.specs.Marks.{mark}
use Rattle.body_emitter.specs.Made.{Made, block_at, is_named, put, put_each}

-- the result's slot occurs
abbrev pub first_marks : Option ValType → List Mark
first_marks None = []
first_marks (Some t) = mark t 0 []

abbrev pub nothing_made : Made
nothing_made = record { stmts = []; types = []; marks = []; blocks = []; labels = 2; is_dead = false; returns = false; is_indirect = false }

abbrev pub with_exit : Option ValType → Made
with_exit result = record nothing_made { marks = first_marks result; blocks = block_at 1 0 result ∷ [] }

-- in front of the code
abbrev pub begun : Option ValType → Made
begun result = put_each (head result) (with_exit result)

-- behind it, and the function's exit
abbrev pub behind_code : Option ValType → Made → Made
behind_code result m =
    put (give_back result) (put (change_depth op.Sub) (put_each (label_if (is_named m.blocks || m.returns) 1) m))
