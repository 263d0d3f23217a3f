use Rattle.w2c_io.proofs.Common.{◌≡◌, ℕ, List, ◌++◌, length, Appends}
use Rattle.w2c_io.proofs.writing.write_piece.Given as goal

-- a part of the piece is written
abbrev pub invariant-loop-rest : goal.invariant-loop-rest
invariant-loop-rest g l =
    (part : List ℕ) × (l.piece ≡ part ++ l.rest) × Appends (g.W.Write.contents l.fn.out) (g.W.Write.contents l.out) part

abbrev pub decreases-loop-rest : goal.decreases-loop-rest
decreases-loop-rest g l = length l.rest
