use Rattle.c_print.proofs.Common.{◌++◌, map, drop, Fixed, each}
use Rattle.c_print.proofs.ToFile.{PrintsFront}
use Rattle.c_print.proofs.to_file.put_each_to.Given as goal

-- the pieces from this one on are left
abbrev pub invariant-loop-piece : goal.invariant-loop-piece
invariant-loop-piece g l =
    PrintsFront g.F.Files l.fn.files l.files l.fn.page l.page (each (λ x. map Fixed l.signs ++ g.T.Piece.tokens x) l.pieces)
    (each (λ x. map Fixed l.signs ++ g.T.Piece.tokens x) (drop l.piece-index l.pieces))
