use Rattle.c_print.proofs.Common.{◌≡◌, drop, each, printed_onto}
use Rattle.c_print.proofs.pieces.put_each.Given as goal

abbrev pub invariant-loop-piece : goal.invariant-loop-piece
invariant-loop-piece g l =
    printed_onto l.page (each g.T.Piece.tokens (drop l.piece-index l.pieces)) ≡ printed_onto l.fn.page (each g.T.Piece.tokens l.pieces)
