use Rattle.c_tree.proofs.Common.{◌≡◌, drop, list_all}
use Rattle.c_tree.proofs.formed.all_formed.Given as goal

abbrev pub invariant-loop-piece : goal.invariant-loop-piece
invariant-loop-piece g l = list_all (g.T.Piece.test l.room) (drop l.piece-index l.pieces) ≡ list_all (g.T.Piece.test l.room) l.pieces
