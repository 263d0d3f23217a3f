use Rattle.c_print.proofs.Common.{◌≡◌, ◌∷◌, drop, Fixed, each, printed_onto}
use Rattle.c_tree.specs.declared.token.Tok.TheVariants as tok
use Rattle.c_print.proofs.pieces.put_more.Given as goal

abbrev pub invariant-loop-piece : goal.invariant-loop-piece
invariant-loop-piece g l =
    printed_onto l.page (each (λ x. Fixed tok.Comma ∷ g.T.Piece.tokens x) (drop l.piece-index l.pieces))
    ≡ printed_onto l.fn.page (each (λ x. Fixed tok.Comma ∷ g.T.Piece.tokens x) l.pieces)
