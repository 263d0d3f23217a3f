use Rattle.c_print.proofs.Common.{◌∷◌, rules, Fixed}
use Rattle.c_tree.specs.declared.token.Tok.TheVariants as tok
use Rattle.c_print.proofs.Onto.{each_more}
use Rattle.c_print.proofs.pieces.put_more.Goals as goal

pub loop-piece-preserved : goal.loop-piece-preserved
loop-piece-preserved g c =
    each_more (λ x. Fixed tok.Comma ∷ g.T.Piece.tokens x) _ _ _ c.args.pieces.now c.loop-piece.piece-index c.piece-item.result
    c.loop-piece-test.true (search rules) (search rules) c.loop-piece.invariant
