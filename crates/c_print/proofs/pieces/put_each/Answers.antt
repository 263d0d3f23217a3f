use Rattle.std.proofs.Common.{rules}
use Rattle.c_print.proofs.Onto.{each_more}
use Rattle.c_print.proofs.pieces.put_each.Goals as goal

pub loop-piece-preserved : goal.loop-piece-preserved
loop-piece-preserved g c =
    each_more g.T.Piece.tokens _ _ _ c.args.pieces.now c.loop-piece.piece-index c.piece-item.result c.loop-piece-test.true (search rules)
    (search rules) c.loop-piece.invariant
