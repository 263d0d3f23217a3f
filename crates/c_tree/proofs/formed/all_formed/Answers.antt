use Rattle.std.proofs.Common.{rules}
use Rattle.c_tree.proofs.Tested.{all_more}
use Rattle.c_tree.proofs.formed.all_formed.Goals as goal

pub loop-piece-preserved : goal.loop-piece-preserved
loop-piece-preserved g c =
    all_more (g.T.Piece.test c.args.room) c.args.pieces.now c.loop-piece.piece-index
    c.piece-item.result _ c.loop-piece-test.true (search rules) (search rules) c.loop-piece.invariant
