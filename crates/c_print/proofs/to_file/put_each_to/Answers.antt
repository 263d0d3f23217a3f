use Rattle.c_print.proofs.Common.{◌++◌, map, sym, subst, IsSome, Fixed, each}
use Rattle.std.proofs.lemmas.Result.{err_from_is_err_and}
use Rattle.c_print.proofs.ToFile.{front_begins, pieces_more, pieces_fail, pieces_end}
use Rattle.c_print.proofs.to_file.put_each_to.Goals as goal

pub loop-piece-init : goal.loop-piece-init
loop-piece-init g c =
    front_begins g.F.Files c.args.files.now c.args.page.now (each (λ x. map Fixed c.args.signs.now ++ g.T.Piece.tokens x) c.args.pieces.now)

pub put_piece_to-requires : goal.put_piece_to-requires
put_piece_to-requires g c = record { current = subst IsSome (sym c.loop-piece.invariant.prints.put.current) c.requires.current }

pub returns-in_err-put_piece_to-clause-part : goal.returns-in_err-put_piece_to-clause-part
returns-in_err-put_piece_to-clause-part g c =
    let p = err_from_is_err_and c.from_residual.result c.from_residual.ensures.1 in
    rw (p.1, p.2) (pieces_fail g.F.Files (λ x. map Fixed c.args.signs.now ++ g.T.Piece.tokens x) c.args.files.now c.loop-piece.files
    c.put_piece_to.new.files c.args.page.now c.loop-piece.page c.args.pieces.now c.loop-piece.piece-index c.piece-item.result
    c.in_err-put_piece_to.field-0.0 c.loop-piece-test.true c.piece-item.is c.loop-piece.invariant c.in_err-put_piece_to.ensures.part)

pub loop-piece-preserved : goal.loop-piece-preserved
loop-piece-preserved g c =
    pieces_more g.F.Files (λ x. map Fixed c.args.signs.now ++ g.T.Piece.tokens x) c.args.files.now c.loop-piece.files
    c.put_piece_to.new.files c.args.page.now c.loop-piece.page c.put_piece_to.new.page c.args.pieces.now c.loop-piece.piece-index
    c.piece-item.result c.loop-piece-test.true c.piece-item.is c.loop-piece.invariant c.in_ok-put_piece_to.ensures.whole

pub returns-clause-whole : goal.returns-clause-whole
returns-clause-whole g c =
    pieces_end g.F.Files (λ x. map Fixed c.args.signs.now ++ g.T.Piece.tokens x) c.args.files.now c.loop-piece.files c.args.page.now
    c.loop-piece.page c.args.pieces.now c.loop-piece.piece-index c.loop-piece-test.false c.loop-piece.invariant
