use Rattle.c_print.proofs.Common.{rules, printed_onto}
use Rattle.std.proofs.lemmas.Result.{err_from_is_err_and}
use Rattle.c_print.proofs.ToFile.{fails_here, full_fails, full_prints}
use Rattle.c_print.proofs.pieces.Piece.put_to.Goals as goal

pub returns-in_err-put-clause-part : goal.returns-in_err-put-clause-part
returns-in_err-put-clause-part g c =
    let p = err_from_is_err_and c.from_residual.result c.from_residual.ensures.1 in
    rw (p.1, p.2) (fails_here g.F.Files c.args.files.now (printed_onto c.args.page.now (g.Self.Piece.tokens c.args.self.now)).text)

pub returns-clause-whole : goal.returns-clause-whole
returns-clause-whole g c =
    full_prints g.F.Files c.args.files.now c.put_full.new.files c.args.page.now c.put.new.page c.put_full.new.page
    (g.Self.Piece.tokens c.args.self.now) c.put_full.result (search rules) c.put_full.ensures.whole

pub returns-clause-part : goal.returns-clause-part
returns-clause-part g c =
    full_fails g.F.Files c.args.files.now c.put_full.new.files c.args.page.now c.put.new.page
    (g.Self.Piece.tokens c.args.self.now) c.put_full.result (search rules) c.put_full.ensures.part
