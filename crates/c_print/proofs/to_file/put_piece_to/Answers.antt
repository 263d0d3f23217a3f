use Rattle.c_print.proofs.Common.{◌++◌, map, rules, Fixed, printed_onto}
use Rattle.std.proofs.lemmas.Result.{err_from_is_err_and}
use Rattle.c_print.proofs.ToFile.{prints_here, fails_here, last_prints, last_fails}
use Rattle.c_print.proofs.to_file.put_piece_to.Goals as goal

pub returns-in_err-all_fixed-clause-part : goal.returns-in_err-all_fixed-clause-part
returns-in_err-all_fixed-clause-part g c =
    let p = err_from_is_err_and c.from_residual.result c.from_residual.ensures.1 in
    rw (p.1, p.2) (fails_here g.F.Files c.args.files.now
    (printed_onto c.args.page.now (map Fixed c.args.signs.now ++ g.T.Piece.tokens c.args.piece.now)).text)

pub returns-clause-whole : goal.returns-clause-whole
returns-clause-whole g c =
    let files = c.args.files.now in
    let signs = map Fixed c.args.signs.now in
    last_prints g.F.Files files files c.put_to.new.files c.args.page.now c.all_fixed.new.self c.put_to.new.page signs
    (g.T.Piece.tokens c.args.piece.now) c.put_to.result
    (prints_here g.F.Files files c.args.page.now c.all_fixed.new.self signs (search rules)) c.put_to.ensures.whole

pub returns-clause-part : goal.returns-clause-part
returns-clause-part g c =
    let files = c.args.files.now in
    let signs = map Fixed c.args.signs.now in
    last_fails g.F.Files files files c.put_to.new.files c.args.page.now c.all_fixed.new.self signs
    (g.T.Piece.tokens c.args.piece.now) c.put_to.result
    (prints_here g.F.Files files c.args.page.now c.all_fixed.new.self signs (search rules)) c.put_to.ensures.part
