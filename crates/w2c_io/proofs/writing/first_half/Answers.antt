use Rattle.std.proofs.Common.{sym, length, drop, ◌/◌, take-append-drop}
use Rattle.w2c_io.proofs.writing.first_half.Goals as goal

pub returns-clause-front : goal.returns-clause-front
returns-clause-front c =
    (drop (length c.args.piece.now / 2) c.args.piece.now, sym (take-append-drop (length c.args.piece.now / 2) c.args.piece.now))
