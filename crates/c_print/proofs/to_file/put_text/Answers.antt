use Rattle.c_print.proofs.ToFile.{piece_put, piece_failed}
use Rattle.c_print.proofs.to_file.put_text.Goals as goal

pub returns-clause-whole : goal.returns-clause-whole
returns-clause-whole g c =
    let put = c.put.ensures in
    piece_put g.F.Files c.args.files.now c.put.new.self c.args.text.now c.put.result put.written put.current put.cause put.named put.reads
    put.traced

pub returns-clause-part : goal.returns-clause-part
returns-clause-part g c =
    let put = c.put.ensures in
    piece_failed g.F.Files c.args.files.now c.put.new.self c.args.text.now c.put.result put.part put.current put.cause put.named put.reads
    put.traced
