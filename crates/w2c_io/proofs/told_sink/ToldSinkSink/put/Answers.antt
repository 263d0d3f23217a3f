use Rattle.w2c_io.proofs.SaidMore.{put_whole, put_part}
use Rattle.w2c_io.proofs.told_sink.ToldSinkSink.put.Goals as goal

pub returns-clause-written : goal.returns-clause-written
returns-clause-written g c =
    put_whole c.args.self.now.calls.events c.then-self.result.events c.args.piece.now c.put-result.result c.then-self.ensures

pub returns-clause-part : goal.returns-clause-part
returns-clause-part g c =
    put_part c.args.self.now.calls.events c.then-self.result.events c.args.piece.now c.put-result.result c.then-self.ensures
