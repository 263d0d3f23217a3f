use Rattle.host_replay.proofs.Replays.{again, reply_again}
use Rattle.host_replay.proofs.replay.ReplayHostHostModule.call.Goals as goal

pub returns-clause-answers : goal.returns-clause-answers
returns-clause-answers c =
    again c.args.self.now.entries.items c.as_slice.result.now c.args.self.now.used c.args.i c.args.args.now c.in-Some.reply
    c.as_slice.ensures.value
    c.in-Some.ensures.some

pub returns-clause-value : goal.returns-clause-value
returns-clause-value c =
    reply_again c.args.self.now.functions.items c.args.self.now.entries.items c.as_slice.result.now c.args.self.now.used
    c.args.i c.args.args.now _
    c.as_slice.ensures.value c.args.self.now.fitting c.in-Some.ensures.some
