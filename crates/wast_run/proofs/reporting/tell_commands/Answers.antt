use Rattle.wast_run.proofs.Common.{◌+◌, ◌≤◌, length, take, drop, sym, ◌∙◌, subst, arith, take_all, length-map, Passes, reason_of}
use Rattle.wast_run.proofs.Common.{seen_command, seen_commands, IsBehindOver, is_ok, HasModuleName, setting_of, IsBehind}
use Rattle.w2c_base.proofs.Places.{mapped_next}
use Rattle.wast_run.proofs.WordLines.{counted_few}
use Rattle.wast_run.proofs.Lists.{all_mapped_at, mapped_front}
use Rattle.wast_run.proofs.PartLaws.{behind_more}
use Rattle.wast_run.proofs.ReportStops.{telling_stops}
use Rattle.program_words.proofs.Loops.{mapped_split}
use Rattle.wast_run.proofs.Passing.{behind_more_over, stops_in}
use Rattle.wast_run.proofs.reporting.tell_commands.Goals as goal

pub tell_command-requires-clause-named : goal.tell_command-requires-clause-named
tell_command-requires-clause-named g c =
    all_mapped_at HasModuleName seen_command c.args.commands.now c.loop-index.index c.index-commands-index.result
    c.loop-index-test.true c.index-commands-index.is c.requires.named

pub returns-in-Err-clause-stop : goal.returns-in-Err-clause-stop
returns-in-Err-clause-stop g c =
    let files = g.F.Files in
    let out = g.O.Sink in
    let commands = c.args.commands.now in
    let seen = seen_commands commands in
    let k = c.loop-index.index in
    let item = c.index-commands-index.result in
    let lt = c.loop-index-test.true in
    telling_stops (files.told c.args.files.now) c.args.steps seen
    (files.read_faults c.args.files.now) (files.read_faults c.loop-index.files) (files.read_faults c.tell_command.new.files)
    (files.fault_name c.tell_command.new.files)
    (out.told c.args.out.now) (out.told c.loop-index.out) (out.told c.tell_command.new.out)
    (out.faults c.args.out.now) (out.faults c.loop-index.out) (out.faults c.tell_command.new.out)
    c.loop-index.ok (setting_of c.loop-index.stage) c.loop-index.invariant.later
    (take k seen) (drop (k + 1) seen) (seen_command item) k (reason_of c.in-Err.stop)
    (mapped_split seen_command commands k item lt c.index-commands-index.is) (mapped_front seen_command commands k lt)
    c.loop-index.invariant.reads c.loop-index.invariant.behind (rw c.loop-index.invariant.told at c.in-Err.ensures.stop)

pub loop-index-preserved : goal.loop-index-preserved
loop-index-preserved g c =
    let files = g.F.Files in
    let out = g.O.Sink in
    let commands = c.args.commands.now in
    let k = c.loop-index.index in
    let item = c.index-commands-index.result in
    let lt = c.loop-index-test.true in
    record {
      told = c.tell_command.ensures.told ∙ c.loop-index.invariant.told;
      current = c.tell_command.ensures.current ∙ c.loop-index.invariant.current;
      reads = omega (arith, c.loop-index.invariant.reads, c.tell_command.ensures.reads);
      later = omega (arith, c.loop-index.invariant.later, c.tell_command.ensures.later);
      reads_kept = c.in-Ok.ensures.reads_kept ∙ c.loop-index.invariant.reads_kept;
      lines_kept = c.in-Ok.ensures.lines_kept ∙ c.loop-index.invariant.lines_kept;
      sound = c.in-Ok.ensures.sound;
      few = counted_few (is_ok c.in-Ok.word) c.loop-index.ok c.counted-ok.result k c.counted-ok.ensures c.loop-index.invariant.few;
      behind = λ m tells.
          subst (λ front. IsBehind m c.args.steps front (setting_of c.tell_command.new.stage) (out.told c.args.out.now)
          (out.told c.tell_command.new.out) c.counted-ok.result)
          (sym (mapped_next seen_command commands k item lt c.index-commands-index.is))
          (behind_more m c.args.steps k (take k (seen_commands commands)) (seen_command item) c.in-Ok.word
          (setting_of c.loop-index.stage) (setting_of c.tell_command.new.stage)
          (out.told c.args.out.now) (out.told c.loop-index.out) (out.told c.tell_command.new.out) c.loop-index.ok c.counted-ok.result
          (mapped_front seen_command commands k lt) c.counted-ok.ensures
          (c.loop-index.invariant.behind m tells) (c.in-Ok.ensures.tells m (c.loop-index.invariant.told ∙ tells)));
      passed =
          subst (λ front. Passes (files.trace c.args.files.now) (files.trace c.tell_command.new.files)
          (IsBehindOver c.args.steps front (setting_of c.tell_command.new.stage) (out.told c.args.out.now)
          (out.told c.tell_command.new.out) c.counted-ok.result))
          (sym (mapped_next seen_command commands k item lt c.index-commands-index.is))
          (behind_more_over _ _ _ c.args.steps k (take k (seen_commands commands)) (seen_command item) c.in-Ok.word
          (setting_of c.loop-index.stage) (setting_of c.tell_command.new.stage)
          (out.told c.args.out.now) (out.told c.loop-index.out) (out.told c.tell_command.new.out) c.loop-index.ok c.counted-ok.result
          (mapped_front seen_command commands k lt) c.counted-ok.ensures c.loop-index.invariant.passed c.in-Ok.ensures.passed);
    }

pub returns-clause-behind : goal.returns-clause-behind
returns-clause-behind g c = λ m tells.
    let commands = c.args.commands.now in
    let k = c.loop-index.index in
    let past : length (seen_commands commands) ≤ k = omega (arith, c.loop-index-test.false, length-map commands seen_command) in
    (setting_of c.loop-index.stage, rw (take_all k (seen_commands commands) past) at (c.loop-index.invariant.behind m tells))

pub returns-in-Err-clause-tried : goal.returns-in-Err-clause-tried
returns-in-Err-clause-tried g c =
    let out = g.O.Sink in
    let commands = c.args.commands.now in
    let seen = seen_commands commands in
    let k = c.loop-index.index in
    let item = c.index-commands-index.result in
    let lt = c.loop-index-test.true in
    stops_in _ _ _ c.args.steps k seen (take k seen) (drop (k + 1) seen) (seen_command item) (setting_of c.loop-index.stage)
    (out.told c.args.out.now) (out.told c.loop-index.out) (out.told c.tell_command.new.out) c.loop-index.ok (reason_of c.in-Err.stop)
    (mapped_split seen_command commands k item lt c.index-commands-index.is) (mapped_front seen_command commands k lt)
    c.loop-index.invariant.passed c.in-Err.ensures.tried

pub returns-clause-passed : goal.returns-clause-passed
returns-clause-passed g c =
    let commands = c.args.commands.now in
    let k = c.loop-index.index in
    let past : length (seen_commands commands) ≤ k = omega (arith, c.loop-index-test.false, length-map commands seen_command) in
    let passed = rw (take_all k (seen_commands commands) past) at c.loop-index.invariant.passed in
    (passed.0, passed.1, (setting_of c.loop-index.stage, passed.2))
