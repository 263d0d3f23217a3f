use Rattle.wast_run.proofs.Common.{Ok, Err, Says, texts, Reason, error_line, reason_of}
use Rattle.wast_run.proofs.TopLaws.{gained_before, no_report, none_reported, not_reported, nothing_gained, report_complete, status_small}
use Rattle.wast_run.proofs.TopLaws.{stop_always, stop_complete, stop_part, stop_refused, stop_silent, stop_unread, stop_unwritten}
use Rattle.wast_run.proofs.TopLaws.{missing_always, part_gains, report_gains, reported_always, stop_usage}
use Rattle.wast_run.proofs.OnlyReads.{ends_with_reads}
use Rattle.wast_run.proofs.Passing.{status_passes, stop_passes}
use Rattle.wast_run.proofs.top.wast_run_top.Goals as goal

-- ---- a report

pub returns-in-Ok-clause-complete : goal.returns-in-Ok-clause-complete
returns-in-Ok-clause-complete g c = λ m tells read write.
    report_complete (texts c.args.words.now) m (g.O.Sink.told c.args.out.now) (g.O.Sink.told c.work.new.out) c.in-Ok.status
    (c.in-Ok.ensures.reported m tells)

pub returns-in-Ok-clause-refused_always : goal.returns-in-Ok-clause-refused_always
returns-in-Ok-clause-refused_always g c = λ m tells read why job.
    absurd (none_reported (texts c.args.words.now) m (g.O.Sink.told c.args.out.now) (g.O.Sink.told c.work.new.out)
    c.one_reading.ensures.apart c.in-Ok.status why job (c.in-Ok.ensures.reported m tells))

pub returns-in-Ok-clause-nothing_without_script : goal.returns-in-Ok-clause-nothing_without_script
returns-in-Ok-clause-nothing_without_script g c = λ m tells why job.
    absurd (none_reported (texts c.args.words.now) m (g.O.Sink.told c.args.out.now) (g.O.Sink.told c.work.new.out)
    c.one_reading.ensures.apart c.in-Ok.status why job (c.in-Ok.ensures.reported m tells))

pub returns-in-Ok-clause-part_before : goal.returns-in-Ok-clause-part_before
returns-in-Ok-clause-part_before g c = λ m tells steps before behind command file job names missing.
    absurd (not_reported (texts c.args.words.now) m (g.O.Sink.told c.args.out.now) (g.O.Sink.told c.work.new.out)
    c.one_reading.ensures.script steps before behind command file job names missing c.in-Ok.status (c.in-Ok.ensures.reported m tells))

pub returns-in-Ok-clause-reported_always : goal.returns-in-Ok-clause-reported_always
returns-in-Ok-clause-reported_always g c = λ m tells read write steps commands job there.
    reported_always c.one_reading.ensures.apart c.one_reading.ensures.script (texts c.args.words.now) m steps commands job
    c.in-Ok.status there
    (report_complete (texts c.args.words.now) m (g.O.Sink.told c.args.out.now) (g.O.Sink.told c.work.new.out) c.in-Ok.status
    (c.in-Ok.ensures.reported m tells))

pub returns-in-Ok-clause-missing_always : goal.returns-in-Ok-clause-missing_always
returns-in-Ok-clause-missing_always g c = λ m tells read write steps commands job file named missing.
    missing_always c.one_reading.ensures.apart c.one_reading.ensures.script (texts c.args.words.now) m steps commands job
    c.in-Ok.status file named missing
    (report_complete (texts c.args.words.now) m (g.O.Sink.told c.args.out.now) (g.O.Sink.told c.work.new.out) c.in-Ok.status
    (c.in-Ok.ensures.reported m tells))

pub returns-in-Ok-clause-prefix : goal.returns-in-Ok-clause-prefix
returns-in-Ok-clause-prefix g c = λ m tells.
    report_gains c.one_reading.ensures.script (texts c.args.words.now) m (g.O.Sink.told c.args.out.now) (g.O.Sink.told c.work.new.out)
    c.in-Ok.status (c.in-Ok.ensures.reported m tells)

pub returns-in-Ok-clause-passed : goal.returns-in-Ok-clause-passed
returns-in-Ok-clause-passed g c =
    let err = g.E.Sink in
    status_passes _ _ (texts c.args.words.now) (g.O.Sink.told c.args.out.now) (g.O.Sink.told c.work.new.out) c.in-Ok.status
    (Says (err.told c.args.err.now) (err.told c.args.err.now) (err.faults c.args.err.now) (err.faults c.args.err.now))
    c.in-Ok.ensures.passed

pub returns-in-Ok-clause-reads_only : goal.returns-in-Ok-clause-reads_only
returns-in-Ok-clause-reads_only g c =
    ends_with_reads _ _ (texts c.args.words.now) (g.O.Sink.told c.args.out.now) (g.O.Sink.told c.work.new.out) (Ok c.in-Ok.status)
    c.in-Ok.ensures.passed

-- ---- work that stopped

pub returns-in-Err : goal.returns-in-Err
returns-in-Err g c =
    let words = texts c.args.words.now in
    let files = g.F.Files in
    let sink = g.O.Sink in
    let x = c.args.files.now in
    let y = c.work.new.files in
    let u = c.args.out.now in
    let v = c.work.new.out in
    let err = g.E.Sink in
    let Said = Says (err.told c.args.err.now) (err.told c.report.new.err) (err.faults c.args.err.now) (err.faults c.report.new.err) in
    let SaidLine = λ (why : Reason). Said (error_line why) in
    let why = reason_of c.in-Err.stop in
    let stop = c.in-Err.ensures.stop in
    let status = c.report.result in
    let is = c.report.ensures.status in
    let says = c.report.ensures.says in
    let laws = c.one_reading.ensures in
    let complete = stop_complete words files sink x y u v why status stop is in
    let part = stop_part words files sink x y u v why stop in
    record {
      complete = complete;
      refused_always = stop_always words files sink x y u v why status stop is laws.apart;
      reported_always = λ m tells read write steps commands job there.
          reported_always laws.apart laws.script words m steps commands job status there (complete m tells read write);
      missing_always = λ m tells read write steps commands job file named missing.
          missing_always laws.apart laws.script words m steps commands job status file named missing (complete m tells read write);
      usage_always = stop_usage words files sink x y u v why status stop is;
      reported = λ came. absurd (no_report why status is came);
      silent = λ came. absurd (no_report why status is came);
      unfailed = λ came. absurd (no_report why status is came);
      refused = stop_refused words files sink x y u v why status stop is SaidLine says;
      read_fault = stop_unread words files sink x y u v why status stop is SaidLine says;
      write_fault = stop_unwritten words files sink x y u v why status stop is SaidLine says;
      files = c.in-Err.ensures.told;
      current = c.in-Err.ensures.current;
      nothing_written = stop_silent words files sink x y u v why status stop is;
      nothing_without_words = c.in-Err.ensures.quiet;
      nothing_without_script = λ m tells why job. nothing_gained words m (sink.told u) (sink.told v) laws.apart why job (part m tells);
      part = λ came. part;
      prefix = λ m tells. part_gains laws.script words m (sink.told u) (sink.told v) (part m tells);
      part_before = λ m tells steps before behind command file job names missing.
          gained_before words m (sink.told u) (sink.told v) laws.script steps before behind command file job names missing (part m tells);
      part_of_a_line = λ five. (why, c.report.ensures.part);
      status = status_small why status is;
      passed =
          stop_passes (files.trace x) (files.trace y) words (sink.told u) (sink.told v) status Said why is says c.in-Err.ensures.tried;
      reads_only = ends_with_reads (files.trace x) (files.trace y) words (sink.told u) (sink.told v) (Err why) c.in-Err.ensures.tried;
    }
