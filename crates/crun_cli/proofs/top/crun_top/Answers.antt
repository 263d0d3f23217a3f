use Rattle.crun_cli.proofs.Common.{◌≡◌, ℕ, List, Ok, Err, refl, inl, inr, passed_so, Says, texts, error_line, reason_of, Reason, stopped_by}
use Rattle.crun_cli.proofs.Common.{outside, PassesWords, StopsFor, ended_by}
use Rattle.crun_cli.proofs.Passing.{stopped_for, words_so}
use Rattle.crun_cli.proofs.TopLaws.{done_again, done_apart, done_complete, no_early_stop, no_fault, no_refusal, read_fault, refused_line}
use Rattle.crun_cli.proofs.TopLaws.{run_bound, stop_always, stop_apart, stop_bound, stop_complete, stop_part, stop_untouched, stop_usage}
use Rattle.crun_cli.proofs.TopLaws.{write_fault}
use Rattle.crun_cli.proofs.top.crun_top.Goals as goal

pub work-requires : goal.work-requires
work-requires g c = record { offered = c.requires.offered }

pub returns-in-Ok : goal.returns-in-Ok
returns-in-Ok g c =
    let hosts = c.args.hosts.items in
    let words = texts c.args.words.now in
    let old = outside g.F.Files g.O.Sink c.args.files.now c.args.out.now in
    let new = outside g.F.Files g.O.Sink c.work.new.files c.work.new.out in
    let done = c.in-Ok.ensures.finished in
    record {
      complete = λ m tells read write out. done_complete _ hosts words m old new c.in-Ok.status (done m tells);
      refused_always = λ m tells read why refused. absurd (done_apart _ hosts words m old new c.in-Ok.status why (done m tells) refused);
      finished = λ run. done;
      silent = λ run. refl;
      unfailed = λ run. (c.in-Ok.ensures.reads_kept, c.in-Ok.ensures.writes_kept, c.in-Ok.ensures.lines_kept);
      replayed = λ run m tells left tells'. done_again _ hosts words m left old new c.in-Ok.status tells tells' (done m tells);
      refused = λ came. absurd (no_refusal c.in-Ok.status c.in-Ok.ensures.status came);
      usage_always = λ none. absurd (c.in-Ok.ensures.line none);
      read_fault = λ three. absurd (no_fault c.in-Ok.status c.in-Ok.ensures.status (inl three));
      write_fault = λ four. absurd (no_fault c.in-Ok.status c.in-Ok.ensures.status (inr (inl four)));
      kept = c.work.ensures.kept;
      current = c.work.ensures.current;
      untouched = λ came. absurd (no_early_stop c.in-Ok.status c.in-Ok.ensures.status came);
      part = λ five. absurd (no_fault c.in-Ok.status c.in-Ok.ensures.status (inr (inr five)));
      part_of_a_line = λ five. absurd (no_fault c.in-Ok.status c.in-Ok.ensures.status (inr (inr five)));
      passed =
          let told = g.O.Sink.told c.args.out.now in
          let told' = g.O.Sink.told c.work.new.out in
          let ends = ended_by (Ok c.in-Ok.status) in
          let stopped = stopped_by {A = ℕ} (Ok c.in-Ok.status) in
          let says = λ (line : List ℕ). Says (g.E.Sink.told c.args.err.now) (g.E.Sink.told c.args.err.now) (g.E.Sink.faults c.args.err.now)
          (g.E.Sink.faults c.args.err.now) line in
          passed_so _ _ (PassesWords _ hosts words told told' ends stopped) _
          (words_so _ hosts told told' ends (λ s. c.in-Ok.status ≡ s) stopped (StopsFor c.in-Ok.status says)
          (λ status is. is) (λ why none. absurd none) words) c.in-Ok.ensures.passed;
      status = run_bound c.in-Ok.status c.in-Ok.ensures.status;
    }

pub returns-in-Err : goal.returns-in-Err
returns-in-Err g c =
    let hosts = c.args.hosts.items in
    let words = texts c.args.words.now in
    let old = outside g.F.Files g.O.Sink c.args.files.now c.args.out.now in
    let new = outside g.F.Files g.O.Sink c.work.new.files c.work.new.out in
    let why = reason_of c.in-Err.stop in
    let stop = c.in-Err.ensures.stop in
    let status = c.report.result in
    let is = c.report.ensures.status in
    let line_says = λ (line : List ℕ). Says (g.E.Sink.told c.args.err.now) (g.E.Sink.told c.report.new.err) (g.E.Sink.faults c.args.err.now)
    (g.E.Sink.faults c.report.new.err) line in
    let says = λ (r : Reason). line_says (error_line r) in
    record {
      complete = stop_complete _ hosts words old new why status stop is;
      refused_always = stop_always _ hosts words old new why status stop is;
      finished = λ run. absurd (stop_apart status why is run);
      silent = λ run. absurd (stop_apart status why is run);
      unfailed = λ run. absurd (stop_apart status why is run);
      replayed = λ run m tells left tells'. absurd (stop_apart status why is run);
      refused = refused_line _ hosts words old new why status stop is says c.report.ensures.says;
      usage_always = stop_usage _ hosts words old new why status stop is;
      read_fault = read_fault _ hosts words old new why status stop is says c.report.ensures.says;
      write_fault = write_fault _ hosts words old new why status stop is says c.report.ensures.says;
      kept = c.work.ensures.kept;
      current = c.work.ensures.current;
      untouched = stop_untouched _ hosts words old new why status stop is;
      part = λ five. stop_part _ hosts words old new why stop;
      part_of_a_line = λ five. (why, c.report.ensures.part);
      passed =
          let told = g.O.Sink.told c.args.out.now in
          let told' = g.O.Sink.told c.work.new.out in
          let ends = ended_by (Err c.in-Err.stop) in
          let stopped = stopped_by {A = ℕ} (Err c.in-Err.stop) in
          passed_so _ _ (PassesWords _ hosts words told told' ends stopped) _
          (words_so _ hosts told told' ends (λ s. status ≡ s) stopped (StopsFor status line_says) (λ s none. absurd none)
          (λ r same. rw same at (stopped_for status line_says (reason_of c.in-Err.stop) is c.report.ensures.says)) words)
          c.in-Err.ensures.passed;
      status = stop_bound status why is;
    }
