use Rattle.wast_run.proofs.Honest.{honest_answer, honest_before, honest_decided, honest_not_there, honest_part, honest_prefix, honest_quiet}
use Rattle.wast_run.proofs.Honest.{honest_refusal, honest_report, honest_there, honest_unread, honest_unwritten, told_kept}
use Rattle.wast_run.proofs.law.honest_files.Goals as goal

pub returns : goal.returns
returns c =
    let laws = c.one_reading.ensures in
    record {
      reported = honest_report laws.apart laws.script;
      refused = honest_refusal laws.apart laws.script;
      unread = honest_unread laws.apart laws.script;
      part = honest_part laws.apart laws.script;
      answered = honest_answer laws.apart laws.script;
      refused_always = honest_decided laws.apart laws.script;
      reported_always = honest_there laws.apart laws.script;
      missing_always = honest_not_there laws.apart laws.script;
      write_fault = honest_unwritten laws.apart laws.script;
      nothing_without_script = honest_quiet laws.apart laws.script;
      prefix = honest_prefix laws.apart laws.script;
      part_before = honest_before laws.apart laws.script;
      stands = told_kept laws.apart laws.script;
    }
