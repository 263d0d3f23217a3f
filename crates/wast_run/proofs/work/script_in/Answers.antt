use Rattle.wast_run.proofs.Common.{Err, ap, refl, sym, subst, reason_of, seen_script, file_told, long_file_told, IsNoFile, IsStopBy}
use Rattle.wast_run.proofs.Common.{Refused, WantOfMemory, most_script_bytes}
use Rattle.wast_script.specs.declared.fault.ScriptFault.TheVariants as fault
use Rattle.wast_run.proofs.ScriptLaws.{names_of_script}
use Rattle.wast_run.proofs.Passing.{fault_read, no_script_read, script_read_over, script_stops_over}
use Rattle.wast_run.proofs.work.script_in.Goals as goal

pub returns-in-Ok-read_script : goal.returns-in-Ok-read_script
returns-in-Ok-read_script g c =
    let it = c.in-Ok.ensures in
    let files = g.F.Files in
    let old = c.args.files.now in
    let name = c.args.name.now in
    let bytes = c.in-Ok.text in
    let commands = seen_script c.in-Ok-read_script.script in
    let script = rw c.as_slice.ensures at c.in-Ok-read_script.ensures.script in
    record {
      told = it.told;
      current = it.current;
      later = it.cause.later;
      kept = it.cause.kept;
      script = λ m tells. (bytes, file_told (files.told old) m name bytes tells it.whole, script);
      named = names_of_script bytes commands script;
      stop = tt;
      passed = script_read_over files old c.read.new.self name bytes commands it.traced it.whole script;
      tried = tt;
    }

pub returns : goal.returns
returns g c =
    let it = c.in-Ok.ensures in
    let no = fault_read g.F.Files c.args.files.now c.read.new.self c.args.name.now c.in-Ok.text c.in-Err.fault it.whole
    (rw c.as_slice.ensures at c.in-Err.ensures.fault) it.traced in
    record {
      told = it.told;
      current = it.current;
      later = it.cause.later;
      kept = tt;
      script = tt;
      named = tt;
      stop = rw c.refused.ensures no.0;
      passed = tt;
      tried = rw c.refused.ensures no.1;
    }

pub returns-in-Err-Absent : goal.returns-in-Err-Absent
returns-in-Err-Absent g c =
    let it = c.in-Err-Absent.ensures in
    let none = subst (λ w. IsNoFile (Err w)) (sym c.in-Err-Absent.field-0-is) tt in
    let no = no_script_read g.F.Files c.args.files.now c.read.new.self c.args.name.now (Err c.in-Err-Absent.field-0)
    (reason_of c.unread.result) c.unread.ensures none it.absent it.cause it.named it.traced in
    record {
      told = it.told;
      current = it.current;
      later = it.cause.later;
      kept = tt;
      script = tt;
      named = tt;
      stop = no.0;
      passed = tt;
      tried = no.1;
    }

pub returns-in-Err-Failed : goal.returns-in-Err-Failed
returns-in-Err-Failed g c =
    let it = c.in-Err-Failed.ensures in
    let none = subst (λ w. IsNoFile (Err w)) (sym c.in-Err-Failed.field-0-is) tt in
    let no = no_script_read g.F.Files c.args.files.now c.read.new.self c.args.name.now (Err c.in-Err-Failed.field-0)
    (reason_of c.unread-in-Err-Failed.result) c.unread-in-Err-Failed.ensures none it.absent it.cause it.named it.traced in
    record {
      told = it.told;
      current = it.current;
      later = it.cause.later;
      kept = tt;
      script = tt;
      named = tt;
      stop = no.0;
      passed = tt;
      tried = no.1;
    }

pub returns-in-Err-TooLong : goal.returns-in-Err-TooLong
returns-in-Err-TooLong g c =
    let it = c.in-Err-TooLong.ensures in
    let files = g.F.Files in
    let old = c.args.files.now in
    let name = c.args.name.now in
    let is = c.in-Err-TooLong.field-0-is in
    record {
      told = it.told;
      current = it.current;
      later = it.cause.later;
      kept = tt;
      script = tt;
      named = tt;
      stop = (λ e. absurd cc, λ m tells. long_file_told (files.told old) m name most_script_bytes tells (it.too_long (ap Err is)));
      passed = tt;
      tried =
          script_stops_over files old c.read.new.self name (Err c.in-Err-TooLong.field-0) (Refused fault.TooLong) it.traced
          (subst (λ w. IsStopBy name (Err w) (Refused fault.TooLong)) (sym is) refl);
    }

pub returns-in-Err-Memory : goal.returns-in-Err-Memory
returns-in-Err-Memory g c =
    let it = c.in-Err-Memory.ensures in
    record {
      told = it.told;
      current = it.current;
      later = it.cause.later;
      kept = tt;
      script = tt;
      named = tt;
      stop = tt;
      passed = tt;
      tried =
          script_stops_over g.F.Files c.args.files.now c.read.new.self c.args.name.now (Err c.in-Err-Memory.field-0) WantOfMemory
          it.traced tt;
    }
