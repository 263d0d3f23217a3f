use Rattle.wast_run.proofs.Common.{Ok, Err, ap, sym, subst, reason_of, IsNoFile}
use Rattle.wast_run.proofs.Comings.{judged_file, long_file}
use Rattle.wast_run.proofs.Passing.{judged_read, long_read, no_file_read, read_without_memory}
use Rattle.wast_run.proofs.judging.judge_file.Goals as goal

pub returns-in-Ok-judge : goal.returns-in-Ok-judge
returns-in-Ok-judge g c =
    let name = c.args.name.now in
    let bytes = c.in-Ok.bytes in
    let it = c.in-Ok.ensures in
    let said = rw c.as_slice.ensures at c.in-Ok-judge.ensures in
    record {
      told = it.told;
      current = it.current;
      later = it.cause.later;
      kept = it.cause.kept;
      judged = judged_file (g.F.Files.told c.args.files.now) name bytes c.in-Ok-judge.judged it.whole it.fits said;
      stop = tt;
      passed = judged_read g.F.Files c.args.files.now c.read.new.self name bytes c.in-Ok-judge.judged it.traced it.fits said;
      tried = tt;
    }

pub returns-in-Ok : goal.returns-in-Ok
returns-in-Ok g c =
    let it = c.in-Ok.ensures in
    let tried = read_without_memory g.F.Files c.args.files.now c.read.new.self c.args.name.now (Ok c.in-Ok.bytes) it.traced in
    record { told = it.told; current = it.current; later = it.cause.later; kept = tt; judged = tt; stop = tt; passed = tt; tried = tried }

pub returns-in-Err-Absent : goal.returns-in-Err-Absent
returns-in-Err-Absent g c =
    let it = c.in-Err-Absent.ensures in
    let none = subst (λ w. IsNoFile (Err w)) (sym c.in-Err-Absent.field-0-is) tt in
    let no = no_file_read g.F.Files c.args.files.now c.read.new.self c.args.name.now (Err c.in-Err-Absent.field-0)
    (reason_of c.unread.result) c.unread.ensures none it.absent it.cause it.named it.traced in
    record { told = it.told; current = it.current; later = it.cause.later; kept = tt; judged = tt; stop = no.0; passed = tt; tried = no.1 }

pub returns-in-Err-Failed : goal.returns-in-Err-Failed
returns-in-Err-Failed g c =
    let it = c.in-Err-Failed.ensures in
    let none = subst (λ w. IsNoFile (Err w)) (sym c.in-Err-Failed.field-0-is) tt in
    let no = no_file_read g.F.Files c.args.files.now c.read.new.self c.args.name.now (Err c.in-Err-Failed.field-0)
    (reason_of c.unread-in-Err-Failed.result) c.unread-in-Err-Failed.ensures none it.absent it.cause it.named it.traced in
    record { told = it.told; current = it.current; later = it.cause.later; kept = tt; judged = tt; stop = no.0; passed = tt; tried = no.1 }

pub returns-in-Err-TooLong : goal.returns-in-Err-TooLong
returns-in-Err-TooLong g c =
    let it = c.in-Err-TooLong.ensures in
    let is = c.in-Err-TooLong.field-0-is in
    record {
      told = it.told;
      current = it.current;
      later = it.cause.later;
      kept = it.cause.too_long (ap Err is);
      judged = long_file (g.F.Files.told c.args.files.now) c.args.name.now (it.too_long (ap Err is));
      stop = tt;
      passed = long_read g.F.Files c.args.files.now c.read.new.self c.args.name.now c.in-Err-TooLong.field-0 is it.traced;
      tried = tt;
    }

pub returns : goal.returns
returns g c =
    let it = c.in-Err-Memory.ensures in
    let tried = read_without_memory g.F.Files c.args.files.now c.read.new.self c.args.name.now (Err c.in-Err-Memory.field-0) it.traced in
    record { told = it.told; current = it.current; later = it.cause.later; kept = tt; judged = tt; stop = tt; passed = tt; tried = tried }
