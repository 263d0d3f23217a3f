use Rattle.wast_run.proofs.Common.{◌≡◌, ◌≤◌, take, Passes, Tells, seen_commands, IsBehindOver, IsSound, setting_of, IsBehind}
use Rattle.wast_run.proofs.reporting.tell_commands.Given as goal

-- the lines of so many commands are written
abbrev pub invariant-loop-index : goal.invariant-loop-index
invariant-loop-index g l =
    let files = g.F.Files in
    let out = g.O.Sink in
    record {
      told : files.told l.files ≡ files.told l.fn.files;
      current : files.current l.files ≡ files.current l.fn.files;
      reads : files.read_faults l.fn.files ≤ files.read_faults l.files;
      later : out.faults l.fn.out ≤ out.faults l.out;
      reads_kept : files.read_faults l.files ≡ files.read_faults l.fn.files;
      lines_kept : out.faults l.out ≡ out.faults l.fn.out;
      sound : IsSound l.stage;
      few : l.ok ≤ l.index;
      behind : Tells (files.told l.fn.files) (λ m. IsBehind m l.steps (take l.index (seen_commands l.commands)) (setting_of l.stage)
          (out.told l.fn.out) (out.told l.out) l.ok);
      passed : Passes (files.trace l.fn.files) (files.trace l.files) (IsBehindOver l.steps (take l.index (seen_commands l.commands))
          (setting_of l.stage) (out.told l.fn.out) (out.told l.out) l.ok);
    }
