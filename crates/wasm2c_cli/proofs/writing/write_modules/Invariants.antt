use Rattle.wasm2c_cli.proofs.Common.{◌≡◌, ◌≤◌, take, AllByRecursion, Passes, WritesFiles, written, files_of, IsNamed, seen_targets}
use Rattle.wasm2c_cli.proofs.writing.write_modules.Given as goal

-- the files of so many modules stand whole
abbrev pub invariant-loop-k : goal.invariant-loop-k
invariant-loop-k g l =
    let files = g.F.Files in
    record {
      whole : files.told l.files ≡ written (files.told l.fn.files) (files_of (take l.k (seen_targets l.targets)) (take l.k l.modules));
      names : AllByRecursion IsNamed (take l.k (seen_targets l.targets));
      reads : files.read_faults l.files ≡ files.read_faults l.fn.files;
      later : files.write_faults l.fn.files ≤ files.write_faults l.files;
      kept : files.write_faults l.files ≡ files.write_faults l.fn.files;
      put : Passes (files.trace l.fn.files) (files.trace l.files)
          (WritesFiles (files_of (take l.k (seen_targets l.targets)) (take l.k l.modules)));
    }
