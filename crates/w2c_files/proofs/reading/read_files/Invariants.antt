use Rattle.w2c_files.proofs.Common.{◌≡◌, ◌+◌, ◌≤◌, length, take, AllByRecursion, Passes, Tells, ReadsAll, AreHeld, total, names_of}
use Rattle.w2c_files.proofs.reading.read_files.Given as goal

-- so many files are read
abbrev pub invariant-loop-k : goal.invariant-loop-k
invariant-loop-k g l =
    let files = g.F.Files in
    record {
      told : files.told l.files ≡ files.told l.fn.files;
      current : files.current l.files ≡ files.current l.fn.files;
      writes : files.write_faults l.files ≡ files.write_faults l.fn.files;
      later : files.read_faults l.fn.files ≤ files.read_faults l.files;
      kept : files.read_faults l.files ≡ files.read_faults l.fn.files;
      held : Tells (files.told l.fn.files) (λ contents. AreHeld contents (take l.k (names_of l.names)) l.all.items);
      many : length l.all.items ≡ l.k;
      fit : AllByRecursion (λ bytes. length bytes ≤ l.limits.each) l.all.items;
      passed : Passes (files.trace l.fn.files) (files.trace l.files) (ReadsAll l.limits.each (take l.k (names_of l.names)) l.all.items);
      left : total l.all.items + l.left ≡ l.limits.all;
    }
