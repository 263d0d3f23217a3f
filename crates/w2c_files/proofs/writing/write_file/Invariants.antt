use Rattle.w2c_files.proofs.Common.{◌≡◌, ℕ, List, ◌++◌, length, Some, holding, Passes}
use Rattle.w2c_files.proofs.FilePassed.{Began}
use Rattle.w2c_files.proofs.writing.write_file.Given as goal

-- a part of the text is written
abbrev pub invariant-loop-rest : goal.invariant-loop-rest
invariant-loop-rest g l =
    let files = g.F.Files in
    record {
      held : (part : List ℕ) × (l.text ≡ part ++ l.rest) × (files.told l.files ≡ holding (files.told l.fn.files) l.name part);
      passed : (part : List ℕ) × (l.text ≡ part ++ l.rest) × Passes (files.trace l.fn.files) (files.trace l.files) (Began l.name part);
      current : files.current l.files ≡ Some l.name;
      reads : files.read_faults l.files ≡ files.read_faults l.fn.files;
      kept : files.write_faults l.files ≡ files.write_faults l.fn.files;
    }

abbrev pub decreases-loop-rest : goal.decreases-loop-rest
decreases-loop-rest g l = length l.rest
