use Rattle.std.proofs.Common.{◌≡◌, drop}
use Rattle.c_tree.specs.View.{unit_of}
use Rattle.c_print.proofs.ItemsWritten.{ArePut, IsWritten}
use Rattle.unit_file.proofs.writing.put_unit.Given as goal

-- the items from this one on are left
abbrev pub invariant-loop-item : goal.invariant-loop-item
invariant-loop-item g l =
    let files = g.F.Files in
    record {
      written : IsWritten (files.told l.fn.files) (files.told l.files) (files.current l.fn.files) (unit_of l.unit)
          (unit_of (drop l.item-index l.unit));
      passed : ArePut (files.trace l.fn.files) (files.trace l.files) (unit_of l.unit) (unit_of (drop l.item-index l.unit));
      current : files.current l.files ≡ files.current l.fn.files;
      fault : files.fault_name l.files ≡ files.fault_name l.fn.files;
      reads : files.read_faults l.files ≡ files.read_faults l.fn.files;
      kept : files.write_faults l.files ≡ files.write_faults l.fn.files;
    }
