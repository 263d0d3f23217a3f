use Rattle.w2c_sim.proofs.Common.{◌≡◌, length, ArePut, IsWritten, left_of}
use Rattle.w2c_sim.proofs.writing.write_items.Given as goal

abbrev pub invariant-more : goal.invariant-more
invariant-more g l =
    let files = g.F.Files in
    record {
      written : IsWritten (files.told l.fn.files) (files.told l.files) (files.current l.fn.files) (left_of l.fn.items) (left_of l.items);
      passed : ArePut (files.trace l.fn.files) (files.trace l.files) (left_of l.fn.items) (left_of l.items);
      current : files.current l.files ≡ files.current l.fn.files;
      fault : files.fault_name l.files ≡ files.fault_name l.fn.files;
      reads : files.read_faults l.files ≡ files.read_faults l.fn.files;
      kept : files.write_faults l.files ≡ files.write_faults l.fn.files;
    }

abbrev pub decreases-more : goal.decreases-more
decreases-more g l = length (left_of l.items)
