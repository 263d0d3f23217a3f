use Rattle.w2c_io.proofs.Common.{IsTrue, rules, plan_of}
use Rattle.w2c_io.specs.declared.mem_files.FileCall.TheVariants as calls
use Rattle.w2c_io.specs.Planned.{is_planned}
use Rattle.w2c_io.proofs.mem_files.MemFiles.read_now.Goals as goal

-- a file is looked for only where the call is not planned to fail
pub returns-in_err-read_stored-clause-all_planned : goal.returns-in_err-read_stored-clause-all_planned
returns-in_err-read_stored-clause-all_planned c planned =
    let apart : IsTrue (is_planned (plan_of calls.Read c.args.self.now)) → ⊥ = search rules in
    absurd (apart planned)

pub returns-clause-all_planned : goal.returns-clause-all_planned
returns-clause-all_planned c planned =
    let apart : IsTrue (is_planned (plan_of calls.Read c.args.self.now)) → ⊥ = search rules in
    absurd (apart planned)
