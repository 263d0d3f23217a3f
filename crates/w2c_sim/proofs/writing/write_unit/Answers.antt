use Rattle.w2c_sim.proofs.Common.{◌≡◌, IfErr, OnOk, OnErr, sym, subst, err_from_is_err_and, memory_wanted, AppendsPart, appending}
use Rattle.w2c_sim.proofs.Common.{WithinLimits, IsValid, Formed, print_of, text_of}
use Rattle.w2c_io.specs.Passed.{Passes, PutsText, PutsPart}
use Rattle.wasm_spelling.proofs.ByteLists.{slice_bytes}
use Rattle.w2c_sim.proofs.Accepting.{named_is_accepted}
use Rattle.w2c_sim.proofs.Spelling.{unit_is_formed}
use Rattle.w2c_sim.proofs.writing.write_unit.Goals as goal

pub write_items-requires-clause-formed : goal.write_items-requires-clause-formed
write_items-requires-clause-formed g c =
    subst Formed (sym c.in_ok-items.ensures.left)
    (unit_is_formed c.units_are_proper.ensures (record { name = c.args.name.now; tree = c.args.m.now })
    (named_is_accepted c.args.name.now c.args.m.now
    (subst IsValid c.module.ensures.same c.module.ensures.valid) (subst WithinLimits c.module.ensures.same c.module.ensures.within)
    c.requires.named c.requires.short (slice_bytes c.args.name.now c.type_inv.name)))

pub returns-clause-written : goal.returns-clause-written
returns-clause-written g c =
    let files = g.F.Files in
    subst (λ items. OnOk c.write_items.result (files.told c.write_items.new.files
    ≡ appending (files.told c.args.files.now) (files.current c.args.files.now) (print_of items)))
    c.in_ok-items.ensures.left c.write_items.ensures.written

pub returns-clause-part : goal.returns-clause-part
returns-clause-part g c =
    let files = g.F.Files in
    subst (λ items. OnErr c.write_items.result (AppendsPart (files.told c.args.files.now) (files.told c.write_items.new.files)
    (files.current c.args.files.now) (print_of items))) c.in_ok-items.ensures.left c.write_items.ensures.part

pub returns-clause-current : goal.returns-clause-current
returns-clause-current g c = c.write_items.ensures.current

pub returns-clause-cause : goal.returns-clause-cause
returns-clause-cause g c = c.write_items.ensures.cause

pub returns-clause-fault : goal.returns-clause-fault
returns-clause-fault g c = c.write_items.ensures.fault

pub returns-clause-reads : goal.returns-clause-reads
returns-clause-reads g c = c.write_items.ensures.reads

-- ---- what passes through the files

pub returns-in_err-items-clause-tried : goal.returns-in_err-items-clause-tried
returns-in_err-items-clause-tried g c =
    let p = err_from_is_err_and c.from_residual.result c.from_residual.ensures.1 in
    rw (p.1, p.2) (memory_wanted (g.F.Files.trace c.args.files.now) (text_of c.args.m.now c.args.name.now))

pub returns-clause-passed : goal.returns-clause-passed
returns-clause-passed g c =
    let files = g.F.Files in
    subst (λ items. OnOk c.write_items.result (Passes (files.trace c.args.files.now) (files.trace c.write_items.new.files)
    (PutsText (print_of items)))) c.in_ok-items.ensures.left c.write_items.ensures.passed

pub returns-clause-tried : goal.returns-clause-tried
returns-clause-tried g c =
    let files = g.F.Files in
    subst (λ items. IfErr c.write_items.result (λ why. Passes (files.trace c.args.files.now) (files.trace c.write_items.new.files)
    (PutsPart (print_of items) why))) c.in_ok-items.ensures.left c.write_items.ensures.tried
