use Rattle.std.proofs.Common.{◌∙◌}
use Rattle.std.proofs.lemmas.Result.{err_from_is_err_and}
use Rattle.w2c_io.proofs.Passed.{begun_in_vain, file_written, finished_in_vain, part_written}
use Rattle.w2c_files.proofs.Standing.{whole_begun, put_whole, put_part}
use Rattle.c_tree.specs.View.{unit_of}
use Rattle.c_print.specs.Print.{print_of}
use Rattle.unit_file.proofs.writing.write_unit.Goals as goal

pub returns-in-Err-clause-begun : goal.returns-in-Err-clause-begun
returns-in-Err-clause-begun g c =
    let files = g.F.Files in
    put_part (files.told c.args.files.now) (files.told c.begin.new.self) (files.told c.put_unit.new.files)
    (files.told c.give_up.new.files) (files.current c.begin.new.self) c.args.file.now
    (print_of (unit_of c.args.unit.now)) c.in_ok-begin.ensures.begun c.in_ok-begin.ensures.current
    c.in-Err.ensures.part c.give_up.ensures.told

pub returns-in_err-finish-clause-begun : goal.returns-in_err-finish-clause-begun
returns-in_err-finish-clause-begun g c =
    let p = err_from_is_err_and c.from_residual-in_err-finish.result c.from_residual-in_err-finish.ensures.1 in
    let files = g.F.Files in
    rw p.1 (whole_begun (files.told c.args.files.now) (files.told c.finish.new.self) c.args.file.now
    (print_of (unit_of c.args.unit.now)) (c.in_err-finish.ensures.told
    ∙ put_whole (files.told c.args.files.now) (files.told c.begin.new.self) (files.told c.put_unit.new.files)
    (files.current c.begin.new.self) c.args.file.now (print_of (unit_of c.args.unit.now)) c.in_ok-begin.ensures.begun
    c.in_ok-begin.ensures.current c.in_default.ensures.written))

pub returns-clause-whole : goal.returns-clause-whole
returns-clause-whole g c =
    c.in_ok-finish.ensures.told
    ∙ put_whole (g.F.Files.told c.args.files.now) (g.F.Files.told c.begin.new.self) (g.F.Files.told c.put_unit.new.files)
    (g.F.Files.current c.begin.new.self) c.args.file.now (print_of (unit_of c.args.unit.now)) c.in_ok-begin.ensures.begun
    c.in_ok-begin.ensures.current c.in_default.ensures.written

-- ---- what passes through the files

pub returns-in_err-begin-clause-tried : goal.returns-in_err-begin-clause-tried
returns-in_err-begin-clause-tried g c =
    let files = g.F.Files in
    let p = err_from_is_err_and c.from_residual.result c.from_residual.ensures.1 in
    rw (p.1, p.2) (begun_in_vain (files.trace c.args.files.now) (files.trace c.begin.new.self) c.args.file.now
    (print_of (unit_of c.args.unit.now)) c.in_err-begin.field-0.0 c.in_err-begin.ensures.traced)

pub returns-in-Err-clause-tried : goal.returns-in-Err-clause-tried
returns-in-Err-clause-tried g c =
    part_written (g.F.Files.trace c.args.files.now) (g.F.Files.trace c.begin.new.self) (g.F.Files.trace c.put_unit.new.files)
    (g.F.Files.trace c.give_up.new.files) c.args.file.now (print_of (unit_of c.args.unit.now)) c.in-Err.answer
    c.in_ok-begin.ensures.traced c.in-Err.ensures.tried c.give_up.ensures.passed

pub returns-in_err-finish-clause-tried : goal.returns-in_err-finish-clause-tried
returns-in_err-finish-clause-tried g c =
    let files = g.F.Files in
    let p = err_from_is_err_and c.from_residual-in_err-finish.result c.from_residual-in_err-finish.ensures.1 in
    rw (p.1, p.2) (finished_in_vain (files.trace c.args.files.now) (files.trace c.begin.new.self) (files.trace c.put_unit.new.files)
    (files.trace c.finish.new.self) c.args.file.now (print_of (unit_of c.args.unit.now)) c.in_err-finish.field-0.0
    c.in_ok-begin.ensures.traced c.in_default.ensures.passed c.in_err-finish.ensures.traced)

pub returns-clause-passed : goal.returns-clause-passed
returns-clause-passed g c =
    file_written (g.F.Files.trace c.args.files.now) (g.F.Files.trace c.begin.new.self) (g.F.Files.trace c.put_unit.new.files)
    (g.F.Files.trace c.finish.new.self) c.args.file.now (print_of (unit_of c.args.unit.now))
    c.in_ok-begin.ensures.traced c.in_default.ensures.passed c.in_ok-finish.ensures.traced
