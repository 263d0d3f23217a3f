use Rattle.w2c_files.proofs.Common.{◌+◌, [], ◌∷◌, ◌++◌, take, drop, sym, refl, arith, take-append-drop, rules, Passes, ReadsSome, StopsFile}
use Rattle.w2c_files.proofs.Common.{names_of}
use Rattle.w2c_files.proofs.Loops.{fit_more, length-names, one_more_held, stops_at, total_more}
use Rattle.w2c_files.proofs.ReadPassed.{one_more_read, next_stops, memory_stops, all_passed, if_memory}
use Rattle.w2c_files.proofs.reading.read_files.Goals as goal

pub returns-in-Err-clause-stop : goal.returns-in-Err-clause-stop
returns-in-Err-clause-stop g c =
    let files = g.F.Files in
    let names = c.args.names.now in
    let name = c.name_at-name.result.now in
    let at = c.name_at-name.ensures in
    let limits = c.args.limits in
    let told = c.loop-k.invariant.told in
    let why : StopsFile limits.each c.loop-k.left (files.told c.args.files.now) name c.loop-k.k (files.read_faults c.loop-k.files)
    (files.read_faults c.read_file.new.files) (files.fault_name c.read_file.new.files) c.in-Err.stop = rw told at c.in-Err.ensures.stop in
    stops_at limits.each limits.all c.loop-k.left (files.told c.args.files.now) (names_of names) c.loop-k.k name c.loop-k.all.items at
    c.loop-k.invariant.held c.loop-k.invariant.fit c.loop-k.invariant.left (files.read_faults c.args.files.now)
    (files.read_faults c.loop-k.files) (files.read_faults c.read_file.new.files) (files.fault_name c.read_file.new.files) c.in-Err.stop
    c.loop-k.invariant.later why

pub loop-k-preserved : goal.loop-k-preserved
loop-k-preserved g c =
    let files = g.F.Files in
    let names = c.args.names.now in
    let name = c.name_at-name.result.now in
    let at = c.name_at-name.ensures in
    let all = c.loop-k.all.items in
    let more = c.push.new.self.items in
    let same = c.in_ok-push.ensures.items in
    let sum = total_more all more c.in-Ok.bytes same in
    record {
      told = search rules;
      current = search rules;
      writes = search rules;
      later = omega (arith, c.loop-k.invariant.later, c.in-Ok.ensures.later);
      kept = search rules;
      held = one_more_held (files.told c.args.files.now) (names_of names) c.loop-k.k name all more c.in-Ok.bytes at c.loop-k.invariant.held
          (λ contents tells. c.in-Ok.ensures.held contents (search rules)) same;
      many = search rules;
      fit = fit_more c.args.limits.each all more c.in-Ok.bytes same c.loop-k.invariant.fit c.in-Ok.ensures.fit;
      passed = one_more_read c.args.limits.each c.loop-k.left (files.trace c.args.files.now) (files.trace c.loop-k.files)
          (files.trace c.read_file.new.files) (names_of names) c.loop-k.k c.loop-k.k name all more c.in-Ok.bytes at same
          c.loop-k.invariant.passed c.in-Ok.ensures.passed;
      left = omega (arith, sum, c.loop-k.invariant.left, c.in-Ok.ensures.room);
    }

pub returns-in-Err-clause-tried : goal.returns-in-Err-clause-tried
returns-in-Err-clause-tried g c =
    let files = g.F.Files in
    next_stops c.args.limits.each c.args.limits.all c.loop-k.left (files.trace c.args.files.now) (files.trace c.loop-k.files)
    (files.trace c.read_file.new.files) (names_of c.args.names.now) c.loop-k.k c.name_at-name.result.now c.loop-k.all.items c.in-Err.stop
    c.name_at-name.ensures c.loop-k.invariant.many c.loop-k.invariant.left c.loop-k.invariant.passed c.in-Err.ensures.passed

pub returns-clause-passed : goal.returns-clause-passed
returns-clause-passed g c =
    all_passed c.args.limits.each (g.F.Files.trace c.args.files.now) (g.F.Files.trace c.loop-k.files) (names_of c.args.names.now) c.loop-k.k
    c.loop-k.all.items (let n = length-names c.args.names.now in omega (arith, n, c.loop-k-test.false, c.loop-k.auto.k-end))
    c.loop-k.invariant.passed

pub returns-in_err-push-clause-tried : goal.returns-in_err-push-clause-tried
returns-in_err-push-clause-tried g c =
    let files = g.F.Files in
    let names = names_of c.args.names.now in
    let all = c.loop-k.all.items ++ c.in-Ok.bytes ∷ [] in
    let limits = c.args.limits in
    if_memory c.from_residual.result
    (λ stop. Passes (files.trace c.args.files.now) (files.trace c.read_file.new.files) (ReadsSome limits.each limits.all names stop))
    c.from_residual.ensures.1
    (memory_stops c.args.limits.each c.args.limits.all (files.trace c.args.files.now) (files.trace c.read_file.new.files) names
    (take (c.loop-k.k + 1) names) (drop (c.loop-k.k + 1) names) all (sym (take-append-drop (c.loop-k.k + 1) names))
    (one_more_read c.args.limits.each c.loop-k.left (files.trace c.args.files.now) (files.trace c.loop-k.files)
    (files.trace c.read_file.new.files) names c.loop-k.k c.loop-k.k c.name_at-name.result.now c.loop-k.all.items all c.in-Ok.bytes
    c.name_at-name.ensures refl c.loop-k.invariant.passed c.in-Ok.ensures.passed))
