use Rattle.wast_run.proofs.Common.{◌≡◌, string_bytes, refl, ap, arith, reason_of, seen_call, seen_command, seen_module, Joins}
use Rattle.wast_run.proofs.Common.{accepted_tree, file_of, holds, is_invalid, is_malformed, setting_of}
use Rattle.wast_script.specs.Commands as script
use Rattle.wast_run.proofs.Passing.{call_done, command_stops, file_done, none_without_memory}
use Rattle.wast_run.proofs.commands.run_command.Goals as goal

pub returns-in-Ok : goal.returns-in-Ok
returns-in-Ok g c =
    let it = c.in-Ok.ensures in
    let at = setting_of c.args.stage.now in
    let after = setting_of c.join_file.new.self in
    let file = seen_module c.in-Module.file in
    let word = c.in-Ok.word in
    let done = file_done g.F.Files c.args.files.now c.join_file.new.files c.args.steps at after word (seen_command c.args.command.now)
    (script.Module file) file.filename (λ v. Joins at file.name (accepted_tree v) word after) (ap seen_command c.in-Module.is) refl
    (λ on v is joins. (v, is, joins)) tt it.comes it.passed in
    record {
      told = it.told;
      current = it.current;
      later = it.later;
      kept = it.kept;
      comes = done.comes;
      timely = done.timely;
      sound = it.sound;
      stop = tt;
      passed = done.passed;
      tried = tt;
    }

pub returns-in-Err : goal.returns-in-Err
returns-in-Err g c =
    let it = c.in-Err.ensures in
    let no = command_stops g.F.Files c.args.files.now c.join_file.new.files (file_of (seen_command c.args.command.now))
    (string_bytes c.in-Module.file.filename) (reason_of c.in-Err.stop) (ap (λ x. file_of (seen_command x)) c.in-Module.is)
    (it.stop, it.tried) in
    record {
      told = it.told;
      current = it.current;
      later = it.later;
      kept = tt;
      comes = tt;
      timely = tt;
      sound = tt;
      stop = no.0;
      passed = tt;
      tried = no.1;
    }

pub returns-in-Ok-keep : goal.returns-in-Ok-keep
returns-in-Ok-keep g c =
    let it = c.in-Ok-keep.ensures in
    let done = call_done g.F.Files c.args.files.now c.args.steps (setting_of c.args.stage.now) (setting_of c.keep.new.self)
    c.in-Ok-keep.word (seen_command c.args.command.now) (script.Invoke (seen_call c.in-Call.call))
    (ap seen_command c.in-Call.is) (λ on. it.keeps) tt in
    record {
      told = refl;
      current = refl;
      later = omega arith;
      kept = refl;
      comes = done.comes;
      timely = done.timely;
      sound = it.sound;
      stop = tt;
      passed = done.passed;
      tried = tt;
    }

pub returns-in-Err-keep : goal.returns-in-Err-keep
returns-in-Err-keep g c = record {
  told = refl;
  current = refl;
  later = omega arith;
  kept = tt;
  comes = tt;
  timely = tt;
  sound = tt;
  stop = tt;
  passed = tt;
  tried = none_without_memory (g.F.Files.trace c.args.files.now) _ (ap (λ x. file_of (seen_command x)) c.in-Call.is);
}

pub returns-in-Ok-assert_return : goal.returns-in-Ok-assert_return
returns-in-Ok-assert_return g c =
    let it = c.in-Ok-assert_return.ensures in
    let done = call_done g.F.Files c.args.files.now c.args.steps (setting_of c.args.stage.now) (setting_of c.assert_return.new.self)
    c.in-Ok-assert_return.word (seen_command c.args.command.now)
    (script.AssertReturn (seen_call c.in-AssertReturn.call) c.in-AssertReturn.expected) (ap seen_command c.in-AssertReturn.is)
    (λ on. it.asserts) it.timely in
    record {
      told = refl;
      current = refl;
      later = omega arith;
      kept = refl;
      comes = done.comes;
      timely = done.timely;
      sound = it.sound;
      stop = tt;
      passed = done.passed;
      tried = tt;
    }

pub returns-in-Err-assert_return : goal.returns-in-Err-assert_return
returns-in-Err-assert_return g c = record {
  told = refl;
  current = refl;
  later = omega arith;
  kept = tt;
  comes = tt;
  timely = tt;
  sound = tt;
  stop = tt;
  passed = tt;
  tried = none_without_memory (g.F.Files.trace c.args.files.now) _ (ap (λ x. file_of (seen_command x)) c.in-AssertReturn.is);
}

pub returns-in-Ok-assert_trap : goal.returns-in-Ok-assert_trap
returns-in-Ok-assert_trap g c =
    let it = c.in-Ok-assert_trap.ensures in
    let done = call_done g.F.Files c.args.files.now c.args.steps (setting_of c.args.stage.now) (setting_of c.assert_trap.new.self)
    c.in-Ok-assert_trap.word (seen_command c.args.command.now) (script.AssertTrap (seen_call c.in-AssertTrap.call) c.in-AssertTrap.cause)
    (ap seen_command c.in-AssertTrap.is) (λ on. it.asserts) it.timely in
    record {
      told = refl;
      current = refl;
      later = omega arith;
      kept = refl;
      comes = done.comes;
      timely = done.timely;
      sound = it.sound;
      stop = tt;
      passed = done.passed;
      tried = tt;
    }

pub returns-in-Err-assert_trap : goal.returns-in-Err-assert_trap
returns-in-Err-assert_trap g c = record {
  told = refl;
  current = refl;
  later = omega arith;
  kept = tt;
  comes = tt;
  timely = tt;
  sound = tt;
  stop = tt;
  passed = tt;
  tried = none_without_memory (g.F.Files.trace c.args.files.now) _ (ap (λ x. file_of (seen_command x)) c.in-AssertTrap.is);
}

pub returns-in-Ok-assert_invalid : goal.returns-in-Ok-assert_invalid
returns-in-Ok-assert_invalid g c =
    let it = c.in-Ok-assert_invalid.ensures in
    let at = setting_of c.args.stage.now in
    let file = string_bytes c.in-AssertInvalid.file in
    let word = c.in-Ok-assert_invalid.word in
    let name_is = c.as_str.ensures.value in
    let done = file_done g.F.Files c.args.files.now c.assert_invalid.new.files c.args.steps at at word (seen_command c.args.command.now)
    (script.AssertInvalid file) file (λ v. word ≡ holds (is_invalid v)) (ap seen_command c.in-AssertInvalid.is) refl
    (λ on v is said. (v, is, said, refl)) tt (λ m tells. rw name_is at (it.word m tells)) (rw name_is at it.passed) in
    record {
      told = it.told;
      current = it.current;
      later = it.later;
      kept = it.kept;
      comes = done.comes;
      timely = done.timely;
      sound = c.requires.sound;
      stop = tt;
      passed = done.passed;
      tried = tt;
    }

pub returns-in-Err-assert_invalid : goal.returns-in-Err-assert_invalid
returns-in-Err-assert_invalid g c =
    let it = c.in-Err-assert_invalid.ensures in
    let name_is = c.as_str.ensures.value in
    let no = command_stops g.F.Files c.args.files.now c.assert_invalid.new.files (file_of (seen_command c.args.command.now))
    (string_bytes c.in-AssertInvalid.file) (reason_of c.in-Err-assert_invalid.stop)
    (ap (λ x. file_of (seen_command x)) c.in-AssertInvalid.is) ((rw name_is at it.stop), (rw name_is at it.tried)) in
    record {
      told = it.told;
      current = it.current;
      later = it.later;
      kept = tt;
      comes = tt;
      timely = tt;
      sound = tt;
      stop = no.0;
      passed = tt;
      tried = no.1;
    }

pub returns-in-Ok-assert_malformed : goal.returns-in-Ok-assert_malformed
returns-in-Ok-assert_malformed g c =
    let it = c.in-Ok-assert_malformed.ensures in
    let at = setting_of c.args.stage.now in
    let file = string_bytes c.in-AssertMalformed.file in
    let word = c.in-Ok-assert_malformed.word in
    let name_is = c.as_str-in-AssertMalformed.ensures.value in
    let done = file_done g.F.Files c.args.files.now c.assert_malformed.new.files c.args.steps at at word (seen_command c.args.command.now)
    (script.AssertMalformed file) file (λ v. word ≡ holds (is_malformed v)) (ap seen_command c.in-AssertMalformed.is) refl
    (λ on v is said. (v, is, said, refl)) tt (λ m tells. rw name_is at (it.word m tells)) (rw name_is at it.passed) in
    record {
      told = it.told;
      current = it.current;
      later = it.later;
      kept = it.kept;
      comes = done.comes;
      timely = done.timely;
      sound = c.requires.sound;
      stop = tt;
      passed = done.passed;
      tried = tt;
    }

pub returns-in-Err-assert_malformed : goal.returns-in-Err-assert_malformed
returns-in-Err-assert_malformed g c =
    let it = c.in-Err-assert_malformed.ensures in
    let name_is = c.as_str-in-AssertMalformed.ensures.value in
    let no = command_stops g.F.Files c.args.files.now c.assert_malformed.new.files (file_of (seen_command c.args.command.now))
    (string_bytes c.in-AssertMalformed.file) (reason_of c.in-Err-assert_malformed.stop)
    (ap (λ x. file_of (seen_command x)) c.in-AssertMalformed.is) ((rw name_is at it.stop), (rw name_is at it.tried)) in
    record {
      told = it.told;
      current = it.current;
      later = it.later;
      kept = tt;
      comes = tt;
      timely = tt;
      sound = tt;
      stop = no.0;
      passed = tt;
      tried = no.1;
    }
