use Rattle.crun_words.proofs.Common.{◌∙◌, both_passed, passed_so, names_of, UnitsRead, GivesUnits, TriesCalls, TriesInputs, TriesUnits}
use Rattle.crun_words.proofs.InputStops.{stops_at_calls, stops_at_unit}
use Rattle.crun_words.proofs.Passing.{calls_tried, units_tried}
use Rattle.crun_words.proofs.inputs.read_inputs.Goals as goal

pub returns-in-Err-clause-stop : goal.returns-in-Err-clause-stop
returns-in-Err-clause-stop g c =
    stops_at_unit (g.F.Files.told c.args.files.now) (names_of c.args.units.now) c.args.calls.now (g.F.Files.read_faults c.args.files.now)
    (g.F.Files.read_faults c.read_units.new.files) (g.F.Files.fault_name c.read_units.new.files) c.in-Err.stop c.in-Err.ensures.stop

pub returns-in-Err-read_calls-clause-stop : goal.returns-in-Err-read_calls-clause-stop
returns-in-Err-read_calls-clause-stop g c =
    let files = g.F.Files in
    stops_at_calls (files.told c.args.files.now) (names_of c.args.units.now) c.args.calls.now (files.read_faults c.args.files.now)
    (files.read_faults c.read_units.new.files) (files.read_faults c.read_calls.new.files)
    (files.fault_name c.read_calls.new.files) c.in-Err-read_calls.stop c.in-Ok.ensures.later
    (λ contents tells. (c.in-Ok.texts.items, c.in-Ok.ensures.read contents tells))
    (rw c.read_units.ensures.told at c.in-Err-read_calls.ensures.stop)

pub returns-clause-read : goal.returns-clause-read
returns-clause-read g c = λ contents tells. record {
  units_are = c.in-Ok.ensures.read contents tells;
  calls_are = c.in-Ok-read_calls.ensures.read contents (c.read_units.ensures.told ∙ tells);
  calls_fit = c.in-Ok-read_calls.ensures.fit;
}

pub returns-in-Err-clause-tried : goal.returns-in-Err-clause-tried
returns-in-Err-clause-tried g c =
    let units = names_of c.args.units.now in
    passed_so (g.F.Files.trace c.args.files.now) (g.F.Files.trace c.read_units.new.files) (TriesUnits units c.in-Err.stop)
    (TriesInputs units c.args.calls.now c.in-Err.stop) (units_tried units c.args.calls.now c.in-Err.stop) c.in-Err.ensures.tried

pub returns-in-Err-read_calls-clause-tried : goal.returns-in-Err-read_calls-clause-tried
returns-in-Err-read_calls-clause-tried g c =
    let units = names_of c.args.units.now in
    let calls = c.args.calls.now in
    let texts = c.in-Ok.texts.items in
    both_passed (g.F.Files.trace c.args.files.now) (g.F.Files.trace c.read_units.new.files) (g.F.Files.trace c.read_calls.new.files)
    (GivesUnits units (UnitsRead texts)) (TriesCalls calls c.in-Err-read_calls.stop) (TriesInputs units calls c.in-Err-read_calls.stop)
    (calls_tried units calls texts c.in-Err-read_calls.stop) c.in-Ok.ensures.passed c.in-Err-read_calls.ensures.tried
