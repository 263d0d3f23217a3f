use Rattle.crun_units.proofs.Common.{◌≡◌, ◌<◌, [], ◌∷◌, map, length, get_or, sym, subst, arith, passed_so, Passes, unit_of, UnitsRead}
use Rattle.crun_units.proofs.Common.{GivesUnits, TriesUnits, seen_trim, Write, WantOfMemory, reason_of, stop_for, AreUnitTexts}
use Rattle.crun_units.proofs.Common.{AreUntouched, files_seen, IsTrimJob, IsTrimmedText, IsUnitsJobOver, StopsWrite, TriesUnit}
use Rattle.crun_units.proofs.Passing.{reading_tried, refusal_tried, unit_asked, wanting_tried}
use Rattle.crun_units.proofs.WriteStops.{asked, one_unit, reading_stops, refusal_stops, trim_refused, trimmed_text}
use Rattle.crun_units.proofs.trimming.trimmed_unit.Goals as goal

pub returns-in-Err-clause-stop : goal.returns-in-Err-clause-stop
returns-in-Err-clause-stop g c =
    let line = seen_trim c.args.line.now in
    let old = files_seen g.F.Files c.args.files.now in
    let new = files_seen g.F.Files c.read_units.new.files in
    let untouched : AreUntouched old new = record { told = c.in-Err.ensures.told; current = c.in-Err.ensures.current } in
    subst (λ s. StopsWrite (IsTrimJob line) (line.unit ∷ []) line.output old new (reason_of s)) (sym c.stop_of.ensures)
    (reading_stops (IsTrimmedText line) (line.unit ∷ []) line.output old new untouched c.in-Err.stop c.in-Err.ensures.stop)

pub returns-in-Err-check_units-clause-stop : goal.returns-in-Err-check_units-clause-stop
returns-in-Err-check_units-clause-stop g c =
    let line = seen_trim c.args.line.now in
    let old = files_seen g.F.Files c.args.files.now in
    let new = files_seen g.F.Files c.read_units.new.files in
    let texts = c.in-Ok.texts.items in
    let untouched : AreUntouched old new = record { told = c.in-Ok.ensures.told; current = c.in-Ok.ensures.current } in
    refusal_stops (IsTrimmedText line) (line.unit ∷ []) line.output old new untouched texts c.in-Ok.ensures.read
    c.in-Err-check_units.refusal (reason_of c.stop_at.result)
    (trim_refused line texts c.in-Err-check_units.refusal (rw c.as_slice.ensures.value at c.in-Err-check_units.ensures.first))
    c.stop_at.ensures

pub bounds-checked-0 : goal.bounds-checked-0
bounds-checked-0 g c =
    let units = c.in-Ok-check_units.units.items in
    let one = one_unit unit_of c.in-Ok.texts.items units
    (subst (λ ts. AreUnitTexts ts (map unit_of units)) c.as_slice.ensures.value c.in-Ok-check_units.ensures.units) c.in-Ok.ensures.many in
    subst (λ xs. 0 < length xs) (sym c.as_slice-checked.ensures.value) (omega (arith, one))

pub returns-in-Ok-trim-clause-unit : goal.returns-in-Ok-trim-clause-unit
returns-in-Ok-trim-clause-unit g c =
    let line = seen_trim c.args.line.now in
    let old = files_seen g.F.Files c.args.files.now in
    let new = files_seen g.F.Files c.read_units.new.files in
    let texts = c.in-Ok.texts.items in
    let units = c.in-Ok-check_units.units.items in
    let unit = c.index-checked-0.result in
    let untouched : AreUntouched old new = record { told = c.in-Ok.ensures.told; current = c.in-Ok.ensures.current } in
    asked (IsTrimmedText line) (line.unit ∷ []) line.output old new untouched texts c.in-Ok.ensures.read
    (Write line.output (unit_of c.in-Ok-trim.trimmed))
    (trimmed_text unit_of line texts units unit (unit_of c.in-Ok-trim.trimmed)
    (subst (λ ts. AreUnitTexts ts (map unit_of units)) c.as_slice.ensures.value c.in-Ok-check_units.ensures.units)
    c.in-Ok.ensures.many (subst (λ us. unit ≡ get_or us 0 unit) c.as_slice-checked.ensures.value c.index-checked-0.is)
    c.in-Ok-trim.ensures.trimmed)

pub returns-in-Err-clause-tried : goal.returns-in-Err-clause-tried
returns-in-Err-clause-tried g c =
    let line = seen_trim c.args.line.now in
    let of = IsTrimmedText line in
    let old = g.F.Files.trace c.args.files.now in
    let new = g.F.Files.trace c.read_units.new.files in
    subst (λ s. Passes old new (TriesUnit (line.unit ∷ []) of (reason_of s))) (sym c.stop_of.ensures)
    (passed_so old new (TriesUnits (line.unit ∷ []) c.in-Err.stop)
    (TriesUnit (line.unit ∷ []) of (reason_of (stop_for c.in-Err.stop))) (reading_tried (line.unit ∷ []) of c.in-Err.stop)
    c.in-Err.ensures.tried)

pub returns-in-Err-check_units-clause-tried : goal.returns-in-Err-check_units-clause-tried
returns-in-Err-check_units-clause-tried g c =
    let line = seen_trim c.args.line.now in
    let of = IsTrimmedText line in
    let new = g.F.Files.trace c.read_units.new.files in
    let texts = c.in-Ok.texts.items in
    let reason = reason_of c.stop_at.result in
    passed_so (g.F.Files.trace c.args.files.now) new (GivesUnits (line.unit ∷ []) (UnitsRead texts)) (TriesUnit (line.unit ∷ []) of reason)
    (λ events gave. refusal_tried (line.unit ∷ []) of texts events gave c.in-Err-check_units.refusal reason
    (trim_refused line texts c.in-Err-check_units.refusal (rw c.as_slice.ensures.value at c.in-Err-check_units.ensures.first))
    c.stop_at.ensures)
    c.in-Ok.ensures.passed

pub returns-in-Ok-trim-clause-passed : goal.returns-in-Ok-trim-clause-passed
returns-in-Ok-trim-clause-passed g c =
    let line = seen_trim c.args.line.now in
    let of = IsTrimmedText line in
    let old = g.F.Files.trace c.args.files.now in
    let new = g.F.Files.trace c.read_units.new.files in
    let texts = c.in-Ok.texts.items in
    let units = c.in-Ok-check_units.units.items in
    let unit = c.index-checked-0.result in
    let job = Write line.output (unit_of c.in-Ok-trim.trimmed) in
    passed_so old new (GivesUnits (line.unit ∷ []) (UnitsRead texts)) (λ events. IsUnitsJobOver (line.unit ∷ []) of events job)
    (λ events gave. unit_asked (line.unit ∷ []) of texts events gave job
    (trimmed_text unit_of line texts units unit (unit_of c.in-Ok-trim.trimmed)
    (subst (λ ts. AreUnitTexts ts (map unit_of units)) c.as_slice.ensures.value c.in-Ok-check_units.ensures.units)
    c.in-Ok.ensures.many (subst (λ us. unit ≡ get_or us 0 unit) c.as_slice-checked.ensures.value c.index-checked-0.is)
    c.in-Ok-trim.ensures.trimmed))
    c.in-Ok.ensures.passed

pub returns-clause-tried : goal.returns-clause-tried
returns-clause-tried g c =
    let line = seen_trim c.args.line.now in
    let of = IsTrimmedText line in
    passed_so (g.F.Files.trace c.args.files.now) (g.F.Files.trace c.read_units.new.files)
    (GivesUnits (line.unit ∷ []) (UnitsRead c.in-Ok.texts.items)) (TriesUnit (line.unit ∷ []) of WantOfMemory)
    (wanting_tried (line.unit ∷ []) of c.in-Ok.texts.items) c.in-Ok.ensures.passed
