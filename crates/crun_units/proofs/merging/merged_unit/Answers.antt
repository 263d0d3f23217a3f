use Rattle.crun_units.proofs.Common.{map, sym, ap, subst, inl, passed_so, Passes, Tells, unit_of, c_symbols, AreUnits, UnitsRead}
use Rattle.crun_units.proofs.Common.{GivesUnits, TriesUnits, seen_merge, Write, WantOfMemory, AreLinked, reason_of, stop_for, AreUntouched}
use Rattle.crun_units.proofs.Common.{files_seen, IsMergeJob, IsMerged, IsUnitsJobOver, StopsWrite, TriesUnit}
use Rattle.w2c_files.specs.Words.{names_of}
use Rattle.crun_units.proofs.Passing.{reading_tried, refusal_tried, unit_asked, wanting_tried}
use Rattle.crun_units.proofs.WriteStops.{asked, merge_refused, reading_stops, refusal_stops}
use Rattle.crun_units.proofs.merging.merged_unit.Goals as goal

pub returns-in-Err-clause-stop : goal.returns-in-Err-clause-stop
returns-in-Err-clause-stop g c =
    let line = seen_merge c.args.line.now in
    let symbols = c_symbols c.args.hosts.now in
    let old = files_seen g.F.Files c.args.files.now in
    let new = files_seen g.F.Files c.read_units.new.files in
    let untouched : AreUntouched old new = record { told = c.in-Err.ensures.told; current = c.in-Err.ensures.current } in
    subst (λ s. StopsWrite (IsMergeJob line symbols) line.units line.output old new (reason_of s)) (sym c.stop_of.ensures)
    (reading_stops (IsMerged line symbols) line.units line.output old new untouched c.in-Err.stop
    (rw c.as_slice.ensures.value at c.in-Err.ensures.stop))

pub returns-in-Err-link_units-clause-stop : goal.returns-in-Err-link_units-clause-stop
returns-in-Err-link_units-clause-stop g c =
    let line = seen_merge c.args.line.now in
    let symbols = c_symbols c.args.hosts.now in
    let old = files_seen g.F.Files c.args.files.now in
    let new = files_seen g.F.Files c.read_units.new.files in
    let texts = c.in-Ok.texts.items in
    let untouched : AreUntouched old new = record { told = c.in-Ok.ensures.told; current = c.in-Ok.ensures.current } in
    refusal_stops (IsMerged line symbols) line.units line.output old new untouched texts
    (subst (λ ns. Tells old.told (λ m. AreUnits m (names_of ns) texts)) c.as_slice.ensures.value c.in-Ok.ensures.read)
    c.in-Err-link_units.refusal (reason_of c.stop_at.result)
    (merge_refused line symbols texts c.in-Err-link_units.refusal (rw c.as_slice-2.ensures.value at c.in-Err-link_units.ensures.first))
    (rw c.as_slice-in-Err-link_units.ensures.value at c.stop_at.ensures)

pub returns-in-Ok-merge-clause-unit : goal.returns-in-Ok-merge-clause-unit
returns-in-Ok-merge-clause-unit g c =
    let line = seen_merge c.args.line.now in
    let symbols = c_symbols c.args.hosts.now in
    let old = files_seen g.F.Files c.args.files.now in
    let new = files_seen g.F.Files c.read_units.new.files in
    let texts = c.in-Ok.texts.items in
    let units = map unit_of c.in-Ok-link_units.linked.0 in
    let untouched : AreUntouched old new = record { told = c.in-Ok.ensures.told; current = c.in-Ok.ensures.current } in
    asked (IsMerged line symbols) line.units line.output old new untouched texts (rw c.as_slice.ensures.value at c.in-Ok.ensures.read)
    (Write line.output (unit_of c.in-Ok-merge.one))
    (inl (
      units,
      subst (λ ts. AreLinked ts symbols units) c.as_slice-2.ensures.value c.in-Ok-link_units.ensures.units,
      ap (Write line.output) c.in-Ok-merge.ensures.merged,
    ))

pub returns-in-Err-clause-tried : goal.returns-in-Err-clause-tried
returns-in-Err-clause-tried g c =
    let line = seen_merge c.args.line.now in
    let of = IsMerged line (c_symbols c.args.hosts.now) in
    let old = g.F.Files.trace c.args.files.now in
    let new = g.F.Files.trace c.read_units.new.files in
    subst (λ s. Passes old new (TriesUnit line.units of (reason_of s))) (sym c.stop_of.ensures)
    (passed_so old new (TriesUnits line.units c.in-Err.stop) (TriesUnit line.units of (reason_of (stop_for c.in-Err.stop)))
    (reading_tried line.units of c.in-Err.stop) (rw c.as_slice.ensures.value at c.in-Err.ensures.tried))

pub returns-in-Err-link_units-clause-tried : goal.returns-in-Err-link_units-clause-tried
returns-in-Err-link_units-clause-tried g c =
    let line = seen_merge c.args.line.now in
    let symbols = c_symbols c.args.hosts.now in
    let of = IsMerged line symbols in
    let new = g.F.Files.trace c.read_units.new.files in
    let texts = c.in-Ok.texts.items in
    let reason = reason_of c.stop_at.result in
    passed_so (g.F.Files.trace c.args.files.now) new (GivesUnits line.units (UnitsRead texts)) (TriesUnit line.units of reason)
    (λ events gave. refusal_tried line.units of texts events gave c.in-Err-link_units.refusal reason
    (merge_refused line symbols texts c.in-Err-link_units.refusal (rw c.as_slice-2.ensures.value at c.in-Err-link_units.ensures.first))
    (rw c.as_slice-in-Err-link_units.ensures.value at c.stop_at.ensures)) (rw c.as_slice.ensures.value at c.in-Ok.ensures.passed)

pub returns-in-Ok-merge-clause-passed : goal.returns-in-Ok-merge-clause-passed
returns-in-Ok-merge-clause-passed g c =
    let line = seen_merge c.args.line.now in
    let symbols = c_symbols c.args.hosts.now in
    let of = IsMerged line symbols in
    let old = g.F.Files.trace c.args.files.now in
    let new = g.F.Files.trace c.read_units.new.files in
    let texts = c.in-Ok.texts.items in
    let units = map unit_of c.in-Ok-link_units.linked.0 in
    let job = Write line.output (unit_of c.in-Ok-merge.one) in
    passed_so old new (GivesUnits line.units (UnitsRead texts)) (λ events. IsUnitsJobOver line.units of events job)
    (λ events gave. unit_asked line.units of texts events gave job (inl (
      units,
      subst (λ ts. AreLinked ts symbols units) c.as_slice-2.ensures.value c.in-Ok-link_units.ensures.units,
      ap (Write line.output) c.in-Ok-merge.ensures.merged,
    ))) (rw c.as_slice.ensures.value at c.in-Ok.ensures.passed)

pub returns-clause-tried : goal.returns-clause-tried
returns-clause-tried g c =
    let line = seen_merge c.args.line.now in
    let of = IsMerged line (c_symbols c.args.hosts.now) in
    let new = g.F.Files.trace c.read_units.new.files in
    let texts = c.in-Ok.texts.items in
    passed_so (g.F.Files.trace c.args.files.now) new (GivesUnits line.units (UnitsRead texts)) (TriesUnit line.units of WantOfMemory)
    (wanting_tried line.units of texts) (rw c.as_slice.ensures.value at c.in-Ok.ensures.passed)
