use Rattle.crun_words.proofs.Common.{◌≡◌, ◌≤◌, length, slice_get, Some, string_bytes, arith, rules, passed_so, some_in_order, ReadsInOrder}
use Rattle.crun_words.proofs.Common.{ReadsSome, limited, names_of, NoUnit, UnitTooLong, most_unit_bytes, most_units_bytes, GivesUnits}
use Rattle.std.proofs.lemmas.Result.{err_from_is_err_and}
use Rattle.w2c_files.proofs.Loops.{length-names}
use Rattle.w2c_files.specs.declared.reading.ReadStop.TheVariants as read
use Rattle.crun_words.proofs.InputStops.{long_within, past, past_within, too_long, unread}
use Rattle.w2c_files.proofs.Standing.{one_at}
use Rattle.crun_words.proofs.Passing.{long_tried, past_tried, unread_tried}
use Rattle.crun_words.proofs.inputs.read_units.Goals as goal

pub returns-in_ok-named-in-Err-Unread-clause-stop : goal.returns-in_ok-named-in-Err-Unread-clause-stop
returns-in_ok-named-in-Err-Unread-clause-stop g c =
    let files = g.F.Files in
    let names = names_of c.args.units.now in
    let name = string_bytes c.in_ok-named-in-Err-Unread.field-0 in
    let at : slice_get names c.in-Err-Unread.k ≡ Some name = c.in_ok-named-in-Err-Unread.ensures in
    let is : c.in-Err-Unread.field-0 ≡ read.Unread c.in-Err-Unread.k = search rules in (
      one_at names c.in-Err-Unread.k name at,
      unread (files.told c.args.files.now) names (files.read_faults c.args.files.now)
          (files.read_faults c.read_files.new.files) (files.fault_name c.read_files.new.files) c.in-Err-Unread.k name at
          c.in-Err-Unread.field-0 is c.in-Err-Unread.ensures.stop,
    )

pub returns-in_ok-named-in-Err-TooLong-clause-stop : goal.returns-in_ok-named-in-Err-TooLong-clause-stop
returns-in_ok-named-in-Err-TooLong-clause-stop g c =
    let files = g.F.Files in
    let names = names_of c.args.units.now in
    let name = string_bytes c.in_ok-named-in-Err-TooLong.field-0 in
    let at : slice_get names c.in-Err-TooLong.k ≡ Some name = c.in_ok-named-in-Err-TooLong.ensures in
    let is : c.in-Err-TooLong.field-0 ≡ read.TooLong c.in-Err-TooLong.k = search rules in (
      one_at names c.in-Err-TooLong.k name at,
      too_long (files.told c.args.files.now) names (files.read_faults c.args.files.now)
          (files.read_faults c.read_files.new.files) (files.fault_name c.read_files.new.files) c.in-Err-TooLong.k name at
          c.in-Err-TooLong.field-0 is c.in-Err-TooLong.ensures.stop,
    )

pub returns-in_ok-named-in-Err-Past-clause-stop : goal.returns-in_ok-named-in-Err-Past-clause-stop
returns-in_ok-named-in-Err-Past-clause-stop g c =
    let files = g.F.Files in
    let names = names_of c.args.units.now in
    let name = string_bytes c.in_ok-named-in-Err-Past.field-0 in
    let at : slice_get names c.in-Err-Past.k ≡ Some name = c.in_ok-named-in-Err-Past.ensures in
    let is : c.in-Err-Past.field-0 ≡ read.Past c.in-Err-Past.k c.in-Err-Past.place = search rules in
    let few : length names ≤ 16 = omega (arith, length-names c.args.units.now, c.requires) in (
      one_at names c.in-Err-Past.k name at,
      past (files.told c.args.files.now) names (files.read_faults c.args.files.now)
          (files.read_faults c.read_files.new.files) (files.fault_name c.read_files.new.files) c.in-Err-Past.k name at
          c.in-Err-Past.field-0 c.in-Err-Past.place is few c.in-Err-Past.ensures.stop,
    )

pub returns-in_ok-named-in-Err-Unread-clause-tried : goal.returns-in_ok-named-in-Err-Unread-clause-tried
returns-in_ok-named-in-Err-Unread-clause-tried g c =
    let files = g.F.Files in
    let names = names_of c.args.units.now in
    let name = string_bytes c.in_ok-named-in-Err-Unread.field-0 in
    let at : slice_get names c.in-Err-Unread.k ≡ Some name = c.in_ok-named-in-Err-Unread.ensures in
    let is : c.in-Err-Unread.field-0 ≡ read.Unread c.in-Err-Unread.k = search rules in
    passed_so (files.trace c.args.files.now) (files.trace c.read_files.new.files)
    (ReadsSome most_unit_bytes most_units_bytes names c.in-Err-Unread.field-0) (GivesUnits names (NoUnit name))
    (λ events. unread_tried names c.in-Err-Unread.k name at events c.in-Err-Unread.field-0 is) c.in-Err-Unread.ensures.tried

pub returns-in_ok-named-in-Err-TooLong-clause-tried : goal.returns-in_ok-named-in-Err-TooLong-clause-tried
returns-in_ok-named-in-Err-TooLong-clause-tried g c =
    let files = g.F.Files in
    let names = names_of c.args.units.now in
    let name = string_bytes c.in_ok-named-in-Err-TooLong.field-0 in
    let at : slice_get names c.in-Err-TooLong.k ≡ Some name = c.in_ok-named-in-Err-TooLong.ensures in
    let is : c.in-Err-TooLong.field-0 ≡ read.TooLong c.in-Err-TooLong.k = search rules in
    passed_so (files.trace c.args.files.now) (files.trace c.read_files.new.files)
    (ReadsSome most_unit_bytes most_units_bytes names c.in-Err-TooLong.field-0) (GivesUnits names (UnitTooLong name))
    (λ events. long_tried names c.in-Err-TooLong.k name at events c.in-Err-TooLong.field-0 is) c.in-Err-TooLong.ensures.tried

pub returns-in_ok-named-in-Err-Past-clause-tried : goal.returns-in_ok-named-in-Err-Past-clause-tried
returns-in_ok-named-in-Err-Past-clause-tried g c =
    let files = g.F.Files in
    let names = names_of c.args.units.now in
    let name = string_bytes c.in_ok-named-in-Err-Past.field-0 in
    let at : slice_get names c.in-Err-Past.k ≡ Some name = c.in_ok-named-in-Err-Past.ensures in
    let is : c.in-Err-Past.field-0 ≡ read.Past c.in-Err-Past.k c.in-Err-Past.place = search rules in
    passed_so (files.trace c.args.files.now) (files.trace c.read_files.new.files)
    (ReadsSome most_unit_bytes most_units_bytes names c.in-Err-Past.field-0) (GivesUnits names (UnitTooLong name))
    (λ events. past_tried names c.in-Err-Past.k name at events c.in-Err-Past.field-0 c.in-Err-Past.place is) c.in-Err-Past.ensures.tried

pub returns-in_err-named-in-Err-Unread-clause-tried : goal.returns-in_err-named-in-Err-Unread-clause-tried
returns-in_err-named-in-Err-Unread-clause-tried g c =
    let names = names_of c.args.units.now in
    let p = err_from_is_err_and c.from_residual.result c.from_residual.ensures.1 in
    rw (p.1, p.2)
    (passed_so (g.F.Files.trace c.args.files.now) (g.F.Files.trace c.read_files.new.files)
    (ReadsSome most_unit_bytes most_units_bytes names c.in-Err-Unread.field-0) (ReadsInOrder (limited most_unit_bytes names))
    (some_in_order most_unit_bytes most_units_bytes names c.in-Err-Unread.field-0) c.in-Err-Unread.ensures.tried)

pub returns-in_err-named-in-Err-TooLong-clause-tried : goal.returns-in_err-named-in-Err-TooLong-clause-tried
returns-in_err-named-in-Err-TooLong-clause-tried g c =
    let names = names_of c.args.units.now in
    let p = err_from_is_err_and c.from_residual-in_err-named-in-Err-TooLong.result c.from_residual-in_err-named-in-Err-TooLong.ensures.1 in
    rw (p.1, p.2)
    (passed_so (g.F.Files.trace c.args.files.now) (g.F.Files.trace c.read_files.new.files)
    (ReadsSome most_unit_bytes most_units_bytes names c.in-Err-TooLong.field-0) (ReadsInOrder (limited most_unit_bytes names))
    (some_in_order most_unit_bytes most_units_bytes names c.in-Err-TooLong.field-0) c.in-Err-TooLong.ensures.tried)

pub returns-in_err-named-in-Err-Past-clause-tried : goal.returns-in_err-named-in-Err-Past-clause-tried
returns-in_err-named-in-Err-Past-clause-tried g c =
    let names = names_of c.args.units.now in
    let p = err_from_is_err_and c.from_residual-in_err-named-in-Err-Past.result c.from_residual-in_err-named-in-Err-Past.ensures.1 in
    rw (p.1, p.2)
    (passed_so (g.F.Files.trace c.args.files.now) (g.F.Files.trace c.read_files.new.files)
    (ReadsSome most_unit_bytes most_units_bytes names c.in-Err-Past.field-0) (ReadsInOrder (limited most_unit_bytes names))
    (some_in_order most_unit_bytes most_units_bytes names c.in-Err-Past.field-0) c.in-Err-Past.ensures.tried)

pub returns-in-Err-Memory-clause-tried : goal.returns-in-Err-Memory-clause-tried
returns-in-Err-Memory-clause-tried g c =
    let names = names_of c.args.units.now in
    passed_so (g.F.Files.trace c.args.files.now) (g.F.Files.trace c.read_files.new.files)
    (ReadsSome most_unit_bytes most_units_bytes names c.in-Err-Memory.field-0) (ReadsInOrder (limited most_unit_bytes names))
    (some_in_order most_unit_bytes most_units_bytes names c.in-Err-Memory.field-0) c.in-Err-Memory.ensures.tried

pub named-requires-in-Err-TooLong : goal.named-requires-in-Err-TooLong
named-requires-in-Err-TooLong g c =
    let is : c.in-Err-TooLong.field-0 ≡ read.TooLong c.in-Err-TooLong.k = c.in-Err-TooLong.field-0-is in
    let within = long_within most_unit_bytes most_units_bytes (g.F.Files.told c.args.files.now) (names_of c.args.units.now)
    (g.F.Files.read_faults c.args.files.now) (g.F.Files.read_faults c.read_files.new.files) (g.F.Files.fault_name c.read_files.new.files)
    c.in-Err-TooLong.k c.in-Err-TooLong.field-0 c.in-Err-TooLong.ensures.stop is in
    omega (arith, within, length-names c.args.units.now)

pub named-requires-in-Err-Past : goal.named-requires-in-Err-Past
named-requires-in-Err-Past g c =
    let is : c.in-Err-Past.field-0 ≡ read.Past c.in-Err-Past.k c.in-Err-Past.place = c.in-Err-Past.field-0-is in
    let within = past_within most_unit_bytes most_units_bytes (g.F.Files.told c.args.files.now) (names_of c.args.units.now)
    (g.F.Files.read_faults c.args.files.now) (g.F.Files.read_faults c.read_files.new.files) (g.F.Files.fault_name c.read_files.new.files)
    c.in-Err-Past.k c.in-Err-Past.field-0 c.in-Err-Past.ensures.stop c.in-Err-Past.place is in
    omega (arith, within, length-names c.args.units.now)
