-- Where reading stops, by the name of the file.
use Rattle.wasm2c_cli.proofs.Common.{◌≡◌, ℕ, List, slice_get, Some, string_bytes, Option, sym, refl, ◌∙◌, subst, inl, inr, same_Some, Name}
use Rattle.wasm2c_cli.proofs.Common.{Told, Tells, one_at, ReadStop, most_module_bytes, IsAtFile, StopsAtLimit, StopsAtRead}
use Rattle.wasm2c_cli.proofs.Common.{StopsAtUnreadable, StopsByReading, most_set_bytes, PassesLimit, Reason, Stop}
use Rattle.w2c_files.specs.Stopping.{StopsAt}
use Rattle.w2c_files.specs.declared.reading.ReadStop.TheVariants as read
use Rattle.wasm2c_cli.specs.declared.stop.Stop.TheVariants as stops

module _ (told : Told) (names : List Name) (before after : ℕ) (named : Option Name) where
  abbrev At : ReadStop → Type 0
  At why = StopsAt most_module_bytes most_set_bytes told names before after named why

  pub at_file : (why : ReadStop) → At why → IsAtFile names why
  at_file (read.Unread k) (name, at, why) = (name, at)
  at_file (read.TooLong k) (name, at, why) = (name, at)
  at_file (read.Past k place) (few, name, at, why) = (few, name, at)
  at_file read.Memory why = tt

  -- ---- the stop

  stops_unread : (k : ℕ) (stop : Stop) → At (read.Unread k) → StopsAtUnreadable names k stop
      → StopsByReading told names before after named stop
  stops_unread k (stops.Unread name) (other, at', why) at =
      (one_at names k (string_bytes name) at, rw (same_Some other (string_bytes name) (sym at' ∙ at)) at why)
  stops_unread k stops.Memory why is = tt
  stops_unread k _ why is = absurd is

  stops_at_limit : (limit : Reason) (k : ℕ) (stop : Stop)
      → ((name : Name) → slice_get names k ≡ Some name → Tells told (λ contents. PassesLimit contents names name limit))
      → StopsAtLimit limit names k stop → StopsByReading told names before after named stop
  stops_at_limit limit k (stops.Refused name reason) passes (is, at) = (
    one_at names k (string_bytes name) at,
    λ contents tells.
        subst (λ (r : Reason). PassesLimit contents names (string_bytes name) r) (sym is) (passes (string_bytes name) at contents tells),
  )
  stops_at_limit limit k stops.Memory passes is = tt
  stops_at_limit limit k _ passes is = absurd is

  pub reading_stops : (why : ReadStop) (stop : Stop) → At why → StopsAtRead why names stop
      → StopsByReading told names before after named stop
  reading_stops (read.Unread k) stop why is = stops_unread k stop why is
  reading_stops (read.TooLong k) stop (other, at', why) is = stops_at_limit _ k stop
      (λ name at contents tells. inl (rw (same_Some other name (sym at' ∙ at)) at (why contents tells), refl)) is
  reading_stops (read.Past k place) stop (few, other, at', why) is = stops_at_limit _ k stop
      (λ name at contents tells. inr (place, rw (same_Some other name (sym at' ∙ at)) at (why contents tells), refl)) is
  reading_stops read.Memory stop why is = subst (StopsByReading told names before after named) (sym is) tt
