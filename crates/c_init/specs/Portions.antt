-- The entries that a part of the init function is about, and what it does with them.
use Rattle.std.specs.Prelude.{ℕ, ◌+◌, ◌<◌, ◌≤◌, Bool, true, false, List, [], ◌∷◌, length, take, drop, zip, flat_map, ⊤}
use Rattle.std.specs.Prelude.{if◌then◌else◌}
use Rattle.std.specs.Borrow.{Bor}
use Rattle.std.specs.List.{AllByRecursion, list_any, range_with_len}
use Rattle.wasm_tree.specs.declared.tree.Module.{Module}
use Rattle.wasm_tree.specs.declared.entries.ElementEntry.{ElementEntry}
use Rattle.wasm_tree.specs.declared.entries.SegmentEntry.{SegmentEntry}
use Rattle.c_init.specs.declared.portion.Portion.{Portion}
use Rattle.c_init.specs.declared.portion.Portion.TheVariants.{Globals, ElementBounds, DataBounds, Elements, Bytes}
use Rattle.c_init.specs.Init.{Part, Element, most, elements_in, globals_part, element_tests_part, data_tests_part, elements_part}
use Rattle.c_init.specs.Init.{bytes_part}
use Rattle.c_init.specs.Init.{has_bytes}

-- entries with their numbers from one on
abbrev pub numbered_from : {A : Type 0} → ℕ → List A → List (ℕ × A)
numbered_from k items = zip (range_with_len k (length items)) items

-- the elements of these segments from one with a number on
abbrev pub elements_behind : ℕ → List ElementEntry → List Element
elements_behind number elements = drop number (flat_map elements_in elements)

-- the first of these segments has an element with this number
abbrev pub Starts : ℕ → List ElementEntry → Type 0
Starts number [] = ⊤
Starts number (e ∷ elements) = number < length e.funcs

abbrev pub part_of : Module → Portion → Part
part_of m (Globals from globals) = globals_part m (numbered_from from globals.now)
part_of m (ElementBounds elements) = element_tests_part m elements.now
part_of m (DataBounds segments) = data_tests_part m segments.now
part_of m (Elements elements number) = elements_part m (take most (elements_behind number elements.now))
part_of m (Bytes from segments) = bytes_part m (numbered_from from segments.now)

-- it tests bounds
abbrev pub tests_of : Portion → Bool
tests_of (Globals from globals) = false
tests_of (ElementBounds elements) = true
tests_of (DataBounds segments) = true
tests_of (Elements elements number) = false
tests_of (Bytes from segments) = false

-- the entries with their numbers are among the module's
abbrev pub IsOf : Module → Portion → Type 0
IsOf m (Globals from globals) = from + length globals.now ≤ length m.globals
IsOf m (ElementBounds elements) = ⊤
IsOf m (DataBounds segments) = ⊤
IsOf m (Elements elements number) = ⊤
IsOf m (Bytes from segments) = from + length segments.now ≤ length m.segments

-- where the portions before are of the module, so are those after
abbrev pub Owns : Module → List Portion → List Portion → Type 0
Owns m before after = AllByRecursion (IsOf m) before → AllByRecursion (IsOf m) after

-- a piece of the segments, where it has bytes
abbrev pub bytes_if : ℕ → Bor (List SegmentEntry) → List Portion
bytes_if from segments = if list_any has_bytes segments.now then Bytes from segments ∷ [] else []
