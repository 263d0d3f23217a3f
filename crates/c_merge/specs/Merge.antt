-- Linked units as one unit: the items of all units in their order. In those of unit j each name s of a static variable, an array, a
-- static function, a parameter, a local variable and a label is `u<j>_s`; external functions, the runtime's and w2c_depth stay.
use Rattle.std.specs.Prelude.{◌≡◌, ℕ, ◌||◌, Bool, false, List, [], ◌∷◌, bytes_eq, is_some, slice_get, Option, Some, None, option_map}
use Rattle.std.specs.List.{list_any}
use Rattle.w2c_base.specs.Lookup.{if_found, named}
use Rattle.w2c_base.specs.Run.{Reply}
use Rattle.c_tree.specs.Tree as tree
use Rattle.c_tree.specs.FirstBroken.{KeepsRules}
use Rattle.c_tree.specs.Runtime.{primitives}
use Rattle.c_meaning.specs.State.{Name}
use Rattle.c_meaning.specs.Linking.{Program, SymbolCall, external_func, fits, func_type, link_refusal}
use Rattle.c_meaning.specs.Run.{c_run}
use Rattle.c_renaming.specs.Renaming.{Renaming, address}
use Rattle.c_renaming.specs.Merging.{merging, joined}
use Rattle.c_renaming.specs.NewNames.{is_outside, name_in}
use Rattle.c_renaming.specs.Same.{SameRun}

-- the functions that the text of a unit may name: those of the runtime, and those that the unit declares
abbrev pub declares : Name → tree.Item → Bool
declares name (tree.Array x count bytes) = false
declares name (tree.Var ty x number) = false
declares name (tree.Function f) = bytes_eq f.name name

abbrev pub may_be_named : Name → Option (List tree.Item) → Bool
may_be_named name None = false
may_be_named name (Some items) = is_some (named name primitives) || list_any (declares name) items

abbrev pub may_name : Program → ℕ → Name → Bool
may_name p u name = may_be_named name (slice_get p.units u)

-- where the items of the units go, and the new names
abbrev pub merge_names : Program → Renaming
merge_names p = merging p name_in is_outside (may_name p)

-- the one unit, in which hosts have no part
abbrev pub merged : List (List tree.Item) → List tree.Item
merged units = joined (merge_names (record { units = units; hosts = [] })) 0 units

-- the new names, which hang on no unit's items
abbrev pub new_names : Renaming
new_names = merge_names (record { units = []; hosts = [] })

-- the program of the one unit and the same hosts
abbrev pub as_one : Program → Program
as_one p = record { units = merged p.units ∷ []; hosts = p.hosts }

-- units that link, and of which each keeps the rules
pub record AreLinked (p : Program) : Type 0 where
  pub kept : (u : ℕ) (items : List tree.Item) → slice_get p.units u ≡ Some items → KeepsRules items
  pub linked : link_refusal p ≡ None

-- a program links, and with the hosts of the units each name that these see in common stands for the function that it stood
-- for, of the same type; the same calls fit, and it runs as the units do, under the new names
pub record RunsAsUnits (p one : Program) : Type 0 where
  pub links : link_refusal one ≡ None
  pub found : (x : Name) → external_func one x ≡ option_map (address (merge_names p)) (external_func p x)
  pub typed : (x : Name) → if_found (external_func one x) (func_type one) ≡ if_found (external_func p x) (func_type p)
  pub calls : (c : SymbolCall) → fits one c ≡ fits p c
  pub runs : (calls : List SymbolCall) (m : ℕ) (replies : List Reply)
      → SameRun (merge_names p) (c_run p calls m replies) (c_run one calls m replies)
