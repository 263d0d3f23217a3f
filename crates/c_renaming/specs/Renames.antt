-- What a renaming has to keep, so that the second program runs as the first does.
use Rattle.std.specs.Prelude.{◌≡◌, ℕ, true, false, List, map, bytes_eq, option_map}
use Rattle.w2c_base.specs.Run.{Reply}
use Rattle.c_tree.specs.Runtime.{depth_name}
use Rattle.c_meaning.specs.State.{Name, ObjectAddress, UnitFunc}
use Rattle.c_meaning.specs.Linking.{Program, SymbolCall, func_named, array_named, definition_at, func_type, init_functions, called_func}
use Rattle.c_meaning.specs.Machine.{fresh}
use Rattle.c_meaning.specs.Primitives.{primitive}
use Rattle.c_renaming.specs.Renaming.{Renaming, address}
use Rattle.c_renaming.specs.Renamed as renamed
use Rattle.c_renaming.specs.Kept.{Each, Holds, KeptFunc, KeptDefinition}
use Rattle.c_renaming.specs.Same.{SameMachine}

-- names that differ stay so, and w2c_depth stays
pub record KeepsNames (ρ : Renaming) : Type 0 where
  pub vars : (u : ℕ) (x y : Name) → bytes_eq (ρ.var u x) (ρ.var u y) ≡ bytes_eq x y
  pub labels : (u : ℕ) (x y : Name) → bytes_eq (ρ.label u x) (ρ.label u y) ≡ bytes_eq x y
  pub depth : (u : ℕ) → ρ.var u depth_name ≡ depth_name
  pub objects : (a b : ObjectAddress) → ρ.object a ≡ ρ.object b → a ≡ b
  pub object_names : (u : ℕ) (x : Name) → bytes_eq x depth_name ≡ false
      → ρ.object (record { unit = u; name = x }) ≡ record { unit = ρ.unit u; name = ρ.var u x }

-- what the names of functions and arrays stand for
pub record KeepsMeanings (ρ : Renaming) (p q : Program) : Type 0 where
  pub hosts : q.hosts ≡ p.hosts
  pub primitives : (u : ℕ) (name : Name) → ρ.uses u name ≡ true → primitive (ρ.func u name) ≡ primitive name
  pub functions : (u : ℕ) (name : Name) → ρ.uses u name ≡ true
      → func_named q (ρ.unit u) (ρ.func u name) ≡ option_map (address ρ) (func_named p u name)
  pub functions_kept : (u : ℕ) (name : Name) → ρ.uses u name ≡ true → Holds (KeptFunc ρ) (func_named p u name)
  pub definitions : (u : ℕ) (name : Name) → ρ.defines u name ≡ true
      → definition_at q (ρ.unit u) (ρ.func u name) ≡ option_map (renamed.definition ρ u) (definition_at p u name)
  pub definitions_kept : (u : ℕ) (name : Name) → ρ.defines u name ≡ true → Holds (KeptDefinition ρ u) (definition_at p u name)
  pub types : (u : ℕ) (name : Name) → ρ.defines u name ≡ true
      → func_type q (UnitFunc (ρ.unit u) (ρ.func u name)) ≡ func_type p (UnitFunc u name)
  pub arrays : (u : ℕ) (name : Name) → array_named q (ρ.unit u) (ρ.var u name) ≡ array_named p u name

-- how runs begin
pub record KeepsBegins (ρ : Renaming) (p q : Program) : Type 0 where
  pub inits : init_functions q ≡ map (address ρ) (init_functions p)
  pub inits_kept : Each (KeptFunc ρ) (init_functions p)
  pub calls : (c : SymbolCall) → called_func q c ≡ option_map (address ρ) (called_func p c)
  pub calls_kept : (c : SymbolCall) → Holds (KeptFunc ρ) (called_func p c)
  pub machines : (replies : List Reply) → SameMachine ρ (fresh p replies) (fresh q replies)

pub record Renames (ρ : Renaming) (p q : Program) : Type 0 where
  pub names : KeepsNames ρ
  pub meanings : KeepsMeanings ρ p q
  pub begins : KeepsBegins ρ p q
