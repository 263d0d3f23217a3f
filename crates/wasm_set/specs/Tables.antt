-- The tables of a set: each finds what its module offers.
use Rattle.std.specs.Prelude.{◌≡◌, ℕ, List, length, slice_get, Option, Some}
use Rattle.w2c_base.specs.Lookup.{named}
use Rattle.wasm_tree.specs.declared.tree.Module.{Module}
use Rattle.wasm_set.specs.declared.set_module.SetModule.{SetModule}
use Rattle.wasm_set.specs.declared.offer.Offer.{Offer}
use Rattle.wasm_set.specs.Offers.{offers}

-- names, each with what is offered under it
abbrev pub OfferTable : Type 0
OfferTable = List (List ℕ × Option Offer)

abbrev pub Tells : OfferTable → Module → Type 0
Tells table m = (name : List ℕ) → named name table ≡ named name (offers m)

-- a table for each module, in their order
pub record AreTables (tables : List OfferTable) (modules : List SetModule) : Type 0 where
  pub count : length tables ≡ length modules
  pub each : (k : ℕ) (table : OfferTable) (m : SetModule) → slice_get tables k ≡ Some table → slice_get modules k ≡ Some m
      → Tells table m.«module»
