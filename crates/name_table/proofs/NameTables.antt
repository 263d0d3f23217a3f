-- A table of names as its entries, in which each name stands once.
use Rattle.std.proofs.Common.{◌≡◌, ℕ, Bool, true, false, cond, if◌then◌else◌, List, [], ◌∷◌, ◌++◌, map, bytes_eq, is_some, Option, Some}
use Rattle.std.proofs.Common.{None, refl, ap, ◌∙◌, subst}
use Rattle.std.specs.Option.{option_or}
use Rattle.std.specs.Map.{lookup}
use Rattle.std.proofs.lemmas.Slice.Eq.{bytes_eq-Decides}
use Rattle.w2c_base.specs.Lookup.{named}
use Rattle.w2c_base.proofs.Tests.{bytes_eq-sym}

module _ {V T : Type 0} (bytes_of : V → List ℕ) where
  abbrev pub view : List (V × T) → List (List ℕ × T)
  view entries = map (λ (e : V × T). (bytes_of e.0, e.1)) entries

  -- what the map finds stands beside the name
  pub found : (name : List ℕ) (entries : List (V × T)) → lookup (λ k. bytes_eq name (bytes_of k)) entries ≡ named name (view entries)
  found name [] = refl
  found name (e ∷ entries) =
      ap (λ b. cond b (Some e.1) (lookup (λ k. bytes_eq name (bytes_of k)) entries)) (bytes_eq-sym name (bytes_of e.0))
      ∙ ap (cond (bytes_eq (bytes_of e.0) name) (Some e.1)) (found name entries)

  -- an entry at the end
  pub named-push : (name : List ℕ) (entries : List (V × T)) (new : V) (of : T)
      → named name (view (entries ++ (new, of) ∷ []))
      ≡ option_or (named name (view entries)) (if bytes_eq (bytes_of new) name then Some of else None)
  named-push name [] new of = refl
  named-push name (e ∷ entries) new of = go (bytes_eq (bytes_of e.0) name) (named-push name entries new of)
    where
      go : (b : Bool) → named name (view (entries ++ (new, of) ∷ []))
          ≡ option_or (named name (view entries)) (if bytes_eq (bytes_of new) name then Some of else None)
          → (if b then Some e.1 else named name (view (entries ++ (new, of) ∷ [])))
          ≡ option_or (if b then Some e.1 else named name (view entries)) (if bytes_eq (bytes_of new) name then Some of else None)
      go true behind = refl
      go false behind = behind

-- a name that is there already
pub nothing_new : {T : Type 0} (name q : List ℕ) (of : T) (table : List (List ℕ × T)) → is_some (named name table) ≡ true
    → named q table ≡ option_or (named q table) (if bytes_eq name q then Some of else None)
nothing_new {T} name q of table there = by_test (bytes_eq name q) refl
  where
    present : (o : Option T) → is_some o ≡ true → o ≡ option_or o (Some of)
    present (Some i) e = refl
    present None e = cc

    absent : (o : Option T) → o ≡ option_or o None
    absent (Some i) = refl
    absent None = refl

    by_test : (b : Bool) → bytes_eq name q ≡ b → named q table ≡ option_or (named q table) (if b then Some of else None)
    by_test true e = present (named q table) (subst (λ n. is_some (named n table) ≡ true) ((bytes_eq-Decides name q).0 e) there)
    by_test false e = absent (named q table)
