-- What stands beside a name, behind a change of what stands beside one.
use Rattle.c_meaning.proofs.Common.{◌≡◌, ℕ, Bool, true, false, ◌≢◌, List, [], ◌∷◌, is_some, if◌then◌else◌, Some, bytes_eq, sym, refl, ap}
use Rattle.c_meaning.proofs.Common.{◌∙◌, subst, bytes_eq-Decides, named, with_named}
use Rattle.std.proofs.lemmas.Option.{same_Some}

pub bytes_equal : (name : List ℕ) → bytes_eq name name ≡ true
bytes_equal name = (bytes_eq-Decides name name).1 refl

pub bytes_differ : (name other : List ℕ) → name ≢ other → bytes_eq name other ≡ false
bytes_differ name other differ = go (bytes_eq name other) refl
  where
    go : (b : Bool) → bytes_eq name other ≡ b → bytes_eq name other ≡ false
    go true e = absurd (differ ((bytes_eq-Decides name other).0 e))
    go false e = e

-- what stands there already
pub with_same : {A : Type 0} (name : List ℕ) (v : A) (entries : List (List ℕ × A)) → named name entries ≡ Some v
    → with_named name v entries ≡ entries
with_same name v [] e = refl
with_same name v (x ∷ entries) e = go (bytes_eq x.0 name) (with_same name v entries) e
  where
    go : (b : Bool) → (named name entries ≡ Some v → with_named name v entries ≡ entries)
        → (if b then Some x.1 else named name entries) ≡ Some v
        → (if b then (x.0, v) ∷ entries else x ∷ with_named name v entries) ≡ x ∷ entries
    go true behind e = ap (λ w. (x.0, w) ∷ entries) (sym (same_Some x.1 v e))
    go false behind e = ap (λ ys. x ∷ ys) (behind e)

-- the changed name, where it was there
pub named-with_named : {A : Type 0} (name : List ℕ) (new : A) (entries : List (List ℕ × A)) → is_some (named name entries) ≡ true
    → named name (with_named name new entries) ≡ Some new
named-with_named name new [] there = cc
named-with_named name new (e ∷ entries) there = go (named-with_named name new entries) (bytes_eq e.0 name) refl
  where
    go : (is_some (named name entries) ≡ true → named name (with_named name new entries) ≡ Some new) → (b : Bool)
        → bytes_eq e.0 name ≡ b → named name (with_named name new (e ∷ entries)) ≡ Some new
    go behind true is = rw (is, is) refl
    go behind false is = rw (is, is) (behind (subst (λ (c : Bool). is_some (if c then Some e.1 else named name entries) ≡ true) is there))

-- another name
pub named-with_another : {A : Type 0} (name other : List ℕ) (new : A) (entries : List (List ℕ × A)) → name ≢ other
    → named name (with_named other new entries) ≡ named name entries
named-with_another name other new [] differ = refl
named-with_another name other new (e ∷ entries) differ = go (named-with_another name other new entries differ) (bytes_eq e.0 other) refl
  where
    by_test : named name (with_named other new entries) ≡ named name entries → (b : Bool)
        → (if b then Some e.1 else named name (with_named other new entries)) ≡ (if b then Some e.1 else named name entries)
    by_test behind true = refl
    by_test behind false = behind

    go : named name (with_named other new entries) ≡ named name entries → (b : Bool) → bytes_eq e.0 other ≡ b
        → named name (with_named other new (e ∷ entries)) ≡ named name (e ∷ entries)
    go behind true is =
        let not_this : bytes_eq e.0 name ≡ false = bytes_differ e.0 name (λ same. differ (sym same ∙ (bytes_eq-Decides e.0 other).0 is)) in
        rw (is, not_this) refl
    go behind false is = rw is (by_test behind (bytes_eq e.0 name))
