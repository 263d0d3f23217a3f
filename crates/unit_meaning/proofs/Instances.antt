-- The instances of a linked set, module by module, and what its exports stand for.
use Rattle.unit_meaning.proofs.Common.{◌≡◌, ℕ, zero, suc, ◌+◌, ◌<◌, Bool, true, false, ◌≢◌, List, [], ◌∷◌, ◌++◌, map, length, take}
use Rattle.unit_meaning.proofs.Common.{if◌then◌else◌, slice_get, Some, Option, bytes_eq, sym, refl, ap, ◌∙◌, append_assoc, arith}
use Rattle.unit_meaning.proofs.Common.{length-append, bytes_eq-Decides, named, Host, Export, External, IndexSpaces, Instance, LinkedSet}
use Rattle.unit_meaning.proofs.Common.{NamedModule, export_of, instance_of, instances, instances_behind, meaning_of, spaces_of, take_front}
use Rattle.unit_meaning.proofs.Common.{behind_is, right_behind}

-- ---- lists

-- ---- an instance stands behind those of the earlier modules

pub record IsPlaced (hosts : List Host) (all : List Instance) (u : ℕ) (m : NamedModule) : Type 0 where
  pub earlier : List Instance
  pub others : List Instance
  pub whole : all ≡ earlier ++ instance_of hosts earlier m ∷ others
  pub number : length earlier ≡ u

placed_behind : (hosts : List Host) (earlier : List Instance) (modules : List NamedModule) (i : ℕ) (m : NamedModule)
    → slice_get modules i ≡ Some m → IsPlaced hosts (instances_behind hosts earlier modules) (length earlier + i) m
placed_behind hosts earlier [] i m is = absurd (cc)
placed_behind hosts earlier (n ∷ modules) zero m is =
    let same : n ≡ m = cc in
    let one : Instance = instance_of hosts earlier n in
    let h = behind_is hosts (earlier ++ one ∷ []) modules in
    record {
      earlier = earlier;
      others = h.0;
      whole = h.1 ∙ append_assoc earlier (one ∷ []) h.0 ∙ ap (λ (k : NamedModule). earlier ++ instance_of hosts earlier k ∷ h.0) same;
      number = omega arith;
    }
placed_behind hosts earlier (n ∷ modules) (suc i) m is =
    let one : Instance = instance_of hosts earlier n in
    let h = placed_behind hosts (earlier ++ one ∷ []) modules i m is in
    record { earlier = h.earlier; others = h.others; whole = h.whole; number = omega (arith, h.number, length-append earlier (one ∷ [])) }

pub placed : (s : LinkedSet) (u : ℕ) (m : NamedModule) → slice_get s.modules u ≡ Some m → IsPlaced s.hosts (instances s) u m
placed s u m is =
    let h = placed_behind s.hosts [] s.modules u m is in
    record { earlier = h.earlier; others = h.others; whole = h.whole; number = omega (arith, h.number) }

pub instance_at : (s : LinkedSet) (u : ℕ) (m : NamedModule) (h : IsPlaced s.hosts (instances s) u m)
    → slice_get (instances s) u ≡ Some (instance_of s.hosts h.earlier m)
instance_at s u m h =
    ap (λ (is : List Instance). slice_get is u) h.whole
    ∙ ap (slice_get (h.earlier ++ instance_of s.hosts h.earlier m ∷ h.others)) (sym h.number)
    ∙ right_behind h.earlier (instance_of s.hosts h.earlier m) h.others

pub earlier_is : (s : LinkedSet) (u : ℕ) (m : NamedModule) (h : IsPlaced s.hosts (instances s) u m) → take u (instances s) ≡ h.earlier
earlier_is s u m h =
    ap (take u) h.whole ∙ ap (λ (k : ℕ). take k (h.earlier ++ instance_of s.hosts h.earlier m ∷ h.others)) (sym h.number)
    ∙ take_front h.earlier (instance_of s.hosts h.earlier m ∷ h.others)

-- the index spaces of a module
abbrev pub spaces_at : (s : LinkedSet) (u : ℕ) (m : NamedModule) → IsPlaced s.hosts (instances s) u m → IndexSpaces
spaces_at s u m h = spaces_of (meaning_of s.hosts h.earlier) (length h.earlier) m.tree

-- ---- exports

pub record IsExported (spaces : IndexSpaces) (exports : List Export) (name : List ℕ) (o : Option External) : Type 0 where
  pub place : ℕ
  pub one : Export
  pub is : slice_get exports place ≡ Some one
  pub name_is : one.name ≡ name
  pub stands : (export_of spaces one).1 ≡ o
  pub before : (i : ℕ) (b : Export) → i < place → slice_get exports i ≡ Some b → b.name ≢ name

pub export_named : (spaces : IndexSpaces) (exports : List Export) (name : List ℕ) (o : Option External)
    → named name (map (export_of spaces) exports) ≡ Some o → IsExported spaces exports name o
export_named spaces [] name o found = absurd (cc)
export_named spaces (e ∷ exports) name o found = go (bytes_eq e.name name) refl found (export_named spaces exports name o)
  where
    go : (b : Bool) → bytes_eq e.name name ≡ b → (if b then Some (export_of spaces e).1 else named name
        (map (export_of spaces) exports)) ≡ Some o
        → (named name (map (export_of spaces) exports) ≡ Some o → IsExported spaces exports name o) → IsExported spaces (e ∷ exports) name o
    go true same found others = record {
      place = 0;
      one = e;
      is = refl;
      name_is = (bytes_eq-Decides e.name name).0 same;
      stands = let i : (export_of spaces e).1 ≡ o = cc in i;
      before = λ i b less is. absurd (omega (arith, less));
    }
    go false differ found others = behind (others found)
      where
        behind : IsExported spaces exports name o → IsExported spaces (e ∷ exports) name o
        behind h = record
            { place = suc h.place; one = h.one; is = h.is; name_is = h.name_is; stands = h.stands; before = earlier h.place h.before }
          where
            earlier : (place : ℕ) → ((i : ℕ) (b : Export) → i < place → slice_get exports i ≡ Some b → b.name ≢ name) → (i : ℕ) (b : Export)
                → i < suc place → slice_get (e ∷ exports) i ≡ Some b → b.name ≢ name
            earlier place before zero b less is e' =
                let same : e ≡ b = cc in
                let equal : bytes_eq e.name name ≡ true = (bytes_eq-Decides e.name name).1 (ap (λ (x : Export). x.name) same ∙ e') in
                let wrong : true ≡ false = sym equal ∙ differ in cc
            earlier place before (suc i) b less is e' = before i b (omega (arith, less)) is e'
