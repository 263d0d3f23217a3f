-- The instances of a set go together with its modules, as far as the imports of these resolve.
use Rattle.wasm_set.proofs.Common.{◌≡◌, ℕ, suc, ◌+◌, Bool, true, false, List, [], ◌∷◌, ◌++◌, map, length, take, if◌then◌else◌, slice_get}
use Rattle.wasm_set.proofs.Common.{Some, None, Option, find, bytes_eq, sym, refl, ap, ◌∙◌, subst, append_assoc, append-nil, arith}
use Rattle.wasm_set.proofs.Common.{length-append, take_at, AllByRecursion, if_found, named, Host, External, Instance, LinkedSet}
use Rattle.wasm_set.proofs.Common.{NamedModule, Resolves, export_of, exported, instance_of, instances, instances_behind, meaning_of}
use Rattle.wasm_set.proofs.Common.{module_at, spaces_of, module_named, offered, named_of, SetModule}
use Rattle.wasm_set.proofs.Pairs.{Together}
use Rattle.wasm_set.proofs.Stands.{Stands, name_stands}

-- instances of more modules stand behind the earlier ones
pub behind_is : (hosts : List Host) (earlier : List Instance) (modules : List NamedModule)
    → (rest : List Instance) × (instances_behind hosts earlier modules ≡ earlier ++ rest) × (length rest ≡ length modules)
behind_is hosts earlier [] = ([], sym (append-nil earlier), refl)
behind_is hosts earlier (m ∷ modules) =
    let i = instance_of hosts earlier m in
    let r = behind_is hosts (earlier ++ i ∷ []) modules in
    (i ∷ r.0, r.1 ∙ append_assoc earlier (i ∷ []) r.0, ap (λ n. suc n) r.2)

pub front_of : (hosts : List Host) (earlier : List Instance) (modules : List NamedModule)
    → take (length earlier) (instances_behind hosts earlier modules) ≡ earlier
front_of hosts earlier modules =
    let r = behind_is hosts earlier modules in
    ap (take (length earlier)) r.1 ∙ take_at earlier r.0 (length earlier) refl

-- an instance's exports stand as its module offers them
abbrev pub IsInstanceOf : LinkedSet → Instance → NamedModule → Type 0
IsInstanceOf s i m = (i.name ≡ m.name)
    × ((name : List ℕ) → Stands s m.tree (if_found (named name i.exports) (λ e. e)) (offered m.tree name))

-- a module of the set of which each import resolves
pub record IsSound (s : LinkedSet) (p : ℕ) (m : NamedModule) : Type 0 where
  pub is : module_at s p ≡ Some m.tree
  pub resolves : AllByRecursion (Resolves s p) m.tree.imports

instance_stands : (s : LinkedSet) (earlier : List Instance) (m : NamedModule) → take (length earlier) (instances s) ≡ earlier
    → IsSound s (length earlier) m → IsInstanceOf s (instance_of s.hosts earlier m) m
instance_stands s earlier m front sound = (
  refl,
  λ name. subst (λ (before : List Instance). Stands s m.tree (if_found (named name
      (map (export_of (spaces_of (meaning_of s.hosts before) (length earlier) m.tree)) m.tree.exports)) (λ e. e)) (offered m.tree name))
      front (name_stands s (length earlier) m.tree sound.is sound.resolves name),
)

-- the instances of the first modules, where others follow
pub record FirstStand (s : LinkedSet) (earlier : List Instance) (modules : List NamedModule) : Type 0 where
  pub own : List Instance
  pub front : take (length earlier + length modules) (instances s) ≡ earlier ++ own
  pub stand : Together (IsInstanceOf s) own modules

stand_behind : (s : LinkedSet) (earlier : List Instance) (modules others : List NamedModule)
    → instances s ≡ instances_behind s.hosts earlier (modules ++ others)
    → ((i : ℕ) (m : NamedModule) → slice_get modules i ≡ Some m → IsSound s (length earlier + i) m)
    → FirstStand s earlier modules
stand_behind s earlier [] others whole sound = record {
  own = [];
  front =
      let e : length earlier + 0 ≡ length earlier = omega arith in
      ap (λ n. take n (instances s)) e ∙ ap (take (length earlier)) whole ∙ front_of s.hosts earlier others
      ∙ sym (append-nil earlier);
  stand = tt;
}
stand_behind s earlier (m ∷ modules) others whole sound =
    let one : Instance = instance_of s.hosts earlier m in
    let more : length (earlier ++ one ∷ []) ≡ length earlier + 1 = length-append earlier (one ∷ []) in
    let here : length earlier + 0 ≡ length earlier = omega arith in
    let first : IsSound s (length earlier) m = subst (λ n. IsSound s n m) here (sound 0 m refl) in
    let front : take (length earlier) (instances s) ≡ earlier =
    ap (take (length earlier)) whole ∙ front_of s.hosts earlier (m ∷ modules ++ others) in
    let h = stand_behind s (earlier ++ one ∷ []) modules others whole (λ i n at.
    let e : length earlier + suc i ≡ length (earlier ++ one ∷ []) + i = omega (arith, more) in
    subst (λ k. IsSound s k n) e (sound (suc i) n at)) in
    let e : length earlier + suc (length modules) ≡ length (earlier ++ one ∷ []) + length modules = omega (arith, more) in
    record {
      own = one ∷ h.own;
      front = ap (λ n. take n (instances s)) e ∙ h.front ∙ append_assoc earlier (one ∷ []) h.own;
      stand = (instance_stands s earlier m front first, h.stand);
    }

-- the instances of the first modules of a set
pub first_stand : (s : LinkedSet) (modules others : List NamedModule) → s.modules ≡ modules ++ others
    → ((i : ℕ) (m : NamedModule) → slice_get modules i ≡ Some m → IsSound s i m)
    → (own : List Instance) × (take (length modules) (instances s) ≡ own) × Together (IsInstanceOf s) own modules
first_stand s modules others whole sound =
    let h = stand_behind s [] modules others (ap (instances_behind s.hosts []) whole) (λ i m at.
    let e : i ≡ 0 + i = omega arith in subst (λ k. IsSound s k m) e (sound i m at)) in
    let e : length modules ≡ 0 + length modules = omega arith in
    (h.own, ap (λ n. take n (instances s)) e ∙ h.front, h.stand)

-- ---- the export of a module that is looked up by name

-- what is exported, as the module of this name offers it
abbrev pub StandsIn : LinkedSet → Option External → Option SetModule → List ℕ → Type 0
StandsIn s o None name = o ≡ None
StandsIn s o (Some m) name = Stands s m.«module» o (offered m.«module» name)

pub found_stands : (s : LinkedSet) (all : List Instance) (modules : List SetModule)
    → Together (IsInstanceOf s) all (map named_of modules) → (module_name name : List ℕ)
    → StandsIn s (exported all module_name name) (module_named modules module_name) name
found_stands s [] [] h module_name name = refl
found_stands s [] (m ∷ modules) h module_name name = absurd h
found_stands s (i ∷ all) [] h module_name name = absurd h
found_stands s (i ∷ all) (m ∷ modules) h module_name name =
    subst (λ (n : List ℕ). StandsIn s
    (if_found (if bytes_eq n module_name then Some i else find (λ i. bytes_eq i.name module_name) all)
    (λ i. if_found (named name i.exports) (λ e. e)))
    (if bytes_eq m.name module_name then Some m else module_named modules module_name) name)
    (sym h.0.0) (by (bytes_eq m.name module_name) (found_stands s all modules h.1 module_name name))
  where
    by : (b : Bool) → StandsIn s (exported all module_name name) (module_named modules module_name) name
        → StandsIn s (if_found (if b then Some i else find (λ i. bytes_eq i.name module_name) all)
        (λ i. if_found (named name i.exports) (λ e. e)))
        (if b then Some m else module_named modules module_name) name
    by true others = h.0.1 name
    by false others = others
