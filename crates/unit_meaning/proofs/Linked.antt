-- In a linked set names tell modules and hosts apart, and an export that is found is the first of its name
-- of the one module of that name.
use Rattle.w2c_base.proofs.Places.{get_before}
use Rattle.unit_definition.proofs.Found.{FirstAt, found_first}
use Rattle.unit_meaning.proofs.Common.{◌≡◌, ℕ, zero, suc, ◌+◌, ◌<◌, ◌≢◌, ◌⊎◌, List, [], ◌∷◌, ◌++◌, map, length, take, slice_get, Some, None}
use Rattle.unit_meaning.proofs.Common.{Option, find, bytes_eq, sym, refl, ap, ◌∙◌, inl, inr, arith, length-append, slice_get_within}
use Rattle.unit_meaning.proofs.Common.{bytes_eq-Decides, all_at, get_within, AreDistinct, if_found, named, Host, External, Instance}
use Rattle.unit_meaning.proofs.Common.{IsLinked, LinkedSet, NamedModule, exported, instance_of, instances, instances_behind, get_behind}
use Rattle.unit_meaning.proofs.Common.{get_mapped, IsAccepted, IsAcceptedSet}
use Rattle.unit_meaning.proofs.Instances.{IsPlaced, IsExported, placed, instance_at, spaces_at, export_named, earlier_is}
use Rattle.c_init.proofs.Small.{some_same}

-- ---- names

distinct_before : (names : List (List ℕ)) (i j : ℕ) (a b : List ℕ) → AreDistinct names → slice_get names i ≡ Some a
    → slice_get names j ≡ Some b → i < j → a ≢ b
distinct_before [] i j a b distinct is is' less = absurd (cc)
distinct_before (x ∷ names) zero zero a b distinct is is' less = absurd (omega (arith, less))
distinct_before (x ∷ names) zero (suc j) a b distinct is is' less = let same : x ≡ a = cc in
    λ e. all_at (λ other. x ≢ other) names j b distinct.0 is' (same ∙ e)
distinct_before (x ∷ names) (suc i) zero a b distinct is is' less = absurd (omega (arith, less))
distinct_before (x ∷ names) (suc i) (suc j) a b distinct is is' less = distinct_before names i j a b distinct.1 is is' (omega (arith, less))

less_or_more : (i j : ℕ) → i ≢ j → (i < j) ⊎ (j < i)
less_or_more i j differ = grind (arith, differ)

pub distinct_at : (names : List (List ℕ)) (i j : ℕ) (a b : List ℕ) → AreDistinct names → slice_get names i ≡ Some a
    → slice_get names j ≡ Some b → i ≢ j → a ≢ b
distinct_at names i j a b distinct is is' differ = elim (less_or_more i j differ) [
  | inl less ↦ distinct_before names i j a b distinct is is' less
  | inr more ↦ λ e. distinct_before names j i b a distinct is' is more (sym e)
]

abbrev pub module_name : NamedModule → List ℕ
module_name m = m.name

abbrev pub host_name : Host → List ℕ
host_name h = h.name

pub modules_differ : (s : LinkedSet) → IsLinked s → (u v : ℕ) (m n : NamedModule) → slice_get s.modules u ≡ Some m
    → slice_get s.modules v ≡ Some n → u ≢ v → m.name ≢ n.name
modules_differ s linked u v m n is is' differ =
    let names : List (List ℕ) = map module_name s.modules in
    let hosts : List (List ℕ) = map host_name s.hosts in
    distinct_at (names ++ hosts) u v m.name n.name linked.names_differ
    (get_before names hosts u (slice_get_within names u m.name (get_mapped module_name s.modules u m is))
    ∙ get_mapped module_name s.modules u m is)
    (get_before names hosts v (slice_get_within names v n.name (get_mapped module_name s.modules v n is'))
    ∙ get_mapped module_name s.modules v n is')
    differ

pub module_is_no_host : (s : LinkedSet) → IsLinked s → (u h : ℕ) (m : NamedModule) (host : Host) → slice_get s.modules u ≡ Some m
    → slice_get s.hosts h ≡ Some host → m.name ≢ host.name
module_is_no_host s linked u h m host is is' =
    let names : List (List ℕ) = map module_name s.modules in
    let hosts : List (List ℕ) = map host_name s.hosts in
    let within = slice_get_within names u m.name (get_mapped module_name s.modules u m is) in
    distinct_at (names ++ hosts) u (length names + h) m.name host.name linked.names_differ
    (get_before names hosts u within ∙ get_mapped module_name s.modules u m is)
    (get_behind names hosts h ∙ get_mapped host_name s.hosts h host is') (λ e. absurd (omega (arith, within, e)))

pub accepted_at : (s : LinkedSet) → IsAcceptedSet s → (u : ℕ) (m : NamedModule) → slice_get s.modules u ≡ Some m → IsAccepted m
accepted_at s accepted u m is = all_at IsAccepted s.modules u m accepted.accepted is

-- ---- exports

count_instances : (hosts : List Host) (earlier : List Instance) (modules : List NamedModule)
    → length (instances_behind hosts earlier modules) ≡ length earlier + length modules
count_instances hosts earlier [] = omega arith
count_instances hosts earlier (m ∷ modules) = omega (
  arith,
  count_instances hosts (earlier ++ instance_of hosts earlier m ∷ []) modules,
  length-append earlier (instance_of hosts earlier m ∷ []),
)

-- the module that exports something under a name
pub record ExportedBy (s : LinkedSet) (many : ℕ) (module_name name : List ℕ) (o : External) : Type 0 where
  pub owner : ℕ
  pub early : owner < many
  pub exporter : NamedModule
  pub exporter_is : slice_get s.modules owner ≡ Some exporter
  pub its_name : exporter.name ≡ module_name
  pub at : IsPlaced s.hosts (instances s) owner exporter
  pub one : IsExported (spaces_at s owner exporter at) exporter.tree.exports name (Some o)

-- among the first instances
exported_among : (s : LinkedSet) (earlier : List Instance) (module_name name : List ℕ) (o : External)
    → ((v : ℕ) (i : Instance) → slice_get earlier v ≡ Some i → slice_get (instances s) v ≡ Some i)
    → exported earlier module_name name ≡ Some o → ExportedBy s (length earlier) module_name name o
exported_among s earlier module_name name o are found = go (find (λ (i : Instance). bytes_eq i.name module_name) earlier) refl found
  where
    by_name : (i : Instance) (e : Option (Option External)) → named name i.exports ≡ e → if_found e (λ x. x) ≡ Some o
        → named name i.exports ≡ Some (Some o)
    by_name i None is found = absurd (cc)
    by_name i (Some x) is found = is ∙ ap Some found

    of_first : (i : Instance) → FirstAt (λ (i : Instance). bytes_eq i.name module_name) earlier i
        → if_found (named name i.exports) (λ x. x) ≡ Some o → ExportedBy s (length earlier) module_name name o
    of_first i first found =
        let v : ℕ = first.place in
        let within : v < length earlier = slice_get_within earlier v i first.is in
        let whole : slice_get (instances s) v ≡ Some i = are v i first.is in
        let n = get_within s.modules v (omega (arith, slice_get_within (instances s) v i whole, count_instances s.hosts [] s.modules)) in
        let at : IsPlaced s.hosts (instances s) v n.0 = placed s v n.0 n.1 in
        let both : Some (instance_of s.hosts at.earlier n.0) ≡ Some i = sym (instance_at s v n.0 at) ∙ whole in
        let same : instance_of s.hosts at.earlier n.0 ≡ i = some_same both in
        record {
          owner = v;
          early = within;
          exporter = n.0;
          exporter_is = n.1;
          its_name = ap (λ (x : Instance). x.name) same ∙ (bytes_eq-Decides i.name module_name).0 first.passes;
          at = at;
          one = export_named (spaces_at s v n.0 at) n.0.tree.exports name (Some o)
              (ap (λ (x : Instance). named name x.exports) same ∙ by_name i (named name i.exports) refl found);
        }

    go : (x : Option Instance) → find (λ (i : Instance). bytes_eq i.name module_name) earlier ≡ x
        → if_found x (λ i. if_found (named name i.exports) (λ e. e)) ≡ Some o → ExportedBy s (length earlier) module_name name o
    go None is found = absurd (cc)
    go (Some i) is found = of_first i (found_first (λ (i : Instance). bytes_eq i.name module_name) earlier i is) found

-- by any module of the set
pub exported_by : (s : LinkedSet) (module_name name : List ℕ) (o : External) → exported (instances s) module_name name ≡ Some o
    → ExportedBy s (length (instances s)) module_name name o
exported_by s module_name name o found = exported_among s (instances s) module_name name o (λ v i is. is) found

-- by one before the module with number u
pub exported_before : (s : LinkedSet) (u : ℕ) (m : NamedModule) → slice_get s.modules u ≡ Some m → (module_name name : List ℕ)
    (o : External) → exported (take u (instances s)) module_name name ≡ Some o → ExportedBy s u module_name name o
exported_before s u m is module_name name o found =
    let at : IsPlaced s.hosts (instances s) u m = placed s u m is in
    let h = exported_among s at.earlier module_name name o (λ v i there. ap (λ (all : List Instance). slice_get all v) at.whole
    ∙ get_before at.earlier _ v (slice_get_within at.earlier v i there) ∙ there)
    (ap (λ (l : List Instance). exported l module_name name) (sym (earlier_is s u m at)) ∙ found) in
    record {
      owner = h.owner;
      early = omega (arith, h.early, at.number);
      exporter = h.exporter;
      exporter_is = h.exporter_is;
      its_name = h.its_name;
      at = h.at;
      one = h.one;
    }
