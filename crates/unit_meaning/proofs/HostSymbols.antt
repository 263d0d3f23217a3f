-- An import that a host offers is reached by its symbol.
use Rattle.unit_meaning.proofs.Common.{◌≡◌, ℕ, zero, suc, ◌+◌, ◌<◌, Bool, true, false, ◌≢◌, List, [], ◌∷◌, map, length, is_some}
use Rattle.unit_meaning.proofs.Common.{if◌then◌else◌, slice_get, Some, None, All, filter, Option, option_map, find, zip, flat_map, bytes_eq}
use Rattle.unit_meaning.proofs.Common.{sym, refl, ap, ◌∙◌, subst, arith, bytes_eq-Decides, AllByRecursion, position_from, range_with_len}
use Rattle.unit_meaning.proofs.Common.{option_or, all_at, if_found, numbered, Host, HostFunction, export_symbol_of-injective}
use Rattle.unit_meaning.proofs.Common.{export_symbol_of, Func, External, LinkedSet, offered, bytes_differ, bytes_equal, HostSymbol}
use Rattle.unit_meaning.proofs.Common.{c_params_of, c_result_of, defined_for_all, external_func, host_symbol, host_symbols, HostFunc}
use Rattle.unit_meaning.proofs.Common.{get_unmapped, IsAcceptedSet, program_of}
use Rattle.wasm_meaning.specs.LinkedSet as link
use Rattle.c_meaning.specs.State.{Name}
use Rattle.unit_definition.proofs.Found.{find_join, position_none, find_none, none_before}
use Rattle.unit_meaning.proofs.Linked.{module_is_no_host}
use Rattle.unit_meaning.proofs.External.{units_of, others_undefined}

-- where a position was found
pub record PositionAt {A : Type 0} (p : A → Bool) (k : ℕ) (xs : List A) (j : ℕ) : Type 0 where
  pub place : ℕ
  pub at : j ≡ k + place
  pub one : A
  pub is : slice_get xs place ≡ Some one
  pub passes : p one ≡ true
  pub before : (i : ℕ) (b : A) → i < place → slice_get xs i ≡ Some b → p b ≡ false

pub position_first : {A : Type 0} (p : A → Bool) (k : ℕ) (xs : List A) (j : ℕ) → position_from p k xs ≡ Some j → PositionAt p k xs j
position_first p k [] j found = absurd (cc)
position_first {A} p k (x ∷ xs) j found = go (p x) refl found (position_first p (k + 1) xs j)
  where
    go : (b : Bool) → p x ≡ b → (if b then Some k else position_from p (k + 1) xs) ≡ Some j
        → (position_from p (k + 1) xs ≡ Some j → PositionAt p (k + 1) xs j) → PositionAt p k (x ∷ xs) j
    go true e found others = let same : k ≡ j = cc in record
        { place = 0; at = omega (arith, same); one = x; is = refl; passes = e; before = λ i b less is. absurd (omega (arith, less)) }
    go false e found others = behind (others found)
      where
        behind : PositionAt p (k + 1) xs j → PositionAt p k (x ∷ xs) j
        behind h = record {
          place = suc h.place;
          at = omega (arith, h.at);
          one = h.one;
          is = h.is;
          passes = h.passes;
          before = none_before p x xs e h.place h.before;
        }

-- the first that a filter leaves
pub first_is_found : {A : Type 0} (p : A → Bool) (xs : List A) → slice_get (filter p xs) 0 ≡ find p xs
first_is_found p [] = refl
first_is_found p (x ∷ xs) = grind (arith, first_is_found p xs)

-- a function of a host
abbrev pub offered_symbol : ℕ → Host → ℕ × HostFunction → HostSymbol
offered_symbol h host f = record {
  symbol = export_symbol_of host.name Func f.1.name;
  address = HostFunc h f.0;
  ty = record { params = c_params_of f.1.ty.params; result = c_result_of f.1.ty.result };
}

abbrev pub symbols_of : ℕ × Host → List HostSymbol
symbols_of h = map (offered_symbol h.0 h.1) (numbered h.1.functions)

abbrev pub asks_for : Name → HostSymbol → Bool
asks_for name s = bytes_eq s.symbol name

-- among a host's functions
function_found : (h : ℕ) (host : Host) (k : ℕ) (functions : List HostFunction) (place : ℕ) (f : HostFunction) → All (λ b. b < 256) host.name
    → slice_get functions place ≡ Some f
    → ((i : ℕ) (g : HostFunction) → i < place → slice_get functions i ≡ Some g → bytes_eq g.name f.name ≡ false)
    → find (asks_for (export_symbol_of host.name Func f.name))
    (map (offered_symbol h host) (zip (range_with_len k (length functions)) functions)) ≡ Some (offered_symbol h host (k + place, f))
function_found h host k [] place f small is before = absurd (cc)
function_found h host k (g ∷ functions) zero f small is before =
    let same : g ≡ f = cc in
    let passes : asks_for (export_symbol_of host.name Func f.name) (offered_symbol h host (k, g)) ≡ true
    = ap (λ (x : HostFunction). bytes_eq (export_symbol_of host.name Func x.name) (export_symbol_of host.name Func f.name)) same
    ∙ bytes_equal (export_symbol_of host.name Func f.name) in
    let e : k ≡ k + 0 = omega arith in
    rw passes (ap (λ (x : HostFunction). Some (offered_symbol h host (k, x))) same ∙ ap (λ (i : ℕ). Some (offered_symbol h host (i, f))) e)
function_found h host k (g ∷ functions) (suc place) f small is before =
    let differs : asks_for (export_symbol_of host.name Func f.name) (offered_symbol h host (k, g)) ≡ false
    = bytes_differ (export_symbol_of host.name Func g.name) (export_symbol_of host.name Func f.name) (λ e.
    let names : g.name ≡ f.name = (export_symbol_of-injective host.name host.name Func Func g.name f.name small small e).2 in
    let equal : bytes_eq g.name f.name ≡ true = (bytes_eq-Decides g.name f.name).1 names in
    let wrong : true ≡ false = sym equal ∙ before 0 g (omega arith) refl in
    cc) in
    let e : k + 1 + place ≡ k + suc place = omega arith in
    rw differs (function_found h host (k + 1) functions place f small is (λ i b less. before (suc i) b (omega (arith, less)))
    ∙ ap (λ (i : ℕ). Some (offered_symbol h host (i, f))) e)

-- no function of another host has the symbol
other_host : (h : ℕ) (other host : Host) (field : Name) → All (λ b. b < 256) other.name → All (λ b. b < 256) host.name
    → other.name ≢ host.name → find (asks_for (export_symbol_of host.name Func field)) (symbols_of (h, other)) ≡ None
other_host h other host field small small' differ = find_none (asks_for (export_symbol_of host.name Func field))
    (symbols_of (h, other)) (λ i x is.
    let f = get_unmapped (offered_symbol h other) (numbered other.functions) i x is in
    ap (asks_for (export_symbol_of host.name Func field)) (sym f.2)
    ∙ bytes_differ (export_symbol_of other.name Func f.0.1.name) (export_symbol_of host.name Func field)
    (λ e. differ (export_symbol_of-injective other.name host.name Func Func f.0.1.name field small small' e).0))

host_found : (k : ℕ) (hosts : List Host) (place : ℕ) (host : Host) (field : Name) (x : HostSymbol) → All (λ b. b < 256) host.name
    → AllByRecursion (λ (h : Host). All (λ b. b < 256) h.name) hosts → slice_get hosts place ≡ Some host
    → ((i : ℕ) (b : Host) → i < place → slice_get hosts i ≡ Some b → b.name ≢ host.name)
    → find (asks_for (export_symbol_of host.name Func field)) (symbols_of (k + place, host)) ≡ Some x
    → find (asks_for (export_symbol_of host.name Func field)) (flat_map symbols_of (zip (range_with_len k (length hosts)) hosts)) ≡ Some x
host_found k [] place host field x small all is before found = absurd (cc)
host_found k (b ∷ hosts) zero host field x small all is before found =
    let same : b ≡ host = cc in
    let e : k + 0 ≡ k = omega arith in
    let first : find (asks_for (export_symbol_of host.name Func field)) (symbols_of (k, b)) ≡ Some x
    = ap (λ (o : Host). find (asks_for (export_symbol_of host.name Func field)) (symbols_of (k, o))) same
    ∙ ap (λ (i : ℕ). find (asks_for (export_symbol_of host.name Func field)) (symbols_of (i, host))) (sym e) ∙ found in
    find_join (asks_for (export_symbol_of host.name Func field)) (symbols_of (k, b))
    (flat_map symbols_of (zip (range_with_len (k + 1) (length hosts)) hosts))
    ∙ ap (λ (o : Option HostSymbol). option_or o (find (asks_for (export_symbol_of host.name Func field))
    (flat_map symbols_of (zip (range_with_len (k + 1) (length hosts)) hosts)))) first
host_found k (b ∷ hosts) (suc place) host field x small all is before found =
    let none = other_host k b host field all.0 small (before 0 b (omega arith) refl) in
    let e : k + suc place ≡ k + 1 + place = omega arith in
    find_join (asks_for (export_symbol_of host.name Func field)) (symbols_of (k, b))
    (flat_map symbols_of (zip (range_with_len (k + 1) (length hosts)) hosts))
    ∙ ap (λ (o : Option HostSymbol). option_or o (find (asks_for (export_symbol_of host.name Func field))
    (flat_map symbols_of (zip (range_with_len (k + 1) (length hosts)) hosts)))) none
    ∙ host_found (k + 1) hosts place host field x small all.1 is (λ i c less. before (suc i) c (omega (arith, less)))
    (ap (λ (i : ℕ). find (asks_for (export_symbol_of host.name Func field)) (symbols_of (i, host))) (sym e) ∙ found)

-- ---- what is offered

pub record OfferedBy (s : LinkedSet) (host_name name : Name) (o : External) : Type 0 where
  pub host : ℕ
  pub one : Host
  pub host_is : slice_get s.hosts host ≡ Some one
  pub its_name : one.name ≡ host_name
  pub function : ℕ
  pub its : HostFunction
  pub function_is : slice_get one.functions function ≡ Some its
  pub stands : o ≡ link.IsFunc (link.HostFunc host function)
  pub reached : external_func (program_of s) (export_symbol_of host_name Func name) ≡ Some (HostFunc host function)

pub offered_by : (s : LinkedSet) → IsAcceptedSet s → (host_name name : Name) (o : External) → offered s.hosts host_name name ≡ Some o
    → OfferedBy s host_name name o
offered_by s accepted host_name name o found = of_host (position_from (λ (h : Host). bytes_eq h.name host_name) 0 s.hosts) refl found
  where
    of_function : (q : ℕ) (h : PositionAt (λ (h : Host). bytes_eq h.name host_name) 0 s.hosts q) → (f : Option ℕ)
        → position_from (λ (f : HostFunction). bytes_eq f.name name) 0 h.one.functions ≡ f
        → option_map (λ f. link.IsFunc (link.HostFunc h.place f)) f ≡ Some o → OfferedBy s host_name name o
    of_function q h None is found = absurd (cc)
    of_function q h (Some j) is found =
        let f = position_first (λ (f : HostFunction). bytes_eq f.name name) 0 h.one.functions j is in
        let e : j ≡ f.place = omega (arith, f.at) in
        let named_host : h.one.name ≡ host_name = (bytes_eq-Decides h.one.name host_name).0 h.passes in
        let named : f.one.name ≡ name = (bytes_eq-Decides f.one.name name).0 f.passes in
        let small = all_at (λ (h : Host). All (λ b. b < 256) h.name) s.hosts h.place h.one accepted.host_bytes h.is in
        let in_host = function_found h.place h.one 0 h.one.functions f.place f.one small f.is
        (λ i g less is. ap (bytes_eq g.name) named ∙ f.before i g less is) in
        let whole = host_found 0 s.hosts h.place h.one f.one.name
        (offered_symbol h.place h.one (0 + f.place, f.one)) small accepted.host_bytes h.is
        (λ i b less is same. let equal : bytes_eq b.name host_name ≡ true = (bytes_eq-Decides b.name host_name).1 (same ∙ named_host) in
        let wrong : true ≡ false = sym equal ∙ h.before i b less is in cc)
        (let z : 0 + h.place ≡ h.place = omega arith in ap
        (λ (i : ℕ). find (asks_for (export_symbol_of h.one.name Func f.one.name)) (symbols_of (i, h.one))) z ∙ in_host) in
        let no_unit : position_from (λ unit. is_some (defined_for_all unit (export_symbol_of h.one.name Func f.one.name))) 0
        (units_of s) ≡ None
        = position_none (λ unit. is_some (defined_for_all unit (export_symbol_of h.one.name Func f.one.name))) 0 (units_of s) (λ i unit is.
        others_undefined s accepted h.one.name small Func f.one.name i unit is
        (λ m m_is. module_is_no_host s accepted.linked i h.place m h.one m_is h.is)) in
        let by_host : host_symbol (program_of s) (export_symbol_of h.one.name Func f.one.name)
        ≡ Some (offered_symbol h.place h.one (0 + f.place, f.one))
        = first_is_found (asks_for (export_symbol_of h.one.name Func f.one.name)) (host_symbols s.hosts) ∙ whole in
        let reached : external_func (program_of s) (export_symbol_of h.one.name Func f.one.name) ≡ Some (HostFunc h.place (0 + f.place)) =
        rw (no_unit, by_host) refl in
        let z : 0 + f.place ≡ j = omega (arith, e) in
        record {
          host = h.place;
          one = h.one;
          host_is = h.is;
          its_name = named_host;
          function = j;
          its = f.one;
          function_is = ap (slice_get h.one.functions) e ∙ f.is;
          stands = let stands : link.IsFunc (link.HostFunc h.place j) ≡ o = cc in sym stands;
          reached = ap (λ (n : Name). external_func (program_of s) (export_symbol_of n Func name)) (sym named_host)
              ∙ ap (λ (n : Name). external_func (program_of s) (export_symbol_of h.one.name Func n)) (sym named) ∙ reached
              ∙ ap (λ (i : ℕ). Some (HostFunc h.place i)) z;
        }

    of_host : (h : Option ℕ) → position_from (λ (h : Host). bytes_eq h.name host_name) 0 s.hosts ≡ h
        → if_found h (λ h. if_found (slice_get s.hosts h) (λ host. option_map (λ f. link.IsFunc (link.HostFunc h f))
        (position_from (λ (f : HostFunction). bytes_eq f.name name) 0 host.functions))) ≡ Some o → OfferedBy s host_name name o
    of_host None is found = absurd (cc)
    of_host (Some j) is found =
        let h = position_first (λ (h : Host). bytes_eq h.name host_name) 0 s.hosts j is in
        let e : j ≡ h.place = omega (arith, h.at) in
        let host_is : slice_get s.hosts j ≡ Some h.one = ap (slice_get s.hosts) e ∙ h.is in
        of_function j h (position_from (λ (f : HostFunction). bytes_eq f.name name) 0 h.one.functions) refl
        (subst (λ (i : ℕ). option_map (λ f. link.IsFunc (link.HostFunc i f))
        (position_from (λ (f : HostFunction). bytes_eq f.name name) 0 h.one.functions) ≡ Some o) e
        (subst (λ (x : Option Host). if_found x (λ host. option_map (λ f. link.IsFunc (link.HostFunc j f))
        (position_from (λ (f : HostFunction). bytes_eq f.name name) 0 host.functions)) ≡ Some o) host_is found))
