-- Looking for a module by its name, and for what it offers.
use Rattle.wasm_set.proofs.Common.{◌≡◌, ℕ, zero, suc, ◌+◌, ◌<◌, ◌≤◌, Bool, true, false, ◌&&◌, List, [], ◌∷◌, ◌++◌, length, get_or, drop}
use Rattle.wasm_set.proofs.Common.{is_none, if◌then◌else◌, nat_lt, slice_get, Some, None, Option, option_map, bytes_eq, sym, refl, ap, ◌∙◌}
use Rattle.wasm_set.proofs.Common.{arith, length-append, at_drop_more, slice_get-get_or, list_all, named, Value, Import, Module, gives}
use Rattle.wasm_set.proofs.Common.{gives_if_any, is_given, may_join, module_named, module_takes, offer_takes, offered, offers, AreTables}
use Rattle.wasm_set.proofs.Common.{OfferTable, Offer, SetModule}
use Rattle.wasm_set.proofs.Joins.{LastCase, Earlier, Last, last_case}

-- the module at a place from which on the first of the name is looked for
pub named_here : (modules : List SetModule) (i : ℕ) (m : SetModule) (name : List ℕ) → i < length modules → m ≡ get_or modules i m
    → bytes_eq m.name name ≡ true → module_named (drop i modules) name ≡ module_named modules name
    → module_named modules name ≡ slice_get modules i
named_here modules i m name less is same so_far =
    sym so_far
    ∙ at_drop_more (λ (ms : List SetModule). module_named ms name) modules i m less
    ∙ ap (λ (x : SetModule). module_named (x ∷ drop (i + 1) modules) name) (sym is)
    ∙ ap (λ (b : Bool). if b then Some m else module_named (drop (i + 1) modules) name) same
    ∙ ap Some is ∙ sym (slice_get-get_or modules i m less)

-- there is a module at a place
there_is : (modules : List SetModule) (k : ℕ) → k < length modules → is_none (slice_get modules k) ≡ false
there_is [] k less = absurd (omega (arith, less))
there_is (m ∷ modules) zero less = refl
there_is (m ∷ modules) (suc k) less = there_is modules k (omega (arith, less))

-- no module joins under a name that another has
pub taken_name : (modules : List SetModule) (name : List ℕ) (m : Module) (k : ℕ) → k < length modules
    → module_named modules name ≡ slice_get modules k → false ≡ may_join modules name m
taken_name modules name m k less found =
    by (nat_lt (length modules) 16) (is_none (module_named modules name)) (list_all (is_given modules m) m.imports)
    (ap is_none found ∙ there_is modules k less)
  where
    by : (few alone given : Bool) → alone ≡ false → false ≡ (few && (alone && given))
    by true false given e = refl
    by false false given e = refl
    by few true given e = absurd (cc)

pub given_by : (modules : List SetModule) (m : Module) (i : Import) (k : ℕ) (from : SetModule) (o : Option Offer)
    → k < length modules → from ≡ get_or modules k from → module_named modules i.«module» ≡ slice_get modules k
    → ((f : SetModule) → slice_get modules k ≡ Some f → o ≡ offered f.«module» i.field)
    → gives_if_any from.«module» o m i ≡ is_given modules m i
given_by modules m i k from o less is found offer =
    let at : slice_get modules k ≡ Some from = slice_get-get_or modules k from less ∙ ap Some (sym is) in
    ap (λ (o : Option Offer). gives_if_any from.«module» o m i) (offer from at)
    ∙ sym (ap (λ (f : Option SetModule). gives f m i) (found ∙ at))

pub taken_by : (modules : List SetModule) (module_name name : List ℕ) (args : List Value) (k : ℕ) (from : SetModule) (o : Option Offer)
    → k < length modules → from ≡ get_or modules k from → module_named modules module_name ≡ slice_get modules k
    → ((f : SetModule) → slice_get modules k ≡ Some f → o ≡ offered f.«module» name)
    → offer_takes from.«module» o args ≡ module_takes (module_named modules module_name) name args
taken_by modules module_name name args k from o less is found offer =
    let at : slice_get modules k ≡ Some from = slice_get-get_or modules k from less ∙ ap Some (sym is) in
    ap (λ (o : Option Offer). offer_takes from.«module» o args) (offer from at)
    ∙ sym (ap (λ (f : Option SetModule). module_takes f name args) (found ∙ at))

-- one table more
pub table_more : (tables : List OfferTable) (modules : List SetModule) (table : OfferTable) (m : SetModule) → AreTables tables modules
    → ((name : List ℕ) → named name table ≡ named name (offers m.«module»)) → AreTables (tables ++ table ∷ []) (modules ++ m ∷ [])
table_more tables modules table m h tells = record {
  count = omega (arith, h.count, length-append tables (table ∷ []), length-append modules (m ∷ []));
  each = λ k t n at is. elim (last_case (λ t. t) tables table k t (as_mapped (slice_get (tables ++ table ∷ []) k) t at)) [
    | Earlier less at_t ↦ h.each k t n (as_plain (slice_get tables k) t at_t) (earlier k n (omega (arith, less, h.count)) is)
    | Last number same ↦ newest k t n number same is
  ];
}
  where
    as_mapped : {A : Type 0} (o : Option A) (a : A) → o ≡ Some a → option_map (λ a. a) o ≡ Some a
    as_mapped o a e = ap (option_map (λ a. a)) e

    as_plain : {A : Type 0} (o : Option A) (a : A) → option_map (λ a. a) o ≡ Some a → o ≡ Some a
    as_plain (Some b) a e = e
    as_plain None a e = absurd (cc)

    earlier : (k : ℕ) (n : SetModule) → k < length modules → slice_get (modules ++ m ∷ []) k ≡ Some n → slice_get modules k ≡ Some n
    earlier k n less is = by (last_case (λ n. n) modules m k n (as_mapped (slice_get (modules ++ m ∷ []) k) n is))
      where
        by : LastCase (λ n. n) modules m k n → slice_get modules k ≡ Some n
        by (Earlier within at) = as_plain (slice_get modules k) n at
        by (Last number same) = absurd (omega (arith, less, number))

    newest : (k : ℕ) (t : OfferTable) (n : SetModule) → length tables ≡ k → table ≡ t → slice_get (modules ++ m ∷ []) k ≡ Some n
        → (name : List ℕ) → named name t ≡ named name (offers n.«module»)
    newest k t n number same is = by (last_case (λ n. n) modules m k n (as_mapped (slice_get (modules ++ m ∷ []) k) n is))
      where
        by : LastCase (λ n. n) modules m k n → (name : List ℕ) → named name t ≡ named name (offers n.«module»)
        by (Earlier within at) = absurd (omega (arith, within, number, h.count))
        by (Last again is_m) = λ name.
            ap (named name) (sym same) ∙ tells name ∙ ap (λ (n : SetModule). named name (offers n.«module»)) is_m
