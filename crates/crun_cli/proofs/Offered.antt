-- Hosts whose symbols differ have none that comes twice.
use Rattle.crun_cli.proofs.Common.{◌≡◌, ℕ, suc, Bool, true, false, not, ◌&&◌, ◌||◌, List, [], ◌∷◌, ◌++◌, take, drop, bytes_eq, sym, refl}
use Rattle.crun_cli.proofs.Common.{ap, ◌∙◌, append_assoc, map-append, Host, are_distinct, symbol_names, HostSymbol, IsTwiceAt}
use Rattle.crun_cli.proofs.Common.{symbols_of_host, symbols_of_hosts}
use Rattle.std.proofs.lemmas.Grind.{flat_map-append}
use Rattle.std.proofs.lemmas.Slice.Eq.{bytes_eq-Decides}
use Rattle.std.proofs.Math.Bool.{or-true}
use Rattle.w2c_base.proofs.Conjunctions.{right_holds}
use Rattle.w2c_base.proofs.Places.{around}
use Rattle.c_tree.specs.Scope.{Name, is_among}
use Rattle.name_table.proofs.Lookups.{among-append}

-- one of these is here again
twice_apart : (front behind : List Name) (again : Name) → is_among again front ≡ true → are_distinct (front ++ again ∷ behind) ≡ true → ⊥
twice_apart [] behind again there distinct = cc
twice_apart (x ∷ front) behind again there distinct =
    go (bytes_eq again x) refl there (λ h. twice_apart front behind again h rest)
  where
    found : is_among x (front ++ again ∷ behind) ≡ true → ⊥
    found is = (let no : (not true && are_distinct (front ++ again ∷ behind)) ≡ true =
        ap (λ b. not b && are_distinct (front ++ again ∷ behind)) (sym is) ∙ distinct in cc)

    rest : are_distinct (front ++ again ∷ behind) ≡ true
    rest = right_holds (not (is_among x (front ++ again ∷ behind))) (are_distinct (front ++ again ∷ behind)) distinct

    go : (b : Bool) → bytes_eq again x ≡ b → (b || is_among again front) ≡ true → (is_among again front ≡ true → ⊥) → ⊥
    go false e there later = later there
    go true e there later =
        let same : again ≡ x = (bytes_eq-Decides again x).0 e in
        let here : is_among x (again ∷ behind) ≡ true =
        ap (λ b. b || is_among x behind) ((bytes_eq-Decides x again).1 (sym same)) in
        found (among-append x front (again ∷ behind) ∙ ap (λ b. is_among x front || b) here ∙ or-true (is_among x front))

pub none_twice : (hosts : List Host) (k : ℕ) → are_distinct (symbol_names (symbols_of_hosts hosts)) ≡ true → IsTwiceAt hosts k → ⊥
none_twice hosts k distinct twice =
    twice_apart (symbol_names (before ++ twice.first.front)) (symbol_names (twice.first.behind ++ rest)) twice.first.again.symbol
    twice.first.there (ap are_distinct (sym names_are) ∙ distinct)
  where
    before : List HostSymbol
    before = symbols_of_hosts (take k hosts)

    rest : List HostSymbol
    rest = symbols_of_hosts (drop (suc k) hosts)

    symbols_are : symbols_of_hosts hosts ≡ (before ++ twice.first.front) ++ twice.first.again ∷ (twice.first.behind ++ rest)
    symbols_are =
        ap symbols_of_hosts (around hosts k twice.host twice.at)
        ∙ flat_map-append symbols_of_host (take k hosts) (twice.host ∷ drop (suc k) hosts)
        ∙ ap (λ l. before ++ (l ++ rest)) twice.first.is
        ∙ ap (λ l. before ++ l) (append_assoc twice.first.front (twice.first.again ∷ twice.first.behind) rest)
        ∙ sym (append_assoc before twice.first.front (twice.first.again ∷ (twice.first.behind ++ rest)))

    names_are : symbol_names (symbols_of_hosts hosts)
        ≡ symbol_names (before ++ twice.first.front) ++ twice.first.again.symbol ∷ symbol_names (twice.first.behind ++ rest)
    names_are = ap symbol_names symbols_are
        ∙ map-append (λ (h : HostSymbol). h.symbol) (before ++ twice.first.front) (twice.first.again ∷ (twice.first.behind ++ rest))
