-- Symbols that are put into a list one by one, until one comes a second time.
use Rattle.crun.proofs.Common.{◌≡◌, ℕ, zero, suc, ◌+◌, ◌<◌, ◌≤◌, Bool, true, false, not, ◌&&◌, ◌||◌, List, [], ◌∷◌, ◌++◌, map, length}
use Rattle.crun.proofs.Common.{get_or, take, drop, is_some, if◌then◌else◌, slice_get, Some, option_map, zip, flat_map, bytes_eq, sym, refl}
use Rattle.crun.proofs.Common.{ap, ◌∙◌, subst, append_assoc, append-nil, arith, take-append-drop, take_all, length-map, map-append}
use Rattle.crun.proofs.Common.{slice_get-get_or, slice_get-map, range_with_len, option_or, drop_front, take_next, named, numbered, Host}
use Rattle.crun.proofs.Common.{are_distinct, c_func_type_of, symbols_of, HostFunc, found_at, function_of, AreKnown, IsFirstTwice, IsTwiceAt}
use Rattle.crun.proofs.Common.{symbol_in, symbols_of_host, symbols_of_hosts}
use Rattle.std.proofs.lemmas.Grind.{flat_map-append}
use Rattle.std.proofs.Math.Bool.{or_comm}
use Rattle.w2c_base.specs.Run as run
use Rattle.w2c_mangle.specs.declared.symbol.SymbolKind.TheVariants as symbol
use Rattle.w2c_mangle.specs.Symbols.{export_symbol_of}
use Rattle.c_tree.specs.Scope.{Name, is_among}
use Rattle.c_meaning.specs.Linking as linking
use Rattle.c_meaning.proofs.Links.{symbol_pair}
use Rattle.c_link.specs.Offers.{c_symbol, c_symbols}
use Rattle.c_link.specs.Resolved.{symbol_names}
use Rattle.c_hosts.specs.declared.host.HostFunction.{HostFunction}
use Rattle.c_link.specs.declared.host_symbol.HostSymbol.{HostSymbol}
use Rattle.w2c_base.proofs.Options.{some_or_if}
use Rattle.w2c_base.proofs.Tests.{bytes_eq-sym}

-- one name more
among_push : (q : Name) (names : List Name) (x : Name) → is_among q (names ++ x ∷ []) ≡ (is_among q names || bytes_eq q x)
among_push q [] x = or_comm (bytes_eq q x) false
among_push q (y ∷ names) x = go (bytes_eq q y) (among_push q names x)
  where
    go : (b : Bool) → is_among q (names ++ x ∷ []) ≡ (is_among q names || bytes_eq q x)
        → (b || is_among q (names ++ x ∷ [])) ≡ ((b || is_among q names) || bytes_eq q x)
    go true e = refl
    go false e = e

distinct_push : (names : List Name) (x : Name) → are_distinct names ≡ true → is_among x names ≡ false → are_distinct (names ++ x ∷ [])
    ≡ true
distinct_push [] x kept none = refl
distinct_push (y ∷ names) x kept none =
    go (is_among y names) (bytes_eq x y) (are_distinct names) (is_among x names) kept none
    (among_push y names x ∙ ap (λ b. is_among y names || b) (bytes_eq-sym y x)) (distinct_push names x)
  where
    go : (a b d m : Bool) → (not a && d) ≡ true → (b || m) ≡ false → is_among y (names ++ x ∷ []) ≡ (a || b)
        → (d ≡ true → m ≡ false → are_distinct (names ++ x ∷ []) ≡ true)
        → (not (is_among y (names ++ x ∷ [])) && are_distinct (names ++ x ∷ [])) ≡ true
    go true b d m kept none is rest = absurd cc
    go false true d m kept none is rest = absurd cc
    go false false d m kept none is rest =
        ap (λ b. not b && are_distinct (names ++ x ∷ [])) is ∙ rest kept none

-- a symbol that is not there is put at the end
pub known_push : (before after : List (Name × ℕ)) (symbols more : List HostSymbol) (s : HostSymbol) (k : ℕ) → AreKnown before symbols
    → is_some (named s.symbol before) ≡ false
    → ((q : Name) → named q after ≡ option_or (named q before) (found_at k (Some s.symbol) q))
    → more ≡ symbols ++ s ∷ [] → AreKnown after more
known_push before after symbols more s k are none entered grown =
    let names : symbol_names more ≡ symbol_names symbols ++ s.symbol ∷ [] =
    ap symbol_names grown ∙ map-append (λ (h : HostSymbol). h.symbol) symbols (s ∷ []) in
    record {
      known = λ q. ap is_some (entered q) ∙ some_or_if k (named q before) (bytes_eq s.symbol q)
          ∙ ap (λ b. b || bytes_eq s.symbol q) (are.known q)
          ∙ ap (λ b. is_among q (symbol_names symbols) || b) (bytes_eq-sym s.symbol q)
          ∙ sym (among_push q (symbol_names symbols) s.symbol) ∙ ap (is_among q) (sym names);
      distinct = ap are_distinct names
          ∙ distinct_push (symbol_names symbols) s.symbol are.distinct (sym (are.known s.symbol) ∙ none);
    }

-- ---- what is put so far

pub more_taken : {A : Type 0} (first before after all : List A) (i : ℕ) (x : A) → slice_get all i ≡ Some x → after ≡ before ++ x ∷ []
    → before ≡ first ++ take i all → after ≡ first ++ take (i + 1) all
more_taken first before after all i x at grown so_far =
    grown ∙ ap (λ l. l ++ x ∷ []) so_far ∙ append_assoc first (take i all) (x ∷ []) ∙ ap (λ l. first ++ l) (sym (take_next all i x at))

pub twice_found : (first symbols all : List HostSymbol) (i : ℕ) (s : HostSymbol) (numbers : List (Name × ℕ)) → slice_get all i ≡ Some s
    → symbols ≡ first ++ take i all → AreKnown numbers symbols → is_among s.symbol (symbol_names symbols) ≡ true → IsFirstTwice first all
twice_found first symbols all i s numbers at so_far are there = record {
  front = take i all;
  again = s;
  behind = drop (i + 1) all;
  is = sym (take-append-drop i all) ∙ ap (λ l. take i all ++ l) (drop_front all i s at);
  distinct = ap (λ l. are_distinct (symbol_names l)) (sym so_far) ∙ are.distinct;
  there = ap (λ l. is_among s.symbol (symbol_names l)) (sym so_far) ∙ there;
}

-- ---- the hosts so far

pub hosts_taken : (hosts : List Host) (k : ℕ) (h : Host) (before after : List HostSymbol) → slice_get hosts k ≡ Some h
    → after ≡ before ++ symbols_of_host h → before ≡ symbols_of_hosts (take k hosts) → after ≡ symbols_of_hosts (take (k + 1) hosts)
hosts_taken hosts k h before after at grown so_far =
    grown ∙ ap (λ l. l ++ symbols_of_host h) so_far
    ∙ ap (λ l. symbols_of_hosts (take k hosts) ++ l) (sym (append-nil (symbols_of_host h)))
    ∙ sym (flat_map-append symbols_of_host (take k hosts) (h ∷ [])) ∙ ap symbols_of_hosts (sym (take_next hosts k h at))

-- ---- as the meaning of C has them

abbrev symbol_at : ℕ × Host → ℕ × run.HostFunction → linking.HostSymbol
symbol_at h f = record {
  symbol = export_symbol_of h.1.name symbol.Func f.1.name;
  address = HostFunc h.0 f.0;
  ty = c_func_type_of f.1.ty;
}

functions_mean : (h : ℕ × Host) (k : ℕ) (fs : List run.HostFunction)
    → map symbol_pair (map (symbol_at h) (zip (range_with_len k (length fs)) fs)) ≡ c_symbols (map (symbol_in h.1.name) fs)
functions_mean h k [] = refl
functions_mean h k (f ∷ fs) = ap (λ l. c_symbol (symbol_in h.1.name f) ∷ l) (functions_mean h (k + 1) fs)

hosts_mean : (k : ℕ) (hosts : List Host)
    → map symbol_pair (flat_map (λ h. map (symbol_at h) (numbered h.1.functions)) (zip (range_with_len k (length hosts)) hosts))
    ≡ c_symbols (symbols_of_hosts hosts)
hosts_mean k [] = refl
hosts_mean k (h ∷ hosts) =
    map-append symbol_pair (map (symbol_at (k, h)) (numbered h.functions)) _
    ∙ ap (λ l. map symbol_pair (map (symbol_at (k, h)) (numbered h.functions)) ++ l) (hosts_mean (k + 1) hosts)
    ∙ ap (λ l. l ++ c_symbols (symbols_of_hosts hosts)) (functions_mean (k, h) 0 h.functions)
    ∙ sym (map-append c_symbol (symbols_of_host h) (symbols_of_hosts hosts))

pub symbols_mean : (symbols : List HostSymbol) (hosts : List Host) → symbols ≡ symbols_of_hosts hosts → c_symbols symbols ≡ symbols_of hosts
symbols_mean symbols hosts is = ap c_symbols is ∙ sym (hosts_mean 0 hosts)

-- the symbol of a host's function
pub symbol_there : (host : Name) (fs : List HostFunction) (i : ℕ) (f : HostFunction) (s : HostSymbol) → slice_get fs i ≡ Some f
    → s ≡ symbol_in host (function_of f) → slice_get (map (symbol_in host) (map function_of fs)) i ≡ Some s
symbol_there host [] i f s at is = absurd cc
symbol_there host (g ∷ fs) zero f s at is =
    let same : g ≡ f = cc in ap (λ x. Some (symbol_in host (function_of x))) same ∙ ap Some (sym is)
symbol_there host (g ∷ fs) (suc i) f s at is = symbol_there host fs i f s at is

pub past_all : (host : Name) (fs : List HostFunction) (n i : ℕ) → n ≡ length fs → n ≤ i
    → length (map (symbol_in host) (map function_of fs)) ≤ i
past_all host fs n i is past = rw length-map (rw length-map (omega (arith, is, past)))

-- ---- a host among hosts

module _ {H : Type 0} (host : H → Host) (hosts : List H) (i : ℕ) (h : H) (less : i < length hosts) (is : h ≡ get_or hosts i h) where
  host_there : slice_get (map host hosts) i ≡ Some (host h)
  host_there = slice_get-map host hosts i ∙ ap (option_map host) (slice_get-get_or hosts i h less ∙ ap Some (sym is))

  pub host_more : (before after : List HostSymbol) → after ≡ before ++ symbols_of_host (host h)
      → before ≡ symbols_of_hosts (take i (map host hosts)) → after ≡ symbols_of_hosts (take (i + 1) (map host hosts))
  host_more before after grown so_far = hosts_taken (map host hosts) i (host h) before after host_there grown so_far

  pub host_twice : (before : List HostSymbol) (k : ℕ) → before ≡ symbols_of_hosts (take i (map host hosts)) → k ≡ i
      → IsFirstTwice before (symbols_of_host (host h)) → IsTwiceAt (map host hosts) k
  host_twice before k so_far same first = record {
    host = host h;
    at = ap (slice_get (map host hosts)) same ∙ host_there;
    first = subst (λ l. IsFirstTwice l (symbols_of_host (host h)))
        (so_far ∙ ap (λ n. symbols_of_hosts (take n (map host hosts))) (sym same))
        first;
  }

pub all_hosts : {H : Type 0} (host : H → Host) (hosts : List H) (symbols : List HostSymbol) (i : ℕ) → length hosts ≤ i
    → symbols ≡ symbols_of_hosts (take i (map host hosts)) → symbols ≡ symbols_of_hosts (map host hosts)
all_hosts host hosts symbols i past so_far = so_far ∙ ap symbols_of_hosts (take_all i (map host hosts) (rw length-map past))
