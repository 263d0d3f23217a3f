-- Names that are put each once, where they come first.
use Rattle.c_unit.proofs.Common.{◌≡◌, ℕ, ◌+◌, ◌<◌, ◌≤◌, Bool, true, false, not, ◌&&◌, ◌||◌, List, [], ◌∷◌, ◌++◌, map, length, get_or, drop}
use Rattle.c_unit.proofs.Common.{is_some, if◌then◌else◌, Some, None, bytes_eq, sym, refl, ap, ◌∙◌, append_assoc, append-nil, arith}
use Rattle.c_unit.proofs.Common.{drop_all, map_push, option_or, named, Import, at_front, Name, is_among, NamedModule, pair_of, Typed}
use Rattle.c_unit.proofs.Common.{declared_symbols, firsts, import_symbol, Symbol, bytes_eq-sym}
use Rattle.std.proofs.Math.Bool.{or-false, or_comm}
use Rattle.c_unit.specs.Seen.{PutsFirst, SeesMore, typed}
use Rattle.w2c_base.proofs.Options.{some_or_if}

-- the table has the names so far, and what was put and what is left are all
abbrev pub Declares : {A : Type 0} → NamedModule → List (Name × A) → List Typed → List Import → List Name → Type 0
Declares m table made left before =
    ((q : Name) → is_some (named q table) ≡ is_among q before)
    × (made ++ map (typed m) (firsts before (map import_symbol left)) ≡ declared_symbols m)

abbrev pub DeclaresSoFar : {A : Type 0} → NamedModule → List (Name × A) → List Typed → List Import → Type 0
DeclaresSoFar m table made left = (before : List Name) × Declares m table made left before

pub entered : {A : Type 0} (after before : List (Name × A)) (name : Name) (of : A) (seen : Bool) → seen ≡ false
    → ((q : Name) → named q after ≡ option_or (named q before) (if bytes_eq name q then Some of else None))
    → SeesMore after before seen name
entered {A} after before name of seen new grown q =
    ap is_some (grown q)
    ∙ (some_or_if of (named q before) (bytes_eq name q)
    ∙ (ap (λ b. is_some (named q before) || b) (bytes_eq-sym name q)
    ∙ ap (λ b. is_some (named q before) || (not b && bytes_eq q name)) (sym new)))

pub not_entered : {A : Type 0} (table : List (Name × A)) (name : Name) (seen : Bool) → seen ≡ true → SeesMore table table seen name
not_entered table name seen was q =
    sym (or-false (is_some (named q table))) ∙ ap (λ b. is_some (named q table) || (not b && bytes_eq q name)) (sym was)

module _ {A : Type 0} (m : NamedModule) (table after : List (Name × A)) (made grown : List Typed) (imports items : List Import)
    (i : ℕ) (x : Import)
    (name : Name) (same : items ≡ imports) (less : i < length items) (is : x ≡ get_or items i x) (name_is : name ≡ import_symbol x)
    (sees : SeesMore after table (is_some (named name table)) name) (put : PutsFirst m grown made (is_some (named name table)) name) where
  abbrev seen : Bool
  seen = is_some (named name table)

  abbrev rest : List Name
  rest = map import_symbol (drop (i + 1) imports)

  -- the name that comes next, and those behind it
  ahead : map import_symbol (drop i imports) ≡ name ∷ rest
  ahead =
      let within : i < length imports = omega (arith, less, ap length same) in
      let item : x ≡ get_or imports i x = is ∙ ap (λ ys. get_or ys i x) same in
      ap (λ js. map import_symbol js) (at_front imports i x within item) ∙ ap (λ n. n ∷ rest) (sym name_is)

  now : (before : List Name) → made ++ map (typed m) (firsts before (map import_symbol (drop i imports))) ≡ declared_symbols m
      → made ++ map (typed m) (if is_among name before then firsts before rest else name ∷ firsts (name ∷ before) rest) ≡ declared_symbols m
  now before e = ap (λ ns. made ++ map (typed m) (firsts before ns)) (sym ahead) ∙ e

  by_seen : (before : List Name) → ((q : Name) → is_some (named q table) ≡ is_among q before)
      → made ++ map (typed m) (firsts before (map import_symbol (drop i imports))) ≡ declared_symbols m
      → (b : Bool) → seen ≡ b → DeclaresSoFar m after grown (drop (i + 1) imports)
  by_seen before knows e true was =
      let among : is_among name before ≡ true = sym (knows name) ∙ was in (
        before,
        (
          λ q. sees q ∙ (ap (λ b. is_some (named q table) || (not b && bytes_eq q name)) was
              ∙ (or-false (is_some (named q table)) ∙ knows q)),
          ap (λ ys. ys ++ map (typed m) (firsts before rest))
              (put ∙ (ap (λ b. made ++ (if b then [] else typed m name ∷ [])) was ∙ append-nil made))
              ∙ (ap (λ b. made ++ map (typed m) (if b then firsts before rest else name ∷ firsts (name ∷ before) rest)) (sym among)
              ∙ now before e),
        ),
      )
  by_seen before knows e false was =
      let among : is_among name before ≡ false = sym (knows name) ∙ was in (
        name ∷ before,
        (
          λ q. sees q ∙ (ap (λ b. is_some (named q table) || (not b && bytes_eq q name)) was
              ∙ (or_comm (is_some (named q table)) (bytes_eq q name) ∙ ap (λ b. bytes_eq q name || b) (knows q))),
          ap (λ ys. ys ++ map (typed m) (firsts (name ∷ before) rest)) (put ∙ ap (λ b. made ++ (if b then [] else typed m name ∷ [])) was)
              ∙ (append_assoc made (typed m name ∷ []) (map (typed m) (firsts (name ∷ before) rest))
              ∙ (ap (λ b. made ++ map (typed m) (if b then firsts before rest else name ∷ firsts (name ∷ before) rest)) (sym among)
              ∙ now before e)),
        ),
      )

  pub declares_next : DeclaresSoFar m table made (drop i imports) → DeclaresSoFar m after grown (drop (i + 1) imports)
  declares_next d = by_seen d.0 d.1.0 d.1.1 seen refl

pub declares_all : {A : Type 0} (m : NamedModule) (table : List (Name × A)) (made : List Typed) (imports items : List Import)
    (i : ℕ) → items ≡ imports → length items ≤ i
    → DeclaresSoFar m table made (drop i imports) → made ≡ declared_symbols m
declares_all m table made imports items i same past d =
    let end : length imports ≤ i = omega (arith, past, ap length same) in
    sym (append-nil made) ∙ (ap (λ js. made ++ map (typed m) (firsts d.0 (map import_symbol js))) (sym (drop_all i imports end)) ∙ d.1.1)

-- ---- one symbol

pub put_more : (after before : List Symbol) (s : Symbol) → after ≡ before ++ s ∷ []
    → map pair_of after ≡ map pair_of before ++ pair_of s ∷ []
put_more after before s grown = ap (λ ss. map pair_of ss) grown ∙ map_push pair_of before s

pub put_none : (m : NamedModule) (made : List Typed) (seen : Bool) (name : Name) → seen ≡ true → PutsFirst m made made seen name
put_none m made seen name was = sym (append-nil made) ∙ ap (λ b. made ++ (if b then [] else typed m name ∷ [])) (sym was)
