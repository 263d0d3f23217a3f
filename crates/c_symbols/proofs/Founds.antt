-- Tables of symbols that grow.
use Rattle.c_symbols.proofs.Common.{◌≡◌, ℕ, ◌+◌, ◌<◌, ◌≤◌, Bool, true, false, List, [], ◌∷◌, ◌++◌, map, length, get_or, drop, if◌then◌else◌}
use Rattle.c_symbols.proofs.Common.{Some, None, Option, option_map, bytes_eq, sym, refl, ap, ◌∙◌, arith, drop_all, at_front, Name, Typed}
use Rattle.std.specs.Option.{option_or}
use Rattle.w2c_base.specs.Lookup.{named}
use Rattle.name_table.proofs.Lookups.{named-append}
use Rattle.c_symbols.specs.declared.types.SymbolType.{SymbolType}
use Rattle.c_symbols.specs.Typed.{type_of}
use Rattle.c_symbols.specs.Found.{FindsTypes, FindsMore}
use Rattle.w2c_base.proofs.Options.{or_assoc, or_none}

pub entered : (after before : List (Name × SymbolType)) (name : Name) (ty : SymbolType)
    → ((q : Name) → named q after ≡ option_or (named q before) (if bytes_eq name q then Some ty else None))
    → FindsMore after before ((name, type_of ty) ∷ [])
entered after before name ty grown q = ap (option_map type_of) (grown q) ∙ at (named q before) (bytes_eq name q)
  where
    at : (o : Option SymbolType) (b : Bool) → option_map type_of (option_or o (if b then Some ty else None)) ≡ option_or
        (option_map type_of o) (if b then Some (type_of ty) else None)
    at None true = refl
    at None false = refl
    at (Some t) b = refl

-- what a table finds, and behind it the rest, is what the first table and the whole find
abbrev pub Enters : List (Name × SymbolType) → List (Name × SymbolType) → List Typed → List Typed → Type 0
Enters table first rest whole = (q : Name)
    → option_or (option_map type_of (named q table)) (named q rest) ≡ option_or (option_map type_of (named q first)) (named q whole)

pub enters_next : {A : Type 0} (f : A → Typed) (after before first : List (Name × SymbolType)) (whole : List Typed)
    (xs items : List A) (i : ℕ) (x : A)
    (p : Typed)
    → items ≡ xs → i < length items → x ≡ get_or items i x → p ≡ f x → FindsMore after before (p ∷ [])
    → Enters before first (map f (drop i xs)) whole → Enters after first (map f (drop (i + 1) xs)) whole
enters_next f after before first whole xs items i x p same less read is grown so_far q =
    let within : i < length xs = omega (arith, less, ap length same) in
    let item : x ≡ get_or xs i x = read ∙ ap (λ ys. get_or ys i x) same in
    let rest = map f (drop (i + 1) xs) in
    ap (λ o. option_or o (named q rest)) (grown q
    ∙ ap (λ (r : Typed). option_or (option_map type_of (named q before)) (named q (r ∷ []))) is)
    ∙ or_assoc (option_map type_of (named q before)) (named q (f x ∷ [])) (named q rest)
    ∙ ap (option_or (option_map type_of (named q before)))
    (sym (named-append q (f x ∷ []) rest) ∙ ap (λ ys. named q (map f ys)) (sym (at_front xs i x within item)))
    ∙ so_far q

pub enters_end : {A : Type 0} (f : A → Typed) (after first : List (Name × SymbolType)) (whole : List Typed) (xs items : List A)
    (i : ℕ) → items ≡ xs → length items ≤ i
    → Enters after first (map f (drop i xs)) whole → FindsMore after first whole
enters_end f after first whole xs items i same past so_far q =
    let end : length xs ≤ i = omega (arith, past, ap length same) in
    sym (or_none (option_map type_of (named q after)))
    ∙ ap (λ ys. option_or (option_map type_of (named q after)) (named q (map f ys))) (sym (drop_all i xs end))
    ∙ so_far q

-- two lists that are entered in an empty table
pub both : (empty one two : List (Name × SymbolType)) (first second : List Typed) → empty ≡ [] → FindsMore one empty first
    → FindsMore two one second → FindsTypes two (first ++ second)
both empty one two first second none a b q =
    b q ∙ ap (λ o. option_or o (named q second))
    (a q ∙ ap (λ (t : List (Name × SymbolType)). option_or (option_map type_of (named q t)) (named q first)) none)
    ∙ sym (named-append q first second)

-- the same symbols by another list of them
pub found_as : (table : List (Name × SymbolType)) (ones others first second : List Typed) → ones ≡ first → others ≡ second
    → FindsTypes table (ones ++ others) → FindsTypes table (first ++ second)
found_as table ones others first second a b found q =
    found q ∙ ap (λ ps. named q (ps ++ others)) a ∙ ap (λ ps. named q (first ++ ps)) b
