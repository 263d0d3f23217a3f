-- A function's body keeps the rules on statements where each of its statements passes them, its labels are distinct
-- and its last statement ends it. And lists: what holds at each place of a list holds of its numbered items.
use Rattle.body_rules.proofs.Common.{both_hold, not-true, or_parts, ◌≡◌, ℕ, suc, ◌+◌, ◌-◌, Bool, true, false, not, ◌&&◌, List, [], ap}
use Rattle.body_rules.proofs.Common.{◌∷◌, ◌++◌, map, length, take, ◌==◌, Some, None, Option, zip, flat_map, bytes_eq, sym, refl, ◌∙◌, subst}
use Rattle.body_rules.proofs.Common.{append_assoc, arith, length-append, AllByRecursion, list_all, range_with_len, BrokenAt, broken_in_body}
use Rattle.body_rules.proofs.Common.{broken_in_stmt, broken_of, StmtPlace, are_distinct, ends_body, labels_named, Name, Scope, is_among}
use Rattle.body_rules.proofs.Common.{or-true, unlike_back, take_front, stmt_rules, labels_of, label_of, if_any, earlier_stmts}
use Rattle.body_rules.proofs.Common.{labels_are_there, last_ends_body, labels-append}
use Rattle.w2c_base.specs.Lookup.{numbered}
use Rattle.c_tree.specs.Tree as tree
use Rattle.body_rules.proofs.Rules.{Passes}

-- ---- lists

pub take_before : {A : Type 0} (front : List A) (x : A) (back : List A) → take (length front) (front ++ x ∷ back) ≡ front
take_before front x back = take_front front (x ∷ back)

-- what holds of each item by what stands before and behind it holds of the numbered items
all_from : {A : Type 0} (P : ℕ × A → Type 0) (front rest : List A)
    → ((before : List A) (x : A) (behind : List A) → front ++ rest ≡ before ++ x ∷ behind → P (length before, x))
    → AllByRecursion P (zip (range_with_len (length front) (length rest)) rest)
all_from P front [] f = tt
all_from P front (x ∷ rest) f = (
  f front x rest refl,
  subst (λ n. AllByRecursion P (zip (range_with_len n (length rest)) rest)) (length-append front (x ∷ []))
      (all_from P (front ++ x ∷ []) rest (λ before y behind e. f before y behind (sym (append_assoc front (x ∷ []) rest) ∙ e))),
)

pub all_numbered : {A : Type 0} (P : ℕ × A → Type 0) (items : List A)
    → ((before : List A) (x : A) (behind : List A) → items ≡ before ++ x ∷ behind → P (length before, x))
    → AllByRecursion P (numbered items)
all_numbered P items f = all_from P [] items f

pub none_of_all : {A B : Type 0} (f : A → List B) (xs : List A) → AllByRecursion (λ x. f x ≡ []) xs → flat_map f xs ≡ []
none_of_all f [] all = refl
none_of_all f (x ∷ xs) all = rw (all.0, none_of_all f xs all.1) refl

-- each item of a list that passes
pub all_at : {A : Type 0} (P : A → Type 0) (before : List A) (x : A) (behind : List A) → AllByRecursion P (before ++ x ∷ behind) → P x
all_at P [] x behind all = all.0
all_at P (y ∷ before) x behind all = all_at P before x behind all.1

pub none_broken : {P : Type 0} (rules : List (ℕ × (P → Bool))) (p : P) → list_all (λ (r : ℕ × (P → Bool)). r.1 p) rules ≡ true
    → broken_of rules p ≡ []
none_broken [] p all = refl
none_broken (r ∷ rules) p all = let h = both_hold (r.1 p) _ all in rw h.0 (none_broken rules p h.1)

-- ---- names that differ

-- of distinct names none before another is the same
distinct_before : (before : List Name) (name : Name) (behind : List Name) → are_distinct (before ++ name ∷ behind) ≡ true
    → is_among name before ≡ false
distinct_before [] name behind e = refl
distinct_before (other ∷ before) name behind e =
    let h = both_hold (not (is_among other (before ++ name ∷ behind))) _ e in
    rw (unlike_back other name (apart before (not-true (is_among other (before ++ name ∷ behind)) h.0)))
    (distinct_before before name behind h.1)
  where
    apart : (before : List Name) → is_among other (before ++ name ∷ behind) ≡ false → bytes_eq other name ≡ false
    apart [] f = (or_parts (bytes_eq other name) (is_among other behind) f).0
    apart (x ∷ before) f = apart before (or_parts (bytes_eq other x) (is_among other (before ++ name ∷ behind)) f).1

-- ---- statements

-- the last statement ends the body
abbrev pub ends_well : List tree.Stmt → Bool
ends_well [] = true
ends_well (stmt ∷ []) = ends_body stmt
ends_well (stmt ∷ next ∷ stmts) = ends_well (next ∷ stmts)

pub last_ends : (before : List tree.Stmt) (stmt : tree.Stmt) → ends_well (before ++ stmt ∷ []) ≡ ends_body stmt
last_ends [] stmt = refl
last_ends (x ∷ []) stmt = refl
last_ends (x ∷ y ∷ before) stmt = last_ends (y ∷ before) stmt

abbrev place : Scope → ℕ → tree.Stmt → StmtPlace
place s n stmt = record { scope = s; number = n; stmt = stmt }

-- a label that none before it is like
label_first : (before behind : List tree.Stmt) (stmt : tree.Stmt) → are_distinct (labels_of (before ++ stmt ∷ behind)) ≡ true
    → if_any (label_of stmt) (λ name. not (is_among name (labels_of before))) ≡ true
label_first before behind stmt e = by (label_of stmt) refl
  where
    by : (o : Option Name) → label_of stmt ≡ o → if_any o (λ name. not (is_among name (labels_of before))) ≡ true
    by None f = refl
    by (Some name) f = ap not (distinct_before (labels_of before) name (labels_of behind)
        (sym (ap are_distinct (labels-append before (stmt ∷ behind) ∙ ap (λ names. labels_of before ++ names) (rw f refl))) ∙ e))

last_is : (s : Scope) (before behind : List tree.Stmt) (stmt : tree.Stmt) → s.body.stmts ≡ before ++ stmt ∷ behind
    → ends_well s.body.stmts ≡ true → last_ends_body (place s (length before + 1) stmt) ≡ true
last_is s before [] stmt e ends = rw (sym (last_ends before stmt) ∙ (sym (ap ends_well e) ∙ ends))
    (or-true (not (length before + 1 == length s.body.stmts)))
last_is s before (next ∷ behind) stmt e ends = rw (shorter (length before) (length s.body.stmts) (length behind)
    (ap length e ∙ length-append before (stmt ∷ next ∷ behind))) refl
  where
    shorter : (n m k : ℕ) → m ≡ n + suc (suc k) → n + 1 == m ≡ false
    shorter n m k e = grind arith

back_one : (n : ℕ) → n + 1 - 1 ≡ n
back_one n = omega arith

stmt_keeps : (s : Scope) (item : ℕ) (before behind : List tree.Stmt) (stmt : tree.Stmt) → s.body.stmts ≡ before ++ stmt ∷ behind
    → Passes s stmt
    → are_distinct (labels_of s.body.stmts) ≡ true → ends_well s.body.stmts ≡ true → broken_in_stmt s item (length before, stmt) ≡ []
stmt_keeps s item before behind stmt e p distinct ends =
    ap (map (λ rule. record { item = item; statement = length before + 1; rule = rule }))
    (none_broken stmt_rules (place s (length before + 1) stmt)
    (rw p.free (rw p.written (rw labels
    (rw p.known (rw p.typed (rw p.suits (rw p.cases (rw (last_is s before behind stmt e ends) refl)))))))))
  where
    earlier : earlier_stmts (place s (length before + 1) stmt) ≡ before
    earlier = ap (λ n. take n s.body.stmts) (back_one (length before)) ∙ (ap (take (length before)) e ∙ take_before before stmt behind)

    labels : labels_are_there (place s (length before + 1) stmt) ≡ true
    labels =
        subst (λ stmts. if_any (label_of stmt) (λ name. not (is_among name (labels_of stmts))) && list_all
        (λ name. is_among name (labels_of s.body.stmts)) (labels_named stmt) ≡ true) (sym earlier)
        (rw (label_first before behind stmt (sym (ap (λ stmts. are_distinct (labels_of stmts)) e) ∙ distinct)) p.there)

-- the whole body
pub body_keeps : (unit : List tree.Item) (item : ℕ) (declared : List tree.Item) (f : tree.Func) (b : tree.Body) → f.body ≡ Some b
    → take (item + 1) unit ≡ declared
    → AllByRecursion (Passes (record { declared = declared; func = f; body = b })) b.stmts → are_distinct (labels_of b.stmts) ≡ true
    → ends_well b.stmts ≡ true → broken_in_body unit item (tree.Function f) ≡ []
body_keeps unit item declared f b e d all distinct ends =
    subst (λ o. broken o ≡ []) (sym e)
    (subst (λ ds. flat_map (broken_in_stmt (scope ds) item) (numbered b.stmts) ≡ []) (sym d)
    (none_of_all (broken_in_stmt (scope declared) item) (numbered b.stmts)
    (all_numbered (λ entry. broken_in_stmt (scope declared) item entry ≡ []) b.stmts
    (λ before stmt behind same. stmt_keeps (scope declared) item before behind stmt same
    (all_at (Passes (scope declared)) before stmt behind (subst (AllByRecursion (Passes (scope declared))) same all)) distinct ends))))
  where
    scope : List tree.Item → Scope
    scope ds = record { declared = ds; func = f; body = b }

    broken : Option tree.Body → List BrokenAt
    broken o = elim o [
      | None ↦ []
      | Some body ↦ flat_map (broken_in_stmt (record { declared = take (item + 1) unit; func = f; body = body }) item) (numbered body.stmts)
    ]
