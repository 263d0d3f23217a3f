-- What the rules that a unit keeps say of each item and of each statement.
use Rattle.c_sound.proofs.Common.{◌≡◌, ℕ, suc, ◌+◌, Bool, true, not, ◌&&◌, ◌||◌, List, [], ◌∷◌, map, length, take, if◌then◌else◌, ◌==◌}
use Rattle.c_sound.proofs.Common.{slice_get, Some, None, filter, Option, flat_map, sym, refl, ap, ◌∙◌, subst, arith, and_parts}
use Rattle.c_sound.proofs.Common.{AllByRecursion, list_all, append_none, map_none, numbered_at, by_test, numbered, BrokenAt, KeepsRules}
use Rattle.c_sound.proofs.Common.{broken_in_body, broken_in_item, broken_in_stmt, broken_of, broken_rules, cases_suit, ends_body, if_any}
use Rattle.c_sound.proofs.Common.{is_own_name, labels_of, local_names, Scope, is_among, Sound, SoundStmt, switch_suits, none_first}
use Rattle.c_tree.specs.Tree as tree
use Rattle.c_tree.specs.Rules.{Place, StmtPlace, item_rules, stmt_rules, is_declared_once, names_are_free, types_are_proper}
use Rattle.c_tree.specs.Rules.{first_values_suit, is_defined_if_static, own_names_are_distinct, body_is_not_empty, labels_are_there}
use Rattle.c_tree.specs.Rules.{names_are_known, expressions_are_typed, types_agree, cases_are_distinct, last_ends_body, label_of}
use Rattle.c_tree.specs.Rules.{labels_named, earlier_stmts, stmt_is_typed, stmt_suits, case_value, are_distinct_numbers, file_name_is_free}
use Rattle.c_tree.specs.Scope as place
use Rattle.c_sound.proofs.Lists.{cons_not_none, flat_none}

-- where no rule is broken each holds
each_kept : {P : Type 0} (rules : List (ℕ × (P → Bool))) (p : P) → broken_of rules p ≡ []
    → AllByRecursion (λ (rule : ℕ × (P → Bool)). rule.1 p ≡ true) rules
each_kept [] p e = tt
each_kept {P} (rule ∷ rules) p e = by_test (rule.1 p)
    (λ is. (is, each_kept rules p (ap numbers (sym is) ∙ e)))
    (λ is. absurd (cons_not_none rule.0 (broken_of rules p) (ap numbers (sym is) ∙ e)))
  where
    -- the numbers of the broken ones, by whether the first holds
    numbers : Bool → List ℕ
    numbers b = map (λ (r : ℕ × (P → Bool)). r.0)
        (if not b then rule ∷ filter (λ (r : ℕ × (P → Bool)). not (r.1 p)) rules else filter (λ (r : ℕ × (P → Bool)). not (r.1 p)) rules)

abbrev broken : ℕ → ℕ → ℕ → BrokenAt
broken item statement rule = record { item = item; statement = statement; rule = rule }

-- An item keeps each rule for items.
pub record KeptItem (at : Place) : Type 0 where
  pub once : is_declared_once at ≡ true
  pub free : names_are_free at ≡ true
  pub proper : types_are_proper at ≡ true
  pub first : first_values_suit at ≡ true
  pub static : is_defined_if_static at ≡ true
  pub own : own_names_are_distinct at ≡ true
  pub filled : body_is_not_empty at ≡ true

kept_item : (at : Place) → AllByRecursion (λ (rule : ℕ × (Place → Bool)). rule.1 at ≡ true) item_rules → KeptItem at
kept_item at h = record {
  once = h.0;
  free = h.1.0;
  proper = h.1.1.0;
  first = h.1.1.1.0;
  static = h.1.1.1.1.0;
  own = h.1.1.1.1.1.0;
  filled = h.1.1.1.1.1.1.0;
}

-- A statement keeps each rule for statements that its step rests on: those on labels, on names, on expressions, on types, on
-- the cases of a switch, and on the last statement.
pub record KeptStmt (at : StmtPlace) : Type 0 where
  pub labels : labels_are_there at ≡ true
  pub known : names_are_known at ≡ true
  pub typed : expressions_are_typed at ≡ true
  pub suits : types_agree at ≡ true
  pub cases : cases_are_distinct at ≡ true
  pub last : last_ends_body at ≡ true

kept_stmt : (at : StmtPlace) → AllByRecursion (λ (rule : ℕ × (StmtPlace → Bool)). rule.1 at ≡ true) stmt_rules → KeptStmt at
kept_stmt at h = record {
  labels = h.1.1.0;
  known = h.1.1.1.0;
  typed = h.1.1.1.1.0;
  suits = h.1.1.1.1.1.0;
  cases = h.1.1.1.1.1.1.0;
  last = h.1.1.1.1.1.1.1.0;
}

module _ (items : List tree.Item) (keeps : KeepsRules items) where
  none_broken : (k : ℕ) (item : tree.Item) → slice_get items k ≡ Some item → broken_in_item items (k, item) ≡ []
  none_broken k item at =
      flat_none (broken_in_item items) (numbered items) (none_first (broken_rules items) keeps) k (k, item) (numbered_at items k item at)

  abbrev parts_of : (k : ℕ) (item : tree.Item) → List BrokenAt
  parts_of k item = map (λ rule. record { item = k; statement = 0; rule = rule })
      (broken_of item_rules (record { unit = items; number = k; item = item }))

  pub item_kept : (k : ℕ) (item : tree.Item) → slice_get items k ≡ Some item
      → KeptItem (record { unit = items; number = k; item = item })
  item_kept k item at = kept_item (record { unit = items; number = k; item = item })
      (each_kept item_rules (record { unit = items; number = k; item = item })
      (map_none (broken k 0) (broken_of item_rules (record { unit = items; number = k; item = item }))
      (append_none (parts_of k item) (broken_in_body items k item) (none_broken k item at)).0))

  pub free_names : (k : ℕ) (item : tree.Item) → slice_get items k ≡ Some item
      → (file_name_is_free item ≡ true) × (list_all is_own_name (local_names item) ≡ true)
  free_names k item at = and_parts (file_name_is_free item) (list_all is_own_name (local_names item)) (item_kept k item at).free

  abbrev scope_at : ℕ → tree.Func → tree.Body → Scope
  scope_at k f b = record { declared = take (k + 1) items; func = f; body = b }

  body_none : (k : ℕ) (f : tree.Func) (b : tree.Body) → slice_get items k ≡ Some (tree.Function f) → f.body ≡ Some b
      → flat_map (broken_in_stmt (scope_at k f b) k) (numbered b.stmts) ≡ []
  body_none k f b at is =
      sym (ap (λ (o : Option tree.Body). elim o [
        | None ↦ []
        | Some b ↦ flat_map (broken_in_stmt (record { declared = take (k + 1) items; func = f; body = b }) k) (numbered b.stmts)
      ]) is)
      ∙ (append_none (parts_of k (tree.Function f)) (broken_in_body items k (tree.Function f)) (none_broken k (tree.Function f) at)).1

  pub stmt_kept : (k : ℕ) (f : tree.Func) (b : tree.Body) → slice_get items k ≡ Some (tree.Function f) → f.body ≡ Some b
      → (j : ℕ) (stmt : tree.Stmt) → slice_get b.stmts j ≡ Some stmt
      → KeptStmt (record { scope = scope_at k f b; number = j + 1; stmt = stmt })
  stmt_kept k f b at is j stmt here = kept_stmt (record { scope = scope_at k f b; number = j + 1; stmt = stmt })
      (each_kept stmt_rules (record { scope = scope_at k f b; number = j + 1; stmt = stmt })
      (map_none (broken k (j + 1)) (broken_of stmt_rules (record { scope = scope_at k f b; number = j + 1; stmt = stmt }))
      (flat_none (broken_in_stmt (scope_at k f b) k) (numbered b.stmts) (body_none k f b at is) j (j, stmt)
      (numbered_at b.stmts j stmt here))))

-- ---- a body of such statements

module _ (s : Scope) where
  switches : (number : ℕ) (stmt : tree.Stmt)
      → (elim stmt [
        | tree.Switch e cases name ↦ if_any (place.type_of s e) (cases_suit cases) && are_distinct_numbers (map case_value cases)
        | _ ↦ true
      ]) ≡ true
      → switch_suits s stmt ≡ true
  switches number (tree.Switch e cases name) h =
      (and_parts (if_any (place.type_of s e) (cases_suit cases)) (are_distinct_numbers (map case_value cases)) h).0
  switches number _ h = refl

  sound_stmt : (number : ℕ) (stmt : tree.Stmt) → KeptStmt (record { scope = s; number = number; stmt = stmt }) → SoundStmt s stmt
  sound_stmt number stmt h =
      let at : StmtPlace = record { scope = s; number = number; stmt = stmt } in
      record {
        labels = (and_parts (if_any (label_of stmt) (λ name. not (is_among name (labels_of (earlier_stmts at)))))
            (list_all (λ name. is_among name (labels_of s.body.stmts)) (labels_named stmt)) h.labels).1;
        known = h.known;
        typed = sym (ap (λ b. not b || stmt_is_typed s stmt) h.known) ∙ h.typed;
        suits = sym (ap (λ b. not b || stmt_suits s stmt) h.known) ∙ h.suits;
        cases = switches number stmt h.cases;
      }

  same_number : (n k : ℕ) → n ≡ k → (n == k) ≡ true
  same_number n k e = grind arith

  sound_from : (n : ℕ) (xs : List tree.Stmt)
      → ((j : ℕ) (stmt : tree.Stmt) → slice_get xs j ≡ Some stmt → (number : ℕ) → number ≡ n + j + 1
      → KeptStmt (record { scope = s; number = number; stmt = stmt }))
      → n + length xs ≡ length s.body.stmts → Sound s xs
  sound_from n [] h counts = tt
  sound_from n (stmt ∷ xs) h counts =
      let first = h 0 stmt refl (n + 1) (omega arith) in (
        sound_stmt (n + 1) stmt first,
        (λ empty.
            let none : length xs ≡ 0 = ap length empty in
            let last : (n + 1 == length s.body.stmts) ≡ true =
            same_number (n + 1) (length s.body.stmts)
            (let c : n + suc (length xs) ≡ length s.body.stmts = counts in omega (arith, c, none)) in
            sym (ap (λ b. not b || ends_body stmt) last) ∙ first.last),
        sound_from (n + 1) xs (λ j y at number e. h (suc j) y at number (omega (arith, e)))
            (let c : n + suc (length xs) ≡ length s.body.stmts = counts in omega (arith, c)),
      )

  pub sound_body : ((j : ℕ) (stmt : tree.Stmt) → slice_get s.body.stmts j ≡ Some stmt
      → KeptStmt (record { scope = s; number = j + 1; stmt = stmt })) → Sound s s.body.stmts
  sound_body h = sound_from 0 s.body.stmts
      (λ j stmt at number e. subst (λ (n : ℕ). KeptStmt (record { scope = s; number = n; stmt = stmt }))
      (let g : j + 1 ≡ number = omega (arith, e) in g) (h j stmt at)) (omega arith)
