-- The helpers of instructions by their steps, and marks of the helpers that code calls.
use Rattle.c_helpers.proofs.Common.{◌≡◌, ℕ, ◌+◌, ◌<◌, ◌≤◌, Bool, true, false, not, ◌&&◌, ◌||◌, List, [], ◌∷◌, ◌++◌, length, get_or, drop}
use Rattle.c_helpers.proofs.Common.{if◌then◌else◌, Some, None, filter, Option, sym, refl, ap, ◌∙◌, append_assoc, arith}
use Rattle.c_helpers.proofs.Common.{or-false, or_assoc, drop_all, list_any, Code, Kind, Nop, code_tree, kind_tree, Instr}
use Rattle.c_helpers.proofs.Common.{BodyEntry, Module, helper_of, Helper, HELPERS, read_again, HasMore, KnowsCalls, marked, any_in}
use Rattle.c_helpers.proofs.Common.{any_inside, calls_helper, helpers_of, named_by, helper_for, ends, element_for, step_helper, step_of}
use Rattle.c_tree.proofs.Tested.{at_front}
use Rattle.c_helpers.specs.declared.steps.Step.{Step}
use Rattle.c_helpers.proofs.CodeLists.{code_more, code_done}

-- ---- helpers

abbrev by_step : Option Step → Option Helper → Option Helper
by_step None other = other
by_step (Some s) other = step_helper s

by_steps : (kind : Kind) → by_step (step_of kind) (element_for kind) ≡ helper_for kind
by_steps Nop = refl
by_steps _ = refl

pub of_step : (kind : Kind) (s : Step) → step_of kind ≡ Some s → step_helper s ≡ helper_for kind
of_step kind s e = sym (ap (λ (o : Option Step). by_step o (element_for kind)) e) ∙ by_steps kind

pub of_element : (kind : Kind) → step_of kind ≡ None → element_for kind ≡ helper_for kind
of_element kind e = sym (ap (λ (o : Option Step). by_step o (element_for kind)) e) ∙ by_steps kind

-- ---- marks

pub nothing_more : (marks : List Bool) → HasMore marks marks (λ q. false)
nothing_more marks q = sym (or-false (marked marks q))

-- ---- code

-- what was entered, and what is left
abbrev pub EntersCode : List Bool → List Bool → Code → Code → Type 0
EntersCode now before left whole =
    (q : Helper) → (marked now q || any_in (calls_helper q) left) ≡ (marked before q || any_in (calls_helper q) whole)

spread : (a b c d e : Bool) → (a || ((b || c) || (not d && e))) ≡ (((a || b) || c) || (not d && e))
spread a b c d e = sym (or_assoc a (b || c) (not d && e)) ∙ ap (λ x. x || (not d && e)) (sym (or_assoc a b c))

module _ (now helped inside before : List Bool) (items : List Instr) (i : ℕ) (x : Instr) (whole : Code)
    (less : i < length items) (is : x ≡ get_or items i x)
    (which : Option Helper) (which_is : which ≡ helper_for (kind_tree x.kind))
    (one : HasMore helped now (λ q. named_by (helper_of q).name which))
    (more : HasMore inside helped (λ q. any_inside (calls_helper q) (kind_tree x.kind)))
    (so_far : EntersCode now before (code_tree (drop i items)) whole) where
  both : (q : Helper) → (marked inside q ||
      (not (ends (kind_tree x.kind)) && any_in (calls_helper q) (code_tree (drop (i + 1) items))))
      ≡ (marked before q || any_in (calls_helper q) whole)
  both q =
      ap (λ b. b || (not (ends (kind_tree x.kind)) && any_in (calls_helper q) (code_tree (drop (i + 1) items))))
      (more q ∙ ap (λ b. b || any_inside (calls_helper q) (kind_tree x.kind))
      (one q ∙ ap (λ w. marked now q || named_by (helper_of q).name w) which_is))
      ∙ (sym (spread (marked now q) (calls_helper q (kind_tree x.kind)) (any_inside (calls_helper q) (kind_tree x.kind))
      (ends (kind_tree x.kind))
      (any_in (calls_helper q) (code_tree (drop (i + 1) items))))
      ∙ (ap (λ code. marked now q || any_in (calls_helper q) code) (sym (code_more items i x less is))
      ∙ so_far q))

  pub code_next : ends (kind_tree x.kind) ≡ false → EntersCode inside before (code_tree (drop (i + 1) items)) whole
  code_next goes q =
      sym (ap (λ b. marked inside q || (not b && any_in (calls_helper q) (code_tree (drop (i + 1) items)))) goes) ∙ both q

  pub code_stops : ends (kind_tree x.kind) ≡ true → HasMore inside before (λ q. any_in (calls_helper q) whole)
  code_stops stops q =
      sym (or-false (marked inside q))
      ∙ (sym (ap (λ b. marked inside q || (not b && any_in (calls_helper q) (code_tree (drop (i + 1) items)))) stops) ∙ both q)

pub code_through : (now before : List Bool) (items : List Instr) (i : ℕ) (whole : Code) → length items ≤ i
    → EntersCode now before (code_tree (drop i items)) whole → HasMore now before (λ q. any_in (calls_helper q) whole)
code_through now before items i whole past so_far q =
    sym (or-false (marked now q))
    ∙ (ap (λ code. marked now q || any_in (calls_helper q) code) (sym (code_done items i past)) ∙ so_far q)

-- two parts, one behind the other
pub more_behind : (after between before : List Bool) (first second : Helper → Bool)
    → HasMore between before first → HasMore after between second → HasMore after before (λ q. first q || second q)
more_behind after between before first second a b q =
    b q ∙ (ap (λ x. x || second q) (a q) ∙ or_assoc (marked before q) (first q) (second q))

-- ---- bodies

abbrev pub body_calls : Helper → BodyEntry → Bool
body_calls q b = any_in (calls_helper q) b.code

abbrev pub EntersBodies : List Bool → List BodyEntry → List BodyEntry → Type 0
EntersBodies now left whole = (q : Helper)
    → (marked now q || list_any (body_calls q) left) ≡ list_any (body_calls q) whole

pub bodies_next : (after now : List Bool) (items bodies whole : List BodyEntry) (i : ℕ) (x : BodyEntry)
    → items ≡ bodies → i < length items → x ≡ get_or items i x → HasMore after now (λ q. any_in (calls_helper q) x.code)
    → EntersBodies now (drop i bodies) whole → EntersBodies after (drop (i + 1) bodies) whole
bodies_next after now items bodies whole i x same less is more so_far q =
    let within : i < length bodies = omega (arith, less, ap length same) in
    let item : x ≡ get_or bodies i x = is ∙ ap (λ (ys : List BodyEntry). get_or ys i x) same in
    ap (λ b. b || list_any (body_calls q) (drop (i + 1) bodies)) (more q)
    ∙ (or_assoc (marked now q) (body_calls q x) (list_any (body_calls q) (drop (i + 1) bodies))
    ∙ (ap (λ bs. marked now q || list_any (body_calls q) bs) (sym (at_front bodies i x within item)) ∙ so_far q))

pub bodies_through : (now : List Bool) (items bodies whole : List BodyEntry) (i : ℕ) → items ≡ bodies → length items ≤ i
    → EntersBodies now (drop i bodies) whole → (q : Helper) → marked now q ≡ list_any (body_calls q) whole
bodies_through now items bodies whole i same past so_far q =
    let end : length bodies ≤ i = omega (arith, past, ap length same) in
    sym (or-false (marked now q))
    ∙ (ap (λ bs. marked now q || list_any (body_calls q) bs) (sym (drop_all i bodies end)) ∙ so_far q)

-- ---- a list of those that pass a test

pub filter_next : {A : Type 0} (p : A → Bool) (list after : List A) (items whole : List A) (i : ℕ) (x : A) (b : Bool)
    → i < length items → x ≡ get_or items i x
    → b ≡ p x → after ≡ list ++ filter (λ (w : A). b) (x ∷ []) → list ++ filter p (drop i items) ≡ whole
    → after ++ filter p (drop (i + 1) items) ≡ whole
filter_next {A} p list after items whole i x b less is test grown so_far =
    ap (λ ys. ys ++ filter p (drop (i + 1) items)) grown
    ∙ (append_assoc list (filter (λ (w : A). b) (x ∷ [])) (filter p (drop (i + 1) items))
    ∙ (ap (λ ys. list ++ ys) (at b (p x) test (filter p (drop (i + 1) items)))
    ∙ (ap (λ ys. list ++ filter p ys) (sym (at_front items i x less is)) ∙ so_far)))
  where
    at : (b c : Bool) → b ≡ c → (rest : List A) → filter (λ (w : A). b) (x ∷ []) ++ rest ≡ (if c then x ∷ rest else rest)
    at true true e rest = refl
    at false false e rest = refl
    at true false e rest = absurd cc
    at false true e rest = absurd cc

pub same_filter : {A : Type 0} (p q : A → Bool) (xs : List A) → ((x : A) → p x ≡ q x) → filter p xs ≡ filter q xs
same_filter p q [] same = refl
same_filter p q (x ∷ xs) same =
    ap (λ b. if b then x ∷ filter p xs else filter p xs) (same x) ∙ ap (λ ys. if q x then x ∷ ys else ys) (same_filter p q xs same)

pub known_helpers : (marks : List Bool) (m : Module) (list : List Helper) → KnowsCalls marks m
    → list ≡ filter (marked marks) HELPERS → list ≡ helpers_of m
known_helpers marks m list knows is =
    is ∙ same_filter (marked marks) (λ which. list_any (λ b. any_in (calls_helper which) b.code) m.bodies) HELPERS knows

-- the same of what is read with another element in reserve
pub filter_at : {A : Type 0} (p : A → Bool) (list after : List A) (items whole : List A) (i : ℕ) (d : A) (b : Bool) → i < length items
    → b ≡ p (get_or items i d) → after ≡ list ++ filter (λ (w : A). b) (get_or items i d ∷ []) → list ++ filter p (drop i items) ≡ whole
    → after ++ filter p (drop (i + 1) items) ≡ whole
filter_at p list after items whole i d b less test grown so_far =
    filter_next p list after items whole i (get_or items i d) b less (read_again items i d) test grown so_far
