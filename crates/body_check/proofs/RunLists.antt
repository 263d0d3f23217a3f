-- Running a list, one instruction after another.
use Rattle.wasm_typing.specs.declared.fault.ValidRefusal.TheVariants.{Invalid, Memory}
use Rattle.body_check.proofs.Common.{◌≡◌, ℕ, ◌+◌, ◌<◌, ◌≤◌, List, ◌∷◌, length, get_or, drop, Ok, Err, sym, refl, ap, ◌∙◌, add_assoc, arith}
use Rattle.body_check.proofs.Common.{drop_all, drop_more, code_tree, kind_tree, Instr, Operands, Ran, and_then, later, refusal, run}
use Rattle.body_check.proofs.Common.{run_kind, kind_token_count, Context, Labels, RanTo, Fault, ValidRefusal}

pub later_none : (r : Ran) → r ≡ later 0 r
later_none (Ok s) = refl
later_none (Err f) = ap (λ (n : ℕ). Err (refusal n f.fault)) (let e : f.token ≡ f.token + 0 = omega arith in e)

later_later : (m n : ℕ) (r : Ran) → later n (later m r) ≡ later (m + n) r
later_later m n (Ok s) = refl
later_later m n (Err f) = ap (λ (k : ℕ). Err (refusal k f.fault)) (add_assoc f.token m n)

rest_of : (c : Context) (labels : Labels) (items : List Instr) (i : ℕ) (x : Instr) (s : Operands) → i < length items → x ≡ get_or items i x
    → run c labels (code_tree (drop i items)) s
    ≡ and_then (run_kind c labels x.place (kind_tree x.kind) s)
    (λ s'. later (kind_token_count (kind_tree x.kind)) (run c labels (code_tree (drop (i + 1) items)) s'))
rest_of c labels items i x s less is =
    ap (λ (rest : List Instr). run c labels (code_tree rest) s)
    (drop_more items i x less ∙ ap (λ (y : Instr). y ∷ drop (i + 1) items) (sym is))

-- one more was run. It stood under labels that are the same
pub run_more : (c : Context) (labels now : Labels) (items : List Instr) (i : ℕ) (x : Instr) (s s' : Operands) (whole : Ran) (before : ℕ)
    → i < length items → x ≡ get_or items i x → whole ≡ later before (run c labels (code_tree (drop i items)) s) → now ≡ labels
    → run_kind c now x.place (kind_tree x.kind) s ≡ Ok s'
    → (n : ℕ) × (whole ≡ later n (run c labels (code_tree (drop (i + 1) items)) s'))
run_more c labels now items i x s s' whole before less is h same went =
    let count = kind_token_count (kind_tree x.kind) in
    let rest : Ran = run c labels (code_tree (drop (i + 1) items)) s' in
    let one : run_kind c labels x.place (kind_tree x.kind) s ≡ Ok s' =
    ap (λ (l : Labels). run_kind c l x.place (kind_tree x.kind) s) (sym same) ∙ went in (
      count + before,
      h
          ∙ ap (later before)
          (rest_of c labels items i x s less is
          ∙ ap (λ (r : Ran). and_then r (λ s''. later count (run c labels (code_tree (drop (i + 1) items)) s''))) one)
          ∙ later_later count before rest,
    )

-- one more was refused
pub run_refused : (c : Context) (labels now : Labels) (items : List Instr) (i : ℕ) (x : Instr) (s : Operands) (whole : Ran)
    (before token : ℕ) (fault : Fault)
    → i < length items → x ≡ get_or items i x → whole ≡ later before (run c labels (code_tree (drop i items)) s) → now ≡ labels
    → run_kind c now x.place (kind_tree x.kind) s ≡ Err (refusal token fault) → (n : ℕ) × (whole ≡ Err (refusal n fault))
run_refused c labels now items i x s whole before token fault less is h same refused =
    let count = kind_token_count (kind_tree x.kind) in
    let one : run_kind c labels x.place (kind_tree x.kind) s ≡ Err (refusal token fault) =
    ap (λ (l : Labels). run_kind c l x.place (kind_tree x.kind) s) (sym same) ∙ refused in (
      token + before,
      h
          ∙ ap (later before)
          (rest_of c labels items i x s less is
          ∙ ap (λ (r : Ran). and_then r (λ s''. later count (run c labels (code_tree (drop (i + 1) items)) s''))) one),
    )

-- all were run
pub run_all : (c : Context) (labels : Labels) (items : List Instr) (i : ℕ) (s : Operands) (whole : Ran) (before : ℕ) → length items ≤ i
    → whole ≡ later before (run c labels (code_tree (drop i items)) s) → whole ≡ Ok s
run_all c labels items i s whole before past h =
    h ∙ ap (λ (rest : List Instr). later before (run c labels (code_tree rest) s)) (drop_all i items past)

-- what is answered where one more was refused
pub list_refused : (c : Context) (labels now : Labels) (items : List Instr) (i : ℕ) (x : Instr) (s t u : Operands) (whole : Ran)
    (before : ℕ) (r : ValidRefusal)
    → i < length items → x ≡ get_or items i x → whole ≡ later before (run c labels (code_tree (drop i items)) s) → now ≡ labels
    → RanTo {A = Unit} (Err r) (run_kind c now x.place (kind_tree x.kind) s) t → RanTo {A = Unit} (Err r) whole u
list_refused c labels now items i x s t u whole before Memory less is h same refused = tt
list_refused c labels now items i x s t u whole before (Invalid place cause) less is h same refused =
    run_refused c labels now items i x s whole before refused.0 (record { place = place; cause = cause }) less is h same refused.1
