-- Locals behind parameters, one by one.
use Rattle.c_machine.proofs.Common.{◌≡◌, ℕ, ◌+◌, ◌≤◌, List, [], ◌∷◌, ◌++◌, map, length, take, drop, slice_get, Some, None, Option}
use Rattle.c_machine.proofs.Common.{option_map, zip, sym, refl, ap, ◌∙◌, append_assoc, append-nil, arith, take_all, drop_all, length-map}
use Rattle.c_machine.proofs.Common.{length_push, map_push, drop_front, if_found, initial_of, CValue, Name, Vars, bind, locals_of}
use Rattle.c_machine.proofs.Common.{local_name, WithLocals}
use Rattle.c_tree.specs.Tree as tree
use Rattle.c_machine.proofs.Variables.{zip-push}
use Rattle.w2c_base.proofs.Places.{take_next}

abbrev vars_in : {V : Type 0} → (V → CValue) → List Name → List V → Vars
vars_in view names values = zip names (map view values)

-- the values so far are those of the parameters and the first i locals
pub record Grows {V : Type 0} (view : V → CValue) (params : List Name) (values : List V) (locals : List tree.Local) (i : ℕ)
    (so_far : List V) : Type 0 where
  pub count : length (params ++ map local_name (take i locals)) ≡ length so_far
  pub same : option_map (λ ls. vars_in view params values ++ ls) (locals_of locals)
      ≡ option_map (λ ls. vars_in view (params ++ map local_name (take i locals)) so_far ++ ls) (locals_of (drop i locals))

more : (before : Vars) (l : tree.Local) (v : CValue) (rest : Option Vars)
    → option_map (λ ls. before ++ ls) (option_map (λ vars. (l.1, v) ∷ vars) rest)
    ≡ option_map (λ ls. (before ++ (l.1, v) ∷ []) ++ ls) rest
more before l v None = refl
more before l v (Some vars) = ap Some (sym (append_assoc before ((l.1, v) ∷ []) vars))

pub grows_next : {V : Type 0} (view : V → CValue) (params : List Name) (values : List V) (locals : List tree.Local) (i : ℕ)
    (so_far : List V) (l : tree.Local) (v : V) → slice_get locals i ≡ Some l
    → Some (view v) ≡ initial_of l.0 l.2 → Grows view params values locals i so_far
    → Grows view params values locals (i + 1) (so_far ++ v ∷ [])
grows_next view params values locals i so_far l v at is g =
    let names = params ++ map local_name (take i locals) in
    let more_names : params ++ map local_name (take (i + 1) locals) ≡ names ++ local_name l ∷ [] =
    ap (λ ls. params ++ map local_name ls) (take_next locals i l at)
    ∙ ap (λ ns. params ++ ns) (map_push local_name (take i locals) l)
    ∙ sym (append_assoc params (map local_name (take i locals)) (local_name l ∷ [])) in
    let numbers : length names ≡ length (map view so_far) = g.count ∙ sym (length-map so_far view) in
    let pushed : vars_in view (params ++ map local_name (take (i + 1) locals)) (so_far ++ v ∷ []) ≡ vars_in view names so_far
    ++ (l.1, view v) ∷ [] =
    ap (λ ns. zip ns (map view (so_far ++ v ∷ []))) more_names ∙ ap (zip (names ++ local_name l ∷ [])) (map_push view so_far v)
    ∙ zip-push names (map view so_far) (local_name l) (view v) numbers in
    record {
      count = ap length more_names ∙ length_push names (local_name l) ∙ ap (λ n. n + 1) g.count ∙ sym (length_push so_far v);
      same = g.same
          ∙ ap (λ ls. option_map (λ rest. vars_in view names so_far ++ rest) (locals_of ls)) (drop_front locals i l at)
          ∙ ap (λ o. option_map (λ rest. vars_in view names so_far ++ rest)
          (if_found o (λ w. option_map (λ vars. (l.1, w) ∷ vars) (locals_of (drop (i + 1) locals))))) (sym is)
          ∙ more (vars_in view names so_far) l (view v) (locals_of (drop (i + 1) locals))
          ∙ ap (λ before. option_map (λ ls. before ++ ls) (locals_of (drop (i + 1) locals))) (sym pushed);
    }

pub grows_none : {V : Type 0} (view : V → CValue) (params : List Name) (values : List V) (locals : List tree.Local) (i : ℕ)
    (so_far : List V) (l : tree.Local) → slice_get locals i ≡ Some l
    → None ≡ initial_of l.0 l.2 → Grows view params values locals i so_far → WithLocals view params values locals None
grows_none view params values locals i so_far l at is g =
    let names = params ++ map local_name (take i locals) in
    g.same
    ∙ ap (λ ls. option_map (λ rest. vars_in view names so_far ++ rest) (locals_of ls)) (drop_front locals i l at)
    ∙ ap (λ o. option_map (λ rest. vars_in view names so_far ++ rest)
    (if_found o (λ w. option_map (λ vars. (l.1, w) ∷ vars) (locals_of (drop (i + 1) locals))))) (sym is)

pub grows_all : {V : Type 0} (view : V → CValue) (params : List Name) (values : List V) (locals : List tree.Local) (i : ℕ)
    (so_far : List V) → length locals ≤ i → Grows view params values locals i so_far
    → WithLocals view params values locals (Some so_far)
grows_all view params values locals i so_far past g =
    g.same
    ∙ ap (λ ls. option_map (λ rest. vars_in view (params ++ map local_name (take i locals)) so_far ++ rest) (locals_of ls))
    (drop_all i locals past)
    ∙ ap Some (append-nil (vars_in view (params ++ map local_name (take i locals)) so_far)
    ∙ ap (λ ls. vars_in view (params ++ map local_name ls) so_far) (take_all i locals past))

-- parameters are bound in order
pub bind_all : {V : Type 0} (view : V → CValue) (names : List Name) (values : List V) → length names ≡ length values
    → bind names (map view values) ≡ Some (vars_in view names values)
bind_all view [] [] e = refl
bind_all view (n ∷ names) (v ∷ values) e =
    ap (λ (o : Option Vars). option_map (λ vars. (n, view v) ∷ vars) o) (bind_all view names values (omega (arith, e)))
bind_all view _ _ e = absurd (omega (arith, e))
