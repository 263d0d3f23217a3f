-- Where statements are placed in a body, their parts are; those of a body with distinct labels are placed.
use Rattle.alike.proofs.Common.{◌≡◌, true, false, List, [], ◌∷◌, Some, ap, ◌∙◌, ◌+◌, ◌^◌, ◌<◌, ◌||◌, ◌≢◌, sym, refl, subst}
use Rattle.std.proofs.Common.{◌++◌, append_assoc, not, ◌≤◌, ◌⊎◌, if◌then◌else◌, ◌==◌, bytes_eq}
use Rattle.c_meaning.specs.Step.{after_label}
use Rattle.alike.specs.Placed.{IsPlaced}
use Rattle.c_tree.specs.Tree as tree
use Rattle.c_tree.specs.Rules.{are_distinct, labels_of}
use Rattle.c_tree.specs.Scope.{is_among, Name}
use Rattle.w2c_base.proofs.Conjunctions.{left_holds, right_holds}
use Rattle.std.proofs.lemmas.List.Folds.{list_any-append}
use Rattle.std.proofs.lemmas.Bool.{not-true, or_parts}
use Rattle.c_tree.proofs.NumberedLabels.{labels-append}
use Rattle.c_meaning.proofs.Lookups.{bytes_equal}

pub placed_front : (body xs ys rest : List tree.Stmt) → IsPlaced body (xs ++ ys) rest → IsPlaced body xs (ys ++ rest)
placed_front body [] ys rest h = tt
placed_front body (tree.Label name ∷ xs) ys rest h = (h.0 ∙ ap Some (append_assoc xs ys rest), placed_front body xs ys rest h.1)
placed_front body (x ∷ xs) ys rest h = placed_front body xs ys rest h

pub placed_back : (body xs ys rest : List tree.Stmt) → IsPlaced body (xs ++ ys) rest → IsPlaced body ys rest
placed_back body [] ys rest h = h
placed_back body (tree.Label name ∷ xs) ys rest h = placed_back body xs ys rest h.1
placed_back body (x ∷ xs) ys rest h = placed_back body xs ys rest h

-- ---- distinct labels

-- a label that is none of those before another is not that one
unlike : (x l : Name) (pre code : List tree.Stmt) → is_among x (labels_of (pre ++ tree.Label l ∷ code)) ≡ false → bytes_eq x l ≡ false
unlike x l pre code e =
    (or_parts (bytes_eq x l) (is_among x (labels_of code))
    (or_parts (is_among x (labels_of pre)) (is_among x (l ∷ labels_of code))
    (sym (ap (is_among x) (labels-append pre (tree.Label l ∷ code))
    ∙ list_any-append (bytes_eq x) (labels_of pre) (l ∷ labels_of code)) ∙ e)).1).0

found : (l : Name) (pre code : List tree.Stmt) → are_distinct (labels_of (pre ++ tree.Label l ∷ code)) ≡ true
    → after_label l (pre ++ tree.Label l ∷ code) ≡ Some code
found l [] code d = rw (bytes_equal l) refl
found l (tree.Label x ∷ pre) code d =
    let names : List Name = labels_of (pre ++ tree.Label l ∷ code) in
    rw (unlike x l pre code (not-true (is_among x names) (left_holds (not (is_among x names)) (are_distinct names) d)))
    (found l pre code (right_holds (not (is_among x names)) (are_distinct names) d))
found l (s ∷ pre) code d = found l pre code d

-- labels that are distinct are found
pub placed : (body pre code rest : List tree.Stmt) → body ≡ pre ++ (code ++ rest) → are_distinct (labels_of body) ≡ true
    → IsPlaced body code rest
placed body pre [] rest e d = tt
placed body pre (tree.Label l ∷ code) rest e d = (
  subst (λ b. after_label l b ≡ Some (code ++ rest)) (sym e)
      (found l pre (code ++ rest) (subst (λ b. are_distinct (labels_of b) ≡ true) e d)),
  placed body (pre ++ tree.Label l ∷ []) code rest (e ∙ sym (append_assoc pre (tree.Label l ∷ []) (code ++ rest))) d,
)
placed body pre (s ∷ code) rest e d = placed body (pre ++ s ∷ []) code rest (e ∙ sym (append_assoc pre (s ∷ []) (code ++ rest))) d
