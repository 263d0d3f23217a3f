-- What the tables of file scope find behind one more item.
use Rattle.c_scope.proofs.Common.{◌≡◌, ℕ, ◌+◌, ◌<◌, ◌||◌, List, [], ◌∷◌, ◌++◌, map, length, get_or, take, is_some, Option, option_map}
use Rattle.c_scope.proofs.Common.{filter_map, bytes_eq, sym, ap, ◌∙◌, option_or, named, among-append, named-append}
use Rattle.std.specs.List.{list_any}
use Rattle.std.proofs.lemmas.List.Elements.{filter_map-append}
use Rattle.w2c_base.proofs.Places.{mapped_next}

module _ {A B C : Type 0} (view : A → B) (of : B → Option C) (xs : List A) (i : ℕ) (x : A) (lt : i < length xs)
    (is : x ≡ get_or xs i x) where
  pub listed_next : filter_map of (take (i + 1) (map view xs)) ≡ filter_map of (take i (map view xs)) ++ filter_map of (view x ∷ [])
  listed_next = ap (filter_map of) (mapped_next view xs i x lt is) ∙ filter_map-append of (take i (map view xs)) (view x ∷ [])

-- a table by whose entries the names are found, as they are or by what they say
pub finds_next : {A B C D : Type 0} (view : A → B) (of : B → Option (List ℕ × C)) (told : D → C) (xs : List A) (i : ℕ) (x : A)
    → i < length xs → x ≡ get_or xs i x → (before after : List (List ℕ × D))
    → ((q : List ℕ) → option_map told (named q after)
    ≡ option_or (option_map told (named q before)) (named q (filter_map of (view x ∷ []))))
    → ((q : List ℕ) → option_map told (named q before) ≡ named q (filter_map of (take i (map view xs))))
    → (q : List ℕ) → option_map told (named q after) ≡ named q (filter_map of (take (i + 1) (map view xs)))
finds_next view of told xs i x lt is before after grown so_far q =
    grown q ∙ ap (λ o. option_or o (named q (filter_map of (view x ∷ [])))) (so_far q)
    ∙ sym (ap (named q) (listed_next view of xs i x lt is)
    ∙ named-append q (filter_map of (take i (map view xs))) (filter_map of (view x ∷ [])))

pub finds_types_next : {A B C : Type 0} (view : A → B) (of : B → Option (List ℕ × C)) (xs : List A) (i : ℕ) (x : A) → i < length xs
    → x ≡ get_or xs i x → (before after : List (List ℕ × C))
    → ((q : List ℕ) → named q after ≡ option_or (named q before) (named q (filter_map of (view x ∷ []))))
    → ((q : List ℕ) → named q before ≡ named q (filter_map of (take i (map view xs))))
    → (q : List ℕ) → named q after ≡ named q (filter_map of (take (i + 1) (map view xs)))
finds_types_next view of xs i x lt is before after grown so_far q =
    grown q ∙ ap (λ o. option_or o (named q (filter_map of (view x ∷ [])))) (so_far q)
    ∙ sym (ap (named q) (listed_next view of xs i x lt is)
    ∙ named-append q (filter_map of (take i (map view xs))) (filter_map of (view x ∷ [])))

pub knows_next : {A B C : Type 0} (view : A → B) (of : B → Option (List ℕ)) (xs : List A) (i : ℕ) (x : A) → i < length xs
    → x ≡ get_or xs i x → (before after : List (List ℕ × C))
    → ((q : List ℕ) → is_some (named q after) ≡ (is_some (named q before) || list_any (bytes_eq q) (filter_map of (view x ∷ []))))
    → ((q : List ℕ) → is_some (named q before) ≡ list_any (bytes_eq q) (filter_map of (take i (map view xs))))
    → (q : List ℕ) → is_some (named q after) ≡ list_any (bytes_eq q) (filter_map of (take (i + 1) (map view xs)))
knows_next view of xs i x lt is before after grown so_far q =
    grown q ∙ ap (λ b. b || list_any (bytes_eq q) (filter_map of (view x ∷ []))) (so_far q)
    ∙ sym (ap (list_any (bytes_eq q)) (listed_next view of xs i x lt is)
    ∙ among-append q (filter_map of (take i (map view xs))) (filter_map of (view x ∷ [])))
