-- A table of what is defined, as it grows.
use Rattle.c_link.proofs.Common.{◌≡◌, ℕ, ◌+◌, ◌<◌, ◌≤◌, Bool, true, false, List, [], ◌∷◌, ◌++◌, length, take, if◌then◌else◌, slice_get}
use Rattle.c_link.proofs.Common.{Some, None, Option, flat_map, filter_map, bytes_eq, sym, refl, ap, ◌∙◌, subst, append_assoc, arith}
use Rattle.c_link.proofs.Common.{length-take-le, take_all, option_or, numbered_push, or_assoc, take_next, named, numbered, named-append}
use Rattle.c_link.proofs.Common.{or_none, Name, Holds, Offered, host_offers, item_offer, offered_by, offers, told, unit_offers, Offer}
use Rattle.c_link.proofs.Common.{Owner, append-nil}
use Rattle.std.proofs.lemmas.List.Elements.{filter_map-append}
use Rattle.std.proofs.lemmas.Grind.{flat_map-append}
use Rattle.c_tree.specs.Tree as tree

told-or : (a b : Option Offer) → told (option_or a b) ≡ option_or (told a) (told b)
told-or None b = refl
told-or (Some x) b = refl

told-if : (b : Bool) (offer : Offer) → told (if b then Some offer else None) ≡ (if b then Some (offered_by offer) else None)
told-if true offer = refl
told-if false offer = refl

-- a table that has one more entry
pub told_more : (q name : Name) (offer : Offer) (before after : List (Name × Offer))
    → named q after ≡ option_or (named q before) (if bytes_eq name q then Some offer else None)
    → told (named q after) ≡ option_or (told (named q before)) (named q ((name, offered_by offer) ∷ []))
told_more q name offer before after grown =
    ap told grown ∙ told-or (named q before) (if bytes_eq name q then Some offer else None)
    ∙ ap (option_or (told (named q before))) (told-if (bytes_eq name q) offer)

-- ---- entries that are added

-- what a table tells now is what it told, and behind it these entries
abbrev pub Adds : List (Name × Offer) → List (Name × Offer) → List (Name × Offered) → Type 0
Adds before after entries = (q : Name) → told (named q after) ≡ option_or (told (named q before)) (named q entries)

pub adds_none : (table : List (Name × Offer)) → Adds table table []
adds_none table q = sym (or_none (told (named q table)))

pub adds_more : (before middle after : List (Name × Offer)) (entries more : List (Name × Offered)) → Adds before middle entries
    → Adds middle after more → Adds before after (entries ++ more)
adds_more before middle after entries more first second q =
    second q ∙ ap (λ o. option_or o (named q more)) (first q) ∙ or_assoc (told (named q before)) (named q entries) (named q more)
    ∙ ap (option_or (told (named q before))) (sym (named-append q entries more))

pub holds_more : (before after : List (Name × Offer)) (entries more : List (Name × Offered)) → Holds before entries
    → Adds before after more → Holds after (entries ++ more)
holds_more before after entries more holds adds q =
    adds q ∙ ap (λ o. option_or o (named q more)) (holds q) ∙ sym (named-append q entries more)

pub holds_as : (table : List (Name × Offer)) (entries others : List (Name × Offered)) → others ≡ entries → Holds table entries
    → Holds table others
holds_as table entries others same holds q = holds q ∙ ap (named q) (sym same)

-- one item more of a unit
pub item_added : (number : ℕ) (items : List tree.Item) (i : ℕ) (item : tree.Item) → slice_get items i ≡ Some item
    → unit_offers (number, take (i + 1) items) ≡ unit_offers (number, take i items) ++ unit_offers (number, item ∷ [])
item_added number items i item at =
    ap (filter_map (item_offer number)) (take_next items i item at) ∙ filter_map-append (item_offer number) (take i items) (item ∷ [])

-- ---- one unit more

module _ (units : List (List tree.Item)) (symbols : List (Name × tree.FuncType)) (i : ℕ) where
  pub all_taken : length units ≤ i → offers (take i units) symbols ≡ offers units symbols
  all_taken past = ap (λ us. offers us symbols) (take_all i units past)

  pub unit_added : (unit : List tree.Item) → i < length units → slice_get units i ≡ Some unit
      → offers (take (i + 1) units) symbols ≡ offers (take i units) symbols ++ unit_offers (i, unit)
  unit_added unit less at =
      let front = take i units in
      let many : length front ≡ i = length-take-le i units (omega arith) in
      ap (λ us. offers us symbols) (take_next units i unit at)
      ∙ ap (λ us. host_offers symbols ++ flat_map unit_offers us)
      (numbered_push front unit ∙ ap (λ n. numbered front ++ (n, unit) ∷ []) many)
      ∙ ap (λ es. host_offers symbols ++ es) (flat_map-append unit_offers (numbered front) ((i, unit) ∷ []) ∙ ap
      (λ es. flat_map unit_offers (numbered front) ++ es) (append-nil (unit_offers (i, unit))))
      ∙ sym (append_assoc (host_offers symbols) (flat_map unit_offers (numbered front)) (unit_offers (i, unit)))

pub adds_as : (before after : List (Name × Offer)) (entries others : List (Name × Offered)) → others ≡ entries
    → Adds before after entries → Adds before after others
adds_as before after entries others same adds q = adds q ∙ ap (λ es. option_or (told (named q before)) (named q es)) (sym same)

-- an entry by an equal name and an equal type
pub adds_said : (before after : List (Name × Offer)) (name others : Name) (o : Owner) (ty tys : tree.FuncType) → name ≡ others → ty ≡ tys
    → Adds before after ((name, (o, ty)) ∷ []) → Adds before after ((others, (o, tys)) ∷ [])
adds_said before after name others o ty tys e f adds = rw f at (subst (λ n. Adds before after ((n, (o, ty)) ∷ [])) e adds)
