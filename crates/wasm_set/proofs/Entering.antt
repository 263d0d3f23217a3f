-- A table of offers grows by one export after the other.
use Rattle.wasm_set.proofs.Common.{◌≡◌, ℕ, ◌+◌, ◌<◌, ◌≤◌, Bool, true, false, List, ◌∷◌, map, length, get_or, drop, if◌then◌else◌, Some}
use Rattle.wasm_set.proofs.Common.{None, Option, bytes_eq, sym, refl, ap, ◌∙◌, subst, at_drop_all, at_drop_more, option_or, named, Export}
use Rattle.wasm_set.proofs.Common.{Module, offer_of, offers, OfferTable, Tells, Offer}

-- what exports enter
abbrev pub entries : Module → List Export → OfferTable
entries m exports = map (λ e. (e.name, offer_of m e)) exports

-- what the table tells, and behind it what is left, is the whole
abbrev pub Enters : Module → OfferTable → List Export → Type 0
Enters m table rest = (q : List ℕ) → option_or (named q table) (named q (entries m rest)) ≡ named q (offers m)

pub entered : (m : Module) (before after : OfferTable) (exports : List Export) (i : ℕ) (e : Export) (name : List ℕ) (offer : Option Offer)
    → exports ≡ m.exports → i < length exports → e ≡ get_or exports i e → name ≡ e.name → offer ≡ offer_of m e
    → ((q : List ℕ) → named q after ≡ option_or (named q before) (if bytes_eq name q then Some offer else None))
    → Enters m before (drop i m.exports) → Enters m after (drop (i + 1) m.exports)
entered m before after exports i e name offer all less is its_name same grown so_far =
    subst (λ (es : List Export). Enters m after (drop (i + 1) es)) all (λ q.
    let rest = named q (entries m (drop (i + 1) exports)) in
    ap (λ (o : Option (Option Offer)). option_or o rest) (grown q)
    ∙ ap (λ (n : List ℕ). option_or (option_or (named q before) (if bytes_eq n q then Some offer else None)) rest) its_name
    ∙ by_entry (named q before) (bytes_eq e.name q) rest
    ∙ ap (λ (x : Export). option_or (named q before) (named q (entries m (x ∷ drop (i + 1) exports)))) is
    ∙ sym (at_drop_more (λ (es : List Export). option_or (named q before) (named q (entries m es))) exports i e less)
    ∙ subst (λ (es : List Export). Enters m before (drop i es)) (sym all) so_far q)
  where
    by_entry : (o : Option (Option Offer)) (b : Bool) (rest : Option (Option Offer))
        → option_or (option_or o (if b then Some offer else None)) rest ≡ option_or o (if b then Some (offer_of m e) else rest)
    by_entry (Some t) b rest = refl
    by_entry None true rest = ap Some same
    by_entry None false rest = refl

pub all_entered : (m : Module) (table : OfferTable) (exports : List Export) (i : ℕ) → exports ≡ m.exports → length exports ≤ i
    → Enters m table (drop i m.exports) → Tells table m
all_entered m table exports i all past so_far q =
    sym (or_none (named q table))
    ∙ sym (at_drop_all (λ (es : List Export). option_or (named q table) (named q (entries m es))) exports i past)
    ∙ subst (λ (es : List Export). Enters m table (drop i es)) (sym all) so_far q
  where
    or_none : (o : Option (Option Offer)) → option_or o None ≡ o
    or_none (Some t) = refl
    or_none None = refl
