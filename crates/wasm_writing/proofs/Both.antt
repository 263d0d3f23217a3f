-- Fields that the same bytes spell with the places aside, whatever follows them.
use Rattle.wasm_writing.proofs.Common.{◌≡◌, ℕ, List, [], ◌∷◌, map, length, nat_le, sym, refl, subst, arith, Fields, finished, here, number}
use Rattle.wasm_writing.proofs.Common.{provided, window, each, short_vector, vector}
use Rattle.wasm_writing.specs.Aside.{SpelledAside, SpelledBy}
use Rattle.wasm_writing.proofs.Fills.{Fills, keeps_number, keeps_provided}

-- what spells the first spells the second
abbrev pub Moves : (Fields → Fields) → (Fields → Fields) → Type 0
Moves f g =
    (rest other : Fields) → ((bytes : List ℕ) → SpelledAside rest bytes → SpelledAside other bytes) → (bytes : List ℕ)
    → SpelledAside (f rest) bytes → SpelledAside (g other) bytes

pub record Both (f g : Fields → Fields) : Type 0 where
  pub on : Moves f g
  pub back : Moves g f

pub both_none : Both (λ x. x) (λ x. x)
both_none = record { on = λ rest other go bytes s. go bytes s; back = λ rest other go bytes s. go bytes s }

pub both_self : {R : Type 0} {f : Fields → Fields} {f' : R → Fields → Fields} → Fills f f' → Both f f
both_self {R} {f} {f'} h = record { on = moves; back = moves }
  where
    moves : Moves f f
    moves rest other go bytes s =
        let a = h.at 0 bytes rest s in
        subst (λ l. SpelledAside (f other) l) (sym a.whole) (a.aside other a.back (go a.back a.behind))

pub both_then : {f f' g g' : Fields → Fields} → Both f f' → Both g g' → Both (λ x. f (g x)) (λ x. f' (g' x))
both_then {f} {f'} {g} {g'} p q = record {
  on = λ rest other go bytes s. p.on (g rest) (g' other) (λ b t. q.on rest other go b t) bytes s;
  back = λ rest other go bytes s. p.back (g' rest) (g other) (λ b t. q.back rest other go b t) bytes s;
}

-- a place says nothing
pub both_here : {q r : ℕ} {f g : Fields → Fields} → Both f g → Both (λ x. here q (f x)) (λ x. here r (g x))
unfolding SpelledBy
both_here p = record {
  on = λ rest other go bytes s. p.on rest other go bytes s;
  back = λ rest other go bytes s. p.back rest other go bytes s;
}

pub both_window : {f g : Fields → Fields} → Both f g → Both (window (f finished)) (window (g finished))
unfolding SpelledBy
both_window {f} {g} p = record { on = moves f g p.on; back = moves g f p.back }
  where
    moves : (f g : Fields → Fields) → Moves f g → Moves (window (f finished)) (window (g finished))
    moves f g m rest other go bytes (size, (front, back, e, p, (content, after, d, (l, s), q))) =
        (size, (front, back, e, p, (content, after, d, (l, m finished finished (λ b t. t) content s), go after q)))

pub both_each : {A : Type 0} (bare : A → A) {fields : A → Fields → Fields} → ((v : A) → Both (fields v) (fields (bare v))) → (vs : List A)
    → Both (each fields vs) (each fields (map bare vs))
both_each bare h [] = both_none
both_each bare h (v ∷ vs) = both_then (h v) (both_each bare h vs)

pub length-bare : {A : Type 0} (bare : A → A) (vs : List A) → length (map bare vs) ≡ length vs
length-bare bare [] = refl
length-bare bare (v ∷ vs) = omega (arith, length-bare bare vs)

pub both_vector : {A : Type 0} (bare : A → A) {fields : A → Fields → Fields} → ((v : A) → Both (fields v) (fields (bare v))) → (vs : List A)
    → Both (vector fields vs) (vector fields (map bare vs))
both_vector bare {fields} h vs =
    subst (λ n. Both (vector fields vs) (λ x. number n (each fields (map bare vs) x))) (sym (length-bare bare vs))
    (both_then (both_self (keeps_number (length vs))) (both_each bare h vs))

pub both_short_vector : {A : Type 0} (most : ℕ) (bare : A → A) {fields : A → Fields → Fields}
    → ((v : A) → Both (fields v) (fields (bare v))) → (vs : List A)
    → Both (short_vector most fields vs) (short_vector most fields (map bare vs))
both_short_vector most bare {fields} h vs =
    subst (λ n. Both (short_vector most fields vs) (λ x. number n (provided (nat_le n most) (each fields (map bare vs) x))))
    (sym (length-bare bare vs))
    (both_then (both_self (keeps_number (length vs)))
    (both_then (both_self (keeps_provided (nat_le (length vs) most))) (both_each bare h vs)))
