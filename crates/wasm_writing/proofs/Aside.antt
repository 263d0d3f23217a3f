-- Spellings with the places aside: of whole modules, and of those without what may be left out.
use Rattle.wasm_writing.proofs.Common.{◌≡◌, ℕ, ◌+◌, ◌≤◌, List, [], ◌∷◌, ◌++◌, length, sym, refl, ap, ◌∙◌, subst, inl, inr, arith}
use Rattle.wasm_writing.proofs.Common.{length-append, cases_Bool, nat_eq, Module, Custom, Fields, Spelled, byte, either, finished, for_some}
use Rattle.wasm_writing.proofs.Common.{here, number, provided, signed, text, window, Part, content, custom, each, is_empty, module_fields}
use Rattle.wasm_writing.proofs.Common.{parts, section, sections, filled, short_fields}
use Rattle.wasm_writing.specs.Aside.{SpelledAside, SpelledBy}
use Rattle.wasm_writing.proofs.Fills.{start_of_file, keeps_start}
use Rattle.wasm_writing.proofs.PartLemmas.{filled-empty, filled-full}

pub spelled_aside : (fields : Fields) (place : ℕ) (bytes : List ℕ) → Spelled fields place bytes → SpelledAside fields bytes
unfolding SpelledBy
spelled_aside finished place bytes s = s
spelled_aside (byte b fields) place bytes (front, rest, e, p, q) = (front, rest, e, p, spelled_aside fields (place + length front) rest q)
spelled_aside (number n fields) place bytes (front, rest, e, p, q) = (front, rest, e, p, spelled_aside fields (place + length front) rest q)
spelled_aside (signed width n fields) place bytes (front, rest, e, p, q) =
    (front, rest, e, p, spelled_aside fields (place + length front) rest q)
spelled_aside (text t fields) place bytes (front, rest, e, p, q) = (front, rest, e, p, spelled_aside fields (place + length front) rest q)
spelled_aside (here q fields) place bytes (e, s) = spelled_aside fields place bytes s
spelled_aside (provided b fields) place bytes (e, s) = (e, spelled_aside fields place bytes s)
spelled_aside (window inside fields) place bytes (size, (front, rest, e, p, (content, after, d, (l, s), q))) =
    let inner = spelled_aside inside (place + length front) content s in
    let outer = spelled_aside fields (place + length front + length content) after q in
    (size, (front, rest, e, p, (content, after, d, (l, inner), outer)))
spelled_aside (either fields others) place bytes (inl s) = inl (spelled_aside fields place bytes s)
spelled_aside (either fields others) place bytes (inr s) = inr (spelled_aside others place bytes s)
spelled_aside (for_some choice) place bytes (cs, s) = (cs, spelled_aside (choice cs) place bytes s)

-- ---- custom sections are left out

after_customs : (cs : List Custom) (rest : Fields) (bytes : List ℕ) → SpelledAside (each custom cs rest) bytes
    → (back : List ℕ) × SpelledAside rest back × (length back ≤ length bytes)
unfolding SpelledBy
after_customs [] rest bytes s = (bytes, s, omega arith)
after_customs (c ∷ cs) rest bytes (front, behind, e, p, (size, (sized, more, d, q, (inside, after, f, i, s)))) =
    let r = after_customs cs rest after s in
    let first : length bytes ≡ length front + length behind = ap length e ∙ length-append front behind in
    let second : length behind ≡ length sized + length more = ap length d ∙ length-append sized more in
    let third : length more ≡ length inside + length after = ap length f ∙ length-append inside after in
    (r.0, r.1, omega (arith, r.2, first, second, third))

-- a spelling that is not longer
abbrev Shorter : Fields → List ℕ → Type 0
Shorter fields bytes = (short : List ℕ) × SpelledAside fields short × (length short ≤ length bytes)

-- a section without entries is left out
part_left_out : (t : Module) (part : Part) (rest other : Fields) (bytes : List ℕ) → ((b : List ℕ) → SpelledAside rest b → Shorter other b)
    → SpelledAside (section part t rest) bytes → Shorter (filled t part other) bytes
unfolding SpelledBy
part_left_out t part rest other bytes go (inl (e, s)) =
    let r = go bytes s in
    (r.0, subst (λ f. SpelledAside f r.0) (sym (filled-empty t part other e)) r.1, r.2)
part_left_out t part rest other bytes go (inr (front, behind, e, p, (size, (sized, more, d, q, (inside, after, f, i, s))))) =
    let r = go after s in
    let first : length bytes ≡ length front + length behind = ap length e ∙ length-append front behind in
    let second : length behind ≡ length sized + length more = ap length d ∙ length-append sized more in
    let third : length more ≡ length inside + length after = ap length f ∙ length-append inside after in
    elim (cases_Bool (is_empty part t)) [
      | inl empty ↦ (
        r.0,
        subst (λ f. SpelledAside f r.0) (sym (filled-empty t part other empty)) r.1,
        omega (arith, r.2, first, second, third),
      )
      | inr full ↦
          let bytes' = front ++ (sized ++ (inside ++ r.0)) in
          let shorter : length bytes' ≡ length front + (length sized + (length inside + length r.0)) = omega (
            arith,
            length-append front (sized ++ (inside ++ r.0)),
            length-append sized (inside ++ r.0),
            length-append inside r.0,
          ) in (
            bytes',
            subst (λ f. SpelledAside f bytes') (sym (filled-full t part other full))
                (front, sized ++ (inside ++ r.0), refl, p, (size, (sized, inside ++ r.0, refl, q, (inside, r.0, refl, i, r.1)))),
            omega (arith, r.2, first, second, third, shorter),
          )
    ]

parts_left_out : (t : Module) (ps : List Part) (bytes : List ℕ) → SpelledAside (sections ps t finished) bytes
    → Shorter (each (filled t) ps finished) bytes
unfolding SpelledBy
parts_left_out t [] bytes (cs, s) = let r = after_customs cs finished bytes s in ([], refl, omega arith)
parts_left_out t (part ∷ ps) bytes (cs, s) =
    let r = after_customs cs (section part t (sections ps t finished)) bytes s in
    let q = part_left_out t part (sections ps t finished) (each (filled t) ps finished) r.0 (λ b u. parts_left_out t ps b u) r.1 in
    (q.0, q.1, omega (arith, q.2, r.2))

-- eight bytes, a condition, and what follows
pub short_aside_of : (t : Module) (bytes : List ℕ) → SpelledAside (module_fields t) bytes
    → (short : List ℕ) × SpelledAside (short_fields t finished) short × (length short ≤ length bytes)
unfolding SpelledBy start_of_file
short_aside_of t bytes s =
    let begins = keeps_start.at 0 bytes (provided (nat_eq (length t.funcs) (length t.bodies)) (sections parts t finished)) s in
    let z = parts_left_out t parts begins.back begins.behind.1 in (
      begins.front ++ z.0,
      begins.aside (provided (nat_eq (length t.funcs) (length t.bodies)) (each (filled t) parts finished)) z.0 (begins.behind.0, z.1),
      omega (arith, z.2, ap length begins.whole, length-append begins.front begins.back, length-append begins.front z.0),
    )
