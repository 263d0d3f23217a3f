-- A piece is put behind a draft: which fields it is the shortest spelling of.
use Rattle.wasm_writing.proofs.Common.{◌≡◌, ℕ, ◌+◌, ◌^◌, ◌<◌, ◌≤◌, Bool, true, false, List, [], ◌∷◌, ◌++◌, length, ℤ, sym, refl, ap, ◌∙◌}
use Rattle.wasm_writing.proofs.Common.{subst, append_assoc, arith, length-append, all_append, SpellsSigned, SpellsUnsigned, IsShortest}
use Rattle.wasm_writing.proofs.Common.{AreBytes, Fields, byte, here, number, provided, signed, text, most_module_bytes, Completes, Fits}
use Rattle.wasm_writing.proofs.Common.{Makes, Puts, Refuses, Takes, size_of, Draft, Counted, Stopped, Written, Memory, Unformed, false≢true}
use Rattle.wasm_writing.specs.Aside.{SpelledAside, SpelledBy, SpelledShort}

-- the piece is the shortest spelling of a field
pub record IsField (field : Fields → Fields) (piece : List ℕ) : Type 0 where
  pub short : (rest : Fields) (bytes : List ℕ) → SpelledShort rest bytes → SpelledShort (field rest) (piece ++ bytes)
  pub least : (rest : Fields) (bytes : List ℕ) → SpelledAside (field rest) bytes
      → (back : List ℕ) × (length piece + length back ≤ length bytes) × SpelledAside rest back

-- the piece is put behind a draft that goes on
pub puts_piece : (field : Fields → Fields) (piece : List ℕ) (old new : Draft) → IsField field piece → AreBytes piece → Takes piece old new
    → Puts field old new
puts_piece field piece old new f are t = (makes old new t, fits old new t, small old new t)
  where
    bytes : (rest : List ℕ) → AreBytes rest → AreBytes (piece ++ rest)
    bytes rest h = all_append (λ b. b < 256) piece rest are h

    makes : (old new : Draft) → Takes piece old new → (file : List ℕ) (rest : Fields) → Makes file new rest → Makes file old (field rest)
    makes (Counted n) (Counted m) t file rest h = record {
      rest = piece ++ h.rest;
      spelled = f.short rest h.rest h.spelled;
      are_bytes = bytes h.rest h.are_bytes;
      completes = omega (arith, t, h.completes, length-append piece h.rest);
      small = h.small;
    }
    makes (Written a) (Written b) t file rest h = record {
      rest = piece ++ h.rest;
      spelled = f.short rest h.rest h.spelled;
      are_bytes = bytes h.rest h.are_bytes;
      completes = sym (append_assoc a piece h.rest) ∙ ap (λ c. c ++ h.rest) (sym t.0) ∙ h.completes;
      small = h.small;
    }
    makes (Counted n) (Written b) t file rest h = absurd t
    makes (Written a) (Counted m) t file rest h = absurd t
    makes old (Stopped stop) t file rest h = absurd h.completes
    makes (Stopped stop) new t file rest h = absurd (subst (λ d. Completes d h.rest file) t h.completes)

    fits : (old new : Draft) → Takes piece old new → (written : Bool) (room : ℕ) (rest : Fields) → Fits written room old (field rest)
        → Fits written room new rest
    fits (Counted n) (Counted m) t written room rest h =
        let w = h.goes_on.1 in
        let l = f.least rest w.rest w.spelled in
        record {
          goes_on = (
            h.goes_on.0,
            record { rest = l.0; spelled = l.2; within = omega (arith, l.1, w.within, t.0); small = w.small },
          );
        }
    fits (Written a) (Written b) t written room rest h =
        let w = h.goes_on.1 in
        let l = f.least rest w.rest w.spelled in
        record {
          goes_on = (
            h.goes_on.0,
            record {
              rest = l.0;
              spelled = l.2;
              within = omega (arith, l.1, w.within, ap length t.0, length-append a piece);
              small = w.small;
            },
          );
        }
    fits (Counted n) (Written b) t written room rest h = absurd t
    fits (Written a) (Counted m) t written room rest h = absurd t
    fits (Counted n) (Stopped Unformed) t written room rest h =
        let w = h.goes_on.1 in
        let l = f.least rest w.rest w.spelled in
        absurd (omega (arith, l.1, w.within, w.small, t))
    fits (Counted n) (Stopped Memory) t written room rest h = absurd t
    fits (Written a) (Stopped Unformed) t written room rest h =
        let w = h.goes_on.1 in
        let l = f.least rest w.rest w.spelled in
        absurd (omega (arith, l.1, w.within, w.small, t))
    fits (Written a) (Stopped Memory) t written room rest h = record { goes_on = h.goes_on.0 }
    fits (Stopped Unformed) new t written room rest h = absurd h.goes_on
    fits (Stopped Memory) new t written room rest h = subst (λ d. Fits written room d rest) (sym t) (record { goes_on = h.goes_on })

    small : (old new : Draft) → Takes piece old new → size_of old ≤ most_module_bytes → size_of new ≤ most_module_bytes
    small (Counted n) (Counted m) t s = t.1
    small (Written a) (Written b) t s = t.1
    small (Counted n) (Written b) t s = absurd t
    small (Written a) (Counted m) t s = absurd t
    small old (Stopped stop) t s = omega arith
    small (Stopped stop) new t s = subst (λ d. size_of d ≤ most_module_bytes) (sym t) (omega arith)

-- nothing spells the field
pub puts_none : (field : Fields → Fields) (old new : Draft)
    → ((rest : Fields) (bytes : List ℕ) → length bytes ≤ most_module_bytes → SpelledAside (field rest) bytes → ⊥) → Refuses old new
    → Puts field old new
puts_none field old new none t = (makes old t, fits old t, small old t)
  where
    makes : (old : Draft) → Refuses old new → (file : List ℕ) (rest : Fields) → Makes file new rest → Makes file old (field rest)
    makes (Counted n) t file rest h = absurd (subst (λ d. Completes d h.rest file) t h.completes)
    makes _ t file rest h = absurd (subst (λ d. Completes d h.rest file) t h.completes)

    fits : (old : Draft) → Refuses old new → (written : Bool) (room : ℕ) (rest : Fields) → Fits written room old (field rest)
        → Fits written room new rest
    fits (Stopped Unformed) t written room rest h = absurd h.goes_on
    fits (Stopped Memory) t written room rest h = subst (λ d. Fits written room d rest) (sym t) (record { goes_on = h.goes_on })
    fits _ t written room rest h = let w = h.goes_on.1 in absurd (none rest w.rest (omega (arith, w.within, w.small)) w.spelled)

    small : (old : Draft) → Refuses old new → size_of old ≤ most_module_bytes → size_of new ≤ most_module_bytes
    small (Counted n) t s = subst (λ d. size_of d ≤ most_module_bytes) (sym t) (omega arith)
    small _ t s = subst (λ d. size_of d ≤ most_module_bytes) (sym t) (omega arith)

pub byte_field : (b : ℕ) → IsField (byte b) (b ∷ [])
unfolding SpelledBy
byte_field b = record {
  short = λ rest bytes s. (b ∷ [], bytes, refl, refl, s);
  least = λ rest bytes s. (s.1, omega (arith, ap length s.2, length-append s.0 s.1, ap length s.3), s.4);
}

pub text_field : (t : List ℕ) → IsField (text t) t
unfolding SpelledBy
text_field t = record {
  short = λ rest bytes s. (t, bytes, refl, refl, s);
  least = λ rest bytes s. (s.1, omega (arith, ap length s.2, length-append s.0 s.1, ap length s.3), s.4);
}

pub number_field : (n : ℕ) (piece : List ℕ) → IsShortest (SpellsUnsigned 32) piece n → IsField (number n) piece
unfolding SpelledBy
number_field n piece i = record {
  short = λ rest bytes s. (piece, bytes, refl, i, s);
  least = λ rest bytes s. (s.1, omega (arith, ap length s.2, length-append s.0 s.1, i.least s.0 s.3), s.4);
}

pub signed_field : (width : ℕ) (n : ℤ) (piece : List ℕ) → IsShortest (SpellsSigned width) piece n → IsField (signed width n) piece
unfolding SpelledBy
signed_field width n piece i = record {
  short = λ rest bytes s. (piece, bytes, refl, i, s);
  least = λ rest bytes s. (s.1, omega (arith, ap length s.2, length-append s.0 s.1, i.least s.0 s.3), s.4);
}

-- what has a spelling where other fields have one no longer fits wherever these do
pub fits_as : (front back : Fields)
    → ((bytes : List ℕ) → SpelledAside front bytes → (other : List ℕ) × SpelledAside back other × (length other ≤ length bytes))
    → (written : Bool) (room : ℕ) (draft : Draft) → Fits written room draft front → Fits written room draft back
fits_as front back same written room (Stopped Unformed) h = absurd h.goes_on
fits_as front back same written room (Stopped Memory) h = record { goes_on = h.goes_on }
fits_as front back same written room _ h =
    let w = h.goes_on.1 in let o = same w.rest w.spelled in
    record { goes_on = (h.goes_on.0, record { rest = o.0; spelled = o.1; within = omega (arith, o.2, w.within); small = w.small }) }

pub fits_here : (written : Bool) (room : ℕ) (draft : Draft) (place : ℕ) (rest : Fields) → Fits written room draft (here place rest)
    → Fits written room draft rest
unfolding SpelledBy
fits_here written room draft place rest h = fits_as (here place rest) rest (λ bytes s. (bytes, s, omega arith)) written room draft h

pub fits_provided : (written : Bool) (room : ℕ) (draft : Draft) (b : Bool) (rest : Fields) → Fits written room draft (provided b rest)
    → Fits written room draft rest
unfolding SpelledBy
fits_provided written room draft b rest h = fits_as (provided b rest) rest (λ bytes s. (bytes, s.1, omega arith)) written room draft h

-- the draft stays where a condition holds
pub puts_nothing : (draft : Draft) → Puts (provided true) draft draft
unfolding SpelledBy
puts_nothing draft = (
  (λ file rest h. record { rest = h.rest; spelled = (refl, h.spelled); are_bytes = h.are_bytes; completes = h.completes; small = h.small }),
  (λ written room rest h. fits_provided written room draft true rest h),
  (λ s. s),
)

pub does_not_hold : (rest : Fields) (bytes : List ℕ) → length bytes ≤ most_module_bytes → SpelledAside (provided false rest) bytes → ⊥
unfolding SpelledBy
does_not_hold rest bytes _ s = false≢true s.0

pub too_large : (n : ℕ) → 2 ^ 32 ≤ n → (rest : Fields) (bytes : List ℕ) → length bytes ≤ most_module_bytes
    → SpelledAside (number n rest) bytes → ⊥
unfolding SpelledBy
too_large n large rest bytes _ s = omega (arith, large, s.3.fits)

-- a place says nothing here
pub makes_here : (file : List ℕ) (draft : Draft) (place : ℕ) (rest : Fields) → Makes file draft rest → Makes file draft (here place rest)
unfolding SpelledBy
makes_here file draft place rest h = record {
  rest = h.rest;
  spelled = h.spelled;
  are_bytes = h.are_bytes;
  completes = h.completes;
  small = h.small;
}

-- fields behind a condition that holds
pub puts_if : (b : Bool) (fields : Fields → Fields) (old new : Draft) → b ≡ true → Puts fields old new
    → Puts (λ rest. provided b (fields rest)) old new
unfolding SpelledBy
puts_if b fields old new e p = (
  (λ file rest h. let m = p.0 file rest h in record {
    rest = m.rest;
    spelled = (e, m.spelled);
    are_bytes = m.are_bytes;
    completes = m.completes;
    small = m.small;
  }),
  (λ written room rest h. p.1 written room rest (fits_provided written room old b (fields rest) h)),
  p.2,
)
