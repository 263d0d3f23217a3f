-- The loop over sections.
use Rattle.wasm_binary.proofs.Common.{◌≡◌, ℕ, zero, suc, ◌<◌, true, false, length, Ok, Err, Result, sym, refl, ap, ◌∙◌, arith, Module, At}
use Rattle.wasm_binary.proofs.Common.{all_sections_at, ◌>>=◌, ReadFault, Memory, behind_id, is_no_section, Fails}
use Rattle.wasm_spelling.specs.Steps.{reads, SectionId, no_section, a_custom, a_part, section_id_at}
use Rattle.wasm_spelling.specs.Reading.{after_id, sections_at}
use Rattle.wasm_spelling.proofs.Sections.{IdIs, id_takes, custom_taken, section_shorter}

-- the sections that are still to be read give the whole
abbrev pub Ahead : Module → At → Result (Module × At) ReadFault → Type 0
Ahead m a total = (k : ℕ) × (length a.left < k) × (sections_at k m a ≡ total)

pub at_start : (m : Module) (a : At) → Ahead m a (all_sections_at m a)
at_start m a = (suc (length a.left), omega arith, refl)

-- behind an id that is no end stand a section and more
split : (k : ℕ) (m : Module) (h : SectionId) (b : At) → is_no_section h ≡ false
    → after_id (sections_at k) m h b ≡ (behind_id h m b >>= λ x. sections_at k x.0 x.1)
unfolding reads
split k m no_section b e = absurd cc
split k m a_custom b e = refl
split k m (a_part p) b e = refl

smaller_by : (m : Module) (a : At) (h : SectionId) (b : At) (n : Module) (c : At) → IdIs a h b → is_no_section h ≡ false
    → behind_id h m b ≡ Ok (n, c) → length c.left < length a.left
smaller_by m a no_section b n c is e r = absurd cc
smaller_by m a a_custom b n c is e r = omega (arith, is.1, (custom_taken m b n c r).1.within)
smaller_by m a (a_part p) b n c is e r = omega (arith, is.3, (section_shorter p m b n c r).1.within)

pub smaller : (m : Module) (a : At) (h : SectionId) (b : At) (n : Module) (c : At) → section_id_at a ≡ Ok (h, b) → is_no_section h ≡ false
    → behind_id h m b ≡ Ok (n, c) → length c.left < length a.left
smaller m a h b n c e t r = smaller_by m a h b n c (id_takes a.place a.left a.counts h b e) t r

pub goes_on : (m : Module) (a : At) (h : SectionId) (b : At) (n : Module) (c : At) (total : Result (Module × At) ReadFault)
    → section_id_at a ≡ Ok (h, b) → is_no_section h ≡ false → behind_id h m b ≡ Ok (n, c) → Ahead m a total → Ahead n c total
unfolding sections_at reads
goes_on m a h b n c total e t r (zero, less, w) = absurd (omega (arith, less))
goes_on m a h b n c total e t r (suc k, less, w) = (
  k,
  omega (arith, less, smaller m a h b n c e t r),
  sym (ap (λ (x : Result (Module × At) ReadFault). x >>= λ x. sections_at k x.0 x.1) r) ∙ sym (split k m h b t)
      ∙ sym (ap (λ (x : Result (SectionId × At) ReadFault). x >>= λ x. after_id (sections_at k) m x.0 x.1) e) ∙ w,
)

ends_by : (k : ℕ) (m : Module) (h : SectionId) (b : At) → is_no_section h ≡ true → after_id (sections_at k) m h b ≡ Ok (m, b)
ends_by k m no_section b e = refl
ends_by k m a_custom b e = absurd cc
ends_by k m (a_part p) b e = absurd cc

pub is_done : (m : Module) (a : At) (h : SectionId) (b : At) (total : Result (Module × At) ReadFault) → section_id_at a ≡ Ok (h, b)
    → is_no_section h ≡ true → Ahead m a total → total ≡ Ok (m, b)
unfolding sections_at reads
is_done m a h b total e t (zero, less, w) = absurd (omega (arith, less))
is_done m a h b total e t (suc k, less, w) =
    sym w ∙ ap (λ (x : Result (SectionId × At) ReadFault). x >>= λ x. after_id (sections_at k) m x.0 x.1) e ∙ ends_by k m h b t

id_failed : (m : Module) (a : At) (f : ReadFault) (total : Result (Module × At) ReadFault) → section_id_at a ≡ Err f → Ahead m a total
    → total ≡ Err f
unfolding sections_at reads
id_failed m a f total e (zero, less, w) = absurd (omega (arith, less))
id_failed m a f total e (suc k, less, w) =
    sym w ∙ ap (λ (x : Result (SectionId × At) ReadFault). x >>= λ x. after_id (sections_at k) m x.0 x.1) e

pub id_stops : (m : Module) (a : At) (f : ReadFault) (total : Result (Module × At) ReadFault) → Fails f (section_id_at a) → Ahead m a total
    → Fails f total
id_stops m a Memory total e w = tt
id_stops m a _ total e w = id_failed m a _ total e w

section_failed : (m : Module) (a : At) (h : SectionId) (b : At) (f : ReadFault) (total : Result (Module × At) ReadFault)
    → section_id_at a ≡ Ok (h, b) → is_no_section h ≡ false → behind_id h m b ≡ Err f → Ahead m a total → total ≡ Err f
unfolding sections_at reads
section_failed m a h b f total e t r (zero, less, w) = absurd (omega (arith, less))
section_failed m a h b f total e t r (suc k, less, w) =
    sym w ∙ ap (λ (x : Result (SectionId × At) ReadFault). x >>= λ x. after_id (sections_at k) m x.0 x.1) e ∙ split k m h b t
    ∙ ap (λ (x : Result (Module × At) ReadFault). x >>= λ x. sections_at k x.0 x.1) r

pub section_stops : (m : Module) (a : At) (h : SectionId) (b : At) (f : ReadFault) (total : Result (Module × At) ReadFault)
    → section_id_at a ≡ Ok (h, b) → is_no_section h ≡ false → Fails f (behind_id h m b) → Ahead m a total → Fails f total
section_stops m a h b Memory total e t r w = tt
section_stops m a h b _ total e t r w = section_failed m a h b _ total e t r w
