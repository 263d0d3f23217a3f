-- The events of a run that goes on begin with those so far: a step tells nothing, or one ask of a host, and the end of a
-- listed call tells one event more.
use Rattle.c_sound.proofs.Common.{◌≡◌, ℕ, List, [], ◌∷◌, ◌++◌, sym, refl, ap, ◌∙◌, subst, append_assoc, append-nil, Asked, CallEnded, Event}
use Rattle.c_sound.proofs.Common.{Program, Going, Over, Progress, after, run_of, Objects}
use Rattle.c_meaning.proofs.StepsKeep.{trail_kept, after_keeps}
use Rattle.c_sound.specs.Events.{events_of}

-- ---- events behind others

abbrev Continues : List Event → List Event → Type 0
Continues before events = (more : List Event) × (events ≡ before ++ more)

one_more : (before events : List Event) (e : Event) → Continues before events → Continues before (events ++ e ∷ [])
one_more before events e h = (h.0 ++ e ∷ [], ap (λ (es : List Event). es ++ e ∷ []) h.1 ∙ append_assoc before h.0 (e ∷ []))

-- ---- runs

events_of_run : (x : Progress) → (run_of x).events ≡ events_of x
events_of_run (Going pending s) = refl
events_of_run (Over run) = refl

pub run_tells : (p : Program) (n : ℕ) (x : Progress) → Continues (events_of x) (run_of (after p n x)).events
run_tells p n x = after_keeps p (λ (events : List Event) (units : List Objects). Continues (events_of x) events)
    (trail_kept (λ t. Continues (events_of x) t.events))
    (λ m a reply replies is h. one_more (events_of x) m.trail.events (Asked a reply) h)
    (λ m value h. one_more (events_of x) m.trail.events (CallEnded value) h)
    n x ([], events_of_run x ∙ sym (append-nil (events_of x)))

pub after_tells : (p : Program) (n : ℕ) (x : Progress) → Continues (events_of x) (events_of (after p n x))
after_tells p n x = subst (Continues (events_of x)) (events_of_run (after p n x)) (run_tells p n x)
