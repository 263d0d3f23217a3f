-- The units of the modules that joined, with one module more, and that they link.
use Rattle.wast_run.proofs.Common.{◌≡◌, ℕ, List, [], ◌∷◌, ◌++◌, map, None, Option, sym, refl, ap, ◌∙◌, subst, map-append, all_push}
use Rattle.wast_run.proofs.Common.{IsLinked, Fits, ListedCall, named_of, set_of, SetModule, Program, link_refusal, items, IsAccepted}
use Rattle.wast_run.proofs.Common.{IsAcceptedSet, UnitsLink, program_of, units_in, alone}
use Rattle.c_tree.specs.Tree as tree
use Rattle.c_meaning.specs.Linking as linking
use Rattle.c_sound.proofs.Choices.{not_both}
use Rattle.c_link.specs.Programs.{IsProgramOf}
use Rattle.c_link.specs.Refusals.{IsRefusal}
use Rattle.c_link.specs.declared.refusal.LinkRefusal.{LinkRefusal}
use Rattle.c_link.specs.declared.refusal.LinkRefusal.TheVariants as refusal
use Rattle.crun.specs.Sessions.{State}

module _ (modules : List SetModule) (m : SetModule) where
  pub set_more : IsAcceptedSet (set_of modules) → IsAccepted (named_of m) → IsLinked (set_of (modules ++ m ∷ []))
      → IsAcceptedSet (set_of (modules ++ m ∷ []))
  set_more before one linked = record {
    linked = linked;
    accepted = rw (map-append named_of modules (m ∷ [])) (all_push IsAccepted (map named_of modules) (named_of m) before.accepted one);
    host_bytes = tt;
  }

  pub units_more : (before : List (List tree.Item)) (one : List tree.Item) → before ≡ (program_of (set_of modules)).units
      → one ≡ items (named_of m) → before ++ one ∷ [] ≡ (program_of (set_of (modules ++ m ∷ []))).units
  units_more before one are is =
      (λ i. are i ++ is i ∷ []) ∙ sym (map-append items (map named_of modules) (named_of m ∷ []))
      ∙ ap (map items) (sym (map-append named_of modules (m ∷ [])))

  -- they link
  pub links_more : UnitsLink → (before : List (List tree.Item)) (one : List tree.Item) → before ≡ (program_of (set_of modules)).units
      → one ≡ items (named_of m) → IsAcceptedSet (set_of (modules ++ m ∷ [])) → link_refusal (alone (before ++ one ∷ [])) ≡ None
  links_more link before one are is accepted = rw (units_more before one are is) (link _ accepted)

-- where there are no units, no call fits
pub none_fits : {H : Type 0} (modules : List SetModule) (session : Option (State H))
    → units_in session ≡ (program_of (set_of modules)).units → session ≡ None → (call : ListedCall) → Fits (set_of modules) call → ⊥
none_fits [] session are none call (f, ty, called, typed, params, numbers) = absurd cc
none_fits (m ∷ modules) session are none call fits =
    let nothing : [] ≡ items (named_of m) ∷ map items (map named_of modules) = sym (ap units_in none) ∙ are in absurd cc

-- units that link are not refused
module _ (units : List (List tree.Item)) (none : link_refusal (alone units) ≡ None) (r : LinkRefusal)
    (refused : (p : Program) → IsProgramOf p units [] → IsRefusal r (link_refusal p)) where
  refused_by : (q : LinkRefusal) → r ≡ q → IsRefusal q (link_refusal (alone units))
  refused_by q is =
      subst (λ r. IsRefusal r (link_refusal (alone units))) is (refused (alone units) (record { units_are = refl; symbols_are = refl }))

  pub not_unresolved : (u : ℕ) (name : List ℕ) → r ≡ refusal.Undefined u name → ⊥
  not_unresolved u name is = not_both _ (linking.NotDefined u name) none (refused_by (refusal.Undefined u name) is)

  pub not_twice : (u : ℕ) (name : List ℕ) → r ≡ refusal.Twice u name → ⊥
  not_twice u name is = not_both _ (linking.Twice u name) none (refused_by (refusal.Twice u name) is)

  pub not_unlike : (u : ℕ) (name : List ℕ) → r ≡ refusal.TypeDiffers u name → ⊥
  not_unlike u name is = not_both _ (linking.TypeDiffers u name) none (refused_by (refusal.TypeDiffers u name) is)
