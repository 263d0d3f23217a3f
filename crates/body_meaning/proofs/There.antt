-- What the code of a body calls is there: its helpers stand in the unit, and it has the variable for an element.
use Rattle.body_meaning.proofs.Common.{◌≡◌, ℕ, slice_get, Some, ◌∙◌, list_any, BodyEntry, HELPERS, has_element, Site, any_in, calls_helper}
use Rattle.body_meaning.proofs.Common.{IsThere, Serves}
use Rattle.std.proofs.lemmas.Map.Keys.{any_passes_from_place}
use Rattle.w2c_base.proofs.Lists.{contains_kept}
use Rattle.c_prelude.proofs.Functions.{listed}

-- the body of one of the module's functions
pub body_is_there : (g : Site) (i : ℕ) {entry : BodyEntry} → Serves g.program g.linked g.unit g.setting.named
    → slice_get g.setting.named.tree.bodies i ≡ Some entry → g.has_element ≡ has_element entry.code
    → IsThere g (λ test. any_in test entry.code)
body_is_there g i {entry} serves at_it element_is = record {
  helpers = λ which is.
      let place = listed which in
      serves.helpers which
      (contains_kept (λ other. list_any (λ b. any_in (calls_helper other) b.code) g.setting.named.tree.bodies) HELPERS place.0 which place.1
      (any_passes_from_place (λ b. any_in (calls_helper which) b.code) g.setting.named.tree.bodies i entry at_it is));
  element = λ is. element_is ∙ is;
}
