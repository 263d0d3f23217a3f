-- Each module has one list of faults, and with it one verdict; it is accepted exactly where it is valid.
use Rattle.wasm_valid.proofs.Common.{◌≡◌, ◌⊎◌, List, [], ◌∷◌, ◌++◌, Some, None, Option, sym, refl, ap, ◌∙◌, inl, inr, BodyEntry, Module}
use Rattle.wasm_valid.proofs.Common.{FirstBodyFault, Context, body_context, module_faults, BodyHasType, Accepted, AreTyped, Bodies}
use Rattle.wasm_valid.proofs.Common.{FaultOfBody, FaultsOfBodies, Invalid, IsTyped, IsValid, Outcome, Verdict, bodies_of, first_fault}
use Rattle.wasm_valid.proofs.Common.{outcome_of, Fault}
use Rattle.body_check.proofs.FirstFaults.{one_or_other, exclusive, one_fault}

faults_of_body : (o : Option Context) (body : BodyEntry) → (faults : List Fault) × FaultOfBody o body faults
faults_of_body None body = ([], refl)
faults_of_body (Some c) body = go (one_or_other c body)
  where
    go : BodyHasType c body.code ⊎ ((t : Fault) × FirstBodyFault c body t) → (faults : List Fault) × FaultOfBody (Some c) body faults
    go (inl h) = ([], inl (h, refl))
    go (inr w) = (w.0 ∷ [], inr (w.0, w.1, refl))

one_of_body : (o : Option Context) (body : BodyEntry) (a b : List Fault) → FaultOfBody o body a → FaultOfBody o body b → a ≡ b
one_of_body None body a b h k = h ∙ sym k
one_of_body (Some c) body a b (inl h) (inl k) = h.1 ∙ sym k.1
one_of_body (Some c) body a b (inl h) (inr k) = absurd (exclusive c body k.0 h.0 k.1)
one_of_body (Some c) body a b (inr h) (inl k) = absurd (exclusive c body h.0 k.0 h.1)
one_of_body (Some c) body a b (inr h) (inr k) = h.2 ∙ ap (λ t. t ∷ []) (one_fault c body h.0 k.0 h.1 k.1) ∙ sym k.2

faults_of_bodies : (m : Module) (bodies : Bodies) → (faults : List Fault) × FaultsOfBodies m bodies faults
faults_of_bodies m [] = ([], refl)
faults_of_bodies m (b ∷ bodies) =
    let f = faults_of_body (body_context m b.0 b.1) b.1 in
    let g = faults_of_bodies m bodies in
    (f.0 ++ g.0, (f.0, g.0, f.1, g.1, refl))

one_of_bodies : (m : Module) (bodies : Bodies) (a b : List Fault) → FaultsOfBodies m bodies a → FaultsOfBodies m bodies b → a ≡ b
one_of_bodies m [] a b h k = h ∙ sym k
one_of_bodies m (body ∷ bodies) a b h k =
    h.4 ∙ ap (λ x. x ++ h.1) (one_of_body (body_context m body.0 body.1) body.1 h.0 k.0 h.2 k.2)
    ∙ ap (λ x. k.0 ++ x) (one_of_bodies m bodies h.1 k.1 h.3 k.3) ∙ sym k.4

-- the same with any faults in front
abbrev Behind : List Fault → Module → Bodies → List Fault → Type 0
Behind outside m bodies faults = (of_bodies : List Fault) × FaultsOfBodies m bodies of_bodies × (faults ≡ outside ++ of_bodies)

abbrev Says : List Fault → Module → Bodies → Outcome → Type 0
Says outside m bodies outcome = (faults : List Fault) × Behind outside m bodies faults × (outcome ≡ outcome_of (first_fault faults))

one_behind : (outside : List Fault) (m : Module) (bodies : Bodies) (a b : List Fault) → Behind outside m bodies a
    → Behind outside m bodies b → a ≡ b
one_behind outside m bodies a b h k = h.2 ∙ ap (λ x. outside ++ x) (one_of_bodies m bodies h.0 k.0 h.1 k.1) ∙ sym k.2

some_said : (outside : List Fault) (m : Module) (bodies : Bodies) → (outcome : Outcome) × Says outside m bodies outcome
some_said outside m bodies =
    let f = faults_of_bodies m bodies in
    (outcome_of (first_fault (outside ++ f.0)), (outside ++ f.0, (f.0, f.1, refl), refl))

one_said : (outside : List Fault) (m : Module) (bodies : Bodies) (a b : Outcome) → Says outside m bodies a → Says outside m bodies b → a ≡ b
one_said outside m bodies a b h k = h.2 ∙ ap (λ x. outcome_of (first_fault x)) (one_behind outside m bodies h.0 k.0 h.1 k.1) ∙ sym k.2

pub some_verdict : (m : Module) → (outcome : Outcome) × Verdict m outcome
some_verdict m = some_said (module_faults m) m (bodies_of m)

pub one_verdict : (m : Module) (a b : Outcome) → Verdict m a → Verdict m b → a ≡ b
one_verdict m a b h k = one_said (module_faults m) m (bodies_of m) a b h k

-- valid modules are those without faults
typed_body : (o : Option Context) (body : BodyEntry) → IsTyped o body → FaultOfBody o body []
typed_body None body h = refl
typed_body (Some c) body h = inl (h, refl)

typed_bodies : (m : Module) (bodies : Bodies) → AreTyped m bodies → FaultsOfBodies m bodies []
typed_bodies m [] h = refl
typed_bodies m (b ∷ bodies) h = ([], [], typed_body (body_context m b.0 b.1) b.1 h.0, typed_bodies m bodies h.1, refl)

pub accepted : (m : Module) → IsValid m → Verdict m Accepted
accepted m v = ([], ([], typed_bodies m (bodies_of m) v.bodies, sym (ap (λ x. x ++ []) v.no_faults)), refl)

no_fault_body : (o : Option Context) (body : BodyEntry) (faults : List Fault) → faults ≡ [] → FaultOfBody o body faults → IsTyped o body
no_fault_body None body faults e h = tt
no_fault_body (Some c) body faults e (inl h) = h.0
no_fault_body (Some c) body faults e (inr h) = let one = h.2 in absurd (let same : h.0 ∷ [] ≡ [] = sym one ∙ e in cc)

left_empty : (xs ys : List Fault) → xs ++ ys ≡ [] → xs ≡ []
left_empty [] ys e = refl
left_empty (x ∷ xs) ys e = cc

right_empty : (xs ys : List Fault) → xs ++ ys ≡ [] → ys ≡ []
right_empty [] ys e = e
right_empty (x ∷ xs) ys e = cc

no_fault_bodies : (m : Module) (bodies : Bodies) (faults : List Fault) → faults ≡ [] → FaultsOfBodies m bodies faults → AreTyped m bodies
no_fault_bodies m [] faults e h = tt
no_fault_bodies m (b ∷ bodies) faults e h =
    let none : h.0 ++ h.1 ≡ [] = sym h.4 ∙ e in (
      no_fault_body (body_context m b.0 b.1) b.1 h.0 (left_empty h.0 h.1 none) h.2,
      no_fault_bodies m bodies h.1 (right_empty h.0 h.1 none) h.3,
    )

no_first : (faults : List Fault) → Accepted ≡ outcome_of (first_fault faults) → faults ≡ []
no_first [] e = refl
no_first (f ∷ faults) e = cc

valid_behind : (outside : List Fault) (m : Module) (bodies : Bodies) → Says outside m bodies Accepted → (outside ≡ []) × AreTyped m bodies
valid_behind outside m bodies v =
    let none : outside ++ v.1.0 ≡ [] = sym v.1.2 ∙ no_first v.0 v.2 in
    (left_empty outside v.1.0 none, no_fault_bodies m bodies v.1.0 (right_empty outside v.1.0 none) v.1.1)

pub valid : (m : Module) → Verdict m Accepted → IsValid m
valid m v =
    let both = valid_behind (module_faults m) m (bodies_of m) v in
    record { no_faults = both.0; bodies = both.1 }

-- one first fault, and none in a valid module
pub no_fault : (m : Module) (fault : Fault) → Verdict m (Invalid fault) → IsValid m → ⊥
no_fault m fault v h = let same : Invalid fault ≡ Accepted = one_verdict m (Invalid fault) Accepted v (accepted m h) in cc

pub same_fault : (m : Module) (fault other : Fault) → Verdict m (Invalid fault) → Verdict m (Invalid other) → fault ≡ other
same_fault m fault other v w = let same : Invalid fault ≡ Invalid other = one_verdict m (Invalid fault) (Invalid other) v w in cc
