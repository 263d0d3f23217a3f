-- Returns in linked units.
use Rattle.c_thread.proofs.Common.{◌≡◌, ◌-◌, Bool, List, [], ◌∷◌, ◌++◌, map, if◌then◌else◌, slice_get, Some, None, Option, ap, ◌∙◌}
use Rattle.c_thread.proofs.Common.{reverse-append, CType, Program, CValue, Machine, Name, Running, Stuck, Waiting, Step, Stops, assign}
use Rattle.c_thread.proofs.Common.{give, is_returned, next, returned, Naming, stmts_at, target_of, below_in, items_at, running_in}
use Rattle.c_thread.proofs.Common.{waiting_in, LinkedFrame}

module _ (names : Naming) (p : Program) where
  pub below-push : (frames : List LinkedFrame) (f : LinkedFrame)
      → below_in names p (frames ++ f ∷ []) ≡ waiting_in names p f ∷ below_in names p frames
  below-push frames f = ap (map (waiting_in names p)) (reverse-append frames (f ∷ []))

  abbrev target : LinkedFrame → Option Name
  target f = target_of (slice_get (stmts_at (items_at p f.unit) f.item) (f.at - 1))

  -- what a value comes to at the function that waits for it
  abbrev pub received : Machine → Option CValue → LinkedFrame → List LinkedFrame → Option Name → Step
  received m value f frames o = elim o [
    | None ↦ next m (running_in names p f) (below_in names p frames)
    | Some name ↦ elim value [ None ↦ Stops m Stuck | Some v ↦ assign m (running_in names p f) name v (below_in names p frames) ]
  ]

  pub arrives : (m : Machine) (value : Option CValue) (frames : List LinkedFrame) (f : LinkedFrame) (o : Option Name) → target f ≡ o
      → give m value (waiting_in names p f ∷ below_in names p frames) ≡ received m value f frames o
  arrives m value frames f o to = ap (received m value f frames) to

-- a value goes back where the type of the result takes it
pub gives_back : (m : Machine) (r : Running) (ty : CType) (value : Option CValue) (below : List Waiting) (b : Bool) → r.result ≡ ty
    → is_returned ty value ≡ b → returned m r value below ≡ (if b then give m value below else Stops m Stuck)
gives_back m r ty value below b is fits =
    ap (λ t. if is_returned t value then give m value below else Stops m Stuck) is
    ∙ ap (λ c. if c then give m value below else Stops m Stuck) fits
