-- Lists of which each element has its own in another list: an element more, the first that is refused, and that there is one
-- such list or one such element.
use Rattle.crun_job.proofs.Common.{◌≡◌, ℕ, suc, ◌<◌, List, [], ◌∷◌, ◌++◌, map, length, get_or, take, drop, sym, refl, ap, ◌∙◌, subst, arith}
use Rattle.crun_job.proofs.Common.{length-append, map_push}
use Rattle.crun_job.specs.Each.{AreEach, IsFirst}
use Rattle.w2c_base.proofs.Nothing.{same_parts}
use Rattle.crun_job.proofs.Taken.{split_at, in_front}

module _ {A B : Type 0} (R : A → B → Type 0) where
  pub each_push : (xs : List A) (ys : List B) (x : A) (y : B) → AreEach R xs ys → R x y → AreEach R (xs ++ x ∷ []) (ys ++ y ∷ [])
  each_push [] [] x y are is = (is, tt)
  each_push (a ∷ xs) (b ∷ ys) x y (first, rest) is = (first, each_push xs ys x y rest is)
  each_push _ _ x y are is = absurd are

  -- the same where the other list is seen through a map
  pub each_pushed : {D : Type 0} (f : D → B) (xs : List A) (zs : List D) (x : A) (z : D) → AreEach R xs (map f zs) → R x (f z)
      → AreEach R (xs ++ x ∷ []) (map f (zs ++ z ∷ []))
  each_pushed f xs zs x z are is = subst (AreEach R (xs ++ x ∷ [])) (sym (map_push f zs z)) (each_push xs (map f zs) x (f z) are is)

  -- the first of a list has its own
  pub first_has : (x : A) (xs : List A) (ys : List B) → AreEach R (x ∷ xs) ys → (y : B) × R x y × ((zs : List B) × AreEach R xs zs)
  first_has x xs [] are = absurd are
  first_has x xs (y ∷ ys) (is, rest) = (y, is, (ys, rest))

  pub many_each : (xs : List A) (ys : List B) → AreEach R xs ys → length xs ≡ length ys
  many_each [] [] are = refl
  many_each (x ∷ xs) (y ∷ ys) (is, rest) = ap (λ n. suc n) (many_each xs ys rest)
  many_each _ _ are = absurd are

  -- one list where each element has one
  pub one_each : ((x : A) (y z : B) → R x y → R x z → y ≡ z) → (xs : List A) (ys zs : List B) → AreEach R xs ys → AreEach R xs zs → ys ≡ zs
  one_each once [] [] [] are are' = refl
  one_each once [] [] (z ∷ zs) are are' = absurd are'
  one_each once (x ∷ xs) (y ∷ ys) [] are are' = absurd are'
  one_each once (x ∷ xs) (y ∷ ys) (z ∷ zs) (is, rest) (is', rest') =
      ap (λ e. e ∷ ys) (once x y z is is') ∙ ap (λ l. z ∷ l) (one_each once xs ys zs rest rest')
  one_each once _ _ zs are are' = absurd are

module _ {A B C : Type 0} (R : A → B → Type 0) (Refuses : A → C → Type 0) where
  -- the first that is refused, where a list is gone through
  pub first_at : (xs : List A) (i : ℕ) (x : A) (ys : List B) (why : C) → i < length xs → x ≡ get_or xs i x → AreEach R (take i xs) ys
      → Refuses x why → IsFirst R Refuses xs i why
  first_at xs i x ys why less is before refused = record {
    front = take i xs;
    first = x;
    rest = drop (suc i) xs;
    found = ys;
    split = split_at xs i x less is;
    number_is = in_front xs i x less is;
    before = before;
    refused = refused;
  }

  -- it is one of the list
  pub first_within : (xs : List A) (k : ℕ) (why : C) → IsFirst R Refuses xs k why → k < length xs
  first_within xs k why first =
      omega (arith, ap length first.split ∙ length-append first.front (first.first ∷ first.rest), first.number_is)

  module _ (apart : (x : A) (y : B) (why : C) → R x y → Refuses x why → ⊥) where
    behind_front : (front : List A) (x : A) (rest : List A) (ys : List B) (why : C) → AreEach R (front ++ x ∷ rest) ys → Refuses x why → ⊥
    behind_front [] x rest ys why are refused = let has = first_has R x rest ys are in apart x has.0 why has.1 refused
    behind_front (a ∷ front) x rest ys why are refused =
        let has = first_has R a (front ++ x ∷ rest) ys are in behind_front front x rest has.2.0 why has.2.1 refused

    -- then not each element has its own
    pub first_apart : (xs : List A) (k : ℕ) (why : C) (ys : List B) → IsFirst R Refuses xs k why → AreEach R xs ys → ⊥
    first_apart xs k why ys first are =
        behind_front first.front first.first first.rest ys why (subst (λ l. AreEach R l ys) first.split are) first.refused

    module _ (once : (x : A) (why other : C) → Refuses x why → Refuses x other → why ≡ other) where
      same_first : (f g : List A) (x y : A) (rest others : List A) (ys zs : List B) (why other : C) → f ++ x ∷ rest ≡ g ++ y ∷ others
          → AreEach R f ys → AreEach R g zs → Refuses x why → Refuses y other → (length f ≡ length g) × (why ≡ other)
      same_first [] [] x y rest others ys zs why other e are are' refused refused' =
          (refl, once y why other (subst (λ z. Refuses z why) (same_parts x y rest others e).0 refused) refused')
      same_first [] (b ∷ g) x y rest others ys zs why other e are are' refused refused' =
          let has = first_has R b g zs are' in
          absurd (apart b has.0 why has.1 (subst (λ z. Refuses z why) (same_parts x b rest (g ++ y ∷ others) e).0 refused))
      same_first (a ∷ f) [] x y rest others ys zs why other e are are' refused refused' =
          let has = first_has R a f ys are in
          absurd (apart a has.0 other has.1 (subst (λ z. Refuses z other) (sym (same_parts a y (f ++ x ∷ rest) others e).0) refused'))
      same_first (a ∷ f) (b ∷ g) x y rest others ys zs why other e are are' refused refused' =
          let both = same_parts a b (f ++ x ∷ rest) (g ++ y ∷ others) e in
          let has = first_has R a f ys are in
          let has' = first_has R b g zs are' in
          let more = same_first f g x y rest others has.2.0 has'.2.0 why other both.1 has.2.1 has'.2.1 refused refused' in
          (ap (λ n. suc n) more.0, more.1)

      -- one element is the first that is refused, for one reason
      pub one_first : (xs : List A) (k n : ℕ) (why other : C) → IsFirst R Refuses xs k why → IsFirst R Refuses xs n other
          → (k ≡ n) × (why ≡ other)
      one_first xs k n why other a b =
          let both = same_first a.front b.front a.first b.first a.rest b.rest a.found b.found why other (sym a.split ∙ b.split)
          a.before b.before a.refused b.refused in
          (a.number_is ∙ both.0 ∙ sym b.number_is, both.1)
