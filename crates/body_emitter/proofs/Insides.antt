-- Operands inside a block, and statements that are replaced.
use Rattle.body_emitter.proofs.Common.{◌≡◌, ℕ, ◌≤◌, List, [], ◌∷◌, length, take, sym, refl, ap, ◌∙◌, subst, arith}
use Rattle.body_emitter.proofs.Common.{Inside, Keeps, Operands}

pub all_of_them : {A : Type 0} (xs : List A) → take (length xs) xs ≡ xs
all_of_them [] = refl
all_of_them {A} (x ∷ xs) = ap (λ (ys : List A). x ∷ ys) (all_of_them xs)

pub inside_same : (a b c : Operands) → b ≡ a → Inside b c → Inside a c
inside_same a b c e h = subst (λ (d : Operands). Inside d c) e h

pub inside_then_same : (o a b : Operands) → Inside o a → b ≡ a → Inside o b
inside_then_same o a b h e = subst (λ (d : Operands). Inside o d) (sym e) h

pub inside_kept : (o a b : Operands) → Inside o a → Keeps a b → Inside o b
inside_kept o a b h k = record {
  floor = k.floor ∙ h.floor;
  below = ap (λ n. take n b.types.items) k.floor ∙ k.below ∙ h.below;
}

-- where the operands around a block begin is no higher than where its own do
pub floor_below : (outer now : Operands) (floor : ℕ) → Inside outer now → floor ≡ outer.floor → floor ≤ now.floor
floor_below outer now floor h e =
    let w = outer.within in
    let f = h.floor in
    omega (arith, e, w, f)
