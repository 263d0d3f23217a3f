-- Segments with bytes have a loop.
use Rattle.c_init.proofs.Common.{◌≡◌, ℕ, ◌<◌, ◌≤◌, List, [], ◌∷◌, ◌++◌, length, refl, ap, ◌∙◌, append_assoc, arith, SegmentEntry, Module}
use Rattle.c_init.proofs.Common.{write_data}
use Rattle.c_tree.specs.Tree as tree
use Rattle.c_init.specs.Loops.{byte_loop, byte_parts}

pub bytes_there : (m : Module) (number : ℕ) (d : SegmentEntry) → 0 < length d.bytes
    → byte_loop m number d.offset (length d.bytes) ≡ write_data m (number, d)
bytes_there m number d h = at d.bytes h
  where
    at : (bytes : List ℕ) → 0 < length bytes → byte_loop m number d.offset (length bytes) ≡ write_data m
        (number, record d { bytes = bytes })
    at [] h = absurd (omega (arith, h))
    at (b ∷ bytes) h = refl

two_more : {A : Type 0} (before : List A) (a b c d e : A)
    → ((before ++ (a ∷ b ∷ [])) ++ (c ∷ d ∷ [])) ++ (e ∷ []) ≡ before ++ (a ∷ b ∷ c ∷ d ∷ e ∷ [])
two_more before a b c d e = append_assoc (before ++ (a ∷ b ∷ [])) (c ∷ d ∷ []) (e ∷ []) ∙ append_assoc before (a ∷ b ∷ []) (c ∷ d ∷ e ∷ [])

pub parts_there : (m : Module) (number : ℕ) (d : SegmentEntry) (before : List tree.Stmt) → 0 < length d.bytes
    → byte_parts m number d.offset (length d.bytes) before ≡ before ++ write_data m (number, d)
parts_there m number d before h = two_more before _ _ _ _ _ ∙ ap (λ ys. before ++ ys) (bytes_there m number d h)

pub bytes_none : (m : Module) (number : ℕ) (d : SegmentEntry) → length d.bytes ≤ 0 → [] ≡ write_data m (number, d)
bytes_none m number d h = at d.bytes h
  where
    at : (bytes : List ℕ) → length bytes ≤ 0 → [] ≡ write_data m (number, record d { bytes = bytes })
    at [] h = refl
    at (b ∷ bytes) h = absurd (omega (arith, h))
