-- Fields that are spelled in the shortest way by one list of bytes at most.
use Rattle.w2c_gen.proofs.Common.{◌≡◌, ℕ, ◌<◌, List, ◌++◌, length, ℤ, sym, ap, ◌∙◌, subst, all_split, SpellsSigned, SpellsUnsigned}
use Rattle.w2c_gen.proofs.Common.{one_shortest_signed, one_shortest_unsigned, IsShortest, AreBytes, Fields, window}
use Rattle.std.proofs.lemmas.List.Elements.{All-from_recursion}
use Rattle.wasm_writing.specs.Aside.{Next, SpelledBy, SpelledShort}

abbrev pub OnlyOne : (List ℕ → Type 0) → Type 0
OnlyOne P = (a b : List ℕ) → AreBytes a → AreBytes b → P a → P b → a ≡ b

pub one_list : (bytes : List ℕ) → OnlyOne (λ front. front ≡ bytes)
one_list bytes a b are_a are_b e d = e ∙ sym d

pub one_number : (n : ℕ) → OnlyOne (λ front. IsShortest (SpellsUnsigned 32) front n)
one_number n a b are_a are_b s t =
    one_shortest_unsigned 32 a b n (All-from_recursion (λ b. b < 256) a are_a) (All-from_recursion (λ b. b < 256) b are_b) s t

pub one_signed : (z : ℤ) → OnlyOne (λ front. IsShortest (SpellsSigned 32) front z)
one_signed z a b are_a are_b s t =
    one_shortest_signed 32 a b z (All-from_recursion (λ b. b < 256) a are_a) (All-from_recursion (λ b. b < 256) b are_b) s t

pub one_next : (P Q : List ℕ → Type 0) → OnlyOne P → OnlyOne Q → OnlyOne (Next P Q)
one_next P Q p q a b are_a are_b s t =
    let of_a = all_split (λ b. b < 256) s.0 s.1 (subst AreBytes s.2 are_a) in
    let of_b = all_split (λ b. b < 256) t.0 t.1 (subst AreBytes t.2 are_b) in
    let front = p s.0 t.0 of_a.0 of_b.0 s.3 t.3 in
    let back = q s.1 t.1 of_a.1 of_b.1 s.4 t.4 in
    s.2 ∙ ap (λ l. l ++ s.1) front ∙ ap (λ l. t.0 ++ l) back ∙ sym t.2

-- content of a size, and what follows
abbrev Filling : Fields → Fields → ℕ → List ℕ → Type 0
Filling inside rest size bytes = Next (λ front. (length front ≡ size) × SpelledShort inside front) (SpelledShort rest) bytes

-- a size before them
abbrev Window : Fields → Fields → ℕ → List ℕ → Type 0
Window inside rest size bytes = Next (λ front. IsShortest (SpellsUnsigned 32) front size) (Filling inside rest size) bytes

one_filling : (inside rest : Fields) (size : ℕ) → OnlyOne (SpelledShort inside) → OnlyOne (SpelledShort rest)
    → OnlyOne (Filling inside rest size)
one_filling inside rest size p q =
    one_next (λ front. (length front ≡ size) × SpelledShort inside front) (SpelledShort rest)
    (λ c d are_c are_d x y. p c d are_c are_d x.1 y.1) q

pub one_window : (inside rest : Fields) → OnlyOne (SpelledShort inside) → OnlyOne (SpelledShort rest)
    → OnlyOne (SpelledShort (window inside rest))
unfolding SpelledBy
one_window inside rest p q a b are_a are_b (m, s) (n, t) =
    let of_a = all_split (λ b. b < 256) s.0 s.1 (subst AreBytes s.2 are_a) in
    let of_b = all_split (λ b. b < 256) t.0 t.1 (subst AreBytes t.2 are_b) in
    let in_a = all_split (λ b. b < 256) s.4.0 s.4.1 (subst AreBytes s.4.2 of_a.1) in
    let in_b = all_split (λ b. b < 256) t.4.0 t.4.1 (subst AreBytes t.4.2 of_b.1) in
    let content = p s.4.0 t.4.0 in_a.0 in_b.0 s.4.3.1 t.4.3.1 in
    let size : n ≡ m = sym t.4.3.0 ∙ ap length (sym content) ∙ s.4.3.0 in
    one_next (λ front. IsShortest (SpellsUnsigned 32) front m) (Filling inside rest m) (one_number m) (one_filling inside rest m p q)
    a b are_a are_b s (subst (λ k. Window inside rest k b) size t)
