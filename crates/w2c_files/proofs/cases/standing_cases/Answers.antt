use Rattle.w2c_files.proofs.Common.{◌≡◌, ℕ, List, [], ◌∷◌, ◌++◌, Some, None, codes, sym, refl, ap, ◌∙◌, inl, inr, arith, get, insert}
use Rattle.w2c_files.proofs.Common.{get_here, get_other, Contents, Name, IsBegun, IsOneOf, file_names, written}
use Rattle.std.proofs.lemmas.Option.{none-some, same_Some}
use Rattle.w2c_files.specs.Samples.{two_files}
use Rattle.w2c_files.proofs.Standing.{is_one}
use Rattle.w2c_files.proofs.cases.standing_cases.Goals as goal

abbrev Files : Type 0
Files = List (Name × List ℕ)

-- ---- numbers by which lists of files are told apart

abbrev first_byte : List ℕ → ℕ
first_byte [] = 0
first_byte (b ∷ bytes) = b

abbrev first_name : Files → ℕ
first_name [] = 0
first_name (file ∷ files) = first_byte file.0

abbrev second_name : Files → ℕ
second_name [] = 0
second_name (file ∷ files) = first_name files

abbrev has_third : Files → ℕ
has_third [] = 0
has_third (a ∷ []) = 0
has_third (a ∷ b ∷ []) = 0
has_third (a ∷ b ∷ c ∷ files) = 1

abbrev first_text : Files → List ℕ
first_text [] = []
first_text (file ∷ files) = file.1

third_of_two : (done rest : Files) (a b file : Name × List ℕ) → two_files ≡ a ∷ b ∷ (done ++ file ∷ rest) → ⊥
third_of_two [] rest a b file e =
    let n : 0 ≡ 1 = ap has_third e in
    absurd (omega (arith, n))
third_of_two (c ∷ done) rest a b file e =
    let n : 0 ≡ 1 = ap has_third e in
    absurd (omega (arith, n))

-- ---- what files hold

same_bytes : (a b : List ℕ) → Some a ≡ Some b → a ≡ b
same_bytes a b e = cc

names_differ : codes "a" ≡ codes "b" → ⊥
names_differ e =
    let n : 97 ≡ 98 = ap first_byte e in
    absurd (omega (arith, n))

none_of_two : IsOneOf (codes "c") (file_names two_files) → ⊥
none_of_two (inl e) =
    let n : 99 ≡ 97 = ap first_byte e in
    absurd (omega (arith, n))
none_of_two (inr (inl e)) =
    let n : 99 ≡ 98 = ap first_byte e in
    absurd (omega (arith, n))
none_of_two (inr (inr none)) = none

-- the first file, where it was not there and holds other bytes now
other_begin : (m : Contents) (text : List ℕ) → get m (codes "a") ≡ None → 1 ∷ 2 ∷ [] ≡ text
    → IsBegun (Some m) (Some (insert m (codes "a") (2 ∷ []))) (codes "a") text → ⊥
other_begin m text none text_is (inl e) =
    let same : insert m (codes "a") (2 ∷ []) ≡ m = same_Some _ _ e in
    none-some (2 ∷ []) (sym none ∙ (sym (ap (λ (n : Contents). get n (codes "a")) same) ∙ get_here m (codes "a") (2 ∷ [])))
other_begin m text none text_is (inr (part, (more, whole), e)) =
    let same : insert m (codes "a") (2 ∷ []) ≡ insert m (codes "a") part = same_Some _ _ e in
    let held : Some (2 ∷ []) ≡ Some part =
    sym (get_here m (codes "a") (2 ∷ [])) ∙ (ap (λ (n : Contents). get n (codes "a")) same ∙ get_here m (codes "a") part) in
    let part_is : 2 ∷ [] ≡ part = same_bytes _ _ held in
    let n : 1 ≡ 2 = ap first_byte (text_is ∙ (whole ∙ ap (λ (p : List ℕ). p ++ more) (sym part_is))) in
    absurd (omega (arith, n))

other_bytes : (m : Contents) (done rest : Files) (text : List ℕ) → get m (codes "a") ≡ None
    → two_files ≡ done ++ (codes "a", text) ∷ rest
    → IsBegun (written (Some m) done) (Some (insert m (codes "a") (2 ∷ []))) (codes "a") text → ⊥
other_bytes m [] rest text none split begun = other_begin m text none (ap first_text split) begun
other_bytes m (a ∷ []) rest text none split begun =
    let n : 98 ≡ 97 = ap second_name split in
    absurd (omega (arith, n))
other_bytes m (a ∷ b ∷ done) rest text none split begun = absurd (third_of_two done rest a b (codes "a", text) split)

-- what the second file is begun behind
abbrev first_file : Files → Name × List ℕ
first_file [] = ([], [])
first_file (file ∷ files) = file

held_first : (m new : Contents) (file : Name × List ℕ) (text : List ℕ) → (codes "a", 1 ∷ 2 ∷ []) ≡ file
    → IsBegun (written (Some m) (file ∷ [])) (Some new) (codes "b") text → get new (codes "a") ≡ Some (1 ∷ 2 ∷ [])
held_first m new file text is (inl e) =
    ap (λ (n : Contents). get n (codes "a")) (same_Some _ _ e)
    ∙ (ap (λ (f : Name × List ℕ). get (insert m f.0 f.1) (codes "a")) (sym is) ∙ get_here m (codes "a") (1 ∷ 2 ∷ []))
held_first m new file text is (inr (part, whole, e)) =
    ap (λ (n : Contents). get n (codes "a")) (same_Some _ _ e)
    ∙ (get_other (insert m file.0 file.1) (codes "b") part (codes "a") names_differ
    ∙ (ap (λ (f : Name × List ℕ). get (insert m f.0 f.1) (codes "a")) (sym is) ∙ get_here m (codes "a") (1 ∷ 2 ∷ [])))

first_held : (m new : Contents) (done rest : Files) (text : List ℕ) → two_files ≡ done ++ (codes "b", text) ∷ rest
    → IsBegun (written (Some m) done) (Some new) (codes "b") text → get new (codes "a") ≡ Some (1 ∷ 2 ∷ [])
first_held m new [] rest text split begun =
    let n : 97 ≡ 98 = ap first_name split in
    absurd (omega (arith, n))
first_held m new (a ∷ []) rest text split begun = held_first m new a text (ap first_file split) begun
first_held m new (a ∷ b ∷ done) rest text split begun = absurd (third_of_two done rest a b (codes "b", text) split)

-- ---- the cases

pub returns-clause-first_untouched : goal.returns-clause-first_untouched
returns-clause-first_untouched c m = record {
  done = [];
  rest = (codes "b", 3 ∷ 4 ∷ []) ∷ [];
  text = 1 ∷ 2 ∷ [];
  split = refl;
  begun = inl refl;
}

pub returns-clause-second_untouched : goal.returns-clause-second_untouched
returns-clause-second_untouched c m = record {
  done = (codes "a", 1 ∷ 2 ∷ []) ∷ [];
  rest = [];
  text = 3 ∷ 4 ∷ [];
  split = refl;
  begun = inl refl;
}

pub returns-clause-second_in_part : goal.returns-clause-second_in_part
returns-clause-second_in_part c m = record {
  done = (codes "a", 1 ∷ 2 ∷ []) ∷ [];
  rest = [];
  text = 3 ∷ 4 ∷ [];
  split = refl;
  begun = inr (3 ∷ [], (4 ∷ [], refl), refl);
}

pub returns-clause-none_of_them : goal.returns-clause-none_of_them
returns-clause-none_of_them c m s = none_of_two (is_one (Some m) (Some m) two_files (codes "c") s)

pub returns-clause-other_bytes : goal.returns-clause-other_bytes
returns-clause-other_bytes c m none s = other_bytes m s.done s.rest s.text none s.split s.begun

pub returns-clause-second_alone : goal.returns-clause-second_alone
returns-clause-second_alone c m none s =
    let stands = first_held m (insert m (codes "b") (3 ∷ [])) s.done s.rest s.text s.split s.begun in
    none-some (1 ∷ 2 ∷ []) (sym none ∙ (sym (get_other m (codes "b") (3 ∷ []) (codes "a") names_differ) ∙ stands))
