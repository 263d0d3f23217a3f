-- Bytes that spell fields with the places aside spell the same fields with some places, whatever follows them.
use Rattle.wasm_writing.proofs.Common.{◌≡◌, ℕ, ◌+◌, Bool, List, [], ◌∷◌, ◌++◌, map, length, ℤ, sym, refl, ap, ◌∙◌, subst, append_assoc}
use Rattle.wasm_writing.proofs.Common.{add-zero, arith, length-append, SpellsSigned, SpellsUnsigned, Fields, Spelled, Then, byte, finished}
use Rattle.wasm_writing.proofs.Common.{here, number, provided, signed, text, window, each, magic, vector, version}
use Rattle.wasm_writing.specs.Aside.{SpelledAside, SpelledBy}

-- The bytes at the front spell the fields of a result, and what is behind them spells the rest.
pub record Filled {R : Type 0} (fields : Fields → Fields) (made : R → Fields → Fields) (place : ℕ) (bytes : List ℕ)
    (rest : Fields) : Type 0 where
  pub result : R
  pub front : List ℕ
  pub back : List ℕ
  pub whole : bytes ≡ front ++ back
  pub behind : SpelledAside rest back
  pub spelled : (other : Fields) → Spelled other (place + length front) back → Spelled (made result other) place bytes
  pub aside : (other : Fields) (more : List ℕ) → SpelledAside other more → SpelledAside (fields other) (front ++ more)

pub record Fills {R : Type 0} (fields : Fields → Fields) (made : R → Fields → Fields) : Type 0 where
  pub at : (place : ℕ) (bytes : List ℕ) (rest : Fields) → SpelledAside (fields rest) bytes → Filled fields made place bytes rest

-- fields without places
abbrev pub Keeps : (Fields → Fields) → Type 0
Keeps fields = Fills {R = Unit {0}} fields (λ _. fields)

-- ---- single fields

-- no fields
pub fills_none : {R : Type 0} (made : R → Fields → Fields) (r : R) → ((x : Fields) → x ≡ made r x) → Fills {R = R} (λ x. x) made
fills_none {R} made r same = record {
  at = λ place bytes rest s. record {
    result = r;
    front = [];
    back = bytes;
    whole = refl;
    behind = s;
    spelled = λ other u. subst (λ x. Spelled x place bytes) (same other) (subst (λ n. Spelled other n bytes) (add-zero place) u);
    aside = λ other more u. u;
  };
}

pub keeps_none : Keeps (λ x. x)
keeps_none = fills_none (λ _ x. x) tt (λ x. refl)

-- bytes of which P holds
abbrev Aside : (List ℕ → Type 0) → (Fields → Fields) → Type 0
Aside P field =
    ((rest : Fields) (bytes : List ℕ) → SpelledAside (field rest) bytes
    → (front back : List ℕ) × (bytes ≡ front ++ back) × P front × SpelledAside rest back)
    × ((rest : Fields) (bytes front back : List ℕ) → bytes ≡ front ++ back → P front → SpelledAside rest back
    → SpelledAside (field rest) bytes)

keeps_front : (P : List ℕ → Type 0) (field : Fields → Fields) → Aside P field
    → ((rest : Fields) (place : ℕ) (bytes : List ℕ) → Then (λ _ front. P front) (Spelled rest) place bytes
    → Spelled (field rest) place bytes) → Keeps field
keeps_front P field aside spelt = record {
  at = λ place bytes rest s.
      let t = aside.0 rest bytes s in
      record {
        result = tt;
        front = t.0;
        back = t.1;
        whole = t.2;
        behind = t.4;
        spelled = λ other u. spelt other place bytes (t.0, t.1, t.2, t.3, u);
        aside = λ other more u. aside.1 other (t.0 ++ more) t.0 more refl t.3 u;
      };
}

pub keeps_byte : (b : ℕ) → Keeps (byte b)
unfolding SpelledBy
keeps_byte b =
    keeps_front (λ front. front ≡ b ∷ []) (byte b) ((λ rest bytes s. s), (λ rest bytes front back e p u. (front, back, e, p, u)))
    (λ rest place bytes s. s)

pub keeps_number : (n : ℕ) → Keeps (number n)
unfolding SpelledBy
keeps_number n =
    keeps_front (λ front. SpellsUnsigned 32 front n) (number n)
    ((λ rest bytes s. s), (λ rest bytes front back e p u. (front, back, e, p, u))) (λ rest place bytes s. s)

pub keeps_signed : (width : ℕ) (n : ℤ) → Keeps (signed width n)
unfolding SpelledBy
keeps_signed width n =
    keeps_front (λ front. SpellsSigned width front n) (signed width n)
    ((λ rest bytes s. s), (λ rest bytes front back e p u. (front, back, e, p, u))) (λ rest place bytes s. s)

pub keeps_text : (t : List ℕ) → Keeps (text t)
unfolding SpelledBy
keeps_text t =
    keeps_front (λ front. front ≡ t) (text t) ((λ rest bytes s. s), (λ rest bytes front back e p u. (front, back, e, p, u)))
    (λ rest place bytes s. s)

pub keeps_provided : (b : Bool) → Keeps (provided b)
unfolding SpelledBy
keeps_provided b = record {
  at = λ place bytes rest s. record {
    result = tt;
    front = [];
    back = bytes;
    whole = refl;
    behind = s.1;
    spelled = λ other u. (s.0, subst (λ n. Spelled other n bytes) (add-zero place) u);
    aside = λ other more u. (s.0, u);
  };
}

-- ---- one after another

pub fills_both : {R S : Type 0} {f g : Fields → Fields} {f' : R → Fields → Fields} {g' : S → Fields → Fields} → Fills f f' → Fills g g'
    → Fills {R = R × S} (λ x. f (g x)) (λ r x. f' r.0 (g' r.1 x))
fills_both {R} {S} {f} {g} {f'} {g'} h k = record {
  at = λ place bytes rest s.
      let a = h.at place bytes (g rest) s in
      let b = k.at (place + length a.front) a.back rest a.behind in
      let next : place + length (a.front ++ b.front) ≡ place + length a.front + length b.front =
      omega (arith, length-append a.front b.front) in
      record {
        result = (a.result, b.result);
        front = a.front ++ b.front;
        back = b.back;
        whole = a.whole ∙ ap (λ l. a.front ++ l) b.whole ∙ sym (append_assoc a.front b.front b.back);
        behind = b.behind;
        spelled = λ other u. a.spelled (g' b.result other) (b.spelled other (subst (λ n. Spelled other n b.back) next u));
        aside = λ other more u. subst (λ l. SpelledAside (f (g other)) l) (sym (append_assoc a.front b.front more))
            (a.aside (g other) (b.front ++ more) (b.aside other more u));
      };
}

-- the same with another view of what was made
pub fills_as : {R S : Type 0} {f : Fields → Fields} {f' : R → Fields → Fields} {g' : S → Fields → Fields} (view : R → S)
    → ((r : R) (x : Fields) → f' r x ≡ g' (view r) x) → Fills f f' → Fills f g'
fills_as {R} {S} {f} {f'} {g'} view same h = record {
  at = λ place bytes rest s.
      let a = h.at place bytes rest s in
      record {
        result = view a.result;
        front = a.front;
        back = a.back;
        whole = a.whole;
        behind = a.behind;
        spelled = λ other u. subst (λ x. Spelled x place bytes) (same a.result other) (a.spelled other u);
        aside = a.aside;
      };
}

pub keeps_both : {f g : Fields → Fields} → Keeps f → Keeps g → Keeps (λ x. f (g x))
keeps_both h k = fills_as (λ _. tt) (λ r x. refl) (fills_both h k)

pub fills_after : {R : Type 0} {f g : Fields → Fields} {g' : R → Fields → Fields} → Keeps f → Fills g g'
    → Fills (λ x. f (g x)) (λ r x. f (g' r x))
fills_after h k = fills_as (λ r. r.1) (λ r x. refl) (fills_both h k)

pub fills_before : {R : Type 0} {f g : Fields → Fields} {f' : R → Fields → Fields} → Fills f f' → Keeps g
    → Fills (λ x. f (g x)) (λ r x. f' r (g x))
fills_before h k = fills_as (λ r. r.0) (λ r x. refl) (fills_both h k)

-- a place is where the fields stand
pub fills_here : {R : Type 0} {q : ℕ} {f : Fields → Fields} {f' : R → Fields → Fields} → Fills f f'
    → Fills {R = ℕ × R} (λ x. here q (f x)) (λ r x. here r.0 (f' r.1 x))
unfolding SpelledBy
fills_here {R} {q} {f} {f'} h = record {
  at = λ place bytes rest s.
      let a = h.at place bytes rest s in
      record {
        result = (place, a.result);
        front = a.front;
        back = a.back;
        whole = a.whole;
        behind = a.behind;
        spelled = λ other u. (refl, a.spelled other u);
        aside = λ other more u. a.aside other more u;
      };
}

pub fills_window : {R : Type 0} {f : Fields → Fields} {f' : R → Fields → Fields} → Fills f f'
    → Fills (window (f finished)) (λ r. window (f' r finished))
unfolding SpelledBy
fills_window {R} {f} {f'} h = record { at = filled }
  where
    filled : (place : ℕ) (bytes : List ℕ) (rest : Fields) → SpelledAside (window (f finished) rest) bytes
        → Filled (window (f finished)) (λ r. window (f' r finished)) place bytes rest
    filled place bytes rest (size, (front, back, e, p, (content, after, d, (l, s), q))) =
        let a = h.at (place + length front) content finished s in
        let none : a.back ≡ [] = a.behind in
        let next : place + length (front ++ content) ≡ place + length front + length content =
        omega (arith, length-append front content) in
        record {
          result = a.result;
          front = front ++ content;
          back = after;
          whole = e ∙ ap (λ x. front ++ x) d ∙ sym (append_assoc front content after);
          behind = q;
          spelled =
              λ other u. (
                size,
                (front, back, e, p, (content, after, d, (l, a.spelled finished none), subst (λ n. Spelled other n after) next u)),
              );
          aside = λ other more u.
              (size, (front, content ++ more, append_assoc front content more, p, (content, more, refl, (l, s), u)));
        }

-- ---- how a file begins

unfoldable pub start_of_file : Fields → Fields
start_of_file rest = magic (version rest)

four : (a b c d : ℕ) → Keeps (λ x. byte a (byte b (byte c (byte d x))))
four a b c d = keeps_both (keeps_byte a) (keeps_both (keeps_byte b) (keeps_both (keeps_byte c) (keeps_byte d)))

pub keeps_start : Keeps start_of_file
unfolding start_of_file
keeps_start = keeps_both (four 0x00 0x61 0x73 0x6D) (four 0x01 0x00 0x00 0x00)

-- ---- lists

pub keeps_each : {A : Type 0} {fields : A → Fields → Fields} → ((v : A) → Keeps (fields v)) → (vs : List A) → Keeps (each fields vs)
keeps_each h [] = keeps_none
keeps_each h (v ∷ vs) = keeps_both (h v) (keeps_each h vs)

-- the same but for places, which bare leaves out
abbrev pub Like : {A : Type 0} → (A → A) → A → Type 0
Like {A} bare v = (w : A) × (bare w ≡ bare v)

abbrev pub Likes : {A : Type 0} → (A → A) → List A → Type 0
Likes {A} bare vs = (ws : List A) × (map bare ws ≡ map bare vs) × (length ws ≡ length vs)

unfoldable pub likes_more : {A : Type 0} (bare : A → A) (v : A) (vs : List A) → Like bare v × Likes bare vs → Likes bare (v ∷ vs)
likes_more {A} bare v vs r =
    (r.0.0 ∷ r.1.0, ap (λ x. x ∷ map bare r.1.0) r.0.1 ∙ ap (λ l. bare v ∷ l) r.1.1, omega (arith, r.1.2))

pub fills_each : {A : Type 0} (bare : A → A) {fields : A → Fields → Fields}
    → ((v : A) → Fills {R = Like bare v} (fields v) (λ r. fields r.0)) → (vs : List A)
    → Fills {R = Likes bare vs} (each fields vs) (λ r. each fields r.0)
unfolding likes_more
fills_each bare h [] = fills_none _ ([], refl, refl) (λ x. refl)
fills_each bare h (v ∷ vs) = fills_as (likes_more bare v vs) (λ r x. refl) (fills_both (h v) (fills_each bare h vs))

pub keeps_vector : {A : Type 0} {fields : A → Fields → Fields} → ((v : A) → Keeps (fields v)) → (vs : List A) → Keeps (vector fields vs)
keeps_vector h vs = keeps_both (keeps_number (length vs)) (keeps_each h vs)

pub fills_vector : {A : Type 0} (bare : A → A) {fields : A → Fields → Fields}
    → ((v : A) → Fills {R = Like bare v} (fields v) (λ r. fields r.0)) → (vs : List A)
    → Fills {R = Likes bare vs} (vector fields vs) (λ r. vector fields r.0)
fills_vector {A} bare {fields} h vs =
    fills_as (λ r. r) (λ r x. ap (λ n. number n (each fields r.0 x)) (sym r.2))
    (fills_after (keeps_number (length vs)) (fills_each bare h vs))
