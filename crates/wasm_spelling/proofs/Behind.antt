-- What bytes of a file say that spell fields, behind so many bytes of the file.
use Rattle.wasm_spelling.proofs.Common.{◌≡◌, ℕ, ◌+◌, ◌^◌, ◌<◌, ◌≤◌, Bool, ◌⊎◌, List, [], ◌∷◌, length, ℤ, IsTrue, ap, ◌∙◌, subst, inl, inr}
use Rattle.wasm_spelling.proofs.Common.{arith, length-append, all_split, SpellsSigned, SpellsUnsigned, AreBytes, Custom, Fields, Sized}
use Rattle.wasm_spelling.proofs.Common.{Spelled, Then, byte, either, for_some, here, number, provided, signed, text, window}
use Rattle.wasm_spelling.proofs.Common.{most_module_bytes}
use Rattle.leb_bytes.proofs.Runs.{IsNumberRun-some}

-- ---- lists

-- ---- bytes behind others

pub record Behind (taken : ℕ) (fields : Fields) : Type 0 where
  pub place : ℕ
  pub bytes : List ℕ
  pub spelled : Spelled fields place bytes
  pub are_bytes : AreBytes bytes
  pub room : taken + length bytes ≤ most_module_bytes

pub behind_fewer : (taken fewer : ℕ) (fields : Fields) → fewer ≤ taken → Behind taken fields → Behind fewer fields
behind_fewer taken fewer fields le h =
    record { place = h.place; bytes = h.bytes; spelled = h.spelled; are_bytes = h.are_bytes; room = omega (arith, h.room, le) }

-- bytes of which P holds are taken
record Taken (taken : ℕ) (P : List ℕ → Type 0) (Q : ℕ → List ℕ → Type 0) : Type 0 where
  front : List ℕ
  is : P front
  front_bytes : AreBytes front
  place : ℕ
  rest : List ℕ
  rest_is : Q place rest
  rest_bytes : AreBytes rest
  room : taken + length front + length rest ≤ most_module_bytes

then_taken : (taken : ℕ) (P : List ℕ → Type 0) (Q : ℕ → List ℕ → Type 0) (place : ℕ) (bytes : List ℕ) → AreBytes bytes
    → taken + length bytes ≤ most_module_bytes → Then (λ _ front. P front) Q place bytes → Taken taken P Q
then_taken taken P Q place bytes are room (front, rest, e, p, q) =
    let split = all_split (λ b. b < 256) front rest (subst AreBytes e are) in
    record {
      front = front;
      is = p;
      front_bytes = split.0;
      place = place + length front;
      rest = rest;
      rest_is = q;
      rest_bytes = split.1;
      room = omega (arith, room, ap length e, length-append front rest);
    }

field_taken : (taken : ℕ) (P : List ℕ → Type 0) (fields : Fields) (least : ℕ) → (t : Taken taken P (Spelled fields))
    → least ≤ length t.front
    → Behind (taken + least) fields
field_taken taken P fields least t le =
    record { place = t.place; bytes = t.rest; spelled = t.rest_is; are_bytes = t.rest_bytes; room = omega (arith, t.room, le) }

-- ---- fields

pub past_byte : (taken b : ℕ) (fields : Fields) → Behind taken (byte b fields) → Behind (taken + 1) fields
past_byte taken b fields h =
    let t = then_taken taken (λ front. front ≡ b ∷ []) (Spelled fields) h.place h.bytes h.are_bytes h.room h.spelled in
    field_taken taken _ fields 1 t (omega (arith, ap length t.is))

pub past_number : (taken n : ℕ) (fields : Fields) → Behind taken (number n fields) → (n < 2 ^ 32) × Behind (taken + 1) fields
past_number taken n fields h =
    let t = then_taken taken (λ front. SpellsUnsigned 32 front n) (Spelled fields) h.place h.bytes h.are_bytes h.room h.spelled in
    let some : 0 < length t.front = IsNumberRun-some t.front t.is.run in
    (t.is.fits, field_taken taken _ fields 1 t (omega (arith, some)))

pub past_signed : (taken width : ℕ) (n : ℤ) (fields : Fields) → Behind taken (signed width n fields) → Behind (taken + 1) fields
past_signed taken width n fields h =
    let t = then_taken taken (λ front. SpellsSigned width front n) (Spelled fields) h.place h.bytes h.are_bytes h.room h.spelled in
    let some : 0 < length t.front = IsNumberRun-some t.front t.is.run in
    field_taken taken _ fields 1 t (omega (arith, some))

pub past_text : (taken : ℕ) (s : List ℕ) (fields : Fields) → Behind taken (text s fields) → AreBytes s × Behind (taken + length s) fields
past_text taken s fields h =
    let t = then_taken taken (λ front. front ≡ s) (Spelled fields) h.place h.bytes h.are_bytes h.room h.spelled in
    (subst AreBytes t.is t.front_bytes, field_taken taken _ fields (length s) t (omega (arith, ap length t.is)))

pub past_here : (taken place : ℕ) (fields : Fields) → Behind taken (here place fields) → Behind taken fields
past_here taken place fields h =
    record { place = h.place; bytes = h.bytes; spelled = h.spelled.1; are_bytes = h.are_bytes; room = h.room }

pub past_provided : (taken : ℕ) (b : Bool) (fields : Fields) → Behind taken (provided b fields) → IsTrue b × Behind taken fields
past_provided taken b fields h =
    (h.spelled.0, record { place = h.place; bytes = h.bytes; spelled = h.spelled.1; are_bytes = h.are_bytes; room = h.room })

pub past_window : (taken : ℕ) (inside fields : Fields) → Behind taken (window inside fields)
    → Behind taken inside × Behind (taken + 1) fields
past_window taken inside fields h =
    let size = h.spelled.0 in
    let t = then_taken taken (λ front. SpellsUnsigned 32 front size) (Then (Sized size (Spelled inside)) (Spelled fields))
    h.place h.bytes h.are_bytes h.room h.spelled.1 in
    let some : 0 < length t.front = IsNumberRun-some t.front t.is.run in
    let (content, rest, e, c, s) = t.rest_is in
    let split = all_split (λ b. b < 256) content rest (subst AreBytes e t.rest_bytes) in
    let long : length t.rest ≡ length content + length rest = ap length e ∙ length-append content rest in (
      record { place = t.place; bytes = content; spelled = c.1; are_bytes = split.0; room = omega (arith, t.room, long) },
      record { place = t.place + length content; bytes = rest; spelled = s; are_bytes = split.1; room = omega (arith, t.room, long, some) },
    )

pub past_either : (taken : ℕ) (fields others : Fields) → Behind taken (either fields others) → Behind taken fields ⊎ Behind taken others
past_either taken fields others h = go h.spelled
  where
    go : Spelled fields h.place h.bytes ⊎ Spelled others h.place h.bytes → Behind taken fields ⊎ Behind taken others
    go (inl s) = inl (record { place = h.place; bytes = h.bytes; spelled = s; are_bytes = h.are_bytes; room = h.room })
    go (inr s) = inr (record { place = h.place; bytes = h.bytes; spelled = s; are_bytes = h.are_bytes; room = h.room })

pub past_some : (taken : ℕ) (choice : List Custom → Fields) → Behind taken (for_some choice)
    → (customs : List Custom) × Behind taken (choice customs)
past_some taken choice h =
    (h.spelled.0, record { place = h.place; bytes = h.bytes; spelled = h.spelled.1; are_bytes = h.are_bytes; room = h.room })

-- so many bytes are in the file
pub within_file : (taken : ℕ) (fields : Fields) → Behind taken fields → taken ≤ most_module_bytes
within_file taken fields h = omega (arith, h.room)
