-- Single fields: what is read spells them, what is spelled is read, and the machine goes along.
use Rattle.wasm_spelling.proofs.Common.{◌≡◌, ℕ, ◌+◌, ◌≤◌, Bool, true, false, eqb, ltb, leb, List, [], ◌∷◌, ◌++◌, length, take, drop, ℤ}
use Rattle.wasm_spelling.proofs.Common.{nat_le, Some, None, Ok, Err, Result, find, sym, refl, ap, ◌∙◌, subst, inl, inr, arith}
use Rattle.wasm_spelling.proofs.Common.{length-append, take-append-drop, length-take-le, ltb-false, eq-eqb, eqb-true, drop-append_seam}
use Rattle.wasm_spelling.proofs.Common.{take-append_seam, is_utf8, SpellsSigned, SpellsUnsigned, At, Counts, Fields, Spelled, Then, byte}
use Rattle.wasm_spelling.proofs.Common.{here, number, provided, signed, text, most_name_bytes, any_name, block_type_code, export_code}
use Rattle.wasm_spelling.proofs.Common.{mutability_code, name, type_code, utf8, value_type, byte_at, byte_of, checked, malformed, rest_at}
use Rattle.wasm_spelling.proofs.Common.{index, none_more, Cause, ReadFault, Limit, Malformed, Which}
use Rattle.w2c_base.specs.declared.value.ValType.TheVariants.{I32, I64}
use Rattle.leb_bytes.specs.declared.fault.LebFault.{LebFault}
use Rattle.leb_bytes.specs.Computed.{s32_of, s64_of, u32_of}
use Rattle.leb_bytes.proofs.Numbers.{u32_of-spelled, u32_of-append, s32_of-spelled, s32_of-append, s64_of-spelled, s64_of-append}
use Rattle.wasm_tree.specs.declared.entries.ExportKind.TheVariants as kind
use Rattle.wasm_spelling.specs.declared.fault.Cause.TheVariants as cause
use Rattle.wasm_spelling.specs.declared.fault.Which.TheVariants as which
use Rattle.wasm_spelling.specs.Steps.{moved, number_of, number_at, signed32_at, signed64_at, bytes_at, exactly, within, utf8_of, by_code}
use Rattle.wasm_spelling.specs.Steps.{no_type, type_of, block_type_of, flag_of, kind_of, zero_of}
use Rattle.wasm_spelling.specs.Reading.{place_at, exactly_at, type_at, block_type_at, mutability_at, flag_at, kind_at, zero_at, utf8_at}
use Rattle.wasm_spelling.specs.Reading.{any_name_at, name_at, counted_bytes_at}
use Rattle.wasm_spelling.specs.Table as table
use Rattle.wasm_spelling.specs.Table.{row}
use Rattle.wasm_spelling.proofs.Tools.{yes, bad, ok_is, not_ok, chosen, ok_or_is, found_passes, either_way, checked_ok, checked_again}
use Rattle.wasm_spelling.proofs.Took.{SpelledAt, Took, took_as, took_front, Front, Takes, Again, Spelling}
use Rattle.wasm_spelling.proofs.Runs.{Follows, follows_row, runs_now}
use Rattle.wasm_spelling.proofs.Readings.{Reads, ReadsMany, by_row, counted}

-- ---- the place

pub place_reads : Reads place_at here []
place_reads = record {
  takes = λ a v b e.
      let same : (a.place, a) ≡ (v, b) = ok_is (a.place, a) (v, b) e in
      subst (λ (x : ℕ × At). Took a (here x.0) x.1) same
      (record { taken = record { spelled = λ fields s. (refl, s); moved = refl; within = omega arith }; kept = refl });
  again = λ a v rest s. (a, ap (λ p. Ok (p, a)) s.0, s.1);
  follows = λ a outer fields. runs_now _;
}

-- ---- bytes

pub byte_front : (place : ℕ) (left : List ℕ) (counts : Counts) (v : ℕ) (b : At) → byte_of place left counts ≡ Ok (v, b)
    → Front (record { place = place; left = left; counts = counts }) (v ∷ []) b
byte_front place [] counts v b e = not_ok _ (v, b) e
byte_front place (x ∷ left) counts v b e =
    let same : (x, record { place = place + 1; left = left; counts = counts }) ≡ (v, b) =
    ok_is (x, record { place = place + 1; left = left; counts = counts }) (v, b) e in
    subst (λ (y : ℕ × At). Front (record { place = place; left = x ∷ left; counts = counts }) (y.0 ∷ []) y.1) same
    (record { bytes = refl; place = refl; kept = refl })

pub byte_takes : Takes byte_at byte
byte_takes a v b e =
    took_front a b (v ∷ []) (byte v) (λ _ front. front ≡ v ∷ []) (λ fields place bytes t. t) (byte_front a.place a.left a.counts v b e) refl

pub byte_again : Again byte_at byte
byte_again a v rest (front, left, e, is, s) =
    let bytes : a.left ≡ v ∷ left = e ∙ ap (λ (l : List ℕ). l ++ left) is in (
      record { place = a.place + 1; left = left; counts = a.counts },
      ap (λ (l : List ℕ). byte_of a.place l a.counts) bytes,
      subst (λ (l : List ℕ). Spelled rest (a.place + length l) left) is s,
    )

-- ---- numbers

number_front : {N : Type 0} (a : At) (v : N) (b : At) (r : Result (N × ℕ) LebFault) → number_of a r ≡ Ok (v, b)
    → (k : ℕ) × (r ≡ Ok (v, k)) × (b ≡ moved k a)
number_front {N} a v b (Ok x) e =
    let same : (x.0, moved x.1 a) ≡ (v, b) = ok_is (x.0, moved x.1 a) (v, b) e in
    (x.1, ap (λ (y : N × At). Ok (y.0, x.1)) same, sym (ap (λ (y : N × At). y.1) same))
number_front a v b (Err f) e = not_ok _ (v, b) e

front_moved : (a : At) (k : ℕ) → k ≤ length a.left → Front a (take k a.left) (moved k a)
front_moved a k le =
    record { bytes = sym (take-append-drop k a.left); place = ap (λ n. a.place + n) (sym (length-take-le k a.left le)); kept = refl }

moved_front : (a : At) (front rest : List ℕ) → a.left ≡ front ++ rest
    → moved (length front) a ≡ record { place = a.place + length front; left = rest; counts = a.counts }
moved_front a front rest e =
    λ i. record { place = a.place + length front; left = (ap (drop (length front)) e ∙ drop-append_seam front rest) i; counts = a.counts }

pub number_is : (a : At) (v : ℕ) (b : At) → number_at a ≡ Ok (v, b) → (front : List ℕ) × Front a front b × SpellsUnsigned 32 front v
unfolding number_at
number_is a v b e =
    let n = number_front a v b (u32_of a.left) e in
    let s = u32_of-spelled a.left v n.0 n.1 in
    (take n.0 a.left, subst (Front a (take n.0 a.left)) (sym n.2) (front_moved a n.0 s.0), s.1)

pub number_takes : Takes number_at number
number_takes a v b e =
    let n = number_is a v b e in
    took_front a b n.0 (number v) (λ _ front. SpellsUnsigned 32 front v) (λ fields place bytes t. t) n.1 n.2

-- whatever is behind the number
pub number_then : (a : At) (v : ℕ) (Q : ℕ → List ℕ → Type 0) → Then (λ _ front. SpellsUnsigned 32 front v) Q a.place a.left
    → (b : At) × (number_at a ≡ Ok (v, b)) × Q b.place b.left × (b.counts ≡ a.counts)
unfolding number_at
number_then a v Q (front, left, e, is, s) = (
  record { place = a.place + length front; left = left; counts = a.counts },
  ap (number_of a) (ap u32_of e ∙ u32_of-append front left v is) ∙ ap (λ (c : At). Ok (v, c)) (moved_front a front left e),
  s,
  refl,
)

pub number_spelling : Spelling number_at number
number_spelling = record {
  takes = number_takes;
  again = λ a v rest s. let n = number_then a v (Spelled rest) s in (n.0, n.1, n.2);
}

pub index_reads : Reads number_at number (index ∷ [])
unfolding row
index_reads = by_row index number_spelling (λ a outer fields. refl)

-- a number with a sign, by its function on lists
signed_spelling : (width : ℕ) (decode : List ℕ → Result (ℤ × ℕ) LebFault)
    → ((bytes : List ℕ) (n : ℤ) (k : ℕ) → decode bytes ≡ Ok (n, k) → (k ≤ length bytes) × SpellsSigned width (take k bytes) n)
    → ((bytes more : List ℕ) (n : ℤ) → SpellsSigned width bytes n → decode (bytes ++ more) ≡ Ok (n, length bytes))
    → Spelling (λ a. number_of a (decode a.left)) (signed width)
signed_spelling width decode spelled append = record {
  takes = λ a v b e.
      let n = number_front a v b (decode a.left) e in
      let s = spelled a.left v n.0 n.1 in
      subst (λ (c : At). Took a (signed width v) c) (sym n.2)
      (took_front a (moved n.0 a) (take n.0 a.left) (signed width v) (λ _ front. SpellsSigned width front v) (λ fields place bytes t. t)
      (front_moved a n.0 s.0) s.1);
  again = again;
}
  where
    again : Again (λ a. number_of a (decode a.left)) (signed width)
    again a v rest (front, left, e, is, s) = (
      record { place = a.place + length front; left = left; counts = a.counts },
      ap (number_of a) (ap decode e ∙ append front left v is) ∙ ap (λ (c : At). Ok (v, c)) (moved_front a front left e),
      s,
    )

pub signed32_reads : Reads signed32_at (signed 32) (table.signed32 ∷ [])
unfolding row signed32_at
signed32_reads = by_row table.signed32 (signed_spelling 32 s32_of s32_of-spelled s32_of-append) (λ a outer fields. refl)

pub signed64_reads : Reads signed64_at (signed 64) (table.signed64 ∷ [])
unfolding row signed64_at
signed64_reads = by_row table.signed64 (signed_spelling 64 s64_of s64_of-spelled s64_of-append) (λ a outer fields. refl)

-- ---- bytes in a row

bytes_takes : (n : ℕ) (a : At) (v : List ℕ) (b : At) → bytes_at n a ≡ Ok (v, b) → Took a (text v) b × (length v ≡ n)
unfolding bytes_at
bytes_takes n a v b e = elim (chosen (ltb (length a.left) n) _ _ _ e) [
  | inl hit ↦ not_ok _ (v, b) hit.1
  | inr miss ↦
      let le : n ≤ length a.left = ltb-false (length a.left) n miss.0 in
      let same : (take n a.left, moved n a) ≡ (v, b) = ok_is (take n a.left, moved n a) (v, b) miss.1 in
      subst (λ (x : List ℕ × At). Took a (text x.0) x.1 × (length x.0 ≡ n)) same (
        took_front a (moved n a) (take n a.left) (text (take n a.left)) (λ _ front. front ≡ take n a.left) (λ fields place bytes t. t)
            (front_moved a n le) refl,
        length-take-le n a.left le,
      )
]

pub not_less : (m n : ℕ) (b : Bool) → ltb m n ≡ b → n ≤ m → b ≡ false
not_less m n true e le = absurd (grind (arith, e, le))
not_less m n false e le = refl

bytes_again : (n : ℕ) (a : At) (v : List ℕ) (rest : Fields) → length v ≡ n → SpelledAt (text v rest) a
    → (b : At) × (bytes_at n a ≡ Ok (v, b)) × SpelledAt rest b
unfolding bytes_at
bytes_again n a v rest size (front, left, e, is, s) =
    let bytes : a.left ≡ v ++ left = e ∙ ap (λ (l : List ℕ). l ++ left) is in
    let le : n ≤ length a.left = omega (arith, ap length bytes, length-append v left, size) in
    let whole : bytes_at (length v) a ≡ Ok (v, record { place = a.place + length v; left = left; counts = a.counts }) =
    rw (not_less (length a.left) (length v) (ltb (length a.left) (length v)) refl (omega (arith, le, size)))
    (λ i. Ok ((ap (take (length v)) bytes ∙ take-append_seam v left) i, moved_front a v left bytes i)) in (
      record { place = a.place + length v; left = left; counts = a.counts },
      subst (λ (m : ℕ). bytes_at m a ≡ Ok (v, record { place = a.place + length v; left = left; counts = a.counts })) size whole,
      subst (λ (l : List ℕ). Spelled rest (a.place + length l) left) is s,
    )

bytes_many : ReadsMany bytes_at text (λ n. table.raw_bytes n ∷ [])
unfolding row
bytes_many = record {
  takes = bytes_takes;
  again = bytes_again;
  follows = λ n. follows_row (table.raw_bytes n) (bytes_at n) none_more (λ a outer fields. refl);
}

-- ---- fields of a byte

-- a look at a byte, and the byte of each value
pub record Coded {A : Type 0} (look : ℕ → ℕ → Result A ReadFault) (code : A → ℕ) : Type 0 where
  pub from : (place b : ℕ) (v : A) → look place b ≡ Ok v → b ≡ code v
  pub to : (place : ℕ) (v : A) → look place (code v) ≡ Ok v

coded : {A : Type 0} {look : ℕ → ℕ → Result A ReadFault} {code : A → ℕ} → Coded look code
    → Spelling (checked byte_at look) (λ v. byte (code v))
coded {A} {look} {code} c = record {
  takes = λ a v b e.
      let s = checked_ok byte_at look a v b e in
      subst (λ (x : ℕ). Took a (byte x) b) (c.from a.place s.0 v s.2) (byte_takes a s.0 b s.1);
  again = λ a v rest s.
      let b = byte_again a (code v) rest s in
      (b.0, checked_again byte_at look a (code v) v b.0 b.1 (c.to a.place v), b.2);
}

exactly_coded : (wanted : ℕ) (c : Cause) → Coded (exactly wanted c) (λ u. wanted)
exactly_coded wanted c = record {
  from = λ place b v e. either_way (eqb b wanted) (yes tt) (malformed place c) v e (λ t x. eqb-true b wanted t) (λ _ x. not_ok _ v x);
  to = λ place v. rw (eq-eqb wanted wanted refl) refl;
}

-- the value has the code by which it was found
by_code_is : {A : Type 0} (code : A → ℕ) (values : List A) (fault : ReadFault) (b : ℕ) (v : A) → by_code code values fault b ≡ Ok v
    → b ≡ code v
by_code_is code values fault b v e =
    eqb-true b (code v)
    (found_passes (λ v. eqb b (code v)) values v (ok_or_is (find (λ v. eqb b (code v)) values) fault v e))

type_coded : Coded type_of type_code
type_coded = record {
  from = λ place b v e. by_code_is type_code (I32 ∷ I64 ∷ []) (no_type place b) b v e;
  to = λ place. elim [ I32 ↦ refl | I64 ↦ refl ];
}

block_type_coded : Coded block_type_of block_type_code
block_type_coded = record {
  from = λ place b v e. by_code_is block_type_code (None ∷ Some I32 ∷ Some I64 ∷ []) (no_type place b) b v e;
  to = λ place. elim [ None ↦ refl | Some I32 ↦ refl | Some I64 ↦ refl ];
}

flag_coded : (c : Cause) → Coded (flag_of c) mutability_code
flag_coded c = record {
  from = λ place b v e.
      either_way (eqb b 0x00) (yes false) _ v e (λ t x. eqb-true b 0x00 t ∙ ap mutability_code (ok_is false v x)) (λ _ e.
      either_way (eqb b 0x01) (yes true) _ v e (λ t x. eqb-true b 0x01 t ∙ ap mutability_code (ok_is true v x)) (λ _ x. not_ok _ v x));
  to = λ place. elim [ false ↦ refl | true ↦ refl ];
}

kind_coded : Coded kind_of export_code
kind_coded = record {
  from = λ place b v e.
      by_code_is export_code (kind.Func ∷ kind.Table ∷ kind.Memory ∷ kind.Global ∷ []) (Malformed place cause.BadKind) b v e;
  to = λ place. elim [ kind.Func ↦ refl | kind.Table ↦ refl | kind.Memory ↦ refl | kind.Global ↦ refl ];
}

pub exactly_reads : (wanted : ℕ) (c : Cause) → Reads (exactly_at wanted c) (λ u. byte wanted) (table.exactly wanted c ∷ [])
unfolding row exactly_at
exactly_reads wanted c = by_row (table.exactly wanted c) (coded (exactly_coded wanted c)) (λ a outer fields. refl)

pub type_reads : Reads type_at value_type (table.value_type ∷ [])
unfolding row type_at
type_reads = by_row table.value_type (coded type_coded) (λ a outer fields. refl)

pub block_type_reads : Reads block_type_at (λ v. byte (block_type_code v)) (table.block_type ∷ [])
unfolding row block_type_at
block_type_reads = by_row table.block_type (coded block_type_coded) (λ a outer fields. refl)

pub mutability_reads : Reads mutability_at (λ v. byte (mutability_code v)) (table.mutability ∷ [])
unfolding row mutability_at
mutability_reads = by_row table.mutability (coded (flag_coded cause.BadMutability)) (λ a outer fields. refl)

pub flag_spelling : Spelling flag_at (λ v. byte (mutability_code v))
unfolding flag_at
flag_spelling = coded (flag_coded cause.BadLimitsFlag)

pub kind_reads : Reads kind_at (λ v. byte (export_code v)) (table.export_kind ∷ [])
unfolding row kind_at
kind_reads = by_row table.export_kind (coded kind_coded) (λ a outer fields. refl)

-- ---- numbers with a condition

abbrev pub limited : ℕ → ℕ → Fields → Fields
limited most n rest = number n (provided (nat_le n most) rest)

pub limited_spelling : (most : ℕ) (w : Which) → Spelling (checked number_at (within most w)) (limited most)
limited_spelling most w = record {
  takes = λ a v b e.
      let s = checked_ok number_at (within most w) a v b e in
      either_way (leb s.0 most) (yes s.0) (bad (Limit a.place w)) v s.2
      (λ t x.
      let same : s.0 ≡ v = ok_is s.0 v x in
      subst (λ (n : ℕ). Took a (limited most n) b) same
      (took_as (limited most s.0) a b (number_takes a s.0 b s.1) (λ fields y. (y.0, y.1, y.2, y.3, (t, y.4)))))
      (λ _ x. not_ok _ v x);
  again = λ a v rest s.
      let n = number_spelling.again a v (provided (nat_le v most) rest) s in
      (n.0, checked_again number_at (within most w) a v v n.0 n.1 (rw (n.2.0) refl), n.2.1);
}

pub zero_reads : Reads zero_at (λ u. number 0) (table.zero_number ∷ [])
unfolding row zero_at
zero_reads = record {
  takes = λ a v b e.
      let s = checked_ok number_at zero_of a v b e in
      either_way (eqb s.0 0) (yes tt) (malformed a.place cause.ZeroByteExpected) v s.2
      (λ t x. subst (λ (n : ℕ). Took a (number n) b) (eqb-true s.0 0 t) (number_takes a s.0 b s.1)) (λ _ x. not_ok _ v x);
  again = λ a v rest s.
      let n = number_spelling.again a 0 rest s in (n.0, checked_again number_at zero_of a 0 v n.0 n.1 refl, n.2);
  follows = follows_row table.zero_number (checked number_at zero_of) none_more (λ a outer fields. refl);
}

-- ---- names

utf8_many : ReadsMany utf8_at utf8 (λ n. table.utf8 n ∷ [])
unfolding row utf8_at
utf8_many = record {
  takes = λ n a v b e.
      let s = checked_ok (bytes_at n) utf8_of a v b e in
      either_way (is_utf8 s.0) (yes s.0) (malformed a.place cause.BadUTF8) v s.2
      (λ t x.
      let took = bytes_takes n a s.0 b s.1 in
      subst (λ (l : List ℕ). Took a (utf8 l) b × (length l ≡ n)) (ok_is s.0 v x)
      (took_as (utf8 s.0) a b took.0 (λ fields y. (y.0, y.1, y.2, y.3, (t, y.4))), took.1))
      (λ _ x. not_ok _ v x);
  again = λ n a v rest size s.
      let t = bytes_again n a v (provided (is_utf8 v) rest) size s in
      (t.0, checked_again (bytes_at n) utf8_of a v v t.0 t.1 (rw (t.2.0) refl), t.2.1);
  follows = λ n. follows_row (table.utf8 n) (utf8_at n) none_more (λ a outer fields. refl);
}

pub any_name_reads : Reads any_name_at any_name (table.any_name ∷ [])
unfolding row any_name_at
any_name_reads = counted table.any_name number_spelling utf8_many (λ a outer fields. refl)

pub name_reads : Reads name_at name (table.name ∷ [])
unfolding row name_at
name_reads = counted table.name (limited_spelling most_name_bytes which.NameLength) utf8_many (λ a outer fields. refl)

abbrev pub counted_bytes : List ℕ → Fields → Fields
counted_bytes t rest = number (length t) (text t rest)

pub counted_bytes_reads : Reads counted_bytes_at counted_bytes (table.counted_bytes ∷ [])
unfolding row counted_bytes_at
counted_bytes_reads = counted table.counted_bytes number_spelling bytes_many (λ a outer fields. refl)

pub rest_follows : Follows (table.any_bytes ∷ []) rest_at
unfolding row
rest_follows = follows_row table.any_bytes rest_at none_more (λ a outer fields. refl)
