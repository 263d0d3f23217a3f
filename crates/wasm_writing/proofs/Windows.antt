-- A window: its content is counted first, then come the size and the content.
use Rattle.wasm_writing.proofs.Common.{◌≡◌, ℕ, ◌+◌, ◌*◌, ◌^◌, ◌<◌, ◌≤◌, Bool, true, false, ◌⊎◌, List, [], ◌++◌, length, take, replicate}
use Rattle.wasm_writing.proofs.Common.{sym, refl, ap, ◌∙◌, subst, inl, inr, append_assoc, append-nil, arith, length-append, length-take-le}
use Rattle.wasm_writing.proofs.Common.{length-replicate, all_append, SpellsUnsigned, seven_bit_sum, AreBytes, Fields, finished, number}
use Rattle.wasm_writing.proofs.Common.{text, window, most_module_bytes, Completes, Fits, HasStopped, IsWithin, Makes, Puts, PutsSize}
use Rattle.wasm_writing.proofs.Common.{Refuses, size_of, Draft, Counted, Stopped, Written, Memory, Unformed, false≢true}
use Rattle.leb_bytes.proofs.Existence.{shortest_unsigned}
use Rattle.leb_bytes.proofs.Runs.{IsNumberRun-some, seven_bit_sum-below}
use Rattle.wasm_writing.specs.Aside.{SpelledAside, SpelledBy, SpelledShort}
use Rattle.wasm_writing.proofs.Pieces.{puts_none}
use Rattle.wasm_writing.proofs.Shorts.{short_aside}

-- as many bytes can spell a number that is not greater
smaller : (n m : ℕ) (bytes : List ℕ) → m ≤ n → SpellsUnsigned 32 bytes n
    → (other : List ℕ) × SpellsUnsigned 32 other m × (length other ≤ length bytes)
smaller n m bytes le s =
    let k = length bytes in
    let some : 0 < k = IsNumberRun-some bytes s.run in
    let below : seven_bit_sum bytes < 2 ^ (7 * k) = seven_bit_sum-below bytes in
    let o = shortest_unsigned (7 * k) m (omega (arith, some)) (omega (arith, le, s.value, below)) in
    let short : length o.0 ≤ k = omega (arith, o.1.spells.short) in (
      o.0,
      record {
        run = o.1.spells.run;
        short = omega (arith, short, s.short);
        value = o.1.spells.value;
        fits = omega (arith, le, s.fits);
      },
      short,
    )

-- ---- drafts that go on and drafts that have stopped

-- it keeps to its size
abbrev Going : Bool → Draft → Type 0
Going written draft =
    ((room : ℕ) (fields : Fields) → Fits written room draft fields → IsWithin room (size_of draft) fields)
    × ((room : ℕ) (fields : Fields) → IsWithin room (size_of draft) fields → Fits written room draft fields)

cases_of : (written : Bool) (room : ℕ) (draft : Draft) (fields : Fields) → Fits written room draft fields
    → Going written draft ⊎ ((room : ℕ) (fields : Fields) → Fits written room draft fields)
cases_of written room (Stopped Unformed) fields h = absurd h.goes_on
cases_of written room (Stopped Memory) fields h = inr (λ r f. record { goes_on = h.goes_on })
cases_of written room _ fields h = inl ((λ r f k. k.goes_on.1), (λ r f k. record { goes_on = (h.goes_on.0, k) }))

-- what was put before it stopped is all that is put
pub puts_stopped : (fields more : Fields → Fields) (old mid new : Draft) → Puts fields old mid → HasStopped mid → Puts more mid new
    → Puts fields old new
puts_stopped fields more old (Stopped stop) new p _ q = (
  (λ file rest h. absurd (q.0 file rest h).completes),
  (λ written room rest h. q.1 written room rest (any written room rest (more rest) stop (p.1 written room rest h))),
  (λ s. q.2 (omega arith)),
)
  where
    any : (written : Bool) (room : ℕ) (f g : Fields) (stop : _) → Fits written room (Stopped stop) f → Fits written room (Stopped stop) g
    any written room f g Unformed h = absurd h.goes_on
    any written room f g Memory h = record { goes_on = h.goes_on }
puts_stopped fields more old _ new p stop q = absurd stop

-- ---- the size that was counted is the least

least_inside : (fields : Fields → Fields) (m : ℕ) (bytes : List ℕ) → Puts fields (Counted 0) (Counted m)
    → SpelledAside (fields finished) bytes → length bytes ≤ most_module_bytes → m ≤ length bytes
least_inside fields m bytes p s small =
    let h = p.1 false (length bytes) finished
    (record { goes_on = (refl, record { rest = bytes; spelled = s; within = omega arith; small = small }) }) in
    omega (arith, h.goes_on.1.within)

abbrev behind : List ℕ → Fields
behind bytes = text bytes finished

-- a window and what follows it take no fewer bytes than its least size, its content and what follows
record Parts (room size m : ℕ) (inside rest : Fields) : Type 0 where
  content : List ℕ
  after : List ℕ
  content_spelled : SpelledAside inside content
  after_spelled : SpelledAside rest after
  within : IsWithin room size (number m (behind (content ++ after)))

parts_of : (room size m : ℕ) (inside rest : Fields)
    → ((bytes : List ℕ) → SpelledAside inside bytes → length bytes ≤ most_module_bytes → m ≤ length bytes)
    → IsWithin room size (window inside rest) → Parts room size m inside rest
unfolding SpelledBy
parts_of room size m inside rest least w =
    let s = w.spelled.1 in
    let t = s.4 in
    let front = s.0 in
    let back = s.1 in
    let content = t.0 in
    let after = t.1 in
    let first : length w.rest ≡ length front + length back = ap length s.2 ∙ length-append front back in
    let second : length back ≡ length content + length after = ap length t.2 ∙ length-append content after in
    let low : m ≤ length content = least content t.3.1 (omega (arith, first, second, w.within, w.small)) in
    let o = smaller w.spelled.0 m front (omega (arith, low, t.3.0)) s.3 in
    record {
      content = content;
      after = after;
      content_spelled = t.3.1;
      after_spelled = t.4;
      within = record {
        rest = o.0 ++ ((content ++ after) ++ []);
        spelled = (o.0, (content ++ after) ++ [], refl, o.1, (content ++ after, [], refl, refl, refl));
        within =
            omega (
              arith,
              w.within,
              first,
              second,
              o.2,
              length-append o.0 ((content ++ after) ++ []),
              length-append (content ++ after) [],
              length-append content after,
            );
        small = w.small;
      };
    }

window_fits : (fields : Fields → Fields) (m : ℕ) (old mid new : Draft) → Puts fields (Counted 0) (Counted m) → Puts (number m) old mid
    → Puts fields mid new → (written : Bool) (room : ℕ) (rest : Fields) → Fits written room old (window (fields finished) rest)
    → Fits written room new rest
unfolding SpelledBy
window_fits fields m old mid new counted size put written room rest h = elim (cases_of written room old (window (fields finished) rest) h) [
  | inl going ↦ behind_size (parts_of room (size_of old) m (fields finished) rest
      (λ bytes s small. least_inside fields m bytes counted s small) (going.0 room (window (fields finished) rest) h)) going
  | inr any ↦ put.1 written room rest (size.1 written room (fields rest) (any room (number m (fields rest))))
]
  where
    at_end : (p : Parts room (size_of old) m (fields finished) rest) → size_of mid + (length p.content + length p.after) ≤ room
        → room ≤ most_module_bytes → Fits written (size_of mid + length p.content) new finished → Fits written room new rest
    at_end p within small h = elim (cases_of written (size_of mid + length p.content) new finished h) [
      | inl going ↦ let e = going.0 (size_of mid + length p.content) finished h in
          going.1 room rest (record { rest = p.after; spelled = p.after_spelled; within = omega (arith, e.within, within); small = small })
      | inr any ↦ any room rest
    ]

    behind_size : Parts room (size_of old) m (fields finished) rest → Going written old → Fits written room new rest
    behind_size p going =
        let next = behind (p.content ++ p.after) in
        let there = size.1 written room next (going.1 room (number m next) p.within) in
        elim (cases_of written room mid next there) [
          | inl on ↦
              let k = on.0 room next there in
              let taken : length k.rest ≡ length p.content + length p.after =
              ap length k.spelled.2 ∙ length-append k.spelled.0 k.spelled.1
              ∙ omega (arith, ap length k.spelled.3, ap length k.spelled.4, length-append p.content p.after) in
              let within : size_of mid + (length p.content + length p.after) ≤ room = omega (arith, k.within, taken) in
              at_end p within k.small
              (put.1 written (size_of mid + length p.content) finished
              (on.1 (size_of mid + length p.content) (fields finished)
              (record { rest = p.content; spelled = p.content_spelled; within = omega arith; small = omega (arith, within, k.small) })))
          | inr any ↦ put.1 written room rest (any room (fields rest))
        ]

-- ---- the shortest spelling of a window

-- a draft that completes a file may go on
abbrev Opens : Bool → Draft → Type 0
Opens written draft = (room : ℕ) (fields : Fields) → IsWithin room (size_of draft) fields → Fits written room draft fields

opens : (draft : Draft) (bytes file : List ℕ) → Completes draft bytes file
    → (written : Bool) × Opens written draft × (size_of draft + length bytes ≡ length file)
opens (Counted n) bytes file c = (false, (λ r f k. record { goes_on = (refl, k) }), c)
opens (Written a) bytes file c = (true, (λ r f k. record { goes_on = (refl, k) }), sym (length-append a bytes) ∙ ap length c)
opens (Stopped stop) bytes file c = absurd c

within_room : (written : Bool) (room : ℕ) (draft : Draft) (fields : Fields) (bytes file : List ℕ) → Completes draft bytes file
    → Fits written room draft fields → size_of draft ≤ room
within_room written room (Stopped stop) fields bytes file c h = absurd c
within_room written room _ fields bytes file c h = omega (arith, h.goes_on.1.within)

-- the file so far
kept : (draft : Draft) (bytes file : List ℕ) → Completes draft bytes file
    → (so_far : List ℕ) × Completes draft [] so_far × (length so_far ≡ size_of draft)
kept (Counted n) bytes file c = let l = length-take-le n file (omega (arith, c)) in (take n file, omega (arith, l), l)
kept (Written a) bytes file c = (a, append-nil a, refl)
kept (Stopped stop) bytes file c = absurd c

unlike : (b : Bool) → b ≡ false → b ≡ true → ⊥
unlike b e f = cc

joins : (written : Bool) (r s : ℕ) (f g : Fields) (mid new : Draft) (content after so_far file : List ℕ) → Fits written r mid f
    → Fits written s new g → Completes mid content so_far → Completes new [] so_far → Completes new after file
    → Completes mid (content ++ after) file
joins written r s f g (Counted n) (Counted k) content after so_far file h i a b c = omega (arith, a, b, c, length-append content after)
joins written r s f g (Written n) (Written k) content after so_far file h i a b c =
    sym (append_assoc n content after) ∙ ap (λ l. l ++ after) (a ∙ sym b ∙ append-nil k) ∙ c
joins written r s f g (Counted n) (Written k) content after so_far file h i a b c = absurd (unlike written h.goes_on.0 i.goes_on.0)
joins written r s f g (Written n) (Counted k) content after so_far file h i a b c = absurd (unlike written i.goes_on.0 h.goes_on.0)
joins written r s f g (Stopped stop) new content after so_far file h i a b c = absurd a
joins written r s f g mid (Stopped stop) content after so_far file h i a b c = absurd c

-- some bytes of the length that was counted spell the content
pub counted_inside : (fields : Fields → Fields) (m : ℕ) → Puts fields (Counted 0) (Counted m) → m ≤ most_module_bytes
    → (bytes : List ℕ) × SpelledShort (fields finished) bytes × (length bytes ≡ m) × AreBytes bytes
unfolding SpelledBy
counted_inside fields m p small =
    let l : length (replicate m 0) ≡ m = length-replicate {A = ℕ} m 0 in
    let h = p.0 (replicate m 0) finished (record {
      rest = [];
      spelled = refl;
      are_bytes = tt;
      completes = omega (arith, l);
      small = omega (arith, l, small);
    }) in
    (h.rest, h.spelled, omega (arith, h.completes, l), h.are_bytes)

-- the bytes that were put are as many as were counted
same_length : (fields : Fields → Fields) (m : ℕ) (mid new : Draft) (content after so_far file : List ℕ) → m ≤ most_module_bytes
    → Puts fields (Counted 0) (Counted m) → Puts fields mid new → SpelledShort (fields finished) content → Completes mid content so_far
    → Completes new [] so_far → Completes new after file → length file ≤ most_module_bytes
    → (length content ≡ m) × Completes mid (content ++ after) file
same_length fields m mid new content after so_far file fits_m counted put spelled a b c small =
    let o = opens mid content so_far a in
    let e = opens new [] so_far b in
    let f = opens new after file c in
    let most : size_of mid + length content ≤ most_module_bytes = omega (arith, o.2, e.2, f.2, small) in
    let low : m ≤ length content =
    least_inside fields m content counted (short_aside (fields finished) content spelled) (omega (arith, most)) in
    let i = counted_inside fields m counted fits_m in
    let there =
    o.1 (size_of mid + m) (fields finished)
    (record {
      rest = i.0;
      spelled = short_aside (fields finished) i.0 i.1;
      within = omega (arith, i.2);
      small = omega (arith, most, low);
    }) in
    let behind_it = put.1 o.0 (size_of mid + m) finished there in
    let high : size_of new ≤ size_of mid + m = within_room o.0 (size_of mid + m) new finished [] so_far b behind_it in (
      omega (arith, low, high, o.2, e.2),
      joins o.0 (size_of mid + m) (size_of mid + m) (fields finished) finished mid new content after so_far file there behind_it a b c,
    )

window_makes : (fields : Fields → Fields) (m : ℕ) (old mid new : Draft) → m ≤ most_module_bytes → Puts fields (Counted 0) (Counted m)
    → Puts (number m) old mid → Puts fields mid new → (file : List ℕ) (rest : Fields) → Makes file new rest
    → Makes file old (window (fields finished) rest)
unfolding SpelledBy
window_makes fields m old mid new fits_m counted size put file rest h =
    let k = kept new h.rest file h.completes in
    let f = opens new h.rest file h.completes in
    let a = put.0 k.0 finished (record {
      rest = [];
      spelled = refl;
      are_bytes = tt;
      completes = k.1;
      small = omega (arith, k.2, f.2, h.small);
    }) in
    let l = same_length fields m mid new a.rest h.rest k.0 file fits_m counted put a.spelled a.completes k.1 h.completes h.small in
    let both = a.rest ++ h.rest in
    let there : Makes file mid (behind both) = record {
      rest = both ++ [];
      spelled = (both, [], refl, refl, refl);
      are_bytes = bytes a.rest h.rest a.are_bytes h.are_bytes;
      completes = subst (λ x. Completes mid x file) (sym (append-nil both)) l.1;
      small = h.small;
    } in
    let w = size.0 file (behind both) there in
    let s = w.spelled in
    let back : s.1 ≡ a.rest ++ h.rest = s.4.2 ∙ ap (λ x. x ++ s.4.1) s.4.3 ∙ ap (λ x. both ++ x) s.4.4 ∙ append-nil both in
    record {
      rest = w.rest;
      are_bytes = w.are_bytes;
      spelled = (m, (s.0, s.1, s.2, s.3, (a.rest, h.rest, back, (l.0, a.spelled), h.spelled)));
      completes = w.completes;
      small = w.small;
    }
  where
    bytes : (content after : List ℕ) → AreBytes content → AreBytes after → AreBytes ((content ++ after) ++ [])
    bytes content after c d = all_append (λ b. b < 256) (content ++ after) [] (all_append (λ b. b < 256) content after c d) tt

-- nothing was counted, since nothing within the limit spells the content
pub not_counted : (fields : Fields → Fields) (counted : Draft) (bytes : List ℕ) → Puts fields (Counted 0) counted
    → ((n : ℕ) → counted ≡ Counted n → ⊥) → SpelledAside (fields finished) bytes → length bytes ≤ most_module_bytes → ⊥
not_counted fields counted bytes p n s small =
    none counted n (p.1 false (length bytes) finished
    (record { goes_on = (refl, record { rest = bytes; spelled = s; within = omega arith; small = small }) }))
  where
    none : (counted : Draft) → ((n : ℕ) → counted ≡ Counted n → ⊥) → Fits false (length bytes) counted finished → ⊥
    none (Counted n) other h = other n refl
    none (Written a) other h = false≢true h.goes_on.0
    none (Stopped Unformed) other h = h.goes_on
    none (Stopped Memory) other h = false≢true h.goes_on

refused : (old mid : Draft) → Refuses old mid → HasStopped mid
refused (Counted n) mid r = subst HasStopped (sym r) tt
refused _ mid r = subst HasStopped (sym r) tt

no_window : (fields : Fields → Fields) (counted : Draft) → Puts fields (Counted 0) counted → ((n : ℕ) → counted ≡ Counted n → ⊥)
    → (rest : Fields) (bytes : List ℕ) → length bytes ≤ most_module_bytes → SpelledAside (window (fields finished) rest) bytes → ⊥
unfolding SpelledBy
no_window fields counted p n rest bytes small s =
    let f = s.1 in
    let t = f.4 in
    not_counted fields counted t.0 p n t.3.1
    (omega (arith, small, ap length f.2, length-append f.0 f.1, ap length t.2, length-append t.0 t.1))

not_known : (fields : Fields → Fields) (counted old mid new : Draft) → Puts fields (Counted 0) counted → ((n : ℕ) → counted ≡ Counted n → ⊥)
    → Refuses old mid → Puts fields mid new → Puts (window (fields finished)) old new
not_known fields counted old mid new p n r put =
    puts_stopped (window (fields finished)) fields old mid new
    (puts_none (window (fields finished)) old mid (no_window fields counted p n) r) (refused old mid r) put

pub puts_window : (fields : Fields → Fields) (counted old mid new : Draft) → Puts fields (Counted 0) counted → PutsSize counted old mid
    → Puts fields mid new → Puts (window (fields finished)) old new
puts_window fields (Counted m) old mid new counted size put =
    let fits_m : m ≤ most_module_bytes = counted.2 (omega arith) in
    (window_makes fields m old mid new fits_m counted size put, window_fits fields m old mid new counted size put, (λ s. put.2 (size.2 s)))
puts_window fields (Written a) old mid new counted size put = not_known fields (Written a) old mid new counted (λ n e. absurd cc) size put
puts_window fields (Stopped stop) old mid new counted size put =
    not_known fields (Stopped stop) old mid new counted (λ n e. absurd cc) size put
