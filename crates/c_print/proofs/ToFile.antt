-- Texts that are put to a file in pieces, one behind the other, and the tokens of which they are the text.
use Rattle.c_print.proofs.Common.{◌≡◌, ℕ, List, [], ◌∷◌, ◌++◌, Option, Ok, Err, Result, IfErr, OnErr, OnOk, sym, refl, ap, ◌∙◌, subst}
use Rattle.c_print.proofs.Common.{inl, inr, ◌+◌, ◌<◌, ◌≤◌, length, get_or, drop, append_assoc, append-nil, arith, each}
use Rattle.c_print.proofs.Common.{front_passed, more_passed, none_passed, nothing_put, part_passed}
use Rattle.c_print.proofs.Common.{vain_passed, whole_passed, Token, Fixed, Named, kind_of, token_text, printed_onto, gap, Page}
use Rattle.c_tree.specs.declared.token.Kind.{Kind}
use Rattle.c_tree.specs.declared.token.Tok.TheVariants as tok
use Rattle.c_tree.specs.Tree.{Case, Expr, Func, Switch}
use Rattle.c_tree.specs.Trees.{case_tokens, expr_tokens, stmt_tokens}
use Rattle.c_tree.specs.Trees.{static_tokens, type_tokens, param_tokens, separated, close_tokens, func_tokens}
use Rattle.w2c_io.specs.Contents.{Name, Told, appending, AppendsPart, IsPrefix}
use Rattle.w2c_io.specs.Causes.{WriteCause, name_after_write}
use Rattle.w2c_io.specs.Events.{Put}
use Rattle.w2c_io.specs.Passed.{Passes, PutsText, PutsPart}
use Rattle.w2c_io.specs.declared.files.Files.{Ghosts as Files}
use Rattle.w2c_io.specs.declared.answers.WriteAnswer.{WriteAnswer}
use Rattle.w2c_io.specs.declared.answers.WriteAnswer.TheVariants as writing
use Rattle.w2c_io.proofs.Appending.{append_more, done_is_part, part_behind, part_in_front}
use Rattle.w2c_io.proofs.Causes.{cause_behind, done_cause, memory_cause, named_behind}
use Rattle.c_print.specs.Page.{printed, ended}
use Rattle.c_print.specs.ToFile.{Gains, HasPut, HasFailed, behind, Prints, func_head, switch_head, switch_end}
use Rattle.c_tree.proofs.Tested.{at_front}
use Rattle.std.proofs.lemmas.List.{drop_all}
use Rattle.c_print.proofs.Onto.{onto_append}

-- ---- what the file has gained

gains_more : (a b c : Told) (current : Option Name) (t u : List ℕ) → Gains a b current t → Gains b c current u
    → Gains a c current (t ++ u)
gains_more a b c current t u (inl (none, same)) (inl (nothing, as_before)) =
    inl (ap (λ (l : List ℕ). l ++ u) none ∙ nothing, as_before ∙ same)
gains_more a b c current t u (inl (none, same)) (inr is) = inr (is ∙ (λ i. appending (same i) current (sym none i ++ u)))
gains_more a b c current t u (inr is) (inl (nothing, same)) =
    inr (same ∙ is ∙ ap (appending a current) (sym (append-nil t) ∙ ap (λ (l : List ℕ). t ++ l) (sym nothing)))
gains_more a b c current t u (inr is) (inr then) =
    inr (then ∙ ap (λ (told : Told). appending told current u) is ∙ append_more a current t u)

gains_part : (a b : Told) (current : Option Name) (t rest : List ℕ) → Gains a b current t → AppendsPart a b current (t ++ rest)
gains_part a b current t rest (inl (none, same)) = inl same
gains_part a b current t rest (inr is) = done_is_part a b current t rest is

gains_before : (a b c : Told) (current : Option Name) (t u : List ℕ) → Gains a b current t → AppendsPart b c current u
    → AppendsPart a c current (t ++ u)
gains_before a b c current t u (inl (none, same)) part =
    subst (AppendsPart a c current) (ap (λ (l : List ℕ). l ++ u) (sym none))
    (subst (λ (told : Told). AppendsPart told c current u) same part)
gains_before a b c current t u (inr is) part = part_behind a b c current t u is part

-- a text that ends in a newline is no text of no piece
ends_in : (xs : List ℕ) (x : ℕ) → xs ++ x ∷ [] ≡ [] → ⊥
ends_in [] x e = cc
ends_in (y ∷ ys) x e = cc

gains_line : (a b : Told) (current : Option Name) (t : List ℕ) (x : ℕ) → Gains a b current (t ++ x ∷ [])
    → b ≡ appending a current (t ++ x ∷ [])
gains_line a b current t x (inl (none, same)) = absurd (ends_in t x none)
gains_line a b current t x (inr is) = is

-- ---- texts that are put

module _ {F : Type 0} (f : Files F) where
  none_put : (a : F) → HasPut f a a []
  none_put a = record {
    gained = inl (refl, refl);
    current = refl;
    kept = refl;
    named = refl;
    reads = refl;
    passed = none_passed (f.trace a) (PutsText []) nothing_put;
  }

  both_put : (a b c : F) (t u : List ℕ) → HasPut f a b t → HasPut f b c u → HasPut f a c (t ++ u)
  both_put a b c t u first last = record {
    gained = gains_more (f.told a) (f.told b) (f.told c) (f.current a) t u first.gained
        (subst (λ (o : Option Name). Gains (f.told b) (f.told c) o u) first.current last.gained);
    current = last.current ∙ first.current;
    kept = last.kept ∙ first.kept;
    named = last.named ∙ first.named;
    reads = last.reads ∙ first.reads;
    passed = more_passed (f.trace a) (f.trace b) (f.trace c) t u first.passed last.passed;
  }

  failed_behind : (a b c : F) (whole t u rest : List ℕ) (why : WriteAnswer) → whole ≡ t ++ (u ++ rest) → HasPut f a b t
      → HasFailed f b c u why → HasFailed f a c whole why
  failed_behind a b c whole t u rest why split put failed =
      let answer : Result (Unit {0}) WriteAnswer = Err why in
      record {
        part = subst (AppendsPart (f.told a) (f.told c) (f.current a)) (sym split)
            (gains_before (f.told a) (f.told b) (f.told c) (f.current a) t (u ++ rest) put.gained
            (part_in_front (f.told b) (f.told c) (f.current a) u rest
            (subst (λ (o : Option Name). AppendsPart (f.told b) (f.told c) o u) put.current failed.part)));
        current = failed.current ∙ put.current;
        cause = cause_behind (f.write_faults a) (f.write_faults b) (f.write_faults c) answer put.kept failed.cause;
        named = named_behind answer (f.current b) (f.current a) (f.fault_name b) (f.fault_name a) (f.fault_name c) put.current put.named
            failed.named;
        reads = failed.reads ∙ put.reads;
        tried = part_passed (f.trace a) (f.trace b) (f.trace c) whole t u rest why split put.passed failed.tried;
      }

  wanted_behind : (a b : F) (whole t rest : List ℕ) → whole ≡ t ++ rest → HasPut f a b t → HasFailed f a b whole writing.Memory
  wanted_behind a b whole t rest split put = record {
    part = subst (AppendsPart (f.told a) (f.told b) (f.current a)) (sym split)
        (gains_part (f.told a) (f.told b) (f.current a) t rest put.gained);
    current = put.current;
    cause = memory_cause (f.write_faults a) (f.write_faults b) (omega (arith, put.kept));
    named = put.named;
    reads = put.reads;
    tried = front_passed (f.trace a) (f.trace b) whole t rest split put.passed;
  }

  -- one piece, as it is answered
  pub piece_put : (a b : F) (piece : List ℕ) (r : Result (Unit {0}) WriteAnswer)
      → OnOk r (f.told b ≡ appending (f.told a) (f.current a) piece) → f.current b ≡ f.current a
      → WriteCause (f.write_faults a) (f.write_faults b) r → f.fault_name b ≡ name_after_write r (f.current a) (f.fault_name a)
      → f.read_faults b ≡ f.read_faults a → f.trace b ≡ f.trace a ++ Put piece r ∷ [] → OnOk r (HasPut f a b piece)
  piece_put a b piece (Ok x) written current cause named reads traced = record {
    gained = inr written;
    current = current;
    kept = cause.kept;
    named = named;
    reads = reads;
    passed = whole_passed (f.trace a) (f.trace b) piece piece (Ok x) refl traced;
  }
  piece_put a b piece (Err why) written current cause named reads traced = tt

  pub piece_failed : (a b : F) (piece : List ℕ) (r : Result (Unit {0}) WriteAnswer)
      → OnErr r ((part : List ℕ) × IsPrefix part piece × (f.told b ≡ appending (f.told a) (f.current a) part)) → f.current b ≡ f.current a
      → WriteCause (f.write_faults a) (f.write_faults b) r → f.fault_name b ≡ name_after_write r (f.current a) (f.fault_name a)
      → f.read_faults b ≡ f.read_faults a → f.trace b ≡ f.trace a ++ Put piece r ∷ [] → IfErr r (λ why. HasFailed f a b piece why)
  piece_failed a b piece (Ok x) part current cause named reads traced = tt
  piece_failed a b piece (Err why) part current cause named reads traced = record {
    part = inr part;
    current = current;
    cause = cause;
    named = named;
    reads = reads;
    tried = vain_passed (f.trace a) (f.trace b) piece piece (Err why) refl traced;
  }

-- ---- pages

abbrev page_of : List ℕ → Kind → Page
page_of text last = record { text = text; last = last }

printed_behind : (w : List ℕ) (page : Page) (t : Token) → behind w (printed page t) ≡ printed (behind w page) t
unfolding printed
printed_behind w page t =
    ap (λ (l : List ℕ). page_of l (kind_of t)) (sym (append_assoc w (page.text ++ gap page.last (kind_of t)) (token_text t))
    ∙ ap (λ (l : List ℕ). l ++ token_text t) (sym (append_assoc w page.text (gap page.last (kind_of t)))))

onto_behind : (w : List ℕ) (page : Page) (ts : List Token) → behind w (printed_onto page ts) ≡ printed_onto (behind w page) ts
onto_behind w page [] = refl
onto_behind w page (t ∷ ts) = onto_behind w (printed page t) ts ∙ ap (λ (p : Page). printed_onto p ts) (printed_behind w page t)

ended_behind : (w : List ℕ) (page : Page) → (ended (behind w page)).text ≡ w ++ (ended page).text
unfolding ended
ended_behind w page = append_assoc w page.text (10 ∷ [])

-- the text of what was put on a page stands behind the page's text
text_of : (page : Page) (ts : List Token)
    → (printed_onto page ts).text ≡ page.text ++ (printed_onto (record { text = []; last = page.last }) ts).text
text_of page ts =
    ap (λ (l : List ℕ). (printed_onto (page_of l page.last) ts).text) (sym (append-nil page.text))
    ∙ sym (ap (λ (p : Page). p.text) (onto_behind page.text (record { text = []; last = page.last }) ts))

-- ---- tokens that are printed

module _ {F : Type 0} (f : Files F) where
  pub prints_here : (a : F) (p q : Page) (ts : List Token) → q ≡ printed_onto p ts → Prints f a a p q ts
  prints_here a p q ts is = record { text = []; put = none_put f a; page = is }

  -- the page was put, and goes on without text
  pub prints_full : (a b : F) (p q : Page) → q.text ≡ [] → q.last ≡ p.last → HasPut f a b p.text → Prints f a b p q []
  prints_full a b p q none same put = record {
    text = p.text;
    put = put;
    page = (λ i. page_of ((ap (λ (l : List ℕ). p.text ++ l) none ∙ append-nil p.text) i) (same i));
  }

  pub prints_both : (a b c : F) (p q r : Page) (ts us : List Token) → Prints f a b p q ts → Prints f b c q r us
      → Prints f a c p r (ts ++ us)
  prints_both a b c p q r ts us first last = record {
    text = first.text ++ last.text;
    put = both_put f a b c first.text last.text first.put last.put;
    page = ap (λ (l : List ℕ). page_of l r.last) (append_assoc first.text last.text r.text) ∙ ap (behind first.text) last.page
        ∙ onto_behind first.text q us ∙ ap (λ (page : Page). printed_onto page us) first.page ∙ sym (onto_append p ts us);
  }

  -- the same tokens, put together in another way
  pub prints_as : (a b : F) (p q : Page) (ts us : List Token) → ts ≡ us → Prints f a b p q ts → Prints f a b p q us
  prints_as a b p q ts us same prints = record {
    text = prints.text;
    put = prints.put;
    page = prints.page ∙ ap (printed_onto p) same;
  }

  -- the page was put behind these tokens
  prints_then_full : (a b : F) (p q r : Page) (ts : List Token) → q ≡ printed_onto p ts → Prints f a b q r [] → Prints f a b p r ts
  prints_then_full a b p q r ts is prints = record { text = prints.text; put = prints.put; page = prints.page ∙ is }

  front_text : (a b : F) (p q : Page) (ts us : List Token) (first : Prints f a b p q ts)
      → (printed_onto p (ts ++ us)).text ≡ first.text ++ (printed_onto q us).text
  front_text a b p q ts us first =
      ap (λ (page : Page). page.text) (onto_append p ts us ∙ ap (λ (page : Page). printed_onto page us) (sym first.page)
      ∙ sym (onto_behind first.text q us))

  -- ---- where it fails

  pub fails_in : (a b c : F) (p q : Page) (ts us rest : List Token) (why : WriteAnswer) → Prints f a b p q ts
      → HasFailed f b c (printed_onto q us).text why → HasFailed f a c (printed_onto p (ts ++ (us ++ rest))).text why
  fails_in a b c p q ts us rest why first failed =
      let between : Page = printed_onto q us in
      failed_behind f a b c (printed_onto p (ts ++ (us ++ rest))).text first.text (printed_onto q us).text
      (printed_onto (record { text = []; last = between.last }) rest).text why
      (front_text a b p q ts (us ++ rest) first
      ∙ ap (λ (l : List ℕ). first.text ++ l) (ap (λ (page : Page). page.text) (onto_append q us rest) ∙ text_of between rest))
      first.put failed

  pub fails_last : (a b c : F) (p q : Page) (ts us : List Token) (why : WriteAnswer) → Prints f a b p q ts
      → HasFailed f b c (printed_onto q us).text why → HasFailed f a c (printed_onto p (ts ++ us)).text why
  fails_last a b c p q ts us why first failed =
      subst (λ (l : List Token). HasFailed f a c (printed_onto p (ts ++ l)).text why) (append-nil us)
      (fails_in a b c p q ts us [] why first failed)

  -- memory was wanting behind the first tokens
  pub fails_between : (a b : F) (p q : Page) (ts rest : List Token) → Prints f a b p q ts
      → HasFailed f a b (printed_onto p (ts ++ rest)).text writing.Memory
  fails_between a b p q ts rest first =
      wanted_behind f a b (printed_onto p (ts ++ rest)).text first.text (printed_onto q rest).text
      (front_text a b p q ts rest first) first.put

  pub fails_here : (a : F) (text : List ℕ) → HasFailed f a a text writing.Memory
  fails_here a text = wanted_behind f a a text [] text refl (none_put f a)

  -- a page's text was put, and memory was wanting for what follows
  pub fails_full : (a b : F) (text : List ℕ) → HasPut f a b text → HasFailed f a b text writing.Memory
  fails_full a b text put = wanted_behind f a b text text [] (sym (append-nil text)) put

  -- ---- the last of several calls, as it is answered

  pub last_prints : (a b c : F) (p q r : Page) (ts us : List Token) (answer : Result (Unit {0}) WriteAnswer) → Prints f a b p q ts
      → OnOk answer (Prints f b c q r us) → OnOk answer (Prints f a c p r (ts ++ us))
  last_prints a b c p q r ts us (Ok x) first last = prints_both a b c p q r ts us first last
  last_prints a b c p q r ts us (Err why) first last = tt

  pub last_fails : (a b c : F) (p q : Page) (ts us : List Token) (answer : Result (Unit {0}) WriteAnswer) → Prints f a b p q ts
      → IfErr answer (λ why. HasFailed f b c (printed_onto q us).text why)
      → IfErr answer (λ why. HasFailed f a c (printed_onto p (ts ++ us)).text why)
  last_fails a b c p q ts us (Ok x) first last = tt
  last_fails a b c p q ts us (Err why) first last = fails_last a b c p q ts us why first last

  -- the page was put behind these tokens, as it is answered
  pub full_prints : (a b : F) (p q r : Page) (ts : List Token) (answer : Result (Unit {0}) WriteAnswer) → q ≡ printed_onto p ts
      → OnOk answer (Prints f a b q r []) → OnOk answer (Prints f a b p r ts)
  full_prints a b p q r ts (Ok x) is prints = prints_then_full a b p q r ts is prints
  full_prints a b p q r ts (Err why) is prints = tt

  pub full_fails : (a b : F) (p q : Page) (ts : List Token) (answer : Result (Unit {0}) WriteAnswer) → q ≡ printed_onto p ts
      → IfErr answer (λ why. HasFailed f a b q.text why) → IfErr answer (λ why. HasFailed f a b (printed_onto p ts).text why)
  full_fails a b p q ts answer is =
      subst (λ (page : Page). IfErr answer (λ why. HasFailed f a b page.text why)) is

-- ---- a loop over pieces

-- the first tokens were printed, and the others are left
pub record PrintsFront {F : Type 0} (f : Files F) (old new : F) (before after : Page) (all left : List Token) : Type 0 where
  pub given : List Token
  pub split : all ≡ given ++ left
  pub prints : Prints f old new before after given

module _ {F : Type 0} (f : Files F) where
  pub front_begins : (a : F) (p : Page) (all : List Token) → PrintsFront f a a p p all all
  front_begins a p all = record { given = []; split = refl; prints = prints_here f a p p [] refl }

  pub front_more : (a b c : F) (p q r : Page) (all left next after : List Token) → PrintsFront f a b p q all left → left ≡ next ++ after
      → Prints f b c q r next → PrintsFront f a c p r all after
  front_more a b c p q r all left next after front is prints = record {
    given = front.given ++ next;
    split = front.split ∙ ap (λ (l : List Token). front.given ++ l) is ∙ sym (append_assoc front.given next after);
    prints = prints_both f a b c p q r front.given next front.prints prints;
  }

  pub front_ends : (a b : F) (p q : Page) (all left : List Token) → PrintsFront f a b p q all left → left ≡ [] → Prints f a b p q all
  front_ends a b p q all left front none =
      prints_as f a b p q front.given all
      (sym (front.split ∙ ap (λ (l : List Token). front.given ++ l) none ∙ append-nil front.given)) front.prints

  pub front_fails : (a b c : F) (p q : Page) (all left next after : List Token) (why : WriteAnswer) → PrintsFront f a b p q all left
      → left ≡ next ++ after → HasFailed f b c (printed_onto q next).text why → HasFailed f a c (printed_onto p all).text why
  front_fails a b c p q all left next after why front is failed =
      subst (λ (l : List Token). HasFailed f a c (printed_onto p l).text why)
      (sym (front.split ∙ ap (λ (l : List Token). front.given ++ l) is))
      (fails_in f a b c p q front.given next after why front.prints failed)

  -- ---- pieces in a list, from this place on

  pub pieces_more : {A : Type 0} (of : A → List Token) (a b c : F) (p q r : Page) (xs : List A) (i : ℕ) (x : A) → i < length xs
      → x ≡ get_or xs i x → PrintsFront f a b p q (each of xs) (each of (drop i xs)) → Prints f b c q r (of x)
      → PrintsFront f a c p r (each of xs) (each of (drop (i + 1) xs))
  pieces_more of a b c p q r xs i x lt is front prints =
      front_more a b c p q r (each of xs) (each of (drop i xs)) (of x) (each of (drop (i + 1) xs)) front
      (ap (each of) (at_front xs i x lt is)) prints

  pub pieces_fail : {A : Type 0} (of : A → List Token) (a b c : F) (p q : Page) (xs : List A) (i : ℕ) (x : A) (why : WriteAnswer)
      → i < length xs → x ≡ get_or xs i x → PrintsFront f a b p q (each of xs) (each of (drop i xs))
      → HasFailed f b c (printed_onto q (of x)).text why → HasFailed f a c (printed_onto p (each of xs)).text why
  pieces_fail of a b c p q xs i x why lt is front failed =
      front_fails a b c p q (each of xs) (each of (drop i xs)) (of x) (each of (drop (i + 1) xs)) why front
      (ap (each of) (at_front xs i x lt is)) failed

  pub pieces_end : {A : Type 0} (of : A → List Token) (a b : F) (p q : Page) (xs : List A) (i : ℕ) → length xs ≤ i
      → PrintsFront f a b p q (each of xs) (each of (drop i xs)) → Prints f a b p q (each of xs)
  pieces_end of a b p q xs i le front = front_ends a b p q (each of xs) (each of (drop i xs)) front (ap (each of) (drop_all i xs le))

-- ---- what is put in three steps, of which the last stays on the page

module _ {F : Type 0} (f : Files F) (a : F) (p : Page) (ts us vs : List Token) where
  pub first_breaks : (b : F) (why : WriteAnswer) → HasFailed f a b (printed_onto p ts).text why
      → HasFailed f a b (printed_onto p (ts ++ (us ++ vs))).text why
  first_breaks b why failed = fails_in f a a b p p [] ts (us ++ vs) why (prints_here f a p p [] refl) failed

  pub second_breaks : (b c : F) (q : Page) (why : WriteAnswer) → Prints f a b p q ts → HasFailed f b c (printed_onto q us).text why
      → HasFailed f a c (printed_onto p (ts ++ (us ++ vs))).text why
  second_breaks b c q why first failed = fails_in f a b c p q ts us vs why first failed

  pub third_wants : (b c : F) (q r : Page) → Prints f a b p q ts → Prints f b c q r us
      → HasFailed f a c (printed_onto p (ts ++ (us ++ vs))).text writing.Memory
  third_wants b c q r first second = fails_last f a b c p q ts (us ++ vs) writing.Memory first (fails_between f b c q r us vs second)

  pub all_three : (b c : F) (q r s : Page) → Prints f a b p q ts → Prints f b c q r us → s ≡ printed_onto r vs
      → Prints f a c p s (ts ++ (us ++ vs))
  all_three b c q r s first second is =
      prints_both f a b c p q s ts (us ++ vs) first (prints_both f b c c q r s us vs second (prints_here f c r s vs is))

-- ---- an item to its end

module _ {F : Type 0} (f : Files F) where
  -- of the page's text with a newline at its end
  line_text : (a b : F) (p q r : Page) (ts : List Token) (first : Prints f a b p q ts) → r ≡ ended q
      → (ended (printed_onto p ts)).text ≡ first.text ++ r.text
  line_text a b p q r ts first is =
      ap (λ (page : Page). (ended page).text) (sym first.page) ∙ ended_behind first.text q
      ∙ ap (λ (page : Page). first.text ++ page.text) (sym is)

  -- memory was wanting in front of the newline, or a put failed there
  pub line_breaks : (a b : F) (p : Page) (ts : List Token) (why : WriteAnswer) → HasFailed f a b (printed_onto p ts).text why
      → HasFailed f a b (ended (printed_onto p ts)).text why
  unfolding ended
  line_breaks a b p ts why failed =
      failed_behind f a a b (ended (printed_onto p ts)).text [] (printed_onto p ts).text (10 ∷ []) why refl (none_put f a) failed

  pub line_put : (a b c : F) (p q r : Page) (ts : List Token) (answer : Result (Unit {0}) WriteAnswer) → Prints f a b p q ts → r ≡ ended q
      → OnOk answer (HasPut f b c r.text) → OnOk answer (HasPut f a c (ended (printed_onto p ts)).text)
  line_put a b c p q r ts (Ok x) first is put =
      subst (HasPut f a c) (sym (line_text a b p q r ts first is)) (both_put f a b c first.text r.text first.put put)
  line_put a b c p q r ts (Err why) first is put = tt

  pub line_fails : (a b c : F) (p q r : Page) (ts : List Token) (answer : Result (Unit {0}) WriteAnswer) → Prints f a b p q ts → r ≡ ended q
      → IfErr answer (λ why. HasFailed f b c r.text why) → IfErr answer (λ why. HasFailed f a c (ended (printed_onto p ts)).text why)
  line_fails a b c p q r ts (Ok x) first is failed = tt
  line_fails a b c p q r ts (Err why) first is failed =
      failed_behind f a b c (ended (printed_onto p ts)).text first.text r.text [] why
      (line_text a b p q r ts first is ∙ ap (λ (l : List ℕ). first.text ++ l) (sym (append-nil r.text))) first.put failed

-- ---- what a text's being put, or its failing, says of the files

module _ {F : Type 0} (f : Files F) (a b : F) (text : List ℕ) where
  pub answer_written : (r : Result (Unit {0}) WriteAnswer) (line : List ℕ) → text ≡ line ++ 10 ∷ [] → OnOk r (HasPut f a b text)
      → OnOk r (f.told b ≡ appending (f.told a) (f.current a) text)
  answer_written (Ok x) line same put =
      gains_line (f.told a) (f.told b) (f.current a) line 10 (subst (Gains (f.told a) (f.told b) (f.current a)) same put.gained)
      ∙ ap (appending (f.told a) (f.current a)) (sym same)
  answer_written (Err why) line same put = tt

  pub answer_part : (r : Result (Unit {0}) WriteAnswer) → IfErr r (λ why. HasFailed f a b text why)
      → OnErr r (AppendsPart (f.told a) (f.told b) (f.current a) text)
  answer_part (Ok x) failed = tt
  answer_part (Err why) failed = failed.part

  pub answer_current : (r : Result (Unit {0}) WriteAnswer) → OnOk r (HasPut f a b text) → IfErr r (λ why. HasFailed f a b text why)
      → f.current b ≡ f.current a
  answer_current (Ok x) put failed = put.current
  answer_current (Err why) put failed = failed.current

  pub answer_cause : (r : Result (Unit {0}) WriteAnswer) → OnOk r (HasPut f a b text) → IfErr r (λ why. HasFailed f a b text why)
      → WriteCause (f.write_faults a) (f.write_faults b) r
  answer_cause (Ok x) put failed = done_cause x (f.write_faults a) (f.write_faults b) put.kept
  answer_cause (Err why) put failed = failed.cause

  pub answer_named : (r : Result (Unit {0}) WriteAnswer) → OnOk r (HasPut f a b text) → IfErr r (λ why. HasFailed f a b text why)
      → f.fault_name b ≡ name_after_write r (f.current a) (f.fault_name a)
  answer_named (Ok x) put failed = put.named
  answer_named (Err why) put failed = failed.named

  pub answer_reads : (r : Result (Unit {0}) WriteAnswer) → OnOk r (HasPut f a b text) → IfErr r (λ why. HasFailed f a b text why)
      → f.read_faults b ≡ f.read_faults a
  answer_reads (Ok x) put failed = put.reads
  answer_reads (Err why) put failed = failed.reads

  pub answer_passed : (r : Result (Unit {0}) WriteAnswer) → OnOk r (HasPut f a b text)
      → OnOk r (Passes (f.trace a) (f.trace b) (PutsText text))
  answer_passed (Ok x) put = put.passed
  answer_passed (Err why) put = tt

  pub answer_tried : (r : Result (Unit {0}) WriteAnswer) → IfErr r (λ why. HasFailed f a b text why)
      → IfErr r (λ why. Passes (f.trace a) (f.trace b) (PutsPart text why))
  answer_tried (Ok x) failed = tt
  answer_tried (Err why) failed = failed.tried

-- ---- functions and switches

pub func_split : (f : Func) → func_tokens f ≡ func_head f ++ close_tokens f.body
func_split f =
    let result = type_tokens f.result in
    let params = separated param_tokens f.params in
    let close = close_tokens f.body in
    let named = Named f.name ∷ Fixed tok.LeftParen ∷ (params ++ Fixed tok.RightParen ∷ []) in
    sym (append_assoc (static_tokens f.is_static) (result ++ named) close
    ∙ ap (λ (l : List Token). static_tokens f.is_static ++ l)
    (append_assoc result named close
    ∙ ap (λ (l : List Token). result ++ (Named f.name ∷ Fixed tok.LeftParen ∷ l)) (append_assoc params (Fixed tok.RightParen ∷ []) close)))

pub switch_split : (on : Expr) (cases : List Case) (label : List ℕ)
    → stmt_tokens (Switch on cases label) ≡ switch_head on ++ (each case_tokens cases ++ switch_end label)
switch_split on cases label =
    ap (λ (l : List Token). Fixed tok.WordSwitch ∷ Fixed tok.LeftParen ∷ l)
    (sym (append_assoc (expr_tokens on) (Fixed tok.RightParen ∷ Fixed tok.LeftBrace ∷ []) (each case_tokens cases ++ switch_end label)))
