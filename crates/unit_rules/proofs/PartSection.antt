-- The init function and its parts keep the rules in their unit, and are well formed.
use Rattle.unit_rules.proofs.Common.{◌≡◌, ℕ, zero, suc, ◌+◌, ◌^◌, ◌<◌, ◌≤◌, true, false, List, [], ◌∷◌, ◌++◌, length, nat_le, slice_get, ap}
use Rattle.unit_rules.proofs.Common.{flat_map, sym, refl, ◌∙◌, subst, inl, inr, append_assoc, arith, length-append, nat_tests, all_weaker}
use Rattle.unit_rules.proofs.Common.{slice_get_within, AllByRecursion, all_append, all_at, all_map, get_front, numbered, init_symbol_of}
use Rattle.unit_rules.proofs.Common.{NamedModule, SegmentEntry, Module, label_name, labels_of, Scope, is_among, within_named, Present, Part}
use Rattle.unit_rules.proofs.Common.{return_none_passes, left_present, bounds_label, init_func, init_stmts, make_global, test_data, trap_if}
use Rattle.unit_rules.proofs.Common.{test_elements, write_data, items, IsAccepted, get_behind, part_name, Within, labels_differ, bytes_part}
use Rattle.unit_rules.proofs.Common.{data_tests_part, element_tests_part, elements_part, globals_part, part_end, part_func, part_stmts}
use Rattle.unit_rules.proofs.Common.{parts_of, stmts_with, write_one, few_parts, Consecutive, accepted_limits, init, parts, init_is}
use Rattle.w2c_base.specs.declared.trap.TrapKind.TheVariants as trap
use Rattle.c_tree.specs.Makers as makers
use Rattle.c_tree.specs.Tree as tree
use Rattle.c_init.specs.Portions.{numbered_from}
use Rattle.c_init.proofs.InitLabelsDiffer.{bytes_within, init_within, none_flat, none_map, plain_within}
use Rattle.unit_rules.proofs.EachItem.{each_from, each_numbered}
use Rattle.unit_rules.proofs.ExportFacts.{each_of}
use Rattle.unit_rules.proofs.FormedSections.{IsFormed}
use Rattle.unit_rules.proofs.InitEnds.{init_ends, part_ends}
use Rattle.unit_rules.proofs.InitForms.{GlobalIs, InitKnows, IsGood, global_good}
use Rattle.unit_rules.proofs.InitPasses.{KindOf, all_kinds, behind_present, init_good, knows, trap_present}
use Rattle.unit_rules.proofs.InitSection.{own_formed, own_keeps, own_scope}
use Rattle.unit_rules.proofs.InitSegments.{SegmentAt, SegmentIs, WriteIs, data_good, data_tests_good, element_good, element_tests_good}
use Rattle.unit_rules.proofs.InitSegments.{trap_good}
use Rattle.unit_rules.proofs.ItemRules.{Keeps, KeepsBehind}
use Rattle.unit_rules.proofs.UnitNames.{init_named, part_named}
use Rattle.unit_rules.proofs.WholeUnit.{IsDeclared, all_declared, declared_at, items_are, known, later}

some_stmts : (stmts rest : List tree.Stmt) → nat_le 1 (length (stmts ++ tree.ReturnNone ∷ rest)) ≡ true
some_stmts [] rest = grind (arith, nat_tests)
some_stmts (x ∷ stmts) rest = grind (arith, nat_tests)

module _ (m : NamedModule) (a : IsAccepted m) where
  abbrev t : Module
  t = m.tree

  -- ---- labels

  -- its labels are those of numbers between two
  record HasLabels (x : Part) : Type 0 where
    low : ℕ
    high : ℕ
    few : high ≤ 2 ^ 64
    within : Within low high (part_stmts x)

  plain_labels : (y : Part) → labels_of y.stmts ≡ [] → HasLabels y
  plain_labels y unlabelled = record { low = 0; high = 2; few = omega arith; within = plain_within y unlabelled }

  bytes_labels : (entries : List (ℕ × SegmentEntry)) → Consecutive t (SegmentIs t) entries → HasLabels (bytes_part t entries)
  bytes_labels entries c =
      let n = ap length c.whole in
      let n' = length-append c.front (c.segments ++ c.more) in
      let n'' = length-append c.segments c.more in
      let few = (accepted_limits a).segments in
      subst (λ es. HasLabels (bytes_part t es)) (sym c.is) (record {
        low = c.number + 2;
        high = c.number + length c.segments + 2;
        few = omega (arith, few, n, n', n'', c.at);
        within = bytes_within m c.number c.segments;
      })

  part_labels : (x : Part) → KindOf m a x → HasLabels x
  part_labels x (inl h) = subst HasLabels (sym h.is)
      (plain_labels (globals_part t h.entries) (none_map (make_global t) h.entries (λ g. refl)))
  part_labels x (inr (inl h)) = subst HasLabels (sym h.is)
      (plain_labels (element_tests_part t h.entries) (none_flat (test_elements t) h.entries (λ e. refl)))
  part_labels x (inr (inr (inl h))) = subst HasLabels (sym h.is)
      (plain_labels (data_tests_part t h.entries) (none_flat (test_data t) h.entries (λ d. refl)))
  part_labels x (inr (inr (inr (inl h)))) = subst HasLabels (sym h.is)
      (plain_labels (elements_part t h.entries) (none_map (write_one t) h.entries (λ w. refl)))
  part_labels x (inr (inr (inr (inr h)))) = subst HasLabels (sym h.is) (bytes_labels h.entries h.segments)

  -- ---- statements of a part, behind what a unit declares

  module _ (declared : List tree.Item) (d : IsDeclared m declared) (k : ℕ) (x : Part) where
    abbrev s : Scope
    s = own_scope declared true (part_name k) t (part_stmts x)

    abbrev Good : tree.Stmt → Type 0
    Good stmt = IsGood s stmt

    known_here : InitKnows m s
    known_here = knows m a declared d true (part_name k) (part_stmts x)

    -- where the part tests bounds its trap is there
    label : x.tests ≡ true → is_among (label_name bounds_label) (labels_of (part_stmts x)) ≡ true
    label tests = trap_present (part_stmts x) x.tests bounds_label (makers.trap trap.SegmentOut) tests
        (behind_present (part_stmts x) (x.stmts ∷ (tree.ReturnNone ∷ []) ∷ []) (trap_if x.tests bounds_label (makers.trap trap.SegmentOut))
        (λ name e. e))

    -- segments one behind another, at their places
    segments_at : (entries : List (ℕ × SegmentEntry)) (c : Consecutive t (SegmentIs t) entries)
        → AllByRecursion (SegmentAt t) (numbered_from c.number c.segments)
    segments_at entries c = each_from (SegmentAt t) c.number c.segments (λ j d at. record {
      is = all_at (SegmentIs t) c.segments j d c.all at;
      at = ap (λ ds. slice_get ds (c.number + j)) c.whole ∙ (ap (λ n. slice_get (c.front ++ (c.segments ++ c.more)) (n + j)) c.at
          ∙ (get_behind c.front (c.segments ++ c.more) j ∙ get_front c.segments c.more j d at));
    })

    -- those of each kind
    kind_good : KindOf m a x → AllByRecursion Good x.stmts
    kind_good (inl h) = subst (λ y. AllByRecursion Good y.stmts) (sym h.is)
        (all_map Good (make_global t) h.entries (all_weaker (GlobalIs t) _ h.entries (global_good m a s known_here) h.all))
    kind_good (inr (inl h)) = subst (λ y. AllByRecursion Good y.stmts) (sym h.is)
        (element_tests_good m a s known_here (λ used. label (ap (λ (y : Part). y.tests) h.is)) h.entries h.all)
    kind_good (inr (inr (inl h))) = subst (λ y. AllByRecursion Good y.stmts) (sym h.is)
        (data_tests_good m a s known_here (λ used. label (ap (λ (y : Part). y.tests) h.is)) h.entries h.all)
    kind_good (inr (inr (inr (inl h)))) = subst (λ y. AllByRecursion Good y.stmts) (sym h.is)
        (all_map Good (write_one t) h.entries (all_weaker (WriteIs t) _ h.entries (element_good m a s known_here) h.all))
    kind_good (inr (inr (inr (inr h)))) =
        let c = h.segments in
        let made : x.stmts ≡ flat_map (write_data t) (numbered_from c.number c.segments) =
        ap (λ (y : Part). y.stmts) h.is ∙ ap (flat_map (write_data t)) c.is in
        subst (λ stmts. AllByRecursion Good stmts) (sym made)
        (data_good m a s known_here (numbered_from c.number c.segments) (segments_at h.entries c)
        (subst (λ stmts. Present (part_stmts x) stmts) made (left_present (part_stmts x) x.stmts (part_end x) (λ name e. e))))

    part_good : KindOf m a x → AllByRecursion Good (part_stmts x)
    part_good kind = all_append Good x.stmts (part_end x) (kind_good kind)
        ((return_none_passes s refl, tt), trap_good m a s known_here x.tests bounds_label trap.SegmentOut)

  -- ---- the parts

  each_part : (P : ℕ × Part → Type 0) → ((k : ℕ) (x : Part) → k < 2 ^ 62 → KindOf m a x → P (k, x))
      → AllByRecursion P (numbered (parts_of t))
  each_part P f = each_numbered P (parts_of t) (λ k x at.
      let less = slice_get_within (parts_of t) k x at in
      let few = few_parts t a.within in
      f k x (omega (arith, less, few)) (all_at (KindOf m a) (parts_of t) k x (all_kinds m a) at))

  part_keeps : (k : ℕ) (x : Part) → KindOf m a x → KeepsBehind m (known m) (tree.Function (part_func t (k, x)))
  part_keeps k x kind before behind =
      let l = part_labels x kind in
      own_keeps m a true (part_name k) (part_stmts x) refl (some_stmts x.stmts (trap_if x.tests bounds_label (makers.trap trap.SegmentOut)))
      (labels_differ l.low l.high (part_stmts x) l.few l.within) (part_ends x) (known m ++ before) behind
      (λ whole. part_good _ (declared_at m before _ behind whole) k x kind)

  pub parts_keep : AllByRecursion (KeepsBehind m (known m)) (parts m)
  parts_keep = all_map _ (λ p. tree.Function (part_func t p)) (numbered (parts_of t))
      (each_part (λ p. KeepsBehind m (known m) (tree.Function (part_func t p))) (λ k x small kind. part_keeps k x kind))

  pub parts_formed : AllByRecursion IsFormed (parts m)
  parts_formed = all_map IsFormed (λ p. tree.Function (part_func t p)) (numbered (parts_of t))
      (each_part (λ p. IsFormed (tree.Function (part_func t p))) (λ k x small kind.
      let l = part_labels x kind in
      own_formed m a true (part_name k) (part_stmts x) (part_named k (omega (arith, small)))
      (within_named l.low l.high (part_stmts x) l.few l.within) (part_good (items m) (all_declared m a) k x kind)))

  -- ---- the init function

  init_some : (parts : ℕ) → nat_le 1 (length (stmts_with m parts)) ≡ true
  init_some zero = grind (arith, nat_tests)
  init_some (suc parts) = grind (arith, nat_tests)

  pub init_keeps : KeepsBehind m (known m ++ later m) (tree.Function (init_func m))
  init_keeps before behind = subst (λ front. Keeps m front (tree.Function (init_func m)) behind) (sym (append_assoc (known m)
      (later m) before))
      (own_keeps m a false (init_symbol_of m.name) (init_stmts m) (init_is m.name) (init_some (length (parts_of t)))
      (labels_differ 0 (length t.segments + 2) (init_stmts m) (omega (arith, (accepted_limits a).segments)) (init_within m)) (init_ends m)
      (known m ++ (later m ++ before)) behind
      (λ whole. init_good m a _ (declared_at m (later m ++ before) _ behind whole) false (init_symbol_of m.name)
      (before ++ init m) (append_assoc (known m) (later m ++ before) (init m) ∙ ap (λ rest. known m ++ rest)
      (append_assoc (later m) before (init m)))))

  pub init_formed : IsFormed (tree.Function (init_func m))
  init_formed = own_formed m a false (init_symbol_of m.name) (init_stmts m) (init_named m.name (each_of (λ b. b < 256) m.name a.bytes))
      (within_named 0 (length t.segments + 2) (init_stmts m) (omega (arith, (accepted_limits a).segments)) (init_within m))
      (init_good m a (items m) (all_declared m a) false (init_symbol_of m.name) (init m) (sym (items_are m)))
