-- The parts of an init function, kind by kind: globals, bounds of elements and of data, elements, and bytes.
use Rattle.std.proofs.Common.{length-append, take-append-drop, length-drop}
use Rattle.std.proofs.lemmas.Grind.{flat_map-append}
use Rattle.std.proofs.lemmas.List.Concat.{flat_map_single}
use Rattle.c_tree.specs.Tree as c
use Rattle.c_init.specs.Init.{Part, bytes_part, data_tests_part, element_tests_part, elements_of, elements_part}
use Rattle.c_init.specs.Init.{globals_part, part_end, part_stmts, pieces, some_bytes, write_one}
use Rattle.c_init.specs.Instantiable.{DataIsValid}
use Rattle.c_init.specs.Portions.{numbered_from}
use Rattle.c_init.proofs.InitLabelsDiffer.{none_flat}
use Rattle.c_init.proofs.PieceCounts.{numbered_piece, pieces_none, pieces_some_numbered}
use Rattle.init_meaning.proofs.Common.{◌≡◌, ℕ, zero, suc, ◌+◌, ◌≤◌, Bool, true, false, List, [], ◌∷◌, ◌++◌, map, length, take, drop, filter}
use Rattle.init_meaning.proofs.Common.{flat_map, sym, refl, ap, ◌∙◌, subst, append_assoc, arith, AllByRecursion, list_any, all_front}
use Rattle.init_meaning.proofs.Common.{all_behind, numbered, SegmentEntry, Module, LinkedSet, NamedModule, Task, TestData, TestElements}
use Rattle.init_meaning.proofs.Common.{WriteByte, has_bytes, make_global, test_data, test_elements}
use Rattle.init_meaning.specs.Parts.{PartsAreDefined}
use Rattle.init_meaning.proofs.InitStatements.{Seat}
use Rattle.init_meaning.proofs.InitRuns.{Stage, FollowsTasks, AreRows, rows_follow}
use Rattle.init_meaning.proofs.Surroundings.{Surroundings}
use Rattle.init_meaning.proofs.SegmentTests.{AreTested, data_rows, element_rows}
use Rattle.init_meaning.proofs.ElementWrites.{element_task, write_rows}
use Rattle.init_meaning.proofs.DataWrites.{writes_of_data, tasks_of, no_tasks}
use Rattle.init_meaning.proofs.MakeTasks.{IsMaking, entries, global_rows, global_task}
use Rattle.init_meaning.proofs.PartLabels.{testing_traps, bytes_placed}
use Rattle.init_meaning.proofs.PartCalls.{Crosses, inside, part_called}
use Rattle.init_meaning.proofs.PartRows.{ArePieces, calls}
use Rattle.init_meaning.proofs.PartStages.{inside_around, making_crosses, tested_crosses}

module _ (s : LinkedSet) (g : Seat) (m : NamedModule) (a : Surroundings s g m) where
  abbrev t : Module
  t = m.tree

  -- the parts of a kind, from the statements of its entries
  of_rows : {A : Type 0} (whole : List A) (stage : List A → Seat → Stage) (part : List A → Part) (row : A → List c.Stmt) (task : A → Task)
      → ((front : List A) → Crosses m (stage front)) → ((xs : List A) → (part xs).stmts ≡ flat_map row xs)
      → ((xs : List A) (h : Seat) → h.stmts ≡ part_stmts (part xs) → Surroundings s h m
      → AreRows s h whole (λ front. stage front h) row task) → ArePieces s g m whole stage part task
  of_rows whole stage part row task crosses made rows = record {
    crosses = crosses;
    each = λ front x xs behind e item rest vars spare tasks follows.
        let stmts : List c.Stmt = part_stmts (part (x ∷ xs)) in
        let h : Seat = inside g item stmts rest vars in
        subst (λ made. FollowsTasks s h spare (stage front h) (made ++ part_end (part (x ∷ xs))) (map task (x ∷ xs) ++ tasks))
        (sym (made (x ∷ xs))) (rows_follow (rows (x ∷ xs) h refl (inside_around s g m item stmts rest vars a)) spare front (x ∷ xs) behind
        (part_end (part (x ∷ xs))) tasks e follows);
  }

  pub global_pieces : ArePieces s g m (numbered t.globals) (λ front h. IsMaking s h m true true (entries front)) (globals_part t)
      global_task
  global_pieces = of_rows (numbered t.globals) (λ front h. IsMaking s h m true true (entries front)) (globals_part t)
      (λ x. make_global t x ∷ []) global_task (λ front. making_crosses s m (entries front))
      (λ xs. sym (flat_map_single (make_global t) xs)) (λ xs h is around. global_rows s h m around)

  pub element_pieces : ArePieces s g m t.elements (λ front h. AreTested s h m front []) (element_tests_part t) TestElements
  element_pieces = of_rows t.elements (λ front h. AreTested s h m front []) (element_tests_part t) (test_elements t) TestElements
      (λ front. tested_crosses s m front []) (λ es. refl) (λ es h is around. element_rows s h m around
      (λ used. testing_traps (flat_map (test_elements t) es) h is (none_flat (test_elements t) es (λ e. refl))))

  pub data_pieces : ArePieces s g m t.segments (λ front h. AreTested s h m t.elements front) (data_tests_part t) TestData
  data_pieces = of_rows t.segments (λ front h. AreTested s h m t.elements front) (data_tests_part t) (test_data t) TestData
      (λ front. tested_crosses s m t.elements front) (λ ds. refl) (λ ds h is around. data_rows s h m around
      (λ used. testing_traps (flat_map (test_data t) ds) h is (none_flat (test_data t) ds (λ d. refl))))

  abbrev pub tested_stage : Seat → Stage
  tested_stage h = AreTested s h m t.elements t.segments

  pub write_pieces : ArePieces s g m (elements_of t) (λ front. tested_stage) (elements_part t) element_task
  write_pieces = of_rows (elements_of t) (λ front. tested_stage) (elements_part t) (λ x. write_one t x ∷ []) element_task
      (λ front. tested_crosses s m t.elements t.segments) (λ xs. sym (flat_map_single (write_one t) xs))
      (λ xs h is around. write_rows s h m around)

  -- ---- bytes

  abbrev pub byte_parts : List (List (ℕ × SegmentEntry)) → List Part
  byte_parts ps = map (bytes_part t) (filter some_bytes ps)

  -- the first of them is called, where it has bytes
  first_called : (spare k j : ℕ) (front ds more : List SegmentEntry) (ps : List (List (ℕ × SegmentEntry))) (rest : List c.Stmt)
      (tasks : List Task) → t.segments ≡ front ++ (ds ++ more) → j ≡ length front → AllByRecursion (DataIsValid t) ds
      → PartsAreDefined g.program g.unit t k (byte_parts (numbered_from j ds ∷ ps))
      → ((k : ℕ) → PartsAreDefined g.program g.unit t k (byte_parts ps)
      → FollowsTasks s g (suc spare) (tested_stage g) (calls k (byte_parts ps) ++ rest) tasks)
      → FollowsTasks s g (suc spare) (tested_stage g) (calls k (byte_parts (numbered_from j ds ∷ ps)) ++ rest) (tasks_of ds ++ tasks)
  first_called spare k j front ds more ps rest tasks whole at valid = by (list_any has_bytes ds) refl (numbered_piece has_bytes j ds)
    where
      by : (b : Bool) → list_any has_bytes ds ≡ b → some_bytes (numbered_from j ds) ≡ list_any has_bytes ds
          → PartsAreDefined g.program g.unit t k (byte_parts (numbered_from j ds ∷ ps))
          → ((k : ℕ) → PartsAreDefined g.program g.unit t k (byte_parts ps)
          → FollowsTasks s g (suc spare) (tested_stage g) (calls k (byte_parts ps) ++ rest) tasks)
          → FollowsTasks s g (suc spare) (tested_stage g) (calls k (byte_parts (numbered_from j ds ∷ ps)) ++ rest) (tasks_of ds ++ tasks)
      by true is same =
          rw (same ∙ is) (λ defined others.
          part_called s g m spare k part tested_stage tested_stage (calls (k + 1) (byte_parts ps) ++ rest) (tasks_of ds) tasks
          defined.0 (tested_crosses s m t.elements t.segments) (tested_crosses s m t.elements t.segments)
          (λ item rest vars spare tasks follows.
          let h : Seat = inside g item (part_stmts part) rest vars in
          writes_of_data s h m (inside_around s g m item (part_stmts part) rest vars a) spare j front ds more (part_end part) tasks
          whole at valid (bytes_placed m j ds a.instantiable.few_segments
          (let n = ap length whole in let n' = length-append front (ds ++ more) in let n'' = length-append ds more in
          omega (arith, n, n', n'', at))) (rw is follows)) (others (k + 1) defined.1))
        where
          part : Part
          part = bytes_part t (numbered_from j ds)
      by false is same =
          rw (same ∙ is) (λ defined others.
          rw (no_tasks ds is) (others k defined))

  pub bytes_called : (n spare k j : ℕ) (front ds : List SegmentEntry) (rest : List c.Stmt) (tasks : List Task) → length ds ≤ n
      → t.segments ≡ front ++ ds → j ≡ length front → AllByRecursion (DataIsValid t) ds
      → PartsAreDefined g.program g.unit t k (byte_parts (pieces (numbered_from j ds)))
      → FollowsTasks s g (suc spare) (tested_stage g) rest tasks
      → FollowsTasks s g (suc spare) (tested_stage g) (calls k (byte_parts (pieces (numbered_from j ds))) ++ rest) (tasks_of ds ++ tasks)
  bytes_called n spare k j front [] rest tasks few whole at valid defined follows =
      subst (λ ps. FollowsTasks s g (suc spare) (tested_stage g) (calls k (byte_parts ps) ++ rest) tasks)
      (sym (pieces_none {A = ℕ × SegmentEntry})) follows
  bytes_called zero spare k j front (d ∷ ds) rest tasks few whole at valid defined follows = absurd (omega (arith, few))
  bytes_called (suc n) spare k j front (d ∷ ds) rest tasks few whole at valid defined follows =
      let p : List SegmentEntry = d ∷ take 99 ds in
      let q : List SegmentEntry = drop 99 ds in
      let split : take 99 ds ++ q ≡ ds = take-append-drop 99 ds in
      let there : t.segments ≡ front ++ (p ++ q) = whole ∙ ap (λ ys. front ++ d ∷ ys) (sym split) in
      let all : AllByRecursion (DataIsValid t) (p ++ q) = subst (λ ys. AllByRecursion (DataIsValid t) (d ∷ ys)) (sym split) valid in
      let next : j + length p ≡ length (front ++ p) = let e = length-append front p in omega (arith, e, at) in
      subst (λ ps. FollowsTasks s g (suc spare) (tested_stage g) (calls k (byte_parts ps) ++ rest) (tasks_of (d ∷ ds) ++ tasks))
      (sym (pieces_some_numbered j d ds)) (subst (λ ts. FollowsTasks s g (suc spare) (tested_stage g)
      (calls k (byte_parts (numbered_from j p ∷ pieces (numbered_from (j + length p) q))) ++ rest) ts)
      (sym (append_assoc (tasks_of p) (tasks_of q) tasks) ∙ ap (λ ts. ts ++ tasks)
      (sym (flat_map-append (λ (d : SegmentEntry). map (λ (b : ℕ × ℕ). WriteByte d b.0 b.1) (numbered d.bytes)) p q)
      ∙ ap (λ ys. tasks_of (d ∷ ys)) split))
      (first_called spare k j front p q (pieces (numbered_from (j + length p) q)) rest (tasks_of q ++ tasks) there at
      (all_front (DataIsValid t) p q all)
      (subst (λ ps. PartsAreDefined g.program g.unit t k (byte_parts ps)) (pieces_some_numbered j d ds) defined)
      (λ k defined. bytes_called n spare k (j + length p) (front ++ p) q rest tasks
      (let e = length-drop 99 ds in omega (arith, e, few)) (there ∙ sym (append_assoc front p q)) next
      (all_behind (DataIsValid t) p q all) defined follows)))
