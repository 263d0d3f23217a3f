-- Types and limits.
use Rattle.wasm_spelling.proofs.Common.{◌≡◌, ℕ, Bool, true, false, List, [], ◌∷◌, length, Some, None, Ok, Option, Result, sym, refl, ap}
use Rattle.wasm_spelling.proofs.Common.{subst, arith, ValType, Limits, At, Fields, Spelled, byte, here, number, most_memory_pages}
use Rattle.wasm_spelling.proofs.Common.{most_parameters, most_results, most_table_elements, each, limits_from, mutability_code, results}
use Rattle.wasm_spelling.proofs.Common.{Reader, reads, Field, index, none_more, ReadFault, Which}
use Rattle.w2c_base.specs.declared.signature.FuncType.{FuncType}
use Rattle.wasm_spelling.specs.declared.fault.Cause.TheVariants as cause
use Rattle.wasm_spelling.specs.declared.fault.Which.TheVariants as which
use Rattle.wasm_spelling.specs.ModuleFields as of
use Rattle.wasm_spelling.specs.Table as table
use Rattle.wasm_spelling.specs.Table.{of_parameters, of_results, row, sizes_of, table_minimum, memory_minimum}
use Rattle.wasm_spelling.specs.Reading.{type_at, flag_at, limited_at, vector_at, func_type_at, first_of_results, maximum_at, limits_at}
use Rattle.wasm_spelling.specs.Reading.{memory_type_at, table_type_at}
use Rattle.wasm_spelling.proofs.Tools.{ok_is, reads_ok, reads_again}
use Rattle.wasm_spelling.proofs.Took.{SpelledAt, Took, took_none, took_as, took_then, Takes, Again, first_taken, first_again}
use Rattle.wasm_spelling.proofs.Runs.{Follows, FollowsTo, follows_row, follows_from, follows_both, follows_none}
use Rattle.wasm_spelling.proofs.Readings.{Reads, then_done, next, last, in_order}
use Rattle.wasm_spelling.proofs.Leaves.{limited, limited_spelling, index_reads, place_reads, exactly_reads, type_reads, flag_spelling}
use Rattle.wasm_spelling.proofs.Vectors.{vector_reads}

-- ---- function types

abbrev pub short : {A : Type 0} → ℕ → (A → Fields → Fields) → List A → Fields → Fields
short most fields v rest = limited most (length v) (each fields v rest)

pub parameters_reads : Reads (vector_at of_parameters type_at) (short most_parameters of.value_type) (table.vector of_parameters ∷ [])
parameters_reads = vector_reads of_parameters (limited_spelling most_parameters which.Parameters) type_reads

pub results_reads : Reads (vector_at of_results type_at) (short most_results of.value_type) (table.vector of_results ∷ [])
results_reads = vector_reads of_results (limited_spelling most_results which.Results) type_reads

-- a list of at most one result is the list of its first
as_results : (a : At) (ts : List ValType) (fields : Fields) → SpelledAt (short most_results of.value_type ts fields) a
    → SpelledAt (short most_results of.value_type (results (first_of_results ts)) fields) a
as_results a [] fields s = s
as_results a (t ∷ []) fields s = s
as_results a (t ∷ u ∷ ts) fields s = absurd (grind (arith, s.4.0))

first_is : (r : Option ValType) → first_of_results (results r) ≡ r
first_is None = refl
first_is (Some t) = refl

pub func_type_reads : Reads func_type_at of.func_type (table.parts_of table.of_types)
unfolding func_type_at
func_type_reads = record {
  takes = λ a v b e.
      first_taken _ _ (λ u. byte 0x60) (exactly_reads 0x60 cause.BadForm).takes a (v, b) e (λ x0 b0 t0 e0.
      first_taken _ _ (short most_parameters of.value_type) parameters_reads.takes b0 (v, b) e0 (λ x1 b1 t1 e1.
      first_taken _ _ (short most_results of.value_type) results_reads.takes b1 (v, b) e1 (λ x2 b2 t2 e2.
      subst (λ (y : FuncType × At). Took a (of.func_type y.0) y.1) (ok_is _ (v, b) e2)
      (took_then a b0 b2 t0 (took_then b0 b1 b2 t1
      (took_as (short most_results of.value_type (results (first_of_results x2))) b1 b2 t2 (as_results b1 x2)))))));
  again = λ a v rest s.
      first_again _ (λ u. byte 0x60) (exactly_reads 0x60 cause.BadForm).again a tt
      (short most_parameters of.value_type v.params (short most_results of.value_type (results v.result) rest)) s (λ b0 e0 s0.
      first_again _ (short most_parameters of.value_type) parameters_reads.again b0 v.params
      (short most_results of.value_type (results v.result) rest) s0 (λ b1 e1 s1.
      first_again _ (short most_results of.value_type) results_reads.again b1 (results v.result) rest s1 (λ b2 e2 s2. (
        b2,
        reads_again _ _ a tt b0 _ e0 (reads_again _ _ b0 v.params b1 _ e1 (reads_again _ _ b1 (results v.result) b2 _ e2
            (ap (λ (r : Option ValType). Ok (record { params = v.params; result = r }, b2)) (first_is v.result)))),
        s2,
      ))));
  follows =
      follows_both (table.exactly 0x60 cause.BadForm ∷ []) (table.vector of_parameters ∷ table.vector of_results ∷ []) _ _
      (exactly_reads 0x60 cause.BadForm).follows (λ u.
      follows_both (table.vector of_parameters ∷ []) (table.vector of_results ∷ []) _ _ parameters_reads.follows (λ params.
      then_done (table.vector of_results ∷ []) _ _ results_reads.follows));
}

-- ---- limits

abbrev max_fields : Option ℕ → Fields → Fields
max_fields None rest = rest
max_fields (Some max) rest = number max rest

abbrev has_max : Option ℕ → Bool
has_max None = false
has_max (Some max) = true

maximum_takes : (flag : Bool) (a : At) (v : Option ℕ) (b : At) → maximum_at flag a ≡ Ok (v, b)
    → Took a (max_fields v) b × (has_max v ≡ flag)
unfolding maximum_at
maximum_takes false a v b e =
    subst (λ (y : Option ℕ × At). Took a (max_fields y.0) y.1 × (has_max y.0 ≡ false)) (ok_is (None, a) (v, b) e) (took_none a, refl)
maximum_takes true a v b e =
    first_taken _ _ number index_reads.takes a (v, b) e
    (λ n c t f. subst (λ (y : Option ℕ × At). Took a (max_fields y.0) y.1 × (has_max y.0 ≡ true)) (ok_is (Some n, c) (v, b) f)
    (t, refl))

maximum_again : (a : At) (v : Option ℕ) (rest : Fields) → SpelledAt (max_fields v rest) a
    → (b : At) × (maximum_at (has_max v) a ≡ Ok (v, b)) × SpelledAt rest b
unfolding maximum_at
maximum_again a None rest s = (a, refl, s)
maximum_again a (Some max) rest s = first_again _ number index_reads.again a max rest s (λ b e t. (b, reads_again _ _ a max b _ e refl, t))

flagged : (most min : ℕ) (max : Option ℕ) (flag : Bool) (rest : Fields) → has_max max ≡ flag
    → byte (mutability_code flag) (limited most min (max_fields max rest)) ≡ limits_from most min max rest
flagged most min None flag rest e = ap (λ f. byte (mutability_code f) (limited most min rest)) (sym e)
flagged most min (Some max) flag rest e = ap (λ f. byte (mutability_code f) (limited most min (number max rest))) (sym e)

limits_takes : (most : ℕ) (w : Which) → Takes (limits_at most w) (of.limits most)
unfolding limits_at limited_at
limits_takes most w a v b e =
    first_taken _ _ here place_reads.takes a (v, b) e (λ x0 b0 t0 e0.
    first_taken _ _ (λ f. byte (mutability_code f)) flag_spelling.takes b0 (v, b) e0 (λ x1 b1 t1 e1.
    first_taken _ _ (limited most) (limited_spelling most w).takes b1 (v, b) e1 (λ x2 b2 t2 e2.
    let s = reads_ok _ _ b2 (v, b) e2 in
    with_max a b v x0 b0 t0 x1 b1 t1 x2 b2 t2 s.0 s.1 (maximum_takes x1 b2 s.0 s.1 s.2) s.3)))
  where
    with_max : (a b : At) (v : Limits) (x0 : ℕ) (b0 : At) → Took a (here x0) b0 → (x1 : Bool) (b1 : At)
        → Took b0 (byte (mutability_code x1)) b1 → (x2 : ℕ) (b2 : At) → Took b1 (limited most x2) b2
        → (x3 : Option ℕ) (b3 : At) → Took b2 (max_fields x3) b3 × (has_max x3 ≡ x1)
        → ◌≡◌ {A = Result (Limits × At) ReadFault} (Ok (record { min = x2; max = x3; place = x0 }, b3)) (Ok (v, b))
        → Took a (of.limits most v) b
    with_max a b v x0 b0 t0 x1 b1 t1 x2 b2 t2 x3 b3 t3 e3 =
        subst (λ (y : Limits × At). Took a (of.limits most y.0) y.1) (ok_is _ (v, b) e3)
        (took_as (of.limits most (record { min = x2; max = x3; place = x0 })) a b3
        (took_then a b0 b3 t0 (took_then b0 b1 b3 t1 (took_then b1 b2 b3 t2 t3.0)))
        (λ fields s. (s.0, subst (λ f. Spelled f a.place a.left) (flagged most x2 x3 x1 fields t3.1) s.1)))

limits_again : (most : ℕ) (w : Which) → Again (limits_at most w) (of.limits most)
unfolding limits_at limited_at
limits_again most w a v rest s =
    first_again _ here place_reads.again a v.place (limits_from most v.min v.max rest) s (λ b0 e0 s0.
    first_again _ (λ f. byte (mutability_code f)) flag_spelling.again b0 (has_max v.max) (limited most v.min (max_fields v.max rest))
    (subst (λ f. SpelledAt f b0) (sym (flagged most v.min v.max (has_max v.max) rest refl)) s0) (λ b1 e1 s1.
    first_again _ (limited most) (limited_spelling most w).again b1 v.min (max_fields v.max rest) s1 (λ b2 e2 s2.
    let t = maximum_again b2 v.max rest s2 in (
      t.0,
      reads_again _ _ a v.place b0 _ e0 (reads_again _ _ b0 (has_max v.max)
          b1 _ e1 (reads_again _ _ b1 v.min b2 _ e2 (reads_again _ _ b2 v.max t.0 _ t.1 refl))),
      t.2,
    ))))

limits_follow : (field minimum : Field) (most : ℕ) (w : Which) → FollowsTo (field ∷ []) (sizes_of minimum) flag_at
    → Follows (minimum ∷ []) (limited_at most w) → Follows (field ∷ []) (limits_at most w)
unfolding limits_at maximum_at
limits_follow field minimum most w h m =
    follows_both [] (field ∷ []) _ _ place_reads.follows
    (λ place. follows_from (field ∷ []) (sizes_of minimum) _ _ h (λ flag. sizes place flag))
  where
    made : ℕ → ℕ → Option ℕ → Limits
    made place min max = record { min = min; max = max; place = place }

    with_max : ℕ → ℕ → Option ℕ → Reader Limits
    with_max place min max b = Ok (made place min max, b)

    sizes : (place : ℕ) (flag : Bool)
        → Follows (sizes_of minimum flag) (reads (limited_at most w) (λ min. reads (maximum_at flag) (with_max place min)))
    sizes place false =
        follows_both (minimum ∷ []) [] _ _ m (λ min. follows_both [] [] _ _ (follows_none {A = Option ℕ} None)
        (λ max. follows_none (made place min max)))
    sizes place true =
        follows_both (minimum ∷ []) (index ∷ []) _ _ m (λ min. follows_both (index ∷ [])
        [] _ _ (follows_both (index ∷ []) [] _ _ index_reads.follows (λ n. follows_none {A = Option ℕ} (Some n)))
        (λ max. follows_none (made place min max)))

limits_reads : (field minimum : Field) (most : ℕ) (w : Which) → FollowsTo (field ∷ []) (sizes_of minimum) flag_at
    → Follows (minimum ∷ []) (limited_at most w) → Reads (limits_at most w) (of.limits most) (field ∷ [])
limits_reads field minimum most w h m = record {
  takes = limits_takes most w;
  again = limits_again most w;
  follows = limits_follow field minimum most w h m;
}

pub memory_type_reads : Reads memory_type_at of.memory_type (table.memory_limits ∷ [])
unfolding memory_type_at row flag_at limited_at
memory_type_reads =
    limits_reads table.memory_limits memory_minimum most_memory_pages which.MemoryPages
    (follows_row table.memory_limits flag_at (sizes_of memory_minimum) (λ a outer fields. refl))
    (follows_row memory_minimum (limited_at most_memory_pages which.MemoryPages) none_more (λ a outer fields. refl))

pub table_type_reads : Reads table_type_at of.table_type (table.exactly 0x70 cause.BadElementType ∷ table.table_limits ∷ [])
unfolding table_type_at row flag_at limited_at
table_type_reads =
    in_order (next _ (λ l. tt) (exactly_reads 0x70 cause.BadElementType) (last
    (limits_reads table.table_limits table_minimum most_table_elements which.TableLength
    (follows_row table.table_limits flag_at (sizes_of table_minimum) (λ a outer fields. refl))
    (follows_row table_minimum (limited_at most_table_elements which.TableLength) none_more (λ a outer fields. refl)))
    (λ x v. refl)))
