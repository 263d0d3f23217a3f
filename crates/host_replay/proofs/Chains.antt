-- The lines of a journal that can be written add up to it.
use Rattle.host_replay.proofs.Common.{◌≡◌, ℕ, zero, suc, true, false, ◌&&◌, List, [], ◌∷◌, ◌++◌, map, length, slice_get, Some, None, Option}
use Rattle.host_replay.proofs.Common.{option_map, flat_map, sym, refl, ap, ◌∙◌, subst, append_assoc, append-nil, list_all, both_hold}
use Rattle.host_replay.proofs.Common.{if_found, Host, HostFunction, function_name, host_name, JournalLine, Asked, fits, fits_function, Adds}
use Rattle.host_replay.proofs.Common.{symbol_at, symbol_of, Recorded, AreDistinct}
use Rattle.w2c_mangle.specs.declared.symbol.SymbolKind.TheVariants as symbol
use Rattle.w2c_mangle.specs.Symbols.{export_symbol_of}
use Rattle.journal_lines.specs.declared.line.JournalLine.TheVariants as line

-- what is added, without the texts
abbrev pub Chain : Recorded → List JournalLine → Recorded → Type 0
Chain before [] after = after ≡ before
Chain before (l ∷ lines) after = (middle : Recorded) × Adds before l middle × Chain middle lines after

chain_join : (before middle after : Recorded) (xs ys : List JournalLine) → Chain before xs middle → Chain middle ys after
    → Chain before (xs ++ ys) after
chain_join before middle after [] ys x y = subst (λ (j : Recorded). Chain j ys after) x y
chain_join before middle after (l ∷ xs) ys x y = (x.0, x.1, chain_join x.0 middle after xs ys x.2 y)

abbrev pub function_said : HostFunction → JournalLine
function_said f = line.Function (record { name = f.name; ty = f.ty })

abbrev pub module_said : Host → List JournalLine
module_said m = line.Module m.name ∷ map function_said m.functions

abbrev pub entry_said : List Host → Asked → JournalLine
entry_said hosts a = line.Host
    (record {
      host = host_name hosts a.host;
      function = function_name hosts a.host a.function;
      args = a.args;
      reply = a.reply;
    })

abbrev pub said : Recorded → List JournalLine
said j = flat_map module_said j.hosts ++ map (entry_said j.hosts) j.entries

-- ---- functions of a module

abbrev with_functions : List ℕ → List HostFunction → Host
with_functions name functions = record { name = name; functions = functions }

module _ (name : List ℕ) where
  in_front : (done rest : List HostFunction) (g : ℕ) (s : List ℕ)
      → option_map (symbol_of (with_functions name done)) (slice_get done g) ≡ Some s
      → option_map (symbol_of (with_functions name (done ++ rest))) (slice_get (done ++ rest) g) ≡ Some s
  in_front done rest g s e = by_recursion done g e
    where
      by_recursion : (fs : List HostFunction) (g : ℕ) → option_map (symbol_of (with_functions name done)) (slice_get fs g) ≡ Some s
          → option_map (symbol_of (with_functions name (done ++ rest))) (slice_get (fs ++ rest) g) ≡ Some s
      by_recursion [] g e = absurd cc
      by_recursion (f ∷ fs) zero e = e
      by_recursion (f ∷ fs) (suc g) e = by_recursion fs g e

  grown : (front more : List Host) (done rest : List HostFunction) (h g : ℕ) (s : List ℕ)
      → symbol_at (front ++ with_functions name done ∷ []) h g ≡ Some s
      → symbol_at (front ++ with_functions name (done ++ rest) ∷ more) h g ≡ Some s
  grown [] more done rest zero g s e = in_front done rest g s e
  grown [] more done rest (suc h) g s e = absurd cc
  grown (m ∷ front) more done rest zero g s e = e
  grown (m ∷ front) more done rest (suc h) g s e = grown front more done rest h g s e

  there : (front more : List Host) (done rest : List HostFunction) (f : HostFunction)
      → symbol_at (front ++ with_functions name (done ++ f ∷ rest) ∷ more) (length front) (length done)
      ≡ Some (export_symbol_of name symbol.Func f.name)
  there [] more done rest f = by_recursion done
    where
      by_recursion : (fs : List HostFunction)
          → option_map (symbol_of (with_functions name (done ++ f ∷ rest))) (slice_get (fs ++ f ∷ rest) (length fs))
          ≡ Some (export_symbol_of name symbol.Func f.name)
      by_recursion [] = refl
      by_recursion (x ∷ fs) = by_recursion fs
  there (m ∷ front) more done rest f = there front more done rest f

  gone : (front : List Host) (done : List HostFunction)
      → symbol_at (front ++ with_functions name done ∷ []) (length front) (length done) ≡ None
  gone [] done = by_recursion done
    where
      by_recursion : (fs : List HostFunction) → option_map (symbol_of (with_functions name done)) (slice_get fs (length fs)) ≡ None
      by_recursion [] = refl
      by_recursion (x ∷ fs) = by_recursion fs
  gone (m ∷ front) done = gone front done

  functions_chain : (front more : List Host) (done rest : List HostFunction)
      → AreDistinct (front ++ with_functions name (done ++ rest) ∷ more)
      → Chain (record { hosts = front ++ with_functions name done ∷ []; entries = [] }) (map function_said rest)
      (record { hosts = front ++ with_functions name (done ++ rest) ∷ []; entries = [] })
  functions_chain front more done [] d = ap
      (λ (fs : List HostFunction). record { hosts = front ++ with_functions name fs ∷ []; entries = [] }) (append-nil done)
  functions_chain front more done (f ∷ rest) d =
      let same : (done ++ f ∷ []) ++ rest ≡ done ++ f ∷ rest = append_assoc done (f ∷ []) rest in
      let behind = functions_chain front more (done ++ f ∷ []) rest (rw same d) in (
        record { hosts = front ++ with_functions name (done ++ f ∷ []) ∷ []; entries = [] },
        record {
          front = front;
          last = with_functions name done;
          hosts_are = refl;
          no_entries = refl;
          after_is = refl;
          is_new = λ offered.
              let places = d offered.0 offered.1 (length front) (length done) _
              (grown front more done (f ∷ rest) offered.0 offered.1 _ offered.2) (there front more done rest f) in
              let none : symbol_at (front ++ with_functions name done ∷ []) offered.0 offered.1 ≡ None =
              (λ i. symbol_at (front ++ with_functions name done ∷ []) (places.0 i) (places.1 i)) ∙ gone front done in
              let both_hold = sym none ∙ offered.2 in
              cc;
        },
        rw same at behind,
      )

modules_chain : (front rest : List Host) → AreDistinct (front ++ rest)
    → Chain (record { hosts = front; entries = [] }) (flat_map module_said rest) (record { hosts = front ++ rest; entries = [] })
modules_chain front [] d = ap (λ (hosts : List Host). record { hosts = hosts; entries = [] }) (append-nil front)
modules_chain front (m ∷ rest) d =
    let same : (front ++ m ∷ []) ++ rest ≡ front ++ m ∷ rest = append_assoc front (m ∷ []) rest in
    let behind = rw same at (modules_chain (front ++ m ∷ []) rest (subst AreDistinct (sym same) d)) in (
      record { hosts = front ++ with_functions m.name [] ∷ []; entries = [] },
      record { no_entries = refl; after_is = refl },
      chain_join (record { hosts = front ++ with_functions m.name [] ∷ []; entries = [] })
          (record { hosts = front ++ m ∷ []; entries = [] })
          (record { hosts = front ++ m ∷ rest; entries = [] }) (map function_said m.functions) (flat_map module_said rest)
          (functions_chain m.name front rest [] m.functions d) behind,
    )

-- ---- calls

offered : (hosts : List Host) (a : Asked) → fits hosts a ≡ true
    → symbol_at hosts a.host a.function
    ≡ Some (export_symbol_of (host_name hosts a.host) symbol.Func (function_name hosts a.host a.function))
offered hosts a fit = by_host (slice_get hosts a.host) refl
  where
    by_function : (m : Host) (o : Option HostFunction) → slice_get hosts a.host ≡ Some m → slice_get m.functions a.function ≡ o
        → symbol_at hosts a.host a.function
        ≡ Some (export_symbol_of (host_name hosts a.host) symbol.Func (function_name hosts a.host a.function))
    by_function m None at none =
        let no_fit : false ≡ true = sym (ap (λ (o : Option HostFunction). fits_function o a)
        (ap (λ (o : Option Host). if_found o (λ m. slice_get m.functions a.function)) at ∙ none)) ∙ fit in absurd cc
    by_function m (Some f) at some =
        ap (λ (o : Option Host). if_found o (λ m. option_map (symbol_of m) (slice_get m.functions a.function))) at
        ∙ ap (option_map (symbol_of m)) some
        ∙ sym (ap (λ (o : Option Host). Some (export_symbol_of (elim o [ None ↦ [] | Some host ↦ host.name ]) symbol.Func
        (elim o [ None ↦ [] | Some host ↦ elim (slice_get host.functions a.function) [ None ↦ [] | Some function ↦ function.name ] ]))) at
        ∙ ap (λ (o : Option HostFunction). Some
        (export_symbol_of m.name symbol.Func (elim o [ None ↦ [] | Some function ↦ function.name ]))) some)

    by_host : (o : Option Host) → slice_get hosts a.host ≡ o
        → symbol_at hosts a.host a.function
        ≡ Some (export_symbol_of (host_name hosts a.host) symbol.Func (function_name hosts a.host a.function))
    by_host None none =
        let no_fit : false ≡ true = sym
        (ap (λ (o : Option Host). fits_function (if_found o (λ m. slice_get m.functions a.function)) a) none) ∙ fit in absurd cc
    by_host (Some m) at = by_function m (slice_get m.functions a.function) at refl

entries_chain : (hosts : List Host) (done rest : List Asked) → list_all (fits hosts) rest ≡ true
    → Chain (record { hosts = hosts; entries = done }) (map (entry_said hosts) rest) (record { hosts = hosts; entries = done ++ rest })
entries_chain hosts done [] fit = ap (λ (es : List Asked). record { hosts = hosts; entries = es }) (append-nil done)
entries_chain hosts done (a ∷ rest) fit =
    let parts = both_hold (fits hosts a) (list_all (fits hosts) rest) fit in (
      record { hosts = hosts; entries = done ++ a ∷ [] },
      record {
        entry = a;
        is_offered = offered hosts a parts.0;
        args_are = refl;
        reply_is = refl;
        fitting =
            parts.0;
        after_is = refl;
      },
      rw (append_assoc done (a ∷ []) rest) at (entries_chain hosts (done ++ a ∷ []) rest parts.1),
    )

pub journal_chain : (j : Recorded) → AreDistinct j.hosts → list_all (fits j.hosts) j.entries ≡ true
    → Chain (record { hosts = []; entries = [] }) (said j) j
journal_chain j d fit =
    chain_join (record { hosts = []; entries = [] }) (record { hosts = j.hosts; entries = [] }) j (flat_map module_said j.hosts)
    (map (entry_said j.hosts) j.entries)
    (modules_chain [] j.hosts d) (entries_chain j.hosts [] j.entries fit)
