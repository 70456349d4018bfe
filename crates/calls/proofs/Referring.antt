-- The file with calls as references: it differs from the file in its call bytes alone, and is a routine.
-- Assumes nothing.
use mathlib.Core.Path.{◌≡◌, refl, sym, ap, ap₂, subst, ◌∙◌}
use mathlib.Core.Bool.{Bool, true, false, ◌&&◌, ◌||◌, cond, true≢false}
use mathlib.Core.List.{List, ◌++◌}
use Prim.Native.Nat.{ℕ, ◌+◌, ◌-◌, ◌*◌, ◌<◌}
use native.Mathlib.Decide.{dec_lt}
use native.Mathlib.Nat.{mul-le-mul_right}
use native.Mathlib.Omega.{arith}
use borrow.Author.Tests.{ne_eqb}
use lib.Dec.{eqb}
use lib.ListN.{length, get_or, take, drop, length-append, length-drop, get_or-append}
use lib.Seq.{length-take-le, get_or-take, get_or-drop, ext_get_or}
use Rattle.flow.specs.Paths.{edge_from, edge_to}
use Rattle.labels.proofs.Rules.Events.{inner_event}
use Rattle.labels.proofs.Rules.Proper.{edge_from_lem, edge_to_is}
use Rattle.labels.specs.Events.{edge_bytes, event}
use Rattle.routine.proofs.Actions.{call_unknown}
use Rattle.routine.proofs.Form.{array_alike}
use Rattle.routine.specs.Actions.{action_of, is_call, action_byte, action}
use Rattle.routine.specs.Arrays.{array_of, is_out_or_inout}
use Rattle.routine.specs.Edges.{edge_of, before}
use Rattle.routine.specs.Layout.{arrays, vertices, edges, entry, exit, record_at, actions_at, action_at, edges_at, end_at}
use Rattle.routine.specs.Reader.{Laid, WellFormed}
use Rattle.routine.specs.declared.action.Access.{Access}
use Rattle.routine.specs.declared.action.Action.{Action}
use Rattle.routine.specs.declared.action.Action.TheVariants.{Nothing, Reference, Remap}
use Rattle.routine.specs.declared.array.ArrayRecord.{ArrayRecord}
use Rattle.words.proofs.Lists.{get_d_behind, drop_behind}
use Rattle.words.proofs.Replaced.{replaced-length, replaced_other, replaced_at, replaced_still}
use Rattle.words.proofs.Sums.{each_fails, none_below}
use Rattle.words.proofs.Tables.{table-length, table_at}
use Rattle.words.proofs.Tests.{by_test}
use Rattle.words.specs.Tables.{table, replaced}
use Rattle.words.specs.Words.{word}
use Rattle.calls.specs.Calls.{intent_byte, passes, is_call_row, has_calls}
use Rattle.calls.specs.Expanded.{edge}
use Rattle.calls.specs.Interfaces.{Interfaces}
use Rattle.calls.specs.Referring.{referring_byte, referring}
use Rattle.calls.proofs.Actions.{intent_refers, no_call}

module _ (file : List ℕ) (laid : Laid file) where
  abbrev cells : ℕ
  cells = vertices file * arrays file

  -- what becomes of action byte i
  abbrev byte : ℕ → ℕ
  byte i = referring_byte (get_or file (actions_at file + i) 0)

  abbrev row : List ℕ
  row = table byte cells

  is : referring file ≡ take (actions_at file) file ++ (row ++ drop (edges_at file) file)
  unfolding referring
  is = refl

  front_size : length (take (actions_at file) file) ≡ actions_at file
  front_size = length-take-le (actions_at file) file (omega (arith, laid.ends))

  row_size : length row ≡ cells
  row_size = table-length byte cells

  in_front : (i : ℕ) → i < actions_at file → get_or (referring file) i 0 ≡ get_or file i 0
  in_front i h =
      ap (λ (s : List ℕ). get_or s i 0) is
      ∙ get_or-append (take (actions_at file) file) (row ++ drop (edges_at file) file) 0 i (omega (arith, front_size))
      ∙ get_or-take (actions_at file) file i 0 h

  in_row : (i : ℕ) → i < cells → get_or (referring file) (actions_at file + i) 0 ≡ referring_byte (get_or file (actions_at file + i) 0)
  in_row i h =
      ap (λ (s : List ℕ). get_or s (actions_at file + i) 0) is
      ∙ get_d_behind (take (actions_at file) file) (row ++ drop (edges_at file) file) front_size i 0
      ∙ get_or-append row (drop (edges_at file) file) 0 i (omega (arith, row_size))
      ∙ table_at byte cells i h

  in_edges : (i : ℕ) → get_or (referring file) (actions_at file + (cells + i)) 0 ≡ get_or file (actions_at file + (cells + i)) 0
  in_edges i =
      let e : edges_at file + i ≡ actions_at file + (cells + i) = omega arith in
      ap (λ (s : List ℕ). get_or s (actions_at file + (cells + i)) 0) is
      ∙ get_d_behind (take (actions_at file) file) (row ++ drop (edges_at file) file) front_size (cells + i) 0
      ∙ get_d_behind row (drop (edges_at file) file) row_size i 0
      ∙ get_or-drop (edges_at file) file i 0 ∙ ap (λ (j : ℕ). get_or file j 0) e

  -- ---- counts, records, rows, edges

  word_front : (i : ℕ) → i + 1 < 18 → word (referring file) i ≡ word file i
  unfolding word
  word_front i h = ap₂ (λ (x y : ℕ). x + 256 * y) (in_front i (omega arith)) (in_front (i + 1) (omega arith))

  pub same_arrays : arrays (referring file) ≡ arrays file
  same_arrays = word_front 8 (omega arith)

  pub same_vertices : vertices (referring file) ≡ vertices file
  same_vertices = word_front 12 (omega arith)

  pub same_count : edges (referring file) ≡ edges file
  same_count = word_front 16 (omega arith)

  pub same_array : (a : ℕ) → a < arrays file → array_of (referring file) a ≡ array_of file a
  same_array a h = array_alike (referring file) file a (λ j l. in_front (record_at a + j) (omega arith))

  referring_byte_lem : (a v : ℕ) → a < arrays file → v < vertices file → action_byte (referring file) a v ≡ referring_byte (action_byte file a v)
  referring_byte_lem a v in_a in_v =
      let e : action_at (referring file) a v ≡ actions_at file + (v * arrays file + a) = omega (arith, same_arrays, ap (λ (n : ℕ). v * n) same_arrays) in
      let f : actions_at file + (v * arrays file + a) ≡ action_at file a v = omega arith in
      ap (λ (i : ℕ). get_or (referring file) i 0) e ∙ in_row (v * arrays file + a) (omega (arith, mul-le-mul_right (arrays file) in_v))
      ∙ ap (λ (i : ℕ). referring_byte (get_or file i 0)) f

  pub same_edges : edge_bytes (referring file) ≡ edge_bytes file
  same_edges =
      let e : edges_at (referring file) ≡ actions_at file + (cells + 0) = omega (arith, same_arrays, ap₂ ◌*◌ same_vertices same_arrays) in
      ap₂ drop e is ∙ drop_behind (take (actions_at file) file) (row ++ drop (edges_at file) file) front_size (cells + 0)
      ∙ drop_behind row (drop (edges_at file) file) row_size 0

  same_edge : (i : ℕ) → edge_of (referring file) i ≡ edge_of file i
  same_edge i =
      ap₂ edge
      (sym (edge_from_lem (referring file) i) ∙ ap (λ (s : List ℕ). edge_from s i) same_edges ∙ edge_from_lem file i)
      (sym (edge_to_is (referring file) i) ∙ ap (λ (s : List ℕ). edge_to s i) same_edges ∙ edge_to_is file i)

  same_size : length (referring file) ≡ length file
  same_size =
      let sized : length (take (actions_at file) file) + length (row ++ drop (edges_at file) file) ≡ length file =
      omega (arith, front_size, length-append row (drop (edges_at file) file), row_size, length-drop (edges_at file) file, laid.ends) in
      ap length is ∙ length-append (take (actions_at file) file) (row ++ drop (edges_at file) file) ∙ sized

  -- ---- it is the file with its action bytes replaced; a file without calls is the same

  pub replaced_is : replaced file (actions_at file) (λ i. referring_byte (get_or file (actions_at file + i) 0)) cells ≡ referring file
  replaced_is = ext_get_or 0 (replaced file (actions_at file) byte cells) (referring file) (replaced-length file (actions_at file) byte cells ∙ sym same_size) (λ i h. elim (dec_lt i (actions_at file)) [
    | yes l ↦ replaced_other file (actions_at file) byte 0 cells i (λ a g e. omega arith) ∙ sym (in_front i l)
    | no f ↦ (let j = i - actions_at file in
        elim (dec_lt j cells) [
          | yes l ↦ (let e : actions_at file + j ≡ i = omega arith in
              replaced_at file (actions_at file) byte 0 cells j (sym e) l (omega (arith, laid.ends)) ∙ sym (in_row j l) ∙ ap (λ (k : ℕ). get_or (referring file) k 0) e)
          | no g ↦ (let e : actions_at file + (cells + (j - cells)) ≡ i = omega arith in
              replaced_other file (actions_at file) byte 0 cells i (λ a l e. omega arith)
              ∙ sym (subst (λ (k : ℕ). get_or (referring file) k 0 ≡ get_or file k 0) e (in_edges (j - cells))))
        ])
  ])

  pub no_calls_same : has_calls file ≡ false → referring file ≡ file
  unfolding has_calls
  no_calls_same none =
      sym replaced_is
      ∙ replaced_still file (actions_at file) byte 0 cells (λ i l. rw (each_fails (λ i. is_call (get_or file (actions_at file + i) 0)) cells none i l))

-- ---- it is a routine

module _ (file : List ℕ) (w : WellFormed file) where
  referring-action : {a v : ℕ} → a < arrays file → v < vertices file → action (referring file) a v ≡ action_of (referring_byte (action_byte file a v))
  unfolding action
  referring-action {a} {v} in_a in_v = ap action_of (referring_byte_lem file w.laid a v in_a in_v)

  -- a call is the reference of its intent, and what is no call is what it was
  pub call_action : {a v : ℕ} → a < arrays file → v < vertices file → passes file a v ≡ true → action (referring file) a v ≡ action_of (intent_byte (action_byte file a v))
  call_action in_a in_v p = referring-action in_a in_v ∙ rw p

  pub other_action : {a v : ℕ} → a < arrays file → v < vertices file → passes file a v ≡ false → action (referring file) a v ≡ action file a v
  unfolding action
  other_action in_a in_v p = referring-action in_a in_v ∙ rw p

  -- 00 is no call
  pub nothing_passed : (a v : ℕ) → action file a v ≡ Nothing → passes file a v ≡ false
  unfolding action
  nothing_passed a v e = by_test (passes file a v)
      (λ p. absurd (let z : ◌≡◌ {A = ℕ} 0 1 = cc (call_unknown (action_byte file a v) p) in omega arith))
      (λ p. p)

  nothing_stays : {a v : ℕ} → a < arrays file → v < vertices file → action file a v ≡ Nothing → action (referring file) a v ≡ Nothing
  nothing_stays {a} {v} in_a in_v e = other_action in_a in_v (nothing_passed a v e) ∙ e

  module _ (interfaces : Interfaces file) where
    sorts : {v a b : ℕ} {r : Access} {k : ℕ} → v < vertices file → a < arrays file → b < arrays file
        → action (referring file) a v ≡ Reference r → action (referring file) b v ≡ Remap k → ⊥
    unfolding action action_of
    sorts {v} {a} {b} in_v in_a in_b reference remap = by_test (is_call_row file v)
        (λ call. by_test (passes file b v)
        (λ p. let z : ◌≡◌ {A = ℕ} 0 1 = cc (call_action in_b in_v p, (intent_refers (action_byte file b v)).1) in omega arith)
        (λ p.
        let n : action file b v ≡ Nothing = ap action_of (interfaces.calls_only b v in_b in_v call p) in
        let z : ◌≡◌ {A = ℕ} 0 1 = cc (other_action in_b in_v p) in omega arith))
        (λ row. w.never_both in_v in_a in_b
        (sym (other_action in_a in_v (no_call file a v in_a row)) ∙ reference)
        (sym (other_action in_b in_v (no_call file b v in_b row)) ∙ remap))

    pub referring_formed : WellFormed (referring file)
    referring_formed =
        record {
          laid = record {
            limits = record {
              some_array = omega (arith, arrays_same, w.laid.limits);
              few_arrays = omega (arith, arrays_same, w.laid.limits);
              two_vertices = omega (arith, vertices_same, w.laid.limits);
              few_vertices = omega (arith, vertices_same, w.laid.limits);
              few_edges = omega (arith, edges_same, w.laid.limits);
            };
            ends = same_size file w.laid ∙ w.laid.ends ∙ sym end;
          };
          array_limits = λ {a} h. rw (same_array file w.laid a (below h)) (w.array_limits (below h));
          entry_nothing = λ h. nothing_stays (below h) (omega (arith, w.laid.limits)) (w.entry_nothing (below h));
          exit_nothing = λ {a} h.
              ap (λ (n : ℕ). action (referring file) a (n - 1)) vertices_same ∙ nothing_stays (below h) (omega (arith, w.laid.limits)) (w.exit_nothing (below h));
          never_both = λ in_v in_a in_b. sorts (omega (arith, vertices_same)) (below in_a) (below in_b);
          edge_limits = λ {i} h. rw (same_edge file w.laid i, vertices_same) (w.edge_limits (omega (arith, edges_same)));
          edges_rise = λ i h. ap₂ before (same_edge file w.laid i) (same_edge file w.laid (i + 1)) ∙ w.edges_rise i (omega (arith, edges_same));
        }
      where
        arrays_same : arrays (referring file) ≡ arrays file
        arrays_same = same_arrays file w.laid

        vertices_same : vertices (referring file) ≡ vertices file
        vertices_same = same_vertices file w.laid

        edges_same : edges (referring file) ≡ edges file
        edges_same = same_count file w.laid

        below : {a : ℕ} → a < arrays (referring file) → a < arrays file
        below h = omega (arith, arrays_same)

        end : end_at (referring file) ≡ end_at file
        end = omega (arith, arrays_same, edges_same, ap₂ ◌*◌ vertices_same arrays_same)

-- ---- events: a call is the reference of its intent, and any other vertex does what it did

module _ (file : List ℕ) (w : WellFormed file) where
  -- neither the entry nor the exit is a call
  pub entry_no_call : is_call_row file entry ≡ false
  unfolding is_call_row
  entry_no_call = none_below (λ a. passes file a entry) (arrays file) (λ a h. nothing_passed file w a entry (w.entry_nothing h))

  pub exit_no_call : is_call_row file (exit file) ≡ false
  unfolding is_call_row
  exit_no_call = none_below (λ a. passes file a (exit file)) (arrays file) (λ a h. nothing_passed file w a (exit file) (w.exit_nothing h))

  module _ {v : ℕ} (call : is_call_row file v ≡ true) where
    pub call_not-entry : v ≡ entry → ⊥
    call_not-entry e = true≢false (sym call ∙ ap (is_call_row file) e ∙ entry_no_call)

    pub call_not-exit : v ≡ exit file → ⊥
    call_not-exit e = true≢false (sym call ∙ ap (is_call_row file) e ∙ exit_no_call)

  module _ {a v : ℕ} (in_a : a < arrays file) (in_v : v < vertices file) where
    pub call_refers : Interfaces file → is_call_row file v ≡ true → event (referring file) a v ≡ cond (passes file a v) (action_of (intent_byte (action_byte file a v))) Nothing
    unfolding action action_of
    call_refers interfaces call =
        inner_event (referring file) a v (ne_eqb v entry (call_not-entry call))
        (ne_eqb v (exit (referring file)) (λ e. call_not-exit call (e ∙ ap (λ (n : ℕ). n - 1) (same_vertices file w.laid))))
        ∙ by_test (passes file a v)
        (λ p. rw p (call_action file w in_a in_v p))
        (λ p. rw p (other_action file w in_a in_v p ∙ ap action_of (interfaces.calls_only a v in_a in_v call p)))

    pub row_refers : is_call_row file v ≡ false → event (referring file) a v ≡ event file a v
    unfolding event
    row_refers row =
        ap₂ (λ (n : ℕ) (r : ArrayRecord). shape (eqb v (n - 1)) r (action (referring file) a v)) (same_vertices file w.laid) (same_array file w.laid a in_a)
        ∙ ap (shape (eqb v (exit file)) (array_of file a)) (other_action file w in_a in_v (no_call file a v in_a row))
      where
        shape : Bool → ArrayRecord → Action → Action
        shape q r x = cond (eqb v entry || (q && is_out_or_inout r.kind)) (Remap r.initial) x
