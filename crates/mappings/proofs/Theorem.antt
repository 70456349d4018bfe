-- Request 4's theorem: at each reference on a path from the entry the mapping that the directives give is that of the version which the
-- converted routine names. Along a path the version of the last label and the array's mapping go together: a directive that remaps the array
-- on some path is a label, and leaves it in one mapping on every path; another changes its mapping on none.
-- Assumes nothing.
use mathlib.Core.Path.{◌≡◌, refl, sym, ap, subst, ◌∙◌}
use mathlib.Core.Bool.{Bool, false, ◌||◌, cond}
use mathlib.Core.List.{List, [], ◌∷◌, ◌++◌}
use mathlib.Core.Logic.Iff
use mathlib.Core.Logic.{◌⊎◌, inl, inr, ⊎_elim}
use mathlib.Core.Option.{some}
use Prim.Native.Nat.{ℕ, ◌+◌, ◌<◌}
use native.Mathlib.Omega.{arith}
use borrow.Author.Tests.{ne_eqb}
use lib.Dec.{T, eqb, T_not}
use lib.Ieee.Bits.{is_false}
use lib.ListN.{length, get_or}
use Rattle.flow.specs.Paths.{Edge, Joined}
use Rattle.labels.proofs.Rules.Brought.{named_after, last_after, last_entry}
use Rattle.labels.proofs.Rules.Events.{entry_remaps, inner_event}
use Rattle.labels.specs.Events.{event, is_label, version_of, version}
use Rattle.labels.specs.Reaching.{Arrives, ArrivesBy, last_version}
use Rattle.routine.proofs.Actions.{remap_action}
use Rattle.routine.specs.Actions.{action_of, action, is_reference, is_remap}
use Rattle.routine.specs.Arrays.{initial}
use Rattle.routine.specs.Layout as R
use Rattle.routine.specs.declared.action.Access.{Access}
use Rattle.routine.specs.declared.action.Action.{Action}
use Rattle.routine.specs.declared.action.Action.TheVariants.{Nothing, Reference, Remap, Unknown}
use Rattle.routine.specs.declared.array.ArrayRecord.{ArrayRecord}
use Rattle.words.proofs.Tests.{either, or_iff, eqb_iff}
use Rattle.directives.specs.Directives.{directive}
use Rattle.directives.specs.Layout.{arrays, vertices, entry, reference_at, edge_bytes}
use Rattle.directives.specs.declared.spread.Mapping.{Mapping}
use Rattle.mappings.specs.Along.{alike, State, state_by, mapping, remaps_in}
use Rattle.mappings.specs.Converted.{is_listed, version_in, versions, action_for, converted_by}
use Rattle.mappings.specs.Rules.{Gives, mapping_after, initial_mapping}
use Rattle.mappings.specs.Theorem.{Accepted, Names, KeepsMappings}
use Rattle.mappings.proofs.Along.{unmoved, arrives_below, state_first, state_next, by_path}
use Rattle.mappings.proofs.Bytes.{exit_is, array_is, byte_is, edge_bytes_lem}
use Rattle.mappings.proofs.Lists.{alike_iff, listed_none, listed_first, number_of, numbered_some, numbered_first, numbered_all}

-- ---- a byte that stays does nothing, or refers

pub stays : (b : ℕ) → T (eqb b 0 || is_reference (action_of b)) → (b ≡ 0) ⊎ ((r : Access) × (action_of b ≡ Reference r))
stays b h = ⊎_elim inl (λ t. inr (refers (action_of b) t)) ((or_iff (eqb b 0) (is_reference (action_of b)) (eqb_iff b 0) Iff.rfl).0 h)
  where
    refers : (x : Action) → T (is_reference x) → (r : Access) × (x ≡ Reference r)
    refers Nothing t = absurd t
    refers (Reference r) t = (r, refl)
    refers (Remap k) t = absurd t
    refers Unknown t = absurd t

no_remap : (b : ℕ) → T (eqb b 0 || is_reference (action_of b)) → is_remap (action_of b) ≡ false
unfolding action_of
no_remap b h = ⊎_elim (λ e. ap (λ (x : ℕ). is_remap (action_of x)) e) (λ p. ap is_remap p.1) (stays b h)

-- ---- rows

module _ {file : List ℕ} {given : ℕ → ℕ → List Mapping} (accepted : Accepted file given) (a : ℕ) (in_a : a < arrays file) where
  abbrev es : List ℕ
  es = edge_bytes file

  abbrev routine : List ℕ
  routine = converted_by file given

  abbrev all : List Mapping
  all = versions file given a

  -- version k is mapping m
  abbrev Is : ℕ → Mapping → Type 0
  Is k m = (k < length all) × ((d : Mapping) → get_or all k d ≡ m)

  module _ (v : ℕ) (in_v : v < vertices file) where
    -- one that is given has a version
    number_given : (m : Mapping) → T (is_listed m (given a v)) → Is (version_in all m) m
    number_given m i = number_of m all (numbered_all (initial_mapping file a) (given a) (vertices file) v m in_v i)

    -- the byte stays where none is given, else it remaps to the version of the first
    pub byte_either : ((given a v ≡ []) × (action_for file given a v (given a v) ≡ get_or file (reference_at file v a) 0))
        ⊎ ((m : Mapping) × Gives file a v m × Is (version_in all m) m × (action_for file given a v (given a v) ≡ 0x40 + version_in all m))
    byte_either = go (given a v) refl
      where
        go : (g : List Mapping) → given a v ≡ g → ((given a v ≡ []) × (action_for file given a v (given a v) ≡ get_or file (reference_at file v a) 0))
            ⊎ ((m : Mapping) × Gives file a v m × Is (version_in all m) m × (action_for file given a v (given a v) ≡ 0x40 + version_in all m))
        go [] e = inl (e, ap (action_for file given a v) e)
        go (m ∷ ms) e =
            let i : T (is_listed m (given a v)) = subst (λ (g : List Mapping). T (is_listed m g)) (sym e) (listed_first m ms) in
            inr (m, (accepted.exact a v in_a in_v m).0 i, number_given m i, ap (action_for file given a v) e)

    pub remaps_to : {m : Mapping} → Is (version_in all m) m → action_of (0x40 + version_in all m) ≡ Remap (version_in all m)
    remaps_to {m} is = remap_action (version_in all m) (omega (arith, is.0, accepted.few a in_a))

    -- 42: what is given on one path is what is left on each
    pub same_left : {m : Mapping} → Gives file a v m → (before : List ℕ) → Arrives es before v → m ≡ mapping_after file before v a
    same_left {m} g before path = ⊎_elim
        (λ t. (alike_iff m n).0 t)
        (λ t. absurd (accepted.single a v in_a in_v (record {
          first = m;
          second = n;
          differ = λ q. T_not (alike m n) t ((alike_iff m n).1 q);
          leaves_first = record { remapped = record { mapped = m; gives = g }; before = g.before; path = g.path; is = g.is };
          leaves_second = record { remapped = record { mapped = m; gives = g }; before = before; path = path; is = refl };
        })))
        (either (alike m n))
      where
        n : Mapping
        n = mapping_after file before v a

  -- ---- along a path

  -- what the routine names goes with the directives
  abbrev Named : List ℕ → Type 0
  Named before = (k : ℕ) × (last_version (is_label routine a) (version routine a) before ≡ some k) × Is k (mapping (state_by file before) a)

  event_is : (u x : ℕ) → u < vertices file → (u ≡ entry → ⊥) → Edge es u x → event routine a u ≡ action_of (action_for file given a u (given a u))
  unfolding action
  event_is u x in_u other e =
      inner_event routine a u (ne_eqb u entry other)
      (ne_eqb u (R.exit routine) (λ q. accepted.formed.none_leaves x (subst (λ (y : ℕ). Edge es y x) (q ∙ exit_is file given) e)))
      ∙ ap action_of (byte_is file given a u in_a in_u)

  next : (p : List ℕ) (u x : ℕ) → Arrives es p u → (u ≡ entry → ⊥) → Edge es u x → Named p → Named (p ++ u ∷ [])
  next p u x path other e (k, last, holds) =
      let in_u = arrives_below accepted.formed p u path in
      let does = event_is u x in_u other e in
      let after_u : (j : ℕ) → named_after (event routine a u) k ≡ j → last_version (is_label routine a) (version routine a) (p ++ u ∷ []) ≡ some j =
      λ j named. last_after routine a p u last ∙ ap some named in
      ⊎_elim
      (λ q. (
        k,
        after_u k (ap (λ (b : Bool). cond b (version_of (event routine a u)) k)
            (ap is_remap (does ∙ ap action_of q.1) ∙ no_remap (get_or file (reference_at file u a) 0) (accepted.formed.references u a in_u in_a))),
        subst (Is k) (sym (ap (λ (s : State). mapping s a) (state_next file p u) ∙ unmoved (state_by file p) (directive file u) a (quiet p u path in_u q.0))) holds,
      ))
      (λ q. let (m, gives, is, byte) = q in (
        version_in all m,
        after_u (version_in all m) (ap (λ (x : Action). named_after x k) (does ∙ ap action_of byte ∙ remaps_to u in_u is)),
        subst (Is (version_in all m)) (same_left u in_u gives p path ∙ sym (ap (λ (s : State). mapping s a) (state_next file p u))) is,
      ))
      (byte_either u in_u)
    where
      -- a directive that gives the array nothing remaps it on no path
      quiet : (p : List ℕ) (u : ℕ) → Arrives es p u → u < vertices file → given a u ≡ [] → remaps_in (state_by file p) (directive file u) a ≡ false
      quiet p u path in_u none = ⊎_elim
          (λ t. absurd (listed_none (mapping_after file p u a) (subst (λ (g : List Mapping). T (is_listed (mapping_after file p u a) g)) none
          ((accepted.exact a u in_a in_u (mapping_after file p u a)).1 (record { before = p; path = path; remaps = t; is = refl })))))
          (is_false _)
          (either (remaps_in (state_by file p) (directive file u) a))

  -- the entry names version 0, the initial mapping
  first : (x : ℕ) → Edge es entry x → Named (entry ∷ [])
  first x e = (
    0,
    last_entry routine a ∙ ap some start,
    subst (Is 0) (sym (ap (λ (s : State). mapping s a) (state_first accepted.formed)))
        (numbered_some (initial_mapping file a) (given a) (vertices file), numbered_first (initial_mapping file a) (given a) (vertices file)),
  )
    where
      start : initial routine a ≡ 0
      start = ap (λ (r : ArrayRecord). r.initial) (array_is file given a in_a)

  -- on every path of one edge or more from the entry, to a reference or not
  pub names : (v : ℕ) (before : List ℕ) → ArrivesBy routine before v → (v ≡ entry → ⊥) → Names file given a before
  names v [] path other = absurd (other path)
  names v (u ∷ us) path other =
      let n = by_path accepted.formed (λ p x. Named p) first next u us v (path.0, subst (λ (s : List ℕ). Joined s u us v) (edge_bytes_lem file given) path.1) in
      record { named = n.0; last = n.1; listed = n.2.0; same = n.2.1 }

-- no reference stands at the entry
pub keeps_mappings : {file : List ℕ} {given : ℕ → ℕ → List Mapping} → Accepted file given → KeepsMappings file given
keeps_mappings {file} {given} accepted a v before in_a path reference =
    names accepted a in_a v before path
    (λ e. subst (λ (x : Action). T (is_reference x)) (ap (event (converted_by file given) a) e ∙ entry_remaps (converted_by file given) a) reference)
