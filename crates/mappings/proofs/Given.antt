-- What a directive gives an array, computed from alignments and spreads, is what it gives on some path; and so each mapping that a path brings
-- has a version.
-- Assumes nothing.
use mathlib.Core.Path.{◌≡◌, refl, sym, ap, subst, ◌∙◌}
use mathlib.Core.Bool.{Bool, not, cond}
use mathlib.Core.List.{List, [], ◌∷◌}
use mathlib.Core.Logic.{◌↔◌, ⊎_elim}
use Prim.Native.Nat.{ℕ, ◌+◌, ◌*◌, ◌<◌}
use native.Mathlib.Omega.{arith}
use lib.Dec.{T, eqb, T_not}
use lib.Ieee.Bits.{is_true, is_false}
use lib.ListN.{get_or}
use Rattle.labels.specs.Reaching.{Arrives}
use Rattle.sets.specs.Sets.{has}
use Rattle.words.proofs.Tests.{either, eqb_iff}
use Rattle.words.specs.Tables.{rows}
use Rattle.directives.specs.Directives.{directive}
use Rattle.directives.specs.Layout.{arrays, vertices, entry, edge_bytes}
use Rattle.directives.specs.declared.array.Alignment.{Alignment}
use Rattle.directives.specs.declared.spread.Mapping.{Mapping}
use Rattle.directives.specs.declared.vertex.Directive.{Directive}
use Rattle.directives.specs.declared.vertex.Directive.TheVariants.{Nothing, Realign, Redistribute}
use Rattle.mappings.specs.Along.{State, turned, after, along, state_by, mapping, remaps_in}
use Rattle.mappings.specs.Computed.{code, align_sets, spread_sets, spread_by, given_by, given_to, versions_of}
use Rattle.mappings.specs.Converted.{is_listed, version_in}
use Rattle.mappings.specs.Rules.{Gives, mapping_after, initial_mapping}
use Rattle.mappings.specs.Theorem.{Formed}
use Rattle.mappings.proofs.Along.{unmoved, arrives_below, state_first, state_next, by_path}
use Rattle.mappings.proofs.Facts.{BringsAligned, brings_right, alignments_exact, spreads_exact, spread_below}
use Rattle.mappings.proofs.Lists.{listed_rows, listed_none, listed_head, number_head, numbered_some, numbered_first, numbered_all}

module _ {file : List ℕ} (formed : Formed file) (a : ℕ) (in_a : a < arrays file) where
  module _ (v : ℕ) (m : Mapping) where
    -- on some path the directive d at v remaps the array, and gives it m
    record GivesBy (d : Directive) : Type 0 where
      before : List ℕ
      path : Arrives (edge_bytes file) before v
      remaps : T (remaps_in (state_by file before) d a)
      is : mapping (after d (state_by file before)) a ≡ m

    -- a realign of the array gives it the spread that its template has on the path
    realigned : (x : Alignment) (b : ℕ) (s : State) → T (eqb a b) → mapping (after (Realign b x) s) a ≡ turned x.exchanged (s.spread x.template)
    realigned x b s t = ap (λ (c : Bool). turned (cond c x (s.aligned a)).exchanged (s.spread (cond c x (s.aligned a)).template)) (is_true (eqb a b) t)

    -- a redistribute its own, where the array is aligned with its template
    redistributed : (t : ℕ) (r : Mapping) (s : State) → T (eqb (s.aligned a).template t) → mapping (after (Redistribute t r) s) a ≡ turned (s.aligned a).exchanged r
    redistributed t r s h = ap (λ (c : Bool). turned (s.aligned a).exchanged (cond c r (s.spread (s.aligned a).template))) (is_true (eqb (s.aligned a).template t) h)

    by_realign : (v ≡ entry → ⊥) → (b : ℕ) (x : Alignment) → T (is_listed m (given_by file a v (Realign b x))) ↔ GivesBy (Realign b x)
    by_realign other b x = ⊎_elim yes no (either (eqb a b))
      where
        all : T (is_listed m (rows (λ u. cond (has (get_or (spread_sets file x.template) v 0) u) (turned x.exchanged (spread_by file x.template u) ∷ []) []) (vertices file)))
            ↔ ((u : ℕ) × (u < vertices file) × T (has (get_or (spread_sets file x.template) v 0) u) × (turned x.exchanged (spread_by file x.template u) ≡ m))
        all = listed_rows m (λ u. has (get_or (spread_sets file x.template) v 0) u) (λ u. turned x.exchanged (spread_by file x.template u)) (vertices file)

        yes : T (eqb a b) → T (is_listed m (given_by file a v (Realign b x))) ↔ GivesBy (Realign b x)
        yes t = rw (is_true (eqb a b) t) (
          λ h. let g = all.0 h in
              let p = (spreads_exact formed x.template v (spread_by file x.template g.0) other).0 (record { vertex = g.0; held = g.2; gave = refl }) in
              record {
                before = p.before;
                path = p.path;
                remaps = t;
                is = realigned x b (state_by file p.before) t ∙ ap (turned x.exchanged) p.is ∙ g.3;
              },
          λ g. let s = state_by file g.before in
              let p = (spreads_exact formed x.template v (s.spread x.template) other).1 (record { before = g.before; path = g.path; is = refl }) in
              all.1 (
                p.vertex,
                spread_below formed x.template v p.vertex p.held,
                p.held,
                ap (turned x.exchanged) p.gave ∙ sym (realigned x b s t) ∙ g.is,
              ),
        )

        no : T (not (eqb a b)) → T (is_listed m (given_by file a v (Realign b x))) ↔ GivesBy (Realign b x)
        no t = rw (is_false (eqb a b) t) (λ h. absurd (listed_none m h), λ g. absurd (T_not (eqb a b) t g.remaps))

    by_redistribute : (v ≡ entry → ⊥) → (t : ℕ) (r : Mapping) → T (is_listed m (given_by file a v (Redistribute t r))) ↔ GivesBy (Redistribute t r)
    by_redistribute other t r = (
      λ h. let g = all.0 h in
          let x : Alignment = record { template = t; exchanged = g.0 } in
          let p = (alignments_exact formed a in_a v other x g.1).0 g.2 in
          let with-t : T (eqb ((state_by file p.before).aligned a).template t) = (eqb_iff _ t).1 (ap (λ (y : Alignment). y.template) p.is) in
          record {
            before = p.before;
            path = p.path;
            remaps = with-t;
            is = redistributed t r (state_by file p.before) with-t ∙ ap (λ (y : Alignment). turned y.exchanged r) p.is ∙ g.3;
          },
      λ g. let y = (state_by file g.before).aligned a in
          let b : BringsAligned file a v y = record { before = g.before; path = g.path; is = refl } in
          let small = (brings_right formed a in_a v other y b).1 in
          let e : code y ≡ 2 * t + y.exchanged = ap (λ (n : ℕ). 2 * n + y.exchanged) ((eqb_iff y.template t).0 g.remaps) in
          all.1 (
            y.exchanged,
            small,
            subst (λ (k : ℕ). T (has (get_or (align_sets file a) v 0) k)) e ((alignments_exact formed a in_a v other y small).1 b),
            sym (redistributed t r (state_by file g.before) g.remaps) ∙ g.is,
          ),
    )
      where
        all : T (is_listed m (given_by file a v (Redistribute t r))) ↔ ((e : ℕ) × (e < 2) × T (has (get_or (align_sets file a) v 0) (2 * t + e)) × (turned e r ≡ m))
        all = listed_rows m (λ e. has (get_or (align_sets file a) v 0) (2 * t + e)) (λ e. turned e r) 2

    by_directive : (d : Directive) → (v ≡ entry → d ≡ Nothing) → T (is_listed m (given_by file a v d)) ↔ GivesBy d
    by_directive Nothing first = (λ h. absurd (listed_none m h), λ g. absurd g.remaps)
    by_directive (Realign b x) first = by_realign (λ e. let z : ◌≡◌ {A = ℕ} 0 1 = cc (first e) in omega arith) b x
    by_directive (Redistribute t r) first = by_redistribute (λ e. let z : ◌≡◌ {A = ℕ} 0 1 = cc (first e) in omega arith) t r

    -- the list holds m exactly if on some path the directive at v remaps the array and gives it m
    pub given_exact : T (is_listed m (given_to file a v)) ↔ Gives file a v m
    unfolding given_to
    given_exact =
        let f = by_directive (directive file v) (λ e. ap (directive file) e ∙ formed.entry_silent) in (
          λ h. let g = f.0 h in record { before = g.before; path = g.path; remaps = g.remaps; is = g.is },
          λ g. f.1 (record { before = g.before; path = g.path; remaps = g.remaps; is = g.is }),
        )

  -- ---- versions

  abbrev all : List Mapping
  all = versions_of file a

  -- what a directive gives is one of them
  pub given_listed : {v : ℕ} {m : Mapping} → Gives file a v m → T (is_listed m all)
  given_listed {v} {m} g =
      numbered_all (initial_mapping file a) (given_to file a) (vertices file) v m (arrives_below formed g.before v g.path) ((given_exact v m).1 g)

  -- and so is the initial mapping, with number 0
  pub initial_listed : T (is_listed (initial_mapping file a) all)
  initial_listed =
      listed_head (initial_mapping file a) all (numbered_some (initial_mapping file a) (given_to file a) (vertices file))
      (numbered_first (initial_mapping file a) (given_to file a) (vertices file) (initial_mapping file a))

  pub initial_number : version_in all (initial_mapping file a) ≡ 0
  initial_number = number_head (initial_mapping file a) all (numbered_first (initial_mapping file a) (given_to file a) (vertices file) (initial_mapping file a))

  -- after a vertex the array is in a mapping that the directive gives, or in the one before it
  after_either : (p : List ℕ) (u : ℕ) → Arrives (edge_bytes file) p u → T (is_listed (mapping (state_by file p) a) all) → T (is_listed (mapping_after file p u a) all)
  after_either p u path h = ⊎_elim
      (λ t. given_listed (record { before = p; path = path; remaps = t; is = refl }))
      (λ t. subst (λ (m : Mapping). T (is_listed m all)) (sym (unmoved (state_by file p) (directive file u) a (is_false _ t))) h)
      (either (remaps_in (state_by file p) (directive file u) a))

  -- every mapping that a path brings is one of the versions: 41 counts all that some path can give
  brought_listed : (before : List ℕ) (v : ℕ) → Arrives (edge_bytes file) before v → T (is_listed (mapping (state_by file before) a) all)
  unfolding along
  brought_listed [] v path = initial_listed
  brought_listed (u ∷ us) v path =
      by_path formed (λ p x. T (is_listed (mapping (state_by file p) a) all))
      (λ x e. subst (λ (s : State). T (is_listed (mapping s a) all)) (sym (state_first formed)) initial_listed)
      (λ p u x path other e h. subst (λ (s : State). T (is_listed (mapping s a) all)) (sym (state_next file p u)) (after_either p u path h))
      u us v path

  pub after_listed : (p : List ℕ) (u : ℕ) → Arrives (edge_bytes file) p u → T (is_listed (mapping_after file p u a) all)
  after_listed p u path = after_either p u path (brought_listed p u path)
