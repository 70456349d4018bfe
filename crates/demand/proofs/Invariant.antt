-- One array along a path, for any letters and kept sets with the few facts of `Sound`: the invariant of run and machine, kept from vertex
-- to vertex.
-- Assumes nothing.
use mathlib.Core.Path.{◌≡◌, refl, sym, subst, ◌∙◌}
use mathlib.Core.Bool.{true, false, not, ◌&&◌}
use mathlib.Core.List.{List}
use mathlib.Core.Logic.{◌⊎◌, inl, inr, ⊎_elim}
use Prim.Native.Nat.{ℕ, ◌<◌}
use native.Mathlib.Omega.{arith}
use lib.Dec.{T}
use lib.ListN.{length, get_or, set}
use lib.Seq.{get_or-set_same, set-get_or}
use Rattle.flow.specs.Paths.{Edge, last}
use Rattle.flow.proofs.Paths.{extend}
use Rattle.labels.specs.Events.{is_define, is_write, needs_value}
use Rattle.labels.specs.Uses.{Segment, UndefinedSegment, is_n}
use Rattle.labels.specs.declared.Use.{Use}
use Rattle.labels.specs.declared.Use.TheVariants.{N, D, R, W}
use Rattle.routine.specs.Actions.{is_reference, is_remap}
use Rattle.routine.specs.Arrays.{is_out_or_inout}
use Rattle.routine.specs.declared.action.Access.TheVariants.{Read, Define, Modify, Kill}
use Rattle.routine.specs.declared.action.Action.{Action}
use Rattle.routine.specs.declared.action.Action.TheVariants.{Nothing, Reference, Remap, Unknown}
use Rattle.routine.specs.declared.array.ArrayRecord.{ArrayRecord}
use Rattle.sets.specs.Sets.{has, width}
use Rattle.state.specs.States.{State, has_current, stamp_of, stamped}
use Rattle.demand.specs.Machine.{Machine, machine_step}
use Rattle.report.specs.Records.{records_at}
use Rattle.state.specs.Moves.{is_d}
use Rattle.state.specs.References.{referenced}
use Rattle.state.specs.Vertex.{labelled, visited}
use Rattle.state.proofs.Labels.{Agree, Sits}
use Rattle.state.proofs.States.{below_current}
use Rattle.demand.proofs.Labels.{Cheap, Matches, labelled_does}

-- one array: the routine's edges, what each vertex does with the array, the letter and kept set of each label, the array's record, the exit
pub record ArrayPlan : Type 0 where
  pub edges : List ℕ
  pub event : ℕ → Action
  pub letter : ℕ → Use
  pub keep : ℕ → ℕ
  pub array : ArrayRecord
  pub exit : ℕ

-- what the theorem needs of a plan
pub record Sound (p : ArrayPlan) : Type 0 where
  -- what N, D and R rule out
  pub unused : {v w k : ℕ} → p.event v ≡ Remap k → p.letter v ≡ N → Segment p.edges p.event v w → T (is_reference (p.event w)) → ⊥
  pub defined : {v w k : ℕ} → p.event v ≡ Remap k → p.letter v ≡ D → UndefinedSegment p.edges p.event v w → T (needs_value (p.event w)) → ⊥
  pub only_read : {v w k : ℕ} → p.event v ≡ Remap k → p.letter v ≡ R → Segment p.edges p.event v w → T (is_write (p.event w)) → ⊥
  -- the kept set of a D or W label is its own version alone
  pub alone :
      {v k : ℕ} → p.event v ≡ Remap k → is_n (p.letter v) ≡ false → (p.letter v ≡ R → ⊥)
      → (j : ℕ) → has (p.keep v) j ≡ true → j ≡ k
  -- versions are below the width
  pub below : {v k : ℕ} → p.event v ≡ Remap k → k < width
  -- the entry remaps to the initial version; so does the exit of out and inout, and its letter is W; no edge leaves the exit
  pub entry_remaps : p.event 0 ≡ Remap p.array.initial
  pub exit_remaps : is_out_or_inout p.array.kind ≡ true → p.event p.exit ≡ Remap p.array.initial
  pub exit_letter : is_out_or_inout p.array.kind ≡ true → p.letter p.exit ≡ W
  pub exit_ends : {w : ℕ} → Edge p.edges p.exit w → ⊥

-- the last label is D, and no define was met since
pub record Awaits (p : ArrayPlan) (label v : ℕ) : Type 0 where
  pub is_D : p.letter label ≡ D
  pub onward : (w : ℕ) → Edge p.edges v w → UndefinedSegment p.edges p.event label w

-- the invariant: after vertex v, `label` being the last label on the path
pub record AfterVertex (p : ArrayPlan) (label v : ℕ) (s : State) (m : Machine) : Type 0 where
  pub held : p.event label ≡ Remap m.held
  -- whichever edge is taken next, the way from the label is a segment
  pub onward : (w : ℕ) → Edge p.edges v w → Segment p.edges p.event label w
  -- a kept label's version is current
  pub kept : is_n (p.letter label) ≡ false → s.current ≡ m.held
  -- every live version has the machine's stamp, or a define must come first
  pub value : Agree s m.stamp ⊎ Awaits p label v
  -- at D and W nothing but the held version is live
  pub alone :
      is_n (p.letter label) ≡ false → (p.letter label ≡ R → ⊥) → (k : ℕ) → has s.live k ≡ true → k ≡ m.held
  pub sits : Sits s m.stamp
  pub cheap : Cheap s m

-- on the way to vertex w
pub record Before (p : ArrayPlan) (w : ℕ) (s : State) (m : Machine) : Type 0 where
  pub label : ℕ
  pub from : ℕ
  pub holds : AfterVertex p label from s m
  pub edge : Edge p.edges from w
  pub wide : length s.stamps ≡ width

-- ---- letters

pub D_or_not : (u : Use) → (u ≡ D) ⊎ (is_d u ≡ false)
D_or_not N = inr refl
D_or_not D = inl refl
D_or_not R = inr refl
D_or_not W = inr refl

not_N : (u : Use) → (u ≡ N → ⊥) → is_n u ≡ false
not_N N h = absurd (h refl)
not_N D h = refl
not_N R h = refl
not_N W h = refl

module _ {p : ArrayPlan} (sound : Sound p) where
  -- ---- a label
  pub label_holds : (w t step : ℕ) (s : State) (m : Machine) → p.event w ≡ Remap t → Matches s m
      → AfterVertex p w w (labelled p.array (p.letter w) t (p.keep w) s) (machine_step (Remap t) step m)
  label_holds w t step s m e y =
      let g = labelled_does p.array (p.letter w) t (p.keep w) step s m (sound.below e) y in
      record {
        held = e;
        onward = λ x d. last d;
        kept = g.current;
        value = ⊎_elim (λ d. inr (record { is_D = d; onward = λ x f. last f })) (λ d. inl (g.agree d)) (D_or_not (p.letter w));
        alone = λ n c. g.alone n (sound.alone e n c);
        sits = g.sits;
        cheap = g.cheap;
      }

  -- ---- the next vertex
  module _ {w : ℕ} {s : State} {m : Machine} (b : Before p w s m) where
    open b use {label, edge, wide, holds as i}

    -- a read, a modify or a label finds every live version with the machine's stamp
    valued : T (needs_value (p.event w)) → Agree s m.stamp
    valued n = ⊎_elim (λ a. a) (λ a. absurd (sound.defined i.held a.is_D (a.onward w edge) n)) i.value

    pub matches : T (needs_value (p.event w)) → Matches s m
    matches n = record { wide = wide; agree = valued n; sits = i.sits; cheap = i.cheap }

    module _ (f : T (is_reference (p.event w))) where
      kept : is_n (p.letter label) ≡ false
      kept = not_N (p.letter label) (λ n. sound.unused i.held n (i.onward w edge) f)

      -- a reference uses the held version
      pub used : s.current ≡ m.held
      used = i.kept kept

      pub below : s.current < width
      below = omega (arith, used, sound.below i.held)

      current : has_current s ≡ true
      current = below_current s below

      current_live : has s.live s.current ≡ true
      current_live = i.sits.lives current

      -- a read or modify sees the machine's stamp
      seen : T (needs_value (p.event w)) → stamp_of s s.current ≡ m.stamp
      seen n = valued n s.current current_live

    passes : T (not (is_remap (p.event w))) → (x : ℕ) → Edge p.edges w x → Segment p.edges p.event label x
    passes n x e = extend (i.onward w edge) n e

    -- a vertex that changes nothing
    quiet : T (not (is_remap (p.event w))) → T (not (is_remap (p.event w)) && not (is_define (p.event w))) → AfterVertex p label w s m
    quiet n u =
        record {
          held = i.held;
          onward = passes n;
          kept = i.kept;
          value = ⊎_elim inl (λ a. inr (record { is_D = a.is_D; onward = λ x e. extend (a.onward w edge) u e })) i.value;
          alone = i.alone;
          sits = i.sits;
          cheap = i.cheap;
        }

    -- a define or modify: nothing but the current version is live, and it gets the step number
    writes : (step : ℕ) → T (is_reference (p.event w)) → T (is_write (p.event w)) → T (not (is_remap (p.event w)))
        → AfterVertex p label w (stamped step s)
        (record { held = m.held; stamp = step; count = m.count })
    writes step f c n =
        let alone = i.alone (kept f) (λ e. sound.only_read i.held e (i.onward w edge) c) in
        record {
          held = i.held;
          onward = passes n;
          kept = i.kept;
          value = inl λ k h.
              subst (λ (j : ℕ). get_or (set s.stamps s.current step) j 0 ≡ step) (used f ∙ sym (alone k h))
              (get_or-set_same s.stamps s.current step 0 (omega (arith, below f)));
          alone = λ _ _. alone;
          sits = record { lives = λ _. current_live f; bare = λ h. cc (current f) };
          cheap = record { few = i.cheap.few; fewer = i.cheap.fewer };
        }

    -- the next vertex, by what it does
    pub visit : (step : ℕ) (x : Action) → p.event w ≡ x
        → (next : ℕ) × AfterVertex p next w (visited p.array x (p.letter w) (p.keep w) step s) (machine_step x step m)
    unfolding labelled referenced
    visit step Nothing e = (label, quiet (rw e tt) (rw e tt))
    visit step (Reference Read) e = (label, rw (set-get_or s.stamps s.current 0) (quiet (rw e tt) (rw e tt)))
    visit step (Reference Define) e = (label, writes step (rw e tt) (rw e tt) (rw e tt))
    visit step (Reference Modify) e = (label, writes step (rw e tt) (rw e tt) (rw e tt))
    visit step (Reference Kill) e = (label, writes 0 (rw e tt) (rw e tt) (rw e tt))
    visit step (Remap t) e = (w, label_holds w t step s m e (matches (rw e tt)))
    visit step Unknown e = (label, quiet (rw e tt) (rw e tt))

    -- the record is the machine's
    pub alike : (step : ℕ) (x : Action) → p.event w ≡ x → (a : ℕ)
        → records_at x step a s.current (stamp_of s s.current) ≡ records_at x step a m.held m.stamp
    alike step Nothing e a = refl
    alike step (Reference Read) e a = cc (used (rw e tt), seen (rw e tt) (rw e tt))
    alike step (Reference Define) e a = cc (used (rw e tt))
    alike step (Reference Modify) e a = cc (used (rw e tt), seen (rw e tt) (rw e tt))
    alike step (Reference Kill) e a = cc (used (rw e tt))
    alike step (Remap t) e a = refl
    alike step Unknown e a = refl
