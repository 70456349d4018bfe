-- One array along a whole path, for any sound plan: the run's records are the machine's, out and inout end home, and copies are no more
-- than the machine counts.
-- Assumes nothing.
use mathlib.Core.Path.{◌≡◌, refl, ap, subst, ◌∙◌}
use mathlib.Core.Bool.{Bool, true, false≢true}
use Prim.Native.Nat.{ℕ, zero, suc, ◌+◌, ◌≤◌, ◌<◌}
use native.Mathlib.Omega.{arith}
use borrow.Author.Tests.{eqb-true, eq-eqb, ne_eqb, not-false}
use lib.Dec.{T, eqb, lit≤}
use lib.ListN.{get_or, set, replicate, length-set}
use lib.Seq.{get_or-set_same}
use Rattle.flow.specs.Paths.{Edge}
use Rattle.routine.specs.Arrays.{is_in_or_inout, is_out_or_inout}
use Rattle.labels.specs.Uses.{is_n}
use Rattle.labels.specs.declared.Use.{Use}
use Rattle.labels.specs.declared.Use.TheVariants.{W}
use Rattle.routine.specs.Actions.{is_reference}
use Rattle.routine.specs.declared.action.Action.TheVariants.{Remap}
use Rattle.routine.specs.declared.array.ArrayRecord.{ArrayRecord}
use Rattle.words.proofs.Tests.{at_cond}
use Rattle.sets.specs.Sets.{has, width}
use Rattle.sets.proofs.Laws.{has_single, single_is, has_zero}
use Rattle.state.specs.States.{State, stamp_of}
use Rattle.state.specs.Fits.{Fits}
use Rattle.demand.specs.Machine.{Machine, machine_start, machine_step}
use Rattle.report.specs.Records.{records_at}
use Rattle.state.specs.Exit.{left}
use Rattle.state.specs.Moves.{is_d}
use Rattle.state.specs.References.{referenced}
use Rattle.state.specs.Start.{started}
use Rattle.state.specs.Vertex.{labelled, visited}
use Rattle.state.proofs.Exit.{left_stays, left_copies}
use Rattle.state.proofs.Fits.{started_fits, step_fits}
use Rattle.state.proofs.States.{below_current}
use Rattle.demand.proofs.Labels.{Matches, Labelled, labelled_does}
use Rattle.demand.proofs.Invariant.{ArrayPlan, Sound, AfterVertex, Before, label_holds, matches, used, below, visit, alike}

-- a path of n vertices, and run and machine along it
pub record Follows (p : ArrayPlan) (at : ℕ → ℕ) (n : ℕ) (run : ℕ → State) (machine : ℕ → Machine) : Type 0 where
  pub short : n ≤ 4096
  pub begins : at 0 ≡ 0
  pub joined : (i : ℕ) → suc i < n → Edge p.edges (at i) (at (suc i))
  pub run_start : run 0 ≡ started p.array
  pub run_step :
      (i : ℕ) → run (suc i) ≡ left p.array (eqb (at i) p.exit)
      (visited p.array (p.event (at i)) (p.letter (at i)) (p.keep (at i)) (i + 1) (run i))
  pub machine_start_lem : machine 0 ≡ machine_start p.array
  pub machine_step_lem : (i : ℕ) → machine (suc i) ≡ machine_step (p.event (at i)) (i + 1) (machine i)

started_matches : (r : ArrayRecord) → r.initial < width → Matches (started r) (machine_start r)
started_matches r below =
    at_cond (λ (s : State). Matches s (machine_start r)) (is_in_or_inout r.kind)
    (λ b. record {
      wide = length-set (replicate width 0) r.initial 65535;
      agree = λ k h.
          subst (λ (j : ℕ). get_or (set (replicate width 0) r.initial 65535) j 0 ≡ (machine_start r).stamp)
          (single_is r.initial k h)
          (get_or-set_same (replicate width 0) r.initial 65535 0 below ∙ (cc));
      sits = record {
        lives = λ h. has_single r.initial r.initial ∙ eq-eqb r.initial r.initial refl;
        bare = λ h. absurd (omega (arith, eqb-true r.initial 255 (not-false _ h)));
      };
      cheap = record { few = lit≤ tt; fewer = λ _ other. absurd (other refl) };
    })
    (λ b. record {
      wide = refl;
      agree = λ k h. cc (has_zero k);
      sits = record { lives = λ h. cc; bare = λ h. cc };
      cheap = record { few = lit≤ tt; fewer = λ h. absurd (false≢true h) };
    })

-- a W label leaves its version current, with the machine's stamp
labelled_home : {u : Use} {t keep : ℕ} {s : State} {m : Machine} → t < width → u ≡ W → Labelled u t keep s m
    → (s.current ≡ t) × (stamp_of s t ≡ m.stamp)
labelled_home {t} {s} below e g =
    let c = g.current (ap is_n e) in
    let h = below_current s (omega arith) in
    (c, g.agree (ap is_d e) t (subst (λ (k : ℕ). has s.live k ≡ true) c (g.sits.lives h)))

module _ {p : ArrayPlan} (sound : Sound p) {at : ℕ → ℕ} {n : ℕ} {run : ℕ → State} {machine : ℕ → Machine} (f : Follows p at n run machine) where
  pub initial_below : p.array.initial < width
  initial_below = sound.below sound.entry_remaps

  -- the state's fields fit their types
  pub fits_at : (i : ℕ) → i ≤ n → Fits (run i) i
  fits_at zero h = rw f.run_start (started_fits p.array initial_below)
  fits_at (suc i) h =
      rw (f.run_step i)
      (step_fits p.array (p.letter (at i)) (p.keep (at i)) (omega (arith, f.short)) (fits_at i (omega arith)) initial_below
      (eqb (at i) p.exit) (p.event (at i)) (λ k. sound.below))

  pub first_remaps : p.event (at 0) ≡ Remap p.array.initial
  first_remaps = ap p.event f.begins ∙ sound.entry_remaps

  start : Matches (run 0) (machine 0)
  start = rw (f.run_start, f.machine_start_lem) (started_matches p.array initial_below)

  -- the state after a vertex, before local arrays lose their copies
  abbrev after : ℕ → State
  after i = visited p.array (p.event (at i)) (p.letter (at i)) (p.keep (at i)) (i + 1) (run i)

  abbrev After : ℕ → Type 0
  After i = (label : ℕ) × AfterVertex p label (at i) (after i) (machine (suc i))

  -- a vertex that another follows is not the exit
  stays : (i : ℕ) → suc i < n → run (suc i) ≡ after i
  stays i h =
      f.run_step i
      ∙ ap (λ (b : Bool). left p.array b (after i))
      (ne_eqb (at i) p.exit (λ e. sound.exit_ends (subst (λ (v : ℕ). Edge p.edges v (at (suc i))) e (f.joined i h))))

  before : (i : ℕ) → suc i < n → After i → Before p (at (suc i)) (run (suc i)) (machine (suc i))
  before i h y =
      record { label = y.0; from = at i; holds = rw (stays i h) y.1; edge = f.joined i h; wide = (fits_at (suc i) (omega arith)).stamps.wide }

  along : (i : ℕ) → i < n → After i
  unfolding labelled referenced
  along zero h = (at 0, rw (f.machine_step_lem 0, first_remaps) (label_holds sound (at 0) p.array.initial 1 (run 0) (machine 0) first_remaps start))
  along (suc i) h = rw (f.machine_step_lem (suc i)) (visit sound (before i h (along i (omega arith))) (suc i + 1) (p.event (at (suc i))) refl)

  next : (i : ℕ) → suc i < n → Before p (at (suc i)) (run (suc i)) (machine (suc i))
  next i h = before i h (along i (omega arith))

  -- ---- what the whole path shows

  -- a reference is not the first vertex
  referring : (i : ℕ) → i < n → T (is_reference (p.event (at i))) → Before p (at i) (run i) (machine i)
  referring zero h g = absurd (rw first_remaps at g)
  referring (suc i) h g = next i h

  -- a reference uses the version that the machine holds
  pub used_at : (i : ℕ) → i < n → T (is_reference (p.event (at i))) → (run i).current ≡ (machine i).held
  used_at i h g = used sound (referring i h g) g

  -- which is below the width
  pub below_at : (i : ℕ) → i < n → T (is_reference (p.event (at i))) → (run i).current < width
  below_at i h g = below sound (referring i h g) g

  -- its record is the machine's
  pub alike_at : (i a : ℕ) → i < n
      → records_at (p.event (at i)) (i + 1) a (run i).current (stamp_of (run i) (run i).current)
      ≡ records_at (p.event (at i)) (i + 1) a (machine i).held (machine i).stamp
  alike_at zero a h = rw first_remaps
  alike_at (suc i) a h = alike sound (next i h) (suc i + 1) (p.event (at (suc i))) refl a

  -- copies are at most what the machine counts
  pub few_at : (i : ℕ) → i ≤ n → (run i).copies ≤ (machine i).count
  few_at zero h = start.cheap.few
  few_at (suc i) h = rw (f.run_step i) (rw left_copies (along i h).1.cheap.few)

  -- a label finds every live version with the machine's stamp
  pub matches_at : (i t : ℕ) → i < n → p.event (at i) ≡ Remap t → Matches (run i) (machine i)
  matches_at zero t h e = start
  matches_at (suc i) t h e = matches sound (next i h) (rw e tt)

  -- at the exit out and inout are home: current in the initial version, with the machine's stamp
  pub home_at : (i : ℕ) → i < n → at i ≡ p.exit → is_out_or_inout p.array.kind ≡ true
      → ((run (suc i)).current ≡ p.array.initial) × (stamp_of (run (suc i)) p.array.initial ≡ (machine (suc i)).stamp)
  unfolding labelled referenced
  home_at i h e k =
      let t = p.array.initial in
      let remaps = ap p.event e ∙ sound.exit_remaps k in
      let y = matches_at i t h remaps in
      let g = labelled_does p.array (p.letter (at i)) t (p.keep (at i)) (i + 1) (run i) (machine i) initial_below y in
      rw (f.run_step i ∙ left_stays p.array (eqb (at i) p.exit) (after i) k, f.machine_step_lem i, remaps)
      (labelled_home initial_below (ap p.letter e ∙ sound.exit_letter k) g)
