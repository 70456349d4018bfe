-- Laws of the fold along a path, and induction on the paths of one edge or more from the entry.
-- Assumes nothing.
use mathlib.Core.Path.{◌≡◌, refl, sym, ap, subst}
use mathlib.Core.Bool.{Bool, false, cond}
use mathlib.Core.List.{List, [], ◌∷◌, ◌++◌, append_assoc}
use Prim.Native.Nat.{ℕ, ◌<◌}
use Rattle.flow.specs.Paths.{Edge, Joined}
use Rattle.labels.proofs.Rules.Arrivals.{reached_exact, reached_below, arrives_append}
use Rattle.labels.specs.Reaching.{Arrives}
use Rattle.directives.specs.Directives.{directive}
use Rattle.directives.specs.Layout.{vertices, entry, edge_bytes}
use Rattle.directives.specs.declared.vertex.Directive.{Directive}
use Rattle.directives.specs.declared.vertex.Directive.TheVariants.{Nothing, Realign, Redistribute}
use Rattle.mappings.specs.Along.{State, turned, initial_state, after, along, state_by, mapping, remaps_in}
use Rattle.mappings.specs.Theorem.{Formed}

-- ---- one directive

-- one that does not remap the array leaves its mapping
pub unmoved : (s : State) (d : Directive) (a : ℕ) → remaps_in s d a ≡ false → mapping (after d s) a ≡ mapping s a
unmoved s Nothing a h = refl
unmoved s (Realign b x) a h = ap (λ (c : Bool). turned (cond c x (s.aligned a)).exchanged (s.spread (cond c x (s.aligned a)).template)) h
unmoved s (Redistribute t m) a h = ap (λ (c : Bool). turned (s.aligned a).exchanged (cond c m (s.spread (s.aligned a).template))) h

-- ---- one vertex on

pub along-append : (file : List ℕ) (s : State) (us vs : List ℕ) → along file s (us ++ vs) ≡ along file (along file s us) vs
unfolding along
along-append file s [] vs = refl
along-append file s (u ∷ us) vs = along-append file (after (directive file u) s) us vs

pub state_next : (file p : List ℕ) (u : ℕ) → state_by file (p ++ u ∷ []) ≡ after (directive file u) (state_by file p)
unfolding along
state_next file p u = along-append file (initial_state file) p (u ∷ [])

-- ---- paths from the entry

module _ {file : List ℕ} (formed : Formed file) where
  abbrev es : List ℕ
  es = edge_bytes file

  -- the entry changes nothing
  pub entry-after : after (directive file entry) (initial_state file) ≡ initial_state file
  entry-after = ap (λ (d : Directive). after d (initial_state file)) formed.entry_silent

  pub state_first : state_by file (entry ∷ []) ≡ initial_state file
  unfolding along
  state_first = entry-after

  -- a path ends at a vertex of the file
  pub arrives_below : (before : List ℕ) (v : ℕ) → Arrives es before v → v < vertices file
  arrives_below before v path = reached_below formed.ends formed.some_vertex v ((reached_exact formed.ends v).1 (before, path))

  -- what holds after the first edge, and of a path and one more edge, holds of every path of one edge or more
  module _ (Q : List ℕ → ℕ → Type 0) (first : (x : ℕ) → Edge es entry x → Q (entry ∷ []) x)
      (next : (p : List ℕ) (u x : ℕ) → Arrives es p u → (u ≡ entry → ⊥) → Edge es u x → Q p u → Q (p ++ u ∷ []) x) where
    pub by_path : (u : ℕ) (us : List ℕ) (v : ℕ) → Arrives es (u ∷ us) v → Q (u ∷ us) v
    by_path u us v path = subst (λ (x : ℕ). Joined es x us v → Q (x ∷ us) v) (sym path.0) (begins us) path.1
      where
        inner : (u x : ℕ) → Edge es u x → x ≡ entry → ⊥
        inner u x e y = formed.none_enters u (subst (Edge es u) y e)

        goes : (us p : List ℕ) (u : ℕ) → Arrives es p u → (u ≡ entry → ⊥) → Q p u → Joined es u us v → Q (p ++ u ∷ us) v
        goes [] p u path other h e = next p u v path other e h
        goes (x ∷ us) p u path other h e =
            subst (λ (l : List ℕ). Q l v) (append_assoc p (u ∷ []) (x ∷ us))
            (goes us (p ++ u ∷ []) x (arrives_append es p u [] x path e.0) (inner u x e.0) (next p u x path other e.0 h) e.1)

        begins : (us : List ℕ) → Joined es entry us v → Q (entry ∷ us) v
        begins [] e = first v e
        begins (x ∷ us) e = goes us (entry ∷ []) x (refl, e.0) (inner entry x e.0) (first x e.0) e.1
