-- Laws of paths: the two definitions are one, paths grow at either end, and a path is cut at its first inner vertex of a kind.
-- Assumes nothing.
use mathlib.Core.Path.{subst}
use mathlib.Core.Bool.{Bool, not, ◌&&◌}
use mathlib.Core.List.{List, [], ◌∷◌}
use mathlib.Core.Logic.{◌↔◌, ◌⊎◌, inl, inr, ⊎_elim}
use Prim.Native.Nat.{ℕ, ◌<◌}
use lib.Dec.{T}
use lib.Ieee.Fits.{and_i}
use Rattle.flow.specs.Paths.{Edge, Path, last, next, Joined, AllPass, ListPath}
use Rattle.flow.specs.Solver.{Ends}
use Rattle.words.proofs.Tests.{either}

-- ---- a path and a list of vertices are the same

to_list : {es : List ℕ} {through : ℕ → Bool} {v w : ℕ} → Path es through v w → ListPath es through v w
to_list (last e) = record { inner = []; joined = e; pass = tt }
to_list (next {u} e h t) =
    let l = to_list t in
    record { inner = u ∷ l.inner; joined = (e, l.joined); pass = (h, l.pass) }

of_list : {es : List ℕ} {through : ℕ → Bool} {v w : ℕ} (us : List ℕ) → Joined es v us w → AllPass through us → Path es through v w
of_list [] e h = last e
of_list (u ∷ us) e h = next e.0 h.0 (of_list us e.1 h.1)

-- the paths by induction are the paths as lists of vertices
pub list_iff : (es : List ℕ) (through : ℕ → Bool) (v w : ℕ) → Path es through v w ↔ ListPath es through v w
list_iff es through v w = (to_list, λ l. of_list l.inner l.joined l.pass)

-- ---- growth

-- a path through vertices of one kind is one through vertices of any wider kind
pub weaken : {es : List ℕ} {p q : ℕ → Bool} {v w : ℕ} → ((u : ℕ) → T (p u) → T (q u)) → Path es p v w → Path es q v w
weaken f (last e) = last e
weaken f (next {u} e h t) = next e (f u h) (weaken f t)

-- two paths that meet at a vertex of the kind make one
append : {es : List ℕ} {p : ℕ → Bool} {v u w : ℕ} → Path es p v u → T (p u) → Path es p u w → Path es p v w
append (last e) h s = next e h s
append (next e g t) h s = next e g (append t h s)

-- a path and one more edge at its end
pub extend : {es : List ℕ} {p : ℕ → Bool} {v u w : ℕ} → Path es p v u → T (p u) → Edge es u w → Path es p v w
extend t h e = append t h (last e)

-- ---- a path cut at an inner vertex

-- a vertex that passes p and q, a path to it through `before` and one from it through `after`
pub record Via (es : List ℕ) (p q before after : ℕ → Bool) (v w : ℕ) : Type 0 where
  pub vertex : ℕ
  pub passes : T (p vertex)
  pub meets : T (q vertex)
  pub arrives : Path es before v vertex
  pub leaves : Path es after vertex w

-- the same with one more edge in front
ahead : {es : List ℕ} {p q before after : ℕ → Bool} {v u w : ℕ} → Edge es v u → T (before u) → Via es p q before after u w → Via es p q before after v w
ahead e h s = record { vertex = s.vertex; passes = s.passes; meets = s.meets; arrives = next e h s.arrives; leaves = s.leaves }

-- a path has no inner vertex that passes q, or is cut at the first one
pub split_first : {es : List ℕ} {p : ℕ → Bool} {v w : ℕ} (q : ℕ → Bool) → Path es p v w
    → Path es (λ u. p u && not (q u)) v w ⊎ Via es p q (λ u. p u && not (q u)) p v w
split_first q (last e) = inl (last e)
split_first {p} q (next {u} e h t) =
    ⊎_elim
    (λ m. inr (record { vertex = u; passes = h; meets = m; arrives = last e; leaves = t }))
    (λ m. let k = and_i (p u) (not (q u)) h m in ⊎_elim (λ s. inl (next e k s)) (λ s. inr (ahead e k s)) (split_first q t))
    (either (q u))

-- ---- both ends of a path are among the vertices

edge_ends : {es : List ℕ} {n v w : ℕ} → Ends es n → Edge es v w → (v < n) × (w < n)
edge_ends {n} ends e =
    (subst (λ (x : ℕ). x < n) e.leaves (ends.froms e.place e.listed), subst (λ (x : ℕ). x < n) e.enters (ends.tos e.place e.listed))

-- where all edges end among n vertices, so do all paths
pub path_ends : {es : List ℕ} {p : ℕ → Bool} {n v w : ℕ} → Ends es n → Path es p v w → (v < n) × (w < n)
path_ends ends (last e) = edge_ends ends e
path_ends ends (next e h t) = ((edge_ends ends e).0, (path_ends ends t).1)
