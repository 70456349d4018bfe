-- Vertices that are entered from earlier ones: each is reached.
-- Assumes nothing.
use mathlib.Core.Path.{◌≡◌, ◌∙◌}
use mathlib.Core.Bool.{false}
use mathlib.Core.List.{List, ◌++◌}
use Prim.Native.Nat.{ℕ, zero, suc, ◌+◌, ◌≤◌, ◌<◌}
use native.Mathlib.Omega.{arith}
use borrow.Author.Tests.{eqb-false}
use lib.Dec.{T, eqb}
use lib.ListN.{length, get_or, set, replicate, take, drop, length-append, length-drop}
use lib.Seq.{length-take-le}
use Rattle.labels.proofs.Rules.Arrivals.{reached_next}
use Rattle.labels.proofs.Rules.Proper.{edge_count_lem, edge_from_lem, edge_to_is, ends_within_lem}
use Rattle.labels.specs.Reaching.{is_reached_over, is_reached}
use Rattle.passes.specs.Marks.{Follows, Marked, AllReached}
use Rattle.routine.specs.Edges.{edge_of}
use Rattle.routine.specs.Layout.{vertices, edges}
use Rattle.routine.specs.Reader.{WellFormed}
use Rattle.words.proofs.Sums.{each_fails}
use Rattle.words.proofs.Tables.{at_set, zeros_at}
use Rattle.words.specs.Sums.{any_below}

-- marks take the first n entries of a work slice
pub marks_back : (n : ℕ) (slice marks : List ℕ) → n ≤ length slice → length marks ≡ length (take n slice) → length (marks ++ drop n slice) ≡ length slice
marks_back n slice marks room e =
    let sum : length marks + length (drop n slice) ≡ length slice = omega (arith, e, length-take-le n slice room, length-drop n slice, room) in
    length-append marks (drop n slice) ∙ sum

module _ (file : List ℕ) where
  -- what a mark says
  abbrev Says : ℕ → ℕ → Type 0
  Says v mark = (mark ≡ 0 → ⊥) → Follows file v

  entry_reached : T (is_reached file 0)
  unfolding is_reached_over
  entry_reached = tt

  pub marks_begin : (n : ℕ) → Marked file (set (replicate n 0) 0 1)
  marks_begin n = record {
    follows = λ v. at_set Says (replicate n 0) 0 1 v (λ some earlier. entry_reached) (λ some. absurd (some (zeros_at n v)));
  }

module _ {file marks : List ℕ} (w : WellFormed file) (marked : Marked file marks) where
  -- edge i leaves an earlier vertex
  pub marks_next : (i : ℕ) → i < edges file → (edge_of file i).from < (edge_of file i).to → Marked file (set marks (edge_of file i).to 1)
  marks_next i in_edges less = record {
    follows = λ v. at_set (Says file) marks (edge_of file i).to 1 v
        (λ some earlier. reached_next (ends_within_lem file w) (edge_of file i).from (edge_of file i).to (earlier (edge_of file i).from less)
        (record { place = i; listed = omega (arith, edge_count_lem file w.laid); leaves = edge_from_lem file i; enters = edge_to_is file i }))
        (marked.follows v);
  }

  -- none is unmarked
  pub all_marked : length marks ≡ vertices file → any_below (λ v. eqb (get_or marks v 0) 0) (length marks) ≡ false → AllReached file
  all_marked size none = record { reached = λ v h. below (suc v) (omega arith) v (omega arith) }
    where
      below : (n : ℕ) → n ≤ vertices file → (v : ℕ) → v < n → T (is_reached file v)
      below zero h v l = absurd (omega arith)
      below (suc n) h v l =
          marked.follows v
          (eqb-false (get_or marks v 0) 0 (each_fails (λ u. eqb (get_or marks u 0) 0) (length marks) none v (omega arith)))
          (λ u k. below n (omega arith) u (omega arith))
