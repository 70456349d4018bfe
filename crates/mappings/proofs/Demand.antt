-- Request 4, whole: what holds of every file that 40, 41 and 42 pass.
-- Assumes nothing.
use Rattle.std.specs.Prelude.{Ok}
use mathlib.Core.Path.{◌≡◌, subst, ◌∙◌}
use mathlib.Core.List.{List}
use mathlib.Core.Logic.{⊎_elim}
use Prim.Native.Nat.{ℕ, ◌+◌, ◌<◌}
use lib.Dec.{T}
use lib.ListN.{get_or}
use Rattle.routine.specs.Actions.{action_byte}
use Rattle.directives.specs.Fields.{check40}
use Rattle.directives.specs.Layout.{arrays, vertices, reference_at}
use Rattle.directives.specs.declared.spread.Mapping.{Mapping}
use Rattle.mappings.specs.Computed.{given_to, versions_of, check41, check42, converted}
use Rattle.mappings.specs.Converted.{is_listed, version_in, converted_by}
use Rattle.mappings.specs.Demand.{Demand4}
use Rattle.mappings.specs.Rules.{Gives, Remaps}
use Rattle.mappings.specs.Theorem.{Accepted}
use Rattle.mappings.proofs.Bytes.{arrays_are, vertices_are, array_is, byte_is, edge_bytes_lem}
use Rattle.mappings.proofs.Faults.{few_versions, mapping_faults}
use Rattle.mappings.proofs.Formed.{formed}
use Rattle.mappings.proofs.Given.{given_exact}
use Rattle.mappings.proofs.Lists.{listed_none}
use Rattle.mappings.proofs.Numbers.{numbering}
use Rattle.mappings.proofs.Read.{converted_fits, converted_read}
use Rattle.mappings.proofs.Theorem.{byte_either, same_left, keeps_mappings}

module _ (file : List ℕ) (formed-well : check40 file ≡ Ok tt) (limited : check41 file ≡ Ok tt) (single : check42 file ≡ Ok tt) where
  accepted : Accepted file (given_to file)
  accepted =
      let f = formed file formed-well in
      record {
        formed = f;
        exact = λ a v in_a in_v. given_exact f a in_a v;
        few = few_versions file limited;
        single = λ a v in_a in_v. ((mapping_faults file formed-well).single limited).0 single v a in_v in_a;
      }

  -- the byte of an array that a directive remaps, and of one that it does not
  remapped : (a v : ℕ) (m : Mapping) → a < arrays file → v < vertices file → Gives file a v m
      → (k : ℕ) × (action_byte (converted_by file (given_to file)) a v ≡ 0x40 + k) × ((d : Mapping) → get_or (versions_of file a) k d ≡ m)
  remapped a v m in_a in_v g = ⊎_elim
      (λ p. absurd (listed_none m (subst (λ (l : List Mapping). T (is_listed m l)) p.0 ((given_exact accepted.formed a in_a v m).1 g))))
      (λ p. let (n, gives, is, byte) = p in (
        version_in (versions_of file a) n,
        byte_is file (given_to file) a v in_a in_v ∙ byte,
        λ d. is.1 d ∙ same_left accepted a in_a v in_v gives g.before g.path ∙ g.is,
      ))
      (byte_either accepted a in_a v in_v)

  kept : (a v : ℕ) → a < arrays file → v < vertices file → (Remaps file a v → ⊥) → action_byte (converted_by file (given_to file)) a v ≡ get_or file (reference_at file v a) 0
  kept a v in_a in_v none =
      byte_is file (given_to file) a v in_a in_v
      ∙ ⊎_elim (λ p. p.1) (λ p. absurd (none (record { mapped = p.0; gives = p.1 }))) (byte_either accepted a in_a v in_v)

  pub demand4 : Demand4 file
  unfolding converted
  demand4 = record {
    read = converted_read file formed-well accepted;
    fits = converted_fits file formed-well accepted;
    arrays_kept = arrays_are file (given_to file);
    vertices_kept = vertices_are file (given_to file);
    edges_kept = edge_bytes_lem file (given_to file);
    array_is = array_is file (given_to file);
    numbered = numbering accepted.formed;
    remapped = remapped;
    bytes_kept = kept;
    mappings_kept = keeps_mappings accepted;
  }
