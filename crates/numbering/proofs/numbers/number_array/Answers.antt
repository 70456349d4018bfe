-- `numbers::number_array` meets its contract: the array's list has room.
use mathlib.Core.Path.{refl}
use Rattle.numbering.proofs.numbers.number_array.Goals as goal

pub number_with-requires : goal.number_with-requires
number_with-requires c =
    record {
      a_bound = c.requires.a_bound;
      alignments = c.requires.alignments;
      spreads = c.requires.spreads;
      given_len = c.requires.given_len;
      list_len = refl;
    }
