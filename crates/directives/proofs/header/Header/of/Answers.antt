-- `Header::of` meets its contract: the four counts.
use Rattle.directives.proofs.header.Header.of.Goals as goal

pub returns : goal.returns
returns c =
    record {
      value = rw (c.word_at.ensures.value, c.word_at-2.ensures.value, c.word_at-3.ensures.value, c.word_at-4.ensures.value);
      counts = record { templates_fit = c.word_at.ensures.upper_bound; arrays_fit = c.word_at-2.ensures.upper_bound; vertices_fit = c.word_at-3.ensures.upper_bound; edges_fit = c.word_at-4.ensures.upper_bound };
    }
