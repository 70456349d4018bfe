-- `number_of` meets its contract: the place of the first that is alike.
use Rattle.std.proofs.Common.{◌≡◌, sym, ap, ◌∙◌, ℕ, Option, take, rules, tests}
use Rattle.std.proofs.lemmas.List.{length-take-le}
use Rattle.std.proofs.lemmas.Iterator.{YieldsList-from_slice}
use Rattle.std.proofs.lemmas.Iterator.Search.{position_from_yields_List}
use Rattle.std.specs.List.{position}
use Rattle.std.specs.Option.{unwrap_or}
use Rattle.mappings.specs.Along.{alike}
use Rattle.numbering.proofs.Holding.{number_found}
use Rattle.numbering.proofs.list.number_of.Goals as goal

pub returns : goal.returns
returns c =
    let a = c.args in
    let place : c.position.result ≡ position (λ n. alike n a.m) (take a.count a.list.now) = position_from_yields_List (λ n. alike n a.m) _ _ c.position.result c.position.ensures.ran (YieldsList-from_slice _ c.iter.ensures.rest) (λ x b q k. search (rules, tests)) in
    c.unwrap_or.ensures ∙ ap (λ (o : Option ℕ). unwrap_or o a.count) place
    ∙ ap (unwrap_or (position (λ n. alike n a.m) (take a.count a.list.now))) (sym (length-take-le a.count a.list.now c.requires))
    ∙ number_found (take a.count a.list.now) a.m
