use Rattle.std.proofs.Common.{rules, tests, ◌-◌, is_none, sym, ◌∙◌}
use Rattle.std.proofs.lemmas.Iterator.{YieldsList-from_range}
use Rattle.std.proofs.lemmas.Iterator.Adapters.{option_map_id}
use Rattle.std.proofs.lemmas.Iterator.Search.{find_from_yields_List}
use Rattle.arena.specs.Segments.{owner_of}
use Rattle.arena.proofs.Searches.{free_found}
use Rattle.arena.proofs.segments.Segments.first_free.Goals as goal

pub returns-clause-which : goal.returns-clause-which
returns-clause-which c =
    sym (option_map_id c.find.result)
    ∙ find_from_yields_List (λ s. is_none (owner_of c.args.self.now s)) _ _ c.find.result c.find.ensures.ran
    (YieldsList-from_range c.args.from c.args.end (c.args.end - c.args.from) (cc) (cc))
    (λ x b q k. search (rules, tests))
    ∙ free_found c.args.self.now (c.args.end - c.args.from) c.args.from
