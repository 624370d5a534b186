-- The ranks of all states, over all links.
use Rattle.std.proofs.Common.{◌≡◌, List, length, ap, subst, ◌∙◌}
use Rattle.std.specs.Prelude.{IfSome}
use Rattle.edi_explore.specs.declared.ends.Verdict.TheVariants as verdict
use Rattle.edi_explore.specs.declared.states.Link.{Link}
use Rattle.edi_explore.specs.Links.{HaveRanks}
use Rattle.edi_explore.proofs.finding.Search.report.Goals as goal

pub returns-clause-longest : goal.returns-clause-longest
returns-clause-longest c =
    subst (λ (ls : List Link). IfSome c.longest_if-longest.result (λ n. (c.args.first ≡ verdict.All) × HaveRanks ls (length c.args.self.states.keys.keys) n))
    (c.deref.ensures.value ∙ ap (λ x. x.items) c.into_links-links.ensures)
    (subst (λ count. IfSome c.longest_if-longest.result (λ n. (c.args.first ≡ verdict.All) × HaveRanks c.deref.result.now count n)) c.len-count.ensures
    c.longest_if-longest.ensures.ranks)
