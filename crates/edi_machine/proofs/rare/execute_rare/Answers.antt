use Rattle.std.proofs.Common.{◌∷◌, ℕ, ap, sym, ◌∙◌}
use Rattle.edi_machine.specs.Activities.{local_of}
use Rattle.edi_machine.specs.Numbers.{effect_by}
use Rattle.edi_machine.proofs.Commonly.{cobegin_found, stepped_as}
use Rattle.edi_machine.proofs.rare.execute_rare.Goals as goal

pub returns-then-is_allowed-clause-all : goal.returns-then-is_allowed-clause-all
returns-then-is_allowed-clause-all g c =
    let l = local_of c.args.store.now c.args.activity.now in
    let found = c.in-Some-get.ensures.lookup.0 in
    stepped_as g.C.Calls.state g.C.Calls.failed g.C.Calls.faults g.C.Calls.references g.C.Calls.leads c.args.words.now c.args.live c.args.first
    (c.args.number ∷ c.args.operands.now) l _
    (ap (λ (n : ℕ). effect_by c.args.words.now c.args.live c.args.first (n ∷ c.args.operands.now) l) c.in-42.is
    ∙ cobegin_found c.args.words.now c.args.live c.args.first l c.args.operands.now c.in-Some-get.branches.now _ _ c.in-len2-up-operands.len_at_least
    c.from-in-len2-up-operands.ensures c.from-then-is_allowed.ensures found.1 found.2 _ (sym c.is_allowed.ensures ∙ c.if-is_allowed.true)) _ _
    c.args.calls.now c.split.ensures.exact c.requires.working
