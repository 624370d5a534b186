use Rattle.std.proofs.Common.{◌≡◌, [], ◌∷◌, ◌++◌, OnOk, subst, ap, ◌∙◌}
use Rattle.std.specs.Prelude.{map}
use Rattle.edi_calls.specs.Names.{with_at}
use Rattle.edi_calls.specs.Ready.{child}
use Rattle.edi_unit.specs.View.{acts, act_of, unit_of}
use Rattle.edi_meaning.specs.Whole as whole
use Rattle.edi_walk.specs.Data.{cell_of, spot_of}
use Rattle.edi_walk.specs.Memory.{instance_of, store_of}
use Rattle.edi_walk.specs.declared.walker.Walker as code_walker
use Rattle.edi_walk.proofs.Births.{child_begun}
use Rattle.edi_walk.proofs.walker.Walker.begin.Goals as goal

pub returns-clause-exact : goal.returns-clause-exact
returns-clause-exact c =
    let old = c.args.self.now in
    let U = unit_of old.evaluation.unit.now in
    let e = old.evaluation in
    let fork = c.args.fork.now in
    let name = c.in_ok-name.name in
    let store = store_of e.memory in
    child_begun c.add.result fork c.args.i c.args.number old (record c.enlist.new.self { listed = c.add.new.items }) c.begin.new.self name c.in_ok-process.process
    (acts (map act_of c.body.result.now))
    (c.in_ok-name.ensures.exact ∙ ap (λ p. child p fork.number c.args.i) c.deref.ensures.value)
    (c.in_ok-process.ensures.named ∙ c.deref-2.ensures.value)
    c.in_ok-process.ensures.size.0 c.in_ok-process.ensures.size.1 c.in_ok-process.ensures.size.2 c.in_ok-process.ensures.work c.body.ensures.exact
    (c.in_ok-begin.ensures.exact
    ∙ ap (λ n. with_at store n (instance_of c.in_ok-instance.instance ∷ [])) c.deref-3.ensures.value
    ∙ ap (λ i. with_at store name.items (i ∷ []))
    (c.in_ok-instance.ensures.exact
    ∙ ap (λ s. whole.instance_of U e.name.items e.size c.args.number s (map cell_of c.new.result.items)) c.in_ok-parent.ensures.exact
    ∙ ap (λ l. whole.instance_of U e.name.items e.size c.args.number (spot_of fork.parent) (map cell_of l)) c.new.ensures.items))
    (ap (λ (x : code_walker.Walker). x.evaluation) c.enlist.ensures.others)
    c.in_ok-enlist.ensures.exact
    (subst (λ l. OnOk c.add.result (c.add.new.items.items ≡ l ++ name ∷ [])) (ap (λ (x : code_walker.Walker). x.listed.items) c.enlist.ensures.others) c.add.ensures.exact)
