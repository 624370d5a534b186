use Rattle.std.proofs.Common.{refl, sym, ap, ◌∙◌}
use Rattle.edi_walk.specs.declared.walker.Walker as code_walker
use Rattle.edi_meaning.specs.Store.{now, shape}
use Rattle.edi_walk.specs.Memory.{store_of}
use Rattle.edi_walk.proofs.Births.{all_parted}
use Rattle.edi_walk.proofs.Onward.{got_there}
use Rattle.edi_walk.proofs.walker.Walker.parted.Goals as goal

pub returns-clause-exact : goal.returns-clause-exact
returns-clause-exact c =
    let old = c.args.self.now in
    let p = c.index.result.now in
    all_parted c.begin_all.result c.args.index c.args.share c.args.branches.now old c.wait.new.self c.begin_all.new.self
    (record { parent = record { name = c.replace-name.result; depth = c.newest-depth.result }; number = c.saturating_add-number.result; share = c.args.share }) p
    c.replace-name.new.dest (got_there old.live.items c.args.index p c.requires.inside c.index.ensures) (ap (λ n. n.items) c.replace-name.ensures.value) refl
    c.saturating_add-number.ensures (ap (λ n. (n, c.newest-depth.result)) (sym c.deref.ensures.value) ∙ c.newest-depth.ensures.exact
    ∙ ap (now (shape (store_of old.evaluation.memory))) (c.deref.ensures.value ∙ ap (λ n. n.items) c.replace-name.ensures.value)) c.wait.ensures.live
    (ap (λ (x : code_walker.Walker). x.evaluation) c.wait.ensures.others) (ap (λ (x : code_walker.Walker). x.listed) c.wait.ensures.others) c.begin_all.ensures.exact
