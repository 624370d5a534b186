use Rattle.std.proofs.Common.{refl, ap, ◌∙◌}
use Rattle.edi_walk.specs.declared.walker.Walker as code_walker
use Rattle.edi_calls.specs.Ready.{parent_of}
use Rattle.edi_calls.specs.Names.{without}
use Rattle.edi_walk.specs.Memory.{store_of}
use Rattle.edi_walk.specs.Processes.{without_named}
use Rattle.edi_walk.proofs.Exits.{gone_holds, leaves_alone, leaves_parent}
use Rattle.edi_walk.proofs.walker.Walker.leave.Goals as goal

pub returns-in-Some-clause-exact : goal.returns-in-Some-clause-exact
returns-in-Some-clause-exact c index =
    let old = c.args.self.now in
    let w = c.remove.new.self in
    let mid : code_walker.Walker = record w { evaluation = record w.evaluation { memory = c.end.new.self } } in
    let named = c.replace-name.ensures.value in
    let memory = ap (λ (x : code_walker.Walker). x.evaluation.memory) c.remove.ensures.others in
    leaves_parent index old mid c.notify.new.self c.parent_of-parent.result.now c.in-Some.index c.notify.result c.in-Some.ensures.exact c.notify.ensures.exact
    (λ unit bound s p q world left others m. (
      gone_holds unit bound old mid index s p q world left others c.end.new.self c.replace-name.new.dest m
          (c.remove.ensures.live ∙ ap (λ n. without_named n old.live.items) (c.deref.ensures.value ∙ ap (λ n. n.items) named))
          (ap (λ (x : code_walker.Walker). record x.evaluation { memory = c.end.new.self }) c.remove.ensures.others)
          (c.end.ensures.exact ∙ ap (λ k. without (store_of k) c.deref-2.result.now) memory
          ∙ ap (λ n. without (store_of old.evaluation.memory) n) (c.deref-2.ensures.value ∙ ap (λ n. n.items) named))
          (ap (λ (x : code_walker.Walker). x.listed) c.remove.ensures.others),
      c.parent_of-parent.ensures.exact ∙ ap parent_of (c.deref-3.ensures.value ∙ ap (λ n. n.items) named ∙ m.name),
    ))

pub returns-clause-exact : goal.returns-clause-exact
returns-clause-exact c index =
    let old = c.args.self.now in
    let w = c.remove.new.self in
    let mid : code_walker.Walker = record w { evaluation = record w.evaluation { memory = c.end.new.self } } in
    let named = c.replace-name.ensures.value in
    let memory = ap (λ (x : code_walker.Walker). x.evaluation.memory) c.remove.ensures.others in
    leaves_alone index old mid c.parent_of-parent.result.now (c.in-None.ensures.none refl)
    (λ unit bound s p q world left others m. (
      gone_holds unit bound old mid index s p q world left others c.end.new.self c.replace-name.new.dest m
          (c.remove.ensures.live ∙ ap (λ n. without_named n old.live.items) (c.deref.ensures.value ∙ ap (λ n. n.items) named))
          (ap (λ (x : code_walker.Walker). record x.evaluation { memory = c.end.new.self }) c.remove.ensures.others)
          (c.end.ensures.exact ∙ ap (λ k. without (store_of k) c.deref-2.result.now) memory
          ∙ ap (λ n. without (store_of old.evaluation.memory) n) (c.deref-2.ensures.value ∙ ap (λ n. n.items) named))
          (ap (λ (x : code_walker.Walker). x.listed) c.remove.ensures.others),
      c.parent_of-parent.ensures.exact ∙ ap parent_of (c.deref-3.ensures.value ∙ ap (λ n. n.items) named ∙ m.name),
    ))
