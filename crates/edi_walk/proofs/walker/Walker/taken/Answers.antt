use Rattle.std.proofs.Common.{[], Ok, Err, refl, subst, ap}
use Rattle.edi_told.proofs.Told.{WhereTold-map}
use Rattle.std.specs.Vec.{with_item}
use Rattle.edi_walk.specs.declared.process.Process as code_process
use Rattle.edi_walk.specs.declared.walker.Walker as code_walker
use Rattle.edi_walk.specs.Processes.{work_of}
use Rattle.edi_walk.specs.Works.{Local}
use Rattle.edi_walk.proofs.Onward.{got_there, one_there, taken_goes, taken_stops}
use Rattle.edi_walk.proofs.Working.{calm_blames}
use Rattle.edi_walk.proofs.walker.Walker.taken.Goals as goal

pub returns-in-Ok-clause-exact : goal.returns-in-Ok-clause-exact
returns-in-Ok-clause-exact g c =
    let old = c.args.self.now in
    let xs = old.live.items in
    let i = c.args.index in
    let p = c.index_mut.result.now in
    let there = got_there xs i p c.requires.inside c.index_mut.ensures.value in
    let sized = ap (λ (x : code_process.Process). x.size)
    (one_there xs i c.index.result.now p (got_there xs i c.index.result.now c.requires.inside c.index.ensures) there) in
    let stood = ap (λ (x : code_process.Process). x.standing)
    (one_there xs i c.index-2.result.now p (got_there xs i c.index-2.result.now c.requires.inside c.index-2.ensures) there) in
    let first = record old.evaluation { name = c.args.name; size = c.index.result.now.size } in
    let process = record p { work = c.local.new.work } in
    let mid : code_walker.Walker = record old { evaluation = c.local.new.self; live = with_item old.live i process } in
    WhereTold-map _ _ (g.C.Calls.state c.args.calls.now) (g.C.Calls.state c.local.new.calls)
    (λ s t l. taken_goes old c.args.name.items i p there first refl sized (refl, refl, refl, refl) c.in-Ok.asked c.local.new.work.items c.local.new.self mid
    c.follow.new.self process c.follow.result s t
    (subst (λ k. Local k (work_of p.work.items []) c.local.new.work.items (Ok c.in-Ok.asked) first c.local.new.self s t) stood l)
    c.in-Ok.ensures.same c.in-Ok.ensures.free refl refl refl refl refl refl refl c.follow.ensures.exact) c.in-Ok.ensures.exact

pub returns-in-Ok-clause-blame : goal.returns-in-Ok-clause-blame
returns-in-Ok-clause-blame g c =
    calm_blames c.follow.result c.follow.ensures.calm (g.C.Calls.failed c.local.new.calls) (g.C.Calls.faults c.args.calls.now) (g.C.Calls.faults c.local.new.calls)
    c.in-Ok.ensures.blame

pub returns-in-Err-clause-exact : goal.returns-in-Err-clause-exact
returns-in-Err-clause-exact g c =
    let old = c.args.self.now in
    let xs = old.live.items in
    let i = c.args.index in
    let p = c.index_mut.result.now in
    let there = got_there xs i p c.requires.inside c.index_mut.ensures.value in
    let sized = ap (λ (x : code_process.Process). x.size)
    (one_there xs i c.index.result.now p (got_there xs i c.index.result.now c.requires.inside c.index.ensures) there) in
    let stood = ap (λ (x : code_process.Process). x.standing)
    (one_there xs i c.index-2.result.now p (got_there xs i c.index-2.result.now c.requires.inside c.index-2.ensures) there) in
    let first = record old.evaluation { name = c.args.name; size = c.index.result.now.size } in
    WhereTold-map _ _ (g.C.Calls.state c.args.calls.now) (g.C.Calls.state c.local.new.calls)
    (λ s t l. taken_stops old c.args.name.items i p there first refl sized (refl, refl, refl, refl) c.in-Err.stop c.local.new.work.items c.local.new.self _ s t
    (subst (λ k. Local k (work_of p.work.items []) c.local.new.work.items (Err c.in-Err.stop) first c.local.new.self s t) stood l)) c.in-Err.ensures.exact
