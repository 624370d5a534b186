use Rattle.std.proofs.Common.{◌≡◌, true, sym, subst, rules, w16}
use Rattle.std.specs.Prelude.{IfOk}
use Rattle.std.proofs.lemmas.Int.{to_z-of_z}
use Rattle.edi_unit.specs.Values.{ordinal}
use Rattle.edi_meaning.specs.Store.{put}
use Rattle.edi_walk.specs.Memory.{store_of}
use Rattle.edi_unit.specs.View.{expression_of}
use Rattle.edi_walk.specs.Data.{designated_of}
use Rattle.edi_walk.specs.Reads.{StoresAtOnce}
use Rattle.edi_walk.specs.Works.{IsCalm}
use Rattle.edi_walk.proofs.AtOnce.{calm_left, stores_so, unstored}
use Rattle.edi_walk.proofs.evaluation.Evaluation.store_at_once.Goals as goal

pub returns-in-Ok-clause-exact : goal.returns-in-Ok-clause-exact
returns-in-Ok-clause-exact c =
    stores_so c.args.self.now c.store_ordinal.new.self (designated_of c.args.target.now) (expression_of c.args.e.now) c.in-Ok.n c.store_ordinal.result
    c.in-Ok.ensures.exact
    (subst
    (λ n. IfOk c.store_ordinal.result (λ made. (made ≡ true)
    × (store_of c.store_ordinal.new.self.memory ≡ put (store_of c.args.self.now.memory) (designated_of c.args.target.now).at (ordinal n))))
    (to_z-of_z w16 c.in-Ok.n (search rules)) c.store_ordinal.ensures.exact) c.store_ordinal.ensures.err c.store_ordinal.ensures.others

pub returns-in-Err-clause-exact : goal.returns-in-Err-clause-exact
returns-in-Err-clause-exact c =
    subst (λ r. StoresAtOnce (designated_of c.args.target.now) (expression_of c.args.e.now) r c.args.self.now c.args.self.now) (sym c.unmade.ensures.exact)
    (unstored c.args.self.now (designated_of c.args.target.now) (expression_of c.args.e.now) c.in-Err.hurdle c.in-Err.ensures.exact)

pub returns-in-Err-clause-calm : goal.returns-in-Err-clause-calm
returns-in-Err-clause-calm c = subst IsCalm (sym c.unmade.ensures.exact) (calm_left c.in-Err.hurdle)
