use Rattle.std.proofs.Common.{◌≡◌, ℕ, ◌+◌, ◌<◌, length, get_or, rules}
use Rattle.edi_machine.proofs.SetWords.{read_eight}
use Rattle.edi_machine.proofs.sets.set_at.Goals as goal

pub returns-clause-exact : goal.returns-clause-exact
returns-clause-exact c =
    let eight : length c.from_fn.result ≡ 8 = search rules in
    let each : (k : ℕ) → k < 8 → get_or c.from_fn.result k 0 ≡ get_or c.args.store.now (c.args.at + k) 0 = λ k below. search rules in
    read_eight c.args.store.now c.args.at c.from_fn.result c.get-whole.ensures.whole c.requires eight each
