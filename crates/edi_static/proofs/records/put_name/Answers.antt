use Rattle.edi_static.proofs.Spellings.{is_new, put_behind}
use Rattle.edi_static.proofs.records.put_name.Goals as goal

pub returns-clause-is_new : goal.returns-clause-is_new
returns-clause-is_new c = is_new c.args.names.now.keys c.in_ok-copy.copy c.args.name.now _ c.in_ok-copy.ensures.exact c.in-Ok.ensures.added

pub returns-clause-put : goal.returns-clause-put
returns-clause-put c =
    put_behind c.args.names.now.keys c.insert.new.self.keys c.in_ok-copy.copy c.args.name.now _ c.in_ok-copy.ensures.exact c.in-Ok.ensures.added
    c.in-Ok.ensures.keys
