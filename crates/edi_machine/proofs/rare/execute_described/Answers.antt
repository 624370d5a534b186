use Rattle.edi_machine.proofs.rare.execute_described.Goals as goal

pub returns-clause-all : goal.returns-clause-all
returns-clause-all g c =
    let e = c.call_described.ensures in
    record { exact = e.exact; keeps = e.keeps; later = e.later; blame = e.blame; used = e.used; references = e.references; leads = e.leads }
