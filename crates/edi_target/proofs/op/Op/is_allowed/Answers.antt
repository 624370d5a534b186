use Rattle.edi_target.proofs.Plain.{plain}
use Rattle.edi_target.proofs.op.Op.is_allowed.Goals as goal

pub returns-in_default : goal.returns-in_default
returns-in_default c =
    let d = c.in_default in
    plain _ d.not-Text d.not-Zeros d.not-Address d.not-Index d.not-Load d.not-Store d.not-Eq d.not-Ne d.not-Entry d.not-Call d.not-CallP d.not-Proc
    d.not-Return d.not-Cobegin
