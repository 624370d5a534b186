use Rattle.std.proofs.Common.{ℕ, Vec, Global}
use Rattle.edi_main.proofs.code.Listed.{not_loaded}
use Rattle.edi_main.proofs.code.loading.listing_of_bytes.Goals as goal

pub returns-in-Err : goal.returns-in-Err
returns-in-Err c = record { lists = not_loaded (λ (v : Vec ℕ Global). v.items) c.args.bytes.now c.in-Err.status c.in-Err.ensures.loads }

pub returns : goal.returns
returns c = record { lists = (c.in-Ok.code, c.in-Ok.ensures.loads, c.in_ok-text.ensures.exact) }
