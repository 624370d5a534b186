use Rattle.edi_store.proofs.MemoryLaws.{IsMemory-zero_memory}
use Rattle.edi_store.proofs.store.Store.new.Goals as goal

pub invariant_of-result : goal.invariant_of-result
invariant_of-result c = rw c.in_ok-words.ensures.exact IsMemory-zero_memory

pub returns-clause-whole : goal.returns-clause-whole
returns-clause-whole c = rw c.in_ok-words.ensures.exact IsMemory-zero_memory
