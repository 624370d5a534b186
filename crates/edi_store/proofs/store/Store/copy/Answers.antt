use Rattle.edi_store.proofs.Copies.{copied_memory}
use Rattle.edi_store.proofs.store.Store.copy.Goals as goal

pub invariant_of-self : goal.invariant_of-self
invariant_of-self c = rw c.copy_words.ensures.exact (copied_memory _ _ _ _ c.requires.from_within c.requires.to_within c.self.invariant)

pub returns-clause-whole : goal.returns-clause-whole
returns-clause-whole c = rw c.copy_words.ensures.exact (copied_memory _ _ _ _ c.requires.from_within c.requires.to_within c.self.invariant)
