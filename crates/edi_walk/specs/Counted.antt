-- Words of contracts. The words that the instances of one process need.
use Rattle.std.specs.Prelude.{ℕ, ◌+◌, List, [], ◌∷◌}
use Rattle.edi_walk.specs.declared.memory.Activation as code_activation

abbrev pub words_needed : List code_activation.Activation → ℕ
words_needed [] = 0
words_needed (a ∷ is) = a.need + words_needed is
