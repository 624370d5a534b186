-- Words of contracts. Steps from one environment to another at the begin and the end of a block.
use Rattle.std.specs.Prelude.{ℕ, ◌∷◌, drop}
use Rattle.edi_unit.specs.Need.{block_at}
use Rattle.edi_static.specs.Environment.{Environment, set_block}

-- a block tells that it needs so many words
abbrev pub need_set : (n words : ℕ) → Environment → Environment
need_set n words env = set_block n (record (block_at env.blocks n) { need = words }) env

-- inside a block
abbrev pub inside_block : ℕ → Environment → Environment
inside_block n env = record env { around = n ∷ env.around }

-- outside the innermost block
abbrev pub outside_block : Environment → Environment
outside_block env = record env { around = drop 1 env.around }
