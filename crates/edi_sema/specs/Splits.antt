-- Words of contracts. Split procedures by their blocks.
use Rattle.std.specs.Prelude.{ℕ, Bool, List, Option, Some, None, option_map}
use Rattle.edi_tree.specs.declared.names.Name.{Name}
use Rattle.edi_tree.specs.Tree as text
use Rattle.edi_unit.specs.Headings.{Heading}
use Rattle.edi_static.specs.declared.faults.StaticKind.TheVariants as kind
use Rattle.edi_static.specs.Judged.{Judged, faults, ◌>>=◌, must}
use Rattle.edi_static.specs.Environment.{Begun, Environment, heading_at, same_heading}
use Rattle.edi_static.specs.Headings.{own_name}
use Rattle.edi_static.specs.Declarations.{begun_named, block_of, post_export}

-- the block of the procedure of this name that is begun, if there is one
abbrev pub block_named : List Begun → List ℕ → Option ℕ
block_named begun name = option_map (λ b. b.block) (begun_named begun name)

-- a `post` completes this block
abbrev pub completes_block : Option ℕ → Name → Environment → Heading → Judged (Unit {0})
completes_block None name env asks = faults kind.Split name.line
completes_block (Some b) name env asks = must (same_heading (heading_at env.headings b) asks) kind.Split name.line

-- a `post` is compared with its `pre`, and then an export on it gives its name outside
abbrev pub posted : (export : Bool) → Name → Option ℕ → (block : ℕ) → Heading → Environment → Judged Environment
posted export name found block asks env = completes_block found name env asks >>= λ _. post_export export name block env

-- the block of a `post`
abbrev pub post_block : text.Heading → Environment → ℕ
post_block h env = block_of env (begun_named env.begun (own_name h).text)

-- with other procedures begun
abbrev pub with_begun : List Begun → Environment → Environment
with_begun begun env = record env { begun = begun }
