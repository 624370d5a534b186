-- The block of a `post`.
use Rattle.std.proofs.Common.{◌≡◌, ℕ, List, length, Option, Some, None, option_map, unwrap_or, refl, ap, ◌∙◌}
use Rattle.std.specs.Option.{option_map_or}
use Rattle.edi_static.specs.Environment.{Begun, Environment}
use Rattle.edi_static.specs.Declarations.{begun_named, block_of}
use Rattle.edi_sights.specs.named.Laws.{slot_count, variable_count}
use Rattle.edi_sights.specs.named.Naming as naming
use Rattle.edi_sights.specs.named.Naming.{Naming}
use Rattle.edi_sights.proofs.naming.Counts.{as_many}
use Rattle.edi_sights.proofs.naming.Declared.{Agrees}

or_else : (o : Option Begun) (n : ℕ) → option_map_or (λ b. b.block) o n ≡ unwrap_or (option_map (λ b. b.block) o) n
or_else None n = refl
or_else (Some b) n = refl

-- the block of a `post`
pub post_same : (place : List ℕ) (w : Naming) (env : Environment) (name : List ℕ) → Agrees place w env
    → block_of env (begun_named env.begun name) ≡ naming.post_block name w
post_same place w env name h =
    or_else (begun_named env.begun name) (length env.blocks)
    ∙ (ap (λ bs. unwrap_or (option_map (λ b. b.block) (begun_named bs name)) (length env.blocks)) h.of_begun
    ∙ ap (unwrap_or (option_map (λ b. b.block) (begun_named w.begun name))) (as_many slot_count variable_count env.blocks w.blocks h.of_blocks))
