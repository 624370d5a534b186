-- What `when`s that are met have told of the types and blocks that are known.
use Rattle.std.specs.Prelude.{◌≡◌, ℕ, ◌<◌, ◌==◌, if◌then◌else◌, List, [], ◌∷◌, ◌++◌, length, All}
use Rattle.edi_unit.specs.Types.{Shape}
use Rattle.edi_unit.specs.Tree.{Block}
use Rattle.edi_static.specs.Environment.{Environment}
use Rattle.edi_sights.specs.declared.awaits.Await.{Await}
use Rattle.edi_sights.specs.Whens.{block_lines}
use Rattle.edi_sights.specs.Fits.{IsElementaryIfAny}

-- the lines of those that stand in a block
abbrev pub lines_in : (b : ℕ) → List Await → List ℕ
lines_in b [] = []
lines_in b (a ∷ awaits) = if a.block == b then a.line ∷ lines_in b awaits else lines_in b awaits

module _ (types : List Shape) (blocks : List Block) where
  pub record AwaitSits (a : Await) : Type 0 where
    pub there : a.block < length blocks
    pub slot_sits : IsElementaryIfAny types blocks a.block a.slot

-- where lines of statements are still to come into blocks
pub record Told (types : List Shape) (blocks : List Block) (awaits : List Await) (coming : ℕ → List ℕ) : Type 0 where
  pub lines : (b : ℕ) → lines_in b awaits ≡ block_lines blocks b ++ coming b
  pub sit : All (AwaitSits types blocks) awaits

abbrev pub ToldAt : Environment → List Await → (ℕ → List ℕ) → Type 0
ToldAt env awaits coming = Told env.types env.blocks awaits coming

-- such lines of a block behind others
abbrev pub and_then : (block : ℕ) → List ℕ → (ℕ → List ℕ) → ℕ → List ℕ
and_then block lines coming b = coming b ++ (if block == b then lines else [])

abbrev pub none_coming : ℕ → List ℕ
none_coming b = []
