-- Definition. The rules of an image in their order, and the first of them that is broken.
use Rattle.std.specs.Prelude.{ℕ, Bool, ◌&&◌, ◌==◌, nat_lt, nat_le, if◌then◌else◌, List, [], ◌∷◌, ◌++◌, Option, Some, None}
use Rattle.std.specs.List.{list_any}
use Rattle.edi_image.specs.declared.faults.MountFault.{MountFault}
use Rattle.edi_image.specs.declared.faults.MountFault.TheVariants as fault

-- A rule is a test with the fault of an image that fails it; or the use of a block, which may be used only once.
pub data Rule : Type 0 where
  needs : Bool → MountFault → Rule
  uses : ℕ → Rule

-- a number stands among others
abbrev pub is_in : ℕ → List ℕ → Bool
is_in n numbers = list_any (λ m. m == n) numbers

-- the first rule that is broken, where some blocks are used already
abbrev pub first_broken : List ℕ → List Rule → Option MountFault
first_broken used [] = None
first_broken used (needs test broken ∷ rules) = if test then first_broken used rules else Some broken
first_broken used (uses block ∷ rules) =
    if is_in block used then Some (fault.Shared block) else first_broken (used ++ block ∷ []) rules

-- the blocks that rules use, in their order
abbrev pub used_by : List Rule → List ℕ
used_by [] = []
used_by (needs test broken ∷ rules) = used_by rules
used_by (uses block ∷ rules) = block ∷ used_by rules

-- the rules on the pages of a file: each lies behind the catalogue and on the drive, and is used only here
abbrev pub page_rules : (first count slot : ℕ) → List ℕ → List Rule
page_rules first count slot [] = []
page_rules first count slot (page ∷ pages) =
    needs (nat_le first page && nat_lt page count) (fault.Page slot page) ∷ uses page ∷ page_rules first count slot pages
