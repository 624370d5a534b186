-- Words of contracts. What is left of files where several are kept, one after another.
use Rattle.std.specs.Prelude.{◌≡◌, ◌⊎◌, ℕ, Bool, true, false, List, [], ◌∷◌}
use Rattle.std.specs.FinMap as map
use Rattle.edi_host.specs.declared.files.KeepEnd.{KeepEnd}
use Rattle.edi_host.specs.declared.files.KeepEnd.TheVariants as keep
use Rattle.edi_host.specs.Contents.{Contents}
use Rattle.edi_host.specs.Files.{KeepLeaves}

abbrev pub is_kept : KeepEnd → Bool
is_kept keep.Ok = true
is_kept keep.Failed = false
is_kept keep.NoMemory = false

-- The first some are kept, and then the next one is not, which is answered; or all are.
abbrev pub KeepsInTurn : KeepEnd → List (List ℕ × List ℕ) → (old new : Contents) → Type 0
KeepsInTurn end [] old new = (end ≡ keep.Ok) × (new ≡ old)
KeepsInTurn end (one ∷ more) old new =
    KeepsInTurn end more (map.insert old one.0 one.1) new ⊎ ((is_kept end ≡ false) × KeepLeaves end one.0 one.1 old new)
