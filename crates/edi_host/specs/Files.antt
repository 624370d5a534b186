-- Words of contracts. What the calls on files answer and leave.
use Rattle.std.specs.Prelude.{◌≡◌, ℕ, Bool, true, false, List, [], take, Option, None, ⊤, IsSome, IsSomeAnd}
use Rattle.std.specs.FinMap as map
use Rattle.edi_host.specs.declared.files.FetchEnd.{FetchEnd}
use Rattle.edi_host.specs.declared.files.FetchEnd.TheVariants as fetch
use Rattle.edi_host.specs.declared.files.KeepEnd.{KeepEnd}
use Rattle.edi_host.specs.declared.files.KeepEnd.TheVariants as keep
use Rattle.edi_host.specs.Contents.{Contents}

-- what a fetch gives, by the file of that name: its first bytes on Ok; Absent exactly where there is none
abbrev pub FetchGives : FetchEnd → Option (List ℕ) → ℕ → List ℕ → Type 0
FetchGives fetch.Ok file limit into = IsSomeAnd file (λ bytes. into ≡ take limit bytes)
FetchGives fetch.Absent file limit into = file ≡ None
FetchGives fetch.Failed file limit into = IsSome file
FetchGives fetch.NoMemory file limit into = IsSome file

-- only Ok leaves bytes
abbrev pub FetchEmpties : FetchEnd → List ℕ → Type 0
FetchEmpties fetch.Ok into = ⊤
FetchEmpties fetch.Absent into = into ≡ []
FetchEmpties fetch.Failed into = into ≡ []
FetchEmpties fetch.NoMemory into = into ≡ []

-- what a keep leaves: the bytes on Ok, on NoMemory all as it was, and on a fault every other file as it was
abbrev pub KeepLeaves : KeepEnd → List ℕ → List ℕ → Contents → Contents → Type 0
KeepLeaves keep.Ok name bytes old new = new ≡ map.insert old name bytes
KeepLeaves keep.Failed name bytes old new = map.remove new name ≡ map.remove old name
KeepLeaves keep.NoMemory name bytes old new = new ≡ old

-- what a keep of a form in memory leaves: it changes nothing where it does not succeed
abbrev pub KeepsOrNot : KeepEnd → List ℕ → List ℕ → Contents → Contents → Type 0
KeepsOrNot keep.Ok name bytes old new = new ≡ map.insert old name bytes
KeepsOrNot keep.Failed name bytes old new = new ≡ old
KeepsOrNot keep.NoMemory name bytes old new = new ≡ old

-- the answer is a fault
abbrev pub fetch_fault : FetchEnd → Bool
fetch_fault fetch.Failed = true
fetch_fault other = false

abbrev pub keep_fault : KeepEnd → Bool
keep_fault keep.Failed = true
keep_fault other = false
