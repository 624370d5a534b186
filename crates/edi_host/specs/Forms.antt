-- Words of contracts. What the forms in memory are seen as.
use Rattle.std.specs.Prelude.{ℕ, List, map, Bool, String, Vec, refl}
use Rattle.std.specs.String.{string_bytes}
use Rattle.std.specs.declared.alloc.Global.{Global}
use Rattle.std.specs.Coded.{Coded, code_by, coded×, coded_list, coded_ℕ}
use Rattle.std.specs.FinMap as files
use Rattle.edi_host.specs.Contents.{Contents}
use Rattle.edi_host.specs.Plan.{Plan}

-- files of which some calls fail
pub record FailingFiles : Type 0 where
  pub contents : Contents
  pub plan : Plan

-- a drive of which some calls fail, and whether a failed write takes effect
pub record FailingDrive : Type 0 where
  pub blocks : List (List ℕ)
  pub plan : Plan
  pub lands : Bool

-- a source of which some calls fail
pub record FailingSource : Type 0 where
  pub left : List ℕ
  pub plan : Plan

-- a sink that takes no more than its capacity, of which some calls fail
pub record FailingSink : Type 0 where
  pub bytes : List ℕ
  pub capacity : ℕ
  pub plan : Plan

-- a sink that takes every piece and keeps no more than its capacity, and whether it has kept all
pub record KeepingSink : Type 0 where
  pub bytes : List ℕ
  pub capacity : ℕ
  pub kept_all : Bool

-- an adapter over the host's files or streams, which tells no contents
pub record Untold : Type 0 where
  pub faults : ℕ

-- the adapter over a file of blocks, which tells their number, and whether the file is there and cannot be
-- opened
pub record UntoldDrive : Type 0 where
  pub count : ℕ
  pub broken : Bool
  pub faults : ℕ

-- the adapter over a writer, which tells whether there is one
pub record UntoldSink : Type 0 where
  pub writes : Bool
  pub faults : ℕ

abbrev pub contents_code : Coded Contents
contents_code = files.code (coded_list coded_ℕ) (coded_list coded_ℕ)

abbrev pub plan_code : Coded Plan
plan_code =
    code_by (List ℕ × (ℕ × ℕ)) (coded× (coded_list coded_ℕ) (coded× coded_ℕ coded_ℕ)) (λ p. (p.failing, (p.calls, p.faults)))
    (λ t. record { failing = t.0; calls = t.1.0; faults = t.1.1 }) (λ _. refl)

abbrev pub failing_files_code : Coded FailingFiles
failing_files_code =
    code_by (Contents × Plan) (coded× contents_code plan_code) (λ f. (f.contents, f.plan)) (λ t. record { contents = t.0; plan = t.1 }) (λ _. refl)

-- an entry of the map that the code has, as a name and the bytes of the file
abbrev pub entry_of : (String Global) × (Vec ℕ Global) → List ℕ × List ℕ
entry_of entry = (string_bytes entry.0, entry.1.items)

-- the files in the map that the code has
abbrev pub contents_in : List ((String Global) × (Vec ℕ Global)) → Contents
contents_in entries = files.from_entries (map entry_of entries)
