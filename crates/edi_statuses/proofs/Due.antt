-- Whether a line feed is due behind bytes, by the last of them and by the bytes behind others.
use Rattle.std.proofs.Common.{◌≡◌, ◌∙◌, ◌-◌, ◌==◌, ℕ, suc, arith, Bool, true, false, List, [], ◌∷◌, ◌++◌, length, Some, None, refl, ap}
use Rattle.std.proofs.Common.{append-nil}
use Rattle.std.specs.Prelude.{slice_get, not, if◌then◌else◌}
use Rattle.edi_statuses.specs.Lines.{is_due, is_due_behind, last_of}
use Rattle.edi_statuses.specs.Showing.{due_behind}

-- ---- the last byte

pub last_is : (b : ℕ) (bytes : List ℕ) → last_of (b ∷ bytes) ≡ slice_get (b ∷ bytes) (length bytes)
last_is b [] = refl
last_is b (c ∷ more) = last_is c more

minus_one : (n : ℕ) → n ≡ suc n - 1
minus_one n = omega arith

pub last_at : (b : ℕ) (more : List ℕ) → last_of (b ∷ more) ≡ slice_get (b ∷ more) (length (b ∷ more) - 1)
last_at b more = last_is b more ∙ ap (slice_get (b ∷ more)) (minus_one (length more))

pub turned : (end : Bool) → (if end then false else true) ≡ not end
turned true = refl
turned false = refl

last_there : (b : ℕ) (more : List ℕ) → last_of (b ∷ more) ≡ None → ⊥
last_there b [] h = absurd (cc)
last_there b (c ∷ more) h = last_there c more h

pub due_by_last : (due : Bool) (bytes : List ℕ) (last : ℕ) → slice_get bytes (length bytes - 1) ≡ Some last → due_behind due bytes ≡ not (last == 10)
due_by_last due [] last h = absurd (cc)
due_by_last due (b ∷ more) last h = ap is_due_behind (last_at b more ∙ h) ∙ turned (last == 10)

pub due_by_none : (due : Bool) (bytes : List ℕ) → slice_get bytes (length bytes - 1) ≡ None → due_behind due bytes ≡ due
due_by_none due [] h = refl
due_by_none due (b ∷ more) h = absurd (last_there b more (last_at b more ∙ h))

-- ---- bytes behind others

last_then : (front : List ℕ) (b : ℕ) (more : List ℕ) → last_of (front ++ b ∷ more) ≡ last_of (b ∷ more)
last_then [] b more = refl
last_then (a ∷ []) b more = refl
last_then (a ∷ c ∷ front) b more = last_then (c ∷ front) b more

pub due_then : (front bytes : List ℕ) → is_due (front ++ bytes) ≡ due_behind (is_due front) bytes
due_then front [] = ap is_due (append-nil front)
due_then front (b ∷ more) = ap is_due_behind (last_then front b more)
