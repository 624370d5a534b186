-- Which object has failed in a call of a program: only one that the call uses, and an input not at its end.
use Rattle.std.proofs.Common.{◌≡◌, ℕ, Bool, true, false, List, Option, Some, None, refl, sym, subst}
use Rattle.std.specs.Prelude.{if◌then◌else◌, IfSome, Result, Ok, Err, ⊤}
use Rattle.edi_told.specs.Faults.{CountRose}
use Rattle.edi_told.specs.Told.{WhereTold}
use Rattle.edi_host.specs.Streams.{next_fault, Takes}
use Rattle.edi_host.specs.declared.source.Next.{Next}
use Rattle.edi_host.specs.declared.source.Next.TheVariants as next
use Rattle.edi_calls.specs.declared.ends.Outside.{Outside}
use Rattle.edi_calls.specs.declared.ends.Outside.TheVariants as outside
use Rattle.edi_calls.specs.Asked.{uses}
use Rattle.edi_calls.specs.Ends.{IsUsed}
use Rattle.edi_calls.specs.State.{State}
use Rattle.edi_catalog.specs.declared.ends.CatEnd.{CatEnd}
use Rattle.edi_catalog.specs.declared.ends.CatEnd.TheVariants as cat
use Rattle.edi_system.specs.AsCalls.{FailsBeforeEnd, FailsUsed, HasFailed, LeavesByte}
use Rattle.edi_system.specs.Catalogue.{failed_at}
use Rattle.edi_system.specs.Ends.{is_fault, Blames}
use Rattle.edi_system.specs.State.{all_told, failed_in, input_in, printer_in, state_of, state_with, terminal_in, drive_in}
use Rattle.edi_system.specs.declared.ends.Stop.{Stop}
use Rattle.edi_system.specs.declared.ends.Stop.TheVariants as stop
use Rattle.edi_system.specs.declared.system.System.{System}

-- the object is one that the call uses, and leaves a byte of these, if it is the input
abbrev OfUsed : (number : ℕ) → (left : Option (List ℕ)) → Option Outside → Type 0
OfUsed number left failed = IfSome failed (λ o. (uses number o ≡ true) × IfSome left (LeavesByte o))

-- one that is not the input leaves nothing to say
no_input : (left : Option (List ℕ)) → IfSome left (LeavesByte outside.Drive)
no_input None = tt
no_input (Some bytes) = tt

no_shown : (left : Option (List ℕ)) → IfSome left (LeavesByte outside.Terminal)
no_shown None = tt
no_shown (Some bytes) = tt

no_printed : (left : Option (List ℕ)) → IfSome left (LeavesByte outside.Printer)
no_printed None = tt
no_printed (Some bytes) = tt

-- an object that the call uses has failed exactly where it is a fault
by_fault : (number : ℕ) (left : Option (List ℕ)) (o : Outside) → (uses number o ≡ true) × IfSome left (LeavesByte o) → (fault : Bool) (failed : Option Outside)
    → failed ≡ (if fault then Some o else None) → OfUsed number left failed
by_fault number left o used true failed is = subst (OfUsed number left) (sym is) used
by_fault number left o used false failed is = subst (OfUsed number left) (sym is) tt

unless : (number : ℕ) (left : Option (List ℕ)) (o : Outside) → (uses number o ≡ true) × IfSome left (LeavesByte o) → (done : Bool) (failed : Option Outside)
    → failed ≡ (if done then None else Some o) → OfUsed number left failed
unless number left o used true failed is = subst (OfUsed number left) (sym is) tt
unless number left o used false failed is = subst (OfUsed number left) (sym is) used

pub nothing_used : (number : ℕ) (left : Option (List ℕ)) (failed : Option Outside) → failed ≡ None
    → IfSome failed (λ o. (uses number o ≡ true) × IfSome left (LeavesByte o))
nothing_used number left failed is = subst (OfUsed number left) (sym is) tt

-- the next byte of the input was asked for: it fails only where one is left
pub taken_used : (answer : Next) (was left : Option (List ℕ)) (failed : Option Outside)
    → failed ≡ (if next_fault answer then Some outside.Input else None) → WhereTold was left (Takes answer)
    → IfSome failed (λ o. (uses 1 o ≡ true) × IfSome left (LeavesByte o))
taken_used (next.Byte b) was left failed is takes = subst (OfUsed 1 left) (sym is) tt
taken_used next.End was left failed is takes = subst (OfUsed 1 left) (sym is) tt
taken_used next.Failed was left failed is takes = subst (OfUsed 1 left) (sym is) (refl, go was left takes)
  where
    go : (was left : Option (List ℕ)) → WhereTold was left (Takes next.Failed) → IfSome left (LeavesByte outside.Input)
    go was None takes = tt
    go None (Some new) takes = absurd takes
    go (Some old) (Some new) takes = subst (LeavesByte outside.Input) (sym takes.1) takes.0

pub shown_used : (done : Bool) (left : Option (List ℕ)) (failed : Option Outside) → failed ≡ (if done then None else Some outside.Terminal)
    → IfSome failed (λ o. (uses 2 o ≡ true) × IfSome left (LeavesByte o))
shown_used done left failed is = unless 2 left outside.Terminal (refl, no_shown left) done failed is

pub printed_used : (done : Bool) (left : Option (List ℕ)) (failed : Option Outside) → failed ≡ (if done then None else Some outside.Printer)
    → IfSome failed (λ o. (uses 3 o ≡ true) × IfSome left (LeavesByte o))
printed_used done left failed is = unless 3 left outside.Printer (refl, no_printed left) done failed is

-- the next byte of the found file was looked for
pub looked_used : {X : Type 0} (number : ℕ) (left : Option (List ℕ)) (result : Result X Stop) (failed : Option Outside) → uses number outside.Drive ≡ true
    → failed ≡ (if is_fault result then Some outside.Drive else None) → IfSome failed (λ o. (uses number o ≡ true) × IfSome left (LeavesByte o))
looked_used number left result failed used is = by_fault number left outside.Drive (used, no_input left) (is_fault result) failed is

-- a call of the catalogue was made
pub changed_used : {X : Type 0} (number : ℕ) (left : Option (List ℕ)) (answer : Result X CatEnd) (failed : Option Outside) → uses number outside.Drive ≡ true
    → failed ≡ failed_at answer → IfSome failed (λ o. (uses number o ≡ true) × IfSome left (LeavesByte o))
changed_used number left answer failed used is = subst (OfUsed number left) (sym is) (go answer)
  where
    go : {X : Type 0} (answer : Result X CatEnd) → OfUsed number left (failed_at answer)
    go (Ok x) = tt
    go (Err cat.Fault) = (used, no_input left)
    go (Err cat.NoSuch) = tt
    go (Err cat.Taken) = tt
    go (Err cat.Protected) = tt
    go (Err (cat.TooLarge bytes)) = tt
    go (Err cat.CatalogFull) = tt
    go (Err (cat.Full wanted free)) = tt

-- ---- what has failed, as the trait of the calls says it

module _ {D S T P : Type 0} (contents : D → Option (List (List ℕ))) (count : D → ℕ) (left : S → Option (List ℕ)) (system : System D S T P) where
  pub used_by : (number : ℕ) → FailsUsed left number system → IsUsed number (λ o. HasFailed contents count left system o)
  used_by number used o failed = go (failed_in system) failed.is used
    where
      go : (now : Option Outside) → now ≡ Some o → OfUsed number (left (input_in system)) now → uses number o ≡ true
      go now is used = (let of : OfUsed number (left (input_in system)) (Some o) = subst (OfUsed number (left (input_in system))) is used in of.0)

  -- behind a fault
  pub blamed_by : (number : ℕ) (why : Stop) (before now : Outside → ℕ) → why ≡ stop.Fault → Blames (is_fault {X = Option ℕ} (Err why)) (failed_in system) before now
      → FailsUsed left number system → (outside : Outside) × HasFailed contents count left system (Some outside) × CountRose (before outside) (now outside)
  blamed_by number why before now fault blame used =
      go (failed_in system) refl (subst (λ w. Blames (is_fault {X = Option ℕ} (Err w)) (failed_in system) before now) fault blame) used
    where
      go : (f : Option Outside) → failed_in system ≡ f → Blames true f before now → OfUsed number (left (input_in system)) f
          → (outside : Outside) × HasFailed contents count left system (Some outside) × CountRose (before outside) (now outside)
      go None is blame used = absurd blame
      go (Some o) is blame used =
          (o, record { is = is; before_end = used.1; ready = λ none. absurd (let wrong : Some o ≡ None = none in cc) }, blame)

  -- whatever has failed, if anything has
  pub fails_before_end : (o : Option Outside) → HasFailed contents count left system o → FailsBeforeEnd left system
  fails_before_end o failed = subst (λ f. IfSome f (λ x. IfSome (left (input_in system)) (LeavesByte x))) (sym failed.is) failed.before_end

-- ---- so of the states

-- where all four objects tell what they hold, the byte is left in the state
pub byte_left : {D S T P : Type 0} (contents : D → Option (List (List ℕ))) (left : S → Option (List ℕ)) (shown : T → Option (List ℕ))
    (printed : P → Option (List ℕ)) (system : System D S T P) (o : Outside) → IfSome (left (input_in system)) (LeavesByte o)
    → IfSome (state_of contents left shown printed system) (λ (s : State). LeavesByte o s.input)
byte_left contents left shown printed system o =
    go (contents (drive_in system)) (left (input_in system)) (shown (terminal_in system)) (printed (printer_in system))
  where
    go : (a : Option (List (List ℕ))) (b c e : Option (List ℕ)) → IfSome b (LeavesByte o)
        → IfSome (all_told (state_with system) a b c e) (λ (s : State). LeavesByte o s.input)
    go None b c e h = tt
    go (Some x) None c e h = tt
    go (Some x) (Some y) None e h = tt
    go (Some x) (Some y) (Some z) None h = tt
    go (Some x) (Some y) (Some z) (Some w) h = h

nothing_said : {A : Type 0} (told : Option A) → IfSome told (λ x. ⊤)
nothing_said None = tt
nothing_said (Some x) = tt

pub bytes_left : {D S T P : Type 0} (contents : D → Option (List (List ℕ))) (left : S → Option (List ℕ)) (shown : T → Option (List ℕ))
    (printed : P → Option (List ℕ)) (system : System D S T P) → FailsBeforeEnd left system
    → IfSome (state_of contents left shown printed system) (λ (s : State). IfSome (failed_in system) (λ o. LeavesByte o s.input))
bytes_left contents left shown printed system =
    go (failed_in system)
  where
    go : (f : Option Outside) → IfSome f (λ o. IfSome (left (input_in system)) (LeavesByte o))
        → IfSome (state_of contents left shown printed system) (λ (s : State). IfSome f (λ o. LeavesByte o s.input))
    go None h = nothing_said (state_of contents left shown printed system)
    go (Some o) h = byte_left contents left shown printed system o h
