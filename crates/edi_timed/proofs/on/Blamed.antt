-- The object that a system's run has made to fail is one of the objects below it.
use Rattle.std.proofs.Common.{◌≡◌, ℕ, ◌≤◌, Bool, true, false, Option, Some, None, arith, sym, subst}
use Rattle.edi_told.specs.Faults.{CountRose}
use Rattle.edi_calls.specs.declared.ends.Outside.{Outside}
use Rattle.edi_calls.specs.declared.ends.Outside.TheVariants as outside
use Rattle.edi_system.specs.Ends.{Blames}
use Rattle.edi_system.specs.State.{drive_in, faults_of, input_in, printer_in, terminal_in}
use Rattle.edi_system.specs.declared.system.System.{System}
use Rattle.edi_execute.specs.Objects.{FailedIs, Objects, faults_in}
use Rattle.edi_execute.proofs.Runs.{AreOf}

-- the count rose, which had not fallen before
rose_after : (first begun now : ℕ) → first ≤ begun → CountRose begun now → CountRose first now
rose_after first begun now less rose = omega (arith, less, rose)

module _ {D S T P : Type 0} (drive : D → ℕ) (input : S → ℕ) (terminal : T → ℕ) (printer : P → ℕ) (before after : System D S T P) (o o' : Objects D S T P)
    (read : drive o.drive ≤ drive (drive_in before)) (i : o.input ≡ input_in before) (t : o.terminal ≡ terminal_in before) (p : o.printer ≡ printer_in before)
    (are : AreOf after o') where
  rose : (one : Outside) → CountRose (faults_of drive input terminal printer before one) (faults_of drive input terminal printer after one)
      → CountRose (faults_in drive input terminal printer o one) (faults_in drive input terminal printer o' one)
  rose outside.Drive r =
      subst (λ x. CountRose (drive o.drive) (drive x)) (sym are.drive) (rose_after (drive o.drive) (drive (drive_in before)) (drive (drive_in after)) read r)
  rose outside.Input r =
      subst (λ x. CountRose (input x) (input o'.input)) (sym i) (subst (λ x. CountRose (input (input_in before)) (input x)) (sym are.input) r)
  rose outside.Terminal r =
      subst (λ x. CountRose (terminal x) (terminal o'.terminal)) (sym t)
      (subst (λ x. CountRose (terminal (terminal_in before)) (terminal x)) (sym are.terminal) r)
  rose outside.Printer r =
      subst (λ x. CountRose (printer x) (printer o'.printer)) (sym p) (subst (λ x. CountRose (printer (printer_in before)) (printer x)) (sym are.printer) r)

  of_blame : (fault : Bool) (failed : Option Outside)
      → Blames fault failed (faults_of drive input terminal printer before) (faults_of drive input terminal printer after)
      → FailedIs failed (faults_in drive input terminal printer o) (faults_in drive input terminal printer o')
  of_blame true (Some one) blame = rose one blame
  of_blame true None blame = absurd blame
  of_blame false (Some one) blame = absurd blame
  of_blame false None blame = tt

  pub failed_is : (fault : Bool) (failed told : Option Outside) → told ≡ failed
      → Blames fault failed (faults_of drive input terminal printer before) (faults_of drive input terminal printer after)
      → FailedIs told (faults_in drive input terminal printer o) (faults_in drive input terminal printer o')
  failed_is fault failed told same blame =
      subst (λ f. FailedIs f (faults_in drive input terminal printer o) (faults_in drive input terminal printer o')) (sym same) (of_blame fault failed blame)
