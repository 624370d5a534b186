-- Operands that are not those of a command.
use Rattle.std.proofs.Common.{◌≡◌, ℕ, Bool, true, false, List, [], ◌∷◌, refl, None, Some}
use Rattle.std.specs.Prelude.{if◌then◌else◌, ◌&&◌}
use Rattle.edi_calls.specs.State.{is_title}
use Rattle.edi_session.specs.declared.line.Line.{Line}
use Rattle.edi_session.specs.declared.line.Line.TheVariants.{Bad}
use Rattle.edi_session.specs.Words.{one_of, two_of}
use Rattle.edi_shell_io.specs.words.Operands.{one_title, two_titles}

one_case : (b : Bool) (f : List ℕ) (command : List ℕ → Line) → (if b then Some f else None) ≡ None → (if b then command f else Bad) ≡ Bad
one_case true f command h = absurd (cc)
one_case false f command h = refl

pub one_bad : (operands : List (List ℕ)) (command : List ℕ → Line) → one_title operands ≡ None → one_of operands command ≡ Bad
one_bad [] command h = refl
one_bad (f ∷ []) command h = one_case (is_title f) f command h
one_bad (f ∷ g ∷ more) command h = refl

two_case : (b : Bool) (pair : List ℕ × List ℕ) (line : Line) → (if b then Some pair else None) ≡ None → (if b then line else Bad) ≡ Bad
two_case true pair line h = absurd (cc)
two_case false pair line h = refl

pub two_bad : (operands : List (List ℕ)) (command : List ℕ → List ℕ → Line) → two_titles operands ≡ None → two_of operands command ≡ Bad
two_bad [] command h = refl
two_bad (f ∷ []) command h = refl
two_bad (f ∷ g ∷ []) command h = two_case (is_title f && is_title g) (f, g) (command f g) h
two_bad (f ∷ g ∷ e ∷ more) command h = refl
