-- Texts with the same symbols, or the same lexical fault, are the same thing.
use Rattle.std.proofs.Common.{◌≡◌, ◌≤◌, ◌+◌, ◌*◌, ℕ, List, Result, length, sym, ap, subst, take}
use Rattle.edi_calls.specs.Choice.{Choices}
use Rattle.edi_calls.specs.Outcome.{Outcome}
use Rattle.edi_calls.specs.State.{State}
use Rattle.edi_lex.specs.declared.symbol.Mark.{Mark}
use Rattle.edi_lex.specs.declared.fault.LexFault.{LexFault}
use Rattle.edi_lex.specs.Symbols.{symbols_of}
use Rattle.edi_lex.specs.Limit.{most_fetched}
use Rattle.edi_lex.proofs.Limited.{first_bytes_decide}
use Rattle.edi_target.specs.Check.{CodeParts}
use Rattle.edi_unit.specs.Tree.{ProgramUnit}
use Rattle.edi_texts.specs.declared.kind.RefusalKind.{RefusalKind}
use Rattle.edi_texts.specs.declared.refusal.Pass.{Pass}
use Rattle.edi_texts.specs.Texts.{AreAccepted, AreRefused, IsFault, IsUnit}
use Rattle.edi_texts.specs.Length.{extent_of}
use Rattle.edi_texts.specs.Run.{IsRunOf, IsMomentOf, IsCallOf, IsCodeFor}
use Rattle.edi_texts.specs.Fetched.{FetchedBytesDecide, Tells}

same_fault : (one other : List ℕ) (pass : Pass) (kind : RefusalKind) (line : ℕ) → symbols_of one ≡ symbols_of other → IsFault one pass kind line
    → IsFault other pass kind line
same_fault one other pass kind line same f =
    let P : Result (List Mark × ℕ) LexFault → Type 0 = λ k. AreRefused k pass kind line in
    subst P same f

same_unit : (one other : List ℕ) (unit : ProgramUnit) → symbols_of one ≡ symbols_of other → IsUnit one unit → IsUnit other unit
same_unit one other unit same u =
    let P : Result (List Mark × ℕ) LexFault → Type 0 = λ k. AreAccepted k unit in
    subst P same u

same_run : (one other : List ℕ) (system : State) (bound : ℕ) (choices : Choices) (outcome : Outcome) → symbols_of one ≡ symbols_of other
    → IsRunOf one system bound choices outcome → IsRunOf other system bound choices outcome
same_run one other system bound choices outcome same h = record { unit = h.unit; unit_is = same_unit one other h.unit same h.unit_is; run = h.run }

same_moment : (one other : List ℕ) (system : State) (bound : ℕ) (choices : Choices) (moment : State) → symbols_of one ≡ symbols_of other
    → IsMomentOf one system bound choices moment → IsMomentOf other system bound choices moment
same_moment one other system bound choices moment same h = record {
  unit = h.unit;
  unit_is = same_unit one other h.unit same h.unit_is;
  moment_is = h.moment_is;
}

same_call : (one other : List ℕ) (system : State) (bound : ℕ) (choices : Choices) (before next : State) → symbols_of one ≡ symbols_of other
    → IsCallOf one system bound choices before next → IsCallOf other system bound choices before next
same_call one other system bound choices before next same h = record {
  unit = h.unit;
  unit_is = same_unit one other h.unit same h.unit_is;
  call_is = h.call_is;
}

same_code : (one other : List ℕ) (code : CodeParts) → symbols_of one ≡ symbols_of other → IsCodeFor one code → IsCodeFor other code
same_code one other code same c = record {
  sound = c.sound;
  short = subst (λ n. length code.words ≤ 8 * n + 64) (ap extent_of same) c.short;
  same = λ system bound choices outcome. (
    λ h. same_run one other system bound choices outcome same ((c.same system bound choices outcome).0 h),
    λ h. (c.same system bound choices outcome).1 (same_run other one system bound choices outcome (sym same) h),
  );
  through = λ system bound choices moment. (
    λ h. same_moment one other system bound choices moment same ((c.through system bound choices moment).0 h),
    λ h. (c.through system bound choices moment).1 (same_moment other one system bound choices moment (sym same) h),
  );
  calls = λ system bound choices before next. (
    λ h. same_call one other system bound choices before next same ((c.calls system bound choices before next).0 h),
    λ h. (c.calls system bound choices before next).1 (same_call other one system bound choices before next (sym same) h),
  );
}

pub tells : (one other : List ℕ) → symbols_of one ≡ symbols_of other → Tells one other
tells one other same = record {
  fault = λ pass kind line f. same_fault one other pass kind line same f;
  unit = λ unit u. same_unit one other unit same u;
  code = λ code c. same_code one other code same c;
}

pub fetched_bytes_decide : FetchedBytesDecide
fetched_bytes_decide = record {
  there = λ text. tells (take most_fetched text) text (first_bytes_decide text).0;
  back = λ text. tells text (take most_fetched text) (sym (first_bytes_decide text).0);
  count = λ text. ap extent_of (first_bytes_decide text).0;
}
