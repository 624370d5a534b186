-- A text, or a code, has one dump on told objects, unless its run uses up its turns.
use Rattle.std.proofs.Common.{◌≡◌, ℕ, ◌<◌, ◌≤◌, ◌⊎◌, inl, inr, List, [], ◌∷◌, ◌++◌, Result, Ok, Err, Option, Some, None, refl, sym, ap, subst, ◌∙◌, arith}
use Rattle.std.proofs.lemmas.Bool.{cases_lt}
use Rattle.edi_calls.specs.Choice.{Choices}
use Rattle.edi_calls.specs.Names.{Name}
use Rattle.edi_calls.specs.Outcome as outcome
use Rattle.edi_calls.specs.Outcome.{Ending}
use Rattle.edi_calls.specs.State.{State, fresh}
use Rattle.edi_calls.proofs.Names.{some_is}
use Rattle.edi_lex.specs.declared.symbol.Mark.{Mark}
use Rattle.edi_lex.specs.declared.fault.LexFault.{LexFault}
use Rattle.edi_lex.specs.Symbols.{symbols_of}
use Rattle.edi_sights.specs.named.Naming.{names_of}
use Rattle.edi_target.specs.Check.{CodeParts}
use Rattle.edi_target.specs.Fetch.{fetch}
use Rattle.edi_target.specs.Mach as target
use Rattle.edi_target.specs.Mach.{Machine}
use Rattle.edi_target.proofs.Runs.{same_end}
use Rattle.edi_scheme.specs.Laws.{parts_of}
use Rattle.edi_texts.proofs.Once.{one_unit}
use Rattle.edi_timeline.specs.Stints.{Stint}
use Rattle.edi_timed.specs.on.Timelines.{Timable, text, code}
use Rattle.edi_timed.proofs.meant.Ends.{ends_same}
use Rattle.edi_waits.specs.Ends.{AreAtEnd, IsSeen, has_broken}
use Rattle.edi_dump.specs.Frames.{Program}
use Rattle.edi_dump.specs.Text.{dump_text}
use Rattle.edi_dumped.specs.Dumps.{HasProgram, IsRunBy, TellsEnd}
use Rattle.edi_dumped.specs.One.{DumpsAreOne}
use Rattle.edi_dumped.proofs.Ordered.{ends_are_one}
use Rattle.edi_dumped.proofs.Standing.{last_ending, last_machine}

-- ---- what is known of a text

one_program : (k : Result (List Mark × ℕ) LexFault) (p q : Program) → HasProgram k p → HasProgram k q → p ≡ q
one_program (Err fault) p q h g = absurd h
one_program (Ok symbols) p q h g =
    let tree : g.0.tree ≡ h.0.tree = h.0.tree_is.one g.0.tree g.0.tree_is.spells in
    let unit : p.unit ≡ q.unit = one_unit (Ok symbols) p.unit q.unit h.0 g.0 in
    let names : p.names ≡ q.names = h.1 ∙ ap names_of (sym tree) ∙ sym g.1 in
    (λ i. record { unit = unit i; names = names i })

-- and the code that runs it
one_run_by : (program : Timable) (parts also : CodeParts) (known same : Option Program) → IsRunBy program parts known → IsRunBy program also same
    → (parts ≡ also) × (known ≡ same)
one_run_by (text bytes) parts also known same h g =
    let one : h.0 ≡ g.0 = one_program (symbols_of bytes) h.0 g.0 h.1 g.1 in
    (h.2 ∙ ap (λ (p : Program). parts_of p.unit) one ∙ sym g.2, h.3 ∙ ap Some one ∙ sym g.3)
one_run_by (code own) parts also known same h g = (h.0 ∙ sym g.0, h.1 ∙ sym g.1)

-- ---- the last of a list

abbrev final : List Stint → Option Stint
final [] = None
final (x ∷ []) = Some x
final (x ∷ y ∷ xs) = final (y ∷ xs)

final_is : (xs : List Stint) (x : Stint) → final (xs ++ x ∷ []) ≡ Some x
final_is [] x = refl
final_is (y ∷ []) x = refl
final_is (y ∷ z ∷ xs) x = final_is (z ∷ xs) x

same_final : (xs ys : List Stint) (x y : Stint) → xs ++ x ∷ [] ≡ ys ++ y ∷ [] → x ≡ y
same_final xs ys x y e = some_is (sym (final_is xs x) ∙ ap final e ∙ final_is ys y)

-- ---- the end of a run

-- unless the run has used up its turns, the machine of its end is told
seen_is : (words : List ℕ) (end : Ending) (m seen : Machine) (p : Name) → (end ≡ outcome.turns → ⊥) → IsSeen words end m seen p → seen ≡ m
seen_is words outcome.done m seen p not_turns h = h
seen_is words (outcome.halted line) m seen p not_turns h = h
seen_is words (outcome.failed cause line) m seen p not_turns h = h
seen_is words outcome.turns m seen p not_turns h = absurd (not_turns refl)
seen_is words outcome.standstill m seen p not_turns h = h
seen_is words (outcome.bad address) m seen p not_turns h = h

module _ (parts : CodeParts) (known : Option Program) (system : State) (bound : ℕ) (choices : Choices) (told other : List ℕ)
    (h : TellsEnd parts known system bound choices told) (g : TellsEnd parts known system bound choices other) where
  one_end : target.finished h.run.ending h.run.machine h.run.drawn ≡ target.finished g.run.ending g.run.machine g.run.drawn
  one_end = go (cases_lt h.run.steps g.run.steps)
    where
      go : (h.run.steps < g.run.steps) ⊎ (g.run.steps ≤ h.run.steps)
          → target.finished h.run.ending h.run.machine h.run.drawn ≡ target.finished g.run.ending g.run.machine g.run.drawn
      go (inl less) =
          same_end (fetch parts.words) parts.entry parts.calls (fresh system) bound choices 0 h.run.steps g.run.steps h.run.ending g.run.ending h.run.machine
          g.run.machine h.run.drawn g.run.drawn (omega (arith, less)) h.run.ends g.run.ends
      go (inr least) =
          sym (same_end (fetch parts.words) parts.entry parts.calls (fresh system) bound choices 0 g.run.steps h.run.steps g.run.ending h.run.ending
          g.run.machine h.run.machine g.run.drawn h.run.drawn least g.run.ends h.run.ends)

  one_last : h.last ≡ g.last
  one_last =
      same_final h.earlier g.earlier h.last g.last
      (h.run.are
      ∙ ends_same parts choices (fresh system) bound 0 h.run.steps g.run.steps (h.run.ending, h.run.machine, h.run.drawn, h.run.ends)
      (g.run.ending, g.run.machine, g.run.drawn, g.run.ends)
      ∙ sym g.run.are)

  one_text : (h.run.ending ≡ outcome.turns → ⊥) → told ≡ other
  one_text not_turns =
      let end : h.run.ending ≡ g.run.ending = last_ending one_end in
      let seen : h.seen ≡ g.seen = seen_is parts.words h.run.ending h.run.machine h.seen h.last.process not_turns h.is_seen
      ∙ last_machine one_end
      ∙ sym (seen_is parts.words g.run.ending g.run.machine g.seen g.last.process (λ e. not_turns (end ∙ e)) g.is_seen) in
      let are : AreAtEnd g.seen (has_broken g.run.ending g.last.process) h.processes =
      subst (λ t. t) (λ i. AreAtEnd (seen i) (has_broken (end i) (one_last i).process) h.processes) h.are in
      let processes : h.processes ≡ g.processes = ends_are_one g.seen (has_broken g.run.ending g.last.process) h.processes g.processes are g.are in
      h.text_is ∙ (λ i. dump_text known parts.words (seen i).memory (end i) (processes i)) ∙ sym g.text_is

-- THE LAW
pub dumps_are_one : DumpsAreOne
dumps_are_one program system bound choices told other one also not_turns =
    let same = one_run_by program one.0 also.0 one.1 also.1 one.2 also.2 in
    let again : TellsEnd one.0 one.1 system bound choices other =
    subst (λ t. t) (λ i. TellsEnd (sym same.0 i) (sym same.1 i) system bound choices other) also.3 in
    one_text one.0 one.1 system bound choices told other one.3 again not_turns
