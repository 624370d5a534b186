-- The steps of `explore`: from the first bytes of a file to its program, and from the bytes of the input to what was taken.
use Rattle.std.proofs.Common.{◌≡◌, ◌<◌, ◌≤◌, ◌^◌, ◌∙◌, inl, inr, ℕ, Bool, true, List, length, take, drop, Option, Result, Ok, Err}
use Rattle.std.proofs.Common.{refl, sym, ap, subst, arith}
use Rattle.std.proofs.lemmas.List.{length-append}
use Rattle.std.proofs.Math.Seq.{drop-append_seam}
use Rattle.std.specs.Global.{Vec}
use Rattle.edi_told.specs.Told.{WhereTold}
use Rattle.edi_lex.specs.Limit.{most_fetched}
use Rattle.edi_lex.proofs.Limited.{first_bytes_decide}
use Rattle.edi_unit.specs.declared.units.Unit.{Unit}
use Rattle.edi_unit.specs.Tree.{ProgramUnit}
use Rattle.edi_unit.specs.View.{blocks_of, unit_of}
use Rattle.edi_scheme.specs.Code.{code_of}
use Rattle.edi_scheme.specs.Laws.{parts_of}
use Rattle.edi_compile.specs.Compiled.{IsFrontOf, IsShort}
use Rattle.edi_texts.specs.Answers.{TextAnswers}
use Rattle.edi_texts.specs.Fetched.{Tells}
use Rattle.edi_texts.specs.Texts.{IsRefused}
use Rattle.edi_texts.proofs.Same.{fetched_bytes_decide}
use Rattle.edi_runs.specs.declared.explore.input.InputFault.{InputFault}
use Rattle.edi_runs.specs.declared.explore.input.InputFault.TheVariants as fault
use Rattle.edi_runs.specs.declared.explore.openness.Openness.{Openness}
use Rattle.edi_runs.specs.explore.Input.{most_input, names_accept}
use Rattle.edi_runs.specs.explore.Openness.{IsOpenness}
use Rattle.edi_runs.specs.explore.Told.{HasFailedBehind, HasTakenSome, Reads}
use Rattle.edi_runs.proofs.explore.Opened.{openness_of_symbols}
use Rattle.edi_statuses.specs.declared.status.Status.{Status}
use Rattle.edi_statuses.specs.declared.status.Status.TheVariants as status
use Rattle.edi_statuses.specs.Explored.{FailsIn, LosesSome}
use Rattle.edi_statuses.specs.Outside.{Outside}
use Rattle.edi_statuses.specs.Steps.{Fetches, goes}
use Rattle.edi_statuses.proofs.Told.{told_so}
use Rattle.edi_main.specs.declared.text.explore.programs.Explorable.{Explorable}
use Rattle.edi_main.specs.text.ExploreCommand.{GivesProgram, ReadsProgram, TakesInput, input_status}

-- ---- the program

-- the code of the unit that a text is read as, and what is told of that unit
pub explorable : (text : List ℕ) (unit : Unit) (p : Explorable) → TextAnswers (λ (unit : Unit). IsFrontOf text (unit_of unit)) text (Ok unit)
    → length (blocks_of unit.blocks) ≤ 4194304 → p.code ≡ parts_of (unit_of unit) → p.asks ≡ names_accept (unit_of unit)
    → (IsFrontOf text (unit_of unit) → length (blocks_of unit.blocks) < 2 ^ 32 → IsOpenness text (unit_of unit) p.openly) → ReadsProgram text (Ok p)
explorable text unit p answers few code asks openly =
    let front : IsFrontOf text (unit_of unit) = answers.gives in
    (unit_of unit, record { front = front; code_is = code; asks_is = asks; open_is = openly front (omega (arith, few)) })

-- the first bytes of a text have its unit
whole_front : (text : List ℕ) (unit : ProgramUnit) → IsFrontOf (take most_fetched text) unit → IsFrontOf text unit
whole_front text unit f =
    let tells : Tells (take most_fetched text) text = fetched_bytes_decide.there text in
    record {
      unit_is = tells.unit unit f.unit_is;
      can = f.can;
      short = subst (λ n. IsShort n (length (code_of unit))) (fetched_bytes_decide.count text) f.short;
    }

-- and what is used there outside critical phases
whole_openness : (text : List ℕ) (unit : ProgramUnit) (openly : Openness) → IsOpenness (take most_fetched text) unit openly → IsOpenness text unit openly
whole_openness text unit openly o = openness_of_symbols (take most_fetched text) text unit openly (first_bytes_decide text).0 o

-- the first bytes of a file decide
pub file_program : (o : Outside) (name bytes text : List ℕ) (r : Result Explorable Status) → Fetches o name (goes text)
    → bytes ≡ take most_fetched text → ReadsProgram bytes r → GivesProgram o name r
file_program o name bytes text (Ok p) fetched first reads =
    let so = subst (λ t. ReadsProgram t (Ok p)) first reads in (
      text,
      fetched,
      (
        so.0,
        record {
          front = whole_front text so.0 so.1.front;
          code_is = so.1.code_is;
          asks_is = so.1.asks_is;
          open_is = whole_openness text so.0 p.openly so.1.open_is;
        },
      ),
    )
file_program o name bytes text (Err s) fetched first (inl none) = inl none
file_program o name bytes text (Err s) fetched first (inr refused) =
    let tells : Tells (take most_fetched text) text = fetched_bytes_decide.there text in
    let is = subst (λ t. IsRefused t refused.0 refused.1) first refused.3 in
    inr (inr (inr (text, fetched, inl (refused.0, refused.1, refused.2, (is.0, tells.fault is.0 refused.0 refused.1 is.1)))))

-- ---- the input

loses_so : (old new : List ℕ) → HasTakenSome old new → LosesSome old new
loses_so old new h = (length h.0, h.2, sym (drop-append_seam h.0 new) ∙ ap (drop (length h.0)) (sym h.1))

fails_so : (old new : List ℕ) → HasFailedBehind old new → FailsIn old new
fails_so old new h = (
  length h.0,
  h.2,
  omega (arith, h.3, ap length h.1, length-append h.0 new),
  sym (drop-append_seam h.0 new) ∙ ap (drop (length h.0)) (sym h.1),
)

-- it was not read
pub input_stopped : (asks : Bool) (f : InputFault) (old new : Option (List ℕ)) → asks ≡ true → WhereTold old new (Reads (Err f))
    → TakesInput asks (Err (input_status f)) old new
input_stopped asks fault.TooLong old new is h = (is, told_so _ _ old new (λ a b r. r) h)
input_stopped asks fault.Failed old new is h = (is, told_so _ _ old new fails_so h)
input_stopped asks fault.NoMemory old new is h = (is, told_so _ _ old new loses_so h)

-- it was read, where the program asks for it
pub input_taken : (asks : Bool) (bytes : Vec ℕ) (old new : Option (List ℕ)) → asks ≡ true → length bytes.items ≤ most_input
    → WhereTold old new (Reads (Ok bytes)) → TakesInput asks (Ok bytes) old new
input_taken asks bytes old new is few h =
    subst (λ a. TakesInput a (Ok bytes) old new) (sym is) (few, told_so _ _ old new (λ a b r. (r.0, r.1)) h)

-- a status of this step tells a fault of the input alone
pub input_no_fault : (f : InputFault) → input_status f ≡ status.InputFault → f ≡ fault.Failed
input_no_fault fault.TooLong e = absurd (cc)
input_no_fault fault.Failed e = refl
input_no_fault fault.NoMemory e = absurd (cc)
