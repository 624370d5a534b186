-- A unit that can be coded, with its code.
use Rattle.std.proofs.Common.{◌≡◌, ℕ, zero, suc, ◌+◌, ◌<◌, ◌≤◌, ◌⊎◌, inl, inr, List, length, drop, Option, Some, None, refl, sym, subst, arith}
use Rattle.std.proofs.lemmas.Bool.{cases_lt}
use Rattle.edi_unit.specs.Types.{Shape}
use Rattle.edi_unit.specs.Tree.{Block, ProgramUnit}
use Rattle.edi_meaning.specs.Someone.{ForksHaveBranches}
use Rattle.edi_meaning.proofs.Branching.{fitting_forks_have_branches}
use Rattle.edi_target.specs.Fetch.{fetch}
use Rattle.edi_calls.proofs.Names.{some_is}
use Rattle.edi_target.specs.Op.{Instruction, words_of}
use Rattle.edi_target.specs.Decode.{decode}
use Rattle.edi_target.specs.Reading.{AreWords}
use Rattle.edi_target.proofs.Reading.{decode_reads}
use Rattle.edi_target.proofs.Stands.{code_stands_below}
use Rattle.edi_target.proofs.segments.Reaching.{allowed_at}
use Rattle.edi_scheme.specs.Code.{entry, code_of}
use Rattle.edi_scheme.proofs.Blocks.{code_stands, code_is_long}
use Rattle.edi_scheme.proofs.WordedBlocks.{code_is_words}
use Rattle.edi_follows.specs.places.Coded.{Coded}
use Rattle.edi_follows.specs.Theorem.{CanBeCoded, SameOutcome, SameMoments, CodeEndsAsMeant, CodeIsNeverBad, CodeIsPrivate, CodeStandsByMarks}
use Rattle.edi_follows.specs.places.Lands.{StepClaim, StepsCohere, StepsQueue, StartClaim}
use Rattle.edi_follows.specs.Arrivals.{CodeArrivesAsMeant}
use Rattle.edi_follows.proofs.Arrivals.{code_arrives}
use Rattle.edi_follows.proofs.Private.{private_words}
use Rattle.edi_follows.proofs.Standstills.{never_bad, stands_by_marks}
use Rattle.edi_follows.proofs.Wholes.{code_ends, to_machine, to_meaning, moments_to_machine, moments_to_meaning}

pub entry_up : (types : List Shape) (blocks : List Block) (n m : ℕ) → n ≤ m → entry types blocks n ≤ entry types blocks m
entry_up types blocks n zero le = let e : n ≡ zero = omega arith in subst (λ k. entry types blocks k ≤ 0) (sym e) (omega arith)
entry_up types blocks n (suc m) le = go (cases_lt n (suc m)) (entry_up types blocks n m)
  where
    go : (n < suc m) ⊎ (suc m ≤ n) → (n ≤ m → entry types blocks n ≤ entry types blocks m) → entry types blocks n ≤ entry types blocks (suc m)
    go (inl h) ih = omega (arith, ih (omega arith))
    go (inr h) ih = let e : n ≡ suc m = omega arith in subst (λ k. entry types blocks n ≤ entry types blocks k) e (omega arith)

-- what is read at an address is as long as the words of the instruction there
pub fetched_long : (words : List ℕ) → AreWords words → (at : ℕ) (found : Instruction × ℕ) → fetch words at ≡ Some found →
    found.1 ≡ at + length (words_of found.0)
fetched_long words w at found e = go (decode (drop at words)) refl e
  where
    go : (x : Option (Instruction × ℕ)) → decode (drop at words) ≡ x →
        elim x as (λ _. Option (Instruction × ℕ)) [ None ↦ None | Some found ↦ Some (found.0, at + found.1) ] ≡ Some found →
        found.1 ≡ at + length (words_of found.0)
    go None d e = absurd (cc)
    go (Some x) d e = subst (λ (y : Instruction × ℕ). y.1 ≡ at + length (words_of y.0)) (some_is e) (decode_reads words at x.0 x.1 w d).follows

abbrev pub coded : (unit : ProgramUnit) → CanBeCoded unit → Coded
coded unit c =
    let words : AreWords (code_of unit) = code_is_words unit c.fits c.parts c.lines (omega (arith, c.short)) in
    record {
      unit = unit;
      fetched = fetch (code_of unit);
      fits = c.fits;
      parts = c.parts;
      stands = code_stands unit c.fits c.parts;
      rises = λ at found e. (code_stands_below (code_of unit) at found e).1;
      long = λ at found e. fetched_long (code_of unit) words at found e;
      allows = λ first last at. allowed_at (code_of unit) words first last at;
      low = λ n h. omega (arith, c.short, code_is_long unit, entry_up unit.types unit.blocks n (length unit.blocks) (omega (arith, h)));
    }

module _ (claim : (g : Coded) → StepClaim g) (start : (g : Coded) → StartClaim g) (cohere : StepsCohere) (queues : StepsQueue) where
  pub code_ends_as_meant : CodeEndsAsMeant
  code_ends_as_meant unit c system bound choices ending end turns drawn order e =
      code_ends (coded unit c) (claim (coded unit c)) (start (coded unit c)) cohere queues system bound choices ending end turns drawn order e

  pub same_outcome : SameOutcome
  same_outcome unit c system bound choices o = (
    to_machine (coded unit c) (claim (coded unit c)) (start (coded unit c)) cohere queues system bound choices o,
    to_meaning (coded unit c) (claim (coded unit c)) (start (coded unit c)) cohere queues system bound choices o,
  )

  pub same_moments : SameMoments
  same_moments unit c system bound choices moment = (
    moments_to_machine (coded unit c) (claim (coded unit c)) (start (coded unit c)) cohere queues system bound choices moment,
    moments_to_meaning (coded unit c) (claim (coded unit c)) (start (coded unit c)) cohere queues system bound choices moment,
  )

  pub code_is_private : CodeIsPrivate
  code_is_private unit c system bound choices m p others drawn i n u o a foreign =
      private_words (coded unit c) (claim (coded unit c)) (start (coded unit c)) cohere queues system choices bound m p others drawn i n u o a foreign

  -- each `cobegin` of a unit that fits has a branch
  branches : (unit : ProgramUnit) (c : CanBeCoded unit) → ForksHaveBranches (coded unit c).unit
  branches unit c = fitting_forks_have_branches unit c.fits

  pub code_is_never_bad : CodeIsNeverBad
  code_is_never_bad unit c system bound choices ending m drawn e =
      never_bad (coded unit c) (claim (coded unit c)) (start (coded unit c)) cohere queues (branches unit c) choices system bound ending m drawn e

  pub code_stands_by_marks : CodeStandsByMarks
  code_stands_by_marks unit c system bound choices m drawn e =
      stands_by_marks (coded unit c) (claim (coded unit c)) (start (coded unit c)) cohere queues (branches unit c) choices system bound m drawn e

  pub code_arrives_as_meant : CodeArrivesAsMeant
  code_arrives_as_meant unit c system bound choices ending end turns drawn order e =
      code_arrives (coded unit c) (claim (coded unit c)) (start (coded unit c)) cohere queues system bound choices ending end turns drawn order e
