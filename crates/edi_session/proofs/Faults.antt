-- Where an object may fail in a course: it may fail there in a longer one too, and there the course has a state.
use Rattle.std.proofs.Common.{inl, inr, List, ◌∷◌, ◌++◌, refl, sym, ap, subst, ◌∙◌, arith, append_assoc}
use Rattle.std.specs.Prelude.{Contains}
use Rattle.std.proofs.lemmas.List.Elements.{Contains-append_right}
use Rattle.edi_calls.specs.declared.ends.Outside.{Outside}
use Rattle.edi_calls.specs.declared.ends.Outside.TheVariants as outside
use Rattle.edi_calls.specs.State.{State}
use Rattle.edi_session.specs.Course.{IsAtByte, IsAtItsByte, IsFollowedBy, MayFail, PrintsByte, ShowsByte, TakesByte}

-- two that follow one another do so among newer ones too, and before older ones
pub followed_on : (news old : List State) (before next : State) → IsFollowedBy old before next → IsFollowedBy (news ++ old) before next
followed_on news old before next h = record {
  later = news ++ h.later;
  earlier = h.earlier;
  is = ap (λ y. news ++ y) h.is ∙ sym (append_assoc news h.later (next ∷ before ∷ h.earlier));
}

pub followed_before : (new older : List State) (before next : State) → IsFollowedBy new before next → IsFollowedBy (new ++ older) before next
followed_before new older before next h = record {
  later = h.later;
  earlier = h.earlier ++ older;
  is = ap (λ y. y ++ older) h.is ∙ append_assoc h.later (next ∷ before ∷ h.earlier) older;
}

pub byte_on : (Puts : State → State → Type 0) (news old : List State) (m : State) → IsAtByte Puts old m → IsAtByte Puts (news ++ old) m
byte_on Puts news old m h =
    record { before = h.before; next = h.next; follows = followed_on news old h.before h.next h.follows; puts = h.puts; at = h.at }

its_byte_on : (news old : List State) (failed : Outside) (m : State) → IsAtItsByte failed old m → IsAtItsByte failed (news ++ old) m
its_byte_on news old outside.Terminal m h = byte_on ShowsByte news old m h
its_byte_on news old outside.Printer m h = byte_on PrintsByte news old m h
its_byte_on news old outside.Drive m h = tt
its_byte_on news old outside.Input m h = (h.0, followed_on news old m h.0 h.1, h.2)

-- newer states take nothing away
pub may_fail_on : (news old : List State) (failed : Outside) (m : State) → MayFail failed old m → MayFail failed (news ++ old) m
may_fail_on news old failed m h =
    record { there = Contains-append_right news old m h.there; byte = its_byte_on news old failed m h.byte }

-- both states that follow one another are there
pub both_there : (states : List State) (before next : State) → IsFollowedBy states before next → Contains states before × Contains states next
both_there states before next h = (
  subst (λ x. Contains x before) (sym h.is)
      (Contains-append_right h.later (next ∷ before ∷ h.earlier) before (1, omega arith, refl)),
  subst (λ x. Contains x next) (sym h.is) (Contains-append_right h.later (next ∷ before ∷ h.earlier) next (0, omega arith, refl)),
)

byte_there : (Puts : State → State → Type 0) (states : List State) (m : State) → IsAtByte Puts states m → Contains states m
byte_there Puts states m h =
    let both = both_there states h.before h.next h.follows in
    elim h.at [
      | inl first ↦ subst (Contains states) (sym first) both.0
      | inr second ↦ subst (Contains states) (sym second) both.1
    ]

-- an object may fail there
pub terminal_fails : (states : List State) (m : State) → IsAtByte ShowsByte states m → MayFail outside.Terminal states m
terminal_fails states m h = record { there = byte_there ShowsByte states m h; byte = h }

pub printer_fails : (states : List State) (m : State) → IsAtByte PrintsByte states m → MayFail outside.Printer states m
printer_fails states m h = record { there = byte_there PrintsByte states m h; byte = h }

pub drive_fails : (states : List State) (m : State) → Contains states m → MayFail outside.Drive states m
drive_fails states m h = record { there = h; byte = tt }

pub input_fails : (states : List State) (m next : State) → IsFollowedBy states m next → TakesByte m next → MayFail outside.Input states m
input_fails states m next follows takes = record { there = (both_there states m next follows).0; byte = (next, follows, takes) }
