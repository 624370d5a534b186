-- What has been read after one byte more, and at the end of the text.
use Rattle.std.proofs.Common.{◌≡◌, ℕ, ◌+◌, ◌≤◌, true, false, List, [], ◌∷◌, ◌++◌, Result, Ok, Err, Option, None, Some, refl, sym, ap, ◌∙◌, subst, arith}
use Rattle.std.proofs.Common.{append_assoc, length-append}
use Rattle.std.proofs.lemmas.Bool.Decides.{nat_tests}
use Rattle.std.proofs.lemmas.List.{append-nil}
use Rattle.edi_lex.specs.Bytes.{feeds_at}
use Rattle.edi_lex.specs.Symbols.{with_front, symbols_from, is_too_long, symbols_of, ScanGives}
use Rattle.edi_lex.specs.Sound.{IsSound}
use Rattle.edi_lex.specs.Machine.{at_end, after_byte, CutterGives, FaultGives, is_full}
use Rattle.edi_lex.specs.Reading.{goes_on, Reads, ReadsTo}
use Rattle.edi_lex.specs.declared.fault.LexFault.{LexFault}
use Rattle.edi_lex.specs.declared.fault.LexFault.TheVariants.{BadCharacter, BadNumeral, TooLong, NoMemory}
use Rattle.edi_lex.specs.declared.effect.Unfinished.TheVariants.{Nothing}
use Rattle.edi_lex.specs.declared.cutter.Cutter.{Cutter}
use Rattle.edi_lex.proofs.Runs.{Answer, line_feeds-append}
use Rattle.edi_lex.proofs.Steps.{Leads, next_leads, Finishes, end_finishes}

with_front-none : (r : Answer) → with_front [] r ≡ r
with_front-none (Ok rest) = refl
with_front-none (Err fault) = refl

pub reads_nothing : ReadsTo None (record { marks = []; unfinished = Nothing; kept = [] }) 1 0 []
reads_nothing = record { counted = refl; lined = refl; stated = λ rest. with_front-none (symbols_from rest 0 1) }

-- one byte more
reads_on : (bytes line b : ℕ) (text : List ℕ) (answer next : List ℕ → Answer) → Reads bytes line answer text → ((rest : List ℕ) → answer (b ∷ rest) ≡ next rest)
    → Reads (bytes + 1) (line + feeds_at b) next (text ++ b ∷ [])
reads_on bytes line b text answer next h step = record {
  counted = omega (arith, h.counted, length-append text (b ∷ []));
  lined = omega (arith, h.lined, line_feeds-append text (b ∷ []));
  stated = λ rest. sym (step rest) ∙ h.stated (b ∷ rest) ∙ ap (λ t. symbols_from t 0 1) (sym (append_assoc text (b ∷ []) rest));
}

leads : (old : Cutter) (b line bytes : ℕ) (rest : List ℕ) (r : Result Cutter LexFault) → IsSound old line bytes → after_byte old b line ≡ r
    → Leads (goes_on old line (b ∷ rest)) (line + feeds_at b) (bytes + 1) rest r
leads old b line bytes rest r sound is = subst (λ q. Leads (goes_on old line (b ∷ rest)) (line + feeds_at b) (bytes + 1) rest q) is
    (next_leads old.marks old.unfinished old.kept b line bytes rest sound)

kept_fault : (fault : LexFault) (old new : Cutter) (b line bytes : ℕ) (text : List ℕ) → ReadsTo (Some fault) old line bytes text → (fault ≡ TooLong → ⊥)
    → ReadsTo (Some fault) new (line + feeds_at b) (bytes + 1) (text ++ b ∷ [])
kept_fault (BadCharacter at) old new b line bytes text h other = reads_on bytes line b text _ _ h (λ rest. refl)
kept_fault (BadNumeral at) old new b line bytes text h other = reads_on bytes line b text _ _ h (λ rest. refl)
kept_fault TooLong old new b line bytes text h other = absurd (other refl)
kept_fault NoMemory old new b line bytes text h other = absurd h

pub reads_more : (before after : Option LexFault) (old new : Cutter) (b line bytes : ℕ) (text : List ℕ) → (before ≡ None → IsSound old line bytes)
    → FaultGives before after new (after_byte old b line)
    → (before ≡ Some TooLong → ⊥) → (after ≡ Some NoMemory → ⊥) → ReadsTo before old line bytes text → ReadsTo after new (line + feeds_at b) (bytes + 1)
    (text ++ b ∷ [])
reads_more (Some fault) after old new b line bytes text sound gives short works h =
    subst (λ o. ReadsTo o new (line + feeds_at b) (bytes + 1) (text ++ b ∷ [])) (sym gives)
    (kept_fault fault old new b line bytes text h (λ e. short (ap Some e)))
reads_more None None old new b line bytes text sound gives short works h = reads_on bytes line b text _ _ h
    (λ rest. (leads old b line bytes rest (Ok new) (sound refl) gives).0)
reads_more None (Some (BadCharacter at)) old new b line bytes text sound gives short works h = reads_on bytes line b text _ _ h
    (λ rest. (leads old b line bytes rest (Err (BadCharacter at)) (sound refl) gives).0)
reads_more None (Some (BadNumeral at)) old new b line bytes text sound gives short works h = reads_on bytes line b text _ _ h
    (λ rest. (leads old b line bytes rest (Err (BadNumeral at)) (sound refl) gives).0)
reads_more None (Some TooLong) old new b line bytes text sound gives short works h = absurd (leads old b line bytes [] (Err TooLong) (sound refl) gives).1
reads_more None (Some NoMemory) old new b line bytes text sound gives short works h = absurd (works refl)

pub sound_more : (before after : Option LexFault) (old new : Cutter) (b line bytes : ℕ) → (before ≡ None → IsSound old line bytes)
    → FaultGives before after new (after_byte old b line) → after ≡ None
    → IsSound new (line + feeds_at b) (bytes + 1)
sound_more (Some fault) after old new b line bytes sound gives none = absurd (cc)
sound_more None None old new b line bytes sound gives none = (leads old b line bytes [] (Ok new) (sound refl) gives).1
sound_more None (Some fault) old new b line bytes sound gives none = absurd (cc)

-- a text that is too long stays so
pub too_long_more : (text more : List ℕ) → is_too_long text ≡ true → is_too_long (text ++ more) ≡ true
too_long_more text more h = grind (arith, nat_tests, length-append text more, line_feeds-append text more)

reads_full : (bytes line b : ℕ) (answer : List ℕ → Answer) (text : List ℕ) → Reads bytes line answer text → is_full bytes line b ≡ true
    → is_too_long (text ++ b ∷ []) ≡ true
reads_full bytes line b answer text h full = grind (arith, nat_tests, length-append text (b ∷ []), line_feeds-append text (b ∷ []), h.counted, h.lined)

-- the byte that makes a text too long
pub full_is_too_long : (fault : Option LexFault) (c : Cutter) (b line bytes : ℕ) (text : List ℕ) → ReadsTo fault c line bytes text
    → is_full bytes line b ≡ true → is_too_long (text ++ b ∷ []) ≡ true
full_is_too_long None c b line bytes text h full = reads_full bytes line b _ text h full
full_is_too_long (Some (BadCharacter at)) c b line bytes text h full = reads_full bytes line b _ text h full
full_is_too_long (Some (BadNumeral at)) c b line bytes text h full = reads_full bytes line b _ text h full
full_is_too_long (Some TooLong) c b line bytes text h full = too_long_more text (b ∷ []) h
full_is_too_long (Some NoMemory) c b line bytes text h full = absurd h

-- the end of a text that is not too long
reads_all : (bytes line : ℕ) (answer : List ℕ → Answer) (text : List ℕ) → bytes ≤ 262144 → line ≤ 65535 → Reads bytes line answer text
    → symbols_of text ≡ answer []
reads_all bytes line answer text few low h =
    let short : is_too_long text ≡ false = grind (arith, nat_tests, h.counted, h.lined) in
    rw short (sym (h.stated [] ∙ ap (λ t. symbols_from t 0 1) (append-nil text)))

pub fault_ends : (fault : LexFault) (c : Cutter) (line bytes : ℕ) (text : List ℕ) → bytes ≤ 262144 → line ≤ 65535 → ReadsTo (Some fault) c line bytes text
    → ScanGives (Err fault) (symbols_of text)
fault_ends (BadCharacter at) c line bytes text few low h = reads_all bytes line _ text few low h
fault_ends (BadNumeral at) c line bytes text few low h = reads_all bytes line _ text few low h
fault_ends TooLong c line bytes text few low h = rw h refl
fault_ends NoMemory c line bytes text few low h = absurd h

finishes : (c : Cutter) (line bytes : ℕ) (r : Result Cutter LexFault) → IsSound c line bytes → at_end c line ≡ r → Finishes (goes_on c line []) line bytes r
finishes c line bytes r sound is = subst (λ q. Finishes (goes_on c line []) line bytes q) is (end_finishes c.marks c.unfinished c.kept line bytes sound)

pub end_fault : (fault : LexFault) (c new : Cutter) (line bytes : ℕ) (text : List ℕ) → bytes ≤ 262144 → line ≤ 65535 → IsSound c line bytes
    → ReadsTo None c line bytes text → CutterGives (Err fault) new (at_end c line)
    → ScanGives (Err fault) (symbols_of text)
end_fault (BadCharacter at) c new line bytes text few low sound h gives = reads_all bytes line _ text few low h ∙ finishes c line bytes _ sound gives
end_fault (BadNumeral at) c new line bytes text few low sound h gives = reads_all bytes line _ text few low h ∙ finishes c line bytes _ sound gives
end_fault TooLong c new line bytes text few low sound h gives = reads_all bytes line _ text few low h ∙ finishes c line bytes _ sound gives
end_fault NoMemory c new line bytes text few low sound h gives = tt

pub end_symbols : (c new : Cutter) (line bytes : ℕ) (text : List ℕ) → bytes ≤ 262144 → line ≤ 65535 → IsSound c line bytes → ReadsTo None c line bytes text
    → at_end c line ≡ Ok new → symbols_of text ≡ Ok (new.marks, line)
end_symbols c new line bytes text few low sound h gives = reads_all bytes line _ text few low h ∙ (finishes c line bytes (Ok new) sound gives).0

pub end_sound : (c new : Cutter) (line bytes : ℕ) → IsSound c line bytes → at_end c line ≡ Ok new → IsSound new line bytes
end_sound c new line bytes sound gives = (finishes c line bytes (Ok new) sound gives).1
