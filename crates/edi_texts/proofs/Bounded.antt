-- The symbols of every text are ones that `Symbols` can hold, so the tree of every accepted text is sound.
use Rattle.std.proofs.Common.{◌≡◌, ℕ, ◌+◌, ◌≤◌, Bool, true, false, List, [], ◌∷◌, ◌++◌, Result, Ok, Err, None, Some, refl, sym, ap, ◌∙◌, subst, arith}
use Rattle.std.proofs.Common.{append_assoc}
use Rattle.std.proofs.lemmas.Bool.Decides.{nat_tests}
use Rattle.std.proofs.lemmas.List.{append-nil}
use Rattle.edi_lex.specs.declared.symbol.Mark.{Mark}
use Rattle.edi_lex.specs.declared.fault.LexFault.{LexFault}
use Rattle.edi_lex.specs.declared.fault.LexFault.TheVariants.{BadCharacter, BadNumeral, TooLong, NoMemory}
use Rattle.edi_lex.specs.declared.effect.Unfinished.TheVariants.{Nothing}
use Rattle.edi_lex.specs.declared.cutter.Cutter.{Cutter}
use Rattle.edi_lex.specs.Bytes.{feeds_at}
use Rattle.edi_lex.specs.Symbols.{symbols_from, is_too_long, symbols_of, ScanGives}
use Rattle.edi_lex.specs.Sound.{IsSound}
use Rattle.edi_lex.specs.Machine.{at_end, after_byte, is_full}
use Rattle.edi_lex.specs.Reading.{goes_on, ReadsTo}
use Rattle.edi_lex.proofs.Steps.{IsLexical, Leads, next_leads, end_finishes, Finishes}
use Rattle.edi_lex.proofs.Readings.{reads_nothing, reads_more, sound_more, too_long_more, full_is_too_long, fault_ends, end_symbols, end_sound}
use Rattle.edi_tree.specs.Spells.{AreBounded}
use Rattle.edi_tree.proofs.Greatest.{levels_small}
use Rattle.edi_unit.specs.Tree.{ProgramUnit}
use Rattle.edi_texts.specs.Texts.{AreAccepted}
use Rattle.edi_texts.specs.Laws.{AcceptedTextsAreSound, IsSoundUnit}

-- what is known of a text when all of it has been read
data Read (text : List ℕ) : Type 0 where
  long : is_too_long text ≡ true → Read text
  faulty : (fault : LexFault) (c : Cutter) (line bytes : ℕ) → bytes ≤ 262144 → line ≤ 65535 → IsLexical fault → ReadsTo (Some fault) c line bytes text
      → Read text
  good : (c : Cutter) (line bytes : ℕ) → bytes ≤ 262144 → line ≤ 65535 → IsSound c line bytes → ReadsTo None c line bytes text → Read text

lexical_is_short : (fault : LexFault) → IsLexical fault → Some fault ≡ Some TooLong → ⊥
lexical_is_short (BadCharacter at) l e = absurd (cc)
lexical_is_short (BadNumeral at) l e = absurd (cc)
lexical_is_short TooLong l e = l
lexical_is_short NoMemory l e = l

lexical_is_there : (fault : LexFault) → IsLexical fault → Some fault ≡ Some NoMemory → ⊥
lexical_is_there (BadCharacter at) l e = absurd (cc)
lexical_is_there (BadNumeral at) l e = absurd (cc)
lexical_is_there TooLong l e = l
lexical_is_there NoMemory l e = l

few_more : (bytes line b : ℕ) → bytes ≤ 262144 → is_full bytes line b ≡ false → bytes + 1 ≤ 262144
few_more bytes line b few open_ = grind (arith, nat_tests, few, open_)

low_more : (bytes line b : ℕ) → line ≤ 65535 → is_full bytes line b ≡ false → line + feeds_at b ≤ 65535
low_more bytes line b low open_ = grind (arith, nat_tests, low, open_)

-- one byte more
byte_more : (text : List ℕ) (b : ℕ) → Read text → Read (text ++ b ∷ [])
byte_more text b (long h) = long (too_long_more text (b ∷ []) h)
byte_more text b (faulty fault c line bytes few low l h) = by (is_full bytes line b) refl where
  by : (full : Bool) → is_full bytes line b ≡ full → Read (text ++ b ∷ [])
  by true e = long (full_is_too_long (Some fault) c b line bytes text h e)
  by false e = faulty fault c (line + feeds_at b) (bytes + 1) (few_more bytes line b few e) (low_more bytes line b low e) l
      (reads_more (Some fault) (Some fault) c c b line bytes text (λ n. absurd (cc)) refl (lexical_is_short fault l) (lexical_is_there fault l) h)
byte_more text b (good c line bytes few low s h) = by (is_full bytes line b) refl (after_byte c b line) refl where
  leads : (r : Result Cutter LexFault) → after_byte c b line ≡ r → Leads (goes_on c line (b ∷ [])) (line + feeds_at b) (bytes + 1) [] r
  leads r is = subst (λ (q : Result Cutter LexFault). Leads (goes_on c line (b ∷ [])) (line + feeds_at b) (bytes + 1) [] q) is
      (next_leads c.marks c.unfinished c.kept b line bytes [] s)

  wrong : (fault : LexFault) → IsLexical fault → after_byte c b line ≡ Err fault → ReadsTo (Some fault) c (line + feeds_at b) (bytes + 1) (text ++ b ∷ [])
  wrong (BadCharacter at) l e = reads_more None (Some (BadCharacter at)) c c b line bytes text (λ n. s) e (λ n. absurd (cc)) (lexical_is_there
      (BadCharacter at) l) h
  wrong (BadNumeral at) l e = reads_more None (Some (BadNumeral at)) c c b line bytes text (λ n. s) e (λ n. absurd (cc)) (lexical_is_there (BadNumeral at) l) h
  wrong TooLong l e = absurd l
  wrong NoMemory l e = absurd l

  by : (full : Bool) → is_full bytes line b ≡ full → (r : Result Cutter LexFault) → after_byte c b line ≡ r → Read (text ++ b ∷ [])
  by true e r f = long (full_is_too_long None c b line bytes text h e)
  by false e (Err fault) f = faulty fault c (line + feeds_at b) (bytes + 1) (few_more bytes line b few e) (low_more bytes line b low e) (leads
      (Err fault) f).1 (wrong fault (leads (Err fault) f).1 f)
  by false e (Ok new) f = good new (line + feeds_at b) (bytes + 1) (few_more bytes line b few e) (low_more bytes line b low e)
      (sound_more None None c new b line bytes (λ n. s) f refl)
      (reads_more None None c new b line bytes text (λ n. s) f (λ n. absurd (cc)) (λ n. absurd (cc)) h)

all_more : (front rest : List ℕ) → Read front → Read (front ++ rest)
all_more front [] r = subst Read (sym (append-nil front)) r
all_more front (b ∷ rest) r = subst Read (append_assoc front (b ∷ []) rest) (all_more (front ++ b ∷ []) rest (byte_more front b r))

empty_read : Read []
empty_read = good (record { marks = []; unfinished = Nothing; kept = [] }) 1 0 (omega arith) (omega arith)
    (record { spelled = refl; orderly = refl; begun = refl; few = omega arith }) reads_nothing

abbrev known_of : List Mark × ℕ → Result (List Mark × ℕ) LexFault → List Mark × ℕ
known_of other (Ok known) = known
known_of other (Err fault) = other

-- the symbols of a text that has been read
bounded_so : (text : List ℕ) (known : List Mark × ℕ) → symbols_of text ≡ Ok known → Read text → AreBounded known.0 known.1
bounded_so text known e (long h) = let f : symbols_of text ≡ Err TooLong = rw h refl in let no : Err TooLong ≡ Ok known = sym f ∙ e in absurd (cc)
bounded_so text known e (faulty fault c line bytes few low l h) = by fault l (fault_ends fault c line bytes text few low h) where
  by : (fault : LexFault) → IsLexical fault → ScanGives (Err fault) (symbols_of text) → AreBounded known.0 known.1
  by (BadCharacter at) l f = let no : Err (BadCharacter at) ≡ Ok known = sym f ∙ e in absurd (cc)
  by (BadNumeral at) l f = let no : Err (BadNumeral at) ≡ Ok known = sym f ∙ e in absurd (cc)
  by TooLong l f = absurd l
  by NoMemory l f = absurd l
bounded_so text known e (good c line bytes few low s h) = by (at_end c line) refl where
  short : symbols_of text ≡ symbols_from text 0 1
  short = let n : is_too_long text ≡ false = grind (arith, nat_tests, h.counted, h.lined) in rw n refl

  by : (r : Result Cutter LexFault) → at_end c line ≡ r → AreBounded known.0 known.1
  by (Ok new) f =
      let same : Ok (new.marks, line) ≡ Ok known = sym (end_symbols c new line bytes text few low s h f) ∙ e in
      let one : (new.marks, line) ≡ known = ap (known_of known) same in
      let sound = end_sound c new line bytes s f in
      let P : List Mark × ℕ → Type 0 = λ k. AreBounded k.0 k.1 in
      subst P one (record { spelled = sound.spelled; orderly = sound.orderly; few = omega (arith, sound.few, few); bounded = omega (arith, low) })
  by (Err fault) f =
      let done : Finishes (goes_on c line []) line bytes (Err fault) = subst (λ (q : Result Cutter LexFault). Finishes
      (goes_on c line []) line bytes q) f (end_finishes c.marks c.unfinished c.kept line bytes s) in
      let told : symbols_of text ≡ Err fault = short ∙ ap (λ t. symbols_from t 0 1) (sym (append-nil text)) ∙ sym (h.stated []) ∙ done in
      let no : Err fault ≡ Ok known = sym told ∙ e in absurd (cc)

pub symbols_bounded : (text : List ℕ) (known : List Mark × ℕ) → symbols_of text ≡ Ok known → AreBounded known.0 known.1
symbols_bounded text known e = bounded_so text known e (all_more [] text empty_read)

accepted_so : (text : List ℕ) (known : Result (List Mark × ℕ) LexFault) (unit : ProgramUnit) → symbols_of text ≡ known → AreAccepted known unit
    → IsSoundUnit unit
accepted_so text (Err fault) unit e u = absurd u
accepted_so text (Ok known) unit e u = record {
  tree = u.tree;
  sound = record {
    is_bounded = ∣ record { marks = known.0; last = known.1; spells = u.tree_is.spells; is_bounded = symbols_bounded text known e } ∣₁;
    shallow = levels_small u.tree 64 u.tree_is.shallow;
    resolved = (unit, u.resolved);
  };
  resolved = u.resolved;
}

pub accepted_texts_are_sound : AcceptedTextsAreSound
accepted_texts_are_sound text unit u = accepted_so text (symbols_of text) unit refl u
