-- Words of contracts. What each of a program's ten calls leaves, of each object by its own contents: which objects it uses, the found
-- file, the buffer, what is kept of the catalogue, and the blocks of the drive and their number.
use Rattle.std.specs.Prelude.{◌≡◌, ◌↔◌, ◌⊎◌, ◌<◌, ℕ, zero, suc, not, List, [], ◌∷◌, slice_index, Option, None, Some, is_some, IfErr, IfOk, IfSome, OnOk, Result, Ok, Err, ⊤}
use Rattle.edi_told.specs.Told.{WhereTold}
use Rattle.edi_calls.specs.Calls.{word_of}
use Rattle.edi_calls.specs.State.{character, title_of}
use Rattle.edi_catalog.specs.Mounted.{files_of}
use Rattle.edi_system.specs.Buffers.{WritesTo}
use Rattle.edi_system.specs.Catalogue.{OnlyFiles, OnlyReading}
use Rattle.edi_system.specs.Closing.{Closes, Removes}
use Rattle.edi_system.specs.Ends.{is_fault}
use Rattle.edi_system.specs.Loading.{LoadsNext}
use Rattle.edi_system.specs.Parts.{OnlyInput, OnlyOpenFiles, OnlyPrinter, OnlyTerminal, Prints, Shows}
use Rattle.edi_system.specs.Reading.{text_spelled, CatalogRests, MoreIs, ReadsOn}
use Rattle.edi_system.specs.State.{buffer_in, catalog_in, input_in}
use Rattle.edi_system.specs.declared.ends.Stop.{Stop}
use Rattle.edi_system.specs.declared.ends.Stop.TheVariants as stop
use Rattle.edi_system.specs.declared.system.System.{System}

-- the first character that is left of the input was taken, or at its end the word of that; a fault takes none
abbrev pub AcceptsByte : Result (Option ℕ) Stop → (old new : List ℕ) → Type 0
AcceptsByte (Ok None) old new = ⊥
AcceptsByte (Ok (Some word)) [] new = (word ≡ 25) × (new ≡ [])
AcceptsByte (Ok (Some word)) (byte ∷ rest) new = (word ≡ character byte) × (new ≡ rest)
AcceptsByte (Err why) old new = new ≡ old

-- the answer of a call that asks for a character, and of one that has no answer word: there is no refusal
abbrev pub AsksOnly : Result (Option ℕ) Stop → Type 0
AsksOnly (Ok (Some word)) = word < 128
AsksOnly (Err stop.Fault) = ⊤
AsksOnly other = ⊥

abbrev pub TellsOnly : Result (Option ℕ) Stop → Type 0
TellsOnly (Ok None) = ⊤
TellsOnly (Err stop.Fault) = ⊤
TellsOnly other = ⊥

-- the one refusal is that there is no found file
abbrev pub MayLackFile : {X : Type 0} → Result X Stop → Type 0
MayLackFile result = IfErr result (λ why. (why ≡ stop.NoFile) ⊎ (why ≡ stop.Fault))

module _ {D S T P : Type 0} where
  abbrev pub DoesAccept : (S → Option (List ℕ)) → Result (Option ℕ) Stop → (before after : System D S T P) → Type 0
  DoesAccept left result before after =
      OnlyInput before after × AsksOnly result × WhereTold (left (input_in before)) (left (input_in after)) (AcceptsByte result)

  -- the character of a word was shown, or a fault says that it was not
  abbrev pub DoesDisplay : (T → Option (List ℕ)) → ℕ → Result (Option ℕ) Stop → (before after : System D S T P) → Type 0
  DoesDisplay shown word result before after =
      OnlyTerminal before after × TellsOnly result × Shows shown (not (is_fault result)) (character word ∷ []) before after

  abbrev pub DoesPrint : (P → Option (List ℕ)) → ℕ → Result (Option ℕ) Stop → (before after : System D S T P) → Type 0
  DoesPrint printed word result before after =
      OnlyPrinter before after × TellsOnly result × Prints printed (not (is_fault result)) (character word ∷ []) before after

  -- the found file is the text whose title the words spell, if there is one; the buffer stays
  abbrev pub DoesFind : (words : List ℕ) → Result (Option ℕ) Stop → (before after : System D S T P) → Type 0
  DoesFind words result before after =
      OnlyOpenFiles before after × (after.found ≡ text_spelled words (files_of (catalog_in before)))
      × (result ≡ Ok (Some (word_of (is_some after.found)))) × (buffer_in after ≡ buffer_in before)

  -- There is no found file exactly where the answer says so. Whatever the drive tells: where there is a next byte, its page is kept, and
  -- was read unless it was kept.
  abbrev pub NeedsFile : (D → Option (List (List ℕ))) → (D → ℕ) → Result (Option ℕ) Stop → (before after : System D S T P) → Type 0
  NeedsFile contents count result before after =
      OnlyReading before after × CatalogRests contents count (catalog_in before) (catalog_in after)
      × ((result ≡ Err stop.NoFile) ↔ (before.found ≡ None)) × MayLackFile result
      × OnOk result (LoadsNext before.found after.found before.page after.page (catalog_in before) (catalog_in after))

  abbrev pub DoesMore : (D → Option (List (List ℕ))) → (D → ℕ) → Result (Option ℕ) Stop → (before after : System D S T P) → Type 0
  DoesMore contents count result before after =
      NeedsFile contents count result before after × IfOk result (λ word. MoreIs word before.found after.found)

  abbrev pub DoesRead : (D → Option (List (List ℕ))) → (D → ℕ) → Result (Option ℕ) Stop → (before after : System D S T P) → Type 0
  DoesRead contents count result before after =
      NeedsFile contents count result before after × IfOk result (λ word. ReadsOn word after.page before.found after.found)

  -- an empty buffer is begun; the found file stays, with its page
  abbrev pub DoesFresh : Result (Option ℕ) Stop → (before after : System D S T P) → Type 0
  DoesFresh result before after =
      OnlyOpenFiles before after × (result ≡ Ok None) × (buffer_in after ≡ Some []) × (after.found ≡ before.found)

  abbrev pub DoesWrite : ℕ → Result (Option ℕ) Stop → (before after : System D S T P) → Type 0
  DoesWrite word result before after =
      OnlyOpenFiles before after × WritesTo result (character word) (buffer_in before) (buffer_in after) × (after.found ≡ before.found)
      × IfOk result (λ answer. answer ≡ None)

  abbrev pub DoesClose : (D → Option (List (List ℕ))) → (D → ℕ) → (words : List ℕ) → Result (Option ℕ) Stop → (before after : System D S T P) → Type 0
  DoesClose contents count words result before after =
      OnlyFiles before after × ((result ≡ Err stop.NoFile) ↔ (buffer_in before ≡ None))
      × IfSome (buffer_in before) (λ bytes. Closes contents count result (title_of words) bytes before after)

  abbrev pub DoesRemove : (D → Option (List (List ℕ))) → (D → ℕ) → (words : List ℕ) → Result (Option ℕ) Stop → (before after : System D S T P) → Type 0
  DoesRemove contents count words result before after = OnlyFiles before after × Removes contents count result (title_of words) before after

  -- the calls by their numbers, from 1 to 10
  abbrev pub Does : (contents : D → Option (List (List ℕ))) → (count : D → ℕ) → (left : S → Option (List ℕ)) → (shown : T → Option (List ℕ))
      → (printed : P → Option (List ℕ)) → (number : ℕ) → (words : List ℕ) → Result (Option ℕ) Stop → (before after : System D S T P) → Type 0
  Does contents count left shown printed zero words result before after = ⊤
  Does contents count left shown printed (suc zero) words result before after = DoesAccept left result before after
  Does contents count left shown printed (suc (suc zero)) words result before after = DoesDisplay shown (slice_index words 0) result before after
  Does contents count left shown printed (suc (suc (suc zero))) words result before after = DoesPrint printed (slice_index words 0) result before after
  Does contents count left shown printed (suc (suc (suc (suc zero)))) words result before after = DoesFind words result before after
  Does contents count left shown printed (suc (suc (suc (suc (suc zero))))) words result before after = DoesMore contents count result before after
  Does contents count left shown printed (suc (suc (suc (suc (suc (suc zero)))))) words result before after = DoesRead contents count result before after
  Does contents count left shown printed (suc (suc (suc (suc (suc (suc (suc zero))))))) words result before after = DoesFresh result before after
  Does contents count left shown printed (suc (suc (suc (suc (suc (suc (suc (suc zero)))))))) words result before after =
      DoesWrite (slice_index words 0) result before after
  Does contents count left shown printed (suc (suc (suc (suc (suc (suc (suc (suc (suc zero))))))))) words result before after =
      DoesClose contents count words result before after
  Does contents count left shown printed (suc (suc (suc (suc (suc (suc (suc (suc (suc (suc more)))))))))) words result before after =
      DoesRemove contents count words result before after
