-- The found file of a system.
use Rattle.std.proofs.Common.{◌≡◌, ◌⊎◌, inl, inr, ◌<◌, ◌≤◌, ℕ, List, [], ◌∷◌, get_or, length, Option, Some, None, refl, sym, ap, subst, ◌∙◌}
use Rattle.std.proofs.lemmas.Bool.{le-ltb, lt-ltb}
use Rattle.std.proofs.lemmas.Option.{slice_get_cases}
use Rattle.std.specs.Prelude.{is_some, nat_lt, slice_get, IfSome, Ok}
use Rattle.std.specs.Option.{option_map, option_and_then}
use Rattle.edi_told.specs.Told.{WhereTold}
use Rattle.edi_calls.specs.State.{Found, State, title_of}
use Rattle.edi_calls.specs.Calls.{find, found_bytes, found_in, more, more_of, word_of}
use Rattle.edi_catalog.specs.Files.{entry_of, file_titled}
use Rattle.edi_catalog.specs.Mounted.{files_of, IsMounted}
use Rattle.edi_image.specs.Stored.{IsKeptOf}
use Rattle.edi_catalog.proofs.Mounts.{told_same_blocks}
use Rattle.edi_system.specs.State.{buffer_in, catalog_in, drive_in, found_of, input_in, printer_in, state_of, state_with, terminal_in, IsReading, IsReady}
use Rattle.edi_system.specs.Ends.{Reaches}
use Rattle.edi_system.specs.Reading.{text_of, text_spelled, LooksAt}
use Rattle.edi_system.specs.declared.reading.Reading.{Reading}
use Rattle.edi_system.specs.declared.system.System.{System}
use Rattle.edi_system.proofs.Told.{told_same, told_together}
use Rattle.edi_system.proofs.Pages.{text_found, text_ready}

-- the states before and after a call that changes neither what is known of the found file nor the buffer
pub state_open : {D S T P : Type 0} (before after : System D S T P) (b b' : List (List ℕ)) (i i' s s' p p' : List ℕ)
    → option_map found_of after.found ≡ option_map found_of before.found → buffer_in after ≡ buffer_in before → b' ≡ b → i' ≡ i → s' ≡ s → p' ≡ p
    → state_with after b' i' s' p' ≡ state_with before b i s p
state_open before after b b' i i' s s' p p' ef eu eb ei es ep =
    ap (λ x. state_with after x i' s' p') eb ∙ ap (λ x. state_with after b x s' p') ei ∙ ap (λ x. state_with after b i x p') es
    ∙ ap (λ x. state_with after b i s x) ep
    ∙ ap (λ x. record (state_with after b i s p) { found = x }) ef
    ∙ ap (λ x. record (state_with before b i s p) { buffer = x }) eu

is_some_map : {A B : Type 0} (f : A → B) (o : Option A) → is_some (option_map f o) ≡ is_some o
is_some_map f None = refl
is_some_map f (Some x) = refl

spelled : {D S T P : Type 0} (system : System D S T P) (b : List (List ℕ)) (i s p words : List ℕ) → IsKeptOf b (files_of (catalog_in system))
    → option_and_then (found_in (state_with system b i s p)) (title_of words) ≡ option_map found_of (text_spelled words (files_of (catalog_in system)))
spelled system b i s p words kept = go (title_of words) where
  go : (o : Option (List ℕ)) → option_and_then (found_in (state_with system b i s p)) o
      ≡ option_map found_of (option_and_then (λ title. text_of title (option_map entry_of (file_titled title (files_of (catalog_in system))))) o)
  go None = refl
  go (Some title) = text_found b title (files_of (catalog_in system)) kept

pub finds_told : {D S T P : Type 0} (contents : D → Option (List (List ℕ))) (count : D → ℕ) (left : S → Option (List ℕ)) (shown : T → Option (List ℕ))
    (printed : P → Option (List ℕ))
    (before : System D S T P) (words : List ℕ) (found : Option Reading) (word : ℕ)
    → IsMounted contents count (catalog_in before) → found ≡ text_spelled words (files_of (catalog_in before)) → word ≡ word_of (is_some found)
    → WhereTold (state_of contents left shown printed before) (state_of contents left shown printed (record before { found = found }))
    (λ b a. Reaches (find words b) (Ok (Some word)) b a)
finds_told contents count left shown printed before words found word mounted is answer =
    told_together (state_with before) (state_with (record before { found = found })) _ _ _ _ _ _ _ _
    (λ old new. (new ≡ old) × IsKeptOf old (files_of (catalog_in before))) (λ x y. y ≡ x) (λ x y. y ≡ x) (λ x y. y ≡ x)
    (λ b a. Reaches (find words b) (Ok (Some word)) b a)
    (told_same_blocks (contents (drive_in before)) (contents (drive_in before)) (λ old. IsKeptOf old (files_of (catalog_in before)))
    (λ blocks told. (told, mounted.image blocks told)))
    (told_same (left (input_in before)) (left (input_in before)) refl) (told_same (shown (terminal_in before)) (shown (terminal_in before)) refl)
    (told_same (printed (printer_in before)) (printed (printer_in before)) refl)
    (λ b b' i i' s s' p p' eb ei es ep.
    (let same = spelled before b i s p words eb.1 in
    let now : option_and_then (found_in (state_with before b i s p)) (title_of words) ≡ option_map found_of found = same
    ∙ ap (option_map found_of) (sym is) in (
      ap (λ w. w ∷ []) (answer ∙ ap word_of (sym (is_some_map found_of found) ∙ ap is_some (sym now))),
      state_open (record before { found = found }) (record before { found = found }) b b' i i' s s' p p' refl refl eb.0 ei es ep
          ∙ ap (λ x. record (state_with before b i s p) { found = x }) (sym now),
    )))

pub found_ready : {D S T P : Type 0} (contents : D → Option (List (List ℕ))) (count : D → ℕ) (before : System D S T P) (words : List ℕ) (found : Option Reading)
    → IsReady contents count before → found ≡ text_spelled words (files_of (catalog_in before)) → IsReady contents count (record before { found = found })
found_ready contents count before words found ready is = record {
  nothing_failed = ready.nothing_failed;
  mounted = ready.mounted;
  reading = subst (λ o. IfSome o (IsReading contents (catalog_in before) before.page)) (sym is) (go (title_of words));
} where
  go : (o : Option (List ℕ)) → IfSome (option_and_then (λ title. text_of title (option_map entry_of (file_titled title (files_of (catalog_in before))))) o)
      (IsReading contents (catalog_in before) before.page)
  go None = tt
  go (Some title) = text_ready contents (catalog_in before) before.page title

-- there is an element exactly below the length
there : (xs : List ℕ) (k : ℕ) → is_some (slice_get xs k) ≡ nat_lt k (length xs)
there xs k = go (slice_get_cases xs k).1 where
  go : ((x : ℕ) × (k < length xs) × (slice_get xs k ≡ Some x) × (get_or xs k x ≡ x)) ⊎ ((length xs ≤ k) × (slice_get xs k ≡ None))
      → is_some (slice_get xs k) ≡ nat_lt k (length xs)
  go (inl found) = ap is_some found.2 ∙ sym (lt-ltb k (length xs) found.1)
  go (inr none) = ap is_some none.1 ∙ sym (le-ltb k (length xs) none.0)

-- whether bytes are left, from whether there is a next one
pub more_is : (byte : Option ℕ) (word : ℕ) (found : Option Found) (before after : State) → word ≡ word_of (is_some byte) → before.found ≡ found
    → LooksAt (Ok byte) found before after → Reaches (more before) (Ok (Some word)) before after
more_is byte word None before after is e looks = absurd looks
more_is byte word (Some found) before after is e looks =
    subst (λ o. Reaches (more_of o before) (Ok (Some word)) before after) (sym e)
    (ap (λ w. w ∷ []) (is ∙ ap word_of (ap is_some looks.0 ∙ there (found_bytes before found) found.position)), looks.1)
