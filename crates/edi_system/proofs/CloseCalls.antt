-- The calls that store and remove a text, from the clauses of the catalogue's calls.
use Rattle.std.proofs.Common.{◌≡◌, ◌≤◌, ◌⊎◌, inl, inr, ℕ, true, false, List, [], ◌∷◌, length, Option, Some, None, refl, sym, ap, subst, ◌∙◌}
use Rattle.std.specs.Prelude.{Result, Ok, Err, IfSome}
use Rattle.std.specs.List.{list_all}
use Rattle.std.specs.Option.{option_map, option_map_or}
use Rattle.std.specs.Str.{bytes_eq}
use Rattle.edi_told.specs.Told.{WhereTold}
use Rattle.edi_host.specs.Blocks.{is_block}
use Rattle.edi_disk.specs.Shown.{drive_of}
use Rattle.edi_calls.specs.declared.kinds.FileKind.{FileKind}
use Rattle.edi_calls.specs.declared.kinds.FileKind.TheVariants as kind
use Rattle.edi_calls.specs.State.{File, State, most_bytes, title_of}
use Rattle.edi_calls.specs.Calls.{CallResult, close, close_as, close_of, gives, remove, remove_as, stored, text_file, with_slot}
use Rattle.edi_catalog.specs.declared.catalog.Catalog.{Catalog}
use Rattle.edi_catalog.specs.declared.ends.CatEnd.{CatEnd}
use Rattle.edi_catalog.specs.declared.ends.CatEnd.TheVariants as cat
use Rattle.edi_image.specs.Image.{slots_of}
use Rattle.edi_catalog.specs.Files.{file_titled}
use Rattle.edi_catalog.specs.Mounted.{IsMounted, disk_of, files_of}
use Rattle.edi_catalog.specs.Changes.{CatalogAnswers, Changes, Leaves, kept_changed, not_deleted}
use Rattle.edi_catalog.specs.SlotsChanged.{deleted, slots_changed}
use Rattle.edi_catalog.specs.Storing.{StoreAnswers, StoreChanges, blocks_free, not_stored, index_for, stored_entry}
use Rattle.edi_catalog.specs.SlotsStored.{slots_stored}
use Rattle.edi_system.specs.State.{buffer_in, catalog_in, drive_in, failed_in, found_of, input_in, printer_in, state_of, state_with, terminal_in, IsReading}
use Rattle.edi_system.specs.State.{IsReady}
use Rattle.edi_system.specs.Ends.{is_fault, Reaches}
use Rattle.edi_system.specs.Reading.{not_titled}
use Rattle.edi_system.specs.Catalogue.{done, failed_at, is_drive_fault, is_refused}
use Rattle.edi_system.specs.declared.ends.Stop.{Stop}
use Rattle.edi_system.specs.declared.system.System.{System}
use Rattle.edi_system.proofs.Catalogue.{no_fault, none_failed, refused_untouched}
use Rattle.edi_system.proofs.Closing.{closes, done_fault, nothing_against, nothing_to_store, open_answer, removes, something_against, something_to_store}
use Rattle.edi_system.proofs.FoundFile.{state_open}
use Rattle.edi_system.proofs.OtherFiles.{not_titled_ready, removed_others, stored_others}
use Rattle.edi_system.proofs.Rooms.{IsImageOf, has_no_room, has_room, may_leave, may_not_leave, removed_slots, room_in, stored_slots}
use Rattle.edi_catalog.proofs.Sizes.{some_fact}
use Rattle.edi_system.proofs.Told.{told_same, told_together}

told_with : {A : Type 0} (a b : Option A) (R : A → A → Type 0) → WhereTold a b R → WhereTold a b (λ x y. (a ≡ Some x) × (b ≡ Some y) × R x y)
told_with a None R t = tt
told_with None (Some y) R t = absurd t
told_with (Some x) (Some y) R t = (refl, refl, t)

-- ---- a call that changes nothing

not_done : (made : CallResult) (word : ℕ) (before after : State) → made ≡ gives 0 before → word ≡ 0 → after ≡ before → Reaches made (Ok (Some word)) before
    after
not_done made word before after is answer same = subst (λ r. Reaches r (Ok (Some word)) before after) (sym is) (ap (λ w. w ∷ []) answer, same)

module _ {D S T P : Type 0} (contents : D → Option (List (List ℕ))) (left : S → Option (List ℕ)) (shown : T → Option (List ℕ)) (printed : P → Option (List ℕ))
  where
    -- what is told of a drive is told of the state, where the other objects are as before
    pub over_blocks : (before after : System D S T P) (R : List (List ℕ) → List (List ℕ) → Type 0) (W : State → State → Type 0)
        → WhereTold (contents (drive_in before)) (contents (drive_in after)) R
        → input_in after ≡ input_in before → terminal_in after ≡ terminal_in before → printer_in after ≡ printer_in before
        → ((b b' : List (List ℕ)) (i s p : List ℕ) → contents (drive_in before) ≡ Some b → contents (drive_in after) ≡ Some b' → R b b'
        → W (state_with before b i s p) (state_with after b' i s p))
        → WhereTold (state_of contents left shown printed before) (state_of contents left shown printed after) W
    over_blocks before after R W told ei es ep so =
        told_together (state_with before) (state_with after) _ _ _ _ _ _ _ _
        (λ x y. (contents (drive_in before) ≡ Some x) × (contents (drive_in after) ≡ Some y) × R x y) (λ x y. y ≡ x) (λ x y. y ≡ x) (λ x y. y ≡ x) W
        (told_with (contents (drive_in before)) (contents (drive_in after)) R told)
        (told_same (left (input_in before)) (left (input_in after)) (ap left ei))
        (told_same (shown (terminal_in before)) (shown (terminal_in after)) (ap shown es))
        (told_same (printed (printer_in before)) (printed (printer_in after)) (ap printed ep))
        (λ b b' i i' s s' p p' r same_i same_s same_p.
        subst (λ x. W (state_with before b i s p) (state_with after b' x s' p')) (sym same_i)
        (subst (λ x. W (state_with before b i s p) (state_with after b' i x p')) (sym same_s)
        (subst (λ x. W (state_with before b i s p) (state_with after b' i s x)) (sym same_p) (so b b' i s p r.0 r.1 r.2))))

    -- ---- calls of the catalogue

    module _ (count faults : D → ℕ) (counted : (drive : D) → IfSome (contents drive) (λ blocks. length blocks ≡ count drive))
        (sized : (drive : D) → IfSome (contents drive) (λ blocks. list_all is_block blocks ≡ true)) where
      image_of : (catalog : Catalog D) (blocks : List (List ℕ)) → IsMounted contents count catalog → contents (drive_of (disk_of catalog)) ≡ Some blocks
          → IsImageOf (count (drive_of (disk_of catalog))) (files_of catalog) blocks
      image_of catalog blocks mounted told = record {
        sized = some_fact (λ b. list_all is_block b ≡ true) (contents (drive_of (disk_of catalog))) blocks told (sized (drive_of (disk_of catalog)));
        many = some_fact (λ b. length b ≡ count (drive_of (disk_of catalog))) (contents (drive_of (disk_of catalog))) blocks told
            (counted (drive_of (disk_of catalog)));
        stored = mounted.stored;
        kept = mounted.image blocks told;
      }

      pub as_many : (before after : D) (b b' : List (List ℕ)) → contents before ≡ Some b → contents after ≡ Some b' → count after ≡ count before
          → length b' ≡ length b
      as_many before after b b' told told' same =
          some_fact (λ x. length x ≡ count after) (contents after) b' told' (counted after) ∙ same
          ∙ sym (some_fact (λ x. length x ≡ count before) (contents before) b told (counted before))

      module _ {X : Type 0} (before after : System D S T P) (answer : Result X CatEnd) (title words : List ℕ)
          (mounted : IsMounted contents count (catalog_in before))
          (spelled : title_of words ≡ Some title) (same_input : input_in after ≡ input_in before) (same_terminal : terminal_in after ≡ terminal_in before)
          (same_printer : printer_in after ≡ printer_in before) where
        pub closes_told : (bytes : List ℕ) (result : Result (Option ℕ) Stop) → result ≡ done answer → is_refused answer ≡ false
            → StoreChanges contents count faults answer
            (not_stored title (length bytes) (blocks_free (count (drive_in before)) (files_of (catalog_in before))) (files_of (catalog_in before)))
            title kind.Text bytes (catalog_in before) (catalog_in after)
            → buffer_in before ≡ Some bytes → after.found ≡ not_titled title before.found → buffer_in after ≡ None
            → WhereTold (state_of contents left shown printed before) (state_of contents left shown printed after) (λ b a. Reaches (close words b) result b a)
        closes_told bytes result is open_ changes written found gone =
            subst (λ r. WhereTold (state_of contents left shown printed before) (state_of contents left shown printed after)
            (λ b a. Reaches (close words b) r b a)) (sym is)
            (over_blocks before after (λ old new. Leaves answer (slots_of old) (slots_stored title kind.Text bytes (slots_of old)) old new)
            (λ b a. Reaches (close words b) (done answer) b a) changes.leaves same_input same_terminal same_printer
            (λ b b' i s p told told' leaves.
            (let room = has_room (count (drive_in before)) (files_of (catalog_in before)) b title (length bytes) (image_of (catalog_in before) b mounted told)
            (nothing_to_store answer _ _ _ _ _ open_ changes.answers) in
            closes before after answer title words b b' i s p spelled bytes room.index written room.room open_
            (stored_slots answer title (text_file title bytes) room.index b b' open_ room.slot leaves)
            (as_many (drive_in before) (drive_in after) b b' told told' changes.count_stays) found gone)))

        -- a call that has changed nothing answers false where the definition does
        refused_told : (made : State → CallResult) (word : ℕ) → word ≡ 0 → catalog_in after ≡ catalog_in before → after.found ≡ before.found
            → buffer_in after ≡ buffer_in before
            → ((b : List (List ℕ)) (i s p : List ℕ) → contents (drive_in before) ≡ Some b
            → made (state_with before b i s p) ≡ gives 0 (state_with before b i s p))
            → WhereTold (state_of contents left shown printed before) (state_of contents left shown printed after)
            (λ b a. Reaches (made b) (Ok (Some word)) b a)
        refused_told made word says same_catalog found kept none =
            over_blocks before after (λ old new. new ≡ old) (λ b a. Reaches (made b) (Ok (Some word)) b a)
            (told_same (contents (drive_in before)) (contents (drive_in after)) (ap (λ (c : Catalog D). contents (drive_of (disk_of c))) same_catalog))
            same_input same_terminal same_printer
            (λ b b' i s p told told' same.
            not_done (made (state_with before b i s p)) word (state_with before b i s p) (state_with after b' i s p) (none b i s p told) says
            (state_open before after b b' i i s s p p (ap (option_map found_of) found) kept same refl refl refl))

        pub close_refused_told : (bytes : List ℕ) (word : ℕ) → word ≡ 0 → length bytes ≤ most_bytes → is_refused answer ≡ true
            → StoreChanges contents count faults answer
            (not_stored title (length bytes) (blocks_free (count (drive_in before)) (files_of (catalog_in before))) (files_of (catalog_in before)))
            title kind.Text bytes (catalog_in before) (catalog_in after)
            → buffer_in before ≡ Some bytes → after.found ≡ before.found → buffer_in after ≡ buffer_in before
            → WhereTold (state_of contents left shown printed before) (state_of contents left shown printed after)
            (λ b a. Reaches (close words b) (Ok (Some word)) b a)
        close_refused_told bytes word says most closed changes written found kept =
            refused_told (close words) word says (refused_untouched answer (catalog_in before) (catalog_in after) closed changes.untouched) found kept
            (λ b i s p told.
            (let why = something_to_store answer _ _ _ _ _ closed changes.answers in
            let state = state_with before b i s p in
            let none : room_in b title (length bytes) ≡ None =
            has_no_room (count (drive_in before)) (files_of (catalog_in before)) b title (length bytes) (image_of (catalog_in before) b mounted told) why.0 most
            why.1 in
            ap (λ o. close_of o words state) written
            ∙ ap (λ o. option_map_or (λ t. close_as bytes t state) o (gives 0 state)) spelled
            ∙ ap (λ o. option_map_or (λ k. gives 1 (stored title bytes k state)) o (gives 0 state)) none))

        pub removes_told : (result : Result (Option ℕ) Stop) → result ≡ done answer → is_refused answer ≡ false
            → Changes contents count faults answer (not_deleted (file_titled title (files_of (catalog_in before))))
            (kept_changed deleted title (files_of (catalog_in before)))
            (slots_changed deleted title) (catalog_in before) (catalog_in after)
            → after.found ≡ not_titled title before.found → buffer_in after ≡ buffer_in before
            → WhereTold (state_of contents left shown printed before) (state_of contents left shown printed after) (λ b a. Reaches (remove words b) result b a)
        removes_told result is open_ changes found kept =
            subst (λ r. WhereTold (state_of contents left shown printed before) (state_of contents left shown printed after)
            (λ b a. Reaches (remove words b) r b a)) (sym is)
            (over_blocks before after (λ old new. Leaves answer (slots_of old) (slots_changed deleted title (slots_of old)) old new)
            (λ b a. Reaches (remove words b) (done answer) b a) changes.leaves same_input same_terminal same_printer
            (λ b b' i s p told told' leaves.
            (let may = may_leave (files_of (catalog_in before)) b title (mounted.image b told) (nothing_against answer _ _ _ _ open_ changes.answers) in
            removes before after answer title words b b' i s p spelled may.index may.open_ open_
            (removed_slots answer title may.index b b' open_ may.slot leaves)
            (as_many (drive_in before) (drive_in after) b b' told told' changes.count_stays) found kept)))

        pub remove_refused_told : (word : ℕ) → word ≡ 0 → is_refused answer ≡ true
            → Changes contents count faults answer (not_deleted (file_titled title (files_of (catalog_in before))))
            (kept_changed deleted title (files_of (catalog_in before)))
            (slots_changed deleted title) (catalog_in before) (catalog_in after)
            → after.found ≡ before.found → buffer_in after ≡ buffer_in before
            → WhereTold (state_of contents left shown printed before) (state_of contents left shown printed after)
            (λ b a. Reaches (remove words b) (Ok (Some word)) b a)
        remove_refused_told word says closed changes found kept =
            refused_told (remove words) word says (refused_untouched answer (catalog_in before) (catalog_in after) closed changes.untouched) found kept
            (λ b i s p told.
            (let why = something_against answer _ _ _ _ closed changes.answers in
            let state = state_with before b i s p in
            ap (λ o. option_map_or (λ t. remove_as t state) o (gives 0 state)) spelled
            ∙ ap (λ o. option_map_or (λ k. gives 1 (with_slot state title k None)) o (gives 0 state))
            (may_not_leave (files_of (catalog_in before)) b title (mounted.image b told) why.0 why.1)))

-- ---- the next call

module _ {D S T P X : Type 0} (contents : D → Option (List (List ℕ))) (count faults : D → ℕ) (before after : System D S T P) (answer : Result X CatEnd)
    (title : List ℕ)
    (result : Result (Option ℕ) Stop) (is : result ≡ done answer) (open_ : is_refused answer ≡ false) (ready : IsReady contents count before)
    (failed : failed_in after ≡ failed_at answer) (found : after.found ≡ not_titled title before.found) (page : after.page ≡ before.page) where
  not_failed : is_fault result ≡ false → is_drive_fault answer ≡ false
  not_failed e = sym (ap is_fault is ∙ done_fault answer open_) ∙ e

  done_ready : (is_drive_fault answer ≡ false → (other : List ℕ) → bytes_eq other title ≡ false
      → file_titled other (files_of (catalog_in after)) ≡ file_titled other (files_of (catalog_in before)))
      → (answer ≡ Err cat.Fault) ⊎ IsMounted contents count (catalog_in after) → is_fault result ≡ false → IsReady contents count after
  done_ready others mounted e = record {
    nothing_failed = failed ∙ none_failed answer (not_failed e);
    mounted = no_fault answer mounted (not_failed e);
    reading =
        subst (λ o. IfSome o (IsReading contents (catalog_in after) after.page)) (sym found)
        (subst (λ x. IfSome (not_titled title before.found) (IsReading contents (catalog_in after) x)) (sym page)
        (not_titled_ready contents (catalog_in before) (catalog_in after) before.page title before.found (others (not_failed e)) ready.reading));
  }

  pub closes_ready : (kind : FileKind) (bytes : List ℕ) (refusal : Option CatEnd)
      → StoreChanges contents count faults answer refusal title kind bytes (catalog_in before) (catalog_in after) → is_fault result ≡ false
      → IsReady contents count after
  closes_ready kind bytes refusal changes = done_ready (λ fine other differ. go fine other differ (open_answer answer open_)) changes.mounted where
    go : is_drive_fault answer ≡ false → (other : List ℕ) → bytes_eq other title ≡ false → ((x : X) × (answer ≡ Ok x)) ⊎ (answer ≡ Err cat.Fault)
        → file_titled other (files_of (catalog_in after)) ≡ file_titled other (files_of (catalog_in before))
    go fine other differ (inl ok) =
        stored_others title kind (length bytes) (files_of (catalog_in before)) (files_of (catalog_in after)) other differ
        (subst (λ r. StoreAnswers r refusal (index_for title (files_of (catalog_in before))) (stored_entry title kind (length bytes))
        (files_of (catalog_in before)) (files_of (catalog_in after))) ok.1 changes.answers).1
    go fine other differ (inr fault) = absurd (let no : true ≡ false = sym (ap is_drive_fault fault) ∙ fine in cc)

  pub removes_ready : (refusal : Option CatEnd) (wanted : List (Option File) → List (Option File))
      → Changes contents count faults answer refusal (kept_changed deleted title (files_of (catalog_in before))) wanted (catalog_in before) (catalog_in after)
      → is_fault result ≡ false → IsReady contents count after
  removes_ready refusal wanted changes = done_ready (λ fine other differ. go fine other differ (open_answer answer open_)) changes.mounted where
    go : is_drive_fault answer ≡ false → (other : List ℕ) → bytes_eq other title ≡ false → ((x : X) × (answer ≡ Ok x)) ⊎ (answer ≡ Err cat.Fault)
        → file_titled other (files_of (catalog_in after)) ≡ file_titled other (files_of (catalog_in before))
    go fine other differ (inl ok) =
        removed_others title (files_of (catalog_in before)) (files_of (catalog_in after)) other differ
        (subst (λ r. CatalogAnswers r refusal (files_of (catalog_in before)) (kept_changed deleted title (files_of (catalog_in before)))
        (files_of (catalog_in after))) ok.1 changes.answers).1
    go fine other differ (inr fault) = absurd (let no : true ≡ false = sym (ap is_drive_fault fault) ∙ fine in cc)
