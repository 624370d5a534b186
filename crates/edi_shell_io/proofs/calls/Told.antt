-- What the calls of a system say, told by the shells of the definition.
use Rattle.std.proofs.Common.{◌≡◌, ◌⊎◌, ℕ, ◌-◌, Bool, true, false, List, [], ◌∷◌, length, take, drop, map, Option, Some, None, Result, Ok}
use Rattle.std.proofs.Common.{Err, refl, sym, ap, subst, ◌∙◌, arith, inl, inr}
use Rattle.std.specs.Prelude.{◌==◌, ◌<◌, IsSome, IfSome, IfErr, not, slice_get, if◌then◌else◌}
use Rattle.std.specs.Option.{option_map, option_map_or}
use Rattle.std.proofs.lemmas.List.{take_all, length-map}
use Rattle.edi_told.specs.Told.{WhereTold}
use Rattle.edi_host.specs.declared.source.Next.{Next}
use Rattle.edi_host.specs.declared.source.Next.TheVariants as next
use Rattle.edi_host.specs.Streams.{next_fault}
use Rattle.edi_calls.specs.declared.ends.Outside.{Outside}
use Rattle.edi_calls.specs.declared.ends.Outside.TheVariants as outside
use Rattle.edi_calls.specs.State.{File, State, fresh, find_file}
use Rattle.edi_image.specs.Image.{entries_of, slot_in, slots_of}
use Rattle.edi_image.specs.Stored.{StoredFile, stored_of}
use Rattle.edi_catalog.specs.declared.ends.CatEnd.{CatEnd}
use Rattle.edi_catalog.specs.declared.ends.CatEnd.TheVariants as cat
use Rattle.edi_catalog.specs.declared.entry.Entry.{Entry}
use Rattle.edi_catalog.specs.SlotsChanged.{file_protected, slots_changed}
use Rattle.edi_catalog.specs.InSlots.{entry_told}
use Rattle.edi_catalog.specs.Refusing.{no_such}
use Rattle.edi_catalog.specs.Mounted.{files_of}
use Rattle.edi_system.specs.Catalogue.{failed_at}
use Rattle.edi_system.specs.AsCalls.{IsDueFrom, IsDueSince, KeepsDue}
use Rattle.edi_system.specs.InState as InState
use Rattle.edi_system.specs.InState.{ReadsWhole, StateAnswer, left_open}
use Rattle.edi_system.specs.Parts.{IsPart, due_after, line_end, ShowsMore, PrintsMore, TakesByte}
use Rattle.edi_system.specs.State.{IsReady, all_told, catalog_in, drive_in, due_in, failed_in, input_in, printer_in, state_of, state_with, terminal_in}
use Rattle.edi_system.specs.declared.system.System.{System}
use Rattle.edi_session.specs.declared.end.SessionEnd.{SessionEnd}
use Rattle.edi_session.specs.Course.{Course, MayFail, prints, shows, states_of}
use Rattle.edi_session.specs.Files.{file_in}
use Rattle.edi_session.specs.Shell.{Shell, state_in, shown_by, printed_by, on_fresh_line, shown_in, took_byte}
use Rattle.edi_session.specs.Texts as texts
use Rattle.edi_shell_io.specs.calls.OnSystem.{FailsAt, StandsAt, taken_by, put_by, read_by, page_by, page_size}
use Rattle.edi_shell_io.specs.calls.Standing.{Answers, At, Leads, ReadsFile, ReadsPage, StandsIn, Takes, with_slots}
use Rattle.edi_shell_io.proofs.calls.Pages.{counted, page_part}
use Rattle.edi_shell_io.proofs.calls.Steps.{Appends, drive_now, drive_past, input_past, more_printed, more_shown, prints_append, shows_append}
use Rattle.edi_shell_io.proofs.calls.Options.{Both, both, has_state, one}

-- ---- the next byte of an input

-- one that is not empty has one
next_of : (input : List ℕ) → 0 < length input → (byte : ℕ) × (left : List ℕ) × (input ≡ byte ∷ left)
next_of [] some = absurd (omega (arith, some))
next_of (byte ∷ left) some = (byte, left, refl)

-- ---- whether a line is due

last_get : (b : ℕ) (bs : List ℕ) → slice_get (b ∷ bs) (length bs) ≡ texts.last_of (b ∷ bs)
last_get b [] = refl
last_get b (c ∷ bs) = last_get c bs

same_feed : (ends : Bool) → line_end (not ends) ≡ texts.feed (if ends then false else true)
same_feed true = refl
same_feed false = refl

end_by : (o : Option ℕ) (b : ℕ) → o ≡ Some b → line_end (option_map_or (λ c. not (c == 10)) o false) ≡ texts.feed (texts.is_due_behind o)
end_by o b is =
    ap (λ p. line_end (option_map_or (λ c. not (c == 10)) p false)) is ∙ same_feed (b == 10)
    ∙ sym (ap (λ p. texts.feed (texts.is_due_behind p)) is)

some_last : (b : ℕ) (bs : List ℕ) → (c : ℕ) × (texts.last_of (b ∷ bs) ≡ Some c)
some_last b [] = (b, refl)
some_last b (c ∷ bs) = some_last c bs

-- the two rules of fresh lines are one
same_end : (bytes : List ℕ) → line_end (due_after false bytes) ≡ texts.line_end bytes
same_end [] = refl
same_end (b ∷ bs) =
    let last = some_last b bs in
    let at : length (b ∷ bs) - 1 ≡ length bs = omega arith in
    ap (λ k. line_end (option_map_or (λ c. not (c == 10)) (slice_get (b ∷ bs) k) false)) at
    ∙ ap (λ o. line_end (option_map_or (λ c. not (c == 10)) o false)) (last_get b bs)
    ∙ end_by (texts.last_of (b ∷ bs)) last.0 last.1

-- where the terminal did not take it all there is a line feed
line_some : (due done : Bool) → (due ≡ false → done ≡ true) → done ≡ false → 0 < length (line_end due)
line_some true done quiet failed = omega arith
line_some false done quiet failed = let wrong : true ≡ false = sym (quiet refl) ∙ failed in absurd (cc)

-- ---- slots

as_many : (blocks : List (List ℕ)) (files : List (Option StoredFile)) → files ≡ map (stored_of blocks) (entries_of blocks) → length files ≡ 256
    → length (slots_of blocks) ≡ 256
unfolding slots_of
as_many blocks files e many =
    length-map (entries_of blocks) (slot_in blocks) ∙ sym (length-map (entries_of blocks) (stored_of blocks)) ∙ ap length (sym e) ∙ many

module _ {D S T P : Type 0} (contents : D → Option (List (List ℕ))) (left : S → Option (List ℕ)) (shown : T → Option (List ℕ)) (printed : P → Option (List ℕ))
  where
    abbrev pub told : System D S T P → Option State
    told system = state_of contents left shown printed system

    abbrev pub stands : System D S T P → Outside → State → Type 0
    stands system failed state = FailsAt contents left shown printed system failed state

    abbrev pub at : System D S T P → State → ℕ → Type 0
    at system state shown_before = StandsAt contents left shown printed system state shown_before

    -- what the objects tell, where all do
    record Contents (system : System D S T P) (now : State) : Type 0 where
      pub blocks : List (List ℕ)
      pub drive : contents (drive_in system) ≡ Some blocks
      pub terminal : shown (terminal_in system) ≡ Some now.shown
      pub slots : now.slots ≡ slots_of blocks
      pub count : now.blocks ≡ length blocks

    contents_told : (system : System D S T P) (now : State) → told system ≡ Some now → Contents system now
    contents_told system now is = go (contents (drive_in system)) (left (input_in system)) (shown (terminal_in system)) (printed (printer_in system)) refl refl is
      where
        go : (d : Option (List (List ℕ))) (i t p : Option (List ℕ)) → contents (drive_in system) ≡ d → shown (terminal_in system) ≡ t
            → all_told (state_with system) d i t p ≡ Some now → Contents system now
        go (Some b) (Some i) (Some t) (Some p) ed et is =
            let same : state_with system b i t p ≡ now = cc in
            record {
              blocks = b;
              drive = ed;
              terminal = et ∙ ap (λ s. Some (s.shown)) same;
              slots = sym (ap (λ s. s.slots) same);
              count = sym (ap (λ s. s.blocks) same);
            }
        go (Some b) (Some i) (Some t) None ed et is = absurd (cc)
        go (Some b) (Some i) None p ed et is = absurd (cc)
        go (Some b) None t p ed et is = absurd (cc)
        go None i t p ed et is = absurd (cc)

    -- a system stands at a shell whose state has its contents, and whose bytes before the session are as many
    pub stands_at : (system : System D S T P) (s : Shell) (y : State) (before : ℕ) → told system ≡ Some y → fresh y ≡ fresh (state_in s)
        → IsDueSince shown system before → s.shown_before ≡ before → At at system s
    stands_at system s y before is alike due same =
        record { has = has_state (told system) y (state_in s) is alike; due = subst (IsDueSince shown system) (sym same) due }

    pub stands_in : (system : System D S T P) (s : Shell) (y moment : State) (failed : Outside) → told system ≡ Some y → fresh y ≡ fresh moment
        → failed_in system ≡ Some failed → MayFail failed (states_of s.system) moment → StandsIn stands s system
    stands_in system s y moment failed is alike blamed there = record {
      failed = failed;
      moment = moment;
      there = there;
      is = record { blamed = blamed; has = has_state (told system) y moment is alike };
    }

    -- no byte is shown, or printed
    pub none_shown : (system : System D S T P) (s : Shell) (bytes : List ℕ) → length bytes ≡ 0 → At at system s → At at system (shown_by bytes s)
    none_shown system s [] none a = a
    none_shown system s (b ∷ bytes) none a = absurd (omega (arith, none))

    pub none_printed : (system : System D S T P) (s : Shell) (bytes : List ℕ) → length bytes ≡ 0 → At at system s → At at system (printed_by bytes s)
    none_printed system s [] none a = a
    none_printed system s (b ∷ bytes) none a = absurd (omega (arith, none))

    -- the file of a title
    pub finds : (system : System D S T P) (s : Shell) → At at system s → IsSome (told system) → (title : List ℕ) (found : Option Entry)
        → IfSome (contents (drive_in system)) (λ blocks. found ≡ option_map entry_told (find_file (slots_of blocks) title))
        → found ≡ option_map entry_told (file_in s title)
    finds system s at_ tells title found is =
        let o = one (told system) (state_in s) at_.has tells in
        let c = contents_told system o.now o.is in
        let here : found ≡ option_map entry_told (find_file (slots_of c.blocks) title) =
        subst (λ d. IfSome d (λ blocks. found ≡ option_map entry_told (find_file (slots_of blocks) title))) c.drive is in
        here ∙ ap (λ slots. option_map entry_told (find_file slots title)) (sym c.slots ∙ ap (λ x. x.slots) o.alike)

    -- there are 256 slots
    pub slots_are : (system : System D S T P) (s : Shell) (count : D → ℕ) → At at system s → IsSome (told system) → IsReady contents count system
        → length (state_in s).slots ≡ 256
    slots_are system s count at_ tells ready =
        let o = one (told system) (state_in s) at_.has tells in
        let c = contents_told system o.now o.is in
        let kept = ready.mounted.image c.blocks c.drive in
        ap (λ x. length x.slots) (sym o.alike) ∙ ap length c.slots ∙ as_many c.blocks (files_of (catalog_in system)) kept.slots ready.mounted.many

    module _ (old new : System D S T P) (s : Shell) (at_old : At at old s) (tells : IsSome (told new)) (keeps : KeepsDue shown old new) where
      pub due : IsDueSince shown new s.shown_before
      due = keeps s.shown_before at_old.due

      pub pair : (R : State → State → Type 0) → WhereTold (told old) (told new) R → Both R (told old) (told new) (state_in s)
      pair R so = both R (told old) (told new) (state_in s) at_old.has tells so

      -- ---- the input

      pub takes : (answer : Next) → failed_in new ≡ (if next_fault answer then Some outside.Input else None)
          → WhereTold (told old) (told new) (TakesByte answer) → Takes at stands (taken_by answer) s new
      takes (next.Byte b) blamed so =
          let p = pair (TakesByte (next.Byte b)) so in
          let input : (state_in s).input ≡ b ∷ p.after.input = sym (ap (λ x. x.input) p.alike) ∙ p.so.0 in (
            p.after.input,
            input,
            stands_at new (took_byte p.after.input s) p.after s.shown_before p.is
                (ap fresh p.so.1 ∙ ap (λ (x : State). record x { input = p.after.input }) p.alike) due refl,
          )
      takes next.End blamed so =
          let p = pair (TakesByte next.End) so in
          let none : (state_in s).input ≡ [] = sym (ap (λ x. x.input) p.alike) ∙ p.so.0.0 in
          let same : p.after.input ≡ p.before.input = p.so.0.1 ∙ sym p.so.0.0 in (
            none,
            stands_at new s p.after s.shown_before p.is
                (ap fresh p.so.1 ∙ ap (λ (i : List ℕ). record (fresh p.before) { input = i }) same ∙ p.alike) due refl,
          )
      takes next.Failed blamed so =
          let p = pair (TakesByte next.Failed) so in
          let more : (byte : ℕ) × (left : List ℕ) × ((state_in s).input ≡ byte ∷ left) =
          next_of (state_in s).input (subst (λ (x : State). 0 < length x.input) p.alike p.so.0.0) in (
            more.0,
            more.1,
            more.2,
            stands_in new (took_byte more.1 s) p.after (state_in s) outside.Input p.is
                (ap fresh p.so.1 ∙ ap (λ (i : List ℕ). record (fresh p.before) { input = i }) p.so.0.1 ∙ p.alike) blamed
                (input_past more.0 more.1 s.system more.2),
          )

      -- ---- the terminal and the printer

      whole_part : (piece : List ℕ) (taken : ℕ) → taken ≡ length piece → take taken piece ≡ piece
      whole_part piece taken e = take_all taken piece (omega (arith, e))

      -- A first part of a piece was put, by one of the two ways. Where that failed the piece has a byte.
      put_so : (failed : Outside) (f : List ℕ → Course → Course) (more : State → List ℕ → State) → Appends failed f more → (done : Bool) (fault : SessionEnd)
          (piece : List ℕ) (taken : ℕ) (x y : State) → (done ≡ false → 0 < length piece) → failed_in new ≡ (if done then None else Some failed)
          → told new ≡ Some y → fresh x ≡ fresh (state_in s) → y ≡ more x (take taken piece) → IsPart done piece taken
          → Leads at stands (put_by done fault) (record s { system = f piece s.system }) new
      put_so failed f more a true fault piece taken x y some blamed is alike now part =
          stands_at new (record s { system = f piece s.system }) y s.shown_before is
          (a.behind (take taken piece) (state_in s) x y alike now ∙ ap (λ bytes. fresh (more (state_in s) bytes)) (whole_part piece taken (part.all refl))
          ∙ ap fresh (sym (a.in_the_end piece s.system))) due refl
      put_so failed f more a false fault piece taken x y some blamed is alike now part =
          stands_in new (record s { system = f piece s.system }) y (more (state_in s) (take taken piece)) failed is
          (a.behind (take taken piece) (state_in s) x y alike now) blamed (a.on_the_way taken piece s.system part.within (some refl))

      pub shows_by : (done : Bool) (fault : SessionEnd) (piece : List ℕ) → (done ≡ false → 0 < length piece)
          → failed_in new ≡ (if done then None else Some outside.Terminal) → WhereTold (told old) (told new) (ShowsMore done piece)
          → Leads at stands (put_by done fault) (shown_by piece s) new
      shows_by done fault piece some blamed so =
          let p = pair (ShowsMore done piece) so in
          put_so outside.Terminal shows more_shown shows_append done fault piece p.so.taken p.before p.after some blamed p.is p.alike p.so.now p.so.part

      pub prints_by : (done : Bool) (fault : SessionEnd) (piece : List ℕ) → (done ≡ false → 0 < length piece)
          → failed_in new ≡ (if done then None else Some outside.Printer) → WhereTold (told old) (told new) (PrintsMore done piece)
          → Leads at stands (put_by done fault) (printed_by piece s) new
      prints_by done fault piece some blamed so =
          let p = pair (PrintsMore done piece) so in
          put_so outside.Printer prints more_printed prints_append done fault piece p.so.taken p.before p.after some blamed p.is p.alike p.so.now p.so.part

      -- a line feed is shown where the definition has one
      pub freshens : (done : Bool) (fault : SessionEnd) → (due_in old ≡ false → done ≡ true) → failed_in new ≡ (if done then None else Some outside.Terminal)
          → WhereTold (told old) (told new) (ShowsMore done (line_end (due_in old)))
          → Leads at stands (put_by done fault) (on_fresh_line s) new
      freshens done fault quiet blamed so =
          let p = pair (ShowsMore done (line_end (due_in old))) so in
          let c = contents_told old p.before p.was in
          let from : IsDueFrom s.shown_before p.before.shown (due_in old) =
          subst (λ o. IfSome o (λ bytes. IsDueFrom s.shown_before bytes (due_in old))) c.terminal at_old.due in
          let same : line_end (due_in old) ≡ texts.line_end (shown_in s) =
          ap line_end from.is ∙ ap (λ bytes. line_end (due_after false (drop s.shown_before bytes))) (ap (λ x. x.shown) p.alike)
          ∙ same_end (shown_in s) in
          shows_by done fault (texts.line_end (shown_in s))
          (λ failed. subst (λ piece. 0 < length piece) same (line_some (due_in old) done quiet failed)) blamed
          (subst (λ piece. WhereTold (told old) (told new) (ShowsMore done piece)) same so)

      -- ---- reading files

      -- a reading is refused where there is no such file, or the drive has failed
      abbrev IsReading : {X : Type 0} → Result X CatEnd → Type 0
      IsReading answer = IfErr answer (λ why. (why ≡ cat.NoSuch) ⊎ (why ≡ cat.Fault))

      file_read : (answer : Result ℕ CatEnd) (file : Option File) (into : List ℕ) → IsReading answer → failed_in new ≡ failed_at answer
          → ReadsWhole answer file into → At at new s → (failed_in new ≡ Some outside.Drive → StandsIn stands s new)
          → ReadsFile at stands (read_by answer) file into s new
      file_read (Ok n) (Some file) into why blamed so here there = (so.1, here)
      file_read (Ok n) None into why blamed so here there = absurd so
      file_read (Err cat.NoSuch) None into why blamed so here there = (tt, here)
      file_read (Err cat.NoSuch) (Some file) into why blamed so here there = absurd so
      file_read (Err cat.Fault) file into why blamed so here there = there blamed
      file_read (Err cat.Taken) file into why blamed so here there = absurd (elim why [ inl e ↦ cc | inr e ↦ cc ])
      file_read (Err cat.Protected) file into why blamed so here there = absurd (elim why [ inl e ↦ cc | inr e ↦ cc ])
      file_read (Err (cat.TooLarge n)) file into why blamed so here there = absurd (elim why [ inl e ↦ cc | inr e ↦ cc ])
      file_read (Err cat.CatalogFull) file into why blamed so here there = absurd (elim why [ inl e ↦ cc | inr e ↦ cc ])
      file_read (Err (cat.Full w f)) file into why blamed so here there = absurd (elim why [ inl e ↦ cc | inr e ↦ cc ])

      pub reads_file : (answer : Result ℕ CatEnd) (title into : List ℕ) (result : Result (Option ℕ) SessionEnd) → result ≡ read_by answer
          → IsReading answer → failed_in new ≡ failed_at answer → WhereTold (told old) (told new) (λ before after. (after ≡ before) × ReadsWhole answer (find_file before.slots title) into)
          → ReadsFile at stands result (file_in s title) into s new
      reads_file answer title into result e why blamed so =
          let p = pair (λ before after. (after ≡ before) × ReadsWhole answer (find_file before.slots title) into) so in
          let alike : fresh p.after ≡ fresh (state_in s) = ap fresh p.so.0 ∙ p.alike in
          let file : find_file p.before.slots title ≡ file_in s title = ap (λ x. find_file x.slots title) p.alike in
          subst (λ r. ReadsFile at stands r (file_in s title) into s new) (sym e)
          (file_read answer (file_in s title) into why blamed (subst (λ o. ReadsWhole answer o into) file p.so.1)
          (stands_at new s p.after s.shown_before p.is alike due refl)
          (λ drive. stands_in new s p.after (state_in s) outside.Drive p.is alike drive (drive_now s.system)))

      page_read : (answer : Result (Unit {0}) CatEnd) (n i : ℕ) (file : Option File) (into : List ℕ) → length into ≡ 512
          → IfSome file (λ f. n ≡ page_size i (length f.bytes)) → IsReading answer → failed_in new ≡ failed_at answer
          → InState.ReadsPage answer file i into → At at new s → (failed_in new ≡ Some outside.Drive → StandsIn stands s new)
          → ReadsPage at stands (page_by n answer) file i into s new
      page_read (Ok done) n i (Some file) into size count why blamed so here there = (page_part n i file.bytes into size count so, here)
      page_read (Ok done) n i None into size count why blamed so here there = absurd so
      page_read (Err cat.NoSuch) n i None into size count why blamed so here there = (tt, here)
      page_read (Err cat.NoSuch) n i (Some file) into size count why blamed so here there = absurd so
      page_read (Err cat.Fault) n i file into size count why blamed so here there = there blamed
      page_read (Err cat.Taken) n i file into size count why blamed so here there = absurd (elim why [ inl e ↦ cc | inr e ↦ cc ])
      page_read (Err cat.Protected) n i file into size count why blamed so here there = absurd (elim why [ inl e ↦ cc | inr e ↦ cc ])
      page_read (Err (cat.TooLarge m)) n i file into size count why blamed so here there = absurd (elim why [ inl e ↦ cc | inr e ↦ cc ])
      page_read (Err cat.CatalogFull) n i file into size count why blamed so here there = absurd (elim why [ inl e ↦ cc | inr e ↦ cc ])
      page_read (Err (cat.Full w f)) n i file into size count why blamed so here there = absurd (elim why [ inl e ↦ cc | inr e ↦ cc ])

      pub reads_page : (answer : Result (Unit {0}) CatEnd) (n i : ℕ) (title into : List ℕ) (result : Result (Option ℕ) SessionEnd) (found : Option Entry)
          (entry : Entry) → length into ≡ 512
          → IfSome (contents (drive_in old)) (λ blocks. found ≡ option_map entry_told (find_file (slots_of blocks) title)) → found ≡ Some entry
          → n ≡ page_size i entry.length → result ≡ page_by n answer → IsReading answer → failed_in new ≡ failed_at answer
          → WhereTold (told old) (told new) (λ before after. (after ≡ before) × InState.ReadsPage answer (find_file before.slots title) i into)
          → ReadsPage at stands result (file_in s title) i into s new
      reads_page answer n i title into result found entry size looked is count e why blamed so =
          let p = pair (λ before after. (after ≡ before) × InState.ReadsPage answer (find_file before.slots title) i into) so in
          let alike : fresh p.after ≡ fresh (state_in s) = ap fresh p.so.0 ∙ p.alike in
          let file : find_file p.before.slots title ≡ file_in s title = ap (λ x. find_file x.slots title) p.alike in
          let c = contents_told old p.before p.was in
          let here : found ≡ option_map entry_told (find_file (slots_of c.blocks) title) =
          subst (λ d. IfSome d (λ blocks. found ≡ option_map entry_told (find_file (slots_of blocks) title))) c.drive looked in
          let told_of : option_map entry_told (file_in s title) ≡ Some entry =
          ap (option_map entry_told) (sym file) ∙ ap (λ slots. option_map entry_told (find_file slots title)) c.slots ∙ sym here ∙ is in
          subst (λ r. ReadsPage at stands r (file_in s title) i into s new) (sym e)
          (page_read answer n i (file_in s title) into size (counted (file_in s title) entry n i told_of count) why blamed
          (subst (λ o. InState.ReadsPage answer o i into) file p.so.1)
          (stands_at new s p.after s.shown_before p.is alike due refl)
          (λ drive. stands_in new s p.after (state_in s) outside.Drive p.is alike drive (drive_now s.system)))

      -- ---- the catalogue

      module _ (refusal : State → Option CatEnd) (wanted : State → List (Option File)) (opens : State → State)
          (same_refusal : (x : State) → refusal x ≡ refusal (fresh x)) (same_wanted : (x : State) → wanted x ≡ wanted (fresh x))
          (same_open : (x : State) (slots : List (Option File)) → fresh (record (opens x) { slots = slots }) ≡ record (fresh x) { slots = slots }) where
        refused : (x : State) → fresh x ≡ fresh (state_in s) → refusal x ≡ refusal (state_in s)
        refused x alike = same_refusal x ∙ ap refusal alike ∙ sym (same_refusal (state_in s))

        becomes_wanted : (x y : State) → fresh x ≡ fresh (state_in s) → y ≡ record (opens x) { slots = wanted x }
            → fresh y ≡ fresh (state_in (with_slots (wanted (state_in s)) s))
        becomes_wanted x y alike is =
            ap fresh is ∙ same_open x (wanted x)
            ∙ ap (λ (w : List (Option File)). record (fresh x) { slots = w }) (same_wanted x ∙ ap wanted alike ∙ sym (same_wanted (state_in s)))
            ∙ ap (λ (z : State). record z { slots = wanted (state_in s) }) alike

        stays_so : (x y : State) → fresh x ≡ fresh (state_in s) → y ≡ record (opens x) { slots = x.slots } → fresh y ≡ fresh (state_in s)
        stays_so x y alike is = ap fresh is ∙ same_open x x.slots ∙ alike

        unchanged : (why : CatEnd) (x y : State) → told new ≡ Some y → fresh x ≡ fresh (state_in s) → (refusal x ≡ Some why) × (y ≡ x)
            → (refusal (state_in s) ≡ Some why) × At at new s
        unchanged why x y is alike so =
            (sym (refused x alike) ∙ so.0, stands_at new s y s.shown_before is (ap fresh so.1 ∙ alike) due refl)

        abbrev Answer : Result (Unit {0}) CatEnd → State → State → Type 0
        Answer result before after = StateAnswer result (refusal before) (wanted before) opens before after

        pub answers : (result : Result (Unit {0}) CatEnd) → failed_in new ≡ failed_at result → WhereTold (told old) (told new) (Answer result)
            → Answers at stands result (refusal (state_in s)) (wanted (state_in s)) s new
        answers (Ok x) blamed so =
            let p = pair (Answer (Ok x)) so in (
              sym (refused p.before p.alike) ∙ p.so.0,
              stands_at new (with_slots (wanted (state_in s)) s) p.after s.shown_before p.is (becomes_wanted p.before p.after p.alike p.so.1) due refl,
            )
        answers (Err cat.Fault) blamed so =
            let p = pair (Answer (Err cat.Fault)) so in (
              sym (refused p.before p.alike) ∙ p.so.0,
              elim p.so.1 [
                | inl same ↦ stands_in new (with_slots (wanted (state_in s)) s) p.after (state_in s) outside.Drive p.is
                    (stays_so p.before p.after p.alike same) blamed
                    (drive_past (state_in (with_slots (wanted (state_in s)) s)) s.system)
                | inr done ↦ stands_in new (with_slots (wanted (state_in s)) s) p.after (state_in (with_slots (wanted (state_in s)) s)) outside.Drive p.is
                    (becomes_wanted p.before p.after p.alike done) blamed (drive_now (with_slots (wanted (state_in s)) s).system)
              ],
            )
        answers (Err cat.NoSuch) blamed so = let p = pair (Answer (Err cat.NoSuch)) so in unchanged cat.NoSuch p.before p.after p.is p.alike p.so
        answers (Err cat.Taken) blamed so = let p = pair (Answer (Err cat.Taken)) so in unchanged cat.Taken p.before p.after p.is p.alike p.so
        answers (Err cat.Protected) blamed so = let p = pair (Answer (Err cat.Protected)) so in unchanged cat.Protected p.before p.after p.is p.alike p.so
        answers (Err (cat.TooLarge n)) blamed so = let p = pair (Answer (Err (cat.TooLarge n))) so in unchanged (cat.TooLarge n) p.before p.after p.is p.alike p.so
        answers (Err cat.CatalogFull) blamed so = let p = pair (Answer (Err cat.CatalogFull)) so in unchanged cat.CatalogFull p.before p.after p.is p.alike p.so
        answers (Err (cat.Full w f)) blamed so = let p = pair (Answer (Err (cat.Full w f))) so in unchanged (cat.Full w f) p.before p.after p.is p.alike p.so

      -- protection is given or taken
      pub protects : (on : Bool) (title : List ℕ) (result : Result (Unit {0}) CatEnd) → failed_in new ≡ failed_at result → WhereTold (told old) (told new)
          (λ before after. StateAnswer result (no_such (find_file before.slots title)) (slots_changed (file_protected on) title before.slots) left_open
          before after)
          → Answers at stands result (no_such (file_in s title)) (slots_changed (file_protected on) title (state_in s).slots) s new
      protects on title result blamed so =
          answers (λ (x : State). no_such (find_file x.slots title)) (λ (x : State). slots_changed (file_protected on) title x.slots) left_open
          (λ x. refl) (λ x. refl) (λ x slots. refl) result blamed so
