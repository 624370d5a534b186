-- Files that are kept one after another: all are kept, or the first some are. So all other files are as before, whichever of them were kept.
use Rattle.std.proofs.Common.{◌≡◌, ◌∙◌, inl, inr, ◌<◌, ◌≤◌, ℕ, zero, suc, List, [], ◌∷◌, ◌++◌, length, Option, Some, None, arith, refl, sym, ap, subst}
use Rattle.std.proofs.Common.{map, true≢false}
use Rattle.std.specs.Prelude.{take}
use Rattle.std.specs.FinMap as map
use Rattle.std.proofs.lemmas.List.{length-take}
use Rattle.edi_told.specs.Told.{WhereTold}
use Rattle.edi_host.specs.Contents.{Contents}
use Rattle.edi_host.specs.declared.files.KeepEnd.TheVariants as keep
use Rattle.edi_trace.specs.Lines.{written}
use Rattle.edi_explore.specs.declared.ends.Found.{Found}
use Rattle.edi_runs.specs.explore.Explorations.{Reached}
use Rattle.edi_runs.specs.explore.Keeping.{KeepsInTurn}
use Rattle.edi_runs.specs.explore.Records.{most_records, record_name, record_names, records_from, records_of}
use Rattle.edi_runs.specs.explore.Told.{reached_of}
use Rattle.edi_statuses.specs.Explored.{KeepsFirst, LosesNext, names_of_records}
use Rattle.edi_statuses.specs.Outside.{Kept, Outside, with_kept, without_names}
use Rattle.edi_statuses.proofs.Told.{told_so}
use Rattle.edi_main.proofs.run.Demonstrated.{kept_and_gone}
use Rattle.edi_main.proofs.run.LogKept.{in_either_order}

-- ---- which were kept

pub all_kept : (all : List Kept) (old new : Contents) → KeepsInTurn keep.Ok all old new → new ≡ with_kept all old
all_kept [] old new h = h.1
all_kept (one ∷ more) old new (inl h) = all_kept more (map.insert old one.0 one.1) new h
all_kept (one ∷ more) old new (inr h) = absurd (true≢false h.0)

-- the first some of these, the next one, and the others
record Cut (all : List Kept) (Is : List Kept → Kept → Type 0) : Type 0 where
  first : List Kept
  next : Kept
  more : List Kept
  all_ : all ≡ first ++ next ∷ more
  is : Is first next

wants : (all : List Kept) (old new : Contents) → KeepsInTurn keep.NoMemory all old new → Cut all (λ first next. new ≡ with_kept first old)
wants [] old new h = absurd (cc)
wants (one ∷ rest) old new (inl h) =
    let r = wants rest (map.insert old one.0 one.1) new h in
    record { first = one ∷ r.first; next = r.next; more = r.more; all_ = ap (λ l. one ∷ l) r.all_; is = r.is }
wants (one ∷ rest) old new (inr h) = record { first = []; next = one; more = rest; all_ = refl; is = h.1 }

loses : (all : List Kept) (old new : Contents) → KeepsInTurn keep.Failed all old new
    → Cut all (λ first next. map.remove new next.0 ≡ map.remove (with_kept first old) next.0)
loses [] old new h = absurd (cc)
loses (one ∷ rest) old new (inl h) =
    let r = loses rest (map.insert old one.0 one.1) new h in
    record { first = one ∷ r.first; next = r.next; more = r.more; all_ = ap (λ l. one ∷ l) r.all_; is = r.is }
loses (one ∷ rest) old new (inr h) = record { first = []; next = one; more = rest; all_ = refl; is = h.1 }

-- where the files do not tell which were kept, the first one may be the next
untold : (all : List Kept) (Is : List Kept → Kept → Type 0) → 0 < length all → ((first : List Kept) (next : Kept) → Is first next) → Cut all Is
untold [] Is some any = absurd (omega (arith, some))
untold (one ∷ rest) Is some any = record { first = []; next = one; more = rest; all_ = refl; is = any [] one }

wants_told : (all : List Kept) → 0 < length all → (old new : Option Contents) → WhereTold old new (KeepsInTurn keep.NoMemory all)
    → Cut all (λ first next. WhereTold old new (λ a b. b ≡ with_kept first a))
wants_told all some old None h = untold all _ some (λ first next. tt)
wants_told all some None (Some b) h = absurd h
wants_told all some (Some a) (Some b) h = wants all a b h

loses_told : (all : List Kept) → 0 < length all → (old new : Option Contents) → WhereTold old new (KeepsInTurn keep.Failed all)
    → Cut all (λ first next. WhereTold old new (λ a b. map.remove b next.0 ≡ map.remove (with_kept first a) next.0))
loses_told all some old None h = untold all _ some (λ first next. tt)
loses_told all some None (Some b) h = absurd h
loses_told all some (Some a) (Some b) h = loses all a b h

module _ (all : List Kept) (some : 0 < length all) (before after : Outside) where
  pub keeps_first : WhereTold before.files after.files (KeepsInTurn keep.NoMemory all) → KeepsFirst all before after
  keeps_first h =
      let c = wants_told all some before.files after.files h in
      record { first = c.first; next = c.next; more = c.more; all_ = c.all_; keeps = c.is }

  pub loses_next : WhereTold before.files after.files (KeepsInTurn keep.Failed all) → LosesNext all before after
  loses_next h =
      let c = loses_told all some before.files after.files h in
      record { first = c.first; next = c.next; more = c.more; all_ = c.all_; files = c.is }

-- ---- the others are as before

-- a file may be taken away before many or after them
first_or_last : (names : List (List ℕ)) (files : Contents) (name : List ℕ)
    → without_names names (map.remove files name) ≡ map.remove (without_names names files) name
first_or_last [] files name = refl
first_or_last (a ∷ names) files name =
    ap (without_names names) (in_either_order files name a) ∙ first_or_last names (map.remove files a) name

-- of so many names those of the records
lost_from : (name : List ℕ) (i many : ℕ) (found : List Reached) (old new : Contents) → length found ≤ many
    → KeepsInTurn keep.Failed (records_from name i found) old new
    → without_names (record_names name i many) new ≡ without_names (record_names name i many) old
lost_from name i many [] old new few h = absurd (cc)
lost_from name i zero (one ∷ found) old new few h = absurd (omega (arith, few))
lost_from name i (suc many) (one ∷ found) old new few (inl h) =
    let this : List ℕ = record_name name i in
    let names : List (List ℕ) = record_names name (suc i) many in
    let kept : Contents = map.insert old this (written one.choices) in
    first_or_last names new this
    ∙ ap (λ files. map.remove files this) (lost_from name (suc i) many found kept new (omega (arith, few)) h)
    ∙ sym (first_or_last names kept this)
    ∙ ap (without_names names) (kept_and_gone old this (written one.choices))
lost_from name i (suc many) (one ∷ found) old new few (inr h) = ap (without_names (record_names name (suc i) many)) h.1

few_kept : (found : List Reached) → length (take most_records found) ≤ most_records
few_kept found = omega (arith, length-take most_records found)

lost_records : (name : Option (List ℕ)) (found : List Reached) (old new : Contents) → KeepsInTurn keep.Failed (records_of name found) old new
    → without_names (names_of_records name) new ≡ without_names (names_of_records name) old
lost_records None found old new h = absurd (cc)
lost_records (Some name) found old new h = lost_from name 1 most_records (take most_records found) old new (few_kept found) h

-- whichever of the records were kept, and whichever was lost
pub lost_but : (name : Option (List ℕ)) (found : List Reached) (old new : Option Contents) → WhereTold old new (KeepsInTurn keep.Failed (records_of name found))
    → WhereTold old new (λ a b. without_names (names_of_records name) b ≡ without_names (names_of_records name) a)
lost_but name found old new h = told_so _ _ old new (λ a b k. lost_records name found a b k) h

-- ---- there is one

-- of endings there is a record, where records are asked for
some_record : (name : List ℕ) (found : List Reached) → 0 < length found → 0 < length (records_of (Some name) found)
unfolding most_records
some_record name [] some = absurd (omega (arith, some))
some_record name (one ∷ found) some = omega arith

pub some_kept : (name : List ℕ) (found : List Found) → 0 < length found → 0 < length (records_of (Some name) (map reached_of found))
some_kept name [] some = absurd (omega (arith, some))
some_kept name (one ∷ found) some = some_record name (reached_of one ∷ map reached_of found) (omega arith)
