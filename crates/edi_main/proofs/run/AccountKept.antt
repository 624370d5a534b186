-- The files of a run with an account, which are kept one after another.
use Rattle.std.specs.Prelude.{⊤}
use Rattle.std.proofs.Common.{◌≡◌, ◌∙◌, ◌⊎◌, ◌<◌, ℕ, Bool, true, false, true≢false, List, [], ◌∷◌, ◌++◌, length, Option, Some, None, arith}
use Rattle.std.proofs.Common.{refl, sym, ap, subst, inl, inr}
use Rattle.std.specs.FinMap as map
use Rattle.edi_told.specs.Told.{WhereTold}
use Rattle.edi_calls.specs.Choice.{Choices}
use Rattle.edi_host.specs.Contents.{Contents}
use Rattle.edi_host.specs.Files.{KeepLeaves}
use Rattle.edi_host.specs.declared.files.KeepEnd.{KeepEnd}
use Rattle.edi_host.specs.declared.files.KeepEnd.TheVariants as keep
use Rattle.edi_runs.specs.explore.Keeping.{KeepsInTurn, is_kept}
use Rattle.edi_system.proofs.Chained.{told_then}
use Rattle.edi_words.specs.Words.{Account, timeline, dump}
use Rattle.edi_statuses.specs.Broken.{names_in}
use Rattle.edi_statuses.specs.Executions.{Runnable, record_of}
use Rattle.edi_statuses.specs.Outside.{Kept, Outside, with_kept, without_names}
use Rattle.edi_statuses.specs.Accounts.{AreOf, account_names}
use Rattle.edi_statuses.proofs.Told.{told_so}
use Rattle.edi_main.proofs.run.Demonstrated.{kept_and_gone}
use Rattle.edi_main.proofs.run.LogKept.{in_either_order}

-- ---- one after another

one_kept : (end : KeepEnd) (name bytes : List ℕ) (old new : Contents) → KeepLeaves end name bytes old new → KeepsInTurn end ((name, bytes) ∷ []) old new
one_kept keep.Ok name bytes old new h = inl (refl, h)
one_kept keep.Failed name bytes old new h = inr (refl, h)
one_kept keep.NoMemory name bytes old new h = inr (refl, h)

pub one_told : (end : KeepEnd) (name bytes : List ℕ) (old new : Option Contents) → WhereTold old new (KeepLeaves end name bytes)
    → WhereTold old new (KeepsInTurn end ((name, bytes) ∷ []))
one_told end name bytes old new h = told_so (KeepLeaves end name bytes) _ old new (one_kept end name bytes) h

kept_first : (end : KeepEnd) → is_kept end ≡ true → end ≡ keep.Ok
kept_first keep.Ok e = refl
kept_first keep.Failed e = absurd (true≢false (sym e))
kept_first keep.NoMemory e = absurd (true≢false (sym e))

-- the first files are kept, and then the rest are kept or not
goes_on : (first rest : List Kept) (end : KeepEnd) (old mid new : Contents) → KeepsInTurn keep.Ok first old mid → KeepsInTurn end rest mid new
    → KeepsInTurn end (first ++ rest) old new
goes_on [] rest end old mid new h k = subst (λ x. KeepsInTurn end rest x new) h.1 k
goes_on (one ∷ first) rest end old mid new (inl h) k = inl (goes_on first rest end (map.insert old one.0 one.1) mid new h k)
goes_on (one ∷ first) rest end old mid new (inr h) k = absurd (true≢false h.0)

pub then_told : (first rest : List Kept) (one end : KeepEnd) (old mid new : Option Contents) → is_kept one ≡ true
    → WhereTold old mid (KeepsInTurn one first) → WhereTold mid new (KeepsInTurn end rest) → WhereTold old new (KeepsInTurn end (first ++ rest))
then_told first rest one end old mid new kept h k =
    told_then (KeepsInTurn keep.Ok first) (KeepsInTurn end rest) (KeepsInTurn end (first ++ rest)) old mid new (goes_on first rest end)
    (subst (λ e. WhereTold old mid (KeepsInTurn e first)) (kept_first one kept) h) k

-- one of the first is not kept, and then no more are
stops_there : (first rest : List Kept) (end : KeepEnd) (old new : Contents) → is_kept end ≡ false → KeepsInTurn end first old new
    → KeepsInTurn end (first ++ rest) old new
stops_there [] rest end old new e h = absurd (true≢false (sym (ap is_kept h.0) ∙ e))
stops_there (one ∷ first) rest end old new e (inl h) = inl (stops_there first rest end (map.insert old one.0 one.1) new e h)
stops_there (one ∷ first) rest end old new e (inr h) = inr h

pub stops_told : (first rest : List Kept) (end : KeepEnd) (old new : Option Contents) → is_kept end ≡ false → WhereTold old new (KeepsInTurn end first)
    → WhereTold old new (KeepsInTurn end (first ++ rest))
stops_told first rest end old new e h = told_so (KeepsInTurn end first) _ old new (λ a b k. stops_there first rest end a b e k) h

-- ---- all other files are as before

abbrev Among : List ℕ → List (List ℕ) → Type 0
Among name [] = ⊥
Among name (one ∷ names) = (name ≡ one) ⊎ Among name names

abbrev AllAmong : List Kept → List (List ℕ) → Type 0
AllAmong [] names = ⊤
AllAmong (one ∷ more) names = Among one.0 names × AllAmong more names

gone_among : (name : List ℕ) (names : List (List ℕ)) (old new : Contents) → Among name names → map.remove new name ≡ map.remove old name
    → without_names names new ≡ without_names names old
gone_among name [] old new is h = absurd is
gone_among name (one ∷ names) old new (inl same) h =
    ap (without_names names) (subst (λ x. map.remove new x ≡ map.remove old x) same h)
gone_among name (one ∷ names) old new (inr is) h =
    gone_among name names (map.remove old one) (map.remove new one) is
    (in_either_order new one name ∙ ap (λ x. map.remove x one) h ∙ in_either_order old name one)

lost_among : (all : List Kept) (names : List (List ℕ)) (old new : Contents) → AllAmong all names → KeepsInTurn keep.Failed all old new
    → without_names names new ≡ without_names names old
lost_among [] names old new are h = absurd (cc)
lost_among (one ∷ more) names old new are (inl h) =
    lost_among more names (map.insert old one.0 one.1) new are.1 h
    ∙ gone_among one.0 names old (map.insert old one.0 one.1) are.0 (kept_and_gone old one.0 one.1)
lost_among (one ∷ more) names old new are (inr h) = gone_among one.0 names old new are.0 h.1

kept_among : (all : List Kept) (names : List (List ℕ)) (old : Contents) → AllAmong all names
    → without_names names (with_kept all old) ≡ without_names names old
kept_among [] names old are = refl
kept_among (one ∷ more) names old are =
    kept_among more names (map.insert old one.0 one.1) are.1
    ∙ gone_among one.0 names old (map.insert old one.0 one.1) are.0 (kept_and_gone old one.0 one.1)

among_front : (name : List ℕ) (xs ys : List (List ℕ)) → Among name xs → Among name (xs ++ ys)
among_front name [] ys h = absurd h
among_front name (x ∷ xs) ys (inl same) = inl same
among_front name (x ∷ xs) ys (inr h) = inr (among_front name xs ys h)

among_last : (name : List ℕ) (xs : List (List ℕ)) → Among name (xs ++ name ∷ [])
among_last name [] = inl refl
among_last name (x ∷ xs) = inr (among_last name xs)

all_front : (all : List Kept) (xs ys : List (List ℕ)) → AllAmong all xs → AllAmong all (xs ++ ys)
all_front [] xs ys h = tt
all_front (one ∷ more) xs ys h = (among_front one.0 xs ys h.0, all_front more xs ys h.1)

-- ---- the files of an account

-- they have its names, and there is one
record AreNamed (account : Account) (made : List Kept) : Type 0 where
  among : AllAmong made (account_names account)
  some : 0 < length made

are_named : (account : Account) (program : Runnable) (bound : ℕ) (choices : Choices) (before after : Outside) (made : List Kept)
    → AreOf account program bound choices before after made → AreNamed account made
are_named (timeline out) program bound choices before after made h =
    subst (AreNamed (timeline out)) (sym h.2) (record { among = (inl refl, (inr (inl refl), tt)); some = omega arith })
are_named (dump out) program bound choices before after made h =
    subst (AreNamed (dump out)) (sym h.2) (record { among = (inl refl, tt); some = omega arith })

module _ (account : Account) (program : Runnable) (bound : ℕ) (choices : Choices) (before after : Outside) (made : List Kept)
    (are : AreOf account program bound choices before after made) (drawn : ℕ) where
  abbrev all_files : (name : Option (List ℕ)) → List Kept
  all_files name = record_of name choices drawn ++ made

  abbrev all_names : (name : Option (List ℕ)) → List (List ℕ)
  all_names name = account_names account ++ names_in name

  named : AreNamed account made
  named = are_named account program bound choices before after made are

  files_among : (name : Option (List ℕ)) → AllAmong (all_files name) (all_names name)
  files_among None = all_front made (account_names account) [] named.among
  files_among (Some n) = (among_last n (account_names account), all_front made (account_names account) (n ∷ []) named.among)

  pub lost_account : (name : Option (List ℕ)) (old new : Option Contents) → WhereTold old new (KeepsInTurn keep.Failed (all_files name))
      → WhereTold old new (λ a b. without_names (all_names name) b ≡ without_names (all_names name) a)
  lost_account name old new h =
      told_so (KeepsInTurn keep.Failed (all_files name)) _ old new (λ a b k. lost_among (all_files name) (all_names name) a b (files_among name) k) h

  pub kept_account : (name : Option (List ℕ)) (old new : Option Contents) → WhereTold old new (λ a b. b ≡ with_kept (all_files name) a)
      → WhereTold old new (λ a b. without_names (all_names name) b ≡ without_names (all_names name) a)
  kept_account name old new h =
      let names : List (List ℕ) = all_names name in
      let all : List Kept = all_files name in
      told_so (λ a b. b ≡ with_kept all a) _ old new (λ a b k. ap (without_names names) k ∙ kept_among all names a (files_among name)) h

  pub some_account : (name : Option (List ℕ)) → 0 < length (all_files name)
  some_account None = named.some
  some_account (Some n) = omega (arith, named.some)
