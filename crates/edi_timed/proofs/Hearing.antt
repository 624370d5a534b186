-- What is kept of what calls show, call by call.
use Rattle.std.proofs.Common.{◌≡◌, ◌≤◌, ℕ, zero, suc, true, false, List, [], ◌∷◌, ◌++◌, length, Option, Some, None, refl, sym, ap, ◌∙◌, arith, subst}
use Rattle.std.proofs.Common.{append-nil, append_assoc, length-take}
use Rattle.std.specs.Prelude.{take, slice_index, slice_get, nat_lt}
use Rattle.edi_told.specs.Told.{WhereTold}
use Rattle.edi_told.proofs.Told.{WhereTold-then}
use Rattle.edi_calls.specs.declared.ends.CallEnd.{CallEnd}
use Rattle.edi_calls.specs.declared.ends.CallEnd.TheVariants as end
use Rattle.edi_calls.specs.declared.ends.Outside.{Outside}
use Rattle.edi_calls.specs.State.{Found, State, title_of, most_bytes}
use Rattle.edi_calls.specs.Calls as calls
use Rattle.edi_calls.specs.Calls.{CallResult, answered, no_file, file_limit, call}
use Rattle.edi_calls.specs.Ends.{CallsLast, Meets, Blames}
use Rattle.edi_calls.proofs.Lasting.{IfAnswered, by_test, by_option}
use Rattle.edi_timeline.specs.declared.entry.Said.{Said}
use Rattle.edi_timeline.specs.Adding.{said_in}
use Rattle.edi_timed.specs.declared.heard.Heard.{Heard}
use Rattle.edi_timed.specs.declared.unheard.Unheard.{Unheard}
use Rattle.edi_timed.specs.Hearing.{is_answered, shown_words, shown_by, HasShown, Hears, LeadsOn}

-- ---- first characters

none_taken : {A : Type 0} (xs : List A) → take zero xs ≡ []
none_taken [] = refl
none_taken (x ∷ xs) = refl

-- those of a list of which only the first ones were kept
pub of_the_first : {A : Type 0} (n : ℕ) (xs ys : List A) → take n (take n xs ++ ys) ≡ take n (xs ++ ys)
of_the_first zero xs ys = none_taken (take zero xs ++ ys) ∙ sym (none_taken (xs ++ ys))
of_the_first (suc n) [] ys = refl
of_the_first (suc n) (x ∷ xs) ys = ap (λ zs. x ∷ zs) (of_the_first n xs ys)

pub all_taken : {A : Type 0} (n : ℕ) (xs : List A) → length xs ≤ n → take n xs ≡ xs
all_taken zero [] l = refl
all_taken zero (x ∷ xs) l = absurd (omega (arith, l))
all_taken (suc n) [] l = refl
all_taken (suc n) (x ∷ xs) l = ap (λ ys. x ∷ ys) (all_taken n xs (omega (arith, l)))

-- where at most seven are kept, nothing more changes nothing
pub kept_few : (xs more : List ℕ) (many : ℕ) → many ≤ 7 → more ≡ [] → take many xs ≡ take 7 (take many xs ++ more)
kept_few xs more many l none =
    sym
    (ap (λ ys. take 7 (take many xs ++ ys)) none
    ∙ ap (take 7) (append-nil (take many xs))
    ∙ all_taken 7 (take many xs) (omega (arith, l, length-take many xs)))

-- ---- what a call shows

module _ (words : List ℕ) (s : State) where
  -- nothing more is shown
  abbrev Same : List ℕ → State → Type 0
  Same answer t = t.shown ≡ s.shown ++ []

  same : s.shown ≡ s.shown ++ []
  same = sym (append-nil s.shown)

  accepts : (input : List ℕ) → IfAnswered Same (calls.accept_from input s)
  accepts [] = same
  accepts (b ∷ bs) = same

  mores : (found : Option Found) → IfAnswered Same (calls.more_of found s)
  mores None = tt
  mores (Some found) = same

  nexts : (byte : Option ℕ) (found : Found) → IfAnswered Same (calls.read_next byte found s)
  nexts None found = same
  nexts (Some byte) found = same

  reads : (found : Option Found) → IfAnswered Same (calls.read_of found s)
  reads None = tt
  reads (Some found) = nexts (slice_get (calls.found_bytes s found) found.position) found

  writes : (buffer : Option (List ℕ)) (word : ℕ) → IfAnswered Same (calls.write_to buffer word s)
  writes None word = tt
  writes (Some bytes) word = by_test Same (nat_lt (length bytes) most_bytes) _ _ same tt

  closes_as : (bytes title : List ℕ) → IfAnswered Same (calls.close_as bytes title s)
  closes_as bytes title = by_option Same _ (calls.room_for s title (length bytes)) _ (λ index. same) same

  closes : (buffer : Option (List ℕ)) → IfAnswered Same (calls.close_of buffer words s)
  closes None = tt
  closes (Some bytes) = by_option Same _ (title_of words) _ (λ title. closes_as bytes title) same

  removes_as : (title : List ℕ) → IfAnswered Same (calls.remove_as title s)
  removes_as title = by_option Same _ (calls.open_slot s.slots title) _ (λ index. same) same

  removes : IfAnswered Same (calls.remove words s)
  removes = by_option Same _ (title_of words) _ (λ title. removes_as title) same

  -- THE CHARACTER of `display`, and nothing by any other call
  pub shows : (number : ℕ) → 1 ≤ number → number ≤ 10 →
      IfAnswered (λ answer t. t.shown ≡ s.shown ++ shown_words number words) (call number words s)
  shows zero from to = absurd (omega (arith, from))
  shows (suc zero) from to = accepts s.input
  shows (suc (suc zero)) from to = refl
  shows (suc (suc (suc zero))) from to = same
  shows (suc (suc (suc (suc zero)))) from to = same
  shows (suc (suc (suc (suc (suc zero))))) from to = mores s.found
  shows (suc (suc (suc (suc (suc (suc zero)))))) from to = reads s.found
  shows (suc (suc (suc (suc (suc (suc (suc zero))))))) from to = same
  shows (suc (suc (suc (suc (suc (suc (suc (suc zero)))))))) from to = writes s.buffer (slice_index words 0)
  shows (suc (suc (suc (suc (suc (suc (suc (suc (suc zero))))))))) from to = closes s.buffer
  shows (suc (suc (suc (suc (suc (suc (suc (suc (suc (suc zero)))))))))) from to = removes
  shows (suc (suc (suc (suc (suc (suc (suc (suc (suc (suc (suc n))))))))))) from to = absurd (omega (arith, to))

  -- the same of a call that has ended so, and not by a fault
  shown_at_end : (number : ℕ) (result : CallResult) (e : CallEnd) (answer : List ℕ) (t : State) →
      IfAnswered (λ answer t. t.shown ≡ s.shown ++ shown_words number words) result → Meets result e answer s t → (e ≡ end.OutsideFault → ⊥) →
      t.shown ≡ s.shown ++ shown_by number e words
  shown_at_end number (answered words next) end.Ok answer t shown meets fine = ap (λ u. u.shown) meets.1 ∙ shown
  shown_at_end number (answered words next) end.OutsideFault answer t shown meets fine = absurd (fine refl)
  shown_at_end number (answered words next) end.NoFile answer t shown meets fine = absurd meets
  shown_at_end number (answered words next) end.FileLimit answer t shown meets fine = absurd meets
  shown_at_end number no_file end.NoFile answer t shown meets fine = ap (λ u. u.shown) meets ∙ same
  shown_at_end number no_file end.Ok answer t shown meets fine = absurd meets
  shown_at_end number no_file end.OutsideFault answer t shown meets fine = absurd meets
  shown_at_end number no_file end.FileLimit answer t shown meets fine = absurd meets
  shown_at_end number file_limit end.FileLimit answer t shown meets fine = ap (λ u. u.shown) meets ∙ same
  shown_at_end number file_limit end.Ok answer t shown meets fine = absurd meets
  shown_at_end number file_limit end.OutsideFault answer t shown meets fine = absurd meets
  shown_at_end number file_limit end.NoFile answer t shown meets fine = absurd meets

pub answered_shows : (number : ℕ) (e : CallEnd) (ws : List ℕ) → is_answered e ≡ true → shown_words number ws ≡ shown_by number e ws
answered_shows number end.Ok ws h = refl
answered_shows number end.NoFile ws h = let f : false ≡ true = h in absurd (cc)
answered_shows number end.FileLimit ws h = let f : false ≡ true = h in absurd (cc)
answered_shows number end.OutsideFault ws h = let f : false ≡ true = h in absurd (cc)

pub refused_shows : (number : ℕ) (e : CallEnd) (ws : List ℕ) → is_answered e ≡ false → shown_by number e ws ≡ []
refused_shows number end.Ok ws h = let f : true ≡ false = h in absurd (cc)
refused_shows number end.NoFile ws h = refl
refused_shows number end.FileLimit ws h = refl
refused_shows number end.OutsideFault ws h = refl

-- ---- calls one after another

-- the references that are held: that to the other object, and those of the other object
pub same_first : {m n : ℕ} {ms ns : List ℕ} → m ∷ ms ≡ n ∷ ns → m ≡ n
same_first e = cc

pub same_others : {m n : ℕ} {ms ns : List ℕ} → m ∷ ms ≡ n ∷ ns → ms ≡ ns
same_others e = cc

-- what was shown by calls, and by one more
shown_on : (first old now : Said) (more : List ℕ) (x y z : State) → HasShown first old x y → z.shown ≡ y.shown ++ more →
    said_in now ≡ take 7 (said_in old ++ more) → HasShown first now x z
shown_on first old now more x y z h shown said = (
  h.0 ++ more,
  shown ∙ ap (λ l. l ++ more) h.1 ∙ append_assoc x.shown h.0 more,
  said
      ∙ ap (λ l. take 7 (l ++ more)) h.2
      ∙ of_the_first 7 (said_in first ++ h.0) more
      ∙ ap (take 7) (append_assoc (said_in first) h.0 more),
)

no_fault : {F : Option Outside → Type 0} (e : CallEnd) (before now : Outside → ℕ) → ((one other : Option Outside) → F one → F other → one ≡ other) →
    Blames e F before now → F None → e ≡ end.OutsideFault → ⊥
no_fault end.OutsideFault before now one_failed blame fine is =
    let wrong : Some blame.0 ≡ None = one_failed (Some blame.0) None blame.1 fine in absurd (cc)
no_fault end.Ok before now one_failed blame fine is = absurd (cc)
no_fault end.NoFile before now one_failed blame fine is = absurd (cc)
no_fault end.FileLimit before now one_failed blame fine is = absurd (cc)

module _ {C : Type 0} (state : C → Option State) (failed : C → Option Outside → Type 0) (leads : C → C → Type 0)
    (one_failed : (calls : C) (one other : Option Outside) → failed calls one → failed calls other → one ≡ other) where
  -- ONE CALL MORE
  pub hears_more : (start old now : Heard C) (number : ℕ) (words answer : List ℕ) (e : CallEnd) (before after : Outside → ℕ) → 1 ≤ number → number ≤ 10 →
      failed old.calls.now None → WhereTold (state old.calls.now) (state now.calls.now) (λ s t. Meets (call number words s) e answer s t) →
      Blames e (failed now.calls.now) before after → ((first : C) → leads first old.calls.now → leads first now.calls.now) →
      (old.said.many ≤ 7 → said_in now.said ≡ take 7 (said_in old.said ++ shown_by number e words)) → (old.said.many ≤ 7 → now.said.many ≤ 7) →
      Hears state failed leads start old → Hears state failed leads start now
  hears_more start old now number words answer e before after from to working exact blame led said few h = record {
    led = λ first f. led first (h.led first f);
    few = λ f. few (h.few f);
    heard = λ short fine.
        WhereTold-then (HasShown start.said old.said) (λ s t. Meets (call number words s) e answer s t) (HasShown start.said now.said)
        (state start.calls.now) (state old.calls.now) (state now.calls.now)
        (λ x y z shown meets.
        shown_on start.said old.said now.said (shown_by number e words) x y z shown
        (shown_at_end words y number (call number words y) e answer z (shows words y number from to) meets
        (no_fault e before after (one_failed now.calls.now) blame fine))
        (said (h.few short)))
        (h.heard short working) exact;
  }

  -- NO CALL
  pub hears_none : (start : Heard C) → Hears state failed leads start start
  hears_none start = record {
    led = λ first f. f;
    few = λ few. few;
    heard = λ few fine. nothing_told (state start.calls.now) few;
  }
    where
      nothing_told : (o : Option State) → start.said.many ≤ 7 → WhereTold o o (HasShown start.said start.said)
      nothing_told None few = tt
      nothing_told (Some s) few = ([], sym (append-nil s.shown), kept_few start.said.characters [] start.said.many few refl)

  -- calls that go on from where nothing was heard
  module _ (before start now : Heard C) (calls : start.calls.now ≡ before.calls.now) (few : start.said.many ≤ 7)
      (on : (first : Heard C) → Hears state failed leads first start → Hears state failed leads first now) where
    pub few_said : now.said.many ≤ 7
    few_said = (on start (hears_none start)).few few

    pub heard_since : failed now.calls.now None → (said : Said) → said ≡ now.said → WhereTold (state before.calls.now) (state now.calls.now) (HasShown start.said said)
    heard_since fine said is =
        subst (λ z. WhereTold (state before.calls.now) (state now.calls.now) (HasShown start.said z)) (sym is)
        (subst (λ z. WhereTold (state z) (state now.calls.now) (HasShown start.said now.said)) calls ((on start (hears_none start)).heard few fine))

    pub lasts_since : {R : Type 0} (faults : C → Outside → ℕ) (references : C → R) → ((outside : Outside) → faults start.calls.now outside ≤ faults now.calls.now outside) →
        references now.calls.now ≡ references start.calls.now → CallsLast faults references leads before.calls.now now.calls.now
    lasts_since faults references later same = (
      λ outside. subst (λ z. faults z outside ≤ faults now.calls.now outside) calls (later outside),
      same ∙ ap references calls,
      λ first led. (on start (hears_none start)).led first (subst (leads first) (sym calls) led),
    )

    pub told_since : (P : State → State → Type 0) → WhereTold (state start.calls.now) (state now.calls.now) P → WhereTold (state before.calls.now) (state now.calls.now) P
    told_since P h = subst (λ z. WhereTold (state z) (state now.calls.now) P) calls h

-- ---- calls of which nothing is heard

pub unheard_lasts : {C : Type 0} (faults : C → Outside → ℕ) (references : C → List ℕ) (leads : C → C → Type 0) (old now : Unheard C) →
    ((outside : Outside) → faults old.calls.now outside ≤ faults now.calls.now outside) →
    now.calls.ghost_name ∷ references now.calls.now ≡ old.calls.ghost_name ∷ references old.calls.now →
    ((start : Unheard C) → LeadsOn leads start.calls.now old.calls.now → LeadsOn leads start.calls.now now.calls.now) →
    CallsLast faults references leads old.calls.now now.calls.now
unheard_lasts faults references leads old now later same on = (later, same_others same, λ start led. on old (λ first l. l) start led)
