-- Calls of the system in the code, against the frame that stands for them.
use Rattle.std.proofs.Common.{◌≡◌, ℕ, ◌≤◌, List, [], ◌∷◌, ◌++◌, Option, Some, None, Result, Ok, Err, refl, sym, subst, ap, ◌∙◌, arith}
use Rattle.std.specs.Prelude.{map, OnOk, OnErr}
use Rattle.edi_calls.specs.declared.kinds.Cause.TheVariants as cause
use Rattle.edi_calls.specs.declared.ends.CallEnd.TheVariants as call_end
use Rattle.edi_calls.specs.Calls.{CallResult, answered, no_file, file_limit, call}
use Rattle.edi_calls.specs.Ends.{Blames, IsTorn, IsUsed, Meets}
use Rattle.edi_told.specs.Told.{WhereTold}
use Rattle.edi_told.proofs.Told.{WhereTold-map, WhereTold-then}
use Rattle.edi_calls.specs.declared.ends.CallEnd.{CallEnd}
use Rattle.edi_calls.specs.declared.ends.Outside.{Outside}
use Rattle.edi_calls.specs.Outcome as outcome
use Rattle.edi_calls.specs.State.{State, Traced, after_call}
use Rattle.edi_unit.specs.View.{unit_of}
use Rattle.edi_meaning.specs.Laws.{Grows}
use Rattle.edi_meaning.proofs.Going.{grows_all}
use Rattle.edi_meaning.specs.Store.{Cell, value, location, procedure, Store}
use Rattle.edi_meaning.specs.Evaluation.{World, Evaluation, gives, ends, ◌>>=◌}
use Rattle.edi_meaning.specs.Whole.{answer_in, answered_by, words_of_cells}
use Rattle.edi_walk.specs.declared.evaluation.Evaluation as code
use Rattle.edi_walk.specs.declared.frames.Given as code_given
use Rattle.edi_walk.specs.declared.frames.Frame as code_frame
use Rattle.edi_walk.specs.declared.frames.Given.TheVariants as make
use Rattle.edi_walk.specs.declared.stop.Stop.{Stop}
use Rattle.edi_walk.specs.declared.stop.Stop.TheVariants as stop
use Rattle.edi_walk.specs.Ends.{StopBlames}
use Rattle.edi_walk.specs.Frames.{Given, nothing, some_cells, Frame, asks, makes_within}
use Rattle.edi_walk.specs.Machine.{given_of, frame_of, deeper_of, rest_of, next_of, world_of, makes_of, IsSameProcess, Follows}
use Rattle.edi_walk.specs.Memory.{store_of}
use Rattle.edi_walk.specs.Runs.{EndsWith, IsFailed, IsGivenUp, GoesTo, Asks, Advances, Handles, Runs}
use Rattle.edi_walk.proofs.Arms.{pushed}
use Rattle.edi_walk.proofs.FrameSteps.{after_more, associates}

grows_same : (system : Traced) → Grows system system
grows_same system = ([], refl, refl)

-- ---- giving up

-- the unit, the process and its segment have stayed
pub given_up : (levels : ℕ) (from : Traced) (old new : code.Evaluation) (m : Evaluation Given) (now : State) → IsSameProcess old new →
    IsGivenUp (unit_of old.unit.now) old.name.items old.size levels from m now → IsGivenUp (unit_of new.unit.now) new.name.items new.size levels from m now
given_up levels from old new m now same up =
    subst (λ u. IsGivenUp (unit_of u.now) new.name.items new.size levels from m now) (sym same.unit)
    (subst (λ p. IsGivenUp (unit_of old.unit.now) p.items new.size levels from m now) (sym same.name)
    (subst (λ n. IsGivenUp (unit_of old.unit.now) old.name.items n levels from m now) (sym same.size) up))

-- where nothing was done of what there is to make
pub up_before : (levels : ℕ) (old new : code.Evaluation) (system : Traced) (now : State) → IsSameProcess old new → old.turns ≤ levels → system.now ≡ now →
    IsGivenUp (unit_of new.unit.now) new.name.items new.size levels system (makes_of levels old system) now
up_before levels old new system now same enough e =
    given_up levels system old new (makes_of levels old system) now same
    (record { frames = map frame_of old.frames.items; given = given_of old.given; world = world_of old system; grew = grows_same system; enough = enough; is = refl; system_is = e })

-- and of a frame before that
pub up_next : (levels : ℕ) (old new : code.Evaluation) (f : Frame) (g : Given) (system : Traced) (now : State) → IsSameProcess old new → old.turns ≤ levels →
    system.now ≡ now → IsGivenUp (unit_of new.unit.now) new.name.items new.size levels system (next_of levels old f g (world_of old system)) now
up_next levels old new f g system now same enough e =
    given_up levels system old new (next_of levels old f g (world_of old system)) now same
    (record {
      frames = map frame_of old.frames.items ++ f ∷ [];
      given = g;
      world = world_of old system;
      grew = grows_same system;
      enough = enough;
      is = sym (after_more (unit_of old.unit.now) old.name.items old.size (deeper_of levels old) (map frame_of old.frames.items) f gives g (world_of old system));
      system_is = e;
    })

-- and of a frame alone
pub up_alone : (levels : ℕ) (old new : code.Evaluation) (f : Frame) (g : Given) (system : Traced) (now : State) → IsSameProcess old new → old.turns ≤ levels →
    system.now ≡ now → IsGivenUp (unit_of new.unit.now) new.name.items new.size levels system
    (Rattle.edi_walk.specs.Frames.resume (unit_of old.unit.now) old.name.items old.size (deeper_of levels old) f g (world_of old system)) now
up_alone levels old new f g system now same enough e =
    given_up levels system old new _ now same
    (record {
      frames = f ∷ [];
      given = g;
      world = world_of old system;
      grew = grows_same system;
      enough = enough;
      is = sym (same_made (Rattle.edi_walk.specs.Frames.resume (unit_of old.unit.now) old.name.items old.size (deeper_of levels old) f g (world_of old system)));
      system_is = e;
    })
  where
    same_made : (m : Evaluation Given) → (m >>= gives) ≡ m
    same_made (gives g w) = refl
    same_made (ends i system turns) = refl

-- ---- a call that was made

module _ (levels number line : ℕ) (old : code.Evaluation) (cells : List Cell) (system : Traced) (enough : old.turns ≤ levels) where
  abbrev asking : Evaluation Given
  asking = next_of levels old (asks number line) (some_cells cells) (world_of old system)

  abbrev of_result : CallResult → Evaluation Given
  of_result r = (answered_by r cells line (world_of old system) >>= λ _ w. gives nothing w) >>= rest_of levels old

  abbrev answer_of : CallResult
  answer_of = call number (words_of_cells cells) system.now

  abbrev behind : List ℕ → State → World
  behind words t = record { store = answer_in cells words (store_of old.memory); system = after_call t system; turns = old.turns }

  was_answered : (words : List ℕ) (t : State) → answer_of ≡ answered words t → asking ≡ rest_of levels old nothing (behind words t)
  was_answered words t e = ap of_result e

  pub had_no_file : (new : code.Evaluation) (t : State) → answer_of ≡ no_file → new ≡ old → system.now ≡ t → EndsWith (outcome.failed cause.NoFile line) asking new t
  had_no_file new t e same s =
      record { system = system; system_is = s; is = ap of_result e ∙ ap (λ (x : code.Evaluation). ends (outcome.failed cause.NoFile line) system x.turns) (sym same) }

  pub was_full : (new : code.Evaluation) (t : State) → answer_of ≡ file_limit → new ≡ old → system.now ≡ t → EndsWith (outcome.failed cause.FileLimit line) asking new t
  was_full new t e same s =
      record { system = system; system_is = s; is = ap of_result e ∙ ap (λ (x : code.Evaluation). ends (outcome.failed cause.FileLimit line) system x.turns) (sym same) }

  pub was_torn : (new : code.Evaluation) (words : List ℕ) (next t : State) → new ≡ old → answer_of ≡ answered words next → IsTorn system.now next t →
      IsFailed number (unit_of new.unit.now) new.name.items new.size levels system asking t
  was_torn new words next t same e torn =
      subst (λ (x : code.Evaluation). IsFailed number (unit_of x.unit.now) x.name.items x.size levels system asking t) (sym same) (record {
        world = world_of old system;
        grew = grows_same system;
        line = line;
        cells = cells;
        frames = map frame_of old.frames.items;
        enough = enough;
        is = associates (answered_by answer_of cells line (world_of old system)) (λ _ w. gives nothing w) (rest_of levels old);
        words = words;
        next = next;
        answers = e;
        torn = torn;
      })

  -- it was answered, and the answer was put; or could not be
  pub put_so : (new : code.Evaluation) (result : Result (Unit {0}) Stop) (words : List ℕ) (t : State) → answer_of ≡ answered words t →
      OnOk result (store_of new.memory ≡ answer_in cells words (store_of old.memory)) → new ≡ record old { memory = new.memory } →
      OnErr result (result ≡ Err stop.NoMemory) → IsSameProcess old new → old.given ≡ make.Nothing → GoesTo levels system result new t asking
  put_so new (Ok x) words t e store others err same free = record {
    system = after_call t system;
    system_is = refl;
    grew = (t ∷ [], refl, refl);
    is =
        was_answered words t e
        ∙ ap (λ s. rest_of levels old nothing (record { store = s; system = after_call t system; turns = old.turns })) (sym store)
        ∙ ap (λ g. rest_of levels old (given_of g) (world_of (record old { memory = new.memory }) (after_call t system))) (sym free)
        ∙ ap (λ (n : code.Evaluation). makes_of levels n (after_call t system)) (sym others);
  }
  put_so new (Err s) words t e store others err same free =
      subst (λ r. GoesTo levels system r new t asking) (sym err)
      (given_up levels system old new asking t same (record {
        frames = map frame_of old.frames.items;
        given = nothing;
        world = behind words t;
        grew = (t ∷ [], refl, refl);
        enough = enough;
        is = was_answered words t e;
        system_is = refl;
      }))

-- how the call met its result
pub met_ok : (r : CallResult) (answer : List ℕ) (s t : State) → Meets r call_end.Ok answer s t → r ≡ answered answer t
met_ok (answered words next) answer s t m = let a = m.0 in let b = m.1 in cc
met_ok no_file answer s t m = absurd m
met_ok file_limit answer s t m = absurd m

pub met_no_file : (r : CallResult) (answer : List ℕ) (s t : State) → Meets r call_end.NoFile answer s t → (r ≡ no_file) × (t ≡ s)
met_no_file (answered words next) answer s t m = absurd m
met_no_file no_file answer s t m = (refl, m)
met_no_file file_limit answer s t m = absurd m

pub met_limit : (r : CallResult) (answer : List ℕ) (s t : State) → Meets r call_end.FileLimit answer s t → (r ≡ file_limit) × (t ≡ s)
met_limit (answered words next) answer s t m = absurd m
met_limit no_file answer s t m = absurd m
met_limit file_limit answer s t m = (refl, m)

-- it was to be answered
pub record WasTorn (r : CallResult) (s t : State) : Type 0 where
  pub words : List ℕ
  pub next : State
  pub is : r ≡ answered words next
  pub torn : IsTorn s next t

pub met_fault : (r : CallResult) (answer : List ℕ) (s t : State) → Meets r call_end.OutsideFault answer s t → WasTorn r s t
met_fault (answered words next) answer s t m = record { words = words; next = next; is = refl; torn = m }
met_fault no_file answer s t m = absurd m
met_fault file_limit answer s t m = absurd m

-- ---- a step that makes no call

pub step_goes : (levels : ℕ) (result : Result (Unit {0}) Stop) (old new : code.Evaluation) (m : Evaluation Given) (system : Traced) (now : State) →
    IsGivenUp (unit_of new.unit.now) new.name.items new.size levels system m now → system.now ≡ now → Follows levels result new system m →
    GoesTo levels system result new now m
step_goes levels (Ok x) old new m system now up e f = record { system = system; system_is = e; grew = grows_same system; is = f }
step_goes levels (Err stop.Done) old new m system now up e f = record { system = system; system_is = e; is = f }
step_goes levels (Err (stop.Halted line)) old new m system now up e f = record { system = system; system_is = e; is = f }
step_goes levels (Err (stop.Failed c line)) old new m system now up e f = record { system = system; system_is = e; is = f }
step_goes levels (Err stop.Turns) old new m system now up e f = record { system = system; system_is = e; is = f }
step_goes levels (Err (stop.Fault number)) old new m system now up e f = absurd f
step_goes levels (Err stop.NoMemory) old new m system now up e f = up

-- a call without an answer
pub no_answer : (cells : List Cell) (store : Store) → answer_in cells [] store ≡ store
no_answer [] store = refl
no_answer (value v ∷ cells) store = no_answer cells store
no_answer (location l ∷ cells) store = no_answer cells store
no_answer (procedure c ∷ cells) store = no_answer cells store

pub same_self : (e : code.Evaluation) → IsSameProcess e e
same_self e = record { unit = refl; name = refl; size = refl; turns = omega arith }

-- ---- where the system is told

pub WhereTold-same : {A : Type 0} (P : A → A → Type 0) (o : Option A) → ((x : A) → P x x) → WhereTold o o P
WhereTold-same P None h = tt
WhereTold-same P (Some x) h = h x

module _ (number line : ℕ) (self new : code.Evaluation) (cells : List Cell) (arguments answer : List ℕ) (are : arguments ≡ words_of_cells cells)
    (old now : Option State) where
  abbrev Made : CallEnd → Type 0
  Made e = WhereTold old now (λ s t. Meets (call number arguments s) e answer s t)

  abbrev Told : Result (Unit {0}) Stop → Type 0
  Told result = WhereTold old now (λ s t. Asks number line (some_cells cells) result self new s t)

  asked_so : (system : Traced) (s : State) (r : CallResult) → system.now ≡ s → call number arguments s ≡ r → call number (words_of_cells cells) system.now ≡ r
  asked_so system s r b e = ap (λ ws. call number ws system.now) (sym are) ∙ ap (call number arguments) b ∙ e

  pub told_answered : (e : CallEnd) → e ≡ call_end.Ok → Made e → (result : Result (Unit {0}) Stop) →
      OnOk result (store_of new.memory ≡ answer_in cells answer (store_of self.memory)) → new ≡ record self { memory = new.memory } →
      OnErr result (result ≡ Err stop.NoMemory) → IsSameProcess self new → self.given ≡ make.Nothing → Told result
  told_answered e is made result store others err same free =
      WhereTold-map _ _ old now
      (λ s t m levels system b enough. put_so levels number line self cells system enough new result answer t
      (asked_so system s (answered answer t) b (met_ok (call number arguments s) answer s t m)) store others err same free)
      (subst Made is made)

  pub told_no_file : (e : CallEnd) → e ≡ call_end.NoFile → Made e → new ≡ self → Told (Err (stop.Failed cause.NoFile line))
  told_no_file e is made same =
      WhereTold-map _ _ old now
      (λ s t m levels system b enough. let n = met_no_file (call number arguments s) answer s t m in
      had_no_file levels number line self cells system enough new t (asked_so system s no_file b n.0) same (b ∙ sym n.1))
      (subst Made is made)

  pub told_full : (e : CallEnd) → e ≡ call_end.FileLimit → Made e → new ≡ self → Told (Err (stop.Failed cause.FileLimit line))
  told_full e is made same =
      WhereTold-map _ _ old now
      (λ s t m levels system b enough. let n = met_limit (call number arguments s) answer s t m in
      was_full levels number line self cells system enough new t (asked_so system s file_limit b n.0) same (b ∙ sym n.1))
      (subst Made is made)

  pub told_torn : (e : CallEnd) → e ≡ call_end.OutsideFault → Made e → new ≡ self → Told (Err (stop.Fault number))
  told_torn e is made same =
      WhereTold-map _ _ old now
      (λ s t m levels system b enough. let n = met_fault (call number arguments s) answer s t m in
      was_torn levels number line self cells system enough new n.words n.next t same (asked_so system s (answered n.words n.next) b n.is)
      (subst (λ x. IsTorn x n.next t) (sym b) n.torn))
      (subst Made is made)

-- what has failed is an object that the call uses
pub blamed_so : (number : ℕ) (e : CallEnd) → e ≡ call_end.OutsideFault → (failed : Option Outside → Type 0) (before now : Outside → ℕ) →
    Blames e failed before now → IsUsed number failed → StopBlames (Err (stop.Fault number)) failed before now
blamed_so number e is failed before now blames used = let h = subst (λ x. Blames x failed before now) is blames in (h.0, h.1, h.2, used h.0 h.1)

-- given up before the call
pub told_up : (number line : ℕ) (g : Given) (result : Result (Unit {0}) Stop) (old new : code.Evaluation) (o : Option State) → result ≡ Err stop.NoMemory →
    IsSameProcess old new → WhereTold o o (λ s t. Asks number line g result old new s t)
told_up number line g result old new o e same =
    WhereTold-same _ o (λ s levels system b enough.
    subst (λ r. GoesTo levels system r new s (next_of levels old (asks number line) g (world_of old system))) (sym e)
    (up_next levels old new (asks number line) g system s same enough b))

-- what was given has been taken
pub told_taken : (number line : ℕ) (g h : Given) (result : Result (Unit {0}) Stop) (old mid new : code.Evaluation) (x : code_given.Given) (o n : Option State) →
    mid ≡ record old { given = x } → g ≡ h → WhereTold o n (λ s t. Asks number line h result mid new s t) → WhereTold o n (λ s t. Asks number line g result old new s t)
told_taken number line g h result old mid new x o n is same told =
    subst (λ k. WhereTold o n (λ s t. Asks number line k result old new s t)) (sym same)
    (subst (λ (e : code.Evaluation). WhereTold o n (λ s t. Asks number line h result e new s t)) is told)

-- ---- frames one after another

-- a frame was taken from the list
pub popped : (levels : ℕ) (before after : code.Evaluation) (f : code_frame.Frame) (system : Traced) → after ≡ record before { frames = after.frames } →
    before.frames.items ≡ after.frames.items ++ f ∷ [] →
    makes_of levels before system ≡ next_of levels after (frame_of f) (given_of after.given) (world_of after system)
popped levels before after f system is items =
    ap (λ (e : code.Evaluation). rest_of levels before (given_of e.given) (world_of e system)) (sym is)
    ∙ pushed levels after before f (ap (λ (e : code.Evaluation). record e { frames = before.frames }) (sym is)) items (given_of after.given) (world_of after system)

pub told_resumed : (f : Frame) (result : Result (Unit {0}) Stop) (old new : code.Evaluation) (o : Option State) → IsSameProcess old new →
    ((levels : ℕ) (system : Traced) → old.turns ≤ levels → Follows levels result new system (next_of levels old f (given_of old.given) (world_of old system))) →
    WhereTold o o (λ s t. Handles f result old new s t)
told_resumed f result old new o same resumes =
    WhereTold-same _ o (λ s levels system b enough.
    step_goes levels result old new _ system s (up_next levels old new f (given_of old.given) system s same enough b) b (resumes levels system enough))

-- all is done
pub runs_out : (old mid : code.Evaluation) (s t : State) → Advances (Ok tt) old mid s t → mid.frames.items ≡ [] → (new : code.Evaluation) →
    new ≡ record mid { frames = new.frames } → Runs (Ok tt) old new s t
runs_out old mid s t far none new is levels system b enough =
    let h = far levels system b enough in
    record {
      system = h.system;
      system_is = h.system_is;
      grew = h.grew;
      is =
          h.is
          ∙ ap (λ fs. Rattle.edi_walk.specs.Frames.after (unit_of mid.unit.now) mid.name.items mid.size (deeper_of levels mid) (map frame_of fs) gives (given_of mid.given)
          (world_of mid h.system)) none
          ∙ ap (λ (e : code.Evaluation). gives (given_of e.given) (world_of e h.system)) (sym is);
    }

-- from an earlier past
further : (levels : ℕ) (result : Result (Unit {0}) Stop) (new : code.Evaluation) (t : State) (from on : Traced) (m : Evaluation Given) → Grows from on →
    GoesTo levels on result new t m → GoesTo levels from result new t m
further levels (Ok x) new t from on m g h = record { system = h.system; system_is = h.system_is; grew = grows_all from on h.system g h.grew; is = h.is }
further levels (Err stop.Done) new t from on m g h = h
further levels (Err (stop.Halted line)) new t from on m g h = h
further levels (Err (stop.Failed c line)) new t from on m g h = h
further levels (Err stop.Turns) new t from on m g h = h
further levels (Err (stop.Fault number)) new t from on m g h = record {
  world = h.world;
  line = h.line;
  cells = h.cells;
  frames = h.frames;
  grew = grows_all from on h.world.system g h.grew;
  enough = h.enough;
  is = h.is;
  words = h.words;
  next = h.next;
  answers = h.answers;
  torn = h.torn;
}
further levels (Err stop.NoMemory) new t from on m g h = record {
  frames = h.frames;
  given = h.given;
  world = h.world;
  grew = grows_all from on h.world.system g h.grew;
  enough = h.enough;
  is = h.is;
  system_is = h.system_is;
}

-- one frame further
pub runs_on : (old mid popped_off new : code.Evaluation) (f : code_frame.Frame) (result : Result (Unit {0}) Stop) (r s t : State) → IsSameProcess old mid →
    popped_off ≡ record mid { frames = popped_off.frames } → mid.frames.items ≡ popped_off.frames.items ++ f ∷ [] →
    Advances (Ok tt) old mid r s → Handles (frame_of f) result popped_off new s t → Advances result old new r t
runs_on old mid popped_off new f result r s t same is items far next levels system b enough =
    let h = far levels system b enough in
    let fewer : popped_off.turns ≤ levels = omega (arith, enough, same.turns, ap (λ (e : code.Evaluation). e.turns) is) in
    further levels result new t system h.system _ h.grew
    (subst (GoesTo levels h.system result new t) (sym (h.is ∙ popped levels mid popped_off f h.system is items)) (next levels h.system h.system_is fewer))

-- a stop on the way is a stop of the whole
pub stops_run : (x : Stop) (old new : code.Evaluation) (s t : State) → Advances (Err x) old new s t → Runs (Err x) old new s t
stops_run x old new s t h = h

pub same_on : (a b c : code.Evaluation) → IsSameProcess a b → IsSameProcess b c → IsSameProcess a c
same_on a b c f g = record { unit = g.unit ∙ f.unit; name = g.name ∙ f.name; size = g.size ∙ f.size; turns = omega (arith, f.turns, g.turns) }

-- at first nothing has been done
pub told_begins : (old : code.Evaluation) (o : Option State) → WhereTold o o (λ s t. Advances (Ok tt) old old s t)
told_begins old o = WhereTold-same _ o (λ s levels system b enough. record { system = system; system_is = b; grew = grows_same system; is = refl })

pub told_on : (old mid popped_off new : code.Evaluation) (f : code_frame.Frame) (result : Result (Unit {0}) Stop) (a b c : Option State) → IsSameProcess old mid →
    popped_off ≡ record mid { frames = popped_off.frames } → mid.frames.items ≡ popped_off.frames.items ++ f ∷ [] →
    WhereTold a b (λ s t. Advances (Ok tt) old mid s t) → WhereTold b c (λ s t. Handles (frame_of f) result popped_off new s t) →
    WhereTold a c (λ s t. Advances result old new s t)
told_on old mid popped_off new f result a b c same is items far next =
    WhereTold-then _ _ _ a b c (λ r s t. runs_on old mid popped_off new f result r s t same is items) far next

pub told_out : (old mid new : code.Evaluation) (a b : Option State) → mid.frames.items ≡ [] → new ≡ record mid { frames = new.frames } →
    WhereTold a b (λ s t. Advances (Ok tt) old mid s t) → WhereTold a b (λ s t. Runs (Ok tt) old new s t)
told_out old mid new a b none is far = WhereTold-map _ _ a b (λ s t h. runs_out old mid s t h none new is) far

-- as many frames as can be counted were done
pub told_counted : (old mid : code.Evaluation) (a b : Option State) → IsSameProcess old mid → WhereTold a b (λ s t. Advances (Ok tt) old mid s t) →
    WhereTold a b (λ s t. Runs (Err stop.NoMemory) old mid s t)
told_counted old mid a b same far =
    WhereTold-map _ _ a b
    (λ s t far levels system e enough. let h = far levels system e enough in record {
      frames = map frame_of mid.frames.items;
      given = given_of mid.given;
      world = world_of mid h.system;
      grew = h.grew;
      enough = omega (arith, enough, same.turns);
      is = h.is;
      system_is = h.system_is;
    }) far
