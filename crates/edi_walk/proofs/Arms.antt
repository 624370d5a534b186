-- What a step of the code leaves, where it gives something or puts frames on the list.
use Rattle.std.proofs.Common.{◌≡◌, ℕ, List, [], ◌∷◌, ◌++◌, refl, sym, subst, ap, ◌∙◌, Result, Ok, Err}
use Rattle.std.specs.Prelude.{map}
use Rattle.std.proofs.lemmas.List.{map-append}
use Rattle.edi_calls.specs.State.{Traced}
use Rattle.edi_unit.specs.View.{unit_of}
use Rattle.edi_meaning.specs.Evaluation.{World, Evaluation, gives, ◌>>=◌}
use Rattle.edi_walk.specs.declared.frames.Frame as code_frame
use Rattle.edi_walk.specs.declared.frames.Given as code_given
use Rattle.edi_walk.specs.declared.evaluation.Evaluation as code
use Rattle.edi_walk.specs.Frames.{Given, Frame, resume, after}
use Rattle.edi_walk.specs.declared.stop.Stop.{Stop}
use Rattle.edi_walk.specs.declared.stop.Stop.TheVariants as stop
use Rattle.edi_walk.specs.Machine.{Follows, Puts, Resumes, given_of, frame_of, deeper_of, rest_of, next_of, world_of, makes_of}
use Rattle.edi_walk.proofs.FrameSteps.{after_more}

-- what is given
pub gave : (levels : ℕ) (system : Traced) (old new : code.Evaluation) (g : code_given.Given) (h : Given) →
    new ≡ record old { given = g } → given_of g ≡ h → rest_of levels old h (world_of old system) ≡ makes_of levels new system
gave levels system old new g h is means = ap (λ x. rest_of levels old x (world_of old system)) (sym means) ∙ ap (λ e. makes_of levels e system) (sym is)

-- a frame more
pub pushed : (levels : ℕ) (old new : code.Evaluation) (f : code_frame.Frame) → new ≡ record old { frames = new.frames } →
    new.frames.items ≡ old.frames.items ++ f ∷ [] → (g : Given) (w : World) → rest_of levels new g w ≡ next_of levels old (frame_of f) g w
pushed levels old new f is items g w =
    ap (λ e. rest_of levels e g w) is
    ∙ ap (λ fs. after (unit_of old.unit.now) old.name.items old.size (deeper_of levels old) (map frame_of fs) gives g w) items
    ∙ ap (λ fs. after (unit_of old.unit.now) old.name.items old.size (deeper_of levels old) fs gives g w)
    (map-append frame_of old.frames.items (f ∷ []))
    ∙ after_more (unit_of old.unit.now) old.name.items old.size (deeper_of levels old) (map frame_of old.frames.items) (frame_of f) gives g w

extends : {A B C : Type 0} (f g : A → B → C) → ((a : A) (b : B) → f a b ≡ g a b) → f ≡ g
extends f g h = λ i a b. h a b i

-- two frames more, of which the upper one is resumed first
pub two_pushed : (levels : ℕ) (old mid new : code.Evaluation) (lower upper : code_frame.Frame) →
    mid ≡ record old { frames = mid.frames } → mid.frames.items ≡ old.frames.items ++ lower ∷ [] →
    new ≡ record mid { frames = new.frames } → new.frames.items ≡ mid.frames.items ++ upper ∷ [] → (g : Given) (w : World) →
    rest_of levels new g w
    ≡ (resume (unit_of old.unit.now) old.name.items old.size (deeper_of levels old) (frame_of upper) g w >>= next_of levels old (frame_of lower))
two_pushed levels old mid new lower upper m mi n ni g w =
    pushed levels mid new upper n ni g w
    ∙ ap (λ e. resume (unit_of e.unit.now) e.name.items e.size (deeper_of levels e) (frame_of upper) g w >>= rest_of levels mid) m
    ∙ ap (λ k. resume (unit_of old.unit.now) old.name.items old.size (deeper_of levels old) (frame_of upper) g w >>= k)
    (extends _ _ (λ g w. pushed levels old mid lower m mi g w))

-- ---- what is put, by how it was answered

-- memory was wanting, or it was put
pub put_one : (old new : code.Evaluation) (f : code_frame.Frame) (result : Result (Unit {0}) Stop) →
    (Rattle.std.specs.Prelude.OnOk result (new.frames.items ≡ old.frames.items ++ f ∷ [])) → new ≡ record old { frames = new.frames } →
    (Rattle.std.specs.Prelude.OnErr result (result ≡ Err stop.NoMemory)) → Puts (frame_of f) result old new
put_one old new f (Ok x) items is err levels system m e =
    e
    ∙ sym (pushed levels old new f is items (given_of old.given) (world_of old system))
    ∙ ap (λ (v : code.Evaluation). rest_of levels new (given_of v.given) (world_of v system)) (sym is)
put_one old new f (Err s) items is err levels system m e =
    Rattle.std.proofs.Common.subst (λ r. Follows levels r new system m) (sym err) tt

-- what is made above a frame that was put on the list is made above it in what was before
pub below : (levels : ℕ) (old mid : code.Evaluation) (lower : code_frame.Frame) (F : code.Evaluation → (Given → World → Evaluation Given) → Evaluation Given) →
    mid ≡ record old { frames = mid.frames } → mid.frames.items ≡ old.frames.items ++ lower ∷ [] →
    ((k : Given → World → Evaluation Given) → F (record old { frames = mid.frames }) k ≡ F old k) →
    F old (next_of levels old (frame_of lower)) ≡ F mid (rest_of levels mid)
below levels old mid lower F is items same =
    ap (F old) (sym (extends _ _ (λ g w. pushed levels old mid lower is items g w)))
    ∙ sym (same (rest_of levels mid)) ∙ ap (λ e. F e (rest_of levels mid)) (sym is)

-- a frame above another
abbrev pub above : (levels : ℕ) → Traced → (upper : Frame) → code.Evaluation → (Given → World → Evaluation Given) → Evaluation Given
above levels system upper e k =
    resume (unit_of e.unit.now) e.name.items e.size (deeper_of levels e) upper (given_of e.given) (world_of e system) >>= k

abbrev pub two_above : (levels : ℕ) → Traced → (upper middle : Frame) → code.Evaluation → (Given → World → Evaluation Given) → Evaluation Given
two_above levels system upper middle e k =
    above levels system upper e (λ g w. resume (unit_of e.unit.now) e.name.items e.size (deeper_of levels e) middle g w >>= k)

-- what was given has been taken
pub taken : (f : Frame) (g : Given) (result : Result (Unit {0}) Stop) (old mid new : code.Evaluation) (h : code_given.Given) →
    mid ≡ record old { given = h } → Resumes f g result mid new → Resumes f g result old new
taken f g result old mid new h is r = subst (λ (e : code.Evaluation). Resumes f g result e new) is r

-- an arm of the dispatcher, which has taken what is given
pub arm : (frame f : code_frame.Frame) (h n : code_given.Given) (result : Result (Unit {0}) Stop) (old mid new : code.Evaluation) → frame ≡ f →
    mid ≡ record old { given = n } → h ≡ old.given → Resumes (frame_of f) (given_of h) result mid new → Resumes (frame_of frame) (given_of old.given) result old new
arm frame f h n result old mid new is took given r =
    subst (λ x. Resumes (frame_of x) (given_of old.given) result old new) (sym is)
    (taken (frame_of f) (given_of old.given) result old mid new n took (subst (λ x. Resumes (frame_of f) (given_of x) result mid new) given r))

-- and one that takes nothing
pub bare_arm : (frame f : code_frame.Frame) (result : Result (Unit {0}) Stop) (old new : code.Evaluation) → frame ≡ f →
    Resumes (frame_of f) (given_of old.given) result old new → Resumes (frame_of frame) (given_of old.given) result old new
bare_arm frame f result old new is r = subst (λ x. Resumes (frame_of x) (given_of old.given) result old new) (sym is) r
