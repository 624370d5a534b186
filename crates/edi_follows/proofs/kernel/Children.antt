-- All children of a fork, one after another.
use Rattle.std.proofs.Common.{◌≡◌, ℕ, suc, ◌+◌, ◌*◌, ◌<◌, ◌≤◌, ◌⊎◌, inl, inr, List, [], ◌∷◌, length, refl, sym, subst, ◌∙◌, arith}
use Rattle.edi_calls.specs.Names.{Name}
use Rattle.edi_calls.specs.Ready.{child}
use Rattle.edi_store.proofs.MemoryLaws.{length-written, get_or-written_before, get_or-written_after}
use Rattle.edi_unit.specs.Fits.{BranchFits}
use Rattle.edi_meaning.specs.Store.{Spot, shape}
use Rattle.edi_meaning.specs.Step as source
use Rattle.edi_meaning.specs.Step.{Process, Processes, branch_end, body_of, child_process}
use Rattle.edi_target.specs.Op as op
use Rattle.edi_target.specs.Op.{high_word, low_word}
use Rattle.edi_target.specs.Memory.{word}
use Rattle.edi_target.specs.Mach as target
use Rattle.edi_target.specs.Mach.{Machine, Activity, is_first}
use Rattle.edi_target.proofs.segments.Families.{Sound}
use Rattle.edi_follows.specs.places.Coded.{Coded, block, entry}
use Rattle.edi_follows.specs.places.Spots.{block_at}
use Rattle.edi_follows.specs.places.Follows.{branches_of}
use Rattle.edi_follows.specs.places.Related.{Related}
use Rattle.edi_follows.proofs.places.Nested.{segments_of}
use Rattle.edi_follows.proofs.kernel.Forking.{Stage, child_stage, parent_block}

-- ---- all children

abbrev pub Fit : Coded → ℕ → List ℕ → Type 0
Fit g b [] = Unit {0}
Fit g b (n ∷ ns) = BranchFits g.unit.types g.unit.blocks g.fits.headings b n × Fit g b ns

abbrev pub AreSmall : Coded → ℕ → List ℕ → Type 0
AreSmall g share [] = Unit {0}
AreSmall g share (n ∷ ns) = ((block g n).need ≤ share) × AreSmall g share ns

abbrev pub HaveRoom : ℕ → ℕ → ℕ → List ℕ → Type 0
HaveRoom share limit at [] = at ≤ limit
HaveRoom share limit at (n ∷ ns) = HaveRoom share limit (at + share) ns

pub room_now : (share limit at : ℕ) (ns : List ℕ) → HaveRoom share limit at ns → at ≤ limit
room_now share limit at [] h = h
room_now share limit at (n ∷ ns) h = omega (arith, room_now share limit (at + share) ns h)

pub rooms : (share limit : ℕ) (ns : List ℕ) (at : ℕ) → at + length ns * share ≤ limit → HaveRoom share limit at ns
rooms share limit [] at h = omega (arith, h)
rooms share limit (n ∷ ns) at h = rooms share limit ns (at + share) (again share (length ns) at limit h)
  where
    again : (share k at limit : ℕ) → at + suc k * share ≤ limit → at + share + k * share ≤ limit
    again share k at limit h = grind (arith, h)

pub children_stage : (g : Coded) (p : Name) (f limit share base : ℕ) (parent : Spot) (b : ℕ) (bs : List ℕ) (first : Name → ℕ) (i at : ℕ) (s : Processes)
    (t : Machine) → Stage g p f limit parent first i at base s t → block_at g (shape s.world.store) parent ≡ b →
    Fit g b bs → AreSmall g share bs → HaveRoom share limit at bs →
    (first' : Name → ℕ) × (j : ℕ) × (to : ℕ) × Stage g p f limit parent first' j to base (source.with_children g.unit p f i share parent bs s)
    (target.with_children p f i base at share (branches_of g bs) t)
children_stage g p f limit share base parent b [] first i at s t st e fit small room = (first, i, at, st)
children_stage g p f limit share base parent b (n ∷ bs) first i at s t st e fit small room =
    let fit' : BranchFits g.unit.types g.unit.blocks g.fits.headings (block_at g (shape s.world.store) parent) n =
    subst (λ y. BranchFits g.unit.types g.unit.blocks g.fits.headings y n) (sym e) fit.0 in
    let here : at + share ≤ limit = room_now share limit (at + share) bs room in
    children_stage g p f limit share base parent b bs _ (suc i) (at + share) (source.with_child g.unit (child p f i) share parent n s)
    (target.with_child (child p f i) base at share (record { need = (block g n).need; address = entry g n }) t)
    (child_stage g p f limit share parent first i at base s t st n fit' small.0 here)
    (parent_block g p f limit share parent first i at base s t st n fit' small.0 here ∙ e) fit.1 small.1 room

-- and so they are related, where the segments are nested
pub stage_related : (g : Coded) (p : Name) (f limit base : ℕ) (parent : Spot) (first : Name → ℕ) (i at : ℕ) (s : Processes) (t : Machine) →
    Stage g p f limit parent first i at base s t → Sound t.activities → Related g s t
stage_related g p f limit base parent first i at s t st sound = record {
  first = first;
  words = record {
    layout = record {
      segments = segments_of g s.live first (shape s.world.store) t.activities sound (λ y z e. ((st.each y z e).pc, (st.each y z e).found));
      owner = st.owner;
      some = st.some;
      fine = st.fine;
    };
    mirrors = st.mirrors;
    typed = st.typed;
    long = st.long;
    each = st.each;
  };
  same_names = st.same_names;
  system = st.system;
  turns = st.turns;
}

-- the children's words are written in the room alone, and the marks stay
pub children_word : (g : Coded) (p : Name) (f base share limit b : ℕ) (bs : List ℕ) (i at : ℕ) (m : Machine) (y : ℕ) → Fit g b bs → AreSmall g share bs →
    HaveRoom share limit at bs → limit ≤ length m.memory → (y < at) ⊎ (limit ≤ y) →
    word (target.with_children p f i base at share (branches_of g bs) m).memory y ≡ word m.memory y
children_word g p f base share limit b [] i at m y fit small room long where_is = refl
children_word g p f base share limit b (n ∷ bs) i at m y fit small room long where_is =
    let here : at + share ≤ limit = room_now share limit (at + share) bs room in
    let needs = (g.fits.fits_blocks n fit.0.0).needs in
    let fit_five : at + 5 ≤ length m.memory = omega (arith, here, long, small.0, needs) in
    let m1 : Machine = target.with_child (child p f i) base at share (record { need = (block g n).need; address = entry g n }) m in
    children_word g p f base share limit b bs (suc i) (at + share) m1 y fit.1 small.1 room
    (omega (arith, long, length-written m.memory at (base ∷ 0 ∷ 0 ∷ 0 ∷ 0 ∷ []) fit_five))
    (elim where_is [ inl h ↦ inl (omega (arith, h)) | inr h ↦ inr h ])
    ∙ elim where_is [
      | inl h ↦ get_or-written_before m.memory at (base ∷ 0 ∷ 0 ∷ 0 ∷ 0 ∷ []) y fit_five h
      | inr h ↦ get_or-written_after m.memory at (base ∷ 0 ∷ 0 ∷ 0 ∷ 0 ∷ []) y fit_five (omega (arith, h, here, small.0, needs))
    ]

pub children_marks : (p : Name) (f i base at share : ℕ) (bs : List op.Branch) (m : Machine) → (target.with_children p f i base at share bs m).marks ≡ m.marks
children_marks p f i base at share [] m = refl
children_marks p f i base at share (b ∷ bs) m = children_marks p f (suc i) base (at + share) share bs (target.with_child (child p f i) base at share b m)
