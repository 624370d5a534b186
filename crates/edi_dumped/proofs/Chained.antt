-- The frames of a process, from the newest down by their links, begin where its instances do.
use Rattle.std.proofs.Common.{◌≡◌, ℕ, zero, suc, ◌+◌, ◌-◌, ◌<◌, ◌≤◌, ◌⊎◌, inl, inr, Bool, true, false, ◌&&◌, if◌then◌else◌, nat_le, List, [], ◌∷◌, length, map}
use Rattle.std.proofs.Common.{refl, subst, ap, ◌∙◌, arith}
use Rattle.std.proofs.lemmas.Bool.{cases_lt, le-leb, leb-true}
use Rattle.edi_meaning.specs.Step.{Work, doing, loop_end, procedure_end, branch_end, program_entry, program_end, Standing, ready, at_when, waiting}
use Rattle.edi_meaning.specs.Store.{Frame, Shape, shape}
use Rattle.edi_target.specs.Mach.{Activity, is_first}
use Rattle.edi_target.specs.Memory.{word}
use Rattle.edi_target.specs.Op.{address_of_words}
use Rattle.edi_kernel.specs.declared.frames.Below.{Below}
use Rattle.edi_kernel.specs.Kept.{leads_down}
use Rattle.edi_waits.specs.Ends.{frames_of}
use Rattle.edi_follows.specs.places.Coded.{Coded, kept}
use Rattle.edi_follows.specs.places.Located.{IsAt, Links, Matches, frame_of}
use Rattle.edi_follows.specs.places.Related.{IsPlaced, activity}
use Rattle.edi_follows.specs.places.Spots.{frame_start}
use Rattle.edi_follows.proofs.places.Places.{roomy, start_later}
use Rattle.edi_dumped.specs.Instances.{bases, FramesAreInstances}

-- ---- the links of the instances, from the work that is left

module _ (g : Coded) (lead : Bool) (from : ℕ) (fs : List Frame) (m : List ℕ) where
  pub record HasLinks (e : ℕ) : Type 0 where
    pub back : ℕ
    pub links : Links g from fs m e back

  links_in : (ws : List Work) (pc d : ℕ) → Matches g lead from fs m ws pc d → (e : ℕ) → e < d → HasLinks e
  links_in [] pc d h e k = absurd h
  links_in (doing a position ∷ ws) pc d h e k = links_in ws h.3.0 d h.3.5 e k
  links_in (loop_end cs position ∷ ws) pc d h e k = links_in ws h.3.2 d h.3.8 e k
  links_in (procedure_end line ∷ ws) pc zero h e k = absurd h.3
  links_in (procedure_end line ∷ ws) pc (suc d) h e k = go (cases_lt e d) (λ less. links_in ws h.3.1 d h.3.5 e less)
    where
      go : (e < d) ⊎ (d ≤ e) → (e < d → HasLinks e) → HasLinks e
      go (inl less) before = before less
      go (inr same) before = let is : d ≡ e = omega (arith, k, same) in subst HasLinks is (record { back = h.3.1; links = h.3.3 })
  links_in (branch_end ∷ ws) pc d h e k = let none = h.3.2 in absurd (omega (arith, k, none))
  links_in (program_entry ∷ ws) pc d h e k = absurd h.3
  links_in (program_end ∷ ws) pc d h e k = let none = h.3.2 in absurd (omega (arith, k, none))

  pub links_at : (standing : Standing) (ws : List Work) (pc d : ℕ) → IsAt g lead from fs m standing ws pc d → (e : ℕ) → e < d → HasLinks e
  links_at ready ws pc d h = links_in ws pc d h
  links_at (waiting n) ws pc d h = links_in ws pc d h
  links_at (at_when cs position) ws pc d h = links_in ws h.1 d h.7

-- ---- the chain

both_true : (a b : Bool) → (a && b) ≡ true → (a ≡ true) × (b ≡ true)
both_true true b h = (refl, h)
both_true false b h = absurd (cc)

-- where all three tests hold
pub leads : (first base x t : ℕ) → first ≤ x → x + 5 ≤ t → t ≤ base → leads_down first base x t ≡ true
leads first base x t h k l =
    ap (λ b. b && nat_le (x + 5) t && nat_le t base) (le-leb first x h)
    ∙ (ap (λ b. b && nat_le t base) (le-leb (x + 5) t k) ∙ le-leb t base l)

-- nothing leads below the first word
pub leads_nowhere : (first x t : ℕ) → leads_down first first x t ≡ false
leads_nowhere first x t = go (leads_down first first x t) refl
  where
    go : (b : Bool) → leads_down first first x t ≡ b → b ≡ false
    go false e = refl
    go true e =
        let one = both_true (nat_le first x && nat_le (x + 5) t) (nat_le t first) e in
        let two = both_true (nat_le first x) (nat_le (x + 5) t) one.0 in
        absurd (omega (arith, leb-true first x two.0, leb-true (x + 5) t two.1, leb-true t first one.1))

module _ (g : Coded) (from : ℕ) (fs : List Frame) (m : List ℕ) (roomy_at : (e : ℕ) → e < length fs → kept g (frame_of fs e).block ≤ (frame_of fs e).need) where
  abbrev base_at : ℕ → ℕ
  base_at d = from + frame_start fs d

  -- an instance ends before the next begins
  pub next_is : (e : ℕ) → suc e < length fs → base_at e + kept g (frame_of fs e).block ≤ base_at (suc e)
  next_is e h = omega (arith, start_later fs e (suc e) (omega arith) (omega (arith, h)), roomy_at e (omega (arith, h)))

  -- as many words as instances
  pub many : (d : ℕ) → d < length fs → d ≤ frame_start fs d
  many zero h = omega arith
  many (suc d) h = omega (arith, many d (omega (arith, h)), next_is d h)

  chain : (n d : ℕ) (top back : ℕ) → d < n → d < length fs → ((e : ℕ) → e < d → HasLinks g true from fs m e)
      → map (λ (f : Below). f.base) (frames_of n m from (base_at d) top back) ≡ bases from fs (suc d)
  chain zero d top back h k links = absurd (omega (arith, h))
  chain (suc n) zero top back h k links =
      let here : base_at 0 ≡ from = omega arith in
      let x : ℕ = word m (base_at 0 + 1) in
      let t : ℕ = word m (base_at 0 + 4) in
      let none : leads_down from (base_at 0) x t ≡ false = ap (λ b. leads_down from b x t) here ∙ leads_nowhere from x t in
      ap (λ (b : Bool). base_at 0 ∷ map (λ (f : Below). f.base) (if b then frames_of n m from x t
      (address_of_words (word m (base_at 0 + 2)) (word m (base_at 0 + 3))) else [])) none
  chain (suc n) (suc d) top back h k links =
      let l : HasLinks g true from fs m d = links d (omega arith) in
      let b : ℕ = base_at (suc d) in
      let x : ℕ = word m (b + 1) in
      let t : ℕ = word m (b + 4) in
      let to : ℕ = address_of_words (word m (b + 2)) (word m (b + 3)) in
      let x_is : x ≡ base_at d = l.links.base in
      let t_is : t ≡ base_at d + kept g (frame_of fs d).block = l.links.top in
      let down : leads_down from b x t ≡ true =
      leads from b x t (omega (arith, x_is)) (omega (arith, x_is, t_is)) (omega (arith, t_is, next_is d k)) in
      ap (λ (c : Bool). b ∷ map (λ (f : Below). f.base) (if c then frames_of n m from x t to else [])) down
      ∙ (ap (λ y. b ∷ map (λ (f : Below). f.base) (frames_of n m from y t to)) x_is
      ∙ ap (λ ys. b ∷ ys) (chain n d t to (omega (arith, h)) (omega (arith, k)) (λ e less. links e (omega (arith, less)))))

pub frames_are_instances : FramesAreInstances
frames_are_instances g s t r p q found =
    let F : Shape = shape s.world.store in
    let fs : List Frame = F p in
    let from : ℕ = r.first p in
    let d : ℕ = length fs - 1 in
    let placed : IsPlaced g r.first F t.memory t.activities p q = r.words.each p q found in
    let some : 0 < length fs = r.words.layout.some p (record { process = q; found = found }) in
    let roomy_at : (e : ℕ) → e < length fs → kept g (frame_of fs e).block ≤ (frame_of fs e).need =
    λ e h. roomy g F (p, e) (r.words.layout.fine (p, e) h) in
    let a : Activity = activity g r.first F p q placed.pc in
    let all : suc d ≡ length fs = omega (arith, some) in
    let fuel : d < suc (a.base - a.first) = omega (arith, many g from fs t.memory roomy_at d (omega (arith, some))) in (
      a,
      placed.found,
      chain g from fs t.memory roomy_at (suc (a.base - a.first)) d a.top placed.pc fuel (omega (arith, some))
          (λ e h. let it = links_at g (is_first p) from fs t.memory q.standing q.work placed.pc d placed.at e h in record { back = it.back; links = it.links })
          ∙ ap (bases from fs) all,
    )
