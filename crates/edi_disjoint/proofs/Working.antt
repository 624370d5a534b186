-- The work of a process is of the texts of its instances: what is to be done next of the newest, and behind each end of a procedure of
-- the one below.
use Rattle.std.proofs.Common.{◌≡◌, ℕ, zero, suc, ◌-◌, ◌<◌, List, [], ◌∷◌, ◌++◌, map, take, length, Option, Some, None, refl}
use Rattle.std.proofs.Common.{sym, subst, ap, ◌∙◌, arith}
use Rattle.std.specs.Prelude.{⊤, nat_lt, slice_get, unwrap_or}
use Rattle.edi_calls.specs.Names.{Name, with_at}
use Rattle.edi_calls.specs.Outcome as outcome
use Rattle.edi_unit.specs.Need.{block_at}
use Rattle.edi_unit.specs.Fits.{Fits}
use Rattle.edi_unit.specs.Tree as tree
use Rattle.edi_unit.specs.Tree.{Act, Acts, Clauses, ProgramUnit}
use Rattle.edi_meaning.specs.Store.{Closure, system_procedure, block_procedure, Cell, procedure, Instance, Frame, no_frame, Store, Shape, instances, frames, shape, now, room}
use Rattle.edi_meaning.specs.Store.{grown, shrunk}
use Rattle.edi_meaning.specs.Evaluation.{World, Evaluation, gives}
use Rattle.edi_meaning.specs.Whole.{meant, instance_of}
use Rattle.edi_meaning.specs.Step.{Position, inside, Work, doing, loop_end, procedure_end, branch_end, program_entry, program_end, doing_all, body_of}
use Rattle.edi_meaning.specs.Step.{Standing, ready, at_when, waiting, Asks, goes, arrives, again, forks, leaves, chosen, with_chosen, called, statement_step}
use Rattle.edi_meaning.specs.Step.{work_step, attempt, local_step, awaits}
use Rattle.edi_meaning.proofs.Lasting.{Every, Any, Lasting, Keeps, At, give, stop, bind, turn_keeps, if_keeps, system_keeps, whole_arguments_keep}
use Rattle.edi_meaning.proofs.Lasting.{whole_assignment_keeps, whole_condition_keeps, whole_first_keeps}
use Rattle.edi_meaning.proofs.Own.{instances-same}
use Rattle.edi_meaning.proofs.Due.{DueAs}
use Rattle.edi_meaning.proofs.Frames.{HasShape, own_shape, framing, shape-grown, shape-shrunk}
use Rattle.edi_disjoint.specs.Leaves.{Leaves, ActMay, ActsMay, ClausesMay}
use Rattle.edi_disjoint.proofs.Locally.{StandingMay}
use Rattle.edi_disjoint.proofs.Cells.{block_in}
use Rattle.edi_disjoint.specs.Open.{open_act, open_acts, open_clauses}
use Rattle.edi_disjoint.proofs.Texts.{text_of, open_text}
use Rattle.edi_disjoint.proofs.Inside.{newest_frame}
use Rattle.edi_disjoint.proofs.Knowing.{any_body, any_open_body}

-- ---- the blocks of a process, the newest first

abbrev pub blocks_on : List Frame → List ℕ → List ℕ
blocks_on [] more = more
blocks_on (f ∷ fs) more = blocks_on fs (f.block ∷ more)

abbrev pub blocks_of : List Frame → List ℕ
blocks_of fs = blocks_on fs []

abbrev pub top : List ℕ → ℕ
top [] = 0
top (n ∷ ns) = n

abbrev pub below : List ℕ → List ℕ
below [] = []
below (n ∷ ns) = ns

pub blocks_more : (fs : List Frame) (f : Frame) (more : List ℕ) → blocks_on (fs ++ f ∷ []) more ≡ f.block ∷ blocks_on fs more
blocks_more [] f more = refl
blocks_more (g ∷ fs) f more = blocks_more fs f (g.block ∷ more)

-- a list that is not empty has a last frame
last_of : (f : Frame) (fs : List Frame) → (before : List Frame) × (g : Frame) × ((f ∷ fs) ≡ before ++ g ∷ [])
last_of f [] = ([], f, refl)
last_of f (g ∷ fs) = let r : (before : List Frame) × (h : Frame) × ((g ∷ fs) ≡ before ++ h ∷ []) = last_of g fs in (f ∷ r.0, r.1, ap (λ l. f ∷ l) r.2)

pub top_is : (F : Shape) (p : Name) → top (blocks_of (F p)) ≡ block_in F (now F p)
top_is F p = go (F p)
  where
    go : (fs : List Frame) → top (blocks_of fs) ≡ (unwrap_or (slice_get fs (length fs - 1)) no_frame).block
    go [] = refl
    go (f ∷ fs) =
        let r : (before : List Frame) × (g : Frame) × ((f ∷ fs) ≡ before ++ g ∷ []) = last_of f fs in
        ap (λ l. top (blocks_of l)) r.2 ∙ ap top (blocks_more r.0 r.1 []) ∙ ap (λ g. g.block) (sym (newest_frame r.0 r.1))
        ∙ sym (ap (λ l. (unwrap_or (slice_get l (length l - 1)) no_frame).block) r.2)

blocks_shrunk : (p : Name) (store : Store) (fs : List Frame) → shape store p ≡ fs → blocks_of (shape (shrunk p store) p) ≡ below (blocks_of fs)
blocks_shrunk p store [] e = ap (λ is. blocks_of (frames is)) (instances-same store p _) ∙ none (length (instances store p) - 1) (instances store p) e
  where
    none : (n : ℕ) (is : List Instance) → frames is ≡ [] → blocks_of (frames (take n is)) ≡ []
    none zero is f = refl
    none (suc n) [] f = refl
    none (suc n) (i ∷ is) f = let q : length (frames (i ∷ is)) ≡ 0 = ap length f in absurd (omega (arith, q))
blocks_shrunk p store (f ∷ fs) e =
    let r : (before : List Frame) × (g : Frame) × ((f ∷ fs) ≡ before ++ g ∷ []) = last_of f fs in
    ap blocks_of (shape-shrunk p store r.0 r.1 (e ∙ r.2)) ∙ ap below (sym (blocks_more r.0 r.1 [])) ∙ sym (ap (λ l. below (blocks_of l)) r.2)

-- ---- work

module _ (unit : ProgramUnit) (ok : Fits unit) where
  abbrev text : List ℕ → Leaves
  text ns = text_of unit ok (top ns)

  -- what stands of it outside critical phases
  abbrev pub open_part : List ℕ → Leaves
  open_part ns = open_text unit ok (top ns)

  abbrev pub ActIn : List ℕ → Act → Type 0
  ActIn ns a = ActMay (text ns) a × ActMay (open_part ns) (open_act a)

  abbrev pub ActsIn : List ℕ → Acts → Type 0
  ActsIn ns as' = ActsMay (text ns) as' × ActsMay (open_part ns) (open_acts as')

  abbrev pub ClausesIn : List ℕ → Clauses → Type 0
  ClausesIn ns cs = ClausesMay (text ns) cs × ClausesMay (open_part ns) (open_clauses cs)

  abbrev pub WorkIn : List ℕ → List Work → Type 0
  WorkIn ns [] = ⊤
  WorkIn ns (doing a position ∷ work) = ActIn ns a × WorkIn ns work
  WorkIn ns (loop_end cs position ∷ work) = ClausesIn ns cs × WorkIn ns work
  WorkIn ns (procedure_end line ∷ work) = WorkIn (below ns) work
  WorkIn ns (branch_end ∷ work) = ⊤
  WorkIn ns (program_entry ∷ work) = WorkIn (unit.program ∷ []) work
  WorkIn ns (program_end ∷ work) = ⊤

  abbrev pub WorkAs : List ℕ → Standing → List Work → Type 0
  WorkAs ns ready work = WorkIn ns work
  WorkAs ns (at_when cs position) work = ClausesMay (text ns) cs × WorkIn ns work
  WorkAs ns (waiting n) work = WorkIn ns work

  -- what a local step of p leaves
  abbrev pub WorkAsks : Name → Asks → World → Type 0
  WorkAsks p (goes work) w = WorkIn (blocks_of (shape w.store p)) work
  WorkAsks p (arrives cs position work) w = ClausesMay (text (blocks_of (shape w.store p))) cs × WorkIn (blocks_of (shape w.store p)) work
  WorkAsks p (again cs position quiet work) w = ClausesMay (text (blocks_of (shape w.store p))) cs × WorkIn (blocks_of (shape w.store p)) work
  WorkAsks p (forks bs line work) w = (text (blocks_of (shape w.store p))).Forks bs × WorkIn (blocks_of (shape w.store p)) work
  WorkAsks p leaves w = ⊤

  pub all_in : (ns : List ℕ) (as' : Acts) (position : Position) (n : ℕ) (work : List Work) → ActsIn ns as' → WorkIn ns work → WorkIn ns (doing_all as' position n work)
  all_in ns tree.no_act position n work m k = k
  all_in ns (tree.act_then a as') position n work m k = ((m.0.0, m.1.0), all_in ns as' position (suc n) work (m.0.1, m.1.1) k)

  pub body_in : (ns : List ℕ) (number : ℕ) (work : List Work) → WorkIn (number ∷ ns) work → WorkIn (number ∷ ns) (body_of unit number work)
  body_in ns number work k = all_in (number ∷ ns) (block_at unit.blocks number).body _ 0 work (any_body unit ok number, any_open_body unit ok number) k

  pub awaits_in : (ns : List ℕ) (work : List Work) (n : ℕ) → WorkIn ns work → WorkAs ns (awaits n) work
  awaits_in ns work zero k = k
  awaits_in ns work (suc n) k = k

  -- who may step may do what comes first
  pub may_of : (ns : List ℕ) (p : Name) (standing : Standing) (work : List Work) (d : ℕ) → 0 < d → DueAs p standing work d → WorkAs ns standing work →
      StandingMay (text ns) standing work
  may_of ns p ready [] d l h k = tt
  may_of ns p ready (doing a position ∷ work) d l h k = k.0.0
  may_of ns p ready (loop_end cs position ∷ work) d l h k = tt
  may_of ns p ready (procedure_end line ∷ work) d l h k = tt
  may_of ns p ready (branch_end ∷ work) d l h k = tt
  may_of ns p ready (program_entry ∷ work) d l h k = absurd (omega (arith, l, h.1))
  may_of ns p ready (program_end ∷ work) d l h k = tt
  may_of ns p (at_when cs position) work d l h k = k.0
  may_of ns p (waiting n) work d l h k = tt

  module _ (p : Name) (size : ℕ) (F : Shape) where
    abbrev s : Lasting unit p size
    s = framing unit p size

    abbrev Rests : Evaluation Asks → Type 0
    Rests r = Keeps s (WorkAsks p) r

    abbrev ns : List ℕ
    ns = blocks_of (F p)

    -- the list that is chosen is one of this text
    abbrev Chosen : Option (Acts × ℕ) → Type 0
    Chosen None = ⊤
    Chosen (Some c) = ActsIn ns c.0

    here : (w : World) → HasShape F w.store → ns ≡ blocks_of (shape w.store p)
    here w h = ap blocks_of (sym (h.each p))

    on : (work : List Work) (w : World) → HasShape F w.store → WorkIn ns work → Rests (gives (goes work) w)
    on work w h d = give s _ _ w (subst (λ x. WorkIn x work) (here w h) d)

    chosen_rests : (cs : Clauses) (n : ℕ) (w : World) → HasShape F w.store → ClausesIn ns cs → Keeps s (At s F Chosen) (chosen unit p size cs n w)
    chosen_rests tree.no_clause n w h m = give s _ _ w (tt, h)
    chosen_rests (tree.clause_then (tree.clause e as') cs) n w h m =
        bind s F Any _ _ _ (whole_condition_keeps s F e w h) (λ holds w _ h. if_keeps s _ holds _ _ (give s _ _ w ((m.0.0.1, m.1.0.1), h)) (chosen_rests cs (suc n) w h (m.0.1, m.1.1)))

    in_chosen : (position : Position) (c : Option (Acts × ℕ)) (after work : List Work) → Chosen c → WorkIn ns work → WorkIn ns (after ++ work) →
        WorkIn ns (with_chosen position c after work)
    in_chosen position None after work m h k = h
    in_chosen position (Some c) after work m h k = all_in ns c.0 (inside position c.1) 0 (after ++ work) m k

    called_rests : (c : Closure) (cells : List Cell) (line : ℕ) (work : List Work) (w : World) → HasShape F w.store → WorkIn ns work →
        Rests (called unit p size c cells line work w)
    called_rests (system_procedure n) cells line work w h d = bind s F Any _ _ _ (system_keeps s F n cells line w (every_cell cells) h) (λ _ w _ h. on work w h d)
      where
        every_cell : (cells : List Cell) → Every Any cells
        every_cell [] = tt
        every_cell (c ∷ cs) = (tt, every_cell cs)
    called_rests (block_procedure n parent) cells line work w h d =
        if_keeps s _ (nat_lt (room size (shape w.store p)) (block_at unit.blocks n).need) _ _ (stop s F _ _ w tt h)
        (turn_keeps s F _ w.turns w _ refl h (λ w h.
        let i : Instance = instance_of unit p size n parent cells in
        let more : n ∷ ns ≡ blocks_of (shape (grown p i w.store) p) =
        sym (ap blocks_of (shape-grown p i w.store) ∙ blocks_more (shape w.store p) i.frame [] ∙ ap (λ x. n ∷ x) (sym (here w h))) in
        give s _ _ _ (subst (λ x. WorkIn x (body_of unit n (procedure_end line ∷ work))) more (body_in ns n (procedure_end line ∷ work) d))))

    statement_rests : (a : Act) (position : Position) (work : List Work) (w : World) → HasShape F w.store → ActIn ns a → WorkIn ns work →
        Rests (statement_step unit p size a position work w)
    statement_rests tree.skip position work w h m d = on work w h d
    statement_rests (tree.assign v e) position work w h m d = bind s F Any _ _ _ (whole_assignment_keeps s F v e w h) (λ _ w _ h. on work w h d)
    statement_rests (tree.call c es line) position work w h m d =
        bind s F (Every Any) _ _ _ (whole_arguments_keep s F es w h) (λ cells w f h. called_rests (meant unit p size c w) cells line work w h d)
    statement_rests (tree.halt line) position work w h m d = stop s F _ (outcome.halted line) w tt h
    statement_rests (tree.if_act cs) position work w h m d =
        bind s F Chosen _ _ _ (chosen_rests cs 0 w h m) (λ c w g h. on _ w h (in_chosen position c [] work g d d))
    statement_rests (tree.while_act cs) position work w h m d =
        bind s F Chosen _ _ _ (chosen_rests cs 0 w h m) (λ c w g h. on _ w h (in_chosen position c (loop_end cs position ∷ []) work g d (m, d)))
    statement_rests (tree.when_act cs line) position work w h m d =
        turn_keeps s F _ w.turns w _ refl h (λ w h. give s _ _ w (subst (λ x. ClausesMay (text x) cs × WorkIn x work) (here w h) (m.0, d)))
    statement_rests (tree.cobegin bs line) position work w h m d = give s _ _ w (subst (λ x. (text x).Forks bs × WorkIn x work) (here w h) (m.0, d))

    work_rests : (work : List Work) (w : World) → HasShape F w.store → WorkIn ns work → Rests (work_step unit p size work w)
    work_rests [] w h d = record { is = tt }
    work_rests (doing a position ∷ work) w h d = statement_rests a position work w h d.0 d.1
    work_rests (loop_end cs position ∷ work) w h d = turn_keeps s F _ w.turns w _ refl h (λ w h. on (doing (tree.while_act cs) position ∷ work) w h d)
    work_rests (procedure_end line ∷ work) w h d =
        turn_keeps s F _ w.turns w _ refl h (λ w h. give s _ _ _ (subst (λ x. WorkIn x work) (sym (blocks_shrunk p w.store (F p) (h.each p))) d))
    work_rests (branch_end ∷ work) w h d = turn_keeps s F _ w.turns w _ refl h (λ w h. give s _ _ w tt)
    work_rests (program_entry ∷ work) w h d =
        turn_keeps s F _ w.turns w _ refl h (λ w h.
        let i : Instance = instance_of unit p size unit.program ([], 0) (map (λ n. procedure (system_procedure n)) unit.calls) in
        let one : unit.program ∷ [] ≡ blocks_of (shape (with_at w.store p (i ∷ [])) p) = sym (ap (λ is. blocks_of (frames is)) (instances-same w.store p (i ∷ []))) in
        give s _ _ _ (subst (λ x. WorkIn x (body_of unit unit.program work)) one (body_in [] unit.program work d)))
    work_rests (program_end ∷ work) w h d = turn_keeps s F _ w.turns w _ refl h (λ w h. stop s F _ outcome.done w tt h)

    attempt_rests : (cs : Clauses) (position : Position) (work : List Work) (w : World) → HasShape F w.store → ClausesMay (text ns) cs × WorkIn ns work →
        Rests (attempt unit p size cs position work w)
    attempt_rests cs position work w h d =
        bind s F Any _ _ _ (whole_first_keeps s F cs w h)
        (λ ran w _ h. if_keeps s _ ran _ _ (on work w h d.1)
        (turn_keeps s F _ w.turns w _ refl h (λ w h. give s _ _ w (subst (λ x. ClausesMay (text x) cs × WorkIn x work) (here w h) d))))

    attempt_stays : (cs : Clauses) (position : Position) (work : List Work) (w : World) → HasShape F w.store →
        Keeps s (λ a v. shape v.store p ≡ F p) (attempt unit p size cs position work w)
    attempt_stays cs position work w h =
        bind s F Any _ _ _ (whole_first_keeps s F cs w h)
        (λ ran w _ h. if_keeps s _ ran _ _ (give s _ _ w (h.each p)) (turn_keeps s F _ w.turns w _ refl h (λ w h. give s _ _ w (h.each p))))

    local_rests : (standing : Standing) (work : List Work) (w : World) → HasShape F w.store → WorkAs ns standing work → Rests (local_step unit p size standing work w)
    local_rests ready work w h d = work_rests work w h d
    local_rests (at_when cs position) work w h d = attempt_rests cs position work w h d
    local_rests (waiting n) work w h d = record { is = tt }

  -- a local step leaves work of the texts of the instances that it leaves
  pub local_work : (p : Name) (size : ℕ) (standing : Standing) (work : List Work) (w : World) → WorkAs (blocks_of (shape w.store p)) standing work →
      Keeps (framing unit p size) (WorkAsks p) (local_step unit p size standing work w)
  local_work p size standing work w d = local_rests p size (shape w.store) standing work w (own_shape w.store) d

  -- and an attempt leaves the frames
  pub attempt_frames : (p : Name) (size : ℕ) (cs : Clauses) (position : Position) (work : List Work) (w : World) →
      Keeps (framing unit p size) (λ a v. shape v.store p ≡ shape w.store p) (attempt unit p size cs position work w)
  attempt_frames p size cs position work w = attempt_stays p size (shape w.store) cs position work w (own_shape w.store)
