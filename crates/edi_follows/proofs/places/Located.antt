-- Work stays where it stands while the frames and links of its process stay.
use Rattle.std.proofs.Common.{◌≡◌, ℕ, zero, suc, ◌+◌, ◌<◌, ◌≤◌, Bool, true, false, if◌then◌else◌, List, [], ◌∷◌, refl, sym, subst, ap, ◌∙◌, arith}
use Rattle.edi_unit.specs.Tree.{Act, Acts, no_act, act_then, while_act}
use Rattle.edi_unit.specs.Need.{block_at, act_height, acts_height, clauses_height}
use Rattle.edi_unit.specs.Fits.{ActFits, ActsFit, ClausesFit}
use Rattle.edi_meaning.specs.Store.{Frame}
use Rattle.edi_meaning.specs.Step.{Position, Work, doing, loop_end, procedure_end, branch_end, program_entry, program_end, doing_all, ready, at_when, waiting, inside}
use Rattle.edi_target.specs.Op as op
use Rattle.edi_target.specs.Op.{address_of_words}
use Rattle.edi_target.specs.Memory.{word}
use Rattle.edi_scheme.specs.Pieces.{released, is_branch, entry_of}
use Rattle.edi_scheme.specs.Lengths.{act_length}
use Rattle.edi_scheme.specs.Stands as code
use Rattle.edi_scheme.specs.Sites.{statements, into, nth_statement, body_start, body_site, site}
use Rattle.edi_scheme.proofs.Sites.{led_behind}
use Rattle.edi_follows.specs.places.Coded.{Coded, entry, kept}
use Rattle.edi_follows.specs.places.Spots.{frame_start}
use Rattle.edi_follows.specs.places.Located.{frame_of, list_end, Room, Links, Sited, IsAwaited, Matches, Agrees, MatchesKept}
use Rattle.edi_follows.proofs.places.Long.{one_long, act_long, acts_long}

module _ (g : Coded) where
  pub agrees_less : (from : ℕ) (fs fs' : List Frame) (m m' : List ℕ) (d e : ℕ) → e ≤ d → Agrees g from fs fs' m m' d → Agrees g from fs fs' m m' e
  agrees_less from fs fs' m m' d e le a = record {
    starts = λ x l. a.starts x (omega (arith, l, le));
    framed = λ x l. a.framed x (omega (arith, l, le));
    words = λ x j l k. a.words x j (omega (arith, l, le)) k;
  }

  links_kept : (from : ℕ) (fs fs' : List Frame) (m m' : List ℕ) (e back : ℕ) → Agrees g from fs fs' m m' (suc e) → Links g from fs m e back →
      Links g from fs' m' e back
  links_kept from fs fs' m m' e back a h =
      let s1 : frame_start fs' (suc e) ≡ frame_start fs (suc e) = a.starts (suc e) (omega arith) in
      let s0 : frame_start fs' e ≡ frame_start fs e = a.starts e (omega arith) in
      let f : frame_of fs' e ≡ frame_of fs e = a.framed e (omega arith) in
      let here : (j : ℕ) → j < 5 → word m' (from + frame_start fs' (suc e) + j) ≡ word m (from + frame_start fs (suc e) + j) =
      λ j k. ap (λ n. word m' (from + n + j)) s1 ∙ a.words (suc e) j (omega arith) k in
      record {
        base = here 1 (omega arith) ∙ h.base ∙ sym (ap (λ n. from + n) s0);
        address = (λ i. address_of_words (here 2 (omega arith) i) (here 3 (omega arith) i)) ∙ h.address;
        top = here 4 (omega arith) ∙ h.top ∙ sym (λ i. from + s0 i + kept g (f i).block);
      }

  pub matches_kept : (lead : Bool) (from : ℕ) (fs fs' : List Frame) (m m' : List ℕ) (ws : List Work) (pc d : ℕ) → Agrees g from fs fs' m m' d →
      Matches g lead from fs m ws pc d → Matches g lead from fs' m' ws pc d
  matches_kept lead from fs fs' m m' [] pc d a h = h
  matches_kept lead from fs fs' m m' (doing x position ∷ ws) pc d a h =
      let moved = subst (λ y. code.IsAct g.fetched g.unit.types g.unit.blocks (entry g) y.block x h.1 h.3.0
      × ActFits g.unit.types g.unit.blocks g.fits.headings y.block x × Room g y (act_height g.unit.types g.unit.blocks y.block x)
      × Sited g y.block position x h.1)
      (sym (a.framed d (omega arith))) (h.3.1, h.3.2, h.3.3, h.3.4) in
      (h.0, h.1, h.2, (h.3.0, moved.0, moved.1, moved.2, moved.3, matches_kept lead from fs fs' m m' ws h.3.0 d a h.3.5))
  matches_kept lead from fs fs' m m' (loop_end cs position ∷ ws) pc d a h =
      let moved = subst (λ y. code.IsAct g.fetched g.unit.types g.unit.blocks (entry g) y.block (while_act cs) h.3.0 h.3.2
      × ClausesFit g.unit.types g.unit.blocks g.fits.headings y.block cs × Room g y (clauses_height g.unit.types g.unit.blocks y.block cs)
      × Sited g y.block position (while_act cs) h.3.0)
      (sym (a.framed d (omega arith))) (h.3.4, h.3.5, h.3.6, h.3.7) in
      (h.0, h.1, h.2, (h.3.0, h.3.1, h.3.2, h.3.3, moved.0, moved.1, moved.2, moved.3, matches_kept lead from fs fs' m m' ws h.3.2 d a h.3.8))
  matches_kept lead from fs fs' m m' (procedure_end line ∷ ws) pc zero a h = absurd h.3
  matches_kept lead from fs fs' m m' (procedure_end line ∷ ws) pc (suc e) a h =
      let links = links_kept from fs fs' m m' e h.3.1 a h.3.3 in
      let rest = matches_kept lead from fs fs' m m' ws h.3.1 e (agrees_less from fs fs' m m' (suc e) e (omega arith) a) h.3.5 in
      (h.0, h.1, h.2, (h.3.0, h.3.1, h.3.2, links, h.3.4, rest, h.3.6 ∙ ap (λ x. list_end g x.block) (sym (a.framed (suc e) (omega arith)))))
  matches_kept lead from fs fs' m m' (branch_end ∷ ws) pc d a h =
      (h.0, h.1, h.2, (h.3.0, h.3.1, h.3.2, h.3.3, h.3.4, h.3.5 ∙ ap (λ x. list_end g x.block) (sym (a.framed d (omega arith)))))
  matches_kept lead from fs fs' m m' (program_entry ∷ ws) pc d a h = absurd h.3
  matches_kept lead from fs fs' m m' (program_end ∷ ws) pc d a h =
      (h.0, h.1, h.2, (h.3.0, h.3.1, h.3.2, h.3.3, h.3.4, h.3.5 ∙ ap (λ x. list_end g x.block) (sym (a.framed d (omega arith)))))

  pub at_kept : MatchesKept g
  at_kept lead from fs fs' m m' ready ws pc d a h = matches_kept lead from fs fs' m m' ws pc d a h
  at_kept lead from fs fs' m m' (waiting n) ws pc d a h = matches_kept lead from fs fs' m m' ws pc d a h
  at_kept lead from fs fs' m m' (at_when cs position) ws pc d a h =
      let f : frame_of fs d ≡ frame_of fs' d = sym (a.framed d (omega arith)) in (
        h.0,
        h.1,
        subst (λ y. code.AreClauses g.fetched g.unit.types g.unit.blocks (entry g) y.block released h.1 cs pc h.0) f h.2,
        h.3,
        subst (λ y. ClausesFit g.unit.types g.unit.blocks g.fits.headings y.block cs) f h.4,
        subst (λ y. Room g y (clauses_height g.unit.types g.unit.blocks y.block cs)) f h.5,
        subst (λ y. IsAwaited g y.block position cs pc) f h.6,
        matches_kept lead from fs fs' m m' ws h.1 d a h.7,
      )

  -- the statements of a list, from number n on, stand where a position leads with these numbers
  pub record Listed (b : ℕ) (position : Position) (as' : Acts) (pc n : ℕ) : Type 0 where
    pub of : position.of ≡ b
    pub each : (k j : ℕ) → j ≡ n + k → into g.unit.types g.unit.blocks b (site g.unit position) j ≡ nth_statement g.unit.types g.unit.blocks b as' pc k

  -- the first statement of such a list
  pub led_on : (position : Position) (n : ℕ) → site g.unit (inside position n) ≡ into g.unit.types g.unit.blocks position.of (site g.unit position) n
  led_on position n = led_behind g.unit.types g.unit.blocks position.of (body_site g.unit.types g.unit.blocks position.of) position.path n

  first_sited : (b : ℕ) (position : Position) (a : Act) (as' : Acts) (pc n : ℕ) → Listed b position (act_then a as') pc n →
      Sited g b (inside position n) a pc
  first_sited b position a as' pc n h = record {
    of = h.of;
    there = led_on position n ∙ ap (λ c. into g.unit.types g.unit.blocks c (site g.unit position) n) h.of ∙ h.each 0 n (omega arith);
  }

  -- and the others
  rest_listed : (b : ℕ) (position : Position) (a : Act) (as' : Acts) (pc c n : ℕ) → c ≡ pc + act_length g.unit.types g.unit.blocks b a →
      Listed b position (act_then a as') pc n → Listed b position as' c (suc n)
  rest_listed b position a as' pc c n e h = record {
    of = h.of;
    each = λ k j i. h.each (suc k) j (omega (arith, i)) ∙ ap (λ x. nth_statement g.unit.types g.unit.blocks b as' x k) (sym e);
  }

  -- all of a list
  pub listed_from : (b : ℕ) (position : Position) (as' : Acts) (pc : ℕ) → position.of ≡ b → site g.unit position ≡ statements as' pc →
      Listed b position as' pc 0
  listed_from b position as' pc of e = record {
    of = of;
    each = λ k j i. ap (λ x. into g.unit.types g.unit.blocks b x j) e ∙ ap (λ x. nth_statement g.unit.types g.unit.blocks b as' pc x)
        (numbered k j i);
  }
    where
      numbered : (k j : ℕ) → j ≡ 0 + k → j ≡ k
      numbered k j i = omega (arith, i)

  -- the list of a block
  pub body_listed : (b at : ℕ) → body_start g.unit.types g.unit.blocks b ≡ at → Listed b (record { of = b; path = [] }) (block_at g.unit.blocks b).body at 0
  body_listed b at e = listed_from b (record { of = b; path = [] }) (block_at g.unit.blocks b).body at refl (ap (statements (block_at g.unit.blocks b).body) e)

  pub procedure_listed : (n : ℕ) → is_branch (block_at g.unit.blocks n).kind ≡ false → (x : code.IsProcedure g.fetched g.unit.types g.unit.blocks (entry g) n) →
      Listed n (record { of = n; path = [] }) (block_at g.unit.blocks n).body x.body 0
  procedure_listed n none x =
      body_listed n x.body
      (ap (λ v. if v then entry g n else entry g n + 6) none ∙ sym (one_long g (entry g n) (entry_of g.unit.types (block_at g.unit.blocks n)) x.body x.begins))

  -- and where it ends
  pub procedure_ends : (n : ℕ) → is_branch (block_at g.unit.blocks n).kind ≡ false → (x : code.IsProcedure g.fetched g.unit.types g.unit.blocks (entry g) n) →
      x.end ≡ list_end g n
  procedure_ends n none x =
      let body = (block_at g.unit.blocks n).body in
      let begun = one_long g (entry g n) (entry_of g.unit.types (block_at g.unit.blocks n)) x.body x.begins in
      let start : body_start g.unit.types g.unit.blocks n ≡ entry g n + 6 = ap (λ v. if v then entry g n else entry g n + 6) none in
      omega (arith, acts_long g n body x.body x.end x.list, begun, start)

  pub branch_ends : (n : ℕ) → is_branch (block_at g.unit.blocks n).kind ≡ true → (x : code.IsBranch g.fetched g.unit.types g.unit.blocks (entry g) n) →
      x.end ≡ list_end g n
  branch_ends n is x =
      let start : body_start g.unit.types g.unit.blocks n ≡ entry g n = ap (λ v. if v then entry g n else entry g n + 6) is in
      omega (arith, acts_long g n (block_at g.unit.blocks n).body (entry g n) x.end x.list, start)

  pub branch_listed : (n : ℕ) → is_branch (block_at g.unit.blocks n).kind ≡ true →
      Listed n (record { of = n; path = [] }) (block_at g.unit.blocks n).body (entry g n) 0
  branch_listed n is = body_listed n (entry g n) (ap (λ v. if v then entry g n else entry g n + 6) is)

  -- a list of statements, and then the rest
  pub matches_acts : (lead : Bool) (from : ℕ) (fs : List Frame) (m : List ℕ) (as' : Acts) (position : Position) (n : ℕ) (ws : List Work) (pc to d : ℕ) →
      Listed (frame_of fs d).block position as' pc n →
      code.AreActs g.fetched g.unit.types g.unit.blocks (entry g) (frame_of fs d).block as' pc to →
      ActsFit g.unit.types g.unit.blocks g.fits.headings (frame_of fs d).block as' →
      Room g (frame_of fs d) (acts_height g.unit.types g.unit.blocks (frame_of fs d).block as') → Matches g lead from fs m ws to d →
      Matches g lead from fs m (doing_all as' position n ws) pc d
  matches_acts lead from fs m no_act position n ws pc to d sited a f r h = subst (λ p. Matches g lead from fs m ws p d) (sym a) h
  matches_acts lead from fs m (act_then x xs) position n ws pc to d sited a f r h = (
    0,
    pc,
    refl,
    (
      a.0,
      a.1,
      f.0,
      omega (arith, r),
      first_sited (frame_of fs d).block position x xs pc n sited,
      matches_acts lead from fs m xs position (suc n) ws a.0 to d
          (rest_listed (frame_of fs d).block position x xs pc a.0 n (act_long g (frame_of fs d).block x pc a.0 a.1) sited) a.2 f.1 (omega (arith, r)) h,
    ),
  )

  -- behind one more jump
  pub matches_jump : (lead : Bool) (from : ℕ) (fs : List Frame) (m : List ℕ) (ws : List Work) (pc to next d : ℕ) →
      code.InstructionStands g.fetched pc (op.jump to) next → pc < to → Matches g lead from fs m ws to d → Matches g lead from fs m ws pc d
  matches_jump lead from fs m [] pc to next d r up h = h
  matches_jump lead from fs m (x ∷ ws) pc to next d r up h = (suc h.0, h.1, (to, next, r, up, h.2), h.3)
