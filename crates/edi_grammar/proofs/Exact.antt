-- Where the predictive parser stops is the first fault of the text.
use Rattle.std.proofs.Common.{◌≡◌, ℕ, zero, suc, ◌<◌, ◌≤◌, List, [], ◌∷◌, ◌++◌, true, Some, refl, sym, ap, ◌∙◌, subst, arith, append_assoc}
use Rattle.edi_grammar.specs.Grammar.{Part, token, level_end, part, Item, mark, closing, plain, Grammar, rule_no, level, ends_in, Derives}
use Rattle.edi_grammar.specs.Parser.{pick, rule_at, Why, complete, wrong, too_deep, Stops, done, taken, closed, chosen, other, over}
use Rattle.edi_grammar.specs.Verdict.{IsTooDeep, Lives, Blocked, Blocks, Shallow, Verdict}
use Rattle.edi_grammar.proofs.Conditions.{Fair, some_same}
use Rattle.edi_grammar.proofs.Texts.{Good, plain_both, ends_level, good_more, picked, has_text}

module _ {N S : Type 0} (g : Grammar N S) (fair : Fair g) where
  -- what is too deep in a text is too deep in it behind one item more
  behind_mark : (limit : ℕ) (c : S) (u : List S) (s : S) (items : List (Item S)) → IsTooDeep g limit u s items → IsTooDeep g limit (c ∷ u) s (mark c ∷ items)
  behind_mark limit c u s items d = (mark c ∷ d.0, d.1, ap (λ l. mark c ∷ l) d.2, ap (λ l. c ∷ l) d.3, d.4, d.5)

  behind_closing : (limit : ℕ) (u : List S) (s : S) (items : List (Item S)) → IsTooDeep g limit u s items → IsTooDeep g limit u s (closing ∷ items)
  behind_closing limit u s items d = (closing ∷ d.0, d.1, ap (λ l. closing ∷ l) d.2, d.3, d.4, d.5)

  blocked_mark : (y : Why) (limit : ℕ) (c : S) (u : List S) (s : S) (items : List (Item S)) → Blocked g y limit u s items
      → Blocked g y limit (c ∷ u) s (mark c ∷ items)
  blocked_mark complete limit c u s items h = tt
  blocked_mark wrong limit c u s items h = h
  blocked_mark too_deep limit c u s items h = behind_mark limit c u s items h

  blocked_closing : (y : Why) (limit : ℕ) (u : List S) (s : S) (items : List (Item S)) → Blocked g y limit u s items → Blocked g y limit u s (closing ∷ items)
  blocked_closing complete limit u s items h = tt
  blocked_closing wrong limit u s items h = h
  blocked_closing too_deep limit u s items h = behind_closing limit u s items h

  blocked_same : (y : Why) (limit : ℕ) (u : List S) (s : S) (items more : List (Item S)) → items ≡ more → Blocked g y limit u s more
      → Blocked g y limit u s items
  blocked_same y limit u s items more e h = subst (λ l. Blocked g y limit u s l) (sym e) h

  taken_blocks : (y : Why) (limit a : ℕ) (c : S) (x : List (Part N)) (u r : List S) → Blocks g y limit x u r → Blocks g y limit (token a ∷ x) (c ∷ u) r
  taken_blocks y limit a c x u r h s more later zero items e f d = absurd d
  taken_blocks y limit a c x u r h s more later (suc n) items e f d =
      let heads : c ∷ (u ++ s ∷ later) ≡ d.0 ∷ plain d.1 = sym f ∙ ap plain d.2 in
      let same : plain d.1 ≡ u ++ s ∷ later = cc in
      let one : d.0 ≡ c = cc in
      blocked_same y limit (c ∷ u) s items (mark c ∷ d.1) (d.2 ∙ ap (λ c. mark c ∷ d.1) one) (blocked_mark y limit c u s d.1 (h s more later n d.1 e same d.4))

  closed_blocks : (y : Why) (limit : ℕ) (x : List (Part N)) (u r : List S) → Blocks g y limit x u r → Blocks g y limit (level_end ∷ x) u r
  closed_blocks y limit x u r h s more later zero items e f d = absurd d
  closed_blocks y limit x u r h s more later (suc n) items e f d =
      blocked_same y limit u s items (closing ∷ d.0) d.1 (blocked_closing y limit u s d.0 (h s more later n d.0 e (sym (ap plain d.1) ∙ f) d.2))

  -- the first symbol of what begins with u and then the first symbol of r
  same_head : (u r : List S) (h : S) (more later : List S) (a : S) (all : List S) → a ∷ all ≡ u ++ r → r ≡ h ∷ more → (rest : List S)
      × (u ++ h ∷ later ≡ a ∷ rest)
  same_head [] r h more later a all e f = let both : a ∷ all ≡ h ∷ more = e ∙ f in let same : a ≡ h = cc in (later, rw same refl)
  same_head (c ∷ u) r h more later a all e f = let same : a ≡ c = cc in (u ++ h ∷ later, rw same refl)

  -- a text of a part that begins with the symbol in hand is one of the rule that this symbol selects
  by_rule : (n : ℕ) (k : N) (rule x : List (Part N)) (s : S) (words : List S) (items : List (Item S)) → Good g (part k ∷ x) → rule_at g k (g.kind s) ≡ Some
      rule → plain items ≡ s ∷ words → Derives g (suc n) (part k ∷ x) items → Derives g n (rule ++ x) items
  by_rule n k rule x s words items good at e d =
      let i : pick g k (g.kind s) (g.rules k) ≡ d.0 = picked g fair n d.0 k d.1 x s words items good d.2 e d.3 in
      let same : d.1 ≡ rule = some_same d.1 rule (sym d.2 ∙ ap (λ i. rule_no (g.rules k) i) (sym i) ∙ at) in
      subst (λ rule. Derives g n (rule ++ x) items) same d.3

  chosen_blocks : (y : Why) (limit : ℕ) (k : N) (rule x : List (Part N)) (a : S) (all u r : List S) → Good g (part k ∷ x) → rule_at g k (g.kind a) ≡ Some rule
      → a ∷ all ≡ u ++ r → Blocks g y limit (rule ++ x) u r → Blocks g y limit (part k ∷ x) u r
  chosen_blocks y limit k rule x a all u r good at cut h s more later zero items e f d = absurd d
  chosen_blocks y limit k rule x a all u r good at cut h s more later (suc n) items e f d =
      let head = same_head u r s more later a all cut e in
      h s more later n items e f (by_rule n k rule x a head.0 items good at (f ∙ head.1) d)

  other_blocks : (limit a : ℕ) (c : S) (x : List (Part N)) (words : List S) → (g.kind c ≡ a → ⊥) → Blocks g wrong limit (token a ∷ x) [] (c ∷ words)
  other_blocks limit a c x words ne s more later zero items e f d = absurd d
  other_blocks limit a c x words ne s more later (suc n) items e f d =
      let heads : s ∷ later ≡ d.0 ∷ plain d.1 = sym f ∙ ap plain d.2 in
      let one : s ≡ d.0 = cc in
      let same : c ≡ s = cc in
      ne (ap g.kind (same ∙ one) ∙ d.3)

  over_blocks : (limit a : ℕ) (c : S) (x : List (Part N)) (words : List S) → g.kind c ≡ a → g.opens a ≡ true → limit < level g x 0
      → Blocks g too_deep limit (token a ∷ x) [] (c ∷ words)
  over_blocks limit a c x words is opens deep s more later zero items e f d = absurd d
  over_blocks limit a c x words is opens deep s more later (suc n) items e f d =
      let heads : s ∷ later ≡ d.0 ∷ plain d.1 = sym f ∙ ap plain d.2 in
      let one : d.0 ≡ s = cc in
      let same : c ≡ s = cc in
      let is_a : g.kind s ≡ a = ap g.kind (sym same) ∙ is in
      let ends : ends_in g d.1 ≡ level g x 0 = ends_level g fair n x d.1 d.4 in
      ([], d.1, d.2 ∙ ap (λ s. mark s ∷ d.1) one, refl, subst (λ a. g.opens a ≡ true) (sym is_a) opens, omega (arith, deep, ends))

  -- the item in front of a symbol is a symbol that was read, or the end of a level
  taken_shallow : (limit a : ℕ) (c : S) (x : List (Part N)) (before : List S) → g.kind c ≡ a → (g.opens a ≡ true → level g x 0 ≤ limit)
      → Shallow g limit x before → Shallow g limit (token a ∷ x) (c ∷ before)
  taken_shallow limit a c x before is small rest u v s zero items e d t = absurd d
  taken_shallow limit a c x before is small rest u v s (suc n) items e d ([], after, i, p, o, l) =
      let heads : mark s ∷ after ≡ mark d.0 ∷ d.1 = sym i ∙ d.2 in
      let here : s ≡ d.0 = cc in
      let tail : after ≡ d.1 = cc in
      let opens_a : g.opens a ≡ true = subst (λ a. g.opens a ≡ true) (ap g.kind here ∙ d.3) o in
      omega (arith, small opens_a, l, ap (ends_in g) tail, ends_level g fair n x d.1 d.4)
  taken_shallow limit a c x before is small rest u v s (suc n) items e d (closing ∷ b, after, i, p, o, l) =
      let heads : closing ∷ (b ++ mark s ∷ after) ≡ mark d.0 ∷ d.1 = sym i ∙ d.2 in cc
  taken_shallow limit a c x before is small rest u v s (suc n) items e d (mark m ∷ b, after, i, p, o, l) =
      let heads : mark m ∷ (b ++ mark s ∷ after) ≡ mark d.0 ∷ d.1 = sym i ∙ d.2 in
      let tail : d.1 ≡ b ++ mark s ∷ after = cc in
      let read : c ∷ before ≡ m ∷ (plain b ++ s ∷ v) = e ∙ ap (λ u. u ++ s ∷ v) (sym p) in
      let left : before ≡ plain b ++ s ∷ v = cc in
      rest (plain b) v s n d.1 left d.4 (b, after, tail, refl, o, l)

  closed_shallow : (limit : ℕ) (x : List (Part N)) (before : List S) → Shallow g limit x before → Shallow g limit (level_end ∷ x) before
  closed_shallow limit x before rest u v s zero items e d t = absurd d
  closed_shallow limit x before rest u v s (suc n) items e d ([], after, i, p, o, l) = let heads : mark s ∷ after ≡ closing ∷ d.0 = sym i ∙ d.1 in cc
  closed_shallow limit x before rest u v s (suc n) items e d (mark m ∷ b, after, i, p, o, l) = let heads : mark m ∷ (b ++ mark s ∷ after) ≡ closing
      ∷ d.0 = sym i ∙ d.1 in cc
  closed_shallow limit x before rest u v s (suc n) items e d (closing ∷ b, after, i, p, o, l) =
      let heads : closing ∷ (b ++ mark s ∷ after) ≡ closing ∷ d.0 = sym i ∙ d.1 in
      let tail : d.0 ≡ b ++ mark s ∷ after = cc in
      rest u v s n d.0 e d.2 (b, after, tail, p, o, l)

  chosen_shallow : (limit : ℕ) (k : N) (rule x : List (Part N)) (a : S) (all before r : List S) → Good g (part k ∷ x) → rule_at g k (g.kind a) ≡ Some rule → a
      ∷ all ≡ before ++ r → Shallow g limit (rule ++ x) before → Shallow g limit (part k ∷ x) before
  chosen_shallow limit k rule x a all before r good at cut rest u v s zero items e d t = absurd d
  chosen_shallow limit k rule x a all before r good at cut rest u v s (suc n) items e d t =
      let after = t.1 in
      let head = same_head u (s ∷ (v ++ r)) s (v ++ r) (plain after) a all (cut ∙ ap (λ l. l ++ r) e ∙ append_assoc u (s ∷ v) r) refl in
      let spelled : plain items ≡ u ++ s ∷ plain after = ap plain t.2 ∙ plain_both t.0 (mark s ∷ after) ∙ ap (λ l. l ++ s ∷ plain after) t.3 in
      rest u v s n items e (by_rule n k rule x a head.0 items good at (spelled ∙ head.1) d) t

  nothing_before : (limit : ℕ) (x : List (Part N)) → Shallow g limit x []
  nothing_before limit x [] v s n items e d t = cc
  nothing_before limit x (b ∷ u) v s n items e d t = cc

  taken_lives : (y : Why) (a : ℕ) (s : S) (x : List (Part N)) (u r : List S) → g.kind s ≡ a → Lives g y x u r → Lives g y (token a ∷ x) (s ∷ u) r
  taken_lives y a s x u r is l = (suc l.0, l.1, mark s ∷ l.2, ap (λ l. s ∷ l) l.3, l.4, (s, l.2, refl, is, l.5))

  closed_lives : (y : Why) (x : List (Part N)) (u r : List S) → Lives g y x u r → Lives g y (level_end ∷ x) u r
  closed_lives y x u r l = (suc l.0, l.1, closing ∷ l.2, l.3, l.4, (l.2, refl, l.5))

  pub exact : (limit : ℕ) (x : List (Part N)) (words : List S) (y : Why) (r : List S) → Stops g limit x words y r → Good g x → Verdict g y limit x words r
  exact limit x' words' y' r' (done words) good =
      record { before = []; cut = refl; lives = (1, [], [], refl, refl, refl); blocks = λ s more later n items e f d. tt; shallow = nothing_before limit [] }
  exact limit x' words' y' r' (taken a s x words r y is small p) good = let e = exact limit x words y r p good.1 in record {
    before = s ∷ e.before;
    cut = ap (λ l. s ∷ l) e.cut;
    lives = taken_lives y a s x e.before r is e.lives;
    blocks = taken_blocks y limit a s x e.before r e.blocks;
    shallow = taken_shallow limit a s x e.before is small e.shallow;
  }
  exact limit x' words' y' r' (closed x words r y p) good = let e = exact limit x words y r p good in record {
    before = e.before;
    cut = e.cut;
    lives = closed_lives y x e.before r e.lives;
    blocks = closed_blocks y limit x e.before r e.blocks;
    shallow = closed_shallow limit x e.before e.shallow;
  }
  exact limit x' words' y' r' (chosen k rule x s words r y at p) good =
      let i = pick g k (g.kind s) (g.rules k) in
      let e = exact limit (rule ++ x) (s ∷ words) y r p (good_more g fair k x good rule (fair.links k i rule at)) in record {
        before = e.before;
        cut = e.cut;
        lives = (suc e.lives.0, e.lives.1, e.lives.2, e.lives.3, e.lives.4, (i, rule, at, e.lives.5));
        blocks = chosen_blocks y limit k rule x s words e.before r good at e.cut e.blocks;
        shallow = chosen_shallow limit k rule x s words e.before r good at e.cut e.shallow;
      }
  exact limit x' words' y' r' (other a s x words ne) good = let m = has_text g fair (token a ∷ x) good in record {
    before = [];
    cut = refl;
    lives = (m.0, plain m.1, m.1, refl, tt, m.2);
    blocks = other_blocks limit a s x words ne;
    shallow = nothing_before limit (token a ∷ x);
  }
  exact limit x' words' y' r' (over a s x words is opens deep) good = let m = has_text g fair x good.1 in record {
    before = [];
    cut = refl;
    lives = (suc m.0, s ∷ plain m.1, mark s ∷ m.1, refl, (s, words, plain m.1, refl, refl), (s, m.1, refl, is, m.2));
    blocks = over_blocks limit a s x words is opens deep;
    shallow = nothing_before limit (token a ∷ x);
  }
