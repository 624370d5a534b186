-- How a parsing function moves on.
use Rattle.std.proofs.Common.{◌≡◌, ℕ, suc, ◌<◌, ◌≤◌, List, [], ◌∷◌, ◌++◌, true, false, Option, Some, None, Result, Ok, Err, refl, sym, ap, ◌∙◌, subst, arith}
use Rattle.std.proofs.Common.{append_assoc}
use Rattle.std.specs.Prelude.{IsErrAnd, IfErr}
use Rattle.edi_lex.specs.declared.symbol.Mark.{Mark}
use Rattle.edi_tree.specs.Stands.{Spelled, StandsAsMark, StandAsMarks}
use Rattle.edi_tree.specs.Spells.{to_end}
use Rattle.edi_tree.specs.Levels.{Element, mark, level_end, marks_among}
use Rattle.edi_grammar.specs.Grammar as item
use Rattle.edi_grammar.specs.Grammar.{Part, token, part, level}
use Rattle.edi_grammar.specs.Parser.{Why, wrong, too_deep, Stops, taken, closed, chosen, other, over, rule_at}
use Rattle.edi_grammar.specs.Kind.{kind_of, front}
use Rattle.edi_grammar.specs.Rules.{Sort, opens}
use Rattle.edi_grammar.specs.Edison.{edison}
use Rattle.edi_grammar.proofs.Conditions.{level_both}
use Rattle.edi_phrases.specs.declared.stop.Stop.{Stop}
use Rattle.edi_phrases.specs.declared.stop.Stop.TheVariants as stop
use Rattle.edi_phrases.specs.Parses.{Goes, Passes}
use Rattle.edi_phrases.specs.Stopped.{HaltsAt, Lacks, Refuses}

takes : (a : ℕ) (m : Mark) (p q : List Mark) (x : List (Part Sort)) (w : Why) (r : List (Option Mark)) → p ≡ m ∷ q → kind_of m.symbol ≡ a
    → (opens a ≡ true → level edison x 0 ≤ 64) → Stops edison 64 x (to_end q) w r → Stops edison 64 (token a ∷ x) (to_end p) w r
takes a m p q x w r e k small h = subst (λ p. Stops edison 64 (token a ∷ x) (to_end p) w r) (sym e) (taken a (Some m) x (to_end q) r w k small h)

refuses : (a : ℕ) (p : List Mark) (x : List (Part Sort)) → (front p ≡ a → ⊥) → Stops edison 64 (token a ∷ x) (to_end p) wrong (to_end p)
refuses a [] x h = other a None x [] h
refuses a (m ∷ p) x h = other a (Some m) x (to_end p) h

exceeds : (a : ℕ) (p : List Mark) (x : List (Part Sort)) → front p ≡ a → opens a ≡ true → 64 < level edison x 0 → Stops edison 64 (token a ∷ x) (to_end p)
    too_deep (to_end p)
exceeds a [] x k o l = over a None x [] k o l
exceeds a (m ∷ p) x k o l = over a (Some m) x (to_end p) k o l

takes_rule : (k : Sort) (rule x : List (Part Sort)) (p : List Mark) (w : Why) (r : List (Option Mark)) → rule_at edison k (front p) ≡ Some rule
    → Stops edison 64 (rule ++ x) (to_end p) w r → Stops edison 64 (part k ∷ x) (to_end p) w r
takes_rule k rule x [] w r e h = chosen k rule x None [] r w e h
takes_rule k rule x (m ∷ p) w r e h = chosen k rule x (Some m) (to_end p) r w e h

in_front : (s : Spelled) (m : Mark) (p q : List Mark) (es : List Element) → p ≡ m ∷ q → StandsAsMark s m → StandAsMarks (marks_among es) q
    → StandAsMarks (marks_among (mark s ∷ es)) p
in_front s m p q es e st h = subst (λ p. StandAsMarks (marks_among (mark s ∷ es)) p) (sym e) (st, h)

pub waits : (k : Sort) (n : ℕ) (p : List Mark) → Goes k n (λ es. es) (part k ∷ []) p p
waits k n p = record { at = λ y w r l h. h; reads = λ es h. h }

-- the part takes this rule
pub begins : {k : Sort} {n : ℕ} {p : List Mark} (rule : List (Part Sort)) → rule_at edison k (front p) ≡ Some rule → Goes k n (λ es. es) rule p p
begins {k = k} {p = p} rule e = record { at = λ y w t l h. takes_rule k rule y p w t e h; reads = λ es h. h }

-- a symbol that opens no level
pub over_mark : {k : Sort} {n a : ℕ} {f : List Element → List Element} {x : List (Part Sort)} {p q r : List Mark} (s : Spelled) (m : Mark)
    → Goes k n f (token a ∷ x) p q → q ≡ m ∷ r → kind_of m.symbol ≡ a → opens a ≡ false → StandsAsMark s m → Goes k n (λ es. f (mark s ∷ es)) x p r
over_mark {a = a} {x = x} {q = q} {r = r} s m go e is shut st = record {
  at = λ y w t l h. go.at y w t l (takes a m q r (x ++ y) w t e is (λ o. let no : true ≡ false = sym o ∙ shut in cc) h);
  reads = λ es h. go.reads (mark s ∷ es) (in_front s m q r es e st h);
}

-- one that opens a level
pub over_open : {k : Sort} {n a : ℕ} {f : List Element → List Element} {x : List (Part Sort)} {p q r : List Mark} (s : Spelled) (m : Mark)
    → Goes k n f (token a ∷ x) p q → q ≡ m ∷ r → kind_of m.symbol ≡ a → level edison x n ≤ 64 → StandsAsMark s m → Goes k n (λ es. f (mark s ∷ es)) x p r
over_open {n = n} {a = a} {x = x} {q = q} {r = r} s m go e is small st = record {
  at = λ y w t l h. go.at y w t l (takes a m q r (x ++ y) w t e is
      (λ o. subst (λ d. d ≤ 64) (ap (level edison x) (sym l) ∙ sym (level_both edison x y 0)) small) h);
  reads = λ es h. go.reads (mark s ∷ es) (in_front s m q r es e st h);
}

-- the end of a level
pub over_end : {k : Sort} {n : ℕ} {f : List Element → List Element} {x : List (Part Sort)} {p q : List Mark} → Goes k n f (item.level_end ∷ x) p q
    → Goes k n (λ es. f (level_end ∷ es)) x p q
over_end {x = x} {q = q} go = record { at = λ y w t l h. go.at y w t l (closed (x ++ y) (to_end q) t w h); reads = λ es h. go.reads (level_end ∷ es) h }

pub over_part : {k j : Sort} {n m : ℕ} {f h : List Element → List Element} {x : List (Part Sort)} {p q r : List Mark} → Goes k n f (part j ∷ x) p q
    → Passes j m h q r → level edison x n ≡ m → Goes k n (λ es. f (h es)) x p r
over_part {h = h} {x = x} go pass same = record {
  at = λ y w t l s. go.at y w t l (pass.at (x ++ y) w t (level_both edison x y 0 ∙ ap (level edison x) l ∙ same) s);
  reads = λ es s. go.reads (h es) (pass.reads es s);
}

-- the part takes this rule here
pub into : {k j : Sort} {n : ℕ} {f : List Element → List Element} {x : List (Part Sort)} {p q : List Mark} (rule : List (Part Sort))
    → Goes k n f (part j ∷ x) p q → rule_at edison j (front q) ≡ Some rule → Goes k n f (rule ++ x) p q
into {j = j} {x = x} {q = q} rule go e = record {
  at = λ y w t l h. go.at y w t l (takes_rule j rule (x ++ y) q w t e (subst (λ l. Stops edison 64 l (to_end q) w t) (append_assoc rule x y) h));
  reads = go.reads;
}

-- the same elements, written otherwise
pub written : {k : Sort} {n : ℕ} {f h : List Element → List Element} {x : List (Part Sort)} {p q : List Mark} → Goes k n f x p q
    → ((es : List Element) → f es ≡ h es) → Goes k n h x p q
written {p = p} go e = record { at = go.at; reads = λ es s. subst (λ l. StandAsMarks (marks_among l) p) (e es) (go.reads es s) }

pub lacks : {k : Sort} {n a : ℕ} {f : List Element → List Element} {x : List (Part Sort)} {p q : List Mark} {e : Stop} → Goes k n f (token a ∷ x) p q
    → Lacks a q e → HaltsAt k n p e
lacks {a = a} {x = x} {q = q} {e = stop.Fault rest} go h =
    record {
      at = λ y l. go.at y wrong (to_end rest.now) l
          (subst (λ r. Stops edison 64 (token a ∷ (x ++ y)) (to_end q) wrong (to_end r)) (sym h.at.0) (refuses a q (x ++ y) h.at.1));
    }
lacks {e = stop.TooDeep rest} go h = absurd h.at
lacks {e = stop.NoMemory} go h = record { at = tt }

pub refused : {k : Sort} {n m a : ℕ} {f : List Element → List Element} {x : List (Part Sort)} {p q : List Mark} {e : Stop} → Goes k n f (token a ∷ x) p q
    → opens a ≡ true → level edison x n ≡ suc m → Refuses a m q e → HaltsAt k n p e
refused {a = a} {x = x} {q = q} {e = stop.Fault rest} go o l h =
    record {
      at = λ y b. go.at y wrong (to_end rest.now) b
          (subst (λ r. Stops edison 64 (token a ∷ (x ++ y)) (to_end q) wrong (to_end r)) (sym h.at.0) (refuses a q (x ++ y) h.at.1));
    }
refused {n = n} {m = m} {a = a} {x = x} {q = q} {e = stop.TooDeep rest} go o l h = record {
  at = λ y b. go.at y too_deep (to_end rest.now) b
      (subst (λ r. Stops edison 64 (token a ∷ (x ++ y)) (to_end q) too_deep (to_end r)) (sym h.at.0)
      (exceeds a q (x ++ y) h.at.1 o (omega (arith, level_both edison x y 0 ∙ ap (level edison x) b ∙ l, h.at.2))));
}
refused {e = stop.NoMemory} go o l h = record { at = tt }

pub halts : {k j : Sort} {n m : ℕ} {f : List Element → List Element} {x : List (Part Sort)} {p q : List Mark} {e : Stop} → Goes k n f (part j ∷ x) p q
    → level edison x n ≡ m → HaltsAt j m q e → HaltsAt k n p e
halts {x = x} {e = stop.Fault rest} go same h =
    record { at = λ y l. go.at y wrong (to_end rest.now) l (h.at (x ++ y) (level_both edison x y 0 ∙ ap (level edison x) l ∙ same)) }
halts {x = x} {e = stop.TooDeep rest} go same h =
    record { at = λ y l. go.at y too_deep (to_end rest.now) l (h.at (x ++ y) (level_both edison x y 0 ∙ ap (level edison x) l ∙ same)) }
halts {e = stop.NoMemory} go same h = record { at = tt }

-- at the exit by a `?`
pub at_exit : {T : Type 0} {k : Sort} {n : ℕ} {p : List Mark} {e : Stop} (r : Result T Stop) → IsErrAnd r (λ y. y ≡ e) → HaltsAt k n p e
    → IfErr r (λ e. HaltsAt k n p e)
at_exit (Ok x) h halted = absurd h
at_exit {k = k} {n = n} {p = p} (Err y) h halted = subst (λ e. HaltsAt k n p e) (sym h) halted

-- where the part here is another one
pub alone_passes : {k : Sort} {n : ℕ} {f h : List Element → List Element} {p q : List Mark} (j : Sort) → rule_at edison k (front p) ≡ Some (part j ∷ [])
    → Passes j n f p q → ((es : List Element) → f es ≡ h es) → Passes k n h p q
alone_passes {k = k} {n = n} {p = p} j rule passes e = written (over_part (into (part j ∷ []) (waits k n p) rule) passes refl) e

pub alone_halts : {k : Sort} {n : ℕ} {p : List Mark} {e : Stop} (j : Sort) → rule_at edison k (front p) ≡ Some (part j ∷ []) → HaltsAt j n p e
    → HaltsAt k n p e
alone_halts {k = k} {n = n} {p = p} j rule halted = halts (into (part j ∷ []) (waits k n p) rule) refl halted

pub no_memory : (k : Sort) (n : ℕ) (p : List Mark) → HaltsAt k n p stop.NoMemory
no_memory k n p = record { at = tt }
