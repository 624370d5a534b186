-- Steps of a reading, from its end.
use Rattle.std.proofs.Common.{◌≡◌, ℕ, suc, List, [], ◌∷◌, ◌++◌, Option, Some, ap, subst}
use Rattle.edi_lex.specs.declared.symbol.Symbol.{Symbol}
use Rattle.edi_lex.specs.declared.symbol.Mark.{Mark}
use Rattle.edi_tree.specs.Stands.{on, StandsAsMark}
use Rattle.edi_tree.specs.Levels.{Element, level_end, word}
use Rattle.edi_grammar.specs.Grammar as item
use Rattle.edi_grammar.specs.Grammar.{Part, token, part, closing}
use Rattle.edi_grammar.specs.Trees.{join, Built, Reads}
use Rattle.edi_grammar.specs.Kind.{kind_of}
use Rattle.edi_grammar.specs.Rules.{Sort, rules}
use Rattle.edi_grammar.specs.Edison.{edison}
use Rattle.edi_grammar.specs.derivation.Parts.{Tree}
use Rattle.edi_grammar.specs.derivation.Fits.{Items, Fit}
use Rattle.edi_grammar.proofs.derivation.Builds.{Ts, build}

-- these parts may be these items with these trees
pub record Read (x : List (Part Sort)) (items : Items) (ts : Ts x) : Type 0 where
  pub steps : ℕ
  pub reads : Reads edison Tree build steps x items ts

read_token : {a : ℕ} {x : List (Part Sort)} {items rest : Items} {m : Mark} {ts : Ts x} → items ≡ item.mark (Some m) ∷ rest → kind_of m.symbol ≡ a
    → Read x rest ts → Read (token a ∷ x) items (Some m, ts)
read_token {rest = rest} e k r = record { steps = suc r.steps; reads = (rest, e, k, r.reads) }

read_end : {x : List (Part Sort)} {items rest : Items} {ts : Ts x} → items ≡ closing ∷ rest → Read x rest ts → Read (item.level_end ∷ x) items ts
read_end {rest = rest} e r = record { steps = suc r.steps; reads = (rest, e, r.reads) }

by_rule : (k : Sort) (i : ℕ) (rule : List (Part Sort)) (us : Ts rule) {x : List (Part Sort)} {items : Items} {t : Tree k} {ts : Ts x}
    → ((P : (x : List (Part Sort)) → Ts x → Type 0) → P rule us → Built (Option Mark) Tree k (rules k) (build k) i t P)
    → Read (rule ++ x) items (join (Option Mark) Tree rule x us ts) → Read (part k ∷ x) items (t, ts)
by_rule k i rule us {x = x} {items = items} {ts = ts} built r =
    record {
      steps = suc r.steps;
      reads = (
        i,
        built (λ rule us. Reads edison Tree build r.steps (rule ++ x) items (join (Option Mark) Tree rule x us ts))
            r.reads,
      );
    }

-- the items begin with the elements of the tree, and before what reads the rest, the part and the rest are read
pub record Takes (k : Sort) (t : Tree k) (es : List Element) (items : Items) : Type 0 where
  pub rest : Items
  pub fits : Fit es rest
  pub go : {x : List (Part Sort)} {ts : Ts x} → Read x rest ts → Read (part k ∷ x) items (t, ts)

-- the items begin with the elements of these trees, one part after the other, and before what reads the rest, the parts and the rest are read
pub record Along (x : List (Part Sort)) (us : Ts x) (es : List Element) (items : Items) : Type 0 where
  pub rest : Items
  pub fits : Fit es rest
  pub go : {y : List (Part Sort)} {ts : Ts y} → Read y rest ts → Read (x ++ y) items (join (Option Mark) Tree x y us ts)

pub done : {es : List Element} {items : Items} → Fit es items → Along [] tt es items
done {items = items} fits = record { rest = items; fits = fits; go = λ later. later }

pub past : {a : ℕ} {x : List (Part Sort)} {us : Ts x} {es : List Element} {items rest : Items} {m : Mark} → items ≡ item.mark (Some m) ∷ rest
    → kind_of m.symbol ≡ a → Along x us es rest → Along (token a ∷ x) (Some m, us) es items
past e k r = record { rest = r.rest; fits = r.fits; go = λ later. read_token e k (r.go later) }

pub past_end : {x : List (Part Sort)} {us : Ts x} {es : List Element} {items rest : Items} → items ≡ closing ∷ rest → Along x us es rest
    → Along (item.level_end ∷ x) us es items
past_end e r = record { rest = r.rest; fits = r.fits; go = λ later. read_end e (r.go later) }

pub past_part : {j : Sort} {t : Tree j} {x : List (Part Sort)} {us : Ts x} {before es : List Element} {items : Items} (p : Takes j t before items)
    → Along x us es p.rest → Along (part j ∷ x) (t, us) es items
past_part p r = record { rest = r.rest; fits = r.fits; go = λ later. p.go (r.go later) }

-- the part is read by this rule
pub takes : (k : Sort) (i : ℕ) {rule : List (Part Sort)} {us : Ts rule} {es : List Element} {items : Items} {t : Tree k} → Along rule us es items
    → ((P : (x : List (Part Sort)) → Ts x → Type 0) → P rule us → Built (Option Mark) Tree k (rules k) (build k) i t P) → Takes k t es items
takes k i {rule = rule} {us = us} r built = record { rest = r.rest; fits = r.fits; go = λ later. by_rule k i rule us built (r.go later) }

-- by a rule that is one part
pub takes_part : (k : Sort) (i : ℕ) {j : Sort} {u : Tree j} {es : List Element} {items : Items} {t : Tree k} → Takes j u es items
    → ((P : (x : List (Part Sort)) → Ts x → Type 0) → P (part j ∷ []) (u, tt) → Built (Option Mark) Tree k (rules k) (build k) i t P) → Takes k t es items
takes_part k i p built = takes k i (past_part p (done p.fits)) built

-- by a rule that is two parts
pub takes_parts : (k : Sort) (i : ℕ) {j l : Sort} {u : Tree j} {v : Tree l} {before es : List Element} {items : Items} {t : Tree k}
    → Takes j u before items → ((rest : Items) → Fit before rest → Takes l v es rest)
    → ((P : (x : List (Part Sort)) → Ts x → Type 0) → P (part j ∷ part l ∷ []) (u, (v, tt)) → Built (Option Mark) Tree k (rules k) (build k) i t P)
    → Takes k t es items
takes_parts k i p then built = let q = then p.rest p.fits in takes k i (past_part p (past_part q (done q.fits))) built

-- by a rule that is a symbol and two parts
pub takes_behind : (k : Sort) (i : ℕ) {a : ℕ} {j l : Sort} {u : Tree j} {v : Tree l} {before es : List Element} {items mid : Items} {m : Mark}
    {t : Tree k} → items ≡ item.mark (Some m) ∷ mid → kind_of m.symbol ≡ a → Takes j u before mid → ((rest : Items) → Fit before rest → Takes l v es rest)
    → ((P : (x : List (Part Sort)) → Ts x → Type 0) → P (token a ∷ part j ∷ part l ∷ []) (Some m, (u, (v, tt)))
    → Built (Option Mark) Tree k (rules k) (build k) i t P)
    → Takes k t es items
takes_behind k i e is p then built = let q = then p.rest p.fits in takes k i (past e is (past_part p (past_part q (done q.fits)))) built

-- by a rule that is a symbol, two parts and a word, and ends its level
pub takes_within : (k : Sort) (i : ℕ) (w : Symbol) {a : ℕ} {j l : Sort} {u : Tree j} {v : Tree l} {before es : List Element} {items mid : Items} {m : Mark}
    {t : Tree k} → items ≡ item.mark (Some m) ∷ mid → kind_of m.symbol ≡ a → Takes j u before mid
    → ((rest : Items) → Fit before rest → Takes l v (word w ∷ level_end ∷ es) rest)
    → ((c : Option Mark) (P : (x : List (Part Sort)) → Ts x → Type 0)
    → P (token a ∷ part j ∷ part l ∷ token (kind_of w) ∷ item.level_end ∷ []) (Some m, (u, (v, (c, tt))))
    → Built (Option Mark) Tree k (rules k) (build k) i t P)
    → Takes k t es items
takes_within k i w e is p then built = let q = then p.rest p.fits in
    takes k i (past e is (past_part p (past_part q (past q.fits.2 (ap kind_of q.fits.3.0) (past_end q.fits.4.1 (done q.fits.4.2))))))
    (built (Some q.fits.0))

-- by a rule that is one symbol, of which the line is kept
pub takes_kept : (k : Sort) (i : ℕ) {s : Symbol} {line : ℕ} {es : List Element} {items mid : Items} {m : Mark} → items ≡ item.mark (Some m) ∷ mid
    → StandsAsMark (on s line) m → Fit es mid → (tree : ℕ → Tree k)
    → ((P : (x : List (Part Sort)) → Ts x → Type 0) → P (token (kind_of s) ∷ []) (Some m, tt)
    → Built (Option Mark) Tree k (rules k) (build k) i (tree m.line) P)
    → Takes k (tree line) es items
takes_kept k i {es = es} {items = items} e stands fit tree built =
    subst (λ line. Takes k (tree line) es items) stands.1 (takes k i (past e (ap kind_of stands.0) (done fit)) built)
