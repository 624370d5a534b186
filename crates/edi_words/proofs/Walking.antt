-- What `clap`'s walk over words that are operands and options with their values comes to, word by word.
use Rattle.std.proofs.Common.{◌≡◌, ◌∙◌, Bool, true, false, cond, not, ◌&&◌, refl, sym, ap, List}
use Rattle.std.proofs.Common.{[], ◌∷◌, ◌++◌, append-nil, append_assoc, Option, Some, None, unwrap_or, codes, true≢false}
use Rattle.std.specs.List.{find}
use Rattle.std.specs.Prelude.{◌==◌, fold, option_map, if◌then◌else◌}
use Rattle.std.specs.Str.{bytes_eq}
use Rattle.std.proofs.lemmas.Slice.Eq.{bytes_eq-Decides}
use Rattle.clap.specs.Walk.{Row, Rule, Text, Walk, Held, walked, idle, positional, Waiting, settled_rows, all_of}
use Rattle.clap.specs.Walk.{with_values, more_values, option as walk_option}
use Rattle.clap.specs.Simple.{Shape, built, is_simple}
use Rattle.clap.specs.Takes.{walk_passes, turn_passes, settle_passes}
use Rattle.clap.specs.declared.parser.matches.ValueSource.TheVariants.{CommandLine}
use Rattle.clap.specs.declared.builder.value_parser.Reading.{Reading}
use Rattle.clap.proofs.OnLiterals.{clap_on_literals}
use Rattle.edi_words.specs.Inside.{app}
use Rattle.edi_words.specs.Words.{Part, operand, option, is_plain, operands_of}
use Rattle.edi_words.specs.Words.{values_of}

-- ---- the command as it is made

abbrev pub shape : Shape
shape = (built app).top

abbrev pub rules : List Rule
rules = shape.rules

pub is_simple_app : is_simple app ≡ true
is_simple_app = refl

-- ---- the arguments

pub data Name : Type 0 where
  turns : Name
  choices : Name
  seed : Name
  record_ : Name
  from : Name
  states : Name
  shown : Name
  timeline : Name
  dump : Name

pub data Id : Type 0 where
  words : Id
  of : Name → Id

abbrev pub bare_name : Name → Text
bare_name turns = codes "turns"
bare_name choices = codes "choices"
bare_name seed = codes "seed"
bare_name record_ = codes "record"
bare_name from = codes "from"
bare_name states = codes "states"
bare_name shown = codes "shown"
bare_name timeline = codes "timeline"
bare_name dump = codes "dump"

abbrev pub name_of : Name → Text
name_of name = 45 ∷ 45 ∷ bare_name name

abbrev pub text_of : Id → Text
text_of words = codes "words"
text_of (of name) = bare_name name

-- the values that the parts have for an argument
abbrev pub given_for : Id → List Part → List Text
given_for words parts = operands_of parts
given_for (of name) parts = values_of (name_of name) parts

-- ---- the values in rows

abbrev pub vals : Text → List Row → List Text
vals id [] = []
vals id (r ∷ rs) = cond (bytes_eq r.id id) r.values (vals id rs)

pub vals_are : (id : Text) (rows : List Row) → unwrap_or (all_of id rows) [] ≡ vals id rows
vals_are id [] = refl
vals_are id (r ∷ rs) = go (bytes_eq r.id id) (vals_are id rs)
  where
    go : (b : Bool) → unwrap_or (all_of id rs) [] ≡ vals id rs
        → unwrap_or (option_map (λ (x : Row). x.values) (cond b (Some r) (find (λ (x : Row). bytes_eq x.id id) rs))) []
        ≡ cond b r.values (vals id rs)
    go true e = refl
    go false e = e

pick : (a b : Bool) (x y vs : List Text) → a ≡ b → cond a (x ++ vs) y ≡ cond a x y ++ cond b vs []
pick true true x y vs e = refl
pick true false x y vs e = absurd (true≢false e)
pick false true x y vs e = absurd (true≢false (sym e))
pick false false x y vs e = sym (append-nil y)

pub pass : (a b : Bool) (x y z vs : List Text) → (a ≡ true → b ≡ true → ⊥) → z ≡ y ++ cond b vs [] → cond a x z ≡ cond a x y ++ cond b vs []
pass true true x y z vs never e = absurd (never refl refl)
pass true false x y z vs never e = sym (append-nil x)
pass false b x y z vs never e = e

-- a use of an argument adds its values to those of that argument alone
with_gives : (k i : Text) (how : Reading) (vs : List Text) (rows : List Row)
    → vals k (with_values i how CommandLine vs rows) ≡ vals k rows ++ cond (bytes_eq i k) vs []
with_gives k i how vs [] = refl
with_gives k i how vs (r ∷ rs) = go (bytes_eq r.id i) (bytes_eq-Decides r.id i).0 (bytes_eq-Decides r.id i).1 (with_gives k i how vs rs)
  where
    go : (same : Bool) → (same ≡ true → r.id ≡ i) → (r.id ≡ i → same ≡ true)
        → vals k (with_values i how CommandLine vs rs) ≡ vals k rs ++ cond (bytes_eq i k) vs []
        → vals k (cond same (more_values CommandLine vs r ++ rs) (r ∷ with_values i how CommandLine vs rs))
        ≡ cond (bytes_eq r.id k) r.values (vals k rs) ++ cond (bytes_eq i k) vs []
    go true are unless e = pick (bytes_eq r.id k) (bytes_eq i k) r.values (vals k rs) vs (ap (λ x. bytes_eq x k) (are refl))
    go false are unless e = pass (bytes_eq r.id k) (bytes_eq i k) r.values (vals k rs) _ vs
        (λ a b. true≢false (sym (unless ((bytes_eq-Decides r.id k).0 a ∙ sym ((bytes_eq-Decides i k).0 b))))) e

-- ---- where the walk stands between two parts

abbrev pub Pending : Type 0
Pending = Option (Id × Text)

abbrev pub pending_of : Pending → Option (Text × List Text)
pending_of None = None
pending_of (Some p) = Some (text_of p.0, p.1 ∷ [])

abbrev is_words : Id → Bool
is_words words = true
is_words (of name) = false

abbrev ends_in_word : Pending → Bool
ends_in_word None = false
ends_in_word (Some p) = is_words p.0

abbrev pub held_at : List Row → Option (Text × List Text) → Held
held_at rows pending = record { rows = rows; pending = pending; skip = 0 }

abbrev waits : Bool → Waiting
waits true = positional
waits false = idle

abbrev stands : List Row → Option (Text × List Text) → Bool → Walk
stands rows pending word = record { held = held_at rows pending; waiting = waits word; position = 1; is_trailing = false; stopped = None }

abbrev pub at : List Row → Pending → Walk
at rows p = stands rows (pending_of p) (ends_in_word p)

abbrev pub settle : Pending → List Row → List Row
settle p rows = settled_rows rules (pending_of p) rows

-- what is pending passes
pub settle_passes_at : (rows : List Row) (p : Pending) → settle_passes rules shape.args_override_self (held_at rows (pending_of p)) ≡ true
settle_passes_at rows None = refl
settle_passes_at rows (Some (words, v)) = refl
settle_passes_at rows (Some (of turns, v)) = refl
settle_passes_at rows (Some (of choices, v)) = refl
settle_passes_at rows (Some (of seed, v)) = refl
settle_passes_at rows (Some (of record_, v)) = refl
settle_passes_at rows (Some (of from, v)) = refl
settle_passes_at rows (Some (of states, v)) = refl
settle_passes_at rows (Some (of shown, v)) = refl
settle_passes_at rows (Some (of timeline, v)) = refl
settle_passes_at rows (Some (of dump, v)) = refl

abbrev added : Id → Pending → List Text
added k None = []
added k (Some p) = cond (bytes_eq (text_of p.0) (text_of k)) (p.1 ∷ []) []

settle_gives : (k : Id) (p : Pending) (rows : List Row) → vals (text_of k) (settle p rows) ≡ vals (text_of k) rows ++ added k p
settle_gives k None rows = sym (append-nil _)
settle_gives k (Some (words, v)) rows = with_gives (text_of k) (text_of words) _ (v ∷ []) rows
settle_gives k (Some (of turns, v)) rows = with_gives (text_of k) (text_of (of turns)) _ (v ∷ []) rows
settle_gives k (Some (of choices, v)) rows = with_gives (text_of k) (text_of (of choices)) _ (v ∷ []) rows
settle_gives k (Some (of seed, v)) rows = with_gives (text_of k) (text_of (of seed)) _ (v ∷ []) rows
settle_gives k (Some (of record_, v)) rows = with_gives (text_of k) (text_of (of record_)) _ (v ∷ []) rows
settle_gives k (Some (of from, v)) rows = with_gives (text_of k) (text_of (of from)) _ (v ∷ []) rows
settle_gives k (Some (of states, v)) rows = with_gives (text_of k) (text_of (of states)) _ (v ∷ []) rows
settle_gives k (Some (of shown, v)) rows = with_gives (text_of k) (text_of (of shown)) _ (v ∷ []) rows
settle_gives k (Some (of timeline, v)) rows = with_gives (text_of k) (text_of (of timeline)) _ (v ∷ []) rows
settle_gives k (Some (of dump, v)) rows = with_gives (text_of k) (text_of (of dump)) _ (v ∷ []) rows

-- ---- one word of the walk

never_both : (b : Bool) → (b && false) ≡ false
never_both true = refl
never_both false = refl

not_true : (b : Bool) → not b ≡ true → b ≡ false
not_true true e = absurd (true≢false (sym e))
not_true false e = refl

-- a word that is plain becomes the value that is pending of the words
word_step : (w : Text) → is_plain w ≡ true → (rows : List Row) (p : Option (Text × List Text)) (word : Bool)
    → walked rules [] (stands rows p word) w ≡ stands (settled_rows rules p rows) (Some (codes "words", w ∷ [])) true
unfolding clap_on_literals
word_step [] e rows p word = absurd (true≢false (sym e))
word_step (b ∷ more) e rows p true = let f = not_true (b == 45) e in rw (f, f, never_both) refl
word_step (b ∷ more) e rows p false = let f = not_true (b == 45) e in rw (f, f, never_both) refl

word_passes : (w : Text) → is_plain w ≡ true → (rows : List Row) (p : Option (Text × List Text)) (word : Bool)
    → settle_passes rules shape.args_override_self (held_at rows p) ≡ true → turn_passes shape [] (stands rows p word) w ≡ true
unfolding clap_on_literals
word_passes [] e rows p word s = absurd (true≢false (sym e))
word_passes (b ∷ more) e rows p true s = let f = not_true (b == 45) e in rw (f, f, never_both, s) refl
word_passes (b ∷ more) e rows p false s = let f = not_true (b == 45) e in rw (f, f, never_both, s) refl

-- ---- an option name, and then its value

-- the walk behind the name of an option
abbrev opened : Name → List Row → Walk
opened name rows = record {
  held = held_at rows (Some (bare_name name, []));
  waiting = walk_option (bare_name name);
  position = 1;
  is_trailing = false;
  stopped = None;
}

name_step : (name : Name) (rows : List Row) (p : Option (Text × List Text)) (word : Bool)
    → walked rules [] (stands rows p word) (name_of name) ≡ opened name (settled_rows rules p rows)
unfolding clap_on_literals
name_step turns rows p true = refl
name_step turns rows p false = refl
name_step choices rows p true = refl
name_step choices rows p false = refl
name_step seed rows p true = refl
name_step seed rows p false = refl
name_step record_ rows p true = refl
name_step record_ rows p false = refl
name_step from rows p true = refl
name_step from rows p false = refl
name_step states rows p true = refl
name_step states rows p false = refl
name_step shown rows p true = refl
name_step shown rows p false = refl
name_step timeline rows p true = refl
name_step dump rows p true = refl
name_step timeline rows p false = refl
name_step dump rows p false = refl

name_passes : (name : Name) (rows : List Row) (p : Option (Text × List Text)) (word : Bool)
    → settle_passes rules shape.args_override_self (held_at rows p) ≡ true → turn_passes shape [] (stands rows p word) (name_of name) ≡ true
unfolding clap_on_literals
name_passes turns rows p true s = rw s refl
name_passes turns rows p false s = rw s refl
name_passes choices rows p true s = rw s refl
name_passes choices rows p false s = rw s refl
name_passes seed rows p true s = rw s refl
name_passes seed rows p false s = rw s refl
name_passes record_ rows p true s = rw s refl
name_passes record_ rows p false s = rw s refl
name_passes from rows p true s = rw s refl
name_passes from rows p false s = rw s refl
name_passes states rows p true s = rw s refl
name_passes states rows p false s = rw s refl
name_passes shown rows p true s = rw s refl
name_passes shown rows p false s = rw s refl
name_passes timeline rows p true s = rw s refl
name_passes dump rows p true s = rw s refl
name_passes timeline rows p false s = rw s refl
name_passes dump rows p false s = rw s refl

value_walked : (name : Name) (v : Text) → is_plain v ≡ true → (rows : List Row)
    → (walked rules [] (opened name rows) v ≡ stands rows (Some (bare_name name, v ∷ [])) false) × (turn_passes shape [] (opened name rows) v ≡ true)
unfolding clap_on_literals
value_walked name [] e rows = absurd (true≢false (sym e))
value_walked turns (b ∷ more) e rows = let f = not_true (b == 45) e in (rw (f, f) refl, rw (f, f) refl)
value_walked name (b ∷ more) e rows = let f = not_true (b == 45) e in (rw (f, f) refl, rw (f, f) refl)

-- ---- the whole walk

-- the walk over words that are these parts
pub record Walks (ws : List Text) (parts : List Part) (rows : List Row) (p : Pending) : Type 0 where
  pub after : List Row
  pub last : Pending
  pub walk_is : fold (walked rules []) (at rows p) ws ≡ at after last
  pub passes : walk_passes shape [] (at rows p) ws ≡ true
  pub gives : (k : Id) → vals (text_of k) (settle last after) ≡ vals (text_of k) (settle p rows) ++ given_for k parts

of_word : (k : Id) (w : Text) (parts : List Part) → added k (Some (words, w)) ++ given_for k parts ≡ given_for k (operand w ∷ parts)
of_word words w parts = refl
of_word (of turns) w parts = refl
of_word (of choices) w parts = refl
of_word (of seed) w parts = refl
of_word (of record_) w parts = refl
of_word (of from) w parts = refl
of_word (of states) w parts = refl
of_word (of shown) w parts = refl
of_word (of timeline) w parts = refl
of_word (of dump) w parts = refl

joins : (k : Id) (p : Pending) (rows : List Row) (rest : List Text)
    → vals (text_of k) (settle p rows) ++ rest ≡ vals (text_of k) rows ++ (added k p ++ rest)
joins k p rows rest = ap (λ xs. xs ++ rest) (settle_gives k p rows) ∙ append_assoc (vals (text_of k) rows) (added k p) rest

none_given : (k : Id) → [] ≡ given_for k []
none_given words = refl
none_given (of name) = refl

pub no_words : (rows : List Row) (p : Pending) → Walks [] [] rows p
unfolding walk_passes
no_words rows p = record {
  after = rows;
  last = p;
  walk_is = refl;
  passes = refl;
  gives = λ k. sym (append-nil _) ∙ ap (λ xs. vals (text_of k) (settle p rows) ++ xs) (none_given k);
}

pub and_true : (a b : Bool) → a ≡ true → b ≡ true → (a && b) ≡ true
and_true true true e f = refl
and_true true false e f = f
and_true false b e f = e

pub after_word : (w : Text) (ws : List Text) (parts : List Part) (rows : List Row) (p : Pending) → is_plain w ≡ true
    → Walks ws parts (settle p rows) (Some (words, w)) → Walks (w ∷ ws) (operand w ∷ parts) rows p
unfolding walk_passes
after_word w ws parts rows p plain rest =
    let step = word_step w plain rows (pending_of p) (ends_in_word p) in record {
      after = rest.after;
      last = rest.last;
      walk_is = ap (λ x. fold (walked rules []) x ws) step ∙ rest.walk_is;
      passes = and_true _ _ (word_passes w plain rows (pending_of p) (ends_in_word p) (settle_passes_at rows p))
          (ap (λ x. walk_passes shape [] x ws) step ∙ rest.passes);
      gives = λ k. rest.gives k ∙ joins k (Some (words, w)) (settle p rows) (given_for k parts)
          ∙ ap (λ xs. vals (text_of k) (settle p rows) ++ xs) (of_word k w parts);
    }

joined : (b : Bool) (v : Text) (rest : List Text) → cond b (v ∷ []) [] ++ rest ≡ (if b then v ∷ rest else rest)
joined true v rest = refl
joined false v rest = refl

of_option : (k : Id) (name : Name) (v : Text) (parts : List Part)
    → added k (Some (of name, v)) ++ given_for k parts ≡ given_for k (option (name_of name) v ∷ parts)
of_option words turns v parts = refl
of_option words choices v parts = refl
of_option words seed v parts = refl
of_option words record_ v parts = refl
of_option words from v parts = refl
of_option words states v parts = refl
of_option words shown v parts = refl
of_option words timeline v parts = refl
of_option words dump v parts = refl
of_option (of wanted) name v parts = joined (bytes_eq (bare_name name) (bare_name wanted)) v (values_of (name_of wanted) parts)

pub after_option : (name : Name) (v : Text) (ws : List Text) (parts : List Part) (rows : List Row) (p : Pending) → is_plain v ≡ true
    → Walks ws parts (settle p rows) (Some (of name, v)) → Walks (name_of name ∷ v ∷ ws) (option (name_of name) v ∷ parts) rows p
unfolding walk_passes
after_option name v ws parts rows p plain rest =
    let first = name_step name rows (pending_of p) (ends_in_word p) in
    let second = value_walked name v plain (settle p rows) in
    let step = ap (λ x. walked rules [] x v) first ∙ second.0 in record {
      after = rest.after;
      last = rest.last;
      walk_is = ap (λ x. fold (walked rules []) x ws) step ∙ rest.walk_is;
      passes = and_true _ _ (name_passes name rows (pending_of p) (ends_in_word p) (settle_passes_at rows p))
          (and_true _ _ (ap (λ x. turn_passes shape [] x v) first ∙ second.1)
          (ap (λ x. walk_passes shape [] x ws) step ∙ rest.passes));
      gives = λ k. rest.gives k ∙ joins k (Some (of name, v)) (settle p rows) (given_for k parts)
          ∙ ap (λ xs. vals (text_of k) (settle p rows) ++ xs) (of_option k name v parts);
    }
