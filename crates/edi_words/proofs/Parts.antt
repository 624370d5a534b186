-- What `clap` makes of words that are operands and options with their values: the matches of the one simple command are just
-- these parts, in their order.
use Rattle.std.proofs.Common.{◌≡◌, ◌∙◌, ◌⊎◌, inl, inr, Bool, true, false, cond, ◌&&◌, ◌||◌, refl, sym, ap, subst, List}
use Rattle.std.proofs.Common.{[], ◌∷◌, Option, Some, None, unwrap_or, true≢false}
use Rattle.std.specs.Prelude.{is_some, option_and_then, if◌then◌else◌}
use Rattle.std.specs.List.{list_all}
use Rattle.std.specs.Str.{bytes_eq}
use Rattle.std.proofs.lemmas.Slice.Eq.{bytes_eq-Decides}
use Rattle.clap.specs.Walk.{Row, Text, Walk, all_of}
use Rattle.clap.specs.Walk.{finished}
use Rattle.clap.specs.Simple.{built, matches_of, entered}
use Rattle.clap.specs.Takes.{takes, walk_passes, settle_passes, entered_passes, default_passes, is_valid}
use Rattle.clap.proofs.WalkLemmas.{both}
use Rattle.edi_words.specs.Inside.{app, given_in}
use Rattle.edi_words.specs.Words.{Part, operand, option, is_plain, is_option_name, before_parts, parts_of}
use Rattle.edi_words.specs.Words.{given_of, command_in, command_of}
use Rattle.edi_words.proofs.Walking.{shape, rules, Name, turns, choices, seed, record_, from, states, shown, timeline, dump, Id, words, of}
use Rattle.edi_words.proofs.Walking.{name_of, text_of, given_for, vals, vals_are, Pending, pending_of, held_at, at, settle, settle_passes_at, Walks, no_words, and_true, after_word, after_option}

-- ---- the words of the rule

or_cases : (a b : Bool) → (a || b) ≡ true → (a ≡ true) ⊎ (b ≡ true)
or_cases true b e = inl refl
or_cases false b e = inr e

name_found : (word : Text) → is_option_name word ≡ true → (name : Name) × (word ≡ name_of name)
name_found word e = elim (or_cases _ _ e) [
  | inl h ↦ (turns, (bytes_eq-Decides word _).0 h)
  | inr more ↦ elim (or_cases _ _ more) [
    | inl h ↦ (choices, (bytes_eq-Decides word _).0 h)
    | inr more ↦ elim (or_cases _ _ more) [
      | inl h ↦ (seed, (bytes_eq-Decides word _).0 h)
      | inr more ↦ elim (or_cases _ _ more) [
        | inl h ↦ (record_, (bytes_eq-Decides word _).0 h)
        | inr more ↦ elim (or_cases _ _ more) [
          | inl h ↦ (from, (bytes_eq-Decides word _).0 h)
          | inr more ↦ elim (or_cases _ _ more) [
            | inl h ↦ (states, (bytes_eq-Decides word _).0 h)
            | inr more ↦ elim (or_cases _ _ more) [
              | inl h ↦ (shown, (bytes_eq-Decides word _).0 h)
              | inr more ↦ elim (or_cases _ _ more) [
                | inl h ↦ (timeline, (bytes_eq-Decides word _).0 h)
                | inr more ↦ elim (or_cases _ _ more) [
                  | inl h ↦ (dump, (bytes_eq-Decides word _).0 h)
                  | inr h ↦ absurd (true≢false (sym h))
                ]
              ]
            ]
          ]
        ]
      ]
    ]
  ]
]

-- what begins with a part is that part and the rest
record Splits (part : Part) (rest : Option (List Part)) (parts : List Part) : Type 0 where
  more : List Part
  rest_is : rest ≡ Some more
  is : parts ≡ part ∷ more

splits : (part : Part) (rest : Option (List Part)) (parts : List Part) → before_parts part rest ≡ Some parts → Splits part rest parts
splits part None parts e = absurd (cc)
splits part (Some more) parts e = record { more = more; rest_is = refl; is = ap (λ o. unwrap_or o []) (sym e) }

-- so the walk over all words is
abbrev WalksAll : List Text → Type 0
WalksAll ws = (parts : List Part) → parts_of ws ≡ Some parts → (rows : List Row) (p : Pending) → Walks ws parts rows p

one_word : (w : Text) (plain : Bool) → is_plain w ≡ plain → (parts : List Part) → (if plain then Some (operand w ∷ []) else None) ≡ Some parts
    → (rows : List Row) (p : Pending) → Walks (w ∷ []) parts rows p
one_word w true plain parts e rows p =
    subst (λ x. Walks (w ∷ []) x rows p) (ap (λ o. unwrap_or o []) e) (after_word w [] [] rows p plain (no_words (settle p rows) (Some (words, w))))
one_word w false plain parts e rows p = absurd (cc)

of_name : (w v : Text) (ws : List Text) → (name : Name) × (w ≡ name_of name) → is_plain v ≡ true → WalksAll ws → (parts : List Part)
    → before_parts (option w v) (parts_of ws) ≡ Some parts → (rows : List Row) (p : Pending) → Walks (w ∷ v ∷ ws) parts rows p
of_name w v ws found plain rest parts e rows p =
    let s = splits (option w v) (parts_of ws) parts e in
    let name = found.0 in
    let known = after_option name v ws s.more rows p plain (rest s.more s.rest_is (settle p rows) (Some (of name, v))) in
    let back = subst (λ x. Walks (x ∷ v ∷ ws) (option x v ∷ s.more) rows p) (sym found.1) known in
    subst (λ x. Walks (w ∷ v ∷ ws) x rows p) (sym s.is) back

an_option : (w v : Text) (ws : List Text) (named : Bool) → (is_option_name w && is_plain v) ≡ named → WalksAll ws → (parts : List Part)
    → (if named then before_parts (option w v) (parts_of ws) else None) ≡ Some parts → (rows : List Row) (p : Pending) → Walks (w ∷ v ∷ ws) parts rows p
an_option w v ws true e rest parts is rows p =
    let facts = both (is_option_name w) (is_plain v) e in of_name w v ws (name_found w facts.0) facts.1 rest parts is rows p
an_option w v ws false e rest parts is rows p = absurd (cc)

more_words : (w v : Text) (ws : List Text) (plain : Bool) → is_plain w ≡ plain → WalksAll (v ∷ ws) → WalksAll ws → (parts : List Part)
    → (if plain then before_parts (operand w) (parts_of (v ∷ ws))
    else (if is_option_name w && is_plain v then before_parts (option w v) (parts_of ws) else None)) ≡ Some parts
    → (rows : List Row) (p : Pending) → Walks (w ∷ v ∷ ws) parts rows p
more_words w v ws true plain next rest parts e rows p =
    let s = splits (operand w) (parts_of (v ∷ ws)) parts e in
    let known = after_word w (v ∷ ws) s.more rows p plain (next s.more s.rest_is (settle p rows) (Some (words, w))) in
    subst (λ x. Walks (w ∷ v ∷ ws) x rows p) (sym s.is) known
more_words w v ws false plain next rest parts e rows p = an_option w v ws (is_option_name w && is_plain v) refl rest parts e rows p

walks : (ws : List Text) → WalksAll ws
walks [] parts e rows p = subst (λ x. Walks [] x rows p) (ap (λ o. unwrap_or o []) e) (no_words rows p)
walks (w ∷ []) parts e rows p = one_word w (is_plain w) refl parts e rows p
walks (w ∷ v ∷ ws) parts e rows p = more_words w v ws (is_plain w) refl (walks (v ∷ ws)) (walks ws) parts e rows p

-- ---- the matches

same_rows : (b : Bool) (rows : List Row) → cond b rows rows ≡ rows
same_rows true rows = refl
same_rows false rows = refl

finished_is : (rows : List Row) (p : Pending) → finished rules (held_at rows (pending_of p)) ≡ settle p rows
finished_is rows p = simp same_rows refl

-- ALL IS TAKEN: words that are parts are taken, and each argument has the values that the parts have for it
takes_parts : (ws : List Text) (parts : List Part) → parts_of ws ≡ Some parts → takes app ws ≡ true
takes_parts ws parts e =
    let w = walks ws parts e [] None in
    ap (λ x. entered_passes (built app) x.stopped && level x) w.walk_is
    ∙ and_true _ _ w.passes (and_true _ _ (settle_passes_at w.after w.last) refl)
  where
    level : Walk → Bool
    level x = walk_passes shape [] (at [] None) ws && (settle_passes rules shape.args_override_self x.held
        && (list_all default_passes rules && is_valid shape (finished rules x.held) (is_some (entered (built app) x.stopped))))

matches_parts : (ws : List Text) (parts : List Part) → parts_of ws ≡ Some parts → (k : Id)
    → unwrap_or (all_of (text_of k) (matches_of app ws)) [] ≡ given_for k parts
matches_parts ws parts e k =
    let w = walks ws parts e [] None in
    vals_are (text_of k) (matches_of app ws)
    ∙ ap (λ x. vals (text_of k) (finished rules x.held)) w.walk_is
    ∙ ap (vals (text_of k)) (finished_is w.after w.last)
    ∙ w.gives k

some_parts : (o : Option (List Part)) → is_some o ≡ true → (parts : List Part) × (o ≡ Some parts)
some_parts None e = absurd (cc)
some_parts (Some parts) e = (parts, refl)

-- words that pass the test are taken
pub takes_words : (ws : List Text) → is_some (parts_of ws) ≡ true → takes app ws ≡ true
takes_words ws e = let s = some_parts (parts_of ws) e in takes_parts ws s.0 s.1

given_is : (ws : List Text) (parts : List Part) → parts_of ws ≡ Some parts → given_in (matches_of app ws) ≡ given_of parts
given_is ws parts e = λ i. record {
  operands = matches_parts ws parts e words i;
  turns = matches_parts ws parts e (of turns) i;
  choices = matches_parts ws parts e (of choices) i;
  seeds = matches_parts ws parts e (of seed) i;
  record_files = matches_parts ws parts e (of record_) i;
  old_disks = matches_parts ws parts e (of from) i;
  states = matches_parts ws parts e (of states) i;
  shown = matches_parts ws parts e (of shown) i;
  timelines = matches_parts ws parts e (of timeline) i;
  dumps = matches_parts ws parts e (of dump) i;
}

-- and the command in their matches is that of the words
pub command_is : (ws : List Text) → is_some (parts_of ws) ≡ true → command_in (given_in (matches_of app ws)) ≡ command_of ws
command_is ws e =
    let s = some_parts (parts_of ws) e in
    ap command_in (given_is ws s.0 s.1) ∙ sym (ap (option_and_then (λ parts. command_in (given_of parts))) s.1)

-- words that do not pass it are no command
pub no_command : (ws : List Text) → is_some (parts_of ws) ≡ false → None ≡ command_of ws
no_command ws e = go (parts_of ws) e
  where
    go : (o : Option (List Part)) → is_some o ≡ false → None ≡ option_and_then (λ parts. command_in (given_of parts)) o
    go None e = refl
    go (Some parts) e = absurd (cc)
