-- Loops that append the code of a list, or count its words, one item behind another.
use Rattle.std.proofs.Common.{◌≡◌, ℕ, ◌+◌, List, [], ◌∷◌, ◌++◌, drop, refl, sym, ap, subst, ◌∙◌, arith, append_assoc, append-nil}
use Rattle.std.specs.Prelude.{map}
use Rattle.edi_unit.specs.declared.expressions.Argument as code_argument
use Rattle.edi_unit.specs.declared.expressions.Part as code_part
use Rattle.edi_unit.specs.declared.expressions.Value as code_value
use Rattle.edi_unit.specs.declared.expressions.Link as code_link
use Rattle.edi_unit.specs.declared.statements.Act as code_act
use Rattle.edi_unit.specs.Tree.{Expression, Expressions, expression_then}
use Rattle.edi_unit.specs.View.{expressions, expression_of, links, link_of, parts, part_of, arguments, argument_of, acts, act_of}
use Rattle.edi_unit.specs.Need.{operator_type, part_type}
use Rattle.edi_target.specs.Op as instruction
use Rattle.edi_scheme.specs.Pieces.{Code, words_of_code}
use Rattle.edi_code.specs.Scope.{types_in}
use Rattle.edi_code.specs.InScope.{operator_of, expression_length, expressions_length, members_length, link_length, links_length, part_length, parts_length}
use Rattle.edi_code.specs.InScope.{argument_length, arguments_length, act_length, acts_length, expression_code, expressions_code, members_code, link_code}
use Rattle.edi_code.specs.InScope.{links_code, part_code, parts_code, argument_code, arguments_code, act_code, acts_code, ExpressionsAreWritable}
use Rattle.edi_code.specs.InScope.{LinksAreWritable, PartsAreWritable, ArgumentsAreWritable, ActsAreWritable}
use Rattle.edi_code.specs.declared.scope.Scope.{Scope}
use Rattle.edi_code.specs.Emits.{Emits}
use Rattle.edi_code.proofs.Emitting.{rest_behind}
use Rattle.edi_code.proofs.Links.{links_are, links_room, links_writable}

-- What the items of a list need, how many words they have and which code; and what its first item has of both, behind an operand or a
-- variable of type `of` where the code depends on one.
pub record Listing (X : Type 0) : Type 1 where
  pub CanStand : (of : ℕ) → List X → Type 0
  pub long : (of : ℕ) → List X → ℕ
  pub code : (at of : ℕ) → List X → Code
  pub took : (of : ℕ) → X → ℕ
  pub part : (at of : ℕ) → X → Code
  pub next : X → ℕ → ℕ
  pub rest : (x : X) (l : List X) (of : ℕ) → CanStand of (x ∷ l) → CanStand (next x of) l
  pub longer : (x : X) (l : List X) (of : ℕ) → long of (x ∷ l) ≡ took of x + long (next x of) l
  pub coded : (x : X) (l : List X) (at of : ℕ) → code at of (x ∷ l) ≡ part at of x ++ code (at + took of x) (next x of) l

-- what a loop keeps that appends: the items from a place on can be written, and what was appended and their code are all
pub record Left {X : Type 0} (k : Listing X) (old out : List ℕ) (at here first of : ℕ) (items : List X) (i : ℕ) : Type 0 where
  pub writable : k.CanStand of (drop i items)
  pub room : here + k.long of (drop i items) ≡ at + k.long first items
  pub words : out ++ words_of_code (k.code here of (drop i items)) ≡ old ++ words_of_code (k.code at first items)

module _ {X : Type 0} (k : Listing X) where
  -- one item more was appended
  pub item_behind : (old out after : List ℕ) (at here behind first of later : ℕ) (items : List X) (i : ℕ) (x : X) → drop i items ≡ x ∷ drop (i + 1) items
      → Left k old out at here first of items i → later ≡ k.next x of → behind ≡ here + k.took of x → Emits out after (k.part here of x)
      → Left k old after at behind first later items (i + 1)
  item_behind old out after at here behind first of later items i x cut left typed place emits =
      let rest : List X = drop (i + 1) items in
      let room : here + k.long of (x ∷ rest) ≡ at + k.long first items = subst (λ l. here + k.long of l ≡ at + k.long first items) cut left.room in
      let words : out ++ words_of_code (k.code here of (x ∷ rest)) ≡ old ++ words_of_code (k.code at first items) =
      subst (λ l. out ++ words_of_code (k.code here of l) ≡ old ++ words_of_code (k.code at first items)) cut left.words in
      record {
        writable = subst (λ n. k.CanStand n rest) (sym typed) (k.rest x rest of (subst (k.CanStand of) cut left.writable));
        room = omega (arith, room, place, k.longer x rest of, ap (λ n. k.long n rest) typed);
        words = rest_behind out after _ (k.part here of x) (λ a n. k.code a n rest) here (k.took of x) behind (k.next x of) later place typed emits
            (ap (λ c. out ++ words_of_code c) (sym (k.coded x rest here of)) ∙ words);
      }

  -- all items were appended
  pub all_behind : (old out : List ℕ) (at here first of : ℕ) (items : List X) (i : ℕ) → drop i items ≡ [] → k.code here of [] ≡ []
      → Left k old out at here first of items i → Emits old out (k.code at first items)
  all_behind old out at here first of items i none empty left = record {
    appended = sym (append-nil out) ∙ sym (ap (λ c. out ++ words_of_code c) (ap (k.code here of) none ∙ empty)) ∙ left.words;
  }

  -- the words of one item more were counted
  pub item_longer : (first of later : ℕ) (items : List X) (i : ℕ) (x : X) (words took : ℕ) → drop i items ≡ x ∷ drop (i + 1) items
      → words + k.long of (drop i items) ≡ k.long first items → later ≡ k.next x of → took ≡ k.took of x
      → words + took + k.long later (drop (i + 1) items) ≡ k.long first items
  item_longer first of later items i x words took cut all typed same =
      let rest : List X = drop (i + 1) items in
      let sum : words + k.long of (x ∷ rest) ≡ k.long first items = subst (λ l. words + k.long of l ≡ k.long first items) cut all in
      omega (arith, sum, same, k.longer x rest of, ap (λ n. k.long n rest) typed)

-- ---- the lists of constructs

-- lists whose code depends on no such type
abbrev plain : {X Y Z : Type 0} (one : X → Y) (list : List Y → Z) (CanStand : Z → Type 0) (long : Z → ℕ) (code : ℕ → Z → Code) (took : Y → ℕ)
    (part : ℕ → Y → Code) → ((y : Y) (l : List Y) → CanStand (list (y ∷ l)) → CanStand (list l))
    → ((y : Y) (l : List Y) → long (list (y ∷ l)) ≡ took y + long (list l))
    → ((y : Y) (l : List Y) (at : ℕ) → code at (list (y ∷ l)) ≡ part at y ++ code (at + took y) (list l)) → Listing X
plain one list CanStand long code took part rest longer coded = record {
  CanStand = λ of l. CanStand (list (map one l));
  long = λ of l. long (list (map one l));
  code = λ at of l. code at (list (map one l));
  took = λ of x. took (one x);
  part = λ at of x. part at (one x);
  next = λ x of. of;
  rest = λ x l of. rest (one x) (map one l);
  longer = λ x l of. longer (one x) (map one l);
  coded = λ x l at of. coded (one x) (map one l) at;
}

abbrev pub of_values : Scope → Listing code_value.Value
of_values s =
    plain expression_of expressions (ExpressionsAreWritable s) (expressions_length s) (expressions_code s) (expression_length s) (expression_code s)
    (λ e l can. can.1) (λ e l. refl) (λ e l at. refl)

pub members_are : (s : Scope) (at line : ℕ) (e : Expression) (es : Expressions) → members_code s at line (expression_then e es)
    ≡ (expression_code s at e ++ instruction.member line ∷ []) ++ members_code s (at + (expression_length s e + 2)) line es
members_are s at line e es =
    let sum : at + expression_length s e + 2 ≡ at + (expression_length s e + 2) = omega arith in
    ap (λ (k : ℕ). expression_code s at e ++ (instruction.member line ∷ members_code s k line es)) sum
    ∙ sym (append_assoc (expression_code s at e) (instruction.member line ∷ []) (members_code s (at + (expression_length s e + 2)) line es))

abbrev pub of_members : Scope → (line : ℕ) → Listing code_value.Value
of_members s line =
    plain expression_of expressions (ExpressionsAreWritable s) (members_length s) (λ at es. members_code s at line es) (λ e. expression_length s e + 2)
    (λ at e. expression_code s at e ++ instruction.member line ∷ [])
    (λ e l can. can.1) (λ e l. refl) (λ e l at. members_are s at line e (expressions l))

abbrev pub of_links : Scope → Listing code_link.Link
of_links s = record {
  CanStand = λ of l. LinksAreWritable s of (links (map link_of l));
  long = λ of l. links_length s of (links (map link_of l));
  code = λ at of l. links_code s at of (links (map link_of l));
  took = λ of x. link_length s of (link_of x);
  part = λ at of x. link_code s at of (link_of x);
  next = λ x of. operator_type (operator_of (link_of x)) of;
  rest = λ x l of. links_writable s of (link_of x) (links (map link_of l));
  longer = λ x l of. links_room s of (link_of x) (links (map link_of l));
  coded = λ x l at of. links_are s at of (link_of x) (links (map link_of l));
}

abbrev pub of_arguments : Scope → Listing code_argument.Argument
of_arguments s =
    plain argument_of arguments (ArgumentsAreWritable s) (arguments_length s) (arguments_code s) (argument_length s) (argument_code s)
    (λ x l can. can.1) (λ x l. refl) (λ x l at. refl)

abbrev pub of_parts : Scope → Listing code_part.Part
of_parts s = record {
  CanStand = λ of l. PartsAreWritable s (parts (map part_of l));
  long = λ of l. parts_length s of (parts (map part_of l));
  code = λ at of l. parts_code s at of (parts (map part_of l));
  took = λ of x. part_length s of (part_of x);
  part = λ at of x. part_code s at of (part_of x);
  next = λ x of. part_type (types_in s) of (part_of x);
  rest = λ x l of can. can.1;
  longer = λ x l of. refl;
  coded = λ x l at of. refl;
}

abbrev pub of_acts : Scope → Listing code_act.Act
of_acts s =
    plain act_of acts (ActsAreWritable s) (acts_length s) (acts_code s) (act_length s) (act_code s)
    (λ a l can. can.1) (λ a l. refl) (λ a l at. refl)
