-- What is judged behind what has been judged already.
use Rattle.std.proofs.Common.{◌≡◌, List, [], ◌∷◌, ◌++◌, refl, ap, sym, ◌∙◌}
use Rattle.std.specs.Prelude.{ℕ}
use Rattle.edi_unit.specs.Tree.{Link, Links, no_link, link_then, Part, Parts, no_part, part_then, Argument, Arguments, no_argument, argument_then}
use Rattle.edi_unit.specs.View.{links, parts, arguments}
use Rattle.edi_static.specs.Judged.{Judged, gives, faults, ◌>>=◌}
use Rattle.edi_static.specs.Operators.{Chained}
use Rattle.edi_static.specs.Expressions.{Reached}

-- ---- one construct behind another

pub bind_gives : {A : Type 0} (m : Judged A) → (m >>= λ a. gives a) ≡ m
bind_gives (gives a) = refl
bind_gives (faults why line) = refl

pub bind_bind : {A B C : Type 0} (m : Judged A) (f : A → Judged B) (g : B → Judged C) → ((m >>= f) >>= g) ≡ (m >>= λ a. f a >>= g)
bind_bind (gives a) f g = refl
bind_bind (faults why line) f g = refl

pub bind_same : {A B : Type 0} (m : Judged A) (f g : A → Judged B) → ((a : A) → f a ≡ g a) → (m >>= f) ≡ (m >>= g)
bind_same (gives a) f g h = h a
bind_same (faults why line) f g h = refl

-- ---- items in front of a list

abbrev pub onto : {X L : Type 0} → (X → L → L) → List X → L → L
onto put [] end = end
onto put (x ∷ xs) end = put x (onto put xs end)

pub onto_one_more : {X L : Type 0} (put : X → L → L) (xs : List X) (x : X) (end : L) → onto put (xs ++ x ∷ []) end ≡ onto put xs (put x end)
onto_one_more put [] x end = refl
onto_one_more put (y ∷ xs) x end = ap (put y) (onto_one_more put xs x end)

pub links_end : (ls : List Link) → onto link_then ls no_link ≡ links ls
links_end [] = refl
links_end (l ∷ ls) = ap (link_then l) (links_end ls)

pub parts_end : (ps : List Part) → onto part_then ps no_part ≡ parts ps
parts_end [] = refl
parts_end (p ∷ ps) = ap (part_then p) (parts_end ps)

arguments_end : (xs : List Argument) → onto argument_then xs no_argument ≡ arguments xs
arguments_end [] = refl
arguments_end (x ∷ xs) = ap (argument_then x) (arguments_end xs)

-- ---- operators, and parts of variables

-- how a list of items is made, with the type behind its last item, and what is seen of both
pub record Listing (X L R : Type 0) : Type 0 where
  pub put : X → L → L
  pub end : L
  pub all : List X → L
  pub make : L → ℕ → R
  pub list : R → L
  pub of : R → ℕ
  pub listed : (l : L) (n : ℕ) → list (make l n) ≡ l
  pub typed : (l : L) (n : ℕ) → of (make l n) ≡ n
  pub whole : (r : R) → make (list r) (of r) ≡ r
  pub ends : (xs : List X) → onto put xs end ≡ all xs

abbrev listing : {X L R : Type 0} → (put : X → L → L) → (end : L) → (all : List X → L) → (make : L → ℕ → R) → (list : R → L) → (of : R → ℕ) →
    ((l : L) (n : ℕ) → list (make l n) ≡ l) → ((l : L) (n : ℕ) → of (make l n) ≡ n) → ((r : R) → make (list r) (of r) ≡ r) →
    ((xs : List X) → onto put xs end ≡ all xs) → Listing X L R
listing put end all make list of listed typed whole ends = record {
  put = put;
  end = end;
  all = all;
  make = make;
  list = list;
  of = of;
  listed = listed;
  typed = typed;
  whole = whole;
  ends = ends;
}

abbrev pub link_lists : Listing Link Links Chained
link_lists =
    listing link_then no_link links (λ ls of. record { links = ls; of = of }) (λ c. c.links) (λ c. c.of) (λ ls of. refl) (λ ls of. refl) (λ c. refl) links_end

abbrev pub part_lists : Listing Part Parts Reached
part_lists =
    listing part_then no_part parts (λ ps of. record { parts = ps; of = of }) (λ r. r.parts) (λ r. r.of) (λ ps of. refl) (λ ps of. refl) (λ r. refl) parts_end

-- what a list comes to behind these items
abbrev pub behind_items : {X L R : Type 0} → Listing X L R → List X → Judged R → Judged R
behind_items w xs m = m >>= λ r. gives (w.make (onto w.put xs (w.list r)) (w.of r))

module _ {X L R : Type 0} (w : Listing X L R) where
  pub no_items : (m : Judged R) → behind_items w [] m ≡ m
  no_items (gives r) = ap gives (w.whole r)
  no_items (faults why line) = refl

  -- one item more
  pub item_more : (xs : List X) (x : X) (m : Judged R) →
      behind_items w xs (m >>= λ r. gives (w.make (w.put x (w.list r)) (w.of r))) ≡ behind_items w (xs ++ x ∷ []) m
  item_more xs x (gives r) =
      let l : L = w.put x (w.list r) in
      ap (λ l'. gives (w.make (onto w.put xs l') (w.of (w.make l (w.of r))))) (w.listed l (w.of r))
      ∙ (ap (λ n. gives (w.make (onto w.put xs l) n)) (w.typed l (w.of r))
      ∙ ap (λ l'. gives (w.make l' (w.of r))) (sym (onto_one_more w.put xs x (w.list r))))
  item_more xs x (faults why line) = refl

  pub items_ended : (xs : List X) (of : ℕ) → behind_items w xs (gives (w.make w.end of)) ≡ gives (w.make (w.all xs) of)
  items_ended xs of =
      ap (λ l. gives (w.make (onto w.put xs l) (w.of (w.make w.end of)))) (w.listed w.end of)
      ∙ (ap (λ n. gives (w.make (onto w.put xs w.end) n)) (w.typed w.end of) ∙ ap (λ l. gives (w.make l of)) (w.ends xs))

-- ---- arguments

abbrev pub argued : List Argument → Arguments → Judged Arguments
argued xs more = gives (onto argument_then xs more)

-- what the arguments of a call come to behind these
abbrev pub behind_arguments : List Argument → Judged Arguments → Judged Arguments
behind_arguments xs m = m >>= argued xs

pub no_arguments : (m : Judged Arguments) → behind_arguments [] m ≡ m
no_arguments m = bind_gives m

-- one argument more
pub argument_more : (xs : List Argument) (x : Argument) (m : Judged Arguments) →
    behind_arguments xs (m >>= λ ys. gives (argument_then x ys)) ≡ behind_arguments (xs ++ x ∷ []) m
argument_more xs x m =
    bind_bind m (λ ys. gives (argument_then x ys)) (argued xs)
    ∙ bind_same m (λ ys. argued xs (argument_then x ys)) (argued (xs ++ x ∷ []))
    (λ ys. ap (λ y. given y) (sym (onto_one_more argument_then xs x ys)))
  where
    given : Arguments → Judged Arguments
    given y = gives y

pub arguments_ended : (xs : List Argument) → behind_arguments xs (gives no_argument) ≡ gives (arguments xs)
arguments_ended xs = ap (λ y. given y) (arguments_end xs)
  where
    given : Arguments → Judged Arguments
    given y = gives y
