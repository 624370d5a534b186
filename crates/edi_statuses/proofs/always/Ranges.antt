-- What the words of a command give: the ranges of its numbers, and a title.
use Rattle.std.proofs.Common.{◌≡◌, ◌≤◌, ℕ, Bool, true, false, List, [], ◌∷◌, Option, Some, None, unwrap_or, option_map, refl, ap, subst}
use Rattle.std.specs.Prelude.{◌&&◌, codes, if◌then◌else◌, nat_le}
use Rattle.std.specs.Option.{option_and_then}
use Rattle.std.specs.Str.{bytes_eq}
use Rattle.std.proofs.lemmas.Bool.{and_parts, leb-true}
use Rattle.edi_calls.specs.State.{is_title}
use Rattle.edi_words.specs.Words as words
use Rattle.edi_words.specs.Words.{Account, Command, Given, Options, Text, bare_run, command_by, command_in, command_of, explored_file, file_run, get_file, given_of}
use Rattle.edi_words.specs.Words.{guided_run, has_no_exploring, has_no_account, in_range, named, named_more, named_plain, named_with, new_disk, number_in}
use Rattle.edi_words.specs.Words.{account_by, accounted, one_operand, only_file, only_files}
use Rattle.edi_words.specs.Words.{options_in, parts_of, put_file, sized_run, spelled, takes, two_operands, watched_run, with_options, with_title, first_of}
use Rattle.edi_statuses.specs.Always.{IsInRange, WordsGiveRanges}

-- ---- options that give something

map_some : {A B : Type 0} (f : A → B) (o : Option A) (b : B) → option_map f o ≡ Some b → (a : A) × (o ≡ Some a) × (f a ≡ b)
map_some f None b h = absurd (let no : None ≡ Some b = h in cc)
map_some f (Some a) b h = (a, refl, ap (λ x. unwrap_or x (f a)) h)

then_some : {A B : Type 0} (f : A → Option B) (o : Option A) (b : B) → option_and_then f o ≡ Some b → (a : A) × (o ≡ Some a) × (f a ≡ Some b)
then_some f None b h = absurd (let no : None ≡ Some b = h in cc)
then_some f (Some a) b h = (a, refl, h)

if_some : {A : Type 0} (t : Bool) (x : Option A) (a : A) → (if t then x else None) ≡ Some a → (t ≡ true) × (x ≡ Some a)
if_some true x a h = (refl, h)
if_some false x a h = absurd (let no : None ≡ Some a = h in cc)

-- ---- ranges

number_is : (least most : ℕ) (word : Text) (n : ℕ) → number_in least most word ≡ Some n → (least ≤ n) × (n ≤ most)
number_is least most word n h =
    let m = then_some (in_range least most) (spelled word) n h in
    let t = if_some (nat_le least m.0 && nat_le m.0 most) (Some m.0) n m.2 in
    let same : m.0 ≡ n = ap (λ x. unwrap_or x m.0) t.1 in
    let p = and_parts (nat_le least m.0) (nat_le m.0 most) t.0 in
    (subst (λ x. least ≤ x) same (leb-true least m.0 p.0), subst (λ x. x ≤ most) same (leb-true m.0 most p.1))

disk_is : (operands : List Text) (g : Given) (p : ℕ × Option Text) → new_disk operands g ≡ Some p → (64 ≤ p.0) × (p.0 ≤ 4096)
disk_is operands g p h =
    let number : Option ℕ = option_and_then (number_in 64 4096) (one_operand operands) in
    let t = if_some (takes 0 0 1 g) (option_map (λ (n : ℕ). (n, first_of g.old_disks)) number) p h in
    let n = map_some (λ (n : ℕ). (n, first_of g.old_disks)) number p t.1 in
    let word = then_some (number_in 64 4096) (one_operand operands) n.0 n.1 in
    subst (λ (q : ℕ × Option Text). (64 ≤ q.0) × (q.0 ≤ 4096)) n.2 (number_is 64 4096 word.0 n.0 word.2)

demo_is : (operands : List Text) (g : Given) (p : ℕ × Options) → sized_run operands g ≡ Some p → (1 ≤ p.0) × (p.0 ≤ 1000)
demo_is operands g p h =
    let number : Option ℕ = option_and_then (number_in 1 1000) (one_operand operands) in
    let t = if_some (takes 1 1 0 g) (option_and_then (with_options g) number) p h in
    let n = then_some (with_options g) number p t.1 in
    let o = map_some (λ (x : Options). (n.0, x)) (options_in g) p n.2 in
    let word = then_some (number_in 1 1000) (one_operand operands) n.0 n.1 in
    subst (λ (q : ℕ × Options). (1 ≤ q.0) × (q.0 ≤ 1000)) o.2 (number_is 1 1000 word.0 n.0 word.2)

title_is : (operands : List Text) (g : Given) (p : Text × Text) → put_file operands g ≡ Some p → is_title p.1 ≡ true
title_is operands g p h =
    let t = if_some (takes 0 0 0 g) (option_and_then (λ (q : Text × Text). with_title q.0 q.1) (two_operands operands)) p h in
    let q = then_some (λ (q : Text × Text). with_title q.0 q.1) (two_operands operands) p t.1 in
    let w = if_some (is_title q.0.1) (Some (q.0.0, q.0.1)) p q.2 in
    subst (λ (x : Text × Text). is_title x.1 ≡ true) (ap (λ x. unwrap_or x (q.0.0, q.0.1)) w.1) w.0

-- ---- the table of commands

module _ (c : Command) where
  chosen : (t : Bool) (x y : Option Command) → (x ≡ Some c → IsInRange c) → (y ≡ Some c → IsInRange c) → (if t then x else y) ≡ Some c → IsInRange c
  chosen true x y f g h = f h
  chosen false x y f g h = g h

  none_is : None ≡ Some c → IsInRange c
  none_is h = absurd (let no : None ≡ Some c = h in cc)

  -- of a command that is made of what was found
  made : {A : Type 0} (f : A → Command) (o : Option A) → ((a : A) → o ≡ Some a → IsInRange (f a)) → option_map f o ≡ Some c → IsInRange c
  made f o each h = let a = map_some f o c h in subst IsInRange a.2 (each a.0 a.1)

  more_is : (name : Text) (operands : List Text) (g : Given) → named_more name operands g ≡ Some c → IsInRange c
  more_is name operands g =
      chosen (bytes_eq name (codes "put")) _ _ (made (λ p. words.put p.0 p.1) (put_file operands g) (λ p e. title_is operands g p e))
      (chosen (bytes_eq name (codes "get")) _ _ (made (λ p. words.get p.1 p.0) (get_file operands g) (λ p e. tt))
      (chosen (bytes_eq name (codes "list")) _ _ (made words.list (only_file operands g) (λ p e. tt))
      (chosen (bytes_eq name (codes "demo")) _ _ (made (λ p. words.demo p.0 p.1) (sized_run operands g) (λ p e. demo_is operands g p e))
      (chosen (bytes_eq name (codes "check")) _ _ (made words.check (only_file operands g) (λ p e. tt))
      (chosen (bytes_eq name (codes "explain")) _ _ (made words.explain (only_file operands g) (λ p e. tt))
      (chosen (bytes_eq name (codes "walk")) _ _ (made (λ p. words.walk p.0.0 p.0.1 p.1) (guided_run operands g) (λ p e. tt))
      (chosen (bytes_eq name (codes "watch")) _ _ (made (λ p. words.watch p.0.0 p.0.1 p.0.2 p.1) (watched_run operands g) (λ p e. tt)) none_is)))))))

  plain_is : (name : Text) (operands : List Text) (g : Given) → named_plain name operands g ≡ Some c → IsInRange c
  plain_is name operands g =
      chosen (bytes_eq name (codes "run")) _ _ (made (λ p. words.run p.0 p.1) (file_run operands g) (λ p e. tt))
      (chosen (bytes_eq name (codes "replay")) _ _ (made (λ p. words.replay p.0.0 p.0.1 p.1) (guided_run operands g) (λ p e. tt))
      (chosen (bytes_eq name (codes "exec")) _ _ (made (λ p. words.exec p.0 p.1) (file_run operands g) (λ p e. tt))
      (chosen (bytes_eq name (codes "boot")) _ _ (made words.boot (bare_run operands g) (λ p e. tt))
      (chosen (bytes_eq name (codes "compile")) _ _ (made (λ p. words.compile p.0 p.1) (only_files operands g) (λ p e. tt))
      (chosen (bytes_eq name (codes "newdisk")) _ _ (made (λ p. words.newdisk p.0 p.1) (new_disk operands g) (λ p e. disk_is operands g p e))
      (more_is name operands g))))))

  named_is : (name : Text) (operands : List Text) (g : Given) → named name operands g ≡ Some c → IsInRange c
  named_is name operands g =
      chosen (bytes_eq name (codes "explore")) _ _ (made (λ p. words.explore p.0 p.1) (explored_file operands g) (λ p e. tt))
      (chosen (has_no_exploring g) _ _ (plain_is name operands g) none_is)

module _ (c : Command) where
  -- a command with an account has the number of the one without it, and no title
  accounted_is : (account : Account) (plain : Command) → IsInRange plain → accounted account plain ≡ Some c → IsInRange c
  accounted_is account (words.run file o) range h = subst IsInRange (ap (λ x. unwrap_or x (words.run_with file account o)) h) tt
  accounted_is account (words.exec file o) range h = subst IsInRange (ap (λ x. unwrap_or x (words.exec_with file account o)) h) tt
  accounted_is account (words.replay file choices turns) range h =
      let o : Options = record { turns = turns; choices = words.file choices; record_file = None } in
      subst IsInRange (ap (λ x. unwrap_or x (words.run_with file account o)) h) tt
  accounted_is account (words.demo n o) range h = subst IsInRange (ap (λ x. unwrap_or x (words.demo_with n account o)) h) range
  accounted_is account (words.boot o) range h = none_is c h
  accounted_is account (words.compile file other) range h = none_is c h
  accounted_is account (words.newdisk blocks old) range h = none_is c h
  accounted_is account (words.put file title) range h = none_is c h
  accounted_is account (words.get title file) range h = none_is c h
  accounted_is account (words.list file) range h = none_is c h
  accounted_is account (words.check file) range h = none_is c h
  accounted_is account (words.explain file) range h = none_is c h
  accounted_is account (words.walk file choices turns) range h = none_is c h
  accounted_is account (words.watch file stops log o) range h = none_is c h
  accounted_is account (words.explore file o) range h = none_is c h
  accounted_is account (words.run_with file other o) range h = none_is c h
  accounted_is account (words.exec_with file other o) range h = none_is c h
  accounted_is account (words.demo_with n other o) range h = none_is c h

  named_with_is : (name : Text) (operands : List Text) (g : Given)
      → option_and_then (λ account. named_with account name operands g) (account_by g.timelines g.dumps) ≡ Some c → IsInRange c
  named_with_is name operands g h =
      let account = then_some (λ account. named_with account name operands g) (account_by g.timelines g.dumps) c h in
      let plain = then_some (accounted account.0) (named name operands g) c account.2 in
      accounted_is account.0 plain.0 (named_is plain.0 name operands g plain.1) plain.2

  by_operands : (operands : List Text) (g : Given) → command_by operands g ≡ Some c → IsInRange c
  by_operands [] g h = none_is c h
  by_operands (name ∷ operands) g h = chosen c (has_no_account g) _ _ (named_is c name operands g) (named_with_is name operands g) h

pub words_give_ranges : WordsGiveRanges
words_give_ranges given c h =
    let parts = then_some (λ p. command_in (given_of p)) (parts_of given) c h in
    by_operands c (given_of parts.0).operands (given_of parts.0) parts.2
