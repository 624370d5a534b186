-- The compilation of a file is a row of the table.
use Rattle.std.proofs.Common.{◌≡◌, inl, inr, ℕ, ◌+◌, ◌*◌, ◌<◌, ◌≤◌, Bool, true, false, List, [], ◌∷◌, ◌++◌, length, take, drop, Option, Some, None}
use Rattle.std.proofs.Common.{refl, sym, ap, subst, ◌∙◌, arith, take-add, take_all}
use Rattle.std.specs.Prelude.{if◌then◌else◌, nat_lt, Result, codes}
use Rattle.std.specs.Int.{div_ceil}
use Rattle.std.proofs.lemmas.Grind.{div_ceil_times}
use Rattle.edi_calls.specs.declared.ends.Outside.{Outside}
use Rattle.edi_calls.specs.State.{File, State, free, most_bytes}
use Rattle.edi_calls.specs.declared.kinds.FileKind.{FileKind}
use Rattle.edi_calls.specs.declared.kinds.FileKind.TheVariants as file_kind
use Rattle.edi_catalog.specs.Refusing.{no_room}
use Rattle.edi_catalog.specs.SlotsStored.{slots_stored}
use Rattle.edi_codefile.proofs.Files.{count_words, few_words, size_holds}
use Rattle.edi_compile.specs.Compiled.{IsCodeOf}
use Rattle.edi_compile.specs.Taken.{HasTaken}
use Rattle.edi_compile.specs.declared.intake.Intake.{Intake}
use Rattle.edi_target.specs.Check.{CodeParts, or_else}
use Rattle.edi_target.specs.File.{code_bytes, code_fault_of, header_fault, size_fault}
use Rattle.edi_target.specs.declared.code_fault.CodeFault.{CodeFault}
use Rattle.edi_texts.specs.Kinds.{kind_text}
use Rattle.edi_texts.specs.Texts.{IsRefused}
use Rattle.edi_texts.specs.declared.kind.RefusalKind.{RefusalKind}
use Rattle.edi_session.specs.declared.end.SessionEnd.{SessionEnd}
use Rattle.edi_session.specs.Session.{AfterLine, goes, CompilesFile, CompilesText, stores_code, says_no_memory}
use Rattle.edi_session.specs.Files.{stores}
use Rattle.edi_session.specs.Shell.{Shell, says, shown_by, state_in}
use Rattle.edi_session.specs.Texts.{about, on_line, with_number}
use Rattle.edi_session.proofs.Later.{says_on}
use Rattle.edi_shell_io.specs.calls.Standing.{StandsIn, Leads, HasRead}
use Rattle.edi_shell.specs.commands.Files.{IsOpened, WasRefused, RefusalBroke, refused, refused_kind, wrong}
use Rattle.edi_shell.proofs.commands.Opening.{some_same}
use Rattle.edi_shell.specs.commands.Rows.{IsLike, LineGoesOn, LineBreaks, LineDoes}
use Rattle.edi_shell.proofs.commands.Rows.{does_by, drawn_answered, leads_does, like_answered, like_says}
use Rattle.edi_shell.proofs.commands.Standing.{stands_later}

-- ---- pages

-- what was read of a page is the next part of the file
pub next_page : (intake : Intake) (file : Option File) (opened : File) (n i : ℕ) (into front : List ℕ) → file ≡ Some opened → front ≡ take n into
    → HasRead (Some n) file (λ bytes. take 512 (drop (512 * i) bytes)) into → HasTaken intake (take (512 * i) opened.bytes ++ front)
    → HasTaken intake (take (512 * (i + 1)) opened.bytes)
next_page intake file opened n i into front is part read taken =
    let page : take n into ≡ take 512 (drop (512 * i) opened.bytes) = subst (λ f. HasRead (Some n) f (λ bytes. take 512 (drop (512 * i) bytes)) into) is read in
    let more : 512 * i + 512 ≡ 512 * (i + 1) = omega arith in
    subst (λ b. HasTaken intake b)
    (ap (λ b. take (512 * i) opened.bytes ++ b) (part ∙ page) ∙ sym (take-add (512 * i) 512 opened.bytes) ∙ ap (λ k. take k opened.bytes) more) taken

pub no_page : (file : Option File) (opened : File) (part : List ℕ → List ℕ) (into : List ℕ) → file ≡ Some opened → HasRead None file part into → ⊥
no_page file opened part into is read = subst (λ f. HasRead None f part into) is read

-- so many pages have all bytes of a file
pub pages_hold : (bytes : List ℕ) (n pages : ℕ) → pages ≡ div_ceil n 512 → n ≡ length bytes → length bytes ≤ 512 * pages
pages_hold bytes n pages is long =
    let enough = (div_ceil_times n 512 (omega arith)).0 in
    subst (λ k. length bytes ≤ 512 * k) (sym is) (omega (arith, enough, long))

-- behind the last page
pub whole_file : (intake : Intake) (bytes : List ℕ) (pages i : ℕ) → i ≡ pages → length bytes ≤ 512 * pages → HasTaken intake (take (512 * i) bytes)
    → HasTaken intake bytes
whole_file intake bytes pages i end short taken =
    subst (λ b. HasTaken intake b) (ap (λ k. take (512 * k) bytes) end ∙ take_all (512 * pages) bytes short) taken

-- ---- the size of a code file

both_none : (a b : Option CodeFault) → or_else a b ≡ None → (a ≡ None) × (b ≡ None)
both_none None b e = (refl, e)
both_none (Some f) b e = absurd cc

sound_parts : (bytes : List ℕ) → code_fault_of bytes ≡ None → (header_fault bytes ≡ None) × (size_fault bytes ≡ None)
unfolding code_fault_of
sound_parts bytes e =
    let behind = both_none _ _ (both_none _ _ e).1 in
    (behind.0, (both_none _ _ behind.1).0)

-- a code file has fewer than 2^32 bytes
pub few_bytes : (bytes : List ℕ) → code_fault_of bytes ≡ None → length bytes < 4294967296
few_bytes bytes sound =
    let parts = sound_parts bytes sound in
    let size = size_holds bytes parts.1 in
    let count = count_words bytes parts.1 in
    let few = few_words bytes parts.0 parts.1 in
    omega (arith, size, count, few)

-- ---- refusals

like_kind : (w : Option (List ℕ)) (f : List ℕ) (s t : Shell) → refused_kind w f s ≡ Some t → IsLike s t × (t.drawn ≡ s.drawn)
like_kind None f s t e = absurd cc
like_kind (Some text) f s t e = subst (λ (u : Shell). IsLike s u × (u.drawn ≡ s.drawn)) (some_same e) (like_says (about text f) s, refl)

like_refused : (wanted : Option FileKind) (file : Option File) (f : List ℕ) (s t : Shell) → refused wanted file f s ≡ Some t → IsLike s t × (t.drawn ≡ s.drawn)
like_refused wanted None f s t e = subst (λ (u : Shell). IsLike s u × (u.drawn ≡ s.drawn)) (some_same e) (like_says (about (codes "no file") f) s, refl)
like_refused wanted (Some file) f s t e = like_kind (wrong wanted file.kind) f s t e

compile_kind : (f g : List ℕ) (file : File) (s t : Shell) (kind : FileKind) → refused_kind (wrong (Some file_kind.Text) kind) f s ≡ Some t
    → CompilesFile f g (Some (record file { kind = kind })) s (goes t)
compile_kind f g file s t file_kind.Text e = absurd cc
compile_kind f g file s t file_kind.Code e = ap goes (sym (some_same e))

pub compile_refused : (f g : List ℕ) (file : Option File) (s t : Shell) → refused (Some file_kind.Text) file f s ≡ Some t → CompilesFile f g file s (goes t)
compile_refused f g None s t e = ap goes (sym (some_same e))
compile_refused f g (Some file) s t e = compile_kind f g file s t file.kind e

opened_kind : (f g : List ℕ) (file : File) (s : Shell) (next : AfterLine) (kind : FileKind) → wrong (Some file_kind.Text) kind ≡ None
    → CompilesText file.bytes g s next → CompilesFile f g (Some (record file { kind = kind })) s next
opened_kind f g file s next file_kind.Text e row = row
opened_kind f g file s next file_kind.Code e row = absurd cc

pub compile_opened : (f g : List ℕ) (file : Option File) (opened : File) (s : Shell) (next : AfterLine) → IsOpened (Some file_kind.Text) file opened
    → CompilesText opened.bytes g s next → CompilesFile f g file s next
compile_opened f g file opened s next o row = subst (λ x. CompilesFile f g x s next) (sym o.is) (opened_kind f g opened s next opened.kind o.right row)

stored_code_by : (b : Bool) (g bytes : List ℕ) (s : Shell)
    → IsLike s (if b then says (with_number (codes "code too large") (length bytes)) s else stores g file_kind.Code bytes s)
stored_code_by true g bytes s = like_says (with_number (codes "code too large") (length bytes)) s
stored_code_by false g bytes s = like_answered (no_room g (length bytes) (free (state_in s)) (state_in s).slots) g g
    (slots_stored g file_kind.Code bytes (state_in s).slots) s

drawn_code_by : (b : Bool) (g bytes : List ℕ) (s : Shell)
    → (if b then says (with_number (codes "code too large") (length bytes)) s else stores g file_kind.Code bytes s).drawn ≡ s.drawn
drawn_code_by true g bytes s = refl
drawn_code_by false g bytes s = drawn_answered (no_room g (length bytes) (free (state_in s)) (state_in s).slots) g g
    (slots_stored g file_kind.Code bytes (state_in s).slots) s

pub like_code : (g bytes : List ℕ) (s : Shell) → IsLike s (stores_code g bytes s)
like_code g bytes s = stored_code_by (nat_lt most_bytes (length bytes)) g bytes s

pub drawn_code : (g bytes : List ℕ) (s : Shell) → (stores_code g bytes s).drawn ≡ s.drawn
drawn_code g bytes s = drawn_code_by (nat_lt most_bytes (length bytes)) g bytes s

-- ---- rows

module _ {C : Type 0} (at : C → State → ℕ → Type 0) (stands : C → Outside → State → Type 0) (g text : List ℕ) where
  pub compiled_no_memory : (s : Shell) (result : Result (Unit {0}) SessionEnd) (items : List ℕ) (c : C) → items ≡ codes "no memory" ++ 10 ∷ []
      → Leads at stands result (shown_by items s) c → LineDoes at stands (CompilesText text g) result s.drawn s c
  compiled_no_memory s result items c is l =
      leads_does at stands (CompilesText text g) s (says_no_memory s) result c (inr (inr refl)) (like_says (codes "no memory") s) refl
      (subst (λ b. Leads at stands result (shown_by b s) c) is l)

  pub compiled_refused : (s : Shell) (kind : RefusalKind) (n : ℕ) (result : Result (Unit {0}) SessionEnd) (items : List ℕ) (c : C) → IsRefused text kind n
      → items ≡ on_line n (kind_text kind) ++ 10 ∷ [] → Leads at stands result (shown_by items s) c
      → LineDoes at stands (CompilesText text g) result s.drawn s c
  compiled_refused s kind n result items c why is l =
      leads_does at stands (CompilesText text g) s (says (on_line n (kind_text kind)) s) result c (inl (kind, n, why, refl))
      (like_says (on_line n (kind_text kind)) s) refl
      (subst (λ b. Leads at stands result (shown_by b s) c) is l)

  pub compiled_stored : (s : Shell) (code : CodeParts) (bytes : List ℕ) (result : Result (Unit {0}) SessionEnd) (c : C) → IsCodeOf text code
      → bytes ≡ code_bytes code
      → Leads at stands result (stores_code g bytes s) c → LineDoes at stands (CompilesText text g) result s.drawn s c
  compiled_stored s code bytes result c own is l =
      leads_does at stands (CompilesText text g) s (stores_code g bytes s) result c (inr (inl (own.unit, own.unit_is, own.code_for, ap (λ b. goes (stores_code g b s)) (is ∙ ap code_bytes own.code_is))))
      (like_code g bytes s) (drawn_code g bytes s) l

  -- the drive failed in the midst of it
  pub compiling_broke : (s : Shell) (c : C) → StandsIn stands s c → LineBreaks at stands (CompilesText text g) s c
  compiling_broke s c st = record {
    next = goes (says_no_memory s);
    row = inr (inr refl);
    in_ = stands_later stands s (says_no_memory s) c (says_on (codes "no memory") s) st;
  }

module _ {C : Type 0} (at : C → State → ℕ → Type 0) (stands : C → Outside → State → Type 0) (f g : List ℕ) where
  pub compile_was_refused : (file : Option File) (s : Shell) (c : C) → WasRefused at stands (Some file_kind.Text) file f s c
      → LineGoesOn at stands (CompilesFile f g file) s s.drawn c
  compile_was_refused file s c r =
      let same = like_refused (Some file_kind.Text) file f s r.after r.is in
      record { after = r.after; row = compile_refused f g file s r.after r.is; like = same.0; draws = same.1; at_ = r.at_ }

  pub compile_refusal_broke : (file : Option File) (s : Shell) (c : C) → RefusalBroke at stands (Some file_kind.Text) file f s c
      → LineBreaks at stands (CompilesFile f g file) s c
  compile_refusal_broke file s c r = record { next = goes r.after; row = compile_refused f g file s r.after r.is; in_ = r.in_ }

  -- the file is a text, and its text does so
  pub compile_does : (file : Option File) (opened : File) (s : Shell) (result : Result (Unit {0}) SessionEnd) (c : C)
      → IsOpened (Some file_kind.Text) file opened
      → LineDoes at stands (CompilesText opened.bytes g) result s.drawn s c → LineDoes at stands (CompilesFile f g file) result s.drawn s c
  compile_does file opened s result c o =
      does_by at stands (CompilesText opened.bytes g) (CompilesFile f g file) s s.drawn result c (λ next row. compile_opened f g file opened s next o row)
