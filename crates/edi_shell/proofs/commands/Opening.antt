-- A file that a command asks for: what is done where it is there, and where not.
use Rattle.std.proofs.Common.{◌≡◌, inl, inr, ℕ, true, List, [], ◌∷◌, ◌++◌, Option, Some, None, take, refl, sym, ap, subst, ◌∙◌}
use Rattle.std.specs.Prelude.{if◌then◌else◌, codes, Result, Ok, Err}
use Rattle.edi_calls.specs.declared.ends.Outside.{Outside}
use Rattle.edi_calls.specs.declared.kinds.FileKind.{FileKind}
use Rattle.edi_calls.specs.declared.kinds.FileKind.TheVariants as file_kind
use Rattle.edi_calls.specs.Calls.{is_text}
use Rattle.std.specs.Option.{option_map}
use Rattle.edi_calls.specs.State.{File, State}
use Rattle.edi_catalog.specs.declared.entry.Entry.{Entry}
use Rattle.edi_catalog.specs.InSlots.{entry_told}
use Rattle.edi_session.specs.declared.end.SessionEnd.{SessionEnd}
use Rattle.edi_session.specs.Files.{with_file, with_text}
use Rattle.edi_session.specs.Shell.{Shell, says, shown_by}
use Rattle.edi_session.specs.Texts.{about}
use Rattle.edi_session.proofs.Later.{Later}
use Rattle.edi_shell_io.specs.calls.Standing.{At, StandsIn, Leads}
use Rattle.edi_shell.specs.commands.Files.{wrong, refused, refused_kind, IsOpened, WasRefused, Reads}
use Rattle.edi_shell.proofs.commands.Standing.{stands_later}

pub some_same : {A : Type 0} {x y : A} → Some x ≡ Some y → x ≡ y
some_same {A} {x} {y} e = ap (λ o. given o) e where
  given : Option A → A
  given None = x
  given (Some z) = z

-- ---- a text

text_kind : (f : List ℕ) (act : List ℕ → Shell → Shell) (file : File) (s t : Shell) (kind : FileKind) → refused_kind (wrong (Some file_kind.Text) kind) f s
    ≡ Some t
    → (if is_text kind then act file.bytes s else says (about (codes "not text") f) s) ≡ t
text_kind f act file s t file_kind.Text e = absurd cc
text_kind f act file s t file_kind.Code e = some_same e

pub text_refused : (f : List ℕ) (act : List ℕ → Shell → Shell) (file : Option File) (s t : Shell) → refused (Some file_kind.Text) file f s ≡ Some t
    → with_file file f (with_text f act) s ≡ t
text_refused f act None s t e = some_same e
text_refused f act (Some file) s t e = text_kind f act file s t file.kind e

right_text : (kind : FileKind) → wrong (Some file_kind.Text) kind ≡ None → is_text kind ≡ true
right_text file_kind.Text e = refl
right_text file_kind.Code e = absurd cc

pub text_opened : (f : List ℕ) (act : List ℕ → Shell → Shell) (file : Option File) (opened : File) (s : Shell) → IsOpened (Some file_kind.Text) file opened
    → with_file file f (with_text f act) s ≡ act opened.bytes s
text_opened f act file opened s o =
    ap (λ x. with_file x f (with_text f act) s) o.is
    ∙ ap (λ b. if b then act opened.bytes s else says (about (codes "not text") f) s) (right_text opened.kind o.right)

-- ---- any file

pub any_refused : (f : List ℕ) (act : File → Shell → Shell) (file : Option File) (s t : Shell) → refused None file f s ≡ Some t → with_file file f act s ≡ t
any_refused f act None s t e = some_same e
any_refused f act (Some file) s t e = absurd cc

pub any_opened : (f : List ℕ) (act : File → Shell → Shell) (file : Option File) (opened : File) (s : Shell) → IsOpened None file opened
    → with_file file f act s ≡ act opened s
any_opened f act file opened s o = ap (λ x. with_file x f act s) o.is

-- ---- where the object stands then

module _ {C : Type 0} (at : C → State → ℕ → Type 0) (stands : C → Outside → State → Type 0) where
  pub text_was_refused : (f : List ℕ) (act : List ℕ → Shell → Shell) (file : Option File) (s : Shell) (c : C) → WasRefused at stands (Some file_kind.Text)
      file f s c
      → At at c (with_file file f (with_text f act) s)
  text_was_refused f act file s c r = subst (λ t. At at c t) (sym (text_refused f act file s r.after r.is)) r.at_

  pub any_was_refused : (f : List ℕ) (act : File → Shell → Shell) (file : Option File) (s : Shell) (c : C) → WasRefused at stands None file f s c
      → At at c (with_file file f act s)
  any_was_refused f act file s c r = subst (λ t. At at c t) (sym (any_refused f act file s r.after r.is)) r.at_

  pub text_reading_broke : (f into : List ℕ) (act : List ℕ → Shell → Shell) (file : Option File) (s : Shell) (c : C) (e : SessionEnd)
      → ((bytes : List ℕ) → Later s (act bytes s)) → Reads at stands (Err e) (Some file_kind.Text) file f into s c
      → StandsIn stands (with_file file f (with_text f act) s) c
  text_reading_broke f into act file s c e on (inl r) = subst (λ t. StandsIn stands t c) (sym (text_refused f act file s r.after r.is)) r.in_
  text_reading_broke f into act file s c e on (inr r) =
      subst (λ t. StandsIn stands t c) (sym (text_opened f act file r.0 s r.1)) (stands_later stands s (act r.0.bytes s) c (on r.0.bytes) r.2)

  pub any_reading_broke : (f into : List ℕ) (act : File → Shell → Shell) (file : Option File) (s : Shell) (c : C) (e : SessionEnd)
      → ((file : File) → Later s (act file s)) → Reads at stands (Err e) None file f into s c → StandsIn stands (with_file file f act s) c
  any_reading_broke f into act file s c e on (inl r) = subst (λ t. StandsIn stands t c) (sym (any_refused f act file s r.after r.is)) r.in_
  any_reading_broke f into act file s c e on (inr r) =
      subst (λ t. StandsIn stands t c) (sym (any_opened f act file r.0 s r.1)) (stands_later stands s (act r.0 s) c (on r.0) r.2)

-- ---- the refusals that were shown

no_file : (wanted : Option FileKind) (file : Option File) (f : List ℕ) (s : Shell) → None ≡ option_map entry_told file
    → refused wanted file f s ≡ Some (says (about (codes "no file") f) s)
no_file wanted None f s e = refl
no_file wanted (Some file) f s e = absurd cc

wrong_file : (wanted : Option FileKind) (file : Option File) (entry : Entry) (f text : List ℕ) (s : Shell) → Some entry ≡ option_map entry_told file
    → wrong wanted entry.kind ≡ Some text → refused wanted file f s ≡ Some (says (about text f) s)
wrong_file wanted None entry f text s e w = absurd cc
wrong_file wanted (Some file) entry f text s e w =
    ap (λ k. refused_kind k f s) (ap (λ (x : Entry). wrong wanted x.kind) (sym (some_same e)) ∙ w)

module _ {C : Type 0} (at : C → State → ℕ → Type 0) (stands : C → Outside → State → Type 0) where
  pub no_file_at : (wanted : Option FileKind) (file : Option File) (f items : List ℕ) (s : Shell) (c : C) → None ≡ option_map entry_told file
      → items ≡ about (codes "no file") f ++ 10 ∷ [] → At at c (shown_by items s) → WasRefused at stands wanted file f s c
  no_file_at wanted file f items s c e is a = record {
    after = says (about (codes "no file") f) s;
    is = no_file wanted file f s e;
    at_ = subst (λ b. At at c (shown_by b s)) is a;
  }

  pub wrong_file_at : (wanted : Option FileKind) (file : Option File) (entry : Entry) (f text items : List ℕ) (s : Shell) (c : C)
      → Some entry ≡ option_map entry_told file
      → wrong wanted entry.kind ≡ Some text → items ≡ about text f ++ 10 ∷ [] → At at c (shown_by items s) → WasRefused at stands wanted file f s c
  wrong_file_at wanted file entry f text items s c e w is a = record {
    after = says (about text f) s;
    is = wrong_file wanted file entry f text s e w;
    at_ = subst (λ b. At at c (shown_by b s)) is a;
  }

-- ---- what is done with bytes that were read

module _ {C : Type 0} (at : C → State → ℕ → Type 0) (stands : C → Outside → State → Type 0) where
  -- `read` is what was read, and `front` the part of the room that was used
  pub text_leads : (f into front : List ℕ) (act : List ℕ → Shell → Shell) (file : Option File) (read : FileKind × ℕ) (s : Shell) (c d : C)
      (result : Result (Unit {0}) SessionEnd)
      → front ≡ take read.1 into → Reads at stands (Ok (Some read)) (Some file_kind.Text) file f into s c → Leads at stands result (act front s) d
      → Leads at stands result (with_file file f (with_text f act) s) d
  text_leads f into front act file read s c d result part r l =
      subst (λ t. Leads at stands result t d) (ap (λ b. act b s) (part ∙ r.3) ∙ sym (text_opened f act file r.0 s r.1)) l

  pub text_breaks : (f into front : List ℕ) (act : List ℕ → Shell → Shell) (file : Option File) (read : FileKind × ℕ) (s t : Shell) (c d : C)
      → front ≡ take read.1 into → Reads at stands (Ok (Some read)) (Some file_kind.Text) file f into s c → Later t (act front s) → StandsIn stands t d
      → StandsIn stands (with_file file f (with_text f act) s) d
  text_breaks f into front act file read s t c d part r on st =
      subst (λ u. StandsIn stands u d) (ap (λ b. act b s) (part ∙ r.3) ∙ sym (text_opened f act file r.0 s r.1)) (stands_later stands t (act front s) d on st)

  pub file_leads : (f into front : List ℕ) (act : FileKind → List ℕ → Shell → Shell) (file : Option File) (read : FileKind × ℕ) (s : Shell) (c d : C)
      (result : Result (Unit {0}) SessionEnd)
      → front ≡ take read.1 into → Reads at stands (Ok (Some read)) None file f into s c → Leads at stands result (act read.0 front s) d
      → Leads at stands result (with_file file f (λ file s. act file.kind file.bytes s) s) d
  file_leads f into front act file read s c d result part r l =
      subst (λ t. Leads at stands result t d)
      (ap (λ k. act k front s) r.2 ∙ ap (λ b. act r.0.kind b s) (part ∙ r.3) ∙ sym (any_opened f (λ file s. act file.kind file.bytes s) file r.0 s r.1)) l
